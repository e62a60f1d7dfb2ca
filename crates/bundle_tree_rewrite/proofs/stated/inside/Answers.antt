-- All but the first piece and the last.
use Rattle.bundle_tree_rewrite.proofs.Stating.{inside_so}
use Rattle.bundle_tree_rewrite.proofs.stated.inside.Goals as goal

pub returns-in-len2-up : goal.returns-in-len2-up
returns-in-len2-up c = inside_so c.args.pieces.now
