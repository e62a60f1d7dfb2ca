-- The open nodes tell where a place stands.
use Rattle.std.proofs.Common.{map, ◌∙◌}
use Rattle.std.proofs.lemmas.Result.{IfOk-weaker}
use Rattle.bundle_syntax.specs.Item.{item_of}
use Rattle.bundle_tree_places.proofs.AwaitsLemmas.{awaits_in-tree}
use Rattle.bundle_tree_places.proofs.awaits.awaits_outside.Goals as goal

pub returns : goal.returns
returns c = IfOk-weaker c.has_await.result _ _ (λ awaits is. is ∙ awaits_in-tree (map item_of c.args.pieces.now)) c.has_await.ensures
