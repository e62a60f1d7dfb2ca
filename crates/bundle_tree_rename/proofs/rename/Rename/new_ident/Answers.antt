-- The copy is an identifier of the same symbol and context.
use Rattle.bundle_tree_rename.proofs.Naming.{takes_alike}
use Rattle.bundle_tree_rename.proofs.rename.Rename.new_ident.Goals as goal

pub returns : goal.returns
returns c = takes_alike c.in_ok-made.ensures.sym c.in_ok-made.ensures.ctxt c.in_ok-ident.ensures
