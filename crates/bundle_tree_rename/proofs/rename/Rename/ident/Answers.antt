-- The next name is taken, if one is left.
use Rattle.bundle_tree_rename.proofs.Naming.{takes_name, takes_none}
use Rattle.bundle_tree_rename.proofs.rename.Rename.ident.Goals as goal

pub returns-in-Some : goal.returns-in-Some
returns-in-Some c = takes_name _ _ _ _ c.in-Some.name c.call.result c.in-Some.ensures.name c.in-Some.ensures.rest c.call.ensures.sym c.call.ensures.ctxt

pub returns-in-None : goal.returns-in-None
returns-in-None c = takes_none c.in-None.ensures.name c.in-None.ensures.rest
