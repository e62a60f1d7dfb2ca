-- An identifier, where one stands.
use Rattle.bundle_tree_rename.proofs.Lists.{if_ok}
use Rattle.bundle_tree_rename.proofs.Naming.{option_ident-Some, option_ident-None}
use Rattle.bundle_tree_rename.proofs.rename.Rename.option_ident.Goals as goal

pub returns-in-Some : goal.returns-in-Some
returns-in-Some c = rw c.in-Some.is (if_ok c.ident.result option_ident-Some (rw c.in-Some.ident-is at c.ident.ensures))

pub returns-in-None : goal.returns-in-None
returns-in-None c = rw c.in-None.is option_ident-None
