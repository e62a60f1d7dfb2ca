-- The key has the text.
use Rattle.bundle_tree_rename.proofs.Spelling.{key_so}
use Rattle.bundle_tree_rename.proofs.rename.Rename.plain_key.Goals as goal

pub returns : goal.returns
returns c = key_so (record { sym = c.in_ok-sym.sym }) c.in_ok-sym.ensures.ok
