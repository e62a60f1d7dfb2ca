-- What contexts hold.
use Rattle.std.specs.Prelude.{◌≡◌, ◌≤◌, ℕ}
use Rattle.bundle_tree_names.specs.FileName.{Name}

-- contexts as plain data: whose they are, that of the names of the top, and the next number
pub record HeldContexts : Type 0 where
  pub file : Name
  pub local : ℕ
  pub next : ℕ

-- numbers were given: the next one is at least what it was, and nothing else changed
pub record HasGiven (before after : HeldContexts) : Type 0 where
  pub file : after.file ≡ before.file
  pub local : after.local ≡ before.local
  pub next : before.next ≤ after.next
