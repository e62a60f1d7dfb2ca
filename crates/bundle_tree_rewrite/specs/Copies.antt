-- Copies of parts of a tree.
use Rattle.std.specs.Prelude.{◌≡◌, ℕ, true, List}
use Rattle.bundle_syntax.specs.declared.piece.Role.{Role}
use Rattle.bundle_syntax.specs.Item.{Item}
use Rattle.bundle_rules.specs.Rebuilds.{IsCopy}
use Rattle.bundle_tree_places.specs.Edits.{is_occurrence}

-- a copy of a part has the same list, in whatever field it stands
abbrev pub IsCopyBy : {A : Type 0} → (ℕ → A → List Item) → A → A → Type 0
IsCopyBy items old new = (field : ℕ) → IsCopy (items field old) (items field new)

-- the same of a pattern, whose names bind or refer
abbrev pub IsPatternCopyBy : {A : Type 0} → (Role → ℕ → A → List Item) → A → A → Type 0
IsPatternCopyBy items old new =
    (role : Role) → is_occurrence role ≡ true → IsCopyBy (items role) old new

-- the same of a name, in whatever role
abbrev pub IsNameCopyBy : {A : Type 0} → (Role → ℕ → A → List Item) → A → A → Type 0
IsNameCopyBy items old new = (role : Role) → IsCopyBy (items role) old new
