-- A part of a tree whose identifiers were changed where they stand, by its list.
use Rattle.std.specs.Prelude.{◌≡◌, ℕ, true, List, [], ◌∷◌, drop, string_bytes}
use Rattle.bundle_syntax.specs.declared.ident.Ident as v_ident
use Rattle.bundle_syntax.specs.declared.piece.Role.{Role}
use Rattle.bundle_syntax.specs.Item.{Item}
use Rattle.bundle_tree_listed.specs.Tree.{ident_items}
use Rattle.bundle_tree_places.specs.Edits.{Around, Anywhere, is_occurrence, renamed}
use Rattle.bundle_tree_rename.specs.Naming.{Naming, next}
use Rattle.bundle_tree_rename.specs.Renames.{Renames}

-- with these names a part of the tree becomes another, in whatever field it stands; a record, so
-- that its arguments are found
pub record Renamed
    (around : Around) {A : Type 0} (items : ℕ → A → List Item) (names : List Naming) (old new : A)
    (rest : List Naming) : Type 0 where
  pub in_field : (field : ℕ) → Renames around names (items field old) (items field new) rest

-- the same of a pattern, whose names bind or refer
abbrev pub RenamedPattern :
    {A : Type 0} → (Role → ℕ → A → List Item) → List Naming → A → A → List Naming → Type 0
RenamedPattern items names old new rest =
    (role : Role) → is_occurrence role ≡ true → Renamed Anywhere (items role) names old new rest

-- an identifier that gets the next name
pub record Takes (names : List Naming) (old new : v_ident.Ident) (rest : List Naming) : Type 0 where
  pub renamed_is : (field : ℕ) (role : Role) →
      ident_items role field new
      ≡ renamed (next names (string_bytes old.sym) old.ctxt) field (string_bytes old.sym) old.ctxt
      role ∷ []
  pub rest_is : rest ≡ drop 1 names
