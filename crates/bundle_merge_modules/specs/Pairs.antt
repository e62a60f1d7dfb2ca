-- Aliases as pairs of names: what is an alias, and of what.
use Rattle.std.specs.Prelude.{◌≡◌, ◌≢◌, ℕ, ◌<◌, List, Option, Some, None, map, slice_get, slice_index, ◌⊎◌}
use Rattle.std.specs.BTreeMap.{BTreeMap, get}
use Rattle.std.specs.Map.{lookup}
use Rattle.bundle_rules.specs.Aliases.{ChainEnd}
use Rattle.bundle_rules.specs.Idents.{Ident}
use Rattle.bundle_rules.specs.Rebuilds.{Renaming, change_by, change_to, ident_eq}
use Rattle.bundle_marks.specs.Idents.{ident_named}
use Rattle.bundle_tree.specs.IdName.{IdName, name_cmp}

-- what is an alias, and of what
abbrev pub AliasPair : Type 0
AliasPair = IdName × IdName

-- one of the pairs makes a an alias of b
abbrev pub IsPair : List AliasPair → Ident → Ident → Type 0
IsPair pairs a b =
    (i : ℕ) × (pair : AliasPair) × (slice_get pairs i ≡ Some pair) × (ident_named pair.0 ≡ a)
    × (ident_named pair.1 ≡ b)

-- none is an alias of two
abbrev pub AreOnceAliased : List AliasPair → Type 0
AreOnceAliased pairs = (a b c : Ident) → IsPair pairs a b → IsPair pairs a c → b ≡ c

-- each identifier becomes the end of its chain
abbrev pub LeadsToEnds : (Ident → Ident → Type 0) → Renaming → Type 0
LeadsToEnds Alias renaming =
    (ident : Ident) →
    (end : Ident) × ChainEnd Alias ident end × (change_by renaming ident ≡ change_to ident end)

-- the number of a pair by what is an alias there, of the first so many pairs
pub record AreAliasNumbers (pairs : List AliasPair) (count : ℕ)
    (numbers : BTreeMap IdName ℕ) : Type 0 where
  pub found : (name : IdName) (i : ℕ) →
      get name_cmp numbers name ≡ Some i →
      (pair : AliasPair) × (slice_get pairs i ≡ Some pair) × (pair.0 ≡ name)
  pub none : (name : IdName) (i : ℕ) (pair : AliasPair) →
      get name_cmp numbers name ≡ None →
      i < count →
      slice_get pairs i ≡ Some pair →
      pair.0 ≢ name

-- which pair each leads to
abbrev pub next_by : BTreeMap IdName ℕ → List AliasPair → List (Option ℕ)
next_by numbers pairs = map (λ pair. get name_cmp numbers pair.1) pairs

-- what a renaming says of an identifier that is an alias of one of the first so many pairs, and of
-- any other
pub record Stepped
    (pairs : List AliasPair) (ends : List ℕ) (renaming : Renaming) (ident : Ident) : Type 0 where
  pub i : ℕ
  pub from : AliasPair
  pub to : AliasPair
  pub from_is : slice_get pairs i ≡ Some from
  pub to_is : slice_get pairs (slice_index ends i) ≡ Some to
  pub named : ident_named from.0 ≡ ident
  pub said : lookup (ident_eq ident) renaming ≡ Some (change_to ident (ident_named to.1))

pub record IsAliasKept (pairs : List AliasPair) (count : ℕ) (renaming : Renaming)
    (ident : Ident) : Type 0 where
  pub said : lookup (ident_eq ident) renaming ≡ None
  pub none : (i : ℕ) (pair : AliasPair) →
      i < count →
      slice_get pairs i ≡ Some pair →
      ident_named pair.0 ≢ ident

abbrev pub AreRenamingSteps : List AliasPair → List ℕ → ℕ → Renaming → Type 0
AreRenamingSteps pairs ends count renaming =
    (ident : Ident) → Stepped pairs ends renaming ident ⊎ IsAliasKept pairs count renaming ident
