-- The names that a module links.
use Rattle.std.specs.Prelude.{◌≡◌, ◌≢◌, ◌⊎◌, ◌↔◌, ℕ, true, Bool, List, [], ◌∷◌, ◌++◌, Option, Some, None, Contains, map, slice_get}
use Rattle.std.specs.Borrow.{Bor}
use Rattle.indexmap.specs.IndexSet.{IndexSet}
use Rattle.bundle_rules.specs.Nodes.{Text}
use Rattle.bundle_rules.specs.Statements.{default_name}
use Rattle.bundle_rules.specs.Program.{Program}
use Rattle.bundle_rules.specs.Linking as l
use Rattle.bundle_rules.specs.Linking.{Linked}
use Rattle.bundle_link_tables.specs.declared.table.Export.{Export}
use Rattle.bundle_link_index.specs.declared.target.TargetRef.{TargetRef}
use Rattle.bundle_link_index.specs.declared.target.LinkModule.{LinkModule}
use Rattle.bundle_link_index.specs.declared.kinds.Kinds.{Kinds}
use Rattle.bundle_link_index.specs.Says.{target_of}

-- a name with its target
abbrev pub TargetPair : Type 0
TargetPair = Text × l.Target

abbrev pub target_pair : (Bor Text × TargetRef) → TargetPair
target_pair pair = (pair.0.now, target_of pair.1)

-- what a name is linked to
abbrev pub IsLinkedTo : Program → ℕ → Text → Option l.Target → Type 0
IsLinkedTo p m x None = (t : l.Target) → Linked p m x t → ⊥
IsLinkedTo p m x (Some t) = Linked p m x t

-- a name is noted with its target, if it has one
abbrev pub NotesTarget : List TargetPair → Text → Option l.Target → List TargetPair → Type 0
NotesTarget old x None new = new ≡ old
NotesTarget old x (Some t) new = new ≡ old ++ (x, t) ∷ []

-- those of these names that are linked are there with their targets, and no others
pub record LinksAmong (p : Program) (m : ℕ) (names : List Text)
    (pairs : List TargetPair) : Type 0 where
  pub there : (x : Text) (t : l.Target) → Contains names x → Linked p m x t → Contains pairs (x, t)
  pub right : (x : Text) (t : l.Target) → Contains pairs (x, t) → Linked p m x t

-- all names are there that the module links
abbrev pub HasNamesOf : Program → ℕ → List Text → Type 0
HasNamesOf p m names = (x : Text) (t : l.Target) → Linked p m x t → Contains names x

-- the names that a module links, with their targets
abbrev pub AreLinkedOf : Program → ℕ → List TargetPair → Type 0
AreLinkedOf p m pairs = (x : Text) (t : l.Target) → Contains pairs (x, t) ↔ Linked p m x t

-- texts, as they are kept
abbrev pub texts_in : {S : Type 0} → IndexSet (Bor Text) S → List Text
texts_in set = map (λ k. k.now) set.keys

-- these are there now, and so are those that were
pub record GainsNames (old : List Text) (Those : Text → Type 0) (new : List Text) : Type 0 where
  pub kept : (x : Text) → Contains old x → Contains new x
  pub there : (x : Text) → Those x → Contains new x

-- one of these exports has the name, which is not `default` unless they are the module's own
abbrev pub IsNamedBy : List Export → Bool → Text → Type 0
IsNamedBy exports own x =
    Contains (map (λ export. export.name.now) exports) x × ((own ≡ true) ⊎ (x ≢ default_name))

-- the same of a module, by its number
abbrev pub IsNameOfModule : Option LinkModule → Bool → Text → Type 0
IsNameOfModule None own x = ⊥
IsNameOfModule (Some its) own x = IsNamedBy its.tables.now.exports.items own x

abbrev pub IsNameIn : Kinds → ℕ → Bool → Text → Type 0
IsNameIn kinds m own x = IsNameOfModule (slice_get kinds.modules.now m) own x
