-- What is found to be meant, in the words of the definitions.
use Rattle.std.specs.Prelude.{◌≡◌, ◌↔◌, ℕ, ◌<◌, List, Option, Some, None, Contains, map, take, drop, slice_get}
use Rattle.std.specs.Borrow.{Bor}
use Rattle.indexmap.specs.IndexSet.{IndexSet}
use Rattle.bundle_rules.specs.Nodes.{Text}
use Rattle.bundle_rules.specs.Entries.{ImportEntry, Named}
use Rattle.bundle_rules.specs.Program.{Program, tree_of}
use Rattle.bundle_rules.specs.Linking as l
use Rattle.bundle_rules.specs.Linking.{Namespace, IsModule, Linked, StandsFor, Takes}
use Rattle.bundle_rules.specs.Meaning.{Of, IsMeant}
use Rattle.bundle_link_tables.specs.declared.table.MemberRead.{MemberRead}
use Rattle.bundle_link_tables.specs.declared.table.Use.{Use}
use Rattle.bundle_link_index.specs.Given.{IsIn}
use Rattle.bundle_link_index.specs.declared.target.TargetRef.{TargetRef}
use Rattle.bundle_link_index.specs.Says.{target_of}
use Rattle.bundle_link_targets.specs.declared.target.Meaning.{Meaning}
use Rattle.bundle_link_tables.specs.Used.{uses_of}
use Rattle.bundle_link_targets.specs.Meant.{AnyMeans, IsShared, IsTargetTaken, LinksTo, WordsMean}

-- targets, as they are kept
abbrev pub targets_in : {S : Type 0} → IndexSet TargetRef S → List l.Target
targets_in set = map target_of set.keys

-- the target of a pair
abbrev pub target_in : (Bor Text × TargetRef) → l.Target
target_in pair = target_of pair.1

-- the reads around a use
abbrev pub reads_by : List MemberRead → Use → List MemberRead
reads_by reads its = take its.count (drop its.first_read reads)

-- what a read of a name of a target means: what a name of a namespace is linked to, or nothing by
-- itself
abbrev pub IsReadTarget : Program → l.Target → Text → Option l.Target → Type 0
IsReadTarget p t x None = (d : ℕ) (u : l.Target) → t ≡ Namespace d → Linked p d x u → ⊥
IsReadTarget p t x (Some u) = (d : ℕ) × (t ≡ Namespace d) × Linked p d x u

-- what an import stands for: what a name of an ES module is linked to, or just what is taken
pub data Imports (p : Program) (m : ℕ) (entry : ImportEntry) : l.Target → Type 0 where
  by_name : {d : ℕ} {y : Text} {t : l.Target} →
      entry.taken ≡ Named y →
      IsModule p m entry.specifier d →
      Linked p d y t →
      Imports p m entry t
  by_taking : {t : l.Target} → Takes p m entry.specifier entry.taken t → Imports p m entry t

-- what is found of an import: the target for which it stands, or that it stands for none
abbrev pub IsImported : Program → ℕ → ImportEntry → Option l.Target → Type 0
IsImported p m entry None = (t : l.Target) → Imports p m entry t → ⊥
IsImported p m entry (Some t) = Imports p m entry t

-- what is found of a name in m with reads of these words around it: what it means, or that it
-- stands for nothing
abbrev pub IsMeaning : Program → ℕ → Text → List Text → Option Meaning → Type 0
IsMeaning p m x words None = (t : l.Target) → StandsFor p m x t → ⊥
IsMeaning p m x words (Some meaning) =
    WordsMean p m x words meaning.steps (target_of meaning.target)

-- the target that is meant, if one is
abbrev pub MeansSome : Option Meaning → l.Target → Type 0
MeansSome None t = ⊥
MeansSome (Some meaning) t = t ≡ target_of meaning.target

-- some use in one of these modules means the target
abbrev pub UsedIn : Program → List ℕ → l.Target → Type 0
UsedIn p list t = (m : ℕ) × Contains list m × AnyMeans p m (uses_of (tree_of p m)) t

-- the target is a namespace, a name of which is linked to the other
pub record IsNameOf (p : Program) (t u : l.Target) : Type 0 where
  pub d : ℕ
  pub is : t ≡ Namespace d
  pub links : LinksTo p d u

-- a target is one of these, or a name of a namespace that is so is linked to it
pub data WithinTargets (p : Program) (targets : List l.Target) : l.Target → Type 0 where
  itself : {t : l.Target} → IsIn targets t → WithinTargets p targets t
  by_links : {t u : l.Target} → WithinTargets p targets t → IsNameOf p t u →
      WithinTargets p targets u

-- so many of the targets that were met are done
pub record Meets (p : Program) (old new : List l.Target) (done : ℕ) : Type 0 where
  pub kept : (t : l.Target) → IsIn old t → IsIn new t
  pub past : (i : ℕ) (t u : l.Target) →
      i < done →
      slice_get new i ≡ Some t →
      IsNameOf p t u →
      IsIn new u
  pub within : (t : l.Target) → IsIn new t → WithinTargets p old t

-- all that is within some targets is met, and no more
pub record Closes (p : Program) (old new : List l.Target) : Type 0 where
  pub kept : (t : l.Target) → IsIn old t → IsIn new t
  pub closed : (t u : l.Target) → IsIn new t → IsNameOf p t u → IsIn new u
  pub within : (t : l.Target) → IsIn new t → WithinTargets p old t

-- the least set is held
abbrev pub HoldsTaken : Program → List l.Target → Type 0
HoldsTaken p targets = (t : l.Target) → IsIn targets t ↔ IsTargetTaken p t

-- all that is meant and no declaration is held, and what is held is meant
pub record HoldsMeant (p : Program) (targets : List l.Target) : Type 0 where
  pub all : (t : l.Target) → IsShared t → IsMeant p (Of t) → IsIn targets t
  pub right : (t : l.Target) → IsIn targets t → IsMeant p (Of t)
