-- What linking hands to merging, in the words of the definitions.
use Rattle.std.specs.Prelude.{◌≡◌, ◌⊎◌, ℕ, Bool, List, Option, Some, filter, filter_map, length, map, slice_get}
use Rattle.std.specs.Global.{Global}
use Rattle.std.specs.Borrow.{Bor}
use Rattle.std.specs.List.{All, AllZip}
use Rattle.std.specs.declared.vec.Vec.{Vec}
use Rattle.bundle_rules.specs.Nodes.{Text, numbers_once}
use Rattle.bundle_rules.specs.Bundle.{AreLinked, externals}
use Rattle.bundle_rules.specs.Program.{Program, tree_of, resolves, IsReached}
use Rattle.bundle_rules.specs.Entries.{declared_requests}
use Rattle.bundle_rules.specs.Linking as l
use Rattle.bundle_rules.specs.Linking.{Namespace}
use Rattle.bundle_rules.specs.Tables.{TellsCommonJs}
use Rattle.bundle_rules.specs.Meaning.{Of, IsMeant}
use Rattle.bundle_link_tables.specs.Used.{UseEntry, uses_of}
use Rattle.bundle_link_index.specs.declared.target.TargetRef.{TargetRef}
use Rattle.bundle_link_targets.specs.declared.target.External.{External}
use Rattle.bundle_link_targets.specs.declared.target.Loaded.{Loaded}
use Rattle.bundle_link_targets.specs.declared.target.Meaning.{Meaning}
use Rattle.bundle_link_targets.specs.Meant.{AreModules}
use Rattle.bundle_link_targets.specs.Taken.{AreTaken, specifier_of}
use Rattle.bundle_link_targets.specs.Found.{IsMeaning}
use Rattle.bundle_link_targets.specs.Lists.{list_in}
use Rattle.bundle_link_targets.specs.Names.{target_pair}

-- Uses of imported names.

-- what is found of each of these uses of m: what it means, or that it stands for nothing
abbrev pub AreMeanings : Program → ℕ → List UseEntry → List (Option Meaning) → Type 0
AreMeanings p m uses found =
    AllZip (λ its meaning. IsMeaning p m its.local its.words meaning) uses found

-- the same of all uses of m
abbrev pub AreMeaningsOf : Program → ℕ → List (Option Meaning) → Type 0
AreMeaningsOf p m found = AreMeanings p m (uses_of (tree_of p m)) found

-- the same of each reached module
abbrev pub HoldsMeanings : Program → List (Vec (Option Meaning) Global) → Type 0
HoldsMeanings p lists = (m : ℕ) → IsReached p m → AreMeaningsOf p m (list_in lists m)

-- what is found of the use of this number in m, where there is one
abbrev pub IsMeaningAt : Program → ℕ → ℕ → Option Meaning → Type 0
IsMeaningAt p m number found =
    (its : UseEntry) →
    slice_get (uses_of (tree_of p m)) number ≡ Some its →
    IsMeaning p m its.local its.words found

-- Linked names.

-- the linked names of m, ascending, each with its target
abbrev pub AreLinkedIn : Program → ℕ → List (Bor Text × TargetRef) → Type 0
AreLinkedIn p m pairs = AreLinked p m (map target_pair pairs)

-- those of the entry, and of each module whose namespace is meant
abbrev pub HoldsLinked : Program → List (Vec (Bor Text × TargetRef) Global) → Type 0
HoldsLinked p lists =
    (d : ℕ) → (d ≡ p.entry) ⊎ IsMeant p (Of (Namespace d)) → AreLinkedIn p d (list_in lists d)

-- Lists by numbers.

-- of the lists of these numbers it holds now, and of those of which it did
pub record HoldsOfLists
    {T : Type 0} (Holds : ℕ → List T → Type 0) (Those : ℕ → Type 0)
    (old new : List (Vec T Global)) : Type 0 where
  pub kept : (n : ℕ) → Holds n (list_in old n) → Holds n (list_in new n)
  pub there : (n : ℕ) → Those n → Holds n (list_in new n)
  pub long : length new ≡ length old

-- Externals.

-- what of an external is meant
abbrev pub IsExternalOf : Program → External → Type 0
IsExternalOf p external =
    AreTaken (λ t. IsMeant p (Of t)) (l.External external.specifier.now)
    (map (λ name. name.now) external.names.items) external.whole

-- the externals that the modules of a list ask for, in its order, with what of them is meant
pub record AreExternalsOf (p : Program) (list : List ℕ) (found : List External) : Type 0 where
  pub specifiers : map specifier_of found ≡ externals p list
  pub meant : AreModules p → All (IsExternalOf p) found

-- CommonJS modules.

-- what of a CommonJS module is meant in m
abbrev pub IsLoadOf : Program → ℕ → Loaded → Type 0
IsLoadOf p m loaded =
    AreTaken (λ t. IsMeant p (Of t)) (l.CommonJs m loaded.which)
    (map (λ name. name.now) loaded.names.items) loaded.whole

-- the CommonJS modules that m imports or re-exports, each once, in the order of its declarations,
-- with what of them is meant there
pub record AreLoadsIn (p : Program) (m : ℕ) (loads : List Loaded) : Type 0 where
  pub test : ℕ → Bool
  pub tells : (c : ℕ) → TellsCommonJs p c (test c)
  pub modules :
      map (λ loaded. loaded.which) loads
      ≡ numbers_once (filter test (filter_map (resolves p m) (declared_requests (tree_of p m))))
  pub meant : AreModules p → All (IsLoadOf p m) loads
