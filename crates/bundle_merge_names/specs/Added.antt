-- Which labels get names, with their symbols in a program.
use Rattle.std.specs.Prelude.{◌≡◌, ◌≤◌, ◌⊎◌, ℕ, true, Bool, List, Some, None, Contains, slice_get}
use Rattle.std.specs.Borrow.{Bor}
use Rattle.bundle_rules.specs.Bundle.{AsksCommonJs, externals}
use Rattle.bundle_rules.specs.Entries.{Taken, Named, Whole, has_import_meta}
use Rattle.bundle_rules.specs.Idents.{Ident}
use Rattle.bundle_rules.specs.Linking as l
use Rattle.bundle_rules.specs.Linking.{IsCommonJs}
use Rattle.bundle_rules.specs.Meaning as m
use Rattle.bundle_rules.specs.Nodes.{Text}
use Rattle.bundle_rules.specs.Program.{Program, tree_of, IsReached}
use Rattle.bundle_merge_names.specs.declared.error.MergeError.{MergeError}
use Rattle.bundle_merge_names.specs.declared.error.MergeError.TheVariants.{ContextsUsedUp, OutOfMemory}
use Rattle.bundle_merge_names.specs.declared.names.Label.{Label}
use Rattle.bundle_merge_names.specs.declared.names.BundleNames.{BundleNames}
use Rattle.bundle_merge_names.specs.Bundle.{holder_symbol}
use Rattle.bundle_merge_theory.specs.made.Given.{Holder, NameOf, HelperParameter, HelperVariable}
use Rattle.bundle_merge_names.specs.Held.{AreTakenByLabels, AreLabelContexts}
use Rattle.bundle_merge_names.specs.Named.{held, holder_of}
use Rattle.bundle_merge_names.specs.Numbers.{position}

-- just those of which it holds get names, and all others keep what they have
pub record GivesNames
    (p : Program) (list : List ℕ) (Those : Holder → Type 0) (old new : BundleNames) : Type 0 where
  pub kept : (other : Label) (ident : Ident) →
      held old other ≡ Some ident →
      held new other ≡ Some ident
  pub there : (other : Label) →
      Those (holder_of other) →
      (ident : Ident) × (held new other ≡ Some ident)
  pub others : (other : Label) (ident : Ident) →
      held new other ≡ Some ident →
      (held old other ≡ Some ident)
      ⊎ (Those (holder_of other) × (ident.0 ≡ holder_symbol p list (holder_of other)))
  pub later : position old.contexts ≤ position new.contexts
  pub held_so : (from : ℕ) → from ≤ position old.contexts → AreLabelContexts from old →
      AreLabelContexts from new
  pub all_so : (from : ℕ) → AreTakenByLabels from old → AreTakenByLabels from new
  pub locals : new.locals ≡ old.locals
  pub scopes : new.scopes ≡ old.scopes
  pub answered : new.answered ≡ old.answered

-- all contexts are used up: just such labels got names since, and one of them has none
pub record AreUsedUp (Those : Holder → Type 0) (old last : BundleNames) : Type 0 where
  pub label : Label
  pub due : Those (holder_of label)
  pub none : held last label ≡ None
  pub full : position last.contexts ≡ 4294967296
  pub others : (other : Label) (ident : Ident) →
      held last other ≡ Some ident →
      (held old other ≡ Some ident) ⊎ Those (holder_of other)
  pub later : position old.contexts ≤ position last.contexts
  pub all_so : (from : ℕ) → AreTakenByLabels from old → AreTakenByLabels from last

-- such labels get no names: for memory, or since all contexts are used up before each has one
pub data RefusesLabels (Those : Holder → Type 0) (old : BundleNames) : MergeError → Type 0 where
  for_memory : RefusesLabels Those old OutOfMemory
  for_contexts : (last : BundleNames) →
      AreUsedUp Those old last →
      RefusesLabels Those old (ContextsUsedUp None)

-- the helper, its parameter and its variable
pub data IsOfHelper : Holder → Type 0 where
  its_name : IsOfHelper (NameOf m.Helper)
  its_parameter : IsOfHelper HelperParameter
  its_variable : IsOfHelper HelperVariable

-- what is taken so of what a target is taken of
abbrev pub with_taken : l.Target → Taken → l.Target
with_taken (l.External s its) taken = l.External s taken
with_taken (l.CommonJs k c its) taken = l.CommonJs k c taken
with_taken t taken = t

-- one of these names of it
pub record IsNamedOf (base : l.Target) (names : List (Bor Text)) (holder : Holder) : Type 0 where
  pub name : Bor Text
  pub i : ℕ
  pub there : slice_get names i ≡ Some name
  pub is : holder ≡ NameOf (m.Of (with_taken base (Named name.now)))

-- the whole of it, if that is taken
pub record IsWholeOf (base : l.Target) (whole : Bool) (holder : Holder) : Type 0 where
  pub taken : whole ≡ true
  pub is : holder ≡ NameOf (m.Of (with_taken base Whole))

-- one of these names, or the whole
pub data IsTakenOf
    (base : l.Target) (names : List Text) (whole : Bool) (holder : Holder) : Type 0 where
  by_name : (x : Text) →
      Contains names x →
      holder ≡ NameOf (m.Of (with_taken base (Named x))) →
      IsTakenOf base names whole holder
  by_whole : whole ≡ true →
      holder ≡ NameOf (m.Of (with_taken base Whole)) →
      IsTakenOf base names whole holder

-- this one, where that is so
pub record IsWhere (So : Type 0) (its holder : Holder) : Type 0 where
  pub so : So
  pub is : holder ≡ its

-- what is meant of an external that modules of the list ask for
pub record IsOfExternals (p : Program) (list : List ℕ) (holder : Holder) : Type 0 where
  pub specifier : Text
  pub its : Taken
  pub asked : Contains (externals p list) specifier
  pub meant : m.IsMeant p (m.Of (l.External specifier its))
  pub is : holder ≡ NameOf (m.Of (l.External specifier its))

-- what is meant of a CommonJS module that module k imports or re-exports from
pub record IsOfLoads (p : Program) (k : ℕ) (holder : Holder) : Type 0 where
  pub c : ℕ
  pub its : Taken
  pub asked : AsksCommonJs p k c
  pub meant : m.IsMeant p (m.Of (l.CommonJs k c its))
  pub is : holder ≡ NameOf (m.Of (l.CommonJs k c its))

-- what module k needs: its load function, the object for its `import.meta`, what it takes of
-- CommonJS modules, and the object of its namespace
pub data IsOfModule (p : Program) (k : ℕ) (holder : Holder) : Type 0 where
  its_load : IsWhere (IsCommonJs p k) (NameOf (m.Load k)) holder → IsOfModule p k holder
  its_meta : IsWhere (has_import_meta (tree_of p k) ≡ true) (NameOf (m.Meta k)) holder →
      IsOfModule p k holder
  its_loads : IsOfLoads p k holder → IsOfModule p k holder
  its_namespace :
      IsWhere (m.IsMeant p (m.Of (l.Namespace k))) (NameOf (m.Of (l.Namespace k))) holder →
      IsOfModule p k holder

-- what some reached module needs
pub record IsOfModules (p : Program) (holder : Holder) : Type 0 where
  pub k : ℕ
  pub reached : IsReached p k
  pub its : IsOfModule p k holder

-- the helper, its parameter and its variable, where some reached module is CommonJS
pub record IsOfHelpers (p : Program) (holder : Holder) : Type 0 where
  pub c : ℕ
  pub reached : IsReached p c
  pub common_js : IsCommonJs p c
  pub its : IsOfHelper holder

-- what is meant of externals, the helper, and what modules need
pub data IsOfLabels (p : Program) (list : List ℕ) (holder : Holder) : Type 0 where
  of_externals : IsOfExternals p list holder → IsOfLabels p list holder
  of_helpers : IsOfHelpers p holder → IsOfLabels p list holder
  of_modules : IsOfModules p holder → IsOfLabels p list holder
