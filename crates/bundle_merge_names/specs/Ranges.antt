-- The contexts that a table's scopes have, all of which a name occurs.
use Rattle.std.specs.Prelude.{◌≡◌, ℕ, ◌+◌, ◌<◌, ◌≤◌, false, List, [], Option, Some, None, length, slice_get}
use Rattle.bundle_scope_denote.specs.declared.table.Denotations.{Denotations}
use Rattle.bundle_scope_denote.specs.declared.table.Scope.{Scope}
use Rattle.bundle_merge_names.specs.declared.error.MergeError.{MergeError}
use Rattle.bundle_merge_names.specs.declared.error.MergeError.TheVariants.{ContextsUsedUp, OutOfMemory}
use Rattle.bundle_merge_names.specs.declared.names.BundleNames.{BundleNames}
use Rattle.bundle_merge_names.specs.declared.part.Answered.{Answered}
use Rattle.bundle_merge_names.specs.Numbers.{AreGivenTo, is_at_top, position}
use Rattle.bundle_merge_names.specs.Scoped.{Binds, AreFalling, KeepsBundleNames}

-- a scope of the table is one inside of which a name occurs
pub record NeedsContext (table : Denotations) (n : ℕ) : Type 0 where
  pub scope : Scope
  pub there : slice_get table.scopes.items n ≡ Some scope
  pub inner : is_at_top scope.kind ≡ false
  pub binds : Binds table.bindings.items table.occurrences.items n

-- no more contexts are taken than such scopes are there
pub record AreContextsTaken (table : Denotations) (from to : ℕ) : Type 0 where
  pub numbers : List ℕ
  pub fall : AreFalling (NeedsContext table) (length table.scopes.items) numbers
  pub count : to ≡ from + length numbers

-- the scopes of a table have contexts of a range, each of which a name occurs
pub record HasScopeContexts (table : Denotations) (local from to : ℕ)
    (contexts : List (Option ℕ)) : Type 0 where
  pub later : from ≤ to
  pub taken : AreContextsTaken table from to
  pub given : AreGivenTo table local from to contexts
  pub all : (n : ℕ) →
      n < length table.scopes.items →
      Binds table.bindings.items table.occurrences.items n →
      (c : ℕ) × (slice_get contexts n ≡ Some (Some c))

-- why they get none: a growth was refused, or no context is left for one that needs it
pub data RefusesContexts (table : Denotations) (from m : ℕ) : MergeError → Type 0 where
  for_memory : RefusesContexts table from m OutOfMemory
  for_contexts : (n : ℕ) →
      NeedsContext table n →
      AreContextsTaken table from 4294967296 →
      RefusesContexts table from m (ContextsUsedUp (Some m))

-- they get these, from the next one on
pub record GivesScopeContexts (table : Denotations) (local : ℕ) (old new : BundleNames)
    (contexts : List (Option ℕ)) : Type 0 where
  pub has : HasScopeContexts table local (position old.contexts) (position new.contexts) contexts
  pub same : KeepsBundleNames old new

-- the scopes of what the hook answered get these, if it answered something
abbrev pub GivesAnswered : Option Answered → ℕ → BundleNames → BundleNames → List (Option ℕ) →
    Type 0
GivesAnswered None local old new contexts = (contexts ≡ []) × (new ≡ old)
GivesAnswered (Some its) local old new contexts =
    GivesScopeContexts its.denotations.now local old new contexts

-- or why they get none
abbrev pub RefusesAnswered : Option Answered → (from m : ℕ) → MergeError → Type 0
RefusesAnswered None from m refusal = ⊥
RefusesAnswered (Some its) from m refusal = RefusesContexts its.denotations.now from m refusal
