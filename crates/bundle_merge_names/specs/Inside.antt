-- The contexts of the scopes inside the modules of a bundle and inside what the hook answered.
use Rattle.std.specs.Prelude.{◌≡◌, ◌≤◌, ◌<◌, ℕ, zero, suc, Bool, true, false, List, [], ◌∷◌, ◌++◌, Option, Some, None, length, option_map, slice_get, unwrap_or}
use Rattle.std.specs.declared.vec.Vec.{Vec}
use Rattle.std.specs.Global.{Global}
use Rattle.bundle_scope_denote.specs.declared.table.Denotations.{Denotations}
use Rattle.bundle_scope_denote.specs.declared.table.Scope.{Scope}
use Rattle.bundle_merge_names.specs.declared.error.MergeError.{MergeError}
use Rattle.bundle_merge_names.specs.declared.error.MergeError.TheVariants.{ContextsUsedUp, OutOfMemory}
use Rattle.bundle_merge_names.specs.declared.names.Label.{Label}
use Rattle.bundle_merge_names.specs.declared.names.BundleNames.{BundleNames}
use Rattle.bundle_merge_names.specs.declared.part.Answered.{Answered}
use Rattle.bundle_merge_names.specs.declared.part.BundleInput.{BundleInput}
use Rattle.bundle_merge_names.specs.declared.part.BundleModule.{BundleModule}
use Rattle.bundle_merge_names.specs.Named.{answered_in, held, local_in, scopes_in}
use Rattle.bundle_merge_names.specs.Numbers.{is_at_top, position}
use Rattle.bundle_merge_names.specs.Ranges.{AreContextsTaken, HasScopeContexts, NeedsContext, RefusesAnswered, RefusesContexts}

-- what the hook answered for a module, if something
abbrev pub answer_of : BundleInput → ℕ → Option Answered
answer_of bundle m = unwrap_or (slice_get bundle.answers.now m) None

-- the scopes of a table, if it is there
abbrev pub scopes_by : Option Denotations → List Scope
scopes_by None = []
scopes_by (Some table) = table.scopes.items

-- the table of a module, or of what the hook answered for it
abbrev pub table_at : BundleInput → Bool → ℕ → Option Denotations
table_at bundle false m =
    option_map (λ (part : BundleModule). part.denotations.now) (slice_get bundle.parts.now m)
table_at bundle true m =
    option_map (λ (its : Answered). its.denotations.now) (answer_of bundle m)

-- their scopes
abbrev pub scopes_at : BundleInput → Bool → ℕ → List Scope
scopes_at bundle answered m = scopes_by (table_at bundle answered m)

-- and the contexts that they have
abbrev pub contexts_at : BundleNames → Bool → ℕ → List (Option ℕ)
contexts_at names false m = scopes_in names m
contexts_at names true m = answered_in names m

-- the scope with this number in a list is one inside, and has this context
pub record HasScopeContext (scopes : List Scope) (contexts : List (Option ℕ))
    (n c : ℕ) : Type 0 where
  pub scope : Scope
  pub there : slice_get scopes n ≡ Some scope
  pub inner : is_at_top scope.kind ≡ false
  pub its : slice_get contexts n ≡ Some (Some c)

-- the scopes inside have contexts of a range, and no two of them one
pub record AreScopesApart (first to : ℕ) (scopes : Bool → ℕ → List Scope)
    (contexts : Bool → ℕ → List (Option ℕ)) : Type 0 where
  pub within : (answered : Bool) (m n c : ℕ) →
      HasScopeContext (scopes answered m) (contexts answered m) n c →
      (first ≤ c) × (c < to)
  pub apart : (a b : Bool) (m k n i c : ℕ) →
      HasScopeContext (scopes a m) (contexts a m) n c →
      HasScopeContext (scopes b k) (contexts b k) i c →
      (a ≡ b) × (m ≡ k) × (n ≡ i)

-- the scopes of a table have contexts, whatever their range
pub record IsScoped (table : Denotations) (local : ℕ) (contexts : List (Option ℕ)) : Type 0 where
  pub from : ℕ
  pub to : ℕ
  pub has : HasScopeContexts table local from to contexts

-- the scopes of what the hook answered have them, if it answered something
abbrev pub HasAnswered : Option Answered → (local from to : ℕ) → List (Option ℕ) → Type 0
HasAnswered None local from to contexts = (contexts ≡ []) × (from ≡ to)
HasAnswered (Some its) local from to contexts =
    HasScopeContexts its.denotations.now local from to contexts

-- a module is added, whose scopes have the next contexts, and then those of what the hook answered
pub record AddsModule (table : Denotations) (answer : Option Answered) (local : ℕ)
    (old new : BundleNames) : Type 0 where
  pub middle : ℕ
  pub scopes : Vec (Option ℕ) Global
  pub answered : Vec (Option ℕ) Global
  pub has : HasScopeContexts table local (position old.contexts) middle scopes.items
  pub has_answered : HasAnswered answer local middle (position new.contexts) answered.items
  pub its_local : new.locals.items ≡ old.locals.items ++ local ∷ []
  pub its_scopes : new.scopes.items ≡ old.scopes.items ++ scopes ∷ []
  pub its_answered : new.answered.items ≡ old.answered.items ++ answered ∷ []
  pub labels : new.labels ≡ old.labels

-- why a module is not added
pub data RefusesModule (table : Denotations) (answer : Option Answered) (from m : ℕ)
    (refusal : MergeError) : Type 0 where
  memory : refusal ≡ OutOfMemory → RefusesModule table answer from m refusal
  in_list : RefusesContexts table from m refusal → RefusesModule table answer from m refusal
  in_answer : (middle : ℕ) →
      AreContextsTaken table from middle →
      RefusesAnswered answer middle m refusal →
      RefusesModule table answer from m refusal

-- the contexts that are taken for the list of a module, or for that of what the hook answered
abbrev pub AreTakenBy : Option Denotations → (from to : ℕ) → Type 0
AreTakenBy None from to = from ≡ to
AreTakenBy (Some table) from to = AreContextsTaken table from to

-- those of one module
pub record AreTakenAt (bundle : BundleInput) (m from to : ℕ) : Type 0 where
  pub middle : ℕ
  pub list : AreTakenBy (table_at bundle false m) from middle
  pub answer : AreTakenBy (table_at bundle true m) middle to

-- those of so many modules
abbrev pub AreTakenUpTo : BundleInput → (first count to : ℕ) → Type 0
AreTakenUpTo bundle first zero to = first ≡ to
AreTakenUpTo bundle first (suc m) to =
    (from : ℕ) × AreTakenUpTo bundle first m from × AreTakenAt bundle m from to

-- so many modules have the contexts of their tops and of their scopes, from those that were free
pub record AreScopesNamed (bundle : BundleInput) (names : BundleNames) (count : ℕ) : Type 0 where
  pub long : length names.locals.items ≡ count
  pub scopes_long : length names.scopes.items ≡ count
  pub answered_long : length names.answered.items ≡ count
  pub locals : (m : ℕ) (part : BundleModule) →
      m < count →
      slice_get bundle.parts.now m ≡ Some part →
      local_in names m ≡ Some part.local
  pub scopes : (m : ℕ) (part : BundleModule) →
      m < count →
      slice_get bundle.parts.now m ≡ Some part →
      IsScoped part.denotations.now part.local (scopes_in names m)
  pub answered : (m : ℕ) (part : BundleModule) (its : Answered) →
      m < count →
      slice_get bundle.parts.now m ≡ Some part →
      answer_of bundle m ≡ Some its →
      IsScoped its.denotations.now part.local (answered_in names m)
  pub later : position bundle.contexts ≤ position names.contexts
  pub taken : AreTakenUpTo bundle (position bundle.contexts) count (position names.contexts)
  pub apart :
      AreScopesApart (position bundle.contexts) (position names.contexts) (scopes_at bundle)
      (contexts_at names)

-- why the scopes of a bundle's modules get no contexts: a growth was refused, or none is left for a
-- scope of this module
pub data RefusesScopes (bundle : BundleInput) : MergeError → Type 0 where
  for_memory : RefusesScopes bundle OutOfMemory
  for_contexts : (answered : Bool) (m n : ℕ) (table : Denotations) (from : ℕ) →
      m < length bundle.parts.now →
      table_at bundle answered m ≡ Some table →
      NeedsContext table n →
      AreTakenUpTo bundle (position bundle.contexts) m from →
      AreTakenAt bundle m from 4294967296 →
      RefusesScopes bundle (ContextsUsedUp (Some m))

-- nothing has a name yet, and these contexts are free
pub record HoldsNothing (bundle : BundleInput) (names : BundleNames) : Type 0 where
  pub locals : names.locals.items ≡ []
  pub scopes : names.scopes.items ≡ []
  pub answered : names.answered.items ≡ []
  pub labels : (label : Label) → held names label ≡ None
  pub contexts : names.contexts ≡ bundle.contexts
