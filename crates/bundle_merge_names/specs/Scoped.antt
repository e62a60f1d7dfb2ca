-- How contexts are given to the scopes of a list, one by one.
use Rattle.std.specs.Prelude.{◌≡◌, ℕ, suc, ◌+◌, ◌<◌, ◌≤◌, Bool, true, false, List, [], ◌∷◌, Option, Some, None, length, option_and_then, option_map, slice_get, unwrap_or}
use Rattle.bundle_scope_denote.specs.declared.table.Binding.{Binding}
use Rattle.bundle_scope_denote.specs.declared.table.Denoted.{Denoted}
use Rattle.bundle_scope_denote.specs.declared.table.Scope.{Scope}
use Rattle.bundle_merge_names.specs.declared.error.MergeError.{MergeError}
use Rattle.bundle_merge_names.specs.declared.error.MergeError.TheVariants.{ContextsUsedUp}
use Rattle.bundle_merge_names.specs.declared.names.BundleNames.{BundleNames}
use Rattle.bundle_merge_names.specs.Numbers.{is_at_top, position}

-- the number of the scope of a binding, if there is one
abbrev pub scope_number : List Binding → Option ℕ → Option ℕ
scope_number bindings number =
    option_map (λ (b : Binding). b.scope) (option_and_then (slice_get bindings) number)

-- one of these entries denotes a name of the scope with this number
pub record Binds (bindings : List Binding) (entries : List Denoted) (n : ℕ) : Type 0 where
  pub i : ℕ
  pub entry : Denoted
  pub there : slice_get entries i ≡ Some entry
  pub scope : scope_number bindings entry.binding ≡ Some n

-- just those of so many scopes are marked where one of these entries denotes a name of theirs
pub record AreMarks (bindings : List Binding) (entries : List Denoted) (count : ℕ)
    (marks : List Bool) : Type 0 where
  pub long : length marks ≡ count
  pub marked : (n : ℕ) → n < count → Binds bindings entries n → slice_get marks n ≡ Some true
  pub only : (n : ℕ) → slice_get marks n ≡ Some true → Binds bindings entries n

-- the mark of a scope
abbrev pub flag_in : List Bool → ℕ → Bool
flag_in marks n = unwrap_or (slice_get marks n) false

-- the context of a scope: the top has its own, and one inside the next, if it binds something
abbrev pub context_for : Bool → Bool → ℕ → ℕ → Option ℕ
context_for true binds local next = Some local
context_for false true local next = Some next
context_for false false local next = None

-- the next context afterwards
abbrev pub next_after : Bool → Bool → ℕ → ℕ
next_after false true next = suc next
next_after _ _ next = next

-- names in which nothing else changed than which contexts are free
pub record KeepsBundleNames (old new : BundleNames) : Type 0 where
  pub locals : new.locals ≡ old.locals
  pub scopes : new.scopes ≡ old.scopes
  pub answered : new.answered ≡ old.answered
  pub labels : new.labels ≡ old.labels

-- a scope gets its context
pub record GivesScope (top binds : Bool) (local : ℕ) (old new : BundleNames)
    (context : Option ℕ) : Type 0 where
  pub its : context ≡ context_for top binds local (position old.contexts)
  pub next : position new.contexts ≡ next_after top binds (position old.contexts)
  pub same : KeepsBundleNames old new

-- these numbers fall from below one on, and each is one of those
abbrev pub AreFalling : (ℕ → Type 0) → ℕ → List ℕ → Type 0
AreFalling Its above [] = Unit {0}
AreFalling Its above (n ∷ rest) = (n < above) × Its n × AreFalling Its n rest

-- a scope is one inside that is marked
pub record IsScopeMarked (scopes : List Scope) (marks : List Bool) (n : ℕ) : Type 0 where
  pub scope : Scope
  pub there : slice_get scopes n ≡ Some scope
  pub inner : is_at_top scope.kind ≡ false
  pub flag : flag_in marks n ≡ true

-- as many contexts are taken as scopes inside are marked
pub record AreMarkedTaken (scopes : List Scope) (marks : List Bool) (from to : ℕ) : Type 0 where
  pub numbers : List ℕ
  pub fall : AreFalling (IsScopeMarked scopes marks) (length scopes) numbers
  pub count : to ≡ from + length numbers

-- a scope inside that is marked gets no context, since none is left
pub record RefusesScope (top binds : Bool) (m : ℕ) (old : BundleNames)
    (refusal : MergeError) : Type 0 where
  pub inner : top ≡ false
  pub marked : binds ≡ true
  pub full : position old.contexts ≡ 4294967296
  pub is : refusal ≡ ContextsUsedUp (Some m)

-- scopes have contexts: those at the top this one, and those inside that are marked ones of a
-- range, no two the same
pub record AreScoped (scopes : List Scope) (marks : List Bool) (local from to : ℕ)
    (contexts : List (Option ℕ)) : Type 0 where
  pub long : length contexts ≡ length scopes
  pub later : from ≤ to
  pub taken : AreMarkedTaken scopes marks from to
  pub top : (n : ℕ) (scope : Scope) →
      slice_get scopes n ≡ Some scope →
      is_at_top scope.kind ≡ true →
      slice_get contexts n ≡ Some (Some local)
  pub within : (n c : ℕ) (scope : Scope) →
      slice_get scopes n ≡ Some scope →
      is_at_top scope.kind ≡ false →
      slice_get contexts n ≡ Some (Some c) →
      (from ≤ c) × (c < to)
  pub apart : (n m c : ℕ) (scope other : Scope) →
      slice_get scopes n ≡ Some scope →
      slice_get scopes m ≡ Some other →
      is_at_top scope.kind ≡ false →
      is_at_top other.kind ≡ false →
      slice_get contexts n ≡ Some (Some c) →
      slice_get contexts m ≡ Some (Some c) →
      n ≡ m
  pub all : (n : ℕ) (scope : Scope) →
      slice_get scopes n ≡ Some scope →
      flag_in marks n ≡ true →
      (c : ℕ) × (slice_get contexts n ≡ Some (Some c))
