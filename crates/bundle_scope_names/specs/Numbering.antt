-- Numbers for bindings: one for each that an occurrence denotes, but for those of the top.
use Rattle.std.specs.Prelude.{◌≡◌, ◌≤◌, ◌<◌, ◌⊎◌, ℕ, ◌+◌, Bool, true, false, cond, nat_eq, List, [], ◌∷◌, ◌++◌, Option, Some, None, length, map, get_or, slice_get, option_map, unwrap_or}
use Rattle.std.specs.List.{AllZip}
use Rattle.bundle_rules.specs.Homes.{is_top}
use Rattle.bundle_scope_denote.specs.declared.table.Binding.{Binding}
use Rattle.bundle_scope_denote.specs.declared.table.Denoted.{Denoted}
use Rattle.bundle_scope_denote.specs.declared.table.Denotations.{Denotations}
use Rattle.bundle_scope_denote.specs.Numbers.{numbered_scope}
use Rattle.bundle_scope_denote.specs.Chains.{IsOnce, passes}
use Rattle.bundle_scope_names.specs.declared.contexts.ContextsGiven.{ContextsGiven}
use Rattle.bundle_scope_names.specs.declared.contexts.ContextNumbers.{ContextNumbers}

-- whether a binding of a table is one of the top
abbrev pub is_of_top : Denotations → ℕ → Bool
is_of_top table number =
    unwrap_or
    (option_map
    (λ (binding : Binding).
    passes is_top (map numbered_scope table.scopes.items) binding.scope)
    (slice_get table.bindings.items number)) false

-- the number of a binding, where numbers from `next` on were given to these in turn
abbrev pub binding_number : (next : ℕ) → List ℕ → ℕ → Option ℕ
binding_number next [] binding = None
binding_number next (first ∷ rest) binding =
    cond (nat_eq first binding) (Some next) (binding_number (next + 1) rest binding)

-- the numbers in hand are those that were given to these bindings from `next` on
pub record AreGiven (next : ℕ) (given : List ℕ) (numbers : ContextNumbers) : Type 0 where
  pub once : IsOnce given
  pub next_is : numbers.next ≡ next + length given
  pub each : (binding : ℕ) →
      binding < length numbers.of.items →
      get_or numbers.of.items binding None ≡ binding_number next given binding

-- the context of what has this binding or none: 1 for a global, the local one at the top, and else
-- its number
abbrev pub HasContext : Denotations → (local next : ℕ) → List ℕ → Option ℕ → ℕ → Type 0
HasContext table local next given None context = context ≡ 1
HasContext table local next given (Some binding) context =
    cond (is_of_top table binding) (Some local) (binding_number next given binding) ≡ Some context

-- each of these bindings stands once, is denoted by an occurrence, and is none of the top
pub record AreDenoted (table : Denotations) (given : List ℕ) : Type 0 where
  pub once : IsOnce given
  pub denoted : (k binding : ℕ) →
      slice_get given k ≡ Some binding →
      (i : ℕ) × (entry : Denoted) × (slice_get table.occurrences.items i ≡ Some entry)
      × (entry.binding ≡ Some binding)
  pub inner : (k binding : ℕ) → slice_get given k ≡ Some binding → is_of_top table binding ≡ false

-- the contexts of a list with this table
pub record AreContextsNumbered
    (table : Denotations) (local next : ℕ) (resolution : ContextsGiven) : Type 0 where
  pub given : List ℕ
  pub denoted : AreDenoted table given
  pub later : resolution.next ≡ next + length given
  pub contexts :
      AllZip
      (λ (entry : Denoted) (context : ℕ). HasContext table local next given entry.binding context)
      table.occurrences.items resolution.contexts.items

-- so many bindings want a number that the last is past the greatest
pub record LacksNumbers (table : Denotations) (next : ℕ) : Type 0 where
  pub wanted : List ℕ
  pub denoted : AreDenoted table wanted
  pub too_many : 4294967295 < next + length wanted

-- what numbering a table answers
abbrev pub AnswersNumbers : Denotations → (local next : ℕ) → Option ContextsGiven → Type 0
AnswersNumbers table local next None = LacksNumbers table next
AnswersNumbers table local next (Some resolution) = AreContextsNumbered table local next resolution

-- each binding that an occurrence denotes is one of the table
abbrev pub AreBindingsWithin : Denotations → Type 0
AreBindingsWithin table =
    (i binding : ℕ) (entry : Denoted) →
    slice_get table.occurrences.items i ≡ Some entry →
    entry.binding ≡ Some binding →
    binding < length table.bindings.items

-- no binding has a number so far
pub record HasNoNumbers (next count : ℕ) (numbers : ContextNumbers) : Type 0 where
  pub next_is : numbers.next ≡ next
  pub len : length numbers.of.items ≡ count
  pub each : (binding : ℕ) → get_or numbers.of.items binding None ≡ None

-- the bindings that have numbers when one more was asked for
pub data GrowsNumbers (next : ℕ) (given : List ℕ) (binding : ℕ) : List ℕ → Type 0 where
  Stays : GrowsNumbers next given binding given
  Adds : binding_number next given binding ≡ None →
      GrowsNumbers next given binding (given ++ binding ∷ [])

-- the numbers after a binding was asked for; where it has one now, it is this
pub record HasBindingNumber (next : ℕ) (given : List ℕ) (binding number : ℕ)
    (new : ContextNumbers) : Type 0 where
  pub now_given : List ℕ
  pub grows : GrowsNumbers next given binding now_given
  pub holds : AreGiven next now_given new
  pub has : binding_number next now_given binding ≡ Some number

-- a binding without a number, where none is left
pub record LacksNumber (next : ℕ) (given : List ℕ) (binding : ℕ) : Type 0 where
  pub has_none : binding_number next given binding ≡ None
  pub last : 4294967295 ≤ next + length given

abbrev pub IsNumber : (next : ℕ) → List ℕ → (binding : ℕ) → ContextNumbers → Option ℕ → Type 0
IsNumber next given binding new None = LacksNumber next given binding
IsNumber next given binding new (Some number) = HasBindingNumber next given binding number new

-- asked for the number of a binding, the numbers go on so
pub record GivesNumber (binding : ℕ) (old new : ContextNumbers) (result : Option ℕ) : Type 0 where
  pub len : length new.of.items ≡ length old.of.items
  pub gives : (next : ℕ) (given : List ℕ) →
      AreGiven next given old →
      IsNumber next given binding new result

-- asked for the context of what has this binding or none
abbrev pub GivesContext :
    Denotations → (local : ℕ) → Option ℕ → ContextNumbers → ContextNumbers → Option ℕ → Type 0
GivesContext table local None old new result = (new ≡ old) × (result ≡ Some 1)
GivesContext table local (Some binding) old new result =
    ((is_of_top table binding ≡ true) × (new ≡ old) × (result ≡ Some local))
    ⊎ ((is_of_top table binding ≡ false) × GivesNumber binding old new result)

-- the occurrences that were passed have these contexts
pub record IsNumberedTo
    (table : Denotations) (local next : ℕ) (numbers : ContextNumbers) (contexts : List ℕ)
    (passed : List Denoted) : Type 0 where
  pub len : length numbers.of.items ≡ length table.bindings.items
  pub given : List ℕ
  pub holds : AreGiven next given numbers
  pub denoted : AreDenoted table given
  pub contexts_are :
      AllZip
      (λ (entry : Denoted) (context : ℕ). HasContext table local next given entry.binding context)
      passed contexts
