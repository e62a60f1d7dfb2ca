-- Chains of numbers: each number leads to another or to none.
use Rattle.std.specs.Prelude.{◌≡◌, ℕ, zero, suc, ◌<◌, ◌≤◌, Bool, true, false, List, Option, Some, None, length, slice_get, slice_index}

-- a number leads to another
abbrev pub NumberLeads : List (Option ℕ) → ℕ → ℕ → Type 0
NumberLeads next i j = slice_get next i ≡ Some (Some j)

-- a number leads to none
abbrev pub LeadsNowhere : List (Option ℕ) → ℕ → Type 0
LeadsNowhere next i = slice_get next i ≡ Some None

-- each number leads to one of them or to none
abbrev pub LeadsWithin : List (Option ℕ) → Type 0
LeadsWithin next = (i j : ℕ) → NumberLeads next i j → j < length next

-- `EndsIn next i e`: the chain from i ends in e, which leads to none
pub data EndsIn (next : List (Option ℕ)) : ℕ → ℕ → Type 0 where
  here : {i : ℕ} → LeadsNowhere next i → EndsIn next i i
  further : {i j e : ℕ} → NumberLeads next i j → EndsIn next j e → EndsIn next i e

-- a chain of at least one step leads from i to j
pub data ChainLeads (next : List (Option ℕ)) : ℕ → ℕ → Type 0 where
  one : {i j : ℕ} → NumberLeads next i j → ChainLeads next i j
  more : {i j k : ℕ} → NumberLeads next i j → ChainLeads next j k → ChainLeads next i k

-- some chain leads back to where it began
abbrev pub HasRing : List (Option ℕ) → Type 0
HasRing next = (i : ℕ) × ChainLeads next i i

-- the end of the chain from each number
pub record AreEnds (next : List (Option ℕ)) (ends : List ℕ) : Type 0 where
  pub len : length ends ≡ length next
  pub each : (i : ℕ) → i < length next → EndsIn next i (slice_index ends i)

-- How ends are found: by jumps that grow.

-- where a number gets in one step, by what it leads to
abbrev pub step_to : Option (Option ℕ) → ℕ → ℕ
step_to None i = i
step_to (Some None) i = i
step_to (Some (Some j)) i = j

abbrev pub chain_step : List (Option ℕ) → ℕ → ℕ
chain_step next i = step_to (slice_get next i) i

-- where it gets in so many steps
abbrev pub walk : List (Option ℕ) → ℕ → ℕ → ℕ
walk next zero i = i
walk next (suc k) i = walk next k (chain_step next i)

-- where each number gets in so many steps
pub record AreJumps (next : List (Option ℕ)) (reach : ℕ) (jumps : List ℕ) : Type 0 where
  pub len : length jumps ≡ length next
  pub each : (i : ℕ) → i < length next → slice_index jumps i ≡ walk next reach i

-- where each number gets in as many steps as there are numbers, or more
pub record AreFar (next : List (Option ℕ)) (jumps : List ℕ) : Type 0 where
  pub reach : ℕ
  pub far : length next ≤ reach
  pub are : AreJumps next reach jumps

-- numbers below a bound
abbrev pub AreNumbersBelow : List ℕ → ℕ → Type 0
AreNumbersBelow numbers bound = (i : ℕ) → i < length numbers → slice_index numbers i < bound

-- whether a number leads to none
abbrev pub leads_none : Option (Option ℕ) → Bool
leads_none (Some None) = true
leads_none (Some (Some j)) = false
leads_none None = false

abbrev pub is_last_at : List (Option ℕ) → ℕ → Bool
is_last_at next i = leads_none (slice_get next i)

-- each of these numbers leads to none
abbrev pub AreLast : List (Option ℕ) → List ℕ → Type 0
AreLast next ends = (i : ℕ) → i < length ends → is_last_at next (slice_index ends i) ≡ true

-- one of them leads on
abbrev pub HasOpen : List (Option ℕ) → List ℕ → Type 0
HasOpen next ends = (i : ℕ) × (i < length ends) × (is_last_at next (slice_index ends i) ≡ false)
