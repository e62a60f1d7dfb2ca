-- The scopes around a scope.
-- Numbers that are given in turn.
-- What asking for the number of a binding gives.
-- A symbol is marked from a scope on outwards.
-- What is known once one more binding had its turn.
-- As many as stand once each beside one of a list are no more than that list has.
-- The occurrences of each binding, as they are linked in turn, and gone over from the last one on.
use Rattle.std.proofs.Common.{◌≡◌, ◌<◌, ◌≤◌, ◌⊎◌, inl, inr, ℕ, zero, suc, ◌==◌, Bool, true, List, [], ◌∷◌, Option, Some, None, length, refl, ap, sym, ◌∙◌, subst, arith, eqb-true, eq-eqb, ◌≢◌, ◌+◌, false, cond, nat_eq, ◌++◌, get_or, set, ⊎_elim, ◌||◌, ◌&&◌, bytes_eq, append_assoc, not, map, ap₂, string_bytes, decimal, take, append-nil}
use Rattle.std.specs.Prelude.{slice_get, option_and_then, filter, unwrap_or}
use Rattle.std.specs.List.{list_any}
use Rattle.std.proofs.lemmas.Bool.{false≢true, or_cases, or_left, or_right, cases_lt, and_from, and_parts, cases_order, ne_eqb}
use Rattle.std.proofs.lemmas.Option.{none-some, slice_get_past, same_Some, slice_get_within}
use Rattle.std.proofs.lemmas.List.{get_or-set_same, get_or-set_other, length-set, length_push, take_all}
use Rattle.std.proofs.lemmas.Bool.Decides.{eqb_tells}
use Rattle.std.proofs.lemmas.List.Quantifiers.{position-Some}
use Rattle.std.proofs.lemmas.List.Folds.{list_any-append}
use Rattle.std.specs.Option.{option_map}
use Rattle.bundle_rules.specs.Nodes.{Text}
use Rattle.bundle_rules.specs.Homes.{is_arguments}
use Rattle.bundle_rules.specs.Renaming.{numbered}
use Rattle.bundle_scope_denote.specs.Numbers.{NumberedScope}
use Rattle.bundle_scope_denote.specs.Chains.{outer_at, scopes_outwards, AreInOrder, IsOnce}
use Rattle.bundle_scope_denote.proofs.OutwardLemmas.{outwards-none}
use Rattle.bundle_scope_denote.specs.declared.table.Denoted.{Denoted}
use Rattle.bundle_scope_denote.proofs.ParameterLemmas.{list_any-same as any_same}
use Rattle.bundle_scope_names.specs.Turns.{is_around, Facts, Turn, binding_symbol, symbol_by, is_symbol, home_number, group_number, is_this_number, denotes, keeps_symbol, keeps_in, is_kept, keeps_own, needs_by, needs, needs_in, is_symbol_needed, may_keep_symbol, gets, is_text_taken, all_to, is_least, is_right}
use Rattle.bundle_scope_names.specs.Numbering.{binding_number, AreGiven, Stays, Adds, HasBindingNumber, GivesNumber}
use Rattle.bundle_scope_names.specs.declared.contexts.ContextNumbers.{ContextNumbers}
use Rattle.bundle_scope_names.specs.Marks.{Symbol, symbol_number as number_in_mark, SymbolKey, HygieneMarks, marked, has_key, is_marked_in, IsClosed, Marks, needed_by, has_symbol, has_given, has_taken, last_by, last_of, may_keep_by, KeepsItsSymbol, AreTried, GivesText, Knows, binding_scopes}
use Rattle.bundle_scope_names.proofs.HomesLemmas.{iff, or_false, either, any_more, bytes_same, same_bytes, any_or, eq_comm, bytes_comm}
use Rattle.bundle_scope_names.specs.declared.hygiene.Hygiene.{Hygiene}
use Rattle.bundle_scope_names.specs.declared.uses.Uses.{Uses}
use Rattle.bundle_scope_names.specs.Called.{at}
use Rattle.bundle_scope_names.specs.Uses.{up_to, IsLastUse, AreUses}
use Rattle.bundle_scope_names.proofs.ListLemmas.{uses-more}

-- ---- around

-- whether a number is in a list
abbrev pub is_in : ℕ → List ℕ → Bool
is_in b xs = list_any (λ n. n == b) xs

-- the scope around one has a lower number
pub outer-below : (scopes : List NumberedScope) → AreInOrder scopes → (n o : ℕ) → outer_at scopes n ≡ Some o → o < n
outer-below scopes ordered n o e = by (slice_get scopes n) refl e
  where
    by : (x : Option NumberedScope) → slice_get scopes n ≡ x → option_and_then (λ (x : NumberedScope). x.outer) x ≡ Some o → o < n
    by None at e = absurd (none-some o e)
    by (Some x) at e = ordered.behind n o x at e

-- so many steps suffice as there are numbers below
cut : (scopes : List NumberedScope) → AreInOrder scopes → (m k n b : ℕ) → n < k → is_in b (scopes_outwards scopes m (Some n)) ≡ true → is_in b (scopes_outwards scopes k (Some n)) ≡ true
cut scopes ordered zero k n b lt is = absurd (false≢true is)
cut scopes ordered (suc m) zero n b lt is = absurd (omega arith)
cut scopes ordered (suc m) (suc k) n b lt is = by (λ o below. cut scopes ordered m k o b below) (or_cases (n == b) (is_in b (scopes_outwards scopes m (outer_at scopes n))) is)
  where
    further : ((o : ℕ) → o < k → is_in b (scopes_outwards scopes m (Some o)) ≡ true → is_in b (scopes_outwards scopes k (Some o)) ≡ true) → (o : Option ℕ) → outer_at scopes n ≡ o → is_in b (scopes_outwards scopes m o) ≡ true → is_in b (scopes_outwards scopes k o) ≡ true
    further ih None e is = absurd (false≢true (sym (ap (is_in b) (outwards-none scopes m)) ∙ is))
    further ih (Some o) e is = let below : o < n = outer-below scopes ordered n o e in
        let less : o < k = omega arith in
        ih o less is

    by : ((o : ℕ) → o < k → is_in b (scopes_outwards scopes m (Some o)) ≡ true → is_in b (scopes_outwards scopes k (Some o)) ≡ true) → ((n == b) ≡ true) ⊎ (is_in b (scopes_outwards scopes m (outer_at scopes n)) ≡ true) → is_in b (scopes_outwards scopes (suc k) (Some n)) ≡ true
    by ih (inl here) = or_left (n == b) (is_in b (scopes_outwards scopes k (outer_at scopes n))) here
    by ih (inr later) = or_right (n == b) (is_in b (scopes_outwards scopes k (outer_at scopes n))) (further ih (outer_at scopes n) refl later)

-- what is outwards of one that is outwards
further : (scopes : List NumberedScope) (k m a b : ℕ) (at : Option ℕ) → is_in a (scopes_outwards scopes k at) ≡ true → is_in b (scopes_outwards scopes m (Some a)) ≡ true → (j : ℕ) × (is_in b (scopes_outwards scopes j at) ≡ true)
further scopes zero m a b at is more = absurd (false≢true is)
further scopes (suc k) m a b None is more = absurd (false≢true is)
further scopes (suc k) m a b (Some n) is more = by (λ later. further scopes k m a b (outer_at scopes n) later more) (or_cases (n == a) (is_in a (scopes_outwards scopes k (outer_at scopes n))) is)
  where
    by : (is_in a (scopes_outwards scopes k (outer_at scopes n)) ≡ true → (j : ℕ) × (is_in b (scopes_outwards scopes j (outer_at scopes n)) ≡ true)) → ((n == a) ≡ true) ⊎ (is_in a (scopes_outwards scopes k (outer_at scopes n)) ≡ true) → (j : ℕ) × (is_in b (scopes_outwards scopes j (Some n)) ≡ true)
    by ih (inl here) = (m, subst (λ x. is_in b (scopes_outwards scopes m (Some x)) ≡ true) (sym (eqb-true n a here)) more)
    by ih (inr later) = let found = ih later in (suc found.0, or_right (n == b) (is_in b (scopes_outwards scopes found.0 (outer_at scopes n))) found.1)

-- a number past the table has none around it
past-none : (scopes : List NumberedScope) (n : ℕ) → length scopes ≤ n → outer_at scopes n ≡ None
past-none scopes n past = ap (option_and_then (λ (x : NumberedScope). x.outer)) (slice_get_past scopes n past)

lone : (scopes : List NumberedScope) (k n a : ℕ) → outer_at scopes n ≡ None → is_in a (scopes_outwards scopes k (Some n)) ≡ true → n ≡ a
lone scopes zero n a none is = absurd (false≢true is)
lone scopes (suc k) n a none is = by (or_cases (n == a) (is_in a (scopes_outwards scopes k (outer_at scopes n))) is)
  where
    by : ((n == a) ≡ true) ⊎ (is_in a (scopes_outwards scopes k (outer_at scopes n)) ≡ true) → n ≡ a
    by (inl here) = eqb-true n a here
    by (inr later) = absurd (false≢true (sym (ap (λ o. is_in a (scopes_outwards scopes k o)) none ∙ ap (is_in a) (outwards-none scopes k)) ∙ later))

-- what is around is so at each number of steps that suffices
pub around-enough : (scopes : List NumberedScope) → AreInOrder scopes → (m n b : ℕ) → is_in b (scopes_outwards scopes m (Some n)) ≡ true → 0 < length scopes → is_around scopes n b ≡ true
around-enough scopes ordered m n b is some = by (cases_lt n (length scopes))
  where
    one : (k : ℕ) → 0 < k → n ≡ b → is_in b (scopes_outwards scopes k (Some n)) ≡ true
    one zero lt e = absurd (omega arith)
    one (suc k) lt e = or_left (n == b) (is_in b (scopes_outwards scopes k (outer_at scopes n))) (eq-eqb n b e)

    by : (n < length scopes) ⊎ (length scopes ≤ n) → is_around scopes n b ≡ true
    by (inl within) = cut scopes ordered m (length scopes) n b within is
    by (inr past) = one (length scopes) some (lone scopes m n b (past-none scopes n past) is)

-- some scope is there where something is around
pub around-some : (scopes : List NumberedScope) (n b : ℕ) → is_around scopes n b ≡ true → 0 < length scopes
around-some [] n b is = absurd (false≢true is)
around-some (x ∷ xs) n b is = omega arith

-- what is around a scope around one is around that one
pub around-through : (scopes : List NumberedScope) → AreInOrder scopes → (from a b : ℕ) → is_around scopes from a ≡ true → is_around scopes a b ≡ true → is_around scopes from b ≡ true
around-through scopes ordered from a b first second =
    let found = further scopes (length scopes) (length scopes) a b (Some from) first second in
    around-enough scopes ordered found.0 from b found.1 (around-some scopes from a first)

-- ---- number
same-number : (a b : ℕ) → nat_eq a b ≡ true → a ≡ b
same-number a b e = eqb-true a b e

other-number : (a b : ℕ) → nat_eq a b ≡ false → a ≢ b
other-number a b e same = absurd (both (sym e ∙ eq-eqb a b same))
  where
    both : false ≡ true → ⊥
    both is = absurd cc

-- one that has a number keeps it
pub number-stays : (next : ℕ) (given : List ℕ) (x b n : ℕ) → binding_number next given b ≡ Some n → binding_number next (given ++ x ∷ []) b ≡ Some n
number-stays next [] x b n e = absurd (none-some n e)
number-stays next (a ∷ given) x b n e = by_test (number-stays (next + 1) given x b n) (nat_eq a b) e
  where
    by_test : (binding_number (next + 1) given b ≡ Some n → binding_number (next + 1) (given ++ x ∷ []) b ≡ Some n) → (t : Bool) → cond t (Some next) (binding_number (next + 1) given b) ≡ Some n → cond t (Some next) (binding_number (next + 1) (given ++ x ∷ []) b) ≡ Some n
    by_test rest true is = is
    by_test rest false is = rest is

-- one that has none gets the next
pub number-new : (next : ℕ) (given : List ℕ) (b : ℕ) → binding_number next given b ≡ None → binding_number next (given ++ b ∷ []) b ≡ Some (next + length given)
number-new next [] b e = by_test (nat_eq b b) refl
  where
    by_test : (t : Bool) → nat_eq b b ≡ t → cond t (Some next) None ≡ Some (next + 0)
    by_test true is = ap (λ n. Some n) (omega arith)
    by_test false is = absurd (other-number b b is refl)
number-new next (a ∷ given) b e = by_test (number-new (next + 1) given b) (nat_eq a b) e
  where
    by_test : (binding_number (next + 1) given b ≡ None → binding_number (next + 1) (given ++ b ∷ []) b ≡ Some (next + 1 + length given)) → (t : Bool) → cond t (Some next) (binding_number (next + 1) given b) ≡ None → cond t (Some next) (binding_number (next + 1) (given ++ b ∷ []) b) ≡ Some (next + suc (length given))
    by_test rest true is = absurd (none-some next (sym is))
    by_test rest false is = rest is ∙ ap (λ n. Some n) (omega arith)

-- another has what it had
pub number-other : (next : ℕ) (given : List ℕ) (x b : ℕ) → x ≢ b → binding_number next (given ++ x ∷ []) b ≡ binding_number next given b
number-other next [] x b other = by_test (nat_eq x b) refl
  where
    by_test : (t : Bool) → nat_eq x b ≡ t → cond t (Some next) None ≡ None
    by_test true is = absurd (other (same-number x b is))
    by_test false is = refl
number-other next (a ∷ given) x b other = ap (cond (nat_eq a b) (Some next)) (number-other (next + 1) given x b other)

-- it is from the first on and before the next
pub number-within : (next : ℕ) (given : List ℕ) (b n : ℕ) → binding_number next given b ≡ Some n → (next ≤ n) × (n < next + length given)
number-within next [] b n e = absurd (none-some n e)
number-within next (a ∷ given) b n e = by_test (number-within (next + 1) given b n) (nat_eq a b) e
  where
    by_test : (binding_number (next + 1) given b ≡ Some n → (next + 1 ≤ n) × (n < next + 1 + length given)) → (t : Bool) → cond t (Some next) (binding_number (next + 1) given b) ≡ Some n → (next ≤ n) × (n < next + suc (length given))
    by_test more true is = let same : next ≡ n = same_Some next n is in (omega (arith, same), omega (arith, same))
    by_test more false is = let rest = more is in (omega (arith, rest.0), omega (arith, rest.1))

-- each number is that of one alone
pub number-one : (next : ℕ) (given : List ℕ) (a b n : ℕ) → binding_number next given a ≡ Some n → binding_number next given b ≡ Some n → a ≡ b
number-one next [] a b n first second = absurd (none-some n first)
number-one next (x ∷ given) a b n first second = by_tests (number-one (next + 1) given a b n) (nat_eq x a) (nat_eq x b) refl refl first second
  where
    by_tests : (binding_number (next + 1) given a ≡ Some n → binding_number (next + 1) given b ≡ Some n → a ≡ b) → (s t : Bool) → nat_eq x a ≡ s → nat_eq x b ≡ t → cond s (Some next) (binding_number (next + 1) given a) ≡ Some n → cond t (Some next) (binding_number (next + 1) given b) ≡ Some n → a ≡ b
    by_tests rest true true is its one two = sym (same-number x a is) ∙ same-number x b its
    by_tests rest true false is its one two = let low : next ≡ n = same_Some next n one in let above = number-within (next + 1) given b n two in absurd (omega (arith, low, above.0))
    by_tests rest false true is its one two = let low : next ≡ n = same_Some next n two in let above = number-within (next + 1) given a n one in absurd (omega (arith, low, above.0))
    by_tests rest false false is its one two = rest one two

-- one that has none stands nowhere
pub number-none : (next : ℕ) (given : List ℕ) (b k x : ℕ) → binding_number next given b ≡ None → slice_get given k ≡ Some x → b ≢ x
number-none next [] b k x e at = absurd (none-some x at)
number-none next (a ∷ given) b k x e at = by_test (λ j none there. number-none (next + 1) given b j x none there) (nat_eq a b) refl e k at
  where
    by_test : ((j : ℕ) → binding_number (next + 1) given b ≡ None → slice_get given j ≡ Some x → b ≢ x) → (t : Bool) → nat_eq a b ≡ t → cond t (Some next) (binding_number (next + 1) given b) ≡ None → (j : ℕ) → slice_get (a ∷ given) j ≡ Some x → b ≢ x
    by_test rest true is none j there = absurd (none-some next (sym none))
    by_test rest false is none zero there = λ same. other-number a b is (same_Some a x there ∙ sym same)
    by_test rest false is none (suc j) there = rest j none there

pub where-in : (given : List ℕ) (b k x : ℕ) → slice_get (given ++ b ∷ []) k ≡ Some x → (slice_get given k ≡ Some x) ⊎ ((k ≡ length given) × (b ≡ x))
where-in [] b zero x at = inr (refl, same_Some b x at)
where-in [] b (suc k) x at = absurd (none-some x at)
where-in (a ∷ given) b zero x at = inl at
where-in (a ∷ given) b (suc k) x at = by_rest (where-in given b k x at)
  where
    by_rest : (slice_get given k ≡ Some x) ⊎ ((k ≡ length given) × (b ≡ x)) → (slice_get given k ≡ Some x) ⊎ ((suc k ≡ suc (length given)) × (b ≡ x))
    by_rest (inl there) = inl there
    by_rest (inr last) = inr (ap suc last.0, last.1)

-- so each stands once
pub once-more : (next : ℕ) (given : List ℕ) (b : ℕ) → binding_number next given b ≡ None → IsOnce given → IsOnce (given ++ b ∷ [])
once-more next given b none once i j x first second = by_places (where-in given b i x first) (where-in given b j x second)
  where
    by_places : (slice_get given i ≡ Some x) ⊎ ((i ≡ length given) × (b ≡ x)) → (slice_get given j ≡ Some x) ⊎ ((j ≡ length given) × (b ≡ x)) → i ≡ j
    by_places (inl one) (inl two) = once i j x one two
    by_places (inl one) (inr two) = absurd (number-none next given b i x none one two.1)
    by_places (inr one) (inl two) = absurd (number-none next given b j x none two one.1)
    by_places (inr one) (inr two) = one.0 ∙ sym two.0

-- ---- giving

-- it has one already
pub has-one : (binding number : ℕ) (numbers : ContextNumbers) → binding < length numbers.of.items → get_or numbers.of.items binding None ≡ Some number → GivesNumber binding numbers numbers (Some number)
has-one binding number numbers within is_marked_in = record {
  len = refl;
  gives = λ next given holds. record { now_given = given; grows = Stays; holds = holds; has = sym (holds.each binding within) ∙ is_marked_in };
}

-- none is left
pub none-left : (binding : ℕ) (numbers : ContextNumbers) → binding < length numbers.of.items → get_or numbers.of.items binding None ≡ None → 4294967295 ≤ numbers.next → GivesNumber binding numbers numbers None
none-left binding numbers within none last = record {
  len = refl;
  gives = λ next given holds. record { has_none = sym (holds.each binding within) ∙ none; last = omega (arith, holds.next_is, last) };
}

-- it gets the next one
pub gets-next : (binding : ℕ) (old new : ContextNumbers) → binding < length old.of.items → get_or old.of.items binding None ≡ None → new.next ≡ old.next + 1 → new.of.items ≡ set old.of.items binding (Some old.next) → GivesNumber binding old new (Some old.next)
gets-next binding old new within none next_is of_is = record {
  len = ap length of_is ∙ length-set old.of.items binding (Some old.next);
  gives = λ next given holds. gives next given holds;
}
  where
    gives : (next : ℕ) (given : List ℕ) → AreGiven next given old → HasBindingNumber next given binding old.next new
    gives next given holds =
        let lacks : binding_number next given binding ≡ None = sym (holds.each binding within) ∙ none in
        let is_marked_in : binding_number next (given ++ binding ∷ []) binding ≡ Some old.next = number-new next given binding lacks ∙ ap (λ n. Some n) (sym holds.next_is) in
        record {
          now_given = given ++ binding ∷ [];
          grows = Adds lacks;
          has = is_marked_in;
          holds = record {
            once = once-more next given binding lacks holds.once;
            next_is = next_is ∙ ap (λ n. n + 1) holds.next_is ∙ longer;
            each = λ other inside. each other (subst (λ n. other < n) (ap length of_is ∙ length-set old.of.items binding (Some old.next)) inside) (eqb_tells other binding);
          };
        }
      where
        longer : next + length given + 1 ≡ next + length (given ++ binding ∷ [])
        longer = omega (arith, length_push given binding)

        each : (other : ℕ) → other < length old.of.items → (((other == binding) ≡ true) × (other ≡ binding)) ⊎ (((other == binding) ≡ false) × (other ≢ binding)) → get_or new.of.items other None ≡ binding_number next (given ++ binding ∷ []) other
        each other inside (inl same) =
            ap (λ l. get_or l other None) of_is
            ∙ ap (λ k. get_or (set old.of.items binding (Some old.next)) k None) same.1
            ∙ get_or-set_same old.of.items binding (Some old.next) None within
            ∙ sym (number-new next given binding (sym (holds.each binding within) ∙ none) ∙ ap (λ n. Some n) (sym holds.next_is))
            ∙ ap (binding_number next (given ++ binding ∷ [])) (sym same.1)
        each other inside (inr apart) =
            ap (λ l. get_or l other None) of_is
            ∙ get_or-set_other old.of.items binding other (Some old.next) None apart.1
            ∙ holds.each other inside
            ∙ sym (number-other next given binding other (λ e. apart.1 (sym e)))

-- ---- mark

-- how a set changes as a key is put, as the set tells it
abbrev pub PutsKey : (number symbol : ℕ) → (old new : List SymbolKey) → Type 0
PutsKey number symbol old new = (q : SymbolKey) → list_any (λ (k : SymbolKey). q.0 == k.0 && q.1 == k.1) new ≡ cond (number == q.0 && symbol == q.1) true (list_any (λ (k : SymbolKey). q.0 == k.0 && q.1 == k.1) old)

-- what is marked once a symbol is marked in one scope or group more
abbrev pub Puts : (number : ℕ) → Text → (old new : HygieneMarks) → Type 0
Puts number text old new = (scope : ℕ) (other : Text) → is_marked_in scope other new ≡ (is_marked_in scope other old || (number == scope && bytes_eq other text))

-- a number is that of one text alone
same-number_mark : (symbols : List Symbol) (a b : Text) (i : ℕ) → number_in_mark symbols a ≡ Some i → number_in_mark symbols b ≡ Some i → a ≡ b
same-number_mark symbols a b i is_a is_b =
    let none : Symbol = record { ref_ptr = (0, 0); now = [] } in
    bytes_same a (get_or symbols i none).now (position-Some (λ (key : Symbol). bytes_eq a key.now) symbols i none is_a).1
    ∙ sym (bytes_same b (get_or symbols i none).now (position-Some (λ (key : Symbol). bytes_eq b key.now) symbols i none is_b).1)

-- two numbers are one where two texts are
pub same-symbols : (symbols : List Symbol) (a b : Text) (i j : ℕ) → number_in_mark symbols a ≡ Some i → number_in_mark symbols b ≡ Some j → (i == j) ≡ bytes_eq a b
same-symbols symbols a b i j is_a is_b = iff (i == j) (bytes_eq a b) (λ e. same_bytes a b (same-number_mark symbols a b j (is_a ∙ ap (λ n. Some n) (eqb-true i j e)) is_b)) (λ e. eq-eqb i j (same_Some i j (sym is_a ∙ ap (number_in_mark symbols) (bytes_same a b e) ∙ is_b)))

-- whose key is put is marked
pub has-put : (symbols : List Symbol) (number symbol : ℕ) (text : Text) (old new : List SymbolKey) → number_in_mark symbols text ≡ Some symbol → PutsKey number symbol old new → Puts number text (marked symbols old) (marked symbols new)
has-put symbols number symbol text old new is puts scope other = by (number_in_mark symbols other) refl
  where
    none : (a b : Bool) → b ≡ false → false ≡ (a && b)
    none true b e = sym e
    none false b e = refl

    turn : (a b c : Bool) → cond (a && b) true c ≡ (c || (a && b))
    turn true true true = refl
    turn true true false = refl
    turn true false c = sym (or_false c)
    turn false b c = sym (or_false c)

    by : (o : Option ℕ) → number_in_mark symbols other ≡ o → has_key scope o new ≡ (has_key scope o old || (number == scope && bytes_eq other text))
    by None at = none (number == scope) (bytes_eq other text) (either (bytes_eq other text) (λ same. absurd (none-some symbol (sym at ∙ ap (number_in_mark symbols) (bytes_same other text same) ∙ is))) (λ apart. apart))
    by (Some i) at = puts (scope, i) ∙ turn (number == scope) (symbol == i) (list_any (λ (k : SymbolKey). scope == k.0 && i == k.1) old) ∙ ap (λ b. list_any (λ (k : SymbolKey). scope == k.0 && i == k.1) old || (number == scope && b)) same
      where
        same : (symbol == i) ≡ bytes_eq other text
        same = iff (symbol == i) (bytes_eq other text) (λ e. same_bytes other text (same-number_mark symbols other text i at (is ∙ ap (λ n. Some n) (eqb-true symbol i e)))) (λ e. eq-eqb symbol i (same_Some symbol i (sym is ∙ ap (number_in_mark symbols) (sym (bytes_same other text e)) ∙ at)))

-- and whose key is there
pub has-there : (symbols : List Symbol) (number symbol : ℕ) (text : Text) (keys : List SymbolKey) → number_in_mark symbols text ≡ Some symbol → is_marked_in number text (marked symbols keys) ≡ list_any (λ (k : SymbolKey). number == k.0 && symbol == k.1) keys
has-there symbols number symbol text keys is = ap (λ o. has_key number o keys) is

-- where no key is, nothing is marked
pub has-nothing : (symbols : List Symbol) (number : ℕ) (text : Text) (keys : List SymbolKey) → keys ≡ [] → is_marked_in number text (marked symbols keys) ≡ false
has-nothing symbols number text keys none = ap (has_key number (number_in_mark symbols text)) none ∙ by (number_in_mark symbols text)
  where
    by : (o : Option ℕ) → has_key number o [] ≡ false
    by None = refl
    by (Some i) = refl

-- how far a symbol is marked
pub record IsMarking (scopes : List NumberedScope) (from : ℕ) (text : Text) (old now : HygieneMarks) (more : ℕ) (at : Option ℕ) : Type 0 where
  pub passed : List ℕ
  pub chain : scopes_outwards scopes (length scopes) (Some from) ≡ passed ++ scopes_outwards scopes more at
  pub marks : (scope : ℕ) (other : Text) → is_marked_in scope other now ≡ (is_marked_in scope other old || (bytes_eq other text && is_in scope passed))
  pub above : (n scope : ℕ) → at ≡ Some n → is_in scope passed ≡ true → n < scope

pub marking-first : (scopes : List NumberedScope) (from : ℕ) (text : Text) (old : HygieneMarks) (more : ℕ) → more ≡ length scopes → IsMarking scopes from text old old more (Some from)
marking-first scopes from text old more e = record {
  passed = [];
  chain = ap (λ n. scopes_outwards scopes n (Some from)) (sym e);
  marks = λ scope other. none (is_marked_in scope other old) (bytes_eq other text);
  above = λ n scope at is. absurd (false≢true is);
}
  where
    none : (a b : Bool) → a ≡ (a || (b && false))
    none true b = refl
    none false true = refl
    none false false = refl

pub marking-next : (scopes : List NumberedScope) → AreInOrder scopes → (from : ℕ) (text : Text) (old now new : HygieneMarks) (more rest number : ℕ) (next : Option ℕ) → more ≡ suc rest → next ≡ outer_at scopes number → Puts number text now new → IsMarking scopes from text old now more (Some number) → IsMarking scopes from text old new rest next
marking-next scopes ordered from text old now new more rest number next one outer puts known = record {
  passed = known.passed ++ number ∷ [];
  chain = known.chain ∙ ap (λ n. known.passed ++ scopes_outwards scopes n (Some number)) one ∙ sym (append_assoc known.passed (number ∷ []) (scopes_outwards scopes rest (outer_at scopes number))) ∙ ap (λ o. (known.passed ++ number ∷ []) ++ scopes_outwards scopes rest o) (sym outer);
  marks = λ scope other. puts scope other ∙ ap (λ b. b || (number == scope && bytes_eq other text)) (known.marks scope other) ∙ join (is_marked_in scope other old) (bytes_eq other text) (is_in scope known.passed) (number == scope) ∙ ap (λ b. is_marked_in scope other old || (bytes_eq other text && b)) (sym (any_more (λ n. n == scope) known.passed number));
  above = λ n scope at is. let below : n < number = outer-below scopes ordered number n (sym outer ∙ at) in
      ⊎_elim (λ earlier. let high : number < scope = known.above number scope refl earlier in (omega arith)) (λ here. let same : number ≡ scope = eqb-true number scope here in omega arith) (or_cases (is_in scope known.passed) (number == scope) (sym (any_more (λ n. n == scope) known.passed number) ∙ is));
}
  where
    join : (a b c d : Bool) → ((a || (b && c)) || (d && b)) ≡ (a || (b && (c || d)))
    join true b c d = refl
    join false true true d = refl
    join false true false true = refl
    join false true false false = refl
    join false false c true = refl
    join false false c false = refl

-- once all is passed, the symbol is marked
marks-whole : (scopes : List NumberedScope) → AreInOrder scopes → (from : ℕ) (text : Text) (old now : HygieneMarks) → IsClosed scopes old → ((scope : ℕ) (other : Text) → is_marked_in scope other now ≡ (is_marked_in scope other old || (bytes_eq other text && is_around scopes from scope))) → Marks scopes (from ∷ []) text old now
marks-whole scopes ordered from text old now closed marks = record {
  closed = λ scope around other there is. sym (sym (closes scope around other there is) ∙ sym (marks around other));
  marks = λ scope other. marks scope other ∙ ap (λ b. is_marked_in scope other old || (bytes_eq other text && b)) (sym (or_false (is_around scopes from scope)));
}
  where
    closes : (scope around : ℕ) (other : Text) → is_marked_in scope other now ≡ true → is_around scopes scope around ≡ true → (is_marked_in around other old || (bytes_eq other text && is_around scopes from around)) ≡ true
    closes scope around other there is = by (or_cases (is_marked_in scope other old) (bytes_eq other text && is_around scopes from scope) (sym (marks scope other) ∙ there))
      where
        by : (is_marked_in scope other old ≡ true) ⊎ ((bytes_eq other text && is_around scopes from scope) ≡ true) → (is_marked_in around other old || (bytes_eq other text && is_around scopes from around)) ≡ true
        by (inl earlier) = or_left (is_marked_in around other old) (bytes_eq other text && is_around scopes from around) (closed scope around other earlier is)
        by (inr now_) = let both = and_parts (bytes_eq other text) (is_around scopes from scope) now_ in
            or_right (is_marked_in around other old) (bytes_eq other text && is_around scopes from around) (and_from (bytes_eq other text) (is_around scopes from around) both.0 (around-through scopes ordered from scope around both.1 is))

pub marking-last : (scopes : List NumberedScope) → AreInOrder scopes → (from : ℕ) (text : Text) (old now : HygieneMarks) (more : ℕ) (at : Option ℕ) → scopes_outwards scopes more at ≡ [] → IsClosed scopes old → IsMarking scopes from text old now more at → Marks scopes (from ∷ []) text old now
marking-last scopes ordered from text old now more at none closed known = marks-whole scopes ordered from text old now closed (λ scope other. known.marks scope other ∙ ap (λ b. is_marked_in scope other old || (bytes_eq other text && b)) (all scope))
  where
    all : (scope : ℕ) → is_in scope known.passed ≡ is_around scopes from scope
    all scope = sym (or_false (is_in scope known.passed)) ∙ sym (list_any-append (λ n. n == scope) known.passed []) ∙ ap (λ xs. is_in scope (known.passed ++ xs)) (sym none) ∙ ap (is_in scope) (sym known.chain)

pub marking-outside : (scopes : List NumberedScope) → AreInOrder scopes → (from : ℕ) (text : Text) (old now : HygieneMarks) (more : ℕ) (at : Option ℕ) → at ≡ None → IsClosed scopes old → IsMarking scopes from text old now more at → Marks scopes (from ∷ []) text old now
marking-outside scopes ordered from text old now more at none = marking-last scopes ordered from text old now more at (ap (scopes_outwards scopes more) none ∙ outwards-none scopes more)

-- where it was marked already it is marked further out too
pub marking-met : (scopes : List NumberedScope) → AreInOrder scopes → (from : ℕ) (text : Text) (old now new : HygieneMarks) (more rest number : ℕ) → more ≡ suc rest → is_marked_in number text now ≡ true → new ≡ now → IsClosed scopes old → IsMarking scopes from text old now more (Some number) → Marks scopes (from ∷ []) text old new
marking-met scopes ordered from text old now new more rest number one met same closed known = subst (Marks scopes (from ∷ []) text old) (sym same) (marks-whole scopes ordered from text old now closed (λ scope other. known.marks scope other ∙ iff (is_marked_in scope other old || (bytes_eq other text && is_in scope known.passed)) (is_marked_in scope other old || (bytes_eq other text && is_around scopes from scope)) (wider scope other) (within scope other)))
  where
    split : (scope : ℕ) → is_around scopes from scope ≡ (is_in scope known.passed || is_in scope (scopes_outwards scopes more (Some number)))
    split scope = ap (is_in scope) known.chain ∙ list_any-append (λ n. n == scope) known.passed (scopes_outwards scopes more (Some number))

    wider : (scope : ℕ) (other : Text) → (is_marked_in scope other old || (bytes_eq other text && is_in scope known.passed)) ≡ true → (is_marked_in scope other old || (bytes_eq other text && is_around scopes from scope)) ≡ true
    wider scope other is = ⊎_elim (λ earlier. or_left (is_marked_in scope other old) (bytes_eq other text && is_around scopes from scope) earlier) (λ here. let both = and_parts (bytes_eq other text) (is_in scope known.passed) here in or_right (is_marked_in scope other old) (bytes_eq other text && is_around scopes from scope) (and_from (bytes_eq other text) (is_around scopes from scope) both.0 (split scope ∙ or_left (is_in scope known.passed) (is_in scope (scopes_outwards scopes more (Some number))) both.1))) (or_cases (is_marked_in scope other old) (bytes_eq other text && is_in scope known.passed) is)

    -- the number was marked before
    old_met : is_marked_in number text old ≡ true
    old_met = ⊎_elim (λ earlier. earlier) (λ here. let lt : number < number = known.above number number refl (and_parts (bytes_eq text text) (is_in number known.passed) here).1 in absurd (omega arith)) (or_cases (is_marked_in number text old) (bytes_eq text text && is_in number known.passed) (sym (known.marks number text) ∙ met))

    some : 0 < length scopes
    some = around-some scopes from number (split number ∙ or_right (is_in number known.passed) (is_in number (scopes_outwards scopes more (Some number))) (ap (λ n. is_in number (scopes_outwards scopes n (Some number))) one ∙ or_left (number == number) (is_in number (scopes_outwards scopes rest (outer_at scopes number))) (eq-eqb number number refl)))

    beyond : (scope : ℕ) (other : Text) → bytes_eq other text ≡ true → is_in scope (scopes_outwards scopes more (Some number)) ≡ true → is_marked_in scope other old ≡ true
    beyond scope other is_text is = subst (λ t. is_marked_in scope t old ≡ true) (sym (bytes_same other text is_text)) (closed number scope text old_met (around-enough scopes ordered more number scope is some))

    within : (scope : ℕ) (other : Text) → (is_marked_in scope other old || (bytes_eq other text && is_around scopes from scope)) ≡ true → (is_marked_in scope other old || (bytes_eq other text && is_in scope known.passed)) ≡ true
    within scope other is = ⊎_elim (λ earlier. or_left (is_marked_in scope other old) (bytes_eq other text && is_in scope known.passed) earlier) (λ here. let both = and_parts (bytes_eq other text) (is_around scopes from scope) here in ⊎_elim (λ passed. or_right (is_marked_in scope other old) (bytes_eq other text && is_in scope known.passed) (and_from (bytes_eq other text) (is_in scope known.passed) both.0 passed)) (λ later. or_left (is_marked_in scope other old) (bytes_eq other text && is_in scope known.passed) (beyond scope other both.0 later)) (or_cases (is_in scope known.passed) (is_in scope (scopes_outwards scopes more (Some number))) (sym (split scope) ∙ both.1))) (or_cases (is_marked_in scope other old) (bytes_eq other text && is_around scopes from scope) is)

-- marks in several scopes
pub marks-none : (scopes : List NumberedScope) (text : Text) (old : HygieneMarks) → IsClosed scopes old → Marks scopes [] text old old
marks-none scopes text old closed = record { closed = closed; marks = λ scope other. none (is_marked_in scope other old) (bytes_eq other text) }
  where
    none : (a b : Bool) → a ≡ (a || (b && false))
    none true b = refl
    none false true = refl
    none false false = refl

-- ---- knows

-- The least number.

all-to : (test : ℕ → Bool) (m : ℕ) → ((k : ℕ) → 0 < k → k < suc m → test k ≡ true) → all_to test m ≡ true
all-to test zero each = refl
all-to test (suc m) each = and_from (test (suc m)) (all_to test m) (let pos : 0 < suc m = omega arith in let lt : suc m < suc (suc m) = omega arith in each (suc m) pos lt) (all-to test m (λ k pos lt. let less : k < suc (suc m) = omega arith in each k pos less))

to-all : (test : ℕ → Bool) (m k : ℕ) → all_to test m ≡ true → 0 < k → k ≤ m → test k ≡ true
to-all test zero k all pos le = absurd (omega arith)
to-all test (suc m) k all pos le =
    let both = and_parts (test (suc m)) (all_to test m) all in
    ⊎_elim (λ e. subst (λ n. test n ≡ true) (sym e) both.0) (λ apart. ⊎_elim (λ lt. let low : k ≤ m = omega arith in to-all test m k both.1 pos low) (λ gt. absurd (omega arith)) apart) (cases_order k (suc m))

pub least-from : (test : ℕ → Bool) (last n : ℕ) → last < n → ((k : ℕ) → 0 < k → k ≤ last → test k ≡ true) → ((k : ℕ) → last < k → k < n → test k ≡ true) → test n ≡ false → is_least test n ≡ true
least-from test last zero lt low high fails = absurd (omega arith)
least-from test last (suc m) lt low high fails = and_from (not (test (suc m))) (all_to test m) (ap not fails) (all-to test m (λ k pos below. ⊎_elim (λ e. let le : k ≤ last = omega arith in low k pos le) (λ apart. ⊎_elim (λ under. let le : k ≤ last = omega arith in low k pos le) (λ over. high k over below) apart) (cases_order k last)))

-- the text of a number from one on
pub numbered-some : (text : Text) (n : ℕ) → 0 < n → numbered text n ≡ text ++ decimal n
numbered-some text zero pos = absurd (omega arith)
numbered-some text (suc n) pos = refl

least-below : (test : ℕ → Bool) (n k : ℕ) → is_least test n ≡ true → 0 < k → k < n → test k ≡ true
least-below test zero k is pos lt = absurd (omega arith)
least-below test (suc m) k is pos lt = let low : k ≤ m = omega arith in to-all test m k (and_parts (not (test (suc m))) (all_to test m) is).1 pos low

least-some : (test : ℕ → Bool) (n : ℕ) → is_least test n ≡ true → (n == 0) ≡ false
least-some test zero is = absurd (false≢true is)
least-some test (suc m) is = ne_eqb (suc m) 0 (λ e. absurd (omega (arith, e)))

all-same : (p q : ℕ → Bool) → ((k : ℕ) → p k ≡ q k) → (n : ℕ) → all_to p n ≡ all_to q n
all-same p q same zero = refl
all-same p q same (suc n) = ap₂ (λ (a : Bool) (b : Bool). a && b) (same (suc n)) (all-same p q same n)

least-same : (p q : ℕ → Bool) → ((k : ℕ) → p k ≡ q k) → (n : ℕ) → is_least p n ≡ is_least q n
least-same p q same zero = refl
least-same p q same (suc n) = ap₂ (λ (a : Bool) (b : Bool). not a && b) (same (suc n)) (all-same p q same n)

-- One more binding.

-- whether an occurrence needs the symbol of the next one
abbrev needs_next : Facts → Turn → Text → Denoted → Bool
needs_next facts turn text o = (keeps_symbol turn && bytes_eq (binding_symbol facts turn.binding) text) && denotes turn.binding o

needs-more : (facts : Facts) (done : List Turn) (turn : Turn) (text : Text) (o : Denoted) → needs facts (done ++ turn ∷ []) text o ≡ (needs facts done text o || needs_next facts turn text o)
needs-more facts done turn text o = by (symbol_by (slice_get facts.items o.place)) o.binding
  where
    none : (a b : Bool) → a ≡ (a || (b && false))
    none true b = refl
    none false true = refl
    none false false = refl

    apart : (a b k c : Bool) → (a && (b || (k && false))) ≡ ((a && b) || ((k && c) && false))
    apart true true k c = refl
    apart true false true true = refl
    apart true false true false = refl
    apart true false false c = refl
    apart false b true true = refl
    apart false b true false = refl
    apart false b false c = refl

    joined : (a b k : Bool) → (a && (b || (k && true))) ≡ ((a && b) || ((k && a) && true))
    joined true true k = refl
    joined true false true = refl
    joined true false false = refl
    joined false b true = refl
    joined false b false = refl

    own : (x : ℕ) (t : Bool) → (turn.binding == x) ≡ t → (bytes_eq (binding_symbol facts x) text && (list_any (keeps_own x) done || (keeps_symbol turn && t))) ≡ ((bytes_eq (binding_symbol facts x) text && list_any (keeps_own x) done) || ((keeps_symbol turn && bytes_eq (binding_symbol facts turn.binding) text) && t))
    own x false e = apart (bytes_eq (binding_symbol facts x) text) (list_any (keeps_own x) done) (keeps_symbol turn) (bytes_eq (binding_symbol facts turn.binding) text)
    own x true e = joined (bytes_eq (binding_symbol facts x) text) (list_any (keeps_own x) done) (keeps_symbol turn) ∙ ap (λ y. (bytes_eq (binding_symbol facts x) text && list_any (keeps_own x) done) || ((keeps_symbol turn && bytes_eq (binding_symbol facts y) text) && true)) (sym (eqb-true turn.binding x e))

    by : (s : Option Text) (b : Option ℕ) → needs_by facts (done ++ turn ∷ []) text s b ≡ (needs_by facts done text s b || ((keeps_symbol turn && bytes_eq (binding_symbol facts turn.binding) text) && is_this_number turn.binding b))
    by s None = none (is_symbol text s) (keeps_symbol turn && bytes_eq (binding_symbol facts turn.binding) text)
    by s (Some x) =
        ap (λ b. bytes_eq (binding_symbol facts x) text && b) (any_more (keeps_own x) done turn)
        ∙ own x (turn.binding == x) refl
        ∙ ap (λ b. (bytes_eq (binding_symbol facts x) text && list_any (keeps_own x) done) || ((keeps_symbol turn && bytes_eq (binding_symbol facts turn.binding) text) && b)) (eq_comm turn.binding x)

uses-any : (scopes : List NumberedScope) (scope number : ℕ) (c : Bool) (occurrences : List Denoted) → list_any (λ (o : Denoted). is_around scopes o.scope scope && (c && denotes number o)) occurrences ≡ (c && list_any (λ from. is_around scopes from scope) (binding_scopes occurrences number))
uses-any scopes scope number true [] = refl
uses-any scopes scope number false [] = refl
uses-any scopes scope number c (o ∷ rest) = ap (λ b. (is_around scopes o.scope scope && (c && denotes number o)) || b) (uses-any scopes scope number c rest) ∙ by (denotes number o) c
  where
    none : (a : Bool) → (a && false) ≡ false
    none true = refl
    none false = refl

    one : (a : Bool) → (a && true) ≡ a
    one true = refl
    one false = refl

    by : (d : Bool) (c : Bool) → ((is_around scopes o.scope scope && (c && d)) || (c && list_any (λ from. is_around scopes from scope) (binding_scopes rest number))) ≡ (c && list_any (λ from. is_around scopes from scope) (map (λ (occurrence : Denoted). occurrence.scope) (cond d (o ∷ filter (denotes number) rest) (filter (denotes number) rest))))
    by true true = ap (λ b. b || list_any (λ from. is_around scopes from scope) (binding_scopes rest number)) (one (is_around scopes o.scope scope))
    by true false = ap (λ b. b || false) (none (is_around scopes o.scope scope))
    by false true = ap (λ b. b || list_any (λ from. is_around scopes from scope) (binding_scopes rest number)) (none (is_around scopes o.scope scope))
    by false false = ap (λ b. b || false) (none (is_around scopes o.scope scope))

needed-more : (facts : Facts) (done : List Turn) (turn : Turn) (scope : ℕ) (text : Text) → is_symbol_needed facts (done ++ turn ∷ []) scope text ≡ (is_symbol_needed facts done scope text || ((keeps_symbol turn && bytes_eq (binding_symbol facts turn.binding) text) && list_any (λ from. is_around facts.scopes from scope) (binding_scopes facts.occurrences turn.binding)))
needed-more facts done turn scope text =
    any_same (needs_in facts (done ++ turn ∷ []) scope text) (λ o. needs_in facts done scope text o || (is_around facts.scopes o.scope scope && needs_next facts turn text o)) (λ o. ap (λ b. is_around facts.scopes o.scope scope && b) (needs-more facts done turn text o) ∙ spread (is_around facts.scopes o.scope scope) (needs facts done text o) (needs_next facts turn text o)) facts.occurrences
    ∙ any_or (needs_in facts done scope text) (λ o. is_around facts.scopes o.scope scope && needs_next facts turn text o) facts.occurrences
    ∙ ap (λ b. is_symbol_needed facts done scope text || b) (uses-any facts.scopes scope turn.binding (keeps_symbol turn && bytes_eq (binding_symbol facts turn.binding) text) facts.occurrences)
  where
    spread : (a b c : Bool) → (a && (b || c)) ≡ ((a && b) || (a && c))
    spread true b c = refl
    spread false b c = refl

-- whether a binding may keep its symbol, by what is known
pub may-same : (facts : Facts) (done : List Turn) (hygiene : Hygiene) → Knows facts done hygiene → (number : ℕ) → may_keep_by hygiene (home_number facts number) (group_number facts.scopes (home_number facts number)) (binding_symbol facts number) ≡ may_keep_symbol facts done number
may-same facts done hygiene known number = ap₂ (λ (a : Bool) (b : Bool). not (is_arguments (binding_symbol facts number)) && not a && not b) (known.kept (group_number facts.scopes (home_number facts number)) (binding_symbol facts number)) (known.needed (home_number facts number) (binding_symbol facts number))

taken-same : (facts : Facts) (done : List Turn) (hygiene : Hygiene) → Knows facts done hygiene → (text : Text) → has_taken hygiene text ≡ is_text_taken facts done text
taken-same facts done hygiene known text = ap₂ (λ (a : Bool) (b : Bool). a || b) (known.symbols text) (known.given text)

-- the next binding keeps its symbol
abbrev pub kept_turn : ℕ → Turn
kept_turn number = record { binding = number; number = 0 }

pub keeps-next : (facts : Facts) (done : List Turn) (old new : Hygiene) (number : ℕ) → Knows facts done old → may_keep_by old (home_number facts number) (group_number facts.scopes (home_number facts number)) (binding_symbol facts number) ≡ true → KeepsItsSymbol facts.scopes (group_number facts.scopes (home_number facts number)) (binding_symbol facts number) (binding_scopes facts.occurrences number) old new → (is_right facts done (kept_turn number) ≡ true) × Knows facts (done ++ kept_turn number ∷ []) new
keeps-next facts done old new number known may kept = (
  ap (λ b. cond b true (is_least (λ k. is_text_taken facts done (numbered (binding_symbol facts number) k)) 0)) (sym (may-same facts done old known number) ∙ may),
  record {
    symbols = λ text. ap (λ ks. list_any (λ key. bytes_eq text key.now) ks) kept.symbols ∙ known.symbols text;
    needed = λ scope text. marked.marks scope text ∙ ap₂ (λ (a : Bool) (b : Bool). a || (b && list_any (λ from. is_around facts.scopes from scope) (binding_scopes facts.occurrences number))) (known.needed scope text) (bytes_comm text (binding_symbol facts number)) ∙ sym (needed-more facts done (kept_turn number) scope text);
    closed = marked.closed;
    kept = λ group text. kept.kept group text ∙ ap₂ (λ (a : Bool) (b : Bool). a || b) (known.kept group text) (ap₂ (λ (a : Bool) (b : Bool). a && b) (eq_comm group (group_number facts.scopes (home_number facts number))) (bytes_comm text (binding_symbol facts number))) ∙ sym (any_more (keeps_in facts group text) done (kept_turn number));
    given = λ text. ap (λ ks. list_any (λ key. bytes_eq text (string_bytes key)) ks) kept.given ∙ known.given text ∙ sym (or_false (list_any (gets facts text) done)) ∙ sym (any_more (gets facts text) done (kept_turn number));
    tried = λ text k pos le. taken (numbered text k) ∙ known.tried text k pos (subst (λ n. k ≤ n) (kept.last text) le);
  },
)
  where
    marked : Marks facts.scopes (binding_scopes facts.occurrences number) (binding_symbol facts number) (needed_by old) (needed_by new)
    marked = kept.needed known.closed

    taken : (text : Text) → has_taken new text ≡ has_taken old text
    taken text = ap₂ (λ (a : Bool) (b : Bool). a || b) (ap (λ ks. list_any (λ key. bytes_eq text key.now) ks) kept.symbols) (ap (λ ks. list_any (λ key. bytes_eq text (string_bytes key)) ks) kept.given)

-- or it gets a number
abbrev pub given_turn : ℕ → ℕ → Turn
given_turn binding number = record { binding = binding; number = number }

pub gives-next : (facts : Facts) (done : List Turn) (old new : Hygiene) (number n : ℕ) → Knows facts done old → may_keep_by old (home_number facts number) (group_number facts.scopes (home_number facts number)) (binding_symbol facts number) ≡ false → GivesText (binding_symbol facts number) n old new → (is_right facts done (given_turn number n) ≡ true) × Knows facts (done ++ given_turn number n ∷ []) new × ((n == 0) ≡ false)
gives-next facts done old new number n known may gives = (
  ap (λ b. cond b (keeps_symbol (given_turn number n)) (is_least (λ k. is_text_taken facts done (numbered (binding_symbol facts number) k)) n)) (sym (may-same facts done old known number) ∙ may) ∙ least-same (λ k. is_text_taken facts done (numbered (binding_symbol facts number) k)) (λ k. has_taken old (numbered (binding_symbol facts number) k)) (λ k. sym (taken-same facts done old known (numbered (binding_symbol facts number) k))) n ∙ least,
  record {
    symbols = λ text. ap (λ ks. list_any (λ key. bytes_eq text key.now) ks) gives.symbols ∙ known.symbols text;
    needed = λ scope text. ap (is_marked_in scope text) gives.needed ∙ known.needed scope text ∙ sym (or_false (is_symbol_needed facts done scope text)) ∙ ap (λ b. is_symbol_needed facts done scope text || ((b && bytes_eq (binding_symbol facts number) text) && list_any (λ from. is_around facts.scopes from scope) (binding_scopes facts.occurrences number))) (sym some) ∙ sym (needed-more facts done (given_turn number n) scope text);
    closed = subst (IsClosed facts.scopes) (sym gives.needed) known.closed;
    kept = λ group text. ap (is_marked_in group text) gives.kept ∙ known.kept group text ∙ sym (or_false (is_kept facts done group text)) ∙ ap (λ b. is_kept facts done group text || (b && (group_number facts.scopes (home_number facts number) == group && bytes_eq (binding_symbol facts number) text))) (sym some) ∙ sym (any_more (keeps_in facts group text) done (given_turn number n));
    given = λ text. gives.given text ∙ ap₂ (λ (a : Bool) (b : Bool). a || b) (known.given text) (bytes_comm text (numbered (binding_symbol facts number) n) ∙ ap (λ b. not b && bytes_eq (numbered (binding_symbol facts number) n) text) (sym some)) ∙ sym (any_more (gets facts text) done (given_turn number n));
    tried = tried;
  },
  some,
)
  where
    least : is_least (λ k. has_taken old (numbered (binding_symbol facts number) k)) n ≡ true
    least = gives.is_least (known.tried (binding_symbol facts number))

    some : (n == 0) ≡ false
    some = least-some (λ k. has_taken old (numbered (binding_symbol facts number) k)) n least

    stays : (text : Text) → has_taken old text ≡ true → has_taken new text ≡ true
    stays text is = ⊎_elim (λ before. or_left (has_symbol new text) (has_given new text) (ap (λ ks. list_any (λ key. bytes_eq text key.now) ks) gives.symbols ∙ before)) (λ given. or_right (has_symbol new text) (has_given new text) (gives.given text ∙ or_left (has_given old text) (bytes_eq text (numbered (binding_symbol facts number) n)) given)) (or_cases (has_symbol old text) (has_given old text) is)

    now_given : has_taken new (numbered (binding_symbol facts number) n) ≡ true
    now_given = or_right (has_symbol new (numbered (binding_symbol facts number) n)) (has_given new (numbered (binding_symbol facts number) n)) (gives.given (numbered (binding_symbol facts number) n) ∙ or_right (has_given old (numbered (binding_symbol facts number) n)) (bytes_eq (numbered (binding_symbol facts number) n) (numbered (binding_symbol facts number) n)) (same_bytes (numbered (binding_symbol facts number) n) (numbered (binding_symbol facts number) n) refl))

    own : (k : ℕ) → 0 < k → k ≤ n → has_taken new (numbered (binding_symbol facts number) k) ≡ true
    own k pos le = ⊎_elim (λ e. subst (λ m. has_taken new (numbered (binding_symbol facts number) m) ≡ true) (sym e) now_given) (λ apart. ⊎_elim (λ below. stays (numbered (binding_symbol facts number) k) (least-below (λ m. has_taken old (numbered (binding_symbol facts number) m)) n k least pos below)) (λ above. absurd (omega arith)) apart) (cases_order k n)

    reach : (text : Text) (t : Bool) → bytes_eq (binding_symbol facts number) text ≡ t → (k : ℕ) → k ≤ last_of new text → k ≤ cond t n (last_of old text)
    reach text t is k le = let most : last_of new text ≤ cond t n (last_of old text) = subst (λ b. last_of new text ≤ cond b n (last_of old text)) is (gives.last text) in omega (arith, le, most)

    tried : (text : Text) → AreTried new text
    tried text = by (bytes_eq (binding_symbol facts number) text) refl
      where
        by : (t : Bool) → bytes_eq (binding_symbol facts number) text ≡ t → AreTried new text
        by true is k pos le = subst (λ t. has_taken new (numbered t k) ≡ true) (bytes_same (binding_symbol facts number) text is) (own k pos (reach text true is k le))
        by false is k pos le = stays (numbered text k) (known.tried text k pos (reach text false is k le))

-- the last numbers that were tried, once one of them is another
pub last-next : (symbols : List Symbol) (old new : List ℕ) (text other : Text) (symbol n : ℕ) → number_in_mark symbols text ≡ Some symbol → ((i : ℕ) → slice_get new i ≡ option_map (cond (symbol == i) n) (slice_get old i)) → last_by new (number_in_mark symbols other) ≤ cond (bytes_eq text other) n (last_by old (number_in_mark symbols other))
last-next symbols old new text other symbol n is sets = by (number_in_mark symbols other) refl
  where
    most : (t : Bool) (same : t ≡ bytes_eq text other) (v : Option ℕ) → unwrap_or (option_map (cond t n) v) 0 ≤ cond (bytes_eq text other) n (unwrap_or v 0)
    most t same None = omega arith
    most t same (Some v) = subst (λ b. cond t n v ≤ cond b n v) same (omega arith)

    by : (o : Option ℕ) → number_in_mark symbols other ≡ o → last_by new o ≤ cond (bytes_eq text other) n (last_by old o)
    by None e = omega arith
    by (Some i) e = subst (λ x. unwrap_or x 0 ≤ cond (bytes_eq text other) n (unwrap_or (slice_get old i) 0)) (sym (sets i)) (most (symbol == i) (same-symbols symbols text other symbol i is e) (slice_get old i))

-- ---- pigeons

-- a list without what stands at a place
abbrev without : {Y : Type 0} → ℕ → List Y → List Y
without i [] = []
without zero (y ∷ ys) = ys
without (suc i) (y ∷ ys) = y ∷ without i ys

shorter : {Y : Type 0} (i : ℕ) (ys : List Y) (y : Y) → slice_get ys i ≡ Some y → length ys ≡ suc (length (without i ys))
shorter i [] y at = absurd (none-some y at)
shorter zero (z ∷ ys) y at = refl
shorter (suc i) (z ∷ ys) y at = ap suc (shorter i ys y at)

-- what stands elsewhere stays
stays : {Y : Type 0} (i j : ℕ) (ys : List Y) (y : Y) → i ≢ j → slice_get ys j ≡ Some y → (k : ℕ) × (slice_get (without i ys) k ≡ Some y)
stays i j [] y other at = absurd (none-some y at)
stays zero zero (z ∷ ys) y other at = absurd (other refl)
stays zero (suc j) (z ∷ ys) y other at = (j, at)
stays (suc i) zero (z ∷ ys) y other at = (0, at)
stays (suc i) (suc j) (z ∷ ys) y other at = let rest = stays i j ys y (λ e. other (ap suc e)) at in (suc rest.0, rest.1)

once-rest : {X : Type 0} (x : X) (xs : List X) → IsOnce (x ∷ xs) → IsOnce xs
once-rest x xs once i j y one two = let same : suc i ≡ suc j = once (suc i) (suc j) y one two in omega (arith, same)

pub pigeons : {X Y : Type 0} (R : X → Y → Type 0) → ((a b : X) (y : Y) → R a y → R b y → a ≡ b) → (xs : List X) (ys : List Y) → IsOnce xs → ((i : ℕ) (x : X) → slice_get xs i ≡ Some x → (j : ℕ) × (y : Y) × (slice_get ys j ≡ Some y) × R x y) → length xs ≤ length ys
pigeons R one [] ys once beside = omega arith
pigeons {Y = Y} R one (x ∷ xs) ys once beside =
    let here = beside 0 x refl in
    let fewer = pigeons R one xs (without here.0 ys) (once-rest x xs once) (λ i a at. let there = beside (suc i) a at in rest i a at there.0 there.1 there.2 there.3) in
    let len = shorter here.0 ys here.1 here.2 in
    omega (arith, fewer, len)
  where
    rest : (i : ℕ) (a : _) → slice_get xs i ≡ Some a → (j : ℕ) (y : Y) → slice_get ys j ≡ Some y → R a y → (k : ℕ) × (z : Y) × (slice_get (without (beside 0 x refl).0 ys) k ≡ Some z) × R a z
    rest i a at j y there is =
        let here = beside 0 x refl in
        let apart : here.0 ≢ j = λ e. differ i a at (one a x y is (subst (R x) (same_Some here.1 y (sym here.2 ∙ ap (slice_get ys) e ∙ there)) here.3)) in
        let kept = stays here.0 j ys y apart there in
        (kept.0, y, kept.1, is)
      where
        differ : (i : ℕ) (a : _) → slice_get xs i ≡ Some a → a ≢ x
        differ i a at e = let same : suc i ≡ 0 = once (suc i) 0 x (at ∙ ap (λ z. Some z) e) refl in absurd (omega (arith, same))

-- ---- uses

-- how far occurrences were linked
pub record AreLinked (occurrences : List Denoted) (count passed : ℕ) (last before : List (Option ℕ)) : Type 0 where
  pub len : length before ≡ passed
  pub counted : length last ≡ count
  pub last_is : (binding : ℕ) → binding < count → IsLastUse occurrences binding passed (at last binding)
  pub before_is : (binding number : ℕ) (o : Denoted) → binding < count → number < passed → slice_get occurrences number ≡ Some o → denotes binding o ≡ true → IsLastUse occurrences binding number (at before number)

none-last : (occurrences : List Denoted) (binding : ℕ) → IsLastUse occurrences binding 0 None
none-last occurrences binding = record { uses = refl; within = λ number is. absurd (none-some number is); own = λ number is. absurd (none-some number is) }

pub linked-first : (occurrences : List Denoted) (count : ℕ) (last before : List (Option ℕ)) → ((number : ℕ) → at last number ≡ None) → length last ≡ count → before ≡ [] → AreLinked occurrences count 0 last before
linked-first occurrences count last before is long none = record {
  len = ap length none;
  counted = long;
  last_is = λ binding lt. subst (IsLastUse occurrences binding 0) (sym (is binding)) (none-last occurrences binding);
  before_is = λ binding number o lt low. absurd (omega arith);
}

-- a place in a list with one more at its end
push-before : (xs : List (Option ℕ)) (y : Option ℕ) (i : ℕ) → i < length xs → at (xs ++ y ∷ []) i ≡ at xs i
push-before [] y i lt = absurd (omega arith)
push-before (x ∷ xs) y zero lt = refl
push-before (x ∷ xs) y (suc i) lt = push-before xs y i (omega arith)

push-last : (xs : List (Option ℕ)) (y : Option ℕ) (i : ℕ) → i ≡ length xs → at (xs ++ y ∷ []) i ≡ y
push-last [] y zero e = refl
push-last [] y (suc i) e = absurd (omega arith)
push-last (x ∷ xs) y zero e = absurd (omega arith)
push-last (x ∷ xs) y (suc i) e = push-last xs y i (omega arith)

number-is : (number : ℕ) (binding : Option ℕ) → is_this_number number binding ≡ true → binding ≡ Some number
number-is number None is = absurd (false≢true is)
number-is number (Some other) is = ap (λ n. Some n) (eqb-true other number is)

-- the last occurrence of a binding, once one more was gone over
last-next_uses : (occurrences : List Denoted) (binding passed : ℕ) (o : Denoted) (old new : Option ℕ) → slice_get occurrences passed ≡ Some o → new ≡ cond (is_this_number binding o.binding) (Some passed) old → IsLastUse occurrences binding passed old → IsLastUse occurrences binding (suc passed) new
last-next_uses occurrences binding passed o old new is_at is known = by (is_this_number binding o.binding) refl
  where
    by : (t : Bool) → is_this_number binding o.binding ≡ t → IsLastUse occurrences binding (suc passed) new
    by true own = subst (IsLastUse occurrences binding (suc passed)) (sym (is ∙ ap (λ t. cond t (Some passed) old) own)) (record {
      uses = refl;
      within = λ number found. let same : passed ≡ number = same_Some passed number found in omega arith;
      own = λ number found. let same : passed ≡ number = same_Some passed number found in (o, subst (λ n. slice_get occurrences n ≡ Some o) same is_at, own);
    })
    by false other = subst (IsLastUse occurrences binding (suc passed)) (sym (is ∙ ap (λ t. cond t (Some passed) old) other)) (record {
      uses = uses-more occurrences passed binding o is_at ∙ ap (λ t. binding_scopes (take passed occurrences) binding ++ cond t (o.scope ∷ []) []) other ∙ append-nil (binding_scopes (take passed occurrences) binding) ∙ known.uses;
      within = λ number found. let lt = known.within number found in omega (arith, lt);
      own = known.own;
    })

-- one occurrence more is linked
pub linked-next : (occurrences : List Denoted) (count passed : ℕ) (o : Denoted) (found : Option ℕ) (last before new_last new_before : List (Option ℕ)) → slice_get occurrences passed ≡ Some o → ((its : ℕ) → o.binding ≡ Some its → found ≡ at last its) → ((other : ℕ) → other < length last → at new_last other ≡ cond (is_this_number other o.binding) (Some passed) (at last other)) → length new_last ≡ length last → new_before ≡ before ++ found ∷ [] → length new_before ≡ suc (length before) → AreLinked occurrences count passed last before → AreLinked occurrences count (suc passed) new_last new_before
linked-next occurrences count passed o found last before new_last new_before is_at is_found lasts long befores more known = record {
  len = more ∙ ap suc known.len;
  counted = long ∙ known.counted;
  last_is = λ binding lt. last-next_uses occurrences binding passed o (at last binding) (at new_last binding) is_at (lasts binding (subst (λ n. binding < n) (sym known.counted) lt)) (known.last_is binding lt);
  before_is = λ binding number other lt low is_other own. ⊎_elim (λ here. latest binding number other lt here is_other own) (λ apart. ⊎_elim (λ below. subst (IsLastUse occurrences binding number) (sym (ap (λ l. at l number) befores ∙ push-before before found number (subst (λ n. number < n) (sym known.len) below))) (known.before_is binding number other lt below is_other own)) (λ above. absurd (omega arith)) apart) (cases_order number passed);
}
  where
    latest : (binding number : ℕ) (other : Denoted) → binding < count → number ≡ passed → slice_get occurrences number ≡ Some other → denotes binding other ≡ true → IsLastUse occurrences binding number (at new_before number)
    latest binding number other lt here is_other own =
        let same : o ≡ other = same_Some o other (sym is_at ∙ ap (slice_get occurrences) (sym here) ∙ is_other) in
        let its : o.binding ≡ Some binding = number-is binding o.binding (ap (denotes binding) same ∙ own) in
        subst (λ n. IsLastUse occurrences binding n (at new_before number)) (sym here) (subst (IsLastUse occurrences binding passed) (sym (ap (λ l. at l number) befores ∙ push-last before found number (here ∙ sym known.len) ∙ is_found binding its)) (known.last_is binding lt))

-- all were linked
pub linked-last : (occurrences : List Denoted) (count passed : ℕ) (uses : Uses) → passed ≡ length occurrences → AreLinked occurrences count passed uses.last.items uses.before.items → AreUses occurrences uses
linked-last occurrences count passed uses e known = record {
  last = λ binding lt. subst (λ n. IsLastUse occurrences binding n (at uses.last.items binding)) e (known.last_is binding (subst (λ n. binding < n) known.counted lt));
  before = λ binding number o lt is_at own. known.before_is binding number o (subst (λ n. binding < n) known.counted lt) (subst (λ n. number < n) (sym e) (slice_get_within occurrences number o is_at)) is_at own;
}

-- Marks in the scopes of a binding's occurrences, from the last one on.

pub marks-before : (scopes : List NumberedScope) (uses : List ℕ) (from : ℕ) (text : Text) (old now new : HygieneMarks) → Marks scopes uses text old now → Marks scopes (from ∷ []) text now new → Marks scopes (from ∷ uses) text old new
marks-before scopes uses from text old now new first second = record {
  closed = second.closed;
  marks = λ scope other. second.marks scope other ∙ ap (λ b. b || (bytes_eq other text && (is_around scopes from scope || false))) (first.marks scope other) ∙ join (is_marked_in scope other old) (bytes_eq other text) (list_any (λ u. is_around scopes u scope) uses) (is_around scopes from scope);
}
  where
    join : (a b c d : Bool) → ((a || (b && c)) || (b && (d || false))) ≡ (a || (b && (d || c)))
    join true b c d = refl
    join false true true true = refl
    join false true true false = refl
    join false true false d = refl
    join false false c d = refl

-- how far a symbol is marked
pub record IsMarkedFrom (scopes : List NumberedScope) (occurrences : List Denoted) (binding : ℕ) (text : Text) (old now : HygieneMarks) (more : ℕ) (found : Option ℕ) : Type 0 where
  pub left : ℕ
  pub low : left ≤ more
  pub last : IsLastUse occurrences binding left found
  pub passed : List ℕ
  pub whole : binding_scopes occurrences binding ≡ binding_scopes (take left occurrences) binding ++ passed
  pub marks : Marks scopes passed text old now

pub marked-first : (scopes : List NumberedScope) (occurrences : List Denoted) (binding : ℕ) (text : Text) (old : HygieneMarks) (more : ℕ) (found : Option ℕ) → more ≡ length occurrences → IsLastUse occurrences binding (length occurrences) found → IsClosed scopes old → IsMarkedFrom scopes occurrences binding text old old more found
marked-first scopes occurrences binding text old more found e last closed = record {
  left = length occurrences;
  low = omega arith;
  last = last;
  passed = [];
  whole = ap (λ l. binding_scopes l binding) (sym (take_all (length occurrences) occurrences (omega arith))) ∙ sym (append-nil (binding_scopes (take (length occurrences) occurrences) binding));
  marks = marks-none scopes text old closed;
}

pub marked-next : (scopes : List NumberedScope) (occurrences : List Denoted) (binding : ℕ) (text : Text) (old now new : HygieneMarks) (more rest number scope : ℕ) (next : Option ℕ) → more ≡ suc rest → scope ≡ unwrap_or (option_map (λ (o : Denoted). o.scope) (slice_get occurrences number)) 0 → ((o : Denoted) → slice_get occurrences number ≡ Some o → denotes binding o ≡ true → IsLastUse occurrences binding number next) → (IsClosed scopes now → Marks scopes (scope ∷ []) text now new) → IsMarkedFrom scopes occurrences binding text old now more (Some number) → IsMarkedFrom scopes occurrences binding text old new rest next
marked-next scopes occurrences binding text old now new more rest number scope next one is_scope before marks known =
    let o : Denoted = (known.last.own number refl).0 in
    let is_at : slice_get occurrences number ≡ Some o = (known.last.own number refl).1 in
    let own : is_this_number binding o.binding ≡ true = (known.last.own number refl).2 in
    let lt : number < known.left = known.last.within number refl in
    let scope_is : o.scope ≡ scope = sym (is_scope ∙ ap (λ x. unwrap_or (option_map (λ (o : Denoted). o.scope) x) 0) is_at) in
    let low : number ≤ rest = (let below = known.low in omega (arith, below, lt, one)) in record {
      left = number;
      low = low;
      last = before o is_at own;
      passed = scope ∷ known.passed;
      whole = known.whole ∙ ap (λ l. l ++ known.passed) (known.last.uses ∙ uses-more occurrences number binding o is_at ∙ ap (λ t. binding_scopes (take number occurrences) binding ++ cond t (o.scope ∷ []) []) own ∙ ap (λ s. binding_scopes (take number occurrences) binding ++ s ∷ []) scope_is) ∙ append_assoc (binding_scopes (take number occurrences) binding) (scope ∷ []) known.passed;
      marks = marks-before scopes known.passed scope text old now new known.marks (marks known.marks.closed);
    }

-- none is left
pub marked-last : (scopes : List NumberedScope) (occurrences : List Denoted) (binding : ℕ) (text : Text) (old now : HygieneMarks) (more : ℕ) (found : Option ℕ) → (more ≡ 0) ⊎ (found ≡ None) → IsMarkedFrom scopes occurrences binding text old now more found → Marks scopes (binding_scopes occurrences binding) text old now
marked-last scopes occurrences binding text old now more found ends known = subst (λ l. Marks scopes l text old now) (sym (known.whole ∙ ap (λ l. l ++ known.passed) (none ends))) known.marks
  where
    none : (more ≡ 0) ⊎ (found ≡ None) → binding_scopes (take known.left occurrences) binding ≡ []
    none (inl e) = ap (λ n. binding_scopes (take n occurrences) binding) (let low : known.left ≤ more = known.low in let zero_left : known.left ≡ 0 = omega arith in zero_left)
    none (inr e) = known.last.uses ∙ ap (λ f. binding_scopes (take (up_to f) occurrences) binding) e
