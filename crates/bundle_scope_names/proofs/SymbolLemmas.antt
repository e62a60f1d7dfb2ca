-- What is known before the first binding has its turn.
-- The bindings that occurrences declare, in their order.
-- The symbols before any binding is named, and their numbers.
use Rattle.std.proofs.Common.{◌≡◌, ℕ, suc, ◌==◌, Bool, true, false, ◌||◌, ◌&&◌, cond, List, [], ◌∷◌, Option, Some, None, find, option_map, take, eqb-true, refl, ap, sym, ◌∙◌, subst, arith, bytes_eq, string_bytes, unwrap_or, ◌<◌, ◌≤◌, ◌+◌, ◌-◌, ◌⊎◌, inl, inr, ⊎_elim, zero, ◌++◌, length, get_or, ap₂, eq-eqb, nat_lt, not}
use Rattle.std.specs.Borrow.{Bor}
use Rattle.std.specs.Prelude.{slice_get, position}
use Rattle.std.specs.List.{list_any, Contains, IsDistinct, position_or_len}
use Rattle.std.proofs.lemmas.Bool.{false≢true, or_left, or_right, and_from, and_parts, cases_order, ne_eqb, lt-ltb, ltb-false}
use Rattle.std.proofs.lemmas.Option.{none-some, slice_get_within, slice_get-get_or, get_or_from_slice_get}
use Rattle.std.specs.List.Sorted.{IsPermutation, IsSorted}
use Rattle.std.specs.declared.cmp.Ordering.TheVariants.{Less, Equal, Greater}
use Rattle.std.specs.Ordering.{nat_cmp, ordering_then, is_lt}
use Rattle.std.proofs.lemmas.List.Sorted.{Contains-permutation, IsPermutation-sym}
use Rattle.std.proofs.lemmas.Map.Keys.{apart_from_distinct, IsDistinct-from_apart, IsDistinct-IsPermutation}
use Rattle.std.proofs.lemmas.Grind.{common_steps}
use Rattle.std.proofs.lemmas.List.Folds.{position_or_len_push}
use Rattle.bundle_syntax.specs.Item.{Item}
use Rattle.bundle_rules.specs.Nodes.{Text}
use Rattle.bundle_scope_denote.specs.declared.table.Denoted.{Denoted}
use Rattle.bundle_scope_denote.specs.Numbers.{NumberedScope}
use Rattle.bundle_scope_denote.proofs.InsertLemmas.{list_any-here, at_append}
use Rattle.bundle_tree_places.proofs.ListLemmas.{take_at}
use Rattle.bundle_scope_denote.proofs.ParameterLemmas.{list_any-same as any_same}
use Rattle.bundle_scope_denote.proofs.ChainLemmas.{slice_get-next, Keeps-append}
use Rattle.bundle_scope_names.specs.declared.hygiene.Hygiene.{Hygiene}
use Rattle.bundle_scope_names.specs.Turns.{Facts, symbol_by, binding_symbol, is_around, needs_by, needs_in, is_symbol, is_global_by, is_called_by, is_binding_called, is_before, is_this_number, declares_number, first_of, Place, ComesBefore, AreInTurn}
use Rattle.bundle_scope_names.specs.Marks.{Symbol, is_among, is_called_in, needed_by, is_marked_in, IsClosed, Marks, has_symbol, symbol_number, last_by, last_of, symbol_called, AddsNeed, AddsGlobal, Knows}
use Rattle.bundle_scope_names.proofs.HomesLemmas.{or_false, any_more, bytes_comm, same_bytes, given-or, eq_comm, either}
use Rattle.bundle_scope_names.proofs.KnowsLemmas.{has-nothing}
use Rattle.bundle_scope_names.specs.declared.hygiene.Before.{Before}
use Rattle.bundle_scope_names.specs.Called.{at}
use Rattle.bundle_scope_names.specs.Symbols.{HasSymbolNumber, HaveSymbolNumbers, AddsSymbol}

-- ---- global

-- how a set changes as a symbol is put, as the set tells it
abbrev pub PutsSymbol : Text → (old new : List (Bor Text)) → Type 0
PutsSymbol text old new = (q : Bor Text) → list_any (λ (k : Bor Text). bytes_eq q.now k.now) new ≡ cond (bytes_eq text q.now) true (list_any (λ (k : Bor Text). bytes_eq q.now k.now) old)

pub symbol-put : (text : Text) (old new : List (Bor Text)) → PutsSymbol text old new → (other : Text) → list_any (λ (k : Bor Text). bytes_eq other k.now) new ≡ (list_any (λ (k : Bor Text). bytes_eq other k.now) old || bytes_eq text other)
symbol-put text old new puts other = puts (record { ref_ptr = (0, 0); now = other }) ∙ given-or (bytes_eq text other) (list_any (λ (k : Bor Text). bytes_eq other k.now) old)

-- whether an occurrence is a global of this symbol
abbrev globals : List Item → Text → Denoted → Bool
globals items text o = is_global_by text (symbol_by (slice_get items o.place)) o.binding

-- a symbol is added, if there is one
pub among-more : (text : Text) (old new : List Symbol) (called : Option Text) (added : Text) → called ≡ Some added → PutsSymbol added old new → is_among text new ≡ (is_among text old || is_symbol text called)
among-more text old new called added is puts = symbol-put added old new puts text ∙ ap (λ s. is_among text old || is_symbol text s) (sym is)

pub among-same : (text : Text) (old : List Symbol) (called : Option Text) → called ≡ None → is_among text old ≡ (is_among text old || is_symbol text called)
among-same text old called none = sym (ap (λ s. is_among text old || is_symbol text s) none ∙ or_false (is_among text old))

-- what an occurrence is called
pub called-same : (items : List Item) (symbols : List Text) (text : Text) (o : Denoted) → is_symbol text (symbol_called symbols (symbol_by (slice_get items o.place)) o.declares o.binding) ≡ is_called_in items symbols text o
called-same items symbols text o = by o.declares o.binding
  where
    by : (d : Bool) (b : Option ℕ) → is_symbol text (symbol_called symbols (symbol_by (slice_get items o.place)) d b) ≡ is_called_by symbols text (symbol_by (slice_get items o.place)) d b
    by d None = refl
    by true (Some x) = refl
    by false (Some x) = refl

-- one occurrence more was gone over
pub called-more : (items : List Item) (symbols : List Text) (occurrences : List Denoted) (i : ℕ) (o : Denoted) (old new : List Symbol) → slice_get occurrences i ≡ Some o → ((text : Text) → is_among text new ≡ (is_among text old || is_called_in items symbols text o)) → ((text : Text) → is_among text old ≡ list_any (is_called_in items symbols text) (take i occurrences)) → (text : Text) → is_among text new ≡ list_any (is_called_in items symbols text) (take (suc i) occurrences)
called-more items symbols occurrences i o old new at adds known text = adds text ∙ ap (λ b. b || is_called_in items symbols text o) (known text) ∙ sym (any_more (is_called_in items symbols text) (take i occurrences) o) ∙ ap (list_any (is_called_in items symbols text)) (sym (take_at occurrences i o at))

-- the symbols before are there, and the globals among these occurrences were added
pub record HasGlobals (scopes : List NumberedScope) (items : List Item) (symbols : List Text) (all seen : List Denoted) (hygiene : Hygiene) : Type 0 where
  pub tells : (text : Text) → has_symbol hygiene text ≡ list_any (is_called_in items symbols text) all
  pub needed : (scope : ℕ) (text : Text) → is_marked_in scope text (needed_by hygiene) ≡ list_any (λ (o : Denoted). is_around scopes o.scope scope && is_global_by text (symbol_by (slice_get items o.place)) o.binding) seen
  pub closed : IsClosed scopes (needed_by hygiene)
  pub kept : hygiene.kept.keys ≡ []
  pub given : hygiene.given.keys ≡ []
  pub last : (symbol : ℕ) → unwrap_or (slice_get hygiene.last.items symbol) 0 ≡ 0

pub globals-first : (scopes : List NumberedScope) (items : List Item) (symbols : List Text) (all : List Denoted) (hygiene : Hygiene) → ((text : Text) → has_symbol hygiene text ≡ list_any (is_called_in items symbols text) all) → hygiene.needed.keys ≡ [] → hygiene.kept.keys ≡ [] → hygiene.given.keys ≡ [] → ((symbol : ℕ) → unwrap_or (slice_get hygiene.last.items symbol) 0 ≡ 0) → HasGlobals scopes items symbols all [] hygiene
globals-first scopes items symbols all hygiene tells needed kept given last = record {
  tells = tells;
  needed = λ scope text. has-nothing hygiene.symbols.keys scope text hygiene.needed.keys needed;
  closed = λ scope around text there is. absurd (false≢true (sym (has-nothing hygiene.symbols.keys scope text hygiene.needed.keys needed) ∙ there));
  kept = kept;
  given = given;
  last = last;
}

-- a global's symbol is one of those before
global-called : (items : List Item) (symbols : List Text) (text : Text) (o : Denoted) → globals items text o ≡ true → is_called_in items symbols text o ≡ true
global-called items symbols text o = by (symbol_by (slice_get items o.place)) o.binding
  where
    by : (s : Option Text) (b : Option ℕ) → is_global_by text s b ≡ true → is_called_by symbols text s o.declares b ≡ true
    by s None is = is
    by s (Some x) is = absurd (false≢true is)

pub globals-more : (scopes : List NumberedScope) (items : List Item) (symbols : List Text) (occurrences : List Denoted) (i : ℕ) (o : Denoted) (old new : Hygiene) → slice_get occurrences i ≡ Some o → AddsNeed scopes items o old new → HasGlobals scopes items symbols occurrences (take i occurrences) old → HasGlobals scopes items symbols occurrences (take (suc i) occurrences) new
globals-more scopes items symbols occurrences i o old new at adds known = subst (λ l. HasGlobals scopes items symbols occurrences l new) (sym (take_at occurrences i o at)) (record {
  tells = λ text. ap (is_among text) adds.symbols ∙ known.tells text;
  needed = λ scope text. adds.needed has_number known.closed scope text ∙ ap (λ b. b || (is_around scopes o.scope scope && globals items text o)) (known.needed scope text) ∙ sym (any_more (λ (x : Denoted). is_around scopes x.scope scope && globals items text x) (take i occurrences) o);
  closed = adds.closed has_number known.closed;
  kept = adds.kept ∙ known.kept;
  given = adds.given ∙ known.given;
  last = λ symbol. ap (λ l. unwrap_or (slice_get l symbol) 0) adds.last ∙ known.last symbol;
})
  where
    has_number : (text : Text) → globals items text o ≡ true → has_symbol old text ≡ true
    has_number text is = known.tells text ∙ list_any-here (is_called_in items symbols text) occurrences i o at (global-called items symbols text o is)

pub knows-first : (facts : Facts) (hygiene : Hygiene) → HasGlobals facts.scopes facts.items facts.symbols facts.occurrences facts.occurrences hygiene → Knows facts [] hygiene
knows-first facts hygiene known = record {
  symbols = known.tells;
  needed = λ scope text. known.needed scope text ∙ any_same (λ (o : Denoted). is_around facts.scopes o.scope scope && globals facts.items text o) (needs_in facts [] scope text) (λ o. ap (λ b. is_around facts.scopes o.scope scope && b) (by text (symbol_by (slice_get facts.items o.place)) o.binding)) facts.occurrences;
  closed = known.closed;
  kept = λ group text. has-nothing hygiene.symbols.keys group text hygiene.kept.keys known.kept;
  given = λ text. ap (list_any (λ key. bytes_eq text (string_bytes key))) known.given;
  tried = λ text k pos le. absurd (let none : last_of hygiene text ≡ 0 = untried (symbol_number hygiene.symbols.keys text) in omega arith);
}
  where
    untried : (symbol : Option ℕ) → last_by hygiene.last.items symbol ≡ 0
    untried None = refl
    untried (Some symbol) = known.last symbol

    none : (b : Bool) → false ≡ (b && false)
    none true = refl
    none false = refl

    by : (text : Text) (s : Option Text) (b : Option ℕ) → is_global_by text s b ≡ needs_by facts [] text s b
    by text s None = refl
    by text s (Some x) = none (bytes_eq (binding_symbol facts x) text)

-- a symbol
pub adds-one : (scopes : List NumberedScope) (from : ℕ) (symbol : Option Text) (text : Text) (old new : Hygiene) → symbol ≡ Some text → new.symbols.keys ≡ old.symbols.keys → (IsClosed scopes (needed_by old) → Marks scopes (from ∷ []) text (needed_by old) (needed_by new)) → new.kept.keys ≡ old.kept.keys → new.given.keys ≡ old.given.keys → new.last.items ≡ old.last.items → AddsGlobal scopes from symbol old new
adds-one scopes from symbol text old new is symbols marks kept given last = record {
  symbols = symbols;
  needed = λ has_number closed scope other. (marks closed).marks scope other ∙ ap (λ b. is_marked_in scope other (needed_by old) || b) (turn (bytes_eq other text) (is_around scopes from scope) ∙ ap (λ b. is_around scopes from scope && b) (bytes_comm other text) ∙ ap (λ s. is_around scopes from scope && is_symbol other s) (sym is));
  closed = λ has_number closed. (marks closed).closed;
  kept = kept;
  given = given;
  last = last;
}
  where
    turn : (a b : Bool) → (a && (b || false)) ≡ (b && a)
    turn true true = refl
    turn true false = refl
    turn false true = refl
    turn false false = refl

-- a binding that an occurrence declares has one of the symbols before
pub declared-before : (facts : Facts) (number first : ℕ) (text : Text) → first_of facts.occurrences number ≡ Some first → slice_get facts.symbols number ≡ Some text → is_before facts text ≡ true
declared-before facts number first text is named = found facts.occurrences is
  where
    called : (o : Denoted) → declares_number number o ≡ true → is_binding_called facts text o ≡ true
    called o there = by o.binding o.declares there
      where
        by : (b : Option ℕ) (d : Bool) → (d && is_this_number number b) ≡ true → is_called_by facts.symbols text (symbol_by (slice_get facts.items o.place)) d b ≡ true
        by None d e = absurd (false≢true (sym (and_false d) ∙ e))
          where
            and_false : (b : Bool) → (b && false) ≡ false
            and_false true = refl
            and_false false = refl
        by (Some x) d e = let both = and_parts d (x == number) e in
            and_from d (is_symbol text (slice_get facts.symbols x)) both.0 (ap (λ n. is_symbol text (slice_get facts.symbols n)) (eqb-true x number both.1) ∙ ap (is_symbol text) named ∙ same_bytes text text refl)

    found : (occurrences : List Denoted) → first_of occurrences number ≡ Some first → list_any (is_binding_called facts text) occurrences ≡ true
    found [] e = absurd (none-some first e)
    found (o ∷ rest) e = by (declares_number number o) refl e (λ further. found rest further)
      where
        by : (t : Bool) → declares_number number o ≡ t → option_map (λ (x : Denoted). x.place) (cond t (Some o) (find (declares_number number) rest)) ≡ Some first → (first_of rest number ≡ Some first → list_any (is_binding_called facts text) rest ≡ true) → (is_binding_called facts text o || list_any (is_binding_called facts text) rest) ≡ true
        by true there place later = or_left (is_binding_called facts text o) (list_any (is_binding_called facts text) rest) (called o there)
        by false there place later = or_right (is_binding_called facts text o) (list_any (is_binding_called facts text) rest) (later place)

-- ---- place

-- the places of the first bindings, before they are sorted
pub record ArePlaced (homes : List ℕ) (occurrences : List Denoted) (n : ℕ) (places : List Place) : Type 0 where
  pub home : (i : ℕ) (a : Place) → slice_get places i ≡ Some a → slice_get homes a.2 ≡ Some a.0
  pub first : (i : ℕ) (a : Place) → slice_get places i ≡ Some a → first_of occurrences a.2 ≡ Some a.1
  pub below : (i : ℕ) (a : Place) → slice_get places i ≡ Some a → a.2 < n
  pub all : (number first : ℕ) → number < n → first_of occurrences number ≡ Some first → (i : ℕ) × (a : Place) × (slice_get places i ≡ Some a) × (a.2 ≡ number)
  pub once : (i j : ℕ) (a b : Place) → slice_get places i ≡ Some a → slice_get places j ≡ Some b → a.2 ≡ b.2 → i ≡ j

-- a binding that no occurrence declares
pub placed-over : (homes : List ℕ) (occurrences : List Denoted) (n : ℕ) (places : List Place) → first_of occurrences n ≡ None → ArePlaced homes occurrences n places → ArePlaced homes occurrences (n + 1) places
placed-over homes occurrences n places none known = record {
  home = known.home;
  first = known.first;
  below = λ i a at. let lt : a.2 < n = known.below i a at in (omega arith);
  all = λ number first lt is. ⊎_elim (λ e. absurd (none-some first (sym none ∙ ap (first_of occurrences) (sym e) ∙ is))) (λ apart. ⊎_elim (λ low. known.all number first low is) (λ high. absurd (omega arith)) apart) (cases_order number n);
  once = known.once;
}

-- one that some does
pub placed-next : (homes : List ℕ) (occurrences : List Denoted) (n home first : ℕ) (old new : List Place) → new ≡ old ++ (home, first, n) ∷ [] → slice_get homes n ≡ Some home → first_of occurrences n ≡ Some first → ArePlaced homes occurrences n old → ArePlaced homes occurrences (n + 1) new
placed-next homes occurrences n home first old new is at_home is_first known = subst (ArePlaced homes occurrences (n + 1)) (sym is) (record {
  home = λ i a at. ⊎_elim (λ here. known.home i a here) (λ last. subst (λ (p : Place). slice_get homes p.2 ≡ Some p.0) last.1 at_home) (at_append old own i a at);
  first = λ i a at. ⊎_elim (λ here. known.first i a here) (λ last. subst (λ (p : Place). first_of occurrences p.2 ≡ Some p.1) last.1 is_first) (at_append old own i a at);
  below = λ i a at. ⊎_elim (λ here. let lt : a.2 < n = known.below i a here in (omega arith)) (λ last. let same : n ≡ a.2 = ap (λ (p : Place). p.2) last.1 in (omega arith)) (at_append old own i a at);
  all = λ number its lt is_its. ⊎_elim (λ e. (length old, own, slice_get-next old own, sym e)) (λ apart. ⊎_elim (λ low. let found = known.all number its low is_its in (found.0, found.1, Keeps-append old (own ∷ []) found.0 found.1 found.2, found.3)) (λ high. absurd (omega arith)) apart) (cases_order number n);
  once = λ i j a b at_i at_j same. once i j a b same (at_append old own i a at_i) (at_append old own j b at_j);
})
  where
    own : Place
    own = (home, first, n)

    once : (i j : ℕ) (a b : Place) → a.2 ≡ b.2 → (slice_get old i ≡ Some a) ⊎ ((i ≡ length old) × (own ≡ a)) → (slice_get old j ≡ Some b) ⊎ ((j ≡ length old) × (own ≡ b)) → i ≡ j
    once i j a b same (inl at_i) (inl at_j) = known.once i j a b at_i at_j same
    once i j a b same (inl at_i) (inr last) = let lt : a.2 < n = known.below i a at_i in let e : n ≡ b.2 = ap (λ (p : Place). p.2) last.1 in absurd (omega (arith, same, e, lt))
    once i j a b same (inr last) (inl at_j) = let lt : b.2 < n = known.below j b at_j in let e : n ≡ a.2 = ap (λ (p : Place). p.2) last.1 in absurd (omega (arith, same, e, lt))
    once i j a b same (inr first_) (inr second) = first_.0 ∙ sym second.0

-- what is in a list stands at a place
there : {X : Type 0} (xs : List X) (x : X) → Contains xs x → (i : ℕ) × (slice_get xs i ≡ Some x)
there xs x is = (is.0, slice_get-get_or xs is.0 x is.1 ∙ ap (λ y. Some y) is.2)

stands : {X : Type 0} (xs : List X) (i : ℕ) (x : X) → slice_get xs i ≡ Some x → Contains xs x
stands xs i x at = (i, slice_get_within xs i x at, get_or_from_slice_get xs i x x at)

moved : (xs ys : List Place) → IsPermutation xs ys → (i : ℕ) (x : Place) → slice_get xs i ≡ Some x → (j : ℕ) × (slice_get ys j ≡ Some x)
moved xs ys permuted i x at = there ys x (Contains-permutation xs ys x permuted (stands xs i x at))

-- what is once stays so
abbrev same_number : Place → Place → Bool
same_number a b = a.2 == b.2

distinct : (xs : List Place) → ((i j : ℕ) (a b : Place) → slice_get xs i ≡ Some a → slice_get xs j ≡ Some b → a.2 ≡ b.2 → i ≡ j) → IsDistinct same_number xs
distinct xs once = IsDistinct-from_apart same_number xs (λ i j d lt within. ne_eqb (get_or xs i d).2 (get_or xs j d).2 (λ same. let low : i < length xs = omega arith in let e : i ≡ j = once i j (get_or xs i d) (get_or xs j d) (slice_get-get_or xs i d low) (slice_get-get_or xs j d within) same in absurd (omega arith)))

once-from : (xs : List Place) → IsDistinct same_number xs → (i j : ℕ) (a b : Place) → slice_get xs i ≡ Some a → slice_get xs j ≡ Some b → a.2 ≡ b.2 → i ≡ j
once-from xs is i j a b at_i at_j same = ⊎_elim (λ e. e) (λ other. ⊎_elim (λ lt. absurd (false≢true (sym (pair i j a b at_i at_j lt) ∙ eq-eqb a.2 b.2 same))) (λ lt. absurd (false≢true (sym (pair j i b a at_j at_i lt) ∙ eq-eqb b.2 a.2 (sym same)))) other) (cases_order i j)
  where
    pair : (i j : ℕ) (a b : Place) → slice_get xs i ≡ Some a → slice_get xs j ≡ Some b → i < j → (a.2 == b.2) ≡ false
    pair i j a b at_i at_j lt = ap₂ (λ (x : Place) (y : Place). x.2 == y.2) (sym (get_or_from_slice_get xs i a a at_i)) (sym (get_or_from_slice_get xs j b a at_j)) ∙ apart_from_distinct same_number xs i j a is lt (slice_get_within xs j b at_j)

-- the order of a sort
abbrev place_cmp_lt : Place → Place → Bool
place_cmp_lt a b = is_lt (ordering_then (ordering_then (nat_cmp a.0 b.0) (nat_cmp a.1 b.1)) (nat_cmp a.2 b.2))

not_after : (a b : Place) → place_cmp_lt b a ≡ false → ComesBefore a b
not_after a b is = by (nat_lt b.0 a.0) (b.0 == a.0) (nat_lt b.1 a.1) refl refl refl is
  where
    by : (t u v : Bool) → nat_lt b.0 a.0 ≡ t → (b.0 == a.0) ≡ u → nat_lt b.1 a.1 ≡ v → is_lt (ordering_then (ordering_then (cond t Less (cond u Equal Greater)) (cond v Less (cond (b.1 == a.1) Equal Greater))) (nat_cmp b.2 a.2)) ≡ false → ComesBefore a b
    by true u v is_t is_u is_v is = absurd (false≢true (sym is))
    by false true true is_t is_u is_v is = absurd (false≢true (sym is))
    by false true false is_t is_u is_v is = inr (sym (eqb-true b.0 a.0 is_u), ltb-false b.1 a.1 is_v)
    by false false v is_t is_u is_v is = ⊎_elim (λ e. absurd (false≢true (sym is_u ∙ eq-eqb b.0 a.0 (sym e)))) (λ other. ⊎_elim (λ lt. inl lt) (λ gt. absurd (false≢true (sym is_t ∙ lt-ltb b.0 a.0 gt))) other) (cases_order a.0 b.0)

before-through : (a b c : Place) → ComesBefore a b → ComesBefore b c → ComesBefore a c
before-through a b c (inl x) (inl y) = inl (omega arith)
before-through a b c (inl x) (inr y) = inl (omega (arith, y.0))
before-through a b c (inr x) (inl y) = inl (omega (arith, x.0))
before-through a b c (inr x) (inr y) = inr (x.0 ∙ y.0, omega (arith, x.1, y.1))

abbrev AreLevel : List Place → Type 0
AreLevel xs = (k : ℕ) (d : Place) → 0 ≤ k → k + 1 < length xs → place_cmp_lt (get_or xs (k + 1) d) (get_or xs k d) ≡ false

next-one : (xs : List Place) → AreLevel xs → (i j : ℕ) (a b : Place) → j ≡ i + 1 → slice_get xs i ≡ Some a → slice_get xs j ≡ Some b → ComesBefore a b
next-one xs sorted i j a b e at_i at_j = let within : j < length xs = slice_get_within xs j b at_j in
    not_after a b (ap₂ (λ (x : Place) (y : Place). place_cmp_lt x y) (sym (ap (λ n. get_or xs n a) (sym e) ∙ get_or_from_slice_get xs j b a at_j)) (sym (get_or_from_slice_get xs i a a at_i)) ∙ sorted i a (omega arith) (omega arith))

rising : (xs : List Place) → AreLevel xs → (n i j : ℕ) (a b : Place) → j ≡ i + suc n → slice_get xs i ≡ Some a → slice_get xs j ≡ Some b → ComesBefore a b
rising xs sorted zero i j a b e at_i at_j = next-one xs sorted i j a b (omega arith) at_i at_j
rising xs sorted (suc n) i j a b e at_i at_j =
    let within : j < length xs = slice_get_within xs j b at_j in
    let low : i + suc n < length xs = omega arith in
    let middle : Place = get_or xs (i + suc n) a in
    let at_middle : slice_get xs (i + suc n) ≡ Some middle = slice_get-get_or xs (i + suc n) a low in
    before-through a middle b (rising xs sorted n i (i + suc n) a middle refl at_i at_middle) (next-one xs sorted (i + suc n) j middle b (omega arith) at_middle at_j)

-- once they are sorted they are in turn
pub placed-sorted : (homes : List ℕ) (occurrences : List Denoted) (n : ℕ) (old new : List Place) → n ≡ length homes → IsPermutation old new → IsSorted (λ (a b : Place). ordering_then (ordering_then (nat_cmp a.0 b.0) (nat_cmp a.1 b.1)) (nat_cmp a.2 b.2)) new → ArePlaced homes occurrences n old → AreInTurn homes occurrences new
placed-sorted homes occurrences n old new whole permuted sorted known = record {
  home = λ i a at. let from = moved new old (IsPermutation-sym old new permuted) i a at in known.home from.0 a from.1;
  first = λ i a at. let from = moved new old (IsPermutation-sym old new permuted) i a at in known.first from.0 a from.1;
  all = λ number first lt is. let found = known.all number first (omega arith) is in let to = moved old new permuted found.0 found.1 found.2 in (to.0, found.1, to.1, found.3);
  once = once-from new (IsDistinct-IsPermutation same_number (λ a b. eq_comm a.2 b.2) old new permuted (distinct old known.once));
  order = λ i j a b lt at_i at_j. rising new sorted (j - suc i) i j a b (omega arith) at_i at_j;
}

-- ---- symbol

-- The place of what passes a test.

place-of : {X : Type 0} (p : X → Bool) (xs : List X) (i : ℕ) → position p xs ≡ Some i → position_or_len p xs ≡ i
place-of p xs i is = grind (arith, common_steps)

place-within : {X : Type 0} (p : X → Bool) (xs : List X) (i : ℕ) → position p xs ≡ Some i → i < length xs
place-within p xs i is = grind (arith, common_steps)

place-is : {X : Type 0} (p : X → Bool) (xs : List X) (i : ℕ) → position_or_len p xs ≡ i → i < length xs → position p xs ≡ Some i
place-is p xs i e lt = grind (arith, common_steps)

-- it stays where more comes at the end
place-stays : {X : Type 0} (p : X → Bool) (xs : List X) (y : X) (i : ℕ) → position p xs ≡ Some i → position p (xs ++ y ∷ []) ≡ Some i
place-stays p xs y i is =
    let here : position_or_len p xs ≡ i = place-of p xs i is in
    let lt : i < length xs = place-within p xs i is in
    let same : position_or_len p (xs ++ y ∷ []) ≡ i = grind (arith, common_steps) in
    let within : i < length (xs ++ y ∷ []) = grind (arith, common_steps) in
    place-is p (xs ++ y ∷ []) i same within

-- what passes it is put at the end, if nothing else passes it
place-put : {X : Type 0} (p : X → Bool) (xs : List X) (y : X) (i : ℕ) → p y ≡ true → position_or_len p xs ≡ i → i < length (xs ++ y ∷ []) → position p (xs ++ y ∷ []) ≡ Some i
place-put p xs y i passes here lt =
    let same : position_or_len p (xs ++ y ∷ []) ≡ i = position_or_len_push p xs y ∙ ap (λ b. cond (position_or_len p xs == length xs) (length xs + cond b 0 1) (position_or_len p xs)) passes ∙ join (position_or_len p xs) (length xs) ∙ here in
    place-is p (xs ++ y ∷ []) i same lt
  where
    join : (a b : ℕ) → cond (a == b) (b + 0) a ≡ a
    join a b = grind arith

-- what passes it is there
place-found : {X : Type 0} (p : X → Bool) (xs : List X) → list_any p xs ≡ true → position_or_len p xs < length xs
place-found p [] any = absurd (false≢true any)
place-found p (x ∷ xs) any = by (p x) any (place-found p xs)
  where
    by : (b : Bool) → (b || list_any p xs) ≡ true → (list_any p xs ≡ true → position_or_len p xs < length xs) → cond (not b) (1 + position_or_len p xs) 0 < suc (length xs)
    by true here later = omega arith
    by false here later = let lt : position_or_len p xs < length xs = later here in omega arith

-- a symbol that is there has a number
pub no-number : (keys : List Symbol) (text : Text) → symbol_number keys text ≡ None → is_among text keys ≡ true → ⊥
no-number keys text none there = none-some (position_or_len (λ (k : Symbol). bytes_eq text k.now) keys) (sym none ∙ place-is (λ (k : Symbol). bytes_eq text k.now) keys (position_or_len (λ (k : Symbol). bytes_eq text k.now) keys) refl (place-found (λ (k : Symbol). bytes_eq text k.now) keys there))

-- The numbers of symbols, once one is put.

-- whether a symbol is another
abbrev is_same : Symbol → Symbol → Bool
is_same a b = bytes_eq a.now b.now

abbrev put : List Symbol → Symbol → List Symbol
put keys key = cond (list_any (is_same key) keys) keys (keys ++ key ∷ [])

number-stays : (keys new : List Symbol) (key : Symbol) (text : Text) (i : ℕ) → new ≡ put keys key → symbol_number keys text ≡ Some i → symbol_number new text ≡ Some i
number-stays keys new key text i puts is = ap (λ l. symbol_number l text) puts ∙ by (list_any (is_same key) keys)
  where
    by : (b : Bool) → symbol_number (cond b keys (keys ++ key ∷ [])) text ≡ Some i
    by true = is
    by false = place-stays (λ (k : Symbol). bytes_eq text k.now) keys key i is

number-put : (keys new : List Symbol) (key : Symbol) (i : ℕ) → new ≡ put keys key → position_or_len (is_same key) keys ≡ i → i < length new → symbol_number new key.now ≡ Some i
number-put keys new key i puts is lt = ap (λ l. symbol_number l key.now) puts ∙ by (list_any (is_same key) keys) (subst_lt puts lt)
  where
    subst_lt : new ≡ put keys key → i < length new → i < length (put keys key)
    subst_lt e l = rw (← e) l

    by : (b : Bool) → i < length (cond b keys (keys ++ key ∷ [])) → symbol_number (cond b keys (keys ++ key ∷ [])) key.now ≡ Some i
    by true within = place-is (is_same key) keys i is within
    by false within = place-put (is_same key) keys key i (same_bytes key.now key.now refl) is within

-- An occurrence is gone over.

-- that declares a binding has its symbol
declared-symbol : (items : List Item) (texts : List Text) (o : Denoted) (binding : ℕ) (text : Text) → symbol_called texts (symbol_by (slice_get items o.place)) o.declares o.binding ≡ Some text → declares_number binding o ≡ true → unwrap_or (slice_get texts binding) [] ≡ text
declared-symbol items texts o binding text is own = by o.declares o.binding own is
  where
    by : (d : Bool) (b : Option ℕ) → (d && is_this_number binding b) ≡ true → symbol_called texts (symbol_by (slice_get items o.place)) d b ≡ Some text → unwrap_or (slice_get texts binding) [] ≡ text
    by true None there called = absurd (false≢true there)
    by true (Some other) there called = ap (λ n. unwrap_or (slice_get texts n) []) (sym (eqb-true other binding there)) ∙ ap (λ t. unwrap_or t []) called
    by false b there called = absurd (false≢true there)

-- what is called and does not declare a binding does not denote it
not-declared : (items : List Item) (texts : List Text) (o : Denoted) (binding : ℕ) (text : Text) → symbol_called texts (symbol_by (slice_get items o.place)) o.declares o.binding ≡ Some text → declares_number binding o ≡ false → is_this_number binding o.binding ≡ false
not-declared items texts o binding text is none = by o.declares o.binding none is
  where
    by : (d : Bool) (b : Option ℕ) → (d && is_this_number binding b) ≡ false → symbol_called texts (symbol_by (slice_get items o.place)) d b ≡ Some text → is_this_number binding b ≡ false
    by true b there called = there
    by false None there called = refl
    by false (Some other) there called = absurd (none-some text called)

is-own : (binding : ℕ) (d : Bool) (b : Option ℕ) → (d && is_this_number binding b) ≡ true → is_this_number binding b ≡ true
is-own binding d b own = (and_parts d (is_this_number binding b) own).1

-- it has a symbol
pub adds-symbol : (items : List Item) (texts : List Text) (o : Denoted) (old new : Before) (key : Symbol) (number : ℕ) → symbol_called texts (symbol_by (slice_get items o.place)) o.declares o.binding ≡ Some key.now → ((text : Text) → is_among text new.symbols.keys ≡ (is_among text old.symbols.keys || is_called_in items texts text o)) → new.symbols.keys ≡ put old.symbols.keys key → number ≡ position_or_len (is_same key) old.symbols.keys → number < length new.symbols.keys → length new.numbers.items ≡ length old.numbers.items → ((other : ℕ) → other < length old.numbers.items → at new.numbers.items other ≡ cond (is_this_number other o.binding) (Some number) (at old.numbers.items other)) → AddsSymbol items texts o old new
adds-symbol items texts o old new key number called among puts is_number_of within count numbers = record {
  symbols = among;
  stay = λ text i is. number-stays old.symbols.keys new.symbols.keys key text i puts is;
  count = count;
  others = λ binding lt none. numbers binding lt ∙ ap (λ t. cond t (Some number) (at old.numbers.items binding)) (not-declared items texts o binding key.now called none);
  own = λ binding lt own. record {
    number = number;
    is = numbers binding lt ∙ ap (λ t. cond t (Some number) (at old.numbers.items binding)) (is-own binding o.declares o.binding own);
    own = ap (symbol_number new.symbols.keys) (declared-symbol items texts o binding key.now called own) ∙ number-put old.symbols.keys new.symbols.keys key number puts (sym is_number_of) within;
  };
}

-- it has none
pub adds-no_symbol : (items : List Item) (texts : List Text) (o : Denoted) (old : Before) → length old.numbers.items ≡ length texts → symbol_called texts (symbol_by (slice_get items o.place)) o.declares o.binding ≡ None → AddsSymbol items texts o old old
adds-no_symbol items texts o old long none = record {
  symbols = λ text. among-same text old.symbols.keys (symbol_called texts (symbol_by (slice_get items o.place)) o.declares o.binding) none ∙ ap (λ b. is_among text old.symbols.keys || b) (called-same items texts text o);
  stay = λ text i is. is;
  count = refl;
  others = λ binding lt apart. refl;
  own = λ binding lt own. absurd (by binding o.declares o.binding (subst (λ n. binding < n) long lt) own none);
}
  where
    there : (xs : List Text) (i : ℕ) → i < length xs → slice_get xs i ≡ None → ⊥
    there xs i lt gone = none-some (get_or xs i []) (sym gone ∙ slice_get-get_or xs i [] lt)

    by : (binding : ℕ) (d : Bool) (b : Option ℕ) → binding < length texts → (d && is_this_number binding b) ≡ true → symbol_called texts (symbol_by (slice_get items o.place)) d b ≡ None → ⊥
    by binding true None lt own gone = false≢true own
    by binding true (Some other) lt own gone = there texts binding lt (ap (slice_get texts) (sym (eqb-true other binding own)) ∙ gone)
    by binding false b lt own gone = false≢true own

pub numbers-more : (items : List Item) (texts : List Text) (occurrences : List Denoted) (i : ℕ) (o : Denoted) (old new : Before) → slice_get occurrences i ≡ Some o → length old.numbers.items ≡ length texts → AddsSymbol items texts o old new → HaveSymbolNumbers texts (take i occurrences) old.symbols.keys old.numbers.items → HaveSymbolNumbers texts (take (suc i) occurrences) new.symbols.keys new.numbers.items
numbers-more items texts occurrences i o old new is_at long adds known = λ binding lt any. either (declares_number binding o) (λ own. adds.own binding (rw long lt) own) (λ none. stays binding lt none (known binding lt (sym (ap (list_any (declares_number binding)) (take_at occurrences i o is_at) ∙ any_more (declares_number binding) (take i occurrences) o ∙ ap (λ b. list_any (declares_number binding) (take i occurrences) || b) none ∙ or_false (list_any (declares_number binding) (take i occurrences))) ∙ any)))
  where
    stays : (binding : ℕ) → binding < length texts → declares_number binding o ≡ false → HasSymbolNumber texts old.symbols.keys old.numbers.items binding → HasSymbolNumber texts new.symbols.keys new.numbers.items binding
    stays binding lt none is_marked_in = record {
      number = is_marked_in.number;
      is = adds.others binding (rw long lt) none ∙ is_marked_in.is;
      own = adds.stay (unwrap_or (slice_get texts binding) []) is_marked_in.number is_marked_in.own;
    }

-- a binding that an occurrence declares
pub first-declares : (occurrences : List Denoted) (number first : ℕ) → first_of occurrences number ≡ Some first → list_any (declares_number number) occurrences ≡ true
first-declares [] number first is = absurd (none-some first is)
first-declares (o ∷ rest) number first is = by (declares_number number o) is (first-declares rest number first)
  where
    by : (t : Bool) → option_map (λ (x : Denoted). x.place) (cond t (Some o) (find (declares_number number) rest)) ≡ Some first → (first_of rest number ≡ Some first → list_any (declares_number number) rest ≡ true) → (t || list_any (declares_number number) rest) ≡ true
    by true e later = refl
    by false e later = later e
