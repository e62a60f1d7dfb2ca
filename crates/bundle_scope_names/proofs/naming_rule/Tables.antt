-- Tests over lists, with elements by their places.
-- Scopes around places of one list: those of one order are the same, with the same scopes around them, and an outer
-- one has a lower order. Where a declared name belongs, and which group that is.
-- The scopes around the occurrences of a list are as a table of its nodes says.
-- A tree whose bindings have numbers, by its occurrences and declarations alone: what is needed of it, and how its
-- bindings differ in symbol afterwards.
-- A tree that is resolved and has names only, with numbers that are right, is such a setting. What else has its
-- occurrences, with the new symbols, denotes alike.
use Rattle.std.proofs.Common.{◌≡◌, ◌<◌, ◌⊎◌, inl, inr, ℕ, zero, suc, Bool, true, false, cond, not, nat_lt, List, [], ◌∷◌, Option, Some, None, option_map, map, slice_get, find, refl, ap, sym, ◌∙◌, arith, ◌+◌, ◌&&◌, ◌||◌, unwrap_or, subst, eqb-true, ◌≤◌, ◌==◌, ◌++◌, eq-eqb, ne_eqb, ◌/◌, ◌%◌, append_assoc, bytes_eq, codes, lt-ltb, option_and_then}
use Rattle.std.specs.List.{list_any, list_all, cons_option}
use Rattle.std.proofs.lemmas.Bool.{false≢true, and_parts, ltb-true, ltb-false, or_cases, and_from, or_left, or_right, or_parts}
use Rattle.std.proofs.lemmas.Option.{none-some, same_Some, slice_get-map, slice_get_within, get_or_from_slice_get}
use Rattle.std.specs.Prelude.{⊤, decimal, if◌then◌else◌, is_some}
use Rattle.std.specs.Fmt.{digits, digits_onto, digit_glyph}
use Rattle.std.proofs.lemmas.Slice.Eq.{bytes_eq-Decides}
use Rattle.bundle_syntax.specs.Item as in_item
use Rattle.bundle_syntax.specs.Item.{Item}
use Rattle.bundle_syntax.specs.declared.piece.Role.TheVariants as r
use Rattle.bundle_rules.specs.Scopes.{Scope, ScopeKind, Wrapper, Top, Inner, Parameters, ArrowParameters, FunctionBody, StaticBody, Block, CatchBlock, Loop, Catch, FunctionName, ClassName, scope_order, same_scope, Es, kind_of_scope, scope_at, scopes_around}
use Rattle.bundle_rules.specs.Declarations.{Way, names_agree, Declared, ByContext, Name, name_of, contexts_agree, declared_by, declaration_of, way_of, Reading, is_nameless_default, nameless_default, declared_at, declared_from, declared}
use Rattle.bundle_rules.specs.Homes.{is_parameters, is_wrapper, takes, from_taker, nearest, taker, parameters_of, joins_parameter, is_parameter, home_beside, home_of, group_of, is_declared_in, is_arguments, is_function}
use Rattle.bundle_rules.specs.Renaming.{group, Numbering, numbered, number_of, symbol_of, keeps, first_place, comes_before, is_kept_beside, is_kept_outside, is_needed_by, may_keep, is_taken, are_taken_to, is_least_free, is_named_right, IsNumbering}
use Rattle.bundle_rules.specs.Places.{Around, Spot, past, start, in_field, outer_path, Occurrence, occurrence_of, occurrences_from, occurrences, is_binding, occurrence_at}
use Rattle.bundle_rules.specs.Denotes.{Global, denoted_of, IsResolved}
use Rattle.bundle_rules.proofs.PlacesLemmas.{occurrences-at}
use Rattle.bundle_rules.specs.Renamed.{HasNamesOnly}
use Rattle.bundle_scope_names.proofs.HomesLemmas.{list_any-found, list_any-here, find-failed, find-passes}
use Rattle.bundle_scope_names.proofs.TreeLemmas.{node_kind, kind-known}

-- ---- lists

-- an element of a list
abbrev pub IsIn : {A : Type 0} → List A → A → Type 0
IsIn xs x = (i : ℕ) × (slice_get xs i ≡ Some x)

pub in-rest : {A : Type 0} (y : A) (ys : List A) (x : A) → IsIn ys x → IsIn (y ∷ ys) x
in-rest y ys x at = (suc at.0, at.1)

-- a test that some element passes
pub list_any-in : {A : Type 0} (p : A → Bool) (xs : List A) → list_any p xs ≡ true → (x : A) × IsIn xs x × (p x ≡ true)
list_any-in p xs e = let found = list_any-found p xs e in (found.1, (found.0, found.2), found.3)

pub any-here : {A : Type 0} (p : A → Bool) (xs : List A) (x : A) → IsIn xs x → p x ≡ true → list_any p xs ≡ true
any-here p xs x at passes = list_any-here p xs at.0 x at.1 passes

-- a test that each element passes
pub list_all-in : {A : Type 0} (p : A → Bool) (xs : List A) → list_all p xs ≡ true → (x : A) → IsIn xs x → p x ≡ true
list_all-in p [] e x at = absurd (none-some x at.1)
list_all-in p (y ∷ ys) e x (zero, at) = ap p (sym (same_Some y x at)) ∙ (and_parts (p y) (list_all p ys) e).0
list_all-in p (y ∷ ys) e x (suc i, at) = list_all-in p ys (and_parts (p y) (list_all p ys) e).1 x (i, at)

-- what is found is an element
pub find-in : {A : Type 0} (p : A → Bool) (xs : List A) (x : A) → find p xs ≡ Some x → IsIn xs x
find-in p [] x e = absurd (none-some x e)
find-in {A = A} p (y ∷ ys) x e = by_first (find-in p ys x) (p y) e
  where
    by_first : (find p ys ≡ Some x → IsIn ys x) → (b : Bool) → cond b (Some y) (find p ys) ≡ Some x → IsIn (y ∷ ys) x
    by_first ih true found = (0, found)
    by_first ih false found = in-rest y ys x (ih found)

-- where an element passes, one is found
pub find-some : {A : Type 0} (p : A → Bool) (xs : List A) (x : A) → IsIn xs x → p x ≡ true → (y : A) × (find p xs ≡ Some y)
find-some {A = A} p xs x at passes = by_found (find p xs) refl
  where
    by_found : (o : Option A) → find p xs ≡ o → (y : A) × (find p xs ≡ Some y)
    by_found None e = absurd (false≢true (sym (find-failed p xs e at.0 x at.1) ∙ passes))
    by_found (Some y) e = (y, e)

-- where each fails, nothing is found
pub find-none_in : {A : Type 0} (p : A → Bool) (xs : List A) → ((x : A) → IsIn xs x → p x ≡ false) → find p xs ≡ None
find-none_in p [] fails = refl
find-none_in p (x ∷ xs) fails = ap (λ b. cond b (Some x) (find p xs)) (fails x (0, refl)) ∙ find-none_in p xs (λ y at. fails y (in-rest x xs y at))

-- tests that agree at each element find the same
pub find-congr : {A : Type 0} (p q : A → Bool) (xs : List A) → ((x : A) → IsIn xs x → p x ≡ q x) → find p xs ≡ find q xs
find-congr p q [] same = refl
find-congr p q (x ∷ xs) same = ap (λ b. cond b (Some x) (find p xs)) (same x (0, refl)) ∙ ap (cond (q x) (Some x)) (find-congr p q xs (λ y at. same y (in-rest x xs y at)))

-- an element of what a list is mapped to
pub map-in : {A B : Type 0} (f : A → B) (xs : List A) (y : B) → IsIn (map f xs) y → (x : A) × IsIn xs x × (y ≡ f x)
map-in f [] y at = absurd (none-some y at.1)
map-in f (x ∷ xs) y (zero, at) = (x, (0, refl), sym (same_Some (f x) y at))
map-in f (x ∷ xs) y (suc i, at) = let rest = map-in f xs y (i, at) in (rest.0, in-rest x xs rest.0 rest.1, rest.2)

pub in-map : {A B : Type 0} (f : A → B) (xs : List A) (x : A) → IsIn xs x → IsIn (map f xs) (f x)
in-map f xs x at = (at.0, slice_get-map f xs at.0 ∙ ap (option_map f) at.1)

-- maps that agree at each element
pub map-congr : {A B : Type 0} (f g : A → B) (xs : List A) → ((x : A) → IsIn xs x → f x ≡ g x) → map f xs ≡ map g xs
map-congr f g [] same = refl
map-congr f g (x ∷ xs) same = ap (λ y. y ∷ map f xs) (same x (0, refl)) ∙ ap (λ ys. g x ∷ ys) (map-congr f g xs (λ y at. same y (in-rest x xs y at)))

-- Tests.

pub not_true : (b : Bool) → not b ≡ true → b ≡ false
not_true true e = sym e
not_true false e = refl

pub trichotomy : (a b : ℕ) → (a < b) ⊎ ((b < a) ⊎ (a ≡ b))
trichotomy a b = by_tests (nat_lt a b) (nat_lt b a) refl refl
  where
    by_tests : (x y : Bool) → nat_lt a b ≡ x → nat_lt b a ≡ y → (a < b) ⊎ ((b < a) ⊎ (a ≡ b))
    by_tests true y one two = inl (ltb-true a b one)
    by_tests false true one two = inr (inl (ltb-true b a two))
    by_tests false false one two = let low = ltb-false a b one in let high = ltb-false b a two in inr (inr (omega (arith, low, high)))

-- ---- tables

-- what a table says of the node that begins at a place: which scope it makes, and the scopes around it
abbrev pub Table : Type 0
Table = ℕ → ScopeKind × List Scope

-- each of these scopes has a lower order
abbrev pub AreBelow : ℕ → List Scope → Type 0
AreBelow n [] = ⊤
AreBelow n (s ∷ ss) = (scope_order s < n) × AreBelow n ss

-- these are scopes around a place, innermost first, as the table says
abbrev pub AreOf : Table → List Scope → Type 0
AreOf K [] = ⊤
AreOf K (Wrapper ∷ ss) = ⊥
AreOf K (Top ∷ ss) = ss ≡ []
AreOf K (Inner kind begins ∷ ss) = (kind ≡ (K begins).0) × (ss ≡ (K begins).1) × AreBelow (begins + 2) ss × AreOf K ss

pub rest-known : (K : Table) (s : Scope) (ss : List Scope) → AreOf K (s ∷ ss) → AreOf K ss
rest-known K Wrapper ss known = absurd known
rest-known K Top ss known = subst (AreOf K) (sym known) tt
rest-known K (Inner kind begins) ss known = known.3

-- scopes of one order are the same, and stand in the same
pub same-known : (K : Table) (s t : Scope) (ss ts : List Scope) → AreOf K (s ∷ ss) → AreOf K (t ∷ ts) → scope_order s ≡ scope_order t → (s ≡ t) × (ss ≡ ts)
same-known K Wrapper t ss ts a b e = absurd a
same-known K Top Wrapper ss ts a b e = absurd b
same-known K Top Top ss ts a b e = (refl, a ∙ sym b)
same-known K Top (Inner l n) ss ts a b e = absurd (omega (arith, e))
same-known K (Inner k m) Wrapper ss ts a b e = absurd b
same-known K (Inner k m) Top ss ts a b e = absurd (omega (arith, e))
same-known K (Inner k m) (Inner l n) ss ts a b e =
    let same : m ≡ n = omega (arith, e) in
    (ap (λ j. Inner j m) (a.0 ∙ ap (λ j. (K j).0) same ∙ sym b.0) ∙ ap (Inner l) same, a.1 ∙ ap (λ j. (K j).1) same ∙ sym b.1)

-- from one of them on
pub from-known : (K : Table) (scopes : List Scope) → AreOf K scopes → (s : Scope) → IsIn scopes s → (ss : List Scope) × AreOf K (s ∷ ss)
from-known K [] known s at = absurd (none-some s at.1)
from-known K (x ∷ xs) known s (zero, at) = (xs, subst (λ y. AreOf K (y ∷ xs)) (same_Some x s at) known)
from-known K (x ∷ xs) known s (suc i, at) = from-known K xs (rest-known K x xs known) s (i, at)

-- an outer one has a lower order
below-in : (n : ℕ) (ss : List Scope) → AreBelow n ss → (s : Scope) → IsIn ss s → scope_order s < n
below-in n [] below s at = absurd (none-some s at.1)
below-in n (x ∷ xs) below s (zero, at) = subst (λ y. scope_order y < n) (same_Some x s at) below.0
below-in n (x ∷ xs) below s (suc i, at) = below-in n xs below.1 s (i, at)

pub outer-below : (K : Table) (x : Scope) (xs : List Scope) → AreOf K (x ∷ xs) → (s : Scope) → IsIn xs s → scope_order s < scope_order x
outer-below K Wrapper xs known s at = absurd known
outer-below K Top xs known s at = absurd (none-some s (sym (ap (λ l. slice_get l at.0) known) ∙ at.1))
outer-below K (Inner kind begins) xs known s at = below-in (begins + 2) xs known.2 s at

-- Where a declared name belongs.

pub taken-known : (K : Table) (way : Way) (scopes : List Scope) → AreOf K scopes → AreOf K (from_taker way scopes)
taken-known K way [] known = known
taken-known K way (s ∷ ss) known = by_takes (takes way s) (taken-known K way ss (rest-known K s ss known))
  where
    by_takes : (b : Bool) → AreOf K (from_taker way ss) → AreOf K (cond b (s ∷ ss) (from_taker way ss))
    by_takes true rest = known
    by_takes false rest = rest

-- a scope with those around it, and the group
abbrev pub HasOuter : Table → Declared → Scope → Type 0
HasOuter K d s = (outer : List Scope) × AreOf K (s ∷ outer) × (group d ≡ group_of (s ∷ outer))

taken-outer : (K : Table) (l : List Scope) → AreOf K l → (outer : List Scope) × AreOf K (unwrap_or (nearest l) Top ∷ outer) × (group_of l ≡ group_of (unwrap_or (nearest l) Top ∷ outer))
taken-outer K [] known = ([], refl, refl)
taken-outer K (s ∷ ss) known = (ss, known, refl)

pub taker-outer : (K : Table) (d : Declared) → AreOf K d.scopes → HasOuter K d (taker d)
taker-outer K d known = taken-outer K (from_taker d.by d.scopes) (taken-known K d.by d.scopes known)

-- the parameters beside a body
pub parameters-outer : (K : Table) (l : List Scope) (s : Scope) → AreOf K l → parameters_of l ≡ Some s → (outer : List Scope) × AreOf K (s ∷ outer) × (group_of l ≡ s)
parameters-outer K (Top ∷ outer) s known e = absurd (none-some s (sym (ap nearest known) ∙ e))
parameters-outer K (Inner FunctionBody begins ∷ []) s known e = absurd (none-some s e)
parameters-outer K (Inner FunctionBody begins ∷ t ∷ ts) s known e = (ts, subst (λ x. AreOf K (x ∷ ts)) (same_Some t s e) known.3, same_Some t s e)
parameters-outer K _ s known e = absurd (none-some s e)

-- parameters are their own group
pub parameters-group : (s : Scope) (outer : List Scope) → is_parameters s ≡ true → group_of (s ∷ outer) ≡ s
parameters-group (Inner Parameters begins) outer e = refl
parameters-group (Inner ArrowParameters begins) outer e = refl
parameters-group Wrapper outer e = refl
parameters-group Top outer e = absurd (false≢true e)
parameters-group (Inner FunctionBody begins) outer e = absurd (false≢true e)
parameters-group (Inner StaticBody begins) outer e = absurd (false≢true e)
parameters-group (Inner Block begins) outer e = absurd (false≢true e)
parameters-group (Inner CatchBlock begins) outer e = absurd (false≢true e)
parameters-group (Inner Loop begins) outer e = absurd (false≢true e)
parameters-group (Inner Catch begins) outer e = absurd (false≢true e)
parameters-group (Inner FunctionName begins) outer e = absurd (false≢true e)
parameters-group (Inner ClassName begins) outer e = absurd (false≢true e)

-- no scope around a place of a module is a wrapper
pub no-wrapper : (K : Table) (s : Scope) (outer : List Scope) → AreOf K (s ∷ outer) → (is_parameters s || is_wrapper s) ≡ true → is_parameters s ≡ true
no-wrapper K Wrapper outer known e = absurd known
no-wrapper K Top outer known e = absurd (false≢true e)
no-wrapper K (Inner kind begins) outer known e = by_cases (or_cases (is_parameters (Inner kind begins)) false e)
  where
    by_cases : (is_parameters (Inner kind begins) ≡ true) ⊎ (false ≡ true) → is_parameters (Inner kind begins) ≡ true
    by_cases (inl is) = is
    by_cases (inr other) = absurd (false≢true other)

-- the home of a declared name, with what is around it
pub home-outer : (K : Table) (all : List Declared) → ((e : Declared) → IsIn all e → AreOf K e.scopes) → (d : Declared) → AreOf K d.scopes → HasOuter K d (home_of all d)
home-outer K all each d known = by_joins (joins_parameter d.by)
  where
    by_test : (s : Scope) → parameters_of (from_taker d.by d.scopes) ≡ Some s → (b : Bool) → list_any (is_parameter s d.name) all ≡ b → HasOuter K d (cond b s (taker d))
    by_test s e false test = taker-outer K d known
    by_test s e true test =
        let found = list_any-in (is_parameter s d.name) all test in
        let beside = parameters-outer K (from_taker d.by d.scopes) s (taken-known K d.by d.scopes known) e in
        let parts = and_parts (is_parameters (taker found.0) || is_wrapper (taker found.0)) (same_scope (taker found.0) s) (and_parts ((is_parameters (taker found.0) || is_wrapper (taker found.0)) && same_scope (taker found.0) s) (names_agree found.0.name d.name) found.2).0 in
        let its = taker-outer K found.0 (each found.0 found.1) in
        let same = same-known K (taker found.0) s its.0 beside.0 its.1 beside.1 (eqb-true (scope_order (taker found.0)) (scope_order s) parts.1) in
        let is : is_parameters s ≡ true = ap is_parameters (sym same.0) ∙ no-wrapper K (taker found.0) its.0 its.1 parts.0 in
        (beside.0, beside.1, beside.2 ∙ sym (parameters-group s beside.0 is))

    by_beside : (o : Option Scope) → parameters_of (from_taker d.by d.scopes) ≡ o → HasOuter K d (home_beside all d o)
    by_beside None e = taker-outer K d known
    by_beside (Some s) e = by_test s e (list_any (is_parameter s d.name) all) refl

    by_joins : (b : Bool) → HasOuter K d (cond b (home_beside all d (parameters_of (from_taker d.by d.scopes))) (taker d))
    by_joins true = by_beside (parameters_of (from_taker d.by d.scopes)) refl
    by_joins false = taker-outer K d known

-- ---- known

-- nodes that begin before a place
abbrev AreBegun : ℕ → List Around → Type 0
AreBegun n [] = ⊤
AreBegun n (node ∷ outer) = (node.begins < n) × AreBegun n outer

begun-later : (n : ℕ) (path : List Around) → AreBegun n path → AreBegun (n + 1) path
begun-later n [] begun = tt
begun-later n (node ∷ outer) begun = (omega (arith, begun.0), begun-later n outer begun.1)

begun-in_field : (n field : ℕ) (path : List Around) → AreBegun n path → AreBegun n (in_field field path)
begun-in_field n field [] begun = begun
begun-in_field n field (node ∷ outer) begun = begun

begun-below : (n : ℕ) (path : List Around) → AreBegun n path → AreBelow (n + 2) (scopes_around Es path)
begun-below n [] begun = (omega arith, tt)
begun-below n (node ∷ outer) begun = by_kind (kind_of_scope node.head node.field outer) (begun-below n outer begun.1)
  where
    by_kind : (o : Option ScopeKind) → AreBelow (n + 2) (scopes_around Es outer) → AreBelow (n + 2) (scope_at node.begins o ++ scopes_around Es outer)
    by_kind None rest = rest
    by_kind (Some k) rest = (omega (arith, begun.0), rest)

-- a path as the table says
abbrev pub IsKnown : Table → List Around → Type 0
IsKnown K [] = ⊤
IsKnown K (node ∷ outer) = (node_kind node.head outer ≡ (K node.begins).0) × (scopes_around Es outer ≡ (K node.begins).1) × AreBelow (node.begins + 2) (scopes_around Es outer) × IsKnown K outer

known-in_field : (K : Table) (field : ℕ) (path : List Around) → IsKnown K path → IsKnown K (in_field field path)
known-in_field K field [] known = known
known-in_field K field (node ∷ outer) known = known

-- the scopes around a place
pub scopes-known : (K : Table) (path : List Around) → IsKnown K path → AreOf K (scopes_around Es path)
scopes-known K [] known = refl
scopes-known K (node ∷ outer) known = by_kind (kind_of_scope node.head node.field outer) refl (scopes-known K outer known.3)
  where
    by_kind : (o : Option ScopeKind) → kind_of_scope node.head node.field outer ≡ o → AreOf K (scopes_around Es outer) → AreOf K (scope_at node.begins o ++ scopes_around Es outer)
    by_kind None e rest = rest
    by_kind (Some k) e rest = (sym (kind-known node.head node.field outer k e) ∙ known.0, known.1, known.2, rest)

-- The table of a list.
abbrev kind_here : Spot → Item → ScopeKind × List Scope
kind_here spot (in_item.Open field head) = (node_kind head (in_field field spot.path), scopes_around Es (in_field field spot.path))
kind_here spot _ = (Block, [])

abbrev pub table_in : Spot → List Item → Table
table_in spot [] p = (Block, [])
table_in spot (item ∷ rest) p = cond (spot.place == p) (kind_here spot item) (table_in (past spot item) rest p)

abbrev Agrees : Table → Spot → List Item → Type 0
Agrees K spot [] = ⊤
Agrees K spot (item ∷ rest) = (kind_here spot item ≡ K spot.place) × Agrees K (past spot item) rest

agrees-from : (K : Table) (spot : Spot) (items : List Item) → ((p : ℕ) → spot.place ≤ p → K p ≡ table_in spot items p) → Agrees K spot items
agrees-from K spot [] is = tt
agrees-from K spot (item ∷ rest) is = (
  sym (is spot.place (omega arith) ∙ ap (λ b. cond b (kind_here spot item) (table_in (past spot item) rest spot.place)) (eq-eqb spot.place spot.place refl)),
  agrees-from K (past spot item) rest (λ p later. let before : spot.place ≤ p = omega (arith, later) in is p before ∙ ap (λ b. cond b (kind_here spot item) (table_in (past spot item) rest p)) (ne_eqb spot.place p (λ e. omega (arith, e, later)))),
)

-- what is known at a spot
abbrev IsAt : Table → Spot → Type 0
IsAt K spot = IsKnown K spot.path × AreBegun spot.place spot.path

known-past : (K : Table) (spot : Spot) (item : Item) → kind_here spot item ≡ K spot.place → IsAt K spot → IsAt K (past spot item)
known-past K spot (in_item.Open field head) here at = (
  (ap (λ (x : ScopeKind × List Scope). x.0) here, ap (λ (x : ScopeKind × List Scope). x.1) here, begun-below spot.place (in_field field spot.path) (begun-in_field spot.place field spot.path at.1), known-in_field K field spot.path at.0),
  (omega arith, begun-later spot.place (in_field field spot.path) (begun-in_field spot.place field spot.path at.1)),
)
known-past K spot (in_item.Ident field x c role) here at = (at.0, begun-later spot.place spot.path at.1)
known-past K spot (in_item.Hole field) here at = (at.0, begun-later spot.place spot.path at.1)
known-past K spot in_item.Close here at = outer spot.path at
  where
    outer : (path : List Around) → IsKnown K path × AreBegun spot.place path → IsKnown K (outer_path path) × AreBegun (spot.place + 1) (outer_path path)
    outer [] it = (tt, tt)
    outer (node ∷ rest) it = (it.0.3, begun-later spot.place rest it.1.1)

occurrence-known : (K : Table) (spot : Spot) (item : Item) → IsKnown K spot.path → (o : Occurrence) → occurrence_of spot item ≡ Some o → IsKnown K o.path
occurrence-known K spot (in_item.Open field head) known o e = absurd (none-some o e)
occurrence-known K spot (in_item.Hole field) known o e = absurd (none-some o e)
occurrence-known K spot in_item.Close known o e = absurd (none-some o e)
occurrence-known K spot (in_item.Ident field x c r.Word) known o e = absurd (none-some o e)
occurrence-known K spot (in_item.Ident field x c r.Binding) known o e = subst (λ (q : Occurrence). IsKnown K q.path) (same_Some _ o e) (known-in_field K field spot.path known)
occurrence-known K spot (in_item.Ident field x c r.Reference) known o e = subst (λ (q : Occurrence). IsKnown K q.path) (same_Some _ o e) (known-in_field K field spot.path known)

-- an element that may be put first, or one of the others
pub in-cons : {A : Type 0} (P : A → Type 0) (first : Option A) (xs : List A) → ((x : A) → first ≡ Some x → P x) → ((x : A) → IsIn xs x → P x) → (x : A) → IsIn (cons_option first xs) x → P x
in-cons P None xs here later x at = later x at
in-cons P (Some y) xs here later x (zero, at) = here x at
in-cons P (Some y) xs here later x (suc i, at) = later x (i, at)

known-from : (K : Table) (spot : Spot) (items : List Item) → Agrees K spot items → IsAt K spot → (o : Occurrence) → IsIn (occurrences_from spot items) o → IsKnown K o.path
known-from K spot [] agrees at o there = absurd (none-some o there.1)
known-from K spot (item ∷ rest) agrees at o there = in-cons (λ (o : Occurrence). IsKnown K o.path) (occurrence_of spot item) (occurrences_from (past spot item) rest) (occurrence-known K spot item at.0) (known-from K (past spot item) rest agrees.1 (known-past K spot item agrees.0 at)) o there

-- the scopes around each occurrence of a list
pub occurrences-known : (items : List Item) (o : Occurrence) → IsIn (occurrences items) o → AreOf (table_in start items) (scopes_around Es o.path)
occurrences-known items o at = scopes-known (table_in start items) o.path (known-from (table_in start items) start items (agrees-from (table_in start items) start items (λ p later. refl)) (tt, tt) o at)

-- ---- setting

-- what is known of the occurrences and the declarations of a tree
pub record Shape (K : Table) (os : List Occurrence) (all : List Declared) : Type 0 where
  -- each declaration is that of an occurrence, and the other way round
  pub declares : (o : Occurrence) → IsIn os o → (d : Declared) → declaration_of ByContext Es o ≡ Some d → IsIn all d
  pub declared : (d : Declared) → IsIn all d → (o : Occurrence) × IsIn os o × (declaration_of ByContext Es o ≡ Some d)
  -- no two occurrences stand at one place
  pub places : (o p : Occurrence) → IsIn os o → IsIn os p → o.place ≡ p.place → o ≡ p
  pub known : (o : Occurrence) → IsIn os o → AreOf K (scopes_around Es o.path)

-- and of such a tree with numbers
pub record Setting (K : Table) (numbers : Numbering) (os : List Occurrence) (all : List Declared) : Type 0 where
  pub shape : Shape K os all
  pub right : (d : Declared) → IsIn all d → is_named_right numbers all os d ≡ true
  pub own_arguments : (o : Occurrence) → IsIn os o → denoted_of ByContext Es all o ≡ Global (codes "arguments") → find is_function (scopes_around Es o.path) ≡ None

-- the declaration by an occurrence
abbrev pub declared_as : Occurrence → Way → Declared
declared_as o way = record { place = o.place; name = record { sym = o.sym; ctxt = Some o.ctxt }; by = way; scopes = scopes_around Es o.path }

pub record Origin (os : List Occurrence) (d : Declared) : Type 0 where
  pub o : Occurrence
  pub at : IsIn os o
  pub way : Way
  pub binds : is_binding o.role ≡ true
  pub way_is : way_of o.path ≡ Some way
  pub is : d ≡ declared_as o way

pub origin-of : (os : List Occurrence) (o : Occurrence) → IsIn os o → (d : Declared) → declaration_of ByContext Es o ≡ Some d → Origin os d
origin-of os o at d e = by_both (is_binding o.role) refl (way_of o.path) refl e
  where
    by_both : (b : Bool) → is_binding o.role ≡ b → (w : Option Way) → way_of o.path ≡ w → cond b (declared_by o.place (name_of ByContext o.sym o.ctxt) (scopes_around Es o.path) w) None ≡ Some d → Origin os d
    by_both false role w way is = absurd (none-some d is)
    by_both true role None way is = absurd (none-some d is)
    by_both true role (Some x) way is = record { o = o; at = at; way = x; binds = role; way_is = way; is = sym (same_Some (declared_as o x) d is) }

abbrev pub name_from : Option ℕ → List ℕ → Name
name_from c x = record { sym = x; ctxt = c }

-- names with contexts that agree are the same
names-same : (a b : Name) (m n : ℕ) → a.ctxt ≡ Some m → b.ctxt ≡ Some n → names_agree a b ≡ true → a ≡ b
names-same a b m n one two e =
    let parts = and_parts (bytes_eq a.sym b.sym) (contexts_agree a.ctxt b.ctxt) e in
    let symbols : a.sym ≡ b.sym = (bytes_eq-Decides a.sym b.sym).0 parts.0 in
    let tests : contexts_agree (Some m) (Some n) ≡ true = ap (λ c. contexts_agree c (Some n)) (sym one) ∙ ap (contexts_agree a.ctxt) (sym two) ∙ parts.1 in
    let contexts : a.ctxt ≡ b.ctxt = one ∙ ap (λ k. Some k) (eqb-true m n tests) ∙ sym two in
    ap (name_from a.ctxt) symbols ∙ ap (λ c. name_from c b.sym) contexts

-- The digits of a number end in a digit.

last : List ℕ → ℕ
last [] = 0
last (x ∷ []) = x
last (x ∷ y ∷ rest) = last (y ∷ rest)

last-append : (xs : List ℕ) (y : ℕ) (ys : List ℕ) → last (xs ++ y ∷ ys) ≡ last (y ∷ ys)
unfolding last
last-append [] y ys = refl
last-append (x ∷ []) y ys = refl
last-append (x ∷ z ∷ xs) y ys = last-append (z ∷ xs) y ys

-- a list that ends like this
data EndsIn (x : ℕ) : List ℕ → Type 0 where
  Ends : (front : List ℕ) → EndsIn x (front ++ x ∷ [])

ends-before : (x y : ℕ) (acc : List ℕ) → EndsIn x acc → EndsIn x (y ∷ acc)
ends-before x y _ (Ends front) = Ends (y ∷ front)

digits-onto_ends : (k n x : ℕ) (acc : List ℕ) → EndsIn x acc → EndsIn x (digits_onto k 10 false n acc)
digits-onto_ends zero n x acc ends = ends
digits-onto_ends (suc k) n x acc ends = by_test (n / 10 == 0) (ends-before x (digit_glyph false (n % 10)) acc ends) (digits-onto_ends k (n / 10) x (digit_glyph false (n % 10) ∷ acc) (ends-before x (digit_glyph false (n % 10)) acc ends))
  where
    by_test : (b : Bool) → EndsIn x (digit_glyph false (n % 10) ∷ acc) → EndsIn x (digits_onto k 10 false (n / 10) (digit_glyph false (n % 10) ∷ acc)) → EndsIn x (if b then digit_glyph false (n % 10) ∷ acc else digits_onto k 10 false (n / 10) (digit_glyph false (n % 10) ∷ acc))
    by_test true one two = one
    by_test false one two = two

digits-onto_last : (k n : ℕ) → EndsIn (digit_glyph false (n % 10)) (digits_onto (suc k) 10 false n [])
digits-onto_last k n = by_test (n / 10 == 0) (Ends []) (digits-onto_ends k (n / 10) (digit_glyph false (n % 10)) (digit_glyph false (n % 10) ∷ []) (Ends []))
  where
    by_test : (b : Bool) → EndsIn (digit_glyph false (n % 10)) (digit_glyph false (n % 10) ∷ []) → EndsIn (digit_glyph false (n % 10)) (digits_onto k 10 false (n / 10) (digit_glyph false (n % 10) ∷ [])) → EndsIn (digit_glyph false (n % 10)) (if b then digit_glyph false (n % 10) ∷ [] else digits_onto k 10 false (n / 10) (digit_glyph false (n % 10) ∷ []))
    by_test true one two = one
    by_test false one two = two

decimal-last : (n : ℕ) → EndsIn (digit_glyph false (n % 10)) (decimal n)
unfolding digits
decimal-last n = digits-onto_last 63 n

glyph-below : (d : ℕ) → d < 10 → digit_glyph false d < 58
glyph-below d h = subst (λ b. (if b then 48 + d else 87 + d) < 58) (sym (lt-ltb d 10 h)) (omega arith)

last-ends : (front : List ℕ) (x : ℕ) (xs : List ℕ) → EndsIn x xs → last (front ++ xs) ≡ x
unfolding last
last-ends front x _ (Ends before) = ap last (sym (append_assoc front before (x ∷ []))) ∙ last-append (front ++ before) x []

last-arguments : last (codes "arguments") ≡ 115
unfolding last
last-arguments = refl

-- a symbol with a number is not `arguments`
pub numbered-not_arguments : (x : List ℕ) (n : ℕ) → numbered x (suc n) ≡ codes "arguments" → ⊥
numbered-not_arguments x n e =
    let ends : last (x ++ decimal (suc n)) ≡ digit_glyph false (suc n % 10) = last-ends x (digit_glyph false (suc n % 10)) (decimal (suc n)) (decimal-last (suc n)) in
    let is : last (x ++ decimal (suc n)) ≡ 115 = ap last e ∙ last-arguments in
    let small : suc n % 10 < 10 = omega arith in
    let below : digit_glyph false (suc n % 10) < 58 = glyph-below (suc n % 10) small in
    omega (arith, ends, is, below)

-- The bindings of a setting.

-- two declarations are of one binding
abbrev pub IsSame : List Declared → Declared → Declared → Type 0
IsSame all d e = (home_of all d ≡ home_of all e) × (d.name ≡ e.name)

-- which of two bindings comes first
pub data Order (all : List Declared) (d e : Declared) : Type 0 where
  Before : comes_before all d e ≡ true → Order all d e
  After : comes_before all e d ≡ true → Order all d e
  Equal : IsSame all d e → Order all d e

module _ (K : Table) (os : List Occurrence) (all : List Declared) (s : Shape K os all) where
  pub origin : (d : Declared) → IsIn all d → Origin os d
  origin d at = let from = s.declared d at in origin-of os from.0 from.1 d from.2

  pub agreed : (d e : Declared) → IsIn all d → IsIn all e → names_agree d.name e.name ≡ true → d.name ≡ e.name
  agreed d e at there same =
      let one = origin d at in
      let two = origin e there in
      names-same d.name e.name one.o.ctxt two.o.ctxt (ap (λ (x : Declared). x.name.ctxt) one.is) (ap (λ (x : Declared). x.name.ctxt) two.is) same

  pub agreed-with : (d : Declared) → IsIn all d → (x : List ℕ) (c : ℕ) → names_agree d.name (name_from (Some c) x) ≡ true → d.name ≡ name_from (Some c) x
  agreed-with d at x c same = let one = origin d at in names-same d.name (name_from (Some c) x) one.o.ctxt c (ap (λ (y : Declared). y.name.ctxt) one.is) refl same

  pub has-context : (d : Declared) → IsIn all d → (c : ℕ) × (d.name.ctxt ≡ Some c)
  has-context d at = let one = origin d at in (one.o.ctxt, ap (λ (y : Declared). y.name.ctxt) one.is)

  pub agree-self : (d : Declared) → IsIn all d → names_agree d.name d.name ≡ true
  agree-self d at =
      let one = origin d at in
      ap (λ (x : Declared). names_agree x.name x.name) one.is ∙ and_from (bytes_eq one.o.sym one.o.sym) (one.o.ctxt == one.o.ctxt) ((bytes_eq-Decides one.o.sym one.o.sym).1 refl) (eq-eqb one.o.ctxt one.o.ctxt refl)

  pub scopes-of : (d : Declared) → IsIn all d → AreOf K d.scopes
  scopes-of d at = let one = origin d at in subst (λ (x : Declared). AreOf K x.scopes) (sym one.is) (s.known one.o one.at)

  pub homed : (d : Declared) → IsIn all d → HasOuter K d (home_of all d)
  homed d at = home-outer K all scopes-of d (scopes-of d at)

  pub homes-same : (d e : Declared) → IsIn all d → IsIn all e → same_scope (home_of all d) (home_of all e) ≡ true → home_of all d ≡ home_of all e
  homes-same d e at there same =
      let one = homed d at in
      let two = homed e there in
      (same-known K (home_of all d) (home_of all e) one.0 two.0 one.1 two.1 (eqb-true (scope_order (home_of all d)) (scope_order (home_of all e)) same)).0

  -- one home is of one group
  pub groups-same : (d e : Declared) → IsIn all d → IsIn all e → home_of all d ≡ home_of all e → group d ≡ group e
  groups-same d e at there same =
      let one = homed d at in
      let two = homed e there in
      let both = same-known K (home_of all d) (home_of all e) one.0 two.0 one.1 two.1 (ap scope_order same) in
      one.2 ∙ ap (λ h. group_of (h ∷ one.0)) both.0 ∙ ap (λ l. group_of (home_of all e ∷ l)) both.1 ∙ sym two.2

  -- the first declaration of a binding
  pub first-of : (d : Declared) → IsIn all d → (f : Declared) × IsIn all f × IsSame all f d × (first_place all d ≡ f.place)
  first-of d at =
      let itself : is_declared_in all (home_of all d) d.name d ≡ true = and_from (same_scope (home_of all d) (home_of all d)) (names_agree d.name d.name) (eq-eqb (scope_order (home_of all d)) (scope_order (home_of all d)) refl) (agree-self d at) in
      let found = find-some (is_declared_in all (home_of all d) d.name) all d at itself in
      let among = find-in (is_declared_in all (home_of all d) d.name) all found.0 found.1 in
      let parts = and_parts (same_scope (home_of all found.0) (home_of all d)) (names_agree found.0.name d.name) (find-passes (is_declared_in all (home_of all d) d.name) all found.0 found.1) in
      (found.0, among, (homes-same found.0 d among at parts.0, agreed found.0 d among at parts.1), ap (λ o. unwrap_or (option_map (λ (x : Declared). x.place) o) d.place) found.1)

  -- declarations at one place are one
  one-place : (d e : Declared) → IsIn all d → IsIn all e → d.place ≡ e.place → d.name ≡ e.name
  one-place d e at there same =
      let one = origin d at in
      let two = origin e there in
      let is : one.o ≡ two.o = s.places one.o two.o one.at two.at (sym (ap (λ (x : Declared). x.place) one.is) ∙ same ∙ ap (λ (x : Declared). x.place) two.is) in
      ap (λ (x : Declared). x.name) one.is ∙ ap (λ (o : Occurrence). name_from (Some o.ctxt) o.sym) is ∙ sym (ap (λ (x : Declared). x.name) two.is)

  pub ordered : (d e : Declared) → IsIn all d → IsIn all e → Order all d e
  ordered d e at there = by_order (trichotomy (scope_order (home_of all d)) (scope_order (home_of all e)))
    where
      by_place : home_of all d ≡ home_of all e → (first_place all d < first_place all e) ⊎ ((first_place all e < first_place all d) ⊎ (first_place all d ≡ first_place all e)) → Order all d e
      by_place same (inl less) = Before (or_right (nat_lt (scope_order (home_of all d)) (scope_order (home_of all e))) _ (and_from (same_scope (home_of all d) (home_of all e)) (nat_lt (first_place all d) (first_place all e)) (eq-eqb (scope_order (home_of all d)) (scope_order (home_of all e)) (ap scope_order same)) (lt-ltb (first_place all d) (first_place all e) less)))
      by_place same (inr (inl more)) = After (or_right (nat_lt (scope_order (home_of all e)) (scope_order (home_of all d))) _ (and_from (same_scope (home_of all e) (home_of all d)) (nat_lt (first_place all e) (first_place all d)) (eq-eqb (scope_order (home_of all e)) (scope_order (home_of all d)) (ap scope_order (sym same))) (lt-ltb (first_place all e) (first_place all d) more)))
      by_place same (inr (inr equal)) =
          let one = first-of d at in
          let two = first-of e there in
          Equal (same, sym one.2.1 ∙ one-place one.0 two.0 one.1 two.1 (sym one.3 ∙ equal ∙ two.3) ∙ two.2.1)

      by_order : (scope_order (home_of all d) < scope_order (home_of all e)) ⊎ ((scope_order (home_of all e) < scope_order (home_of all d)) ⊎ (scope_order (home_of all d) ≡ scope_order (home_of all e))) → Order all d e
      by_order (inl less) = Before (or_left (nat_lt (scope_order (home_of all d)) (scope_order (home_of all e))) _ (lt-ltb (scope_order (home_of all d)) (scope_order (home_of all e)) less))
      by_order (inr (inl more)) = After (or_left (nat_lt (scope_order (home_of all e)) (scope_order (home_of all d))) _ (lt-ltb (scope_order (home_of all e)) (scope_order (home_of all d)) more))
      by_order (inr (inr equal)) = by_place (homes-same d e at there (eq-eqb (scope_order (home_of all d)) (scope_order (home_of all e)) equal)) (trichotomy (first_place all d) (first_place all e))

-- What the numbers say.

module _ (K : Table) (numbers : Numbering) (os : List Occurrence) (all : List Declared) (s : Setting K numbers os all) where
  pub kept-may : (d : Declared) → IsIn all d → number_of numbers all d ≡ 0 → may_keep numbers all os d ≡ true
  kept-may d at e = by_may (may_keep numbers all os d) refl (s.right d at)
    where
      by_may : (b : Bool) → may_keep numbers all os d ≡ b → cond b (keeps numbers all d) (is_least_free numbers all os d (number_of numbers all d)) ≡ true → may_keep numbers all os d ≡ true
      by_may true may right = may
      by_may false may right = absurd (false≢true (ap (is_least_free numbers all os d) (sym e) ∙ right))

  pub new-free : (d : Declared) → IsIn all d → (n : ℕ) → number_of numbers all d ≡ suc n → is_taken numbers all os d (symbol_of numbers all d) ≡ false
  new-free d at n e = ap (λ k. is_taken numbers all os d (numbered d.name.sym k)) e ∙ by_may (may_keep numbers all os d) (s.right d at)
    where
      by_may : (b : Bool) → cond b (keeps numbers all d) (is_least_free numbers all os d (number_of numbers all d)) ≡ true → is_taken numbers all os d (numbered d.name.sym (suc n)) ≡ false
      by_may true right = let zero_is = eqb-true (number_of numbers all d) 0 right in absurd (omega (arith, zero_is, e))
      by_may false right = not_true (is_taken numbers all os d (numbered d.name.sym (suc n))) (and_parts (not (is_taken numbers all os d (numbered d.name.sym (suc n)))) (are_taken_to numbers all os d n) (ap (is_least_free numbers all os d) (sym e) ∙ right)).0

  pub kept-symbol : (d : Declared) → number_of numbers all d ≡ 0 → symbol_of numbers all d ≡ d.name.sym
  kept-symbol d e = ap (numbered d.name.sym) e

  -- no occurrence beforehand has a new symbol
  pub new-none : (d : Declared) → IsIn all d → (n : ℕ) → number_of numbers all d ≡ suc n → (o : Occurrence) → IsIn os o → symbol_of numbers all d ≡ o.sym → ⊥
  new-none d at n e o there same =
      let free = or_parts (list_any (λ (o : Occurrence). bytes_eq o.sym (symbol_of numbers all d)) os) _ (new-free d at n e) in
      false≢true (sym free.0 ∙ any-here (λ (o : Occurrence). bytes_eq o.sym (symbol_of numbers all d)) os o there ((bytes_eq-Decides o.sym (symbol_of numbers all d)).1 (sym same)))

  -- and none that comes before
  pub new-first : (d : Declared) → IsIn all d → (n : ℕ) → number_of numbers all d ≡ suc n → (a : Declared) → IsIn all a → comes_before all a d ≡ true → symbol_of numbers all a ≡ symbol_of numbers all d → ⊥
  new-first d at n e a there before same =
      let free = or_parts (list_any (λ (o : Occurrence). bytes_eq o.sym (symbol_of numbers all d)) os) _ (new-free d at n e) in
      false≢true (sym free.1 ∙ any-here (λ (a : Declared). comes_before all a d && bytes_eq (symbol_of numbers all a) (symbol_of numbers all d)) all a there (and_from (comes_before all a d) _ before ((bytes_eq-Decides (symbol_of numbers all a) (symbol_of numbers all d)).1 same)))

  -- what has the symbol of an occurrence afterwards, keeps it
  pub kept-by : (d : Declared) → IsIn all d → (o : Occurrence) → IsIn os o → symbol_of numbers all d ≡ o.sym → (number_of numbers all d ≡ 0) × (d.name.sym ≡ o.sym)
  kept-by d at o there same = by_number (number_of numbers all d) refl
    where
      by_number : (n : ℕ) → number_of numbers all d ≡ n → (number_of numbers all d ≡ 0) × (d.name.sym ≡ o.sym)
      by_number zero e = (e, sym (kept-symbol d e) ∙ same)
      by_number (suc n) e = absurd (new-none d at n e o there same)

  -- two bindings of one symbol afterwards are one, or both keep it
  pub apart : (d e : Declared) → IsIn all d → IsIn all e → symbol_of numbers all d ≡ symbol_of numbers all e → (IsSame all d e) ⊎ ((number_of numbers all d ≡ 0) × (number_of numbers all e ≡ 0))
  apart d e at there same = by_numbers (number_of numbers all d) (number_of numbers all e) refl refl
    where
      its-symbol : (x : Declared) (at : IsIn all x) → number_of numbers all x ≡ 0 → symbol_of numbers all x ≡ (origin K os all s.shape x at).o.sym
      its-symbol x at zero_is = kept-symbol x zero_is ∙ ap (λ (y : Declared). y.name.sym) (origin K os all s.shape x at).is

      by_order : (m n : ℕ) → number_of numbers all d ≡ suc m → number_of numbers all e ≡ suc n → Order all d e → (IsSame all d e) ⊎ ((number_of numbers all d ≡ 0) × (number_of numbers all e ≡ 0))
      by_order m n one two (Before before) = absurd (new-first e there n two d at before same)
      by_order m n one two (After after) = absurd (new-first d at m one e there after (sym same))
      by_order m n one two (Equal is) = inl is

      by_numbers : (m n : ℕ) → number_of numbers all d ≡ m → number_of numbers all e ≡ n → (IsSame all d e) ⊎ ((number_of numbers all d ≡ 0) × (number_of numbers all e ≡ 0))
      by_numbers zero zero one two = inr (one, two)
      by_numbers zero (suc n) one two = absurd (new-none e there n two (origin K os all s.shape d at).o (origin K os all s.shape d at).at (sym same ∙ its-symbol d at one))
      by_numbers (suc m) zero one two = absurd (new-none d at m one (origin K os all s.shape e there).o (origin K os all s.shape e there).at (same ∙ its-symbol e there two))
      by_numbers (suc m) (suc n) one two = by_order m n one two (ordered K os all s.shape d e at there)

  -- What a binding that keeps its symbol may not be.

  kept-parts : (d : Declared) → IsIn all d → number_of numbers all d ≡ 0 → (is_arguments d.name.sym ≡ false) × (list_any (is_kept_beside numbers all d) all ≡ false) × (list_any (is_needed_by numbers all (home_of all d) d.name.sym) os ≡ false)
  kept-parts d at e =
      let whole = and_parts (not (is_arguments d.name.sym) && not (list_any (is_kept_beside numbers all d) all)) (not (list_any (is_needed_by numbers all (home_of all d) d.name.sym) os)) (kept-may d at e) in
      let parts = and_parts (not (is_arguments d.name.sym)) (not (list_any (is_kept_beside numbers all d) all)) whole.0 in
      (not_true (is_arguments d.name.sym) parts.0, not_true (list_any (is_kept_beside numbers all d) all) parts.1, not_true (list_any (is_needed_by numbers all (home_of all d) d.name.sym) os) whole.1)

  -- bindings of one group that keep one symbol are one
  kept-before : (d a : Declared) → IsIn all d → IsIn all a → same_scope (group a) (group d) ≡ true → number_of numbers all d ≡ 0 → number_of numbers all a ≡ 0 → a.name.sym ≡ d.name.sym → comes_before all a d ≡ true → ⊥
  kept-before d a at there beside one two same before =
      let fails = (kept-parts d at one).1 in
      let beside : is_kept_beside numbers all d a ≡ true =
      and_from (same_scope (group a) (group d) && bytes_eq a.name.sym d.name.sym && comes_before all a d) (keeps numbers all a) (and_from (same_scope (group a) (group d) && bytes_eq a.name.sym d.name.sym) (comes_before all a d) (and_from (same_scope (group a) (group d)) (bytes_eq a.name.sym d.name.sym) beside ((bytes_eq-Decides a.name.sym d.name.sym).1 same)) before) (eq-eqb (number_of numbers all a) 0 two) in
      false≢true (sym fails ∙ any-here (is_kept_beside numbers all d) all a there beside)

  -- in one group, bindings of one symbol afterwards are one
  pub group-apart : (d e : Declared) → IsIn all d → IsIn all e → scope_order (group d) ≡ scope_order (group e) → symbol_of numbers all d ≡ symbol_of numbers all e → IsSame all d e
  group-apart d e at there beside same = by_cases (apart d e at there same)
    where
      by_order : number_of numbers all d ≡ 0 → number_of numbers all e ≡ 0 → Order all d e → IsSame all d e
      by_order one two (Before before) = absurd (kept-before e d there at (eq-eqb (scope_order (group d)) (scope_order (group e)) beside) two one (sym (kept-symbol d one) ∙ same ∙ kept-symbol e two) before)
      by_order one two (After after) = absurd (kept-before d e at there (eq-eqb (scope_order (group e)) (scope_order (group d)) (sym beside)) one two (sym (kept-symbol e two) ∙ sym same ∙ kept-symbol d one) after)
      by_order one two (Equal is) = is

      by_cases : (IsSame all d e) ⊎ ((number_of numbers all d ≡ 0) × (number_of numbers all e ≡ 0)) → IsSame all d e
      by_cases (inl is) = is
      by_cases (inr both) = by_order both.0 both.1 (ordered K os all s.shape d e at there)

  -- no declared name is `arguments` afterwards
  pub never-arguments : (d : Declared) → IsIn all d → symbol_of numbers all d ≡ codes "arguments" → ⊥
  never-arguments d at is = by_number (number_of numbers all d) refl
    where
      by_number : (n : ℕ) → number_of numbers all d ≡ n → ⊥
      by_number zero e = false≢true (sym (kept-parts d at e).0 ∙ (bytes_eq-Decides d.name.sym (codes "arguments")).1 (sym (kept-symbol d e) ∙ is))
      by_number (suc n) e = numbered-not_arguments d.name.sym n (ap (numbered d.name.sym) (sym e) ∙ is)

  -- a symbol that is kept is not needed inside the scope
  pub not-needed : (e : Declared) → IsIn all e → number_of numbers all e ≡ 0 → (o : Occurrence) → IsIn os o → (t : Scope) → IsIn (scopes_around Es o.path) t → scope_order (home_of all e) ≡ scope_order t → o.sym ≡ e.name.sym → is_kept_outside numbers (home_of all e) (denoted_of ByContext Es all o) ≡ true → ⊥
  not-needed e at kept o there t around order same outside =
      let inside : list_any (same_scope (home_of all e)) (scopes_around Es o.path) ≡ true = any-here (same_scope (home_of all e)) (scopes_around Es o.path) t around (eq-eqb (scope_order (home_of all e)) (scope_order t) order) in
      let needed : is_needed_by numbers all (home_of all e) e.name.sym o ≡ true =
      and_from (bytes_eq o.sym e.name.sym && list_any (same_scope (home_of all e)) (scopes_around Es o.path)) (is_kept_outside numbers (home_of all e) (denoted_of ByContext Es all o)) (and_from (bytes_eq o.sym e.name.sym) (list_any (same_scope (home_of all e)) (scopes_around Es o.path)) ((bytes_eq-Decides o.sym e.name.sym).1 same) inside) outside in
      false≢true (sym (kept-parts e at kept).2 ∙ any-here (is_needed_by numbers all (home_of all e) e.name.sym) os o there needed)

-- ---- tree

-- what these occurrences declare
abbrev pub declarations : Reading → List Occurrence → List Declared
declarations reading [] = []
declarations reading (o ∷ os) = cons_option (declaration_of reading Es o) (declarations reading os)

-- no element from here on is a default export without a name
abbrev pub AreNamed : List Item → Type 0
AreNamed [] = Unit {0}
AreNamed (item ∷ rest) = (is_nameless_default item rest ≡ false) × AreNamed rest

-- there each declaration is that of an occurrence
cons-declared : (reading : Reading) (first : Option Occurrence) (os : List Occurrence) → declarations reading (cons_option first os) ≡ cons_option (option_and_then (declaration_of reading Es) first) (declarations reading os)
cons-declared reading None os = refl
cons-declared reading (Some o) os = refl

pub declared-named_from : (reading : Reading) (spot : Spot) (items : List Item) → AreNamed items → declared_from reading Es spot items ≡ declarations reading (occurrences_from spot items)
declared-named_from reading spot [] named = refl
declared-named_from reading spot (item ∷ rest) named =
    ap (λ b. cons_option (cond b (Some (nameless_default Es spot.place)) (option_and_then (declaration_of reading Es) (occurrence_of spot item))) (declared_from reading Es (past spot item) rest)) named.0
    ∙ ap (cons_option (option_and_then (declaration_of reading Es) (occurrence_of spot item))) (declared-named_from reading (past spot item) rest named.1)
    ∙ sym (cons-declared reading (occurrence_of spot item) (occurrences_from (past spot item) rest))

pub declared-named : (reading : Reading) (items : List Item) → AreNamed items → declared reading Es items ≡ declarations reading (occurrences items)
declared-named reading items named = declared-named_from reading start items named

-- where each declared name has a context, no default export is without a name
pub named-from : (spot : Spot) (items : List Item) → ((d : Declared) → IsIn (declared_from ByContext Es spot items) d → is_some d.name.ctxt ≡ true) → AreNamed items
named-from spot [] has = tt
named-from spot (item ∷ rest) has = (
  by_nameless (is_nameless_default item rest) refl,
  named-from (past spot item) rest (λ d at. has d (later (declared_at ByContext Es spot item rest) d at)),
)
  where
    later : (first : Option Declared) (d : Declared) → IsIn (declared_from ByContext Es (past spot item) rest) d → IsIn (cons_option first (declared_from ByContext Es (past spot item) rest)) d
    later None d at = at
    later (Some x) d at = in-rest x (declared_from ByContext Es (past spot item) rest) d at

    by_nameless : (b : Bool) → is_nameless_default item rest ≡ b → is_nameless_default item rest ≡ false
    by_nameless false e = e
    by_nameless true e = absurd (false≢true (has (nameless_default Es spot.place) (0, ap (λ b. slice_get (cons_option (cond b (Some (nameless_default Es spot.place)) (option_and_then (declaration_of ByContext Es) (occurrence_of spot item))) (declared_from ByContext Es (past spot item) rest)) 0) e)))

-- each occurrence's declaration is one
pub declares-in : (reading : Reading) (os : List Occurrence) (o : Occurrence) → IsIn os o → (d : Declared) → declaration_of reading Es o ≡ Some d → IsIn (declarations reading os) d
declares-in reading [] o at d e = absurd (none-some o at.1)
declares-in reading (x ∷ os) o (zero, at) d e = here (declaration_of reading Es x) (ap (declaration_of reading Es) (same_Some x o at) ∙ e)
  where
    here : (first : Option Declared) → first ≡ Some d → IsIn (cons_option first (declarations reading os)) d
    here None is = absurd (none-some d is)
    here (Some y) is = (0, is)
declares-in reading (x ∷ os) o (suc i, at) d e = later (declaration_of reading Es x) (declares-in reading os o (i, at) d e)
  where
    later : (first : Option Declared) → IsIn (declarations reading os) d → IsIn (cons_option first (declarations reading os)) d
    later None it = it
    later (Some y) it = in-rest y (declarations reading os) d it

-- and each is an occurrence's
pub declared-in : (reading : Reading) (os : List Occurrence) (d : Declared) → IsIn (declarations reading os) d → (o : Occurrence) × IsIn os o × (declaration_of reading Es o ≡ Some d)
declared-in reading [] d at = absurd (none-some d at.1)
declared-in reading (x ∷ os) d at = in-cons (λ d. (o : Occurrence) × IsIn (x ∷ os) o × (declaration_of reading Es o ≡ Some d)) (declaration_of reading Es x) (declarations reading os) (λ d e. (x, (0, refl), e)) (λ d at. let rest = declared-in reading os d at in (rest.0, in-rest x os rest.0 rest.1, rest.2)) d at

module _ (before : List Item) (names : HasNamesOnly before) where
  abbrev pub os : List Occurrence
  os = occurrences before

  abbrev pub all : List Declared
  all = declared ByContext Es before

  pub all-named : AreNamed before
  all-named = named-from start before (λ d at. names d (at.0, slice_get_within (declared ByContext Es before) at.0 d at.1, get_or_from_slice_get (declared ByContext Es before) at.0 d d at.1))

  pub all-are : all ≡ declarations ByContext os
  all-are = declared-named ByContext before all-named

  pub shape : Shape (table_in start before) os all
  shape = record {
    declares = λ o at d e. subst (λ l. IsIn l d) (sym all-are) (declares-in ByContext os o at d e);
    declared = λ d at. declared-in ByContext os d (subst (λ l. IsIn l d) all-are at);
    places = λ o p at there same. same_Some o p (sym (occurrences-at before at.0 o at.1) ∙ ap (occurrence_at before) same ∙ occurrences-at before there.0 p there.1);
    known = λ o at. occurrences-known before o at;
  }

  pub setting : (numbers : Numbering) → IsResolved Es before → IsNumbering before numbers → Setting (table_in start before) numbers os all
  setting numbers resolved right = record {
    shape = shape;
    right = λ d at. list_all-in (is_named_right numbers all os) all right d at;
    own_arguments = λ o at e. resolved.own_arguments o.place o (occurrences-at before at.0 o at.1) (ap (option_map (denoted_of ByContext Es all)) (occurrences-at before at.0 o at.1) ∙ ap (λ d. Some d) e);
  }
