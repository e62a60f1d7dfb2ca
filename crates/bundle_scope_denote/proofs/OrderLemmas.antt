-- Declarations stand in the order of their places.
use Rattle.std.proofs.Common.{◌≡◌, ◌<◌, ◌≤◌, ◌+◌, ◌==◌, ◌&&◌, ◌||◌, not, take, bytes_eq, ⊎_elim, ℕ, zero, suc, Bool, true, false, cond, List, [], ◌∷◌, Option, Some, None, ◌⊎◌, inl, inr, refl, ap, sym, ◌∙◌, subst, arith, codes}
use Rattle.std.specs.Prelude.{slice_get, option_and_then, IfSome}
use Rattle.std.specs.Prelude.{nat_lt}
use Rattle.std.specs.List.{cons_option, list_any}
use Rattle.std.proofs.lemmas.Bool.{false≢true, and_from, and_parts, ltb-true, lt-ltb, ne_eqb, not_from_false, cases_order}
use Rattle.std.proofs.lemmas.Option.{none-some, same_Some}
use Rattle.bundle_syntax.specs.declared.piece.Role.TheVariants.{Binding, Reference, Word}
use Rattle.bundle_syntax.specs.Item as h
use Rattle.bundle_syntax.specs.Item.{Item}
use Rattle.bundle_rules.specs.Places as p
use Rattle.bundle_rules.specs.Scopes as s
use Rattle.bundle_rules.specs.Declarations as d
use Rattle.bundle_rules.specs.Doubled as u
use Rattle.bundle_scope_denote.proofs.InsertLemmas.{list_any-here, list_any-found}

-- the places rise from a number on
abbrev pub RisesFrom : ℕ → List d.Declared → Type 0
RisesFrom n [] = Unit {0}
RisesFrom n (x ∷ xs) = (n ≤ x.place) × RisesFrom (x.place + 1) xs

rises-earlier : (n m : ℕ) (xs : List d.Declared) → n ≤ m → RisesFrom m xs → RisesFrom n xs
rises-earlier n m [] less rises = tt
rises-earlier n m (x ∷ xs) less rises = let at : m ≤ x.place = rises.0 in (omega arith, rises.1)

-- an occurrence stands at its spot
occurrence-place : (spot : p.Spot) (item : Item) → IfSome (p.occurrence_of spot item) (λ o. o.place ≡ spot.place)
occurrence-place spot (h.Open field head) = tt
occurrence-place spot (h.Hole field) = tt
occurrence-place spot h.Close = tt
occurrence-place spot (h.Ident field sym ctxt Binding) = refl
occurrence-place spot (h.Ident field sym ctxt Reference) = refl
occurrence-place spot (h.Ident field sym ctxt Word) = tt

declaration-place : (reading : d.Reading) (kind : s.ModuleKind) (o : p.Occurrence) → IfSome (d.declaration_of reading kind o) (λ x. x.place ≡ o.place)
declaration-place reading kind o = by (p.is_binding o.role) (d.way_of o.path)
  where
    by : (t : Bool) (way : Option d.Way) → IfSome (cond t (d.declared_by o.place (d.name_of reading o.sym o.ctxt) (s.scopes_around kind o.path) way) None) (λ x. x.place ≡ o.place)
    by true None = tt
    by true (Some way) = refl
    by false way = tt

declared-place : (reading : d.Reading) (kind : s.ModuleKind) (spot : p.Spot) (item : Item) (rest : List Item) → IfSome (d.declared_at reading kind spot item rest) (λ x. x.place ≡ spot.place)
declared-place reading kind spot item rest = by (d.is_nameless_default item rest) (p.occurrence_of spot item) (occurrence-place spot item)
  where
    at : (o : p.Occurrence) → o.place ≡ spot.place → (x : Option d.Declared) → IfSome x (λ y. y.place ≡ o.place) → IfSome x (λ y. y.place ≡ spot.place)
    at o is None known = tt
    at o is (Some x) known = known ∙ is

    by : (t : Bool) (found : Option p.Occurrence) → IfSome found (λ o. o.place ≡ spot.place) → IfSome (cond t (Some (d.nameless_default kind spot.place)) (option_and_then (d.declaration_of reading kind) found)) (λ x. x.place ≡ spot.place)
    by true found known = refl
    by false None known = tt
    by false (Some o) known = at o known (d.declaration_of reading kind o) (declaration-place reading kind o)

rises-option : (n : ℕ) (x : Option d.Declared) (xs : List d.Declared) → IfSome x (λ y. y.place ≡ n) → RisesFrom (n + 1) xs → RisesFrom n (cons_option x xs)
rises-option n None xs at rises = rises-earlier n (n + 1) xs (omega arith) rises
rises-option n (Some x) xs at rises = (let is : x.place ≡ n = at in omega arith, subst (λ k. RisesFrom (k + 1) xs) (sym at) rises)

pub declared_from-rises : (reading : d.Reading) (kind : s.ModuleKind) (spot : p.Spot) (items : List Item) → RisesFrom spot.place (d.declared_from reading kind spot items)
declared_from-rises reading kind spot [] = tt
declared_from-rises reading kind spot (item ∷ rest) = rises-option spot.place (d.declared_at reading kind spot item rest) (d.declared_from reading kind (p.past spot item) rest) (declared-place reading kind spot item rest) (declared_from-rises reading kind (p.past spot item) rest)

-- each is at the number or behind it
rises-at : (n : ℕ) (xs : List d.Declared) → RisesFrom n xs → (i : ℕ) (x : d.Declared) → slice_get xs i ≡ Some x → n ≤ x.place
rises-at n [] rises i x at = absurd (none-some x at)
rises-at n (y ∷ ys) rises zero x at = subst (λ (z : d.Declared). n ≤ z.place) (same_Some y x at) rises.0
rises-at n (y ∷ ys) rises (suc i) x at = let first : n ≤ y.place = rises.0 in let later : y.place + 1 ≤ x.place = rises-at (y.place + 1) ys rises.1 i x at in omega arith

-- and behind each earlier one
rises-apart : (n : ℕ) (xs : List d.Declared) → RisesFrom n xs → (i j : ℕ) (x y : d.Declared) → i < j → slice_get xs i ≡ Some x → slice_get xs j ≡ Some y → x.place < y.place
rises-apart n [] rises i j x y less at_i at_j = absurd (none-some x at_i)
rises-apart n (z ∷ zs) rises zero zero x y less at_i at_j = absurd (omega arith)
rises-apart n (z ∷ zs) rises zero (suc j) x y less at_i at_j = let is : z ≡ x = same_Some z x at_i in let same : z.place ≡ x.place = ap (λ (w : d.Declared). w.place) is in let later : z.place + 1 ≤ y.place = rises-at (z.place + 1) zs rises.1 j y at_j in omega arith
rises-apart n (z ∷ zs) rises (suc i) zero x y less at_i at_j = absurd (omega arith)
rises-apart n (z ∷ zs) rises (suc i) (suc j) x y less at_i at_j = let smaller : i < j = omega arith in rises-apart (z.place + 1) zs rises.1 i j x y smaller at_i at_j

-- outside all nodes no identifier declares
outside-declares : (reading : d.Reading) (kind : s.ModuleKind) (item : Item) → option_and_then (d.declaration_of reading kind) (p.occurrence_of p.start item) ≡ None
outside-declares reading kind (h.Open field head) = refl
outside-declares reading kind (h.Hole field) = refl
outside-declares reading kind h.Close = refl
outside-declares reading kind (h.Ident field sym ctxt Binding) = refl
outside-declares reading kind (h.Ident field sym ctxt Reference) = refl
outside-declares reading kind (h.Ident field sym ctxt Word) = refl

-- what the first item declares is the `default` of a nameless export
first-default : (reading : d.Reading) (kind : s.ModuleKind) (item : Item) (rest : List Item) → IfSome (d.declared_at reading kind p.start item rest) (λ x. x.name.sym ≡ codes "default")
first-default reading kind item rest = subst (λ o. IfSome (cond (d.is_nameless_default item rest) (Some (d.nameless_default kind 0)) o) (λ x. x.name.sym ≡ codes "default")) (sym (outside-declares reading kind item)) (by (d.is_nameless_default item rest))
  where
    by : (t : Bool) → IfSome (cond t (Some (d.nameless_default kind 0)) None) (λ x. x.name.sym ≡ codes "default")
    by true = refl
    by false = tt

-- so what is declared in a list is behind its beginning, or is called so
declared-behind : (reading : d.Reading) (kind : s.ModuleKind) (items : List Item) (i : ℕ) (x : d.Declared) → slice_get (d.declared_from reading kind p.start items) i ≡ Some x → (0 < x.place) ⊎ (x.name.sym ≡ codes "default")
declared-behind reading kind [] i x at = absurd (none-some x at)
declared-behind reading kind (item ∷ rest) i x at = by (d.declared_at reading kind p.start item rest) (first-default reading kind item rest) i at
  where
    later : (j : ℕ) → slice_get (d.declared_from reading kind (p.past p.start item) rest) j ≡ Some x → 0 < x.place
    later j there = let far : 0 + 1 ≤ x.place = rises-at (0 + 1) (d.declared_from reading kind (p.past p.start item) rest) (declared_from-rises reading kind (p.past p.start item) rest) j x there in omega arith

    by : (first : Option d.Declared) → IfSome first (λ y. y.name.sym ≡ codes "default") → (j : ℕ) → slice_get (cons_option first (d.declared_from reading kind (p.past p.start item) rest)) j ≡ Some x → (0 < x.place) ⊎ (x.name.sym ≡ codes "default")
    by None known j there = inl (later j there)
    by (Some y) known zero there = inr (ap (λ (z : d.Declared). z.name.sym) (sym (same_Some y x there)) ∙ known)
    by (Some y) known (suc j) there = inl (later j there)

-- of two declarations of one name, the earlier one stands before the later
pub record StandApart (x y : d.Declared) : Type 0 where
  pub within : x.place ≤ y.place
  pub apart : (x.place < y.place) ⊎ (d.names_agree x.name y.name ≡ false)

strictly : (x y : d.Declared) → x.place < y.place → StandApart x y
strictly x y less = record { within = omega arith; apart = inl less }

beside-wrapper : (symbol : List ℕ) (y : d.Declared) → bytes_eq symbol (codes "default") ≡ false → (0 < y.place) ⊎ (y.name.sym ≡ codes "default") → StandApart (d.wrapper_parameter symbol) y
beside-wrapper symbol y other (inl behind) = strictly (d.wrapper_parameter symbol) y behind
beside-wrapper symbol y other (inr is) = record { within = omega arith; apart = inr (ap (λ t. t && true) (ap (bytes_eq symbol) is ∙ other)) }

pub declared-apart : (reading : d.Reading) (kind : s.ModuleKind) (items : List Item) (i j : ℕ) (x y : d.Declared) → i < j → slice_get (d.declared reading kind items) i ≡ Some x → slice_get (d.declared reading kind items) j ≡ Some y → StandApart x y
declared-apart reading s.Es items i j x y less at_i at_j = strictly x y (rises-apart 0 (d.declared_from reading s.Es p.start items) (declared_from-rises reading s.Es p.start items) i j x y less at_i at_j)
declared-apart reading s.Cjs items zero zero x y less at_i at_j = absurd (omega arith)
declared-apart reading s.Cjs items zero (suc zero) x y less at_i at_j = subst (λ (z : d.Declared). StandApart z y) (same_Some (d.wrapper_parameter (codes "module")) x at_i) (subst (λ (z : d.Declared). StandApart (d.wrapper_parameter (codes "module")) z) (same_Some (d.wrapper_parameter (codes "exports")) y at_j) (record { within = omega arith; apart = inr refl }))
declared-apart reading s.Cjs items zero (suc (suc j)) x y less at_i at_j = subst (λ (z : d.Declared). StandApart z y) (same_Some (d.wrapper_parameter (codes "module")) x at_i) (beside-wrapper (codes "module") y refl (declared-behind reading s.Cjs items j y at_j))
declared-apart reading s.Cjs items (suc i) zero x y less at_i at_j = absurd (omega arith)
declared-apart reading s.Cjs items (suc zero) (suc zero) x y less at_i at_j = absurd (omega arith)
declared-apart reading s.Cjs items (suc zero) (suc (suc j)) x y less at_i at_j = subst (λ (z : d.Declared). StandApart z y) (same_Some (d.wrapper_parameter (codes "exports")) x at_i) (beside-wrapper (codes "exports") y refl (declared-behind reading s.Cjs items j y at_j))
declared-apart reading s.Cjs items (suc (suc i)) (suc zero) x y less at_i at_j = absurd (omega arith)
declared-apart reading s.Cjs items (suc (suc i)) (suc (suc j)) x y less at_i at_j = let smaller : i < j = omega arith in strictly x y (rises-apart 0 (d.declared_from reading s.Cjs p.start items) (declared_from-rises reading s.Cjs p.start items) i j x y smaller at_i at_j)

-- an element before a number
before-at : {X : Type 0} (xs : List X) (i j : ℕ) (y : X) → j < i → slice_get xs j ≡ Some y → slice_get (take i xs) j ≡ Some y
before-at [] i j y less at = absurd (none-some y at)
before-at (x ∷ xs) zero j y less at = absurd (omega arith)
before-at (x ∷ xs) (suc i) zero y less at = at
before-at (x ∷ xs) (suc i) (suc j) y less at = let smaller : j < i = omega arith in before-at xs i j y smaller at

at-before : {X : Type 0} (xs : List X) (i j : ℕ) (y : X) → slice_get (take i xs) j ≡ Some y → (j < i) × (slice_get xs j ≡ Some y)
at-before [] zero j y at = absurd (none-some y at)
at-before [] (suc i) j y at = absurd (none-some y at)
at-before (x ∷ xs) zero j y at = absurd (none-some y at)
at-before (x ∷ xs) (suc i) zero y at = (omega arith, at)
at-before (x ∷ xs) (suc i) (suc j) y at = let found = at-before xs i j y at in let less : j < i = found.0 in (omega arith, found.1)

-- whether two declarations of one name may not both stand
abbrev pub collide : d.Declared → d.Declared → Bool
collide a b = d.names_agree a.name b.name && (u.excludes a b || u.excludes b a)

same_answer : (a b : Bool) → (a ≡ true → b ≡ true) → (b ≡ true → a ≡ true) → a ≡ b
same_answer true b there back = sym (there refl)
same_answer false true there back = back refl
same_answer false false there back = refl

-- a declaration is doubled if it collides with one that was listed before it
pub doubled-before : (reading : d.Reading) (kind : s.ModuleKind) (items : List Item) (i : ℕ) (x : d.Declared) → slice_get (d.declared reading kind items) i ≡ Some x → u.is_doubled (d.declared reading kind items) x ≡ list_any (λ a. collide a x) (take i (d.declared reading kind items))
doubled-before reading kind items i x at = same_answer (u.is_doubled (d.declared reading kind items) x) (list_any (λ a. collide a x) (take i (d.declared reading kind items))) forth back
  where
    forth : u.is_doubled (d.declared reading kind items) x ≡ true → list_any (λ a. collide a x) (take i (d.declared reading kind items)) ≡ true
    forth is =
        let found = list_any-found (λ a. nat_lt a.place x.place && u.clash a x) (d.declared reading kind items) is in
        let parts = and_parts (nat_lt found.1.place x.place) (u.clash found.1 x) found.3 in
        let inner = and_parts (d.names_agree found.1.name x.name && not (found.1.place == x.place)) (u.excludes found.1 x || u.excludes x found.1) parts.1 in
        let named = and_parts (d.names_agree found.1.name x.name) (not (found.1.place == x.place)) inner.0 in
        let less : found.1.place < x.place = ltb-true found.1.place x.place parts.0 in
        list_any-here (λ a. collide a x) (take i (d.declared reading kind items)) found.0 found.1 (before-at (d.declared reading kind items) i found.0 found.1 (earlier found.0 found.1 found.2 less) found.2) (and_from (d.names_agree found.1.name x.name) (u.excludes found.1 x || u.excludes x found.1) named.0 inner.1)
      where
        earlier : (j : ℕ) (y : d.Declared) → slice_get (d.declared reading kind items) j ≡ Some y → y.place < x.place → j < i
        earlier j y there less = ⊎_elim (λ same. let is : y ≡ x = same_Some y x (sym there ∙ ap (slice_get (d.declared reading kind items)) same ∙ at) in let place : y.place ≡ x.place = ap (λ (z : d.Declared). z.place) is in absurd (omega arith)) (λ apart. ⊎_elim (λ lt. lt) (λ lt. let known = declared-apart reading kind items i j x y lt at there in let within : x.place ≤ y.place = known.within in absurd (omega arith)) apart) (cases_order j i)

    back : list_any (λ a. collide a x) (take i (d.declared reading kind items)) ≡ true → u.is_doubled (d.declared reading kind items) x ≡ true
    back is =
        let found = list_any-found (λ a. collide a x) (take i (d.declared reading kind items)) is in
        let there = at-before (d.declared reading kind items) i found.0 found.1 found.2 in
        let parts = and_parts (d.names_agree found.1.name x.name) (u.excludes found.1 x || u.excludes x found.1) found.3 in
        list_any-here (λ a. nat_lt a.place x.place && u.clash a x) (d.declared reading kind items) found.0 found.1 there.1 (by found.1 parts (declared-apart reading kind items found.0 i found.1 x there.0 there.1 at).apart)
      where
        by : (y : d.Declared) → (d.names_agree y.name x.name ≡ true) × ((u.excludes y x || u.excludes x y) ≡ true) → (y.place < x.place) ⊎ (d.names_agree y.name x.name ≡ false) → (nat_lt y.place x.place && u.clash y x) ≡ true
        by y parts (inr none) = absurd (false≢true (sym none ∙ parts.0))
        by y parts (inl less) = and_from (nat_lt y.place x.place) (u.clash y x) (lt-ltb y.place x.place less) (and_from (d.names_agree y.name x.name && not (y.place == x.place)) (u.excludes y x || u.excludes x y) (and_from (d.names_agree y.name x.name) (not (y.place == x.place)) parts.0 (not_from_false (y.place == x.place) (ne_eqb y.place x.place (λ same. absurd (omega arith))))) parts.1)
