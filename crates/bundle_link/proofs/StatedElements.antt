-- Whole nodes side by side.
-- The elements of what a top item states are its own, but for the ends of an export.
use Rattle.std.proofs.Common.{◌≡◌, ℕ, zero, suc, List, [], ◌∷◌, ◌++◌, append_assoc, refl, sym, ap, ◌∙◌, ◌⊎◌, inl, inr, ◌+◌, ◌<◌, ◌≤◌, Bool, true, false, not, length, Some, subst, arith}
use Rattle.std.specs.Prelude.{Contains, slice_get}
use Rattle.std.proofs.lemmas.List.Elements.{Contains-append_left, Contains-append_cases}
use Rattle.std.proofs.lemmas.Option.{none-some, same_Some}
use Rattle.bundle_syntax.specs.Item as h
use Rattle.bundle_syntax.specs.Item.{Item, Head}
use Rattle.bundle_syntax.specs.declared.piece.Role.{Role}
use Rattle.bundle_rules.specs.Nodes.{put_first, side_by_side, without_last}
use Rattle.bundle_rules.specs.Statements.{TopItem, placed, Element, taken, written, taken_from, moved_to, taken_in_field, default_binding, default_constant, declaration_head, with_name, default_declaration, stated_by, stated}
use Rattle.bundle_tree_places.specs.Stated.{states_nothing}
use Rattle.bundle_link_index.proofs.AskedLemmas.{none_there as none-there, only_one as only-one}
use Rattle.bundle_link_index.proofs.ProgramLemmas.{later as later-there, first_or_later as there-cases}
use Rattle.bundle_link_targets.proofs.ListLemmas.{first-there}
use Rattle.bundle_link.specs.Nested.{AreNodes, nothing, name, hole, node}
use Rattle.bundle_link.proofs.NodePaths.{get-front, get-behind, split}

-- ---- node parts

-- these elements in front of the first list
put_all : List Item → List (List Item) → List (List Item)
put_all [] lists = lists
put_all (x ∷ xs) lists = put_first x (put_all xs lists)

put_all-append : (xs ys : List Item) (lists : List (List Item)) → put_all (xs ++ ys) lists ≡ put_all xs (put_all ys lists)
unfolding put_all
put_all-append [] ys lists = refl
put_all-append (x ∷ xs) ys lists = ap (put_first x) (put_all-append xs ys lists)

put_all-front : (xs first : List Item) (lists : List (List Item)) → put_all xs (first ∷ lists) ≡ (xs ++ first) ∷ lists
unfolding put_all
put_all-front [] first lists = refl
put_all-front (x ∷ xs) first lists = ap (put_first x) (put_all-front xs first lists)

-- in a node that is open
in-node : {xs : List Item} → AreNodes xs → (depth : ℕ) (ys : List Item) → side_by_side (suc depth) (xs ++ ys) ≡ put_all xs (side_by_side (suc depth) ys)
unfolding put_all
in-node nothing depth ys = refl
in-node (name {field = f} {ctxt = t} {sym = y} {role = r} are) depth ys = ap (put_first (h.Ident f y t r)) (in-node are depth ys)
in-node (hole {field = f} are) depth ys = ap (put_first (h.Hole f)) (in-node are depth ys)
in-node (node {field = f} {head = hd} {inside = ins} {rest = rest} in_it parts are) depth ys =
    ap (put_first (h.Open f hd)) (
    ap (side_by_side (suc (suc depth))) (append_assoc ins (h.Close ∷ rest) ys)
    ∙ in-node in_it (suc depth) (h.Close ∷ (rest ++ ys))
    ∙ ap (λ l. put_all ins (put_first h.Close l)) (in-node are depth ys)
    ∙ sym (put_all-append ins (h.Close ∷ rest) (side_by_side (suc depth) ys))
    )

-- the first of them is the node that begins
pub node-first : {inside : List Item} → AreNodes inside → (field : ℕ) (head : Head) (rest : List Item) → side_by_side zero (h.Open field head ∷ (inside ++ h.Close ∷ rest)) ≡ (h.Open field head ∷ (inside ++ h.Close ∷ [])) ∷ side_by_side zero rest
node-first {inside = ins} are field head rest = ap (put_first (h.Open field head)) (in-node are zero (h.Close ∷ rest) ∙ put_all-front ins (h.Close ∷ []) (side_by_side zero rest))

pub last-off : (xs : List Item) (x : Item) → without_last (xs ++ x ∷ []) ≡ xs
last-off [] x = refl
last-off (y ∷ []) x = refl
last-off (y ∷ z ∷ xs) x = ap (λ l. y ∷ l) (last-off (z ∷ xs) x)

-- the end of the node around them does not matter
pub sides-end : {xs : List Item} → AreNodes xs → (ys : List Item) → side_by_side zero (xs ++ h.Close ∷ ys) ≡ side_by_side zero xs
sides-end nothing ys = refl
sides-end (name {field = f} {ctxt = t} {sym = y} {role = r} are) ys = ap (λ l. (h.Ident f y t r ∷ []) ∷ l) (sides-end are ys)
sides-end (hole {field = f} are) ys = ap (λ l. (h.Hole f ∷ []) ∷ l) (sides-end are ys)
sides-end (node {field = f} {head = hd} {inside = ins} {rest = rest} in_it parts are) ys =
    ap (λ l. side_by_side zero (h.Open f hd ∷ l)) (append_assoc ins (h.Close ∷ rest) (h.Close ∷ ys))
    ∙ node-first in_it f hd (rest ++ h.Close ∷ ys)
    ∙ ap (λ l. (h.Open f hd ∷ (ins ++ h.Close ∷ [])) ∷ l) (sides-end are ys)
    ∙ sym (node-first in_it f hd rest)

-- ---- what a top item with a head states
data Form : Head → Type 0 where
  silent : (head : Head) → states_nothing head ≡ true → ((start : ℕ) (items : List Item) → stated_by head start items ≡ []) → Form head
  as_it_is : (head : Head) → states_nothing head ≡ false → ((start : ℕ) (items : List Item) → stated_by head start items ≡ taken_from start items ∷ []) → Form head
  declared : Form h.ExportDecl
  default_expression : Form h.ExportDefaultExpr
  default_declared : Form h.ExportDefaultDecl

form : (head : Head) → Form head
form (h.ImportDecl meta) = silent (h.ImportDecl meta) refl (λ start items. refl)
form (h.NamedExport meta) = silent (h.NamedExport meta) refl (λ start items. refl)
form (h.ExportAll meta) = silent (h.ExportAll meta) refl (λ start items. refl)
form h.EmptyStmt = silent h.EmptyStmt refl (λ start items. refl)
form h.ExportDecl = declared
form h.ExportDefaultExpr = default_expression
form h.ExportDefaultDecl = default_declared
form head = as_it_is head refl (λ start items. refl)

-- whether a top item states something
abbrev pub is_stating : List Item → Bool
is_stating (h.Open field head ∷ rest) = not (states_nothing head)
is_stating _ = true

-- ---- top items follow each other
pub placed-from : (b : ℕ) (lists : List (List Item)) (t : TopItem) → Contains (placed b lists) t → b ≤ t.start
placed-from b [] t c = none-there t c
placed-from b (items ∷ more) t c = by (there-cases _ (placed (b + length items) more) t c) (λ d. placed-from (b + length items) more t d)
  where
    first : TopItem
    first = record { start = b; items = items }

    by : (record { start = b; items = items } ≡ t) ⊎ Contains (placed (b + length items) more) t → (Contains (placed (b + length items) more) t → b + length items ≤ t.start) → b ≤ t.start
    by (inl e) ih = let s : b ≡ t.start = ap (λ (x : TopItem). x.start) e in omega (arith, s)
    by (inr d) ih = let l = ih d in omega (arith, l)

-- a place lies in a top item
abbrev pub IsIn : TopItem → ℕ → Type 0
IsIn t p = (t.start ≤ p) × (p < t.start + length t.items)

pub one-top : (b : ℕ) (lists : List (List Item)) (t u : TopItem) (p : ℕ) → Contains (placed b lists) t → Contains (placed b lists) u → IsIn t p → IsIn u p → t ≡ u
one-top b [] t u p ct cu it iu = none-there t ct
one-top b (items ∷ more) t u p ct cu it iu = by (there-cases _ later t ct) (there-cases _ later u cu) (λ dt du. one-top (b + length items) more t u p dt du it iu)
  where
    later : List TopItem
    later = placed (b + length items) more

    apart : (v w : TopItem) → record { start = b; items = items } ≡ v → Contains (placed (b + length items) more) w → IsIn v p → IsIn w p → ⊥
    apart v w e d iv iw =
        let l = placed-from (b + length items) more w d in
        let s : b ≡ v.start = ap (λ (x : TopItem). x.start) e in
        let n : length items ≡ length v.items = ap (λ (x : TopItem). length x.items) e in
        omega (arith, l, s, n, iv.1, iw.0)

    by : (record { start = b; items = items } ≡ t) ⊎ Contains later t → (record { start = b; items = items } ≡ u) ⊎ Contains later u → (Contains later t → Contains later u → t ≡ u) → t ≡ u
    by (inl e) (inl f) ih = sym e ∙ f
    by (inl e) (inr d) ih = absurd (apart t u e d it iu)
    by (inr d) (inl f) ih = absurd (apart u t f d iu it)
    by (inr d) (inr g) ih = ih d g

-- ---- the places of a statement's elements
InRange : ℕ → ℕ → List Element → Type 0
InRange b c statement = (p : ℕ) (x : Item) → Contains statement (taken p x) → (b ≤ p) × (p < c)

range-none : (b c : ℕ) → InRange b c []
unfolding InRange
range-none b c p x there = none-there (taken p x) there

range-written : (b c : ℕ) (y : Item) (statement : List Element) → InRange b c statement → InRange b c (written y ∷ statement)
unfolding InRange
range-written b c y statement are p x there = elim (there-cases (written y) statement (taken p x) there) [ inl e ↦ cc | inr more ↦ are p x more ]

range-one : (b c q : ℕ) (y : Item) (statement : List Element) → b ≤ q → q < c → InRange b c statement → InRange b c (taken q y ∷ statement)
unfolding InRange
range-one b c q y statement lo hi are p x there = elim (there-cases (taken q y) statement (taken p x) there) [ inl e ↦ same e | inr more ↦ are p x more ]
  where
    same : taken q y ≡ taken p x → (b ≤ p) × (p < c)
    same e = let s : q ≡ p = cc in (omega (arith, s, lo), omega (arith, s, hi))

range-append : (b c : ℕ) (first second : List Element) → InRange b c first → InRange b c second → InRange b c (first ++ second)
unfolding InRange
range-append b c first second are also p x there = elim (Contains-append_cases first second (taken p x) there) [ inl here ↦ are p x here | inr more ↦ also p x more ]

range-more : (b c d e : ℕ) (statement : List Element) → d ≤ b → c ≤ e → InRange b c statement → InRange d e statement
unfolding InRange
range-more b c d e statement lo hi are p x there = let r = are p x there in (omega (arith, lo, r.0), omega (arith, hi, r.1))

range-from : (b : ℕ) (xs : List Item) → InRange b (b + length xs) (taken_from b xs)
range-from b [] = range-none b (b + length {A = Item} [])
range-from b (y ∷ xs) = range-one b (b + length (y ∷ xs)) b y (taken_from (suc b) xs) (omega arith) (omega arith) (range-more (suc b) (suc b + length xs) b (b + length (y ∷ xs)) (taken_from (suc b) xs) (omega arith) (omega arith) (range-from (suc b) xs))

range-in_field : (f b : ℕ) (xs : List Item) → InRange b (b + length xs) (taken_in_field f b xs)
range-in_field f b [] = range-none b (b + length {A = Item} [])
range-in_field f b (y ∷ xs) = range-one b (b + length (y ∷ xs)) b (moved_to f y) (taken_from (suc b) xs) (omega arith) (omega arith) (range-more (suc b) (suc b + length xs) b (b + length (y ∷ xs)) (taken_from (suc b) xs) (omega arith) (omega arith) (range-from (suc b) xs))

range-with_name : (b : ℕ) (xs : List Item) → InRange b (b + length xs) (with_name b xs)
range-with_name b [] = range-from b []
range-with_name b (h.Ident field symbol ctxt role ∷ rest) = range-from b (h.Ident field symbol ctxt role ∷ rest)
range-with_name b (h.Open field head ∷ rest) = range-written b _ _ _ (range-from b (h.Open field head ∷ rest))
range-with_name b (h.Hole field ∷ rest) = range-from b (h.Hole field ∷ rest)
range-with_name b (h.Close ∷ rest) = range-from b (h.Close ∷ rest)

range-declaration : (b : ℕ) (xs : List Item) → InRange b (b + length xs) (default_declaration b xs)
range-declaration b [] = range-from b []
range-declaration b (h.Ident field symbol ctxt role ∷ rest) = range-from b (h.Ident field symbol ctxt role ∷ rest)
range-declaration b (h.Open field head ∷ rest) = range-one b (b + length (h.Open field head ∷ rest)) b _ (with_name (suc b) rest) (omega arith) (omega arith) (range-more (suc b) (suc b + length rest) b (b + length (h.Open field head ∷ rest)) (with_name (suc b) rest) (omega arith) (omega arith) (range-with_name (suc b) rest))
range-declaration b (h.Hole field ∷ rest) = range-from b (h.Hole field ∷ rest)
range-declaration b (h.Close ∷ rest) = range-from b (h.Close ∷ rest)

range-constant : (b : ℕ) (xs : List Item) → InRange b (b + length xs) (default_constant b xs)
range-constant b xs =
    let c : ℕ = b + length xs in
    range-written b c _ _ (range-written b c _ _ (range-written b c _ _ (range-written b c _ _ (range-written b c _ _ (
    range-append b c (taken_in_field 1 b xs) _ (range-in_field 1 b xs) (range-written b c _ _ (range-written b c _ _ (range-none b c)))
    )))))

pub without_last-shorter : (xs : List Item) → length (without_last xs) ≤ length xs
without_last-shorter [] = omega arith
without_last-shorter (x ∷ []) = omega arith
without_last-shorter (x ∷ y ∷ rest) = let ih = without_last-shorter (y ∷ rest) in omega (arith, ih)

-- the elements of what a top item states are its own
pub stated-range : (start : ℕ) (items : List Item) (statement : List Element) → Contains (stated start items) statement → (is_stating items ≡ true) × ((p : ℕ) (x : Item) → Contains statement (taken p x) → (start ≤ p) × (p < start + length items))
unfolding InRange
stated-range start [] statement c = none-there statement c
stated-range start (h.Ident field symbol ctxt role ∷ rest) statement c = (refl, subst (λ st. InRange start (start + length (h.Ident field symbol ctxt role ∷ rest)) st) (only-one _ statement c) (range-from start (h.Ident field symbol ctxt role ∷ rest)))
stated-range start (h.Hole field ∷ rest) statement c = (refl, subst (λ st. InRange start (start + length (h.Hole field ∷ rest)) st) (only-one _ statement c) (range-from start (h.Hole field ∷ rest)))
stated-range start (h.Close ∷ rest) statement c = (refl, subst (λ st. InRange start (start + length (h.Close ∷ rest)) st) (only-one _ statement c) (range-from start (h.Close ∷ rest)))
stated-range start (h.Open field head ∷ rest) statement c = by head (form head) c
  where
    exported : (k : Head) (st : List Element) → InRange (suc start) (suc start + length (without_last rest)) st → Contains (st ∷ []) statement → InRange start (start + length (h.Open field k ∷ rest)) statement
    exported k st are c =
        let l = without_last-shorter rest in
        range-more (suc start) (suc start + length (without_last rest)) start (start + length (h.Open field k ∷ rest)) statement (omega arith) (omega (arith, l)) (subst (λ z. InRange (suc start) (suc start + length (without_last rest)) z) (only-one st statement c) are)

    by : (k : Head) → Form k → Contains (stated_by k start (h.Open field k ∷ rest)) statement → (not (states_nothing k) ≡ true) × InRange start (start + length (h.Open field k ∷ rest)) statement
    by _ (silent k is e) c = none-there statement (subst (λ l. Contains l statement) (e start (h.Open field k ∷ rest)) c)
    by _ (as_it_is k is e) c = (ap not is, subst (λ st. InRange start (start + length (h.Open field k ∷ rest)) st) (only-one (taken_from start (h.Open field k ∷ rest)) statement (subst (λ l. Contains l statement) (e start (h.Open field k ∷ rest)) c)) (range-from start (h.Open field k ∷ rest)))
    by k declared c = (refl, exported h.ExportDecl (taken_from (suc start) (without_last rest)) (range-from (suc start) (without_last rest)) c)
    by k default_expression c = (refl, exported h.ExportDefaultExpr (default_constant (suc start) (without_last rest)) (range-constant (suc start) (without_last rest)) c)
    by k default_declared c = (refl, exported h.ExportDefaultDecl (default_declaration (suc start) (without_last rest)) (range-declaration (suc start) (without_last rest)) c)

-- ---- each name and each member of a top item that states something is an element of what it states
pub data Plain : Item → Type 0 where
  a_name : {field ctxt : ℕ} {symbol : List ℕ} {role : Role} → Plain (h.Ident field symbol ctxt role)
  a_member : {field : ℕ} → Plain (h.Open field h.MemberExpr)

plain-head : {x : Item} → Plain x → (field : ℕ) (head : Head) → h.Open field head ≡ x → head ≡ h.MemberExpr
plain-head a_name field head e = cc
plain-head a_member field head e = cc

plain-end : {x : Item} → Plain x → h.Close ≡ x → ⊥
plain-end a_name e = cc
plain-end a_member e = cc

-- the items of a top item
pub data IsPart : List Item → Type 0 where
  one_name : {field ctxt : ℕ} {symbol : List ℕ} {role : Role} → IsPart (h.Ident field symbol ctxt role ∷ [])
  one_node : (field : ℕ) (head : Head) (ins : List Item) → IsPart (h.Open field head ∷ (ins ++ h.Close ∷ []))

-- the element stands there, or another in its place that begins a node where it does
pub record Has (statement : List Element) (p : ℕ) (x : Item) : Type 0 where
  pub other : Item
  pub there : Contains statement (taken p other)
  pub opens : (f : ℕ) (head : Head) → x ≡ h.Open f head → (g : ℕ) × (k : Head) × (other ≡ h.Open g k)

has-self : (statement : List Element) (p : ℕ) (x : Item) → Contains statement (taken p x) → Has statement p x
has-self statement p x there = record { other = x; there = there; opens = λ f head e. (f, head, e) }

has-later : (e : Element) (statement : List Element) (p : ℕ) (x : Item) → Has statement p x → Has (e ∷ statement) p x
has-later e statement p x has = record { other = has.other; there = later-there e statement (taken p has.other) has.there; opens = has.opens }

has-front : (first second : List Element) (p : ℕ) (x : Item) → Has first p x → Has (first ++ second) p x
has-front first second p x has = record { other = has.other; there = Contains-append_left first second (taken p has.other) has.there; opens = has.opens }

taken-there : (b : ℕ) (xs : List Item) (j : ℕ) (x : Item) (p : ℕ) → slice_get xs j ≡ Some x → p ≡ b + j → Contains (taken_from b xs) (taken p x)
taken-there b [] j x p e ep = absurd (none-some x e)
taken-there b (y ∷ xs) zero x p e ep =
    let same : y ≡ x = same_Some y x e in
    let place : b ≡ p = omega (arith, ep) in
    subst (λ z. Contains (taken b y ∷ taken_from (suc b) xs) z) (ap (λ n. taken n y) place ∙ ap (λ z. taken p z) same) (first-there (taken b y) (taken_from (suc b) xs))
taken-there b (y ∷ xs) (suc j) x p e ep = later-there (taken b y) (taken_from (suc b) xs) (taken p x) (taken-there (suc b) xs j x p e (omega (arith, ep)))

has-from : (b : ℕ) (xs : List Item) (j : ℕ) (x : Item) (p : ℕ) → slice_get xs j ≡ Some x → p ≡ b + j → Has (taken_from b xs) p x
has-from b xs j x p e ep = has-self (taken_from b xs) p x (taken-there b xs j x p e ep)

taken-first : (b p : ℕ) (y : Item) (more : List Element) → p ≡ b + 0 → Contains (taken b y ∷ more) (taken p y)
taken-first b p y more ep = let place : b ≡ p = omega (arith, ep) in subst (λ n. Contains (taken b y ∷ more) (taken n y)) place (first-there (taken b y) more)

has-in_field : (f b : ℕ) (xs : List Item) (j : ℕ) (x : Item) (p : ℕ) → slice_get xs j ≡ Some x → p ≡ b + j → Has (taken_in_field f b xs) p x
has-in_field f b [] j x p e ep = absurd (none-some x e)
has-in_field f b (y ∷ xs) zero x p e ep = record { other = moved_to f y; there = taken-first b p (moved_to f y) (taken_from (suc b) xs) ep; opens = λ g head opens. (f, head, ap (moved_to f) (same_Some y x e ∙ opens)) }
has-in_field f b (y ∷ xs) (suc j) x p e ep = has-later (taken b (moved_to f y)) (taken_from (suc b) xs) p x (has-from (suc b) xs j x p e (omega (arith, ep)))

has-with_name : (b : ℕ) (xs : List Item) (j : ℕ) (x : Item) (p : ℕ) → slice_get xs j ≡ Some x → p ≡ b + j → Has (with_name b xs) p x
has-with_name b [] j x p e ep = absurd (none-some x e)
has-with_name b (h.Ident field symbol ctxt role ∷ rest) j x p e ep = has-from b (h.Ident field symbol ctxt role ∷ rest) j x p e ep
has-with_name b (h.Open field head ∷ rest) j x p e ep = has-later default_binding (taken_from b (h.Open field head ∷ rest)) p x (has-from b (h.Open field head ∷ rest) j x p e ep)
has-with_name b (h.Hole field ∷ rest) j x p e ep = has-from b (h.Hole field ∷ rest) j x p e ep
has-with_name b (h.Close ∷ rest) j x p e ep = has-from b (h.Close ∷ rest) j x p e ep

has-declaration : (b : ℕ) (xs : List Item) (j : ℕ) (x : Item) (p : ℕ) → slice_get xs j ≡ Some x → p ≡ b + j → Has (default_declaration b xs) p x
has-declaration b [] j x p e ep = absurd (none-some x e)
has-declaration b (h.Ident field symbol ctxt role ∷ rest) j x p e ep = has-from b (h.Ident field symbol ctxt role ∷ rest) j x p e ep
has-declaration b (h.Open field head ∷ rest) zero x p e ep = record { other = h.Open 0 (declaration_head head); there = taken-first b p (h.Open 0 (declaration_head head)) (with_name (suc b) rest) ep; opens = λ g k opens. (0, declaration_head head, refl) }
has-declaration b (h.Open field head ∷ rest) (suc j) x p e ep = has-later (taken b (h.Open 0 (declaration_head head))) (with_name (suc b) rest) p x (has-with_name (suc b) rest j x p e (omega (arith, ep)))
has-declaration b (h.Hole field ∷ rest) j x p e ep = has-from b (h.Hole field ∷ rest) j x p e ep
has-declaration b (h.Close ∷ rest) j x p e ep = has-from b (h.Close ∷ rest) j x p e ep

has-constant : (b : ℕ) (xs : List Item) (j : ℕ) (x : Item) (p : ℕ) → slice_get xs j ≡ Some x → p ≡ b + j → Has (default_constant b xs) p x
has-constant b xs j x p e ep = has-later _ _ p x (has-later _ _ p x (has-later _ _ p x (has-later _ _ p x (has-later _ _ p x (has-front (taken_in_field 1 b xs) _ p x (has-in_field 1 b xs j x p e ep))))))

plain-front : (ins : List Item) (j : ℕ) (x : Item) → Plain x → slice_get (ins ++ h.Close ∷ []) j ≡ Some x → slice_get ins j ≡ Some x
plain-front ins j x plain e = elim (split ins j) [
  | inl l ↦ sym (get-front ins (h.Close ∷ []) j l) ∙ e
  | inr more ↦ absurd (behind more.0 (sym (get-behind ins (h.Close ∷ []) j more.0 more.1) ∙ e))
]
  where
    behind : (k : ℕ) → slice_get (h.Close ∷ []) k ≡ Some x → ⊥
    behind zero e = plain-end plain (same_Some h.Close x e)
    behind (suc k) e = none-some x e

pub has-stated : (start : ℕ) {items : List Item} → IsPart items → is_stating items ≡ true → (j : ℕ) (x : Item) → Plain x → slice_get items j ≡ Some x → (p : ℕ) → p ≡ start + j → (statement : List Element) × Contains (stated start items) statement × Has statement p x
has-stated start (one_name {field = f} {ctxt = t} {symbol = y} {role = r}) is j x plain e p ep =
    let items : List Item = h.Ident f y t r ∷ [] in
    (taken_from start items, first-there (taken_from start items) [], has-from start items j x p e ep)
has-stated start (one_node field head ins) is j x plain e p ep = by head (form head) is j e ep
  where
    whole : Head → List Item
    whole k = h.Open field k ∷ (ins ++ h.Close ∷ [])

    Given : List (List Element) → Type 0
    Given statements = (statement : List Element) × Contains statements statement × Has statement p x

    put : (k : Head) (make : List Item → List Element) → ((k : ℕ) → p ≡ suc start + k → slice_get ins k ≡ Some x → Has (make ins) p x) → (k ≡ h.MemberExpr → ⊥) → (j : ℕ) → slice_get (h.Open field k ∷ (ins ++ h.Close ∷ [])) j ≡ Some x → p ≡ start + j → (statement : List Element) × Contains (make (without_last (ins ++ h.Close ∷ [])) ∷ []) statement × Has statement p x
    put k make has other zero e ep = absurd (other (plain-head plain field k (same_Some (h.Open field k) x e)))
    put k make has other (suc j) e ep =
        let ends : without_last (ins ++ h.Close ∷ []) ≡ ins = last-off ins h.Close in
        let there = has j (omega (arith, ep)) (plain-front ins j x plain e) in
        (make (without_last (ins ++ h.Close ∷ [])), first-there _ [], subst (λ l. Has (make l) p x) (sym ends) there)

    by : (k : Head) → Form k → not (states_nothing k) ≡ true → (j : ℕ) → slice_get (h.Open field k ∷ (ins ++ h.Close ∷ [])) j ≡ Some x → p ≡ start + j → (statement : List Element) × Contains (stated_by k start (h.Open field k ∷ (ins ++ h.Close ∷ []))) statement × Has statement p x
    by _ (silent k none e) is j at ep = absurd (let f : not true ≡ true = sym (ap not none) ∙ is in cc)
    by _ (as_it_is k some e) is j at ep =
        let items : List Item = h.Open field k ∷ (ins ++ h.Close ∷ []) in
        (taken_from start items, subst (λ l. Contains l (taken_from start items)) (sym (e start items)) (first-there (taken_from start items) []), has-from start items j x p at ep)
    by k declared is j at ep = put h.ExportDecl (λ l. taken_from (suc start) l) (λ k ek e. has-from (suc start) ins k x p e ek) (λ e. cc) j at ep
    by k default_expression is j at ep = put h.ExportDefaultExpr (λ l. default_constant (suc start) l) (λ k ek e. has-constant (suc start) ins k x p e ek) (λ e. cc) j at ep
    by k default_declared is j at ep = put h.ExportDefaultDecl (λ l. default_declaration (suc start) l) (λ k ek e. has-declaration (suc start) ins k x p e ek) (λ e. cc) j at ep
