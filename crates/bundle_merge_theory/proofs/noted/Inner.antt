-- The bindings inside a statement, by their numbers: what lies outside has none, what lies inside
-- has one, and where two statements' names denote alike they have the same.
-- The meaning of a part of a tree, step by step.
use Rattle.std.proofs.Common.{◌≡◌, ℕ, zero, suc, ◌+◌, ◌<◌, ◌≤◌, ◌&&◌, ◌||◌, Bool, true, false, cond, not, List, [], ◌∷◌, length, filter, Some, None, refl, sym, ap, ◌∙◌, subst, arith, ◌==◌, ◌++◌, append_assoc}
use Rattle.std.specs.Prelude.{Contains, bytes_eq, filter_map, nat_le, position, if◌then◌else◌, fold}
use Rattle.std.specs.List.{position_or_len, list_any}
use Rattle.std.proofs.lemmas.Bool.{false≢true, true≢false, and_parts, and_from, or_right, le-ltb, lt-ltb, eqb-true, eq-eqb}
use Rattle.std.proofs.lemmas.Slice.Eq.{bytes_eq-Decides}
use Rattle.std.proofs.Math.Dec.{eqb-suc-zero}
use Rattle.bundle_syntax.specs.declared.piece.Role.{Role}
use Rattle.bundle_syntax.specs.Item as h
use Rattle.bundle_syntax.specs.Item.{Item, Head}
use Rattle.bundle_syntax.specs.declared.piece.Role.TheVariants as r
use Rattle.bundle_rules.specs.Scopes.{Wrapper, Top, Inner, scope_order, same_scope}
use Rattle.bundle_rules.specs.Denotes.{Denoted, Bound, Global, denoted_at}
use Rattle.bundle_rules.specs.Statements.{Element, taken, taken_from}
use Rattle.bundle_rules.specs.Mentions.{same_context, same_denoted, each_denoted_once}
use Rattle.bundle_rules.specs.Meaning.{View, denoted, is_inside, inner_bindings, Sense, Meant, Mark, Replacement, replacement_marks, NameMeans, Means, replaced, begun, ended, empty, named, word}
use Rattle.bundle_rules.specs.Places.{Around, Spot, in_field, past, path_at}
use Rattle.bundle_rules.specs.Nodes.{Text}
use Rattle.bundle_rules.specs.Shorthands.{has_default, is_shorthand_in_pattern, is_object}
use Rattle.bundle_rules.specs.Cleared.{cleared_head}
use Rattle.bundle_rules.specs.Marks
use Rattle.bundle_rules.specs.Marks.{begin_marks, end_marks, name_marks}
use Rattle.bundle_tree_places.specs.Edits as edits
use Rattle.bundle_tree_places.specs.Edits.{is_occurrence}
use Rattle.bundle_order.proofs.EventLemmas.{same_context-is as contexts_same, same_context-refl as same_contexts}
use Rattle.bundle_link.proofs.NodePaths.{spot-in}
use Rattle.bundle_merge_theory.specs.noted.Nodes.{AreNodesInTurn}
use Rattle.bundle_merge_theory.specs.noted.Marked.{node_marks, marks_there}
use Rattle.bundle_merge_theory.specs.noted.Agrees.{IsSpotAt, IsClear}
use Rattle.bundle_merge_theory.proofs.noted.Spots.{around_spot, fold-path, at-path}
use Rattle.bundle_merge_theory.proofs.noted.Shapes.{past_nodes}
use Rattle.bundle_merge_theory.proofs.noted.Replaces.{clear-field}

-- ---- lists
-- each element passes, or has the property
abbrev pub Each : {A : Type 0} → (A → Type 0) → List A → Type 0
Each P [] = Unit {0}
Each P (x ∷ xs) = P x × Each P xs

each-filter : {A : Type 0} (P : A → Type 0) (test : A → Bool) (xs : List A) → Each P xs →
    Each P (filter test xs)
each-filter P test [] each = tt
each-filter {A = A} P test (x ∷ xs) each = by (test x) (each-filter P test xs each.1)
  where
    by : (b : Bool) → Each P (filter test xs) →
        Each P (cond b (x ∷ filter test xs) (filter test xs))
    by true rest = (each.0, rest)
    by false rest = rest

each-passes : {A : Type 0} (test : A → Bool) (xs : List A) →
    Each (λ x. test x ≡ true) (filter test xs)
each-passes test [] = tt
each-passes {A = A} test (x ∷ xs) = by (test x) refl (each-passes test xs)
  where
    by : (b : Bool) → test x ≡ b → Each (λ x. test x ≡ true) (filter test xs) →
        Each (λ x. test x ≡ true) (cond b (x ∷ filter test xs) (filter test xs))
    by true is rest = (is, rest)
    by false is rest = rest

each-map : {A : Type 0} (P Q : A → Type 0) (xs : List A) → ((x : A) → P x → Q x) → Each P xs →
    Each Q xs
each-map P Q [] f each = tt
each-map P Q (x ∷ xs) f each = (f x each.0, each-map P Q xs f each.1)

-- ---- the first place that passes

none-first : {A : Type 0} (test : A → Bool) (xs : List A) → Each (λ x. test x ≡ false) xs →
    length xs ≤ position_or_len test xs
none-first test [] each = omega arith
none-first test (x ∷ xs) each =
    let rest = none-first test xs each.1 in
    let step : cond (not (test x)) (1 + position_or_len test xs) 0 ≡ 1 + position_or_len test xs =
    ap (λ b. cond (not b) (1 + position_or_len test xs) 0) each.0 in
    omega (arith, rest, step)

pub position-none : {A : Type 0} (test : A → Bool) (xs : List A) → Each (λ x. test x ≡ false) xs →
    position test xs ≡ None
position-none test xs each =
    ap (λ b. cond b (Some (position_or_len test xs)) None)
    (le-ltb (position_or_len test xs) (length xs) (none-first test xs each))

some-first : {A : Type 0} (test : A → Bool) (xs : List A) → list_any test xs ≡ true →
    position_or_len test xs < length xs
some-first test [] any = absurd (false≢true any)
some-first {A = A} test (x ∷ xs) any = by (test x) refl any (some-first test xs)
  where
    by : (b : Bool) → test x ≡ b → (b || list_any test xs) ≡ true →
        (list_any test xs ≡ true → position_or_len test xs < length xs) →
        cond (not (test x)) (1 + position_or_len test xs) 0 < suc (length xs)
    by true is any ih =
        let step : cond (not (test x)) (1 + position_or_len test xs) 0 ≡ 0 =
        ap (λ b. cond (not b) (1 + position_or_len test xs) 0) is in
        omega (arith, step)
    by false is any ih =
        let step : cond (not (test x)) (1 + position_or_len test xs) 0
        ≡ 1 + position_or_len test xs =
        ap (λ b. cond (not b) (1 + position_or_len test xs) 0) is in
        let l = ih any in omega (arith, step, l)

position-some : {A : Type 0} (test : A → Bool) (xs : List A) → list_any test xs ≡ true →
    (n : ℕ) × (position test xs ≡ Some n)
position-some test xs any = (
  position_or_len test xs,
  ap (λ b. cond b (Some (position_or_len test xs)) None)
      (lt-ltb (position_or_len test xs) (length xs) (some-first test xs any)),
)

-- ---- what is the same
abbrev Same : Denoted → Denoted → Type 0
Same (Bound scope name) (Bound other its) =
    (scope_order scope ≡ scope_order other) × (name.sym ≡ its.sym) × (name.ctxt ≡ its.ctxt)
Same (Global x) (Global y) = x ≡ y
Same (Bound scope name) (Global y) = ⊥
Same (Global x) (Bound other its) = ⊥

to_same : (d e : Denoted) → same_denoted d e ≡ true → Same d e
to_same (Bound scope name) (Bound other its) is =
    let one =
    and_parts (same_scope scope other && bytes_eq name.sym its.sym)
    (same_context name.ctxt its.ctxt) is in
    let two = and_parts (same_scope scope other) (bytes_eq name.sym its.sym) one.0 in (
      eqb-true (scope_order scope) (scope_order other) two.0,
      (bytes_eq-Decides name.sym its.sym).0
          two.1,
      contexts_same name.ctxt its.ctxt one.1,
    )
to_same (Global x) (Global y) is = (bytes_eq-Decides x y).0 is
to_same (Bound scope name) (Global y) is = false≢true is
to_same (Global x) (Bound other its) is = false≢true is

from_same : (d e : Denoted) → Same d e → same_denoted d e ≡ true
from_same (Bound scope name) (Bound other its) same =
    let texts : bytes_eq name.sym its.sym ≡ true = (bytes_eq-Decides name.sym its.sym).1 same.1 in
    let contexts : same_context name.ctxt its.ctxt ≡ true =
    subst (λ c. same_context name.ctxt c ≡ true) same.2 (same_contexts name.ctxt) in
    and_from (same_scope scope other && bytes_eq name.sym its.sym)
    (same_context name.ctxt its.ctxt)
    (and_from (same_scope scope other) (bytes_eq name.sym its.sym)
    (eq-eqb (scope_order scope) (scope_order other) same.0) texts)
    contexts
from_same (Global x) (Global y) same = (bytes_eq-Decides x y).1 same
from_same (Bound scope name) (Global y) same = absurd same
from_same (Global x) (Bound other its) same = absurd same

same_self : (d : Denoted) → Same d d
same_self (Bound scope name) = (refl, refl, refl)
same_self (Global x) = refl

same_back : (d e : Denoted) → Same d e → Same e d
same_back (Bound scope name) (Bound other its) same = (sym same.0, sym same.1, sym same.2)
same_back (Global x) (Global y) same = sym same
same_back (Bound scope name) (Global y) same = same
same_back (Global x) (Bound other its) same = same

same_on : (d e f : Denoted) → Same d e → Same e f → Same d f
same_on (Bound a n) (Bound b m) (Bound c k) one two = (one.0 ∙ two.0, one.1 ∙ two.1, one.2 ∙ two.2)
same_on (Global x) (Global y) (Global z) one two = one ∙ two
same_on (Bound a n) (Bound b m) (Global z) one two = two
same_on (Bound a n) (Global y) f one two = absurd one
same_on (Global x) (Bound b m) f one two = absurd one
same_on (Global x) (Global y) (Bound c k) one two = two

-- ---- inside and outside
inside_same : (start : ℕ) (d e : Denoted) → Same d e → is_inside start e ≡ true →
    is_inside start d ≡ true
inside_same start (Bound (Inner kind begins) name) (Bound (Inner other b) its) same is =
    let one = same.0 in
    let e : b ≡ begins = omega (arith, one) in subst (λ n. nat_le start n ≡ true) e is
inside_same start (Bound (Inner kind begins) name) (Bound Top its) same is = absurd (false≢true is)
inside_same start (Bound (Inner kind begins) name) (Bound Wrapper its) same is =
    absurd (false≢true is)
inside_same start (Bound Top name) (Bound (Inner other b) its) same is =
    let one = same.0 in absurd (omega (arith, one))
inside_same start (Bound Wrapper name) (Bound (Inner other b) its) same is =
    let one = same.0 in absurd (omega (arith, one))
inside_same start (Bound Top name) (Bound Top its) same is = is
inside_same start (Bound Top name) (Bound Wrapper its) same is = is
inside_same start (Bound Wrapper name) (Bound Top its) same is = is
inside_same start (Bound Wrapper name) (Bound Wrapper its) same is = is
inside_same start (Global x) (Global y) same is = is
inside_same start (Bound scope name) (Global y) same is = absurd same
inside_same start (Global x) (Bound other its) same is = absurd same

each-once : (P : Denoted → Type 0) (ds : List Denoted) → Each P ds → Each P (each_denoted_once ds)
each-once P [] each = tt
each-once P (d ∷ ds) each = (
  each.0,
  each-filter P (λ other. not (same_denoted d other)) (each_denoted_once ds)
      (each-once P ds each.1),
)

-- what is outside has no number among what is inside
pub position-outside : (start : ℕ) (d : Denoted) (ds : List Denoted) → is_inside start d ≡ false →
    position (same_denoted d) (each_denoted_once (filter (is_inside start) ds)) ≡ None
position-outside start d ds out =
    position-none (same_denoted d) (each_denoted_once (filter (is_inside start) ds))
    (each-once (λ e. same_denoted d e ≡ false) (filter (is_inside start) ds)
    (each-map (λ e. is_inside start e ≡ true) (λ e. same_denoted d e ≡ false) (filter (is_inside start) ds) differs (each-passes (is_inside start) ds)))
  where
    differs : (e : Denoted) → is_inside start e ≡ true → same_denoted d e ≡ false
    differs e is = by (same_denoted d e) refl
      where
        by : (b : Bool) → same_denoted d e ≡ b → same_denoted d e ≡ false
        by false same = same
        by true same =
            absurd (true≢false (sym (inside_same start d e (to_same d e same) is) ∙ out))

-- so a binding outside a statement has none in it
pub outside-position : (view : View) (start : ℕ) (statement : List Element) (d : Denoted) →
    is_inside start d ≡ false →
    position (same_denoted d) (inner_bindings view start statement) ≡ None
outside-position view start statement d out =
    position-outside start d (filter_map (denoted view) statement) out

-- ---- what is inside has a number
any-filter : (d e : Denoted) (ds : List Denoted) → list_any (same_denoted d) ds ≡ true →
    same_denoted e d ≡ false →
    list_any (same_denoted d) (filter (λ other. not (same_denoted e other)) ds) ≡ true
any-filter d e [] any differs = any
any-filter d e (x ∷ ds) any differs =
    by (same_denoted e x) (same_denoted d x) refl refl any (λ any. any-filter d e ds any differs)
  where
    rest : List Denoted
    rest = filter (λ other. not (same_denoted e other)) ds

    by : (b c : Bool) → same_denoted e x ≡ b → same_denoted d x ≡ c →
        (c || list_any (same_denoted d) ds) ≡ true →
        (list_any (same_denoted d) ds ≡ true →
        list_any (same_denoted d) (filter (λ other. not (same_denoted e other)) ds) ≡ true) →
        list_any (same_denoted d)
        (cond (not b) (x ∷ filter (λ other. not (same_denoted e other)) ds)
        (filter (λ other. not (same_denoted e other)) ds)) ≡ true
    by true true in_e in_d any ih =
        absurd
        (false≢true
        (sym differs
        ∙ from_same e d (same_on e x d (to_same e x in_e) (same_back d x (to_same d x in_d)))))
    by true false in_e in_d any ih = ih any
    by false true in_e in_d any ih =
        ap (λ b. b || list_any (same_denoted d) (filter (λ other. not (same_denoted e other)) ds))
        in_d
    by false false in_e in_d any ih =
        ap (λ b. b || list_any (same_denoted d) (filter (λ other. not (same_denoted e other)) ds))
        in_d
        ∙ ih any

any-once : (d : Denoted) (ds : List Denoted) → list_any (same_denoted d) ds ≡ true →
    list_any (same_denoted d) (each_denoted_once ds) ≡ true
any-once d [] any = any
any-once d (x ∷ ds) any = by (same_denoted d x) (same_denoted x d) refl refl any (any-once d ds)
  where
    by : (b c : Bool) → same_denoted d x ≡ b → same_denoted x d ≡ c →
        (b || list_any (same_denoted d) ds) ≡ true →
        (list_any (same_denoted d) ds ≡ true →
        list_any (same_denoted d) (each_denoted_once ds) ≡ true) →
        (same_denoted d x
        || list_any (same_denoted d)
        (filter (λ other. not (same_denoted x other)) (each_denoted_once ds))) ≡ true
    by true c is back any ih =
        ap
        (λ b.
        b
        || list_any (same_denoted d)
        (filter (λ other. not (same_denoted x other)) (each_denoted_once ds)))
        is
    by false true is back any ih =
        absurd (false≢true (sym is ∙ from_same d x (same_back x d (to_same x d back))))
    by false false is back any ih =
        ap
        (λ b.
        b
        || list_any (same_denoted d)
        (filter (λ other. not (same_denoted x other)) (each_denoted_once ds)))
        is
        ∙ any-filter d x (each_denoted_once ds) (ih any) back

-- what is denoted by an element of a statement, inside it, has a number
pub inside-position : (view : View) (start : ℕ) (statement : List Element) (d : Denoted) →
    list_any (same_denoted d) (filter (is_inside start) (filter_map (denoted view) statement))
    ≡ true → (n : ℕ) × (position (same_denoted d) (inner_bindings view start statement) ≡ Some n)
inside-position view start statement d any =
    position-some (same_denoted d) (inner_bindings view start statement)
    (any-once d (filter (is_inside start) (filter_map (denoted view) statement)) any)

pub any-there : (start : ℕ) (d : Denoted) (ds : List Denoted) → is_inside start d ≡ true →
    Contains ds d → list_any (same_denoted d) (filter (is_inside start) ds) ≡ true
any-there start d [] is (i, l, e) = absurd (omega (arith, l))
any-there start d (x ∷ ds) is (zero, l, e) =
    let same : same_denoted d x ≡ true =
    from_same d x (subst (λ y. Same d y) (sym e) (same_self d)) in
    let inside : is_inside start x ≡ true = subst (λ y. is_inside start y ≡ true) (sym e) is in
    ap
    (λ b.
    list_any (same_denoted d)
    (cond b (x ∷ filter (is_inside start) ds) (filter (is_inside start) ds)))
    inside
    ∙ ap (λ b. b || list_any (same_denoted d) (filter (is_inside start) ds)) same
any-there start d (x ∷ ds) is (suc i, l, e) =
    by (is_inside start x) (any-there start d ds is (i, omega (arith, l), e))
  where
    by : (b : Bool) → list_any (same_denoted d) (filter (is_inside start) ds) ≡ true →
        list_any (same_denoted d)
        (cond b (x ∷ filter (is_inside start) ds) (filter (is_inside start) ds)) ≡ true
    by true any =
        or_right (same_denoted d x) (list_any (same_denoted d) (filter (is_inside start) ds)) any
    by false any = any

-- ---- what is around a spot
abbrev pub is_in_object : edits.Around → Bool
is_in_object edits.InObject = true
is_in_object edits.Anywhere = false
is_in_object edits.InSpecifier = false

abbrev pub is_object_around : List Around → Bool
is_object_around [] = false
is_object_around (node ∷ outer) = is_object node.head

-- in a shorthand property only where it has a default
abbrev pub HasDefault : List Item → List Around → Type 0
HasDefault tree [] = Unit {0}
HasDefault tree (node ∷ outer) =
    is_shorthand_in_pattern node.head ≡ true → has_default tree node.begins ≡ true

pub object-field : (field : ℕ) (path : List Around) →
    is_object_around (in_field field path) ≡ is_object_around path
object-field field [] = refl
object-field field (node ∷ outer) = refl

default-field : (tree : List Item) (field : ℕ) (path : List Around) → HasDefault tree path →
    HasDefault tree (in_field field path)
default-field tree field [] has = has
default-field tree field (node ∷ outer) has = has

-- in an object literal or not, in a shorthand property only if it has a default, and in no node
-- that is replaced
pub record Stands (sense : Sense) (its : edits.Around) (s : Spot) : Type 0 where
  pub object : is_object_around s.path ≡ is_in_object its
  pub default : HasDefault sense.view.tree s.path
  pub clear : IsClear sense.replaced s.path

pub stands_behind : {sense : Sense} {its : edits.Around} {xs : List Item} → AreNodesInTurn xs →
    (s : Spot) → Stands sense its s → Stands sense its (fold past s xs)
stands_behind {sense = sense} {xs = xs} nodes s stands =
    let path = fold-path nodes s in
    record {
      object = ap is_object_around path.1 ∙ object-field path.0 s.path ∙ stands.object;
      default =
          subst (HasDefault sense.view.tree) (sym path.1)
          (default-field sense.view.tree path.0 s.path stands.default);
      clear =
          subst (IsClear sense.replaced) (sym path.1)
          (clear-field sense.replaced path.0 s.path stands.clear);
    }

pub stands_in : {sense : Sense} {its : edits.Around} (s : Spot) (inner : edits.Around) (field : ℕ)
    (head : Head) → Stands sense its s → ((x : Replacement) → sense.replaced s.place x → ⊥) →
    is_object head ≡ is_in_object inner → is_shorthand_in_pattern head ≡ false →
    Stands sense inner (spot-in s field head)
stands_in {sense = sense} s inner field head stands none object short = record {
  object = object;
  default = λ is. absurd (false≢true (sym short ∙ is));
  clear = (none, clear-field sense.replaced field s.path stands.clear);
}

-- ---- marks
abbrev pub is_moved : List Around → Bool
is_moved [] = false
is_moved (node ∷ outer) = is_shorthand_in_pattern node.head && (node.field == 0)

pub begin_plain : (tree : List Item) (place field : ℕ) (path : List Around) (head : Head) →
    is_shorthand_in_pattern head ≡ false → is_moved path ≡ false →
    begin_marks {N = Meant} tree place field path head ≡ Marks.Begins field (cleared_head head) ∷ []
begin_plain tree place field path h.AssignPatProp short moved = absurd (false≢true (sym short))
begin_plain tree place field [] _ short moved = refl
begin_plain tree place field (node ∷ outer) head short moved =
    ap
    (λ b.
    Marks.Begins (if b then (if has_default tree node.begins then 0 else 1) else field)
    (cleared_head head) ∷ [])
    moved

-- in a shorthand property that has a default, what is in a field stays in it
begin_there : (tree : List Item) (place field : ℕ) (path : List Around) (head : Head) →
    is_shorthand_in_pattern head ≡ false → HasDefault tree path →
    begin_marks {N = Meant} tree place field (in_field field path) head
    ≡ Marks.Begins field (cleared_head head) ∷ []
begin_there tree place field path h.AssignPatProp short has = absurd (false≢true (sym short))
begin_there tree place field [] _ short has = refl
begin_there tree place field (node ∷ outer) head short has =
    ap (λ n. Marks.Begins n (cleared_head head) ∷ [])
    (same_field field (is_shorthand_in_pattern node.head) refl)
  where
    same_field : (field : ℕ) (b : Bool) → is_shorthand_in_pattern node.head ≡ b →
        (if is_shorthand_in_pattern node.head
        && (field == 0) then (if has_default tree node.begins then 0 else 1) else field) ≡ field
    same_field field false is =
        ap
        (λ b. if b && (field == 0) then (if has_default tree node.begins then 0 else 1) else field)
        is
    same_field zero true is =
        ap (λ b. if b && true then (if has_default tree node.begins then 0 else 1) else zero) is
        ∙ ap (λ b. if b then 0 else 1) (has is)
    same_field (suc n) true is =
        ap
        (λ b. if b && (suc n == 0) then (if has_default tree node.begins then 0 else 1) else suc n)
        is
        ∙ ap (λ b. if b then (if has_default tree node.begins then 0 else 1) else suc n)
        (eqb-suc-zero n)

end_plain : (tree : List Item) (head : Head) (begins f : ℕ) (outer : List Around) →
    is_shorthand_in_pattern head ≡ false →
    end_marks {N = Meant} tree (around_spot head begins f ∷ outer) ≡ Marks.Ends ∷ []
end_plain tree head begins f outer short =
    ap (λ b. if b && has_default tree begins then Marks.Ends ∷ Marks.Ends ∷ [] else Marks.Ends ∷ []) short

name_there : (its : edits.Around) (field : ℕ) (path : List Around) (x : Text) (meant : Meant) →
    is_object_around path ≡ is_in_object its →
    name_marks field path x meant ≡ marks_there its field x meant
name_there edits.InObject field [] x meant e = absurd (false≢true e)
name_there edits.InObject field (node ∷ outer) x meant e =
    ap (λ b. if b then marks_there edits.InObject field x meant else Marks.Name field meant ∷ []) e
name_there edits.Anywhere field [] x meant e = refl
name_there edits.Anywhere field (node ∷ outer) x meant e =
    ap (λ b. if b then marks_there edits.InObject field x meant else Marks.Name field meant ∷ []) e
name_there edits.InSpecifier field [] x meant e = refl
name_there edits.InSpecifier field (node ∷ outer) x meant e =
    ap (λ b. if b then marks_there edits.InObject field x meant else Marks.Name field meant ∷ []) e

-- ---- elements
pub taken_append : (place : ℕ) (xs ys : List Item) (es : List Element) →
    taken_from place (xs ++ ys) ++ es
    ≡ taken_from place xs ++ (taken_from (place + length xs) ys ++ es)
taken_append place [] ys es =
    let e : place ≡ place + length {A = Item} [] = omega arith in ap (λ p. taken_from p ys ++ es) e
taken_append place (x ∷ xs) ys es =
    let e : suc place + length xs ≡ place + length (x ∷ xs) = omega arith in
    ap (λ l. taken place x ∷ l)
    (taken_append (suc place) xs ys es
    ∙ ap (λ p. taken_from (suc place) xs ++ (taken_from p ys ++ es)) e)

-- ---- meanings
module _ (sense : Sense) (inner : List Denoted) where
  pub means_as : {es fs : List Element} {ms ns : List Mark} → es ≡ fs → ms ≡ ns →
      Means sense inner es ms → Means sense inner fs ns
  means_as {fs = fs} {ms = ms} ee em m =
      subst (λ l. Means sense inner fs l) em (subst (λ l. Means sense inner l ms) ee m)

  -- in front of what means some marks, what stands at a place means these
  pub record Gives (place : ℕ) (items : List Item) (marks : List Mark) : Type 0 where
    pub before : (es : List Element) (ms : List Mark) → Means sense inner es ms →
        Means sense inner (taken_from place items ++ es) (marks ++ ms)

  -- one element, and its mark
  pub record Step (place : ℕ) (x : Item) (mark : Mark) : Type 0 where
    pub before : (es : List Element) (ms : List Mark) → Means sense inner es ms →
        Means sense inner (taken place x ∷ es) (mark ∷ ms)

  pub gives_as : {place other : ℕ} {items : List Item} {marks also : List Mark} → place ≡ other →
      marks ≡ also → Gives place items marks → Gives other items also
  gives_as {other = other} {items = items} {marks = marks} e em gives =
      subst (λ l. Gives other items l) em (subst (λ p. Gives p items marks) e gives)

  pub gives_nothing : (place : ℕ) → Gives place [] []
  gives_nothing place = record { before = λ es ms m. m }

  pub gives_one : {place : ℕ} {x : Item} {mark : Mark} → Step place x mark →
      Gives place (x ∷ []) (mark ∷ [])
  gives_one step = record { before = λ es ms m. step.before es ms m }

  pub gives_joined : {place between : ℕ} {first second : List Item} {marks more : List Mark} →
      Gives place first marks → between ≡ place + length first → Gives between second more →
      Gives place (first ++ second) (marks ++ more)
  gives_joined {place = place} {between = between} {first = first} {second = second} {marks = marks} {more = more} one e two = record {
    before = λ es ms m.
        means_as
        (ap (λ p. taken_from place first ++ (taken_from p second ++ es)) e
        ∙ sym (taken_append place first second es))
        (sym (append_assoc marks more ms))
        (one.before (taken_from between second ++ es) (more ++ ms) (two.before es ms m));
  }

  pub gives_node : {place in_it behind field : ℕ} {head : Head} {inside : List Item}
      {marks : List Mark} → Step place (h.Open field head) (Marks.Begins field (cleared_head head)) →
      in_it ≡ suc place → Gives in_it inside marks → behind ≡ in_it + length inside →
      Step behind h.Close Marks.Ends →
      Gives place (edits.node field head inside) (node_marks field head marks)
  gives_node {place = place} {in_it = in_it} {behind = behind} {field = field} {head = head} {inside = inside} {marks = marks} opens e gives eb closes = record {
    before = λ es ms m.
        means_as
        (ap (λ l. taken place (h.Open field head) ∷ l) (
        ap (λ p. taken_from in_it inside ++ taken p h.Close ∷ es) eb
        ∙ sym (taken_append in_it inside (h.Close ∷ []) es)
        ∙ ap (λ p. taken_from p (inside ++ h.Close ∷ []) ++ es) e))
        (ap (λ l. Marks.Begins field (cleared_head head) ∷ l)
        (sym (append_assoc marks (Marks.Ends ∷ []) ms)))
        (opens.before _ _ (gives.before _ _ (closes.before es ms m)));
  }

  -- a node that is replaced
  pub gives_replaced : (place field : ℕ) (head : Head) (inside : List Item) (by : Replacement) →
      AreNodesInTurn inside → sense.replaced place by →
      Gives place (edits.node field head inside) (replacement_marks field by)
  gives_replaced place field head inside by nodes is = record {
    before = λ es ms m.
        replaced by is (means_as (sym (past_nodes nodes zero (suc place) (h.Close ∷ []) es)) refl m);
  }

  pub steps_empty : (place field : ℕ) → Step place (h.Hole field) (Marks.Empty field)
  steps_empty place field = record { before = λ es ms m. empty m }

  pub steps_word : (place field ctxt : ℕ) (x : Text) (role : Role) → is_occurrence role ≡ false →
      Step place (h.Ident field x ctxt role) (Marks.Word field x)
  steps_word place field ctxt x r.Word plain = record { before = λ es ms m. word m }
  steps_word place field ctxt x r.Binding plain = absurd (false≢true (sym plain))
  steps_word place field ctxt x r.Reference plain = absurd (false≢true (sym plain))

  -- a name
  pub gives_name : (its : edits.Around) {place : ℕ} (s : Spot) (field ctxt : ℕ) (x : Text)
      (role : Role) (rest : List Item) (d : Denoted) (meant : Meant) →
      IsSpotAt sense.view.tree s (h.Ident field x ctxt role ∷ rest) →
      is_object_around s.path ≡ is_in_object its → place ≡ s.place →
      denoted_at sense.view.reading sense.view.kind sense.view.tree s.place ≡ Some d →
      NameMeans sense inner d meant →
      Gives place (h.Ident field x ctxt role ∷ []) (marks_there its field x meant)
  gives_name its {place = place} s field ctxt x role rest d meant at object e denotes means = record {
    before = λ es ms m.
        means_as refl
        (ap (λ l. l ++ ms) (
        ap (λ path. name_marks field path x meant) (ap (path_at sense.view.tree) e ∙ at-path at)
        ∙ name_there its field (in_field field s.path) x meant (object-field field s.path ∙ object)))
        (named d meant (ap (denoted_at sense.view.reading sense.view.kind sense.view.tree) e ∙ denotes) means m);
  }

  pub opens_at : {its : edits.Around} {place : ℕ} (s : Spot) (field : ℕ) (head : Head)
      (rest : List Item) → IsSpotAt sense.view.tree s (h.Open field head ∷ rest) → Stands sense its s →
      place ≡ s.place → ((x : Replacement) → sense.replaced s.place x → ⊥) →
      is_shorthand_in_pattern head ≡ false →
      Step place (h.Open field head) (Marks.Begins field (cleared_head head))
  opens_at {place = place} s field head rest at stands e none short = record {
    before = λ es ms m.
        means_as refl
        (ap (λ l. l ++ ms) (
        ap (λ path. begin_marks sense.view.tree place field path head)
        (ap (path_at sense.view.tree) e ∙ at-path at)
        ∙ begin_there sense.view.tree place field s.path head short stands.default))
        (begun (λ by is. none by (subst (λ p. sense.replaced p by) e is)) m);
  }

  pub closes_at : {place : ℕ} (s : Spot) (rest : List Item) (head : Head) (begins f : ℕ)
      (outer : List Around) → IsSpotAt sense.view.tree s (h.Close ∷ rest) → place ≡ s.place →
      s.path ≡ around_spot head begins f ∷ outer → is_shorthand_in_pattern head ≡ false →
      Step place h.Close Marks.Ends
  closes_at s rest head begins f outer at e path short = record {
    before = λ es ms m.
        means_as refl
        (ap (λ l. l ++ ms) (
        ap (end_marks sense.view.tree) (ap (path_at sense.view.tree) e ∙ at-path at ∙ path)
        ∙ end_plain sense.view.tree head begins f outer short))
        (ended m);
  }
