-- Lists: what holds of each element, tests over lists, and what is told of items in turn.
-- Places, the nodes around them, and occurrences, in an item and in the module of which it is a
-- part.
-- The positions of the scopes of an item: it is by them that scopes of different items are never
-- the same.
use Rattle.std.proofs.Common.{◌≡◌, ℕ, ◌+◌, Bool, true, false, cond, ◌||◌, List, [], ◌∷◌, ◌++◌, Some, option_map, find, map, length, refl, ap, sym, ◌∙◌, arith, append_assoc, ◌⊎◌, inl, inr, zero, suc, slice_get, ◌≤◌, ◌<◌, take, fold, option_and_then, subst, ◌≢◌, ◌==◌, Option, None, ne_eqb, eqb-true, eq-eqb}
use Rattle.std.specs.List.{list_any, cons_option}
use Rattle.std.proofs.lemmas.Option.{none-some, same_Some}
use Rattle.std.proofs.lemmas.List.{length-append}
use Rattle.std.proofs.lemmas.Bool.{false_from_ne_true, false≢true}
use Rattle.bundle_syntax.specs.Item as h
use Rattle.bundle_syntax.specs.Item.{Item}
use Rattle.bundle_syntax.specs.declared.piece.Role.TheVariants as r
use Rattle.bundle_rules.specs.Sorting.{flat}
use Rattle.bundle_rules.specs.Places.{Around, Spot, Occurrence, in_field, outer_path, past, start, spot_before, occurrence_of, occurrence_at, occurrences_from, occurrences}
use Rattle.bundle_rules.specs.Parts.{tree_of_items}
use Rattle.bundle_rules.specs.Scopes.{Es, Scope, ScopeKind, Wrapper, Top, Inner, same_scope, kind_of_scope, scope_at, scopes_around}
use Rattle.bundle_rules.specs.Declarations.{Way, ByContext, name_of, Declared, declared_by, declaration_of, is_nameless_default, nameless_default, declared_from, way_of}
use Rattle.bundle_rules.specs.Homes.{is_top}
use Rattle.bundle_scope_names.proofs.HomesLemmas.{or_assoc}
use Rattle.bundle_scope_names.proofs.TreeLemmas.{cons_option-map}
use Rattle.bundle_merge_theory.specs.joined.Joined.{AllOf, each_moved, joined_items, open_behind, IsWholeItem, moved, moved_path, moved_occurrence, moved_scope, moved_declared, own_declared}
pub use Rattle.bundle_merge_theory.proofs.noted.Spots.{fold-append, fold-place}
pub use Rattle.bundle_merge_theory.proofs.noted.Names.{occurrences_append as occurrences-append}

-- ---- lists
pub all-append : {A : Type 0} (P : A → Type 0) (xs ys : List A) → AllOf P xs → AllOf P ys →
    AllOf P (xs ++ ys)
all-append P [] ys x y = y
all-append P (a ∷ xs) ys x y = (x.0, all-append P xs ys x.1 y)

pub all-front : {A : Type 0} (P : A → Type 0) (xs ys : List A) → AllOf P (xs ++ ys) → AllOf P xs
all-front P [] ys both = tt
all-front P (a ∷ xs) ys both = (both.0, all-front P xs ys both.1)

pub all-back : {A : Type 0} (P : A → Type 0) (xs ys : List A) → AllOf P (xs ++ ys) → AllOf P ys
all-back P [] ys both = both
all-back P (a ∷ xs) ys both = all-back P xs ys both.1

pub all-more : {A : Type 0} (P Q : A → Type 0) → ((a : A) → P a → Q a) → (xs : List A) →
    AllOf P xs → AllOf Q xs
all-more P Q more [] all = tt
all-more P Q more (a ∷ xs) all = (more a all.0, all-more P Q more xs all.1)

pub all-map : {A B : Type 0} (P : A → Type 0) (Q : B → Type 0) (f : A → B) →
    ((a : A) → P a → Q (f a)) → (xs : List A) → AllOf P xs → AllOf Q (map f xs)
all-map P Q f more [] all = tt
all-map P Q f more (a ∷ xs) all = (more a all.0, all-map P Q f more xs all.1)

-- tests
pub any-append : {A : Type 0} (p : A → Bool) (xs ys : List A) →
    list_any p (xs ++ ys) ≡ (list_any p xs || list_any p ys)
any-append p [] ys = refl
any-append p (x ∷ xs) ys =
    ap (λ b. p x || b) (any-append p xs ys)
    ∙ sym (or_assoc (p x) (list_any p xs) (list_any p ys))

pub any-none : {A : Type 0} (P : A → Type 0) (p : A → Bool) → ((a : A) → P a → p a ≡ false) →
    (xs : List A) → AllOf P xs → list_any p xs ≡ false
any-none P p fails [] all = refl
any-none P p fails (x ∷ xs) all =
    ap (λ b. b || list_any p xs) (fails x all.0) ∙ any-none P p fails xs all.1

pub any-map : {A B : Type 0} (P : A → Type 0) (p : A → Bool) (q : B → Bool) (f : A → B) →
    ((a : A) → P a → q (f a) ≡ p a) → (xs : List A) → AllOf P xs →
    list_any q (map f xs) ≡ list_any p xs
any-map P p q f same [] all = refl
any-map P p q f same (x ∷ xs) all =
    ap (λ b. b || list_any q (map f xs)) (same x all.0)
    ∙ ap (λ b. p x || b) (any-map P p q f same xs all.1)

pub any-same : {A : Type 0} (P : A → Type 0) (p q : A → Bool) → ((a : A) → P a → q a ≡ p a) →
    (xs : List A) → AllOf P xs → list_any q xs ≡ list_any p xs
any-same P p q same [] all = refl
any-same P p q same (x ∷ xs) all =
    ap (λ b. b || list_any q xs) (same x all.0) ∙ ap (λ b. p x || b) (any-same P p q same xs all.1)

-- what is found in a list that is mapped
pub find-map : {A B : Type 0} (p : A → Bool) (q : B → Bool) (f : A → B) →
    ((a : A) → q (f a) ≡ p a) → (xs : List A) → find q (map f xs) ≡ option_map f (find p xs)
find-map p q f same [] = refl
find-map p q f same (x ∷ xs) =
    ap (λ b. cond b (Some (f x)) (find q (map f xs))) (same x)
    ∙ by_first (p x) (find-map p q f same xs)
  where
    by_first : (b : Bool) → find q (map f xs) ≡ option_map f (find p xs) →
        cond b (Some (f x)) (find q (map f xs)) ≡ option_map f (cond b (Some x) (find p xs))
    by_first true ih = refl
    by_first false ih = ih

-- elements by their numbers, in lists one after the other
pub get-left : {A : Type 0} (xs ys : List A) (i : ℕ) (x : A) → slice_get xs i ≡ Some x →
    slice_get (xs ++ ys) i ≡ Some x
get-left [] ys i x e = absurd (none-some x e)
get-left (y ∷ xs) ys zero x e = e
get-left (y ∷ xs) ys (suc i) x e = get-left xs ys i x e

pub get-right : {A : Type 0} (xs ys : List A) (i : ℕ) (x : A) → slice_get ys i ≡ Some x →
    (j : ℕ) × (slice_get (xs ++ ys) j ≡ Some x)
get-right [] ys i x e = (i, e)
get-right (y ∷ xs) ys i x e = let rest = get-right xs ys i x e in (suc rest.0, rest.1)

pub get-append : {A : Type 0} (xs ys : List A) (i : ℕ) (x : A) → slice_get (xs ++ ys) i ≡ Some x →
    (slice_get xs i ≡ Some x) ⊎ ((j : ℕ) × (slice_get ys j ≡ Some x))
get-append [] ys i x e = inr (i, e)
get-append (y ∷ xs) ys zero x e = inl e
get-append (y ∷ xs) ys (suc i) x e = get-append xs ys i x e

pub get-behind : {A : Type 0} (xs ys : List A) (p : ℕ) →
    slice_get (xs ++ ys) (length xs + p) ≡ slice_get ys p
get-behind [] ys p = let n : 0 + p ≡ p = omega arith in ap (slice_get ys) n
get-behind (x ∷ xs) ys p =
    let n : length (x ∷ xs) + p ≡ suc (length xs + p) = omega arith in
    ap (slice_get (x ∷ (xs ++ ys))) n ∙ get-behind xs ys p

pub get-first : {A : Type 0} (before after : List A) (x : A) →
    slice_get (before ++ x ∷ after) (length before) ≡ Some x
get-first [] after x = refl
get-first (y ∷ before) after x = get-first before after x

-- and in a list that is mapped
pub get-map : {A B : Type 0} (f : A → B) (xs : List A) (i : ℕ) (y : B) →
    slice_get (map f xs) i ≡ Some y → (x : A) × (slice_get xs i ≡ Some x) × (y ≡ f x)
get-map f [] i y e = absurd (none-some y e)
get-map f (x ∷ xs) zero y e = (x, refl, sym (same_Some (f x) y e))
get-map f (x ∷ xs) (suc i) y e = get-map f xs i y e

-- what is told of items that stand before others, and of those
pub each-append : {A : Type 0} (move : ℕ → A → A) (tell : List Item → List A)
    (before more : List (List Item)) (k : ℕ) →
    each_moved move tell k (before ++ more) ≡ each_moved move tell k before
    ++ each_moved move tell (k + length (flat before)) more
each-append move tell [] more k =
    let n : k ≡ k + 0 = omega arith in ap (λ k. each_moved move tell k more) n
each-append move tell (item ∷ before) more k =
    ap (λ rest. map (move k) (tell item) ++ rest)
    (each-append move tell before more (k + length item))
    ∙ ap (λ n. map (move k) (tell item)
    ++ (each_moved move tell (k + length item) before ++ each_moved move tell n more)) further
    ∙ sym (append_assoc (map (move k) (tell item)) (each_moved move tell (k + length item) before)
    (each_moved move tell (k + length (item ++ flat before)) more))
  where
    further : k + length item + length (flat before) ≡ k + length (item ++ flat before)
    further = let both = length-append item (flat before) in omega (arith, both)

-- ---- paths

-- behind the beginning of a module
abbrev pub inside : Spot
inside = past start (h.Open 0 h.Module)

-- a position that is not the module's
pub moved-from : (k n : ℕ) → 1 ≤ n → moved k n ≡ n + k
moved-from k zero e = omega arith
moved-from k (suc n) e = refl

-- more than the module's node
abbrev pub IsDeep : List Around → Type 0
IsDeep [] = ⊥
IsDeep (node ∷ []) = ⊥
IsDeep (node ∷ next ∷ outer) = Unit {0}

-- the spots of an item, by itself and in the whole
pub record AreMoved (k : ℕ) (a b : Spot) : Type 0 where
  pub place : b.place ≡ a.place + k
  pub own : 1 ≤ a.place
  pub path : (field : ℕ) → in_field field b.path ≡ moved_path k (in_field field a.path)
  pub deep : IsDeep a.path → b.path ≡ moved_path k a.path

pub outer-in_field : (field : ℕ) (path : List Around) →
    outer_path (in_field field path) ≡ outer_path path
outer-in_field field [] = refl
outer-in_field field (node ∷ outer) = refl

outer-moved : (k : ℕ) (path : List Around) →
    outer_path (moved_path k path) ≡ moved_path k (outer_path path)
outer-moved k [] = refl
outer-moved k (node ∷ outer) = refl

in_field-moved : (k field : ℕ) (path : List Around) →
    in_field field (moved_path k path) ≡ moved_path k (in_field field path)
in_field-moved k field [] = refl
in_field-moved k field (node ∷ outer) = refl

pub moved-past : (k : ℕ) (a b : Spot) → AreMoved k a b → (x : Item) →
    AreMoved k (past a x) (past b x)
moved-past k a b m (h.Open field head) = record {
  place = let is = m.place in omega (arith, is);
  own = omega arith;
  path =
      λ f. ap (λ n. record { head = head; begins = n; field = f } ∷ in_field field b.path) begins
      ∙ ap (λ rest. record { head = head; begins = moved k a.place; field = f } ∷ rest)
      (m.path field);
  deep =
      λ is. ap (λ n. record { head = head; begins = n; field = 0 } ∷ in_field field b.path) begins
      ∙ ap (λ rest. record { head = head; begins = moved k a.place; field = 0 } ∷ rest)
      (m.path field);
}
  where
    begins : b.place ≡ moved k a.place
    begins = m.place ∙ sym (moved-from k a.place m.own)
moved-past k a b m (h.Ident field symbol ctxt role) =
    record {
      place = let is = m.place in omega (arith, is);
      own = omega arith;
      path = m.path;
      deep = m.deep;
    }
moved-past k a b m (h.Hole field) =
    record {
      place = let is = m.place in omega (arith, is);
      own = omega arith;
      path = m.path;
      deep = m.deep;
    }
moved-past k a b m h.Close = record {
  place = let is = m.place in omega (arith, is);
  own = omega arith;
  path = λ f. ap (in_field f) outer ∙ in_field-moved k f (outer_path a.path);
  deep = λ is. outer;
}
  where
    outer : outer_path b.path ≡ moved_path k (outer_path a.path)
    outer =
        sym (outer-in_field 0 b.path) ∙ ap outer_path (m.path 0)
        ∙ outer-moved k (in_field 0 a.path) ∙ ap (moved_path k) (outer-in_field 0 a.path)

-- occurrences of an item
pub moved-occurrence : (k : ℕ) (a b : Spot) → AreMoved k a b → (x : Item) →
    occurrence_of b x ≡ option_map (moved_occurrence k) (occurrence_of a x)
moved-occurrence k a b m (h.Open field head) = refl
moved-occurrence k a b m (h.Ident field symbol ctxt r.Binding) =
    λ i. Some (record {
      place = m.place i;
      sym = symbol;
      ctxt = ctxt;
      role = r.Binding;
      path = m.path field i;
    })
moved-occurrence k a b m (h.Ident field symbol ctxt r.Reference) =
    λ i. Some (record {
      place = m.place i;
      sym = symbol;
      ctxt = ctxt;
      role = r.Reference;
      path = m.path field i;
    })
moved-occurrence k a b m (h.Ident field symbol ctxt r.Word) = refl
moved-occurrence k a b m (h.Hole field) = refl
moved-occurrence k a b m h.Close = refl

pub moved-occurrences : (k : ℕ) (xs : List Item) (a b : Spot) → AreMoved k a b →
    occurrences_from b xs ≡ map (moved_occurrence k) (occurrences_from a xs)
moved-occurrences k [] a b m = refl
moved-occurrences k (x ∷ xs) a b m =
    ap (λ o. cons_option o (occurrences_from (past b x) xs)) (moved-occurrence k a b m x)
    ∙ ap (cons_option (option_map (moved_occurrence k) (occurrence_of a x)))
    (moved-occurrences k xs (past a x) (past b x) (moved-past k a b m x))
    ∙ cons_option-map (moved_occurrence k) (occurrence_of a x) (occurrences_from (past a x) xs)

-- the module's node lies below so many others
abbrev pub IsBelow : ℕ → List Around → Type 0
IsBelow depth [] = ⊥
IsBelow zero (node ∷ []) = (node.head ≡ h.Module) × (node.begins ≡ 0)
IsBelow zero (node ∷ next ∷ outer) = ⊥
IsBelow (suc depth) (node ∷ outer) = IsBelow depth outer

below-in_field : (depth field : ℕ) (path : List Around) → IsBelow depth path →
    IsBelow depth (in_field field path)
below-in_field depth field [] e = e
below-in_field zero field (node ∷ []) e = e
below-in_field zero field (node ∷ next ∷ outer) e = e
below-in_field (suc depth) field (node ∷ outer) e = e

below-outer : (depth : ℕ) (path : List Around) → IsBelow (suc depth) path →
    IsBelow depth (outer_path path)
below-outer depth [] e = e
below-outer depth (node ∷ outer) e = e

-- behind elements, the module's node is as deep as they leave nodes open
pub below-behind : (xs : List Item) (depth last : ℕ) (s : Spot) →
    open_behind depth xs ≡ Some last → IsBelow depth s.path → IsBelow last (fold past s xs).path
below-behind [] depth last s e b = subst (λ o. IsBelow o s.path) (same_number depth last e) b
  where
    same_number : (m n : ℕ) → Some m ≡ Some n → m ≡ n
    same_number m n is = cc
below-behind (h.Open field head ∷ xs) depth last s e b =
    below-behind xs (suc depth) last (past s (h.Open field head)) e
    (below-in_field depth field s.path b)
below-behind (h.Ident field symbol ctxt role ∷ xs) depth last s e b =
    below-behind xs depth last (past s (h.Ident field symbol ctxt role)) e b
below-behind (h.Hole field ∷ xs) depth last s e b =
    below-behind xs depth last (past s (h.Hole field)) e b
below-behind (h.Close ∷ xs) zero last s e b = absurd (none-some last e)
below-behind (h.Close ∷ xs) (suc depth) last s e b =
    below-behind xs depth last (past s h.Close) e (below-outer depth s.path b)

-- the spot at which an item of the whole begins
pub record IsAt (k : ℕ) (s : Spot) : Type 0 where
  pub place : s.place ≡ 1 + k
  pub below : IsBelow 0 s.path

pub moved-start : (k : ℕ) (s : Spot) → IsAt k s → AreMoved k inside s
moved-start k s at =
    record {
      place = at.place;
      own = omega arith;
      path = same s.path at.below;
      deep = λ is. absurd is;
    }
  where
    same : (path : List Around) → IsBelow 0 path → (field : ℕ) →
        in_field field path ≡ moved_path k (in_field field inside.path)
    same [] e field = absurd e
    same (node ∷ []) e field = λ i. record { head = e.0 i; begins = e.1 i; field = field } ∷ []
    same (node ∷ next ∷ outer) e field = absurd e

pub at-behind : (k : ℕ) (s : Spot) → IsAt k s → (item : List Item) → IsWholeItem item →
    IsAt (k + length item) (fold past s item)
at-behind k s at item whole = record {
  place = let here = at.place in let there = fold-place s item in omega (arith, here, there);
  below = below-behind item 0 0 s whole at.below;
}

-- the same identifier at another spot
pub other-spot : (s t : Spot) (x : Item) (o : Occurrence) → occurrence_of s x ≡ Some o →
    (u : Occurrence) × (occurrence_of t x ≡ Some u) × (u.sym ≡ o.sym) × (u.ctxt ≡ o.ctxt)
    × (u.role ≡ o.role)
other-spot s t (h.Open field head) o e = absurd (none-some o e)
other-spot s t (h.Ident field symbol ctxt r.Binding) o e =
    let same = same_Some _ o e in (
      _,
      refl,
      ap (λ (x : Occurrence). x.sym) same,
      ap (λ (x : Occurrence). x.ctxt) same,
      ap (λ (x : Occurrence). x.role) same,
    )
other-spot s t (h.Ident field symbol ctxt r.Reference) o e =
    let same = same_Some _ o e in (
      _,
      refl,
      ap (λ (x : Occurrence). x.sym) same,
      ap (λ (x : Occurrence). x.ctxt) same,
      ap (λ (x : Occurrence). x.role) same,
    )
other-spot s t (h.Ident field symbol ctxt r.Word) o e = absurd (none-some o e)
other-spot s t (h.Hole field) o e = absurd (none-some o e)
other-spot s t h.Close o e = absurd (none-some o e)

-- OCCURRENCES: those of the whole are those of the items in turn, each moved.
pub item-occurrences : (item : List Item) →
    occurrences (tree_of_items item) ≡ occurrences_from inside item
item-occurrences item =
    occurrences-append inside item (h.Close ∷ []) ∙ nothing (occurrences_from inside item)
  where
    nothing : (os : List Occurrence) → os ++ [] ≡ os
    nothing [] = refl
    nothing (o ∷ os) = ap (λ rest. o ∷ rest) (nothing os)

all-occurrences : (k : ℕ) (s : Spot) → IsAt k s → (items : List (List Item)) →
    AllOf IsWholeItem items →
    occurrences_from s (flat items)
    ≡ each_moved moved_occurrence (λ item. occurrences (tree_of_items item)) k items
all-occurrences k s at [] whole = refl
all-occurrences k s at (item ∷ more) whole =
    occurrences-append s item (flat more)
    ∙ ap (λ os. os ++ occurrences_from (fold past s item) (flat more))
    (moved-occurrences k item inside s (moved-start k s at)
    ∙ ap (map (moved_occurrence k)) (sym (item-occurrences item)))
    ∙ ap (λ os. map (moved_occurrence k) (occurrences (tree_of_items item)) ++ os)
    (all-occurrences (k + length item) (fold past s item) (at-behind k s at item whole.0) more
    whole.1)

pub first-at : IsAt 0 inside
first-at = record { place = refl; below = (refl, refl) }

pub occurrences-joined : (items : List (List Item)) → AllOf IsWholeItem items →
    occurrences (joined_items items)
    ≡ each_moved moved_occurrence (λ item. occurrences (tree_of_items item)) 0 items
occurrences-joined items whole =
    item-occurrences (flat items) ∙ all-occurrences 0 inside first-at items whole

-- an occurrence in an item
occurrence-behind : (k : ℕ) (xs ys zs : List Item) (a b : Spot) → AreMoved k a b → (p : ℕ) →
    p < length xs →
    option_and_then (occurrence_of (fold past b (take p (xs ++ ys)))) (slice_get (xs ++ ys) p)
    ≡ option_map (moved_occurrence k)
    (option_and_then (occurrence_of (fold past a (take p (xs ++ zs))))
    (slice_get (xs ++ zs) p))
occurrence-behind k [] ys zs a b m p lt = absurd (omega (arith, lt))
occurrence-behind k (x ∷ xs) ys zs a b m zero lt = moved-occurrence k a b m x
occurrence-behind k (x ∷ xs) ys zs a b m (suc p) lt =
    occurrence-behind k xs ys zs (past a x) (past b x) (moved-past k a b m x) p (omega (arith, lt))

-- elements behind others
take-behind : (xs ys : List Item) (p : ℕ) (s : Spot) →
    fold past s (take (length xs + p) (xs ++ ys)) ≡ fold past (fold past s xs) (take p ys)
take-behind [] ys p s = let n : 0 + p ≡ p = omega arith in ap (λ n. fold past s (take n ys)) n
take-behind (x ∷ xs) ys p s =
    let n : length (x ∷ xs) + p ≡ suc (length xs + p) = omega arith in
    ap (λ n. fold past s (take n (x ∷ (xs ++ ys)))) n ∙ take-behind xs ys p (past s x)

-- the items before one of them, and what stands behind
pub flat-append : (before more : List (List Item)) →
    flat (before ++ more) ≡ flat before ++ flat more
flat-append [] more = refl
flat-append (item ∷ before) more =
    ap (λ rest. item ++ rest) (flat-append before more)
    ∙ sym (append_assoc item (flat before) (flat more))

pub open-append : (xs ys : List Item) (depth last : ℕ) → open_behind depth xs ≡ Some last →
    open_behind depth (xs ++ ys) ≡ open_behind last ys
open-append [] ys depth last e = ap (λ n. open_behind n ys) (same_Some depth last e)
open-append (h.Open field head ∷ xs) ys depth last e = open-append xs ys (suc depth) last e
open-append (h.Ident field symbol ctxt role ∷ xs) ys depth last e = open-append xs ys depth last e
open-append (h.Hole field ∷ xs) ys depth last e = open-append xs ys depth last e
open-append (h.Close ∷ xs) ys zero last e = absurd (none-some last e)
open-append (h.Close ∷ xs) ys (suc depth) last e = open-append xs ys depth last e

pub whole-flat : (items : List (List Item)) → AllOf IsWholeItem items → IsWholeItem (flat items)
whole-flat [] whole = refl
whole-flat (item ∷ more) whole = open-append item (flat more) 0 0 whole.0 ∙ whole-flat more whole.1

-- the spot behind the items before one of them
pub at-item : (before : List (List Item)) → AllOf IsWholeItem before →
    IsAt (length (flat before)) (fold past inside (flat before))
at-item before whole =
    let at = at-behind 0 inside first-at (flat before) (whole-flat before whole) in
    let n : 0 + length (flat before) ≡ length (flat before) = omega arith in
    subst (λ k. IsAt k (fold past inside (flat before))) n at

module _ (before after : List (List Item)) (item : List Item) (whole : AllOf IsWholeItem before) where
  abbrev further : ℕ
  further = length (flat before)

  abbrev behind : List Item
  behind = flat after ++ h.Close ∷ []

  inside-whole : flat (before ++ item ∷ after) ++ h.Close ∷ [] ≡ flat before ++ (item ++ behind)
  inside-whole =
      ap (λ rest. rest ++ h.Close ∷ []) (flat-append before (item ∷ after))
      ∙ append_assoc (flat before) (item ++ flat after) (h.Close ∷ [])
      ∙ ap (λ rest. flat before ++ rest) (append_assoc item (flat after) (h.Close ∷ []))

  spot-is : (p : ℕ) →
      spot_before (joined_items (before ++ item ∷ after)) (suc (further + p))
      ≡ fold past (fold past inside (flat before)) (take p (item ++ behind))
  spot-is p =
      ap (λ rest. fold past inside (take (further + p) rest)) inside-whole
      ∙ take-behind (flat before) (item ++ behind) p inside

  item-is : (p : ℕ) →
      slice_get (joined_items (before ++ item ∷ after)) (suc (further + p))
      ≡ slice_get (item ++ behind) p
  item-is p =
      ap (λ rest. slice_get rest (further + p)) inside-whole
      ∙ get-behind (flat before) (item ++ behind) p

  pub occurrence_at-joined : (p : ℕ) → p < length item →
      occurrence_at (joined_items (before ++ item ∷ after)) (suc (further + p))
      ≡ option_map (moved_occurrence further) (occurrence_at (tree_of_items item) (suc p))
  occurrence_at-joined p lt =
      ap (λ s. option_and_then (occurrence_of s)
      (slice_get (joined_items (before ++ item ∷ after)) (suc (further + p)))) (spot-is p)
      ∙ ap (option_and_then
      (occurrence_of (fold past (fold past inside (flat before)) (take p (item ++ behind)))))
      (item-is p)
      ∙ occurrence-behind further item behind (h.Close ∷ []) inside
      (fold past inside (flat before))
      (moved-start further (fold past inside (flat before)) (at-item before whole)) p lt

-- ---- ranges

-- the scope is the top, or one of a node that begins in this range
abbrev pub IsIn : ℕ → ℕ → Scope → Type 0
IsIn low high Wrapper = ⊥
IsIn low high Top = Unit {0}
IsIn low high (Inner kind begins) = (low ≤ begins) × (begins < high)

-- the node is a module, or begins in this range
abbrev pub IsNodeIn : ℕ → ℕ → Around → Type 0
IsNodeIn low high node = (node.head ≡ h.Module) ⊎ ((low ≤ node.begins) × (node.begins < high))

-- wider ranges
pub node-wider : (low high more : ℕ) → high ≤ more → (node : Around) → IsNodeIn low high node →
    IsNodeIn low more node
node-wider low high more le node (inl is) = inl is
node-wider low high more le node (inr is) =
    let below = is.1 in inr (is.0, omega (arith, below, le))

in-wider : (low high less more : ℕ) → less ≤ low → high ≤ more → (scope : Scope) →
    IsIn low high scope → IsIn less more scope
in-wider low high less more down up Top is = tt
in-wider low high less more down up Wrapper is = is
in-wider low high less more down up (Inner kind begins) is =
    let from = is.0 in let to = is.1 in (omega (arith, down, from), omega (arith, up, to))

-- the scopes around a place
scope_at-in : (low high : ℕ) (node : Around) → IsNodeIn low high node → (outer : List Around) →
    AllOf (IsIn low high) (scope_at node.begins (kind_of_scope node.head node.field outer))
scope_at-in low high node (inl is) outer =
    subst (λ head. AllOf (IsIn low high)
    (scope_at node.begins (kind_of_scope head node.field outer))) (sym is) tt
scope_at-in low high node (inr is) outer = by_kind (kind_of_scope node.head node.field outer)
  where
    by_kind : (kind : Option ScopeKind) → AllOf (IsIn low high) (scope_at node.begins kind)
    by_kind None = tt
    by_kind (Some kind) = (is, tt)

pub scopes-in : (low high : ℕ) (path : List Around) → AllOf (IsNodeIn low high) path →
    AllOf (IsIn low high) (scopes_around Es path)
scopes-in low high [] all = (tt, tt)
scopes-in low high (node ∷ outer) all =
    all-append (IsIn low high) (scope_at node.begins (kind_of_scope node.head node.field outer))
    (scopes_around Es outer) (scope_at-in low high node all.0 outer)
    (scopes-in low high outer all.1)

-- the nodes around the spots of a list
pub field-in : (low high field : ℕ) (path : List Around) → AllOf (IsNodeIn low high) path →
    AllOf (IsNodeIn low high) (in_field field path)
field-in low high field [] all = tt
field-in low high field (node ∷ outer) all = (all.0, all.1)

pub outer-in : (low high : ℕ) (path : List Around) → AllOf (IsNodeIn low high) path →
    AllOf (IsNodeIn low high) (outer_path path)
outer-in low high [] all = tt
outer-in low high (node ∷ outer) all = all.1

-- the nodes around a spot begin in the range from `low` on
abbrev pub IsSpotIn : ℕ → Spot → Type 0
IsSpotIn low s = (low ≤ s.place) × AllOf (IsNodeIn low s.place) s.path

pub past-in : (low : ℕ) (s : Spot) (x : Item) → IsSpotIn low s → IsSpotIn low (past s x)
past-in low s x is = (let from = is.0 in omega (arith, from), by_item x)
  where
    wider : (path : List Around) → AllOf (IsNodeIn low s.place) path →
        AllOf (IsNodeIn low (s.place + 1)) path
    wider path all =
        all-more (IsNodeIn low s.place) (IsNodeIn low (s.place + 1))
        (node-wider low s.place (s.place + 1) (omega arith)) path all

    by_item : (x : Item) → AllOf (IsNodeIn low (s.place + 1)) (past s x).path
    by_item (h.Open field head) = (
      inr (is.0, omega arith),
      wider (in_field field s.path) (field-in low s.place field s.path is.1),
    )
    by_item (h.Ident field symbol ctxt role) = wider s.path is.1
    by_item (h.Hole field) = wider s.path is.1
    by_item h.Close = wider (outer_path s.path) (outer-in low s.place s.path is.1)

-- the scopes around an occurrence are in the range
abbrev pub IsOccurrenceIn : ℕ → ℕ → Occurrence → Type 0
IsOccurrenceIn low high o = AllOf (IsIn low high) (scopes_around Es o.path)

pub spot-in : (low high : ℕ) (s : Spot) (field : ℕ) → IsSpotIn low s → s.place ≤ high →
    AllOf (IsIn low high) (scopes_around Es (in_field field s.path))
spot-in low high s field is le =
    scopes-in low high (in_field field s.path)
    (field-in low high field s.path
    (all-more (IsNodeIn low s.place) (IsNodeIn low high) (node-wider low s.place high le)
    s.path is.1))

pub occurrences-in : (low high : ℕ) (xs : List Item) (s : Spot) → IsSpotIn low s →
    s.place + length xs ≤ high → AllOf (IsOccurrenceIn low high) (occurrences_from s xs)
occurrences-in low high [] s is le = tt
occurrences-in low high (x ∷ xs) s is le =
    by_item x (occurrences-in low high xs (past s x) (past-in low s x is) (omega (arith, le)))
  where
    within : s.place ≤ high
    within = omega (arith, le)

    by_item : (x : Item) → AllOf (IsOccurrenceIn low high) (occurrences_from (past s x) xs) →
        AllOf (IsOccurrenceIn low high) (occurrences_from s (x ∷ xs))
    by_item (h.Open field head) rest = rest
    by_item (h.Ident field symbol ctxt r.Binding) rest = (spot-in low high s field is within, rest)
    by_item (h.Ident field symbol ctxt r.Reference) rest =
        (spot-in low high s field is within, rest)
    by_item (h.Ident field symbol ctxt r.Word) rest = rest
    by_item (h.Hole field) rest = rest
    by_item h.Close rest = rest

-- those of an item
pub item-in : (item : List Item) →
    AllOf (IsOccurrenceIn 1 (1 + length item)) (occurrences (tree_of_items item))
item-in item =
    subst (AllOf (IsOccurrenceIn 1 (1 + length item))) (sym (item-occurrences item))
    (occurrences-in 1 (1 + length item) item inside (omega arith, (inl refl, tt))
    (omega arith))

-- what is declared in scopes that are in the range
abbrev pub IsDeclaredIn : ℕ → ℕ → Declared → Type 0
IsDeclaredIn low high d = AllOf (IsIn low high) d.scopes

declaration-in : (low high : ℕ) (s : Spot) (x : Item) → IsSpotIn low s → s.place ≤ high →
    (rest : List Declared) → AllOf (IsDeclaredIn low high) rest →
    AllOf (IsDeclaredIn low high)
    (cons_option (option_and_then (declaration_of ByContext Es) (occurrence_of s x)) rest)
declaration-in low high s (h.Open field head) is le rest all = all
declaration-in low high s (h.Ident field symbol ctxt r.Reference) is le rest all = all
declaration-in low high s (h.Ident field symbol ctxt r.Word) is le rest all = all
declaration-in low high s (h.Hole field) is le rest all = all
declaration-in low high s h.Close is le rest all = all
declaration-in low high s (h.Ident field symbol ctxt r.Binding) is le rest all =
    by_way (way_of (in_field field s.path))
  where
    by_way : (way : Option Way) →
        AllOf (IsDeclaredIn low high)
        (cons_option (declared_by s.place (name_of ByContext symbol ctxt)
        (scopes_around Es (in_field field s.path)) way) rest)
    by_way None = all
    by_way (Some way) = (spot-in low high s field is le, all)

declarations-in : (low high : ℕ) (xs : List Item) (s : Spot) → IsSpotIn low s →
    s.place + length xs ≤ high →
    AllOf (IsDeclaredIn low high) (declared_from ByContext Es s (xs ++ h.Close ∷ []))
declarations-in low high [] s is le = tt
declarations-in low high (x ∷ xs) s is le =
    by_default (is_nameless_default x (xs ++ h.Close ∷ []))
    (declarations-in low high xs (past s x) (past-in low s x is) (omega (arith, le)))
  where
    by_default : (b : Bool) →
        AllOf (IsDeclaredIn low high) (declared_from ByContext Es (past s x) (xs ++ h.Close ∷ []))
        →
        AllOf (IsDeclaredIn low high)
        (cons_option (cond b (Some (nameless_default Es s.place))
        (option_and_then (declaration_of ByContext Es) (occurrence_of s x)))
        (declared_from ByContext Es (past s x) (xs ++ h.Close ∷ [])))
    by_default true all = ((tt, tt), all)
    by_default false all =
        declaration-in low high s x is (omega (arith, le))
        (declared_from ByContext Es (past s x) (xs ++ h.Close ∷ [])) all

pub declared-in : (item : List Item) → AllOf (IsDeclaredIn 1 (1 + length item)) (own_declared item)
declared-in item =
    declarations-in 1 (1 + length item) item inside (omega arith, (inl refl, tt)) (omega arith)

-- moved
pub in-moved : (k high : ℕ) (scope : Scope) → IsIn 1 high scope →
    IsIn (1 + k) (high + k) (moved_scope k scope)
in-moved k high Wrapper is = is
in-moved k high Top is = tt
in-moved k high (Inner kind begins) is =
    let from = is.0 in let to = is.1 in let at = moved-from k begins is.0 in
    (omega (arith, from, at), omega (arith, to, at))

pub declared-in_moved : (k high : ℕ) (d : Declared) → IsDeclaredIn 1 high d →
    IsDeclaredIn (1 + k) (high + k) (moved_declared k d)
declared-in_moved k high d all =
    all-map (IsIn 1 high) (IsIn (1 + k) (high + k)) (moved_scope k) (in-moved k high) d.scopes all

-- of all items
pub each-in : (k high : ℕ) (items : List (List Item)) → 1 + k + length (flat items) ≤ high →
    AllOf (IsDeclaredIn (1 + k) high) (each_moved moved_declared own_declared k items)
each-in k high [] le = tt
each-in k high (item ∷ more) le =
    let both = length-append item (flat more) in
    let first : 1 + length item + k ≤ high = omega (arith, le, both) in
    let later : 1 + (k + length item) + length (flat more) ≤ high = omega (arith, le, both) in
    all-append (IsDeclaredIn (1 + k) high) (map (moved_declared k) (own_declared item))
    (each_moved moved_declared own_declared (k + length item) more)
    (all-map (IsDeclaredIn 1 (1 + length item)) (IsDeclaredIn (1 + k) high) (moved_declared k)
    (λ d is. all-more (IsIn (1 + k) (1 + length item + k)) (IsIn (1 + k) high)
    (in-wider (1 + k) (1 + length item + k) (1 + k) high (omega arith) first)
    (map (moved_scope k) d.scopes) (declared-in_moved k (1 + length item) d is))
    (own_declared item) (declared-in item))
    (all-more (IsDeclaredIn (1 + (k + length item)) high) (IsDeclaredIn (1 + k) high)
    (λ d is. all-more (IsIn (1 + (k + length item)) high) (IsIn (1 + k) high)
    (in-wider (1 + (k + length item)) high (1 + k) high (omega arith) (omega arith)) d.scopes
    is) (each_moved moved_declared own_declared (k + length item) more)
    (each-in (k + length item) high more later))

-- Scopes of ranges that do not meet are different, but for the top.
pub apart : (low high other last : ℕ) → (high ≤ other) ⊎ (last ≤ low) → (s t : Scope) →
    IsIn low high s → IsIn other last t → is_top t ≡ false → same_scope s t ≡ false
apart low high other last sides Wrapper t first second inner = absurd first
apart low high other last sides s Wrapper first second inner = absurd second
apart low high other last sides s Top first second inner = absurd cc
apart low high other last sides Top (Inner kind begins) first second inner =
    ne_eqb 1 (begins + 2) (λ e. omega (arith, e))
apart low high other last sides (Inner which from) (Inner kind begins) first second inner =
    ne_eqb (from + 2) (begins + 2) (λ e. by_side e sides)
  where
    by_side : from + 2 ≡ begins + 2 → (high ≤ other) ⊎ (last ≤ low) → ⊥
    by_side e (inl le) = let a = first.1 in let b = second.0 in omega (arith, e, le, a, b)
    by_side e (inr le) = let a = first.0 in let b = second.1 in omega (arith, e, le, a, b)

-- comparisons that are alike
pub both-alike : (a b c d : ℕ) → (a ≡ b → c ≡ d) → (c ≡ d → a ≡ b) → (a == b) ≡ (c == d)
both-alike a b c d there back = by_second (c == d) refl
  where
    by_second : (e : Bool) → (c == d) ≡ e → (a == b) ≡ e
    by_second true is = eq-eqb a b (back (eqb-true c d is))
    by_second false is =
        false_from_ne_true (a == b)
        (λ same. false≢true (sym is ∙ eq-eqb c d (there (eqb-true a b same))))

both-fail : (a b c d : ℕ) → (a ≢ b) → (c ≢ d) → (a == b) ≡ (c == d)
both-fail a b c d first second =
    both-alike a b c d (λ e. absurd (first e)) (λ e. absurd (second e))

pub moved-same : (k m n : ℕ) → moved k m ≡ moved k n → m ≡ n
moved-same k zero zero e = refl
moved-same k zero (suc n) e = omega (arith, e)
moved-same k (suc m) zero e = omega (arith, e)
moved-same k (suc m) (suc n) e = omega (arith, e)

-- the same scopes after moving
pub same-moved : (k : ℕ) (s t : Scope) →
    same_scope (moved_scope k s) (moved_scope k t) ≡ same_scope s t
same-moved k Wrapper Wrapper = refl
same-moved k Wrapper Top = refl
same-moved k Top Wrapper = refl
same-moved k Top Top = refl
same-moved k Wrapper (Inner kind begins) =
    both-fail 0 (moved k begins + 2) 0 (begins + 2) (λ e. omega (arith, e)) (λ e. omega (arith, e))
same-moved k Top (Inner kind begins) =
    both-fail 1 (moved k begins + 2) 1 (begins + 2) (λ e. omega (arith, e)) (λ e. omega (arith, e))
same-moved k (Inner kind begins) Wrapper =
    both-fail (moved k begins + 2) 0 (begins + 2) 0 (λ e. omega (arith, e)) (λ e. omega (arith, e))
same-moved k (Inner kind begins) Top =
    both-fail (moved k begins + 2) 1 (begins + 2) 1 (λ e. omega (arith, e)) (λ e. omega (arith, e))
same-moved k (Inner kind begins) (Inner which other) =
    both-alike (moved k begins + 2) (moved k other + 2) (begins + 2) (other + 2)
    (λ e. let same = moved-same k begins other (omega (arith, e)) in omega (arith, same))
    (λ e. let same : begins ≡ other = omega (arith, e) in ap (λ n. moved k n + 2) same)
