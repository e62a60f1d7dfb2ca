-- The numbers of top bindings: two identifiers have one number exactly if they denote one binding.
use Rattle.std.proofs.Common.{◌≡◌, ℕ, zero, suc, ◌&&◌, ◌⊎◌, Bool, true, false, cond, not, ◌==◌, List, [], ◌∷◌, ◌++◌, Option, Some, None, length, slice_get, get_or, refl, sym, ap, ◌∙◌, subst, inl, inr, arith}
use Rattle.std.specs.List.{filter, position, position_or_len, cons_option, filter_map, flat_map}
use Rattle.std.specs.Option.{option_and_then}
use Rattle.std.specs.Str.{bytes_eq}
use Rattle.std.proofs.lemmas.Bool.{true≢false, false≢true, cases_lt, eqb-true, eq-eqb, and_parts, and_from, lt-ltb, not_from_false}
use Rattle.std.proofs.lemmas.Option.{none-some, same_Some, slice_get_within, get_or_from_slice_get, slice_get-get_or}
use Rattle.std.proofs.lemmas.List.Quantifiers.{position-Some}
use Rattle.std.proofs.lemmas.List.Sums.{fails_before_first}
use Rattle.std.proofs.lemmas.Slice.Eq.{bytes_eq-Decides}
use Rattle.bundle_syntax.specs.Item.{Item}
use Rattle.bundle_rules.specs.Places.{Occurrence, occurrences}
use Rattle.bundle_rules.specs.Scopes.{Scope, scope_order, same_scope}
use Rattle.bundle_rules.specs.Declarations.{Reading}
use Rattle.bundle_rules.specs.Denotes.{Denoted, Bound, Global}
use Rattle.bundle_rules.specs.Statements.{TopItem}
use Rattle.bundle_rules.specs.Mentions.{same_context, same_denoted, each_denoted_once}
use Rattle.bundle_rules.specs.Order.{denoted_in, is_of_scope, mentioned, mention_of}
use Rattle.bundle_merge_theory.specs.grouped.Alike.{DenoteOne}
use Rattle.bundle_merge_theory.specs.grouped.Standing.{DenoteTop, StandsInItem}
use Rattle.bundle_order.proofs.EventLemmas.{same_context-is, same_context-refl}

-- ---- what denotes the same

pub same-refl : (d : Denoted) → same_denoted d d ≡ true
same-refl (Bound scope name) =
    and_from (same_scope scope scope && bytes_eq name.sym name.sym)
    (same_context name.ctxt name.ctxt)
    (and_from (same_scope scope scope) (bytes_eq name.sym name.sym)
    (eq-eqb (scope_order scope) (scope_order scope) refl)
    ((bytes_eq-Decides name.sym name.sym).1 refl)) (same_context-refl name.ctxt)
same-refl (Global x) = (bytes_eq-Decides x x).1 refl

-- both are told apart from others alike
pub same-agree : (d e x : Denoted) → same_denoted d e ≡ true → same_denoted d x ≡ same_denoted e x
same-agree (Bound scope name) (Bound other its) (Bound third one) t =
    let p = and_parts (same_scope scope other && bytes_eq name.sym its.sym)
    (same_context name.ctxt its.ctxt) t in
    let q = and_parts (same_scope scope other) (bytes_eq name.sym its.sym) p.0 in
    ap (λ n. ((n == scope_order third) && bytes_eq name.sym one.sym)
    && same_context name.ctxt one.ctxt) (eqb-true (scope_order scope) (scope_order other) q.0)
    ∙ (ap (λ (s : List ℕ). (same_scope other third && bytes_eq s one.sym)
    && same_context name.ctxt one.ctxt) ((bytes_eq-Decides name.sym its.sym).0 q.1)
    ∙ ap (λ (c : Option ℕ). (same_scope other third && bytes_eq its.sym one.sym)
    && same_context c one.ctxt) (same_context-is name.ctxt its.ctxt p.1))
same-agree (Bound scope name) (Bound other its) (Global z) t = refl
same-agree (Bound scope name) (Global y) x t = absurd (false≢true t)
same-agree (Global w) (Bound other its) x t = absurd (false≢true t)
same-agree (Global w) (Global y) (Bound third one) t = refl
same-agree (Global w) (Global y) (Global z) t =
    ap (λ (s : List ℕ). bytes_eq s z) ((bytes_eq-Decides w y).0 t)

pub same-sym : (d e : Denoted) → same_denoted d e ≡ true → same_denoted e d ≡ true
same-sym d e t = sym (same-agree d e d t) ∙ same-refl d

pub same-scope : (top : Scope) (d e : Denoted) → same_denoted d e ≡ true →
    is_of_scope top d ≡ is_of_scope top e
same-scope top (Bound scope name) (Bound other its) t =
    let p = and_parts (same_scope scope other && bytes_eq name.sym its.sym)
    (same_context name.ctxt its.ctxt) t in
    let q = and_parts (same_scope scope other) (bytes_eq name.sym its.sym) p.0 in
    ap (λ n. n == scope_order top) (eqb-true (scope_order scope) (scope_order other) q.0)
same-scope top (Bound scope name) (Global y) t = absurd (false≢true t)
same-scope top (Global w) (Bound other its) t = absurd (false≢true t)
same-scope top (Global w) (Global y) t = refl

-- ---- what a list has
pub data Has (X : Type 0) : List X → X → Type 0 where
  here : (x : X) (rest : List X) → Has X (x ∷ rest) x
  there : (y : X) {rest : List X} {x : X} → Has X rest x → Has X (y ∷ rest) x

has-at : {X : Type 0} (xs : List X) (k : ℕ) (x : X) → slice_get xs k ≡ Some x → Has X xs x
has-at [] k x e = absurd (none-some x e)
has-at {X} (y ∷ xs) zero x e = subst (λ (z : X). Has X (y ∷ xs) z) (same_Some y x e) (here y xs)
has-at (y ∷ xs) (suc k) x e = there y (has-at xs k x e)

at-has : {X : Type 0} {xs : List X} {x : X} → Has X xs x → (k : ℕ) × (slice_get xs k ≡ Some x)
at-has (here x rest) = (0, refl)
at-has (there y has) = let k = at-has has in (suc k.0, k.1)

has-left : {X : Type 0} {xs : List X} {x : X} (ys : List X) → Has X xs x → Has X (xs ++ ys) x
has-left ys (here x rest) = here x (rest ++ ys)
has-left ys (there y has) = there y (has-left ys has)

has-right : {X : Type 0} (xs : List X) {ys : List X} {x : X} → Has X ys x → Has X (xs ++ ys) x
has-right [] has = has
has-right (y ∷ xs) has = there y (has-right xs has)

has-flat : {X Y : Type 0} (f : X → List Y) (xs : List X) (k : ℕ) (x : X) (y : Y) →
    slice_get xs k ≡ Some x → Has Y (f x) y → Has Y (flat_map f xs) y
has-flat f [] k x y e has = absurd (none-some x e)
has-flat {Y = Y} f (z ∷ xs) zero x y e has =
    has-left (flat_map f xs) (subst (λ w. Has Y (f w) y) (sym (same_Some z x e)) has)
has-flat f (z ∷ xs) (suc k) x y e has = has-right (f z) (has-flat f xs k x y e has)

has-optional : {X : Type 0} (o : Option X) {xs : List X} {x : X} → Has X xs x →
    Has X (cons_option o xs) x
has-optional None has = has
has-optional (Some y) has = there y has

has-first : {X : Type 0} (o : Option X) (xs : List X) (x : X) → o ≡ Some x →
    Has X (cons_option o xs) x
has-first None xs x e = absurd (none-some x e)
has-first {X} (Some y) xs x e = subst (λ (z : X). Has X (y ∷ xs) z) (same_Some y x e) (here y xs)

has-chosen : {X Y : Type 0} (f : X → Option Y) (xs : List X) (k : ℕ) (x : X) (y : Y) →
    slice_get xs k ≡ Some x → f x ≡ Some y → Has Y (filter_map f xs) y
has-chosen f [] k x y e is = absurd (none-some x e)
has-chosen f (z ∷ xs) zero x y e is =
    has-first (f z) (filter_map f xs) y (ap f (same_Some z x e) ∙ is)
has-chosen f (z ∷ xs) (suc k) x y e is = has-optional (f z) (has-chosen f xs k x y e is)

has-kept : {X : Type 0} (p : X → Bool) {xs : List X} {x : X} → Has X xs x → p x ≡ true →
    Has X (filter p xs) x
has-kept {X} p (here x rest) t = by (p x) t
  where
    by : (b : Bool) → b ≡ true → Has X (cond b (x ∷ filter p rest) (filter p rest)) x
    by true t = here x (filter p rest)
    by false t = absurd (false≢true t)
has-kept {X} p {x = x} (there y {rest = rest} has) t = by (p y) (has-kept p has t)
  where
    by : (b : Bool) → Has X (filter p rest) x →
        Has X (cond b (y ∷ filter p rest) (filter p rest)) x
    by true has = there y has
    by false has = has

has-cases : {X : Type 0} {y : X} {xs : List X} {x : X} → Has X (y ∷ xs) x → (y ≡ x) ⊎ Has X xs x
has-cases (here x rest) = inl refl
has-cases (there y has) = inr has

-- what is kept is there and passes
kept-from : {X : Type 0} (p : X → Bool) (xs : List X) (x : X) → Has X (filter p xs) x →
    Has X xs x × (p x ≡ true)
kept-from p [] x has = elim has [ ]
kept-from {X} p (y ∷ xs) x has = by (p y) refl (kept-from p xs x) has
  where
    later : (Has X (filter p xs) x → Has X xs x × (p x ≡ true)) → Has X (filter p xs) x →
        Has X (y ∷ xs) x × (p x ≡ true)
    later ih has = let found = ih has in (there y found.0, found.1)

    by : (b : Bool) → p y ≡ b → (Has X (filter p xs) x → Has X xs x × (p x ≡ true)) →
        Has X (cond b (y ∷ filter p xs) (filter p xs)) x → Has X (y ∷ xs) x × (p x ≡ true)
    by true e ih has =
        elim (has-cases has) [
          | inl same ↦ (
            subst (λ (z : X). Has X (y ∷ xs) z) same (here y xs),
            ap p (sym same)
                ∙ e,
          )
          | inr rest ↦ later ih rest
        ]
    by false e ih has = later ih has

-- ---- each once
pub once-from : (xs : List Denoted) (d : Denoted) → Has Denoted (each_denoted_once xs) d →
    Has Denoted xs d
once-from [] d has = has
once-from (x ∷ rest) d has = elim (has-cases has) [
  | inl e ↦ subst (λ (y : Denoted). Has Denoted (x ∷ rest) y) e (here x rest)
  | inr later ↦ there x
      (once-from rest d (kept-from (λ other. not (same_denoted x other)) (each_denoted_once rest) d
      later).0)
]

-- of what is there, one that denotes the same is there once
abbrev pub Like : List Denoted → Denoted → Type 0
Like xs d = (t : Denoted) × Has Denoted xs t × (same_denoted d t ≡ true)

pub once-keeps : (xs : List Denoted) (d : Denoted) → Has Denoted xs d →
    Like (each_denoted_once xs) d
once-keeps [] d has = elim has [ ]
once-keeps (x ∷ rest) d has = by (has-cases has) (once-keeps rest d)
  where
    kept : (t : Denoted) → Has Denoted (each_denoted_once rest) t → same_denoted d t ≡ true →
        (b : Bool) → same_denoted x t ≡ b → Like (each_denoted_once (x ∷ rest)) d
    kept t has is true e = (x, here x _, same-agree d t x is ∙ same-sym x t e)
    kept t has is false e = (
      t,
      there x (has-kept (λ other. not (same_denoted x other)) has
          (not_from_false (same_denoted x t) e)),
      is,
    )

    by : (x ≡ d) ⊎ Has Denoted rest d → (Has Denoted rest d → Like (each_denoted_once rest) d) →
        Like (each_denoted_once (x ∷ rest)) d
    by (inl e) ih = (x, here x _, subst (λ (y : Denoted). same_denoted y x ≡ true) e (same-refl x))
    by (inr has) ih =
        let found = ih has in kept found.0 found.1 found.2 (same_denoted x found.0) refl

-- ---- numbers
pub position-there : (p : Denoted → Bool) (xs : List Denoted) (x : Denoted) → Has Denoted xs x →
    p x ≡ true → (k : ℕ) × (position p xs ≡ Some k)
position-there p xs x has t =
    let at = at-has has in
    elim (cases_lt (position_or_len p xs) (length xs)) [
      | inl l ↦ (
        position_or_len p xs,
        ap (λ b. cond b (Some (position_or_len p xs)) None)
            (lt-ltb (position_or_len p xs) (length xs) l),
      )
      | inr g ↦ absurd (true≢false (sym t
          ∙ (ap p (sym (get_or_from_slice_get xs at.0 x x at.1))
          ∙ fails_before_first p xs at.0 x (let inside = slice_get_within xs at.0 x at.1 in
          omega (arith, inside, g)))))
    ]

pub position-is : (p : Denoted → Bool) (xs : List Denoted) (k : ℕ) → position p xs ≡ Some k →
    (x : Denoted) × Has Denoted xs x × (slice_get xs k ≡ Some x) × (p x ≡ true)
position-is p xs k e =
    let found = position-Some p xs k (Global []) e in
    let at = slice_get-get_or xs k (Global []) found.0 in
    (get_or xs k (Global []), has-at xs k _ at, at, found.1)

position-agree : (p q : Denoted → Bool) (xs : List Denoted) → ((x : Denoted) → p x ≡ q x) →
    position p xs ≡ position q xs
position-agree p q xs same = ap (λ (f : Denoted → Bool). position f xs) (λ i x. same x i)

module _ (reading : Reading) (top : Scope) (tree : List Item) (items : List TopItem) where
  abbrev tops : List Denoted
  tops = mentioned reading top tree items

  abbrev all : List Denoted
  all =
      flat_map (λ (item : TopItem). filter_map (denoted_in reading tree item)
      (occurrences item.items)) items

  -- what an identifier denotes is among what all do
  listed : (s i : ℕ) (item : TopItem) (o : Occurrence) (d : Denoted) → StandsInItem items s i item o →
      denoted_in reading tree item o ≡ Some d → Has Denoted all d
  listed s i item o d at e =
      has-flat (λ (item : TopItem). filter_map (denoted_in reading tree item)
      (occurrences item.items)) items s item d at.item_there
      (has-chosen (denoted_in reading tree item) (occurrences item.items) i o d at.there e)

  pub denote_one-to : (x y : TopItem) (o p : Occurrence) →
      DenoteOne (mention_of reading tree tops x o) (mention_of reading tree tops y p) →
      DenoteTop reading top tree x o y p
  denote_one-to x y o p (k, e, f) =
      by (denoted_in reading tree x o) (denoted_in reading tree y p) refl refl e f
    where
      by : (d e : Option Denoted) → denoted_in reading tree x o ≡ d →
          denoted_in reading tree y p ≡ e →
          option_and_then (λ (x : Denoted). position (same_denoted x) tops) d ≡ Some k →
          option_and_then (λ (x : Denoted). position (same_denoted x) tops) e ≡ Some k →
          DenoteTop reading top tree x o y p
      by None e one two f g = absurd (none-some k f)
      by (Some d) None one two f g = absurd (none-some k g)
      by (Some d) (Some e) one two f g =
          let at = position-is (same_denoted d) tops k f in
          let its = position-is (same_denoted e) tops k g in
          let is : its.0 ≡ at.0 = same_Some its.0 at.0 (sym its.2 ∙ at.2) in
          let here : is_of_scope top at.0 ≡ true =
          (kept-from (is_of_scope top) all at.0
          (once-from (filter (is_of_scope top) all) at.0 at.1)).1 in
          record {
            one = d;
            two = e;
            first = one;
            second = two;
            of_top = same-scope top d at.0 at.3 ∙ here;
            same =
                same-agree d at.0 e at.3 ∙ same-sym e at.0 (ap (same_denoted e) (sym is) ∙ its.3);
          }

  pub denote_one-from : (s i t j : ℕ) (x y : TopItem) (o p : Occurrence) → StandsInItem items s i x o →
      StandsInItem items t j y p → DenoteTop reading top tree x o y p →
      DenoteOne (mention_of reading tree tops x o) (mention_of reading tree tops y p)
  denote_one-from s i t j x y o p at its both =
      let like : Like tops both.one = once-keeps (filter (is_of_scope top) all) both.one
      (has-kept (is_of_scope top) (listed s i x o both.one at both.first) both.of_top) in
      let k = position-there (same_denoted both.one) tops like.0 like.1 like.2 in (
        k.0,
        ap (λ (d : Option Denoted). option_and_then (λ (x : Denoted). position (same_denoted x) tops)
            d) both.first
            ∙ k.1,
        ap (λ (d : Option Denoted). option_and_then (λ (x : Denoted). position (same_denoted x) tops)
            d) both.second
            ∙ (sym (position-agree (same_denoted both.one) (same_denoted both.two) tops
            (λ z. same-agree both.one both.two z both.same)) ∙ k.1),
      )
