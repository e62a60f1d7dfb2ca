-- Lists in which each element stands once, and elements of lists that are put together.
-- The items in the order in which they are to stand are the merged ones, read by their numbers.
-- Filters of lists in which each number is kept once.
-- What loops over the tables of modules find is what is decided: the CommonJS modules that a module
-- loads.
-- In the list of a program a block stands after each other block that one of its modules requests.
-- A CommonJS module asks for nothing by declarations, and has no `import.meta`.
use Rattle.std.proofs.Common.{◌≡◌, inl, inr, ℕ, zero, suc, Bool, true, false, not, nat_eq, List, [], ◌∷◌, ◌++◌, Option, Some, Contains, map, refl, sym, ap, ◌∙◌, subst, cond, eq-eqb, arith, ◌+◌, length, ◌⊎◌, None, eqb-true, ◌↔◌, if◌then◌else◌, ◌&&◌, ◌||◌}
use Rattle.std.specs.Prelude.{bytes_eq, filter, flat_map, slice_get, filter_map, IsTrue}
use Rattle.std.specs.List.{AllZip, cons_option, list_any}
use Rattle.std.proofs.lemmas.Bool.{false≢true, and_parts, and_from}
use Rattle.std.proofs.lemmas.List.Elements.{Contains-append_cases, Contains-append_left, filter-append, filter_map-append, Contains-append_right, Contains-push, Contains-push_cases}
use Rattle.std.proofs.lemmas.Option.{none-some, same_Some}
use Rattle.std.proofs.lemmas.Slice.Eq.{bytes_eq-Decides}
use Rattle.std.proofs.lemmas.List.{append_assoc, append-nil}
use Rattle.bundle_order_graph.specs.Blocks.{Members, nothing, kept, left, BlocksOf, ends, goes_on, over}
use Rattle.bundle_order_graph.proofs.NodeLemmas.{Contains-place, place-in, found, place-contains}
use Rattle.bundle_order_graph.specs.Walks.{Reaches, itself, along}
use Rattle.bundle_order_graph.specs.Order.{Lists, finished, passed, listed}
use Rattle.bundle_order_graph.proofs.WalkLemmas.{Reaches-trans}
use Rattle.bundle_order_graph.proofs.OrderLemmas.{Contains-head, Contains-tail, Contains-cons_cases, Lists-takes, Lists-closed, IsClosedUnder}
use Rattle.bundle_syntax.specs.Item as in_item
use Rattle.bundle_syntax.specs.Item.{Item, Head}
use Rattle.bundle_rules.specs.Nodes.{Text, each_once, numbers_once, has_text, begins_with}
use Rattle.bundle_order_sort.proofs.OnceLemmas.{IsOnce, InSome, nothing_in}
use Rattle.bundle_rules.specs.Bound.{is_free}
use Rattle.bundle_rules.specs.Entries.{declared_requests, linked_calls, is_module_declaration, requests_by, requests_of_item}
use Rattle.bundle_rules.specs.Program.{Program, tree_of, resolves, is_external, requested, Requests, SharesBlock, IsList, AreBlocks}
use Rattle.bundle_rules.specs.Linking.{IsCommonJs}
use Rattle.bundle_rules.specs.Bundle.{AsksCommonJs, FollowsRequests}
use Rattle.bundle_order_sort.proofs.BlockLemmas.{Members-in, blocks-in}
use Rattle.bundle_rules.specs.Statements.{TopItem, top_items}
pub use Rattle.bundle_scope_names.proofs.Counting.{length-map as length-mapped}
use Rattle.bundle_link_index.proofs.ProgramLemmas.{later, first_or_later, filter_on, filter_map_back as some_back, filter_map_on as some_on}
pub use Rattle.bundle_link_index.proofs.ProgramLemmas.{map_back, got as get-contains, got_there as contains-get}
use Rattle.bundle_link_index.proofs.AskedLemmas.{flat_back}
use Rattle.bundle_link_targets.proofs.ListLemmas.{first-there as here}
use Rattle.bundle_link.proofs.GraphLemmas.{filter_back}
pub use Rattle.bundle_link.proofs.AlikeLemmas.{once_on as numbers-on}
use Rattle.bundle_link.proofs.RequestLemmas.{passes}
use Rattle.bundle_merge_theory.specs.planned.Decided.{numbers_from, taken_modules}

-- ---- list

-- each element stands once
abbrev pub Once : {A : Type 0} → List A → Type 0
Once [] = Unit {0}
Once (x ∷ xs) = (Contains xs x → ⊥) × Once xs

pub no_element : {A : Type 0} {x : A} → Contains [] x → ⊥
no_element c = omega (arith, c.1)

-- ---- each once
pub once-one : {A : Type 0} (x : A) → Once (x ∷ [])
once-one x = ((λ c. no_element c), tt)

pub once-join : {A : Type 0} (xs ys : List A) → Once xs → Once ys →
    ((x : A) → Contains xs x → Contains ys x → ⊥) → Once (xs ++ ys)
once-join [] ys a b apart = b
once-join (x ∷ xs) ys a b apart = (
  λ c. elim (Contains-append_cases xs ys x c) [ inl d ↦ a.0 d | inr d ↦ apart x (here x xs) d ],
  once-join xs ys a.1 b (λ y c d. apart y (later x xs y c) d),
)

pub once-map : {A B : Type 0} (f : A → B) → ((x y : A) → f x ≡ f y → x ≡ y) → (xs : List A) →
    Once xs → Once (map f xs)
once-map f one [] once = tt
once-map f one (x ∷ xs) once = (
  λ c. let r = map_back f xs (f x) c in once.0 (subst (Contains xs) (one r.0 x r.2) r.1),
  once-map f one xs once.1,
)

pub once-filter : {A : Type 0} (test : A → Bool) (xs : List A) → Once xs → Once (filter test xs)
once-filter test [] once = tt
once-filter {A = A} test (x ∷ xs) once = by (test x) (once-filter test xs once.1)
  where
    by : (b : Bool) → Once (filter test xs) → Once (cond b (x ∷ filter test xs) (filter test xs))
    by true ih = ((λ c. once.0 (filter_back test xs x c)), ih)
    by false ih = ih

pub once-flat : {A B : Type 0} (f : A → List B) (key : B → Option A) →
    ((a : A) (b : B) → Contains (f a) b → key b ≡ Some a) → ((a : A) → Once (f a)) → (xs : List A) →
    Once xs → Once (flat_map f xs)
once-flat f key keyed each [] once = tt
once-flat f key keyed each (x ∷ xs) once =
    once-join (f x) (flat_map f xs) (each x) (once-flat f key keyed each xs once.1)
    (λ b c d. let r = flat_back f xs b d in once.0
    (subst (Contains xs) (same_Some r.0 x (sym (keyed r.0 b r.2) ∙ keyed x b c)) r.1))

pub once-numbers : (ns : List ℕ) → Once (numbers_once ns)
once-numbers [] = tt
once-numbers (n ∷ ns) = (
  λ c. let e =
      passes (λ m. not (nat_eq n m)) (numbers_once ns) n c in false≢true
      (ap not (sym (eq-eqb n n refl)) ∙ e),
  once-filter (λ m. not (nat_eq n m)) (numbers_once ns) (once-numbers ns),
)

pub once-texts : (texts : List Text) → Once (each_once texts)
once-texts [] = tt
once-texts (x ∷ texts) = (
  λ c. let e =
      passes (λ y. not (bytes_eq x y)) (each_once texts) x c in false≢true
      (ap not (sym ((bytes_eq-Decides x x).1 refl)) ∙ e),
  once-filter (λ y. not (bytes_eq x y)) (each_once texts) (once-texts texts),
)

-- two places of one element are one
pub once-places : {A : Type 0} (xs : List A) → Once xs → (i j : ℕ) (x : A) →
    slice_get xs i ≡ Some x → slice_get xs j ≡ Some x → i ≡ j
once-places [] once i j x e f = absurd (none-some x e)
once-places (a ∷ xs) once zero zero x e f = refl
once-places (a ∷ xs) once zero (suc j) x e f =
    absurd (once.0 (subst (Contains xs) (sym (same_Some a x e)) (contains-get xs j x f)))
once-places (a ∷ xs) once (suc i) zero x e f =
    absurd (once.0 (subst (Contains xs) (sym (same_Some a x f)) (contains-get xs i x e)))
once-places (a ∷ xs) once (suc i) (suc j) x e f = ap suc (once-places xs once.1 i j x e f)

-- ---- a list read by places in another order
abbrev pub ReadBy : {A : Type 0} → List A → ℕ → A → Type 0
ReadBy xs n x = slice_get xs n ≡ Some x

pub read-back : {A : Type 0} (xs : List A) (order : List ℕ) (ys : List A) →
    AllZip (ReadBy xs) order ys → (y : A) → Contains ys y →
    (n : ℕ) × Contains order n × (slice_get xs n ≡ Some y)
read-back xs [] [] z y c = absurd (no_element c)
read-back xs [] (b ∷ ys) z y c = absurd z
read-back xs (n ∷ order) [] z y c = absurd z
read-back xs (n ∷ order) (b ∷ ys) z y c = elim (first_or_later b ys y c) [
  | inl e ↦ (n, here n order, z.0 ∙ ap (λ k. Some k) e)
  | inr rest ↦ let r = read-back xs order ys z.1 y rest in (r.0, later n order r.0 r.1, r.2)
]

pub read-on : {A : Type 0} (xs : List A) (order : List ℕ) (ys : List A) →
    AllZip (ReadBy xs) order ys → (n : ℕ) (y : A) → Contains order n → slice_get xs n ≡ Some y →
    Contains ys y
read-on xs [] [] z n y c e = absurd (no_element c)
read-on xs [] (b ∷ ys) z n y c e = absurd z
read-on xs (m ∷ order) [] z n y c e = absurd z
read-on xs (m ∷ order) (b ∷ ys) z n y c e = elim (first_or_later m order n c) [
  | inl same ↦ (0, omega arith, same_Some b y (sym z.0 ∙ ap (slice_get xs) same ∙ e))
  | inr rest ↦ later b ys y (read-on xs order ys z.1 n y rest e)
]

pub read-once : {A : Type 0} (xs : List A) (order : List ℕ) (ys : List A) →
    AllZip (ReadBy xs) order ys → Once xs → IsOnce order → Once ys
read-once xs [] [] z once each = tt
read-once xs [] (b ∷ ys) z once each = absurd z
read-once xs (n ∷ order) [] z once each = absurd z
read-once xs (n ∷ order) (b ∷ ys) z once each = (
  λ c. let r =
      read-back xs order ys z.1 b c in each.0
      (subst (Contains order) (once-places xs once r.0 n b r.2 z.0) r.1),
  read-once xs order ys z.1 once each.1,
)

-- ---- arrange
pub read-join : {A : Type 0} (xs : List A) (first second : List ℕ) (ys zs : List A) →
    AllZip (ReadBy xs) first ys → AllZip (ReadBy xs) second zs →
    AllZip (ReadBy xs) (first ++ second) (ys ++ zs)
read-join xs [] second [] zs a b = b
read-join xs [] second (y ∷ ys) zs a b = absurd a
read-join xs (n ∷ first) second [] zs a b = absurd a
read-join xs (n ∷ first) second (y ∷ ys) zs a b = (a.0, read-join xs first second ys zs a.1 b)

-- a part of a list, read by its places
pub read-part : {A : Type 0} (whole : List A) (i : ℕ) (xs : List A) →
    ((k : ℕ) (x : A) → slice_get xs k ≡ Some x → slice_get whole (i + k) ≡ Some x) →
    AllZip (ReadBy whole) (numbers_from i (length xs)) xs
read-part whole i [] each = tt
read-part whole i (x ∷ xs) each = (
  let same : i + 0 ≡ i = omega arith in
      subst (λ k. slice_get whole k ≡ Some x) same (each zero x refl),
  read-part whole (suc i) xs
      (λ k y e. let same : i + suc k ≡ suc i + k = omega arith in subst
      (λ n. slice_get whole n ≡ Some y) same (each (suc k) y e)),
)

pub read-moved : {A : Type 0} (whole : List A) (i : ℕ) (xs : List A) (order : List ℕ)
    (ys : List A) →
    ((k : ℕ) (x : A) → slice_get xs k ≡ Some x → slice_get whole (i + k) ≡ Some x) →
    AllZip (ReadBy xs) order ys → AllZip (ReadBy whole) (map (λ n. i + n) order) ys
read-moved whole i xs [] [] each z = tt
read-moved whole i xs [] (y ∷ ys) each z = absurd z
read-moved whole i xs (n ∷ order) [] each z = absurd z
read-moved whole i xs (n ∷ order) (y ∷ ys) each z =
    (each n y z.0, read-moved whole i xs order ys each z.1)

-- ---- once

-- the test that a number is another
abbrev other_than : ℕ → ℕ → Bool
other_than n m = not (nat_eq n m)

abbrev other_text : Text → Text → Bool
other_text x y = not (bytes_eq x y)

pub filter-same : {A : Type 0} (f g : A → Bool) (xs : List A) →
    ((x : A) → Contains xs x → f x ≡ g x) → filter f xs ≡ filter g xs
filter-same f g [] same = refl
filter-same f g (x ∷ xs) same =
    ap (λ b. cond b (x ∷ filter f xs) (filter f xs)) (same x (here x xs))
    ∙ ap (λ l. cond (g x) (x ∷ l) l) (filter-same f g xs (λ y c. same y (later x xs y c)))

filter-none : {A : Type 0} (f : A → Bool) (x : A) (xs : List A) → f x ≡ false →
    filter f (x ∷ xs) ≡ filter f xs
filter-none f x xs e = ap (λ b. cond b (x ∷ filter f xs) (filter f xs)) e

filter-some : {A : Type 0} (f : A → Bool) (x : A) (xs : List A) → f x ≡ true →
    filter f (x ∷ xs) ≡ x ∷ filter f xs
filter-some f x xs e = ap (λ b. cond b (x ∷ filter f xs) (filter f xs)) e

filter-swap : {A : Type 0} (f g : A → Bool) (xs : List A) →
    filter f (filter g xs) ≡ filter g (filter f xs)
filter-swap f g [] = refl
filter-swap {A = A} f g (x ∷ xs) = by (f x) (g x) refl refl (filter-swap f g xs)
  where
    by : (s t : Bool) → f x ≡ s → g x ≡ t → filter f (filter g xs) ≡ filter g (filter f xs) →
        filter f (cond t (x ∷ filter g xs) (filter g xs)) ≡ filter g
        (cond s (x ∷ filter f xs) (filter f xs))
    by true true e h ih =
        filter-some f x (filter g xs) e
        ∙ (ap (λ l. x ∷ l) ih ∙ sym (filter-some g x (filter f xs) h))
    by true false e h ih = ih ∙ sym (filter-none g x (filter f xs) h)
    by false true e h ih = filter-none f x (filter g xs) e ∙ ih
    by false false e h ih = ih

-- a number that fails is left out anyway
filter-left : (f : ℕ → Bool) (n : ℕ) → f n ≡ false → (xs : List ℕ) →
    filter f (filter (other_than n) xs) ≡ filter f xs
filter-left f n e [] = refl
filter-left f n e (x ∷ xs) = by (nat_eq n x) refl (filter-left f n e xs)
  where
    by : (t : Bool) → nat_eq n x ≡ t → filter f (filter (other_than n) xs) ≡ filter f xs →
        filter f (cond (not t) (x ∷ filter (other_than n) xs) (filter (other_than n) xs)) ≡ filter f
        (x ∷ xs)
    by true is ih = ih ∙ sym (filter-none f x xs (ap f (sym (eqb-true n x is)) ∙ e))
    by false is ih = ap (λ l. cond (f x) (x ∷ l) l) ih

pub filter-once : (f : ℕ → Bool) (xs : List ℕ) →
    filter f (numbers_once xs) ≡ numbers_once (filter f xs)
filter-once f [] = refl
filter-once f (n ∷ xs) = by (f n) refl (filter-once f xs)
  where
    by : (t : Bool) → f n ≡ t → filter f (numbers_once xs) ≡ numbers_once (filter f xs) →
        cond t (n ∷ filter f (filter (other_than n) (numbers_once xs)))
        (filter f (filter (other_than n) (numbers_once xs))) ≡ numbers_once
        (cond t (n ∷ filter f xs) (filter f xs))
    by true e ih =
        ap (λ l. n ∷ l)
        (filter-swap f (other_than n) (numbers_once xs) ∙ ap (filter (other_than n)) ih)
    by false e ih = filter-left f n e (numbers_once xs) ∙ ih

not-other : (n : ℕ) → other_than n n ≡ false
not-other n = ap not (eq-eqb n n refl)

push-in : (xs : List ℕ) (n : ℕ) → Contains xs n → numbers_once (xs ++ n ∷ []) ≡ numbers_once xs
push-in [] n c = absurd (no_element c)
push-in (x ∷ xs) n c = by (first_or_later x xs n c) (λ rest. push-in xs n rest)
  where
    by : (x ≡ n) ⊎ Contains xs n → (Contains xs n → numbers_once (xs ++ n ∷ []) ≡ numbers_once xs) →
        x ∷ filter (other_than x) (numbers_once (xs ++ n ∷ [])) ≡ x ∷ filter (other_than x)
        (numbers_once xs)
    by (inl e) ih = ap (λ l. x ∷ l) (
        filter-once (other_than x) (xs ++ n ∷ [])
        ∙ (ap numbers_once (filter-append (other_than x) xs (n ∷ []) ∙ (ap (λ l. filter (other_than x) xs ++ l) (filter-none (other_than x) n [] (ap (other_than x) (sym e) ∙ not-other x)) ∙ append-nil (filter (other_than x) xs)))
        ∙ sym (filter-once (other_than x) xs)))
    by (inr rest) ih = ap (λ l. x ∷ filter (other_than x) l) (ih rest)

-- what stands earlier too is left out
pub once-behind : (ys xs : List ℕ) → ((n : ℕ) → Contains ys n → Contains xs n) →
    numbers_once (xs ++ ys) ≡ numbers_once xs
once-behind [] xs all = ap numbers_once (append-nil xs)
once-behind (y ∷ ys) xs all =
    ap numbers_once (sym (append_assoc xs (y ∷ []) ys))
    ∙ (once-behind ys (xs ++ y ∷ []) (λ n c. Contains-append_left xs (y ∷ []) n (all n (later y ys n c)))
    ∙ push-in xs y (all y (here y ys)))

-- ---- texts that lead to numbers
-- what a text leads to is left out, or it leads to nothing
abbrev IsLeftOut : (f : ℕ → Bool) → Option ℕ → Type 0
IsLeftOut f None = Unit {0}
IsLeftOut f (Some n) = f n ≡ false

texts-left : (r : Text → Option ℕ) (f : ℕ → Bool) (t : Text) → IsLeftOut f (r t) →
    (xs : List Text) →
    filter f (filter_map r (filter (other_text t) xs)) ≡ filter f (filter_map r xs)
texts-left r f t out [] = refl
texts-left r f t out (x ∷ xs) = by (bytes_eq t x) refl (texts-left r f t out xs)
  where
    dropped : (o : Option ℕ) → IsLeftOut f o →
        filter f (filter_map r xs) ≡ filter f (cons_option o (filter_map r xs))
    dropped None its = refl
    dropped (Some n) its = sym (filter-none f n (filter_map r xs) its)

    added : (o : Option ℕ) →
        filter f (filter_map r (filter (other_text t) xs)) ≡ filter f (filter_map r xs) →
        filter f (cons_option o (filter_map r (filter (other_text t) xs))) ≡ filter f
        (cons_option o (filter_map r xs))
    added None ih = ih
    added (Some n) ih = ap (λ l. cond (f n) (n ∷ l) l) ih

    by : (b : Bool) → bytes_eq t x ≡ b →
        filter f (filter_map r (filter (other_text t) xs)) ≡ filter f (filter_map r xs) →
        filter f
        (filter_map r (cond (not b) (x ∷ filter (other_text t) xs) (filter (other_text t) xs)))
        ≡ filter f (filter_map r (x ∷ xs))
    by true is ih =
        ih ∙ dropped (r x) (subst (λ y. IsLeftOut f (r y)) ((bytes_eq-Decides t x).0 is) out)
    by false is ih = added (r x) ih

all-pass : (xs : List ℕ) → filter (λ n. true) xs ≡ xs
all-pass [] = refl
all-pass (x ∷ xs) = ap (λ l. x ∷ l) (all-pass xs)

-- texts that stand once lead to the same numbers, each once
pub once-led : (r : Text → Option ℕ) (texts : List Text) →
    numbers_once (filter_map r (each_once texts)) ≡ numbers_once (filter_map r texts)
once-led r [] = refl
once-led r (t ∷ texts) = by (r t) refl (once-led r texts)
  where
    rest : List Text
    rest = filter (other_text t) (each_once texts)

    by : (o : Option ℕ) → r t ≡ o →
        numbers_once (filter_map r (each_once texts)) ≡ numbers_once (filter_map r texts) →
        numbers_once (cons_option o (filter_map r rest)) ≡ numbers_once
        (cons_option o (filter_map r texts))
    by None e ih =
        ap numbers_once
        (sym (all-pass (filter_map r rest))
        ∙ (texts-left r (λ n. true) t (subst (IsLeftOut (λ n. true)) (sym e) tt)
        (each_once texts)
        ∙ all-pass (filter_map r (each_once texts))))
        ∙ ih
    by (Some n) e ih = ap (λ l. n ∷ l) (
        filter-once (other_than n) (filter_map r rest)
        ∙ (ap numbers_once (texts-left r (other_than n) t (subst (IsLeftOut (other_than n)) (sym e) (not-other n)) (each_once texts))
        ∙ (sym (filter-once (other_than n) (filter_map r (each_once texts)))
        ∙ ap (filter (other_than n)) ih)))

-- ---- found
pub filter-members : {Has : ℕ → Type 0} (test : ℕ → Bool) (xs : List ℕ) →
    ((x : ℕ) → Contains xs x → IsTrue (test x) ↔ Has x) → Members Has xs (filter test xs)
filter-members test [] says = nothing
filter-members {Has = Has} test (x ∷ xs) says =
    by (test x) (says x (here x xs)) (filter-members test xs (λ y c. says y (later x xs y c)))
  where
    by : (t : Bool) → (IsTrue t ↔ Has x) → Members Has xs (filter test xs) →
        Members Has (x ∷ xs) (cond t (x ∷ filter test xs) (filter test xs))
    by true its more = kept (its.0 refl) more
    by false its more = left {xs = xs} {ys = filter test xs} (λ h. false≢true (its.1 h)) more

module _ (p : Program) (m : ℕ) (test : ℕ → Bool) (says : (c : ℕ) → IsTrue (test c) ↔ IsCommonJs p c)
  where
    abbrev declared : List Text
    declared = declared_requests (tree_of p m)

    -- where the declarations of the module lead
    abbrev led : List ℕ
    led = filter_map (resolves p m) (declared_requests (tree_of p m))

    abbrev inside : Text → Bool
    inside s = not (has_text s p.settings.external)

    abbrev called : List Text
    called =
        map (λ call. call.specifier) (linked_calls p.settings (is_free (tree_of p m)) (tree_of p m))

    -- a declaration leads there, and it is CommonJS
    abbrev is_taken : ℕ → Bool
    is_taken n = test n && list_any (nat_eq n) led

    led-inside : (texts : List Text) →
        filter_map (resolves p m) (filter inside texts) ≡ filter_map (resolves p m) texts
    led-inside [] = refl
    led-inside (s ∷ texts) = by (is_external p s) refl (led-inside texts)
      where
        by : (t : Bool) → is_external p s ≡ t →
            filter_map (resolves p m) (filter inside texts) ≡ filter_map (resolves p m) texts →
            filter_map (resolves p m) (cond (not t) (s ∷ filter inside texts) (filter inside texts)) ≡
            cons_option (if t then None else p.leads m s) (filter_map (resolves p m) texts)
        by true e ih = ih
        by false e ih =
            ap
            (λ t. cons_option (if t then None else p.leads m s)
            (filter_map (resolves p m) (filter inside texts))) e
            ∙ ap (cons_option (p.leads m s)) ih

    asks-taken : (n : ℕ) → IsTrue (is_taken n) ↔ AsksCommonJs p m n
    asks-taken n = (
      λ t. (
          let both = and_parts (test n) (list_any (nat_eq n) led) t in
          let r = some_back (resolves p m) declared n (Contains-place led n (place-in led n both.1)) in
          record { specifier = r.0; asks = r.1; resolved = r.2; common_js = (says n).0 both.0 }),
      λ its. and_from (test n) (list_any (nat_eq n) led) ((says n).1 its.common_js)
          (found led n
          (place-contains led n
          (some_on (resolves p m) declared its.specifier n its.asks its.resolved))),
    )

    of-led : filter is_taken led ≡ filter test led
    of-led = filter-same is_taken test led (λ n c. by (test n) (found led n (place-contains led n c)))
      where
        by : (t : Bool) {u : Bool} → u ≡ true → (t && u) ≡ t
        by true e = e
        by false e = refl

    requested-taken : filter is_taken (requested p m) ≡ taken_modules p m test
    requested-taken =
        ap (filter is_taken)
        (once-led (resolves p m) (filter inside declared ++ called)
        ∙ ap numbers_once
        (filter_map-append (resolves p m) (filter inside declared) called
        ∙ ap (λ l. l ++ filter_map (resolves p m) called) (led-inside declared)))
        ∙ (filter-once is_taken (led ++ filter_map (resolves p m) called)
        ∙ (ap numbers_once (filter-append is_taken led (filter_map (resolves p m) called) ∙ ap (λ l. l ++ filter is_taken (filter_map (resolves p m) called)) of-led)
        ∙ once-behind (filter is_taken (filter_map (resolves p m) called)) (filter test led) (λ n c.
        let both =
        and_parts (test n) (list_any (nat_eq n) led)
        (passes is_taken (filter_map (resolves p m) called) n c) in
        filter_on test led n (Contains-place led n (place-in led n both.1)) both.0)))

    -- the CommonJS modules to which declarations lead, each once in their order, are what the module
    -- loads, in the order of its requests
    pub loads-found : Members (AsksCommonJs p m) (requested p m) (taken_modules p m test)
    loads-found =
        subst (Members (AsksCommonJs p m) (requested p m)) requested-taken
        (filter-members is_taken (requested p m) (λ n c. asks-taken n))

-- ---- order

-- what stands at a place of a list that ends in n
record Split (xs before : List ℕ) (n x : ℕ) (after : List ℕ) : Type 0 where
  rest : List ℕ
  whole : xs ≡ before ++ x ∷ rest
  more : after ≡ rest ++ n ∷ []

empty-none : (before : List ℕ) (x : ℕ) (after : List ℕ) → [] ≡ before ++ x ∷ after → ⊥
empty-none [] x after e = cc
empty-none (c ∷ before) x after e = cc

cut : (xs : List ℕ) (n : ℕ) (before : List ℕ) (x : ℕ) (after : List ℕ) →
    xs ++ n ∷ [] ≡ before ++ x ∷ after →
    Split xs before n x after ⊎ ((before ≡ xs) × (x ≡ n) × (after ≡ []))
cut [] n [] x after e = let one : x ≡ n = cc in let none : after ≡ [] = cc in inr (refl, one, none)
cut [] n (c ∷ before) x after e =
    let none : [] ≡ before ++ x ∷ after = cc in absurd (empty-none before x after none)
cut (a ∷ xs) n [] x after e =
    let one : a ≡ x = cc in
    let more : after ≡ xs ++ n ∷ [] = cc in
    inl (record { rest = xs; whole = ap (λ (k : ℕ). k ∷ xs) one; more = more })
cut (a ∷ xs) n (c ∷ before) x after e = let one : a ≡ c = cc in let more : xs ++ n ∷ [] ≡ before ++ x ∷ after = cc in elim (cut xs n before x after more) [
  | inl s ↦ inl
      (record {
        rest = s.rest;
        whole = ap (λ (k : ℕ). k ∷ xs) one ∙ ap (λ (l : List ℕ). c ∷ l) s.whole;
        more = s.more;
      })
  | inr t ↦ inr (ap (λ (k : ℕ). k ∷ before) (sym one) ∙ ap (λ (l : List ℕ). a ∷ l) t.0, t.1, t.2)
]

-- an element moved from the front of one list to the end of another
moved : (begun before : List ℕ) (n y : ℕ) → Contains (n ∷ (begun ++ before)) y →
    Contains (begun ++ (before ++ n ∷ [])) y
moved begun before n y c = subst (λ (l : List ℕ). Contains l y) (append_assoc begun before (n ∷ [])) (elim (Contains-cons_cases (begun ++ before) n y c) [
  | inl e ↦ subst (λ k. Contains ((begun ++ before) ++ n ∷ []) k) e
      (Contains-push (begun ++ before) n)
  | inr d ↦ Contains-append_left (begun ++ before) (n ∷ []) y d
])

module _ (r : ℕ → List ℕ) where
  abbrev Asks : ℕ → ℕ → Type 0
  Asks a b = Contains (r a) b

  -- x and v reach each other
  pub record Meets (x v : ℕ) : Type 0 where
    pub there : Reaches Asks x v
    pub back : Reaches Asks v x

  -- what x reaches stands up to x, or x meets what is begun or stands later
  abbrev pub IsSettled : (begun before : List ℕ) (x : ℕ) (after : List ℕ) → Type 0
  IsSettled begun before x after =
      (y : ℕ) → Reaches Asks x y → Contains (before ++ x ∷ []) y ⊎
      ((v : ℕ) × Contains (after ++ begun) v × Meets x v)

  -- the same of each that is done
  abbrev pub AreSettled : (begun done : List ℕ) → Type 0
  AreSettled begun done =
      (before : List ℕ) (x : ℕ) (after : List ℕ) → done ≡ before ++ x ∷ after → IsSettled begun
      before x after

  -- each that is begun reaches each that is to be listed
  abbrev pub Lead : (begun todo : List ℕ) → Type 0
  Lead begun todo = (b t : ℕ) → Contains begun b → Contains todo t → Reaches Asks b t

  -- a walk from what is done or just begun stays there, or comes to what was begun before
  leaves : (begun done : List ℕ) (n : ℕ) → IsClosedUnder r (n ∷ begun) done →
      ((y : ℕ) → Contains (r n) y → Contains (n ∷ (begun ++ done)) y) → {x y : ℕ} →
      Reaches Asks x y → Contains (done ++ n ∷ []) x →
      Contains (done ++ n ∷ []) y ⊎ ((v : ℕ) × Contains begun v × Reaches Asks x v)
  leaves begun done n closed own itself c = inl c
  leaves begun done n closed own {x} {y} (along {b} e w) c =
      step (next (Contains-push_cases done n x c)) (λ d. leaves begun done n closed own w d)
    where
      next : Contains done x ⊎ (n ≡ x) → Contains (n ∷ (begun ++ done)) b
      next (inl d) = closed x b d e
      next (inr same) = own b (subst (λ k. Contains (r k) b) (sym same) e)

      more : Contains (done ++ n ∷ []) y ⊎ ((v : ℕ) × Contains begun v × Reaches Asks b v) →
          Contains (done ++ n ∷ []) y ⊎ ((v : ℕ) × Contains begun v × Reaches Asks x v)
      more (inl d) = inl d
      more (inr v) = inr (v.0, v.1, along e v.2)

      step : Contains (n ∷ (begun ++ done)) b →
          (Contains (done ++ n ∷ []) b → Contains (done ++ n ∷ []) y ⊎
          ((v : ℕ) × Contains begun v × Reaches Asks b v)) →
          Contains (done ++ n ∷ []) y ⊎ ((v : ℕ) × Contains begun v × Reaches Asks x v)
      step d go = elim (Contains-cons_cases (begun ++ done) n b d) [
        | inl same ↦ more
            (go (subst (λ k. Contains (done ++ n ∷ []) k) same (Contains-push done n)))
        | inr f ↦ elim (Contains-append_cases begun done b f) [
          | inl g ↦ inr (b, g, along e itself)
          | inr h ↦ more (go (Contains-append_left done (n ∷ []) b h))
        ]
      ]

  pub settled : {begun done todo all : List ℕ} → Lists r begun done todo all →
      IsClosedUnder r begun done → Lead begun todo → AreSettled begun done → AreSettled begun all
  settled finished closed lead so_far = so_far
  settled (passed {begun} {done} {todo} {all} {n} c p) closed lead so_far =
      settled p closed (λ b t h k. lead b t h (Contains-tail todo n t k)) so_far
  settled (listed {begun} {done} {before} {todo} {all} {n} void a p) closed lead so_far =
      settled p closed_then (λ b t h k. lead b t h (Contains-tail todo n t k))
      (onward (settled a closed_in lead_in so_far_in))
    where
      closed_in : IsClosedUnder r (n ∷ begun) done
      closed_in x y c e = Contains-tail (begun ++ done) n y (closed x y c e)

      lead_in : Lead (n ∷ begun) (r n)
      lead_in b t h k = elim (Contains-cons_cases begun n b h) [
        | inl same ↦ subst (λ z. Reaches Asks z t) same (along k itself)
        | inr d ↦ Reaches-trans (lead b n d (Contains-head todo n)) (along k itself)
      ]

      so_far_in : AreSettled (n ∷ begun) done
      so_far_in front x after e y w = elim (so_far front x after e y w) [
        | inl d ↦ inl d
        | inr v ↦ inr (
          v.0,
          elim (Contains-append_cases after begun v.0 v.1) [
            | inl g ↦ Contains-append_left after (n ∷ begun) v.0 g
            | inr g ↦ Contains-append_right after (n ∷ begun) v.0 (Contains-tail begun n v.0 g)
          ],
          v.2,
        )
      ]

      closed_out : IsClosedUnder r (n ∷ begun) before
      closed_out = Lists-closed a closed_in

      own : (y : ℕ) → Contains (r n) y → Contains (n ∷ (begun ++ before)) y
      own y c = Lists-takes a y c

      closed_then : IsClosedUnder r begun (before ++ n ∷ [])
      closed_then x y c e = moved begun before n y (elim (Contains-push_cases before n x c) [
        | inl d ↦ closed_out x y d e
        | inr same ↦ own y (subst (λ k. Contains (r k) y) (sym same) e)
      ])

      at_end : (y : ℕ) → Reaches Asks n y →
          Contains (before ++ n ∷ []) y ⊎ ((v : ℕ) × Contains ([] ++ begun) v × Meets n v)
      at_end y w = elim (leaves begun before n closed_out own w (Contains-push before n)) [
        | inl d ↦ inl d
        | inr v ↦ inr
            (v.0, v.1, record { there = v.2; back = lead v.0 n v.1 (Contains-head todo n) })
      ]

      shift : (rest after : List ℕ) (v : ℕ) → after ≡ rest ++ n ∷ [] →
          Contains (rest ++ n ∷ begun) v → Contains (after ++ begun) v
      shift rest after v e c =
          subst (λ (l : List ℕ). Contains (l ++ begun) v) (sym e)
          (subst (λ (l : List ℕ). Contains l v) (sym (append_assoc rest (n ∷ []) begun)) c)

      onward : AreSettled (n ∷ begun) before → AreSettled begun (before ++ n ∷ [])
      onward inner front x after e y w = elim (cut before n front x after e) [
        | inl s ↦ elim (inner front x s.rest s.whole y w) [
          | inl d ↦ inl d
          | inr v ↦ inr (v.0, shift s.rest after v.0 s.more v.1, v.2)
        ]
        | inr t ↦
            subst
            (λ (l : List ℕ). Contains (l ++ x ∷ []) y ⊎
            ((v : ℕ) × Contains (after ++ begun) v × Meets x v)) (sym t.0)
            (subst (λ (l : List ℕ). Contains (before ++ x ∷ []) y ⊎ ((v : ℕ) × Contains (l ++ begun) v × Meets x v)) (sym t.2)
            (subst (λ k. Contains (before ++ k ∷ []) y ⊎ ((v : ℕ) × Contains ([] ++ begun) v × Meets k v)) (sym t.1)
            (at_end y (subst (λ k. Reaches Asks k y) t.1 w))))
      ]

-- ---- blocks
pub in_some : (blocks : List (List ℕ)) (i : ℕ) (block : List ℕ) (n : ℕ) →
    slice_get blocks i ≡ Some block → Contains block n → InSome blocks n
in_some [] i block n e c = absurd (none-some block e)
in_some (one ∷ blocks) zero block n e c =
    inl (subst (λ (l : List ℕ). Contains l n) (sym (same_Some one block e)) c)
in_some (one ∷ blocks) (suc i) block n e c = inr (in_some blocks i block n e c)

pub shares-flip : (p : Program) (a b : ℕ) → SharesBlock p a b → SharesBlock p b a
shares-flip p a b s = (s.1, s.0, λ e. sym (s.2 e))

pub shares-join : (p : Program) (a b c : ℕ) → SharesBlock p a b → SharesBlock p b c →
    SharesBlock p a c
shares-join p a b c s t =
    (Reaches-trans s.0 t.0, Reaches-trans t.1 s.1, λ e. s.2 e ∙ t.2 e)

-- no element of a list stands before it as well
apart : (before : List ℕ) (x : ℕ) (rest : List ℕ) (y : ℕ) → IsOnce (before ++ x ∷ rest) →
    Contains (before ++ x ∷ []) y → Contains rest y → ⊥
apart [] x rest y once c d = elim (Contains-cons_cases [] x y c) [
  | inl same ↦ once.0 (subst (λ k. Contains rest k) (sym same) d)
  | inr none ↦ nothing_in none
]
apart (a ∷ before) x rest y once c d = elim (Contains-cons_cases (before ++ x ∷ []) a y c) [
  | inl same ↦ once.0
      (subst (λ k. Contains (before ++ x ∷ rest) k) (sym same)
      (Contains-append_right before (x ∷ rest) y (Contains-tail rest x y d)))
  | inr more ↦ apart before x rest y once.1 more d
]

module _ (p : Program) (by_needs : p.settings.in_standard_order ≡ false) (list : List ℕ)
    (all : AreSettled (requested p) [] list) (once : IsOnce list) where
  follow : (before rest : List ℕ) (blocks : List (List ℕ)) → list ≡ before ++ rest →
      BlocksOf (SharesBlock p) list rest blocks → FollowsRequests p blocks
  follow before rest [] whole b i j m n block other at its c d asks = absurd (none-some block at)
  follow before [] (first ∷ blocks) whole b i j m n block other at its c d asks = elim b [ ]
  follow before (x ∷ rest) (first ∷ blocks) whole (ends own none members b) zero zero m n block other at its c d asks = inr refl
  follow before (x ∷ rest) (first ∷ blocks) whole (ends own none members b) (suc i) zero m n block other at its c d asks = inl (omega arith)
  follow before (x ∷ rest) (first ∷ blocks) whole (ends own none members b) (suc i) (suc j) m n
      block other at its c d asks =
      elim (follow (before ++ x ∷ []) rest blocks (whole ∙ sym (append_assoc before (x ∷ []) rest)) b i j m n block other at its c d asks) [
        | inl less ↦ inl (omega (arith, less))
        | inr same ↦ inr (ap suc same)
      ]
  follow before (x ∷ rest) (first ∷ blocks) whole (ends own none members b) zero (suc j) m n block
      other at its c d asks =
      let here =
      (Members-in list first members m (subst (λ (l : List ℕ). Contains l m) (sym (same_Some first block at)) c)).1 in
      let last =
      blocks-in (SharesBlock p) (shares-flip p) (shares-join p) list rest blocks b n
      (in_some blocks j other n its d) in
      let walk : Reaches (Requests p) x last.0 = Reaches-trans here.0 (along asks last.3.1) in
      absurd (elim (all before x rest whole last.0 walk) [
        | inl early ↦ apart before x rest last.0 (subst IsOnce whole once) early last.1
        | inr v ↦ none v.0 (subst (λ (l : List ℕ). Contains l v.0) (append-nil rest) v.1)
            (v.2.there, v.2.back, λ e. absurd (false≢true (sym by_needs ∙ e)))
      ])
  follow before (x ∷ rest) (first ∷ blocks) whole (goes_on why b) i j m n block other at its c d
      asks =
      follow (before ++ x ∷ []) rest (first ∷ blocks)
      (whole ∙ sym (append_assoc before (x ∷ []) rest)) b i j m n block other at its c d asks

-- the list of a program is settled
pub list-settled : (p : Program) (list : List ℕ) → IsList p list → AreSettled (requested p) [] list
list-settled p list is =
    settled (requested p) is (λ x y c e. absurd (nothing_in c)) (λ b t c d. absurd (nothing_in c))
    (λ before x after e. absurd (empty-none before x after e))

-- a block stands after each other block that one of its modules requests
pub blocks-follow : (p : Program) (list : List ℕ) → IsList p list → IsOnce list →
    (blocks : List (List ℕ)) → AreBlocks p list blocks →
    p.settings.in_standard_order ≡ false → FollowsRequests p blocks
blocks-follow p list is once blocks b by_needs =
    follow p by_needs list (list-settled p list is) once [] list blocks refl b

-- where the standard's order is asked for, each module of a list is a block of its own
module _ (p : Program) (asked : p.settings.in_standard_order ≡ true) where
  none-shares : (x : ℕ) (xs : List ℕ) → (Contains xs x → ⊥) → Members (SharesBlock p x) xs []
  none-shares x [] out = nothing
  none-shares x (y ∷ xs) out =
      left
      (λ both. out (subst (λ k. Contains (y ∷ xs) k) (sym (both.2 asked)) (Contains-head xs y)))
      (none-shares x xs (λ c. out (Contains-tail xs y x c)))

  shares-alone : (x : ℕ) (xs : List ℕ) → IsOnce xs → Contains xs x →
      Members (SharesBlock p x) xs (x ∷ [])
  shares-alone x [] once c = absurd (nothing_in c)
  shares-alone x (y ∷ xs) once c =
      by (λ d. shares-alone x xs once.1 d) (Contains-cons_cases xs y x c)
    where
      by : (Contains xs x → Members (SharesBlock p x) xs (x ∷ [])) → (y ≡ x) ⊎ Contains xs x →
          Members (SharesBlock p x) (y ∷ xs) (x ∷ [])
      by on (inl same) =
          subst (λ k. Members (SharesBlock p x) (k ∷ xs) (x ∷ [])) (sym same)
          (kept (itself, itself, λ e. refl)
          (none-shares x xs (λ d. once.0 (subst (Contains xs) (sym same) d))))
      by on (inr d) = left (λ both. once.0 (subst (Contains xs) (both.2 asked) d)) (on d)

  rest-alone : (list rest : List ℕ) → IsOnce list → IsOnce rest →
      ((m : ℕ) → Contains rest m → Contains list m) →
      BlocksOf (SharesBlock p) list rest (map (λ m. m ∷ []) rest)
  rest-alone list [] all once within = over
  rest-alone list (x ∷ rest) all once within =
      ends (itself, itself, λ e. refl)
      (λ y there both. once.0 (subst (Contains rest) (sym (both.2 asked)) there))
      (shares-alone x list all (within x (Contains-head rest x)))
      (rest-alone list rest all once.1 (λ m c. within m (Contains-tail rest x m c)))

  pub blocks-alone : (list : List ℕ) → IsOnce list → AreBlocks p list (map (λ m. m ∷ []) list)
  blocks-alone list once = rest-alone list list once once (λ m c. c)

-- ---- script
asks-by : (head : Head) (item : List Item) (s : Text) → Contains (requests_by head item) s →
    is_module_declaration head ≡ true
asks-by (in_item.ImportDecl meta) item s c = refl
asks-by (in_item.NamedExport meta) item s c = refl
asks-by (in_item.ExportAll meta) item s c = refl
asks-by _ item s c = absurd (no_element c)

asks-declared : (item : List Item) (s : Text) → Contains (requests_of_item item) s →
    begins_with is_module_declaration item ≡ true
asks-declared (in_item.Open field head ∷ rest) s c = asks-by head (in_item.Open field head ∷ rest) s c
asks-declared _ s c = absurd (no_element c)

some-declared : (tops : List TopItem) (top : TopItem) → Contains tops top →
    begins_with is_module_declaration top.items ≡ true →
    list_any (λ (top : TopItem). begins_with is_module_declaration top.items) tops ≡ true
some-declared [] top c e = absurd (no_element c)
some-declared (first ∷ tops) top c e =
    by (begins_with is_module_declaration first.items) refl (first_or_later first tops top c)
    (λ k. some-declared tops top k e)
  where
    by : (t : Bool) → begins_with is_module_declaration first.items ≡ t →
        (first ≡ top) ⊎ Contains tops top →
        (Contains tops top → list_any
        (λ (top : TopItem). begins_with is_module_declaration top.items) tops ≡ true) →
        (t || list_any (λ (top : TopItem). begins_with is_module_declaration top.items) tops) ≡ true
    by true is c ih = refl
    by false is (inl same) ih =
        absurd
        (false≢true
        (sym is
        ∙ ap (λ (top : TopItem). begins_with is_module_declaration top.items) same
        ∙ e))
    by false is (inr k) ih = ih k

not-both : (b : Bool) → b ≡ true → not b ≡ true → ⊥
not-both true e f = false≢true f
not-both false e f = false≢true e

-- a CommonJS module asks for nothing by declarations
pub script-asks : (p : Program) (m : ℕ) → IsCommonJs p m → (s : Text) →
    Contains (declared_requests (tree_of p m)) s → ⊥
script-asks p m cjs s c =
    let r =
    flat_back (λ (top : TopItem). requests_of_item top.items) (top_items (tree_of p m)) s c in
    not-both
    (list_any (λ (top : TopItem). begins_with is_module_declaration top.items)
    (top_items (tree_of p m)))
    (some-declared (top_items (tree_of p m)) r.0 r.1 (asks-declared r.0.items s r.2))
    (and_parts _ _ cjs.script).0
