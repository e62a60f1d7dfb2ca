-- What a plan in the standard's order says: modules stand one after the other as they are listed, each in its own order;
-- there is one such plan; and for one module alone it is the layout that it has anyway. And where items are settled, so
-- that none is moved.
use Rattle.std.proofs.Common.{◌≡◌, ◌↔◌, ℕ, zero, suc, ◌+◌, ◌<◌, ◌≤◌, ◌⊎◌, true, false, List, [], ◌∷◌, ◌++◌, Option, Some, None, Contains, length, map, get_or, slice_get, refl, sym, ap, ◌∙◌, subst, inl, inr, arith}
use Rattle.std.specs.List.{flat_map}
use Rattle.std.proofs.lemmas.Bool.{cases_lt, false≢true}
use Rattle.std.proofs.lemmas.List.{append-nil, get_or_default}
use Rattle.std.proofs.lemmas.List.Elements.{Contains-get_or}
use Rattle.std.proofs.lemmas.Option.{same_Some, slice_get-get_or}
use Rattle.bundle_syntax.specs.Item.{Item}
use Rattle.bundle_order_graph.specs.Walks.{Reaches, itself, along, Path, IsSettled}
use Rattle.bundle_rules.specs.Declarations.{Reading}
use Rattle.bundle_rules.specs.Statements.{own_statements}
use Rattle.bundle_rules.specs.Program.{Program, IsList, Requests, requested, tree_of}
use Rattle.bundle_rules.specs.Order.{Group, Step, StandsBefore, IsGoodOrder}
use Rattle.bundle_rules.specs.Bundle.{Cause, Own, ImportsNames, ImportsWhole, ImportsNothing, Helps, Defines, Loads, HoldsMeta, HoldsNamespace, Stars, Exports, Form, IsDue, Chosen, nothing, chosen, left, counted, module_causes, Pairing, IsBlockLaidOut, IsLaidOut, lone, cycle}
use Rattle.bundle_rules.specs.Headline.{IsAcyclic, causes_in_order}
use Rattle.bundle_rules.proofs.PostOrder.{stands_in_post_order}

-- Places in a list.

-- a list has y
pub data In {A : Type 0} (y : A) : List A → Type 0 where
  first : {xs : List A} → In y (y ∷ xs)
  later : {z : A} {xs : List A} → In y xs → In y (z ∷ xs)

-- a list has x, and y behind it
pub data Before {A : Type 0} (x y : A) : List A → Type 0 where
  starts : {xs : List A} → In y xs → Before x y (x ∷ xs)
  goes_on : {z : A} {xs : List A} → Before x y xs → Before x y (z ∷ xs)

-- no element stands twice
abbrev pub StandsOnce : {A : Type 0} → List A → Type 0
StandsOnce {A} xs = (x : A) → Before x x xs → ⊥

none_in : {A : Type 0} {y : A} → In y [] → ⊥
none_in i = elim i [ ]

none_before : {A : Type 0} {x y : A} → Before x y [] → ⊥
none_before b = elim b [ ]

alone : {A : Type 0} {x y z : A} → Before x y (z ∷ []) → ⊥
alone (starts i) = none_in i
alone (goes_on b) = none_before b

second_in : {A : Type 0} {x y : A} {xs : List A} → Before x y xs → In y xs
second_in (starts i) = later i
second_in (goes_on b) = later (second_in b)

first_in : {A : Type 0} {x y : A} {xs : List A} → Before x y xs → In x xs
first_in (starts i) = first
first_in (goes_on b) = later (first_in b)

-- two that stand before each other stand twice
turned : {A : Type 0} {x y : A} {xs : List A} → Before x y xs → Before y x xs → Before x x xs ⊎ Before y y xs
turned (starts i) (starts j) = inl (starts j)
turned (starts i) (goes_on c) = inl (starts (second_in c))
turned (goes_on b) (starts j) = inr (starts (second_in b))
turned (goes_on b) (goes_on c) = elim (turned b c) [ inl s ↦ inl (goes_on s) | inr s ↦ inr (goes_on s) ]

in_append : {A : Type 0} {y : A} (xs ys : List A) → In y (xs ++ ys) → In y xs ⊎ In y ys
in_append [] ys i = inr i
in_append (x ∷ xs) ys first = inl first
in_append (x ∷ xs) ys (later i) = elim (in_append xs ys i) [ inl l ↦ inl (later l) | inr r ↦ inr r ]

-- two of joined lists
pub data Joined {A : Type 0} (x y : A) (xs ys : List A) : Type 0 where
  in_first : Before x y xs → Joined x y xs ys
  across : In x xs → In y ys → Joined x y xs ys
  in_second : Before x y ys → Joined x y xs ys

joined_more : {A : Type 0} {x y z : A} {xs ys : List A} → Joined x y xs ys → Joined x y (z ∷ xs) ys
joined_more (in_first f) = in_first (goes_on f)
joined_more (across i j) = across (later i) j
joined_more (in_second s) = in_second s

before_append : {A : Type 0} {x y : A} (xs ys : List A) → Before x y (xs ++ ys) → Joined x y xs ys
before_append [] ys b = in_second b
before_append (x ∷ xs) ys (starts i) = elim (in_append xs ys i) [ inl l ↦ in_first (starts l) | inr r ↦ across first r ]
before_append (z ∷ xs) ys (goes_on b) = joined_more (before_append xs ys b)

in_flat : {A B : Type 0} {y : B} (f : A → List B) (ms : List A) → In y (flat_map f ms) → (m : A) × In m ms × In y (f m)
in_flat f [] i = elim i [ ]
in_flat f (m ∷ ms) i = elim (in_append (f m) (flat_map f ms) i) [
  | inl l ↦ (m, first, l)
  | inr r ↦ let more = in_flat f ms r in (more.0, later more.1, more.2)
]

-- two of what is made of the elements of a list: of one element, or of two in their order
pub data Made {A B : Type 0} (f : A → List B) (ms : List A) (x y : B) : Type 0 where
  of_one : (m : A) → In m ms → Before x y (f m) → Made f ms x y
  of_two : (m n : A) → Before m n ms → In x (f m) → In y (f n) → Made f ms x y

made_more : {A B : Type 0} {x y : B} (f : A → List B) {m : A} {ms : List A} → Made f ms x y → Made f (m ∷ ms) x y
made_more f (of_one n i its) = of_one n (later i) its
made_more f (of_two n k its i j) = of_two n k (goes_on its) i j

before_flat : {A B : Type 0} {x y : B} (f : A → List B) (ms : List A) → Before x y (flat_map f ms) → Made f ms x y
before_flat f [] b = elim b [ ]
before_flat f (m ∷ ms) b = elim (before_append (f m) (flat_map f ms) b) [
  | in_first its ↦ of_one m first its
  | across i j ↦ let n = in_flat f ms j in of_two m n.0 (starts n.1) i n.2
  | in_second its ↦ made_more f (before_flat f ms its)
]

-- What is chosen of a list.

module _ (Has : Cause → Type 0) where
  chosen_in : {y : Cause} {xs ys : List Cause} → Chosen Has xs ys → In y ys → In y xs
  chosen_in {y = y} nothing i = elim i [ ]
  chosen_in (chosen its c) first = first
  chosen_in (chosen its c) (later i) = later (chosen_in c i)
  chosen_in (left its c) i = later (chosen_in c i)

  -- it keeps the order of the list
  pub chosen_before : {x y : Cause} {xs ys : List Cause} → Chosen Has xs ys → Before x y ys → Before x y xs
  chosen_before {y = y} nothing b = elim b [ ]
  chosen_before (chosen its c) (starts i) = starts (chosen_in c i)
  chosen_before (chosen its c) (goes_on b) = goes_on (chosen_before c b)
  chosen_before (left its c) b = goes_on (chosen_before c b)

  -- and it is the only choice
  pub chosen_one : {xs ys zs : List Cause} → Chosen Has xs ys → Chosen Has xs zs → ys ≡ zs
  chosen_one nothing nothing = refl
  chosen_one (chosen {x} its c) (chosen same d) = ap (λ (l : List Cause). x ∷ l) (chosen_one c d)
  chosen_one (chosen its c) (left void d) = absurd (void its)
  chosen_one (left void c) (chosen its d) = absurd (void its)
  chosen_one (left void c) (left same d) = chosen_one c d

-- The module that a cause is of, free items too.

abbrev pub home_of : Cause → Option ℕ
home_of (Own m k) = Some m
home_of (Defines m) = Some m
home_of (Loads m c) = Some m
home_of (HoldsMeta m) = Some m
home_of (HoldsNamespace m) = Some m
home_of _ = None

-- what may stand for a module, and then its free item
abbrev pub whole_causes : Program → ℕ → List Cause
whole_causes p m = module_causes p m ++ HoldsNamespace m ∷ []

-- what may stand for modules, one after the other
abbrev pub standard_causes : Program → List ℕ → List Cause
standard_causes p members = flat_map (whole_causes p) members

module _ (p : Program) (m : ℕ) where
  home_map : {X : Type 0} (f : X → Cause) → ((x : X) → home_of (f x) ≡ Some m) → (xs : List X) {c : Cause} → In c (map f xs) → home_of c ≡ Some m
  home_map f all [] i = elim i [ ]
  home_map f all (x ∷ xs) first = all x
  home_map f all (x ∷ xs) (later i) = home_map f all xs i

  home_own : {c : Cause} → In c (map (Loads m) (requested p m) ++ map (Own m) (counted zero (own_statements (tree_of p m)))) → home_of c ≡ Some m
  home_own i = elim (in_append (map (Loads m) (requested p m)) (map (Own m) (counted zero (own_statements (tree_of p m)))) i) [
    | inl l ↦ home_map (Loads m) (λ c. refl) (requested p m) l
    | inr r ↦ home_map (Own m) (λ k. refl) (counted zero (own_statements (tree_of p m))) r
  ]

  home_module : {c : Cause} → In c (module_causes p m) → home_of c ≡ Some m
  home_module first = refl
  home_module (later first) = refl
  home_module (later (later i)) = home_own i

  home_single : {c : Cause} → In c (HoldsNamespace m ∷ []) → home_of c ≡ Some m
  home_single first = refl
  home_single {c = c} (later i) = elim i [ ]

  pub home_whole : {c : Cause} → In c (whole_causes p m) → home_of c ≡ Some m
  home_whole i = elim (in_append (module_causes p m) (HoldsNamespace m ∷ []) i) [ inl l ↦ home_module l | inr r ↦ home_single r ]

-- statements stand in their order
abbrev number_of : Cause → ℕ
number_of (Own m k) = k
number_of _ = 0

counted_from : {X : Type 0} (n : ℕ) (xs : List X) {k : ℕ} → In k (counted n xs) → (k ≡ n) ⊎ (n < k)
counted_from n [] i = elim i [ ]
counted_from n (x ∷ xs) first = inl refl
counted_from n (x ∷ xs) (later i) = elim (counted_from (suc n) xs i) [ inl e ↦ inr (omega (arith, e)) | inr l ↦ inr (omega (arith, l)) ]

counted_rises : {X : Type 0} (n : ℕ) (xs : List X) {j k : ℕ} → Before j k (counted n xs) → j < k
counted_rises n [] b = elim b [ ]
counted_rises n (x ∷ xs) (starts i) = elim (counted_from (suc n) xs i) [ inl e ↦ omega (arith, e) | inr l ↦ omega (arith, l) ]
counted_rises n (x ∷ xs) (goes_on b) = counted_rises (suc n) xs b

own_in : (m : ℕ) (xs : List ℕ) {y : Cause} → In y (map (Own m) xs) → In (number_of y) xs
own_in m [] i = elim i [ ]
own_in m (k ∷ xs) first = first
own_in m (k ∷ xs) (later i) = later (own_in m xs i)

own_before : (m : ℕ) (xs : List ℕ) {x y : Cause} → Before x y (map (Own m) xs) → Before (number_of x) (number_of y) xs
own_before m [] b = elim b [ ]
own_before m (k ∷ xs) (starts i) = starts (own_in m xs i)
own_before m (k ∷ xs) (goes_on b) = goes_on (own_before m xs b)

-- is an own statement
abbrev is_own : Cause → ℕ
is_own (Own m k) = 1
is_own _ = 0

module _ (p : Program) (m : ℕ) where
  loads_not : (xs : List ℕ) {c : Cause} → In c (map (Loads m) xs) → is_own c ≡ 0
  loads_not [] i = elim i [ ]
  loads_not (c ∷ xs) first = refl
  loads_not (c ∷ xs) (later i) = loads_not xs i

  statements_rise : {n l j k : ℕ} → Before (Own n j) (Own l k) (whole_causes p m) → j < k
  statements_rise (goes_on (goes_on b)) = in_order (before_append (map (Loads m) (requested p m) ++ owns) (HoldsNamespace m ∷ []) b)
    where
      owns : List Cause
      owns = map (Own m) (counted zero (own_statements (tree_of p m)))

      loaded : {n j : ℕ} → In (Own n j) (map (Loads m) (requested p m)) → ⊥
      loaded i = omega (arith, loads_not (requested p m) i)

      loads_before : {n l j k : ℕ} → Before (Own n j) (Own l k) (map (Loads m) (requested p m)) → ⊥
      loads_before b = loaded (first_in b)

      inner : {n l j k : ℕ} → Joined (Own n j) (Own l k) (map (Loads m) (requested p m)) (map (Own m) (counted zero (own_statements (tree_of p m)))) → j < k
      inner (in_first f) = absurd (loads_before f)
      inner (across i j) = absurd (loaded i)
      inner (in_second s) = counted_rises zero (own_statements (tree_of p m)) (own_before m (counted zero (own_statements (tree_of p m))) s)

      in_order : {n l j k : ℕ} → Joined (Own n j) (Own l k) (map (Loads m) (requested p m) ++ map (Own m) (counted zero (own_statements (tree_of p m)))) (HoldsNamespace m ∷ []) → j < k
      in_order (in_first f) = inner (before_append (map (Loads m) (requested p m)) (map (Own m) (counted zero (own_statements (tree_of p m)))) f)
      in_order (across i j) = absurd (omega (arith, single j))
        where
          single : {c : Cause} → In c (HoldsNamespace m ∷ []) → is_own c ≡ 0
          single first = refl
          single {c = c} (later i) = elim i [ ]
      in_order (in_second s) = absurd (alone s)

-- What is chosen of the causes of modules, one after the other.

module _ (p : Program) (members : List ℕ) (once : StandsOnce members) (form : Form) (plan : List Cause) (laid : Chosen (IsDue p form) (standard_causes p members) plan) where
  -- what of the plan stands before what: two of one module, in its own order, or two of modules that stand in the list in this order
  pub stands_as_listed : {x y : Cause} → Before x y plan → Made (whole_causes p) members x y
  stands_as_listed b = before_flat (whole_causes p) members (chosen_before (IsDue p form) laid b)

  same_home : {c : Cause} {m n : ℕ} → home_of c ≡ Some m → In c (whole_causes p n) → n ≡ m
  same_home {n} h i = same_Some n _ (sym (home_whole p n i) ∙ h)

  -- two of modules m and n, of which m stands before n or is n
  pub modules_in_order : {x y : Cause} {m n : ℕ} → Before x y plan → home_of x ≡ Some m → home_of y ≡ Some n → (m ≡ n) ⊎ Before m n members
  modules_in_order {x = x} {y = y} {m = m} {n = n} b hx hy = by (stands_as_listed b)
    where
      by : Made (whole_causes p) members x y → (m ≡ n) ⊎ Before m n members
      by (of_one k i its) = inl (sym (same_home hx (first_in its)) ∙ same_home hy (second_in its))
      by (of_two k l its i j) = inr (subst (λ a. Before a n members) (same_home hx i) (subst (λ a. Before k a members) (same_home hy j) its))

  -- a module's statements stand in its own order: none is turned round
  pub own_order : {m j k : ℕ} → Before (Own m j) (Own m k) plan → j < k
  own_order {m} {j} {k} b = by (stands_as_listed b)
    where
      by : Made (whole_causes p) members (Own m j) (Own m k) → j < k
      by (of_one n i its) = statements_rise p n its
      by (of_two n l its i i') = absurd (once m (subst (λ a. Before a m members) (same_home {c = Own m j} refl i) (subst (λ a. Before n a members) (same_home {c = Own m k} refl i') its)))

  -- a module's items stand together: what stands between two of it is of it too
  pub stands_together : {x y z : Cause} {m n : ℕ} → Before x y plan → Before y z plan → home_of x ≡ Some m → home_of y ≡ Some n → home_of z ≡ Some m → n ≡ m
  stands_together {m = m} {n = n} b c hx hy hz = by (modules_in_order b hx hy) (modules_in_order c hy hz)
    where
      by : (m ≡ n) ⊎ Before m n members → (n ≡ m) ⊎ Before n m members → n ≡ m
      by (inl e) _ = sym e
      by (inr f) (inl e) = e
      by (inr f) (inr g) = elim (turned f g) [ inl t ↦ absurd (once m t) | inr t ↦ absurd (once n t) ]

-- there is one such plan
pub one_plan : (p : Program) (form : Form) (members : List ℕ) (one other : List Cause) → Chosen (IsDue p form) (standard_causes p members) one → Chosen (IsDue p form) (standard_causes p members) other → one ≡ other
one_plan p form members one other a b = chosen_one (IsDue p form) a b

-- a block of one module that does not request itself stands alike whatever is asked for
pub lone_either : (p : Program) (form : Form) (tree : List Item) (reading : Reading) (pairing : Pairing) (m : ℕ) (plan : List Cause) → (Requests p m m → ⊥) → Chosen (IsDue p form) (whole_causes p m) plan ↔ IsBlockLaidOut p form tree reading pairing (m ∷ []) plan
lone_either p form tree reading pairing m plan apart = (λ c. lone (λ e. apart) c, λ laid. back refl laid)
  where
    back : {members : List ℕ} → members ≡ m ∷ [] → IsBlockLaidOut p form tree reading pairing members plan → Chosen (IsDue p form) (whole_causes p m) plan
    back same (lone {m = n} its c) = subst (λ k. Chosen (IsDue p form) (whole_causes p k) plan) (head_same same) c
      where
        head_or : List ℕ → ℕ
        head_or [] = 0
        head_or (x ∷ xs) = x

        head_same : {a b : ℕ} → a ∷ [] ≡ b ∷ [] → a ≡ b
        head_same e = ap head_or e
    back same (cycle numbered items order not its picked stand good read) = absurd (apart (its m same))

-- The whole plan, where the standard's order is asked for, and where no modules reach each other.

module _ (p : Program) (form : Form) (reading : Reading) (tree : List Item) (pairing : Pairing) (list : List ℕ) (is_list : IsList p list) (its : IsLaidOut p form reading tree pairing) where
  pub ordered_where_asked : p.settings.in_standard_order ≡ true → Chosen (IsDue p form) (causes_in_order p list) pairing.plan
  ordered_where_asked asked = stands_in_post_order p form reading tree pairing list (inr asked) is_list its

  pub ordered_without_cycles : IsAcyclic p → Chosen (IsDue p form) (causes_in_order p list) pairing.plan
  ordered_without_cycles acyclic = stands_in_post_order p form reading tree pairing list (inl acyclic) is_list its

-- Settled items, for the order by needs.

-- where each step leads to a lower place, and places rise with the first so many numbers, these are settled: so it is wherever the list, each module with its free item, meets all needs
module _ (g : Group) (place : ℕ → ℕ) (falls : (s t : ℕ) → Step g s t → place t < place s) where
  falls_along : {s t : ℕ} → Reaches (Step g) s t → (place t < place s) ⊎ (s ≡ t)
  falls_along itself = inr refl
  falls_along (along {a} {b} {c} e r) = elim (falls_along r) [
    | inl l ↦ inl (omega (arith, falls a b e, l))
    | inr same ↦ inl (subst (λ x. place x < place a) same (falls a b e))
  ]

  falls_path : (s t : ℕ) → Path (Step g) s t → place t < place s
  falls_path s t w = elim (falls_along w.2) [
    | inl l ↦ omega (arith, falls s w.0 w.1, l)
    | inr same ↦ subst (λ x. place x < place s) same (falls s w.0 w.1)
  ]

  pub settled_by_places : (bound : ℕ) → ((s t : ℕ) → s < t → t < bound → place s < place t) → IsSettled (Step g) bound
  settled_by_places bound rises s t a b w = elim (cases_lt t s) [
    | inl l ↦ l
    | inr h ↦ elim (cases_lt s t) [
      | inl l ↦ absurd (omega (arith, rises s t l b, falls_path s t w))
      | inr k ↦ let same : s ≡ t = omega (arith, h, k) in absurd (omega (arith, ap place same, falls_path s t w))
    ]
  ]

-- where all items are settled, each stands at the place that is its number
module _ (g : Group) (order : List ℕ) (good : IsGoodOrder g order) (settled : IsSettled (Step g) (length g.items)) where
  below : (i : ℕ) → i < length order → get_or order i 0 < length g.items
  below i h = (good.order_of.all (get_or order i 0)).1 (Contains-get_or order i 0 h)

  rises : (i j : ℕ) → i < j → j < length order → get_or order i 0 < get_or order j 0
  rises i j h l = good.as_numbered (length g.items) (get_or order i 0) (get_or order j 0) (omega arith) settled (below i (omega (arith, h, l))) (below j l) (record {
    i = i;
    j = j;
    before = h;
    first = slice_get-get_or order i 0 (omega (arith, h, l));
    second = slice_get-get_or order j 0 l;
  })

  high : (i : ℕ) → i < length order → i ≤ get_or order i 0
  high zero h = omega arith
  high (suc i) h = omega (arith, high i (omega (arith, h)), rises i (suc i) (omega arith) h)

  at_itself : (fuel n : ℕ) → n < fuel → n < length g.items → (n < length order) × (get_or order n 0 ≡ n)
  at_itself zero n h l = absurd (omega (arith, h))
  at_itself (suc fuel) n h l = by (λ k a b. at_itself fuel k a b) (cases_lt c.0 n)
    where
      c : Contains order n
      c = (good.order_of.all n).0 l

      is : get_or order c.0 0 ≡ n
      is = get_or_default order c.0 0 n c.1 ∙ c.2

      by : ((k : ℕ) → k < fuel → k < length g.items → (k < length order) × (get_or order k 0 ≡ k)) → (c.0 < n) ⊎ (n ≤ c.0) → (n < length order) × (get_or order n 0 ≡ n)
      by on (inl low) = absurd (omega (arith, (on c.0 (omega (arith, low, h)) (omega (arith, low, l))).1, is, low))
      by on (inr k) = let same : c.0 ≡ n = omega (arith, k, high c.0 c.1, is) in (omega (arith, same, c.1), subst (λ i. get_or order i 0 ≡ n) same is)

  pub all_as_numbered : (n : ℕ) → n < length g.items → slice_get order n ≡ Some n
  all_as_numbered n h = let at = at_itself (n + 1) n (omega arith) h in slice_get-get_or order n 0 at.0 ∙ ap (λ k. Some k) at.1
