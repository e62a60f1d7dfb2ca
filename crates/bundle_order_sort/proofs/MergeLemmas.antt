-- Modules alone and cycles, in the order of the list, are the blocks of modules that reach each other.
use Rattle.std.proofs.Common.{◌≡◌, ◌≢◌, ℕ, ◌-◌, ◌<◌, ◌⊎◌, ◌||◌, Bool, true, false, nat_eq, cond, List, [], ◌∷◌, ◌++◌, Some, length, map, Contains, eqb-true, eq-eqb, refl, sym, ap, ◌∙◌, subst, inl, inr, arith}
use Rattle.std.specs.List.{list_any}
use Rattle.std.proofs.lemmas.Bool.{false≢true}
use Rattle.std.proofs.lemmas.List.{append_assoc, length_push, get_or_push}
use Rattle.std.proofs.lemmas.List.Elements.{Contains-append_right}
use Rattle.std.proofs.lemmas.Option.{slice_get-get_or}
use Rattle.bundle_order_graph.specs.Walks.{itself, along, Path}
use Rattle.bundle_order_graph.specs.Modules.{Modules, Requests}
use Rattle.bundle_order_graph.specs.Order.{IsOrder}
use Rattle.bundle_order_graph.specs.Blocks.{Members as MembersOf, SharesBlock, AreBlocks, BlocksOf, over, ends, goes_on}
use Rattle.bundle_order_graph.proofs.NodeLemmas.{place-in, Contains-place, found, place-contains}
use Rattle.bundle_order_graph.proofs.OrderLemmas.{Contains-head, Contains-tail, Contains-cons_cases}
use Rattle.bundle_order_sort.specs.Places.{ReachEachOther, is_list_end, is_in_some, is_it}
use Rattle.bundle_order_sort.specs.Merged.{MergedMembers, merged}
use Rattle.bundle_order_sort.proofs.OnceLemmas.{IsOnce, IsOnce-from_distinct, InSome, nothing_in, once-behind}
use Rattle.bundle_order_sort.proofs.BlockLemmas.{Members-has, Members-last, Members-one, Members-same, blocks-has, blocks-in, path-join, path-reaches, reaches-join, same-or-path}

-- ---- `merged`, by cases
module _ (is_on : ℕ → Bool) (m : ℕ) (list : List ℕ) where
  pub merged-alone : (cycles : List (List ℕ)) → is_on m ≡ false → merged is_on (m ∷ list) cycles ≡ (m ∷ [], false) ∷ merged is_on list cycles
  merged-alone [] e = ap (λ b. cond b (merged is_on list []) ((m ∷ [], false) ∷ merged is_on list [])) e
  merged-alone (cycle ∷ cycles) e = ap (λ b. cond b (cond (is_list_end m cycle) ((cycle, true) ∷ merged is_on list cycles) (merged is_on list (cycle ∷ cycles))) ((m ∷ [], false) ∷ merged is_on list (cycle ∷ cycles))) e

  pub merged-ends : (cycle : List ℕ) (cycles : List (List ℕ)) → is_on m ≡ true → is_list_end m cycle ≡ true → merged is_on (m ∷ list) (cycle ∷ cycles) ≡ (cycle, true) ∷ merged is_on list cycles
  merged-ends cycle cycles e f =
      ap (λ b. cond b (cond (is_list_end m cycle) ((cycle, true) ∷ merged is_on list cycles) (merged is_on list (cycle ∷ cycles))) ((m ∷ [], false) ∷ merged is_on list (cycle ∷ cycles))) e
      ∙ ap (λ b. cond b ((cycle, true) ∷ merged is_on list cycles) (merged is_on list (cycle ∷ cycles))) f

  pub merged-past : is_on m ≡ true → merged is_on (m ∷ list) [] ≡ merged is_on list []
  merged-past e = ap (λ b. cond b (merged is_on list []) ((m ∷ [], false) ∷ merged is_on list [])) e

  pub merged-goes : (cycle : List ℕ) (cycles : List (List ℕ)) → is_on m ≡ true → is_list_end m cycle ≡ false → merged is_on (m ∷ list) (cycle ∷ cycles) ≡ merged is_on list (cycle ∷ cycles)
  merged-goes cycle cycles e f =
      ap (λ b. cond b (cond (is_list_end m cycle) ((cycle, true) ∷ merged is_on list cycles) (merged is_on list (cycle ∷ cycles))) ((m ∷ [], false) ∷ merged is_on list (cycle ∷ cycles))) e
      ∙ ap (λ b. cond b ((cycle, true) ∷ merged is_on list cycles) (merged is_on list (cycle ∷ cycles))) f

-- the last of a list
pub is_end-push : (m : ℕ) (zs : List ℕ) (y : ℕ) → is_list_end m (zs ++ y ∷ []) ≡ nat_eq y m
is_end-push m zs y =
    let l = length_push zs y in
    let within : length (zs ++ y ∷ []) - 1 < length (zs ++ y ∷ []) = omega (arith, l) in
    let at : length zs ≡ length (zs ++ y ∷ []) - 1 = omega (arith, l) in
    ap (is_it m) (slice_get-get_or (zs ++ y ∷ []) (length (zs ++ y ∷ []) - 1) y within ∙ ap (λ (x : ℕ). Some x) (get_or_push zs y y (length (zs ++ y ∷ []) - 1) at))

-- ---- the two ways to share a block
module _ (g : Modules) where
  pub shares-flip : (a b : ℕ) → SharesBlock g a b → SharesBlock g b a
  shares-flip a b s = (s.1, s.0)

  pub shares-join : (a b c : ℕ) → SharesBlock g a b → SharesBlock g b c → SharesBlock g a c
  shares-join a b c s t = (path-join a b c s.0 t.0, path-join c b a t.1 s.1)

  pub each-flip : (a b : ℕ) → ReachEachOther g a b → ReachEachOther g b a
  each-flip a b s = (s.1, s.0)

  pub each-join : (a b c : ℕ) → ReachEachOther g a b → ReachEachOther g b c → ReachEachOther g a c
  each-join a b c s t = (reaches-join a b c s.0 t.0, reaches-join c b a t.1 s.1)

  each-shares : (a b : ℕ) → SharesBlock g a b → ReachEachOther g a b
  each-shares a b s = (path-reaches a b s.0, path-reaches b a s.1)

  shares-each : (a b : ℕ) → SharesBlock g a a → ReachEachOther g a b → SharesBlock g a b
  shares-each a b own s = elim (same-or-path a b s.0) [
    | inl e ↦ subst (λ x. SharesBlock g a x) e own
    | inr p ↦ elim (same-or-path b a s.1) [
      | inl e ↦ subst (λ x. SharesBlock g a x) (sym e) own
      | inr q ↦ (p, q)
    ]
  ]

  -- two that differ share a block if they reach each other
  shares-differ : (a b : ℕ) → a ≢ b → ReachEachOther g a b → SharesBlock g a b
  shares-differ a b ne s = elim (same-or-path a b s.0) [
    | inl e ↦ absurd (ne e)
    | inr p ↦ elim (same-or-path b a s.1) [
      | inl e ↦ absurd (ne (sym e))
      | inr q ↦ (p, q)
    ]
  ]

-- ---- what the modules are
abbrev pub first : MergedMembers → List ℕ
first members = members.0

-- a module alone that does not request itself, or else a cycle
abbrev pub IsKind : Modules → MergedMembers → Type 0
IsKind g (members, true) = (m : ℕ) → members ≡ m ∷ [] → Requests g m m
IsKind g (members, false) = (m : ℕ) × (members ≡ m ∷ []) × (Requests g m m → ⊥)

abbrev pub AreKinds : Modules → List MergedMembers → Type 0
AreKinds g [] = Unit {0}
AreKinds g (one ∷ rest) = IsKind g one × AreKinds g rest

module _ (g : Modules) (list : List ℕ) (once : IsOnce list) (closed : (a b : ℕ) → Contains list a → Requests g a b → Contains list b) (is_on : ℕ → Bool) (on_true : (x : ℕ) → Contains list x → is_on x ≡ true → SharesBlock g x x) (on_false : (x : ℕ) → Contains list x → is_on x ≡ false → SharesBlock g x x → ⊥) where
  -- the next cycle ends with a module of the rest
  next-last : (before rest : List ℕ) (cycle : List ℕ) (cycles : List (List ℕ)) → list ≡ before ++ rest → BlocksOf (SharesBlock g) list rest (cycle ∷ cycles) → (y : ℕ) × Contains rest y × ((m : ℕ) → is_list_end m cycle ≡ nat_eq y m)
  next-last before [] cycle cycles e b = elim b [ ]
  next-last before (x ∷ rest) cycle cycles e (ends own none m b) =
      let r = Members-last before x rest cycle (subst (λ (l : List ℕ). MembersOf (SharesBlock g x) l cycle) e m) own none in
      (x, Contains-head rest x, λ n. ap (is_list_end n) r.1 ∙ is_end-push n r.0 x)
  next-last before (x ∷ rest) cycle cycles e (goes_on why b) =
      let r = next-last (before ++ x ∷ []) rest cycle cycles (e ∙ sym (append_assoc before (x ∷ []) rest)) b in
      (r.0, Contains-tail rest x r.0 r.1, r.2)

  module _ (before : List ℕ) (x : ℕ) (rest : List ℕ) (split : list ≡ before ++ x ∷ rest) where
    there : Contains list x
    there = subst (λ (l : List ℕ). Contains l x) (sym split) (Contains-append_right before (x ∷ rest) x (Contains-head rest x))

    later : (y : ℕ) → Contains rest y → Contains list y
    later y c = subst (λ (l : List ℕ). Contains l y) (sym split) (Contains-append_right before (x ∷ rest) y (Contains-tail rest x y c))

    new : Contains rest x → ⊥
    new = (once-behind before (x ∷ rest) (subst (λ (l : List ℕ). IsOnce l) split once)).0

    behind : list ≡ (before ++ x ∷ []) ++ rest
    behind = split ∙ sym (append_assoc before (x ∷ []) rest)

    -- a cycle is a block, and is one module only where that requests itself
    block-ends : (cycle : List ℕ) → SharesBlock g x x → ((y : ℕ) → Contains rest y → SharesBlock g x y → ⊥) → MembersOf (SharesBlock g x) list cycle → (blocks : List (List ℕ)) → BlocksOf (ReachEachOther g) list rest blocks → BlocksOf (ReachEachOther g) list (x ∷ rest) (cycle ∷ blocks)
    block-ends cycle own none m blocks b =
        ends (itself, itself) (λ y c s. none y c (shares-each g x y own s))
        (Members-same list cycle (λ z c. (each-shares g x z, shares-each g x z own)) m) b

    block-alone : (SharesBlock g x x → ⊥) → (blocks : List (List ℕ)) → BlocksOf (ReachEachOther g) list rest blocks → BlocksOf (ReachEachOther g) list (x ∷ rest) ((x ∷ []) ∷ blocks)
    block-alone lone blocks b =
        ends (itself, itself) (λ y c s. apart y c s)
        (Members-one list x once there (itself, itself) (λ z s. same z s)) b
      where
        differ : (z : ℕ) → (x ≡ z → ⊥) → ReachEachOther g x z → ⊥
        differ z ne s = let t = shares-differ g x z ne s in lone (shares-join g x z x t (shares-flip g x z t))

        apart : (y : ℕ) → Contains rest y → ReachEachOther g x y → ⊥
        apart y c s = differ y (λ e. new (subst (λ w. Contains rest w) (sym e) c)) s

        same : (z : ℕ) → ReachEachOther g x z → z ≡ x
        same z s = elim (same-or-path x z s.0) [
          | inl e ↦ sym e
          | inr p ↦ elim (same-or-path z x s.1) [
            | inl e ↦ e
            | inr q ↦ absurd (lone (path-join x z x p q, path-join x z x p q))
          ]
        ]

    kind-cycle : (cycle : List ℕ) → SharesBlock g x x → ((y : ℕ) → Contains rest y → SharesBlock g x y → ⊥) → MembersOf (SharesBlock g x) list cycle → (m : ℕ) → cycle ≡ m ∷ [] → Requests g m m
    kind-cycle cycle own none m n e =
        let next = own.0.0 in
        let edge = own.0.1 in
        let within = closed x next there edge in
        let back : Path (Requests g) next x = elim (same-or-path next x own.0.2) [ inl s ↦ subst (λ y. Path (Requests g) y x) (sym s) own.0 | inr p ↦ p ] in
        let a = Members-has list cycle m next within ((next, edge, itself), back) in
        let b = Members-has list cycle m x there own in
        let one = λ (y : ℕ) (c : Contains cycle y). only y (subst (λ (l : List ℕ). Contains l y) e c) in
        subst (λ y. Requests g y n) (one x b) (subst (λ y. Requests g x y) (one next a) edge)
      where
        only : (y : ℕ) → Contains (n ∷ []) y → y ≡ n
        only y c = elim (Contains-cons_cases [] n y c) [ inl s ↦ sym s | inr d ↦ absurd (nothing_in d) ]

    kind-alone : (SharesBlock g x x → ⊥) → IsKind g (x ∷ [], false)
    kind-alone lone = (x, refl, λ e. lone ((x, e, itself), (x, e, itself)))

    -- a module on a cycle of which a later one stands behind ends none
    not-end : (cycle : List ℕ) (cycles : List (List ℕ)) → BlocksOf (SharesBlock g) list rest (cycle ∷ cycles) → is_list_end x cycle ≡ false
    not-end cycle cycles b =
        let r = next-last (before ++ x ∷ []) rest cycle cycles behind b in
        by (nat_eq r.0 x) refl r
      where
        by : (t : Bool) → nat_eq (next-last (before ++ x ∷ []) rest cycle cycles behind b).0 x ≡ t → ((y : ℕ) × Contains rest y × ((m : ℕ) → is_list_end m cycle ≡ nat_eq y m)) → is_list_end x cycle ≡ false
        by t f r = step r.0 r.1 (r.2 x) (nat_eq r.0 x) refl
          where
            step : (y : ℕ) → Contains rest y → is_list_end x cycle ≡ nat_eq y x → (t : Bool) → nat_eq y x ≡ t → is_list_end x cycle ≡ false
            step y c is true f = absurd (new (subst (λ w. Contains rest w) (eqb-true y x f) c))
            step y c is false f = is ∙ f

  -- ---- all together
  pub AreMerged : List ℕ → List MergedMembers → Type 0
  AreMerged rest all = BlocksOf (ReachEachOther g) list rest (map first all) × AreKinds g all

  pub merged-blocks : (before rest : List ℕ) (cycles : List (List ℕ)) → list ≡ before ++ rest → BlocksOf (SharesBlock g) list rest cycles → AreMerged rest (merged is_on rest cycles)
  unfolding AreMerged
  merged-blocks before [] [] split over = (over, tt)
  merged-blocks before [] (cycle ∷ cycles) split b = elim b [ ]
  merged-blocks before (x ∷ rest) (cycle ∷ cycles) split (ends own none m b) =
      step (is_on x) refl (merged-blocks (before ++ x ∷ []) rest cycles (behind before x rest split) b)
    where
      is_last : is_list_end x cycle ≡ true
      is_last =
          let r = Members-last before x rest cycle (subst (λ (l : List ℕ). MembersOf (SharesBlock g x) l cycle) split m) own none in
          ap (is_list_end x) r.1 ∙ (is_end-push x r.0 x ∙ eq-eqb x x refl)

      step : (t : Bool) → is_on x ≡ t → AreMerged rest (merged is_on rest cycles) → AreMerged (x ∷ rest) (merged is_on (x ∷ rest) (cycle ∷ cycles))
      step false e more = absurd (on_false x (there before x rest split) e own)
      step true e more =
          subst (λ (l : List MergedMembers). AreMerged (x ∷ rest) l) (sym (merged-ends is_on x rest cycle cycles e is_last))
          (block-ends before x rest split cycle own none m (map first (merged is_on rest cycles)) more.0, (kind-cycle before x rest split cycle own none m, more.1))
  merged-blocks before (x ∷ rest) cycles split (goes_on why b) =
      step (is_on x) refl why (merged-blocks (before ++ x ∷ []) rest cycles (behind before x rest split) b)
    where
      past : is_on x ≡ true → merged is_on (x ∷ rest) cycles ≡ merged is_on rest cycles
      past e = by cycles refl
        where
          by : (cs : List (List ℕ)) → cycles ≡ cs → merged is_on (x ∷ rest) cycles ≡ merged is_on rest cycles
          by [] f = ap (merged is_on (x ∷ rest)) f ∙ (merged-past is_on x rest e ∙ ap (merged is_on rest) (sym f))
          by (c ∷ cs) f =
              ap (merged is_on (x ∷ rest)) f
              ∙ (merged-goes is_on x rest c cs e (not-end before x rest split c cs (subst (λ (l : List (List ℕ)). BlocksOf (SharesBlock g) list rest l) f b))
              ∙ ap (merged is_on rest) (sym f))

      step : (t : Bool) → is_on x ≡ t → (SharesBlock g x x → ⊥) ⊎ ((y : ℕ) × Contains rest y × SharesBlock g x y) → AreMerged rest (merged is_on rest cycles) → AreMerged (x ∷ rest) (merged is_on (x ∷ rest) cycles)
      step false e reason more =
          let lone = on_false x (there before x rest split) e in
          subst (λ (l : List MergedMembers). AreMerged (x ∷ rest) l) (sym (merged-alone is_on x rest cycles e))
          (block-alone before x rest split lone (map first (merged is_on rest cycles)) more.0, (kind-alone before x rest split lone, more.1))
      step true e (inl lone) more = absurd (lone (on_true x (there before x rest split) e))
      step true e (inr w) more =
          subst (λ (l : List MergedMembers). AreMerged (x ∷ rest) l) (sym (past e))
          (goes_on (inr (w.0, w.1, each-shares g x w.0 w.2)) more.0, more.1)

-- ---- which modules are on a cycle
in-list : (list : List ℕ) (x : ℕ) → list_any (nat_eq x) list ≡ true → Contains list x
in-list list x e = Contains-place list x (place-in list x e)

list-in : (list : List ℕ) (x : ℕ) → Contains list x → list_any (nat_eq x) list ≡ true
list-in list x c = found list x (place-contains list x c)

in-some : (lists : List (List ℕ)) (x : ℕ) → is_in_some x lists ≡ true → InSome lists x
in-some [] x e = false≢true e
in-some (l ∷ lists) x e = step (list_any (nat_eq x) l) refl (λ f. in-some lists x f)
  where
    step : (b : Bool) → list_any (nat_eq x) l ≡ b → (is_in_some x lists ≡ true → InSome lists x) → InSome (l ∷ lists) x
    step true f more = inl (in-list l x f)
    step false f more = inr (more (sym (ap (λ b. b || is_in_some x lists) f) ∙ e))

some-in : (lists : List (List ℕ)) (x : ℕ) → InSome lists x → is_in_some x lists ≡ true
some-in [] x h = absurd h
some-in (l ∷ lists) x (inl c) = ap (λ b. b || is_in_some x lists) (list-in l x c)
some-in (l ∷ lists) x (inr h) = step (list_any (nat_eq x) l) (some-in lists x h)
  where
    step : (b : Bool) → is_in_some x lists ≡ true → (b || is_in_some x lists) ≡ true
    step true e = refl
    step false e = e

pub closed-order : (g : Modules) (entry : ℕ) (list : List ℕ) → IsOrder g entry list → (a b : ℕ) → Contains list a → Requests g a b → Contains list b
closed-order g entry list o a b c e = (o.reached b).1 (reaches-join entry a b ((o.reached a).0 c) (along e itself))

-- the blocks of an entry, from its cycles
pub merged-order : (g : Modules) (entry : ℕ) (list : List ℕ) (cycles : List (List ℕ)) → IsOrder g entry list → AreBlocks g entry cycles → BlocksOf (ReachEachOther g) list list (map first (merged (λ m. is_in_some m cycles) list cycles)) × AreKinds g (merged (λ m. is_in_some m cycles) list cycles)
unfolding AreMerged
merged-order g entry list cycles o are =
    merged-blocks g list (IsOnce-from_distinct list o.once) (closed-order g entry list o) (λ m. is_in_some m cycles) on off [] list cycles refl b
  where
    b : BlocksOf (SharesBlock g) list list cycles
    b = are list o

    on : (x : ℕ) → Contains list x → is_in_some x cycles ≡ true → SharesBlock g x x
    on x c e =
        let r = blocks-in (SharesBlock g) (shares-flip g) (shares-join g) list list cycles b x (in-some cycles x e) in
        shares-join g x r.0 x (shares-flip g r.0 x r.3) r.3

    off : (x : ℕ) → Contains list x → is_in_some x cycles ≡ false → SharesBlock g x x → ⊥
    off x c e own = false≢true (sym e ∙ some-in cycles x (blocks-has (SharesBlock g) (shares-flip g) (shares-join g) list list cycles b x c own x c own))
