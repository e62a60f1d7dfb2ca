-- Where modules stand for each other, so do their blocks; and those that a plan has by the places
-- of a list are the blocks of the program by places.
use Rattle.std.proofs.Common.{◌≡◌, ◌⊎◌, inl, inr, ◌↔◌, ℕ, zero, suc, ◌+◌, Bool, true, false, nat_eq, List, [], ◌∷◌, ◌++◌, Some, Contains, length, map, refl, sym, ap, ap₂, ◌∙◌, subst, cond, eqb-true, eq-eqb, arith}
use Rattle.std.specs.Prelude.{flat_map, slice_get}
use Rattle.std.specs.List.{AllZip}
use Rattle.std.proofs.lemmas.Bool.{false≢true}
use Rattle.bundle_order_graph.specs.Blocks.{BlocksOf, over, ends, goes_on, Members, nothing, kept, left}
use Rattle.bundle_order_graph.specs.Modules.{Modules, Requests as Edges, deps}
use Rattle.bundle_order_graph.specs.Walks.{Reaches, itself, along}
use Rattle.bundle_order_graph.proofs.OrderLemmas.{Lists-only}
use Rattle.bundle_order_sort.specs.Places.{ReachEachOther, places_of, places_where}
use Rattle.bundle_order_sort.specs.Plan.{IsOwnBlock, IsPlanAsked, IsPlanned, IsPlanOf, IsPlanOfEach}
use Rattle.bundle_order_sort.specs.declared.plan.Block.{Block}
use Rattle.bundle_order_sort.specs.declared.plan.Plan.{Plan}
use Rattle.bundle_order_sort.proofs.OnceLemmas.{IsOnce}
use Rattle.bundle_rules.specs.Program.{Program, requested, Requests, SharesBlock, AreBlocks}
use Rattle.bundle_link.specs.Alike.{IsModuleAt}
use Rattle.bundle_link_index.proofs.ProgramLemmas.{later, first_or_later}
use Rattle.bundle_link.proofs.NumberLemmas.{held}
use Rattle.bundle_merge_theory.specs.planned.Blocks.{block_of}
use Rattle.bundle_merge_theory.specs.planned.Decided.{DecidedBlock, IsBlockDecided, numbers_from}
use Rattle.bundle_merge_theory.proofs.planned.OrderLemmas.{no_element, blocks-alone}
use Rattle.bundle_link_targets.proofs.ListLemmas.{first-there as here}
use Rattle.bundle_merge_theory.proofs.planned.RequestLemmas.{list-once, list-reached}
use Rattle.bundle_merge_theory.specs.sound.Known.{IsByPlaces}
use Rattle.bundle_merge_theory.proofs.sound.Sound.{lists-alike, requested-zip, places-list}

-- ---- two lists in turn
zip-forth : (R : ℕ → ℕ → Type 0) (xs ys : List ℕ) → AllZip R xs ys → (m : ℕ) → Contains xs m →
    (k : ℕ) × Contains ys k × R m k
zip-forth R [] ys z m c = absurd (no_element c)
zip-forth R (x ∷ xs) [] z m c = absurd z
zip-forth R (x ∷ xs) (y ∷ ys) z m c = elim (first_or_later x xs m c) [
  | inl e ↦ (y, here y ys, subst (λ n. R n y) e z.0)
  | inr rest ↦ let its = zip-forth R xs ys z.1 m rest in (its.0, later y ys its.0 its.1, its.2)
]

zip-back : (R : ℕ → ℕ → Type 0) (xs ys : List ℕ) → AllZip R xs ys → (k : ℕ) → Contains ys k →
    (m : ℕ) × Contains xs m × R m k
zip-back R xs [] z k c = absurd (no_element c)
zip-back R [] (y ∷ ys) z k c = absurd z
zip-back R (x ∷ xs) (y ∷ ys) z k c = elim (first_or_later y ys k c) [
  | inl e ↦ (x, here x xs, subst (R x) e z.0)
  | inr rest ↦ let its = zip-back R xs ys z.1 k rest in (its.0, later x xs its.0 its.1, its.2)
]

-- beside a list of one stands a list of one
one-forth : (R : ℕ → ℕ → Type 0) (m : ℕ) (ys : List ℕ) → AllZip R (m ∷ []) ys →
    (k : ℕ) × (ys ≡ k ∷ []) × R m k
one-forth R m [] z = absurd z
one-forth R m (y ∷ []) z = (y, refl, z.0)
one-forth R m (y ∷ w ∷ ys) z = absurd z.1

one-back : (R : ℕ → ℕ → Type 0) (xs : List ℕ) (k : ℕ) → AllZip R xs (k ∷ []) →
    (m : ℕ) × (xs ≡ m ∷ []) × R m k
one-back R [] k z = absurd z
one-back R (x ∷ []) k z = (x, refl, z.0)
one-back R (x ∷ w ∷ xs) k z = absurd z.1

-- ---- walks
module _ (R : ℕ → ℕ → Type 0) (f g : ℕ → List ℕ) (same : (m k : ℕ) → R m k → AllZip R (f m) (g k)) where
  walk-on : {a b : ℕ} → Reaches (λ x y. Contains (f x) y) a b → (c : ℕ) → R a c →
      (e : ℕ) × R b e × Reaches (λ x y. Contains (g x) y) c e
  walk-on itself c r = (c, r, itself)
  walk-on {a = a} (along {b = m} edge more) c r =
      let k = zip-forth R (f a) (g c) (same a c r) m edge in
      let rest = walk-on more k.0 k.2 in
      (rest.0, rest.1, along k.1 rest.2)

  walk-back : {c e : ℕ} → Reaches (λ x y. Contains (g x) y) c e → (a : ℕ) → R a c →
      (b : ℕ) × R b e × Reaches (λ x y. Contains (f x) y) a b
  walk-back itself a r = (a, r, itself)
  walk-back {c = c} (along {b = k} edge more) a r =
      let m = zip-back R (f a) (g c) (same a c r) k edge in
      let rest = walk-back more m.0 m.2 in
      (rest.0, rest.1, along m.1 rest.2)

-- ---- blocks
module _ (R : ℕ → ℕ → Type 0) (one : (a b c : ℕ) → R a b → R a c → b ≡ c) where
  members-on : (P Q : ℕ → Type 0) → ((m k : ℕ) → R m k → P m ↔ Q k) → {xs ys : List ℕ} →
      Members P xs ys → (us vs : List ℕ) → AllZip R xs us → AllZip R ys vs → Members Q us vs
  members-on P Q both nothing [] [] z y = nothing
  members-on P Q both nothing (u ∷ us) vs z y = absurd z
  members-on P Q both nothing [] (v ∷ vs) z y = absurd y
  members-on P Q both (kept h more) [] vs z y = absurd z
  members-on P Q both (kept h more) (u ∷ us) [] z y = absurd y
  members-on P Q both (kept {x = x} h more) (u ∷ us) (v ∷ vs) z y =
      subst (λ w. Members Q (u ∷ us) (w ∷ vs)) (one x u v z.0 y.0)
      (kept ((both x u z.0).0 h) (members-on P Q both more us vs z.1 y.1))
  members-on P Q both (left h more) [] vs z y = absurd z
  members-on P Q both (left {x = x} h more) (u ∷ us) vs z y =
      left {xs = us} {ys = vs} (λ k. h ((both x u z.0).1 k)) (members-on P Q both more us vs z.1 y)

  blocks-on : (S T : ℕ → ℕ → Type 0) →
      ((a b c e : ℕ) → R a c → R b e → S a b ↔ T c e) → {list rest : List ℕ}
      {blocks : List (List ℕ)} → BlocksOf S list rest blocks → (l r : List ℕ)
      (bs : List (List ℕ)) → AllZip R list l → AllZip R rest r → AllZip (AllZip R) blocks bs →
      BlocksOf T l r bs
  blocks-on S T both over l [] [] zl zr zb = over
  blocks-on S T both over l (k ∷ r) bs zl zr zb = absurd zr
  blocks-on S T both over l [] (b ∷ bs) zl zr zb = absurd zb
  blocks-on S T both (ends h none members more) l [] bs zl zr zb = absurd zr
  blocks-on S T both (ends h none members more) l (k ∷ r) [] zl zr zb = absurd zb
  blocks-on S T both (ends {x = x} {rest = rest} h none members more) l (k ∷ r) (b ∷ bs) zl zr zb =
      ends ((both x x k k zr.0 zr.0).0 h)
      (λ y c s. let its = zip-back R rest r zr.1 y c in none its.0 its.1
      ((both x its.0 k y zr.0 its.2).1 s))
      (members-on (S x) (T k) (λ m n at. both x m k n zr.0 at) members l b zl zb.0)
      (blocks-on S T both more l r bs zl zr.1 zb.1)
  blocks-on S T both (goes_on why more) l [] bs zl zr zb = absurd zr
  blocks-on S T both (goes_on {x = x} {rest = rest} why more) l (k ∷ r) bs zl zr zb =
      goes_on {rest = r}
      (elim why [
        | inl alone ↦ inl (λ t. alone ((both x x k k zr.0 zr.0).1 t))
        | inr w ↦ inr (let its = zip-forth R rest r zr.1 w.0 w.1 in
            (its.0, its.1, (both x w.0 k its.0 zr.0 its.2).0 w.2))
      ]) (blocks-on S T both more l r bs zl zr.1 zb)

-- members of a block are in the list
members-in : {P : ℕ → Type 0} {xs ys : List ℕ} → Members P xs ys → (y : ℕ) → Contains ys y →
    Contains xs y
members-in nothing y c = c
members-in (kept {x = x} {xs = xs} {ys = ys} h more) y c = elim (first_or_later x ys y c) [
  | inl e ↦ subst (Contains (x ∷ xs)) e (here x xs)
  | inr rest ↦ later x xs y (members-in more y rest)
]
members-in (left {x = x} {xs = xs} h more) y c = later x xs y (members-in more y c)

-- all members of these blocks are
abbrev AreIn : List ℕ → List (List ℕ) → Type 0
AreIn list [] = Unit {0}
AreIn list (block ∷ blocks) = ((m : ℕ) → Contains block m → Contains list m) × AreIn list blocks

blocks-in-list : {S : ℕ → ℕ → Type 0} {list rest : List ℕ} {blocks : List (List ℕ)} →
    BlocksOf S list rest blocks → AreIn list blocks
blocks-in-list over = tt
blocks-in-list (ends h none members more) = (members-in members, blocks-in-list more)
blocks-in-list (goes_on why more) = blocks-in-list more

-- ---- places of members
none-there : (i : ℕ) (list : List ℕ) (m : ℕ) → (Contains list m → ⊥) →
    places_where i (λ o. nat_eq o m) list ≡ []
none-there i [] m out = refl
none-there i (x ∷ list) m out =
    by (nat_eq x m) refl (none-there (i + 1) list m (λ c. out (later x list m c)))
  where
    by : (t : Bool) → nat_eq x m ≡ t → places_where (i + 1) (λ o. nat_eq o m) list ≡ [] →
        cond t (i ∷ places_where (i + 1) (λ o. nat_eq o m) list)
        (places_where (i + 1) (λ o. nat_eq o m) list) ≡ []
    by true e ih = absurd (out (0, omega arith, eqb-true x m e))
    by false e ih = ih

one-there : (i : ℕ) (list : List ℕ) (m : ℕ) → IsOnce list → Contains list m →
    (k : ℕ) × (slice_get list k ≡ Some m) × (places_where i (λ o. nat_eq o m) list ≡ (i + k) ∷ [])
one-there i [] m once c = absurd (no_element c)
one-there i (x ∷ list) m once c =
    by (nat_eq x m) refl (first_or_later x list m c)
    (λ rest. one-there (i + 1) list m once.1 rest)
  where
    by : (t : Bool) → nat_eq x m ≡ t → (x ≡ m) ⊎ Contains list m →
        (Contains list m → (k : ℕ) × (slice_get list k ≡ Some m) ×
        (places_where (i + 1) (λ o. nat_eq o m) list ≡ (i + 1 + k) ∷ [])) →
        (k : ℕ)
        × (slice_get (x ∷ list) k ≡ Some m)
        × (cond t (i ∷ places_where (i + 1) (λ o. nat_eq o m) list)
        (places_where (i + 1) (λ o. nat_eq o m) list) ≡ (i + k) ∷ [])
    by true e c ih =
        let is = eqb-true x m e in
        let zero_k : i ≡ i + 0 = omega arith in (
          zero,
          ap (λ n. Some n) is,
          ap (λ (l : List ℕ). i ∷ l)
              (none-there (i + 1) list m (λ d. once.0 (subst (Contains list) (sym is) d)))
              ∙ ap (λ (k : ℕ). k ∷ []) zero_k,
        )
    by false e (inl is) ih = absurd (false≢true (sym e ∙ eq-eqb x m is))
    by false e (inr rest) ih =
        let r = ih rest in
        let further : i + 1 + r.0 ≡ i + suc r.0 = omega arith in
        (suc r.0, r.1, r.2 ∙ ap (λ (k : ℕ). k ∷ []) further)

-- the places of members stand beside them
placed-zip : (ids members : List ℕ) → IsOnce ids →
    ((m : ℕ) → Contains members m → Contains ids m) →
    AllZip (IsModuleAt ids) members (flat_map (places_of ids) members)
placed-zip ids [] once all = tt
placed-zip ids (m ∷ members) once all =
    let r = one-there zero ids m once (all m (here m members)) in
    let zero_k : 0 + r.0 ≡ r.0 = omega arith in
    subst
    (λ (l : List ℕ). AllZip (IsModuleAt ids) (m ∷ members) (l ++ flat_map (places_of ids) members))
    (sym (r.2 ∙ ap (λ (k : ℕ). k ∷ []) zero_k))
    (r.1, placed-zip ids members once (λ n c. all n (later m members n c)))

-- ---- the blocks of a plan
module _ (p q : Program) (ids : List ℕ) (g : Modules) (w : IsByPlaces p q ids g) where
  same-edges : (m k : ℕ) → IsModuleAt ids m k → AllZip (IsModuleAt ids) (deps g m) (requested q k)
  same-edges m k at =
      subst (λ (l : List ℕ). AllZip (IsModuleAt ids) l (requested q k))
      (sym (w.graph m ((list-reached p ids w.is_list m).0 (held ids m k at))))
      (requested-zip p q (IsModuleAt ids) w.alike m k at)

  edge-on : (m k : ℕ) → IsModuleAt ids m k → Edges g m m → Requests q k k
  edge-on m k at edge =
      let its = zip-forth (IsModuleAt ids) (deps g m) (requested q k) (same-edges m k at) m edge in
      subst (Contains (requested q k)) (w.alike.one m its.0 k its.2 at) its.1

  edge-back : (m k : ℕ) → IsModuleAt ids m k → Requests q k k → Edges g m m
  edge-back m k at edge =
      let its = zip-back (IsModuleAt ids) (deps g m) (requested q k) (same-edges m k at) k edge in
      subst (Contains (deps g m)) (w.alike.other k its.0 m its.2 at) its.1

  reach-on : (a b c e : ℕ) → IsModuleAt ids a c → IsModuleAt ids b e → Reaches (Edges g) a b →
      Reaches (Requests q) c e
  reach-on a b c e r h walk =
      let its = walk-on (IsModuleAt ids) (deps g) (requested q) same-edges walk c r in
      subst (Reaches (Requests q) c) (w.alike.one b its.0 e its.1 h) its.2

  reach-back : (a b c e : ℕ) → IsModuleAt ids a c → IsModuleAt ids b e → Reaches (Requests q) c e →
      Reaches (Edges g) a b
  reach-back a b c e r h walk =
      let its = walk-back (IsModuleAt ids) (deps g) (requested q) same-edges walk a r in
      subst (Reaches (Edges g) a) (w.alike.other e its.0 b its.1 h) its.2

  shares-both : q.settings.in_standard_order ≡ false → (a b c e : ℕ) → IsModuleAt ids a c →
      IsModuleAt ids b e → ReachEachOther g a b ↔ SharesBlock q c e
  shares-both by_needs a b c e r h = (
    λ s. (
      reach-on a b c e r h s.0,
      reach-on b a e c h r s.1,
      λ asked. absurd (false≢true (sym by_needs ∙ asked)),
    ),
    λ s. (reach-back a b c e r h s.0, reach-back b a e c h r s.1),
  )

  -- blocks by places stand beside those by numbers
  blocks-zip : (list : List ℕ) → ((m : ℕ) → Contains list m → Contains ids m) →
      (blocks : List (List ℕ)) (found : List Block) → AllZip (IsPlanned g ids) blocks found →
      AreIn list blocks →
      AllZip (AllZip (IsModuleAt ids)) blocks
      (map (λ (block : DecidedBlock). block.modules) (map block_of found))
  blocks-zip list inside [] [] z all = tt
  blocks-zip list inside [] (f ∷ found) z all = absurd z
  blocks-zip list inside (members ∷ blocks) [] z all = absurd z
  blocks-zip list inside (members ∷ blocks) (f ∷ found) z all = (
    subst (AllZip (IsModuleAt ids) members) (sym z.0.places)
        (placed-zip ids members (list-once p ids w.is_list) (λ m c. inside m (all.0 m c))),
    blocks-zip list inside blocks found z.1 all.1,
  )

  one-decided : q.settings.in_standard_order ≡ false → (members : List ℕ) (f : Block) →
      IsPlanned g ids members f → AllZip (IsModuleAt ids) members f.places.items →
      IsBlockDecided q (block_of f)
  one-decided by_needs members f its zip = record {
    lone = λ e.
        (let r = its.lone e in
        let k = one-forth (IsModuleAt ids) r.0 f.places.items
        (subst (λ (l : List ℕ). AllZip (IsModuleAt ids) l f.places.items) r.1 zip) in
        (k.0, k.1, λ asked edge. r.2 (edge-back r.0 k.0 k.2 edge)));
    sorted = λ e. (
      by_needs,
      λ k is.
          (let m = one-back (IsModuleAt ids) members k (subst (AllZip (IsModuleAt ids) members) is zip) in
          edge-on m.0 k m.2 (its.cycle e m.0 m.1)),
    );
  }

  each-decided : q.settings.in_standard_order ≡ false → (blocks : List (List ℕ))
      (found : List Block) →
      AllZip (IsPlanned g ids) blocks found →
      AllZip (AllZip (IsModuleAt ids)) blocks
      (map (λ (block : DecidedBlock). block.modules) (map block_of found)) →
      (block : DecidedBlock) → Contains (map block_of found) block → IsBlockDecided q block
  each-decided by_needs [] [] z all block c = absurd (no_element c)
  each-decided by_needs [] (f ∷ found) z all block c = absurd z
  each-decided by_needs (members ∷ blocks) [] z all block c = absurd z
  each-decided by_needs (members ∷ blocks) (f ∷ found) z all block c =
      elim (first_or_later (block_of f) (map block_of found) block c) [
        | inl e ↦ subst (IsBlockDecided q) e (one-decided by_needs members f z.0 all.0)
        | inr rest ↦ each-decided by_needs blocks found z.1 all.1 block rest
      ]

  -- what the blocks of a plan are in the program by places
  abbrev AreBlocksPlanned : Plan → Type 0
  AreBlocksPlanned plan =
      AreBlocks q (numbers_from zero (length ids))
      (map (λ (block : DecidedBlock). block.modules) (map block_of plan.blocks.items))
      × ((block : DecidedBlock) → Contains (map block_of plan.blocks.items) block →
      IsBlockDecided q block)

  blocks-by-requests : q.settings.in_standard_order ≡ false → (plan : Plan) →
      IsPlanOf g p.entry ids plan → AreBlocksPlanned plan
  blocks-by-requests by_needs plan its = (
    blocks-on (IsModuleAt ids) w.alike.one (ReachEachOther g) (SharesBlock q)
        (shares-both by_needs) its.are_blocks nums nums _ beside beside zip,
    each-decided by_needs its.blocks plan.blocks.items its.planned zip,
  )
    where
      nums : List ℕ
      nums = numbers_from zero (length ids)

      beside : AllZip (IsModuleAt ids) its.list nums
      beside =
          let on = lists-alike (IsModuleAt ids) w.alike.one w.alike.other (deps g) (requested q)
          same-edges its.is_list.made [] [] (q.entry ∷ []) tt tt (w.alike.entry, tt) in
          subst (AllZip (IsModuleAt ids) its.list)
          (Lists-only (places-list p q ids w.is_list w.alike) on.2) on.1

      zip : AllZip (AllZip (IsModuleAt ids)) its.blocks
          (map (λ (block : DecidedBlock). block.modules) (map block_of plan.blocks.items))
      zip =
          blocks-zip its.list
          (λ m c. let at = zip-forth (IsModuleAt ids) its.list nums beside m c in held ids m at.0 at.2)
          its.blocks plan.blocks.items its.planned (blocks-in-list its.are_blocks)

  -- blocks of one module each
  own-modules : (numbers : List ℕ) (found : List Block) → AllZip IsOwnBlock numbers found →
      map (λ m. m ∷ []) numbers
      ≡ map (λ (block : DecidedBlock). block.modules) (map block_of found)
  own-modules [] [] z = refl
  own-modules [] (f ∷ found) z = absurd z
  own-modules (n ∷ numbers) [] z = absurd z
  own-modules (n ∷ numbers) (f ∷ found) z =
      ap₂ (λ (block : List ℕ) (blocks : List (List ℕ)). block ∷ blocks) (sym z.0.places)
      (own-modules numbers found z.1)

  own-decided : q.settings.in_standard_order ≡ true → (n : ℕ) (f : Block) → IsOwnBlock n f →
      IsBlockDecided q (block_of f)
  own-decided asked n f its = record {
    lone = λ e. (n, its.places, λ by_needs. absurd (false≢true (sym by_needs ∙ asked)));
    sorted = λ e. absurd (false≢true (sym its.unsorted ∙ e));
  }

  each-own : q.settings.in_standard_order ≡ true → (numbers : List ℕ) (found : List Block) →
      AllZip IsOwnBlock numbers found →
      (block : DecidedBlock) → Contains (map block_of found) block → IsBlockDecided q block
  each-own asked [] [] z block c = absurd (no_element c)
  each-own asked [] (f ∷ found) z block c = absurd z
  each-own asked (n ∷ numbers) [] z block c = absurd z
  each-own asked (n ∷ numbers) (f ∷ found) z block c =
      elim (first_or_later (block_of f) (map block_of found) block c) [
        | inl e ↦ subst (IsBlockDecided q) e (own-decided asked n f z.0)
        | inr rest ↦ each-own asked numbers found z.1 block rest
      ]

  blocks-of-each : q.settings.in_standard_order ≡ true → (plan : Plan) →
      IsPlanOfEach (length ids) plan → AreBlocksPlanned plan
  blocks-of-each asked plan its = (
    subst (AreBlocks q numbers) (own-modules numbers plan.blocks.items its.blocks)
        (blocks-alone q asked numbers
        (list-once q numbers (places-list p q ids w.is_list w.alike))),
    each-own asked numbers plan.blocks.items its.blocks,
  )
    where
      numbers : List ℕ
      numbers = numbers_from zero (length ids)

  -- the blocks of a plan by the places of the list are those of the program by places
  pub planned-blocks : (plan : Plan) →
      IsPlanAsked p.settings.in_standard_order g p.entry ids plan → AreBlocksPlanned plan
  planned-blocks plan its = by p.settings.in_standard_order refl
    where
      by : (t : Bool) → p.settings.in_standard_order ≡ t → AreBlocksPlanned plan
      by false e =
          blocks-by-requests (sym w.alike.in_standard_order ∙ e) plan (its.by_requests e)
      by true e = blocks-of-each (sym w.alike.in_standard_order ∙ e) plan (its.of_each e)
