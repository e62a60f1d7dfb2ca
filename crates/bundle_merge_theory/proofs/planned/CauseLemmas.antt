-- Causes that are chosen of a list, and that each candidate stands once.
-- What is laid out is just what is due, each once.
use Rattle.std.proofs.Common.{◌≡◌, ◌⊎◌, inl, inr, ℕ, zero, suc, ◌+◌, ◌<◌, ◌≤◌, List, [], ◌∷◌, ◌++◌, Option, Some, None, Contains, length, map, refl, sym, ap, ◌∙◌, subst, arith, ◌↔◌}
use Rattle.std.specs.Prelude.{flat_map, slice_get}
use Rattle.std.proofs.lemmas.List.Elements.{Contains-append_left, Contains-append_right, Contains-append_cases}
use Rattle.std.proofs.lemmas.Option.{none-some, same_Some, slice_get_within}
use Rattle.std.proofs.lemmas.List.{append-nil}
use Rattle.bundle_order_graph.specs.Walks.{itself}
use Rattle.bundle_syntax.specs.Item.{Item}
use Rattle.bundle_rules.specs.Nodes.{Text}
use Rattle.bundle_rules.specs.Statements.{own_statements}
use Rattle.bundle_rules.specs.Program.{Program, tree_of, requested, IsReached, IsList, SharesBlock}
use Rattle.bundle_rules.specs.Bundle
use Rattle.bundle_rules.specs.Bundle.{Cause, Own, ImportsNames, ImportsWhole, ImportsNothing, Helps, Defines, Loads, HoldsMeta, HoldsNamespace, Stars, Exports, Chosen, nothing, chosen, left, externals, import_causes, counted, module_causes, owner_of, Form, IsDue, AsksCommonJs, StandsFor, Pairing, IsBlockLaidOut, lone, cycle, AreBlocksLaidOut, over, next, IsLaidOut}
use Rattle.bundle_rules.specs.Declarations.{Reading}
use Rattle.bundle_rules.specs.Order.{group_of}
use Rattle.bundle_order_sort.proofs.OnceLemmas.{IsOnce, IsOnce-from_distinct, InSome, AreApart, AreOnce}
use Rattle.bundle_order_sort.proofs.BlockLemmas.{blocks-apart, blocks-has, blocks-once}
use Rattle.bundle_scope_names.proofs.Told.{zip-length as length-zip}
use Rattle.bundle_link_index.proofs.ProgramLemmas.{later, first_or_later, map_on}
use Rattle.bundle_link_index.proofs.AskedLemmas.{flat_back, flat_on, only_one as only}
use Rattle.bundle_link_targets.proofs.ListLemmas.{first-there as here}
use Rattle.bundle_merge_theory.proofs.planned.OrderLemmas.{Once, map_back, no_element, once-flat, once-join, once-map, once-numbers, once-one, once-texts, contains-get, get-contains, length-mapped, once-places, read-back, read-on, read-once, shares-flip, shares-join}
use Rattle.bundle_merge_theory.proofs.planned.RequestLemmas.{declared_leads, list-once, list-reached, meant-reached, star-used, used-listed}

-- ---- what is chosen
pub Chosen-in : {Has : Cause → Type 0} {xs ys : List Cause} → Chosen Has xs ys → (z : Cause) →
    Contains ys z → Contains xs z × Has z
Chosen-in nothing z c = absurd (no_element c)
Chosen-in {Has = Has} (chosen {x} {xs} {ys} has more) z c = elim (first_or_later x ys z c) [
  | inl e ↦ ((0, omega arith, e), subst Has e has)
  | inr rest ↦ let r = Chosen-in more z rest in (later x xs z r.0, r.1)
]
Chosen-in (left {x} {xs} {ys} lacks more) z c =
    let r = Chosen-in more z c in (later x xs z r.0, r.1)

pub Chosen-has : {Has : Cause → Type 0} {xs ys : List Cause} → Chosen Has xs ys → (z : Cause) →
    Contains xs z → Has z → Contains ys z
Chosen-has nothing z c h = absurd (no_element c)
Chosen-has (chosen {x} {xs} {ys} has more) z c h = elim (first_or_later x xs z c) [
  | inl e ↦ (0, omega arith, e)
  | inr rest ↦ later x ys z (Chosen-has more z rest h)
]
Chosen-has {Has = Has} (left {x} {xs} {ys} lacks more) z c h = elim (first_or_later x xs z c) [
  | inl e ↦ absurd (lacks (subst Has (sym e) h))
  | inr rest ↦ Chosen-has more z rest h
]

pub Chosen-once : {Has : Cause → Type 0} {xs ys : List Cause} → Chosen Has xs ys → Once xs → Once ys
Chosen-once nothing once = tt
Chosen-once (chosen {x} {xs} {ys} has more) once =
    ((λ c. once.0 (Chosen-in more x c).0), Chosen-once more once.1)
Chosen-once (left lacks more) once = Chosen-once more once.1

pub Chosen-join : {Has : Cause → Type 0} {xs ys us vs : List Cause} → Chosen Has xs ys →
    Chosen Has us vs → Chosen Has (xs ++ us) (ys ++ vs)
Chosen-join nothing d = d
Chosen-join (chosen has more) d = chosen has (Chosen-join more d)
Chosen-join (left lacks more) d = left lacks (Chosen-join more d)

pub chosen-one : {Has : Cause → Type 0} (x : Cause) → Has x → Chosen Has (x ∷ []) (x ∷ [])
chosen-one x has = chosen has nothing

pub chosen-none : {Has : Cause → Type 0} (x : Cause) → (Has x → ⊥) → Chosen Has (x ∷ []) []
chosen-none x lacks = left lacks nothing

pub chosen-nothing : {Has : Cause → Type 0} (xs : List Cause) →
    ((x : Cause) → Contains xs x → Has x → ⊥) → Chosen Has xs []
chosen-nothing [] none = nothing
chosen-nothing (x ∷ xs) none =
    left (none x (here x xs)) (chosen-nothing xs (λ y c. none y (later x xs y c)))

pub chosen-all : {Has : Cause → Type 0} (xs : List Cause) → ((x : Cause) → Contains xs x → Has x) →
    Chosen Has xs xs
chosen-all [] all = nothing
chosen-all (x ∷ xs) all = chosen (all x (here x xs)) (chosen-all xs (λ y c. all y (later x xs y c)))

-- ---- parts of a cause
abbrev external_of : Cause → Option Text
external_of (ImportsNames s) = Some s
external_of (ImportsWhole s) = Some s
external_of (ImportsNothing s) = Some s
external_of (Stars s) = Some s
external_of _ = None

-- 0 in front of the blocks, 1 in them, 2 behind
abbrev pub part_of : Cause → ℕ
part_of (ImportsNames s) = 0
part_of (ImportsWhole s) = 0
part_of (ImportsNothing s) = 0
part_of Helps = 0
part_of (Stars s) = 2
part_of Exports = 2
part_of _ = 1

-- which kind of cause it is
abbrev kind_of : Cause → ℕ
kind_of (Own m k) = 0
kind_of (ImportsNames s) = 1
kind_of (ImportsWhole s) = 2
kind_of (ImportsNothing s) = 3
kind_of Helps = 4
kind_of (Defines c) = 5
kind_of (Loads m c) = 6
kind_of (HoldsMeta m) = 7
kind_of (HoldsNamespace d) = 8
kind_of (Stars s) = 9
kind_of Exports = 10

-- ---- in front
abbrev pub front_causes : Program → List ℕ → List Cause
front_causes p list = flat_map import_causes (externals p list) ++ Helps ∷ []

imports-in : (s : Text) (c : Cause) → Contains (import_causes s) c →
    (external_of c ≡ Some s) × (part_of c ≡ 0) × (kind_of c < 4)
imports-in s c (zero, l, e) =
    subst (λ c. (external_of c ≡ Some s) × (part_of c ≡ 0) × (kind_of c < 4)) e
    (refl, refl, omega arith)
imports-in s c (suc zero, l, e) =
    subst (λ c. (external_of c ≡ Some s) × (part_of c ≡ 0) × (kind_of c < 4)) e
    (refl, refl, omega arith)
imports-in s c (suc (suc zero), l, e) =
    subst (λ c. (external_of c ≡ Some s) × (part_of c ≡ 0) × (kind_of c < 4)) e
    (refl, refl, omega arith)
imports-in s c (suc (suc (suc k)), l, e) = absurd (omega (arith, l))

imports-once : (s : Text) → Once (import_causes s)
imports-once s = (
  λ c. elim (first_or_later (ImportsWhole s) (ImportsNothing s ∷ []) (ImportsNames s) c)
      [ inl e ↦ absurd cc | inr d ↦ let e = only (ImportsNothing s) (ImportsNames s) d in absurd cc ],
  (
    (λ c. let e = only (ImportsNothing s) (ImportsWhole s) c in absurd cc),
    once-one (ImportsNothing s),
  ),
)

pub front-once : (p : Program) (list : List ℕ) → Once (front_causes p list)
front-once p list =
    once-join (flat_map import_causes (externals p list)) (Helps ∷ [])
    (once-flat import_causes external_of (λ s c d. (imports-in s c d).0) imports-once
    (externals p list) (once-texts _)) (once-one Helps)
    (λ c d e. let r = flat_back import_causes (externals p list) c d in let k =
    (imports-in r.0 c r.2).2 in let same = ap kind_of (only Helps c e) in omega
    (arith, k, same))

pub front-part : (p : Program) (list : List ℕ) (c : Cause) → Contains (front_causes p list) c →
    part_of c ≡ 0
front-part p list c d = elim (Contains-append_cases (flat_map import_causes (externals p list)) (Helps ∷ []) c d) [
  | inl e ↦ let r = flat_back import_causes (externals p list) c e in (imports-in r.0 c r.2).1
  | inr e ↦ ap part_of (sym (only Helps c e))
]

-- ---- behind
abbrev pub back_causes : Program → List ℕ → List Cause
back_causes p list = map Stars (externals p list) ++ Exports ∷ []

same-text : (s t : Text) → Stars s ≡ Stars t → s ≡ t
same-text s t e = let same : s ≡ t = cc in same

pub back-once : (p : Program) (list : List ℕ) → Once (back_causes p list)
back-once p list =
    once-join (map Stars (externals p list)) (Exports ∷ [])
    (once-map Stars same-text (externals p list) (once-texts _)) (once-one Exports)
    (λ c d e. let r = map_back Stars (externals p list) c d in let same = r.2
    ∙ sym (only Exports c e) in absurd cc)

pub back-part : (p : Program) (list : List ℕ) (c : Cause) → Contains (back_causes p list) c →
    part_of c ≡ 2
back-part p list c d = elim (Contains-append_cases (map Stars (externals p list)) (Exports ∷ []) c d) [
  | inl e ↦ let r = map_back Stars (externals p list) c e in ap part_of (sym r.2)
  | inr e ↦ ap part_of (sym (only Exports c e))
]

-- ---- modules
counted-in : {A : Type 0} (n : ℕ) (xs : List A) (k : ℕ) → Contains (counted n xs) k →
    (n ≤ k) × (k < n + length xs)
counted-in n [] k c = absurd (no_element c)
counted-in n (x ∷ xs) k c = elim (first_or_later n (counted (suc n) xs) k c) [
  | inl e ↦ (omega (arith, e), omega (arith, e))
  | inr rest ↦ let r = counted-in (suc n) xs k rest in (omega (arith, r.0), omega (arith, r.1))
]

counted-on : {A : Type 0} (n : ℕ) (xs : List A) (i : ℕ) → i < length xs →
    Contains (counted n xs) (n + i)
counted-on n [] i l = absurd (omega (arith, l))
counted-on n (x ∷ xs) zero l = let same : n ≡ n + 0 = omega arith in (0, omega arith, same)
counted-on n (x ∷ xs) (suc i) l =
    let same : suc n + i ≡ n + suc i = omega arith in
    later n (counted (suc n) xs) (n + suc i)
    (subst (Contains (counted (suc n) xs)) same (counted-on (suc n) xs i (omega (arith, l))))

counted-once : {A : Type 0} (n : ℕ) (xs : List A) → Once (counted n xs)
counted-once n [] = tt
counted-once n (x ∷ xs) =
    ((λ c. let r = (counted-in (suc n) xs n c).0 in omega (arith, r)), counted-once (suc n) xs)

abbrev loads_causes : Program → ℕ → List Cause
loads_causes p m = map (Loads m) (requested p m)

abbrev own_causes : Program → ℕ → List Cause
own_causes p m = map (Own m) (counted zero (own_statements (tree_of p m)))

-- the four kinds of causes of a module
module-cases : (p : Program) (m : ℕ) (c : Cause) → Contains (module_causes p m) c →
    (Defines m ≡ c) ⊎
    ((HoldsMeta m ≡ c) ⊎
    (((n : ℕ) × Contains (requested p m) n × (Loads m n ≡ c)) ⊎
    ((k : ℕ) × (k < length (own_statements (tree_of p m))) × (Own m k ≡ c))))
module-cases p m c d = elim (first_or_later (Defines m) (HoldsMeta m ∷ (loads_causes p m ++ own_causes p m)) c d) [
  | inl e ↦ inl e
  | inr f ↦ elim (first_or_later (HoldsMeta m) (loads_causes p m ++ own_causes p m) c f) [
    | inl e ↦ inr (inl e)
    | inr g ↦ elim (Contains-append_cases (loads_causes p m) (own_causes p m) c g) [
      | inl e ↦ inr (inr (inl (map_back (Loads m) (requested p m) c e)))
      | inr e ↦ let r = map_back (Own m) (counted zero (own_statements (tree_of p m))) c e in
          let l = (counted-in zero (own_statements (tree_of p m)) r.0 r.1).1 in
          inr (inr (inr (r.0, omega (arith, l), r.2)))
    ]
  ]
]

pub module-owner : (p : Program) (m : ℕ) (c : Cause) → Contains (module_causes p m) c →
    (owner_of c ≡ Some m) × (part_of c ≡ 1)
module-owner p m c d = elim (module-cases p m c d) [
  | inl e ↦ (ap owner_of (sym e), ap part_of (sym e))
  | inr (inl e) ↦ (ap owner_of (sym e), ap part_of (sym e))
  | inr (inr (inl r)) ↦ (ap owner_of (sym r.2), ap part_of (sym r.2))
  | inr (inr (inr r)) ↦ (ap owner_of (sym r.2), ap part_of (sym r.2))
]

same-load : (m : ℕ) (a b : ℕ) → Loads m a ≡ Loads m b → a ≡ b
same-load m a b e = let same : a ≡ b = cc in same

same-own : (m : ℕ) (a b : ℕ) → Own m a ≡ Own m b → a ≡ b
same-own m a b e = let same : a ≡ b = cc in same

module-once : (p : Program) (m : ℕ) → Once (module_causes p m)
module-once p m = (
  λ c. elim (first_or_later (HoldsMeta m) rest (Defines m) c) [
    | inl e ↦ absurd cc
    | inr d ↦ elim (rest-in (Defines m) d) [ inl k ↦ omega (arith, k) | inr k ↦ omega (arith, k) ]
  ],
  (
    λ c. elim (rest-in (HoldsMeta m) c) [ inl k ↦ omega (arith, k) | inr k ↦ omega (arith, k) ],
    once-join (loads_causes p m) (own_causes p m)
        (once-map (Loads m) (same-load m) (requested p m) (once-numbers _))
        (once-map (Own m) (same-own m) (counted zero (own_statements (tree_of p m)))
        (counted-once zero _))
        (λ c d e. let r = ap kind_of (map_back (Loads m) (requested p m) c d).2 in let s = ap kind_of
        (map_back (Own m) (counted zero (own_statements (tree_of p m))) c e).2 in omega
        (arith, r, s)),
  ),
)
  where
    rest : List Cause
    rest = loads_causes p m ++ own_causes p m

    rest-in : (c : Cause) → Contains (loads_causes p m ++ own_causes p m) c →
        (kind_of c ≡ 6) ⊎ (kind_of c ≡ 0)
    rest-in c d = elim (Contains-append_cases (loads_causes p m) (own_causes p m) c d) [
      | inl e ↦ inl (ap kind_of (sym (map_back (Loads m) (requested p m) c e).2))
      | inr e ↦ inr
          (ap kind_of (sym (map_back (Own m) (counted zero (own_statements (tree_of p m))) c e).2))
    ]

-- ---- blocks
abbrev pub block_causes : Program → List ℕ → List Cause
block_causes p members = flat_map (module_causes p) members ++ map HoldsNamespace members

-- the module of a cause, also of a namespace's object
abbrev pub module_of_cause : Cause → Option ℕ
module_of_cause (HoldsNamespace d) = Some d
module_of_cause c = owner_of c

module-key : (p : Program) (m : ℕ) (c : Cause) → Contains (module_causes p m) c →
    module_of_cause c ≡ Some m
module-key p m c d = elim (module-cases p m c d) [
  | inl e ↦ ap module_of_cause (sym e)
  | inr (inl e) ↦ ap module_of_cause (sym e)
  | inr (inr (inl r)) ↦ ap module_of_cause (sym r.2)
  | inr (inr (inr r)) ↦ ap module_of_cause (sym r.2)
]

same-namespace : (a b : ℕ) → HoldsNamespace a ≡ HoldsNamespace b → a ≡ b
same-namespace a b e = let same : a ≡ b = cc in same

pub block-once : (p : Program) (members : List ℕ) → Once members → Once (block_causes p members)
block-once p members once =
    once-join (flat_map (module_causes p) members) (map HoldsNamespace members)
    (once-flat (module_causes p) owner_of (λ m c d. (module-owner p m c d).0) (module-once p)
    members once) (once-map HoldsNamespace same-namespace members once)
    (λ c d e. let r = flat_back (module_causes p) members c d in let o =
    (module-owner p r.0 c r.2).0 in let s = map_back HoldsNamespace members c e in none-some
    r.0 (ap owner_of s.2 ∙ o))

-- the module of a cause of a block is one of its members
pub block-in : (p : Program) (members : List ℕ) (c : Cause) → Contains (block_causes p members) c →
    (part_of c ≡ 1) × ((m : ℕ) × Contains members m × (module_of_cause c ≡ Some m))
block-in p members c d = elim (Contains-append_cases (flat_map (module_causes p) members) (map HoldsNamespace members) c d) [
  | inl e ↦ let r = flat_back (module_causes p) members c e in
      ((module-owner p r.0 c r.2).1, (r.0, r.1, module-key p r.0 c r.2))
  | inr e ↦ let r = map_back HoldsNamespace members c e in
      (ap part_of (sym r.2), (r.0, r.1, ap module_of_cause (sym r.2)))
]

-- ---- what stands among the causes of a block
pub block-module : (p : Program) (members : List ℕ) (m : ℕ) (c : Cause) → Contains members m →
    Contains (module_causes p m) c → Contains (block_causes p members) c
block-module p members m c there d =
    Contains-append_left (flat_map (module_causes p) members) (map HoldsNamespace members) c
    (flat_on (module_causes p) members m c there d)

pub block-namespace : (p : Program) (members : List ℕ) (m : ℕ) → Contains members m →
    Contains (block_causes p members) (HoldsNamespace m)
block-namespace p members m there =
    Contains-append_right (flat_map (module_causes p) members) (map HoldsNamespace members)
    (HoldsNamespace m) (map_on HoldsNamespace members m there)

abbrev later_causes : Program → ℕ → List Cause
later_causes p m = loads_causes p m ++ own_causes p m

pub module-defines : (p : Program) (m : ℕ) → Contains (module_causes p m) (Defines m)
module-defines p m = here (Defines m) (HoldsMeta m ∷ later_causes p m)

pub module-meta : (p : Program) (m : ℕ) → Contains (module_causes p m) (HoldsMeta m)
module-meta p m =
    later (Defines m) (HoldsMeta m ∷ later_causes p m) (HoldsMeta m)
    (here (HoldsMeta m) (later_causes p m))

deeper : (p : Program) (m : ℕ) (c : Cause) → Contains (later_causes p m) c →
    Contains (module_causes p m) c
deeper p m c d =
    later (Defines m) (HoldsMeta m ∷ later_causes p m) c
    (later (HoldsMeta m) (later_causes p m) c d)

pub module-loads : (p : Program) (m c : ℕ) → Contains (requested p m) c →
    Contains (module_causes p m) (Loads m c)
module-loads p m c d =
    deeper p m (Loads m c)
    (Contains-append_left (loads_causes p m) (own_causes p m) (Loads m c)
    (map_on (Loads m) (requested p m) c d))

pub module-own : (p : Program) (m k : ℕ) → k < length (own_statements (tree_of p m)) →
    Contains (module_causes p m) (Own m k)
module-own p m k l =
    let same : 0 + k ≡ k = omega arith in
    deeper p m (Own m k)
    (Contains-append_right (loads_causes p m) (own_causes p m) (Own m k)
    (map_on (Own m) (counted zero (own_statements (tree_of p m))) k
    (subst (Contains (counted zero (own_statements (tree_of p m)))) same
    (counted-on zero (own_statements (tree_of p m)) k l))))

-- ---- lists of numbers
pub once-from : (xs : List ℕ) → IsOnce xs → Once xs
once-from [] once = tt
once-from (x ∷ xs) once = (once.0, once-from xs once.1)

-- ---- where what is due stands
-- a cause of a listed module stands among those of each block that has the module
pub record IsOfListed (p : Program) (list : List ℕ) (c : Cause) : Type 0 where
  pub which : ℕ
  pub listed : Contains list which
  pub stands : (members : List ℕ) → Contains members which → Contains (block_causes p members) c

module _ (p : Program) (form : Form) (list : List ℕ) (is : IsList p list) where
  of-module : (m : ℕ) (c : Cause) → IsReached p m → Contains (module_causes p m) c →
      IsOfListed p list c
  of-module m c reached there = record {
    which = m;
    listed = (list-reached p list is m).1 reached;
    stands = λ members d. block-module p members m c d there;
  }

  in-front : (s : Text) (c : Cause) → Bundle.IsUsed p s → Contains (import_causes s) c →
      Contains (front_causes p list) c
  in-front s c used there =
      Contains-append_left (flat_map import_causes (externals p list)) (Helps ∷ []) c
      (flat_on import_causes (externals p list) s c (used-listed p list is s used) there)

  asked : (m c : ℕ) → AsksCommonJs p m c → Contains (requested p m) c
  asked m c asks = declared_leads p m c asks.specifier asks.asks asks.resolved

  pub due-stands : {c : Cause} → IsDue p form c →
      Contains (front_causes p list) c ⊎ (IsOfListed p list c ⊎ Contains (back_causes p list) c)
  due-stands (Bundle.own {m} {k} reached es l) =
      inr (inl (of-module m (Own m k) reached (module-own p m k l)))
  due-stands (Bundle.imports_names {s} used means) =
      inl (in-front s (ImportsNames s) used (0, omega arith, refl))
  due-stands (Bundle.imports_whole {s} used means) =
      inl (in-front s (ImportsWhole s) used (1, omega arith, refl))
  due-stands (Bundle.imports_nothing {s} used names whole) =
      inl (in-front s (ImportsNothing s) used (2, omega arith, refl))
  due-stands (Bundle.helps reached cjs) =
      inl
      (Contains-append_right (flat_map import_causes (externals p list)) (Helps ∷ []) Helps
      (here Helps []))
  due-stands (Bundle.defines {c} reached cjs) =
      inr (inl (of-module c (Defines c) reached (module-defines p c)))
  due-stands (Bundle.loads {m} {c} reached es asks) =
      inr (inl (of-module m (Loads m c) reached (module-loads p m c (asked m c asks))))
  due-stands (Bundle.holds_meta {m} reached has) =
      inr (inl (of-module m (HoldsMeta m) reached (module-meta p m)))
  due-stands (Bundle.holds_namespace {d} meant) =
      inr
      (inl
      (record {
        which = d;
        listed = (list-reached p list is d).1 (meant-reached p meant);
        stands = λ members there. block-namespace p members d there;
      }))
  due-stands (Bundle.stars {s} star) =
      inr
      (inr
      (Contains-append_left (map Stars (externals p list)) (Exports ∷ []) (Stars s)
      (map_on Stars (externals p list) s
      (used-listed p list is s (star-used p star itself)))))
  due-stands (Bundle.exports e linked) =
      inr
      (inr
      (Contains-append_right (map Stars (externals p list)) (Exports ∷ []) Exports
      (here Exports [])))
  due-stands (Bundle.returns e) =
      inr
      (inr
      (Contains-append_right (map Stars (externals p list)) (Exports ∷ []) Exports
      (here Exports [])))

-- ---- blocks
pub in-some : (blocks : List (List ℕ)) (members : List ℕ) (m : ℕ) → Contains blocks members →
    Contains members m → InSome blocks m
in-some [] members m there c = absurd (no_element there)
in-some (first ∷ blocks) members m there c = elim (first_or_later first blocks members there) [
  | inl e ↦ inl (subst (λ (l : List ℕ). Contains l m) (sym e) c)
  | inr k ↦ inr (in-some blocks members m k c)
]

pub some-in : (blocks : List (List ℕ)) (m : ℕ) → InSome blocks m →
    (members : List ℕ) × Contains blocks members × Contains members m
some-in [] m h = absurd h
some-in (first ∷ blocks) m (inl c) = (first, here first blocks, c)
some-in (first ∷ blocks) m (inr h) =
    let r = some-in blocks m h in (r.0, later first blocks r.0 r.1, r.2)

module _ (p : Program) (form : Form) (tree : List Item) (reading : Reading) (pairing : Pairing)
  where
    abbrev Laid : List ℕ → List Cause → Type 0
    Laid members plan = IsBlockLaidOut p form tree reading pairing members plan

    alone : (m : ℕ) → block_causes p (m ∷ []) ≡ module_causes p m ++ HoldsNamespace m ∷ []
    alone m = ap (λ (l : List Cause). l ++ HoldsNamespace m ∷ []) (append-nil (module_causes p m))

    block-laid-in : {members : List ℕ} {plan : List Cause} → Laid members plan → (c : Cause) →
        Contains plan c → Contains (block_causes p members) c × IsDue p form c
    block-laid-in (lone {m} {plan} apart picked) c d =
        let r = Chosen-in picked c d in
        (subst (λ (l : List Cause). Contains l c) (sym (alone m)) r.0, r.1)
    block-laid-in (cycle {members} {plan} numbered items order by_needs asks picked stand good read) c d =
        let r = read-back numbered order plan read c d in
        Chosen-in picked c (contains-get numbered r.0 c r.2)

    block-laid-has : {members : List ℕ} {plan : List Cause} → Laid members plan → (c : Cause) →
        Contains (block_causes p members) c → IsDue p form c → Contains plan c
    block-laid-has (lone {m} {plan} apart picked) c d due =
        Chosen-has picked c (subst (λ (l : List Cause). Contains l c) (alone m) d) due
    block-laid-has (cycle {members} {plan} numbered items order by_needs asks picked stand good read) c d due =
        let at = get-contains numbered c (Chosen-has picked c d due) in
        let within = slice_get_within numbered at.0 c at.1 in
        let same = length-zip (StandsFor pairing) numbered items stand in
        let here : at.0 < length
        (group_of reading pairing.top tree items (map owner_of numbered)).items =
        subst (λ n. at.0 < n) (same ∙ sym (length-mapped _ items)) within in
        read-on numbered order plan read at.0 c ((good.order_of.all at.0).0 here) at.1

    block-laid-once : {members : List ℕ} {plan : List Cause} → Laid members plan → Once members →
        Once plan
    block-laid-once (lone {m} {plan} apart picked) once =
        Chosen-once picked (subst Once (alone m) (block-once p (m ∷ []) once))
    block-laid-once (cycle {members} {plan} numbered items order by_needs asks picked stand good read) once =
        read-once numbered order plan read (Chosen-once picked (block-once p members once))
        (IsOnce-from_distinct order good.order_of.once)

    -- a cause of one of these blocks
    pub record IsOfBlock (blocks : List (List ℕ)) (c : Cause) : Type 0 where
      pub members : List ℕ
      pub block : Contains blocks members
      pub stands : Contains (block_causes p members) c

    further : (first : List ℕ) (blocks : List (List ℕ)) (c : Cause) → IsOfBlock blocks c →
        IsOfBlock (first ∷ blocks) c
    further first blocks c its = record {
      members = its.members;
      block = later first blocks its.members its.block;
      stands = its.stands;
    }

    blocks-laid-in : {blocks : List (List ℕ)} {plan : List Cause} →
        AreBlocksLaidOut p form tree reading pairing blocks plan → (c : Cause) → Contains plan c →
        IsOfBlock blocks c × IsDue p form c
    blocks-laid-in over c d = absurd (no_element d)
    blocks-laid-in (next {members} {blocks} {rest} plan one more) c d = elim (Contains-append_cases plan rest c d) [
      | inl e ↦ let r = block-laid-in one c e in
          (record { members = members; block = here members blocks; stands = r.0 }, r.1)
      | inr e ↦ let r = blocks-laid-in more c e in (further members blocks c r.0, r.1)
    ]

    blocks-laid-has : {blocks : List (List ℕ)} {plan : List Cause} →
        AreBlocksLaidOut p form tree reading pairing blocks plan → (members : List ℕ) (c : Cause) →
        Contains blocks members → Contains (block_causes p members) c → IsDue p form c →
        Contains plan c
    blocks-laid-has over members c there d due = absurd (no_element there)
    blocks-laid-has (next {members = first} {blocks = blocks} {rest = rest} plan one more) members c there d due = elim (first_or_later first blocks members there) [
      | inl e ↦ Contains-append_left plan rest c
          (block-laid-has one c (subst (λ (l : List ℕ). Contains (block_causes p l) c) (sym e) d) due)
      | inr k ↦ Contains-append_right plan rest c (blocks-laid-has more members c k d due)
    ]

    blocks-laid-once : {blocks : List (List ℕ)} {plan : List Cause} →
        AreBlocksLaidOut p form tree reading pairing blocks plan → AreOnce blocks → AreApart blocks →
        Once plan
    blocks-laid-once over once apart = tt
    blocks-laid-once (next {members} {blocks} {rest} plan one more) once apart =
        once-join plan rest (block-laid-once one (once-from members once.0))
        (blocks-laid-once more once.1 apart.1)
        (λ c d e.
        let mine = (block-in p members c (block-laid-in one c d).0).1 in
        let its = (blocks-laid-in more c e).0 in
        let other = (block-in p its.members c its.stands).1 in
        let same = same_Some other.0 mine.0 (sym other.2 ∙ mine.2) in
        apart.0 mine.0 mine.1 (subst (InSome blocks) same (in-some blocks its.members other.0 its.block other.1)))

-- ---- the whole
module _ (p : Program) (form : Form) (reading : Reading) (tree : List Item) (pairing : Pairing)
    (laid : IsLaidOut p form reading tree pairing) where
  covered : (m : ℕ) → Contains laid.list m →
      (members : List ℕ) × Contains laid.blocks members × Contains members m
  covered m c = some-in laid.blocks m
      (blocks-has (SharesBlock p) (shares-flip p) (shares-join p) laid.list laid.list laid.blocks
      laid.are_blocks m c (itself, itself, λ asked. refl) m c (itself, itself, λ asked. refl))

  whole-in : (c : Cause) → Contains (laid.front ++ (laid.middle ++ laid.back)) c → IsDue p form c
  whole-in c d = elim (Contains-append_cases laid.front (laid.middle ++ laid.back) c d) [
    | inl e ↦ (Chosen-in laid.in_front c e).1
    | inr e ↦ elim (Contains-append_cases laid.middle laid.back c e) [
      | inl f ↦ (blocks-laid-in p form tree reading pairing laid.in_blocks c f).1
      | inr f ↦ (Chosen-in laid.behind c f).1
    ]
  ]

  whole-has : (c : Cause) → IsDue p form c → Contains (laid.front ++ (laid.middle ++ laid.back)) c
  whole-has c due = elim (due-stands p form laid.list laid.is_list due) [
    | inl d ↦ Contains-append_left laid.front (laid.middle ++ laid.back) c
        (Chosen-has laid.in_front c d due)
    | inr (inl its) ↦ let r = covered its.which its.listed in
        Contains-append_right laid.front (laid.middle ++ laid.back) c (Contains-append_left laid.middle laid.back c
        (blocks-laid-has p form tree reading pairing laid.in_blocks r.0 c r.1 (its.stands r.0 r.2) due))
    | inr (inr d) ↦ Contains-append_right laid.front (laid.middle ++ laid.back) c
        (Contains-append_right laid.middle laid.back c (Chosen-has laid.behind c d due))
  ]

  -- what is due stands, and nothing else does
  pub laid-due : (cause : Cause) → Contains pairing.plan cause ↔ IsDue p form cause
  laid-due c = (
    λ d. whole-in c (subst (λ (l : List Cause). Contains l c) laid.plan d),
    λ due. subst (λ (l : List Cause). Contains l c) (sym laid.plan) (whole-has c due),
  )

  front-is : (c : Cause) → Contains laid.front c → part_of c ≡ 0
  front-is c d = front-part p laid.list c (Chosen-in laid.in_front c d).0

  middle-is : (c : Cause) → Contains laid.middle c → part_of c ≡ 1
  middle-is c d =
      let its = (blocks-laid-in p form tree reading pairing laid.in_blocks c d).0 in
      (block-in p its.members c its.stands).0

  back-is : (c : Cause) → Contains laid.back c → part_of c ≡ 2
  back-is c d = back-part p laid.list c (Chosen-in laid.behind c d).0

  whole-once : Once (laid.front ++ (laid.middle ++ laid.back))
  whole-once =
      once-join laid.front (laid.middle ++ laid.back)
      (Chosen-once laid.in_front (front-once p laid.list))
      (once-join laid.middle laid.back
      (blocks-laid-once p form tree reading pairing laid.in_blocks
      (blocks-once (SharesBlock p) (shares-flip p) (shares-join p) laid.list
      (list-once p laid.list laid.is_list) laid.list laid.blocks laid.are_blocks)
      (blocks-apart (SharesBlock p) (shares-flip p) (shares-join p) laid.list laid.list laid.blocks laid.are_blocks))
      (Chosen-once laid.behind (back-once p laid.list))
      (λ c d e. let x = middle-is c d in let y = back-is c e in omega (arith, x, y)))
      (λ c d e. let x = front-is c d in elim (Contains-append_cases laid.middle laid.back c e) [
        | inl f ↦ let y = middle-is c f in omega (arith, x, y)
        | inr f ↦ let y = back-is c f in omega (arith, x, y)
      ])

  -- each once
  pub laid-once : (i j : ℕ) (cause : Cause) → slice_get pairing.plan i ≡ Some cause →
      slice_get pairing.plan j ≡ Some cause → i ≡ j
  laid-once i j c e f = once-places pairing.plan (subst Once (sym laid.plan) whole-once) i j c e f
