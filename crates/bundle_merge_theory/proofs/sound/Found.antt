-- What linking finds of modules by their places is what the definitions say of them.
-- What linking answers is what is decided: the answers that its clauses promise are one alone.
use Rattle.std.proofs.Common.{◌≡◌, ◌↔◌, inl, ℕ, zero, suc, ◌+◌, ◌<◌, ◌≤◌, Bool, true, false, List, [], ◌∷◌, ◌++◌, Contains, map, refl, sym, ap, ◌∙◌, subst, ltb, arith, inr}
use Rattle.std.specs.Prelude.{IsTrue, filter_map}
use Rattle.std.specs.List.{All, AllZip}
use Rattle.std.proofs.lemmas.Bool.{false≢true, ltb-false, ltb-true, true≢false}
use Rattle.std.specs.Borrow.{Bor}
use Rattle.std.specs.Cmp.Lexicographic.{slice_cmp}
use Rattle.std.specs.Ordering.{is_lt, nat_cmp, ordering_reverse}
use Rattle.std.specs.declared.cmp.Ordering.TheVariants.{Less}
use Rattle.std.proofs.lemmas.Cmp.{nat_list_cmp_total}
use Rattle.bundle_order_graph.specs.Walks.{itself, along}
use Rattle.bundle_order_graph.proofs.WalkLemmas.{Reaches-trans}
use Rattle.bundle_order_graph.specs.Blocks.{Members}
use Rattle.bundle_rules.specs.Nodes.{Text, numbers_once}
use Rattle.bundle_rules.specs.Program.{Program, tree_of, resolves, requested, IsReached, IsList}
use Rattle.bundle_rules.specs.Entries.{declared_requests, Taken}
use Rattle.bundle_rules.specs.Linking as in_linking
use Rattle.bundle_rules.specs.Linking.{IsLinked, HasExternalStar}
use Rattle.bundle_rules.specs.Bundle.{AsModule, AreLinked, AsksCommonJs, externals, IsAscending, AreNames}
use Rattle.bundle_rules.specs.Meaning.{Of, IsMeant}
use Rattle.bundle_rules.specs.Tables.{TellsCommonJs, TellsMeant}
use Rattle.bundle_link_index.specs.declared.target.TargetRef.{TargetRef as Found}
use Rattle.bundle_link_index.proofs.ProgramLemmas.{map_on as map-there, later, first_or_later}
use Rattle.bundle_link_index.specs.Leads.{flagged}
use Rattle.bundle_link_targets.specs.Handed.{IsExternalOf, IsLoadOf, AreLoadsIn, AreExternalsOf}
use Rattle.bundle_link_targets.specs.Lists.{list_in}
use Rattle.bundle_link_targets.specs.Names.{target_pair}
use Rattle.bundle_link_targets.specs.Taken as picks
use Rattle.bundle_link_targets.specs.Taken.{specifier_of, AreTaken, PicksThose}
use Rattle.bundle_link_targets.specs.declared.linking.Linking.{Linking}
use Rattle.bundle_link_targets.specs.declared.target.External.{External}
use Rattle.bundle_link_targets.specs.declared.target.Loaded.{Loaded}
use Rattle.bundle_link_targets.proofs.HandedLemmas.{object-told}
use Rattle.bundle_link_targets.proofs.CalledLemmas.{numbers-back as once_back}
use Rattle.bundle_link_targets.proofs.ListLemmas.{first-there as here}
use Rattle.bundle_link.specs.Judged.{numbers_below}
use Rattle.bundle_link.proofs.AlikeLemmas.{filter_back, some_back}
use Rattle.bundle_link.proofs.OrderLemmas.{entry_last}
use Rattle.bundle_merge_theory.specs.planned.Decided as decided
use Rattle.bundle_merge_theory.specs.planned.Decided.{Decided, DecidedLoad, DecidedBlock, IsExternalDecided, IsLoadDecided, IsModuleDecided, HandsOutNames, numbers_from, DecidedExternal}
use Rattle.bundle_merge_theory.specs.planned.Placed.{ArePlacesFound}
use Rattle.bundle_merge_theory.proofs.planned.OrderLemmas.{loads-found, map_back, no_element, filter-same}
use Rattle.bundle_merge_theory.proofs.planned.RequestLemmas.{declared_leads, list-reached, numbers-grow}
use Rattle.bundle_merge_theory.specs.sound.Decided.{AreTablesLinked, decided_by, exports_some, external_of, has_some, load_of}

-- ---- numbers
pub below-from : (n : ℕ) → numbers_below n ≡ numbers_from zero n
below-from zero = refl
below-from (suc n) =
    let same : n ≡ 0 + n = omega arith in
    ap (λ (l : List ℕ). l ++ n ∷ []) (below-from n)
    ∙ ap (λ (k : ℕ). numbers_from zero n ++ k ∷ []) same ∙ sym (numbers-grow zero n)

pub there-from : (i n k : ℕ) → k < n → Contains (numbers_from i n) (i + k)
there-from i zero k l = absurd (omega (arith, l))
there-from i (suc n) zero l =
    let same : i ≡ i + 0 = omega arith in
    subst (Contains (numbers_from i (suc n))) same (here i (numbers_from (suc i) n))
there-from i (suc n) (suc k) l =
    let same : suc i + k ≡ i + suc k = omega arith in
    let rest = there-from (suc i) n k (omega (arith, l)) in
    subst (Contains (numbers_from i (suc n))) same (suc rest.0, omega (arith, rest.1), rest.2)

pub from-there : (i n k : ℕ) → Contains (numbers_from i n) k → k < i + n
from-there i zero k (j, l, e) = absurd (omega (arith, l))
from-there i (suc n) k (zero, l, e) = omega (arith, e)
from-there i (suc n) k (suc j, l, e) =
    let rest = from-there (suc i) n k (j, omega (arith, l), e) in omega (arith, rest)

last-of : List ℕ → ℕ
last-of [] = zero
last-of (x ∷ []) = x
last-of (x ∷ y ∷ rest) = last-of (y ∷ rest)

last-is : (xs : List ℕ) (x : ℕ) → last-of (xs ++ x ∷ []) ≡ x
unfolding last-of
last-is [] x = refl
last-is (a ∷ []) x = refl
last-is (a ∷ b ∷ xs) x = last-is (b ∷ xs) x

-- ---- what is so of all elements of a list
pub all-there : {A : Type 0} (P : A → Type 0) (xs : List A) → All P xs → (x : A) →
    Contains xs x → P x
all-there P xs all x c = subst P c.2 (all c.0 x c.1)

mapped : (loads : List Loaded) →
    map (λ (load : DecidedLoad). load.which) (map load_of loads) ≡ map (λ loaded. loaded.which)
    loads
mapped [] = refl
mapped (its ∷ loads) = ap (λ (l : List ℕ). its.which ∷ l) (mapped loads)

externals-decided : (q : Program) (found : List External) →
    ((its : External) → Contains found its → IsExternalOf q its) →
    AllZip (IsExternalDecided q) (map external_of found) (map specifier_of found)
externals-decided q [] each = tt
externals-decided q (its ∷ found) each =
    let one = each its (here its found) in (
      record { same = refl; names = one.names; whole = one.whole },
      externals-decided q found
          (λ other c. each other (suc c.0, omega (arith, c.1), c.2)),
    )

-- names are linked where the list of them has something
pub exported-some : (q : Program) (m : ℕ) (pairs : List (Bor Text × Found)) →
    AreLinked q m (map target_pair pairs) → IsTrue (has_some pairs) → (x : Text) × IsLinked q m x
exported-some q m [] linked is = absurd (false≢true is)
exported-some q m (pair ∷ pairs) linked is =
    let its = target_pair pair in
    (its.0, (its.1, (linked.all its.0 its.1).0 (here its (map target_pair pairs))))

pub some-exported : (q : Program) (m : ℕ) (pairs : List (Bor Text × Found)) →
    AreLinked q m (map target_pair pairs) → (x : Text) → IsLinked q m x → IsTrue (has_some pairs)
some-exported q m [] linked x is =
    let c = (linked.all x is.0).1 is.1 in absurd (omega (arith, c.1))
some-exported q m (pair ∷ pairs) linked x is = refl

-- the entry is the last
pub entry-at : (q : Program) (n : ℕ) → IsList q (numbers_from zero n) → suc q.entry ≡ n
entry-at q n is = by n refl
  where
    its : (before : List ℕ) × (numbers_from zero n ≡ before ++ q.entry ∷ [])
    its = entry_last (requested q) q.entry (numbers_from zero n) (q.entry ∷ []) refl is

    last : last-of (numbers_from zero n) ≡ q.entry
    last = ap last-of its.1 ∙ last-is its.0 q.entry

    none-there : (k : ℕ) → [] ≡ its.0 ++ q.entry ∷ [] → ⊥
    none-there k e = by_front its.0 e
      where
        by_front : (before : List ℕ) → [] ≡ before ++ q.entry ∷ [] → ⊥
        by_front [] e = let no : ◌≡◌ {A = List ℕ} [] (q.entry ∷ []) = e in cc
        by_front (x ∷ before) e =
            let no : ◌≡◌ {A = List ℕ} [] (x ∷ (before ++ q.entry ∷ [])) = e in cc

    by : (k : ℕ) → n ≡ k → suc q.entry ≡ n
    by zero e =
        absurd (none-there zero (sym (ap (numbers_from zero) e) ∙ its.1))
    by (suc k) e =
        let grown : last-of (numbers_from zero n) ≡ 0 + k =
        ap (λ (m : ℕ). last-of (numbers_from zero m)) e
        ∙ (ap last-of (numbers-grow zero k) ∙ last-is (numbers_from zero k) (0 + k)) in
        omega (arith, e, last, grown)

module _ (q : Program) (n : ℕ) (linking : Linking) (meta : ℕ → Bool) (count : ℕ → ℕ) (w : AreTablesLinked q n linking meta count) (blocks : List DecidedBlock) where
  abbrev its : Decided
  its = decided_by linking meta count n blocks

  pub reached-below : (k : ℕ) → k < n → IsReached q k
  reached-below k l =
      let same : 0 + k ≡ k = omega arith in
      (list-reached q (numbers_from zero n) w.list k).0
      (subst (Contains (numbers_from zero n)) same (there-from zero n k l))

  -- what a module loads
  loads-of : (k : ℕ) → k < n → AreLoadsIn q k (list_in linking.outside.loads.items k)
  loads-of k l = w.handed.loads k (reached-below k l)

  taken-of : (k : ℕ) → k < n → (load : DecidedLoad) →
      Contains (map load_of (list_in linking.outside.loads.items k)) load → IsLoadDecided q k load
  taken-of k l load c =
      let back = map_back load_of (list_in linking.outside.loads.items k) load c in
      let one =
      all-there (IsLoadOf q k) (list_in linking.outside.loads.items k)
      ((loads-of k l).meant w.modules) back.0 back.1 in
      subst (IsLoadDecided q k) back.2 (record { names = one.names; whole = one.whole })

  -- what is loaded is a module of the list
  within-loads : (k : ℕ) → k < n → (load : DecidedLoad) →
      Contains (map load_of (list_in linking.outside.loads.items k)) load → load.which < n
  within-loads k l load c =
      let loads = loads-of k l in
      let back = map_back load_of (list_in linking.outside.loads.items k) load c in
      let there =
      subst (λ (ns : List ℕ). Contains ns load.which) loads.modules
      (subst
      (λ (m : ℕ). Contains
      (map (λ loaded. loaded.which) (list_in linking.outside.loads.items k)) m)
      (ap (λ (its : DecidedLoad). its.which) back.2)
      (map-there (λ loaded. loaded.which) (list_in linking.outside.loads.items k) back.0
      back.1)) in
      let led =
      filter_back loads.test (filter_map (resolves q k) (declared_requests (tree_of q k)))
      load.which (once_back _ load.which there) in
      let s = some_back (resolves q k) (declared_requests (tree_of q k)) load.which led in
      let reached =
      Reaches-trans (reached-below k l)
      (along (declared_leads q k load.which s.0 s.1 s.2) itself) in
      let below =
      from-there zero n load.which
      ((list-reached q (numbers_from zero n) w.list load.which).1 reached) in
      omega (arith, below)

  -- what is found of a module
  pub module-found : (k : ℕ) → k < n →
      IsModuleDecided q (decided_by linking meta count n blocks) k
  module-found k l =
      let loads = loads-of k l in
      record {
        common_js = w.linked.common_js k;
        loads = λ es.
            subst (Members (AsksCommonJs q k) (requested q k))
            (sym (mapped (list_in linking.outside.loads.items k) ∙ loads.modules))
            (loads-found q k loads.test loads.tells);
        taken = taken-of k l;
        meta = w.told.meta_told k l;
        statements = w.told.counted k l;
        object =
            object-told q linking.meant.targets (w.linked.meant w.modules) k (its.is_object_meant k)
            refl;
      }

  -- what is found of externals
  pub outside-found : AllZip (IsExternalDecided q) (map external_of linking.outside.externals.items)
      (externals q (numbers_from zero n))
  outside-found =
      subst (AllZip (IsExternalDecided q) (map external_of linking.outside.externals.items))
      w.handed.externals.specifiers
      (externals-decided q linking.outside.externals.items
      (all-there (IsExternalOf q) linking.outside.externals.items
      (w.handed.externals.meant w.modules)))

  -- whether something is exported
  pub exports-found : IsTrue (exports_some linking n) ↔ HandsOutNames q AsModule
  exports-found = (
    λ is. let r = exported-some q q.entry pairs linked_names (sym at ∙ is) in
        decided.exported r.1,
    λ hands. at ∙ handed_out hands,
  )
    where
      pairs : List (Bor Text × Found)
      pairs = list_in linking.meant.linked.items q.entry

      linked_names : AreLinked q q.entry (map target_pair pairs)
      linked_names = w.linked.linked w.modules q.entry (inl refl)

      at : exports_some linking n ≡ has_some pairs
      at = ap (exports_some linking) (sym (entry-at q n w.list))

      handed_out : HandsOutNames q AsModule → IsTrue (has_some pairs)
      handed_out (decided.exported {x} is) = some-exported q q.entry pairs linked_names x is

  -- and what is found of all of them, where nothing is loaded by what is none of them
  pub found : ((k : ℕ) → (k < n → ⊥) → list_in linking.outside.loads.items k ≡ []) →
      ArePlacesFound q AsModule n (decided_by linking meta count n blocks)
  found none = record {
    modules = module-found;
    within = within;
    outside = outside-found;
    starred = w.handed.stars;
    exports = exports-found;
  }
    where
      by : (k : ℕ) (t : Bool) → ltb k n ≡ t → (load : DecidedLoad) →
          Contains (map load_of (list_in linking.outside.loads.items k)) load → load.which < n
      by k true e load c =
          let l : k < n = ltb-true k n e in
          within-loads k l load c
      by k false e load c =
          let past : n ≤ k = ltb-false k n e in
          let nothing =
          subst (λ (its : List Loaded). Contains (map load_of its) load)
          (none k (λ l. omega (arith, l, past))) c in
          absurd (omega (arith, nothing.1))

      within : (k : ℕ) (load : DecidedLoad) →
          Contains (map load_of (list_in linking.outside.loads.items k)) load → load.which < n
      within k load c = by k (ltb k n) refl load c

-- ---- two tests of one thing
pub one-answer : {A : Type 0} (a b : Bool) → (IsTrue a ↔ A) → (IsTrue b ↔ A) → a ≡ b
one-answer true true f g = refl
one-answer false false f g = refl
one-answer true false f g = absurd (false≢true (g.1 (f.0 refl)))
one-answer false true f g = absurd (false≢true (f.1 (g.0 refl)))

-- ---- ascending names
-- each is above
abbrev Above : Text → List Text → Type 0
Above x [] = Unit {0}
Above x (y ∷ ys) = (slice_cmp nat_cmp x y ≡ Less) × Above x ys

above-more : (x y : Text) (ys : List Text) → slice_cmp nat_cmp x y ≡ Less → Above y ys → Above x ys
above-more x y [] less above = tt
above-more x y (z ∷ zs) less above =
    (nat_list_cmp_total.trans x y z less above.0, above-more x y zs less above.1)

above-rest : (x : Text) (xs : List Text) → IsAscending (x ∷ xs) → Above x xs × IsAscending xs
above-rest x [] up = (tt, tt)
above-rest x (y ∷ xs) up =
    ((up.0, above-more x y xs up.0 (above-rest y xs up.1).0), up.1)

above-there : (x : Text) (xs : List Text) → Above x xs → (y : Text) → Contains xs y →
    slice_cmp nat_cmp x y ≡ Less
above-there x [] above y c = absurd (no_element c)
above-there x (z ∷ xs) above y c = elim (first_or_later z xs y c) [
  | inl e ↦ subst (λ w. slice_cmp nat_cmp x w ≡ Less) e above.0
  | inr rest ↦ above-there x xs above.1 y rest
]

not-below-itself : (x : Text) → slice_cmp nat_cmp x x ≡ Less → ⊥
not-below-itself x e =
    true≢false
    (sym (ap is_lt e) ∙ ap is_lt (nat_list_cmp_total.antisymm x x ∙ ap ordering_reverse e))

-- the first of ascending names does not stand again
pub ascending-once : (x : Text) (xs : List Text) → IsAscending (x ∷ xs) →
    (Contains xs x → ⊥) × IsAscending xs
ascending-once x xs up =
    let its = above-rest x xs up in
    (λ there. not-below-itself x (above-there x xs its.0 x there), its.1)

-- two ascending lists of the same names are one
same-ascending : (xs ys : List Text) → IsAscending xs → IsAscending ys →
    ((x : Text) → Contains xs x ↔ Contains ys x) → xs ≡ ys
same-ascending [] [] up other both = refl
same-ascending [] (y ∷ ys) up other both = absurd (no_element ((both y).1 (here y ys)))
same-ascending (x ∷ xs) [] up other both = absurd (no_element ((both x).0 (here x xs)))
same-ascending (x ∷ xs) (y ∷ ys) up other both =
    ap (λ z. z ∷ xs) one ∙ ap (λ zs. y ∷ zs) (same-ascending xs ys a.1 b.1 rest)
  where
    a : Above x xs × IsAscending xs
    a = above-rest x xs up

    b : Above y ys × IsAscending ys
    b = above-rest y ys other

    one : x ≡ y
    one = elim (first_or_later y ys x ((both x).0 (here x xs))) [
      | inl e ↦ sym e
      | inr c ↦ elim (first_or_later x xs y ((both y).1 (here y ys))) [
        | inl e ↦ e
        | inr d ↦ absurd
            (not-below-itself x
            (nat_list_cmp_total.trans x y x (above-there x xs a.0 y d) (above-there y ys b.0 x c)))
      ]
    ]

    rest : (z : Text) → Contains xs z ↔ Contains ys z
    rest z = (
      λ c. elim (first_or_later y ys z ((both z).0 (later x xs z c))) [
        | inl e ↦ absurd
            (not-below-itself x
            (subst (λ w. slice_cmp nat_cmp x w ≡ Less) (sym (one ∙ e))
            (above-there x xs a.0 z c)))
        | inr d ↦ d
      ],
      λ c. elim (first_or_later x xs z ((both z).1 (later y ys z c))) [
        | inl e ↦ absurd
            (not-below-itself y
            (subst (λ w. slice_cmp nat_cmp y w ≡ Less) (sym (sym one ∙ e))
            (above-there y ys b.0 z c)))
        | inr d ↦ d
      ],
    )

both-steps : {A B C : Type 0} → A ↔ B → C ↔ B → A ↔ C
both-steps f g = ((λ a. g.1 (f.0 a)), λ c. f.1 (g.0 c))

pub same-names : {Has : Text → Type 0} (xs ys : List Text) → AreNames Has xs → AreNames Has ys →
    xs ≡ ys
same-names xs ys one other =
    same-ascending xs ys one.ascending other.ascending (λ x. both-steps (one.all x) (other.all x))

-- ---- externals and loads
abbrev external-as : Text → List Text → Bool → DecidedExternal
external-as s names whole = record { specifier = s; names = names; whole = whole }

abbrev load-as : ℕ → List Text → Bool → DecidedLoad
load-as c names whole = record { which = c; names = names; whole = whole }

-- what is taken of one giver is one
same-taken : {A G : Type 0} (make : G → List Text → Bool → A) (of : G → Taken → in_linking.Target)
    (Has : in_linking.Target → Type 0) (s t : G) → s ≡ t → (xs ys : List Text) (a b : Bool) →
    AreTaken Has (of s) xs a → AreTaken Has (of t) ys b → make s xs a ≡ make t ys b
same-taken make of Has s t e xs ys a b one =
    subst (λ u. AreTaken Has (of u) ys b → make s xs a ≡ make u ys b) e
    (λ other. ap (λ names. make s names a) (same-names xs ys one.names other.names)
    ∙ ap (make s ys) (one-answer a b one.whole other.whole))

same-externals : (q : Program) (found other : List External) →
    map specifier_of found ≡ map specifier_of other →
    ((its : External) → Contains found its → IsExternalOf q its) →
    ((its : External) → Contains other its → IsExternalOf q its) →
    map external_of found ≡ map external_of other
same-externals q [] [] e one two = refl
same-externals q [] (y ∷ ys) e one two =
    let no : ◌≡◌ {A = List Text} [] (specifier_of y ∷ map specifier_of ys) = e in cc
same-externals q (x ∷ xs) [] e one two =
    let no : ◌≡◌ {A = List Text} (specifier_of x ∷ map specifier_of xs) [] = e in cc
same-externals q (x ∷ xs) (y ∷ ys) e one two =
    let is : specifier_of x ∷ map specifier_of xs ≡ specifier_of y ∷ map specifier_of ys = e in
    let first : specifier_of x ≡ specifier_of y = cc in
    let more : map specifier_of xs ≡ map specifier_of ys = cc in
    ap (λ z. z ∷ map external_of xs)
    (same-taken external-as (λ s. in_linking.External s) (λ t. IsMeant q (Of t)) (specifier_of x)
    (specifier_of y) first (map (λ name. name.now) x.names.items)
    (map (λ name. name.now) y.names.items) x.whole y.whole (one x (here x xs)) (two y (here y ys)))
    ∙ ap (λ zs. external_of y ∷ zs)
    (same-externals q xs ys more (λ its c. one its (later x xs its c))
    (λ its c. two its (later y ys its c)))

same-loads : (q : Program) (m : ℕ) (found other : List Loaded) →
    map (λ loaded. loaded.which) found ≡ map (λ loaded. loaded.which) other →
    ((its : Loaded) → Contains found its → IsLoadOf q m its) →
    ((its : Loaded) → Contains other its → IsLoadOf q m its) →
    map load_of found ≡ map load_of other
same-loads q m [] [] e one two = refl
same-loads q m [] (y ∷ ys) e one two =
    let no : ◌≡◌ {A = List ℕ} [] (y.which ∷ map (λ loaded. loaded.which) ys) = e in cc
same-loads q m (x ∷ xs) [] e one two =
    let no : ◌≡◌ {A = List ℕ} (x.which ∷ map (λ loaded. loaded.which) xs) [] = e in cc
same-loads q m (x ∷ xs) (y ∷ ys) e one two =
    let is : x.which ∷ map (λ loaded. loaded.which) xs ≡ y.which ∷
    map (λ loaded. loaded.which) ys = e in
    let first : x.which ≡ y.which = cc in
    let more : map (λ loaded. loaded.which) xs ≡ map (λ loaded. loaded.which) ys = cc in
    ap (λ z. z ∷ map load_of xs)
    (same-taken load-as (λ c. in_linking.CommonJs m c) (λ t. IsMeant q (Of t)) x.which y.which first
    (map (λ name. name.now) x.names.items) (map (λ name. name.now) y.names.items) x.whole y.whole
    (one x (here x xs)) (two y (here y ys)))
    ∙ ap (λ zs. load_of y ∷ zs)
    (same-loads q m xs ys more (λ its c. one its (later x xs its c))
    (λ its c. two its (later y ys its c)))

-- what is picked of a list is one
pub same-picked : {A : Type 0} {Has : A → Type 0} {all xs : List A} → PicksThose Has all xs →
    (ys : List A) → PicksThose Has all ys → xs ≡ ys
same-picked picks.nothing ys picks.nothing = refl
same-picked (picks.picked {x = x} h more) _ (picks.picked k rest) =
    ap (λ zs. x ∷ zs) (same-picked more _ rest)
same-picked (picks.picked h more) ys (picks.left k rest) = absurd (k h)
same-picked (picks.left h more) _ (picks.picked k rest) = absurd (h k)
same-picked (picks.left h more) ys (picks.left k rest) = same-picked more ys rest

-- ---- what linking answers
module _ (q : Program) (n : ℕ) (linking : Linking) (meta : ℕ → Bool) (count : ℕ → ℕ) (w : AreTablesLinked q n linking meta count) (blocks : List DecidedBlock) where
  abbrev d : Decided
  d = decided_by linking meta count n blocks

  pub common-js-same : (m : ℕ) (answer : Bool) → TellsCommonJs q m answer →
      answer ≡ flagged linking.common_js.items m
  common-js-same m answer tells =
      one-answer answer (flagged linking.common_js.items m) tells (w.linked.common_js m)

  pub object-same : (m : ℕ) (answer : Bool) → TellsMeant q m answer →
      answer ≡ (decided_by linking meta count n blocks).is_object_meant m
  object-same m answer tells =
      one-answer answer (d.is_object_meant m) tells
      (object-told q linking.meant.targets (w.linked.meant w.modules) m (d.is_object_meant m) refl)

  pub externals-same : (found : List External) → AreExternalsOf q (numbers_from zero n) found →
      map external_of found ≡ map external_of linking.outside.externals.items
  externals-same found are =
      same-externals q found linking.outside.externals.items
      (are.specifiers ∙ sym w.handed.externals.specifiers)
      (all-there (IsExternalOf q) found (are.meant w.modules))
      (all-there (IsExternalOf q) linking.outside.externals.items
      (w.handed.externals.meant w.modules))

  pub loads-same : (m : ℕ) → IsReached q m → (found : List Loaded) → AreLoadsIn q m found →
      map load_of found ≡ map load_of (list_in linking.outside.loads.items m)
  loads-same m reached found are =
      let its = w.handed.loads m reached in
      let led = filter_map (resolves q m) (declared_requests (tree_of q m)) in
      same-loads q m found (list_in linking.outside.loads.items m)
      (are.modules
      ∙ ap numbers_once
      (filter-same are.test its.test led
      (λ c there. one-answer (are.test c) (its.test c) (are.tells c) (its.tells c)))
      ∙ sym its.modules)
      (all-there (IsLoadOf q m) found (are.meant w.modules))
      (all-there (IsLoadOf q m) (list_in linking.outside.loads.items m) (its.meant w.modules))

  pub stars-same : (stars : List Text) →
      PicksThose (HasExternalStar q q.entry) (externals q (numbers_from zero n)) stars →
      stars ≡ map (λ star. star.now) linking.outside.external_stars.items
  stars-same stars its = same-picked its _ w.handed.stars

  -- whether the entry links a name
  pub exports-same : (pairs : List (Bor Text × Found)) → AreLinked q q.entry (map target_pair pairs) →
      has_some pairs ≡ exports_some linking n
  exports-same pairs linked =
      one-answer (has_some pairs) (exports_some linking n) hands
      (exports-found q n linking meta count w blocks)
    where
      handed-out : HandsOutNames q AsModule → IsTrue (has_some pairs)
      handed-out (decided.exported {x} is) = some-exported q q.entry pairs linked x is

      hands : IsTrue (has_some pairs) ↔ HandsOutNames q AsModule
      hands = (
        λ is. let its = exported-some q q.entry pairs linked is in decided.exported its.1,
        handed-out,
      )
