-- The nodes of a graph of items, to which some are added.
-- The edges of a graph of items, to which some are added.
-- What items depend on, where all dependencies were found.
-- One item more in a group.
-- The places of items in their numbering.
-- To which range a number belongs, where the ranges ascend.
-- The graph of items of which all dependencies were found has just these.
use Rattle.std.proofs.Common.{◌≡◌, ℕ, zero, suc, ◌+◌, ◌<◌, ◌⊎◌, inl, inr, Bool, true, false, nat_eq, List, [], ◌∷◌, ◌++◌, Some, None, length, slice_get, Contains, refl, sym, ap, ◌∙◌, subst, arith, ◌≢◌, ◌&&◌, cond, eqb-true, eq-eqb, ◌≤◌, ◌↔◌, Option, IsSome, is_some, get_or, map, ◌-◌, take, drop, append_assoc, append-nil, not, leb, ltb}
use Rattle.std.specs.List.{list_any, slice_range, All, IsDistinct, filter, flat_map}
use Rattle.std.proofs.lemmas.Option.{same_Some, slice_get_within, get_or_from_slice_get, none-some}
use Rattle.std.proofs.lemmas.Bool.{cases_lt, false≢true, and_parts, and_from, cases_eq, le-ltb, lt-leb}
use Rattle.std.proofs.lemmas.List.Elements.{Contains-append_left, Contains-append_right, Contains-append_cases, Contains-push, Contains-push_cases}
use Rattle.std.specs.Option.{option_and_then}
use Rattle.std.proofs.lemmas.List.{length-map, length-append, map-append, get_or-map, get_or_default, length-take-le, take_more}
use Rattle.std.proofs.lemmas.Map.Keys.{apart_from_distinct}
use Rattle.std.specs.declared.ops.Range.{Range}
use Rattle.bundle_order_graph.specs.Nodes.{added}
use Rattle.bundle_order_graph.specs.Statements.{Statements, AddsStatement, AddsDependency, no_statements, weight, strongest, IsDependency}
use Rattle.bundle_order_graph.specs.declared.sort.Required.{Required}
use Rattle.bundle_order_graph.proofs.NodeLemmas.{place-contains, place-out, added-in, added-out, Contains-added_old, Contains-added_new, Contains-added_cases}
use Rattle.bundle_order_graph.specs.declared.sort.Required.TheVariants.{Always, Maybe}
use Rattle.bundle_syntax.specs.Item.{Item}
use Rattle.bundle_order_sort.specs.declared.Dependency.{Dependency}
use Rattle.bundle_order_sort.specs.declared.SortItem.{SortItem}
use Rattle.bundle_order_sort.specs.Listed.{NamesListed, DependsListed}
use Rattle.bundle_rules.specs.Order
use Rattle.bundle_rules.specs.Order.{Group, Mention, mention_at, by_member, by_prototype, by_value, SetsUpBy, IsWeak}
use Rattle.bundle_order_sort.proofs.ElementLemmas.{Contains-none, Contains-cons}
use Rattle.bundle_rules.specs.Sorting.{flat, Numbered, free_items, is_injected, numbered_items, owned_items, owner_in, owners_by, IsDependency as IsDependency_weight}
use Rattle.bundle_rules.specs.Statements.{TopItem, placed}
use Rattle.bundle_order_sort.specs.Arranged.{IsArrangement}
use Rattle.bundle_order.specs.Found.{AreFound, HasFound}
use Rattle.bundle_order.specs.Cut.{dependencies_of, cut_item, cut_items}
use Rattle.bundle_order.specs.declared.needs.ItemRange.{ItemRange}
use Rattle.bundle_order.specs.Items.{AreItemNodes, AreOnce, AreIndependent as AreApart_node, AreBetween, IsAlways, how_required, IsItemGraph, ListsDependency, GainsEdges, GrowsGraph}
use Rattle.bundle_order.specs.Grouped.{begun, AreAscending, ArePast, ends_of, owner_at}
use Rattle.bundle_order.specs.declared.number.ItemPlace.{ItemPlace}
use Rattle.bundle_order.specs.Owned.{owner_by}
use Rattle.bundle_order.specs.Numbering.{all_places, at_of, chosen_places, is_chosen, numbered_at, owners_of, place_of}

-- ---- each of them once
-- what stands in a list stands among its elements
there_node : (nodes : List ℕ) (i n : ℕ) → slice_get nodes i ≡ Some n → Contains nodes n
there_node nodes i n e = (i, slice_get_within nodes i n e, get_or_from_slice_get nodes i n n e)

-- a number behind a list, at its place
pushed : (nodes : List ℕ) (n i m : ℕ) → slice_get (nodes ++ n ∷ []) i ≡ Some m → (slice_get nodes i ≡ Some m) ⊎ ((i ≡ length nodes) × (n ≡ m))
pushed [] n zero m e = inr (refl, same_Some n m e)
pushed [] n (suc i) m e = absurd (not_there e)
  where
    not_there : None ≡ Some m → ⊥
    not_there e = cc
pushed (x ∷ xs) n zero m e = inl e
pushed (x ∷ xs) n (suc i) m e = elim (pushed xs n i m e) [ inl before ↦ inl before | inr last ↦ inr (ap suc last.0, last.1) ]

once_pushed : (nodes : List ℕ) (n : ℕ) → (Contains nodes n → ⊥) → AreOnce nodes → AreOnce (nodes ++ n ∷ [])
once_pushed nodes n out once i j m a b = by (pushed nodes n i m a) (pushed nodes n j m b)
  where
    by : (slice_get nodes i ≡ Some m) ⊎ ((i ≡ length nodes) × (n ≡ m)) → (slice_get nodes j ≡ Some m) ⊎ ((j ≡ length nodes) × (n ≡ m)) → i ≡ j
    by (inl first) (inl second) = once i j m first second
    by (inl first) (inr last) = absurd (out (subst (Contains nodes) (sym last.1) (there_node nodes i m first)))
    by (inr last) (inl second) = absurd (out (subst (Contains nodes) (sym last.1) (there_node nodes j m second)))
    by (inr last) (inr other) = last.0 ∙ sym other.0

pub once_added : (nodes : List ℕ) (n : ℕ) → AreOnce nodes → AreOnce (added nodes n)
once_added nodes n once = by (list_any (nat_eq n) nodes) refl
  where
    by : (b : Bool) → list_any (nat_eq n) nodes ≡ b → AreOnce (added nodes n)
    by true e = subst AreOnce (sym (added-in nodes n e)) once
    by false e = subst AreOnce (sym (added-out nodes n e)) (once_pushed nodes n (λ c. let less = place-contains nodes n c in omega (arith, less, place-out nodes n e)) once)

-- ---- the nodes of a graph
pub no_nodes : AreApart_node no_statements 0
no_nodes = record {
  nodes = λ n. (λ c. absurd (omega (arith, c.1)), λ less. absurd (omega (arith, less)));
  once = λ i j n at other. let c = there_node [] i n at in absurd (omega (arith, c.1));
  none = λ a b. refl;
}

-- the number of the next item is added
one_more : (old new : Statements) (n : ℕ) → AddsStatement old new n → AreItemNodes old n → AreItemNodes new (n + 1)
one_more old new n adds nodes m = (
  λ c. elim (Contains-added_cases old.nodes n m (subst (λ xs. Contains xs m) adds.nodes c)) [
    | inl before ↦ let less : m < n = (nodes m).0 before in omega (arith, less)
    | inr same ↦ omega (arith, same)
  ],
  λ less. subst (λ xs. Contains xs m) (sym adds.nodes) (elim (cases_lt m n) [
    | inl before ↦ Contains-added_old old.nodes n m ((nodes m).1 before)
    | inr last ↦ let same : n ≡ m = omega (arith, less, last) in subst (λ k. Contains (added old.nodes n) k) same (Contains-added_new old.nodes n)
  ]),
)

pub one_apart : (old new : Statements) (n : ℕ) → AddsStatement old new n → AreApart_node old n → AreApart_node new (n + 1)
one_apart old new n adds apart = record {
  nodes = one_more old new n adds apart.nodes;
  once = subst AreOnce (sym adds.nodes) (once_added old.nodes n apart.once);
  none = λ a b. adds.same a b ∙ apart.none a b;
}

-- an edge between two of the items is added
pub edge_more : (old new : Statements) (a b count : ℕ) (required : Required) → AddsDependency old new a b required → a < count → b < count → AreItemNodes old count → AreItemNodes new count
edge_more old new a b count required adds a_in b_in nodes m = (
  λ c. elim (Contains-added_cases (added old.nodes a) b m (subst (λ xs. Contains xs m) adds.nodes c)) [
    | inl before ↦ elim (Contains-added_cases old.nodes a m before) [ inl first ↦ (nodes m).0 first | inr same ↦ omega (arith, same, a_in) ]
    | inr same ↦ omega (arith, same, b_in)
  ],
  λ less. subst (λ xs. Contains xs m) (sym adds.nodes) (Contains-added_old (added old.nodes a) b m (Contains-added_old old.nodes a m ((nodes m).1 less))),
)

pub edge_once : (old new : Statements) (a b : ℕ) (required : Required) → AddsDependency old new a b required → AreOnce old.nodes → AreOnce new.nodes
edge_once old new a b required adds once = subst AreOnce (sym adds.nodes) (once_added (added old.nodes a) b (once_added old.nodes a once))

-- ---- one dependency
-- the end of the one dependency that is listed
only_one : (d : Dependency) (t : ℕ) (w : Bool) → Contains (d ∷ []) (record { item = t; is_weak = w }) → d ≡ record { item = t; is_weak = w }
only_one d t w c = elim (Contains-push_cases [] d (record { item = t; is_weak = w }) c) [ inl none ↦ absurd (omega (arith, none.1)) | inr same ↦ same ]

module _ (Q : Option Required → Type 0) (Counts : Bool → Type 0) (law : (was : Option Required) (w : Bool) → Q (Some (strongest was (how_required w))) ↔ (Q was ⊎ Counts w)) where
  -- the edge is added
  pub one_edge : (old new : Statements) (s count : ℕ) (d : Dependency) → AddsDependency old new s d.item (how_required d.is_weak) → d.item < count → d.item ≢ s → GainsEdges (λ g a b. Q (weight g a b)) Counts old new s count (d ∷ [])
  one_edge old new s count d adds within other x y = by (nat_eq x s && nat_eq y d.item) refl
    where
      listed : (y : ℕ) → y ≡ d.item → Counts d.is_weak → ListsDependency Counts (d ∷ []) count s y
      listed y same counts = record {
        is_weak = d.is_weak;
        counts = counts;
        listed = subst (λ t. Contains (d ∷ []) (record { item = t; is_weak = d.is_weak })) (sym same) (Contains-push [] d);
        within = subst (λ t. t < count) (sym same) within;
        other = subst (λ t. t ≢ s) (sym same) other;
      }

      end_of : (y : ℕ) → ListsDependency Counts (d ∷ []) count s y → (y ≡ d.item) × Counts d.is_weak
      end_of y h = let is = only_one d y h.is_weak h.listed in (sym (ap (λ e. e.item) is), subst Counts (sym (ap (λ e. e.is_weak) is)) h.counts)

      by : (t : Bool) → (nat_eq x s && nat_eq y d.item) ≡ t → Q (weight new x y) ↔ (Q (weight old x y) ⊎ ((x ≡ s) × ListsDependency Counts (d ∷ []) count s y))
      by true e =
          let both = and_parts (nat_eq x s) (nat_eq y d.item) e in
          let at_s : x ≡ s = eqb-true x s both.0 in
          let at_end : y ≡ d.item = eqb-true y d.item both.1 in
          let is : weight new x y ≡ Some (strongest (weight old s d.item) (how_required d.is_weak)) = adds.weights x y ∙ ap (λ t. cond t (Some (strongest (weight old s d.item) (how_required d.is_weak))) (weight old x y)) e in
          let was : weight old x y ≡ weight old s d.item = ap (λ a. weight old a y) at_s ∙ ap (λ b. weight old s b) at_end in
          let step = law (weight old s d.item) d.is_weak in (
            λ q. elim (step.0 (subst Q is q)) [ inl before ↦ inl (subst Q (sym was) before) | inr counts ↦ inr (at_s, listed y at_end counts) ],
            λ h. subst Q (sym is) (step.1 (elim h [ inl before ↦ inl (subst Q was before) | inr more ↦ inr (end_of y more.1).1 ])),
          )
      by false e =
          let is : weight new x y ≡ weight old x y = adds.weights x y ∙ ap (λ t. cond t (Some (strongest (weight old s d.item) (how_required d.is_weak))) (weight old x y)) e in (
            λ q. inl (subst Q is q),
            λ h. elim h [
              | inl before ↦ subst Q (sym is) before
              | inr more ↦ absurd (false≢true (sym e ∙ and_from (nat_eq x s) (nat_eq y d.item) (eq-eqb x s more.0) (eq-eqb y d.item (end_of y more.1).0)))
            ],
          )

-- an edge is there once it is added
some_law : (was : Option Required) (w : Bool) → IsSome (Some (strongest was (how_required w))) ↔ (IsSome was ⊎ Unit {0})
some_law was w = (λ _. inr tt, λ _. refl)

-- it is always required where it was or now is
always_law : (was : Option Required) (w : Bool) → (Some (strongest was (how_required w)) ≡ Some Always) ↔ ((was ≡ Some Always) ⊎ (w ≡ false))
always_law (Some Always) w = (λ _. inl refl, λ _. refl)
always_law (Some Maybe) true = (λ e. inl e, λ h. elim h [ inl e ↦ e | inr f ↦ absurd (false≢true (sym f)) ])
always_law (Some Maybe) false = (λ _. inr refl, λ _. refl)
always_law None true = (λ e. cc e, λ h. elim h [ inl e ↦ cc e | inr f ↦ absurd (false≢true (sym f)) ])
always_law None false = (λ _. inr refl, λ _. refl)

pub Grows-one : (old new : Statements) (s count : ℕ) (d : Dependency) (required : Required) → AddsDependency old new s d.item required → required ≡ how_required d.is_weak → d.item < count → d.item ≢ s → AreItemNodes new count → GrowsGraph old new s count (d ∷ [])
Grows-one old new s count d required adds is within other nodes =
    let as_told : AddsDependency old new s d.item (how_required d.is_weak) = subst (λ r. AddsDependency old new s d.item r) is adds in
    record {
      nodes = nodes;
      once = edge_once old new s d.item required adds;
      edges = one_edge (λ o. IsSome o) (λ w. Unit {0}) some_law old new s count d as_told within other;
      always = one_edge (λ o. o ≡ Some Always) (λ w. w ≡ false) always_law old new s count d as_told within other;
    }

-- ---- several
module _ (Leads : Statements → ℕ → ℕ → Type 0) (Counts : Bool → Type 0) where
  -- none that counts is listed
  gains_nothing : (g : Statements) (s count : ℕ) (ds : List Dependency) → ((y : ℕ) → ListsDependency Counts ds count s y → ⊥) → GainsEdges Leads Counts g g s count ds
  gains_nothing g s count ds none x y = (λ h. inl h, λ h. elim h [ inl before ↦ before | inr more ↦ absurd (none y more.1) ])

  gains_more : (a b c : Statements) (s count : ℕ) (xs ys : List Dependency) → GainsEdges Leads Counts a b s count xs → GainsEdges Leads Counts b c s count ys → GainsEdges Leads Counts a c s count (xs ++ ys)
  gains_more a b c s count xs ys first second x y = (
    λ h. elim ((second x y).0 h) [
      | inl before ↦ elim ((first x y).0 before) [ inl old ↦ inl old | inr more ↦ inr (more.0, left more.1) ]
      | inr more ↦ inr (more.0, right more.1)
    ],
    λ h. elim h [
      | inl old ↦ (second x y).1 (inl ((first x y).1 (inl old)))
      | inr more ↦ back more.0 more.1 (Contains-append_cases xs ys (record { item = y; is_weak = more.1.is_weak }) more.1.listed)
    ],
  )
    where
      left : ListsDependency Counts xs count s y → ListsDependency Counts (xs ++ ys) count s y
      left h = record { is_weak = h.is_weak; counts = h.counts; listed = Contains-append_left xs ys (record { item = y; is_weak = h.is_weak }) h.listed; within = h.within; other = h.other }

      right : ListsDependency Counts ys count s y → ListsDependency Counts (xs ++ ys) count s y
      right h = record { is_weak = h.is_weak; counts = h.counts; listed = Contains-append_right xs ys (record { item = y; is_weak = h.is_weak }) h.listed; within = h.within; other = h.other }

      back : x ≡ s → (h : ListsDependency Counts (xs ++ ys) count s y) → Contains xs (record { item = y; is_weak = h.is_weak }) ⊎ Contains ys (record { item = y; is_weak = h.is_weak }) → Leads c x y
      back at h (inl l) = (second x y).1 (inl ((first x y).1 (inr (at, record { is_weak = h.is_weak; counts = h.counts; listed = l; within = h.within; other = h.other }))))
      back at h (inr l) = (second x y).1 (inr (at, record { is_weak = h.is_weak; counts = h.counts; listed = l; within = h.within; other = h.other }))

pub Grows-none : (g : Statements) (s count : ℕ) → AreItemNodes g count → GrowsGraph g g s count []
Grows-none g s count nodes = record {
  nodes = nodes;
  once = λ once. once;
  edges = gains_nothing IsDependency (λ w. Unit {0}) g s count [] (λ y h. omega (arith, h.listed.1));
  always = gains_nothing IsAlways (λ w. w ≡ false) g s count [] (λ y h. omega (arith, h.listed.1));
}

-- a dependency that is passed over
pub Grows-passed : (g : Statements) (s count : ℕ) (d : Dependency) → AreItemNodes g count → ((d.item < count) → (d.item ≢ s) → ⊥) → GrowsGraph g g s count (d ∷ [])
Grows-passed g s count d nodes out = record {
  nodes = nodes;
  once = λ once. once;
  edges = gains_nothing IsDependency (λ w. Unit {0}) g s count (d ∷ []) (λ y h. none y h.is_weak h.listed h.within h.other);
  always = gains_nothing IsAlways (λ w. w ≡ false) g s count (d ∷ []) (λ y h. none y h.is_weak h.listed h.within h.other);
}
  where
    none : (y : ℕ) (w : Bool) → Contains (d ∷ []) (record { item = y; is_weak = w }) → y < count → y ≢ s → ⊥
    none y w c within other =
        let is : d.item ≡ y = ap (λ e. e.item) (only_one d y w c) in
        out (subst (λ t. t < count) (sym is) within) (subst (λ t. t ≢ s) (sym is) other)

pub Grows-more : (a b c : Statements) (s count : ℕ) (xs ys : List Dependency) → GrowsGraph a b s count xs → GrowsGraph b c s count ys → GrowsGraph a c s count (xs ++ ys)
Grows-more a b c s count xs ys first second = record {
  nodes = second.nodes;
  once = λ once. second.once (first.once once);
  edges = gains_more IsDependency (λ w. Unit {0}) a b c s count xs ys first.edges second.edges;
  always = gains_more IsAlways (λ w. w ≡ false) a b c s count xs ys first.always second.always;
}

-- ---- of all items
-- the graph has the edges of the first n of these items
pub record IsGraphTo (graph : Statements) (items : List SortItem) (n : ℕ) : Type 0 where
  pub nodes : AreItemNodes graph (length items)
  pub once : AreOnce graph.nodes
  pub edges : (a b : ℕ) → IsDependency graph a b ↔ ((a < n) × DependsListed items a b)
  pub always : (a b : ℕ) → IsAlways graph a b ↔ ((a < n) × NamesListed items a b false)

pub IsGraphTo-none : (graph : Statements) (items : List SortItem) → AreApart_node graph (length items) → IsGraphTo graph items 0
IsGraphTo-none graph items apart = record {
  nodes = apart.nodes;
  once = apart.once;
  edges = λ a b. (λ h. absurd (false≢true (sym (ap (λ (o : Option Required). is_some o) (apart.none a b)) ∙ h)), λ h. absurd (omega (arith, h.0)));
  always = λ a b. (λ h. cc (sym h ∙ apart.none a b), λ h. absurd (omega (arith, h.0)));
}

-- those of one more item
module _ (old new : Statements) (items : List SortItem) (n : ℕ) (item : SortItem) (at : slice_get items n ≡ Some item) (grows : GrowsGraph old new n (length items) item.dependencies.items) where
  weak_or_not : (a b : ℕ) → a ≡ n → ListsDependency (λ w. Unit {0}) item.dependencies.items (length items) n b → DependsListed items a b
  weak_or_not a b same h = subst (λ k. DependsListed items k b) (sym same) (h.is_weak, record { item = item; at = at; listed = h.listed; within = h.within; other = h.other })

  strong : (a b : ℕ) → a ≡ n → ListsDependency (λ w. w ≡ false) item.dependencies.items (length items) n b → NamesListed items a b false
  strong a b same h = subst (λ k. NamesListed items k b false) (sym same) (record { item = item; at = at; listed = subst (λ w. Contains item.dependencies.items (record { item = b; is_weak = w })) h.counts h.listed; within = h.within; other = h.other })

  named : {Counts : Bool → Type 0} (a b : ℕ) (w : Bool) → a ≡ n → Counts w → NamesListed items a b w → ListsDependency Counts item.dependencies.items (length items) n b
  named a b w same counts m = record {
    is_weak = w;
    counts = counts;
    listed = subst (λ (i : SortItem). Contains i.dependencies.items (record { item = b; is_weak = w })) (same_Some m.item item (sym m.at ∙ (ap (λ k. slice_get items k) same ∙ at))) m.listed;
    within = m.within;
    other = subst (λ k. b ≢ k) same m.other;
  }

  pub IsGraphTo-more : IsGraphTo old items n → IsGraphTo new items (n + 1)
  IsGraphTo-more graph = record {
    nodes = grows.nodes;
    once = grows.once graph.once;
    edges = λ a b. (
      λ h. elim ((grows.edges a b).0 h) [
        | inl before ↦ let p = (graph.edges a b).0 before in (omega (arith, p.0), p.1)
        | inr more ↦ (omega (arith, more.0), weak_or_not a b more.0 more.1)
      ],
      λ h. (grows.edges a b).1 (elim (cases_lt a n) [
        | inl less ↦ inl ((graph.edges a b).1 (less, h.1))
        | inr last ↦ let same : a ≡ n = omega (arith, h.0, last) in inr (same, named {Counts = λ w. Unit {0}} a b h.1.0 same tt h.1.1)
      ]),
    );
    always = λ a b. (
      λ h. elim ((grows.always a b).0 h) [
        | inl before ↦ let p = (graph.always a b).0 before in (omega (arith, p.0), p.1)
        | inr more ↦ (omega (arith, more.0), strong a b more.0 more.1)
      ],
      λ h. (grows.always a b).1 (elim (cases_lt a n) [
        | inl less ↦ inl ((graph.always a b).1 (less, h.1))
        | inr last ↦ let same : a ≡ n = omega (arith, h.0, last) in inr (same, named {Counts = λ w. w ≡ false} a b false same refl h.1)
      ]),
    );
  }

Depends-within : (items : List SortItem) (s t : ℕ) → DependsListed items s t → s < length items
Depends-within items s t d = slice_get_within items s d.1.item d.1.at

pub IsGraphOf-all : (graph : Statements) (items : List SortItem) (n : ℕ) → length items ≤ n → IsGraphTo graph items n → IsItemGraph graph items
IsGraphOf-all graph items n all to = record {
  nodes = to.nodes;
  once = to.once;
  edges = λ a b. (λ h. ((to.edges a b).0 h).1, λ d. (to.edges a b).1 (omega (arith, all, Depends-within items a b d), d));
  always = λ a b. (λ h. ((to.always a b).0 h).1, λ m. (to.always a b).1 (omega (arith, all, Depends-within items a b (false, m)), m));
}

-- each edge leads from an item to another
pub AreBetween-graph : (graph : Statements) (items : List SortItem) → IsItemGraph graph items → AreBetween graph (length items)
AreBetween-graph graph items is a b e =
    let d = (is.edges a b).0 e in
    (Depends-within items a b d, d.1.within, λ same. d.1.other (sym same))

-- ---- what an item depends on, by its number
module _ {X Y : Type 0} (rows : X → List Y) where
  pub row-at : (items : List X) (s : ℕ) (d : Y) → Contains (get_or (map rows items) s []) d → (item : X) × (slice_get items s ≡ Some item) × Contains (rows item) d
  row-at [] s d c = absurd (Contains-none d c)
  row-at (x ∷ items) zero d c = (x, refl, c)
  row-at (x ∷ items) (suc s) d c = row-at items s d c

  pub row-of : (items : List X) (s : ℕ) (item : X) → slice_get items s ≡ Some item → get_or (map rows items) s [] ≡ rows item
  row-of [] s item e = absurd (none-some item e)
  row-of (x ∷ items) zero item e = ap rows (same_Some x item e)
  row-of (x ∷ items) (suc s) item e = row-of items s item e

-- ---- an item that provides a binding is one of the group
mention-within : (g : Group) (t at : ℕ) (by : Mention) → mention_at g t at ≡ Some by → t < length g.items
mention-within g t at by e = step (slice_get g.items t) refl e
  where
    step : (row : Option (List Mention)) → slice_get g.items t ≡ row → option_and_then (λ (mentions : List Mention). slice_get mentions at) row ≡ Some by → t < length g.items
    step None f h = absurd (none-some by h)
    step (Some row) f h = slice_get_within g.items t row f

sets_up-within : (g : Group) (m d t b : ℕ) → SetsUpBy g m d t b → t < length g.items
sets_up-within g m d t b (by_member by refers at_once chain) = mention-within g t refers.at by refers.there
sets_up-within g m d t b (by_prototype by refers at_once prototype) = mention-within g t refers.at by refers.there
sets_up-within g m d t b (by_value without fills first) = mention-within g t fills.refers.at fills.by fills.refers.there

pub provides-within : (g : Group) (t b : ℕ) → Order.Provides g t b → t < length g.items
provides-within g t b (inl declares) = mention-within g t declares.0 declares.1 declares.2.there
provides-within g t b (inr sets_up) = sets_up-within g sets_up.which sets_up.first t b sets_up.by

-- ---- whether a dependency is listed

module _ (g : Group) (items : List SortItem) (found : AreFound g (map dependencies_of items)) where
  pub names : (s t : ℕ) (w : Bool) → HasFound (map dependencies_of items) s t w → Order.Depends g s t → NamesListed items s t w
  names s t w has depends =
      let row = row-at dependencies_of items s (record { item = t; is_weak = w }) has in
      record { item = row.0; at = row.1; listed = row.2; within = (let l = provides-within g t depends.binding depends.provides in let n = found.len in let m = length-map items dependencies_of in omega (arith, l, n, m)); other = λ e. depends.other (sym e) }

  pub has : (s t : ℕ) (w : Bool) → NamesListed items s t w → HasFound (map dependencies_of items) s t w
  has s t w n = subst (λ (l : List Dependency). Contains l (record { item = t; is_weak = w })) (sym (row-of dependencies_of items s n.item n.at)) n.listed

-- ---- group
drop-front : {X : Type 0} (xs ys : List X) → drop (length xs) (xs ++ ys) ≡ ys
drop-front [] ys = refl
drop-front (x ∷ xs) ys = drop-front xs ys

take-front : {X : Type 0} (xs ys : List X) → take (length xs) (xs ++ ys) ≡ xs
take-front [] ys = refl
take-front (x ∷ xs) ys = ap (λ l. x ∷ l) (take-front xs ys)

pub flat-push : (lists : List (List Item)) (x : List Item) → flat (lists ++ x ∷ []) ≡ flat lists ++ x
flat-push [] x = append-nil x
flat-push (y ∷ lists) x = ap (λ l. y ++ l) (flat-push lists x) ∙ sym (append_assoc y (flat lists) x)

abbrev placed_at : ℕ → List Item → TopItem
placed_at start items = record { start = start; items = items }

placed-push : (start : ℕ) (lists : List (List Item)) (x : List Item) → placed start (lists ++ x ∷ []) ≡ placed start lists ++ placed_at (start + length (flat lists)) x ∷ []
placed-push start [] x = ap (λ n. placed_at n x ∷ []) (let same : start ≡ start + 0 = omega arith in same)
placed-push start (y ∷ lists) x = ap (λ l. placed_at start y ∷ l) (placed-push (start + length y) lists x ∙ ap (λ n. placed (start + length y) lists ++ placed_at n x ∷ []) (let same : start + length y + length (flat lists) ≡ start + length (y ++ flat lists) = omega (arith, length-append y (flat lists)) in same))

pub begun-push : (lists : List (List Item)) (x : List Item) → begun lists ++ x ≡ begun (lists ++ x ∷ [])
begun-push lists x = ap (λ (l : List Item). begun [] ++ l) (sym (flat-push lists x))

module _ (lists : List (List Item)) (x : List Item) (range : ItemRange) (from : range.from ≡ length (begun lists)) (to : range.to ≡ length (begun lists) + length x) where
  around : (rest : List Item) → begun (lists ++ x ∷ []) ++ rest ≡ begun lists ++ (x ++ rest)
  around rest = ap (λ (l : List Item). l ++ rest) (sym (begun-push lists x)) ∙ append_assoc (begun lists) x rest

  last-cut : (rest : List Item) → slice_range (begun lists ++ (x ++ rest)) range.from range.to ≡ x
  last-cut rest =
      ap (λ n. take n (drop range.from (begun lists ++ (x ++ rest)))) (let same : range.to - range.from ≡ length x = omega (arith, from, to) in same)
      ∙ (ap (λ n. take (length x) (drop n (begun lists ++ (x ++ rest)))) from
      ∙ (ap (λ l. take (length x) l) (drop-front (begun lists) (x ++ rest)) ∙ take-front x rest))

  pub cut-more : (ranges : List ItemRange) → ((rest : List Item) → cut_items (begun lists ++ rest) ranges ≡ placed 1 lists) → (rest : List Item) → cut_items (begun (lists ++ x ∷ []) ++ rest) (ranges ++ range ∷ []) ≡ placed 1 (lists ++ x ∷ [])
  cut-more ranges old rest =
      ap (λ (l : List Item). cut_items l (ranges ++ range ∷ [])) (around rest)
      ∙ (map-append (cut_item (begun lists ++ (x ++ rest))) ranges (range ∷ [])
      ∙ (ap (λ (l : List TopItem). l ++ cut_item (begun lists ++ (x ++ rest)) range ∷ []) (old (x ++ rest))
      ∙ (ap (λ (l : List Item). placed 1 lists ++ placed_at range.from l ∷ []) (last-cut rest)
      ∙ (ap (λ n. placed 1 lists ++ placed_at n x ∷ []) (let same : range.from ≡ 1 + length (flat lists) = omega (arith, from) in same)
      ∙ sym (placed-push 1 lists x)))))

-- ---- one item more
pub chosen-push : (f : Bool) (i : ℕ) (items : List (List Item)) (owners : List ℕ) (x : List Item) (o : ℕ) → length owners ≡ length items → chosen_places f i (items ++ x ∷ []) (owners ++ o ∷ []) ≡ chosen_places f i items owners ++ cond (is_chosen f x) (place_of f (i + length items) o ∷ []) []
chosen-push f i [] [] x o e = ap (λ j. cond (is_chosen f x) (place_of f j o ∷ []) []) (let same : i ≡ i + 0 = omega arith in same)
chosen-push f i [] (n ∷ owners) x o e = absurd (omega (arith, e))
chosen-push f i (y ∷ items) [] x o e = absurd (omega (arith, e))
chosen-push f i (y ∷ items) (n ∷ owners) x o e = step (is_chosen f y) _ _ _ (chosen-push f (i + 1) items owners x o (omega (arith, e)) ∙ ap (λ j. chosen_places f (i + 1) items owners ++ cond (is_chosen f x) (place_of f j o ∷ []) []) (let same : i + 1 + length items ≡ i + suc (length items) = omega arith in same))
  where
    step : (b : Bool) (A B C : List ItemPlace) → A ≡ B ++ C → cond b (place_of f i n ∷ A) A ≡ cond b (place_of f i n ∷ B) B ++ C
    step true A B C e = ap (λ (l : List ItemPlace). place_of f i n ∷ l) e
    step false A B C e = e

pub chosen-more : {X : Type 0} (g : X → List Item) (f : Bool) (xs : List X) (owners : List ℕ) (n : ℕ) (x : X) → length owners ≡ length xs → n < length xs → chosen_places f 0 (map g (take (n + 1) xs)) (take (n + 1) owners) ≡ chosen_places f 0 (map g (take n xs)) (take n owners) ++ cond (is_chosen f (g (get_or xs n x))) (place_of f n (get_or owners n 0) ∷ []) []
chosen-more {X} g f xs owners n x e l =
    let below : n ≤ length xs = omega (arith, l) in
    let long : length (take n xs) ≡ n = length-take-le n xs below in
    let also : length (take n owners) ≡ n = length-take-le n owners (omega (arith, l, e)) in
    let count : length (map g (take n xs)) ≡ n = length-map (take n xs) g ∙ long in
    ap (λ (k : List X). chosen_places f 0 (map g k) (take (n + 1) owners)) (take_more xs n x l)
    ∙ (ap (λ (k : List ℕ). chosen_places f 0 (map g (take n xs ++ get_or xs n x ∷ [])) k) (take_more owners n 0 (omega (arith, l, e)))
    ∙ (ap (λ (k : List (List Item)). chosen_places f 0 k (take n owners ++ get_or owners n 0 ∷ [])) (map-append g (take n xs) (get_or xs n x ∷ []))
    ∙ (chosen-push f 0 (map g (take n xs)) (take n owners) (g (get_or xs n x)) (get_or owners n 0) (also ∙ sym count)
    ∙ ap (λ j. chosen_places f 0 (map g (take n xs)) (take n owners) ++ cond (is_chosen f (g (get_or xs n x))) (place_of f j (get_or owners n 0) ∷ []) []) (let same : 0 + length (map g (take n xs)) ≡ n = omega (arith, count) in same))))

-- ---- what stands at them
abbrev chosen_numbered : Bool → List (List Item) → List ℕ → List Numbered
chosen_numbered f [] owners = []
chosen_numbered f (x ∷ items) [] = []
chosen_numbered f (x ∷ items) (o ∷ owners) = cond (is_chosen f x) ((x, owner_by (o, f)) ∷ chosen_numbered f items owners) (chosen_numbered f items owners)

read-after : (before : List (List Item)) (x : List Item) (items : List (List Item)) → get_or (before ++ x ∷ items) (length before) [] ≡ x
read-after [] x items = refl
read-after (y ∷ before) x items = read-after before x items

chosen-read : (f : Bool) (before items : List (List Item)) (owners : List ℕ) (i : ℕ) → i ≡ length before → map (numbered_at (before ++ items)) (chosen_places f i items owners) ≡ chosen_numbered f items owners
chosen-read f before [] owners i e = refl
chosen-read f before (x ∷ items) [] i e = refl
chosen-read f before (x ∷ items) (o ∷ owners) i e = step (is_chosen f x) (chosen_places f (i + 1) items owners) (chosen_numbered f items owners)
    (ap (λ (l : List (List Item)). map (numbered_at l) (chosen_places f (i + 1) items owners)) (sym (append_assoc before (x ∷ []) items)) ∙ chosen-read f (before ++ x ∷ []) items owners (i + 1) (let l = length-append before (x ∷ []) in omega (arith, l, e)))
    (ap (λ j. get_or (before ++ x ∷ items) j []) e ∙ read-after before x items)
  where
    step : (b : Bool) (A : List ItemPlace) (B : List Numbered) → map (numbered_at (before ++ x ∷ items)) A ≡ B → get_or (before ++ x ∷ items) i [] ≡ x → map (numbered_at (before ++ x ∷ items)) (cond b (place_of f i o ∷ A) A) ≡ cond b ((x, owner_by (o, f)) ∷ B) B
    step true A B m h = ap (λ (y : List Item). (y, owner_by (o, f)) ∷ map (numbered_at (before ++ x ∷ items)) A) h ∙ ap (λ (l : List Numbered). (x, owner_by (o, f)) ∷ l) m
    step false A B m h = m

abbrev numbered_as : Bool → ℕ → List Item → Numbered
numbered_as f k item = (item, owner_by (k, f))

chosen-module : (f : Bool) (k : ℕ) (items rest : List (List Item)) (owners : List ℕ) → chosen_numbered f (items ++ rest) (map (λ item. k) items ++ owners) ≡ map (numbered_as f k) (filter (is_chosen f) items) ++ chosen_numbered f rest owners
chosen-module f k [] rest owners = refl
chosen-module f k (x ∷ items) rest owners = step (is_chosen f x) _ _ (filter (is_chosen f) items) (chosen-module f k items rest owners)
  where
    step : (b : Bool) (A R : List Numbered) (F : List (List Item)) → A ≡ map (numbered_as f k) F ++ R → cond b (numbered_as f k x ∷ A) A ≡ map (numbered_as f k) (cond b (x ∷ F) F) ++ R
    step true A R F e = ap (λ (l : List Numbered). numbered_as f k x ∷ l) e
    step false A R F e = e

abbrev joined : List (List (List Item)) → List (List Item)
joined modules = flat_map (λ items. items) modules

chosen-owned : (k : ℕ) (modules : List (List (List Item))) → chosen_numbered false (joined modules) (owners_of k modules) ≡ owned_items k modules
chosen-owned k [] = refl
chosen-owned k (items ∷ rest) = chosen-module false k items (joined rest) (owners_of (k + 1) rest) ∙ ap (λ (l : List Numbered). map (numbered_as false k) (filter (is_chosen false) items) ++ l) (chosen-owned (k + 1) rest)

chosen-free : (k : ℕ) (modules : List (List (List Item))) → chosen_numbered true (joined modules) (owners_of k modules) ≡ free_items modules
chosen-free k [] = refl
chosen-free k (items ∷ rest) = chosen-module true k items (joined rest) (owners_of (k + 1) rest) ∙ ap (λ (l : List Numbered). map (numbered_as true k) (filter (is_chosen true) items) ++ l) (chosen-free (k + 1) rest)

-- the places have the items in their numbering
pub all-read : (modules : List (List (List Item))) → map (numbered_at (flat_map (λ items. items) modules)) (all_places (flat_map (λ items. items) modules) (owners_of 0 modules)) ≡ numbered_items modules
all-read modules =
    map-append (numbered_at (joined modules)) (chosen_places false 0 (joined modules) (owners_of 0 modules)) (chosen_places true 0 (joined modules) (owners_of 0 modules))
    ∙ (ap (λ (l : List Numbered). l ++ map (numbered_at (joined modules)) (chosen_places true 0 (joined modules) (owners_of 0 modules))) (chosen-read false [] (joined modules) (owners_of 0 modules) 0 refl ∙ chosen-owned 0 modules)
    ∙ ap (λ (l : List Numbered). owned_items 0 modules ++ l) (chosen-read true [] (joined modules) (owners_of 0 modules) 0 refl ∙ chosen-free 0 modules))

-- ---- each place once
abbrev ats : List ItemPlace → List ℕ
ats places = map at_of places

-- where a place of a chosen item lies
pub record LiesIn (f : Bool) (i : ℕ) (items : List (List Item)) (s : ℕ) : Type 0 where
  pub offset : ℕ
  pub is : s ≡ i + offset
  pub within : offset < length items
  pub chosen : is_chosen f (get_or items offset []) ≡ true

lies-more : (f : Bool) (i : ℕ) (x : List Item) (items : List (List Item)) (s : ℕ) → LiesIn f (i + 1) items s → LiesIn f i (x ∷ items) s
lies-more f i x items s h = record { offset = suc h.offset; is = omega (arith, h.is); within = omega (arith, h.within); chosen = h.chosen }

lies : (f : Bool) (i : ℕ) (items : List (List Item)) (owners : List ℕ) (s : ℕ) → Contains (ats (chosen_places f i items owners)) s → LiesIn f i items s
lies f i [] owners s c = absurd (Contains-none s c)
lies f i (x ∷ items) [] s c = absurd (Contains-none s c)
lies f i (x ∷ items) (o ∷ owners) s c = step (λ d. lies f (i + 1) items owners s d) (is_chosen f x) refl c
  where
    step : (Contains (ats (chosen_places f (i + 1) items owners)) s → LiesIn f (i + 1) items s) → (b : Bool) → is_chosen f x ≡ b → Contains (ats (cond b (place_of f i o ∷ chosen_places f (i + 1) items owners) (chosen_places f (i + 1) items owners))) s → LiesIn f i (x ∷ items) s
    step deeper true e c = elim ((Contains-cons i (ats (chosen_places f (i + 1) items owners)) s).0 c) [
      | inl same ↦ record { offset = 0; is = omega (arith, same); within = omega arith; chosen = e }
      | inr more ↦ lies-more f i x items s (deeper more)
    ]
    step deeper false e c = lies-more f i x items s (deeper c)

there : (f : Bool) (i : ℕ) (items : List (List Item)) (owners : List ℕ) (j : ℕ) → length owners ≡ length items → j < length items → is_chosen f (get_or items j []) ≡ true → Contains (ats (chosen_places f i items owners)) (i + j)
there f i [] owners j e l h = absurd (omega (arith, l))
there f i (x ∷ items) [] j e l h = absurd (omega (arith, e))
there f i (x ∷ items) (o ∷ owners) zero e l h =
    subst (λ b. Contains (ats (cond b (place_of f i o ∷ chosen_places f (i + 1) items owners) (chosen_places f (i + 1) items owners))) (i + 0)) (sym h)
    ((Contains-cons i (ats (chosen_places f (i + 1) items owners)) (i + 0)).1 (inl (let same : i ≡ i + 0 = omega arith in same)))
there f i (x ∷ items) (o ∷ owners) (suc j) e l h =
    subst (λ s. Contains (ats (chosen_places f i (x ∷ items) (o ∷ owners))) s) (let same : i + 1 + j ≡ i + suc j = omega arith in same)
    (step (is_chosen f x) (chosen_places f (i + 1) items owners) (there f (i + 1) items owners j (omega (arith, e)) (omega (arith, l)) h))
  where
    step : (b : Bool) (A : List ItemPlace) → Contains (ats A) (i + 1 + j) → Contains (ats (cond b (place_of f i o ∷ A) A)) (i + 1 + j)
    step true A c = (Contains-cons i (ats A) (i + 1 + j)).1 (inr c)
    step false A c = c

-- no number stands twice
abbrev AreApart : List ℕ → Type 0
AreApart xs = (i j : ℕ) → i < j → j < length xs → get_or xs i 0 ≢ get_or xs j 0

pub contains-at : (xs : List ℕ) (j : ℕ) → j < length xs → Contains xs (get_or xs j 0)
contains-at [] j l = absurd (omega (arith, l))
contains-at (x ∷ xs) zero l = (Contains-cons x xs x).1 (inl refl)
contains-at (x ∷ xs) (suc j) l = (Contains-cons x xs (get_or xs j 0)).1 (inr (contains-at xs j (omega (arith, l))))

apart-cons : (x : ℕ) (xs : List ℕ) → (Contains xs x → ⊥) → AreApart xs → AreApart (x ∷ xs)
apart-cons x xs new apart i zero l k = absurd (omega (arith, l))
apart-cons x xs new apart zero (suc j) l k = λ e. new (subst (λ y. Contains xs y) (sym e) (contains-at xs j (omega (arith, k))))
apart-cons x xs new apart (suc i) (suc j) l k = apart i j (omega (arith, l)) (omega (arith, k))

apart-append : (xs ys : List ℕ) → AreApart xs → AreApart ys → ((x : ℕ) → Contains xs x → Contains ys x → ⊥) → AreApart (xs ++ ys)
apart-append [] ys a b none = b
apart-append (x ∷ xs) ys a b none = apart-cons x (xs ++ ys)
    (λ c. elim (Contains-append_cases xs ys x c) [
      | inl d ↦ absurd (twice d)
      | inr d ↦ absurd (none x ((Contains-cons x xs x).1 (inl refl)) d)
    ])
    (apart-append xs ys (λ i j l k. a (suc i) (suc j) (omega (arith, l)) (omega (arith, k))) b (λ y c d. none y ((Contains-cons x xs y).1 (inr c)) d))
  where
    twice : Contains xs x → ⊥
    twice d = a zero (suc d.0) (omega arith) (omega (arith, d.1)) (sym (get_or_default xs d.0 0 x d.1 ∙ d.2))

chosen-apart : (f : Bool) (i : ℕ) (items : List (List Item)) (owners : List ℕ) → AreApart (ats (chosen_places f i items owners))
chosen-apart f i [] owners = λ a b l k. absurd (omega (arith, k))
chosen-apart f i (x ∷ items) [] = λ a b l k. absurd (omega (arith, k))
chosen-apart f i (x ∷ items) (o ∷ owners) = step (chosen-apart f (i + 1) items owners) (is_chosen f x)
  where
    step : AreApart (ats (chosen_places f (i + 1) items owners)) → (b : Bool) → AreApart (ats (cond b (place_of f i o ∷ chosen_places f (i + 1) items owners) (chosen_places f (i + 1) items owners)))
    step rest true = apart-cons i (ats (chosen_places f (i + 1) items owners)) (λ c. let h = lies f (i + 1) items owners i c in omega (arith, h.is)) rest
    step rest false = rest

-- an item is among the free ones or among the others
one-of : (x : List Item) → (is_chosen false x ≡ true) ⊎ (is_chosen true x ≡ true)
one-of x = by (is_injected x)
  where
    by : (b : Bool) → (not b ≡ true) ⊎ (b ≡ true)
    by true = inr refl
    by false = inl refl

not-both : (x : List Item) → is_chosen false x ≡ true → is_chosen true x ≡ true → ⊥
not-both x a b = false≢true (ap not (sym b) ∙ a)

module _ (items : List (List Item)) (owners : List ℕ) (len : length owners ≡ length items) where
  split : ats (all_places items owners) ≡ ats (chosen_places false 0 items owners) ++ ats (chosen_places true 0 items owners)
  split = map-append at_of (chosen_places false 0 items owners) (chosen_places true 0 items owners)

  apart : (x : ℕ) → Contains (ats (chosen_places false 0 items owners)) x → Contains (ats (chosen_places true 0 items owners)) x → ⊥
  apart x c d =
      let a = lies false 0 items owners x c in
      let b = lies true 0 items owners x d in
      not-both (get_or items a.offset []) a.chosen (ap (λ j. is_chosen true (get_or items j [])) (let same : a.offset ≡ b.offset = omega (arith, a.is, b.is) in same) ∙ b.chosen)

  in-list : (x : ℕ) → Contains (ats (all_places items owners)) x → x < length items
  in-list x c = elim (Contains-append_cases (ats (chosen_places false 0 items owners)) (ats (chosen_places true 0 items owners)) x (subst (λ (l : List ℕ). Contains l x) split c)) [
    | inl d ↦ let h = lies false 0 items owners x d in omega (arith, h.is, h.within)
    | inr d ↦ let h = lies true 0 items owners x d in omega (arith, h.is, h.within)
  ]

  all-there : (n : ℕ) → n < length items → Contains (ats (all_places items owners)) n
  all-there n l = subst (λ (k : List ℕ). Contains k n) (sym split) (elim (one-of (get_or items n [])) [
    | inl h ↦ Contains-append_left (ats (chosen_places false 0 items owners)) (ats (chosen_places true 0 items owners)) n (subst (λ s. Contains (ats (chosen_places false 0 items owners)) s) (let same : 0 + n ≡ n = omega arith in same) (there false 0 items owners n len l h))
    | inr h ↦ Contains-append_right (ats (chosen_places false 0 items owners)) (ats (chosen_places true 0 items owners)) n (subst (λ s. Contains (ats (chosen_places true 0 items owners)) s) (let same : 0 + n ≡ n = omega arith in same) (there true 0 items owners n len l h))
  ])

  pub IsArrangement-places : IsArrangement (map at_of (all_places items owners)) (length items)
  IsArrangement-places = record {
    within = λ k l. in-list (get_or (ats (all_places items owners)) k 0) (contains-at (ats (all_places items owners)) k l);
    all = all-there;
    once = subst (λ (l : List ℕ). AreApart l) (sym split) (apart-append (ats (chosen_places false 0 items owners)) (ats (chosen_places true 0 items owners)) (chosen-apart false 0 items owners) (chosen-apart true 0 items owners) apart);
  }

-- ---- in another order
abbrev read_at : List ℕ → ℕ → ℕ
read_at places n = get_or places n 0

module _ (places numbers : List ℕ) (count : ℕ) (is : IsArrangement places count) (all : (n : ℕ) → (n < length places) ↔ Contains numbers n) (once : IsDistinct nat_eq numbers) where
  number-in : (k : ℕ) → k < length numbers → get_or numbers k 0 < length places
  number-in k l = (all (get_or numbers k 0)).1 (contains-at numbers k l)

  at-number : (k : ℕ) → k < length numbers → get_or (map (read_at places) numbers) k 0 ≡ get_or places (get_or numbers k 0) 0
  at-number k l = get_or-map (read_at places) numbers k 0 0 l

  numbers-apart : (i j : ℕ) → i < j → j < length numbers → get_or numbers i 0 ≢ get_or numbers j 0
  numbers-apart i j l k e = false≢true (sym (apart_from_distinct nat_eq numbers i j 0 once l k) ∙ eq-eqb (get_or numbers i 0) (get_or numbers j 0) e)

  same-place : (a b : ℕ) → a < length places → b < length places → get_or places a 0 ≡ get_or places b 0 → a ≡ b
  same-place a b l k e = elim (cases_lt a b) [
    | inl less ↦ absurd (is.once a b less k e)
    | inr more ↦ elim (cases_eq a b) [ inl same ↦ same | inr other ↦ absurd (is.once b a (omega (arith, more, other)) l (sym e)) ]
  ]

  pub IsArrangement-composed : IsArrangement (map (λ n. get_or places n 0) numbers) count
  IsArrangement-composed = record {
    within = λ k l. let m : k < length numbers = omega (arith, l, length-map numbers (read_at places)) in subst (λ x. x < count) (sym (at-number k m)) (is.within (get_or numbers k 0) (number-in k m));
    all = λ n l. let c = is.all n l in let d = (all c.0).0 c.1 in by n c.0 (get_or_default places c.0 0 n c.1 ∙ c.2) d;
    once = λ i j l k e.
        let m : j < length numbers = omega (arith, k, length-map numbers (read_at places)) in
        let h : i < length numbers = omega (arith, l, m) in
        numbers-apart i j l m (same-place (get_or numbers i 0) (get_or numbers j 0) (number-in i h) (number-in j m) (sym (at-number i h) ∙ (e ∙ at-number j m)));
  }
    where
      mapped : (numbers : List ℕ) (s n : ℕ) → get_or places s 0 ≡ n → Contains numbers s → Contains (map (read_at places) numbers) n
      mapped [] s n e c = absurd (Contains-none s c)
      mapped (x ∷ numbers) s n e c = (Contains-cons (read_at places x) (map (read_at places) numbers) n).1 (elim ((Contains-cons x numbers s).0 c) [
        | inl same ↦ inl (ap (read_at places) same ∙ e)
        | inr more ↦ inr (mapped numbers s n e more)
      ])

      by : (n s : ℕ) → get_or places s 0 ≡ n → Contains numbers s → Contains (map (read_at places) numbers) n
      by n s e c = mapped numbers s n e c

-- ---- how many
pub length-owners : {X : Type 0} (k : ℕ) (modules : List (List X)) → length (owners_of k modules) ≡ length (flat_map (λ items. items) modules)
length-owners k [] = refl
length-owners {X} k (items ∷ rest) = length-append (map (λ (item : X). k) items) (owners_of (k + 1) rest) ∙ (let a = length-map items (λ (item : X). k) in let b = length-owners (k + 1) rest in let c = length-append items (flat_map (λ (items : List X). items) rest) in omega (arith, a, b, c))

-- all places lie in the list
pub all-within : (items : List (List Item)) (owners : List ℕ) → length owners ≡ length items → (count : ℕ) → length items ≡ count → All (λ (place : ItemPlace). place.at < count) (all_places items owners)
all-within items owners len count same k d l =
    let is = IsArrangement-places items owners len in
    subst (λ n. n < count) (get_or-map at_of (all_places items owners) k d 0 l)
    (let w = is.within k (let m = length-map (all_places items owners) at_of in omega (arith, l, m)) in omega (arith, w, same))

-- ---- owner
tail : (range : ℕ × ℕ) (rest : List (ℕ × ℕ)) → AreAscending (range ∷ rest) → AreAscending rest
tail range rest up i j a b l e f = up (suc i) (suc j) a b (omega (arith, l)) e f

outside : (b : Bool) (range : ℕ × ℕ) (n : ℕ) → range.1 ≤ n → (b && ltb n range.1) ≡ false
outside true range n l = le-ltb n range.1 l
outside false range n l = refl

early : (range : ℕ × ℕ) (n : ℕ) → n < range.0 → (leb range.0 n && ltb n range.1) ≡ false
early range n l = ap (λ b. b && ltb n range.1) (lt-leb range.0 n l)

-- a number before all of them is in none
none-before : (n k : ℕ) (ranges : List (ℕ × ℕ)) → ((i : ℕ) (a : ℕ × ℕ) → slice_get ranges i ≡ Some a → n < a.0) → owner_in n k ranges ≡ None
none-before n k [] before = refl
none-before n k (range ∷ rest) before =
    ap (λ b. cond b (Some k) (owner_in n (k + 1) rest)) (early range n (before zero range refl))
    ∙ none-before n (k + 1) rest (λ i a e. before (suc i) a e)

pub owner-is : (n k m : ℕ) (ranges : List (ℕ × ℕ)) → AreAscending ranges → ArePast ranges m n → ((range : ℕ × ℕ) → slice_get ranges m ≡ Some range → n < range.1) → owner_in n k ranges ≡ owner_at n (k + m) (slice_get ranges m)
owner-is n k m [] up past at = refl
owner-is n k zero (range ∷ rest) up past at =
    ap (λ o. cond (leb range.0 n && ltb n range.1) (Some k) o) (none-before n (k + 1) rest (λ i a e. let l = up zero (suc i) range a (omega arith) refl e in let h = at range refl in omega (arith, l, h)))
    ∙ ap (λ j. cond (leb range.0 n && ltb n range.1) (Some j) None) (let same : k ≡ k + 0 = omega arith in same)
owner-is n k (suc m) (range ∷ rest) up past at =
    ap (λ b. cond b (Some k) (owner_in n (k + 1) rest)) (outside (leb range.0 n) range n (past zero range (omega arith) refl))
    ∙ (owner-is n (k + 1) m rest (tail range rest up) (λ i a l e. past (suc i) a (omega (arith, l)) e) at
    ∙ ap (λ j. owner_at n j (slice_get rest m)) (let same : k + 1 + m ≡ k + suc m = omega arith in same))

-- the owners, one item more
pub owners-push : (ranges : List (ℕ × ℕ)) (i : ℕ) (lists : List (List Item)) (x : List Item) → owners_by ranges i (lists ++ x ∷ []) ≡ owners_by ranges i lists ++ owner_in (i + length lists) 0 ranges ∷ []
owners-push ranges i [] x = ap (λ j. owner_in j 0 ranges ∷ []) (let same : i ≡ i + 0 = omega arith in same)
owners-push ranges i (y ∷ lists) x = ap (λ l. owner_in i 0 ranges ∷ l) (owners-push ranges (i + 1) lists x ∙ ap (λ j. owners_by ranges (i + 1) lists ++ owner_in j 0 ranges ∷ []) (let same : i + 1 + length lists ≡ i + suc (length lists) = omega arith in same))

-- the ends of a range that is read
pub ends-at : (ranges : List (Range ℕ)) (at : ℕ) (none : Range ℕ) (range : ℕ × ℕ) → slice_get (map ends_of ranges) at ≡ Some range → ends_of (get_or ranges at none) ≡ range
ends-at [] at none range e = absurd (none-some range e)
ends-at (x ∷ ranges) zero none range e = same_Some (ends_of x) range e
ends-at (x ∷ ranges) (suc at) none range e = ends-at ranges at none range e

-- ---- the graph
module _ (g : Group) (graph : Statements) (items : List SortItem) (is : IsItemGraph graph items) (found : AreFound g (map dependencies_of items)) where
  always-some : Some Always ≡ Some Maybe → ⊥
  always-some e = cc

  pub weights : (s t : ℕ) → IsDependency_weight g s t (weight graph s t)
  weights s t = by (weight graph s t) refl
    where
      maybe : (w : Bool) → NamesListed items s t w → weight graph s t ≡ Some Maybe → IsWeak g s t
      maybe true n e = (found.weak s t).0 (has g items found s t true n)
      maybe false n e = absurd (always-some (sym ((is.always s t).1 n) ∙ e))

      nothing : (w : Bool) → NamesListed items s t w → weight graph s t ≡ None → ⊥
      nothing w n e = false≢true (sym (ap is_some e) ∙ (is.edges s t).1 (w, n))

      by : (r : Option Required) → weight graph s t ≡ r → IsDependency_weight g s t r
      by (Some Always) e = (found.strong s t).0 (has g items found s t false ((is.always s t).0 e))
      by (Some Maybe) e = let d = (is.edges s t).0 (ap is_some e) in maybe d.0 d.1 e
      by None e = (
        λ strong. nothing false (names g items found s t false ((found.strong s t).1 strong) strong.depends) e,
        λ weak. nothing true (names g items found s t true ((found.weak s t).1 weak) weak.depends) e,
      )
