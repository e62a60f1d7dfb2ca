-- A graph of statements and its rows, after a node or an edge is added.
use Rattle.std.proofs.Common.{◌≡◌, ◌≢◌, Bool, true, false, cond, ◌&&◌, nat_eq, eqb-true, eq-eqb, ℕ, zero, suc, ◌+◌, ◌-◌, ◌<◌, ◌≤◌, ◌⊎◌, ◌↔◌, List, [], ◌∷◌, ◌++◌, length, get_or, set, map, Contains, Some, None, IsSome, Result, Ok, IfOk, position, refl, sym, ap, ◌∙◌, subst, inl, inr, arith}
use Rattle.std.specs.List.{list_any, IsDistinct, AllByRecursion}
use Rattle.std.specs.Map.{lookup, keys_of}
use Rattle.std.proofs.lemmas.Bool.{cases_eq, cases_lt, false≢true}
use Rattle.std.proofs.lemmas.List.{get_or_past, get_or_push, get_or_append_left, get_or-append_right, get_or-set_same, get_or-set_other, length_push, length-set, length-map}
use Rattle.std.proofs.lemmas.List.Elements.{Contains-append_left}
use Rattle.std.proofs.lemmas.Map.Keys.{IsDistinct-cons, IsDistinct-head, IsDistinct-tail}
use Rattle.indexmap.specs.IndexMap.{insert_entry}
use Rattle.bundle_order_graph.specs.Nodes.{added, place}
use Rattle.bundle_order_graph.specs.Walks.{Reaches, itself, along, Path}
use Rattle.bundle_order_graph.specs.Blocks.{Members, nothing, kept, left}
use Rattle.bundle_order_graph.specs.Bits.{HasBit, SameRows, Joins, IsTransitive}
use Rattle.bundle_order_graph.specs.Statements.{Statements, weight, strongest, IsDependency, AddsStatement, AddsDependency}
use Rattle.bundle_order_graph.specs.Reached.{Leads, LeadsTo, IsExact}
use Rattle.bundle_order_graph.specs.declared.sort.Required.{Required}
use Rattle.bundle_order_graph.proofs.OrderLemmas.{Contains-head, Contains-tail, Contains-cons_cases}
use Rattle.bundle_order_graph.proofs.BitLemmas.{Has-nil}
use Rattle.bundle_order_graph.proofs.WalkLemmas.{Path-trans, Path-mono, Path-joined}
use Rattle.bundle_order_graph.proofs.NodeLemmas.{place-le, place-read, place-out, place-contains, Contains-place, same_place, place-push_in, place-push_out, added-in, added-out, found, missing, Contains-added_old, Contains-added_new, position-Some_place, position-None_place, seen-read, seen-set, seen-push, keys_pushed}

-- ---- places of nodes, once another is added
pub place-added_in : (nodes : List ℕ) (n m : ℕ) → place nodes m < length nodes → place (added nodes n) m ≡ place nodes m
place-added_in nodes n m h = by (list_any (nat_eq n) nodes) refl
  where
    by : (b : Bool) → list_any (nat_eq n) nodes ≡ b → place (added nodes n) m ≡ place nodes m
    by true e = ap (λ l. place l m) (added-in nodes n e)
    by false e = ap (λ l. place l m) (added-out nodes n e) ∙ place-push_in nodes n m h

pub place-added_new : (nodes : List ℕ) (n : ℕ) → place nodes n ≡ length nodes → place (added nodes n) n ≡ length nodes
place-added_new nodes n out = ap (λ l. place l n) (added-out nodes n (missing nodes n out)) ∙ (place-push_out nodes n n out ∙ (ap (λ b. length nodes + cond b 0 1) (eq-eqb n n refl) ∙ omega arith))

pub place-added_self : (nodes : List ℕ) (n : ℕ) → place (added nodes n) n ≡ place nodes n
place-added_self nodes n = elim (cases_lt (place nodes n) (length nodes)) [
  | inl h ↦ place-added_in nodes n n h
  | inr g ↦ let out : place nodes n ≡ length nodes = omega (arith, g, place-le nodes n) in place-added_new nodes n out ∙ sym out
]

length-added : (nodes : List ℕ) (n : ℕ) → length nodes ≤ length (added nodes n)
length-added nodes n = by (list_any (nat_eq n) nodes) refl
  where
    by : (b : Bool) → list_any (nat_eq n) nodes ≡ b → length nodes ≤ length (added nodes n)
    by true e = omega (arith, ap length (added-in nodes n e))
    by false e = omega (arith, ap length (added-out nodes n e), length_push nodes n)

get_or-added : (nodes : List ℕ) (n i d : ℕ) → i < length nodes → get_or (added nodes n) i d ≡ get_or nodes i d
get_or-added nodes n i d h = by (list_any (nat_eq n) nodes) refl
  where
    by : (b : Bool) → list_any (nat_eq n) nodes ≡ b → get_or (added nodes n) i d ≡ get_or nodes i d
    by true e = ap (λ l. get_or l i d) (added-in nodes n e)
    by false e = ap (λ l. get_or l i d) (added-out nodes n e) ∙ get_or_append_left nodes (n ∷ []) d i h

-- ---- a look-up, once an entry is inserted
lookup-inserted : (es : List (ℕ × Required)) (b x : ℕ) (r : Required) → lookup (nat_eq x) (insert_entry nat_eq es b r) ≡ cond (nat_eq x b) (Some r) (lookup (nat_eq x) es)
lookup-inserted [] b x r = refl
lookup-inserted (e ∷ es) b x r = by (lookup-inserted es b x r) (nat_eq b e.0) refl (nat_eq x b) refl
  where
    by : lookup (nat_eq x) (insert_entry nat_eq es b r) ≡ cond (nat_eq x b) (Some r) (lookup (nat_eq x) es) → (p : Bool) → nat_eq b e.0 ≡ p → (q : Bool) → nat_eq x b ≡ q → lookup (nat_eq x) (cond p ((e.0, r) ∷ es) (e ∷ insert_entry nat_eq es b r)) ≡ cond q (Some r) (cond (nat_eq x e.0) (Some e.1) (lookup (nat_eq x) es))
    by rest true p true q = ap (λ t. cond t (Some r) (lookup (nat_eq x) es)) (eq-eqb x e.0 (eqb-true x b q ∙ eqb-true b e.0 p))
    by rest true p false q = ap (λ t. cond t (Some r) (lookup (nat_eq x) es)) differs ∙ sym (ap (λ t. cond t (Some e.1) (lookup (nat_eq x) es)) differs)
      where
        differs : nat_eq x e.0 ≡ false
        differs = ap (λ y. nat_eq x y) (sym (eqb-true b e.0 p)) ∙ q
    by rest false p true q = ap (λ t. cond t (Some e.1) (lookup (nat_eq x) (insert_entry nat_eq es b r))) differs ∙ (rest ∙ ap (λ t. cond t (Some r) (lookup (nat_eq x) es)) q)
      where
        differs : nat_eq x e.0 ≡ false
        differs = ap (λ y. nat_eq y e.0) (eqb-true x b q) ∙ p
    by rest false p false q = ap (λ y. cond (nat_eq x e.0) (Some e.1) y) (rest ∙ ap (λ t. cond t (Some r) (lookup (nat_eq x) es)) q)

-- ---- the rows
pub IsExact-same : (g : Statements) (old new : List (List ℕ)) → IsExact g old → SameRows old new → length old ≤ length new → IsExact g new
IsExact-same g old new e same longer = record {
  len = e.len;
  closed = e.closed;
  enough = omega (arith, e.enough, longer);
  exact = λ i j. (λ h. (e.exact i j).0 ((same i j).0 h), λ p. (same i j).1 ((e.exact i j).1 p));
}

pub IsExact-transitive : (g : Statements) (rows : List (List ℕ)) → IsExact g rows → IsTransitive rows
IsExact-transitive g rows e i j k p q = (e.exact i k).1 (Path-trans ((e.exact i j).0 p) ((e.exact j k).0 q))

-- a walk between nodes is one between their places
module _ (g : Statements) (rows : List (List ℕ)) (e : IsExact g rows) where
  node_at : (i b : ℕ) → Leads g i b → place g.nodes b < length g.nodes
  node_at i b h = place-contains g.nodes b (e.closed i b h)

  places_reached : {a b : ℕ} → Reaches (IsDependency g) a b → Reaches (LeadsTo g) (place g.nodes a) (place g.nodes b)
  places_reached itself = itself
  places_reached (along {a} {b} d r) = along (b, d, refl) (places_reached r)

  nodes_reached : {i j : ℕ} → Reaches (LeadsTo g) i j → (a b : ℕ) → place g.nodes a ≡ i → place g.nodes a < length g.nodes → place g.nodes b ≡ j → Reaches (IsDependency g) a b
  nodes_reached itself a b p l q = subst (λ x. Reaches (IsDependency g) a x) (same_place g.nodes a b l (p ∙ sym q)) itself
  nodes_reached (along {a = i} d r) a b p l q =
      let edge : Leads g (place g.nodes a) d.0 = subst (λ k. Leads g k d.0) (sym p) d.1 in
      along edge (nodes_reached r d.0 b d.2 (node_at i d.0 d.1) q)

  pub walks_at_places : (a b : ℕ) → Path (IsDependency g) a b ↔ Path (LeadsTo g) (place g.nodes a) (place g.nodes b)
  walks_at_places a b = (
    λ p. (place g.nodes p.0, (p.0, p.1, refl), places_reached p.2),
    λ p. (p.1.0, p.1.1, nodes_reached p.2 p.1.0 b p.1.2 (node_at (place g.nodes a) p.1.0 p.1.1) refl),
  )

  -- a walk begins and ends at nodes
  pub walk_starts : (a b : ℕ) → Path (IsDependency g) a b → place g.nodes a < length g.nodes
  walk_starts a b p = elim (cases_lt (place g.nodes a) (length g.nodes)) [
    | inl h ↦ h
    | inr past ↦ absurd (void (subst (λ (l : List (ℕ × Required)). IsSome (lookup (nat_eq p.0) l)) (get_or_past g.edges (place g.nodes a) [] (omega (arith, past, e.len))) p.1))
  ]
    where
      void : IsSome {T = Required} None → ⊥
      void h = false≢true h

  reached_node : {a b : ℕ} → Reaches (IsDependency g) a b → place g.nodes a < length g.nodes → place g.nodes b < length g.nodes
  reached_node itself l = l
  reached_node (along {a} {b} d r) l = reached_node r (node_at (place g.nodes a) b d)

  pub walk_ends : (a b : ℕ) → Path (IsDependency g) a b → place g.nodes b < length g.nodes
  walk_ends a b p = reached_node p.2 (node_at (place g.nodes a) p.0 p.1)

  pub starts_at_node : (a b : ℕ) → IsDependency g a b → Contains g.nodes a
  starts_at_node a b d = Contains-place g.nodes a (walk_starts a b (b, d, itself))

  -- what `has_a_path` reads
  pub walk_read : (a b i j : ℕ) → position (nat_eq a) g.nodes ≡ Some i → position (nat_eq b) g.nodes ≡ Some j → HasBit rows i j ↔ Path (IsDependency g) a b
  walk_read a b i j p q =
      let from = (position-Some_place g.nodes a i p).0 in
      let to = (position-Some_place g.nodes b j q).0 in
      let bits : HasBit rows (place g.nodes a) (place g.nodes b) ↔ Path (IsDependency g) a b = (λ h. (walks_at_places a b).1 ((e.exact (place g.nodes a) (place g.nodes b)).0 h), λ w. (e.exact (place g.nodes a) (place g.nodes b)).1 ((walks_at_places a b).0 w)) in
      subst (λ x. HasBit rows x j ↔ Path (IsDependency g) a b) from (subst (λ y. HasBit rows (place g.nodes a) y ↔ Path (IsDependency g) a b) to bits)

  pub no_walk_from : (a b : ℕ) → position (nat_eq a) g.nodes ≡ None → Path (IsDependency g) a b → ⊥
  no_walk_from a b p w = omega (arith, position-None_place g.nodes a p, walk_starts a b w)

  pub no_walk_to : (a b : ℕ) → position (nat_eq b) g.nodes ≡ None → Path (IsDependency g) a b → ⊥
  no_walk_to a b p w = omega (arith, position-None_place g.nodes b p, walk_ends a b w)

-- ---- a node is added
module _ (g : Statements) (n : ℕ) (rows : List (List ℕ)) (e : IsExact g rows) (absent : list_any (nat_eq n) g.nodes ≡ false) (enough : length g.nodes + 1 ≤ length rows) (new : Statements) (nodes : new.nodes ≡ g.nodes ++ n ∷ []) (edges : new.edges ≡ g.edges ++ [] ∷ []) where
  out : place g.nodes n ≡ length g.nodes
  out = place-out g.nodes n absent

  row_same : (i : ℕ) → get_or new.edges i [] ≡ get_or g.edges i []
  row_same i = ap (λ (l : List (List (ℕ × Required))). get_or l i []) edges ∙ elim (cases_lt i (length g.edges)) [
    | inl h ↦ get_or_append_left g.edges ([] ∷ []) [] i h
    | inr past ↦ get_or-append_right g.edges ([] ∷ []) (length g.edges) i [] refl past ∙ (single (i - length g.edges) ∙ sym (get_or_past g.edges i [] past))
  ]
    where
      single : (k : ℕ) → ◌≡◌ {A = List (ℕ × Required)} (get_or ([] ∷ []) k []) []
      single zero = refl
      single (suc k) = get_or_past [] k [] (omega arith)

  leads_same : (i b : ℕ) → Leads new i b ↔ Leads g i b
  leads_same i b = (λ h. subst (λ (l : List (ℕ × Required)). IsSome (lookup (nat_eq b) l)) (row_same i) h, λ h. subst (λ (l : List (ℕ × Required)). IsSome (lookup (nat_eq b) l)) (sym (row_same i)) h)

  place_same : (i b : ℕ) → Leads g i b → place new.nodes b ≡ place g.nodes b
  place_same i b h = ap (λ l. place l b) nodes ∙ place-push_in g.nodes n b (place-contains g.nodes b (e.closed i b h))

  pub IsExact-node : IsExact new rows
  IsExact-node = record {
    len = ap length edges ∙ (length_push g.edges [] ∙ (ap (λ k. k + 1) e.len ∙ (sym (length_push g.nodes n) ∙ ap length (sym nodes))));
    closed = λ i b h. subst (λ l. Contains l b) (sym nodes) (Contains-append_left g.nodes (n ∷ []) b (e.closed i b ((leads_same i b).0 h)));
    enough = omega (arith, enough, ap length nodes, length_push g.nodes n);
    exact = λ i j. (
      λ h. Path-mono (λ x y d. (d.0, (leads_same x d.0).1 d.1, place_same x d.0 d.1 ∙ d.2)) ((e.exact i j).0 h),
      λ p. (e.exact i j).1 (Path-mono (λ x y d. let o = (leads_same x d.0).0 d.1 in (d.0, o, sym (place_same x d.0 o) ∙ d.2)) p),
    );
  }

  pub node_added : AddsStatement g new n
  node_added = record {
    nodes = nodes ∙ sym (added-out g.nodes n absent);
    same = λ a b. ap (λ (l : List (ℕ × Required)). lookup (nat_eq b) l) (row_same (place new.nodes a) ∙ by a);
  }
    where
      by : (a : ℕ) → get_or g.edges (place new.nodes a) [] ≡ get_or g.edges (place g.nodes a) []
      by a = elim (cases_lt (place g.nodes a) (length g.nodes)) [
        | inl h ↦ ap (λ k. get_or g.edges k []) (ap (λ l. place l a) nodes ∙ place-push_in g.nodes n a h)
        | inr past ↦
            let at : place g.nodes a ≡ length g.nodes = omega (arith, past, place-le g.nodes a) in
            get_or_past g.edges (place new.nodes a) [] (omega (arith, e.len, ap (λ l. place l a) nodes, place-push_out g.nodes n a at)) ∙ sym (get_or_past g.edges (place g.nodes a) [] (omega (arith, e.len, past)))
      ]

-- ---- an edge is added
-- h is g with a, and with the edge from a to b, but perhaps not yet with b
pub record HasLink (g h : Statements) (a b : ℕ) (r : Required) : Type 0 where
  pub len : length h.edges ≡ length h.nodes
  pub nodes : h.nodes ≡ added g.nodes a
  pub row : get_or h.edges (place g.nodes a) [] ≡ insert_entry nat_eq (get_or g.edges (place g.nodes a) []) b r
  pub rows : (i : ℕ) → i ≢ place g.nodes a → get_or h.edges i [] ≡ get_or g.edges i []

-- a list that stands past the others
row_push_same : (lists : List (List (ℕ × Required))) (xs : List (ℕ × Required)) (n : ℕ) → length lists ≡ n → get_or (lists ++ xs ∷ []) n [] ≡ xs
row_push_same lists xs n e = get_or_push lists xs [] n e

row_push_other : (lists : List (List (ℕ × Required))) (xs : List (ℕ × Required)) (i : ℕ) → i ≢ length lists → get_or (lists ++ xs ∷ []) i [] ≡ get_or lists i []
row_push_other lists xs i ne = elim (cases_lt i (length lists)) [
  | inl h ↦ get_or_append_left lists (xs ∷ []) [] i h
  | inr past ↦ get_or_past (lists ++ xs ∷ []) i [] (omega (arith, length_push lists xs, past, ne)) ∙ sym (get_or_past lists i [] past)
]

pub link_in : (g : Statements) (a b : ℕ) (r : Required) → length g.edges ≡ length g.nodes → place g.nodes a < length g.nodes → (h : Statements) → h.nodes ≡ g.nodes → h.edges ≡ set g.edges (place g.nodes a) (insert_entry nat_eq (get_or g.edges (place g.nodes a) []) b r) → HasLink g h a b r
link_in g a b r len at h nodes edges = record {
  len = ap length edges ∙ (length-set g.edges (place g.nodes a) xs ∙ (len ∙ ap length (sym nodes)));
  nodes = nodes ∙ sym (added-in g.nodes a (found g.nodes a at));
  row = ap (λ (l : List (List (ℕ × Required))). get_or l (place g.nodes a) []) edges ∙ get_or-set_same g.edges (place g.nodes a) xs [] (omega (arith, at, len));
  rows = λ i ne. ap (λ (l : List (List (ℕ × Required))). get_or l i []) edges ∙ get_or-set_other g.edges (place g.nodes a) i xs [] ne;
}
  where
    xs : List (ℕ × Required)
    xs = insert_entry nat_eq (get_or g.edges (place g.nodes a) []) b r

pub link_out : (g : Statements) (a b : ℕ) (r : Required) → length g.edges ≡ length g.nodes → place g.nodes a ≡ length g.nodes → (h : Statements) → h.nodes ≡ g.nodes ++ a ∷ [] → h.edges ≡ g.edges ++ insert_entry nat_eq [] b r ∷ [] → HasLink g h a b r
link_out g a b r len out h nodes edges = record {
  len = ap length edges ∙ (length_push g.edges xs ∙ (ap (λ k. k + 1) len ∙ (sym (length_push g.nodes a) ∙ ap length (sym nodes))));
  nodes = nodes ∙ sym (added-out g.nodes a (missing g.nodes a out));
  row = ap (λ (l : List (List (ℕ × Required))). get_or l (place g.nodes a) []) edges ∙ (row_push_same g.edges xs (place g.nodes a) (len ∙ sym out) ∙ ap (λ (l : List (ℕ × Required)). insert_entry nat_eq l b r) (sym (get_or_past g.edges (place g.nodes a) [] (omega (arith, out, len)))));
  rows = λ i ne. ap (λ (l : List (List (ℕ × Required))). get_or l i []) edges ∙ row_push_other g.edges xs i (λ e. ne (e ∙ (len ∙ sym out)));
}
  where
    xs : List (ℕ × Required)
    xs = insert_entry nat_eq [] b r

-- k is g with both nodes and the edge
pub record HasBoth (g k : Statements) (a b : ℕ) (r : Required) : Type 0 where
  pub len : length k.edges ≡ length k.nodes
  pub nodes : k.nodes ≡ added (added g.nodes a) b
  pub row : get_or k.edges (place g.nodes a) [] ≡ insert_entry nat_eq (get_or g.edges (place g.nodes a) []) b r
  pub rows : (i : ℕ) → i ≢ place g.nodes a → get_or k.edges i [] ≡ get_or g.edges i []

pub both_in : (g h : Statements) (a b : ℕ) (r : Required) → HasLink g h a b r → list_any (nat_eq b) h.nodes ≡ true → HasBoth g h a b r
both_in g h a b r l there = record { len = l.len; nodes = sym (added-in h.nodes b there) ∙ ap (λ x. added x b) l.nodes; row = l.row; rows = l.rows }

pub both_out : (g h : Statements) (a b : ℕ) (r : Required) → length g.edges ≡ length g.nodes → HasLink g h a b r → list_any (nat_eq b) h.nodes ≡ false → (k : Statements) → k.nodes ≡ h.nodes ++ b ∷ [] → k.edges ≡ h.edges ++ [] ∷ [] → HasBoth g k a b r
both_out g h a b r len l absent k nodes edges = record {
  len = ap length edges ∙ (length_push h.edges [] ∙ (ap (λ n. n + 1) l.len ∙ (sym (length_push h.nodes b) ∙ ap length (sym nodes))));
  nodes = nodes ∙ (sym (added-out h.nodes b absent) ∙ ap (λ x. added x b) l.nodes);
  row = same (place g.nodes a) ∙ l.row;
  rows = λ i ne. same i ∙ l.rows i ne;
}
  where
    same : (i : ℕ) → get_or k.edges i [] ≡ get_or h.edges i []
    same i = ap (λ (x : List (List (ℕ × Required))). get_or x i []) edges ∙ elim (cases_eq i (length h.edges)) [
      | inl at ↦ row_push_same h.edges [] i (sym at) ∙ sym (get_or_past h.edges i [] (omega (arith, at)))
      | inr ne ↦ row_push_other h.edges [] i ne
    ]

module _ (g k : Statements) (a b : ℕ) (r : Required) (old new : List (List ℕ)) (e : IsExact g old) (l : HasBoth g k a b r) (longer : length k.nodes ≤ length new) (joins : (i j : ℕ) → HasBit new i j ↔ Joins old (place g.nodes a) (place k.nodes b) i j) where
  abbrev from : ℕ
  from = place g.nodes a

  -- nodes keep their places
  stays : (x : ℕ) → place g.nodes x < length g.nodes → place k.nodes x ≡ place g.nodes x
  stays x h =
      let p = place-added_in g.nodes a x h in
      ap (λ n. place n x) l.nodes ∙ (place-added_in (added g.nodes a) b x (place-contains (added g.nodes a) x (Contains-added_old g.nodes a x (Contains-place g.nodes x h))) ∙ p)

  node : (x : ℕ) → Contains g.nodes x → Contains k.nodes x
  node x c = subst (λ n. Contains n x) (sym l.nodes) (Contains-added_old (added g.nodes a) b x (Contains-added_old g.nodes a x c))

  -- what leads on, in the new graph
  look : (x : ℕ) → lookup (nat_eq x) (get_or k.edges from []) ≡ cond (nat_eq x b) (Some r) (lookup (nat_eq x) (get_or g.edges from []))
  look x = ap (λ (es : List (ℕ × Required)). lookup (nat_eq x) es) l.row ∙ lookup-inserted (get_or g.edges from []) b x r

  leads : (i x : ℕ) → Leads k i x → Leads g i x ⊎ ((i ≡ from) × (x ≡ b))
  leads i x h = elim (cases_eq i from) [
    | inl at ↦ by at (nat_eq x b) refl
    | inr ne ↦ inl (subst (λ (es : List (ℕ × Required)). IsSome (lookup (nat_eq x) es)) (l.rows i ne) h)
  ]
    where
      by : i ≡ from → (t : Bool) → nat_eq x b ≡ t → Leads g i x ⊎ ((i ≡ from) × (x ≡ b))
      by at true t = inr (at, eqb-true x b t)
      by at false t = inl (subst (λ n. Leads g n x) (sym at) (subst IsSome (look x ∙ ap (λ q. cond q (Some r) (lookup (nat_eq x) (get_or g.edges from []))) t) (subst (λ n. Leads k n x) at h)))

  leads_old : (i x : ℕ) → Leads g i x → Leads k i x
  leads_old i x h = elim (cases_eq i from) [
    | inl at ↦ subst (λ n. Leads k n x) (sym at) (subst IsSome (sym (look x)) (by (nat_eq x b) (subst (λ n. Leads g n x) at h)))
    | inr ne ↦ subst (λ (es : List (ℕ × Required)). IsSome (lookup (nat_eq x) es)) (sym (l.rows i ne)) h
  ]
    where
      by : (t : Bool) → Leads g from x → IsSome (cond t (Some r) (lookup (nat_eq x) (get_or g.edges from [])))
      by true o = refl
      by false o = o

  leads_new : Leads k from b
  leads_new = subst IsSome (sym (look b ∙ ap (λ q. cond q (Some r) (lookup (nat_eq b) (get_or g.edges from []))) (eq-eqb b b refl))) refl

  edges_joined : (i j : ℕ) → LeadsTo k i j ↔ (LeadsTo g i j ⊎ ((i ≡ from) × (j ≡ place k.nodes b)))
  edges_joined i j = (
    λ d. elim (leads i d.0 d.1) [
      | inl o ↦ inl (d.0, o, sym (stays d.0 (place-contains g.nodes d.0 (e.closed i d.0 o))) ∙ d.2)
      | inr s ↦ inr (s.0, sym d.2 ∙ ap (λ x. place k.nodes x) s.1)
    ],
    λ c. elim c [
      | inl d ↦ (d.0, leads_old i d.0 d.1, stays d.0 (place-contains g.nodes d.0 (e.closed i d.0 d.1)) ∙ d.2)
      | inr s ↦ (b, subst (λ n. Leads k n b) (sym s.0) leads_new, sym s.1)
    ],
  )

  joined : (i j : ℕ) → Joins old from (place k.nodes b) i j ↔ (Path (LeadsTo g) i j ⊎ (((i ≡ from) ⊎ Path (LeadsTo g) i from) × ((j ≡ place k.nodes b) ⊎ Path (LeadsTo g) (place k.nodes b) j)))
  joined i j = (
    λ c. elim c [ inl h ↦ inl ((e.exact i j).0 h) | inr p ↦ inr (elim p.0 [ inl s ↦ inl s | inr h ↦ inr ((e.exact i from).0 h) ], elim p.1 [ inl s ↦ inl s | inr h ↦ inr ((e.exact (place k.nodes b) j).0 h) ]) ],
    λ c. elim c [ inl w ↦ inl ((e.exact i j).1 w) | inr p ↦ inr (elim p.0 [ inl s ↦ inl s | inr w ↦ inr ((e.exact i from).1 w) ], elim p.1 [ inl s ↦ inl s | inr w ↦ inr ((e.exact (place k.nodes b) j).1 w) ]) ],
  )

  pub IsExact-edge : IsExact k new
  IsExact-edge = record {
    len = l.len;
    closed = λ i x h. elim (leads i x h) [ inl o ↦ node x (e.closed i x o) | inr s ↦ subst (λ y. Contains k.nodes y) (sym s.1) (subst (λ n. Contains n b) (sym l.nodes) (Contains-added_new (added g.nodes a) b)) ];
    enough = longer;
    exact = λ i j. (
      λ h. (Path-joined (LeadsTo g) (LeadsTo k) from (place k.nodes b) edges_joined i j).1 ((joined i j).0 ((joins i j).0 h)),
      λ p. (joins i j).1 ((joined i j).1 ((Path-joined (LeadsTo g) (LeadsTo k) from (place k.nodes b) edges_joined i j).0 p)),
    );
  }

-- how much each edge weighs, once one is added
module _ (g k : Statements) (a b : ℕ) (r : Required) (len : length g.edges ≡ length g.nodes) (l : HasBoth g k a b r) where
  a_node : place k.nodes a ≡ place g.nodes a
  a_node = ap (λ n. place n a) l.nodes ∙ (place-added_in (added g.nodes a) b a (place-contains (added g.nodes a) a (Contains-added_new g.nodes a)) ∙ place-added_self g.nodes a)

  others : (x : ℕ) → x ≢ a → get_or k.edges (place k.nodes x) [] ≡ get_or g.edges (place g.nodes x) []
  others x ne = l.rows (place k.nodes x) apart ∙ by (cases_lt (place g.nodes x) (length g.nodes))
    where
      within : place k.nodes a < length k.nodes
      within = place-contains k.nodes a (subst (λ n. Contains n a) (sym l.nodes) (Contains-added_old (added g.nodes a) b a (Contains-added_new g.nodes a)))

      apart : place k.nodes x ≢ place g.nodes a
      apart h = ne (sym (same_place k.nodes a x within (a_node ∙ sym h)))

      by : (place g.nodes x < length g.nodes) ⊎ (length g.nodes ≤ place g.nodes x) → get_or g.edges (place k.nodes x) [] ≡ get_or g.edges (place g.nodes x) []
      by (inl h) = ap (λ n. get_or g.edges n []) (ap (λ n. place n x) l.nodes ∙ (place-added_in (added g.nodes a) b x (place-contains (added g.nodes a) x (Contains-added_old g.nodes a x (Contains-place g.nodes x h))) ∙ place-added_in g.nodes a x h))
      by (inr past) = get_or_past g.edges (place k.nodes x) [] (omega (arith, len, far)) ∙ sym (get_or_past g.edges (place g.nodes x) [] (omega (arith, len, past)))
        where
          far : length g.nodes ≤ place k.nodes x
          far = elim (cases_lt (place k.nodes x) (length g.nodes)) [
            | inl h ↦ absurd (omega (arith, past, place-contains g.nodes x (place k.nodes x, h, in_old h)))
            | inr p ↦ p
          ]
            where
              in_old : place k.nodes x < length g.nodes → get_or g.nodes (place k.nodes x) x ≡ x
              in_old h = sym (prefix (place k.nodes x) h) ∙ place-read k.nodes x x (omega (arith, h, grown))
                where
                  grown : length g.nodes ≤ length k.nodes
                  grown = omega (arith, ap length l.nodes, length-added (added g.nodes a) b, length-added g.nodes a)

                  prefix : (i : ℕ) → i < length g.nodes → get_or k.nodes i x ≡ get_or g.nodes i x
                  prefix i h = ap (λ n. get_or n i x) l.nodes ∙ (get_or-added (added g.nodes a) b i x (omega (arith, h, length-added g.nodes a)) ∙ get_or-added g.nodes a i x h)

  -- as `add_edge` says it, where r is what the edge weighs once it is added again
  pub edge_added : (given : Required) → strongest (weight g a b) given ≡ r → AddsDependency g k a b given
  edge_added given is = record {
    nodes = l.nodes;
    weights = λ x y. by x y (nat_eq x a) refl;
  }
    where
      by : (x y : ℕ) → (t : Bool) → nat_eq x a ≡ t → weight k x y ≡ cond (nat_eq x a && nat_eq y b) (Some (strongest (weight g a b) given)) (weight g x y)
      by x y true t =
          let same = eqb-true x a t in
          let row : get_or k.edges (place k.nodes x) [] ≡ insert_entry nat_eq (get_or g.edges (place g.nodes a) []) b r = ap (λ n. get_or k.edges n []) (ap (λ n. place k.nodes n) same ∙ a_node) ∙ l.row in
          ap (λ (es : List (ℕ × Required)). lookup (nat_eq y) es) row ∙ (lookup-inserted (get_or g.edges (place g.nodes a) []) b y r
          ∙ (ap (λ q. cond (nat_eq y b) (Some q) (lookup (nat_eq y) (get_or g.edges (place g.nodes a) []))) (sym is)
          ∙ (ap (λ n. cond (nat_eq y b) (Some (strongest (weight g a b) given)) (weight g n y)) (sym same) ∙ ap (λ q. cond (q && nat_eq y b) (Some (strongest (weight g a b) given)) (weight g x y)) (sym t))))
      by x y false t =
          let ne : x ≢ a = λ same. false≢true (sym t ∙ eq-eqb x a same) in
          ap (λ (es : List (ℕ × Required)). lookup (nat_eq y) es) (others x ne) ∙ ap (λ q. cond (q && nat_eq y b) (Some (strongest (weight g a b) given)) (weight g x y)) (sym t)

-- no node, no edge, no row
pub IsExact-empty : (g : Statements) (rows : List (List ℕ)) → g.nodes ≡ [] → g.edges ≡ [] → rows ≡ [] → IsExact g rows
IsExact-empty g rows nodes edges empty = record {
  len = ap length edges ∙ sym (ap length nodes);
  closed = λ i b h. absurd (none i b h);
  enough = omega (arith, ap length nodes);
  exact = λ i j. (λ h. absurd (Has-nil j (subst (λ (l : List (List ℕ)). HasBit l i j) empty h)), λ p. absurd (none i p.1.0 p.1.1));
}
  where
    none : (i b : ℕ) → Leads g i b → ⊥
    none i b h = false≢true (subst (λ (l : List (List (ℕ × Required))). IsSome (lookup (nat_eq b) (get_or l i []))) edges h)

-- ---- where a node stands, once another is added
pub place_after_there : (keys : List ℕ) (a b : ℕ) → place keys b ≡ length keys → (a ≡ b) ⊎ (list_any (nat_eq a) keys ≡ true) → length keys ≡ place (added (added keys a) b) b
place_after_there keys a b out (inl same) = sym (place-added_self (added keys a) b ∙ (ap (λ x. place (added keys x) b) same ∙ (place-added_self keys b ∙ out)))
place_after_there keys a b out (inr there) = sym (place-added_self (added keys a) b ∙ (ap (λ l. place l b) (added-in keys a there) ∙ out))

pub place_after_new : (keys : List ℕ) (a b : ℕ) → place keys b ≡ length keys → (a ≡ b → ⊥) → list_any (nat_eq a) keys ≡ false → length keys + 1 ≡ place (added (added keys a) b) b
place_after_new keys a b out ne new = sym (place-added_self (added keys a) b ∙ (ap (λ l. place l b) (added-out keys a new) ∙ (place-push_out keys a b out ∙ by (nat_eq b a) refl)))
  where
    by : (t : Bool) → nat_eq b a ≡ t → length keys + cond t 0 1 ≡ length keys + 1
    by true t = absurd (ne (sym (eqb-true b a t)))
    by false t = refl

-- ---- neighbors
-- a look-up finds what stands among the keys
pub key_found : (es : List (ℕ × Required)) (n : ℕ) → Contains (keys_of es) n ↔ IsSome (lookup (nat_eq n) es)
key_found [] n = (λ c. absurd (omega (arith, c.1)), λ h. absurd (false≢true h))
key_found (e ∷ es) n = by (key_found es n) (nat_eq n e.0) refl
  where
    by : Contains (keys_of es) n ↔ IsSome (lookup (nat_eq n) es) → (t : Bool) → nat_eq n e.0 ≡ t → Contains (keys_of (e ∷ es)) n ↔ IsSome (cond t (Some e.1) (lookup (nat_eq n) es))
    by rest true t = (λ c. refl, λ h. subst (λ x. Contains (keys_of (e ∷ es)) x) (sym (eqb-true n e.0 t)) (Contains-head (keys_of es) e.0))
    by rest false t = (λ c. elim (Contains-cons_cases (keys_of es) e.0 n c) [ inl same ↦ absurd (false≢true (sym t ∙ eq-eqb n e.0 (sym same))) | inr r ↦ rest.0 r ], λ h. Contains-tail (keys_of es) e.0 n (rest.1 h))

-- the members of a list in which no number stands twice
pub Members-contains : {Has : ℕ → Type 0} {xs ys : List ℕ} → Members Has xs ys → (n : ℕ) → Contains ys n ↔ (Contains xs n × Has n)
Members-contains nothing n = (λ c. absurd (omega (arith, c.1)), λ h. absurd (omega (arith, h.0.1)))
Members-contains {Has} (kept {x} {xs} {ys} h m) n = by (Members-contains m n)
  where
    by : Contains ys n ↔ (Contains xs n × Has n) → Contains (x ∷ ys) n ↔ (Contains (x ∷ xs) n × Has n)
    by rest = (
      λ c. elim (Contains-cons_cases ys x n c) [ inl e ↦ (subst (λ y. Contains (x ∷ xs) y) e (Contains-head xs x), subst Has e h) | inr t ↦ let r = rest.0 t in (Contains-tail xs x n r.0, r.1) ],
      λ p. elim (Contains-cons_cases xs x n p.0) [ inl e ↦ subst (λ y. Contains (x ∷ ys) y) e (Contains-head ys x) | inr t ↦ Contains-tail ys x n (rest.1 (t, p.1)) ],
    )
Members-contains {Has} (left {x} {xs} {ys} h m) n = by (Members-contains m n)
  where
    by : Contains ys n ↔ (Contains xs n × Has n) → Contains ys n ↔ (Contains (x ∷ xs) n × Has n)
    by rest = (λ c. let r = rest.0 c in (Contains-tail xs x n r.0, r.1), λ p. elim (Contains-cons_cases xs x n p.0) [ inl e ↦ absurd (h (subst Has (sym e) p.1)) | inr t ↦ rest.1 (t, p.1) ])

members_apart : {Has : ℕ → Type 0} {xs ys : List ℕ} (y : ℕ) → Members Has xs ys → AllByRecursion (λ z. nat_eq y z ≡ false) xs → AllByRecursion (λ z. nat_eq y z ≡ false) ys
members_apart y nothing a = a
members_apart y (kept h m) a = (a.0, members_apart y m a.1)
members_apart y (left h m) a = members_apart y m a.1

pub Members-distinct : {Has : ℕ → Type 0} {xs ys : List ℕ} → Members Has xs ys → IsDistinct nat_eq xs → IsDistinct nat_eq ys
Members-distinct nothing d = d
Members-distinct (kept {x} {xs} {ys} h m) d = IsDistinct-cons nat_eq x ys (members_apart x m (IsDistinct-head nat_eq x xs d)) (Members-distinct m (IsDistinct-tail nat_eq x xs d))
Members-distinct (left {x} {xs} h m) d = Members-distinct m (IsDistinct-tail nat_eq x xs d)

-- ---- an edge, as `add_edge` adds it
abbrev pub seen_statements : {D : Type 0} → (D → List (ℕ × Required)) → List ℕ → List D → Statements
seen_statements f keys ds = record { nodes = keys; edges = map f ds }

-- the first part: h has the edge, and the rows are up to date with it
pub record Linked (g h : Statements) (old new : List (List ℕ)) (a b : ℕ) (r : Required) (to : ℕ) : Type 0 where
  pub link : HasLink g h a b r
  pub joins : (i j : ℕ) → HasBit new i j ↔ Joins old (place g.nodes a) to i j
  pub len : length new ≡ length old

module _ {D : Type 0} (f : D → List (ℕ × Required)) (keys nodes : List ℕ) (ds items : List D) (a b : ℕ) (r : Required) (len : length (map f ds) ≡ length keys) (same_nodes : nodes ≡ keys) (same_items : items ≡ ds) where
  -- from a node that is there
  pub link_written : (i : ℕ) → position (nat_eq a) nodes ≡ Some i → (d new : D) → d ≡ get_or items i d → f new ≡ insert_entry nat_eq (f d) b r → HasLink (seen_statements f keys ds) (seen_statements f nodes (set items i new)) a b r × (i ≡ place keys a)
  link_written i at d new read wrote = (link_in (seen_statements f keys ds) a b r len p.1 (seen_statements f nodes (set items i new)) same_nodes lists, sym p.0)
    where
      p : (place keys a ≡ i) × (place keys a < length keys)
      p = position-Some_place keys a i (ap (λ l. position (nat_eq a) l) (sym same_nodes) ∙ at)

      within : i < length ds
      within = omega (arith, p.0, p.1, len, length-map ds f)

      row : f d ≡ get_or (map f ds) (place keys a) []
      row = seen-read f ds items i d same_items within read ∙ ap (λ k. get_or (map f ds) k []) (sym p.0)

      lists : map f (set items i new) ≡ set (map f ds) (place keys a) (insert_entry nat_eq (get_or (map f ds) (place keys a) []) b r)
      lists = seen-set f ds items i new same_items ∙ (ap (λ y. set (map f ds) i y) (wrote ∙ ap (λ l. insert_entry nat_eq l b r) row) ∙ ap (λ k. set (map f ds) k (insert_entry nat_eq (get_or (map f ds) (place keys a) []) b r)) (sym p.0))

  -- from a new node
  pub link_new : position (nat_eq a) nodes ≡ None → (e d : D) → f e ≡ [] → f d ≡ insert_entry nat_eq (f e) b r → (pushed : List D) → pushed ≡ items ++ d ∷ [] → {C F : Type 0} (t : Result C F) (y : C) → t ≡ Ok y → (after : List ℕ) → IfOk t (λ _. after ≡ added nodes a) → HasLink (seen_statements f keys ds) (seen_statements f after pushed) a b r × (length keys ≡ place keys a)
  link_new none e d fresh wrote pushed push t y done after inserted = (link_out (seen_statements f keys ds) a b r len out' (seen_statements f after pushed) names lists, sym out')
    where
      out' : place keys a ≡ length keys
      out' = position-None_place keys a (ap (λ l. position (nat_eq a) l) (sym same_nodes) ∙ none)

      names : after ≡ keys ++ a ∷ []
      names = keys_pushed t y keys nodes after a done inserted same_nodes (missing keys a out')

      first : f d ≡ insert_entry nat_eq [] b r
      first = wrote ∙ ap (λ l. insert_entry nat_eq l b r) fresh

      lists : map f pushed ≡ map f ds ++ insert_entry nat_eq [] b r ∷ []
      lists = seen-push f ds items pushed d (insert_entry nat_eq [] b r) push same_items first

length-added_le : (nodes : List ℕ) (n : ℕ) → length (added nodes n) ≤ length nodes + 1
length-added_le nodes n = by (list_any (nat_eq n) nodes) refl
  where
    by : (t : Bool) → list_any (nat_eq n) nodes ≡ t → length (added nodes n) ≤ length nodes + 1
    by true t = omega (arith, ap length (added-in nodes n t))
    by false t = omega (arith, ap length (added-out nodes n t), length_push nodes n)

-- the place of the end is within the rows
pub place_after_within : (keys : List ℕ) (a b : ℕ) → place (added (added keys a) b) b < length keys + 2
place_after_within keys a b = omega (arith, place-contains (added (added keys a) b) b (Contains-added_new (added keys a) b), length-added_le (added keys a) b, length-added_le keys a)

module _ (g h : Statements) (old new : List (List ℕ)) (a b : ℕ) (r given : Required) (to : ℕ) (e : IsExact g old) (l : Linked g h old new a b r to) (at : to ≡ place (added (added g.nodes a) b) b) (enough : length g.nodes + 2 ≤ length old) (is : strongest (weight g a b) given ≡ r) where
  both_done : (k : Statements) → HasBoth g k a b r → IsExact k new × AddsDependency g k a b given
  both_done k m = (IsExact-edge g k a b r old new e m longer joins, edge_added g k a b r e.len m given is)
    where
      longer : length k.nodes ≤ length new
      longer = omega (arith, ap length m.nodes, length-added_le (added g.nodes a) b, length-added_le g.nodes a, l.len, enough)

      end : to ≡ place k.nodes b
      end = at ∙ ap (λ n. place n b) (sym m.nodes)

      joins : (i j : ℕ) → HasBit new i j ↔ Joins old (place g.nodes a) (place k.nodes b) i j
      joins i j = subst (λ t. HasBit new i j ↔ Joins old (place g.nodes a) t i j) end (l.joins i j)

  pub linked_in : list_any (nat_eq b) h.nodes ≡ true → IsExact h new × AddsDependency g h a b given
  linked_in there = both_done h (both_in g h a b r l.link there)

  pub linked_out : list_any (nat_eq b) h.nodes ≡ false → (k : Statements) → k.nodes ≡ h.nodes ++ b ∷ [] → k.edges ≡ h.edges ++ [] ∷ [] → IsExact k new × AddsDependency g k a b given
  linked_out absent k nodes edges = both_done k (both_out g h a b r e.len l.link absent k nodes edges)
