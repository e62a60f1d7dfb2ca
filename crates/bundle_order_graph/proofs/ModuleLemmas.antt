-- A graph of modules, after a module or an edge is added.
use Rattle.std.proofs.Common.{◌≡◌, ◌≢◌, true, false, nat_eq, ℕ, ◌+◌, ◌<◌, ◌⊎◌, List, [], ◌∷◌, ◌++◌, length, get_or, set, map, Contains, position, Some, None, Result, Ok, IfOk, is_ok, if◌then◌else◌, sym, ap, ◌∙◌, subst, inl, inr, arith}
use Rattle.std.specs.List.{list_any}
use Rattle.std.proofs.lemmas.Bool.{cases_eq}
use Rattle.std.proofs.lemmas.List.{length_push, length-set, length-map, get_or_past}
use Rattle.std.proofs.lemmas.List.Elements.{Contains-append_left, Contains-push}
use Rattle.bundle_order_graph.specs.Nodes.{added, place}
use Rattle.bundle_order_graph.specs.Modules.{Modules, deps, Requests, AddsNode, AddsEdge, IsWhole}
use Rattle.bundle_order_graph.proofs.NodeLemmas.{place-in, place-out, Contains-place, beside-push_same, beside-push_other, beside-set_same, beside-set_other, added-in, added-out, found, missing, Contains-added_old, Contains-added_cases, position-Some_place, position-None_place, seen-read, seen-set, seen-push, keys_pushed}

-- a graph whose lists are as many as its nodes, with the requests of one module beside the others: what each new graph is made of
module _ (g : Modules) (len : length g.requests ≡ length g.nodes) where
  -- the graph with a new module at the end
  abbrev pub with_module : ℕ → List ℕ → Modules
  with_module n xs = record { nodes = g.nodes ++ n ∷ []; requests = g.requests ++ xs ∷ [] }

  pub with_module-len : (n : ℕ) (xs : List ℕ) → length (with_module n xs).requests ≡ length (with_module n xs).nodes
  with_module-len n xs = length_push g.requests xs ∙ (ap (λ k. k + 1) len ∙ sym (length_push g.nodes n))

  pub deps-new : (n : ℕ) (xs : List ℕ) → place g.nodes n ≡ length g.nodes → deps (with_module n xs) n ≡ xs
  deps-new n xs out = beside-push_same g.nodes g.requests n xs len out

  pub deps-kept : (n : ℕ) (xs : List ℕ) (m : ℕ) → m ≢ n → deps (with_module n xs) m ≡ deps g m
  deps-kept n xs m ne = beside-push_other g.nodes g.requests n xs len m ne

-- a module that is added with no requests
pub module_added : (g : Modules) (n : ℕ) → IsWhole g → list_any (nat_eq n) g.nodes ≡ false → (new : Modules) → new.nodes ≡ g.nodes ++ n ∷ [] → new.requests ≡ g.requests ++ [] ∷ [] → IsWhole new × AddsNode g new n
module_added g n w absent new nodes requests = subst (λ h. IsWhole h × AddsNode g h n) (sym same) (whole, adds)
  where
    h : Modules
    h = record { nodes = g.nodes ++ n ∷ []; requests = g.requests ++ [] ∷ [] }

    same : new ≡ h
    same = λ i. record { nodes = nodes i; requests = requests i }

    out : place g.nodes n ≡ length g.nodes
    out = place-out g.nodes n absent

    nothing : deps g n ≡ []
    nothing = get_or_past g.requests (place g.nodes n) [] (omega (arith, out, w.len))

    kept : (m : ℕ) → deps h m ≡ deps g m
    kept m = elim (cases_eq m n) [ inl e ↦ subst (λ x. deps h x ≡ deps g x) (sym e) (deps-new g w.len n [] out ∙ sym nothing) | inr ne ↦ deps-kept g w.len n [] m ne ]

    whole : IsWhole h
    whole = record { len = with_module-len g w.len n []; closed = λ a b r. Contains-append_left g.nodes (n ∷ []) b (w.closed a b (subst (λ xs. Contains xs b) (kept a) r)) }

    adds : AddsNode g h n
    adds = record { nodes = sym (added-out g.nodes n absent); same = kept }

-- `g` with the edge from a to b, but not yet with b: `rest` says that all but b are nodes
pub record HasEdge (g h : Modules) (a b : ℕ) : Type 0 where
  pub len : length h.requests ≡ length h.nodes
  pub nodes : h.nodes ≡ added g.nodes a
  pub requests : deps h a ≡ added (deps g a) b
  pub others : (m : ℕ) → m ≢ a → deps h m ≡ deps g m

-- the requests of a module that is there are written
pub edge_written : (g : Modules) (a b : ℕ) → IsWhole g → place g.nodes a < length g.nodes → (h : Modules) → h.nodes ≡ g.nodes → h.requests ≡ set g.requests (place g.nodes a) (added (deps g a) b) → HasEdge g h a b
edge_written g a b w at h nodes requests = subst (λ x. HasEdge g x a b) (sym same) (record {
  len = length-set g.requests (place g.nodes a) (added (deps g a) b) ∙ w.len;
  nodes = sym (added-in g.nodes a (found g.nodes a at));
  requests = beside-set_same g.nodes g.requests a (added (deps g a) b) (omega (arith, at, w.len));
  others = λ m ne. beside-set_other g.nodes g.requests a (added (deps g a) b) at m ne;
})
  where
    same : h ≡ record { nodes = g.nodes; requests = set g.requests (place g.nodes a) (added (deps g a) b) }
    same = λ i. record { nodes = nodes i; requests = requests i }

-- a module comes with its first request
pub edge_new : (g : Modules) (a b : ℕ) → IsWhole g → place g.nodes a ≡ length g.nodes → (h : Modules) → h.nodes ≡ g.nodes ++ a ∷ [] → h.requests ≡ g.requests ++ (b ∷ []) ∷ [] → HasEdge g h a b
edge_new g a b w out h nodes requests = subst (λ x. HasEdge g x a b) (sym same) (record {
  len = with_module-len g w.len a (b ∷ []);
  nodes = sym (added-out g.nodes a (missing g.nodes a out));
  requests = deps-new g w.len a (b ∷ []) out ∙ ap (λ xs. added xs b) (sym nothing);
  others = λ m ne. deps-kept g w.len a (b ∷ []) m ne;
})
  where
    same : h ≡ record { nodes = g.nodes ++ a ∷ []; requests = g.requests ++ (b ∷ []) ∷ [] }
    same = λ i. record { nodes = nodes i; requests = requests i }

    nothing : deps g a ≡ []
    nothing = get_or_past g.requests (place g.nodes a) [] (omega (arith, out, w.len))

module _ (g h : Modules) (a b : ℕ) (w : IsWhole g) (e : HasEdge g h a b) where
  -- all that is requested but b is a node
  closed_but : (n m : ℕ) → Requests h n m → Contains h.nodes m ⊎ (b ≡ m)
  closed_but n m r = elim (cases_eq n a) [
    | inl at ↦ elim (Contains-added_cases (deps g a) b m (subst (λ xs. Contains xs m) (ap (λ x. deps h x) at ∙ e.requests) r)) [
      | inl old ↦ inl (subst (λ xs. Contains xs m) (sym e.nodes) (Contains-added_old g.nodes a m (w.closed a m old)))
      | inr same ↦ inr same
    ]
    | inr ne ↦ inl (subst (λ xs. Contains xs m) (sym e.nodes) (Contains-added_old g.nodes a m (w.closed n m (subst (λ xs. Contains xs m) (e.others n ne) r))))
  ]

  -- b was there
  pub edge_done : list_any (nat_eq b) h.nodes ≡ true → IsWhole h × AddsEdge g h a b
  edge_done there = (
    record { len = e.len; closed = λ n m r. elim (closed_but n m r) [ inl c ↦ c | inr same ↦ subst (λ x. Contains h.nodes x) same (Contains-place h.nodes b (place-in h.nodes b there)) ] },
    record { nodes = sym (ap (λ xs. added xs b) (sym e.nodes) ∙ added-in h.nodes b there); requests = e.requests; others = e.others },
  )

  -- b is added
  pub edge_end_added : list_any (nat_eq b) h.nodes ≡ false → (new : Modules) → new.nodes ≡ h.nodes ++ b ∷ [] → new.requests ≡ h.requests ++ [] ∷ [] → IsWhole new × AddsEdge g new a b
  edge_end_added absent new nodes requests = subst (λ x. IsWhole x × AddsEdge g x a b) (sym same) (whole, adds)
    where
      k : Modules
      k = record { nodes = h.nodes ++ b ∷ []; requests = h.requests ++ [] ∷ [] }

      same : new ≡ k
      same = λ i. record { nodes = nodes i; requests = requests i }

      out : place h.nodes b ≡ length h.nodes
      out = place-out h.nodes b absent

      nothing : deps h b ≡ []
      nothing = get_or_past h.requests (place h.nodes b) [] (omega (arith, out, e.len))

      kept : (m : ℕ) → deps k m ≡ deps h m
      kept m = elim (cases_eq m b) [ inl at ↦ subst (λ x. deps k x ≡ deps h x) (sym at) (deps-new h e.len b [] out ∙ sym nothing) | inr ne ↦ deps-kept h e.len b [] m ne ]

      whole : IsWhole k
      whole = record { len = with_module-len h e.len b []; closed = λ n m r. elim (closed_but n m (subst (λ xs. Contains xs m) (kept n) r)) [ inl c ↦ Contains-append_left h.nodes (b ∷ []) m c | inr at ↦ subst (λ x. Contains (h.nodes ++ b ∷ []) x) at (Contains-push h.nodes b) ] }

      adds : AddsEdge g k a b
      adds = record { nodes = sym (ap (λ xs. added xs b) (sym e.nodes) ∙ added-out h.nodes b absent); requests = kept a ∙ e.requests; others = λ m ne. kept m ∙ e.others m ne }

-- the graph whose modules are `keys`, and whose requests are what f sees in `ds`
abbrev pub seen : {D : Type 0} → (D → List ℕ) → List ℕ → List D → Modules
seen f keys ds = record { nodes = keys; requests = map f ds }

pub pushed_if_ok : {D E : Type 0} (r : Result (Unit {0}) E) (x : Unit {0}) (new old : List D) (d : D) → r ≡ Ok x → new ≡ (if is_ok r then old ++ d ∷ [] else old) → new ≡ old ++ d ∷ []
pushed_if_ok r x new old d ok h = subst (λ q. new ≡ (if is_ok q then old ++ d ∷ [] else old)) ok h

module _ {D E B : Type 0} (f : D → List ℕ) (keys nodes : List ℕ) (ds items : List D) (a b : ℕ) (w : IsWhole (seen f keys ds)) (same_nodes : nodes ≡ keys) (same_items : items ≡ ds) where
  -- an edge from a module that is there
  pub edge_in : (i : ℕ) → position (nat_eq a) nodes ≡ Some i → (d new : D) → d ≡ get_or items i d → (r : Result B E) (x : B) → r ≡ Ok x → IfOk r (λ _. f new ≡ added (f d) b) → HasEdge (seen f keys ds) (seen f nodes (set items i new)) a b
  edge_in i at d new read r x ok wrote = edge_written (seen f keys ds) a b w p.1 (seen f nodes (set items i new)) same_nodes lists
    where
      p : (place keys a ≡ i) × (place keys a < length keys)
      p = position-Some_place keys a i (ap (λ l. position (nat_eq a) l) (sym same_nodes) ∙ at)

      within : i < length ds
      within = omega (arith, p.0, p.1, w.len, length-map ds f)

      reads : f d ≡ get_or (map f ds) i []
      reads = seen-read f ds items i d same_items within read

      lists : map f (set items i new) ≡ set (map f ds) (place keys a) (added (deps (seen f keys ds) a) b)
      lists = seen-set f ds items i new same_items ∙ (ap (λ y. set (map f ds) i y) (subst (λ q. IfOk q (λ _. f new ≡ added (f d) b)) ok wrote ∙ ap (λ l. added l b) (reads ∙ ap (λ k. get_or (map f ds) k []) (sym p.0))) ∙ ap (λ k. set (map f ds) k (added (deps (seen f keys ds) a) b)) (sym p.0))

  -- an edge from a new module
  pub edge_out : {C : Type 0} → position (nat_eq a) nodes ≡ None → (e d : D) → f e ≡ [] → (r : Result B E) (x : B) → r ≡ Ok x → IfOk r (λ _. f d ≡ added (f e) b) → (pushed : List D) → pushed ≡ items ++ d ∷ [] → (s : Result B C) (y : B) → s ≡ Ok y → (nodes2 : List ℕ) → IfOk s (λ _. nodes2 ≡ added nodes a) → HasEdge (seen f keys ds) (seen f nodes2 pushed) a b
  edge_out none e d fresh r x ok wrote pushed push s y done nodes2 wrote2 = edge_new (seen f keys ds) a b w out (seen f nodes2 pushed) names lists
    where
      out : place keys a ≡ length keys
      out = position-None_place keys a (ap (λ l. position (nat_eq a) l) (sym same_nodes) ∙ none)

      names : nodes2 ≡ keys ++ a ∷ []
      names = keys_pushed s y keys nodes nodes2 a done wrote2 same_nodes (missing keys a out)

      first : f d ≡ b ∷ []
      first = subst (λ q. IfOk q (λ _. f d ≡ added (f e) b)) ok wrote ∙ ap (λ l. added l b) fresh

      lists : map f pushed ≡ map f ds ++ (b ∷ []) ∷ []
      lists = seen-push f ds items pushed d (b ∷ []) push same_items first
