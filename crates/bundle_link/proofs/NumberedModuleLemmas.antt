-- Modules that are handed in by their numbers are, by places, those of a program that is alike.
use Rattle.std.proofs.Common.{◌≡◌, ◌↔◌, ℕ, zero, suc, ◌<◌, Bool, true, false, ◌++◌, get_or, List, [], ◌∷◌, Option, Some, None, Contains, map, filter_map, length, refl, sym, ap, ◌∙◌, subst, arith}
use Rattle.std.specs.Prelude.{codes, filter, not, option_map, slice_get, unwrap_or, if◌then◌else◌}
use Rattle.std.specs.List.{AllZip, flat_map}
use Rattle.std.specs.Option.{option_and_then}
use Rattle.std.proofs.lemmas.List.{length-map}
use Rattle.std.proofs.lemmas.Option.{none-some, same_Some, slice_get-get_or, slice_get-map, slice_get_within}
use Rattle.bundle_syntax.specs.Item.{Item}
use Rattle.bundle_order_graph.specs.Modules.{Modules, deps}
use Rattle.bundle_order_graph.specs.Order.{Lists, IsOrder}
use Rattle.bundle_order_graph.specs.Walks.{Reaches}
use Rattle.bundle_rules.specs.Nodes.{Text, each_once, has_text, numbers_once}
use Rattle.bundle_rules.specs.Awaits.{awaits_outside}
use Rattle.bundle_rules.specs.Bound.{has_free, is_free}
use Rattle.bundle_rules.specs.Entries.{ExportEntry, Settings, declared_requests, require_calls, exports_of, imports_of, is_script, linked_calls, requests_of}
use Rattle.bundle_rules.specs.Program.{Program, tree_of, requested, resolves, IsReached, IsList}
use Rattle.bundle_rules.specs.Faults.{asked_names}
use Rattle.bundle_rules.specs.Tables.{is_star, star_of}
use Rattle.bundle_link_tables.specs.Sources.{told_external}
use Rattle.bundle_link_tables.specs.TablesOf.{uses_common_js}
use Rattle.bundle_link_tables.specs.Used.{uses_of}
use Rattle.bundle_link_tables.specs.declared.table.Tables.{Tables}
use Rattle.bundle_link_index.specs.declared.target.LinkModule.{LinkModule}
use Rattle.bundle_link_index.specs.Leads.{leads_from, required_of}
use Rattle.bundle_link_index.specs.Numbered.{HasNoDoubles}
use Rattle.bundle_link_index.specs.Programs.{IsLinkProgram, IsTableOf}
use Rattle.bundle_link_index.specs.Said.{HasEachOnce}
use Rattle.bundle_link.specs.declared.module.NumberedModule.{NumberedModule}
use Rattle.bundle_link.specs.Alike.{IsModuleAt}
use Rattle.bundle_link.specs.Graph.{asked_for, IsRequestGraph}
use Rattle.bundle_link.specs.Leads.{module_place}
use Rattle.bundle_link.specs.Numbered.{AreNumberedOf, IsPlacedBy, numbers}
use Rattle.bundle_link.proofs.AlikeLemmas.{reached_on}
use Rattle.bundle_link.proofs.LeadLemmas.{told-led}
use Rattle.bundle_link.proofs.NumberLemmas.{held, at-place, place-there, once-same}
use Rattle.bundle_link.proofs.PlacedLemmas.{IsPlaced, is_alike, placed, same_tree, lead_back, placed_reached}
use Rattle.bundle_link.proofs.RequestLemmas.{requested_by}
pub use Rattle.bundle_link_targets.proofs.StageLemmas.{map_at as mapped}

-- ---- lists side by side

pub beside : {A B C : Type 0} (f : A → C) (g : B → C) (xs : List A) (ys : List B) → map f xs ≡ map g ys → (i : ℕ) (y : B) → slice_get ys i ≡ Some y → (x : A) × (slice_get xs i ≡ Some x) × (f x ≡ g y)
beside f g xs ys same i y at = mapped f xs i (g y) (ap (λ l. slice_get l i) same ∙ slice_get-map g ys i ∙ ap (option_map g) at)

pub zip_at : {A B : Type 0} (R : A → B → Type 0) (xs : List A) (ys : List B) → AllZip R xs ys → (i : ℕ) (x : A) (y : B) → slice_get xs i ≡ Some x → slice_get ys i ≡ Some y → R x y
zip_at R [] ys all i x y at_x at_y = absurd (none-some x at_x)
zip_at R (a ∷ xs) [] all i x y at_x at_y = absurd all
zip_at R (a ∷ xs) (b ∷ ys) all zero x y at_x at_y = subst (R x) (same_Some b y at_y) (subst (λ z. R z b) (same_Some a x at_x) all.0)
zip_at R (a ∷ xs) (b ∷ ys) all (suc i) x y at_x at_y = zip_at R xs ys all.1 i x y at_x at_y

pub zip_left : {A B : Type 0} (R : A → B → Type 0) (xs : List A) (ys : List B) → AllZip R xs ys → (i : ℕ) (x : A) → slice_get xs i ≡ Some x → (y : B) × R x y
zip_left R [] ys all i x at = absurd (none-some x at)
zip_left R (a ∷ xs) [] all i x at = absurd all
zip_left R (a ∷ xs) (b ∷ ys) all zero x at = (b, subst (λ z. R z b) (same_Some a x at) all.0)
zip_left R (a ∷ xs) (b ∷ ys) all (suc i) x at = zip_left R xs ys all.1 i x at

pub led_beside : {A B L : Type 0} (R : A → L → Type 0) (f : B → L) (xs : List A) (ls : List L) (ys : List B) → AllZip R xs ls → map f ys ≡ ls → (i : ℕ) (x : A) (y : B) → slice_get xs i ≡ Some x → slice_get ys i ≡ Some y → R x (f y)
led_beside R f xs ls ys all same i x y at_x at_y = zip_at R xs ls all i x (f y) at_x (ap (λ l. slice_get l i) (sym same) ∙ slice_get-map f ys i ∙ ap (option_map f) at_y)

there_is : (ns : List ℕ) (i : ℕ) → i < length ns → (n : ℕ) × (slice_get ns i ≡ Some n)
there_is ns i within = (get_or ns i 0, slice_get-get_or ns i 0 within)

-- ---- what a tree alone says
pub table_at : (p q : Program) (m n : ℕ) (tables : Tables) → p.settings ≡ q.settings → tree_of p m ≡ tree_of q n → IsTableOf p m tables → IsTableOf q n tables
table_at p q m n tables settings tree is = record {
  named = is.named ∙ ap (λ (t : List Item). filter (λ entry. not (is_star entry)) (exports_of t)) tree;
  stars = is.stars ∙ ap (λ (t : List Item). each_once (flat_map star_of (exports_of t))) tree;
  imports = is.imports ∙ ap imports_of tree;
  sources = is.sources ∙ ap (λ s. map (told_external s.external) (declared_requests (tree_of p m))) settings ∙ ap (λ (t : List Item). map (told_external q.settings.external) (declared_requests t)) tree;
  calls = is.calls ∙ ap (λ s. linked_calls s (is_free (tree_of p m)) (tree_of p m)) settings ∙ ap (λ (t : List Item). linked_calls q.settings (is_free t) t) tree;
  script = is.script ∙ ap is_script tree;
  common_js = is.common_js ∙ ap uses_common_js tree;
  awaits = is.awaits ∙ ap awaits_outside tree;
  arguments = is.arguments ∙ ap (λ (t : List Item). has_free t (codes "arguments")) tree;
  names = is.names ∙ ap asked_names tree;
  uses = is.uses ∙ ap uses_of tree;
}

-- a tree of nothing requests nothing
none-requested : (settings : Settings) → requests_of settings (is_free []) [] ≡ []
none-requested settings = by settings.require
  where
    by : (b : Bool) → each_once (filter (λ s. not (has_text s settings.external)) (declared_requests []) ++ map (λ call. call.specifier) (if b then filter (λ call. not (has_text call.specifier settings.external)) (require_calls (is_free []) []) else [])) ≡ []
    by true = refl
    by false = refl

pub no_export : (tree : List Item) (entry : ExportEntry) → tree ≡ [] → Contains (exports_of tree) entry → ⊥
no_export tree entry none there = by (subst (λ (t : List Item). Contains (exports_of t) entry) none there)
  where
    by : Contains (exports_of []) entry → ⊥
    by (k, h, e) = absurd (omega arith)

-- a module with its number, once more as it is linked by its place
record StandsAt (modules : List NumberedModule) (linked : List LinkModule) (ids : List ℕ) (i m : ℕ) : Type 0 where
  pub its : NumberedModule
  pub it : LinkModule
  pub at : slice_get modules i ≡ Some its
  pub linked_at : slice_get linked i ≡ Some it
  pub number : its.id ≡ m
  pub tables : it.tables.now ≡ its.tables.now
  pub leads : IsPlacedBy ids its it.leads.now

module _ (p : Program) (modules : List NumberedModule) (entry : ℕ) (require : Bool) (w : AreNumberedOf p modules entry require) (ids : List ℕ) (ids_are : ids ≡ numbers_once (numbers modules)) (linked : List LinkModule)
    (same_tables : map (λ (it : LinkModule). it.tables.now) linked ≡ map (λ (its : NumberedModule). its.tables.now) modules)
    (placed_by : (i : ℕ) (its : NumberedModule) (it : LinkModule) → slice_get modules i ≡ Some its → slice_get linked i ≡ Some it → IsPlacedBy ids its it.leads.now) where
  pub ids_same : ids ≡ numbers modules
  ids_same = ids_are ∙ once-same (numbers modules) w.apart

  pub ids_once : HasNoDoubles ids
  ids_once = subst (λ (l : List ℕ). HasNoDoubles l) (sym ids_same) w.apart

  pub ids_hold : (m : ℕ) → Contains (numbers modules) m → Contains ids m
  ids_hold m there = subst (λ (l : List ℕ). Contains l m) (sym ids_same) there

  stands : (i m : ℕ) → slice_get ids i ≡ Some m → StandsAt modules linked ids i m
  stands i m at =
      let a = mapped (λ its. its.id) modules i m (ap (λ (l : List ℕ). slice_get l i) (sym ids_same) ∙ at) in
      let b = beside (λ it. it.tables.now) (λ its. its.tables.now) linked modules same_tables i a.0 a.1 in
      record { its = a.0; it = b.0; at = a.1; linked_at = b.1; number = a.2; tables = b.2; leads = placed_by i a.0 b.0 a.1 b.1 }

  many : length linked ≡ length ids
  many = sym (length-map linked (λ (it : LinkModule). it.tables.now)) ∙ ap length same_tables ∙ length-map modules (λ (its : NumberedModule). its.tables.now) ∙ sym (length-map modules (λ (its : NumberedModule). its.id)) ∙ ap length (sym ids_same)

  numbered_at : (i : ℕ) (it : LinkModule) → slice_get linked i ≡ Some it → (m : ℕ) × (slice_get ids i ≡ Some m)
  numbered_at i it at = there_is ids i (subst (λ n. i < n) many (slice_get_within linked i it at))

  abbrev pub at_entry : ℕ
  at_entry = unwrap_or (module_place ids entry) (length ids)

  led_there : (m d : ℕ) (s : Text) → p.leads m s ≡ Some d → Contains ids d
  led_there m d s e = ids_hold d (w.there m d s e)

  -- where the texts of a module lead by places
  leads_placed : (i m : ℕ) (s : Text) → slice_get ids i ≡ Some m → required_of linked i s ≡ option_and_then (module_place ids) (p.leads m s)
  leads_placed i m s at =
      let st = stands i m at in
      let each = w.each i st.its st.at in
      ap (λ o. leads_from o s) st.linked_at
      ∙ st.leads s
      ∙ told-led (module_place ids) st.its.deps.now s (λ c e. place-there ids c (led_there st.its.id c s (each.leads s ∙ e)))
      ∙ ap (option_and_then (module_place ids)) (sym (each.leads s) ∙ ap (λ n. p.leads n s) st.number)

  pub is_placed : IsPlaced p ids (required_of linked) at_entry
  is_placed = record {
    once = ids_once;
    begins = let k = place-there ids entry (ids_hold entry w.entry_there) in ap (λ o. slice_get ids (unwrap_or o (length ids))) k.1 ∙ at-place ids entry k.0 k.1 ∙ ap (λ n. Some n) (sym w.begins);
    there = λ m d s at asked e. led_there m d s e;
    leads_on = λ i m s at asked. leads_placed i m s at;
  }

  abbrev pub by_places : Program
  by_places = placed p ids (required_of linked) at_entry

  pub no_tree : (i : ℕ) → slice_get ids i ≡ None → tree_of by_places i ≡ []
  no_tree i none = ap (λ o. unwrap_or (option_map (λ loaded. loaded.items) (option_and_then p.modules o)) []) none

  each_once_there : HasEachOnce by_places
  each_once_there i x a b in_a in_b named_a named_b = by (slice_get ids i) refl
    where
      by : (o : Option ℕ) → slice_get ids i ≡ o → a ≡ b
      by None none = absurd (no_export (tree_of by_places i) a (no_tree i none) in_a)
      by (Some m) at =
          let tree : tree_of by_places i ≡ tree_of p m = sym (same_tree p ids (required_of linked) at_entry is_placed m i at) in
          w.once m x a b (subst (λ (t : List Item). Contains (exports_of t) a) tree in_a) (subst (λ (t : List Item). Contains (exports_of t) b) tree in_b) named_a named_b

  pub is_program : (list : List ℕ) → ((n : ℕ) → Contains list n ↔ IsReached p n) → IsLinkProgram by_places linked (filter_map (module_place ids) list) at_entry require
  is_program list reached = record {
    tables = λ i it at.
        let k = numbered_at i it at in
        let st = stands i k.0 k.1 in
        let each = w.each i st.its st.at in
        subst (λ (t : Tables). IsTableOf by_places i t) (sym st.tables ∙ ap (λ (x : LinkModule). x.tables.now) (same_Some st.it it (sym st.linked_at ∙ at)))
        (table_at p by_places st.its.id i st.its.tables.now refl (ap (tree_of p) st.number ∙ same_tree p ids (required_of linked) at_entry is_placed k.0 i k.1) each.table);
    others = none_there;
    leads = λ i s. refl;
    within = led_within;
    begins = refl;
    requires = w.requires;
    reached = placed_reached p ids (required_of linked) at_entry is_placed list reached;
    once = each_once_there;
  }
    where
      none_there : (i : ℕ) → slice_get linked i ≡ None → tree_of by_places i ≡ []
      none_there i none = by (slice_get ids i) refl
        where
          by : (o : Option ℕ) → slice_get ids i ≡ o → tree_of by_places i ≡ []
          by None is = no_tree i is
          by (Some m) is = let st = stands i m is in absurd (none-some st.it (sym none ∙ st.linked_at))

      led_within : (i d : ℕ) (s : Text) → required_of linked i s ≡ Some d → d < length linked
      led_within i d s e = by (slice_get linked i) refl
        where
          by : (o : Option LinkModule) → slice_get linked i ≡ o → d < length linked
          by None is = absurd (none-some d (sym (ap (λ o. leads_from o s) is) ∙ e))
          by (Some it) is =
              let k = numbered_at i it is in
              let l = lead_back p ids (required_of linked) at_entry is_placed (p.leads k.0 s) d (sym (leads_placed i k.0 s k.1) ∙ e) in
              subst (λ n. d < n) (sym many) (slice_get_within ids d l.0 l.1)

  -- what is reached is there
  pub is_there : (n : ℕ) → IsReached p n → Contains ids n
  is_there n is = let k = reached_on p by_places (IsModuleAt ids) (is_alike p ids (required_of linked) at_entry is_placed) n is in held ids n k.0 k.1

  -- ---- the graph and the list
  read-back : (o : Option ℕ) → ((d : ℕ) → o ≡ Some d → Contains ids d) → option_and_then (slice_get ids) (option_and_then (module_place ids) o) ≡ o
  read-back None there = refl
  read-back (Some d) there = let k = place-there ids d (there d refl) in ap (option_and_then (slice_get ids)) k.1 ∙ at-place ids d k.0 k.1

  module _ (graph : Modules) (is_graph : IsRequestGraph ids linked (length linked) graph) where
    pub same_graph : (m : ℕ) → deps graph m ≡ requested p m
    same_graph m = by (module_place ids m) refl
      where
        by : (o : Option ℕ) → module_place ids m ≡ o → deps graph m ≡ requested p m
        by None none =
            is_graph.others m (λ i within at. let k = place-there ids m (held ids m i at) in none-some k.0 (sym none ∙ k.1))
            ∙ sym (ap (λ (t : List Item). numbers_once (filter_map (resolves p m) (requests_of p.settings (is_free t) t))) (w.others m (λ there. let k = place-there ids m (ids_hold m there) in none-some k.0 (sym none ∙ k.1))) ∙ ap (λ texts. numbers_once (filter_map (resolves p m) texts)) (none-requested p.settings))
        by (Some i) is =
            let at = at-place ids m i is in
            let st = stands i m at in
            let each = w.each i st.its st.at in
            is_graph.own i m st.it (slice_get_within linked i st.it st.linked_at) at st.linked_at
            ∙ requested_by p m (λ text. text.now) st.it.tables.now.requests.items (asked_for ids st.it.leads.now)
            (ap (λ (t : Tables). map (λ text. text.now) t.requests.items) st.tables ∙ each.requests ∙ ap (λ n. requests_of p.settings (is_free (tree_of p n)) (tree_of p n)) st.number)
            (λ s.
            ap (option_and_then (slice_get ids)) (sym (ap (λ o. leads_from o s) st.linked_at) ∙ leads_placed i m s at)
            ∙ read-back (p.leads m s) (λ d e. led_there m d s e))

    graph_path : deps graph ≡ requested p
    graph_path = λ j. λ m. same_graph m j

    module _ (list : List ℕ) (order : IsOrder graph entry list) where
      pub is_list : IsList p list
      is_list = subst (λ e. Lists (requested p) [] [] (e ∷ []) list) (sym w.begins) (subst (λ f. Lists f [] [] (entry ∷ []) list) graph_path order.made)

      pub is_reached : (n : ℕ) → Contains list n ↔ IsReached p n
      is_reached n = subst (λ e. Contains list n ↔ Reaches (λ a b. Contains (requested p a) b) e n) (sym w.begins) (subst (λ f. Contains list n ↔ Reaches (λ a b. Contains (f a) b) entry n) graph_path (order.reached n))
