-- Programs that are alike have the same faults of linking, of modules that stand for each other.
-- The first fault of modules by their places in a program's list is the first of the program.
-- One more module in a graph.
-- The tree of every module is one in which names stand as in those of modules.
use Rattle.std.proofs.Common.{◌≡◌, inl, inr, ℕ, List, Some, Contains, sym, ap, ◌∙◌, subst, length, ◌↔◌, ◌≢◌, ◌+◌, [], None, arith}
use Rattle.std.specs.Prelude.{IsTrue, codes, slice_get}
use Rattle.std.proofs.lemmas.Option.{slice_get_within, none-some, same_Some}
use Rattle.std.proofs.lemmas.Bool.{cases_lt}
use Rattle.bundle_tree_names.specs.FileName.{Name}
use Rattle.bundle_syntax.specs.Item.{Item}
use Rattle.bundle_order_graph.specs.Modules.{Modules, deps}
use Rattle.bundle_rules.specs.Nodes.{Text, numbers_once}
use Rattle.bundle_rules.specs.Awaits.{awaits_outside}
use Rattle.bundle_rules.specs.Bound.{has_free}
use Rattle.bundle_rules.specs.Entries.{RequireCall, Star, declared_requests, exports_of, is_script}
use Rattle.bundle_rules.specs.Program.{Program, tree_of, IsList, IsReached, file_of}
use Rattle.bundle_rules.specs.Linking.{IsAmbiguous, Namespace}
use Rattle.bundle_rules.specs.Meaning.{is_es, is_common_js, IsMeant, Of}
use Rattle.bundle_rules.specs.Tables.{AreTwo}
use Rattle.bundle_rules.specs.Faults
use Rattle.bundle_rules.specs.Faults.{Fault, NameFault, ProgramFault, asked_names, IsFirstProgramFault, IsFaultlessProgram}
use Rattle.bundle_tree_ast.specs.declared.module.Module.{Module}
use Rattle.bundle_tree_listed.specs.Tree.{module_items}
use Rattle.bundle_link_index.proofs.AskedLemmas.{star_asks}
use Rattle.bundle_link_index.proofs.ProgramLemmas.{got}
use Rattle.bundle_link_index.specs.declared.target.LinkModule.{LinkModule}
use Rattle.bundle_link_index.specs.Numbered.{HasNoDoubles}
use Rattle.bundle_link_targets.specs.Meant.{IsModuleTree}
use Rattle.bundle_link.specs.Alike.{IsAlike, IsModuleAt}
use Rattle.bundle_link.proofs.LeadLemmas.{name_asks}
use Rattle.bundle_link.proofs.AlikeLemmas.{flip, called_on, declared_on, same_calls, same_outside, common_js_on, module_on, missing_on, two_on, stars_on}
use Rattle.bundle_link.proofs.NumberLemmas.{held}
use Rattle.bundle_link.specs.First.{IsFirstOf, HasNoFault}
use Rattle.bundle_link.proofs.MeantLemmas.{namespace_meant}
use Rattle.bundle_link.specs.Graph.{asked_modules, IsRequestGraph}
use Rattle.bundle_link.proofs.PlaceLemmas.{module-tree}
use Rattle.bundle_link.proofs.NumbersLemmas.{module-nodes}

-- ---- fault
module _ (p q : Program) (R : ℕ → ℕ → Type 0) (w : IsAlike p q R) where
  ambiguous_on : (d k : ℕ) (x : Text) → R d k → IsAmbiguous p d x → IsAmbiguous q k x
  ambiguous_on d k x r is =
      let two : AreTwo p d x is.first is.second = record { of_a = is.first_origin; of_b = is.second_origin; gives_a = is.gives_first; gives_b = is.gives_second; differ = is.differ } in
      let l = two_on p q R w d k x is.first is.second r two in
      record { first = l.0; second = l.1; first_origin = l.4.of_a; second_origin = l.4.of_b; gives_first = l.4.gives_a; gives_second = l.4.gives_b; differ = l.4.differ }

  name_on : (d k : ℕ) (x : Text) (file : Name) → R d k → {f : Fault} → NameFault p d x file f → NameFault q k x file f
  name_on d k x file r (Faults.ambiguous is) = Faults.ambiguous (ambiguous_on d k x r is)
  name_on d k x file r (Faults.external_only none named stars) = Faults.external_only (missing_on p q R w d k x r none) named (stars_on p q R w d k r stars)
  name_on d k x file r (Faults.missing none why) =
      Faults.missing (missing_on p q R w d k x r none) (elim why [ inl same ↦ inl same | inr bare ↦ inr (λ stars. bare (stars_on q p (λ a b. R b a) (flip w) k d r stars)) ])

  module _ (meant_on : (a b : ℕ) → R a b → IsMeant p (Of (Namespace a)) → IsMeant q (Of (Namespace b))) where
    -- a fault of a module is one of the module that stands for it
    pub fault_on : {file : Name} {m stage place : ℕ} {f : Fault} → ProgramFault p file m stage place f → (n : ℕ) → R m n → ProgramFault q file n stage place f
    fault_on {m = m} (Faults.required_entry call stands leads) n r =
        let l = called_on p q R w m n p.entry call r stands leads in
        Faults.required_entry call (subst (λ (cs : List RequireCall). Contains cs call) (same_calls p q R w m n r) stands) (l.2 ∙ ap (λ d. Some d) (w.one p.entry l.0 q.entry l.1 w.entry))
    fault_on {m = m} (Faults.required_es_module {c = c} call stands leads es) n r =
        let l = called_on p q R w m n c call r stands leads in
        Faults.required_es_module call (subst (λ (cs : List RequireCall). Contains cs call) (same_calls p q R w m n r) stands) l.2 (ap is_script (sym (w.tree c l.0 l.1)) ∙ es)
    fault_on {m = m} (Faults.doubled_declaration d (is_es es) doubled) n r =
        let same = w.tree m n r in
        Faults.doubled_declaration d (is_es (λ common. es (common_js_on q p (λ a b. R b a) (flip w) n m r common))) cc
    fault_on {m = m} (Faults.doubled_declaration d (is_common_js common) doubled) n r =
        let same = w.tree m n r in
        Faults.doubled_declaration d (is_common_js (common_js_on p q R w m n r common)) cc
    fault_on {m = m} (Faults.await_in_common_js common awaits) n r =
        Faults.await_in_common_js (common_js_on p q R w m n r common) (subst (λ (t : List Item). IsTrue (awaits_outside t)) (w.tree m n r) awaits)
    fault_on {m = m} (Faults.star_of_common_js {j = j} {c = c} {s = s} at leads common) n r =
        let l = declared_on p q R w m n c s r (star_asks (tree_of p m) s (held (exports_of (tree_of p m)) (Star s) j at)) leads in
        Faults.star_of_common_js (subst (λ (t : List Item). slice_get (exports_of t) j ≡ Some (Star s)) (w.tree m n r) at) l.2 (common_js_on p q R w c l.0 l.1 common)
    fault_on {file = file} {m = m} (Faults.name {j = j} {d = d} asked_modules at leads wrong) n r =
        let l = module_on p q R w m n d asked_modules.specifier r (name_asks (tree_of p m) j asked_modules at) leads in
        Faults.name asked_modules (subst (λ (t : List Item). slice_get (asked_names t) j ≡ Some asked_modules) (w.tree m n r) at) l.2 (name_on d l.0 asked_modules.name file l.1 wrong)
    fault_on {m = m} (Faults.namespace_over_external_star meant stars) n r =
        Faults.namespace_over_external_star (meant_on m n r meant) (stars_on p q R w m n r stars)
    fault_on {m = m} (Faults.external_under_iife {j = j} {s = s} is_call at outside) n r =
        Faults.external_under_iife (sym w.iife ∙ is_call) (subst (λ (t : List Item). slice_get (declared_requests t) j ≡ Some s) (w.tree m n r) at) (sym (same_outside p q R w s) ∙ outside)
    fault_on {m = m} (Faults.arguments_under_iife is_call es free) n r =
        Faults.arguments_under_iife (sym w.iife ∙ is_call) (λ common. es (common_js_on q p (λ a b. R b a) (flip w) n m r common)) (subst (λ (t : List Item). IsTrue (has_free t (codes "arguments"))) (w.tree m n r) free)

-- ---- first
module _ (p q : Program) (list : List ℕ) (w : IsAlike p q (IsModuleAt list)) (is_list : IsList p list) (reached : (n : ℕ) → Contains list n ↔ IsReached p n) where
  -- a fault by numbers is one by places, and one by places is one by numbers
  by_place : {file : Name} {m stage place : ℕ} {f : Fault} → ProgramFault p file m stage place f → (j : ℕ) → slice_get list j ≡ Some m → ProgramFault q file j stage place f
  by_place fault j at = fault_on p q (IsModuleAt list) w (namespace_meant p q (IsModuleAt list) w) fault j at

  by_number : {file : Name} {j stage place : ℕ} {f : Fault} → ProgramFault q file j stage place f → (m : ℕ) → slice_get list j ≡ Some m → ProgramFault p file m stage place f
  by_number fault m at = fault_on q p (λ a b. IsModuleAt list b a) (flip w) (namespace_meant q p (λ a b. IsModuleAt list b a) (flip w)) fault m at

  pub first_of_program : (m id : ℕ) (file : Name) (says : Name → Fault) → IsFirstOf q (length list) m says → slice_get list m ≡ Some id → file_of p id ≡ Some file → IsFirstProgramFault p (says file)
  first_of_program m id file says first at its_file = record {
    list = list;
    is_list = is_list;
    i = m;
    m = id;
    file = file;
    stands = record { listed = at; its_file = its_file };
    stage = first.stage;
    place = first.place;
    there = by_number (first.there file) id at;
    first = λ j n other its file f stands fault. first.first j other its file f (slice_get_within list j n stands.listed) (by_place fault j stands.listed);
  }

  pub faultless_of_program : HasNoFault q (length list) → IsFaultlessProgram p
  faultless_of_program none = λ m stage place file f is_reached fault.
      let j = got list m ((reached m).1 is_reached) in
      none j.0 stage place file f (slice_get_within list j.0 m j.1) (by_place fault j.0 j.1)

-- ---- linked graph
module _ (ids : List ℕ) (modules : List LinkModule) (n : ℕ) where
  pub graph-more : (g h : Modules) (m : ℕ) (its : LinkModule) → HasNoDoubles ids → slice_get ids n ≡ Some m → slice_get modules n ≡ Some its → IsRequestGraph ids modules n g
      → (deps g m ≡ [] → deps h m ≡ numbers_once (asked_modules ids its.leads.now its.tables.now.requests.items)) → ((k : ℕ) → k ≢ m → deps h k ≡ deps g k) → IsRequestGraph ids modules (n + 1) h
  graph-more g h m its once at_ids at_modules is own others = record {
    own = λ i k other within at there. elim (cases_lt i n) [
      | inl before ↦ others k (λ e. absurd (omega (arith, before, once i n m (at ∙ ap (λ y. Some y) e) at_ids))) ∙ is.own i k other before at there
      | inr after ↦
          let e : n ≡ i = omega arith in
          let same_m : m ≡ k = same_Some m k (sym at_ids ∙ ap (slice_get ids) e ∙ at) in
          let same_its : its ≡ other = same_Some its other (sym at_modules ∙ ap (slice_get modules) e ∙ there) in
          ap (deps h) (sym same_m)
          ∙ own (is.others m (λ j before at_j. absurd (omega (arith, before, once j n m at_j at_ids))))
          ∙ ap (λ (it : LinkModule). numbers_once (asked_modules ids it.leads.now it.tables.now.requests.items)) same_its
    ];
    others = λ k none.
        others k (λ e. none n (omega arith) (at_ids ∙ ap (λ y. Some y) (sym e)))
        ∙ is.others k (λ i before at. none i (omega arith) at);
  }

  -- a place with no number
  pub graph-none : (g : Modules) → slice_get ids n ≡ None → IsRequestGraph ids modules n g → IsRequestGraph ids modules (n + 1) g
  graph-none g none is = record {
    own = λ i k other within at there. elim (cases_lt i n) [
      | inl before ↦ is.own i k other before at there
      | inr after ↦ let e : i ≡ n = omega arith in absurd (none-some k (sym none ∙ ap (slice_get ids) (sym e) ∙ at))
    ];
    others = λ k no. is.others k (λ i before at. no i (omega arith) at);
  }

-- ---- module
pub is-module-tree : (it : Module) → IsModuleTree (module_items 0 it)
is-module-tree it = let its = module-nodes it in subst IsModuleTree (sym its.1) (module-tree its.0 its.2)
