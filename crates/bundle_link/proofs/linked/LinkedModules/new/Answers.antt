-- The program by places is linked, and it is alike.
use Rattle.std.proofs.Common.{◌≡◌, ℕ, List, Some, sym, subst, ap, ◌∙◌, filter_map, length}
use Rattle.std.specs.Prelude.{slice_get}
use Rattle.std.proofs.lemmas.Slice.Zip.{AllZip-long}
use Rattle.bundle_link_index.specs.Leads.{required_of}
use Rattle.bundle_link_index.specs.Programs.{IsLinkProgram}
use Rattle.bundle_link_index.specs.declared.target.LinkModule.{LinkModule}
use Rattle.bundle_link_targets.specs.Linked.{HandsOver, IsJudgedBy}
use Rattle.bundle_link.specs.Graph.{IsRequestGraph}
use Rattle.bundle_link.specs.Leads.{module_place}
use Rattle.bundle_link.specs.Numbered.{IsPlacedBy}
use Rattle.bundle_link.specs.declared.module.NumberedModule.{NumberedModule}
use Rattle.bundle_link.proofs.PlacedLemmas.{is_alike}
use Rattle.bundle_link.proofs.NumberedModuleLemmas as l
use Rattle.bundle_link.proofs.linked.LinkedModules.new.Goals as goal

pub returns-clause-linked : goal.returns-clause-linked
returns-clause-linked c = λ p w iife.
    let modules = c.args.modules.now in
    let entry = c.args.entry in
    let require = c.args.setting.require in
    let ids = c.in_ok-ids.ids.keys in
    let ids_are = c.in_ok-ids.ensures in
    let leads = c.in_ok-leads.leads.items in
    let placed = c.in_ok-leads.ensures in
    let linked = c.in_ok-linked.linked.items in
    let list = c.in_ok-list.list.items in
    let graph = c.in_ok-graph.graph in
    let long : length c.deref.result.now ≡ length modules = ap length c.deref.ensures.value ∙ AllZip-long (IsPlacedBy ids) modules leads placed in
    let same_tables = c.in_ok-linked.ensures.tables long in
    let same_leads = c.in_ok-linked.ensures.leads long ∙ c.deref.ensures.value in
    let placed_by : (i : ℕ) (its : NumberedModule) (it : LinkModule) → slice_get modules i ≡ Some its → slice_get linked i ≡ Some it → IsPlacedBy ids its it.leads.now =
    λ i its it at_its at_it. l.led_beside (IsPlacedBy ids) (λ (it : LinkModule). it.leads.now) modules leads linked placed same_leads i its it at_its at_it in
    let once = l.ids_once p modules entry require w ids ids_are linked same_tables placed_by in
    let is_graph : IsRequestGraph ids linked (length linked) graph = subst (λ (ms : List LinkModule). IsRequestGraph ids ms (length ms) graph) c.deref-2.ensures.value (c.in_ok-graph.ensures once) in
    let order = c.in_ok-list.ensures in
    let reached = l.is_reached p modules entry require w ids ids_are linked same_tables placed_by graph is_graph list order in
    let at_entry = l.at_entry p modules entry require w ids ids_are linked same_tables placed_by in
    let q = l.by_places p modules entry require w ids ids_are linked same_tables placed_by in
    let is_placed = l.is_placed p modules entry require w ids ids_are linked same_tables placed_by in
    let program = l.is_program p modules entry require w ids ids_are linked same_tables placed_by list reached in
    let handed = subst (λ (ms : List LinkModule). IsLinkProgram q ms (filter_map (module_place ids) c.deref-4.result.now) at_entry require) (sym c.deref-3.ensures.value)
    (subst (λ (ns : List ℕ). IsLinkProgram q linked (filter_map (module_place ids) ns) at_entry require) (sym c.deref-4.ensures.value) program) in
    record {
      places = q;
      alike = is_alike p ids (required_of linked) at_entry is_placed;
      linking = c.in_ok-linking.ensures.linked q handed;
      judged = subst (λ (ns : List ℕ). IsJudgedBy q (filter_map (module_place ids) ns) c.in_ok-linking.linking) c.deref-4.ensures.value (c.in_ok-linking.ensures.judged q handed iife);
      handed = subst (λ (ns : List ℕ). HandsOver q (filter_map (module_place ids) ns) c.in_ok-linking.linking) c.deref-4.ensures.value (c.in_ok-linking.ensures.handed q handed);
      bare = l.no_tree p modules entry require w ids ids_are linked same_tables placed_by;
      others = λ m none. w.others m (λ there. none (l.ids_hold p modules entry require w ids ids_are linked same_tables placed_by m there));
      there = λ m d s e. l.ids_hold p modules entry require w ids ids_are linked same_tables placed_by d (w.there m d s e);
      graph = l.same_graph p modules entry require w ids ids_are linked same_tables placed_by graph is_graph;
      reached = reached;
      listed = λ n there. l.is_there p modules entry require w ids ids_are linked same_tables placed_by n ((reached n).0 there);
      list = l.is_list p modules entry require w ids ids_are linked same_tables placed_by graph is_graph list order;
    }
