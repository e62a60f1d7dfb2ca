use Rattle.std.proofs.Common.{◌≡◌, [], true, false, nat_eq, refl, sym, ap, ◌∙◌, subst, length, set, ◌<◌, arith}
use Rattle.std.proofs.lemmas.List.{length-map}
use Rattle.std.specs.List.{list_any}
use Rattle.bundle_order_graph.specs.Modules.{IsWhole, AddsEdge}
use Rattle.bundle_order_graph.proofs.NodeLemmas.{seen-unchanged, seen-push, keys_pushed, position-Some_place, on_err}
use Rattle.bundle_order_graph.proofs.ModuleLemmas.{HasEdge, seen, edge_in, edge_out, edge_done, edge_end_added, pushed_if_ok}
use Rattle.bundle_order_graph.proofs.graph.ModuleGraph.add_edge.Goals as goal
use Rattle.bundle_order_graph.proofs.graph.ModuleGraph.add_edge.Goals.{in-Some+in_ok-insert-in-Some, in-None+in_ok-insert-in-None}

pub invariant_of-self-in_err-insert-in-Some : goal.invariant_of-self-in_err-insert-in-Some
invariant_of-self-in_err-insert-in-Some c =
    let ds = c.self.inside.dependencies.items in
    let items = c.reserve-2.new.self.items in
    let p = position-Some_place c.reserve.new.self.keys c.args.from c.in-Some.place (sym c.get_index_of.ensures.index ∙ c.in-Some.is) in
    let within : c.in-Some.place < length ds = omega (arith, p.0, p.1, c.self.invariant.len, length-map ds (λ d. d.keys), ap length c.in_ok-reserve.ensures.keys) in
    let lists = seen-unchanged (λ d. d.keys) ds items c.in-Some.place c.index_mut-requested.result.now c.insert.new.self c.in_ok-reserve-2.ensures.items within c.index_mut-requested.ensures.value c.in_err-insert-in-Some.ensures.err in
    let e : seen (λ d. d.keys) c.reserve.new.self.keys (set items c.in-Some.place c.insert.new.self) ≡ seen (λ d. d.keys) c.self.inside.nodes.keys ds = λ i. record { nodes = c.in_ok-reserve.ensures.keys i; requests = lists i } in
    subst (λ x. IsWhole x) (sym e) c.self.invariant

pub returns-in_err-insert-in-Some-clause-err : goal.returns-in_err-insert-in-Some-clause-err
returns-in_err-insert-in-Some-clause-err c =
    let ds = c.self.inside.dependencies.items in
    let items = c.reserve-2.new.self.items in
    let p = position-Some_place c.reserve.new.self.keys c.args.from c.in-Some.place (sym c.get_index_of.ensures.index ∙ c.in-Some.is) in
    let within : c.in-Some.place < length ds = omega (arith, p.0, p.1, c.self.invariant.len, length-map ds (λ d. d.keys), ap length c.in_ok-reserve.ensures.keys) in
    let lists = seen-unchanged (λ d. d.keys) ds items c.in-Some.place c.index_mut-requested.result.now c.insert.new.self c.in_ok-reserve-2.ensures.items within c.index_mut-requested.ensures.value c.in_err-insert-in-Some.ensures.err in
    let e : seen (λ d. d.keys) c.reserve.new.self.keys (set items c.in-Some.place c.insert.new.self) ≡ seen (λ d. d.keys) c.self.inside.nodes.keys ds = λ i. record { nodes = c.in_ok-reserve.ensures.keys i; requests = lists i } in
    let all : seen (λ d. d.keys) c.reserve.new.self.keys (set items c.in-Some.place c.insert.new.self) ≡ c.args.self.now = e ∙ c.self.view_is in
    on_err c.from_residual-in_err-insert-in-Some.result (seen (λ d. d.keys) c.reserve.new.self.keys (set items c.in-Some.place c.insert.new.self) ≡ c.args.self.now) all

pub invariant_of-self-then-not-contains : goal.invariant_of-self-then-not-contains
invariant_of-self-then-not-contains c =
    let ds = c.self.inside.dependencies.items in
    let items = c.reserve-2.new.self.items in
    let keys = c.self.inside.nodes.keys in
    let nodes = c.reserve.new.self.keys in
    let same_nodes : nodes ≡ keys = c.in_ok-reserve.ensures.keys in
    let same_items : items ≡ ds = c.in_ok-reserve-2.ensures.items in
    let now = c.match-get_index_of.self-inside in
    let edge : HasEdge (seen (λ d. d.keys) keys ds) (seen (λ d. d.keys) now.nodes.keys now.dependencies.items) c.args.from c.args.to =
    elim c.match-get_index_of.branch [
      | in-Some+in_ok-insert-in-Some w ↦
          subst (λ x. HasEdge (seen (λ d. d.keys) keys ds) (seen (λ d. d.keys) x.nodes.keys x.dependencies.items) c.args.from c.args.to) (sym w.self-inside-is)
          (edge_in (λ d. d.keys) keys nodes ds items c.args.from c.args.to c.self.invariant same_nodes same_items w.in-Some.place (sym c.get_index_of.ensures.index ∙ w.in-Some.is) w.index_mut-requested.result.now w.insert.new.self w.index_mut-requested.ensures.value w.insert.result w.in_ok-insert-in-Some.field-0 w.in_ok-insert-in-Some.was w.insert.ensures.keys)
      | in-None+in_ok-insert-in-None w ↦
          subst (λ x. HasEdge (seen (λ d. d.keys) keys ds) (seen (λ d. d.keys) x.nodes.keys x.dependencies.items) c.args.from c.args.to) (sym w.self-inside-is)
          (edge_out (λ d. d.keys) keys nodes ds items c.args.from c.args.to c.self.invariant same_nodes same_items (sym c.get_index_of.ensures.index ∙ w.in-None.is) w.new-requested.result w.insert-in-None.new.self w.new-requested.ensures.empty w.insert-in-None.result w.in_ok-insert-in-None.field-0 w.in_ok-insert-in-None.was w.insert-in-None.ensures.keys w.push.new.self.items (pushed_if_ok w.push.result w.unwrap.result w.push.new.self.items items w.insert-in-None.new.self w.unwrap.ensures w.push.ensures.items) w.insert-in-None-2.result w.unwrap-in-None.result w.unwrap-in-None.ensures w.insert-in-None-2.new.self.keys w.insert-in-None-2.ensures.keys)
    ] in
    let g = seen (λ d. d.keys) keys ds in
    let h = seen (λ d. d.keys) now.nodes.keys now.dependencies.items in
    let absent : list_any (nat_eq c.args.to) now.nodes.keys ≡ false = sym c.contains.ensures ∙ c.if-not-contains.true in
    let pushed = pushed_if_ok c.push-then-not-contains.result c.unwrap-then-not-contains.result c.push-then-not-contains.new.self.items now.dependencies.items c.new.result c.unwrap-then-not-contains.ensures c.push-then-not-contains.ensures.items in
    let requests = seen-push (λ d. d.keys) now.dependencies.items now.dependencies.items c.push-then-not-contains.new.self.items c.new.result [] pushed refl c.new.ensures.empty in
    let names = keys_pushed c.insert-then-not-contains.result c.unwrap-then-not-contains-2.result now.nodes.keys now.nodes.keys c.insert-then-not-contains.new.self.keys c.args.to c.unwrap-then-not-contains-2.ensures c.insert-then-not-contains.ensures.keys refl absent in
    let all = edge_end_added g h c.args.from c.args.to c.self.invariant edge absent (seen (λ d. d.keys) c.insert-then-not-contains.new.self.keys c.push-then-not-contains.new.self.items) names requests in
    all.0

pub returns-then-not-contains-clause-ok : goal.returns-then-not-contains-clause-ok
returns-then-not-contains-clause-ok c =
    let ds = c.self.inside.dependencies.items in
    let items = c.reserve-2.new.self.items in
    let keys = c.self.inside.nodes.keys in
    let nodes = c.reserve.new.self.keys in
    let same_nodes : nodes ≡ keys = c.in_ok-reserve.ensures.keys in
    let same_items : items ≡ ds = c.in_ok-reserve-2.ensures.items in
    let now = c.match-get_index_of.self-inside in
    let edge : HasEdge (seen (λ d. d.keys) keys ds) (seen (λ d. d.keys) now.nodes.keys now.dependencies.items) c.args.from c.args.to =
    elim c.match-get_index_of.branch [
      | in-Some+in_ok-insert-in-Some w ↦
          subst (λ x. HasEdge (seen (λ d. d.keys) keys ds) (seen (λ d. d.keys) x.nodes.keys x.dependencies.items) c.args.from c.args.to) (sym w.self-inside-is)
          (edge_in (λ d. d.keys) keys nodes ds items c.args.from c.args.to c.self.invariant same_nodes same_items w.in-Some.place (sym c.get_index_of.ensures.index ∙ w.in-Some.is) w.index_mut-requested.result.now w.insert.new.self w.index_mut-requested.ensures.value w.insert.result w.in_ok-insert-in-Some.field-0 w.in_ok-insert-in-Some.was w.insert.ensures.keys)
      | in-None+in_ok-insert-in-None w ↦
          subst (λ x. HasEdge (seen (λ d. d.keys) keys ds) (seen (λ d. d.keys) x.nodes.keys x.dependencies.items) c.args.from c.args.to) (sym w.self-inside-is)
          (edge_out (λ d. d.keys) keys nodes ds items c.args.from c.args.to c.self.invariant same_nodes same_items (sym c.get_index_of.ensures.index ∙ w.in-None.is) w.new-requested.result w.insert-in-None.new.self w.new-requested.ensures.empty w.insert-in-None.result w.in_ok-insert-in-None.field-0 w.in_ok-insert-in-None.was w.insert-in-None.ensures.keys w.push.new.self.items (pushed_if_ok w.push.result w.unwrap.result w.push.new.self.items items w.insert-in-None.new.self w.unwrap.ensures w.push.ensures.items) w.insert-in-None-2.result w.unwrap-in-None.result w.unwrap-in-None.ensures w.insert-in-None-2.new.self.keys w.insert-in-None-2.ensures.keys)
    ] in
    let g = seen (λ d. d.keys) keys ds in
    let h = seen (λ d. d.keys) now.nodes.keys now.dependencies.items in
    let absent : list_any (nat_eq c.args.to) now.nodes.keys ≡ false = sym c.contains.ensures ∙ c.if-not-contains.true in
    let pushed = pushed_if_ok c.push-then-not-contains.result c.unwrap-then-not-contains.result c.push-then-not-contains.new.self.items now.dependencies.items c.new.result c.unwrap-then-not-contains.ensures c.push-then-not-contains.ensures.items in
    let requests = seen-push (λ d. d.keys) now.dependencies.items now.dependencies.items c.push-then-not-contains.new.self.items c.new.result [] pushed refl c.new.ensures.empty in
    let names = keys_pushed c.insert-then-not-contains.result c.unwrap-then-not-contains-2.result now.nodes.keys now.nodes.keys c.insert-then-not-contains.new.self.keys c.args.to c.unwrap-then-not-contains-2.ensures c.insert-then-not-contains.ensures.keys refl absent in
    let all = edge_end_added g h c.args.from c.args.to c.self.invariant edge absent (seen (λ d. d.keys) c.insert-then-not-contains.new.self.keys c.push-then-not-contains.new.self.items) names requests in
    subst (λ x. AddsEdge x (seen (λ d. d.keys) c.insert-then-not-contains.new.self.keys c.push-then-not-contains.new.self.items) c.args.from c.args.to) c.self.view_is all.1

pub invariant_of-self-else-not-contains : goal.invariant_of-self-else-not-contains
invariant_of-self-else-not-contains c =
    let ds = c.self.inside.dependencies.items in
    let items = c.reserve-2.new.self.items in
    let keys = c.self.inside.nodes.keys in
    let nodes = c.reserve.new.self.keys in
    let same_nodes : nodes ≡ keys = c.in_ok-reserve.ensures.keys in
    let same_items : items ≡ ds = c.in_ok-reserve-2.ensures.items in
    let now = c.match-get_index_of.self-inside in
    let edge : HasEdge (seen (λ d. d.keys) keys ds) (seen (λ d. d.keys) now.nodes.keys now.dependencies.items) c.args.from c.args.to =
    elim c.match-get_index_of.branch [
      | in-Some+in_ok-insert-in-Some w ↦
          subst (λ x. HasEdge (seen (λ d. d.keys) keys ds) (seen (λ d. d.keys) x.nodes.keys x.dependencies.items) c.args.from c.args.to) (sym w.self-inside-is)
          (edge_in (λ d. d.keys) keys nodes ds items c.args.from c.args.to c.self.invariant same_nodes same_items w.in-Some.place (sym c.get_index_of.ensures.index ∙ w.in-Some.is) w.index_mut-requested.result.now w.insert.new.self w.index_mut-requested.ensures.value w.insert.result w.in_ok-insert-in-Some.field-0 w.in_ok-insert-in-Some.was w.insert.ensures.keys)
      | in-None+in_ok-insert-in-None w ↦
          subst (λ x. HasEdge (seen (λ d. d.keys) keys ds) (seen (λ d. d.keys) x.nodes.keys x.dependencies.items) c.args.from c.args.to) (sym w.self-inside-is)
          (edge_out (λ d. d.keys) keys nodes ds items c.args.from c.args.to c.self.invariant same_nodes same_items (sym c.get_index_of.ensures.index ∙ w.in-None.is) w.new-requested.result w.insert-in-None.new.self w.new-requested.ensures.empty w.insert-in-None.result w.in_ok-insert-in-None.field-0 w.in_ok-insert-in-None.was w.insert-in-None.ensures.keys w.push.new.self.items (pushed_if_ok w.push.result w.unwrap.result w.push.new.self.items items w.insert-in-None.new.self w.unwrap.ensures w.push.ensures.items) w.insert-in-None-2.result w.unwrap-in-None.result w.unwrap-in-None.ensures w.insert-in-None-2.new.self.keys w.insert-in-None-2.ensures.keys)
    ] in
    let g = seen (λ d. d.keys) keys ds in
    let h = seen (λ d. d.keys) now.nodes.keys now.dependencies.items in
    let there : list_any (nat_eq c.args.to) now.nodes.keys ≡ true = sym c.contains.ensures ∙ c.if-not-contains.false in
    let all = edge_done g h c.args.from c.args.to c.self.invariant edge there in
    all.0

pub returns-else-not-contains-clause-ok : goal.returns-else-not-contains-clause-ok
returns-else-not-contains-clause-ok c =
    let ds = c.self.inside.dependencies.items in
    let items = c.reserve-2.new.self.items in
    let keys = c.self.inside.nodes.keys in
    let nodes = c.reserve.new.self.keys in
    let same_nodes : nodes ≡ keys = c.in_ok-reserve.ensures.keys in
    let same_items : items ≡ ds = c.in_ok-reserve-2.ensures.items in
    let now = c.match-get_index_of.self-inside in
    let edge : HasEdge (seen (λ d. d.keys) keys ds) (seen (λ d. d.keys) now.nodes.keys now.dependencies.items) c.args.from c.args.to =
    elim c.match-get_index_of.branch [
      | in-Some+in_ok-insert-in-Some w ↦
          subst (λ x. HasEdge (seen (λ d. d.keys) keys ds) (seen (λ d. d.keys) x.nodes.keys x.dependencies.items) c.args.from c.args.to) (sym w.self-inside-is)
          (edge_in (λ d. d.keys) keys nodes ds items c.args.from c.args.to c.self.invariant same_nodes same_items w.in-Some.place (sym c.get_index_of.ensures.index ∙ w.in-Some.is) w.index_mut-requested.result.now w.insert.new.self w.index_mut-requested.ensures.value w.insert.result w.in_ok-insert-in-Some.field-0 w.in_ok-insert-in-Some.was w.insert.ensures.keys)
      | in-None+in_ok-insert-in-None w ↦
          subst (λ x. HasEdge (seen (λ d. d.keys) keys ds) (seen (λ d. d.keys) x.nodes.keys x.dependencies.items) c.args.from c.args.to) (sym w.self-inside-is)
          (edge_out (λ d. d.keys) keys nodes ds items c.args.from c.args.to c.self.invariant same_nodes same_items (sym c.get_index_of.ensures.index ∙ w.in-None.is) w.new-requested.result w.insert-in-None.new.self w.new-requested.ensures.empty w.insert-in-None.result w.in_ok-insert-in-None.field-0 w.in_ok-insert-in-None.was w.insert-in-None.ensures.keys w.push.new.self.items (pushed_if_ok w.push.result w.unwrap.result w.push.new.self.items items w.insert-in-None.new.self w.unwrap.ensures w.push.ensures.items) w.insert-in-None-2.result w.unwrap-in-None.result w.unwrap-in-None.ensures w.insert-in-None-2.new.self.keys w.insert-in-None-2.ensures.keys)
    ] in
    let g = seen (λ d. d.keys) keys ds in
    let h = seen (λ d. d.keys) now.nodes.keys now.dependencies.items in
    let there : list_any (nat_eq c.args.to) now.nodes.keys ≡ true = sym c.contains.ensures ∙ c.if-not-contains.false in
    let all = edge_done g h c.args.from c.args.to c.self.invariant edge there in
    subst (λ x. AddsEdge x h c.args.from c.args.to) c.self.view_is all.1
