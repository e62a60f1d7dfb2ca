use Rattle.std.proofs.Common.{◌≡◌, ◌<◌, ◌≤◌, ◌+◌, ◌↔◌, [], true, false, ℕ, nat_eq, length, set, refl, sym, ap, ◌∙◌, subst, arith}
use Rattle.std.specs.List.{list_any}
use Rattle.std.proofs.lemmas.List.{length-map}
use Rattle.bundle_order_graph.specs.Nodes.{added, place}
use Rattle.bundle_order_graph.specs.Bits.{HasBit, Joins}
use Rattle.bundle_order_graph.specs.Statements.{weight, strongest, AddsDependency}
use Rattle.bundle_order_graph.specs.Reached.{IsExact}
use Rattle.bundle_order_graph.proofs.NodeLemmas.{seen-unchanged, seen-push, keys_pushed, position-Some_place, on_err}
use Rattle.bundle_order_graph.proofs.ModuleLemmas.{pushed_if_ok}
use Rattle.bundle_order_graph.proofs.StatementLemmas.{IsExact-same, IsExact-transitive, seen_statements, Linked, link_written, link_new, linked_in, linked_out, place_after_within}
use Rattle.bundle_order_graph.proofs.sort.StmtDepGraph.add_edge.Goals as goal
use Rattle.bundle_order_graph.proofs.sort.StmtDepGraph.add_edge.Goals.{in-Some+in_ok-add_end-in-Some, in-None+in_ok-add_end-in-None}

pub add_end-requires-clause-to_in : goal.add_end-requires-clause-to_in
add_end-requires-clause-to_in c =
    let a = c.args.a in
    let b = c.args.b in
    let keys = c.self.inside.nodes.keys in
    let ds = c.self.inside.edges.items in
    let g = seen_statements (λ e. e.entries) keys ds in
    let rows = c.extend_to.new.self in
    let exact : IsExact g rows = IsExact-same g c.self.inside.rows rows c.self.invariant c.extend_to.ensures.same c.extend_to.ensures.longer in
    let nodes = c.reserve.new.self.keys in
    let items = c.reserve-2.new.self.items in
    let same_nodes : nodes ≡ keys = c.in_ok-reserve.ensures.keys in
    let same_items : items ≡ ds = c.in_ok-reserve-2.ensures.items in
    let at : c.place_after-to.result ≡ place (added (added keys a) b) b = c.place_after-to.ensures ∙ ap (λ l. place (added (added l a) b) b) same_nodes in
    let enough : length keys + 2 ≤ length rows = omega (arith, c.in_ok-extend_to.ensures.ok, c.len-count.ensures.len) in
    omega (arith, at, enough, place_after_within keys a b)

pub add_end-requires-clause-closed : goal.add_end-requires-clause-closed
add_end-requires-clause-closed c =
    let a = c.args.a in
    let b = c.args.b in
    let keys = c.self.inside.nodes.keys in
    let ds = c.self.inside.edges.items in
    let g = seen_statements (λ e. e.entries) keys ds in
    let rows = c.extend_to.new.self in
    let exact : IsExact g rows = IsExact-same g c.self.inside.rows rows c.self.invariant c.extend_to.ensures.same c.extend_to.ensures.longer in
    IsExact-transitive g rows exact

pub add_end-requires-in-None-clause-to_in : goal.add_end-requires-in-None-clause-to_in
add_end-requires-in-None-clause-to_in c =
    let a = c.args.a in
    let b = c.args.b in
    let keys = c.self.inside.nodes.keys in
    let ds = c.self.inside.edges.items in
    let g = seen_statements (λ e. e.entries) keys ds in
    let rows = c.extend_to.new.self in
    let exact : IsExact g rows = IsExact-same g c.self.inside.rows rows c.self.invariant c.extend_to.ensures.same c.extend_to.ensures.longer in
    let nodes = c.reserve.new.self.keys in
    let items = c.reserve-2.new.self.items in
    let same_nodes : nodes ≡ keys = c.in_ok-reserve.ensures.keys in
    let same_items : items ≡ ds = c.in_ok-reserve-2.ensures.items in
    let at : c.place_after-to.result ≡ place (added (added keys a) b) b = c.place_after-to.ensures ∙ ap (λ l. place (added (added l a) b) b) same_nodes in
    let enough : length keys + 2 ≤ length rows = omega (arith, c.in_ok-extend_to.ensures.ok, c.len-count.ensures.len) in
    omega (arith, at, enough, place_after_within keys a b)

pub add_end-requires-in-None-clause-closed : goal.add_end-requires-in-None-clause-closed
add_end-requires-in-None-clause-closed c =
    let a = c.args.a in
    let b = c.args.b in
    let keys = c.self.inside.nodes.keys in
    let ds = c.self.inside.edges.items in
    let g = seen_statements (λ e. e.entries) keys ds in
    let rows = c.extend_to.new.self in
    let exact : IsExact g rows = IsExact-same g c.self.inside.rows rows c.self.invariant c.extend_to.ensures.same c.extend_to.ensures.longer in
    IsExact-transitive g rows exact

pub invariant_of-self-in_err-add_end-in-Some : goal.invariant_of-self-in_err-add_end-in-Some
invariant_of-self-in_err-add_end-in-Some c =
    let a = c.args.a in
    let b = c.args.b in
    let keys = c.self.inside.nodes.keys in
    let ds = c.self.inside.edges.items in
    let g = seen_statements (λ e. e.entries) keys ds in
    let rows = c.extend_to.new.self in
    let exact : IsExact g rows = IsExact-same g c.self.inside.rows rows c.self.invariant c.extend_to.ensures.same c.extend_to.ensures.longer in
    let nodes = c.reserve.new.self.keys in
    let items = c.reserve-2.new.self.items in
    let same_nodes : nodes ≡ keys = c.in_ok-reserve.ensures.keys in
    let same_items : items ≡ ds = c.in_ok-reserve-2.ensures.items in
    let p = position-Some_place nodes a c.in-Some.from (sym c.get_index_of.ensures.index ∙ c.in-Some.is) in
    let within : c.in-Some.from < length ds = omega (arith, p.0, p.1, c.self.invariant.len, length-map ds (λ e. e.entries), ap length same_nodes) in
    let lists = seen-unchanged (λ e. e.entries) ds items c.in-Some.from c.index_mut-edges.result.now c.add_end.new.edges same_items within c.index_mut-edges.ensures.value c.in_err-add_end-in-Some.ensures.same_edges in
    let now = seen_statements (λ e. e.entries) nodes (set items c.in-Some.from c.add_end.new.edges) in
    let e : now ≡ g = λ i. record { nodes = same_nodes i; edges = lists i } in
    let kept = IsExact-same g rows c.add_end.new.rows exact c.in_err-add_end-in-Some.ensures.same_rows (omega (arith, c.add_end.ensures.len)) in
    subst (λ x. IsExact x c.add_end.new.rows) (sym e) kept

pub returns-in_err-add_end-in-Some-clause-err : goal.returns-in_err-add_end-in-Some-clause-err
returns-in_err-add_end-in-Some-clause-err c =
    let a = c.args.a in
    let b = c.args.b in
    let keys = c.self.inside.nodes.keys in
    let ds = c.self.inside.edges.items in
    let g = seen_statements (λ e. e.entries) keys ds in
    let rows = c.extend_to.new.self in
    let exact : IsExact g rows = IsExact-same g c.self.inside.rows rows c.self.invariant c.extend_to.ensures.same c.extend_to.ensures.longer in
    let nodes = c.reserve.new.self.keys in
    let items = c.reserve-2.new.self.items in
    let same_nodes : nodes ≡ keys = c.in_ok-reserve.ensures.keys in
    let same_items : items ≡ ds = c.in_ok-reserve-2.ensures.items in
    let p = position-Some_place nodes a c.in-Some.from (sym c.get_index_of.ensures.index ∙ c.in-Some.is) in
    let within : c.in-Some.from < length ds = omega (arith, p.0, p.1, c.self.invariant.len, length-map ds (λ e. e.entries), ap length same_nodes) in
    let lists = seen-unchanged (λ e. e.entries) ds items c.in-Some.from c.index_mut-edges.result.now c.add_end.new.edges same_items within c.index_mut-edges.ensures.value c.in_err-add_end-in-Some.ensures.same_edges in
    let now = seen_statements (λ e. e.entries) nodes (set items c.in-Some.from c.add_end.new.edges) in
    let e : now ≡ g = λ i. record { nodes = same_nodes i; edges = lists i } in
    on_err c.from_residual-in_err-add_end-in-Some.result (now ≡ c.args.self.now) (e ∙ c.self.view_is)

pub invariant_of-self-then-not-contains : goal.invariant_of-self-then-not-contains
invariant_of-self-then-not-contains c =
    let a = c.args.a in
    let b = c.args.b in
    let keys = c.self.inside.nodes.keys in
    let ds = c.self.inside.edges.items in
    let g = seen_statements (λ e. e.entries) keys ds in
    let rows = c.extend_to.new.self in
    let exact : IsExact g rows = IsExact-same g c.self.inside.rows rows c.self.invariant c.extend_to.ensures.same c.extend_to.ensures.longer in
    let nodes = c.reserve.new.self.keys in
    let items = c.reserve-2.new.self.items in
    let same_nodes : nodes ≡ keys = c.in_ok-reserve.ensures.keys in
    let same_items : items ≡ ds = c.in_ok-reserve-2.ensures.items in
    let at : c.place_after-to.result ≡ place (added (added keys a) b) b = c.place_after-to.ensures ∙ ap (λ l. place (added (added l a) b) b) same_nodes in
    let enough : length keys + 2 ≤ length rows = omega (arith, c.in_ok-extend_to.ensures.ok, c.len-count.ensures.len) in
    let r = c.strongest-required.result in
    let is : strongest (weight g a b) c.args.required ≡ r = sym (c.strongest-required.ensures ∙ ap (λ w. strongest w c.args.required) (c.edge_weight.ensures ∙ ap (λ x. weight x a b) (sym c.self.view_is))) in
    let to = c.place_after-to.result in
    let half = c.match-get_index_of.self-inside in
    let linked : Linked g (seen_statements (λ e. e.entries) half.nodes.keys half.edges.items) rows half.rows a b r to =
    elim c.match-get_index_of.branch [
      | in-Some+in_ok-add_end-in-Some w ↦
          let l = link_written (λ e. e.entries) keys nodes ds items a b r c.self.invariant.len same_nodes same_items w.in-Some.from (sym c.get_index_of.ensures.index ∙ w.in-Some.is) w.index_mut-edges.result.now w.add_end.new.edges w.index_mut-edges.ensures.value w.in_ok-add_end-in-Some.ensures.edges in
          subst (λ x. Linked g (seen_statements (λ e. e.entries) x.nodes.keys x.edges.items) rows x.rows a b r to) (sym w.self-inside-is)
          (record { link = l.0; joins = subst (λ f. (i j : ℕ) → HasBit w.add_end.new.rows i j ↔ Joins rows f to i j) l.1 w.in_ok-add_end-in-Some.ensures.rows; len = w.add_end.ensures.len })
      | in-None+in_ok-add_end-in-None w ↦
          let l = link_new (λ e. e.entries) keys nodes ds items a b r c.self.invariant.len same_nodes same_items (sym c.get_index_of.ensures.index ∙ w.in-None.is) w.new-edges.result w.add_end-in-None.new.edges w.new-edges.ensures.empty w.in_ok-add_end-in-None.ensures.edges w.push.new.self.items (pushed_if_ok w.push.result w.unwrap.result w.push.new.self.items items w.add_end-in-None.new.edges w.unwrap.ensures w.push.ensures.items) w.insert.result w.unwrap-in-None.result w.unwrap-in-None.ensures w.insert.new.self.keys w.insert.ensures.keys in
          subst (λ x. Linked g (seen_statements (λ e. e.entries) x.nodes.keys x.edges.items) rows x.rows a b r to) (sym w.self-inside-is)
          (record { link = l.0; joins = subst (λ f. (i j : ℕ) → HasBit w.add_end-in-None.new.rows i j ↔ Joins rows f to i j) (c.len-count.ensures.len ∙ l.1) w.in_ok-add_end-in-None.ensures.rows; len = w.add_end-in-None.ensures.len })
    ] in
    let h = seen_statements (λ e. e.entries) half.nodes.keys half.edges.items in
    let absent : list_any (nat_eq b) half.nodes.keys ≡ false = sym c.contains.ensures ∙ c.if-not-contains.true in
    let pushed = pushed_if_ok c.push-then-not-contains.result c.unwrap-then-not-contains.result c.push-then-not-contains.new.self.items half.edges.items c.new.result c.unwrap-then-not-contains.ensures c.push-then-not-contains.ensures.items in
    let edges = seen-push (λ e. e.entries) half.edges.items half.edges.items c.push-then-not-contains.new.self.items c.new.result [] pushed refl c.new.ensures.empty in
    let names = keys_pushed c.insert-then-not-contains.result c.unwrap-then-not-contains-2.result half.nodes.keys half.nodes.keys c.insert-then-not-contains.new.self.keys b c.unwrap-then-not-contains-2.ensures c.insert-then-not-contains.ensures.keys refl absent in
    let k = seen_statements (λ e. e.entries) c.insert-then-not-contains.new.self.keys c.push-then-not-contains.new.self.items in
    let all = linked_out g h rows half.rows a b r c.args.required to exact linked at enough is absent k names edges in
    all.0

pub returns-then-not-contains-clause-ok : goal.returns-then-not-contains-clause-ok
returns-then-not-contains-clause-ok c =
    let a = c.args.a in
    let b = c.args.b in
    let keys = c.self.inside.nodes.keys in
    let ds = c.self.inside.edges.items in
    let g = seen_statements (λ e. e.entries) keys ds in
    let rows = c.extend_to.new.self in
    let exact : IsExact g rows = IsExact-same g c.self.inside.rows rows c.self.invariant c.extend_to.ensures.same c.extend_to.ensures.longer in
    let nodes = c.reserve.new.self.keys in
    let items = c.reserve-2.new.self.items in
    let same_nodes : nodes ≡ keys = c.in_ok-reserve.ensures.keys in
    let same_items : items ≡ ds = c.in_ok-reserve-2.ensures.items in
    let at : c.place_after-to.result ≡ place (added (added keys a) b) b = c.place_after-to.ensures ∙ ap (λ l. place (added (added l a) b) b) same_nodes in
    let enough : length keys + 2 ≤ length rows = omega (arith, c.in_ok-extend_to.ensures.ok, c.len-count.ensures.len) in
    let r = c.strongest-required.result in
    let is : strongest (weight g a b) c.args.required ≡ r = sym (c.strongest-required.ensures ∙ ap (λ w. strongest w c.args.required) (c.edge_weight.ensures ∙ ap (λ x. weight x a b) (sym c.self.view_is))) in
    let to = c.place_after-to.result in
    let half = c.match-get_index_of.self-inside in
    let linked : Linked g (seen_statements (λ e. e.entries) half.nodes.keys half.edges.items) rows half.rows a b r to =
    elim c.match-get_index_of.branch [
      | in-Some+in_ok-add_end-in-Some w ↦
          let l = link_written (λ e. e.entries) keys nodes ds items a b r c.self.invariant.len same_nodes same_items w.in-Some.from (sym c.get_index_of.ensures.index ∙ w.in-Some.is) w.index_mut-edges.result.now w.add_end.new.edges w.index_mut-edges.ensures.value w.in_ok-add_end-in-Some.ensures.edges in
          subst (λ x. Linked g (seen_statements (λ e. e.entries) x.nodes.keys x.edges.items) rows x.rows a b r to) (sym w.self-inside-is)
          (record { link = l.0; joins = subst (λ f. (i j : ℕ) → HasBit w.add_end.new.rows i j ↔ Joins rows f to i j) l.1 w.in_ok-add_end-in-Some.ensures.rows; len = w.add_end.ensures.len })
      | in-None+in_ok-add_end-in-None w ↦
          let l = link_new (λ e. e.entries) keys nodes ds items a b r c.self.invariant.len same_nodes same_items (sym c.get_index_of.ensures.index ∙ w.in-None.is) w.new-edges.result w.add_end-in-None.new.edges w.new-edges.ensures.empty w.in_ok-add_end-in-None.ensures.edges w.push.new.self.items (pushed_if_ok w.push.result w.unwrap.result w.push.new.self.items items w.add_end-in-None.new.edges w.unwrap.ensures w.push.ensures.items) w.insert.result w.unwrap-in-None.result w.unwrap-in-None.ensures w.insert.new.self.keys w.insert.ensures.keys in
          subst (λ x. Linked g (seen_statements (λ e. e.entries) x.nodes.keys x.edges.items) rows x.rows a b r to) (sym w.self-inside-is)
          (record { link = l.0; joins = subst (λ f. (i j : ℕ) → HasBit w.add_end-in-None.new.rows i j ↔ Joins rows f to i j) (c.len-count.ensures.len ∙ l.1) w.in_ok-add_end-in-None.ensures.rows; len = w.add_end-in-None.ensures.len })
    ] in
    let h = seen_statements (λ e. e.entries) half.nodes.keys half.edges.items in
    let absent : list_any (nat_eq b) half.nodes.keys ≡ false = sym c.contains.ensures ∙ c.if-not-contains.true in
    let pushed = pushed_if_ok c.push-then-not-contains.result c.unwrap-then-not-contains.result c.push-then-not-contains.new.self.items half.edges.items c.new.result c.unwrap-then-not-contains.ensures c.push-then-not-contains.ensures.items in
    let edges = seen-push (λ e. e.entries) half.edges.items half.edges.items c.push-then-not-contains.new.self.items c.new.result [] pushed refl c.new.ensures.empty in
    let names = keys_pushed c.insert-then-not-contains.result c.unwrap-then-not-contains-2.result half.nodes.keys half.nodes.keys c.insert-then-not-contains.new.self.keys b c.unwrap-then-not-contains-2.ensures c.insert-then-not-contains.ensures.keys refl absent in
    let k = seen_statements (λ e. e.entries) c.insert-then-not-contains.new.self.keys c.push-then-not-contains.new.self.items in
    let all = linked_out g h rows half.rows a b r c.args.required to exact linked at enough is absent k names edges in
    subst (λ x. AddsDependency x k a b c.args.required) c.self.view_is all.1

pub invariant_of-self-else-not-contains : goal.invariant_of-self-else-not-contains
invariant_of-self-else-not-contains c =
    let a = c.args.a in
    let b = c.args.b in
    let keys = c.self.inside.nodes.keys in
    let ds = c.self.inside.edges.items in
    let g = seen_statements (λ e. e.entries) keys ds in
    let rows = c.extend_to.new.self in
    let exact : IsExact g rows = IsExact-same g c.self.inside.rows rows c.self.invariant c.extend_to.ensures.same c.extend_to.ensures.longer in
    let nodes = c.reserve.new.self.keys in
    let items = c.reserve-2.new.self.items in
    let same_nodes : nodes ≡ keys = c.in_ok-reserve.ensures.keys in
    let same_items : items ≡ ds = c.in_ok-reserve-2.ensures.items in
    let at : c.place_after-to.result ≡ place (added (added keys a) b) b = c.place_after-to.ensures ∙ ap (λ l. place (added (added l a) b) b) same_nodes in
    let enough : length keys + 2 ≤ length rows = omega (arith, c.in_ok-extend_to.ensures.ok, c.len-count.ensures.len) in
    let r = c.strongest-required.result in
    let is : strongest (weight g a b) c.args.required ≡ r = sym (c.strongest-required.ensures ∙ ap (λ w. strongest w c.args.required) (c.edge_weight.ensures ∙ ap (λ x. weight x a b) (sym c.self.view_is))) in
    let to = c.place_after-to.result in
    let half = c.match-get_index_of.self-inside in
    let linked : Linked g (seen_statements (λ e. e.entries) half.nodes.keys half.edges.items) rows half.rows a b r to =
    elim c.match-get_index_of.branch [
      | in-Some+in_ok-add_end-in-Some w ↦
          let l = link_written (λ e. e.entries) keys nodes ds items a b r c.self.invariant.len same_nodes same_items w.in-Some.from (sym c.get_index_of.ensures.index ∙ w.in-Some.is) w.index_mut-edges.result.now w.add_end.new.edges w.index_mut-edges.ensures.value w.in_ok-add_end-in-Some.ensures.edges in
          subst (λ x. Linked g (seen_statements (λ e. e.entries) x.nodes.keys x.edges.items) rows x.rows a b r to) (sym w.self-inside-is)
          (record { link = l.0; joins = subst (λ f. (i j : ℕ) → HasBit w.add_end.new.rows i j ↔ Joins rows f to i j) l.1 w.in_ok-add_end-in-Some.ensures.rows; len = w.add_end.ensures.len })
      | in-None+in_ok-add_end-in-None w ↦
          let l = link_new (λ e. e.entries) keys nodes ds items a b r c.self.invariant.len same_nodes same_items (sym c.get_index_of.ensures.index ∙ w.in-None.is) w.new-edges.result w.add_end-in-None.new.edges w.new-edges.ensures.empty w.in_ok-add_end-in-None.ensures.edges w.push.new.self.items (pushed_if_ok w.push.result w.unwrap.result w.push.new.self.items items w.add_end-in-None.new.edges w.unwrap.ensures w.push.ensures.items) w.insert.result w.unwrap-in-None.result w.unwrap-in-None.ensures w.insert.new.self.keys w.insert.ensures.keys in
          subst (λ x. Linked g (seen_statements (λ e. e.entries) x.nodes.keys x.edges.items) rows x.rows a b r to) (sym w.self-inside-is)
          (record { link = l.0; joins = subst (λ f. (i j : ℕ) → HasBit w.add_end-in-None.new.rows i j ↔ Joins rows f to i j) (c.len-count.ensures.len ∙ l.1) w.in_ok-add_end-in-None.ensures.rows; len = w.add_end-in-None.ensures.len })
    ] in
    let h = seen_statements (λ e. e.entries) half.nodes.keys half.edges.items in
    let k = h in
    let there : list_any (nat_eq b) half.nodes.keys ≡ true = sym c.contains.ensures ∙ c.if-not-contains.false in
    let all = linked_in g h rows half.rows a b r c.args.required to exact linked at enough is there in
    all.0

pub returns-else-not-contains-clause-ok : goal.returns-else-not-contains-clause-ok
returns-else-not-contains-clause-ok c =
    let a = c.args.a in
    let b = c.args.b in
    let keys = c.self.inside.nodes.keys in
    let ds = c.self.inside.edges.items in
    let g = seen_statements (λ e. e.entries) keys ds in
    let rows = c.extend_to.new.self in
    let exact : IsExact g rows = IsExact-same g c.self.inside.rows rows c.self.invariant c.extend_to.ensures.same c.extend_to.ensures.longer in
    let nodes = c.reserve.new.self.keys in
    let items = c.reserve-2.new.self.items in
    let same_nodes : nodes ≡ keys = c.in_ok-reserve.ensures.keys in
    let same_items : items ≡ ds = c.in_ok-reserve-2.ensures.items in
    let at : c.place_after-to.result ≡ place (added (added keys a) b) b = c.place_after-to.ensures ∙ ap (λ l. place (added (added l a) b) b) same_nodes in
    let enough : length keys + 2 ≤ length rows = omega (arith, c.in_ok-extend_to.ensures.ok, c.len-count.ensures.len) in
    let r = c.strongest-required.result in
    let is : strongest (weight g a b) c.args.required ≡ r = sym (c.strongest-required.ensures ∙ ap (λ w. strongest w c.args.required) (c.edge_weight.ensures ∙ ap (λ x. weight x a b) (sym c.self.view_is))) in
    let to = c.place_after-to.result in
    let half = c.match-get_index_of.self-inside in
    let linked : Linked g (seen_statements (λ e. e.entries) half.nodes.keys half.edges.items) rows half.rows a b r to =
    elim c.match-get_index_of.branch [
      | in-Some+in_ok-add_end-in-Some w ↦
          let l = link_written (λ e. e.entries) keys nodes ds items a b r c.self.invariant.len same_nodes same_items w.in-Some.from (sym c.get_index_of.ensures.index ∙ w.in-Some.is) w.index_mut-edges.result.now w.add_end.new.edges w.index_mut-edges.ensures.value w.in_ok-add_end-in-Some.ensures.edges in
          subst (λ x. Linked g (seen_statements (λ e. e.entries) x.nodes.keys x.edges.items) rows x.rows a b r to) (sym w.self-inside-is)
          (record { link = l.0; joins = subst (λ f. (i j : ℕ) → HasBit w.add_end.new.rows i j ↔ Joins rows f to i j) l.1 w.in_ok-add_end-in-Some.ensures.rows; len = w.add_end.ensures.len })
      | in-None+in_ok-add_end-in-None w ↦
          let l = link_new (λ e. e.entries) keys nodes ds items a b r c.self.invariant.len same_nodes same_items (sym c.get_index_of.ensures.index ∙ w.in-None.is) w.new-edges.result w.add_end-in-None.new.edges w.new-edges.ensures.empty w.in_ok-add_end-in-None.ensures.edges w.push.new.self.items (pushed_if_ok w.push.result w.unwrap.result w.push.new.self.items items w.add_end-in-None.new.edges w.unwrap.ensures w.push.ensures.items) w.insert.result w.unwrap-in-None.result w.unwrap-in-None.ensures w.insert.new.self.keys w.insert.ensures.keys in
          subst (λ x. Linked g (seen_statements (λ e. e.entries) x.nodes.keys x.edges.items) rows x.rows a b r to) (sym w.self-inside-is)
          (record { link = l.0; joins = subst (λ f. (i j : ℕ) → HasBit w.add_end-in-None.new.rows i j ↔ Joins rows f to i j) (c.len-count.ensures.len ∙ l.1) w.in_ok-add_end-in-None.ensures.rows; len = w.add_end-in-None.ensures.len })
    ] in
    let h = seen_statements (λ e. e.entries) half.nodes.keys half.edges.items in
    let k = h in
    let there : list_any (nat_eq b) half.nodes.keys ≡ true = sym c.contains.ensures ∙ c.if-not-contains.false in
    let all = linked_in g h rows half.rows a b r c.args.required to exact linked at enough is there in
    subst (λ x. AddsDependency x k a b c.args.required) c.self.view_is all.1
