use Rattle.std.proofs.Common.{◌≡◌, ◌++◌, ◌∷◌, [], false, nat_eq, map, refl, sym, ◌∙◌}
use Rattle.std.specs.List.{list_any}
use Rattle.bundle_order_graph.specs.Modules.{Modules}
use Rattle.bundle_order_graph.proofs.ModuleLemmas.{module_added}
use Rattle.bundle_order_graph.proofs.NodeLemmas.{keys_pushed, seen-push}
use Rattle.bundle_order_graph.proofs.graph.ModuleGraph.add_node.Goals as goal

pub invariant_of-self-2 : goal.invariant_of-self-2
invariant_of-self-2 c =
    let keys = c.self.inside.nodes.keys in
    let g : Modules = record { nodes = keys; requests = map (λ d. d.keys) c.self.inside.dependencies.items } in
    let absent : list_any (nat_eq c.args.id) keys ≡ false = sym c.contains.ensures ∙ c.if-contains.false in
    let nodes : c.insert.new.self.keys ≡ keys ++ c.args.id ∷ [] = keys_pushed c.insert.result c.unwrap.result keys c.reserve.new.self.keys c.insert.new.self.keys c.args.id c.unwrap.ensures c.insert.ensures.keys c.in_ok-reserve.ensures.keys absent in
    let requests = seen-push (λ d. d.keys) c.self.inside.dependencies.items c.self.inside.dependencies.items c.push.new.self.items c.new.result [] c.in_ok-push.ensures.items refl c.new.ensures.empty in
    (module_added g c.args.id c.self.invariant absent (record { nodes = c.insert.new.self.keys; requests = map (λ d. d.keys) c.push.new.self.items }) nodes requests).0
