use Rattle.std.proofs.Common.{◌+◌, Some, ap, sym, ◌∙◌, subst}
use Rattle.std.specs.Option.{option_copied}
use Rattle.std.proofs.lemmas.Option.{slice_get-get_or}
use Rattle.bundle_order_graph.specs.Modules.{Modules}
use Rattle.bundle_link.specs.Graph.{IsRequestGraph}
use Rattle.bundle_link.proofs.FaultLemmas.{graph-more, graph-none}
use Rattle.bundle_link.proofs.linked.graph_of.Goals as goal
use Rattle.bundle_link.proofs.linked.graph_of.Goals.{in-Some+in_ok-add_module, in_default}

pub loop-place-preserved : goal.loop-place-preserved
loop-place-preserved c = λ once.
    let ids = c.args.ids.now.keys in
    let modules = c.args.modules.now in
    let i = c.loop-place.place in
    let its = c.index-modules-place.result in
    elim c.match-get_index.branch [
      | in-Some+in_ok-add_module w ↦
          subst (λ (g : Modules). IsRequestGraph ids modules (i + 1) g) (sym w.graph-is)
          (graph-more ids modules i c.loop-place.graph w.add_module.new.graph w.in-Some.id.now its once
          (sym c.get_index.ensures.key ∙ ap option_copied w.in-Some.is)
          (slice_get-get_or modules i its c.loop-place-test.true ∙ ap (λ y. Some y) (sym c.index-modules-place.is))
          (c.loop-place.invariant once) w.in_ok-add_module.ensures.own w.in_ok-add_module.ensures.others)
      | in_default w ↦
          subst (λ (g : Modules). IsRequestGraph ids modules (i + 1) g) (sym w.graph-is)
          (graph-none ids modules i c.loop-place.graph (sym c.get_index.ensures.key ∙ ap option_copied w.in_default.is) (c.loop-place.invariant once))
    ]
