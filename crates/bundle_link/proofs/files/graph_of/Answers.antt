use Rattle.std.proofs.Common.{◌+◌, ℕ, List, Some, map, ap, sym, ◌∙◌, subst}
use Rattle.std.specs.Option.{option_copied}
use Rattle.std.specs.declared.alloc.Global.{Global}
use Rattle.std.specs.declared.string.String.{String}
use Rattle.std.proofs.lemmas.Option.{slice_get-get_or}
use Rattle.bundle_order_graph.specs.Modules.{Modules}
use Rattle.bundle_rules.specs.Nodes.{numbers_once}
use Rattle.bundle_link.specs.Files.{IsFileGraph, module_led_to}
use Rattle.bundle_link.proofs.GraphLemmas.{graph-more, graph-none}
use Rattle.bundle_link.proofs.files.graph_of.Goals as goal
use Rattle.bundle_link.proofs.files.graph_of.Goals.{in-Some+in_ok-add_module, in_default}

pub loop-place-preserved : goal.loop-place-preserved
loop-place-preserved c = λ once.
    let ids = c.args.ids.now.keys in
    let deps = c.args.deps.now in
    let i = c.loop-place.place in
    let its = c.index-deps-place.result in
    elim c.match-get_index.branch [
      | in-Some+in_ok-add_module w ↦
          subst (λ (g : Modules). IsFileGraph ids deps (i + 1) g) (sym w.graph-is)
          (graph-more ids deps i c.loop-place.graph w.add_module.new.graph w.in-Some.id.now its once
          (sym c.get_index.ensures.key ∙ ap option_copied w.in-Some.is)
          (slice_get-get_or deps i its c.loop-place-test.true ∙ ap (λ y. Some y) (sym c.index-deps-place.is))
          (c.loop-place.invariant once)
          (λ e. w.in_ok-add_module.ensures.own e ∙ ap (λ (l : List (String Global × ℕ)). numbers_once (map module_led_to l)) w.deref.ensures.value)
          w.in_ok-add_module.ensures.others)
      | in_default w ↦
          subst (λ (g : Modules). IsFileGraph ids deps (i + 1) g) (sym w.graph-is)
          (graph-none ids deps i c.loop-place.graph (sym c.get_index.ensures.key ∙ ap option_copied w.in_default.is) (c.loop-place.invariant once))
    ]
