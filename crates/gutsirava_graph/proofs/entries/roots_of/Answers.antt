-- One more entry was found; where none is left, all were.
use Rattle.std.proofs.Common.{◌≡◌, arith, rules, sym, ◌∙◌}
use Rattle.std.proofs.lemmas.List.{nil_from_length}
use Rattle.gutsirava_graph.specs.Graph.{IsRootOf}
use Rattle.gutsirava_graph.proofs.SoFar.{none_so_far, more_so_far, all_so_far}
use Rattle.gutsirava_graph.proofs.entries.roots_of.Goals as goal

pub loop-entry-init : goal.loop-entry-init
loop-entry-init g c = λ none.
    let same : c.into_iter-entry-iterator.result.rest.items ≡ c.args.entries.items = search rules in
    none_so_far IsRootOf c.args.entries.items c.into_iter-entry-iterator.result.rest.items c.new-roots.result.items same c.new-roots.ensures.items

pub loop-entry-preserved : goal.loop-entry-preserved
loop-entry-preserved g c = λ none.
    let (root, is, its) = c.in_ok-add_root.ensures.added none in
    more_so_far IsRootOf c.args.entries.items _ _ c.loop-entry.roots.items _ c.in-Some.entry root c.in-Some.ensures.steps.0 is its (c.loop-entry.invariant (omega arith))

pub returns : goal.returns
returns g c = λ none.
    let rest = c.loop-entry.entry-iterator.rest in
    all_so_far IsRootOf c.args.entries.items rest.items c.loop-entry.roots.items (nil_from_length rest.items (sym rest.ok.0 ∙ c.in-None.ensures.steps.0)) (c.loop-entry.invariant none)
