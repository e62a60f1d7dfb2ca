-- One more edge between two of the items, or none.
use Rattle.std.proofs.Common.{sym, ◌∙◌}
use Rattle.std.proofs.lemmas.Bool.{false≢true}
use Rattle.bundle_order.proofs.NumberingLemmas.{edge_more, Grows-one, Grows-passed}
use Rattle.bundle_order.proofs.dependency_graph.add_dependency.Goals as goal

pub returns-then-not-is_on_another : goal.returns-then-not-is_on_another
returns-then-not-is_on_another c = Grows-passed _ _ _ c.args.dependency c.requires.nodes (λ within other. false≢true (sym c.if-not-is_on_another.true ∙ c.is_on_another.ensures.1 (within, other)))

pub returns : goal.returns
returns c =
    let ends = c.is_on_another.ensures.0 c.if-not-is_on_another.false in
    Grows-one _ _ _ _ c.args.dependency _ c.in_ok-add_edge.ensures.ok c.required_by.ensures ends.0 ends.1 (edge_more _ _ _ _ _ _ c.in_ok-add_edge.ensures.ok c.requires.item ends.0 c.requires.nodes)
