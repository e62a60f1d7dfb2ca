-- One more dependency.
use Rattle.std.proofs.Common.{ℕ, ◌+◌, ◌<◌, List, [], ◌∷◌, length, get_or, take, sym, subst}
use Rattle.std.proofs.lemmas.List.{take_more, take_all}
use Rattle.bundle_order_graph.specs.Statements.{Statements}
use Rattle.bundle_order_sort.specs.declared.Dependency.{Dependency}
use Rattle.bundle_order.specs.Items.{GrowsGraph}
use Rattle.bundle_order.proofs.NumberingLemmas.{Grows-none, Grows-more}
use Rattle.bundle_order.proofs.dependency_graph.add_edges.Goals as goal

one_more : (a b c : Statements) (s count : ℕ) (dependencies : List Dependency) (n : ℕ) (d : Dependency) → n < length dependencies → GrowsGraph a b s count (take n dependencies) → GrowsGraph b c s count (get_or dependencies n d ∷ []) → GrowsGraph a c s count (take (n + 1) dependencies)
one_more a b c s count dependencies n d less first next = subst (λ (l : List Dependency). GrowsGraph a c s count l) (sym (take_more dependencies n d less)) (Grows-more a b c s count (take n dependencies) (get_or dependencies n d ∷ []) first next)

pub loop-dependency-init : goal.loop-dependency-init
loop-dependency-init c = Grows-none _ _ _ c.requires.nodes

pub loop-dependency-preserved : goal.loop-dependency-preserved
loop-dependency-preserved c = one_more _ _ _ _ _ c.args.dependencies.now c.loop-dependency.dependency-index _ c.loop-dependency-test.true c.loop-dependency.invariant c.in_ok-add_dependency.ensures

pub returns : goal.returns
returns c =
    let dependencies = c.args.dependencies.now in
    subst (λ (l : List Dependency). GrowsGraph c.args.graph.now c.loop-dependency.graph c.args.number c.args.count l) (take_all c.loop-dependency.dependency-index dependencies c.loop-dependency-test.false) c.loop-dependency.invariant
