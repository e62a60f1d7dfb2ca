use Rattle.std.proofs.Common.{ℕ, List, ◌++◌, drop, map}
use Rattle.bundle_order_graph.specs.Blocks.{BlocksOf}
use Rattle.bundle_order_graph.specs.Ranked.{AreAlike}
use Rattle.bundle_order_graph.proofs.graph.blocks_of.Given as goal

abbrev pub invariant-loop-last : goal.invariant-loop-last
invariant-loop-last l =
    let S = AreAlike (map (λ v. v.items) l.edges) l.ranks l.list in
    (bs : List (List ℕ)) → BlocksOf S l.list (drop l.last l.list) bs → BlocksOf S l.list l.list (map (λ b. b.items) l.blocks.items ++ bs)
