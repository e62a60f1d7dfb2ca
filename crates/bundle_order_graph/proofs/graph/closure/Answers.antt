use Rattle.std.proofs.lemmas.List.Sorted.{Contains-permutation, IsPermutation-sym}
use Rattle.bundle_order_graph.proofs.ListLemmas.{ascending}
use Rattle.bundle_order_graph.proofs.graph.closure.Goals as goal

pub returns-clause-reached : goal.returns-clause-reached
returns-clause-reached c =
    let old = c.in_ok-reached.reached.items in
    let new = c.sort_unstable.new.self.items in
    let p = c.sort_unstable.ensures.permutation in
    let o = c.in_ok-reached.ensures in
    λ n. (λ h. (o.reached n).0 (Contains-permutation new old n (IsPermutation-sym old new p) h), λ r. Contains-permutation old new n p ((o.reached n).1 r))

pub returns-clause-ascending : goal.returns-clause-ascending
returns-clause-ascending c = ascending c.in_ok-reached.reached.items c.sort_unstable.new.self.items c.sort_unstable.ensures.permutation c.in_ok-reached.ensures.once c.sort_unstable.ensures.sorted
