use Rattle.std.proofs.Common.{map, get_or}
use Rattle.bundle_order_sort.specs.Chains.{AreChains}
use Rattle.bundle_order_sort.proofs.ChainLemmas.{Running}
use Rattle.bundle_order_sort.proofs.stack.push_chain.Given as goal

abbrev pub invariant-loop-next : goal.invariant-loop-next
invariant-loop-next l = record {
  running : Running (map (λ v. v.items) l.needs) l.ranks l.progress l.item l.initial.stack.items l.stack.items l.at;
  chains : AreChains (map (λ v. v.items) l.needs) l.ranks l.progress l.ends l.cursors;
}

abbrev pub decreases-loop-next : goal.decreases-loop-next
decreases-loop-next l = get_or l.ranks l.at 0
