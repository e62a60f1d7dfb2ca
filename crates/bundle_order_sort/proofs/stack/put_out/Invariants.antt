use Rattle.std.proofs.Common.{◌≡◌, map, length}
use Rattle.bundle_order_sort.specs.Numbers.{AreSkips}
use Rattle.bundle_order_sort.specs.Chains.{AreChains}
use Rattle.bundle_order_sort.specs.Items.{NeedsByRank}
use Rattle.bundle_order_sort.specs.Left.{KeepsLeft}
use Rattle.bundle_order_sort.proofs.KnownLemmas.{IsKnown}
use Rattle.bundle_order_sort.proofs.SortLemmas.{Sorting}
use Rattle.bundle_order_sort.proofs.WorkLemmas.{work}
use Rattle.bundle_order_sort.proofs.stack.put_out.Given as goal

abbrev pub invariant-loop-top : goal.invariant-loop-top
invariant-loop-top l = record {
  sorting : Sorting (NeedsByRank l.items (map (λ v. v.items) l.fn.lists) l.ranks) (length l.items) l.ranks l.firsts l.stack.items l.progress.items l.order.items;
  skips : AreSkips l.progress.items l.skips;
  skips_len : length l.skips ≡ length l.progress.items;
  chains : AreChains (map (λ v. v.items) l.needs) l.ranks l.progress.items l.ends l.cursors;
  known : IsKnown (NeedsByRank l.items (map (λ v. v.items) l.fn.lists) l.ranks) l.progress.items (map (λ v. v.items) l.needs);
  left : KeepsLeft l.progress.items (map (λ v. v.items) l.fn.lists) (map (λ v. v.items) l.lists);
  lists_len : length l.lists ≡ length l.fn.lists;
  needs_len : length l.needs ≡ length l.items;
}

abbrev pub decreases-loop-top : goal.decreases-loop-top
decreases-loop-top l = work (length l.items) l.ranks l.progress.items l.stack.items
