use Rattle.std.proofs.Common.{◌+◌, length, ap, ◌∙◌}
use Rattle.std.proofs.lemmas.List.{length_push}
use Rattle.bundle_order_graph.proofs.LeadLemmas.{none-push}
use Rattle.bundle_order_sort.proofs.stack.empty_lists.Goals as goal

pub loop-preserved : goal.loop-preserved
loop-preserved c = record {
  len = ap length c.in_ok-push.ensures.items ∙ (length_push c.loop.lists.items _ ∙ ap (λ n. n + 1) c.loop.invariant.len);
  none = none-push (λ v. v.items) c.loop.lists.items c.push.new.self.items c.new.result c.in_ok-push.ensures.items c.new.ensures.items c.loop.invariant.none;
}
