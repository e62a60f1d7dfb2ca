use Rattle.std.proofs.Common.{length, ap, ◌∙◌}
use Rattle.bundle_link_targets.specs.Lists.{list_in}
use Rattle.bundle_link_targets.proofs.CallPlaceLemmas.{list-none, none-push, long-push}
use Rattle.bundle_link_targets.proofs.lists.no_lists.Goals as goal

pub loop-init : goal.loop-init
loop-init g c = record { none = λ n. list-none c.new-lists.result.items n c.new-lists.ensures.items; long = ap length c.new-lists.ensures.items }

pub loop-preserved : goal.loop-preserved
loop-preserved g c =
    let old = c.loop.lists.items in
    let put = c.in_ok-push.ensures.items in
    record {
      none = λ n. ap (λ l. list_in l n) put ∙ none-push old c.new.result c.new.ensures.items c.loop.invariant.none n;
      long = ap length put ∙ long-push old c.new.result c.loop.counter c.loop.invariant.long;
    }
