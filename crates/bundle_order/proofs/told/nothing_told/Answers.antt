use Rattle.std.proofs.Common.{◌+◌, List, length, get_or, ap, ◌∙◌}
use Rattle.std.proofs.lemmas.List.{length_push}
use Rattle.bundle_order.specs.declared.told.TopBinding.{TopBinding}
use Rattle.bundle_order.specs.Told.{no_binding_told}
use Rattle.bundle_order.proofs.EntryLemmas.{nothing_push}
use Rattle.bundle_order.proofs.told.nothing_told.Goals as goal

pub loop-preserved : goal.loop-preserved
loop-preserved c = record {
  len = ap length c.in_ok-push.ensures.items ∙ (length_push c.loop.told.items no_binding_told ∙ ap (λ n. n + 1) c.loop.invariant.len);
  each = λ p. ap (λ (l : List TopBinding). get_or l p no_binding_told) c.in_ok-push.ensures.items ∙ nothing_push c.loop.told.items p (c.loop.invariant.each p);
}
