use Rattle.std.proofs.Common.{ℕ, ◌&&◌, map, get_or, refl, ap, ◌∙◌}
use Rattle.bundle_syntax.specs.Item.{item_of, head_of}
use Rattle.bundle_rules.specs.Entries.{is_call_head}
use Rattle.bundle_order.specs.Told.{no_binding_told}
use Rattle.bundle_order.proofs.seeing.frame_at.Goals as goal

pub returns : goal.returns
returns c = λ path seconds all. record {
  head = refl;
  begins = refl;
  spot = c.spot_at-spot.ensures (map item_of c.args.item.now) (λ (p : ℕ). get_or c.args.told.now p no_binding_told) path all;
  calls = c.both.ensures ∙ (ap (λ b. b && c.calls_assign-calls.result) c.is_call.ensures ∙ ap (λ b. is_call_head (head_of c.args.node) && b) (c.calls_assign-calls.ensures seconds));
}
