use Rattle.std.proofs.Common.{◌∙◌}
use Rattle.bundle_syntax.specs.Item.{head_of}
use Rattle.bundle_order.proofs.EventLemmas.{in_second, not_in_second}
use Rattle.bundle_order.proofs.spot.is_in_assign_in.Goals as goal

pub returns-then-field-eq1 : goal.returns-then-field-eq1
returns-then-field-eq1 c = λ item told outer e f. c.either.ensures ∙ in_second item told (record { head = head_of c.args.frame.now.node; begins = c.args.frame.now.begins; field = c.args.field }) outer c.args.frame.now.is_object_assign c.args.frame.now.spot.is_in_assign e f c.if-field-eq1.true

pub returns-else-field-eq1 : goal.returns-else-field-eq1
returns-else-field-eq1 c = λ item told outer e f. not_in_second item told (record { head = head_of c.args.frame.now.node; begins = c.args.frame.now.begins; field = c.args.field }) outer c.args.frame.now.is_object_assign c.args.frame.now.spot.is_in_assign e f c.if-field-eq1.false
