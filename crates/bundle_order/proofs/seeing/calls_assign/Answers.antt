use Rattle.std.proofs.Common.{◌+◌, ◌&&◌, map, ap, ◌∙◌}
use Rattle.std.specs.Prelude.{codes}
use Rattle.bundle_syntax.specs.Item.{item_of}
use Rattle.bundle_rules.specs.Nodes.{node_at}
use Rattle.bundle_rules.specs.Reads.{property_of}
use Rattle.bundle_rules.specs.Order.{is_text}
use Rattle.bundle_order.specs.declared.told.TopBinding.{TopBinding}
use Rattle.bundle_order.proofs.seeing.calls_assign.Goals as goal

pub returns : goal.returns
returns c = λ seconds. c.both.ensures ∙ (ap (λ b. b && c.told_at-base.result.is_object) (c.reads_member-reads.ensures seconds) ∙ ap (λ (t : TopBinding). is_text (codes "assign") (property_of (node_at (map item_of c.args.item.now) (c.args.place + 1))) && t.is_object) c.told_at-base.ensures)
