-- A value is the form of one list at most.
use Rattle.std.proofs.Common.{map, ap}
use Rattle.bundle_syntax.specs.Item.{item_of}
use Rattle.bundle_json_form.proofs.Unique.{only_read}
use Rattle.bundle_json_form.proofs.read.read_module.Goals as goal

pub returns-clause-only : goal.returns-clause-only
returns-clause-only c = only_read _ _ _ _ _ c.top.ensures (ap (map item_of) c.new-pieces.ensures.items) c.in_ok-read_node.ensures.read
