-- What stands in a node is smaller than it. What the loops keep: the list grew by the fields, or the elements, so far.
use Rattle.std.proofs.Common.{◌+◌, ◌*◌, map, take}
use Rattle.bundle_json_form.proofs.Size.{items_size, size}
use Rattle.bundle_json_form.specs.Plain.{items_seen, seen}
use Rattle.bundle_syntax.specs.Item.{head_of, item_of}
use Rattle.bundle_json_form.specs.Form.{AreForms}
use Rattle.bundle_json_form.specs.Layout.{present_fields}
use Rattle.bundle_json_form.specs.Reading.{GrowsBy, AreFields}
use Rattle.bundle_json_form.proofs.read.+read.Given as goal

abbrev pub decreases-read_field : goal.decreases-read_field
decreases-read_field l = 2 * size (seen l.object.value.now)

abbrev pub decreases-read_list : goal.decreases-read_list
decreases-read_list l = 2 * items_size (items_seen l.list.now)

abbrev pub decreases-read_node : goal.decreases-read_node
decreases-read_node l = 2 * size (seen l.object.value.now) + 1

abbrev pub invariant-read_list-loop-value : goal.invariant-read_list-loop-value
invariant-read_list-loop-value l = GrowsBy (AreForms l.meta l.place (items_seen (take l.value-index l.list))) (map item_of l.initial.pieces.items) (map item_of l.pieces.items)

abbrev pub invariant-read_node-loop-field : goal.invariant-read_node-loop-field
invariant-read_node-loop-field l = GrowsBy (AreFields l.fn.object.meta.now l.fn.place.names (seen l.fn.object.value.now) (head_of l.node) (present_fields (take l.field-index l.field-items))) (map item_of l.initial.pieces.items) (map item_of l.pieces.items)
