-- What is still to be done gives the whole.
use Rattle.std.proofs.Common.{◌≡◌, map, drop}
use Rattle.bundle_json_form.specs.Layout.{present_fields}
use Rattle.bundle_json_form.specs.Writing.{child_of, members_in, with_children}
use Rattle.bundle_json_form.proofs.write.node_value.Given as goal

abbrev pub invariant-loop-field : goal.invariant-loop-field
invariant-loop-field l =
    with_children (present_fields (drop l.field-index l.field-items)) (map child_of l.children.items) (members_in l.object)
    ≡ with_children (present_fields l.field-items) (map child_of l.initial.children.items) (members_in l.initial.object)
