-- What is read is added, what stands in a value is smaller than it, and what is refused is no form.
use Rattle.std.proofs.Common.{◌≡◌, ◌⊎◌, inl, inr, ap, ◌∙◌, sym, take, false, arith}
use Rattle.std.proofs.lemmas.List.{take_all}
use Rattle.bundle_json_form.proofs.Growth.{on_ok, list_step, field_step, no_field_step, none_there, one_there, optional_there, null_there, nothing_read, hole_read, no_field_read, node_read, another_name, handed, no_field, no_item, no_list_there, on_err}
use Rattle.bundle_json_form.proofs.Size.{get_smaller, item_smaller, items_smaller}
use Rattle.bundle_syntax.specs.Item.{head_of}
use Rattle.bundle_json_form.specs.Form.{node_fields, is_null}
use Rattle.bundle_json_form.specs.Layout.{present_fields}
use Rattle.bundle_json_form.specs.Plain.{items_seen, seen}
use Rattle.bundle_json_form.proofs.read.+read.Goals as goal
use Rattle.bundle_json_form.proofs.read.+read.Goals.{read_list-then-place+then-is_null+in_ok-add, read_list-else-place+in_ok-read_node, read_list-else-place-via-then-place+else-is_null, read_list-else-place-via-else-place, read_node-in-Some+in_ok-read_field, read_node-in_default}

pub read_field-returns-in-One-shape-clause-read : goal.read_field-returns-in-One-shape-clause-read
read_field-returns-in-One-shape-clause-read t c = on_ok _ (one_there _ _ _ _ _ _ _ _ c.in-One-shape.is (sym c.in-Some.ensures) c.place_in-place.ensures) c.read_node.ensures.read

pub read_field-returns-then-is_null-clause-read : goal.read_field-returns-then-is_null-clause-read
read_field-returns-then-is_null-clause-read t c = null_there _ _ _ _ _ _ c.in-Optional-shape.is (sym c.in-Some.ensures) (sym c.if-is_null.ensures)

pub read_field-returns-else-is_null-clause-read : goal.read_field-returns-else-is_null-clause-read
read_field-returns-else-is_null-clause-read t c = on_ok _ (optional_there _ _ _ _ _ _ _ _ c.in-Optional-shape.is (sym c.in-Some.ensures) (sym c.if-is_null.ensures) c.place_in-place.ensures) c.read_node-else-is_null.ensures.read

pub read_list-loop-value-init : goal.read_list-loop-value-init
read_list-loop-value-init t c = nothing_read _ _ _

pub read_list-loop-value-preserved : goal.read_list-loop-value-preserved
read_list-loop-value-preserved t c =
    elim c.if-place.branch [
      | read_list-then-place+then-is_null+in_ok-add w ↦
          rw w.pieces-is (list_step _ _ _ _ _ _ _ _ c.loop-value-test.true c.value-item.is c.loop-value.invariant (hole_read _ _ _ _ _ w.if-place.true (sym w.if-is_null.ensures) w.in_ok-add.ensures.added))
      | read_list-else-place+in_ok-read_node w ↦
          rw w.pieces-is (list_step _ _ _ _ _ _ _ _ c.loop-value-test.true c.value-item.is c.loop-value.invariant w.in_ok-read_node.ensures.read)
    ]

pub read_node-loop-field-init : goal.read_node-loop-field-init
read_node-loop-field-init t c = no_field_read _ _ _ _ _

pub read_node-loop-field-preserved : goal.read_node-loop-field-preserved
read_node-loop-field-preserved t c =
    elim c.match-field.branch [
      | read_node-in-Some+in_ok-read_field w ↦
          rw w.pieces-is (field_step _ _ _ _ c.fields_of-field-items.result c.loop-field.field-index _ _ _ _ (omega arith) w.in-Some.is c.loop-field.invariant w.in_ok-read_field.ensures.read)
      | read_node-in_default w ↦ rw w.pieces-is (no_field_step _ _ _ _ c.fields_of-field-items.result c.loop-field.field-index _ _ (omega arith) w.in_default.is c.loop-field.invariant)
    ]

pub read_node-returns-clause-read : goal.read_node-returns-clause-read
read_node-returns-clause-read t c =
    let all : present_fields (take c.loop-field.field-index c.fields_of-field-items.result) ≡ node_fields (head_of c.in_ok-node.node) = ap present_fields (take_all c.loop-field.field-index c.fields_of-field-items.result (omega arith)) ∙ c.fields_of-field-items.ensures in
    on_ok _ (node_read _ _ _ _ _ _ _ _ _ c.in_ok-node.ensures.read all c.in_ok-add.ensures.added c.loop-field.invariant) c.add-2.ensures.added

pub read_field-returns-in-Optional-clause-read : goal.read_field-returns-in-Optional-clause-read
read_field-returns-in-Optional-clause-read t c = none_there _ _ _ _ _ c.in-Optional.is (sym c.in_default.ensures)

-- What is refused.

pub read_field-returns-in-Some-items-clause-refused : goal.read_field-returns-in-Some-items-clause-refused
read_field-returns-in-Some-items-clause-refused t c =
    on_err _ (no_list_there _ _ _ _ _ _ _ c.in-List.is (sym c.in-Some.ensures) (sym c.in-Some-items.ensures) c.place_in-place.ensures)
    c.read_list.ensures.refused

pub read_list-returns-in_err-read_node-clause-refused : goal.read_list-returns-in_err-read_node-clause-refused
read_list-returns-in_err-read_node-clause-refused t c =
    let whole : (c.args.place.has_holes ≡ false) ⊎ (is_null (seen c.value-item.result) ≡ false)
    = elim c.else-place.branch [
      | read_list-else-place-via-then-place+else-is_null w ↦ inr (sym w.if-is_null.ensures)
      | read_list-else-place-via-else-place w ↦ inl w.if-place.false
    ] in
    handed _ _ c.from_residual-in_err-read_node.ensures.1
    (no_item _ _ _ _ _ c.loop-value-test.true c.value-item.is whole)
    c.in_err-read_node.ensures.refused

pub read_node-returns-in_err-read_field-clause-refused : goal.read_node-returns-in_err-read_field-clause-refused
read_node-returns-in_err-read_field-clause-refused t c =
    handed _ _ c.from_residual-in_err-read_field.ensures.1
    (no_field _ _ _ _ c.fields_of-field-items.result c.loop-field.field-index _
    (another_name _ _ _ c.in_ok-name.ensures.read c.if-is_same.ensures)
    c.in_ok-node.ensures.read c.fields_of-field-items.ensures (omega arith) c.in-Some.is)
    c.in_err-read_field.ensures.refused

-- That it ends.

pub read_field-read_node-requires : goal.read_field-read_node-requires
read_field-read_node-requires t c =
    let h = get_smaller c.args.field.key.now (seen c.args.object.value.now) (seen c.in-Some.value.now) (sym c.in-Some.ensures) in
    omega arith

pub read_field-read_node-requires-else-is_null : goal.read_field-read_node-requires-else-is_null
read_field-read_node-requires-else-is_null t c =
    let h = get_smaller c.args.field.key.now (seen c.args.object.value.now) (seen c.in-Some.value.now) (sym c.in-Some.ensures) in
    omega arith

pub read_field-read_list-requires : goal.read_field-read_list-requires
read_field-read_list-requires t c =
    let h = get_smaller c.args.field.key.now (seen c.args.object.value.now) (seen c.in-Some.value.now) (sym c.in-Some.ensures) in
    let g = items_smaller (seen c.in-Some.value.now) (items_seen c.in-Some-items.list.now) (sym c.in-Some-items.ensures) in
    omega arith

pub read_list-read_node-requires : goal.read_list-read_node-requires
read_list-read_node-requires t c =
    let h = item_smaller c.args.list.now c.loop-value.value-index c.value-item.result c.loop-value-test.true c.value-item.is in
    omega arith
