-- What is still to be put in gives the whole.
use Rattle.std.proofs.Common.{◌≡◌, drop}
use Rattle.bundle_json_form.specs.Layout.{present_fields}
use Rattle.bundle_json_form.specs.Plan.{planned, put_fields}
use Rattle.bundle_json_form.proofs.plan.members_of.Given as goal

abbrev pub invariant-loop-field : goal.invariant-loop-field
invariant-loop-field l =
    put_fields (present_fields (drop l.field-index l.field-items)) (planned l.members.items)
    ≡ put_fields (present_fields l.field-items) (planned l.initial.members.items)
