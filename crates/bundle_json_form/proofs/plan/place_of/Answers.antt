use Rattle.std.proofs.Common.{◌<◌, length, sym, ◌∙◌, arith}
use Rattle.bundle_json_form.specs.Plan.{planned}
use Rattle.bundle_json_form.proofs.Places.{below_more, belongs_at, stands_at, next_member, front_member, length_planned}
use Rattle.bundle_json_form.proofs.plan.place_of.Goals as goal

pub returns-in-Less-clause-free : goal.returns-in-Less-clause-free
returns-in-Less-clause-free c =
    let them = c.args.members.now in
    let within : c.loop-place.place < length (planned them) = omega (arith, length_planned them) in
    belongs_at c.args.key.now (planned them) c.loop-place.place _ within (next_member them c.loop-place.place _ (omega arith)) (sym c.order.ensures ∙ c.in-Less.is) c.loop-place.invariant

pub returns-in-Equal-clause-there : goal.returns-in-Equal-clause-there
returns-in-Equal-clause-there c =
    let them = c.args.members.now in
    let within : c.loop-place.place < length (planned them) = omega (arith, length_planned them) in
    stands_at c.args.key.now (planned them) c.loop-place.place _ within (next_member them c.loop-place.place _ (omega arith)) (sym c.order.ensures ∙ c.in-Equal.is) c.loop-place.invariant

pub loop-place-preserved : goal.loop-place-preserved
loop-place-preserved c =
    let them = c.args.members.now in
    below_more c.args.key.now (planned them) c.loop-place.place _ (next_member them c.loop-place.place _ (omega arith)) (front_member them c.loop-place.place _ (omega arith)) (sym c.order.ensures ∙ c.in-Greater.is) c.loop-place.invariant
