use Rattle.bundle_json_form.proofs.Places.{set_member, insert_member}
use Rattle.std.proofs.Common.{subst}
use Rattle.bundle_json_form.specs.Plan.{planned, IsMemberAt, BelongsAt}
use Rattle.bundle_json_form.proofs.plan.put.Goals as goal

pub returns-in-Ok : goal.returns-in-Ok
returns-in-Ok c =
    let there = subst (λ them. IsMemberAt c.args.key.now (planned them) c.in-Ok.place) c.as_slice.ensures.value c.in-Ok.ensures.there in
    set_member c.args.members.now.items c.in-Ok.place (record { key = c.args.key; content = c.args.content }) there

pub returns-in_ok-insert-in-Err : goal.returns-in_ok-insert-in-Err
returns-in_ok-insert-in-Err c =
    let free = subst (λ them. BelongsAt c.args.key.now (planned them) c.in-Err.place) c.as_slice.ensures.value c.in-Err.ensures.free in
    insert_member c.args.members.now.items _ c.in-Err.place (record { key = c.args.key; content = c.args.content }) free c.in_ok-insert-in-Err.ensures.items
