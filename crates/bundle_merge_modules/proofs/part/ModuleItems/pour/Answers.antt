use Rattle.std.proofs.Common.{◌+◌, ◌≤◌, ◌++◌, append_assoc, length, ap, sym, ◌∙◌, arith, if◌then◌else◌}
use Rattle.std.specs.Prelude.{map, vec_len, vec_capacity}
use Rattle.std.proofs.lemmas.Map.Iter.{rest_more}
use Rattle.bundle_merge_modules.specs.Groups.{owned}
use Rattle.bundle_merge_modules.specs.Calls.{group_items, groups_of}
use Rattle.bundle_merge_modules.proofs.AnswerLemmas.{owned-cons}
use Rattle.bundle_merge_modules.proofs.PourLemmas.{room_next}
use Rattle.bundle_merge_modules.proofs.part.ModuleItems.pour.Goals as goal

pub loop-items-preserved : goal.loop-items-preserved
loop-items-preserved g c =
    let all = c.loop-items.all in
    let items = c.in-Some.items in
    let rest = map group_items c.next.new.self in
    let e = rest_more (λ p. p) c.loop-items.items-iterator c.next.new.self _ _ c.in-Some.is c.next.ensures.steps in
    let before = ap (λ l. all.items ++ map (λ o. o.1) (owned (map group_items l))) (sym e) ∙ c.loop-items.invariant.items in
    let fits : length all.items + length items.items ≤ vec_capacity c.args.all.now = room_next all.items c.args.all.now.items items.items c.in-Some.field-0-0 rest (groups_of c.args.self) (vec_capacity c.args.all.now) before (omega (arith, c.requires, c.args.all.now.ok.0)) in
    let room : vec_len all + vec_len items ≤ vec_capacity all = omega (arith, fits, c.loop-items.invariant.room, all.ok.0, items.ok.0) in
    let moved = c.append-room.ensures.items ∙ ap (λ b. if b then all.items ++ items.items else all.items) (c.append-room.ensures.succeeds room) in
    let behind = map (λ o. o.1) (owned rest) in
    record {
      items =
          ap (λ l. l ++ behind) moved
          ∙ append_assoc all.items items.items behind
          ∙ ap (λ l. all.items ++ l) (sym (owned-cons c.in-Some.field-0-0 items.items rest))
          ∙ before;
      room = omega (arith, c.loop-items.invariant.room, c.append-room.ensures.capacity);
    }
