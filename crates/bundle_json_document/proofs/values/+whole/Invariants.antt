use Rattle.std.proofs.Common.{◌≡◌, drop}
use Rattle.json.specs.Value.{items_view as items_in, members_view as members_in}
use Rattle.bundle_json_document.specs.Numbers.{items_are_whole as each_whole, members_are_whole as every_whole}
use Rattle.bundle_json_document.proofs.values.+whole.Given as goal

abbrev pub invariant-items_are_whole-loop-item : goal.invariant-items_are_whole-loop-item
invariant-items_are_whole-loop-item l = each_whole (items_in l.items) ≡ each_whole (items_in (drop l.item-index l.items))

abbrev pub invariant-members_are_whole-loop-member : goal.invariant-members_are_whole-loop-member
invariant-members_are_whole-loop-member l = every_whole (members_in l.members) ≡ every_whole (members_in (drop l.member-index l.members))
