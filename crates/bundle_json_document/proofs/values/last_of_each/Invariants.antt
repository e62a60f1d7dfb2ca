use Rattle.std.proofs.Common.{◌≡◌, take}
use Rattle.json.specs.Value.{members_view}
use Rattle.serde_json.specs.Data.{no_members}
use Rattle.bundle_json_form.specs.Plain.{plain_members}
use Rattle.bundle_json_document.specs.Seen.{last_members}
use Rattle.bundle_json_document.proofs.values.last_of_each.Given as goal

abbrev pub invariant-loop-member : goal.invariant-loop-member
invariant-loop-member l = last_members l.members.entries ≡ plain_members (members_view (take l.member-index l.all)) no_members
