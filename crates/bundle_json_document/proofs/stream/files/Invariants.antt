use Rattle.std.proofs.Common.{◌≤◌, length}
use Rattle.serde_json.specs.Data.{Members}
use Rattle.bundle_json_document.specs.Document.{IsModuleForm}
use Rattle.bundle_json_document.proofs.Maps.{AreEntries}
use Rattle.bundle_json_document.proofs.Turns.{ReadsMembers}
use Rattle.bundle_json_document.proofs.stream.files.Given as goal

abbrev pub invariant-members : goal.invariant-members
invariant-members l = (ms : Members) × ReadsMembers 125 l.initial.reader l.reader ms × AreEntries IsModuleForm l.files.entries ms × (length l.reader ≤ length l.initial.reader)

abbrev pub decreases-members : goal.decreases-members
decreases-members l = length l.reader
