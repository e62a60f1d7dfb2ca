use Rattle.std.proofs.Common.{length}
use Rattle.serde_json.specs.Data.{Members}
use Rattle.bundle_json_document.specs.Stream.{AreDocumentParts}
use Rattle.bundle_json_document.proofs.Turns.{ReadsMembers}
use Rattle.bundle_json_document.proofs.stream.read_parts.Given as goal

abbrev pub invariant-members : goal.invariant-members
invariant-members l = (ms : Members) × ReadsMembers 126 l.initial.reader l.reader ms × AreDocumentParts ms l.parts

abbrev pub decreases-members : goal.decreases-members
decreases-members l = length l.reader
