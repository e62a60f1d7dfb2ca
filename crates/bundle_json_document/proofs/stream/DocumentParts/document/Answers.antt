use Rattle.std.proofs.Common.{codes, subst}
use Rattle.serde_json.specs.Find.{get_member}
use Rattle.bundle_json_document.specs.Stream.{AreEntriesIn, AreFilesIn, IsMemberKept}
use Rattle.bundle_json_document.proofs.Fronts.{is_there}
use Rattle.bundle_json_document.proofs.stream.DocumentParts.document.Goals as goal

pub returns : goal.returns
returns c = λ ms are. (
  record {
    config = c.in_ok-config.ensures (get_member (codes "config") ms) are.config;
    entries = is_there AreEntriesIn (get_member (codes "entries") ms) c.in_ok-entries.entries (subst (IsMemberKept AreEntriesIn (get_member (codes "entries") ms)) c.in_ok-entries.ensures are.entries);
    files = is_there AreFilesIn (get_member (codes "files") ms) c.in_ok-files.files (subst (IsMemberKept AreFilesIn (get_member (codes "files") ms)) c.in_ok-files.ensures are.files);
  },
  c.lists_or_none-lists.ensures (get_member (codes "meta") ms) are.lists,
)
