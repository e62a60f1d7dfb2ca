use Rattle.std.proofs.Common.{refl}
use Rattle.bundle_json_document.proofs.Turns.{with_files}
use Rattle.bundle_json_document.proofs.stream.DocumentParts.read_files.Goals as goal

pub returns-clause-ok : goal.returns-clause-ok
returns-clause-ok c =
    let read = c.in_ok-files.ensures.ok in
    (read.0, read.1, λ ms are. with_files read.0 ms _ _ are refl refl refl (rw c.replace.ensures.after read.2))
