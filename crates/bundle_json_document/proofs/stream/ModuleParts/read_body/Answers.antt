use Rattle.std.proofs.Common.{refl}
use Rattle.bundle_json_document.proofs.Turns.{with_body}
use Rattle.bundle_json_document.proofs.stream.ModuleParts.read_body.Goals as goal

pub returns-clause-ok : goal.returns-clause-ok
returns-clause-ok c =
    let read = c.in_ok-items.ensures.ok in
    (read.0, read.1, λ ms are. with_body read.0 ms _ _ are refl read.2)
