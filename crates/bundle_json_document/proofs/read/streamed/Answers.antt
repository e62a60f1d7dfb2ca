use Rattle.bundle_json_document.proofs.Fronts.{if_ok_weaker}
use Rattle.bundle_json_document.proofs.Turns.{document_read}
use Rattle.bundle_json_document.proofs.read.streamed.Goals as goal

pub returns : goal.returns
returns c =
    let parts = c.in_ok-parts.ensures in
    if_ok_weaker _ _ c.document.result (λ made are. document_read c.args.text.now c.in_ok-reader.reader c.read_parts.new.reader parts.0 made.0 made.1.entries c.requires c.in_ok-reader.ensures.ok parts.1 c.in_ok-end.ensures.ok (are parts.0 parts.2)) c.document.ensures
