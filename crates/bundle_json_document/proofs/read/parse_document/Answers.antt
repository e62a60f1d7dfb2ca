use Rattle.std.proofs.Common.{sym, subst}
use Rattle.std.specs.Prelude.{IsUtf8}
use Rattle.bundle_json_document.specs.Document.{IsDocumentText, IsNoDocumentText}
use Rattle.bundle_json_document.specs.Parties.{hook_lists}
use Rattle.bundle_json_document.proofs.Fronts.{handed_on}
use Rattle.bundle_json_document.proofs.read.parse_document.Goals as goal

pub document_in-requires : goal.document_in-requires
document_in-requires c = subst IsUtf8 (sym c.in-Ok.ensures.cases.0) c.in-Ok.ensures.cases.1

pub returns-clause-document : goal.returns-clause-document
returns-clause-document c =
    subst (λ it. IsDocumentText it c.in_ok-document.document (hook_lists c.new.result)) c.in-Ok.ensures.cases.0
    (subst (IsDocumentText c.in-Ok.text.now c.in_ok-document.document) (sym c.new.ensures) c.in_ok-document.ensures.ok)

pub returns-in_err-document-clause-refused : goal.returns-in_err-document-clause-refused
returns-in_err-document-clause-refused c =
    handed_on _ _ c.from_residual.ensures.1 (subst IsNoDocumentText c.in-Ok.ensures.cases.0) c.in_err-document.ensures.refused
