-- The text of bundles is refused for memory alone.
use Rattle.std.proofs.Common.{subst, sym}
use Rattle.std.proofs.lemmas.Result.{IfErr-weaker}
use Rattle.bundle_json_document.specs.Answer.{IsDocumentRefusal}
use Rattle.bundle_json_document.proofs.Wanting.{wants_memory}
use Rattle.bundle_json_document.proofs.answering.answer_text.Goals as goal

pub returns-clause-refused : goal.returns-clause-refused
returns-clause-refused g c =
    IfErr-weaker c.bundles_text.result _ _
    (λ refusal is. subst (IsDocumentRefusal _ _ c.args.document) (sym is) (wants_memory _ _ c.args.document))
    c.bundles_text.ensures.refused
