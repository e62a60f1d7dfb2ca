-- What is told of a document that stands in the bytes of an input.
use Rattle.std.proofs.Common.{ℕ, List, [], Some, refl, sym, append-nil}
use Rattle.bundle_tree_names.specs.declared.error.Error.{Error}
use Rattle.bundle_json_document.specs.Answer.{IsDocumentAnswer, IsDocumentRefusal}
use Rattle.bundle_json_document.specs.Document.{IsDocumentText}
use Rattle.bundle_json_document.specs.Parties.{hook_lists}
use Rattle.bundle_json_document.specs.Program.{AnswersInput, ReadsDocument, RefusesInput, fails_nowhere, may_list}
use Rattle.bundle_json_document.specs.declared.document.Document.{Document}
use Rattle.bundle_json_document.specs.declared.parties.MetaHook.{MetaHook}

module _ (input : List ℕ) (document : Document) (hook : MetaHook) (is_text : IsDocumentText input document (hook_lists hook)) where
  is_read : ReadsDocument (Some input) (Some []) document hook
  is_read = record {
    text = input;
    consumed = sym (append-nil input);
    at_end = refl;
    is_text = is_text;
  }

  pub answers_all : (text : List ℕ) → IsDocumentAnswer (may_list hook) fails_nowhere document text
      → AnswersInput (Some input) (Some []) text
  answers_all text right = record { document = document; hook = hook; is_read = is_read; is_answer = right }

  pub refuses_all : (refusal : Error) → IsDocumentRefusal (may_list hook) fails_nowhere document refusal
      → RefusesInput (Some input) (Some []) refusal
  refuses_all refusal right = record { document = document; hook = hook; is_read = is_read; is_refusal = right }
