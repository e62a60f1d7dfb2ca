-- What is told of the document that was read.
use Rattle.std.proofs.Common.{◌≡◌, ℕ, List, Bool, Option, subst}
use Rattle.std.specs.Io.KnownBytes.{Consumes, IsAtEnd}
use Rattle.bundle_tree_ast.specs.declared.expr.Expr.{Expr}
use Rattle.bundle_tree_ast.specs.declared.prop.KeyValueProp.{KeyValueProp}
use Rattle.bundle_tree_names.specs.FileName.{Name}
use Rattle.bundle_tree_names.specs.declared.error.Error.{Error}
use Rattle.bundle_json_document.specs.declared.document.Document.{Document}
use Rattle.bundle_json_document.specs.declared.parties.MetaHook.{MetaHook}
use Rattle.bundle_json_document.specs.Parties.{hook_lists}
use Rattle.bundle_json_document.specs.Document.{IsDocumentText}
use Rattle.bundle_json_document.specs.Answer.{IsDocumentAnswer, IsDocumentRefusal}
use Rattle.bundle_json_document.specs.Program.{AnswersInput, ReadsDocument, RefusesInput, fails_nowhere, may_list}

module _ (old new : Option (List ℕ)) (document : Document) (hook : MetaHook)
    (read : (text : List ℕ) × Consumes old new text × IsDocumentText text document (hook_lists hook)) (at_end : IsAtEnd new) where
  is_read : ReadsDocument old new document hook
  is_read = record { text = read.0; consumed = read.1; at_end = at_end; is_text = read.2 }

  module _ (may_give : Name → Bool → List (KeyValueProp Expr) → Type 0) (may_fail : Name → Bool → Type 0)
      (lists : may_give ≡ may_list hook) (never : may_fail ≡ fails_nowhere) where
    pub answers_input : (text : List ℕ) → IsDocumentAnswer may_give may_fail document text → AnswersInput old new text
    answers_input text right = record {
      document = document;
      hook = hook;
      is_read = is_read;
      is_answer = subst (λ it. IsDocumentAnswer (may_list hook) it document text) never (subst (λ it. IsDocumentAnswer it may_fail document text) lists right);
    }

    pub refuses_input : (refusal : Error) → IsDocumentRefusal may_give may_fail document refusal → RefusesInput old new refusal
    refuses_input refusal right = record {
      document = document;
      hook = hook;
      is_read = is_read;
      is_refusal = subst (λ it. IsDocumentRefusal (may_list hook) it document refusal) never (subst (λ it. IsDocumentRefusal it may_fail document refusal) lists right);
    }
