-- What the program makes of its input.
use Rattle.std.specs.Prelude.{ℕ, Bool, List, Option}
use Rattle.std.specs.Io.KnownBytes.{Consumes, IsAtEnd}
use Rattle.bundle_tree_ast.specs.declared.expr.Expr.{Expr}
use Rattle.bundle_tree_ast.specs.declared.prop.KeyValueProp.{KeyValueProp}
use Rattle.bundle_tree_names.specs.FileName.{Name}
use Rattle.bundle_tree_names.specs.declared.error.Error.{Error}
use Rattle.bundle_json_document.specs.Answer.{IsDocumentAnswer, IsDocumentRefusal}
use Rattle.bundle_json_document.specs.Document.{IsDocumentText}
use Rattle.bundle_json_document.specs.Parties.{hook_lists, GivesList}
use Rattle.bundle_json_document.specs.declared.document.Document.{Document}
use Rattle.bundle_json_document.specs.declared.parties.MetaHook.{MetaHook}

-- what was there to be read is read whole, and it is the text of this document, with the lists of
-- this hook
pub record ReadsDocument (old new : Option (List ℕ)) (document : Document)
    (hook : MetaHook) : Type 0 where
  pub text : List ℕ
  pub consumed : Consumes old new text
  pub at_end : IsAtEnd new
  pub is_text : IsDocumentText text document (hook_lists hook)

-- what the hook of a document may give for a file, the entry or not
abbrev pub may_list : MetaHook → Name → Bool → List (KeyValueProp Expr) → Type 0
may_list hook file is_entry = GivesList hook file

-- it fails nowhere
abbrev pub fails_nowhere : Name → Bool → Type 0
fails_nowhere file is_entry = ⊥

-- the text of the bundles that the document asks for that was read: those of its own entries, with
-- its own hook
pub record AnswersInput (old new : Option (List ℕ)) (text : List ℕ) : Type 0 where
  pub document : Document
  pub hook : MetaHook
  pub is_read : ReadsDocument old new document hook
  pub is_answer : IsDocumentAnswer (may_list hook) fails_nowhere document text

-- a refusal of these bundles that is right
pub record RefusesInput (old new : Option (List ℕ)) (refusal : Error) : Type 0 where
  pub document : Document
  pub hook : MetaHook
  pub is_read : ReadsDocument old new document hook
  pub is_refusal : IsDocumentRefusal (may_list hook) fails_nowhere document refusal
