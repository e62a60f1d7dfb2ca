-- What is told of a source and of a form.
use Rattle.std.proofs.Common.{◌≡◌, ℕ, List, Some, Result, Ok, Err, IfErr, IsErrAnd, IsUtf8, codes, refl, sym, subst, arith, ◌⊎◌, inl, inr, ◌∙◌}
use Rattle.std.specs.Fmt.{digits}
use Rattle.json.specs.Json.{Json, document}
use Rattle.bundle_syntax.specs.Item.{Item}
use Rattle.bundle_syntax.specs.declared.kind.ExportMetadata.{ExportMetadata}
use Rattle.bundle_json_form.specs.Form.{top, IsForm}
use Rattle.bundle_json_form.specs.Plain.{plain}
use Rattle.bundle_json_form.specs.declared.error.FormError.{FormError}
use Rattle.bundle_json_form.specs.declared.error.FormError.TheVariants.{Form, OutOfMemory}
use Rattle.bundle_json_document.specs.Document.{no_document_notes}
use Rattle.gutsirava_c.specs.Form.{HasList, HasNoList, IsErrorLine}

pub not_utf8 : (source : List ℕ) → IsErrorLine source (codes "error 1:1: the text is not UTF-8\n")
unfolding digits
not_utf8 source = record {
  line = 1;
  column = 1;
  why = codes "the text is not UTF-8";
  is = refl;
  counted = (omega arith, omega arith);
  within = omega arith;
}

-- the value of a text, whose declarations have no notes
module _ (text : List ℕ) (notes : ExportMetadata) (value : Json) (no_notes : notes ≡ no_document_notes) (read : document text ≡ Some value) where
  pub list_of : (items : List Item) → IsUtf8 text → IsForm notes top (plain value) items → HasList text
  list_of items utf8 form = (
    items,
    record {
      utf8 = utf8;
      value = value;
      is_read = read;
      is_form = subst (λ it. IsForm it top (plain value) items) no_notes form;
    },
  )

  pub none_of_value : ((items : List Item) → ¬ IsForm notes top (plain value) items) → HasNoList text
  none_of_value none items form =
      let same : form.value ≡ value = cc in
      none items (subst (λ it. IsForm it top (plain value) items) (sym no_notes) (subst (λ it. IsForm no_document_notes top (plain it) items) same form.is_form))

-- a refusal that is handed on
pub handed_on : {T P Q : Type 0} (made : Result T FormError) (error : FormError) → IsErrAnd made (λ it. it ≡ error) → (P → Q)
    → (error ≡ OutOfMemory) ⊎ P → IfErr made (λ it. it ≡ Form → Q)
handed_on (Ok it) error is further why = tt
handed_on (Err it) error is further why = λ form. elim why [
  | inl memory ↦ let same : Form ≡ OutOfMemory = sym form ∙ is ∙ memory in absurd (cc)
  | inr reason ↦ further reason
]
