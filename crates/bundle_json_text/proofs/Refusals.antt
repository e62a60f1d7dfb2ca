-- Why a text or a value is the form of no module.
use Rattle.std.proofs.Common.{◌≡◌, ℕ, List, Some, None, sym, subst, ◌∙◌}
use Rattle.json.specs.Json.{Json, document}
use Rattle.serde_json.specs.Data.{Data}
use Rattle.bundle_syntax.specs.declared.kind.ExportMetadata.{ExportMetadata}
use Rattle.bundle_syntax.specs.Item.{Item}
use Rattle.bundle_tree_listed.specs.Tree.{module_items}
use Rattle.bundle_tree_parse.specs.Refused.{IsListOfNoModule}
use Rattle.bundle_json_form.specs.Form.{top, IsForm}
use Rattle.bundle_json_form.specs.Plain.{plain}
use Rattle.bundle_json_text.specs.Text.{no_text_notes, IsFormOf, IsFormOfNone, ReadsNone}

-- a text that is no JSON
pub no_json : (text : List ℕ) → document text ≡ None → ReadsNone text
no_json text none = λ it reads. let never : Some reads.0 ≡ None = sym reads.1 ∙ none in absurd (cc)

-- a text whose value is the form of no module
pub no_module_read : (text : List ℕ) (value : Json) → document text ≡ Some value → IsFormOfNone (plain value) → ReadsNone text
no_module_read text value is none = λ it reads.
    let both : Some reads.0 ≡ Some value = sym reads.1 ∙ is in
    let same : reads.0 ≡ value = cc in
    none it (subst (λ it_is. IsFormOf (plain it_is) it) same reads.2)

module _ (notes : ExportMetadata) (value : Data) (noted : notes ≡ no_text_notes) where
  -- a value that is the form of no list
  pub no_list : ((list : List Item) → ¬ IsForm notes top value list) → IsFormOfNone value
  no_list none = λ it is. none (module_items 0 it) (subst (λ its. IsForm its top value (module_items 0 it)) (sym noted) is)

  -- the one list whose form it is, is the list of no module
  pub no_module : (list : List Item) → ((other : List Item) → IsForm notes top value other → other ≡ list) → IsListOfNoModule list
      → IsFormOfNone value
  no_module list only none = λ it is.
      none it (only (module_items 0 it) (subst (λ its. IsForm its top value (module_items 0 it)) (sym noted) is))
