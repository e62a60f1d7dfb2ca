-- What the JSON text of a module is.
use Rattle.std.specs.Prelude.{◌≡◌, ℕ, List, false, None, Some}
use Rattle.json.specs.Json.{Json, document}
use Rattle.serde_json.specs.Data.{Data}
use Rattle.serde_json.specs.Written.{compact_text}
use Rattle.bundle_syntax.specs.declared.kind.ExportMetadata.{ExportMetadata}
use Rattle.bundle_tree_ast.specs.declared.module.Module.{Module}
use Rattle.bundle_tree_listed.specs.Tree.{module_items}
use Rattle.bundle_json_form.specs.Form.{Tree, top, tree_items, written, IsForm, IsLaidOut}
use Rattle.bundle_json_form.specs.Plain.{plain}

-- what is noted on a tree that is read: nothing
abbrev pub no_text_notes : ExportMetadata
no_text_notes = record { injected = false; export_ctxt = None }

-- the value is the form of the module
abbrev pub IsFormOf : Data → Module → Type 0
IsFormOf value it = IsForm no_text_notes top value (module_items 0 it)

-- the value is the form of no module
abbrev pub IsFormOfNone : Data → Type 0
IsFormOfNone value = (it : Module) → ¬ IsFormOf value it

-- the text is JSON, and its value is the form of the module
abbrev pub Reads : List ℕ → Module → Type 0
Reads text it = (value : Json) × (document text ≡ Some value) × IsFormOf (plain value) it

-- the text is no JSON, or its value is the form of no module
abbrev pub ReadsNone : List ℕ → Type 0
ReadsNone text = (it : Module) → ¬ Reads text it

-- the text is the compact one of the module's form: with no space, every field and the keys of each
-- object in their order
pub record IsModuleText (it : Module) (text : List ℕ) : Type 0 where
  pub tree : Tree
  pub listed : module_items 0 it ≡ tree_items 0 tree
  pub laid : IsLaidOut tree
  pub is_text : text ≡ compact_text (written tree)
