-- What is read from the tokens of a text, while it is read.
use Rattle.std.specs.Prelude.{◌≡◌, ℕ, List, [], true, Option, Some, None, IsSomeAnd, codes, flat_map}
use Rattle.std.specs.BTreeMap.{BTreeMap}
use Rattle.std.specs.declared.alloc.Global.{Global}
use Rattle.std.specs.declared.string.String.{String}
use Rattle.std.specs.declared.vec.Vec.{Vec}
use Rattle.json.specs.Token.{Token}
use Rattle.json.specs.Json as json
use Rattle.serde_json.specs.Data.{Data, Members, object, put}
use Rattle.serde_json.specs.Find.{as_array, get_member}
use Rattle.serde_json.specs.Read.{of_json, converted}
use Rattle.bundle_tree_ast.specs.declared.expr.Expr.{Expr}
use Rattle.bundle_tree_ast.specs.declared.module.Module.{Module}
use Rattle.bundle_tree_ast.specs.declared.module.ModuleItem.{ModuleItem}
use Rattle.bundle_tree_ast.specs.declared.prop.KeyValueProp.{KeyValueProp}
use Rattle.bundle_tree_listed.specs.Tree.{module_item_items}
use Rattle.bundle_json_form.specs.Form.{text_at, top, AreForms}
use Rattle.bundle_tree_names.specs.declared.file_name.FileName.{FileName}
use Rattle.bundler_entry.specs.declared.call.OrderedConfig.{OrderedConfig}
use Rattle.bundle_json_document.specs.Document.{no_document_notes, AreLists, AreSettings, IsEntryPair, IsArrayOf, IsMap, IsModuleForm}
use Rattle.bundle_json_document.specs.Numbers.{holds_of_read, is_whole}
use Rattle.bundle_json_document.specs.declared.stream.ModuleParts.{ModuleParts}
use Rattle.bundle_json_document.specs.declared.stream.DocumentParts.{DocumentParts}

-- the tokens `old` are those of the value `d` and then `new`, and each number in it is whole
pub record IsNextValue (depth : ℕ) (old new : List Token) (d : Data) : Type 0 where
  pub read : converted of_json (json.value depth old) ≡ Some (d, new)
  pub whole : holds_of_read is_whole (json.value depth old) ≡ true

-- what is kept of the value under a key: what it stands for, and nothing where there is no value
abbrev pub IsMemberKept : {X : Type 0} → (Data → X → Type 0) → Option Data → Option X → Type 0
IsMemberKept R None None = Unit {0}
IsMemberKept R None (Some x) = ⊥
IsMemberKept R (Some d) None = ⊥
IsMemberKept R (Some d) (Some x) = R d x

-- what each part of a document stands for

abbrev pub AreSettingsIn : Data → OrderedConfig → Type 0
AreSettingsIn d config = AreSettings (Some d) config

abbrev pub AreEntriesIn : Data → Vec (String Global × FileName) Global → Type 0
AreEntriesIn d entries = IsArrayOf IsEntryPair entries.items d

abbrev pub AreFilesIn : Data → BTreeMap (String Global) Module → Type 0
AreFilesIn d files = IsMap IsModuleForm files.entries d

abbrev pub AreListsIn : Data → BTreeMap (String Global) (Vec (KeyValueProp Expr) Global) → Type 0
AreListsIn d lists = AreLists (Some d) lists.entries

-- what is kept of the members of a document
pub record AreDocumentParts (ms : Members) (parts : DocumentParts) : Type 0 where
  pub config : IsMemberKept AreSettingsIn (get_member (codes "config") ms) parts.config
  pub entries : IsMemberKept AreEntriesIn (get_member (codes "entries") ms) parts.entries
  pub files : IsMemberKept AreFilesIn (get_member (codes "files") ms) parts.files
  pub lists : IsMemberKept AreListsIn (get_member (codes "meta") ms) parts.lists

-- the value has the forms of these items, one behind the other
abbrev pub AreItems : Data → List ModuleItem → Type 0
AreItems d items =
    IsSomeAnd (as_array d)
    (λ ds. AreForms no_document_notes top ds (flat_map (module_item_items 0) items))

-- the items under a key, none where there is no value
abbrev pub IsBody : Option Data → List ModuleItem → Type 0
IsBody None items = items ≡ []
IsBody (Some d) items = AreItems d items

-- what is kept of the members of a module
pub record AreModuleParts (ms : Members) (parts : ModuleParts) : Type 0 where
  pub kind : parts.is_module ≡ true → text_at (codes "type") (object ms) ≡ Some (codes "Module")
  pub body : IsBody (get_member (codes "body") ms) parts.items.body.items

-- The value of a member under this key comes next, and what was kept of the members before it
-- becomes what is kept of them and it.

abbrev pub KeepsMember : List Token → List Token → List ℕ → DocumentParts → DocumentParts → Type 0
KeepsMember ts rest key old new =
    (d : Data) × IsNextValue 126 ts rest d
    × ((ms : Members) → AreDocumentParts ms old → AreDocumentParts (put key d ms) new)

abbrev pub KeepsModuleMember : List Token → List Token → List ℕ → ModuleParts → ModuleParts → Type 0
KeepsModuleMember ts rest key old new =
    (d : Data) × IsNextValue 124 ts rest d
    × ((ms : Members) → AreModuleParts ms old → AreModuleParts (put key d ms) new)
