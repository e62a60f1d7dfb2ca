-- What a document is, as a JSON value.
use Rattle.std.specs.Prelude.{◌≡◌, ℕ, ◌^◌, ◌<◌, ◌⊎◌, List, [], Bool, true, false, Option, Some, None, IsSome, IsSomeAnd, IsUtf8, codes, flat_map}
use Rattle.std.specs.List.{AllZip}
use Rattle.std.specs.Io.KnownBytes.{Consumes, IsAtEnd}
use Rattle.std.specs.String.{string_bytes}
use Rattle.std.specs.declared.alloc.Global.{Global}
use Rattle.std.specs.declared.string.String.{String}
use Rattle.std.specs.declared.vec.Vec.{Vec}
use Rattle.json.specs.Json.{value as next_value}
use Rattle.json.specs.Lex.{tokens}
use Rattle.serde_json.specs.Data.{Data, unsigned, string, array, object, item, no_items, no_members}
use Rattle.serde_json.specs.Find.{get, as_bool, as_number, as_array, as_object}
use Rattle.serde_json.specs.Read.{max_depth, read}
use Rattle.serde_json.specs.View.{items_of, members_of}
use Rattle.bundle_syntax.specs.declared.kind.ExportMetadata.{ExportMetadata}
use Rattle.bundle_tree_ast.specs.declared.expr.Expr.{Expr}
use Rattle.bundle_tree_ast.specs.declared.module.Module.{Module}
use Rattle.bundle_tree_ast.specs.declared.prop.KeyValueProp.{KeyValueProp}
use Rattle.bundle_tree_listed.specs.Tree.{key_value_prop_items, module_items}
use Rattle.bundle_json_form.specs.Form.{top, AreForms, IsForm}
use Rattle.bundle_tree_names.specs.FileName.{real, name_of}
use Rattle.bundle_tree_names.specs.declared.config.ModuleType.{ModuleType}
use Rattle.bundle_tree_names.specs.declared.config.ModuleType.TheVariants.{Es, Iife}
use Rattle.bundle_tree_names.specs.declared.file_name.FileName.{FileName}
use Rattle.bundler_entry.specs.declared.call.OrderedConfig.{OrderedConfig}
use Rattle.bundle_json_document.specs.Numbers.{holds_of_read, is_whole}
use Rattle.bundle_json_document.specs.declared.document.Document.{Document}

-- the value of a text: the text is UTF-8 and JSON, and each number in it is whole, also where
-- another member of the same key takes its place
pub record IsValueOf (text : List ℕ) (d : Data) : Type 0 where
  pub utf8 : IsUtf8 text
  pub json : read text ≡ Some d
  pub whole : holds_of_read is_whole (next_value max_depth (tokens text)) ≡ true

-- the value is an array, and its items stand one by one for these
abbrev pub IsArrayOf : {X : Type 0} → (Data → X → Type 0) → List X → Data → Type 0
IsArrayOf R xs d = (ds : List Data) × (d ≡ array (items_of ds)) × AllZip R ds xs

-- the value is an object, and its members stand one by one for these, under their names
abbrev pub IsMap : {X : Type 0} → (Data → X → Type 0) → List (String Global × X) → Data → Type 0
IsMap R xs d =
    (ms : List (String Global × Data)) × (d ≡ object (members_of ms))
    × AllZip (λ m x. (string_bytes m.0 ≡ string_bytes x.0) × R m.1 x.1) ms xs

-- Settings: each may be left out.

-- a truth value, or false
abbrev pub IsTruth : Option Data → Bool → Type 0
IsTruth None truth = truth ≡ false
IsTruth (Some d) truth = as_bool d ≡ Some truth

-- a text
abbrev pub IsText : Data → String Global → Type 0
IsText d text = d ≡ string (string_bytes text)

-- a list of texts, or none
abbrev pub IsTextList : Option Data → List (String Global) → Type 0
IsTextList None texts = texts ≡ []
IsTextList (Some d) texts = IsArrayOf IsText texts d

-- the word for what a bundle is written as
abbrev pub module_word : ModuleType → List ℕ
module_word Es = codes "Es"
module_word Iife = codes "Iife"

-- what a bundle is written as, or an ES module
abbrev pub IsModuleType : Option Data → ModuleType → Type 0
IsModuleType None kind = kind ≡ Es
IsModuleType (Some d) kind = d ≡ string (module_word kind)

-- the word for the order of modules: by what they need, or the standard's
abbrev pub order_word : Bool → List ℕ
order_word false = codes "Needs"
order_word true = codes "Standard"

-- whether modules stand in the standard's order, or by what they need
abbrev pub IsOrder : Option Data → Bool → Type 0
IsOrder None in_standard_order = in_standard_order ≡ false
IsOrder (Some d) in_standard_order = d ≡ string (order_word in_standard_order)

-- a whole number of 32 bits, or the largest
abbrev pub IsLimit : Option Data → ℕ → Type 0
IsLimit None limit = limit ≡ 4294967295
IsLimit (Some d) limit = (as_number d ≡ Some (unsigned limit)) × (limit < 2 ^ 32)

-- the members of the value are these settings
pub record IsConfig (d : Data) (config : OrderedConfig) : Type 0 where
  pub require : IsTruth (get (codes "require") d) config.base.require
  pub hygiene : IsTruth (get (codes "disable_hygiene") d) config.base.disable_hygiene
  pub external : IsTextList (get (codes "external_modules") d) config.base.external_modules.items
  pub kind : IsModuleType (get (codes "module") d) config.base.module
  pub limit : IsLimit (get (codes "max_modules") d) config.base.max_modules
  pub order : IsOrder (get (codes "order") d) config.in_standard_order

-- an object with these settings, or none and the settings to start from
abbrev pub AreSettings : Option Data → OrderedConfig → Type 0
AreSettings None config = IsConfig (object no_members) config
AreSettings (Some d) config = IsSome (as_object d) × IsConfig d config

-- Entries, files and properties.

-- a pair of texts, the name and the path of a real file
abbrev pub IsEntryPair : Data → String Global × FileName → Type 0
IsEntryPair d entry =
    (path : List ℕ)
    × (d ≡ array (item (string (string_bytes entry.0)) (item (string path) no_items)))
    × (name_of entry.1 ≡ real path)

-- what is noted on what is handed in: nothing
abbrev pub no_document_notes : ExportMetadata
no_document_notes = record { injected = false; export_ctxt = None }

-- the form of a module
abbrev pub IsModuleForm : Data → Module → Type 0
IsModuleForm d it = IsForm no_document_notes top d (module_items 0 it)

-- the forms of a list of properties
abbrev pub AreProperties : Data → Vec (KeyValueProp Expr) Global → Type 0
AreProperties d props =
    IsSomeAnd (as_array d)
    (λ ds. AreForms no_document_notes top ds (flat_map (key_value_prop_items 0) props.items))

-- the value asks for just this; what it has under other names is passed over
pub record IsDocument (d : Data) (document : Document) : Type 0 where
  pub config : AreSettings (get (codes "config") d) document.config
  pub entries : IsSomeAnd (get (codes "entries") d) (IsArrayOf IsEntryPair document.entries.items)
  pub files : IsSomeAnd (get (codes "files") d) (IsMap IsModuleForm document.files.entries)

-- the properties of `import.meta` that the value lists for files, or none
abbrev pub AreLists : Option Data → List (String Global × Vec (KeyValueProp Expr) Global) → Type 0
AreLists None lists = lists ≡ []
AreLists (Some d) lists = IsMap AreProperties lists d

-- the text is that of a document with these lists
pub record IsDocumentText (text : List ℕ) (document : Document)
    (lists : List (String Global × Vec (KeyValueProp Expr) Global)) : Type 0 where
  pub value : Data
  pub is_read : IsValueOf text value
  pub is_document : IsDocument value document
  pub are_lists : AreLists (get (codes "meta") value) lists

-- the text is that of no document, with whatever lists
abbrev pub IsNoDocumentText : List ℕ → Type 0
IsNoDocumentText text =
    (document : Document) (lists : List (String Global × Vec (KeyValueProp Expr) Global)) →
    ¬ IsDocumentText text document lists

-- what was there to be read is read whole, and it is the text of no document
abbrev pub HasNoDocument : Option (List ℕ) → Option (List ℕ) → Type 0
HasNoDocument old new =
    (text : List ℕ) × Consumes old new text × IsAtEnd new × IsNoDocumentText text

-- the status and the line of an input that cannot be read, where reading may fail, of a text that
-- is no document, and of want of memory
abbrev pub IsRefusalLine : Type 0 → Type 0 → ℕ → List ℕ → Type 0
IsRefusalLine may_fail no_document status line =
    ((status ≡ 2) × (line ≡ codes "error: input\n") × may_fail)
    ⊎ ((status ≡ 2) × (line ≡ codes "error: document\n") × no_document)
    ⊎ ((status ≡ 1) × (line ≡ codes "error 22: OutOfMemory\n"))
