-- What a top item exports under a name, where `look` finds the import that binds a name.
use Rattle.std.specs.Prelude.{◌≡◌, ℕ, zero, suc, List, [], ◌∷◌, Option, Some, None, option_map, map, bytes_eq, if◌then◌else◌}
use Rattle.std.specs.List.{flat_map}
use Rattle.std.specs.Borrow.{Bor}
use Rattle.bundle_syntax.specs.Item as h
use Rattle.bundle_syntax.specs.Item.{Item, Head}
use Rattle.bundle_rules.specs.Nodes.{Text, begins_with, child, in_field, string_of}
use Rattle.bundle_rules.specs.Entries as e
use Rattle.bundle_rules.specs.Statements.{default_name}
use Rattle.bundle_rules.specs.Faults.{is_named_specifier}
use Rattle.bundle_link_tables.specs.TablesOf.{import_entry_of}
use Rattle.bundle_link_tables.specs.declared.table.ImportRef.{ImportRef}
use Rattle.indexmap.specs.IndexMap.{IndexMap, get_by}

-- the import that binds a name
abbrev pub import_by : {S : Type 0} → IndexMap (Bor Text) ImportRef S → Text → Option e.ImportEntry
import_by locals x = option_map import_entry_of (get_by (λ k. bytes_eq x k.now) locals)

-- a table of locals finds the import that binds a name, of these
abbrev pub Finds : {S : Type 0} → IndexMap (Bor Text) ImportRef S → List e.ImportEntry → Type 0
Finds locals imports = (x : Text) → import_by locals x ≡ e.import_of imports x

-- a text by itself, if there is one
abbrev pub text_list : Option (Bor Text) → List Text
text_list None = []
text_list (Some x) = x.now ∷ []

-- exports of names of the module's own, under these
abbrev pub locals_named : List Text → List e.ExportEntry
locals_named names = map (λ x. e.Local x x) names

-- the name that an element binds in a pattern, where so many nodes around it are no part of one
abbrev pub bound_at : ℕ → Item → List Text
bound_at zero (h.Ident field sym ctxt role) = if e.is_binding role then sym ∷ [] else []
bound_at depth x = []

-- how many nodes around what follows an element are no part of a pattern
abbrev pub depth_in : ℕ → Item → ℕ
depth_in zero (h.Open field head) = if e.is_in_pattern head then zero else 1
depth_in (suc depth) (h.Open field head) = suc (suc depth)
depth_in zero h.Close = zero
depth_in (suc depth) h.Close = depth
depth_in depth x = depth

-- what a declaration exports
abbrev pub named_declared : List Item → List e.ExportEntry
named_declared declaration = locals_named (e.names_declared declaration)

-- what a specifier of an export list without `from` exports
abbrev pub export_by : (Text → Option e.ImportEntry) → List Item → e.ExportEntry
export_by look specifier =
    e.given_on (e.renamed_text specifier) (e.text_in 0 specifier) (look (e.text_in 0 specifier))

-- the same, of which `* as n` says nothing
abbrev pub named_here : (Text → Option e.ImportEntry) → List Item → List e.ExportEntry
named_here look specifier =
    if begins_with is_named_specifier specifier then export_by look specifier ∷ [] else []

-- what an export list exports, with `from` or without
abbrev pub named_in_list :
    (Text → Option e.ImportEntry) → Option Text → List Item → List e.ExportEntry
named_in_list look (Some source) list = map (e.entry_from source) (in_field 0 list)
named_in_list look None list = flat_map (named_here look) (in_field 0 list)

-- what a top item with this head exports under a name
abbrev pub named_by_head : (Text → Option e.ImportEntry) → Head → List Item → List e.ExportEntry
named_by_head look h.ExportDecl item = named_declared (child 0 item)
named_by_head look (h.NamedExport meta) item = named_in_list look (string_of (child 1 item)) item
named_by_head look h.ExportDefaultDecl item =
    e.Local default_name (e.default_declared (child 0 item)) ∷ []
named_by_head look h.ExportDefaultExpr item = e.Local default_name default_name ∷ []
named_by_head look _ item = []

-- what a top item exports under a name
abbrev pub exports_named : (Text → Option e.ImportEntry) → List Item → List e.ExportEntry
exports_named look (h.Open field head ∷ rest) = named_by_head look head (h.Open field head ∷ rest)
exports_named look _ = []
