-- What a cleared tree imports, exports, lists and asks for: what the tree does.
use Rattle.std.proofs.Common.{◌≡◌, ℕ, zero, suc, Bool, true, false, List, [], ◌∷◌, ◌++◌, Option, Some, None, filter, flat_map, map, unwrap_or, refl, ap, ◌∙◌}
use Rattle.bundle_syntax.specs.Item as h
use Rattle.bundle_syntax.specs.Item.{Item, Head}
use Rattle.bundle_rules.specs.Nodes.{Text, in_field, child, string_of, name_of, begins_with}
use Rattle.bundle_rules.specs.Statements.{top_items, default_name}
use Rattle.bundle_rules.specs.Entries.{Named, Whole, ImportEntry, Local, Indirect, Star, text_in, taken_by, import_entry, imports_by, imports_of_item, imports_of, is_in_pattern, is_binding, names_bound, declared_by, names_declared, export_of, entry_from, entry_here, entries_of_list, default_declared, exports_by, exports_of_item, exports_of, requests_by, requests_of_item, declared_requests}
use Rattle.bundle_rules.specs.Faults.{is_named_specifier, is_string_head, listed_text, listed_name, names_in_list, names_listed_by, names_listed, listed_names, asked_by_import, asked_by_export, asked_by_item, asked_names}
use Rattle.bundle_rules.specs.Cleared.{cleared_head, cleared}
use Rattle.bundle_rules.proofs.HeadLemmas.{of_head}
use Rattle.bundle_rules.proofs.NodeLemmas.{filter-cleared, flat_map-cleared, map-cleared, in_field-cleared, child-cleared, string_of_child, name_of_child, text_in-cleared, renamed_text-cleared, begins_with-cleared, told_of_tops}

-- Imports.

taken_by-node : (head : Head) (node : List Item) → taken_by head (cleared node) ≡ taken_by head node
taken_by-node h.ImportStarAsSpecifier node = refl
taken_by-node h.ImportDefaultSpecifier node = refl
taken_by-node _ node = λ i. Named (renamed_text-cleared node i)

taken_by-cleared : (head : Head) (node : List Item) → taken_by (cleared_head head) (cleared node) ≡ taken_by head node
taken_by-cleared head node =
    of_head (λ it. taken_by it (cleared node)) (λ meta. (refl, refl, refl, λ kind. refl)) head
    ∙ taken_by-node head node

import_entry-cleared : (source : Text) (node : List Item) → import_entry source (cleared node) ≡ import_entry source node
import_entry-cleared source (h.Open field head ∷ rest) = λ i. record { local = text_in-cleared 0 (h.Open field head ∷ rest) i; specifier = source; taken = taken_by-cleared head (h.Open field head ∷ rest) i } ∷ []
import_entry-cleared source (h.Ident field sym ctxt role ∷ rest) = refl
import_entry-cleared source (h.Hole field ∷ rest) = refl
import_entry-cleared source (h.Close ∷ rest) = refl
import_entry-cleared source [] = refl

imports_by-node : (head : Head) (node : List Item) → imports_by head (cleared node) ≡ imports_by head node
imports_by-node (h.ImportDecl meta) node =
    (λ i. flat_map (import_entry (text_in-cleared 1 node i)) (in_field-cleared 0 node i))
    ∙ flat_map-cleared (import_entry (text_in 1 node)) (import_entry-cleared (text_in 1 node)) (in_field 0 node)
imports_by-node _ node = refl

imports_of_item-cleared : (node : List Item) → imports_of_item (cleared node) ≡ imports_of_item node
imports_of_item-cleared (h.Open field head ∷ rest) =
    let node : List Item = h.Open field head ∷ rest in
    of_head (λ it. imports_by it (cleared node)) (λ meta. (refl, refl, refl, λ kind. refl)) head
    ∙ imports_by-node head node
imports_of_item-cleared (h.Ident field sym ctxt role ∷ rest) = refl
imports_of_item-cleared (h.Hole field ∷ rest) = refl
imports_of_item-cleared (h.Close ∷ rest) = refl
imports_of_item-cleared [] = refl

-- the imports
pub imports_of-cleared : (tree : List Item) → imports_of (cleared tree) ≡ imports_of tree
imports_of-cleared tree = told_of_tops imports_of_item imports_of_item-cleared tree

-- Names that declarations bind.

is_in_pattern-cleared : (head : Head) → is_in_pattern (cleared_head head) ≡ is_in_pattern head
is_in_pattern-cleared head = of_head is_in_pattern (λ meta. (refl, refl, refl, λ kind. refl)) head

names_bound-cleared : (depth : ℕ) (items : List Item) → names_bound depth (cleared items) ≡ names_bound depth items
names_bound-cleared depth [] = refl
names_bound-cleared zero (h.Open field head ∷ rest) = λ i. elim (is_in_pattern-cleared head i) [ true ↦ names_bound-cleared zero rest i | false ↦ names_bound-cleared 1 rest i ]
names_bound-cleared (suc depth) (h.Open field head ∷ rest) = names_bound-cleared (suc (suc depth)) rest
names_bound-cleared zero (h.Ident field sym ctxt role ∷ rest) = λ i. elim (is_binding role) [ true ↦ sym ∷ names_bound-cleared zero rest i | false ↦ names_bound-cleared zero rest i ]
names_bound-cleared (suc depth) (h.Ident field sym ctxt role ∷ rest) = names_bound-cleared (suc depth) rest
names_bound-cleared zero (h.Hole field ∷ rest) = names_bound-cleared zero rest
names_bound-cleared (suc depth) (h.Hole field ∷ rest) = names_bound-cleared (suc depth) rest
names_bound-cleared zero (h.Close ∷ rest) = names_bound-cleared zero rest
names_bound-cleared (suc depth) (h.Close ∷ rest) = names_bound-cleared depth rest

declared_by-node : (head : Head) (node : List Item) → declared_by head (cleared node) ≡ declared_by head node
declared_by-node (h.VarDecl kind meta) node = (λ i. flat_map (names_bound zero) (in_field-cleared 1 node i)) ∙ flat_map-cleared (names_bound zero) (names_bound-cleared zero) (in_field 1 node)
declared_by-node _ node = λ i. text_in-cleared 0 node i ∷ []

names_declared-cleared : (node : List Item) → names_declared (cleared node) ≡ names_declared node
names_declared-cleared (h.Open field head ∷ rest) =
    let node : List Item = h.Open field head ∷ rest in
    of_head (λ it. declared_by it (cleared node)) (λ meta. (refl, refl, refl, λ kind. refl)) head
    ∙ declared_by-node head node
names_declared-cleared (h.Ident field sym ctxt role ∷ rest) = refl
names_declared-cleared (h.Hole field ∷ rest) = refl
names_declared-cleared (h.Close ∷ rest) = refl
names_declared-cleared [] = refl

-- Exports.

entry_from-head : (source : Text) (field : ℕ) (head : Head) (rest : List Item) → entry_from source (h.Open field head ∷ cleared rest) ≡ entry_from source (h.Open field head ∷ rest)
entry_from-head source field h.ExportNamespaceSpecifier rest = λ i. Indirect (text_in-cleared 0 (h.Open field h.ExportNamespaceSpecifier ∷ rest) i) source Whole
entry_from-head source field head rest = λ i. Indirect (renamed_text-cleared (h.Open field head ∷ rest) i) source (Named (text_in-cleared 0 (h.Open field head ∷ rest) i))

entry_from-cleared : (source : Text) (node : List Item) → entry_from source (cleared node) ≡ entry_from source node
entry_from-cleared source (h.Open field head ∷ rest) =
    of_head (λ it. entry_from source (h.Open field it ∷ cleared rest)) (λ meta. (refl, refl, refl, λ kind. refl)) head
    ∙ entry_from-head source field head rest
entry_from-cleared source (h.Ident field sym ctxt role ∷ rest) = λ i. Indirect (renamed_text-cleared (h.Ident field sym ctxt role ∷ rest) i) source (Named (text_in-cleared 0 (h.Ident field sym ctxt role ∷ rest) i))
entry_from-cleared source (h.Hole field ∷ rest) = λ i. Indirect (renamed_text-cleared (h.Hole field ∷ rest) i) source (Named (text_in-cleared 0 (h.Hole field ∷ rest) i))
entry_from-cleared source (h.Close ∷ rest) = λ i. Indirect (renamed_text-cleared (h.Close ∷ rest) i) source (Named (text_in-cleared 0 (h.Close ∷ rest) i))
entry_from-cleared source [] = refl

entry_here-head : (imports : List ImportEntry) (field : ℕ) (head : Head) (rest : List Item) → entry_here imports (h.Open field head ∷ cleared rest) ≡ entry_here imports (h.Open field head ∷ rest)
entry_here-head imports field h.ExportNamedSpecifier rest = λ i. export_of imports (renamed_text-cleared (h.Open field h.ExportNamedSpecifier ∷ rest) i) (text_in-cleared 0 (h.Open field h.ExportNamedSpecifier ∷ rest) i) ∷ []
entry_here-head imports field _ rest = refl

entry_here-cleared : (imports : List ImportEntry) (node : List Item) → entry_here imports (cleared node) ≡ entry_here imports node
entry_here-cleared imports (h.Open field head ∷ rest) =
    of_head (λ it. entry_here imports (h.Open field it ∷ cleared rest)) (λ meta. (refl, refl, refl, λ kind. refl)) head
    ∙ entry_here-head imports field head rest
entry_here-cleared imports (h.Ident field sym ctxt role ∷ rest) = refl
entry_here-cleared imports (h.Hole field ∷ rest) = refl
entry_here-cleared imports (h.Close ∷ rest) = refl
entry_here-cleared imports [] = refl

entries_of_list-cleared : (imports : List ImportEntry) (from : Option Text) (list : List Item) → entries_of_list imports from (cleared list) ≡ entries_of_list imports from list
entries_of_list-cleared imports (Some source) list = (λ i. map (entry_from source) (in_field-cleared 0 list i)) ∙ map-cleared (entry_from source) (entry_from-cleared source) (in_field 0 list)
entries_of_list-cleared imports None list = (λ i. flat_map (entry_here imports) (in_field-cleared 0 list i)) ∙ flat_map-cleared (entry_here imports) (entry_here-cleared imports) (in_field 0 list)

-- what the declaration declares that is exported
names_of_child : (node : List Item) → names_declared (child 0 (cleared node)) ≡ names_declared (child 0 node)
names_of_child node = ap names_declared (child-cleared 0 node) ∙ names_declared-cleared (child 0 node)

default_of_child : (node : List Item) → default_declared (child 0 (cleared node)) ≡ default_declared (child 0 node)
default_of_child node = (λ i. default_declared (child-cleared 0 node i)) ∙ (λ i. unwrap_or (name_of_child 0 (child 0 node) i) default_name)

exports_by-node : (imports : List ImportEntry) (head : Head) (node : List Item) → exports_by imports head (cleared node) ≡ exports_by imports head node
exports_by-node imports h.ExportDecl node = λ i. map (λ x. Local x x) (names_of_child node i)
exports_by-node imports (h.NamedExport meta) node = (λ i. entries_of_list imports (string_of_child 1 node i) (cleared node)) ∙ entries_of_list-cleared imports (string_of (child 1 node)) node
exports_by-node imports h.ExportDefaultDecl node = λ i. Local default_name (default_of_child node i) ∷ []
exports_by-node imports (h.ExportAll meta) node = λ i. Star (text_in-cleared 0 node i) ∷ []
exports_by-node imports _ node = refl

pub exports_of_item-cleared : (imports : List ImportEntry) (node : List Item) → exports_of_item imports (cleared node) ≡ exports_of_item imports node
exports_of_item-cleared imports (h.Open field head ∷ rest) =
    let node : List Item = h.Open field head ∷ rest in
    of_head (λ it. exports_by imports it (cleared node)) (λ meta. (refl, refl, refl, λ kind. refl)) head
    ∙ exports_by-node imports head node
exports_of_item-cleared imports (h.Ident field sym ctxt role ∷ rest) = refl
exports_of_item-cleared imports (h.Hole field ∷ rest) = refl
exports_of_item-cleared imports (h.Close ∷ rest) = refl
exports_of_item-cleared imports [] = refl

-- the exports
pub exports_of-cleared : (tree : List Item) → exports_of (cleared tree) ≡ exports_of tree
exports_of-cleared tree =
    (λ i. flat_map (λ top. exports_of_item (imports_of-cleared tree i) top.items) (top_items (cleared tree)))
    ∙ told_of_tops (exports_of_item (imports_of tree)) (exports_of_item-cleared (imports_of tree)) tree

-- Export lists without `from`.

is_named_specifier-cleared : (head : Head) → is_named_specifier (cleared_head head) ≡ is_named_specifier head
is_named_specifier-cleared head = of_head is_named_specifier (λ meta. (refl, refl, refl, λ kind. refl)) head

is_string_head-cleared : (head : Head) → is_string_head (cleared_head head) ≡ is_string_head head
is_string_head-cleared head = of_head is_string_head (λ meta. (refl, refl, refl, λ kind. refl)) head

is_string_child : (node : List Item) → begins_with is_string_head (child 0 (cleared node)) ≡ begins_with is_string_head (child 0 node)
is_string_child node = (λ i. begins_with is_string_head (child-cleared 0 node i)) ∙ begins_with-cleared is_string_head is_string_head-cleared (child 0 node)

-- the specifier itself is not read
listed_text-any : (one other : List Item) (string : Bool) (name : Option Text) → listed_text one string name ≡ listed_text other string name
listed_text-any one other string None = refl
listed_text-any one other string (Some x) = refl

listed_name-cleared : (node : List Item) → listed_name (cleared node) ≡ listed_name node
listed_name-cleared node =
    (λ i. listed_text (cleared node) (is_string_child node i) (name_of_child 0 node i))
    ∙ listed_text-any (cleared node) node (begins_with is_string_head (child 0 node)) (name_of (child 0 node))

names_in_list-cleared : (from : Option Text) (list : List Item) → names_in_list from (cleared list) ≡ names_in_list from list
names_in_list-cleared (Some source) list = refl
names_in_list-cleared None list =
    (λ i. flat_map listed_name (filter (begins_with is_named_specifier) (in_field-cleared 0 list i)))
    ∙ ap (flat_map listed_name) (filter-cleared (begins_with is_named_specifier) (begins_with-cleared is_named_specifier is_named_specifier-cleared) (in_field 0 list))
    ∙ flat_map-cleared listed_name listed_name-cleared (filter (begins_with is_named_specifier) (in_field 0 list))

names_listed_by-node : (head : Head) (node : List Item) → names_listed_by head (cleared node) ≡ names_listed_by head node
names_listed_by-node (h.NamedExport meta) node = (λ i. names_in_list (string_of_child 1 node i) (cleared node)) ∙ names_in_list-cleared (string_of (child 1 node)) node
names_listed_by-node _ node = refl

names_listed-cleared : (node : List Item) → names_listed (cleared node) ≡ names_listed node
names_listed-cleared (h.Open field head ∷ rest) =
    let node : List Item = h.Open field head ∷ rest in
    of_head (λ it. names_listed_by it (cleared node)) (λ meta. (refl, refl, refl, λ kind. refl)) head
    ∙ names_listed_by-node head node
names_listed-cleared (h.Ident field sym ctxt role ∷ rest) = refl
names_listed-cleared (h.Hole field ∷ rest) = refl
names_listed-cleared (h.Close ∷ rest) = refl
names_listed-cleared [] = refl

-- the names in these lists
pub listed_names-cleared : (tree : List Item) → listed_names (cleared tree) ≡ listed_names tree
listed_names-cleared tree = told_of_tops names_listed names_listed-cleared tree

-- Requests of imports and exports.

requests_by-node : (head : Head) (node : List Item) → requests_by head (cleared node) ≡ requests_by head node
requests_by-node (h.ImportDecl meta) node = λ i. text_in-cleared 1 node i ∷ []
requests_by-node (h.NamedExport meta) node = λ i. elim (string_of_child 1 node i) [ None ↦ [] | Some source ↦ source ∷ [] ]
requests_by-node (h.ExportAll meta) node = λ i. text_in-cleared 0 node i ∷ []
requests_by-node _ node = refl

requests_of_item-cleared : (node : List Item) → requests_of_item (cleared node) ≡ requests_of_item node
requests_of_item-cleared (h.Open field head ∷ rest) =
    let node : List Item = h.Open field head ∷ rest in
    of_head (λ it. requests_by it (cleared node)) (λ meta. (refl, refl, refl, λ kind. refl)) head
    ∙ requests_by-node head node
requests_of_item-cleared (h.Ident field sym ctxt role ∷ rest) = refl
requests_of_item-cleared (h.Hole field ∷ rest) = refl
requests_of_item-cleared (h.Close ∷ rest) = refl
requests_of_item-cleared [] = refl

-- what imports and exports with `from` ask for
pub declared_requests-cleared : (tree : List Item) → declared_requests (cleared tree) ≡ declared_requests tree
declared_requests-cleared tree = told_of_tops requests_of_item requests_of_item-cleared tree

-- Names that are asked of other modules.

asked_by_item-cleared : (imports : List ImportEntry) (node : List Item) → asked_by_item imports (cleared node) ≡ asked_by_item imports node
asked_by_item-cleared imports node = λ i. flat_map asked_by_import (imports_of_item-cleared node i) ++ flat_map asked_by_export (exports_of_item-cleared imports node i)

-- the names that imports and exports with `from` ask for
pub asked_names-cleared : (tree : List Item) → asked_names (cleared tree) ≡ asked_names tree
asked_names-cleared tree =
    (λ i. flat_map (λ top. asked_by_item (imports_of-cleared tree i) top.items) (top_items (cleared tree)))
    ∙ told_of_tops (asked_by_item (imports_of tree)) (asked_by_item-cleared (imports_of tree)) tree
