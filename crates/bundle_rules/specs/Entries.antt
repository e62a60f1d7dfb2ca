-- What a module asks of others and what it gives, as it is written: requests, import entries and
-- export entries (ECMA-262, 16.2.1.3 ModuleRequests; 16.2.2.2 ImportEntries; 16.2.3.4
-- ExportEntries; 16.2.1.6.1 ParseModule, which makes an indirect entry of a local export of an
-- imported name). A name is a text: an identifier `x` and a string "x" are one name. Beside these
-- stand the literal calls of `require`.
use Rattle.std.specs.Prelude.{ℕ, zero, suc, ◌==◌, ◌&&◌, Bool, true, false, not, List, [], ◌∷◌, ◌++◌, Option, Some, None, filter, map, flat_map, find, bytes_eq, codes, unwrap_or, if◌then◌else◌}
use Rattle.std.specs.List.{list_any}
use Rattle.bundle_syntax.specs.declared.kind.MetaPropKind.{MetaPropKind}
use Rattle.bundle_syntax.specs.declared.kind.MetaPropKind.TheVariants.{NewTarget, ImportMeta}
use Rattle.bundle_syntax.specs.declared.piece.Role.{Role}
use Rattle.bundle_syntax.specs.declared.piece.Role.TheVariants.{Binding}
use Rattle.bundle_syntax.specs.Item as h
use Rattle.bundle_syntax.specs.Item.{Item, Head}
use Rattle.bundle_rules.specs.Nodes.{Text, has_text, each_once, in_field, child, string_of, name_of, begins_with, has_head}
pub use Rattle.bundle_rules.specs.Nodes.{is_end}
use Rattle.bundle_rules.specs.Statements.{top_items, default_name}

-- what is taken of another module: one of its names, or the whole
pub data Taken : Type 0 where
  Named : Text → Taken
  Whole : Taken

-- an import: the name that it binds, the module that it asks for, and what it takes of it
pub record ImportEntry : Type 0 where
  pub local : Text
  pub specifier : Text
  pub taken : Taken

-- an export: of a name of the module's own, of what another module gives, or of all that another
-- module gives
pub data ExportEntry : Type 0 where
  Local : (name of : Text) → ExportEntry
  Indirect : (name specifier : Text) → Taken → ExportEntry
  Star : (specifier : Text) → ExportEntry

-- the text that stands in a field of a node; the empty text where there is none
abbrev pub text_in : ℕ → List Item → Text
text_in field node = unwrap_or (name_of (child field node)) []

-- the text in the second field or, where it is left out, in the first
abbrev pub renamed_text : List Item → Text
renamed_text node = unwrap_or (name_of (child 1 node)) (text_in 0 node)

-- What each top item imports.

-- what an import specifier with this head takes
abbrev pub taken_by : Head → List Item → Taken
taken_by h.ImportStarAsSpecifier specifier = Whole
taken_by h.ImportDefaultSpecifier specifier = Named default_name
taken_by _ specifier = Named (renamed_text specifier)

-- what a specifier of this source imports
abbrev pub import_entry : Text → List Item → List ImportEntry
import_entry source (h.Open field head ∷ rest) =
    record {
      local = text_in 0 (h.Open field head ∷ rest);
      specifier = source;
      taken = taken_by head (h.Open field head ∷ rest);
    } ∷ []
import_entry source _ = []

-- what a top item with this head imports
abbrev pub imports_by : Head → List Item → List ImportEntry
imports_by (h.ImportDecl meta) item = flat_map (import_entry (text_in 1 item)) (in_field 0 item)
imports_by _ item = []

-- what a top item imports
abbrev pub imports_of_item : List Item → List ImportEntry
imports_of_item (h.Open field head ∷ rest) = imports_by head (h.Open field head ∷ rest)
imports_of_item _ = []

-- the imports of a module, in the order of the source
abbrev pub imports_of : List Item → List ImportEntry
imports_of tree = flat_map (λ top. imports_of_item top.items) (top_items tree)

-- the import that binds this name
abbrev pub import_of : List ImportEntry → Text → Option ImportEntry
import_of imports x = find (λ entry. bytes_eq entry.local x) imports

-- The names that a declaration binds (ECMA-262, 8.2.1 BoundNames).

-- whether a node with this head is a pattern or a part of one
abbrev pub is_in_pattern : Head → Bool
is_in_pattern h.VarDeclarator = true
is_in_pattern h.BindingIdent = true
is_in_pattern h.ArrayPat = true
is_in_pattern h.ObjectPat = true
is_in_pattern h.RestPat = true
is_in_pattern h.AssignPat = true
is_in_pattern h.KeyValuePatProp = true
is_in_pattern h.AssignPatProp = true
is_in_pattern _ = false

-- whether this is a name that is declared
abbrev pub is_binding : Role → Bool
is_binding Binding = true
is_binding _ = false

-- the names that patterns bind; `depth` counts the nodes around that are no part of a pattern
abbrev pub names_bound : ℕ → List Item → List Text
names_bound depth [] = []
names_bound zero (h.Open field head ∷ rest) =
    elim (is_in_pattern head) [ true ↦ names_bound zero rest | false ↦ names_bound 1 rest ]
names_bound (suc depth) (h.Open field head ∷ rest) = names_bound (suc (suc depth)) rest
names_bound zero (h.Ident field sym ctxt role ∷ rest) =
    elim (is_binding role) [ true ↦ sym ∷ names_bound zero rest | false ↦ names_bound zero rest ]
names_bound (suc depth) (h.Ident field sym ctxt role ∷ rest) = names_bound (suc depth) rest
names_bound depth (h.Hole field ∷ rest) = names_bound depth rest
names_bound zero (h.Close ∷ rest) = names_bound zero rest
names_bound (suc depth) (h.Close ∷ rest) = names_bound depth rest

-- the names that a declaration with this head binds
abbrev pub declared_by : Head → List Item → List Text
declared_by (h.VarDecl kind meta) declaration = flat_map (names_bound zero) (in_field 1 declaration)
declared_by _ declaration = text_in 0 declaration ∷ []

-- the names that a declaration binds, in the order of the source
abbrev pub names_declared : List Item → List Text
names_declared (h.Open field head ∷ rest) = declared_by head (h.Open field head ∷ rest)
names_declared _ = []

-- What each top item exports.

-- an export of a name of the module: what was imported by name is given on, all else is local
abbrev pub given_on : Text → Text → Option ImportEntry → ExportEntry
given_on name of None = Local name of
given_on name of (Some entry) =
    elim (entry.taken) [ Named x ↦ Indirect name entry.specifier (Named x) | Whole ↦ Local name of ]

-- an export of the name `of` of the module, where these are its imports
abbrev pub export_of : List ImportEntry → Text → Text → ExportEntry
export_of imports name of = given_on name of (import_of imports of)

-- a specifier of an export list with `from`
abbrev pub entry_from : Text → List Item → ExportEntry
entry_from source specifier =
    if begins_with is_namespace_specifier specifier
    then Indirect (text_in 0 specifier) source Whole
    else Indirect (renamed_text specifier) source (Named (text_in 0 specifier))
  where
    is_namespace_specifier : Head → Bool
    is_namespace_specifier h.ExportNamespaceSpecifier = true
    is_namespace_specifier _ = false

-- a specifier of an export list without `from`; `* as n` says nothing there
abbrev pub entry_here : List ImportEntry → List Item → List ExportEntry
entry_here imports specifier =
    if begins_with is_named_specifier specifier
    then export_of imports (renamed_text specifier) (text_in 0 specifier) ∷ []
    else []
  where
    is_named_specifier : Head → Bool
    is_named_specifier h.ExportNamedSpecifier = true
    is_named_specifier _ = false

-- the entries of an export list with `from`, or without
abbrev pub entries_of_list : List ImportEntry → Option Text → List Item → List ExportEntry
entries_of_list imports (Some source) list = map (entry_from source) (in_field 0 list)
entries_of_list imports None list = flat_map (entry_here imports) (in_field 0 list)

-- the name that a default declaration declares
abbrev pub default_declared : List Item → Text
default_declared declaration = unwrap_or (name_of (child 0 declaration)) default_name

-- the entries of a top item with this head
abbrev pub exports_by : List ImportEntry → Head → List Item → List ExportEntry
exports_by imports h.ExportDecl item = map (λ x. Local x x) (names_declared (child 0 item))
exports_by imports (h.NamedExport meta) item =
    entries_of_list imports (string_of (child 1 item)) item
exports_by imports h.ExportDefaultDecl item =
    Local default_name (default_declared (child 0 item)) ∷ []
exports_by imports h.ExportDefaultExpr item = Local default_name default_name ∷ []
exports_by imports (h.ExportAll meta) item = Star (text_in 0 item) ∷ []
exports_by imports _ item = []

-- the entries of a top item, where these are the imports of the module
abbrev pub exports_of_item : List ImportEntry → List Item → List ExportEntry
exports_of_item imports (h.Open field head ∷ rest) =
    exports_by imports head (h.Open field head ∷ rest)
exports_of_item imports _ = []

-- the exports of a module, in the order of the source
abbrev pub exports_of : List Item → List ExportEntry
exports_of tree = flat_map (λ top. exports_of_item (imports_of tree) top.items) (top_items tree)

-- whether the entry is one of this name; a star has no name
abbrev pub is_named : Text → ExportEntry → Bool
is_named x (Local name of) = bytes_eq x name
is_named x (Indirect name specifier taken) = bytes_eq x name
is_named x (Star specifier) = false

-- whether the module has an entry of its own of this name
abbrev pub has_own_entry : List Item → Text → Bool
has_own_entry tree x = list_any (is_named x) (exports_of tree)

-- Literal calls of `require`.

-- what follows an element that passes the test; nothing where it does not
abbrev pub after : (Item → Bool) → List Item → List Item
after test [] = []
after test (x ∷ rest) = if test x then rest else []

-- whether such a node is a call
abbrev pub is_call_head : Head → Bool
is_call_head h.CallExpr = true
is_call_head _ = false

-- whether a call begins here
abbrev pub is_call : Item → Bool
is_call (h.Open field head) = is_call_head head
is_call _ = false

-- whether this is the name `require`, in the first field
abbrev pub is_require_name : Item → Bool
is_require_name (h.Ident field sym ctxt role) = (field == 0) && bytes_eq sym (codes "require")
is_require_name _ = false

-- whether such a node is an argument that is not spread
abbrev pub is_plain_argument_head : Head → Bool
is_plain_argument_head (h.ExprOrSpread spread) = not spread
is_plain_argument_head _ = false

-- whether an argument begins here that is not spread
abbrev pub is_plain_argument : Item → Bool
is_plain_argument (h.Open field head) = is_plain_argument_head head
is_plain_argument _ = false

-- whether the list begins with n ends
abbrev pub ends : ℕ → List Item → Bool
ends zero items = true
ends (suc n) [] = false
ends (suc n) (x ∷ rest) = is_end x && ends n rest

-- the text, where the list begins with a string that is the last argument of a call
abbrev pub only_argument : List Item → Option Text
only_argument [] = None
only_argument (x ∷ rest) = if ends 3 rest then string_of (x ∷ rest) else None

-- the text, where the list begins with `require('text')` and nothing else in the call
abbrev pub required_at : List Item → Option Text
required_at items =
    only_argument (after is_plain_argument (after is_require_name (after is_call items)))

-- a literal call of `require`: the place at which it begins, and its text
pub record RequireCall : Type 0 where
  pub place : ℕ
  pub specifier : Text

-- the call at this place, where it has a text and its name is free
abbrev pub call_at : (ℕ → Bool) → ℕ → Option Text → List RequireCall
call_at is_free place None = []
call_at is_free place (Some text) =
    if is_free (suc place) then record { place = place; specifier = text } ∷ [] else []

-- the literal calls of a `require` that nothing binds, from this place on; `is_free` says of a
-- place that its name is bound nowhere in the module
abbrev pub require_calls_from : (ℕ → Bool) → ℕ → List Item → List RequireCall
require_calls_from is_free place [] = []
require_calls_from is_free place (x ∷ rest) =
    call_at is_free place (required_at (x ∷ rest)) ++ require_calls_from is_free (suc place) rest

-- the literal calls of a `require` that nothing binds, in tree order
abbrev pub require_calls : (ℕ → Bool) → List Item → List RequireCall
require_calls is_free tree = require_calls_from is_free 0 tree

-- Requests.

-- what a top item with this head asks for
abbrev pub requests_by : Head → List Item → List Text
requests_by (h.ImportDecl meta) item = text_in 1 item ∷ []
requests_by (h.NamedExport meta) item =
    elim (string_of (child 1 item)) [ None ↦ [] | Some source ↦ source ∷ [] ]
requests_by (h.ExportAll meta) item = text_in 0 item ∷ []
requests_by _ item = []

-- what a top item asks for
abbrev pub requests_of_item : List Item → List Text
requests_of_item (h.Open field head ∷ rest) = requests_by head (h.Open field head ∷ rest)
requests_of_item _ = []

-- what imports and exports with `from` ask for, in the order of the source
abbrev pub declared_requests : List Item → List Text
declared_requests tree = flat_map (λ top. requests_of_item top.items) (top_items tree)

-- how a bundler is set up: whether literal calls of `require` are linked, which texts are external,
-- whether the bundle is one function's call, whether its names are renamed, so that their symbols
-- alone tell them apart, how many modules may be kept, and whether modules of a cycle too stand in
-- the order of the list
pub record Settings : Type 0 where
  pub require : Bool
  pub external : List Text
  pub iife : Bool
  pub renames : Bool
  pub most_modules : ℕ
  pub in_standard_order : Bool

-- the literal calls of `require` that are linked
abbrev pub linked_calls : Settings → (ℕ → Bool) → List Item → List RequireCall
linked_calls settings is_free tree =
    if settings.require
    then filter (λ call. not (has_text call.specifier settings.external))
    (require_calls is_free tree)
    else []

-- the requests of a module: each text that is not external once, first those of imports and exports
-- and then those of literal calls of `require`
abbrev pub requests_of : Settings → (ℕ → Bool) → List Item → List Text
requests_of settings is_free tree =
    each_once (filter (λ s. not (has_text s settings.external)) (declared_requests tree)
    ++ map (λ call. call.specifier) (linked_calls settings is_free tree))

-- What makes a module a script or not (ECMA-262, 16.2: a module has import and export declarations,
-- and 13.3.12 `import.meta`).

-- whether such a node is an import or export declaration
abbrev pub is_module_declaration : Head → Bool
is_module_declaration (h.ImportDecl meta) = true
is_module_declaration h.ExportDecl = true
is_module_declaration (h.NamedExport meta) = true
is_module_declaration h.ExportDefaultDecl = true
is_module_declaration h.ExportDefaultExpr = true
is_module_declaration (h.ExportAll meta) = true
is_module_declaration _ = false

-- whether this is `import.meta`, and not `new.target`
abbrev pub is_import_meta_kind : MetaPropKind → Bool
is_import_meta_kind ImportMeta = true
is_import_meta_kind NewTarget = false

-- whether such a node is `import.meta`
abbrev pub is_import_meta : Head → Bool
is_import_meta (h.MetaPropExpr kind) = is_import_meta_kind kind
is_import_meta _ = false

-- whether `import.meta` stands in the module
abbrev pub has_import_meta : List Item → Bool
has_import_meta tree = has_head is_import_meta tree

-- whether the module has neither an import or export declaration nor `import.meta`
abbrev pub is_script : List Item → Bool
is_script tree =
    not (list_any (λ top. begins_with is_module_declaration top.items) (top_items tree))
    && not (has_import_meta tree)
