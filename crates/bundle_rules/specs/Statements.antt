-- The top items of a module and its own statements (ECMA-262, 16.2: Module Semantics; 16.2.3.7,
-- what `export default` declares). Imports and export lists state nothing by themselves; an
-- exported declaration is that declaration, and a default that has no name declares the name
-- `default`.
use Rattle.std.specs.Prelude.{ℕ, suc, ◌+◌, false, List, [], ◌∷◌, ◌++◌, None, length, flat_map, codes}
use Rattle.bundle_syntax.specs.declared.kind.ExportMetadata.{ExportMetadata}
use Rattle.bundle_syntax.specs.declared.kind.VarDeclKind.TheVariants.{Const}
use Rattle.bundle_syntax.specs.declared.piece.Role.TheVariants.{Binding}
use Rattle.bundle_syntax.specs.Item as h
use Rattle.bundle_syntax.specs.Item.{Item, Head}
use Rattle.bundle_rules.specs.Nodes.{parts, inside}

-- a node, with the place in the module's list at which it begins
pub record TopItem : Type 0 where
  pub start : ℕ
  pub items : List Item

-- the nodes with their places, where the first begins at this place
abbrev pub placed : ℕ → List (List Item) → List TopItem
placed start [] = []
placed start (items ∷ more) =
    record { start = start; items = items } ∷ placed (start + length items) more

-- the top items of a module, in the order of the source
abbrev pub top_items : List Item → List TopItem
top_items tree = placed 1 (parts tree)

-- one element of a statement as it is meant: it stands in the module's list at a place, or it is
-- written in addition
pub data Element : Type 0 where
  taken : (place : ℕ) → Item → Element
  written : Item → Element

-- the elements of a part of the module's list that begins at this place
abbrev pub taken_from : ℕ → List Item → List Element
taken_from place [] = []
taken_from place (x ∷ rest) = taken place x ∷ taken_from (suc place) rest

-- the name that a default without a name declares
abbrev pub default_name : List ℕ
default_name = codes "default"

-- nothing is noted on a declaration
abbrev pub no_notes : ExportMetadata
no_notes = record { injected = false; export_ctxt = None }

-- the element, in this field
abbrev pub moved_to : ℕ → Item → Item
moved_to field (h.Open old head) = h.Open field head
moved_to field (h.Ident old sym ctxt role) = h.Ident field sym ctxt role
moved_to field (h.Hole old) = h.Hole field
moved_to field h.Close = h.Close

-- the node that begins at this place, in this field
abbrev pub taken_in_field : ℕ → ℕ → List Item → List Element
taken_in_field field place [] = []
taken_in_field field place (first ∷ rest) =
    taken place (moved_to field first) ∷ taken_from (suc place) rest

-- the name `default`, where it is declared
abbrev pub default_binding : Element
default_binding = written (h.Ident 0 default_name 0 Binding)

-- `const default = e;` of the expression e that begins at this place
abbrev pub default_constant : ℕ → List Item → List Element
default_constant place e =
    written (h.Open 0 (h.VarDecl Const no_notes)) ∷ written (h.Open 1 h.VarDeclarator)
    ∷ written (h.Open 0 h.BindingIdent)
    ∷ default_binding ∷ written h.Close
    ∷ (taken_in_field 1 place e ++ written h.Close ∷ written h.Close ∷ [])

-- the head of the declaration that a default function or class is
abbrev pub declaration_head : Head → Head
declaration_head h.FnExpr = h.FnDecl
declaration_head h.ClassExpr = h.ClassDecl
declaration_head head = head

-- what follows the head of a declaration: its name, or `default` where it has none
abbrev pub with_name : ℕ → List Item → List Element
with_name place (h.Ident field sym ctxt role ∷ rest) =
    taken_from place (h.Ident field sym ctxt role ∷ rest)
with_name place (h.Open field head ∷ rest) =
    default_binding ∷ taken_from place (h.Open field head ∷ rest)
with_name place rest = taken_from place rest

-- the declaration that a default function or class is, where the node begins at this place
abbrev pub default_declaration : ℕ → List Item → List Element
default_declaration place (h.Open field head ∷ rest) =
    taken place (h.Open 0 (declaration_head head)) ∷ with_name (suc place) rest
default_declaration place node = taken_from place node

-- what a top item with this head states: one statement, or none
abbrev pub stated_by : Head → ℕ → List Item → List (List Element)
stated_by (h.ImportDecl meta) start items = []
stated_by (h.NamedExport meta) start items = []
stated_by (h.ExportAll meta) start items = []
stated_by h.EmptyStmt start items = []
stated_by h.ExportDecl start items = taken_from (suc start) (inside items) ∷ []
stated_by h.ExportDefaultExpr start items = default_constant (suc start) (inside items) ∷ []
stated_by h.ExportDefaultDecl start items = default_declaration (suc start) (inside items) ∷ []
stated_by _ start items = taken_from start items ∷ []

-- what a top item states
abbrev pub stated : ℕ → List Item → List (List Element)
stated start [] = []
stated start (h.Open field head ∷ rest) = stated_by head start (h.Open field head ∷ rest)
stated start (x ∷ rest) = taken_from start (x ∷ rest) ∷ []

-- the own statements of a module, in the order of the source
abbrev pub own_statements : List Item → List (List Element)
own_statements tree = flat_map (λ top. stated top.start top.items) (top_items tree)
