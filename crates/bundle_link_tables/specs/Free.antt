-- What the table of denotations tells of names: which stand where nothing binds them, and which the
-- top binds.
use Rattle.std.specs.Prelude.{ℕ, Bool, true, false, ◌==◌, ◌&&◌, ◌||◌, not, is_some, List, [], ◌∷◌, ◌++◌, Option, Some, None, bytes_eq, slice_get, slice_index_or, if◌then◌else◌}
use Rattle.std.specs.List.{flat_map}
use Rattle.bundle_syntax.specs.Item as h
use Rattle.bundle_syntax.specs.Item.{Item}
use Rattle.bundle_rules.specs.Declarations.{is_nameless_default}
use Rattle.bundle_scope_denote.specs.declared.table.Binding.{Binding}
use Rattle.bundle_scope_denote.specs.declared.table.Denoted.{Denoted}
use Rattle.bundle_scope_denote.specs.declared.table.Denotations.{Denotations}
use Rattle.bundle_scope_denote.specs.declared.table.Scope.{Scope}
use Rattle.bundle_scope_denote.specs.declared.table.ScopeKind.{ScopeKind}
use Rattle.bundle_scope_denote.specs.declared.table.ScopeKind.TheVariants as k
use Rattle.bundle_rules.specs.Nodes.{Text}
use Rattle.bundle_rules.specs.Statements.{default_name}

-- whether an entry is of this place and denotes a global
abbrev pub frees : ℕ → Denoted → Bool
frees place entry = entry.place == place && not (is_some entry.binding)

-- whether it is true of a place
abbrev pub is_place_marked : List Bool → ℕ → Bool
is_place_marked free place = slice_index_or free place false

-- whether this is an identifier of this symbol
abbrev pub is_ident_called : Text → Option Item → Bool
is_ident_called x (Some (h.Ident field sym ctxt role)) = bytes_eq x sym
is_ident_called x _ = false

-- whether an entry is of a name of this symbol, and denotes a global
abbrev pub frees_name : List Item → Text → Denoted → Bool
frees_name tree x entry =
    is_ident_called x (slice_get tree entry.place) && not (is_some entry.binding)

-- whether a scope is the top, or that of the parameters which a CommonJS module has there
abbrev pub is_top_kind : ScopeKind → Bool
is_top_kind k.Top = true
is_top_kind k.Wrapper = true
is_top_kind _ = false

abbrev pub is_top_scope : Option Scope → Bool
is_top_scope None = false
is_top_scope (Some scope) = is_top_kind scope.kind

-- the symbol of a binding, if that is one of the top
abbrev pub symbol_at_top : List Scope → Option Binding → List Text
symbol_at_top scopes None = []
symbol_at_top scopes (Some binding) =
    if is_top_scope (slice_get scopes binding.scope) then binding.sym.now ∷ [] else []

-- the same of the binding with a number
abbrev pub symbol_of_number : Denotations → Option ℕ → List Text
symbol_of_number table None = []
symbol_of_number table (Some number) =
    symbol_at_top table.scopes.items (slice_get table.bindings.items number)

-- the symbol that an entry declares at the top
abbrev pub declared_at_top : Denotations → Denoted → List Text
declared_at_top table entry = if entry.declares then symbol_of_number table entry.binding else []

-- whether a default export without a name begins a list
abbrev pub names_nothing : List Item → Bool
names_nothing [] = false
names_nothing (x ∷ rest) = is_nameless_default x rest

-- whether a node with an identifier as its first element begins a list
abbrev pub begins_named : List Item → Bool
begins_named (h.Open field head ∷ h.Ident first sym ctxt role ∷ rest) = true
begins_named _ = false

-- whether a default export without a name stands in a list
abbrev pub has_nameless_default : List Item → Bool
has_nameless_default [] = false
has_nameless_default (x ∷ rest) = is_nameless_default x rest || has_nameless_default rest

-- the name that it declares, if one stands there
abbrev pub default_declared_in : List Item → List Text
default_declared_in tree = if has_nameless_default tree then default_name ∷ [] else []

-- the names that the top binds, as the table tells them
abbrev pub told_top_names : Denotations → List Item → List Text
told_top_names table tree =
    flat_map (declared_at_top table) table.occurrences.items ++ default_declared_in tree
