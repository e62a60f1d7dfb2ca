-- The alias that an item makes, told by its list.
use Rattle.std.specs.Prelude.{ℕ, ◌==◌, ◌&&◌, nat_eq, Bool, true, false, List, Option, Some, None, length, slice_get, if◌then◌else◌}
use Rattle.bundle_syntax.specs.declared.kind.VarDeclKind.{VarDeclKind}
use Rattle.bundle_syntax.specs.declared.kind.VarDeclKind.TheVariants.{Const}
use Rattle.bundle_syntax.specs.declared.piece.Role.{Role}
use Rattle.bundle_syntax.specs.declared.piece.Role.TheVariants.{Binding, Reference}
use Rattle.bundle_syntax.specs.Item as h
use Rattle.bundle_syntax.specs.Item.{Item, Head}
use Rattle.bundle_rules.specs.Idents.{Ident}

-- whether a kind is that of a `const`
abbrev pub is_const_kind : VarDeclKind → Bool
is_const_kind Const = true
is_const_kind _ = false

-- whether a node is a `const` that the linker noted as its own
abbrev pub is_const_head : Head → Bool
is_const_head (h.VarDecl kind meta) = is_const_kind kind && meta.injected
is_const_head _ = false

-- whether a node is a declarator
abbrev pub is_declarator_head : Head → Bool
is_declarator_head h.VarDeclarator = true
is_declarator_head _ = false

-- whether a node is an identifier that stands as a pattern
abbrev pub is_pattern_head : Head → Bool
is_pattern_head h.BindingIdent = true
is_pattern_head _ = false

-- whether a node that passes a test begins in a field
abbrev pub begins_in_field : (Head → Bool) → ℕ → Option Item → Bool
begins_in_field test field (Some (h.Open at head)) = nat_eq at field && test head
begins_in_field test field _ = false

-- whether a node ends
abbrev pub is_node_end : Option Item → Bool
is_node_end (Some h.Close) = true
is_node_end _ = false

abbrev pub is_binding_role : Role → Bool
is_binding_role Binding = true
is_binding_role _ = false

abbrev pub is_reference : Role → Bool
is_reference Reference = true
is_reference _ = false

-- the identifier in a field, where its role passes a test
abbrev pub named_in_field : (Role → Bool) → ℕ → Option Item → Option Ident
named_in_field test field (Some (h.Ident at sym ctxt role)) =
    if nat_eq at field && test role then Some (sym, ctxt) else None
named_in_field test field _ = None

-- two, where both are there
abbrev pub both : {A B : Type 0} → Option A → Option B → Option (A × B)
both (Some a) (Some b) = Some (a, b)
both _ _ = None

-- whether all but the two names is that of an alias
abbrev pub is_framed : List Item → Bool
is_framed items =
    length items == 8
    && (begins_in_field is_const_head 0 (slice_get items 0)
    && (begins_in_field is_declarator_head 1 (slice_get items 1)
    && (begins_in_field is_pattern_head 0 (slice_get items 2)
    && (is_node_end (slice_get items 4)
    && (is_node_end (slice_get items 6) && is_node_end (slice_get items 7))))))

-- what the item makes an alias, and of what
abbrev pub alias_in : List Item → Option (Ident × Ident)
alias_in items =
    if is_framed items
    then both (named_in_field is_binding_role 0 (slice_get items 3))
    (named_in_field is_reference 1 (slice_get items 5))
    else None
