-- The steps by which the names of a list become those of what they denote, as its table tells it.
use Rattle.std.specs.Prelude.{◌≡◌, ℕ, List, [], Option, Some, None, option_and_then, slice_get}
use Rattle.bundle_syntax.specs.Item as h
use Rattle.bundle_syntax.specs.Item.{Item}
use Rattle.bundle_rules.specs.Idents.{Ident}
use Rattle.bundle_rules.specs.Nodes.{Text}
use Rattle.bundle_scope_denote.specs.declared.table.Binding.{Binding}
use Rattle.bundle_scope_denote.specs.declared.table.Denoted.{Denoted}
use Rattle.bundle_scope_denote.specs.declared.table.Denotations.{Denotations}
use Rattle.bundle_tree_rebuild.specs.declared.rewrite.Whole.{Whole}
use Rattle.bundle_tree_rebuild.specs.declared.rewrite.Whole.TheVariants as w
use Rattle.bundle_tree_places.specs.Marks.{ident_of}
use Rattle.bundle_tree_rebuild.specs.declared.rewrite.Rewrite.{Rewrite}

-- the symbol of what stands at a place, if it is an identifier
abbrev pub ident_symbol : Option Item → Text
ident_symbol (Some (h.Ident field sym ctxt role)) = sym
ident_symbol _ = []

-- the context that is held, or else that of globals
abbrev pub or_global : Option (Option ℕ) → ℕ
or_global (Some (Some context)) = context
or_global _ = 1

-- the context of the scope with this number
abbrev pub context_in : List (Option ℕ) → ℕ → ℕ
context_in contexts scope = or_global (slice_get contexts scope)

-- the binding with a number, if there is one
abbrev pub binding_in : List Binding → Option ℕ → Option Binding
binding_in bindings number = option_and_then (slice_get bindings) number

-- the context of what is denoted: a global has that of globals
abbrev pub context_by : List (Option ℕ) → Option Binding → ℕ
context_by contexts None = 1
context_by contexts (Some binding) = context_in contexts binding.scope

-- the identifier that an entry of the table becomes
abbrev pub own_ident : List Item → Denotations → List (Option ℕ) → Denoted → Ident
own_ident items table contexts entry = (
  ident_symbol (slice_get items entry.place),
  context_by contexts (binding_in table.bindings.items entry.binding),
)

-- the identifier that a rewrite puts, and how much it stands for
abbrev pub rewrite_told : Rewrite → Ident × Whole
rewrite_told rewrite = (ident_of rewrite.name, rewrite.whole)

-- the same of an entry of the table
abbrev pub own_told : List Item → Denotations → List (Option ℕ) → Denoted → Ident × Whole
own_told items table contexts entry = (own_ident items table contexts entry, w.Alone)

-- the same, told of a rewrite
pub record IsOwnName
    (items : List Item) (table : Denotations) (contexts : List (Option ℕ)) (entry : Denoted)
    (rewrite : Rewrite) : Type 0 where
  pub its : rewrite_told rewrite ≡ own_told items table contexts entry
