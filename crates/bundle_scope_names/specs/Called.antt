-- What the bindings of a list are called, and what its identifiers become.
use Rattle.std.specs.Prelude.{ℕ, List, [], ◌∷◌, ◌++◌, Option, Some, None, codes, map, slice_get, unwrap_or, option_and_then, string_bytes, if◌then◌else◌}
use Rattle.std.specs.Option.{option_map}
use Rattle.bundle_rules.specs.Keywords.{is_keyword}
use Rattle.bundle_rules.specs.Nodes.{Text}
use Rattle.bundle_rules.specs.Idents.{Ident}
use Rattle.bundle_rules.specs.Rebuilds.{Change, changes_to}
use Rattle.bundle_scope_names.specs.declared.names.Names.{Names}
use Rattle.bundle_scope_names.specs.declared.names.ContextRule.{ContextRule}
use Rattle.bundle_scope_names.specs.declared.names.ContextRule.TheVariants.{Keep, Clear}

-- what stands at a position, where something does
abbrev pub at : {A : Type 0} → List (Option A) → ℕ → Option A
at values i = option_and_then (λ value. value) (slice_get values i)

-- the new text of a binding, if it has one
abbrev pub binding_text : Names → ℕ → Option Text
binding_text names binding = option_map string_bytes (at names.texts.items binding)

-- the new context of a binding, if it has one
abbrev pub context_of : Names → ℕ → Option ℕ
context_of names binding = at names.contexts.items binding

-- the text that a binding with this symbol gets, if it may not keep it
abbrev pub keyword_text : Text → Option Text
keyword_text sym = if is_keyword sym then Some (codes "__" ++ sym) else None

-- what an identifier becomes that denotes this binding, or a global
abbrev pub called_ident : Names → Ident → Option ℕ → Ident
called_ident names ident None = ident
called_ident names ident (Some binding) =
    (unwrap_or (binding_text names binding) ident.0, unwrap_or (context_of names binding) ident.1)

-- what identifiers become that denote these in turn
abbrev pub called_in : Names → List Ident → List (Option ℕ) → List Ident
called_in names (ident ∷ idents) (binding ∷ bindings) =
    called_ident names ident binding ∷ called_in names idents bindings
called_in names [] bindings = []
called_in names idents [] = []

-- an identifier whose context stays, or is 0
abbrev pub in_context : ContextRule → Ident → Ident
in_context Keep ident = ident
in_context Clear ident = (ident.0, 0)

-- the changes of identifiers that denote these in turn, where contexts stay or are 0
abbrev pub name_changes : Names → ContextRule → List Ident → List (Option ℕ) → List Change
name_changes names contexts idents bindings =
    changes_to idents (map (in_context contexts) (called_in names idents bindings))
