-- Contexts by a numbering of the bindings of a tree.
use Rattle.std.specs.Prelude.{◌≡◌, ◌≢◌, ℕ, Bool as Truth, true, false, cond, ◌&&◌, List, [], ◌∷◌, Some, None, bytes_eq, map, slice_get}
use Rattle.std.specs.List.{list_any}
use Rattle.bundle_syntax.specs.Item as h
use Rattle.bundle_syntax.specs.Item.{Item}
use Rattle.bundle_rules.specs.Places.{Occurrence, occurrences}
use Rattle.bundle_rules.specs.Scopes.{ModuleKind, Scope, scope_order, same_scope}
use Rattle.bundle_rules.specs.Declarations.{Way, ByDefault, ByWrapper, BySymbol, Name, Declared}
use Rattle.bundle_rules.specs.Homes.{home_of}
use Rattle.bundle_rules.specs.Denotes.{Denoted, Bound, Global, denotations}

-- a numbering gives each binding its context, by the order of its scope and by its symbol
abbrev pub Numbering : Type 0
Numbering = ℕ → List ℕ → ℕ

-- the context of an occurrence that denotes this by its symbol
abbrev pub context_of : Numbering → Denoted → ℕ
context_of f (Global sym) = 1
context_of f (Bound scope name) = f (scope_order scope) name.sym

-- whether an identifier declares a name in this way
abbrev pub is_identified : Way → Truth
is_identified ByDefault = false
is_identified ByWrapper = false
is_identified _ = true

-- a declaration that is read by symbol, as it is read by symbol and context once contexts are given
abbrev pub lifted : Numbering → List Declared → Declared → Declared
lifted f all d = record { place = d.place; name = record { sym = d.name.sym; ctxt = cond (is_identified d.by) (Some (f (scope_order (home_of all d)) d.name.sym)) None }; by = d.by; scopes = d.scopes }

-- all declarations so
abbrev pub lift_all : Numbering → List Declared → List Declared
lift_all f all = map (lifted f all) all

-- whether an identifier declares this symbol in the scope, by symbol
abbrev pub is_written : List Declared → Scope → List ℕ → Truth
is_written all scope sym = list_any (λ (d : Declared). is_identified d.by && (same_scope (home_of all d) scope && bytes_eq d.name.sym sym)) all

-- what is denoted by symbol and context afterwards, where this was denoted by symbol
abbrev pub given : Numbering → List Declared → Denoted → Denoted
given f all (Global sym) = Global sym
given f all (Bound scope name) = Bound scope (record { sym = name.sym; ctxt = cond (is_written all scope name.sym) (Some (f (scope_order scope) name.sym)) None })

-- an element without its context; a tree so
abbrev pub without_context : Item → Item
without_context (h.Ident field sym ctxt role) = h.Ident field sym 0 role
without_context x = x

abbrev pub without_contexts : List Item → List Item
without_contexts [] = []
without_contexts (x ∷ rest) = without_context x ∷ without_contexts rest

-- The tree afterwards has the contexts of a numbering: the same but for contexts; each occurrence has the number of the binding that it denotes by its symbol, or 1 for a global; no binding has 1; and bindings of one symbol in two scopes have two numbers.
pub record IsNumbered (f : Numbering) (kind : ModuleKind) (before after : List Item) : Type 0 where
  pub same : without_contexts before ≡ without_contexts after
  pub contexts : map (λ (o : Occurrence). o.ctxt) (occurrences after) ≡ map (context_of f) (denotations BySymbol kind before)
  pub own : (i : ℕ) (s : Scope) (m : Name) → slice_get (denotations BySymbol kind before) i ≡ Some (Bound s m) → f (scope_order s) m.sym ≢ 1
  pub apart : (i j : ℕ) (s t : Scope) (m n : Name) → slice_get (denotations BySymbol kind before) i ≡ Some (Bound s m) → slice_get (denotations BySymbol kind before) j ≡ Some (Bound t n) → m.sym ≡ n.sym → f (scope_order s) m.sym ≡ f (scope_order t) n.sym → scope_order s ≡ scope_order t
