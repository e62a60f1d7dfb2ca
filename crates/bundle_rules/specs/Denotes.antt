-- What a name denotes where it stands: the binding of the nearest scope around it that binds it, or
-- else the global of its symbol (ECMA-262, 9.1 on environments, 9.4.2 ResolveBinding). By symbol:
-- contexts are not read, as when the code runs. By symbol and context: as in a tree whose contexts
-- tell its bindings apart.
use Rattle.std.specs.Prelude.{◌≡◌, ◌↔◌, ℕ, Bool as Truth, false, cond, not, ◌&&◌, ◌||◌, ◌==◌, List, Option, Some, None, is_some, codes, find, map, option_map, length, slice_get}
use Rattle.std.specs.List.{list_any}
use Rattle.bundle_syntax.specs.Item.{Item}
use Rattle.bundle_rules.specs.Places.{Occurrence, occurrence_at, occurrences}
use Rattle.bundle_rules.specs.Scopes.{ModuleKind, Es, Scope, scopes_around}
use Rattle.bundle_rules.specs.Declarations.{Reading, BySymbol, ByContext, Name, name_of, Declared, declared, declaration_of}
use Rattle.bundle_rules.specs.Homes.{home_of, is_declared_in, declares, binds, is_arguments, is_function}

-- what a name can denote: a binding, which is a scope and a name there, or a global. By symbol and
-- context, the name of a binding that no identifier declares has no context: the implicit
-- `arguments`, a parameter of a CommonJS module, a nameless default
pub data Denoted : Type 0 where
  Bound : Scope → Name → Denoted
  Global : List ℕ → Denoted

-- the name with its symbol alone
abbrev pub without_context : Name → Name
without_context name = record { sym = name.sym; ctxt = None }

-- what the name denotes if this is the scope that binds it
abbrev pub bound_in : Name → Option Scope → Denoted
bound_in name None = Global name.sym
bound_in name (Some scope) = Bound scope name

-- what a name denotes by its symbol, with these scopes around it
abbrev pub denoted_by_symbol : List Declared → List Scope → Name → Denoted
denoted_by_symbol all scopes name = bound_in name (find (λ scope. binds all scope name) scopes)

-- whether a context is that of the names that nothing binds
abbrev pub is_unresolved : Option ℕ → Truth
is_unresolved None = false
is_unresolved (Some ctxt) = ctxt == 1

-- whether a declaration has an identifier, whose context is read
abbrev pub has_identifier : Declared → Truth
has_identifier d = is_some d.name.ctxt

-- whether an identifier declares a name in the scope that agrees with this one
abbrev pub is_written_in : List Declared → Scope → Name → Truth
is_written_in all scope name =
    list_any (λ d. has_identifier d && is_declared_in all scope name d) all

-- whether the scope binds the name though no identifier declares it there: as a parameter of a
-- CommonJS module or as the name of a nameless default, or as the `arguments` of a function that is
-- no arrow
abbrev pub is_implied_in : List Declared → Scope → Name → Truth
is_implied_in all scope name =
    (declares all scope (without_context name)
    && not (is_written_in all scope (without_context name)))
    || (is_arguments name.sym && is_function scope)

-- what a name denotes that no identifier around it declares
abbrev pub implied : List Declared → List Scope → Name → Denoted
implied all scopes name =
    cond (is_unresolved name.ctxt) (Global name.sym)
    (bound_in (without_context name) (find (λ scope. is_implied_in all scope name) scopes))

-- the binding in the scope that declares the name, or else what is implied
abbrev pub written_or_implied : List Declared → List Scope → Name → Option Scope → Denoted
written_or_implied all scopes name None = implied all scopes name
written_or_implied all scopes name (Some scope) = Bound scope name

-- what a name denotes by symbol and context, with these scopes around it
abbrev pub denoted_by_context : List Declared → List Scope → Name → Denoted
denoted_by_context all scopes name =
    written_or_implied all scopes name (find (λ scope. is_written_in all scope name) scopes)

-- what a name denotes in a reading, with these scopes around it
abbrev pub denoted_in : Reading → List Declared → List Scope → Name → Denoted
denoted_in BySymbol all scopes name = denoted_by_symbol all scopes name
denoted_in ByContext all scopes name = denoted_by_context all scopes name

-- what an identifier denotes: its own binding where it declares one, else what its name denotes
-- there
abbrev pub own_or_found : List Declared → Denoted → Option Declared → Denoted
own_or_found all found None = found
own_or_found all found (Some d) = Bound (home_of all d) d.name

-- what an occurrence denotes, among all declarations of its tree
abbrev pub denoted_of : Reading → ModuleKind → List Declared → Occurrence → Denoted
denoted_of reading kind all o =
    own_or_found all
    (denoted_in reading all (scopes_around kind o.path) (name_of reading o.sym o.ctxt))
    (declaration_of reading kind o)

-- what stands at a place denotes; nothing where no binding or reference stands there
abbrev pub denoted_at : Reading → ModuleKind → List Item → ℕ → Option Denoted
denoted_at reading kind items place =
    option_map (denoted_of reading kind (declared reading kind items)) (occurrence_at items place)

-- what each occurrence denotes, in the order of the source
abbrev pub denotations : Reading → ModuleKind → List Item → List Denoted
denotations reading kind items =
    map (denoted_of reading kind (declared reading kind items)) (occurrences items)

-- two occurrences have one symbol and one context
abbrev pub SameIdent : Occurrence → Occurrence → Type 0
SameIdent a b = (a.sym ≡ b.sym) × (a.ctxt ≡ b.ctxt)

-- symbols and contexts tell the bindings of a tree apart: two occurrences have one symbol and
-- context exactly if they denote one binding or one global, and no `arguments` in a function that
-- is no arrow denotes a global
pub record IsResolved (kind : ModuleKind) (items : List Item) : Type 0 where
  pub same : (p q : ℕ) (a b : Occurrence) →
      occurrence_at items p ≡ Some a →
      occurrence_at items q ≡ Some b →
      SameIdent a b ↔ (denoted_at ByContext kind items p ≡ denoted_at ByContext kind items q)
  pub own_arguments : (p : ℕ) (a : Occurrence) →
      occurrence_at items p ≡ Some a →
      denoted_at ByContext kind items p ≡ Some (Global (codes "arguments")) →
      find is_function (scopes_around kind a.path) ≡ None

-- what is denoted, by its symbol alone
abbrev pub by_symbol : Denoted → Denoted
by_symbol (Bound scope name) = Bound scope (without_context name)
by_symbol (Global sym) = Global sym

-- what the occurrence with this number denotes
abbrev pub denoted_as : Reading → ModuleKind → List Item → ℕ → Option Denoted
denoted_as reading kind items i = slice_get (denotations reading kind items) i

-- a tree whose contexts have been set: it is resolved; each occurrence denotes by symbol and
-- context what it denoted by its symbol in the tree before; and what was one binding or one global
-- there is one here
pub record IsResolutionOf (kind : ModuleKind) (before after : List Item) : Type 0 where
  pub resolved : IsResolved kind after
  pub same : map by_symbol (denotations ByContext kind after) ≡ denotations BySymbol kind before
  pub one : (i j : ℕ) →
      denoted_as BySymbol kind before i ≡ denoted_as BySymbol kind before j →
      denoted_as ByContext kind after i ≡ denoted_as ByContext kind after j

-- the occurrences of two modules denote alike, one by one: the same global, or bindings that
-- correspond one to one
pub record DenoteAlike
    (reading_before : Reading) (before : List Item) (reading_after : Reading)
    (after : List Item) : Type 0 where
  pub len :
      length (denotations reading_before Es before) ≡ length (denotations reading_after Es after)
  pub same : (i j : ℕ) →
      (denoted_as reading_before Es before i ≡ denoted_as reading_before Es before j)
      ↔ (denoted_as reading_after Es after i ≡ denoted_as reading_after Es after j)
  pub globals : (i : ℕ) (sym : List ℕ) →
      (denoted_as reading_before Es before i ≡ Some (Global sym))
      ↔ (denoted_as reading_after Es after i ≡ Some (Global sym))
