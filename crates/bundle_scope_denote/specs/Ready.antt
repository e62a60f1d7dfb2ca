-- What the tables say of the declarations that were met.
use Rattle.std.specs.Prelude.{◌≡◌, ◌<◌, ◌++◌, [], ◌∷◌, ℕ, Bool as Truth, false, ◌||◌, ◌&&◌, not, is_some, List, Option, Some, None, unwrap_or, codes, map, length, slice_get}
use Rattle.std.specs.List.{AllZip, list_any}
use Rattle.bundle_rules.specs.Declarations as d
use Rattle.bundle_scope_denote.specs.declared.table.Binding.{Binding}
use Rattle.bundle_scope_denote.specs.declared.walk.Declaration.{Declaration}
use Rattle.bundle_scope_denote.specs.declared.walk.NameOccurrence.{NameOccurrence}
use Rattle.bundle_scope_denote.specs.declared.walk.ScopeWalk.{ScopeWalk}
use Rattle.bundle_scope_denote.specs.declared.homes.Homes.{Homes}
use Rattle.bundle_scope_denote.specs.Kinds.{takes_by, joins_by}
use Rattle.bundle_scope_denote.specs.Numbers.{NumberedScope}
use Rattle.bundle_scope_denote.specs.Chains.{nearest_at, passes, IsOnce}
use Rattle.bundle_scope_denote.specs.Bound.{ScopeKey, same_key, put_key, home_from, is_parameter_key, is_written_key, alone}
use Rattle.bundle_scope_denote.specs.Steps.{scopes_of, walk_names}

-- the name of a binding
abbrev pub binding_name : Binding → d.Name
binding_name binding = record { sym = binding.sym.now; ctxt = binding.ctxt }

-- a binding has this key
pub record IsBindingOf (names : List d.Name) (binding : Binding) (key : ScopeKey) : Type 0 where
  pub scope : binding.scope ≡ key.0
  pub name : slice_get names key.1 ≡ Some (binding_name binding)

-- the bindings have these keys, in their order
abbrev pub Matches : List d.Name → List Binding → List ScopeKey → Type 0
Matches names bindings keys = AllZip (IsBindingOf names) bindings keys

-- the name of each declaration that was met has a number
abbrev pub AreDeclarationsNumbered : ScopeWalk → Type 0
AreDeclarationsNumbered walk =
    (i : ℕ) (declaration : Declaration) →
    slice_get walk.declarations.items i ≡ Some declaration →
    declaration.name < length walk.names.keys

-- and so has that of each occurrence
abbrev pub AreSeenNamed : ScopeWalk → Type 0
AreSeenNamed walk =
    (i : ℕ) (seen : NameOccurrence) →
    slice_get walk.occurrences.items i ≡ Some seen →
    seen.name < length walk.names.keys

-- the name `arguments` without a context has a number
abbrev pub HasArguments : ScopeWalk → Type 0
HasArguments walk =
    (number : ℕ) × (slice_get (walk_names walk) number ≡ Some (alone (codes "arguments")))

-- the number that the symbol has as a name without a context, where it has one
abbrev pub FindsAlone : List d.Name → List ℕ → Option ℕ → Type 0
FindsAlone names symbol (Some number) = slice_get names number ≡ Some (alone symbol)
FindsAlone names symbol None = (number : ℕ) → slice_get names number ≡ Some (alone symbol) → ⊥

-- the key of the scope that takes a declared name
abbrev pub taken_key : List NumberedScope → (top : ℕ) → Declaration → ScopeKey
taken_key scopes top declaration = (
  unwrap_or (nearest_at scopes (passes (takes_by declaration.way) scopes) declaration.scope) top,
  declaration.name,
)

-- whether a scope has the parameter with one of two numbers
abbrev pub has_parameter : List ScopeKey → (name : ℕ) → (alone : Option ℕ) → ℕ → Truth
has_parameter keys name None scope = list_any (same_key (scope, name)) keys || false
has_parameter keys name (Some alone) scope =
    list_any (same_key (scope, name)) keys || list_any (same_key (scope, alone)) keys

-- a key is that of the scope to which a declaration belongs, by these keys of parameters
pub record IsHomeKey
    (scopes : List NumberedScope) (names : List d.Name) (top : ℕ) (parameters : List ScopeKey)
    (declaration : Declaration) (key : ScopeKey) : Type 0 where
  pub number : Option ℕ
  pub finds : (name : d.Name) →
      slice_get names declaration.name ≡ Some name →
      FindsAlone names name.sym number
  pub scope :
      key.0
      ≡ home_from scopes top (joins_by declaration.way)
      (has_parameter parameters declaration.name number)
      (nearest_at scopes (passes (takes_by declaration.way) scopes) declaration.scope)
  pub name : key.1 ≡ declaration.name

-- a number is that of a key
abbrev pub IsNumberOf : List ScopeKey → ScopeKey → ℕ → Type 0
IsNumberOf keys key number = slice_get keys number ≡ Some key

-- the home of a declaration is added
pub record AddsHome
    (walk : ScopeWalk) (parameters : List ScopeKey) (declaration : Declaration)
    (old new : Homes) : Type 0 where
  pub key : ScopeKey
  pub is_home : IsHomeKey (scopes_of walk) (walk_names walk) walk.top parameters declaration key
  pub keys : new.bindings.keys.keys ≡ put_key old.bindings.keys.keys key
  pub number : ℕ
  pub at : slice_get new.bindings.keys.keys number ≡ Some key
  pub numbers : new.of.items ≡ old.of.items ++ number ∷ []
  pub matches : Matches (walk_names walk) old.bindings.items.items old.bindings.keys.keys →
      Matches (walk_names walk) new.bindings.items.items new.bindings.keys.keys

-- the bindings are those of the first declarations of a walk
pub record AreHomesOf
    (walk : ScopeWalk) (parameters : List ScopeKey) (declarations : List Declaration)
    (homes : Homes) : Type 0 where
  pub keys : List ScopeKey
  pub each :
      AllZip (IsHomeKey (scopes_of walk) (walk_names walk) walk.top parameters) declarations keys
  pub numbers : AllZip (IsNumberOf homes.bindings.keys.keys) keys homes.of.items
  pub only : (p : ScopeKey → Truth) → list_any p homes.bindings.keys.keys ≡ list_any p keys
  pub once : IsOnce homes.bindings.keys.keys
  pub matches : Matches (walk_names walk) homes.bindings.items.items homes.bindings.keys.keys

-- by the parameters among all declarations
pub record AreHomes (walk : ScopeWalk) (declarations : List Declaration)
    (homes : Homes) : Type 0 where
  pub parameters : List ScopeKey
  pub tells : (key : ScopeKey) →
      list_any (same_key key) parameters
      ≡ list_any (is_parameter_key (scopes_of walk) key)
      (map (taken_key (scopes_of walk) walk.top) walk.declarations.items)
  pub own : AreHomesOf walk parameters declarations homes

-- whether a name has no context, and no identifier declares its symbol in the scope
abbrev pub is_implied_name : List d.Name → List ScopeKey → ℕ → Option d.Name → Truth
is_implied_name names keys scope None = false
is_implied_name names keys scope (Some name) =
    not (is_some name.ctxt) && not (list_any (is_written_key names scope name.sym) keys)

-- the same of what has a key
abbrev pub is_implied_key : List d.Name → List ScopeKey → ScopeKey → Truth
is_implied_key names keys key = is_implied_name names keys key.0 (slice_get names key.1)

-- by symbol and context, these are the keys of names without a context beside which no identifier
-- declares the symbol
abbrev pub HoldsImplied : d.Reading → List d.Name → List ScopeKey → List ScopeKey → Type 0
HoldsImplied d.BySymbol names keys implied = Unit {0}
HoldsImplied d.ByContext names keys implied =
    (key : ScopeKey) →
    list_any (same_key key) implied
    ≡ (list_any (same_key key) keys && is_implied_key names keys key)
