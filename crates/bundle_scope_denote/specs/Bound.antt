-- Which bindings there are, by the numbers of scopes and names.
use Rattle.std.specs.Prelude.{◌≡◌, ℕ, ◌==◌, Bool as Truth, true, false, ◌&&◌, ◌||◌, cond, List, Option, Some, None, is_some, slice_get, bytes_eq, nat_eq, not, ◌++◌, ◌∷◌, [], if◌then◌else◌}
use Rattle.std.specs.Option.{option_eq}
use Rattle.std.specs.List.{list_any}
use Rattle.bundle_rules.specs.Scopes as s
use Rattle.bundle_rules.specs.Declarations as d
use Rattle.bundle_rules.specs.Homes as o
use Rattle.bundle_rules.specs.Denotes as e
use Rattle.bundle_scope_denote.specs.Numbers.{NumberedScope}
use Rattle.bundle_scope_denote.specs.Chains.{numbered_scope_at, outer_at, passes}

-- the number of a scope and that of a name there
abbrev pub ScopeKey : Type 0
ScopeKey = ℕ × ℕ

abbrev pub same_key : ScopeKey → ScopeKey → Truth
same_key a b = a.0 == b.0 && a.1 == b.1

-- how names are read shows in a declaration: by symbol no context is read, and by context that of
-- each `var` and function is
abbrev pub IsDeclaredAs : d.Reading → d.Declared → Type 0
IsDeclaredAs d.BySymbol declared = declared.name.ctxt ≡ None
IsDeclaredAs d.ByContext declared =
    o.joins_parameter declared.by ≡ true → is_some declared.name.ctxt ≡ true

-- a key is that of the binding to which a declaration belongs
pub record IsHome
    (scopes : List NumberedScope) (names : List d.Name) (all : List d.Declared) (key : ScopeKey)
    (declared : d.Declared) : Type 0 where
  pub scope : numbered_scope_at scopes key.0 ≡ Some (o.home_of all declared)
  pub name : slice_get names key.1 ≡ Some declared.name

-- whether names have one symbol and one context
abbrev pub exactly : d.Name → d.Name → Truth
exactly a b = bytes_eq a.sym b.sym && option_eq nat_eq a.ctxt b.ctxt

-- whether a reading gives an identifier such a name
abbrev pub reads : d.Reading → d.Name → Truth
reads d.BySymbol name = not (is_some name.ctxt)
reads d.ByContext name = is_some name.ctxt

-- whether a name is one that functions bind without a declaration
abbrev pub adds : d.Reading → d.Name → Truth
adds d.BySymbol name = o.is_arguments name.sym
adds d.ByContext name = false

-- whether a declaration binds the name in the scope
abbrev pub declares_in : d.Reading → List d.Declared → s.Scope → d.Name → d.Declared → Truth
declares_in d.BySymbol all scope name declared = o.is_declared_in all scope name declared
declares_in d.ByContext all scope name declared =
    e.has_identifier declared && o.is_declared_in all scope name declared

-- whether the scope binds the name: by context, for an identifier
abbrev pub is_name_bound : d.Reading → List d.Declared → s.Scope → d.Name → Truth
is_name_bound d.BySymbol all scope name = o.binds all scope name
is_name_bound d.ByContext all scope name = e.is_written_in all scope name

-- whether a scope is a body that has parameters beside it
abbrev pub has_parameters : s.Scope → Truth
has_parameters s.Top = true
has_parameters (s.Inner s.FunctionBody begins) = true
has_parameters _ = false

-- whether a scope keeps its names apart from those of the scope around it: a body with its
-- parameters, and the block of a catch
abbrev pub joins_outer : s.Scope → Truth
joins_outer (s.Inner s.CatchBlock begins) = true
joins_outer scope = has_parameters scope

-- the number of the scope of the parameters of the function of which a scope is the body
abbrev pub beside_at : List NumberedScope → ℕ → Option ℕ
beside_at scopes body = cond (passes has_parameters scopes body) (outer_at scopes body) None

-- the scope beside, if it has the parameter, and else the body
abbrev pub beside_or : (ℕ → Truth) → (body : ℕ) → Option ℕ → ℕ
beside_or is_parameter body None = body
beside_or is_parameter body (Some beside) = cond (is_parameter beside) beside body

-- the number of the scope to which a name belongs that this scope takes
abbrev pub home_from : List NumberedScope → (top : ℕ) → (joins : Truth) → (ℕ → Truth) → Option ℕ → ℕ
home_from scopes top joins is_parameter None = top
home_from scopes top joins is_parameter (Some taker) =
    cond joins (beside_or is_parameter taker (beside_at scopes taker)) taker

-- whether a scope is that of the parameters of a function, an arrow or a CommonJS module
abbrev pub holds_parameters : s.Scope → Truth
holds_parameters scope = o.is_parameters scope || o.is_wrapper scope

-- whether the declaration of a name that this scope takes is that of a parameter with this key
abbrev pub is_parameter_key : List NumberedScope → ScopeKey → ScopeKey → Truth
is_parameter_key scopes key taken = passes holds_parameters scopes taken.0 && same_key key taken

-- a key is that of the scope that takes a declared name
pub record IsKeyTaken
    (scopes : List NumberedScope) (names : List d.Name) (key : ScopeKey)
    (declared : d.Declared) : Type 0 where
  pub scope : numbered_scope_at scopes key.0 ≡ Some (o.taker declared)
  pub name : slice_get names key.1 ≡ Some declared.name

-- the keys once one is put, which goes last if it was not there
abbrev pub put_key : List ScopeKey → ScopeKey → List ScopeKey
put_key keys key = if list_any (same_key key) keys then keys else keys ++ key ∷ []

-- the name of this symbol without a context
abbrev pub alone : List ℕ → d.Name
alone symbol = record { sym = symbol; ctxt = None }

-- whether a name is that of an identifier with this symbol, whose context is read
abbrev pub is_written_name : List ℕ → Option d.Name → Truth
is_written_name symbol None = false
is_written_name symbol (Some name) = is_some name.ctxt && bytes_eq name.sym symbol

-- whether a key is of the scope with this number and of such a name
abbrev pub is_written_key : List d.Name → ℕ → List ℕ → ScopeKey → Truth
is_written_key names scope symbol key =
    scope == key.0 && is_written_name symbol (slice_get names key.1)

-- whether the scope with a number has the name with a number among these keys, or is that of a
-- function which binds it
abbrev pub binds_at : List NumberedScope → List ScopeKey → (adds : Truth) → ℕ → ℕ → Truth
binds_at scopes keys adds name scope =
    list_any (same_key (scope, name)) keys || (adds && passes o.is_function scopes scope)

-- the keys tell what each scope binds
abbrev pub TellsBound :
    d.Reading → List NumberedScope → List d.Name → List d.Declared → List ScopeKey → Type 0
TellsBound reading scopes names all keys =
    (n number : ℕ) (scope : s.Scope) (name : d.Name) →
    numbered_scope_at scopes n ≡ Some scope →
    slice_get names number ≡ Some name →
    reads reading name ≡ true →
    binds_at scopes keys (adds reading name) number n ≡ is_name_bound reading all scope name

-- and these what is implied there
abbrev pub TellsImplied : List NumberedScope → List d.Name → List d.Declared → List ScopeKey →
    Type 0
TellsImplied scopes names all implied =
    (n number : ℕ) (scope : s.Scope) (name : d.Name) →
    numbered_scope_at scopes n ≡ Some scope →
    slice_get names number ≡ Some (alone name.sym) →
    binds_at scopes implied (o.is_arguments name.sym) number n ≡ e.is_implied_in all scope name

-- the number of a binding says what is denoted
abbrev pub SaysDenoted : List NumberedScope → List d.Name → List ScopeKey → Option ℕ → e.Denoted →
    Type 0
SaysDenoted scopes names keys None (e.Global sym) = Unit {0}
SaysDenoted scopes names keys None (e.Bound scope name) = ⊥
SaysDenoted scopes names keys (Some number) (e.Global sym) = ⊥
SaysDenoted scopes names keys (Some number) (e.Bound scope name) =
    (key : ScopeKey) × (slice_get keys number ≡ Some key)
    × (numbered_scope_at scopes key.0 ≡ Some scope) × (slice_get names key.1 ≡ Some name)

-- the number of a name in a scope that was found
abbrev pub NumberOf : List ScopeKey → (name : ℕ) → Option ℕ → Option ℕ → Type 0
NumberOf keys name None None = Unit {0}
NumberOf keys name None (Some number) = ⊥
NumberOf keys name (Some scope) None = ⊥
NumberOf keys name (Some scope) (Some number) = slice_get keys number ≡ Some (scope, name)
