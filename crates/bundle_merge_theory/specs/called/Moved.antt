-- A tree as the body of one function: where its scopes and declarations go.
use Rattle.std.specs.Prelude.{◌≡◌, ℕ, ◌+◌, ◌<◌, Bool as Truth, true, false, List, [], ◌∷◌, is_some, codes}
use Rattle.bundle_rules.specs.Scopes.{Scope, ScopeKind, Wrapper, Top, Inner, Parameters, FunctionBody, FunctionName}
use Rattle.bundle_rules.specs.Declarations.{Way, ByImport, ByDefault, ByWrapper, Name, Declared}
use Rattle.bundle_rules.specs.Homes.{from_taker, nearest}
use Rattle.bundle_rules.specs.Denotes.{Denoted, Bound, Global}

-- where a scope goes: the top becomes the function's body, and each other begins 6 places later
abbrev pub called_scope : Scope → Scope
called_scope Wrapper = Wrapper
called_scope Top = Inner FunctionBody 6
called_scope (Inner kind begins) = Inner kind (begins + 6)

-- the scopes around a place in the body
abbrev pub moved_scopes : List Scope → List Scope
moved_scopes [] = []
moved_scopes (Wrapper ∷ outer) = Wrapper ∷ moved_scopes outer
moved_scopes (Top ∷ outer) =
    Inner FunctionBody 6 ∷ Inner Parameters 5 ∷ Inner FunctionName 4 ∷ Top ∷ []
moved_scopes (Inner kind begins ∷ outer) = Inner kind (begins + 6) ∷ moved_scopes outer

-- what a name denotes in the body that denoted this at the top
abbrev pub called_denoted : Denoted → Denoted
called_denoted (Bound scope name) = Bound (called_scope scope) name
called_denoted (Global x) = Global x

-- a declaration in the body
abbrev pub called_declared : Declared → Declared
called_declared d =
    record { place = d.place + 6; name = d.name; by = d.by; scopes = moved_scopes d.scopes }

-- whether a way is that of imports, of a nameless default or of a CommonJS module's parameters
abbrev pub is_module_way : Way → Truth
is_module_way ByImport = true
is_module_way ByDefault = true
is_module_way ByWrapper = true
is_module_way _ = false

-- scopes around a place of a module: none begins where the module does
pub data AreFair : List Scope → Type 0 where
  top : AreFair (Top ∷ [])
  inner : {kind : ScopeKind} {begins : ℕ} {outer : List Scope} → 0 < begins → AreFair outer →
      AreFair (Inner kind begins ∷ outer)

-- a scope of a module
abbrev pub IsFair : Scope → Type 0
IsFair Wrapper = ⊥
IsFair Top = Unit {0}
IsFair (Inner kind begins) = 0 < begins

-- a declaration that some scope around it takes, by no import and no nameless default
pub record IsSeated (d : Declared) : Type 0 where
  pub fair : AreFair d.scopes
  pub way : is_module_way d.by ≡ false
  pub taken : is_some (nearest (from_taker d.by d.scopes)) ≡ true

-- what a name denotes in the module and in the function: an `arguments` that nothing binds may be
-- the function's own
pub data CorrespondInBody : Denoted → Denoted → Type 0 where
  followed : (d : Denoted) → CorrespondInBody d (called_denoted d)
  astray : (name : Name) →
      CorrespondInBody (Global (codes "arguments")) (Bound (Inner Parameters 5) name)
