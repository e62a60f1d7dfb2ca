-- A CommonJS module as the body of its load function: where its scopes, its declarations and its
-- names go. The item by itself is `var load = helper(function (module, exports) { .. });`, so that
-- the function's node begins at 10, its name's scope at 9 and its body at 21.
use Rattle.std.specs.Prelude.{◌≡◌, ℕ, ◌<◌, Bool as Truth, true, false, List, [], ◌∷◌, Option, Some, None, is_some}
use Rattle.bundle_rules.specs.Scopes.{Scope, ScopeKind, Wrapper, Top, Inner, Parameters, FunctionBody, FunctionName}
use Rattle.bundle_rules.specs.Declarations.{Way, ByImport, ByDefault, ByWrapper, ByParameter, Declared, wrapper_parameter}
use Rattle.bundle_rules.specs.Homes.{from_taker, nearest}

-- nodes of the module's statements go to nodes in the body, one to one: `from` leads back
pub record IsFrame (R : ℕ → ℕ → Type 0) : Type 0 where
  pub one : (a b c : ℕ) → R a b → R a c → b ≡ c
  pub from : ℕ → ℕ
  pub back : (a b : ℕ) → R a b → from b ≡ a
  pub inside : (a b : ℕ) → R a b → 21 < b

-- the top goes to the body, the wrapper to the parameters, and any other scope where its node goes
pub data Beside (R : ℕ → ℕ → Type 0) : Scope → Scope → Type 0 where
  top : Beside R Top (Inner FunctionBody 21)
  wrapper : Beside R Wrapper (Inner Parameters 10)
  inner : {kind : ScopeKind} {a b : ℕ} → R a b → Beside R (Inner kind a) (Inner kind b)

-- the scopes around a place of the module, and around that of the body
pub data Framed (R : ℕ → ℕ → Type 0) : List Scope → List Scope → Type 0 where
  outside : Framed R (Top ∷ Wrapper ∷ []) (Inner FunctionBody 21 ∷ Inner Parameters 10
      ∷ Inner FunctionName 9 ∷ Top ∷ [])
  within : {kind : ScopeKind} {a b : ℕ} {ss ts : List Scope} → R a b → Framed R ss ts →
      Framed R (Inner kind a ∷ ss) (Inner kind b ∷ ts)

-- whether a way is that of imports, of a nameless default or of a wrapper's parameters
abbrev pub is_wrapper_way : Way → Truth
is_wrapper_way ByImport = true
is_wrapper_way ByDefault = true
is_wrapper_way ByWrapper = true
is_wrapper_way _ = false

-- a parameter of the load function, by its symbol
abbrev pub load_parameter : ℕ → List ℕ → Declared
load_parameter place x =
    record {
      place = place;
      name = record { sym = x; ctxt = None };
      by = ByParameter;
      scopes = Inner Parameters 10 ∷ Inner FunctionName 9 ∷ Top ∷ [];
    }

-- a declaration of the module's statements that one of its scopes takes, and the one in the body
pub record IsSeatedPair (R : ℕ → ℕ → Type 0) (d e : Declared) : Type 0 where
  pub name : e.name ≡ d.name
  pub by : e.by ≡ d.by
  pub scopes : Framed R d.scopes e.scopes
  pub own : is_wrapper_way d.by ≡ false
  pub taken : is_some (nearest (from_taker d.by d.scopes)) ≡ true

-- a parameter, or one of the statements
pub data DeclaredBeside (R : ℕ → ℕ → Type 0) : Declared → Declared → Type 0 where
  of_wrapper : (place : ℕ) (x : List ℕ) →
      DeclaredBeside R (wrapper_parameter x) (load_parameter place x)
  of_body : {d e : Declared} → IsSeatedPair R d e → DeclaredBeside R d e

-- one by one
pub data AllBeside (R : ℕ → ℕ → Type 0) : List Declared → List Declared → Type 0 where
  none : AllBeside R [] []
  more : {d e : Declared} {ds es : List Declared} → DeclaredBeside R d e → AllBeside R ds es →
      AllBeside R (d ∷ ds) (e ∷ es)

-- both scopes are there, one beside the other, or none is
pub data BothBeside (R : ℕ → ℕ → Type 0) : Option Scope → Option Scope → Type 0 where
  neither : BothBeside R None None
  both : {s t : Scope} → Beside R s t → BothBeside R (Some s) (Some t)
