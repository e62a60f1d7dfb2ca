-- Two trees whose names are declared alike, though their scopes begin elsewhere, as in a statement
-- that was rewritten.
use Rattle.std.specs.Prelude.{◌≡◌, ℕ, false, List, [], ◌∷◌, Option, Some, None}
use Rattle.std.specs.List.{AllZip}
use Rattle.bundle_rules.specs.Places.{Occurrence, is_binding}
use Rattle.bundle_rules.specs.Scopes.{ModuleKind, Scope, ScopeKind, Wrapper, Top, Inner, scopes_around}
use Rattle.bundle_rules.specs.Declarations.{Name, Declared, way_of}
use Rattle.bundle_rules.specs.Denotes.{Denoted, Bound, Global}

-- positions of scopes correspond one to one
pub record ArePlacesOneToOne (R : ℕ → ℕ → Type 0) : Type 0 where
  pub one : (a b c : ℕ) → R a b → R a c → b ≡ c
  pub other : (a b c : ℕ) → R a c → R b c → a ≡ b

-- scopes of one kind at corresponding positions
pub data ScopesAlike (R : ℕ → ℕ → Type 0) : Scope → Scope → Type 0 where
  tops : ScopesAlike R Top Top
  wrappers : ScopesAlike R Wrapper Wrapper
  inners : {kind : ScopeKind} {a b : ℕ} → R a b → ScopesAlike R (Inner kind a) (Inner kind b)

-- both are there and alike, or neither is
abbrev pub BothAlike : (ℕ → ℕ → Type 0) → Option Scope → Option Scope → Type 0
BothAlike R None None = Unit {0}
BothAlike R None (Some t) = ⊥
BothAlike R (Some s) None = ⊥
BothAlike R (Some s) (Some t) = ScopesAlike R s t

-- a declaration of the same name in the same way
pub record DeclaredAlike (R : ℕ → ℕ → Type 0) (d e : Declared) : Type 0 where
  pub name : e.name ≡ d.name
  pub by : e.by ≡ d.by
  pub scopes : AllZip (ScopesAlike R) d.scopes e.scopes

-- what is denoted corresponds
pub data DenotedAlike (R : ℕ → ℕ → Type 0) : Denoted → Denoted → Type 0 where
  bindings : {s t : Scope} {name : Name} → ScopesAlike R s t →
      DenotedAlike R (Bound s name) (Bound t name)
  globals : {x : List ℕ} → DenotedAlike R (Global x) (Global x)

-- an occurrence stands where another does; its name may be another
pub record StandsAlike (R : ℕ → ℕ → Type 0) (kind : ModuleKind) (o u : Occurrence) : Type 0 where
  pub role : u.role ≡ o.role
  pub way : way_of u.path ≡ way_of o.path
  pub scopes : AllZip (ScopesAlike R) (scopes_around kind o.path) (scopes_around kind u.path)

-- and has its name
pub record SeenAlike (R : ℕ → ℕ → Type 0) (kind : ModuleKind) (o u : Occurrence) : Type 0 where
  pub stands : StandsAlike R kind o u
  pub symbol : u.sym ≡ o.sym
  pub ctxt : u.ctxt ≡ o.ctxt

-- the occurrences of a tree that was rewritten: some keep their names, some references have other
-- ones, some were added or left out
pub data FollowsAlike (R : ℕ → ℕ → Type 0) (kind : ModuleKind) : List Occurrence → List Occurrence →
    Type 0 where
  done : FollowsAlike R kind [] []
  kept : {o u : Occurrence} {os us : List Occurrence} → SeenAlike R kind o u →
      FollowsAlike R kind os us → FollowsAlike R kind (o ∷ os) (u ∷ us)
  changed : {o u : Occurrence} {os us : List Occurrence} → StandsAlike R kind o u →
      is_binding o.role ≡ false → FollowsAlike R kind os us → FollowsAlike R kind (o ∷ os) (u ∷ us)
  added : {u : Occurrence} {os us : List Occurrence} → is_binding u.role ≡ false →
      FollowsAlike R kind os us → FollowsAlike R kind os (u ∷ us)
  dropped : {o : Occurrence} {os us : List Occurrence} → is_binding o.role ≡ false →
      FollowsAlike R kind os us → FollowsAlike R kind (o ∷ os) us
