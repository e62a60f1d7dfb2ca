-- Which declarations may not stand beside those that were met.
use Rattle.std.specs.Prelude.{◌≡◌, ℕ, Bool as Truth, true, false, cond, not, ◌&&◌, ◌<◌, List, [], ◌∷◌, Option, Some, None, length, option_map, unwrap_or, slice_get, take, take_while}
use Rattle.std.specs.List.{list_any}
use Rattle.bundle_syntax.specs.Item.{Item}
use Rattle.bundle_rules.specs.Scopes as s
use Rattle.bundle_rules.specs.Declarations as d
use Rattle.bundle_rules.specs.Homes as o
use Rattle.bundle_rules.specs.Doubled as u
use Rattle.bundle_scope_denote.specs.declared.table.Doubled.{Doubled}
use Rattle.bundle_scope_denote.specs.declared.table.Way.{Way}
use Rattle.bundle_scope_denote.specs.declared.walk.Declaration.{Declaration}
use Rattle.bundle_scope_denote.specs.declared.walk.ScopeWalk.{ScopeWalk}
use Rattle.bundle_scope_denote.specs.declared.doubled.Met.{Met}
use Rattle.bundle_scope_denote.specs.declared.doubled.Times.{Times}
use Rattle.bundle_scope_denote.specs.declared.doubled.Times.TheVariants.{Never, Once, Often}
use Rattle.bundle_scope_denote.specs.declared.doubled.Reach.{Reach}
use Rattle.bundle_scope_denote.specs.Kinds.{way_named, takes_by}
use Rattle.bundle_scope_denote.specs.Numbers.{NumberedScope, AreAround}
use Rattle.bundle_scope_denote.specs.Chains.{numbered_scope_at, passes, scopes_outwards, AreScopesAt}
use Rattle.bundle_scope_denote.specs.Bound.{ScopeKey, same_key}
use Rattle.bundle_scope_denote.specs.Walked.{IsDeclared}
use Rattle.bundle_scope_denote.specs.Steps.{scopes_of, walk_names, IsWholeWalk}
use Rattle.bundle_scope_denote.specs.Listed.{doubled_told, place_and_symbol}

-- the first of these scopes and the one beside it, if a name that is declared there in this way
-- stands there once
abbrev pub held_in : d.Way → List s.Scope → List s.Scope
held_in by scopes =
    cond (u.stands_once by scopes) (unwrap_or (o.nearest scopes) s.Top ∷ o.group_of scopes ∷ []) []

-- the scopes that a declared name passes up to the one that takes it
abbrev pub passed : d.Declared → List s.Scope
passed x = take_while (λ scope. not (o.takes x.by scope)) x.scopes

-- the scopes in which no other declaration may have the name of this one
abbrev pub barred_by : d.Declared → List s.Scope
barred_by x = cond (u.is_var x.by) (passed x) (held_in x.by (o.from_taker x.by x.scopes))

-- the first of these numbers, of scopes that do not take a name declared in this way
abbrev pub passed_of : List NumberedScope → Way → List ℕ → List ℕ
passed_of scopes way numbers =
    take_while (λ number. not (passes (takes_by way) scopes number)) numbers

-- the numbers of the scopes that a name passes, from one on outwards
abbrev pub passed_at : List NumberedScope → Way → ℕ → List ℕ
passed_at scopes way from =
    passed_of scopes way (scopes_outwards scopes (length scopes) (Some from))

-- these are the numbers of what is held in the scopes from a taker on
abbrev pub HoldsNumbered : List NumberedScope → (top : ℕ) → Way → (taker : Option ℕ) → List ℕ →
    Type 0
HoldsNumbered scopes top way taker held =
    (kind : s.ModuleKind) (by : d.Way) (around : List s.Scope) →
    AreAround scopes (Some top) (s.outermost kind) →
    way ≡ way_named by →
    AreAround scopes taker around →
    AreScopesAt scopes held (held_in by around)

-- whether the first of these scopes is that of the parameters of a CommonJS module
abbrev pub begins_wrapped : List s.Scope → Truth
begins_wrapped (s.Wrapper ∷ outer) = true
begins_wrapped _ = false

-- the numbers of the scopes that a declaration reaches: the one that takes its name, and those that
-- it bars
pub record IsReachOf (scopes : List NumberedScope) (reach : Reach) (x : d.Declared) : Type 0 where
  pub taker : numbered_scope_at scopes reach.taker ≡ Some (o.taker x)
  pub barred : AreScopesAt scopes reach.barred.items (barred_by x)

-- a declaration of a whole walk reaches so far
abbrev pub ReachesSoFar : ScopeWalk → Declaration → Reach → Type 0
ReachesSoFar walk declaration reach =
    (reading : d.Reading) (kind : s.ModuleKind) (items : List Item) (x : d.Declared) →
    IsWholeWalk walk reading kind items →
    IsDeclared (scopes_of walk) (walk_names walk) declaration x →
    IsReachOf (scopes_of walk) reach x

-- whether one of the scopes has the name among these keys
abbrev pub has_any : List ScopeKey → (name : ℕ) → List ℕ → Truth
has_any keys name scopes = list_any (λ scope. list_any (same_key (scope, name)) keys) scopes

-- whether a key is that of the name in one of the scopes
abbrev pub is_key_in : ScopeKey → (name : ℕ) → List ℕ → Truth
is_key_in key name scopes = list_any (λ scope. same_key key (scope, name)) scopes

-- whether the declaration is taken in the scope by this name
abbrev pub is_taken_in : s.Scope → d.Name → d.Declared → Truth
is_taken_in scope name a = d.names_agree a.name name && s.same_scope (o.taker a) scope

-- whether the declaration lets no other have this name in the scope
abbrev pub is_barred_in : s.Scope → d.Name → d.Declared → Truth
is_barred_in scope name a = d.names_agree a.name name && list_any (s.same_scope scope) (barred_by a)

-- one time more
abbrev pub once_more : Times → Times
once_more Never = Once
once_more Once = Often
once_more Often = Often

abbrev pub times_counted : Truth → Times → Times
times_counted true times = once_more times
times_counted false times = times

-- whether a name is declared more than once, or it is not known how often
abbrev pub is_often_by : Option Times → Truth
is_often_by None = true
is_often_by (Some Never) = false
is_often_by (Some Once) = false
is_often_by (Some Often) = true

abbrev pub is_often : List Times → (name : ℕ) → Truth
is_often times name = is_often_by (slice_get times name)

-- the name of two declarations is declared more than once
abbrev pub AreCounted : List Declaration → List Times → Type 0
AreCounted declarations times =
    (i j : ℕ) (a b : Declaration) →
    i < j →
    slice_get declarations i ≡ Some a →
    slice_get declarations j ≡ Some b →
    a.name ≡ b.name →
    is_often times b.name ≡ true

-- the keys tell a test of scopes and names that have no context and are declared more than once
abbrev pub KeysTell : List NumberedScope → List d.Name → (often : ℕ → Truth) → List ScopeKey →
    (s.Scope → d.Name → Truth) → Type 0
KeysTell scopes names often keys test =
    (n number : ℕ) (scope : s.Scope) (name : d.Name) →
    numbered_scope_at scopes n ≡ Some scope →
    slice_get names number ≡ Some name →
    name.ctxt ≡ None →
    often number ≡ true →
    list_any (same_key (n, number)) keys ≡ test scope name

-- what was met is these declarations
pub record HasMet
    (scopes : List NumberedScope) (names : List d.Name) (often : ℕ → Truth)
    (before : List d.Declared) (met : Met) : Type 0 where
  pub taken :
      KeysTell scopes names often met.taken.keys
      (λ scope name. list_any (is_taken_in scope name) before)
  pub barred :
      KeysTell scopes names often met.barred.keys
      (λ scope name. list_any (is_barred_in scope name) before)

-- the first declarations were met, and none of them is doubled
pub record HasMetFirst
    (walk : ScopeWalk) (often : ℕ → Truth) (all : List d.Declared) (number : ℕ)
    (met : Met) : Type 0 where
  pub before : HasMet (scopes_of walk) (walk_names walk) often (take number all) met
  pub undoubled : list_any (u.is_doubled all) (take number all) ≡ false

-- what is told has the place and the symbol of a declaration that was met
pub record IsDoubledTold (walk : ScopeWalk) (declaration : Declaration)
    (doubled : Doubled) : Type 0 where
  pub place : doubled.place ≡ declaration.place
  pub symbol :
      option_map (λ (name : d.Name). name.sym) (slice_get (walk_names walk) declaration.name)
      ≡ Some doubled.name.now

-- what is told is the first declaration that is doubled, of a list whose walk this is
abbrev pub TellsFirstDoubled : ScopeWalk → Option Doubled → Type 0
TellsFirstDoubled walk found =
    (kind : s.ModuleKind) (items : List Item) →
    IsWholeWalk walk d.BySymbol kind items →
    option_map doubled_told found ≡ option_map place_and_symbol (u.first_doubled kind items)
