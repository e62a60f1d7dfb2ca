-- Declarations that exclude one another, and what a part declares by what a whole tree does.
use Rattle.std.specs.Prelude.{Contains, ◌+◌, [], ◌∷◌, length, ◌≡◌, ◌≢◌, ◌⊎◌, ℕ, ◌<◌, ◌≤◌, true, false, not, List, Some, None, slice_get, take_while}
use Rattle.std.specs.List.{AllZip}
use Rattle.bundle_syntax.specs.Item.{Item}
use Rattle.bundle_rules.specs.Bundle.{Cause, Own}
use Rattle.bundle_rules.specs.Program.{Program, tree_of}
use Rattle.bundle_rules.specs.Scopes.{Es, Scope, Top, same_scope}
use Rattle.bundle_rules.specs.Statements.{Element, TopItem, top_items, stated, own_statements}
use Rattle.bundle_rules.specs.Declarations.{BySymbol, names_agree, Declared, declared}
use Rattle.bundle_rules.specs.Homes.{takes, from_taker, taker, group_of}
use Rattle.bundle_rules.specs.Doubled.{is_lexical, is_var, excludes}
use Rattle.bundle_merge_theory.specs.joined.Joined.{own_declared}

-- an element of a list
abbrev pub IsAmong : {A : Type 0} → List A → A → Type 0
IsAmong xs x = (i : ℕ) × (slice_get xs i ≡ Some x)

-- two declarations, at two places, of one name where only one may stand
pub record IsClash (a b : Declared) : Type 0 where
  pub agree : names_agree a.name b.name ≡ true
  pub apart : a.place ≢ b.place
  pub excluded : (excludes a b ≡ true) ⊎ (excludes b a ≡ true)

-- no two of these clash
abbrev pub NoneClash : List Declared → Type 0
NoneClash all = (a b : Declared) → IsAmong all a → IsAmong all b → IsClash a b → ⊥

-- scopes that go with others are the same where the others are
abbrev pub TellsScopes : (Scope → Scope → Type 0) → Type 0
TellsScopes S = (s t u v : Scope) → S s t → S u v → same_scope t v ≡ same_scope s u

-- the scopes that a name passes on its way up to its own
abbrev pub scopes_passed : Declared → List Scope
scopes_passed d = take_while (λ scope. not (takes d.by scope)) d.scopes

-- a declaration excludes others as another one does that goes with it
pub record ExcludesAlike (S : Scope → Scope → Type 0) (d e : Declared) : Type 0 where
  pub lexical : is_lexical e ≡ is_lexical d
  pub is_var : is_var e.by ≡ is_var d.by
  pub taken : S (taker d) (taker e)
  pub grouped : S (group_of (from_taker d.by d.scopes)) (group_of (from_taker e.by e.scopes))
  pub passes : AllZip S (scopes_passed d) (scopes_passed e)

-- and has its symbol, where the other has no context
pub record Corresponds (S : Scope → Scope → Type 0) (d e : Declared) : Type 0 where
  pub goes : ExcludesAlike S d e
  pub symbol : e.name.sym ≡ d.name.sym
  pub plainly : d.name.ctxt ≡ None

-- these come, one by one, from declarations of a tree at places from `low` on and before `high`
pub record ComesFrom (S : Scope → Scope → Type 0) (all : List Declared) (low high : ℕ)
    (its : List Declared) : Type 0 where
  pub source : List Declared
  pub there : (d : Declared) → IsAmong source d → IsAmong all d
  pub within : (d : Declared) → IsAmong source d → (low ≤ d.place) × (d.place < high)
  pub once : (i j : ℕ) (a b : Declared) →
      slice_get source i ≡ Some a →
      slice_get source j ≡ Some b →
      a.place ≡ b.place →
      (i ≡ j) ⊎ (names_agree a.name b.name ≡ false)
  pub alike : AllZip (Corresponds S) source its

-- Items.

-- names that agree in two items are declared at their tops, and not so that they stand once
pub record TopsStandTogether (items : List (List Item)) : Type 0 where
  pub tops : (m n : ℕ) (item other : List Item) (a b : Declared) →
      m ≢ n →
      slice_get items m ≡ Some item →
      slice_get items n ≡ Some other →
      IsAmong (own_declared item) a →
      IsAmong (own_declared other) b →
      names_agree a.name b.name ≡ true →
      taker a ≡ Top
  pub often : (m n : ℕ) (item other : List Item) (a b : Declared) →
      m ≢ n →
      slice_get items m ≡ Some item →
      slice_get items n ≡ Some other →
      IsAmong (own_declared item) a →
      IsAmong (own_declared other) b →
      names_agree a.name b.name ≡ true →
      is_lexical a ≡ false

-- what an own statement becomes declares what the statement declares in its module; and no names
-- clash that another item declares
pub data IsDeclaredFor (p : Program) : Cause → List Item → Type 1 where
  of_statement : {m k : ℕ} {item : List Item} (S : Scope → Scope → Type 0)
      (statement : List Element) (top : TopItem) →
      TellsScopes S →
      ((s : Scope) → S s Top → s ≡ Top) →
      slice_get (own_statements (tree_of p m)) k ≡ Some statement →
      Contains (top_items (tree_of p m)) top →
      stated top.start top.items ≡ statement ∷ [] →
      ComesFrom S (declared BySymbol Es (tree_of p m)) top.start (top.start + length top.items)
      (own_declared item) →
      IsDeclaredFor p (Own m k) item
  of_another : {cause : Cause} {item : List Item} →
      ((m k : ℕ) → cause ≡ Own m k → ⊥) →
      NoneClash (own_declared item) →
      IsDeclaredFor p cause item
