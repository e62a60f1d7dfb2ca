-- A tree with other names, in which each occurrence denotes what corresponds to what it denoted:
-- what is said of it.
use Rattle.std.specs.Prelude.{◌≡◌, ℕ, List, Contains, map}
use Rattle.std.specs.List.{AllZip}
use Rattle.bundle_syntax.specs.Item.{Item}
use Rattle.bundle_rules.specs.Places.{Occurrence, occurrences}
use Rattle.bundle_rules.specs.Scopes.{Es, Scope, Wrapper, Top, Inner, scopes_around}
use Rattle.bundle_rules.specs.Declarations.{Reading, Name}
use Rattle.bundle_rules.specs.Denotes.{Denoted, Bound, Global, denotations}
use Rattle.bundle_rules.specs.Mentions.{same_denoted}
use Rattle.bundle_rules.specs.Meaning.{Label, Labelling}

-- a scope whose node begins elsewhere
abbrev pub placed_scope : (ℕ → ℕ) → Scope → Scope
placed_scope move Wrapper = Wrapper
placed_scope move Top = Top
placed_scope move (Inner kind begins) = Inner kind (move begins)

-- an occurrence stands in the scopes of another, which have moved
abbrev pub StandsInMoved : (ℕ → ℕ) → Occurrence → Occurrence → Type 0
StandsInMoved move o p = scopes_around Es p.path ≡ map (placed_scope move) (scopes_around Es o.path)

-- `Becoming reading before other after`: the occurrences of the tree after, read in one way, denote
-- one by one what becomes of what those of the tree before denote, read in another
pub record Becoming (reading : Reading) (before : List Item) (other : Reading)
    (after : List Item) : Type 0 where
  pub becomes : Denoted → Denoted
  pub move : ℕ → ℕ
  pub stands : AllZip (StandsInMoved move) (occurrences before) (occurrences after)
  pub are : denotations other Es after ≡ map becomes (denotations reading Es before)
  -- bindings stay bindings of the same scopes, and globals stay
  pub bindings : (scope : Scope) (name : Name) →
      (its : Name) × (becomes (Bound scope name) ≡ Bound (placed_scope move scope) its)
  pub globals : (x : List ℕ) → becomes (Global x) ≡ Global x
  -- what is denoted stays apart
  pub one : (d e : Denoted) →
      Contains (denotations reading Es before) d →
      Contains (denotations reading Es before) e →
      becomes d ≡ becomes e →
      d ≡ e
  pub same : (d e : Denoted) →
      Contains (denotations reading Es before) d →
      Contains (denotations reading Es before) e →
      same_denoted d e ≡ same_denoted (becomes d) (becomes e)

-- each labelled binding is denoted somewhere
abbrev pub AllOccur : Reading → List Item → Labelling → Type 0
AllOccur reading tree labels =
    (d : Denoted) (l : Label) → Contains labels (d, l) → Contains (denotations reading Es tree) d

-- the labels of what becomes of the bindings
abbrev pub labels_of : (Denoted → Denoted) → Labelling → Labelling
labels_of becomes labels = map (λ pair. (becomes pair.0, pair.1)) labels
