-- What the names of an item have to denote in a bundle, so that it means what a statement of a
-- module does.
use Rattle.std.specs.Prelude.{◌≡◌, ℕ, false, Contains}
use Rattle.bundle_rules.specs.Scopes.{Scope}
use Rattle.bundle_rules.specs.Declarations.{Name as Known_as}
use Rattle.bundle_rules.specs.Denotes.{Denoted, Bound, Global}
use Rattle.bundle_rules.specs.Meaning.{Label, Meant, Inside, Known, Unbound, Labelling, is_inside}

-- a binding that stands for the label
pub record IsBoundAs (labels : Labelling) (l : Label) (e : Denoted) : Type 0 where
  pub scope : Scope
  pub name : Known_as
  pub is : e ≡ Bound scope name
  pub labelled : Contains labels (Bound scope name, l)

-- a name of a statement that begins at this place means this by no binding inside
abbrev pub MeansOutside : Labelling → (start : ℕ) → Meant → Denoted → Type 0
MeansOutside labels start (Known l) e = (is_inside start e ≡ false) × IsBoundAs labels l e
MeansOutside labels start (Unbound x) e = e ≡ Global x
MeansOutside labels start (Inside n) e = ⊥
