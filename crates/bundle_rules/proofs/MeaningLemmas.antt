-- How a meaning begins, by how the statement does.
use Rattle.std.proofs.Common.{◌≡◌, ℕ, List, [], ◌∷◌, ◌++◌, Some, refl}
use Rattle.bundle_syntax.specs.declared.piece.Role.TheVariants.{Reference}
use Rattle.bundle_syntax.specs.Item as h
use Rattle.bundle_syntax.specs.Item.{Head}
use Rattle.bundle_rules.specs.Places.{path_at}
use Rattle.bundle_rules.specs.Denotes.{Denoted, Global}
use Rattle.bundle_rules.specs.Nodes.{Text}
use Rattle.bundle_rules.specs.Statements.{Element, taken}
use Rattle.bundle_rules.specs.Meaning.{Mark, Meant, Replacement, Sense, Means, finished, replaced, begun, ended, named, inside, unbound, Unbound, NameMeans, denoted, begin_marks, end_marks, name_marks}

-- a node that is not replaced begins
pub begun_first : (sense : Sense) (inner : List Denoted) (place field : ℕ) (head : Head) (rest : List Element) (marks : List Mark) → ((by : Replacement) → sense.replaced place by → ⊥) → Means sense inner (taken place (h.Open field head) ∷ rest) marks → (more : List Mark) × Means sense inner rest more × (marks ≡ begin_marks sense.view.tree place field (path_at sense.view.tree place) head ++ more)
begun_first sense inner place field head rest marks stays (replaced by is means) = absurd (stays by is)
begun_first sense inner place field head rest marks stays (begun {marks = more} not means) = (more, means, refl)

-- a node ends
pub ended_first : (sense : Sense) (inner : List Denoted) (place : ℕ) (rest : List Element) (marks : List Mark) → Means sense inner (taken place h.Close ∷ rest) marks → (more : List Mark) × Means sense inner rest more × (marks ≡ end_marks sense.view.tree (path_at sense.view.tree place) ++ more)
ended_first sense inner place rest marks (ended {marks = more} means) = (more, means, refl)

-- a name that is used means what it denotes
pub named_first : (sense : Sense) (inner : List Denoted) (place field ctxt : ℕ) (sym : Text) (rest : List Element) (marks : List Mark) → Means sense inner (taken place (h.Ident field sym ctxt Reference) ∷ rest) marks → (d : Denoted) × (meant : Meant) × (more : List Mark) × (denoted sense.view (taken place (h.Ident field sym ctxt Reference)) ≡ Some d) × NameMeans sense inner d meant × Means sense inner rest more × (marks ≡ name_marks field (path_at sense.view.tree place) sym meant ++ more)
named_first sense inner place field ctxt sym rest marks (named {marks = more} d meant is means_it means) = (d, meant, more, is, means_it, means, refl)

-- the end of the statement is the end of the meaning
pub finished_first : (sense : Sense) (inner : List Denoted) (marks : List Mark) → Means sense inner [] marks → marks ≡ []
finished_first sense inner marks finished = refl

-- a global that is not inside means itself
pub global_means : (sense : Sense) (x : Text) (meant : Meant) → NameMeans sense [] (Global x) meant → meant ≡ Unbound x
global_means sense x meant (inside e) = cc
global_means sense x meant unbound = refl
