-- The marks of a tree and its occurrences say the same of its identifiers.
use Rattle.std.specs.Prelude.{◌≡◌, true, false, List, [], ◌∷◌, map}
use Rattle.std.proofs.Common.{refl, ap}
use Rattle.bundle_syntax.specs.declared.piece.Role.TheVariants.{Binding, Reference, Word}
use Rattle.bundle_syntax.specs.Item as h
use Rattle.bundle_syntax.specs.Item.{Item}
use Rattle.bundle_rules.specs.Places.{Spot, start, past, occurrences_from, is_binding}
use Rattle.bundle_rules.specs.Idents.{ident_of}
use Rattle.bundle_rules.specs.Rebuilds.{marks_of, listed, listed_in}

-- from a spot on, the identifiers among the marks are the occurrences
listed_in_from : (spot : Spot) (items : List Item) → listed_in (marks_of items) ≡ map (λ o. (ident_of o, is_binding o.role)) (occurrences_from spot items)
listed_in_from spot [] = refl
listed_in_from spot (h.Open field head ∷ rest) = listed_in_from (past spot (h.Open field head)) rest
listed_in_from spot (h.Ident field sym ctxt Binding ∷ rest) = ap (λ more. ((sym, ctxt), true) ∷ more) (listed_in_from (past spot (h.Ident field sym ctxt Binding)) rest)
listed_in_from spot (h.Ident field sym ctxt Reference ∷ rest) = ap (λ more. ((sym, ctxt), false) ∷ more) (listed_in_from (past spot (h.Ident field sym ctxt Reference)) rest)
listed_in_from spot (h.Ident field sym ctxt Word ∷ rest) = listed_in_from (past spot (h.Ident field sym ctxt Word)) rest
listed_in_from spot (h.Hole field ∷ rest) = listed_in_from (past spot (h.Hole field)) rest
listed_in_from spot (h.Close ∷ rest) = listed_in_from (past spot h.Close) rest

-- the identifiers among the marks of a tree are its occurrences
pub listed_in-marks_of : (tree : List Item) → listed_in (marks_of tree) ≡ listed tree
listed_in-marks_of tree = listed_in_from start tree
