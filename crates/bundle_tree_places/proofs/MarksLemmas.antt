-- The marks of a list and its occurrences, element by element.
use Rattle.std.proofs.Common.{◌≡◌, true, false, List, [], ◌∷◌, refl, ap}
use Rattle.std.specs.Prelude.{map}
use Rattle.std.specs.List.{flat_map}
use Rattle.bundle_syntax.specs.declared.piece.Role.TheVariants.{Binding, Reference, Word}
use Rattle.bundle_syntax.specs.Item as h
use Rattle.bundle_syntax.specs.Item.{Item}
use Rattle.bundle_rules.specs.Places.{Spot, start, past, occurrences_from, is_binding}
use Rattle.bundle_rules.specs.Idents.{ident_of}
use Rattle.bundle_rules.specs.Rebuilds.{listed}
use Rattle.bundle_tree_places.specs.Marks.{listed_as}

-- from a spot on, the occurrences are those of the elements
listed_from : (spot : Spot) (items : List Item) → map (λ o. (ident_of o, is_binding o.role)) (occurrences_from spot items) ≡ flat_map listed_as items
listed_from spot [] = refl
listed_from spot (h.Open field head ∷ rest) = listed_from (past spot (h.Open field head)) rest
listed_from spot (h.Ident field sym ctxt Binding ∷ rest) = ap (λ more. ((sym, ctxt), true) ∷ more) (listed_from (past spot (h.Ident field sym ctxt Binding)) rest)
listed_from spot (h.Ident field sym ctxt Reference ∷ rest) = ap (λ more. ((sym, ctxt), false) ∷ more) (listed_from (past spot (h.Ident field sym ctxt Reference)) rest)
listed_from spot (h.Ident field sym ctxt Word ∷ rest) = listed_from (past spot (h.Ident field sym ctxt Word)) rest
listed_from spot (h.Hole field ∷ rest) = listed_from (past spot (h.Hole field)) rest
listed_from spot (h.Close ∷ rest) = listed_from (past spot h.Close) rest

-- the occurrences of a list are those of its elements
pub listed-each : (items : List Item) → listed items ≡ flat_map listed_as items
listed-each items = listed_from start items
