-- The identifiers in a list of elements.
use Rattle.std.specs.Prelude.{List, [], ◌∷◌}
use Rattle.bundle_syntax.specs.declared.piece.Role.TheVariants as r
use Rattle.bundle_syntax.specs.Item as h
use Rattle.bundle_syntax.specs.Item.{Item}
use Rattle.bundle_rules.specs.Idents.{Ident}

-- the identifiers that bind or refer in some elements, in their order
abbrev pub idents_among : List Item → List Ident
idents_among [] = []
idents_among (h.Ident field x ctxt r.Word ∷ rest) = idents_among rest
idents_among (h.Ident field x ctxt role ∷ rest) = (x, ctxt) ∷ idents_among rest
idents_among (h.Open field head ∷ rest) = idents_among rest
idents_among (h.Hole field ∷ rest) = idents_among rest
idents_among (h.Close ∷ rest) = idents_among rest
