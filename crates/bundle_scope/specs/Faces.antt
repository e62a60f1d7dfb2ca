-- What the calls on trees say of identifiers.
use Rattle.std.specs.Prelude.{ℕ, List, [], ◌∷◌}
use Rattle.bundle_rules.specs.Idents.{Ident}

-- identifiers with other contexts, in turn
abbrev pub in_contexts : List Ident → List ℕ → List Ident
in_contexts [] contexts = []
in_contexts (ident ∷ rest) [] = []
in_contexts (ident ∷ rest) (context ∷ contexts) = (ident.0, context) ∷ in_contexts rest contexts
