-- Lists without plain words that are identifiers.
use Rattle.std.specs.Prelude.{◌≡◌, true, List, [], ◌∷◌}
use Rattle.bundle_syntax.specs.Item as h
use Rattle.bundle_syntax.specs.Item.{Item}
use Rattle.bundle_tree_places.specs.Edits.{is_occurrence}

-- each identifier binds or refers
abbrev pub HasNoWords : List Item → Type 0
HasNoWords [] = Unit {0}
HasNoWords (h.Ident field x ctxt role ∷ rest) = (is_occurrence role ≡ true) × HasNoWords rest
HasNoWords (item ∷ rest) = HasNoWords rest
