-- The items of a part of a list of pieces.
use Rattle.std.specs.Prelude.{List, map}
use Rattle.bundle_syntax.specs.Item.{Item, item_of}
use Rattle.bundle_tree_places.specs.declared.parts.NodeAt.{NodeAt}

-- the items of a part
abbrev pub part_items : NodeAt → List Item
part_items part = map item_of part.pieces.now
