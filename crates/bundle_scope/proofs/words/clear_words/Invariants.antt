-- The lists so far are the same, the contexts of plain words aside, and those passed have no others.
use Rattle.std.proofs.Common.{◌≡◌, length}
use Rattle.std.specs.List.{flat_map}
use Rattle.bundle_tree_listed.specs.Tree.{module_item_items}
use Rattle.bundle_scope.specs.Named.{words_aside}
use Rattle.bundle_scope.proofs.WordsLemmas.{AreClearTo}
use Rattle.bundle_scope.proofs.words.clear_words.Given as goal

abbrev pub invariant-loop-place : goal.invariant-loop-place
invariant-loop-place l = (length l.items.items ≡ l.place-end) × (words_aside (flat_map (module_item_items 0) l.items.items) ≡ words_aside (flat_map (module_item_items 0) l.initial.items.items))
    × AreClearTo (module_item_items 0) l.place l.items.items
