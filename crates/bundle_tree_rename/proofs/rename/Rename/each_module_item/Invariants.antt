-- The elements so far are renamed, and the others are what they were.
use Rattle.std.proofs.Common.{◌≡◌, ◌≤◌, ℕ, take, length, get_or}
use Rattle.bundle_tree_listed.specs.Tree.{module_item_items}
use Rattle.bundle_tree_places.specs.Edits.{Anywhere}
use Rattle.bundle_tree_rename.specs.Renamed.{Renamed}
use Rattle.bundle_tree_rename.specs.Parts.{each}
use Rattle.bundle_tree_rename.proofs.rename.Rename.each_module_item.Given as goal

abbrev pub invariant-loop-index : goal.invariant-loop-index
invariant-loop-index l = ((length l.items.items ≡ length l.initial.items.items) × ((k : ℕ) (d : _) → l.index ≤ k → get_or l.items.items k d ≡ get_or l.initial.items.items k d)) × Renamed Anywhere (each module_item_items) l.initial.self (take l.index l.initial.items.items) (take l.index l.items.items) l.self
