-- The elements so far are renamed, and the others are what they were.
use Rattle.std.proofs.Common.{◌≡◌, ◌≤◌, ℕ, take, length, get_or}
use Rattle.bundle_tree_listed.specs.Tree.{export_specifier_items}
use Rattle.bundle_tree_places.specs.Edits.{Anywhere}
use Rattle.bundle_tree_rename.specs.Renamed.{Renamed}
use Rattle.bundle_tree_rename.specs.Parts.{each, role_of}
use Rattle.bundle_tree_rename.proofs.rename.Rename.each_export_specifier.Given as goal

abbrev pub invariant-loop-index : goal.invariant-loop-index
invariant-loop-index l = ((length l.list.items ≡ length l.initial.list.items) × ((k : ℕ) (d : _) → l.index ≤ k → get_or l.list.items k d ≡ get_or l.initial.list.items k d)) × Renamed Anywhere (each (export_specifier_items (role_of l.initial.are_own))) l.initial.self (take l.index l.initial.list.items) (take l.index l.list.items) l.self
