-- Where items stand, and when two of them have the same identifiers.
use Rattle.std.specs.Prelude.{◌≡◌, ℕ, List, [], ◌++◌, Some, drop, take, fold, slice_get}
use Rattle.bundle_syntax.specs.Item.{Item}
use Rattle.bundle_rules.specs.Places.{Occurrence, occurrences, past, start, in_field}
use Rattle.bundle_rules.specs.Declarations.{Reading}
use Rattle.bundle_rules.specs.Statements.{TopItem}
use Rattle.bundle_merge_theory.specs.grouped.Standing.{object_in}
use Rattle.bundle_merge_theory.specs.grouped.Forms.{Under}

-- the item stands at its place of the tree
pub record IsTopPlaced (tree : List Item) (item : TopItem) : Type 0 where
  pub rest : List Item
  pub is : drop item.start tree ≡ item.items ++ rest

-- the global `Object` stands at both places or at neither, where identifiers of two items
-- correspond
abbrev pub ObjectsAlike : Reading → List Item → Reading → List Item → TopItem → TopItem → Type 0
ObjectsAlike reading tree its_reading its_tree item its =
    (i : ℕ) (o p : Occurrence) → slice_get (occurrences item.items) i ≡ Some o →
    slice_get (occurrences its.items) i ≡ Some p → object_in reading tree item o.place
    ≡ object_in its_reading its_tree its p.place

-- the item stands directly in the module of its tree
pub record IsDirect (tree : List Item) (item : TopItem) : Type 0 where
  pub rest : List Item
  pub is : drop item.start tree ≡ item.items ++ rest
  pub under : (m : ℕ) → Under [] (in_field m (fold past start (take item.start tree)).path)
