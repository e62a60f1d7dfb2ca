-- Items of two trees that correspond, as far as order goes.
use Rattle.std.specs.Prelude.{◌≡◌, ◌↔◌, ℕ, ◌+◌, ◌&&◌, Bool, true, List, Some, slice_get}
use Rattle.std.specs.List.{AllZip}
use Rattle.bundle_syntax.specs.Item.{Item}
use Rattle.bundle_rules.specs.Places.{Occurrence, occurrences, is_binding}
use Rattle.bundle_rules.specs.Scopes.{Scope}
use Rattle.bundle_rules.specs.Declarations.{Reading}
use Rattle.bundle_rules.specs.Denotes.{Denoted}
use Rattle.bundle_rules.specs.Deferred.{runs_later}
use Rattle.bundle_rules.specs.Statements.{TopItem}
use Rattle.bundle_rules.specs.Mentions.{same_denoted}
use Rattle.bundle_rules.specs.Order.{is_assigned, is_in_argument, roots_chain, is_prototype_read, is_in_assign_of, has_no_value, is_object_at, denoted_in, is_of_scope}

-- what order asks of two identifiers that correspond, but for what they denote
pub record SameFlags (before after : List Item) (test_before test_after : ℕ → Bool)
    (o its : Occurrence) : Type 0 where
  pub declares : is_binding o.role ≡ is_binding its.role
  pub later : runs_later o.path ≡ runs_later its.path
  pub assigned : is_assigned o.path ≡ is_assigned its.path
  pub argument : is_in_argument o.path ≡ is_in_argument its.path
  pub chain : roots_chain o.path ≡ roots_chain its.path
  pub prototype : (is_prototype_read before o.path && is_in_assign_of test_before before o.path)
      ≡ (is_prototype_read after its.path && is_in_assign_of test_after after its.path)
  pub valueless : (is_binding o.role && has_no_value before o.path)
      ≡ (is_binding its.role && has_no_value after its.path)

-- whether the global `Object` stands at a place of an item
abbrev pub object_in : Reading → List Item → TopItem → ℕ → Bool
object_in reading tree item place = is_object_at reading tree (item.start + place)

-- two items have the same identifiers in turn, but for what they denote
abbrev pub ItemsAlike : Reading → List Item → Reading → List Item → TopItem → TopItem → Type 0
ItemsAlike reading tree its_reading its_tree item its =
    AllZip (SameFlags item.items its.items (object_in reading tree item)
    (object_in its_reading its_tree its)) (occurrences item.items) (occurrences its.items)

-- two identifiers of items denote one binding of this scope
pub record DenoteTop (reading : Reading) (top : Scope) (tree : List Item) (item : TopItem)
    (o : Occurrence) (other : TopItem) (p : Occurrence) : Type 0 where
  pub one : Denoted
  pub two : Denoted
  pub first : denoted_in reading tree item o ≡ Some one
  pub second : denoted_in reading tree other p ≡ Some two
  pub of_top : is_of_scope top one ≡ true
  pub same : same_denoted one two ≡ true

-- item s has this identifier with this number
pub record StandsInItem (items : List TopItem) (s i : ℕ) (item : TopItem)
    (o : Occurrence) : Type 0 where
  pub item_there : slice_get items s ≡ Some item
  pub there : slice_get (occurrences item.items) i ≡ Some o

-- items of two trees correspond: their identifiers do, and one that declares and any other denote
-- one top binding in the one tree exactly if those that stand for them do in the other
pub record Correspond (reading : Reading) (top : Scope) (tree : List Item) (items : List TopItem)
    (its_reading : Reading) (its_top : Scope) (its_tree : List Item) (its : List TopItem) : Type 0
  where
    pub alike : AllZip (ItemsAlike reading tree its_reading its_tree) items its
    pub tops : (s i t j : ℕ) (x y x' y' : TopItem) (o p o' p' : Occurrence) →
        StandsInItem items s i x o →
        StandsInItem items t j y p → StandsInItem its s i x' o' → StandsInItem its t j y' p' →
        is_binding p.role ≡ true →
        DenoteTop reading top tree x o y p ↔ DenoteTop its_reading its_top its_tree x' o' y' p'
