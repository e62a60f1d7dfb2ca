-- The numbering of items that are to be sorted: those of modules in their order, and then the free
-- ones.
use Rattle.std.specs.Prelude.{◌≡◌, ℕ, ◌+◌, Bool, true, false, not, cond, List, [], ◌∷◌, ◌++◌, length, map, slice_get, slice_index_or, option_map}
use Rattle.std.specs.List.{AllZip}
use Rattle.bundle_syntax.specs.Item.{Item}
use Rattle.bundle_rules.specs.Order.{IsGoodOrder}
use Rattle.bundle_rules.specs.Sorting.{Numbered, flat, group_of_items, is_injected, numbered_items}
use Rattle.bundle_order.specs.declared.number.ItemPlace.{ItemPlace}
use Rattle.bundle_order_sort.specs.Arranged.{IsArrangement}
use Rattle.bundle_order.specs.Owned.{owner_by}

-- the number of its module for each item of a list of modules, counted from k on
abbrev pub owners_of : {X : Type 0} → ℕ → List (List X) → List ℕ
owners_of k [] = []
owners_of k (items ∷ rest) = map (λ item. k) items ++ owners_of (k + 1) rest

-- whether an item is one of the free ones, or one of the others
abbrev pub is_chosen : Bool → List Item → Bool
is_chosen are_free item = cond are_free (is_injected item) (not (is_injected item))

-- the place of an item that is chosen
abbrev pub place_of : Bool → ℕ → ℕ → ItemPlace
place_of are_free at number = record { at = at; owner = owner_by (number, are_free) }

-- the places of the items that are chosen, counted from i on
abbrev pub chosen_places : Bool → ℕ → List (List Item) → List ℕ → List ItemPlace
chosen_places are_free i [] owners = []
chosen_places are_free i (item ∷ items) [] = []
chosen_places are_free i (item ∷ items) (number ∷ owners) =
    cond (is_chosen are_free item)
    (place_of are_free i number ∷ chosen_places are_free (i + 1) items owners)
    (chosen_places are_free (i + 1) items owners)

-- the places of all items in their numbering
abbrev pub all_places : List (List Item) → List ℕ → List ItemPlace
all_places items owners = chosen_places false 0 items owners ++ chosen_places true 0 items owners

-- the item at a place, and its module
abbrev pub numbered_at : List (List Item) → ItemPlace → Numbered
numbered_at items place = (slice_index_or items place.at [], place.owner)

abbrev pub at_of : ItemPlace → ℕ
at_of place = place.at

-- the order of the places of items sorts the modules that these are of
pub record IsSortedBy
    (modules : List (List (List Item))) (items : List (List Item)) (order : List ℕ) : Type 0 where
  pub numbers : List ℕ
  pub good :
      IsGoodOrder
      (group_of_items (flat (map (λ one. one.0) (numbered_items modules)))
      (map (λ one. one.1) (numbered_items modules))) numbers
  pub each :
      AllZip
      (λ n at.
      option_map (λ one. one.0) (slice_get (numbered_items modules) n) ≡ slice_get items at)
      numbers order
  pub whole : IsArrangement order (length items)

-- the order of the places of a module's items is their own, with the free ones last
pub record IsOwnOrder (items : List (List Item)) (order : List ℕ) : Type 0 where
  pub listed :
      map (λ at. slice_index_or items at []) order
      ≡ map (λ one. one.0) (numbered_items (items ∷ []))
  pub whole : IsArrangement order (length items)
