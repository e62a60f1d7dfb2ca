-- Lists of items by module, as a linker holds them while it joins modules: what stands in front,
-- the bodies, and what stands behind. Each part holds pairs of a module and an item, by modules as
-- these first came into it.
use Rattle.std.specs.Prelude.{◌≡◌, ℕ, nat_eq, Bool, true, false, List, [], ◌∷◌, ◌++◌, map, flat_map, filter, if◌then◌else◌}
use Rattle.std.specs.List.{AllZip}
use Rattle.bundle_syntax.specs.Item as h
use Rattle.bundle_syntax.specs.Item.{Item}
use Rattle.bundle_rules.specs.Nodes.{numbers_once}

-- an item with its module
abbrev pub Owned : Type 0
Owned = ℕ × List Item

-- the items by modules, as these first come, each module's in their order
abbrev pub by_modules : List Owned → List Owned
by_modules [] = []
by_modules ((m, item) ∷ rest) =
    (m, item) ∷ (filter (λ pair. nat_eq pair.0 m) rest ++ others m (by_modules rest))
  where
    others : ℕ → List Owned → List Owned
    others n pairs = filter (λ pair. if nat_eq pair.0 n then false else true) pairs

-- the items of a module
abbrev pub items_in : List Owned → ℕ → List (List Item)
items_in pairs m = map (λ pair. pair.1) (filter (λ pair. nat_eq pair.0 m) pairs)

-- the tree in which items stand one after the other
abbrev pub tree_of_items : List Item → List Item
tree_of_items items = h.Open 0 h.Module ∷ (items ++ h.Close ∷ [])

-- the three parts
pub record Parts : Type 0 where
  pub prepended : List Owned
  pub bodies : List Owned
  pub appended : List Owned

-- nothing
abbrev pub no_parts : Parts
no_parts = record { prepended = []; bodies = []; appended = [] }

-- items, as those of a module
abbrev pub owned_by : ℕ → List (List Item) → List Owned
owned_by m items = map (λ item. (m, item)) items

-- the items of a module, as its body
abbrev pub parts_of : ℕ → List (List Item) → Parts
parts_of m items = record { prepended = []; bodies = owned_by m items; appended = [] }

-- all items, in the order in which they are gone through: the parts in turn
abbrev pub in_order : Parts → List Owned
in_order parts = parts.prepended ++ (parts.bodies ++ parts.appended)

-- the items as one module
abbrev pub body_of : Parts → List Item
body_of parts = tree_of_items (flat_map (λ pair. pair.1) (in_order parts))

-- What is added.

-- one more item, behind the last one of its module; at the end where the module has none
abbrev pub put : List Owned → Owned → List Owned
put pairs one = by_modules (pairs ++ one ∷ [])

-- one more item in front
abbrev pub with_prepended : Parts → Owned → Parts
with_prepended parts one = record parts { prepended = put parts.prepended one }

-- one more item behind
abbrev pub with_appended : Parts → Owned → Parts
with_appended parts one = record parts { appended = put parts.appended one }

-- more items behind, in turn
abbrev pub with_all_appended : Parts → List Owned → Parts
with_all_appended parts [] = parts
with_all_appended parts (one ∷ rest) = with_all_appended (with_appended parts one) rest

-- each part of b behind the same part of a
abbrev pub joined : Parts → Parts → Parts
joined a b = record {
  prepended = by_modules (a.prepended ++ b.prepended);
  bodies = by_modules (a.bodies ++ b.bodies);
  appended = by_modules (a.appended ++ b.appended);
}

-- What is changed, by functions.

-- the modules of a part, as they first came into it
abbrev pub modules_in : List Owned → List ℕ
modules_in pairs = numbers_once (map (λ pair. pair.0) pairs)

-- the same of each part
abbrev pub in_each_part : (List Owned → List Owned) → Parts → Parts
in_each_part f parts =
    record { prepended = f parts.prepended; bodies = f parts.bodies; appended = f parts.appended }

-- each module's list of items mapped, part by part
abbrev pub with_lists : (ℕ → List (List Item) → List (List Item)) → Parts → Parts
with_lists f parts =
    in_each_part (λ pairs. flat_map (λ m. owned_by m (f m (items_in pairs m))) (modules_in pairs))
    parts

-- each item mapped
abbrev pub with_items : (ℕ → List Item → List Item) → Parts → Parts
with_items f parts = in_each_part (map (λ pair. (pair.0, f pair.0 pair.1))) parts

-- the items that pass a test
abbrev pub with_only : (ℕ → List Item → Bool) → Parts → Parts
with_only test parts = in_each_part (filter (λ pair. test pair.0 pair.1)) parts

-- The same by what a closure answers, which is perhaps no function.

-- something holds of each part before and after
pub record HoldsOfParts
    (Holds : List Owned → List Owned → Type 0) (before after : Parts) : Type 0 where
  pub prepended : Holds before.prepended after.prepended
  pub bodies : Holds before.bodies after.bodies
  pub appended : Holds before.appended after.appended

-- `ListsAnswered May pairs modules new`: for each of these modules, its list of items is replaced
-- by what may be answered to it
pub data ListsAnswered
    (May : ℕ → List (List Item) → List (List Item) → Type 0) (pairs : List Owned) :
    List ℕ → List Owned → Type 0 where
  over : ListsAnswered May pairs [] []
  next : {m : ℕ} {rest : List ℕ} {new : List Owned} (answer : List (List Item)) →
      May m (items_in pairs m) answer →
      ListsAnswered May pairs rest new →
      ListsAnswered May pairs (m ∷ rest) (owned_by m answer ++ new)

-- each module's list of items in each part is replaced by an answer
abbrev pub MapsLists : (ℕ → List (List Item) → List (List Item) → Type 0) → Parts → Parts → Type 0
MapsLists May before after =
    HoldsOfParts (λ old new. ListsAnswered May old (modules_in old) new) before after

-- an item of the same module, as may be answered
pub record ItemAnswered (May : ℕ → List Item → List Item → Type 0) (old new : Owned) : Type 0 where
  pub same : new.0 ≡ old.0
  pub answered : May old.0 old.1 new.1

-- each item is replaced by an answer
abbrev pub MapsItems : (ℕ → List Item → List Item → Type 0) → Parts → Parts → Type 0
MapsItems May before after = HoldsOfParts (AllZip (ItemAnswered May)) before after

-- `Retained May old new`: an item for which true is answered stays, and one for which false is
-- answered goes
pub data Retained (May : ℕ → List Item → Bool → Type 0) : List Owned → List Owned → Type 0 where
  over : Retained May [] []
  stays : {one : Owned} {old new : List Owned} →
      May one.0 one.1 true →
      Retained May old new →
      Retained May (one ∷ old) (one ∷ new)
  goes : {one : Owned} {old new : List Owned} →
      May one.0 one.1 false →
      Retained May old new →
      Retained May (one ∷ old) new

-- the items stay for which true is answered
abbrev pub Retains : (ℕ → List Item → Bool → Type 0) → Parts → Parts → Type 0
Retains May before after = HoldsOfParts (Retained May) before after
