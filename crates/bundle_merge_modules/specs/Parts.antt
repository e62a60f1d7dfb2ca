-- Lists of items by module, of whatever kind: what stands in front, the bodies, and what stands
-- behind. Each part holds pairs of a module and an item, by modules as these first came into it.
use Rattle.std.specs.Prelude.{◌≡◌, ℕ, ◌==◌, nat_eq, not, Bool, true, false, List, [], ◌∷◌, ◌++◌, Option, Some, None, map, filter, length, IsPermutation, if◌then◌else◌}
use Rattle.std.specs.List.{AllZip}
use Rattle.bundle_order_sort.specs.Arranged.{AreArranged, IsArrangement}

-- an item with its module
abbrev pub OwnedOf : Type 0 → Type 0
OwnedOf A = ℕ × A

-- the items of other modules
abbrev pub others : {A : Type 0} → ℕ → List (OwnedOf A) → List (OwnedOf A)
others m pairs = filter (λ pair. if nat_eq pair.0 m then false else true) pairs

-- the items by modules, as these first come, each module's in their order
abbrev pub by_modules_of : {A : Type 0} → List (OwnedOf A) → List (OwnedOf A)
by_modules_of [] = []
by_modules_of ((m, item) ∷ rest) =
    (m, item) ∷ (filter (λ pair. nat_eq pair.0 m) rest ++ others m (by_modules_of rest))

-- the items of a module
abbrev pub items_of_owner : {A : Type 0} → List (OwnedOf A) → ℕ → List A
items_of_owner pairs m = map (λ pair. pair.1) (filter (λ pair. nat_eq pair.0 m) pairs)

-- items, as those of a module
abbrev pub owned_by_module : {A : Type 0} → ℕ → List A → List (OwnedOf A)
owned_by_module m items = map (λ item. (m, item)) items

-- the three parts
pub record HeldOf (A : Type 0) : Type 0 where
  pub prepended : List (OwnedOf A)
  pub bodies : List (OwnedOf A)
  pub appended : List (OwnedOf A)

-- nothing
abbrev pub nothing : {A : Type 0} → HeldOf A
nothing = record { prepended = []; bodies = []; appended = [] }

-- the items of one module, as its body
abbrev pub body_held : {A : Type 0} → ℕ → List A → HeldOf A
body_held m items = record { prepended = []; bodies = owned_by_module m items; appended = [] }

-- all items, in the order in which they are gone through: the parts in turn
abbrev pub all_in_order : {A : Type 0} → HeldOf A → List (OwnedOf A)
all_in_order held = held.prepended ++ (held.bodies ++ held.appended)

-- the items in that order, without their modules
abbrev pub items_held : {A : Type 0} → HeldOf A → List A
items_held held = map (λ pair. pair.1) (all_in_order held)

-- all items are put into this order of their places, as the body of a module
pub record IsArrangedAs {A : Type 0} (m : ℕ) (order : List ℕ)
    (before after : HeldOf A) : Type 0 where
  pub items : List A
  pub is : after ≡ body_held m items
  pub moved : IsPermutation (items_held before) items
  pub arranged : IsArrangement order (length (items_held before)) →
      AreArranged order (items_held before) items

-- one more item, behind the last one of its module; at the end where the module has none
abbrev pub put_last : {A : Type 0} → List (OwnedOf A) → OwnedOf A → List (OwnedOf A)
put_last pairs one = by_modules_of (pairs ++ one ∷ [])

-- more items, each behind the last one of its module, in turn
abbrev pub put_in_turn : {A : Type 0} → List (OwnedOf A) → List (OwnedOf A) → List (OwnedOf A)
put_in_turn pairs [] = pairs
put_in_turn pairs (one ∷ rest) = put_in_turn (put_last pairs one) rest

-- each part of b behind the same part of a
abbrev pub held_joined : {A : Type 0} → HeldOf A → HeldOf A → HeldOf A
held_joined a b = record {
  prepended = by_modules_of (a.prepended ++ b.prepended);
  bodies = by_modules_of (a.bodies ++ b.bodies);
  appended = by_modules_of (a.appended ++ b.appended);
}

-- the numbers in their order, each once, where it stands first
abbrev pub once : List ℕ → List ℕ
once [] = []
once (n ∷ rest) = n ∷ filter (λ m. not (n == m)) (once rest)

-- the modules of a part, as they first came into it
abbrev pub modules_of_part : {A : Type 0} → List (OwnedOf A) → List ℕ
modules_of_part pairs = once (map (λ pair. pair.0) pairs)

-- the lists of a part, each with its module
abbrev pub lists_by_module : {A : Type 0} → List (OwnedOf A) → List (ℕ × List A)
lists_by_module pairs = map (λ m. (m, items_of_owner pairs m)) (modules_of_part pairs)

-- the lists in the order in which they are gone through: the parts in turn
abbrev pub lists_in_order_of : {A : Type 0} → HeldOf A → List (ℕ × List A)
lists_in_order_of held =
    lists_by_module held.prepended ++ (lists_by_module held.bodies ++ lists_by_module held.appended)

-- something holds of each part before and after
pub record HoldsOfEachPart
    {A : Type 0} (Holds : List (OwnedOf A) → List (OwnedOf A) → Type 0)
    (before after : HeldOf A) : Type 0 where
  pub prepended : Holds before.prepended after.prepended
  pub bodies : Holds before.bodies after.bodies
  pub appended : Holds before.appended after.appended

-- `ListsAnswered May pairs modules new`: for each of these modules, its list of items is replaced
-- by what may be answered to it
pub data ListsAnsweredOf
    {A : Type 0} (May : ℕ → List A → List A → Type 0) (pairs : List (OwnedOf A)) :
    List ℕ → List (OwnedOf A) → Type 0 where
  over : ListsAnsweredOf May pairs [] []
  next : {m : ℕ} {rest : List ℕ} {new : List (OwnedOf A)} (answer : List A) →
      May m (items_of_owner pairs m) answer →
      ListsAnsweredOf May pairs rest new →
      ListsAnsweredOf May pairs (m ∷ rest) (owned_by_module m answer ++ new)

-- each module's list of items in each part is replaced by an answer
abbrev pub MapsListsOf : {A : Type 0} → (ℕ → List A → List A → Type 0) → HeldOf A → HeldOf A →
    Type 0
MapsListsOf May before after =
    HoldsOfEachPart (λ old new. ListsAnsweredOf May old (modules_of_part old) new) before after

-- an item of the same module, as may be answered
pub record ItemAnsweredOf {A : Type 0} (May : ℕ → A → A → Type 0)
    (old new : OwnedOf A) : Type 0 where
  pub same : new.0 ≡ old.0
  pub answered : May old.0 old.1 new.1

-- each item is replaced by an answer
abbrev pub MapsItemsOf : {A : Type 0} → (ℕ → A → A → Type 0) → HeldOf A → HeldOf A → Type 0
MapsItemsOf May before after = HoldsOfEachPart (AllZip (ItemAnsweredOf May)) before after

-- `Retained May old new`: an item for which true is answered stays, and one for which false is
-- answered goes
pub data RetainedOf {A : Type 0} (May : ℕ → A → Bool → Type 0) :
    List (OwnedOf A) → List (OwnedOf A) → Type 0 where
  over : RetainedOf May [] []
  stays : {one : OwnedOf A} {old new : List (OwnedOf A)} →
      May one.0 one.1 true →
      RetainedOf May old new →
      RetainedOf May (one ∷ old) (one ∷ new)
  goes : {one : OwnedOf A} {old new : List (OwnedOf A)} →
      May one.0 one.1 false →
      RetainedOf May old new →
      RetainedOf May (one ∷ old) new

-- the items stay for which true is answered
abbrev pub RetainsOf : {A : Type 0} → (ℕ → A → Bool → Type 0) → HeldOf A → HeldOf A → Type 0
RetainsOf May before after = HoldsOfEachPart (RetainedOf May) before after

-- `Answered May old new`: an item for which none is answered goes, and any other is replaced by its
-- answer
pub data Answered {A : Type 0} (May : ℕ → A → Option A → Type 0) :
    List (OwnedOf A) → List (OwnedOf A) → Type 0 where
  over : Answered May [] []
  goes : {m : ℕ} {item : A} {old new : List (OwnedOf A)} →
      May m item None →
      Answered May old new →
      Answered May ((m, item) ∷ old) new
  stays : {m : ℕ} {item answer : A} {old new : List (OwnedOf A)} →
      May m item (Some answer) →
      Answered May old new →
      Answered May ((m, item) ∷ old) ((m, answer) ∷ new)

-- each item is replaced by its answer, or goes
abbrev pub MapsSomeOf : {A : Type 0} → (ℕ → A → Option A → Type 0) → HeldOf A → HeldOf A → Type 0
MapsSomeOf May before after = HoldsOfEachPart (Answered May) before after
