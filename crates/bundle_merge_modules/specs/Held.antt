-- Items of modules as the trees that they are.
use Rattle.std.specs.Prelude.{◌≡◌, ℕ, Bool, List, [], ◌∷◌, Option, Some, None, ◌++◌, Result, Ok, Err, map, option_map}
use Rattle.std.specs.Borrow.{Bor}
use Rattle.std.specs.declared.alloc.Global.{Global}
use Rattle.std.specs.declared.vec.Vec.{Vec}
use Rattle.bundle_tree_ast.specs.declared.module.ModuleItem.{ModuleItem}
use Rattle.bundle_syntax.specs.Item.{Item}
use Rattle.bundle_tree_listed.specs.Tree.{module_item_items}
use Rattle.bundle_merge_modules.specs.Parts.{HeldOf, OwnedOf}
use Rattle.bundle_merge_modules.specs.Refused.{StopsAt}
use Rattle.bundle_rules.specs.Parts.{HoldsOfParts, Owned, Parts, items_in, modules_in}

-- an item with its module
abbrev pub owned_tree : OwnedOf ModuleItem → Owned
owned_tree pair = (pair.0, module_item_items 0 pair.1)

-- items, each with its module
abbrev pub trees_of : List (OwnedOf ModuleItem) → List Owned
trees_of pairs = map owned_tree pairs

-- the three parts
abbrev pub parts_held : HeldOf ModuleItem → Parts
parts_held held =
    record {
      prepended = trees_of held.prepended;
      bodies = trees_of held.bodies;
      appended = trees_of held.appended;
    }

-- a call for a module and an item may answer this
abbrev pub AsksItem : (ℕ → Bor ModuleItem → Bool → Type 0) → ℕ → List Item → Bool → Type 0
AsksItem calls m item answer =
    (given : Bor ModuleItem) × (module_item_items 0 given.now ≡ item) × calls m given answer

-- a call for a module and an item may answer that item
abbrev pub Replies : {E : Type 0} → (ℕ → Bor ModuleItem → Result ModuleItem E → Type 0) → ℕ →
    List Item → List Item → Type 0
Replies calls m item answer =
    (given : Bor ModuleItem) × (got : ModuleItem) × (module_item_items 0 given.now ≡ item)
    × calls m given (Ok got) × (module_item_items 0 got ≡ answer)

-- a call for a module and these items may answer those
abbrev pub AnswersItems : {E : Type 0} →
    (ℕ → Bor (List ModuleItem) → Result (Vec ModuleItem Global) E → Type 0) → ℕ → List (List Item) →
    List (List Item) → Type 0
AnswersItems calls m items answer =
    (given : Bor (List ModuleItem)) × (got : Vec ModuleItem Global)
    × (map (module_item_items 0) given.now ≡ items) × calls m given (Ok got)
    × (map (module_item_items 0) got.items ≡ answer)

-- a call for a module and an item may answer that item, or none
abbrev pub PicksItem : {E : Type 0} → (ℕ → Bor ModuleItem → Result (Option ModuleItem) E → Type 0) →
    ℕ → List Item → Option (List Item) → Type 0
PicksItem calls m item answer =
    (given : Bor ModuleItem) × (got : Option ModuleItem) × (module_item_items 0 given.now ≡ item)
    × calls m given (Ok got) × (option_map (module_item_items 0) got ≡ answer)

-- `Picked May old new`: an item for which none is answered goes, and any other is replaced by its
-- answer
pub data PickedOwned (May : ℕ → List Item → Option (List Item) → Type 0) :
    List Owned → List Owned → Type 0 where
  over : PickedOwned May [] []
  goes : {m : ℕ} {item : List Item} {old new : List Owned} →
      May m item None →
      PickedOwned May old new →
      PickedOwned May ((m, item) ∷ old) new
  stays : {m : ℕ} {item answer : List Item} {old new : List Owned} →
      May m item (Some answer) →
      PickedOwned May old new →
      PickedOwned May ((m, item) ∷ old) ((m, answer) ∷ new)

-- each item is replaced by its answer, or goes
abbrev pub MapsSome : (ℕ → List Item → Option (List Item) → Type 0) → Parts → Parts → Type 0
MapsSome May before after = HoldsOfParts (PickedOwned May) before after

-- Why nothing is changed: a closure refused.

-- the lists of a part, each with its module
abbrev pub module_lists : List Owned → List (ℕ × List (List Item))
module_lists pairs = map (λ m. (m, items_in pairs m)) (modules_in pairs)

-- the lists in the order in which they are gone through: the parts in turn
abbrev pub lists_in_order : Parts → List (ℕ × List (List Item))
lists_in_order parts =
    module_lists parts.prepended ++ (module_lists parts.bodies ++ module_lists parts.appended)

-- a call for a module and an item may be refused so
abbrev pub RefusesCall :
    {B E : Type 0} → (ℕ → Bor ModuleItem → Result B E → Type 0) → E → Owned → Type 0
RefusesCall calls refusal one =
    (given : Bor ModuleItem) × (module_item_items 0 given.now ≡ one.1)
    × calls one.0 given (Err refusal)

-- a call for a module and these items may be refused so
abbrev pub RefusesAll : {B E : Type 0} → (ℕ → Bor (List ModuleItem) → Result B E → Type 0) → E →
    ℕ × List (List Item) → Type 0
RefusesAll calls refusal one =
    (given : Bor (List ModuleItem)) × (map (module_item_items 0) given.now ≡ one.1)
    × calls one.0 given (Err refusal)

-- of calls for these lists of modules in turn, one may be refused so, where all before it are
-- answered
abbrev pub RefusesList : {E : Type 0} →
    (ℕ → Bor (List ModuleItem) → Result (Vec ModuleItem Global) E → Type 0) → E →
    List (ℕ × List (List Item)) → Type 0
RefusesList calls refusal lists =
    StopsAt (λ one. (answer : List (List Item)) × AnswersItems calls one.0 one.1 answer)
    (RefusesAll calls refusal) lists

-- the same of calls for items
abbrev pub RefusesItem :
    {E : Type 0} → (ℕ → Bor ModuleItem → Result ModuleItem E → Type 0) → E → List Owned → Type 0
RefusesItem calls refusal items =
    StopsAt (λ one. (answer : List Item) × Replies calls one.0 one.1 answer)
    (RefusesCall calls refusal) items

-- the same where none may be answered too
abbrev pub RefusesPick : {E : Type 0} →
    (ℕ → Bor ModuleItem → Result (Option ModuleItem) E → Type 0) → E → List Owned → Type 0
RefusesPick calls refusal items =
    StopsAt (λ one. (answer : Option (List Item)) × PicksItem calls one.0 one.1 answer)
    (RefusesCall calls refusal) items
