-- The same items in two wholes, as groups that are to be put in order.
use Rattle.std.specs.Prelude.{◌≡◌, ◌⊎◌, ℕ, zero, suc, true, ◌∷◌, ◌++◌, List, None, Some, codes, slice_get, map}
use Rattle.bundle_syntax.specs.Item.{Item}
use Rattle.bundle_rules.specs.Places.{Occurrence, is_binding}
use Rattle.bundle_rules.specs.Declarations.{ByContext, name_of, way_of}
use Rattle.bundle_rules.specs.Nodes.{side_by_side}
use Rattle.bundle_rules.specs.Statements.{TopItem}
use Rattle.bundle_merge_theory.specs.joined.Joined.{AllOf, offset, is_item_top_name}
use Rattle.bundle_merge_theory.specs.joined.Notes.{its_name, IsListedIn}

-- a top item is one of the items of a whole, at its place there
pub record IsItemPlaced (items : List (List Item)) (top : TopItem) : Type 0 where
  pub m : ℕ
  pub there : slice_get items m ≡ Some top.items
  pub start : top.start ≡ suc (offset items m)

-- in an item, each identifier that binds stands where something declares it, or has no name that
-- other items than these declare at their tops
abbrev pub BindsOwnNames : (items others : List (List Item)) → List Item → Type 0
BindsOwnNames items others item =
    (o : Occurrence) → IsListedIn item o → is_binding o.role ≡ true → (way_of o.path ≡ None → ⊥)
    ⊎ (is_item_top_name others (its_name o) ≡ true → is_item_top_name items (its_name o) ≡ true)

-- all the items of one whole, listed as they stand there and as they stand in another
pub record ArePicked (items others : List (List Item)) (tops its : List TopItem) : Type 0 where
  pub placed : AllOf (IsItemPlaced items) tops
  pub its_placed : AllOf (IsItemPlaced others) its
  pub same : map (λ (top : TopItem). top.items) tops ≡ map (λ (top : TopItem). top.items) its
  pub all : (m : ℕ) (item : List Item) → slice_get items m ≡ Some item →
      (s : ℕ) × (top : TopItem) × (slice_get tops s ≡ Some top) × (top.items ≡ item)
  -- no further item declares an `Object` with the context of what nothing binds
  pub object : is_item_top_name others (name_of ByContext (codes "Object") 1)
      ≡ is_item_top_name items (name_of ByContext (codes "Object") 1)

-- an item is one node: it is one of a list of nodes, whatever follows it
abbrev pub IsSingle : List Item → Type 0
IsSingle item =
    (rest : List Item) → side_by_side zero (item ++ rest) ≡ item ∷ side_by_side zero rest
