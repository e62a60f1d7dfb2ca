-- What a sort of items owes: which item depends on which, an order that meets what is promised of
-- one, and the same of a whole list of items by module (own).
use Rattle.std.specs.Prelude.{◌≡◌, ℕ, ◌+◌, ◌<◌, ◌↔◌, nat_le, nat_lt, ◌&&◌, not, Bool, false, List, [], ◌∷◌, ◌++◌, Option, Some, None, Contains, length, map, filter, slice_get, option_map, if◌then◌else◌}
use Rattle.std.specs.List.{AllZip}
use Rattle.bundle_syntax.specs.Item as h
use Rattle.bundle_syntax.specs.Item.{Item, Head}
use Rattle.bundle_rules.specs.Scopes.{Top}
use Rattle.bundle_rules.specs.Declarations.{ByContext}
use Rattle.bundle_order_graph.specs.Modules.{Modules, Requests as Edges}
use Rattle.bundle_order_graph.specs.Statements.{Statements as Graph, weight}
use Rattle.bundle_order_graph.specs.Blocks.{BlocksOf}
use Rattle.bundle_order_graph.specs.Order.{IsOrder}
use Rattle.bundle_order_graph.specs.Walks.{Reaches}
use Rattle.bundle_order_graph.specs.declared.sort.Required.{Required}
use Rattle.bundle_order_graph.specs.declared.sort.Required.TheVariants.{Always, Maybe}
use Rattle.bundle_rules.specs.Nodes.{begins_with}
pub use Rattle.bundle_rules.specs.Nodes.{flat}
use Rattle.bundle_rules.specs.Statements.{top_items}
use Rattle.bundle_rules.specs.Order.{Group, group_of, IsStrong, IsWeak, IsGoodOrder}
use Rattle.bundle_rules.specs.Parts.{Owned, items_in, tree_of_items, Parts, parts_of, in_order}

-- items, each with the module it is of or none, as a group that is to be put in order, where names
-- are told apart by symbol and context
abbrev pub group_of_items : List Item → List (Option ℕ) → Group
group_of_items items owners =
    group_of ByContext Top (tree_of_items items) (top_items (tree_of_items items)) owners

-- how much an item depends on another
abbrev pub IsDependency : Group → ℕ → ℕ → Option Required → Type 0
IsDependency g s t (Some Always) = IsStrong g s t
IsDependency g s t (Some Maybe) = IsWeak g s t
IsDependency g s t None = (IsStrong g s t → ⊥) × (IsWeak g s t → ⊥)

-- the module of item i, where each range of numbers is one module's items, counted from k on; an
-- item in none is free
abbrev pub owner_in : ℕ → ℕ → List (ℕ × ℕ) → Option ℕ
owner_in i k [] = None
owner_in i k ((from, to) ∷ rest) =
    if nat_le from i && nat_lt i to then Some k else owner_in i (k + 1) rest

-- the modules of items that are counted from i on
abbrev pub owners_by : List (ℕ × ℕ) → ℕ → List (List Item) → List (Option ℕ)
owners_by ranges i [] = []
owners_by ranges i (item ∷ rest) = owner_in i 0 ranges ∷ owners_by ranges (i + 1) rest

-- the graph of the dependencies of these items, where each range of numbers is one module's: its
-- nodes are the numbers of all items, each once, and its edges are the dependencies
pub record AreDependencies
    (items : List (List Item)) (ranges : List (ℕ × ℕ)) (graph : Graph) : Type 0 where
  pub nodes : (n : ℕ) → Contains graph.nodes n ↔ (n < length items)
  pub once : (i j n : ℕ) →
      slice_get graph.nodes i ≡ Some n →
      slice_get graph.nodes j ≡ Some n →
      i ≡ j
  pub weights : (s t : ℕ) →
      IsDependency (group_of_items (flat items) (owners_by ranges 0 items)) s t (weight graph s t)

-- an item that is to be sorted, and its module, if it is not free
abbrev pub Numbered : Type 0
Numbered = List Item × Option ℕ

-- whether the linker noted such a node as its own
abbrev pub is_injected_head : Head → Bool
is_injected_head (h.VarDecl kind meta) = meta.injected
is_injected_head (h.ImportDecl meta) = meta.injected
is_injected_head (h.NamedExport meta) = meta.injected
is_injected_head (h.ExportAll meta) = meta.injected
is_injected_head _ = false

-- whether an item is free: the linker noted it
abbrev pub is_injected : List Item → Bool
is_injected item = begins_with is_injected_head item

-- the items of modules, counted from k on, without the free ones
abbrev pub owned_items : ℕ → List (List (List Item)) → List Numbered
owned_items k [] = []
owned_items k (items ∷ rest) =
    map (λ item. (item, Some k)) (filter (λ item. not (is_injected item)) items)
    ++ owned_items (k + 1) rest

-- the free items of modules
abbrev pub free_items : List (List (List Item)) → List Numbered
free_items [] = []
free_items (items ∷ rest) = map (λ item. (item, None)) (filter is_injected items) ++ free_items rest

-- the items in their numbering: by modules, and then the free ones
abbrev pub numbered_items : List (List (List Item)) → List Numbered
numbered_items modules = owned_items 0 modules ++ free_items modules

-- the order promise: the sort gives each item once, in a good order
pub record IsSorted (modules : List (List (List Item))) (sorted : List (List Item)) : Type 0 where
  pub order : List ℕ
  pub good :
      IsGoodOrder
      (group_of_items (flat (map (λ one. one.0) (numbered_items modules)))
      (map (λ one. one.1) (numbered_items modules))) order
  pub items :
      AllZip
      (λ n item. option_map (λ one. one.0) (slice_get (numbered_items modules) n) ≡ Some item)
      order sorted

-- one block of a list of items by module: a lone module's items in their order and then its free
-- ones, any other block sorted
pub data SortsBlock (g : Modules) (of : ℕ → List (List Item)) :
    List ℕ → List (List Item) → Type 0 where
  lone : {m : ℕ} →
      (Edges g m m → ⊥) →
      SortsBlock g of (m ∷ []) (map (λ one. one.0) (numbered_items (of m ∷ [])))
  cycle : {members : List ℕ} {sorted : List (List Item)} →
      ((m : ℕ) → members ≡ m ∷ [] → Edges g m m) →
      IsSorted (map of members) sorted →
      SortsBlock g of members sorted

-- the blocks one after the other
pub data SortsBlocks (g : Modules) (of : ℕ → List (List Item)) :
    List (List ℕ) → List (List Item) → Type 0 where
  over : SortsBlocks g of [] []
  next :
      {members : List ℕ} {blocks : List (List ℕ)} {rest : List (List Item)}
      (sorted : List (List Item)) →
      SortsBlock g of members sorted →
      SortsBlocks g of blocks rest →
      SortsBlocks g of (members ∷ blocks) (sorted ++ rest)

-- a list of items by module, sorted from an entry on: the blocks in the order of their last members
pub record IsSortedFrom
    (g : Modules) (entry : ℕ) (pairs : List Owned) (sorted : List (List Item)) : Type 0 where
  pub list : List ℕ
  pub is_list : IsOrder g entry list
  pub blocks : List (List ℕ)
  pub are_blocks : BlocksOf (λ m n. Reaches (Edges g) m n × Reaches (Edges g) n m) list list blocks
  pub sorts : SortsBlocks g (items_in pairs) blocks sorted

-- all items are the entry's body, sorted over this graph
pub record IsSortedInto (g : Modules) (entry : ℕ) (before after : Parts) : Type 0 where
  pub sorted : List (List Item)
  pub is : after ≡ parts_of entry sorted
  pub sorts : IsSortedFrom g entry (in_order before) sorted
