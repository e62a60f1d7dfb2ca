-- The plan of a bundle: its causes in their order, as a function of what is decided of its modules.
use Rattle.std.specs.Prelude.{◌≡◌, ℕ, zero, suc, ◌+◌, ◌<◌, nat_eq, unwrap_or, ◌↔◌, Bool, true, false, IsTrue, List, [], ◌∷◌, ◌++◌, Contains, length, map, flat_map, filter, filter_map, slice_get, if◌then◌else◌}
use Rattle.std.specs.List.{AllZip, list_any}
use Rattle.bundle_syntax.specs.Item.{Item}
pub use Rattle.bundle_order_sort.specs.Places.{numbers_from}
use Rattle.bundle_rules.specs.Declarations.{Reading}
use Rattle.bundle_order_graph.specs.Blocks.{Members}
use Rattle.bundle_rules.specs.Nodes.{Text, numbers_once}
use Rattle.bundle_rules.specs.Statements.{TopItem, own_statements}
use Rattle.bundle_rules.specs.Order.{IsGoodOrder, group_of}
use Rattle.bundle_rules.specs.Entries.{Named, Whole, declared_requests, has_import_meta}
use Rattle.bundle_rules.specs.Program.{Program, tree_of, resolves, requested, Requests, IsList, AreBlocks}
use Rattle.bundle_rules.specs.Linking.{IsCommonJs, Namespace, CommonJs, IsLinked, HasExternalStar}
use Rattle.bundle_rules.specs.Meaning.{Of, IsMeant}
use Rattle.bundle_link_targets.specs.Taken.{PicksThose}
use Rattle.bundle_rules.specs.Bundle.{Form, AsModule, AsCall, Cause, Own, ImportsNames, ImportsWhole, ImportsNothing, Helps, Defines, Loads, HoldsMeta, HoldsNamespace, Stars, Exports, AreNames, MeansName, MeansWhole, AsksCommonJs, Pairing, externals, owner_of}

-- What is decided.

-- an external that is asked for, with what of it is meant: these names, ascending, and whether the
-- whole is
pub record DecidedExternal : Type 0 where
  pub specifier : Text
  pub names : List Text
  pub whole : Bool

-- a CommonJS module that a module loads, with what of it is meant there
pub record DecidedLoad : Type 0 where
  pub which : ℕ
  pub names : List Text
  pub whole : Bool

-- modules that share a block, in the order of the list, and whether their items are sorted
pub record DecidedBlock : Type 0 where
  pub modules : List ℕ
  pub is_sorted : Bool

-- what is decided of the modules of a bundle: their list; of each whether it is CommonJS, what it
-- loads, whether it has an `import.meta`, how many statements it has of its own, and whether its
-- object is meant; the externals; those of them that are starred; whether something is exported or
-- returned; and the blocks
pub record Decided : Type 0 where
  pub list : List ℕ
  pub is_common_js : ℕ → Bool
  pub loads : ℕ → List DecidedLoad
  pub has_meta : ℕ → Bool
  pub statements : ℕ → ℕ
  pub is_object_meant : ℕ → Bool
  pub externals : List DecidedExternal
  pub stars : List Text
  pub exports : Bool
  pub blocks : List DecidedBlock

-- The plan.

-- something, where the test says so
abbrev pub one_if : Bool → Cause → List Cause
one_if true cause = cause ∷ []
one_if false cause = []

-- the bare import of an external, where neither a name nor the whole is meant
abbrev pub bare_plan : List Text → Bool → Text → List Cause
bare_plan [] false s = ImportsNothing s ∷ []
bare_plan _ _ s = []

-- the import of names, where there are some
abbrev pub names_plan : List Text → Text → List Cause
names_plan [] s = []
names_plan (x ∷ rest) s = ImportsNames s ∷ []

-- what imports an external
abbrev pub external_plan : DecidedExternal → List Cause
external_plan e =
    names_plan e.names e.specifier ++
    (one_if e.whole (ImportsWhole e.specifier) ++ bare_plan e.names e.whole e.specifier)

-- what a module that is no CommonJS module makes
abbrev pub es_plan : Decided → ℕ → List Cause
es_plan d m =
    one_if (d.has_meta m) (HoldsMeta m) ++
    (map (λ load. Loads m load.which) (d.loads m) ++ map (Own m)
    (numbers_from zero (d.statements m)))

-- what a module makes
abbrev pub module_plan : Decided → ℕ → List Cause
module_plan d m = if d.is_common_js m then Defines m ∷ [] else es_plan d m

-- the object of a module, where it is meant
abbrev pub object_plan : Decided → ℕ → List Cause
object_plan d m = one_if (d.is_object_meant m) (HoldsNamespace m)

-- what a block makes, before it is sorted: its modules one after the other, and then the free items
abbrev pub block_plan : Decided → List ℕ → List Cause
block_plan d members = flat_map (module_plan d) members ++ flat_map (object_plan d) members

-- what stands in front of the blocks
abbrev pub front_plan : Decided → List Cause
front_plan d = flat_map external_plan d.externals ++ one_if (list_any d.is_common_js d.list) Helps

-- what stands behind them
abbrev pub back_plan : Decided → List Cause
back_plan d = map Stars d.stars ++ one_if d.exports Exports

-- the causes in this order
abbrev pub arranged : List Cause → List ℕ → List Cause
arranged causes order = filter_map (slice_get causes) order

-- a block, with the order that was found if it is sorted
abbrev pub placed_plan : Decided → DecidedBlock → List ℕ → List Cause
placed_plan d block order =
    if block.is_sorted then arranged (block_plan d block.modules) order else block_plan d
    block.modules

-- the blocks, with an order for each
abbrev pub blocks_plan : Decided → List DecidedBlock → List (List ℕ) → List Cause
blocks_plan d [] orders = []
blocks_plan d (block ∷ blocks) [] = []
blocks_plan d (block ∷ blocks) (order ∷ orders) =
    placed_plan d block order ++ blocks_plan d blocks orders

-- the plan of a bundle, with an order for each block
abbrev pub plan_of : Decided → List (List ℕ) → List Cause
plan_of d orders = front_plan d ++ (blocks_plan d d.blocks orders ++ back_plan d)

-- The same before anything is sorted, and the order of all items.

-- the causes of blocks, before they are sorted
abbrev pub merged_blocks : Decided → List DecidedBlock → List Cause
merged_blocks d blocks = flat_map (λ block. block_plan d block.modules) blocks

-- the causes of all items, before any block is sorted
abbrev pub merged_plan : Decided → List Cause
merged_plan d = front_plan d ++ (merged_blocks d d.blocks ++ back_plan d)

-- the numbers of a block's items, of which the first is this
abbrev pub block_order : Decided → ℕ → DecidedBlock → List ℕ → List ℕ
block_order d first block order =
    if block.is_sorted then map (λ n. first + n) order else numbers_from first
    (length (block_plan d block.modules))

-- the numbers of the items of blocks
abbrev pub blocks_order : Decided → ℕ → List DecidedBlock → List (List ℕ) → List ℕ
blocks_order d first [] orders = []
blocks_order d first (block ∷ blocks) [] = []
blocks_order d first (block ∷ blocks) (order ∷ orders) =
    block_order d first block order ++ blocks_order d (first + length (block_plan d block.modules))
    blocks orders

-- the numbers of all items in the order in which they are to stand
abbrev pub whole_order : Decided → List (List ℕ) → List ℕ
whole_order d orders =
    let before = length (front_plan d) in
    let within = length (merged_blocks d d.blocks) in
    numbers_from zero before ++
    (blocks_order d before d.blocks orders ++ numbers_from (before + within)
    (length (back_plan d)))

-- the orders are of numbers of their blocks' items
abbrev pub AreOrdersWithin : Decided → List DecidedBlock → List (List ℕ) → Type 0
AreOrdersWithin d [] orders = Unit {0}
AreOrdersWithin d (block ∷ blocks) [] = ⊥
AreOrdersWithin d (block ∷ blocks) (order ∷ orders) =
    (block.is_sorted ≡ true → (n : ℕ) → Contains order n → n < length (block_plan d block.modules))
    × AreOrdersWithin d blocks orders

-- Where the items of a block stand.

-- the place of a number in a list
abbrev pub index_of : ℕ → List ℕ → ℕ
index_of n [] = zero
index_of n (m ∷ rest) = if nat_eq m n then zero else suc (index_of n rest)

-- no item
abbrev pub no_item : TopItem
no_item = record { start = 0; items = [] }

-- the item at a place of a bundle
abbrev pub item_at : List TopItem → ℕ → TopItem
item_at body place = unwrap_or (slice_get body place) no_item

-- the items of a block, as its causes are numbered, where they stand in this order from a place of
-- the bundle on
abbrev pub block_items : List TopItem → ℕ → List ℕ → ℕ → List TopItem
block_items body first order count =
    map (λ n. item_at body (first + index_of n order)) (numbers_from zero count)

-- the order that was found for a block is good for its items as they stand in the bundle
abbrev pub IsBlockOrdered : Reading → List Item → Pairing → Decided → ℕ → DecidedBlock → List ℕ →
    Type 0
IsBlockOrdered reading tree pairing d first block order =
    let causes = block_plan d block.modules in
    block.is_sorted ≡ true → IsGoodOrder
    (group_of reading pairing.top tree (block_items pairing.body first order (length causes))
    (map owner_of causes)) order

-- the same of each block, where the first of them begins at a place
abbrev pub AreOrdered : Reading → List Item → Pairing → Decided → ℕ → List DecidedBlock →
    List (List ℕ) → Type 0
AreOrdered reading tree pairing d first [] [] = Unit {0}
AreOrdered reading tree pairing d first [] (order ∷ orders) = ⊥
AreOrdered reading tree pairing d first (block ∷ blocks) [] = ⊥
AreOrdered reading tree pairing d first (block ∷ blocks) (order ∷ orders) =
    IsBlockOrdered reading tree pairing d first block order × AreOrdered reading tree pairing d
    (first + length (placed_plan d block order)) blocks orders

-- What is right of it.

-- what is decided of an external
pub record IsExternalDecided (p : Program) (e : DecidedExternal) (s : Text) : Type 0 where
  pub same : e.specifier ≡ s
  pub names : AreNames (MeansName p s) e.names
  pub whole : IsTrue e.whole ↔ MeansWhole p s

-- what is decided of a CommonJS module that m loads
pub record IsLoadDecided (p : Program) (m : ℕ) (load : DecidedLoad) : Type 0 where
  pub names : AreNames (λ x. IsMeant p (Of (CommonJs m load.which (Named x)))) load.names
  pub whole : IsTrue load.whole ↔ IsMeant p (Of (CommonJs m load.which Whole))

-- the CommonJS modules to which the declarations of a module lead, each once, where a test tells
-- which modules are CommonJS
abbrev pub taken_modules : Program → ℕ → (ℕ → Bool) → List ℕ
taken_modules p m test =
    numbers_once (filter test (filter_map (resolves p m) (declared_requests (tree_of p m))))

-- something is exported, or the bundle is one function's call, which returns an object
pub data HandsOutNames (p : Program) : Form → Type 0 where
  exported : {x : Text} → IsLinked p p.entry x → HandsOutNames p AsModule
  returned : HandsOutNames p AsCall

-- what is decided of a listed module
pub record IsModuleDecided (p : Program) (d : Decided) (m : ℕ) : Type 0 where
  pub common_js : IsTrue (d.is_common_js m) ↔ IsCommonJs p m
  pub loads : (IsCommonJs p m → ⊥) →
      Members (AsksCommonJs p m) (requested p m) (map (λ load. load.which) (d.loads m))
  pub taken : (load : DecidedLoad) → Contains (d.loads m) load → IsLoadDecided p m load
  pub meta : d.has_meta m ≡ has_import_meta (tree_of p m)
  pub statements : d.statements m ≡ length (own_statements (tree_of p m))
  pub object : IsTrue (d.is_object_meant m) ↔ IsMeant p (Of (Namespace m))

-- a block is of one module, and if the standard's order is not asked for, of one that does not
-- request itself; or else it is sorted, and that order is not asked for
pub record IsBlockDecided (p : Program) (block : DecidedBlock) : Type 0 where
  pub lone : block.is_sorted ≡ false →
      (m : ℕ) × (block.modules ≡ m ∷ []) ×
      (p.settings.in_standard_order ≡ false → Requests p m m → ⊥)
  pub sorted : block.is_sorted ≡ true →
      (p.settings.in_standard_order ≡ false)
      × ((m : ℕ) → block.modules ≡ m ∷ [] → Requests p m m)

-- each of these is what the definitions say
pub record AreDecided (p : Program) (form : Form) (d : Decided) : Type 0 where
  pub list : IsList p d.list
  pub modules : (m : ℕ) → Contains d.list m → IsModuleDecided p d m
  pub outside : AllZip (IsExternalDecided p) d.externals (externals p d.list)
  pub starred : PicksThose (HasExternalStar p p.entry) (externals p d.list) d.stars
  pub exports : IsTrue d.exports ↔ HandsOutNames p form
  pub blocks : AreBlocks p d.list (map (λ block. block.modules) d.blocks)
  pub kinds : (block : DecidedBlock) → Contains d.blocks block → IsBlockDecided p block
