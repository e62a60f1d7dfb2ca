-- What a bundle is: its items stand for the own statements of the reached modules and for what is
-- injected, each once, with the meanings of the originals; and how they are laid out (ECMA-262,
-- 16.2.1.5.2 Evaluate: a module runs after those that it requests, in depth-first order).
use Rattle.std.specs.Prelude.{◌≡◌, ℕ, zero, suc, ◌+◌, ◌<◌, ◌==◌, ◌↔◌, ◌⊎◌, Bool, true, false, IsTrue, List, [], ◌∷◌, ◌++◌, Option, Some, None, Contains, length, map, filter, flat_map, slice_get, codes, if◌then◌else◌}
use Rattle.std.specs.List.{AllZip}
use Rattle.std.specs.Cmp.Lexicographic.{slice_cmp}
use Rattle.std.specs.Ordering.{nat_cmp}
use Rattle.std.specs.declared.cmp.Ordering.TheVariants.{Less}
use Rattle.bundle_syntax.specs.Item as h
use Rattle.bundle_syntax.specs.Item.{Item, Head}
use Rattle.bundle_rules.specs.Scopes.{Es, Scope, Top, Inner as InnerScope, FunctionBody}
use Rattle.bundle_rules.specs.Doubled.{first_doubled}
use Rattle.bundle_rules.specs.Declarations.{Reading, BySymbol}
use Rattle.bundle_tree_names.specs.FileName.{Name as FileName}
use Rattle.bundle_rules.specs.Nodes.{Text, each_once, side_by_side, StandsWhole, has_head}
use Rattle.bundle_rules.specs.Statements.{TopItem, top_items, placed, Element, taken_from, own_statements}
use Rattle.bundle_rules.specs.Entries.{Settings, Named, Whole, declared_requests, has_import_meta}
use Rattle.bundle_rules.specs.Cleared.{cleared}
use Rattle.bundle_rules.specs.Bound.{has_free}
use Rattle.bundle_rules.specs.Program.{Program, Loaded, module_of, tree_of, resolves, is_external, requested, Requests, IsReached, IsList, AreBlocks}
use Rattle.bundle_rules.specs.Linking.{IsCommonJs, Target, Namespace, External, CommonJs, Linked, IsLinked, HasExternalStar}
use Rattle.bundle_rules.specs.Meaning.{Of, Mark, Labelling, IsOneToOne, Sense, StatementMeans, Means, bundle_sense, OwnMeaning, IsMeant}
use Rattle.bundle_rules.specs.Injected.{NamedTarget, import_names, import_whole, import_bare, export_star, export_list, return_object, namespace_object, meta_object, load_statement, load_front, load_back, helper_function}
use Rattle.bundle_rules.specs.Order.{group_of, IsGoodOrder}
use Rattle.bundle_rules.specs.Awaits.{awaits_outside}

-- What a bundle has.

-- why an item stands in a bundle: it is an own statement of an ES module; it imports names of an
-- external, the whole of it, or nothing; it is the helper; the function of a CommonJS module; the
-- statement by which a module loads one; the `import.meta` of a module; the object of a namespace;
-- a star of an external; the exports
pub data Cause : Type 0 where
  Own : (m k : ℕ) → Cause
  ImportsNames : (s : Text) → Cause
  ImportsWhole : (s : Text) → Cause
  ImportsNothing : (s : Text) → Cause
  Helps : Cause
  Defines : (c : ℕ) → Cause
  Loads : (m c : ℕ) → Cause
  HoldsMeta : (m : ℕ) → Cause
  HoldsNamespace : (d : ℕ) → Cause
  Stars : (s : Text) → Cause
  Exports : Cause

-- the form in which a bundle stands: as a module, or as one function's call
pub data Form : Type 0 where
  AsModule : Form
  AsCall : Form

-- the form that is asked for
abbrev pub form_of : Settings → Form
form_of settings = if settings.iife then AsCall else AsModule

-- a reached module asks for the external
pub record IsUsed (p : Program) (s : Text) : Type 0 where
  pub which : ℕ
  pub reached : IsReached p which
  pub asks : Contains (declared_requests (tree_of p which)) s
  pub external : IsTrue (is_external p s)

-- a module imports or re-exports from a CommonJS module
pub record AsksCommonJs (p : Program) (m c : ℕ) : Type 0 where
  pub specifier : Text
  pub asks : Contains (declared_requests (tree_of p m)) specifier
  pub resolved : resolves p m specifier ≡ Some c
  pub common_js : IsCommonJs p c

-- a name of the external is meant
abbrev pub MeansName : Program → Text → Text → Type 0
MeansName p s x = IsMeant p (Of (External s (Named x)))

-- the whole of the external is meant
abbrev pub MeansWhole : Program → Text → Type 0
MeansWhole p s = IsMeant p (Of (External s Whole))

-- what is due in a bundle of this form, and nothing else is
pub data IsDue (p : Program) (form : Form) : Cause → Type 0 where
  own : {m k : ℕ} →
      IsReached p m →
      (IsCommonJs p m → ⊥) →
      k < length (own_statements (tree_of p m)) →
      IsDue p form (Own m k)
  imports_names : {s x : Text} → IsUsed p s → MeansName p s x → IsDue p form (ImportsNames s)
  imports_whole : {s : Text} → IsUsed p s → MeansWhole p s → IsDue p form (ImportsWhole s)
  imports_nothing : {s : Text} →
      IsUsed p s →
      ((x : Text) → MeansName p s x → ⊥) →
      (MeansWhole p s → ⊥) →
      IsDue p form (ImportsNothing s)
  helps : {c : ℕ} → IsReached p c → IsCommonJs p c → IsDue p form Helps
  defines : {c : ℕ} → IsReached p c → IsCommonJs p c → IsDue p form (Defines c)
  loads : {m c : ℕ} →
      IsReached p m →
      (IsCommonJs p m → ⊥) →
      AsksCommonJs p m c →
      IsDue p form (Loads m c)
  holds_meta : {m : ℕ} →
      IsReached p m →
      IsTrue (has_import_meta (tree_of p m)) →
      IsDue p form (HoldsMeta m)
  holds_namespace : {d : ℕ} → IsMeant p (Of (Namespace d)) → IsDue p form (HoldsNamespace d)
  stars : {s : Text} → HasExternalStar p p.entry s → IsDue p form (Stars s)
  exports : {x : Text} → form ≡ AsModule → IsLinked p p.entry x → IsDue p form Exports
  returns : form ≡ AsCall → IsDue p form Exports

-- Names in their order.

-- each text is below the next, byte by byte
abbrev pub IsAscending : List Text → Type 0
IsAscending [] = Unit {0}
IsAscending (x ∷ []) = Unit {0}
IsAscending (x ∷ y ∷ rest) = (slice_cmp nat_cmp x y ≡ Less) × IsAscending (y ∷ rest)

-- the texts for which something holds, ascending
pub record AreNames (Has : Text → Type 0) (names : List Text) : Type 0 where
  pub ascending : IsAscending names
  pub all : (x : Text) → Contains names x ↔ Has x

-- the linked names of a module, ascending, each with its target
pub record AreLinked (p : Program) (d : ℕ) (pairs : List NamedTarget) : Type 0 where
  pub ascending : IsAscending (map (λ pair. pair.0) pairs)
  pub all : (x : Text) (t : Target) → Contains pairs (x, t) ↔ Linked p d x t

-- What each item means.

-- what a hook may answer for a module: its file as it was handed in, and whether it is the entry;
-- the answer is a list of properties
pub record Hooks : Type 1 where
  pub may_answer : FileName → Bool → List Item → Type 0

-- a bundle's tree, how names are read in it, and what its bindings stand for
pub record Labelled : Type 0 where
  pub tree : List Item
  pub reading : Reading
  pub labels : Labelling

-- how a labelled bundle gets its meaning
abbrev pub sense_of : Labelled → Sense
sense_of b = bundle_sense b.tree b.reading b.labels

-- the elements of an item
abbrev pub elements_of : TopItem → List Element
elements_of item = taken_from item.start item.items

-- an item of the bundle means these marks
abbrev pub ItemMeans : Labelled → TopItem → List Mark → Type 0
ItemMeans b item marks = StatementMeans (sense_of b) item.start (elements_of item) marks

-- an item means what an own statement of m means
abbrev pub SameMeaning : Program → Labelled → ℕ → TopItem → List Element → Type 0
SameMeaning p b m item statement =
    (marks : List Mark) × OwnMeaning p m statement marks × ItemMeans b item marks

-- the item is the function of a CommonJS module: a front, its own statements in their order, a
-- back. The statements stand whole, so that none of them closes the function or stays open; front
-- and back have as many elements as their forms, so that an item is parted in one way
pub record IsLoadFunction (p : Program) (b : Labelled) (c : ℕ) (item : TopItem) : Type 0 where
  pub front : List Element
  pub inside : List Item
  pub back : List Element
  pub is : elements_of item ≡ front ++ (taken_from (item.start + length front) inside ++ back)
  pub front_means : Means (sense_of b) [] front (load_front c)
  pub front_length : length front ≡ length (load_front c)
  pub back_means : Means (sense_of b) [] back load_back
  pub back_length : length back ≡ length load_back
  pub whole : StandsWhole inside
  pub statements :
      AllZip (SameMeaning p b c) (placed (item.start + length front) (side_by_side zero inside))
      (own_statements (tree_of p c))

-- a tree in which the properties stand alone, so that nothing outside binds a name in them
abbrev pub properties_tree : List Item → List Item
properties_tree properties =
    h.Open 0 h.Module ∷ h.Open 0 h.ExprStmt ∷ h.Open 0 h.ObjectLit
    ∷ (properties ++ h.Close ∷ h.Close ∷ h.Close ∷ [])

-- properties mean these marks; in them only inner and global names are read, and nothing is
-- replaced
abbrev pub PropertiesMean : List Item → List Mark → Type 0
PropertiesMean properties marks =
    StatementMeans (bundle_sense (properties_tree properties) BySymbol []) 0
    (taken_from 3 properties) marks

-- the hook may answer these properties for module m
pub record MayHold (p : Program) (hooks : Hooks) (m : ℕ) (properties : List Item) : Type 0 where
  pub loaded : Loaded
  pub kept : module_of p m ≡ Some loaded
  pub answer : List Item
  pub answered : hooks.may_answer loaded.file_name (m == p.entry) answer
  pub cleared : properties ≡ cleared answer

-- whether such a node is a `with` statement
abbrev pub is_with : Head → Bool
is_with h.WithStmt = true
is_with _ = false

-- properties that a hook answers have no fault: no name is declared twice in them, they have no
-- `with` and, where the bundle is one function's call, no free `arguments`
pub record AreFaultless (p : Program) (properties : List Item) : Type 0 where
  pub undoubled : first_doubled Es (properties_tree properties) ≡ None
  pub no_with : has_head is_with properties ≡ false
  pub no_arguments : p.settings.iife ≡ true →
      has_free (properties_tree properties) (codes "arguments") ≡ false

-- an item stands for its cause, in a bundle of this form
pub data Realises (p : Program) (hooks : Hooks) (form : Form) (b : Labelled) :
    TopItem → Cause → Type 0 where
  own : {item : TopItem} {m k : ℕ} (statement : List Element) →
      slice_get (own_statements (tree_of p m)) k ≡ Some statement →
      SameMeaning p b m item statement →
      Realises p hooks form b item (Own m k)
  imports_names : {item : TopItem} {s : Text} (names : List Text) →
      AreNames (MeansName p s) names →
      ItemMeans b item (import_names s names) →
      Realises p hooks form b item (ImportsNames s)
  imports_whole : {item : TopItem} {s : Text} →
      ItemMeans b item (import_whole s) →
      Realises p hooks form b item (ImportsWhole s)
  imports_nothing : {item : TopItem} {s : Text} →
      ItemMeans b item (import_bare s) →
      Realises p hooks form b item (ImportsNothing s)
  helps : {item : TopItem} → ItemMeans b item helper_function → Realises p hooks form b item Helps
  defines : {item : TopItem} {c : ℕ} →
      IsLoadFunction p b c item →
      Realises p hooks form b item (Defines c)
  loads : {item : TopItem} {m c : ℕ} (whole : Bool) (names : List Text) →
      AreNames (λ x. IsMeant p (Of (CommonJs m c (Named x)))) names →
      (IsTrue whole ↔ IsMeant p (Of (CommonJs m c Whole))) →
      ItemMeans b item (load_statement m c whole names) →
      Realises p hooks form b item (Loads m c)
  holds_meta : {item : TopItem} {m : ℕ} (properties : List Item) (marks : List Mark) →
      MayHold p hooks m properties →
      AreFaultless p properties →
      PropertiesMean properties marks →
      ItemMeans b item (meta_object m marks) →
      Realises p hooks form b item (HoldsMeta m)
  holds_namespace : {item : TopItem} {d : ℕ} (pairs : List NamedTarget) →
      AreLinked p d pairs →
      ItemMeans b item (namespace_object d pairs) →
      Realises p hooks form b item (HoldsNamespace d)
  stars : {item : TopItem} {s : Text} →
      ItemMeans b item (export_star s) →
      Realises p hooks form b item (Stars s)
  exports : {item : TopItem} (pairs : List NamedTarget) →
      form ≡ AsModule →
      AreLinked p p.entry pairs →
      ItemMeans b item (export_list pairs) →
      Realises p hooks form b item Exports
  returns : {item : TopItem} (pairs : List NamedTarget) →
      form ≡ AsCall →
      AreLinked p p.entry pairs →
      ItemMeans b item (return_object pairs) →
      Realises p hooks form b item Exports

-- The body of a bundle.

-- `(function () {`: what stands before the body of a bundle that is one function's call
abbrev pub function_front : Bool → List Item
function_front is_async =
    h.Open 0 h.Module ∷ h.Open 0 h.ExprStmt ∷ h.Open 0 h.CallExpr ∷ h.Open 0 h.ParenExpr
    ∷ h.Open 0 h.FnExpr ∷ h.Open 1 (h.Function false is_async) ∷ h.Open 1 h.BlockStmt ∷ []

-- `})();`: what stands behind it
abbrev pub function_back : List Item
function_back = h.Close ∷ h.Close ∷ h.Close ∷ h.Close ∷ h.Close ∷ h.Close ∷ h.Close ∷ []

-- `HasBody form tree top body`: the items of the bundle, and the scope of its top bindings
pub data HasBody : Form → List Item → Scope → List TopItem → Type 0 where
  of_module : {tree : List Item} → HasBody AsModule tree Top (top_items tree)
  -- one function's call; its statements stand whole, so that none of them closes the function or
  -- stays open; it is async exactly where something in the body awaits outside functions
  of_function : (inside : List Item) →
      StandsWhole inside →
      HasBody AsCall (function_front (awaits_outside inside) ++ (inside ++ function_back))
      (InnerScope FunctionBody 6) (placed 7 (side_by_side zero inside))

-- The pairing.

-- what each binding stands for, the scope of the top bindings, the items, and beside each item its
-- cause
pub record Pairing : Type 0 where
  pub labels : Labelling
  pub top : Scope
  pub body : List TopItem
  pub plan : List Cause

-- a tree with the labels of a pairing
abbrev pub labelled : List Item → Reading → Pairing → Labelled
labelled tree reading pairing = record { tree = tree; reading = reading; labels = pairing.labels }

-- each item of the bundle stands for its cause; what is due stands once, and nothing else does
pub record IsPaired
    (p : Program) (hooks : Hooks) (form : Form) (reading : Reading) (tree : List Item)
    (pairing : Pairing) : Type 0 where
  pub labels : IsOneToOne pairing.labels
  pub body : HasBody form tree pairing.top pairing.body
  pub realised :
      AllZip (Realises p hooks form (labelled tree reading pairing)) pairing.body pairing.plan
  pub due : (cause : Cause) → Contains pairing.plan cause ↔ IsDue p form cause
  pub once : (i j : ℕ) (cause : Cause) →
      slice_get pairing.plan i ≡ Some cause →
      slice_get pairing.plan j ≡ Some cause →
      i ≡ j

-- The layout.

-- `Chosen Has list chosen`: of the list, those that `Has` holds of, in its order
pub data Chosen (Has : Cause → Type 0) : List Cause → List Cause → Type 0 where
  nothing : Chosen Has [] []
  chosen : {x : Cause} {xs ys : List Cause} →
      Has x →
      Chosen Has xs ys →
      Chosen Has (x ∷ xs) (x ∷ ys)
  left : {x : Cause} {xs ys : List Cause} → (Has x → ⊥) → Chosen Has xs ys → Chosen Has (x ∷ xs) ys

-- the externals that the modules of a list ask for, in its order and that of the source, each once
abbrev pub externals : Program → List ℕ → List Text
externals p list =
    each_once (filter (λ s. is_external p s) (flat_map (λ m. declared_requests (tree_of p m)) list))

-- what may stand for an external: its names, its whole, nothing
abbrev pub import_causes : Text → List Cause
import_causes s = ImportsNames s ∷ ImportsWhole s ∷ ImportsNothing s ∷ []

-- the numbers from n on, as many as the list is long
abbrev pub counted : {A : Type 0} → ℕ → List A → List ℕ
counted n [] = []
counted n (x ∷ rest) = n ∷ counted (suc n) rest

-- what may stand for a module, in its own order: the function of a CommonJS module, or else
-- `import.meta`, what it loads in the order of its requests, and its statements
abbrev pub module_causes : Program → ℕ → List Cause
module_causes p m =
    Defines m ∷ HoldsMeta m
    ∷ (map (Loads m) (requested p m) ++ map (Own m) (counted zero (own_statements (tree_of p m))))

-- the module of which an item is; the object of a namespace is free
abbrev pub owner_of : Cause → Option ℕ
owner_of (Own m k) = Some m
owner_of (Defines m) = Some m
owner_of (Loads m c) = Some m
owner_of (HoldsMeta m) = Some m
owner_of _ = None

-- in the pairing, the item stands for the cause
pub record StandsFor (pairing : Pairing) (cause : Cause) (item : TopItem) : Type 0 where
  pub at : ℕ
  pub cause_there : slice_get pairing.plan at ≡ Some cause
  pub item_there : slice_get pairing.body at ≡ Some item

-- `IsBlockLaidOut p form tree reading pairing members plan`: the items of a block stand so
pub data IsBlockLaidOut
    (p : Program) (form : Form) (tree : List Item) (reading : Reading) (pairing : Pairing) :
    List ℕ → List Cause → Type 0 where
  -- a module that shares its block with none and does not request itself, and each module where
  -- the standard's order is asked for: its items in their order, and then its free item
  lone : {m : ℕ} {plan : List Cause} →
      (p.settings.in_standard_order ≡ false → Requests p m m → ⊥) →
      Chosen (IsDue p form) (module_causes p m ++ HoldsNamespace m ∷ []) plan →
      IsBlockLaidOut p form tree reading pairing (m ∷ []) plan
  -- any other block: its items, numbered by modules and then the free ones, in an order that meets
  -- what is promised of one
  cycle :
      {members : List ℕ} {plan : List Cause} (numbered : List Cause) (items : List TopItem)
      (order : List ℕ) →
      p.settings.in_standard_order ≡ false →
      ((m : ℕ) → members ≡ m ∷ [] → Requests p m m) →
      Chosen (IsDue p form) (flat_map (module_causes p) members ++ map HoldsNamespace members)
      numbered →
      AllZip (StandsFor pairing) numbered items →
      IsGoodOrder (group_of reading pairing.top tree items (map owner_of numbered)) order →
      AllZip (λ n cause. slice_get numbered n ≡ Some cause) order plan →
      IsBlockLaidOut p form tree reading pairing members plan

-- the blocks one after the other
pub data AreBlocksLaidOut
    (p : Program) (form : Form) (tree : List Item) (reading : Reading) (pairing : Pairing) :
    List (List ℕ) → List Cause → Type 0 where
  over : AreBlocksLaidOut p form tree reading pairing [] []
  next : {members : List ℕ} {blocks : List (List ℕ)} {rest : List Cause} (plan : List Cause) →
      IsBlockLaidOut p form tree reading pairing members plan →
      AreBlocksLaidOut p form tree reading pairing blocks rest →
      AreBlocksLaidOut p form tree reading pairing (members ∷ blocks) (plan ++ rest)

-- a block stands after each other block that one of its modules requests
abbrev pub FollowsRequests : Program → List (List ℕ) → Type 0
FollowsRequests p blocks =
    (i j m n : ℕ) (block other : List ℕ) →
    slice_get blocks i ≡ Some block →
    slice_get blocks j ≡ Some other →
    Contains block m →
    Contains other n →
    Requests p m n →
    (j < i) ⊎ (j ≡ i)

-- imports of externals and the helper stand in front, then the blocks in the order of their last
-- members, then stars of externals and the exports
pub record IsLaidOut
    (p : Program) (form : Form) (reading : Reading) (tree : List Item)
    (pairing : Pairing) : Type 0 where
  pub list : List ℕ
  pub is_list : IsList p list
  pub blocks : List (List ℕ)
  pub are_blocks : AreBlocks p list blocks
  pub follows : p.settings.in_standard_order ≡ false → FollowsRequests p blocks
  pub front : List Cause
  pub middle : List Cause
  pub back : List Cause
  pub plan : pairing.plan ≡ front ++ (middle ++ back)
  pub in_front :
      Chosen (IsDue p form) (flat_map import_causes (externals p list) ++ Helps ∷ []) front
  pub in_blocks : AreBlocksLaidOut p form tree reading pairing blocks middle
  pub behind : Chosen (IsDue p form) (map Stars (externals p list) ++ Exports ∷ []) back

-- the tree is a bundle of the program in this form, where names are read so: some pairing of its
-- items is right and is laid out
pub record IsBundle
    (p : Program) (hooks : Hooks) (form : Form) (reading : Reading)
    (tree : List Item) : Type 0 where
  pub pairing : Pairing
  pub paired : IsPaired p hooks form reading tree pairing
  pub laid_out : IsLaidOut p form reading tree pairing
