-- What the items of a bundle are made of: each for its cause, by its list, and all of them in their
-- order.
use Rattle.std.specs.Prelude.{◌≡◌, ℕ, Bool, true, false, List, [], ◌∷◌, ◌++◌, Option, Some, None, Contains, filter_map, map, slice_get, codes, if◌then◌else◌}
use Rattle.std.specs.List.{AllZip}
use Rattle.bundle_syntax.specs.Item as h
use Rattle.bundle_syntax.specs.Item.{Item}
use Rattle.bundle_tree_places.specs.Edits.{InObject, node}
use Rattle.bundle_tree_rebuild.specs.Work.{Step, Work}
use Rattle.bundle_tree_rebuild.specs.Becomes.{Becomes}
use Rattle.bundle_rules.specs.Places.{occurrences}
use Rattle.bundle_rules.specs.Scopes.{ModuleKind, Es, Cjs}
use Rattle.bundle_rules.specs.Cleared.{cleared}
use Rattle.bundle_rules.specs.Idents.{Ident}
use Rattle.bundle_rules.specs.Nodes.{Text}
use Rattle.bundle_rules.specs.Statements.{TopItem, Element, top_items, stated, own_statements, no_notes}
use Rattle.bundle_rules.specs.Sorting.{flat, group_of_items}
use Rattle.bundle_rules.specs.Order.{IsGoodOrder}
use Rattle.bundle_rules.specs.Entries.{Named, Whole}
use Rattle.bundle_rules.specs.Injected.{NamedTarget}
use Rattle.bundle_rules.specs.Program.{Program, tree_of}
use Rattle.bundle_rules.specs.Linking.{Target, Namespace, External, CommonJs}
use Rattle.bundle_rules.specs.Meaning.{Of, Load, Meta, Helper, IsMeant}
use Rattle.bundle_rules.specs.Merged.{IsMetaItem}
use Rattle.bundle_rules.specs.Bundle.{Cause, Own, ImportsNames, ImportsWhole, ImportsNothing, Helps, Defines, Loads, HoldsMeta, HoldsNamespace, Stars, Exports, Hooks, MayHold, AreFaultless, AreNames, AreLinked, MeansName, properties_tree, owner_of}
use Rattle.bundle_scope_names.specs.fit.Sorts.{AProperty, Many, slot}
use Rattle.bundle_scope_names.specs.fit.Fits.{AreFit}
use Rattle.bundle_merge_injected.specs.Listed as l
use Rattle.bundle_merge_theory.specs.walked.Stated.{StatesList}
use Rattle.bundle_merge_theory.specs.planned.Decided.{Decided, DecidedBlock, front_plan, back_plan, block_plan}
use Rattle.bundle_merge_theory.specs.made.Given.{HookAnswer, Fresh, Written, BundleContexts, HelperParameter, HelperVariable, TopOf, NameOf, WrittenIn, ident_of_label, default_ident}
use Rattle.bundle_merge_theory.specs.made.Steps.{IsStep, IsStepAnswered, occurrences_in, meta_ident}

-- what a statement of module m, read as this kind, becomes: what the top item states of which it
-- is made, with the steps of its names
pub record IsStatedAs (p : Program) (list : List ℕ) (context : BundleContexts) (m : ℕ)
    (kind : ModuleKind) (statement : List Element) (made : List Item) : Type 0 where
  pub top : TopItem
  pub there : Contains (top_items (tree_of p m)) top
  pub states : stated top.start top.items ≡ statement ∷ []
  -- as the loader handed it in, with contexts and notes
  pub given : List Item
  pub is_given : cleared given ≡ top.items
  pub steps : List Step
  pub each : AllZip (IsStep p list context m kind) (occurrences_in (tree_of p m) top) steps
  -- those of what follows in the module
  pub behind : List Step
  pub by : StatesList (record {
    steps = steps ++ behind;
    meta = meta_ident p list context m;
    clears_notes = true;
  }) (default_ident context m) given made

-- the names of a target's texts, each with the identifier that stands for it
abbrev pub named_idents : Program → List ℕ → BundleContexts → (Text → Target) → List Text →
    List (Text × Ident)
named_idents p list context of names =
    map (λ x. (x, ident_of_label p list context (Of (of x)))) names

-- linked names, each with the identifier that stands for its target
abbrev pub linked_idents : Program → List ℕ → BundleContexts → List NamedTarget →
    List (Text × Ident)
linked_idents p list context pairs =
    map (λ pair. (pair.0, ident_of_label p list context (Of pair.1))) pairs

-- what the hook answered for module m becomes the properties of an object
pub record IsAnsweredAs (p : Program) (hooks : Hooks) (context : BundleContexts) (m : ℕ)
    (properties made : List Item) : Type 0 where
  pub given : List Item
  pub is_given : cleared given ≡ properties
  pub held : MayHold p hooks m properties
  pub faultless : AreFaultless p properties
  pub fit : AreFit (slot 0 Many AProperty ∷ []) properties
  pub steps : List Step
  pub each : AllZip (IsStepAnswered context m properties) (occurrences (properties_tree properties))
      steps
  pub rest : Work
  pub by : Becomes InObject
      (record { steps = steps; meta = None; clears_notes = true }) given made rest

-- the object of `import.meta` that is written already stays as it is: its name and the bindings
-- inside keep their contexts
pub record IsWrittenAs (context : BundleContexts) (m ctxt : ℕ)
    (properties : List Item) : Type 0 where
  pub fit : AreFit (slot 0 Many AProperty ∷ []) properties
  pub name : context (NameOf (Meta m)) ≡ ctxt
  pub inside : (its : ℕ) → context (WrittenIn m its) ≡ its

-- an item is made for its cause, where the hook answered this for modules
pub data IsMade (p : Program) (hooks : Hooks) (list : List ℕ) (context : BundleContexts)
    (answers : ℕ → Option HookAnswer) : Cause → List Item → Type 0 where
  own : {m k : ℕ} {item : List Item} (statement : List Element) →
      slice_get (own_statements (tree_of p m)) k ≡ Some statement →
      IsStatedAs p list context m Es statement item →
      IsMade p hooks list context answers (Own m k) item
  imports_names : {s : Text} {item : List Item} (names : List Text) →
      AreNames (MeansName p s) names →
      item ≡ l.import_names s (named_idents p list context (λ x. External s (Named x)) names) →
      IsMade p hooks list context answers (ImportsNames s) item
  imports_whole : {s : Text} {item : List Item} →
      item ≡ l.import_whole s (ident_of_label p list context (Of (External s Whole))) →
      IsMade p hooks list context answers (ImportsWhole s) item
  imports_nothing : {s : Text} {item : List Item} →
      item ≡ l.import_bare s →
      IsMade p hooks list context answers (ImportsNothing s) item
  helps : {item : List Item} →
      item
      ≡ l.helper_function (ident_of_label p list context Helper)
      (codes "fn", context HelperParameter) (codes "module", context HelperVariable) →
      IsMade p hooks list context answers Helps item
  defines : {c : ℕ} {item : List Item} (bodies : List (List Item)) →
      AllZip (λ statement made. IsStatedAs p list context c Cjs statement made)
      (own_statements (tree_of p c)) bodies →
      item
      ≡ l.load_function (ident_of_label p list context (Load c))
      (ident_of_label p list context Helper) (codes "module", context (TopOf c))
      (codes "exports", context (TopOf c)) (flat bodies) →
      IsMade p hooks list context answers (Defines c) item
  loads : {m c : ℕ} {item : List Item} (whole : Bool) (names : List Text) →
      AreNames (λ x. IsMeant p (Of (CommonJs m c (Named x)))) names →
      (whole ≡ true → IsMeant p (Of (CommonJs m c Whole))) →
      (IsMeant p (Of (CommonJs m c Whole)) → whole ≡ true) →
      item
      ≡ l.load_statement (ident_of_label p list context (Load c))
      (if whole then Some (ident_of_label p list context (Of (CommonJs m c Whole))) else None)
      (named_idents p list context (λ x. CommonJs m c (Named x)) names) →
      IsMade p hooks list context answers (Loads m c) item
  holds_meta : {m : ℕ} {item : List Item} (properties made : List Item) →
      answers m ≡ Some (Fresh properties) →
      IsAnsweredAs p hooks context m properties made →
      item
      ≡ l.constant no_notes (ident_of_label p list context (Meta m)) (node 1 h.ObjectLit made) →
      IsMade p hooks list context answers (HoldsMeta m) item
  holds_written : {m : ℕ} {item : List Item} (its : IsMetaItem p hooks m item) →
      answers m ≡ Some (Written its.ctxt its.meta its.properties) →
      IsWrittenAs context m its.ctxt its.properties →
      IsMade p hooks list context answers (HoldsMeta m) item
  holds_namespace : {d : ℕ} {item : List Item} (pairs : List NamedTarget) →
      AreLinked p d pairs →
      item
      ≡ l.namespace_object no_notes (ident_of_label p list context (Of (Namespace d)))
      (linked_idents p list context pairs) →
      IsMade p hooks list context answers (HoldsNamespace d) item
  stars : {s : Text} {item : List Item} →
      item ≡ l.export_star s →
      IsMade p hooks list context answers (Stars s) item
  exports : {item : List Item} (pairs : List NamedTarget) →
      AreLinked p p.entry pairs →
      item ≡ l.export_list (linked_idents p list context pairs) →
      IsMade p hooks list context answers Exports item

-- All items.

-- the items of a block, in the order that was found if it is sorted
pub record IsBlockMade (p : Program) (hooks : Hooks) (list : List ℕ) (context : BundleContexts)
    (answers : ℕ → Option HookAnswer) (d : Decided) (block : DecidedBlock) (order : List ℕ)
    (placed : List (List Item)) : Type 0 where
  pub before : List (List Item)
  pub each : AllZip (IsMade p hooks list context answers) (block_plan d block.modules) before
  pub good : block.is_sorted ≡ true → IsGoodOrder
      (group_of_items (flat before) (map owner_of (block_plan d block.modules))) order
  pub sorted : block.is_sorted ≡ true → placed ≡ filter_map (slice_get before) order
  pub unsorted : block.is_sorted ≡ false → placed ≡ before

-- the same of blocks in turn
pub data AreBlocksMade (p : Program) (hooks : Hooks) (list : List ℕ) (context : BundleContexts)
    (answers : ℕ → Option HookAnswer) (d : Decided) :
    List DecidedBlock → List (List ℕ) → List (List Item) → Type 0 where
  none : AreBlocksMade p hooks list context answers d [] [] []
  more : {block : DecidedBlock} {blocks : List DecidedBlock} {order : List ℕ}
      {orders : List (List ℕ)} {placed rest : List (List Item)} →
      IsBlockMade p hooks list context answers d block order placed →
      AreBlocksMade p hooks list context answers d blocks orders rest →
      AreBlocksMade p hooks list context answers d (block ∷ blocks) (order ∷ orders)
      (placed ++ rest)

-- the items of a bundle: what is imported and the helper, the blocks, and what is exported
pub record AreMade (p : Program) (hooks : Hooks) (list : List ℕ) (context : BundleContexts)
    (answers : ℕ → Option HookAnswer) (d : Decided) (orders : List (List ℕ))
    (items : List (List Item)) : Type 0 where
  pub front : List (List Item)
  pub middle : List (List Item)
  pub back : List (List Item)
  pub is : items ≡ front ++ (middle ++ back)
  pub in_front : AllZip (IsMade p hooks list context answers) (front_plan d) front
  pub in_blocks : AreBlocksMade p hooks list context answers d d.blocks orders middle
  pub behind : AllZip (IsMade p hooks list context answers) (back_plan d) back
