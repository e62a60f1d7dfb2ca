-- When what a bundle is made of is that of a program, and its names are right.
use Rattle.std.specs.Prelude.{◌≡◌, ◌≢◌, ℕ, zero, suc, ◌<◌, ◌≤◌, ◌↔◌, false, List, [], ◌∷◌, Option, Some, None, Contains, drop, is_some, length, map, option_map, slice_get, take, unwrap_or, codes, if◌then◌else◌}
use Rattle.std.specs.List.{flat_map}
use Rattle.std.specs.BTreeMap.{get_by_text}
use Rattle.bundle_order_sort.specs.declared.plan.Block.{Block}
use Rattle.bundle_syntax.specs.declared.kind.ExportMetadata.{ExportMetadata}
use Rattle.bundle_tree_places.specs.Marks.{ident_of}
use Rattle.bundle_tree_ast.specs.declared.module.ModuleItem.{ModuleItem}
use Rattle.bundle_syntax.specs.Item as h
use Rattle.bundle_syntax.specs.Item.{Item, item_of}
use Rattle.bundle_tree_listed.specs.Tree.{key_value_prop_items, module_item_items, node}
use Rattle.bundle_rules.specs.Bundle.{properties_tree}
use Rattle.bundle_rules.specs.Cleared.{cleared}
use Rattle.bundle_rules.specs.Declarations.{BySymbol}
use Rattle.bundle_rules.specs.Entries.{has_import_meta}
use Rattle.bundle_rules.specs.Meaning.{HasKind, Meta}
use Rattle.bundle_rules.specs.Merged.{meta_item}
use Rattle.bundle_rules.specs.Nodes.{Text}
use Rattle.bundle_rules.specs.Program.{Program, tree_of, IsReached}
use Rattle.bundle_rules.specs.Scopes.{ModuleKind, Es}
use Rattle.bundle_rules.specs.Symbols.{symbol_of_label}
use Rattle.bundle_scope_denote.specs.Listed.{IsDenotationTable}
use Rattle.bundle_link_index.specs.Programs.{IsTableOf}
use Rattle.bundle_link_targets.specs.Linked.{HandsOver, IsLinkingOf}
use Rattle.bundle_link_targets.specs.Meant.{AreModules}
use Rattle.bundle_merge_theory.specs.planned.Decided.{numbers_from}
use Rattle.bundle_merge_names.specs.declared.names.Label.{Label}
use Rattle.bundle_merge_names.specs.declared.names.BundleNames.{BundleNames}
use Rattle.bundle_merge_names.specs.declared.part.Answered.{Answered}
use Rattle.bundle_merge_names.specs.declared.part.BundleInput.{BundleInput}
use Rattle.bundle_merge_names.specs.declared.part.BundleModule.{BundleModule}
use Rattle.bundle_merge_theory.specs.made.Given.{HookAnswer, Fresh, Written, stands_written, BundleContexts, Holder, TopOf, NameOf, WrittenIn, HelperParameter, HelperVariable, numbers_in, numbers_answered}
use Rattle.bundle_merge_theory.specs.made.Alone.{IsHolder, TellApart}
use Rattle.bundle_merge_names.specs.Named.{IsGiven, answered_in, held, holder_of, local_in, scopes_in}
use Rattle.bundle_merge_names.specs.Numbers.{AreNumbersOf, position}

-- the items of a part that are its own: the object of its `import.meta` may stand in front
abbrev pub own_items : BundleModule → List ModuleItem
own_items part = drop (if is_some part.written then 1 else 0) part.items.now

-- the object of its `import.meta`, if it is there
abbrev pub written_items : BundleModule → List ModuleItem
written_items part = take (if is_some part.written then 1 else 0) part.items.now

-- the list of a module of the items that are its own
abbrev pub list_of_part : BundleModule → List Item
list_of_part part = node 0 h.Module (flat_map (module_item_items 0) (own_items part))

-- a part is that of a module: its items, what the names in their list denote, its tables, and where
-- its requests lead
pub record IsPartOf (p : Program) (m : ℕ) (part : BundleModule) : Type 0 where
  pub tree : tree_of p m ≡ cleared (list_of_part part)
  pub table : (kind : ModuleKind) →
      HasKind p m kind →
      IsDenotationTable BySymbol kind (list_of_part part) part.denotations.now
  pub tables : IsTableOf p m part.tables.now
  pub meta : part.tables.now.has_import_meta ≡ has_import_meta (tree_of p m)
  pub leads : (s : Text) → p.leads m s ≡ get_by_text part.leads.now s

-- the properties that a hook answered, as their items
abbrev pub answered_items : Answered → List Item
answered_items its = flat_map (key_value_prop_items 0) its.properties.now

-- what the hook answered for a module, if something
pub record IsReadAnswer (properties : List Item) (its : Answered) : Type 0 where
  pub told : properties ≡ cleared (answered_items its)
  pub listed : map item_of its.pieces.now ≡ properties_tree (answered_items its)
  pub table : IsDenotationTable BySymbol Es (map item_of its.pieces.now) its.denotations.now

-- the first item of a part is the object of its `import.meta`, with these notes and properties, and
-- its name has this context
pub record IsWrittenIn (part : BundleModule) (ctxt : ℕ) (notes : ExportMetadata)
    (properties : List Item) : Type 0 where
  pub name : option_map ident_of part.written ≡ Some (codes "importMeta", ctxt)
  pub first : ModuleItem
  pub rest : List ModuleItem
  pub items : part.items.now ≡ first ∷ rest
  pub is : module_item_items 0 first ≡ meta_item notes ctxt properties

-- what is there of the `import.meta` of a module: nothing, what the hook answered, or its object
abbrev pub AreMetaAnswers : Option HookAnswer → BundleModule → Option Answered → Type 0
AreMetaAnswers None part None = part.written ≡ None
AreMetaAnswers None part (Some its) = ⊥
AreMetaAnswers (Some (Fresh properties)) part None = ⊥
AreMetaAnswers (Some (Fresh properties)) part (Some its) =
    (part.written ≡ None) × IsReadAnswer properties its
AreMetaAnswers (Some (Written ctxt notes properties)) part None =
    IsWrittenIn part ctxt notes properties
AreMetaAnswers (Some (Written ctxt notes properties)) part (Some its) = ⊥

-- a context stands in the object of an `import.meta` that is written already: it is that of its
-- name, or of a binding inside
pub data StandsWritten (p : Program) (answers : ℕ → Option HookAnswer) (m : ℕ) : ℕ → Type 0 where
  its_name : {ctxt : ℕ} (notes : ExportMetadata) (properties : List Item) →
      IsReached p m →
      answers m ≡ Some (Written ctxt notes properties) →
      StandsWritten p answers m ctxt
  its_inside : {ctxt : ℕ} → IsHolder p answers (WrittenIn m ctxt) → StandsWritten p answers m ctxt

-- the contexts of such objects are none of those that are free, nor those of globals and of tops of
-- modules; no two objects have one in common, and no binding inside one has that of its name
pub record AreWrittenApart (p : Program) (answers : ℕ → Option HookAnswer)
    (bundle : BundleInput) : Type 0 where
  pub own : (m ctxt : ℕ) → StandsWritten p answers m ctxt → 1 < ctxt
  pub free : (m ctxt : ℕ) → StandsWritten p answers m ctxt → ctxt < position bundle.contexts
  pub tops : (m n ctxt : ℕ) (part : BundleModule) →
      StandsWritten p answers m ctxt →
      slice_get bundle.parts.now n ≡ Some part →
      ctxt ≢ part.local
  pub apart : (m n ctxt : ℕ) →
      StandsWritten p answers m ctxt →
      StandsWritten p answers n ctxt →
      m ≡ n
  pub names : (m ctxt its : ℕ) (notes : ExportMetadata) (properties : List Item) →
      answers m ≡ Some (Written ctxt notes properties) →
      IsHolder p answers (WrittenIn m its) →
      its ≢ ctxt

-- what a bundle is made of is that of a program whose modules are numbered by their places, where
-- the hook answered this for them
pub record AreBundleParts
    (p : Program) (list : List ℕ) (answers : ℕ → Option HookAnswer)
    (bundle : BundleInput) : Type 0 where
  pub reached : (m : ℕ) → IsReached p m ↔ (m < length bundle.parts.now)
  pub entry : suc p.entry ≡ length bundle.parts.now
  pub places : list ≡ numbers_from zero (length bundle.parts.now)
  pub linking : IsLinkingOf p bundle.linking.now
  pub handed : HandsOver p list bundle.linking.now
  pub modules : AreModules p
  pub parts : (m : ℕ) (part : BundleModule) → slice_get bundle.parts.now m ≡ Some part →
      IsPartOf p m part
  pub answered : (m : ℕ) (part : BundleModule) →
      slice_get bundle.parts.now m ≡ Some part →
      AreMetaAnswers (answers m) part (unwrap_or (slice_get bundle.answers.now m) None)
  pub written : AreWrittenApart p answers bundle
  pub own : (m : ℕ) (part : BundleModule) → slice_get bundle.parts.now m ≡ Some part →
      1 < part.local
  pub free : (m : ℕ) (part : BundleModule) →
      slice_get bundle.parts.now m ≡ Some part →
      part.local < position bundle.contexts
  pub apart : (m n : ℕ) (part other : BundleModule) →
      slice_get bundle.parts.now m ≡ Some part →
      slice_get bundle.parts.now n ≡ Some other →
      part.local ≡ other.local →
      m ≡ n
  pub blocks : (block : Block) →
      Contains bundle.blocks.now block →
      (m : ℕ) →
      Contains block.places.items m →
      m < length bundle.parts.now

-- what a holder of a context is called, if it is a label or one of the helper's
abbrev pub holder_symbol : Program → List ℕ → Holder → Text
holder_symbol p list (NameOf l) = symbol_of_label p list l
holder_symbol p list HelperParameter = codes "fn"
holder_symbol p list HelperVariable = codes "module"
holder_symbol p list _ = []

-- something gets a context in a bundle: it is the top of no module, and no name in or of an object
-- of `import.meta` that is written already, each of which has its own
pub record GetsContext (answers : ℕ → Option HookAnswer) (a : Holder) : Type 0 where
  pub no_top : (m : ℕ) → a ≡ TopOf m → ⊥
  pub unwritten : (m ctxt : ℕ) → a ≡ WrittenIn m ctxt → ⊥
  pub fresh : (m : ℕ) → a ≡ NameOf (Meta m) → stands_written (answers m) ≡ false

-- the names of a bundle are those of these contexts, which tell apart what has one; what gets one
-- has it from the first free one on, and the next free one is above all
pub record AreNamesOf
    (p : Program) (list : List ℕ) (answers : ℕ → Option HookAnswer) (context : BundleContexts)
    (bundle : BundleInput) (names : BundleNames) : Type 0 where
  pub apart : TellApart p answers context
  pub below : (a : Holder) → IsHolder p answers a → context a < position names.contexts
  pub from : (a : Holder) →
      IsHolder p answers a →
      GetsContext answers a →
      position bundle.contexts ≤ context a
  pub locals : (m : ℕ) → m < length bundle.parts.now → local_in names m ≡ Some (context (TopOf m))
  pub tops : (m : ℕ) (part : BundleModule) →
      slice_get bundle.parts.now m ≡ Some part →
      context (TopOf m) ≡ part.local
  pub scopes : (m : ℕ) (part : BundleModule) (kind : ModuleKind) →
      slice_get bundle.parts.now m ≡ Some part →
      HasKind p m kind →
      AreNumbersOf kind (list_of_part part) part.denotations.now (numbers_in context m)
      (scopes_in names m)
  pub answered : (m : ℕ) (its : Answered) →
      m < length bundle.parts.now →
      slice_get bundle.answers.now m ≡ Some (Some its) →
      AreNumbersOf Es (map item_of its.pieces.now) its.denotations.now (numbers_answered context m)
      (answered_in names m)
  pub metas : (m ctxt : ℕ) (notes : ExportMetadata) (properties : List Item) →
      m < length bundle.parts.now →
      answers m ≡ Some (Written ctxt notes properties) →
      context (NameOf (Meta m)) ≡ ctxt
  pub inside : (m ctxt : ℕ) → context (WrittenIn m ctxt) ≡ ctxt
  pub labels : (label : Label) →
      IsGiven (λ m. stands_written (answers m)) (IsHolder p answers) (holder_of label) →
      held names label ≡ Some (holder_symbol p list (holder_of label), context (holder_of label))
