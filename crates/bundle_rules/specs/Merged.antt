-- The merged modules of a linked program, before they are renamed or put into one function's call:
-- what is merged, and what comes of it (own; ECMA-262, 9.4.2 for what the names denote).
use Rattle.std.specs.Prelude.{◌≡◌, ◌≢◌, ℕ, ◌<◌, Bool, true, false, List, [], ◌∷◌, ◌++◌, Some, None, Contains, slice_get, codes}
use Rattle.bundle_syntax.specs.declared.kind.ExportMetadata.{ExportMetadata}
use Rattle.bundle_syntax.specs.declared.kind.VarDeclKind.TheVariants.{Const}
use Rattle.bundle_syntax.specs.declared.piece.Role.TheVariants.{Binding}
use Rattle.bundle_syntax.specs.Item as h
use Rattle.bundle_syntax.specs.Item.{Item}
use Rattle.bundle_rules.specs.Places.{Occurrence, occurrences, occurrence_at, is_binding}
use Rattle.bundle_rules.specs.Scopes.{ModuleKind, Es, Scope}
use Rattle.bundle_rules.specs.Declarations.{ByContext, Name}
use Rattle.bundle_rules.specs.Denotes.{Bound, Global, denoted_at, IsResolved}
use Rattle.bundle_rules.specs.Doubled.{first_doubled}
use Rattle.bundle_rules.specs.Keywords.{keyword_free}
use Rattle.bundle_rules.specs.Nodes.{Text, parts, IsWholeModule}
use Rattle.bundle_rules.specs.Entries.{has_import_meta}
use Rattle.bundle_rules.specs.Cleared.{tidied}
use Rattle.bundle_rules.specs.Renamed.{IsResolvedFrom, HasNamesOnly, IsNamed, IsRidOfKeywords}
use Rattle.bundle_rules.specs.Parts.{Parts, in_order, items_in}
use Rattle.bundle_rules.specs.Program.{Program, tree_of, IsReached}
use Rattle.bundle_rules.specs.Kept.{local_context, export_context}
use Rattle.bundle_rules.specs.Linking.{Declared}
use Rattle.bundle_rules.specs.Meaning.{Label, Of, Parameter, HasKind}
use Rattle.bundle_rules.specs.Bundle.{Hooks, MayHold, AreFaultless, properties_tree, Labelled, labelled, AsModule, form_of, IsBundle}
use Rattle.bundle_rules.specs.OwnForms.{KeepForms}
use Rattle.bundle_rules.specs.Symbols.{AreCalled}
use Rattle.bundle_rules.specs.Forms.{in_form}
use Rattle.bundle_rules.specs.Tables.{IsChecked}

-- What is merged.

-- the contexts of a module: the local one, and that of its exports
pub record Contexts : Type 0 where
  pub local : ℕ
  pub exported : ℕ

-- `const importMeta = { .. };`, with this context, these notes and these properties
abbrev pub meta_item : ExportMetadata → ℕ → List Item → List Item
meta_item meta ctxt properties =
    h.Open 0 (h.VarDecl Const meta) ∷ h.Open 1 h.VarDeclarator ∷ h.Open 0 h.BindingIdent
    ∷ h.Ident 0 (codes "importMeta") ctxt Binding ∷ h.Close
    ∷ h.Open 1 h.ObjectLit ∷ (properties ++ h.Close ∷ h.Close ∷ h.Close ∷ [])

-- an item is the one that holds the `import.meta` of m: properties without a fault that the hook
-- may answer, resolved by themselves with contexts above that of globals, so that nothing outside
-- binds a name in them; its own binding has a context above that of globals too, which stands
-- nowhere in them
pub record IsMetaItem (p : Program) (hooks : Hooks) (m : ℕ) (item : List Item) : Type 0 where
  pub answered : List Item
  pub held : MayHold p hooks m answered
  pub faultless : AreFaultless p answered
  pub properties : List Item
  pub local : ℕ
  pub next : ℕ
  pub later : ℕ
  pub inside : 1 < next
  pub resolved :
      IsResolvedFrom Es local next later (properties_tree answered) (properties_tree properties)
  pub meta : ExportMetadata
  pub ctxt : ℕ
  pub above : 1 < ctxt
  pub own : (o : Occurrence) → Contains (occurrences properties) o → o.ctxt ≢ ctxt
  pub is : item ≡ meta_item meta ctxt properties

-- `MetaItems p hooks m items`: that item, where the module has `import.meta`
pub data MetaItems (p : Program) (hooks : Hooks) (m : ℕ) : List (List Item) → Type 0 where
  none : has_import_meta (tree_of p m) ≡ false → MetaItems p hooks m []
  one : {item : List Item} →
      has_import_meta (tree_of p m) ≡ true →
      IsMetaItem p hooks m item →
      MetaItems p hooks m (item ∷ [])

-- the prepared items of a module: its `import.meta`, in which nothing has the local context, and
-- the items of its tree, resolved as what it is in the bundle; the two have no context in common
-- but 1
pub record AreItemsOf
    (p : Program) (hooks : Hooks) (local : ℕ) (m : ℕ) (items : List (List Item)) : Type 0 where
  pub front : List (List Item)
  pub is_front : MetaItems p hooks m front
  pub tree : List Item
  pub next : ℕ
  pub later : ℕ
  pub resolved : (kind : ModuleKind) →
      HasKind p m kind →
      IsResolvedFrom kind local next later (tree_of p m) tree
  pub is : items ≡ front ++ parts tree
  pub apart : (item : List Item) (a b : Occurrence) →
      Contains front item →
      Contains (occurrences item) a →
      Contains (occurrences tree) b →
      a.ctxt ≡ b.ctxt →
      a.ctxt ≡ 1
  pub outside : (item : List Item) (o : Occurrence) →
      Contains front item →
      Contains (occurrences item) o →
      o.ctxt ≢ local

-- an occurrence stands in the items of module m
pub record StandsIn (prepared : Parts) (m : ℕ) (o : Occurrence) : Type 0 where
  pub item : List Item
  pub its : Contains (items_in (in_order prepared) m) item
  pub there : Contains (occurrences item) o

-- what is merged: the items of each reached module of a program that has no fault of linking and in
-- which no module declares a name twice, since a module that does is never resolved; contexts tell
-- modules apart, nothing in the items of a module has the local context of another, and from `next`
-- on they are free
pub record IsPrepared
    (p : Program) (hooks : Hooks) (contexts : ℕ → Contexts) (next : ℕ)
    (prepared : Parts) : Type 0 where
  pub checked : IsChecked p None
  pub undoubled : (m : ℕ) (kind : ModuleKind) →
      IsReached p m →
      HasKind p m kind →
      first_doubled kind (tree_of p m) ≡ None
  pub items : (m : ℕ) →
      IsReached p m →
      AreItemsOf p hooks (contexts m).local m (items_in (in_order prepared) m)
  pub reached : (m : ℕ) (item : List Item) → Contains (in_order prepared) (m, item) → IsReached p m
  pub apart : (m n : ℕ) (a b : Occurrence) →
      m ≢ n →
      StandsIn prepared m a →
      StandsIn prepared n b →
      a.ctxt ≡ b.ctxt →
      a.ctxt ≡ 1
  pub strange : (m n : ℕ) (o : Occurrence) →
      m ≢ n →
      StandsIn prepared m o →
      IsReached p n →
      o.ctxt ≢ (contexts n).local
  pub locals : (m n : ℕ) →
      IsReached p m →
      IsReached p n →
      (contexts m).local ≡ (contexts n).local →
      m ≡ n
  pub exports : (m n : ℕ) →
      IsReached p m →
      IsReached p n →
      (contexts m).exported ≡ (contexts n).exported →
      m ≡ n
  pub differ : (m n : ℕ) →
      IsReached p m →
      IsReached p n →
      (contexts m).local ≢ (contexts n).exported
  pub unused : (m n : ℕ) (o : Occurrence) →
      StandsIn prepared m o →
      IsReached p n →
      o.ctxt ≢ (contexts n).exported
  pub above_one : (m : ℕ) → IsReached p m → (1 < (contexts m).local) × (1 < (contexts m).exported)
  pub below_next : (m : ℕ) →
      IsReached p m →
      ((contexts m).local < next) × ((contexts m).exported < next)
  pub free : (m : ℕ) (o : Occurrence) → StandsIn prepared m o → o.ctxt < next

-- What comes of it.

-- contexts of a bundle that is read by them, where names are spelled so: a name that a module
-- declares has the module's local one; one that is spelled otherwise may have lost it, but only to
-- a name that is spelled so with it; a global has 1
pub record HasContexts (spelled : Text → Text) (local : ℕ → ℕ) (b : Labelled) : Type 0 where
  pub declared : (scope : Scope) (name : Name) (m : ℕ) (x : Text) →
      Contains b.labels (Bound scope name, Of (Declared m x)) →
      spelled x ≡ x →
      name.ctxt ≡ Some (local m)
  pub stands : (scope : Scope) (name : Name) (m : ℕ) (x : Text) →
      Contains b.labels (Bound scope name, Of (Declared m x)) →
      (o : Occurrence) × Contains (occurrences b.tree) o × (o.sym ≡ spelled x) × (o.ctxt ≡ local m)
  pub globals : (place : ℕ) (o : Occurrence) (x : Text) →
      occurrence_at b.tree place ≡ Some o →
      denoted_at ByContext Es b.tree place ≡ Some (Global x) →
      o.ctxt ≡ 1

-- whether a binding that stands for this is a name of a module: one that it declares or, of a
-- CommonJS module, a parameter of its function
abbrev pub is_module_name : Label → Bool
is_module_name (Of (Declared m x)) = true
is_module_name (Parameter c x) = true
is_module_name _ = false

-- all other bindings, which are those inside statements and those of what is added, have contexts
-- above those of the reached modules
abbrev pub HasOthersAbove : Program → Labelled → Type 0
HasOthersAbove p b =
    (place : ℕ) (o : Occurrence) (scope : Scope) (name : Name) (m : ℕ) →
    occurrence_at b.tree place ≡ Some o →
    denoted_at ByContext Es b.tree place ≡ Some (Bound scope name) →
    ((l : Label) → Contains b.labels (Bound scope name, l) → is_module_name l ≡ false) →
    IsReached p m →
    export_context m < o.ctxt

-- no binding has the context 1, which is that of globals
abbrev pub BindsOwn : List Item → Type 0
BindsOwn tree =
    (n : ℕ) (o : Occurrence) →
    slice_get (occurrences tree) n ≡ Some o →
    is_binding o.role ≡ true →
    o.ctxt ≢ 1

-- the merged modules are a bundle in the form of a module, read by symbol and context: resolved,
-- with an identifier for each declaration, with the contexts of the modules and none of them 1, and
-- each binding called as its label, spelled so: as it is, or with `__` before a keyword once
-- keywords are renamed
pub record IsMerged
    (spelled : Text → Text) (local : ℕ → ℕ) (p : Program) (hooks : Hooks)
    (tree : List Item) : Type 0 where
  pub is_bundle : IsBundle p hooks AsModule ByContext tree
  pub resolved : IsResolved Es tree
  pub named : HasNamesOnly tree
  pub contexts : HasContexts spelled local (labelled tree ByContext is_bundle.pairing)
  pub binds : BindsOwn tree
  pub called :
      AreCalled spelled p hooks (labelled tree ByContext is_bundle.pairing) is_bundle.pairing

-- the modules of a program as they are joined, before keywords are renamed: they are merged with
-- their names as they are, own statements keep their forms, and all that is no module's name has
-- a context above those of modules
pub record IsJoined (p : Program) (hooks : Hooks) (joined : List Item) : Type 0 where
  pub merged : IsMerged (λ x. x) local_context p hooks joined
  pub forms : KeepForms p merged.is_bundle.pairing
  pub others : HasOthersAbove p (labelled joined ByContext merged.is_bundle.pairing)

-- a tree comes of the joined modules by the renaming of keywords
pub record ComesOfJoined (p : Program) (hooks : Hooks) (merged : List Item) : Type 0 where
  pub joined : List Item
  pub is_joined : IsJoined p hooks joined
  pub rid : IsRidOfKeywords joined merged

-- how the merged tree is named: by the naming rule or, where it is not renamed, as it is
abbrev pub IsNamedAs : (is_renamed : Bool) → List Item → List Item → Type 0
IsNamedAs true merged named = IsNamed merged named
IsNamedAs false merged named = named ≡ tidied merged

-- the names of a bundle are right, and its own statements keep their forms: it comes of the
-- joined modules, whose keywords are renamed and which are named, where the settings say so, and
-- then put into their form; what is named is the list of a module, so that no name stands behind
-- it
pub record HasRightNames (p : Program) (hooks : Hooks) (tree : List Item) : Type 0 where
  pub merged : List Item
  pub comes : ComesOfJoined p hooks merged
  pub is_merged : IsMerged keyword_free local_context p hooks merged
  pub named : List Item
  pub names : IsNamedAs p.settings.renames merged named
  pub whole : IsWholeModule named
  pub form : tree ≡ in_form (form_of p.settings) named
