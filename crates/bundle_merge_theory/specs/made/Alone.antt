-- What is so of each item of a bundle by itself, and of the contexts of all: of this it follows
-- that they make a bundle.
use Rattle.std.specs.Prelude.{◌≡◌, ◌↔◌, ⊤, ℕ, ◌<◌, true, false, List, [], ◌∷◌, Option, Some, None, Contains, codes, find, fold, map, position, slice_get}
use Rattle.std.specs.List.{AllZip}
use Rattle.bundle_syntax.specs.declared.kind.ExportMetadata.{ExportMetadata}
use Rattle.bundle_syntax.specs.declared.piece.Role.{Role}
use Rattle.bundle_syntax.specs.declared.piece.Role.TheVariants.{Binding}
use Rattle.bundle_syntax.specs.Item as h
use Rattle.bundle_syntax.specs.Item.{Item}
use Rattle.bundle_rules.specs.Places.{Spot, Occurrence, past, occurrences_from, occurrences}
use Rattle.bundle_rules.specs.Scopes.{ModuleKind, ScopeKind, Es, Cjs, Top, Inner, scopes_around}
use Rattle.bundle_rules.specs.Declarations.{BySymbol, ByContext, Name, name_of}
use Rattle.bundle_rules.specs.Homes.{is_function}
use Rattle.bundle_rules.specs.Doubled.{first_doubled}
use Rattle.bundle_rules.specs.Denotes.{Denoted, SameIdent, Bound, denoted_at, denoted_as, is_written_in}
use Rattle.bundle_rules.specs.Mentions.{same_denoted, each_denoted_once}
use Rattle.bundle_rules.specs.Idents.{ident_of}
use Rattle.bundle_rules.specs.Nodes.{Text}
use Rattle.bundle_rules.specs.Statements.{Element, taken, written, taken_from, own_statements}
use Rattle.bundle_rules.specs.Entries.{Taken, Named, Whole, declared_requests}
use Rattle.bundle_rules.specs.Tables.{IsChecked}
use Rattle.bundle_rules.specs.Faults.{IsFaultless}
use Rattle.bundle_tree_names.specs.FileName.{Name as FileName}
use Rattle.bundle_rules.specs.Program.{Program, tree_of, is_external, IsReached, IsList}
use Rattle.bundle_rules.specs.Linking.{IsCommonJs, Declared, Namespace, External, CommonJs}
use Rattle.bundle_rules.specs.Injected.{meta_object}
use Rattle.bundle_rules.specs.Meaning.{Label, Of, Load, Meta, Helper, Mark, Meant, Inside, Known, Unbound, HasKind, IsMeant, is_inside, plain, own_view}
use Rattle.bundle_rules.specs.Symbols.{denoted_symbol, inner_symbols}
use Rattle.bundle_rules.specs.Bundle.{Cause, Own, ImportsNames, ImportsWhole, Helps, Defines, Loads, HoldsMeta, HoldsNamespace, AsModule, Hooks, MayHold, MeansName, IsDue, PropertiesMean, properties_tree}
use Rattle.bundle_scope_names.specs.fit.Sorts.{AnItem}
use Rattle.bundle_scope_names.specs.fit.Fits.{IsFit}
use Rattle.bundle_link_targets.specs.Meant.{AreModules}
use Rattle.bundle_merge_theory.specs.joined.Joined.{own_declared, is_global_written, IsNamed as HasNames}
use Rattle.bundle_merge_theory.specs.joined.Picked.{IsSingle}
use Rattle.bundle_merge_theory.specs.joined.Notes.{its_name, own_denoted, is_inner_denoted, is_inner_name, IsListedIn}
use Rattle.bundle_merge_theory.specs.loaded.Contexts.{OwnEntry}
use Rattle.bundle_merge_theory.specs.composed.Noted.{NotedItem, AsWhole, AsFunction, IsNotedFor, first_spot}
use Rattle.bundle_merge_theory.specs.composed.Names.{own_from, told_inside}
use Rattle.bundle_merge_theory.specs.composed.Functions.{IsOfForm}
use Rattle.bundle_merge_theory.specs.fit.Programs.{HasFitTrees}
use Rattle.bundle_merge_theory.specs.composed.Single.{OneNode, NoLone}
use Rattle.bundle_merge_theory.specs.walked.Renaming.{ItemMeaning}
use Rattle.bundle_merge_theory.specs.made.Given.{BundleContexts, HookAnswer, Fresh, Written, Holder, TopOf, InsideOf, AnsweredOf, WrittenIn, NameOf, HelperParameter, HelperVariable, numbers_in, ident_of_label}

-- What is asked of the modules: they have no fault of linking, no module declares a name twice, and
-- their trees are lists of the form of trees.
pub record AreTreesSound (p : Program) (list : List ℕ) : Type 0 where
  pub is_list : IsList p list
  pub checked : IsChecked p None
  pub faultless : (m : ℕ) → IsReached p m → (file : FileName) × IsFaultless file (tree_of p m)
  pub undoubled : (m : ℕ) (kind : ModuleKind) →
      IsReached p m →
      HasKind p m kind →
      first_doubled kind (tree_of p m) ≡ None
  -- each request of a reached module leads to one, or is external
  pub resolved : (m : ℕ) (s : Text) →
      IsReached p m →
      Contains (declared_requests (tree_of p m)) s →
      is_external p s ≡ false →
      (d : ℕ) × (p.leads m s ≡ Some d)
  pub modules : AreModules p
  pub fit : HasFitTrees p

-- Labels.

-- an element of a statement of m declares a name at the top of m
pub data DeclaresTop (p : Program) (m : ℕ) : Element → Text → Type 0 where
  by_name : {place field ctxt : ℕ} {x : Text} →
      denoted_at BySymbol Es (tree_of p m) place ≡ Some (Bound Top (plain x)) →
      DeclaresTop p m (taken place (h.Ident field x ctxt Binding)) x
  by_default : {field ctxt : ℕ} {x : Text} {role : Role} →
      DeclaresTop p m (written (h.Ident field x ctxt role)) x

-- what is added for a cause declares the label
pub data AddsLabel (p : Program) : Cause → Label → Type 0 where
  imports_name : {s x : Text} →
      MeansName p s x →
      AddsLabel p (ImportsNames s) (Of (External s (Named x)))
  imports_whole : {s : Text} → AddsLabel p (ImportsWhole s) (Of (External s Whole))
  helps : AddsLabel p Helps Helper
  defines : {c : ℕ} → AddsLabel p (Defines c) (Load c)
  loads : {m c : ℕ} {its : Taken} →
      IsMeant p (Of (CommonJs m c its)) →
      AddsLabel p (Loads m c) (Of (CommonJs m c its))
  holds_meta : {m : ℕ} → AddsLabel p (HoldsMeta m) (Meta m)
  holds_namespace : {d : ℕ} → AddsLabel p (HoldsNamespace d) (Of (Namespace d))

-- the item of a cause declares the label at its top
pub data DeclaresLabel (p : Program) : Cause → Label → Type 0 where
  own : {m k : ℕ} {x : Text} (statement : List Element) (e : Element) →
      slice_get (own_statements (tree_of p m)) k ≡ Some statement →
      Contains statement e →
      DeclaresTop p m e x →
      DeclaresLabel p (Own m k) (Of (Declared m x))
  adds : {cause : Cause} {l : Label} → AddsLabel p cause l → DeclaresLabel p cause l

-- the top of a bundle declares the label
pub record IsTopLabel (p : Program) (l : Label) : Type 0 where
  pub cause : Cause
  pub due : IsDue p AsModule cause
  pub declares : DeclaresLabel p cause l

-- Contexts.

-- what has a context in a bundle, where the hook answered this for modules
pub data IsHolder (p : Program) (answers : ℕ → Option HookAnswer) : Holder → Type 0 where
  top_of : {m : ℕ} → IsReached p m → IsHolder p answers (TopOf m)
  inside_of : {m begins : ℕ} (kind : ModuleKind) (its : ScopeKind) (name : Name) (i : ℕ) →
      IsReached p m →
      HasKind p m kind →
      denoted_as BySymbol kind (tree_of p m) i ≡ Some (Bound (Inner its begins) name) →
      IsHolder p answers (InsideOf m begins)
  answered_of : {m begins : ℕ} (properties : List Item) (its : ScopeKind) (name : Name) (i : ℕ) →
      IsReached p m →
      answers m ≡ Some (Fresh properties) →
      denoted_as BySymbol Es (properties_tree properties) i ≡ Some (Bound (Inner its begins) name) →
      IsHolder p answers (AnsweredOf m begins)
  written_in : {m ctxt : ℕ} (own : ℕ) (notes : ExportMetadata) (properties : List Item)
      (its : ScopeKind) (begins : ℕ) (name : Name) (i : ℕ) (o : Occurrence) →
      IsReached p m →
      answers m ≡ Some (Written own notes properties) →
      slice_get (occurrences (properties_tree properties)) i ≡ Some o →
      denoted_as ByContext Es (properties_tree properties) i
      ≡ Some (Bound (Inner its begins) name) →
      o.ctxt ≡ ctxt →
      IsHolder p answers (WrittenIn m ctxt)
  added : {l : Label} (cause : Cause) →
      IsDue p AsModule cause →
      AddsLabel p cause l →
      IsHolder p answers (NameOf l)
  parameter : (c : ℕ) → IsReached p c → IsCommonJs p c → IsHolder p answers HelperParameter
  variable : (c : ℕ) → IsReached p c → IsCommonJs p c → IsHolder p answers HelperVariable

-- no two of these have one context, and none has that of globals
pub record TellApart (p : Program) (answers : ℕ → Option HookAnswer) (context : BundleContexts) :
    Type 0 where
  pub own : (a : Holder) → IsHolder p answers a → 1 < context a
  pub apart : (a b : Holder) →
      IsHolder p answers a →
      IsHolder p answers b →
      context a ≡ context b →
      a ≡ b

-- a context that stands only in the item of the cause
pub data OwnsHolder (p : Program) : Cause → Holder → Type 0 where
  own : {m k begins : ℕ} {x : Item} (statement : List Element) →
      slice_get (own_statements (tree_of p m)) k ≡ Some statement →
      Contains statement (taken begins x) →
      OwnsHolder p (Own m k) (InsideOf m begins)
  defines_inside : {c begins : ℕ} → OwnsHolder p (Defines c) (InsideOf c begins)
  defines_top : {c : ℕ} → OwnsHolder p (Defines c) (TopOf c)
  holds_meta : {m begins : ℕ} → OwnsHolder p (HoldsMeta m) (AnsweredOf m begins)
  holds_written : {m ctxt : ℕ} → OwnsHolder p (HoldsMeta m) (WrittenIn m ctxt)
  helps_parameter : OwnsHolder p Helps HelperParameter
  helps_variable : OwnsHolder p Helps HelperVariable

-- Names.

-- what an occurrence of an item by itself means, in a statement that begins at this place of it and
-- has these bindings inside
pub data NameAlone (p : Program) (list : List ℕ) (context : BundleContexts)
    (answers : ℕ → Option HookAnswer) (cause : Cause) (item : List Item) (begins : ℕ)
    (inner : List Denoted) (o : Occurrence) : Meant → Type 0 where
  -- a binding inside
  inside : {k : ℕ} (holder : Holder) →
      is_inner_denoted (own_denoted item o) ≡ true →
      is_inside begins (own_denoted item o) ≡ true →
      position (same_denoted (own_denoted item o)) inner ≡ Some k →
      OwnsHolder p cause holder →
      ((c : ℕ) → cause ≡ Defines c → holder ≡ TopOf c → ⊥) →
      IsHolder p answers holder →
      o.ctxt ≡ context holder →
      NameAlone p list context answers cause item begins inner o (Inside k)
  -- what the top of the bundle declares, also where the item by itself takes it for the
  -- `arguments` of a function
  of_top : {l : Label} →
      is_inner_name (own_declared item) (its_name o) ≡ false →
      ((c : ℕ) → cause ≡ Defines c → is_inner_denoted (own_denoted item o) ≡ false) →
      IsTopLabel p l →
      ident_of o ≡ ident_of_label p list context l →
      NameAlone p list context answers cause item begins inner o (Known l)
  -- a name of a CommonJS module in its load function
  of_function : {c : ℕ} {l : Label} →
      cause ≡ Defines c →
      is_inside begins (own_denoted item o) ≡ false →
      is_inner_denoted (own_denoted item o) ≡ true →
      ((m : ℕ) (x : Text) → l ≡ Of (Declared m x) → is_global_written (own_denoted item o) ≡ true) →
      OwnEntry c (numbers_in context c) (tree_of p c) (ident_of o) l →
      NameAlone p list context answers cause item begins inner o (Known l)
  -- a global
  free : o.ctxt ≡ 1 →
      is_inner_name (own_declared item) (its_name o) ≡ false →
      (o.sym ≡ codes "arguments" → find is_function (scopes_around Es o.path) ≡ None) →
      NameAlone p list context answers cause item begins inner o (Unbound o.sym)

module _
    (p : Program) (list : List ℕ) (context : BundleContexts) (answers : ℕ → Option HookAnswer)
    (cause : Cause) (item : List Item) where
  -- a statement in an item, at this spot of it, by what is told of it
  abbrev pub StatementAlone : Spot → List Item → ItemMeaning → Type 0
  StatementAlone s part told =
      AllZip (NameAlone p list context answers cause item s.place
      (each_denoted_once (told_inside (own_from item s part) told.0)))
      (occurrences_from s part) told.0

  -- statements, one after another
  abbrev pub StatementsAlone : Spot → List (List Item) → List ItemMeaning → Type 0
  StatementsAlone s [] [] = ⊤
  StatementsAlone s (part ∷ parts) (told ∷ tolds) =
      StatementAlone s part told × StatementsAlone (fold past s part) parts tolds
  StatementsAlone s _ _ = ⊥

  -- a name in front of the statements of a load function
  abbrev pub FrontAlone : Occurrence → Label → Type 0
  FrontAlone o l = NameAlone p list context answers cause item 22 [] o (Known l)

  -- an item, by what is told of it
  abbrev pub ItemAlone : NotedItem → Type 0
  ItemAlone (AsWhole told) = StatementAlone first_spot item told
  ItemAlone (AsFunction front names insides tolds) =
      AllZip FrontAlone (occurrences_from first_spot front) names × StatementsAlone
      (fold past first_spot front) insides tolds

-- What bindings are called.

-- the symbols of the bindings inside a part of an item, by what is told of it
abbrev pub symbols_inside : List Item → Spot → List Item → ItemMeaning → List Text
symbols_inside item s part told =
    map denoted_symbol (each_denoted_once (told_inside (own_from item s part) told.0))

-- the same of an item that is told as a whole
abbrev pub symbols_whole : List Item → NotedItem → List Text
symbols_whole item (AsWhole told) = symbols_inside item first_spot item told
symbols_whole item (AsFunction front names insides tolds) = []

-- those of statements of a load function are those of the module's
abbrev pub StatementsCalled : Program → ℕ → List Item → Spot → List (List Item) → List ItemMeaning →
    List (List Element) → Type 0
StatementsCalled p c item s [] [] [] = ⊤
StatementsCalled p c item s (part ∷ parts) (told ∷ tolds) (statement ∷ statements) =
    (symbols_inside item s part told ≡ inner_symbols (own_view p c Cjs) 0 statement)
    × StatementsCalled p c item (fold past s part) parts tolds statements
StatementsCalled p c item s _ _ _ = ⊥

-- the symbols of an answer's bindings
abbrev pub symbols_answered : List Item → List Text
symbols_answered properties =
    inner_symbols
    (record { tree = properties_tree properties; kind = Es; reading = BySymbol }) 0
    (taken_from 3 properties)

-- the bindings inside an item are called as those of what it stands for
abbrev pub CalledAlone : Program → Hooks → Cause → List Item → NotedItem → Type 0
CalledAlone p hooks (Own m k) item noted =
    (statement : List Element) →
    slice_get (own_statements (tree_of p m)) k ≡ Some statement →
    symbols_whole item noted ≡ inner_symbols (own_view p m Es) 0 statement
CalledAlone p hooks (Defines c) item (AsFunction front names insides tolds) =
    StatementsCalled p c item (fold past first_spot front) insides tolds
    (own_statements (tree_of p c))
CalledAlone p hooks (Defines c) item (AsWhole told) = ⊥
CalledAlone p hooks Helps item noted =
    symbols_whole item noted ≡ codes "fn" ∷ codes "module" ∷ []
CalledAlone p hooks (HoldsMeta m) item (AsWhole told) =
    (properties : List Item) × (marks : List Mark) × MayHold p hooks m properties
    × PropertiesMean properties marks × (told.1 ≡ meta_object m marks)
    × (symbols_whole item (AsWhole told) ≡ symbols_answered properties)
CalledAlone p hooks (HoldsMeta m) item (AsFunction front names insides tolds) = ⊥
CalledAlone p hooks _ item noted = ⊤

-- a name of an item by itself denotes a binding of an inner scope, and does so in the bundle: if it
-- is an `arguments` that nothing declares there, it is no label's that the top declares
pub record IsInnerAlone (p : Program) (list : List ℕ) (context : BundleContexts) (item : List Item)
    (o : Occurrence) : Type 0 where
  pub is : is_inner_denoted (own_denoted item o) ≡ true
  pub unless : is_global_written (own_denoted item o) ≡ false →
      (l : Label) →
      IsTopLabel p l →
      ident_of o ≡ ident_of_label p list context l →
      ⊥

-- what is so of the item of a cause by itself
pub record IsItemAlone (p : Program) (hooks : Hooks) (list : List ℕ) (context : BundleContexts)
    (answers : ℕ → Option HookAnswer) (cause : Cause) (item : List Item) : Type 0 where
  pub noted : NotedItem
  pub stands : IsNotedFor p hooks AsModule item noted cause
  pub names : ItemAlone p list context answers cause item noted
  pub called : CalledAlone p hooks cause item noted
  pub form : IsOfForm item noted
  pub one : OneNode item noted
  pub lone : NoLone item noted
  pub named : HasNames item
  pub single : IsSingle item
  pub fit : IsFit AnItem 0 item
  -- bindings inside are told apart
  pub inner : (a b : Occurrence) →
      IsListedIn item a →
      IsListedIn item b →
      IsInnerAlone p list context item a →
      IsInnerAlone p list context item b →
      SameIdent a b ↔ (own_denoted item a ≡ own_denoted item b)
  -- what the item declares at its top
  pub declares : (l : Label) →
      DeclaresLabel p cause l →
      is_written_in (own_declared item) Top
      (name_of ByContext (ident_of_label p list context l).0 (ident_of_label p list context l).1)
      ≡ true
  pub declared : (x : Text) (c : ℕ) →
      is_written_in (own_declared item) Top (name_of ByContext x c) ≡ true →
      (l : Label) × DeclaresLabel p cause l × ((x, c) ≡ ident_of_label p list context l)
