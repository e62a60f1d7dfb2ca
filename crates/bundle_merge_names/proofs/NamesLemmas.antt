-- What a bundle's names hold are contexts that tell apart what has one.
use Rattle.std.proofs.Common.{◌≡◌, ◌≤◌, ◌<◌, inl, inr, ℕ, zero, suc, Bool, true, false, List, [], ◌∷◌, ◌++◌, Option, Some, None, unwrap_or, length, map, option_map, refl, ap, ap₂, sym, subst, ◌∙◌, arith}
use Rattle.std.specs.Prelude.{slice_get}
use Rattle.std.specs.Borrow.{Bor}
use Rattle.std.specs.declared.vec.Vec.{Vec}
use Rattle.std.specs.Global.{Global}
use Rattle.std.proofs.lemmas.Option.{none-some, same_Some, slice_get_within}
use Rattle.indexmap.specs.IndexMap.{get_by}
use Rattle.std.proofs.lemmas.Bool.{true≢false}
use Rattle.bundle_syntax.specs.declared.kind.ExportMetadata.{ExportMetadata}
use Rattle.bundle_syntax.specs.Item as h
use Rattle.bundle_syntax.specs.Item.{Item, item_of}
use Rattle.bundle_rules.specs.Bundle.{AsModule, Cause, HoldsMeta, IsDue, properties_tree}
use Rattle.bundle_rules.specs.Cleared.{cleared, cleared_item}
use Rattle.bundle_rules.specs.Declarations.{BySymbol, Name}
use Rattle.bundle_rules.specs.Denotes.{Bound, denotations, denoted_as}
use Rattle.bundle_rules.specs.Entries as e
use Rattle.bundle_rules.specs.Idents.{Ident}
use Rattle.bundle_rules.specs.Linking as l
use Rattle.bundle_rules.specs.Meaning as m
use Rattle.bundle_rules.specs.Nodes.{Text}
use Rattle.bundle_rules.specs.Program.{Program, tree_of, IsReached}
use Rattle.bundle_rules.specs.Scopes.{ModuleKind, ScopeKind, Es, Inner}
use Rattle.bundle_tree_places.specs.Marks.{ident_of}
use Rattle.bundle_rules.proofs.DenotesLemmas.{denotations-cleared}
use Rattle.bundle_scope_denote.specs.declared.table.Scope.{Scope}
use Rattle.bundle_link_tables.specs.declared.table.Taken.{Taken}
use Rattle.bundle_link_tables.specs.declared.table.Taken.TheVariants as k
use Rattle.bundle_link_tables.specs.TablesOf.{taken_of}
use Rattle.bundle_link_index.specs.Says.{target_of}
use Rattle.bundle_link_index.specs.declared.target.TargetRef.{TargetRef}
use Rattle.bundle_link_index.specs.declared.target.TargetRef.TheVariants as t
use Rattle.bundle_link_targets.specs.Lists.{list_in}
use Rattle.bundle_merge_names.specs.contracts.names.LabelPartialEq.TheImpl as label_impl
use Rattle.bundle_merge_names.specs.declared.names.Label.{Label}
use Rattle.bundle_merge_names.specs.declared.names.Label.TheVariants as n
use Rattle.bundle_merge_names.specs.declared.names.BundleNames.{BundleNames}
use Rattle.bundle_merge_names.specs.declared.part.Answered.{Answered}
use Rattle.bundle_merge_names.specs.declared.part.BundleInput.{BundleInput}
use Rattle.bundle_merge_names.specs.declared.part.BundleModule.{BundleModule}
use Rattle.bundle_merge_names.specs.Added.{GivesNames}
use Rattle.bundle_merge_names.specs.Bundle.{AreMetaAnswers, AreBundleParts, AreNamesOf, GetsContext, IsReadAnswer, StandsWritten, answered_items, holder_symbol, its_inside, its_name, list_of_part}
use Rattle.bundle_merge_theory.specs.made.Given.{HookAnswer, Fresh, Written, stands_written, BundleContexts, Holder, TopOf, InsideOf, AnsweredOf, WrittenIn, NameOf, HelperParameter, HelperVariable, context_in_order, numbers_answered, numbers_in}
use Rattle.bundle_merge_names.specs.Held.{AreLabelContexts}
use Rattle.bundle_merge_theory.specs.made.Alone.{AddsLabel, IsHolder, added, answered_of, defines, helps, holds_meta, holds_namespace, imports_name, imports_whole, inside_of, loads, parameter, top_of, variable, written_in}
use Rattle.bundle_merge_names.specs.Idents.{label_ident}
use Rattle.bundle_merge_names.specs.Inside.{AreScopesNamed, HasScopeContext, HoldsNothing, IsScoped, answer_of, contexts_at, scopes_at, scopes_by}
use Rattle.bundle_merge_names.specs.Named.{IsGiven, answered_in, held, holder_of, local_in, scopes_in}
use Rattle.bundle_merge_names.specs.Numbers.{position}
use Rattle.bundle_merge_theory.proofs.answered.Meta.{reached-by}
use Rattle.bundle_merge_names.proofs.ScopeLemmas.{context_at, inside-has, numbers-are}
use Rattle.bundle_merge_names.proofs.LabelLemmas.{same-held}
use Rattle.bundle_link_index.proofs.SearchLemmas.{each_place as there-below}
use Rattle.bundle_merge_theory.proofs.answered.Resolving.{inner_order as inner-order}

-- A label of the code for each label.

abbrev lent : Text → Bor Text
lent x = record { ref_ptr = (0, 0); now = x }

abbrev taken_for : e.Taken → Taken
taken_for (e.Named x) = k.Named (lent x)
taken_for e.Whole = k.Whole

taken-for : (taken : e.Taken) → taken_of (taken_for taken) ≡ taken
taken-for (e.Named x) = refl
taken-for e.Whole = refl

abbrev target_for : l.Target → TargetRef
target_for (l.Declared k x) = t.Declared k (lent x)
target_for (l.Namespace d) = t.Namespace d
target_for (l.External s its) = t.External (lent s) (taken_for its)
target_for (l.CommonJs k c its) = t.CommonJs k c (taken_for its)

target-for : (u : l.Target) → target_of (target_for u) ≡ u
target-for (l.Declared k x) = refl
target-for (l.Namespace d) = refl
target-for (l.External s its) = ap (l.External s) (taken-for its)
target-for (l.CommonJs k c its) = ap (l.CommonJs k c) (taken-for its)

abbrev label_for : m.Label → Label
label_for (m.Of u) = n.Of (target_for u)
label_for (m.Parameter c x) = n.Helper
label_for (m.Load c) = n.Load c
label_for (m.Meta j) = n.Meta j
label_for m.Helper = n.Helper

-- The context of each of them.

-- that of an object for `import.meta`, where this is there of it
abbrev meta_context : BundleNames → ℕ → Option HookAnswer → ℕ
meta_context names j None = (label_ident names (n.Meta j)).1
meta_context names j (Some (Fresh properties)) = (label_ident names (n.Meta j)).1
meta_context names j (Some (Written ctxt notes properties)) = ctxt

meta-context : (names : BundleNames) (j : ℕ) (answer : Option HookAnswer) → stands_written answer ≡ false → meta_context names j answer ≡ (label_ident names (n.Meta j)).1
meta-context names j None fresh = refl
meta-context names j (Some (Fresh properties)) fresh = refl
meta-context names j (Some (Written ctxt notes properties)) fresh = absurd (true≢false fresh)

abbrev label_context : (ℕ → Option HookAnswer) → BundleNames → m.Label → ℕ
label_context answers names (m.Of u) = (label_ident names (label_for (m.Of u))).1
label_context answers names (m.Parameter c x) = (label_ident names (label_for (m.Parameter c x))).1
label_context answers names (m.Load c) = (label_ident names (label_for (m.Load c))).1
label_context answers names (m.Meta j) = meta_context names j (answers j)
label_context answers names m.Helper = (label_ident names (label_for m.Helper)).1

abbrev context_by : (ℕ → Option HookAnswer) → BundleInput → BundleNames → BundleContexts
context_by answers bundle names (TopOf j) = unwrap_or (local_in names j) 1
context_by answers bundle names (WrittenIn j c) = c
context_by answers bundle names (InsideOf j b) = context_at (scopes_at bundle false j) (contexts_at names false j) b
context_by answers bundle names (AnsweredOf j b) = context_at (scopes_at bundle true j) (contexts_at names true j) b
context_by answers bundle names (NameOf u) = label_context answers names u
context_by answers bundle names HelperParameter = (label_ident names n.HelperParameter).1
context_by answers bundle names HelperVariable = (label_ident names n.HelperVariable).1

-- the scope inside a module, or inside what the hook answered for it, that begins at a place
abbrev inside : Bool → ℕ → ℕ → Holder
inside false j b = InsideOf j b
inside true j b = AnsweredOf j b

top-order : (top : ℕ) (its : ℕ → ℕ) (order : ℕ) → order < 2 → context_in_order top its order ≡ top
top-order top its zero less = refl
top-order top its (suc zero) less = refl
top-order top its (suc (suc order)) less = absurd (omega (arith, less))

cleared-append : (xs ys : List Item) → cleared (xs ++ ys) ≡ cleared xs ++ cleared ys
cleared-append [] ys = refl
cleared-append (x ∷ xs) ys = ap (λ rest. cleared_item x ∷ rest) (cleared-append xs ys)

pub tree-cleared : (items : List Item) → properties_tree (cleared items) ≡ cleared (properties_tree items)
tree-cleared items = ap (λ rest. h.Open 0 h.Module ∷ h.Open 0 h.ExprStmt ∷ h.Open 0 h.ObjectLit ∷ rest) (sym (cleared-append items (h.Close ∷ h.Close ∷ h.Close ∷ [])))

-- a holder is the name of an object that is written already, or a binding inside it
data IsOfWritten (p : Program) (answers : ℕ → Option HookAnswer) (j c : ℕ) (a : Holder) : Type 0 where
  of_name : (notes : ExportMetadata) (properties : List Item) →
      answers j ≡ Some (Written c notes properties) →
      a ≡ NameOf (m.Meta j) →
      IsOfWritten p answers j c a
  of_inside : IsHolder p answers (WrittenIn j c) →
      a ≡ WrittenIn j c →
      IsOfWritten p answers j c a

-- how a holder stands in a bundle: at the top of a module, in a list, in an object that is written already, or by a label
data Stands (p : Program) (answers : ℕ → Option HookAnswer) (bundle : BundleInput) (names : BundleNames) (a : Holder) : Type 0 where
  stands_written_in : (j c : ℕ) →
      StandsWritten p answers j c →
      IsOfWritten p answers j c a →
      context_by answers bundle names a ≡ c →
      Stands p answers bundle names a
  stands_top : (j : ℕ) (part : BundleModule) →
      a ≡ TopOf j →
      slice_get bundle.parts.now j ≡ Some part →
      context_by answers bundle names a ≡ part.local →
      Stands p answers bundle names a
  stands_inside : (w : Bool) (j n c : ℕ) (has : HasScopeContext (scopes_at bundle w j) (contexts_at names w j) n c) →
      a ≡ inside w j has.scope.begins →
      context_by answers bundle names a ≡ c →
      Stands p answers bundle names a
  stands_label : (label : Label) (ident : Ident) →
      a ≡ holder_of label →
      held names label ≡ Some ident →
      context_by answers bundle names a ≡ ident.1 →
      Stands p answers bundle names a

module _ (p : Program) (list : List ℕ) (answers : ℕ → Option HookAnswer) (bundle : BundleInput) (parts : AreBundleParts p list answers bundle)
    (before names : BundleNames) (named : AreScopesNamed bundle before (length bundle.parts.now)) (none : (label : Label) → held before label ≡ None) (adds : GivesNames p list (IsGiven (λ j. stands_written (answers j)) (IsHolder p answers)) before names) where
  abbrev context : BundleContexts
  context = context_by answers bundle names

  abbrev Named : Holder → Type 0
  Named holder = IsGiven (λ j. stands_written (answers j)) (IsHolder p answers) holder

  abbrev first : ℕ
  first = position bundle.contexts

  part-there : (j : ℕ) → IsReached p j → (part : BundleModule) × (slice_get bundle.parts.now j ≡ Some part)
  part-there j reached = there-below bundle.parts.now j ((parts.reached j).0 reached)

  same-contexts : (w : Bool) (j : ℕ) → contexts_at before w j ≡ contexts_at names w j
  same-contexts false j = ap (λ (x : Vec (Vec (Option ℕ) Global) Global). list_in x.items j) (sym adds.scopes)
  same-contexts true j = ap (λ (x : Vec (Vec (Option ℕ) Global) Global). list_in x.items j) (sym adds.answered)

  local : (j : ℕ) (part : BundleModule) → slice_get bundle.parts.now j ≡ Some part → local_in names j ≡ Some part.local
  local j part at = ap (λ (x : Vec ℕ Global). slice_get x.items j) adds.locals ∙ named.locals j part (slice_get_within bundle.parts.now j part at) at

  local-top : (j : ℕ) (part : BundleModule) → slice_get bundle.parts.now j ≡ Some part → context (TopOf j) ≡ part.local
  local-top j part at = ap (λ (o : Option ℕ). unwrap_or o 1) (local j part at)

  scoped : (j : ℕ) (part : BundleModule) → slice_get bundle.parts.now j ≡ Some part → IsScoped part.denotations.now part.local (scopes_in names j)
  scoped j part at = subst (IsScoped part.denotations.now part.local) (same-contexts false j) (named.scopes j part (slice_get_within bundle.parts.now j part at) at)

  scoped-answer : (j : ℕ) (part : BundleModule) (its : Answered) → slice_get bundle.parts.now j ≡ Some part → answer_of bundle j ≡ Some its → IsScoped its.denotations.now part.local (answered_in names j)
  scoped-answer j part its at is = subst (IsScoped its.denotations.now part.local) (same-contexts true j) (named.answered j part its (slice_get_within bundle.parts.now j part at) at is)

  list-scopes : (j : ℕ) (part : BundleModule) → slice_get bundle.parts.now j ≡ Some part → scopes_at bundle false j ≡ part.denotations.now.scopes.items
  list-scopes j part at = ap (λ (o : Option BundleModule). scopes_by (option_map (λ (x : BundleModule). x.denotations.now) o)) at

  answer-scopes : (j : ℕ) (its : Answered) → answer_of bundle j ≡ Some its → scopes_at bundle true j ≡ its.denotations.now.scopes.items
  answer-scopes j its is = ap (λ (o : Option Answered). scopes_by (option_map (λ (x : Answered). x.denotations.now) o)) is

  -- what is inside has contexts of a range, and what a label has stands behind it
  was : (w : Bool) (j n c : ℕ) → HasScopeContext (scopes_at bundle w j) (contexts_at names w j) n c → HasScopeContext (scopes_at bundle w j) (contexts_at before w j) n c
  was w j n c has = subst (λ l. HasScopeContext (scopes_at bundle w j) l n c) (sym (same-contexts w j)) has

  in-range : (w : Bool) (j n c : ℕ) → HasScopeContext (scopes_at bundle w j) (contexts_at names w j) n c → (first ≤ c) × (c < position before.contexts)
  in-range w j n c has = named.apart.within w j n c (was w j n c has)

  held-from : AreLabelContexts (position before.contexts) names
  held-from = adds.held_so (position before.contexts) (omega arith) (record {
    within = λ label ident at. absurd (none-some ident (sym (none label) ∙ at));
    apart = λ label other i j at_i at_j same. absurd (none-some i (sym (none label) ∙ at_i));
  })

  behind : (label : Label) (ident : Ident) → held names label ≡ Some ident → position before.contexts ≤ ident.1
  behind label ident at = let w = held-from.within label ident at in w.0

  -- the list of a module, and that of what the hook answered for it, in the words of the program
  denoted-in : (j : ℕ) (part : BundleModule) (kind : ModuleKind) (i : ℕ) (its : ScopeKind) (b : ℕ) (name : Name) → slice_get bundle.parts.now j ≡ Some part → denoted_as BySymbol kind (tree_of p j) i ≡ Some (Bound (Inner its b) name) → denoted_as BySymbol kind (list_of_part part) i ≡ Some (Bound (Inner its b) name)
  denoted-in j part kind i its b name at denoted = ap (λ ds. slice_get ds i) (sym (ap (denotations BySymbol kind) (parts.parts j part at).tree ∙ denotations-cleared kind (list_of_part part))) ∙ denoted

  answer-is : (j : ℕ) (part : BundleModule) (properties : List Item) → slice_get bundle.parts.now j ≡ Some part → answers j ≡ Some (Fresh properties) → (its : Answered) × (answer_of bundle j ≡ Some its) × IsReadAnswer properties its
  answer-is j part properties at told = by (answer_of bundle j) refl (subst (λ o. AreMetaAnswers o part (answer_of bundle j)) told (parts.answered j part at))
    where
      by : (o : Option Answered) → answer_of bundle j ≡ o → AreMetaAnswers (Some (Fresh properties)) part o → (its : Answered) × (answer_of bundle j ≡ Some its) × IsReadAnswer properties its
      by None e are = absurd are
      by (Some its) e are = (its, e, are.1)

  answer-told : (j : ℕ) (part : BundleModule) (its : Answered) → slice_get bundle.parts.now j ≡ Some part → answer_of bundle j ≡ Some its → (properties : List Item) × IsReadAnswer properties its
  answer-told j part its at is = by (answers j) (subst (AreMetaAnswers (answers j) part) is (parts.answered j part at))
    where
      by : (o : Option HookAnswer) → AreMetaAnswers o part (Some its) → (properties : List Item) × IsReadAnswer properties its
      by None are = absurd are
      by (Some (Fresh properties)) are = (properties, are.1)
      by (Some (Written ctxt notes properties)) are = absurd are

  denoted-answered : (properties : List Item) (its : Answered) (i : ℕ) (kind : ScopeKind) (b : ℕ) (name : Name) → IsReadAnswer properties its → denoted_as BySymbol Es (properties_tree properties) i ≡ Some (Bound (Inner kind b) name) → denoted_as BySymbol Es (map item_of its.pieces.now) i ≡ Some (Bound (Inner kind b) name)
  denoted-answered properties its i kind b name is denoted = ap (λ ds. slice_get ds i) (sym (ap (denotations BySymbol Es) (ap properties_tree is.told ∙ tree-cleared (answered_items its) ∙ ap cleared (sym is.listed)) ∙ denotations-cleared Es (map item_of its.pieces.now))) ∙ denoted

  -- how each holder stands
  in-list : (w : Bool) (j b n c : ℕ) (scopes : List Scope) → scopes_at bundle w j ≡ scopes → (one : HasScopeContext scopes (contexts_at names w j) n c) → one.scope.begins ≡ b → context_at scopes (contexts_at names w j) b ≡ c → context (inside w j b) ≡ context_at (scopes_at bundle w j) (contexts_at names w j) b → Stands p answers bundle names (inside w j b)
  in-list w j b n c scopes same one begins looked is =
      let has : HasScopeContext (scopes_at bundle w j) (contexts_at names w j) n c = record { scope = one.scope; there = ap (λ l. slice_get l n) same ∙ one.there; inner = one.inner; its = one.its } in
      stands_inside w j n c has (ap (inside w j) (sym begins)) (is ∙ ap (λ l. context_at l (contexts_at names w j) b) same ∙ looked)

  by-label : (a : Holder) (label : Label) → holder_of label ≡ a → Named a → context a ≡ (label_ident names label).1 → Stands p answers bundle names a
  by-label a label same holder is =
      let held_so = adds.there label (subst Named (sym same) holder) in
      stands_label label held_so.0 (sym same) held_so.1 (is ∙ ap (λ (o : Option Ident). (unwrap_or o ([], 1)).1) held_so.1)

  -- a label that is added and is no object for an `import.meta`
  plainly : {cause : Cause} {u : m.Label} → IsDue p AsModule cause → AddsLabel p cause u → ((j : ℕ) → u ≡ m.Meta j → ⊥) → Named (NameOf u)
  plainly {cause = cause} {u = u} due adds_label other = record {
    its = added cause due adds_label;
    fresh = λ j same. let e : u ≡ m.Meta j = cc in absurd (other j e);
  }

  -- an object for an `import.meta`
  stands-meta : (j : ℕ) → IsDue p AsModule (HoldsMeta j) → (answer : Option HookAnswer) → answers j ≡ answer → Stands p answers bundle names (NameOf (m.Meta j))
  stands-meta j due None told = by-label (NameOf (m.Meta j)) (n.Meta j) refl
      (record { its = added (HoldsMeta j) due holds_meta; fresh = λ k same. let one : k ≡ j = cc in ap (λ i. stands_written (answers i)) one ∙ ap stands_written told })
      (ap (meta_context names j) told)
  stands-meta j due (Some (Fresh properties)) told = by-label (NameOf (m.Meta j)) (n.Meta j) refl
      (record { its = added (HoldsMeta j) due holds_meta; fresh = λ k same. let one : k ≡ j = cc in ap (λ i. stands_written (answers i)) one ∙ ap stands_written told })
      (ap (meta_context names j) told)
  stands-meta j due (Some (Written ctxt notes properties)) told = stands_written_in j ctxt (its_name notes properties (reached-by due) told) (of_name notes properties told refl) (ap (meta_context names j) told)

  by-adds : {cause : Cause} {u : m.Label} → IsDue p AsModule cause → AddsLabel p cause u → Stands p answers bundle names (NameOf u)
  by-adds due (imports_name {s = s} {x = x} means) = by-label (NameOf (m.Of (l.External s (e.Named x)))) (label_for (m.Of (l.External s (e.Named x)))) refl (plainly due (imports_name means) (λ j same. cc)) refl
  by-adds due (imports_whole {s = s}) = by-label (NameOf (m.Of (l.External s e.Whole))) (label_for (m.Of (l.External s e.Whole))) refl (plainly due imports_whole (λ j same. cc)) refl
  by-adds due helps = by-label (NameOf m.Helper) n.Helper refl (plainly due helps (λ j same. cc)) refl
  by-adds due (defines {c = c}) = by-label (NameOf (m.Load c)) (n.Load c) refl (plainly due defines (λ j same. cc)) refl
  by-adds due (loads {m = j} {c = c} {its = its} means) = by-label (NameOf (m.Of (l.CommonJs j c its))) (label_for (m.Of (l.CommonJs j c its))) (ap (λ u. NameOf (m.Of u)) (target-for (l.CommonJs j c its))) (plainly due (loads means) (λ k same. cc)) refl
  by-adds due (holds_meta {m = j}) = stands-meta j due (answers j) refl
  by-adds due (holds_namespace {d = d}) = by-label (NameOf (m.Of (l.Namespace d))) (n.Of (t.Namespace d)) refl (plainly due holds_namespace (λ j same. cc)) refl

  stands : (a : Holder) → IsHolder p answers a → Stands p answers bundle names a
  stands _ (top_of {m = j} reached) = let part = part-there j reached in stands_top j part.0 refl part.1 (local-top j part.0 part.1)
  stands _ (inside_of {m = j} {begins = b} kind its name i reached has_kind denoted) =
      let part = part-there j reached in
      let range = scoped j part.0 part.1 in
      let one = inside-has kind (list_of_part part.0) part.0.denotations.now ((parts.parts j part.0 part.1).table kind has_kind) part.0.local range.from range.to (scopes_in names j) range.has i b its name (denoted-in j part.0 kind i its b name part.1 denoted) in
      in-list false j b one.0 one.1 part.0.denotations.now.scopes.items (list-scopes j part.0 part.1) one.2 one.3 one.4 refl
  stands _ (answered_of {m = j} {begins = b} properties its name i reached told denoted) =
      let part = part-there j reached in
      let answer = answer-is j part.0 properties part.1 told in
      let range = scoped-answer j part.0 answer.0 part.1 answer.1 in
      let one = inside-has Es (map item_of answer.0.pieces.now) answer.0.denotations.now answer.2.table part.0.local range.from range.to (answered_in names j) range.has i b its name (denoted-answered properties answer.0 i its b name answer.2 denoted) in
      in-list true j b one.0 one.1 answer.0.denotations.now.scopes.items (answer-scopes j answer.0 answer.1) one.2 one.3 one.4 refl
  stands _ (added {l = u} cause due adds_label) = by-adds due adds_label
  stands _ (parameter c reached common) = by-label HelperParameter n.HelperParameter refl (record { its = parameter c reached common; fresh = λ j same. cc }) refl
  stands _ (variable c reached common) = by-label HelperVariable n.HelperVariable refl (record { its = variable c reached common; fresh = λ j same. cc }) refl
  stands _ (written_in {m = j} {ctxt = c} own notes properties its begins name i o reached told there denoted is) =
      let holder = written_in own notes properties its begins name i o reached told there denoted is in
      stands_written_in j c (its_inside holder) (of_inside holder refl) refl

  -- contexts tell them apart
  above : 1 < first
  above =
      let same = parts.entry in
      let part = there-below bundle.parts.now p.entry (omega (arith, same)) in
      let low = parts.own p.entry part.0 part.1 in
      let high = parts.free p.entry part.0 part.1 in
      omega (arith, low, high)

  own : (a : Holder) → Stands p answers bundle names a → 1 < context a
  own a (stands_written_in j c w is same) = let low = parts.written.own j c w in omega (arith, low, same)
  own a (stands_top j part is at same) = let low = parts.own j part at in omega (arith, low, same)
  own a (stands_inside w j n c has is same) = let range = in-range w j n c has in let low = range.0 in let base = above in omega (arith, low, base, same)
  own a (stands_label label ident is there same) = let low = behind label ident there in let base = above in let later = named.later in omega (arith, low, base, later, same)

  top-inside : {R : Type 0} (j : ℕ) (part : BundleModule) (w : Bool) (k n c x y : ℕ) → slice_get bundle.parts.now j ≡ Some part → HasScopeContext (scopes_at bundle w k) (contexts_at names w k) n c → x ≡ part.local → y ≡ c → x ≡ y → R
  top-inside j part w k n c x y at has is_x is_y same = let high = parts.free j part at in let range = in-range w k n c has in let low = range.0 in absurd (omega (arith, high, low, is_x, is_y, same))

  top-label : {R : Type 0} (j : ℕ) (part : BundleModule) (label : Label) (ident : Ident) (x y : ℕ) → slice_get bundle.parts.now j ≡ Some part → held names label ≡ Some ident → x ≡ part.local → y ≡ ident.1 → x ≡ y → R
  top-label j part label ident x y at there is_x is_y same = let high = parts.free j part at in let low = behind label ident there in let later = named.later in absurd (omega (arith, high, low, later, is_x, is_y, same))

  inside-label : {R : Type 0} (w : Bool) (j n c : ℕ) (label : Label) (ident : Ident) (x y : ℕ) → HasScopeContext (scopes_at bundle w j) (contexts_at names w j) n c → held names label ≡ Some ident → x ≡ c → y ≡ ident.1 → x ≡ y → R
  inside-label w j n c label ident x y has there is_x is_y same = let range = in-range w j n c has in let high = range.1 in let low = behind label ident there in absurd (omega (arith, high, low, is_x, is_y, same))

  one-scope : (w v : Bool) (j k n i c d : ℕ) (x : HasScopeContext (scopes_at bundle w j) (contexts_at names w j) n c) (y : HasScopeContext (scopes_at bundle v k) (contexts_at names v k) i d) → c ≡ d → inside w j x.scope.begins ≡ inside v k y.scope.begins
  one-scope w v j k n i c d x y same =
      let other : HasScopeContext (scopes_at bundle v k) (contexts_at names v k) i c = record { scope = y.scope; there = y.there; inner = y.inner; its = y.its ∙ ap (λ z. Some (Some z)) (sym same) } in
      let one = named.apart.apart w v j k n i c (was w j n c x) (was v k i c other) in
      let there : slice_get (scopes_at bundle w j) n ≡ slice_get (scopes_at bundle v k) i = ap (λ z. slice_get (scopes_at bundle z j) n) one.0 ∙ ap (λ z. slice_get (scopes_at bundle v z) n) one.1 ∙ ap (slice_get (scopes_at bundle v k)) one.2 in
      let scope : x.scope ≡ y.scope = same_Some x.scope y.scope (sym x.there ∙ there ∙ y.there) in
      ap (λ z. inside z j x.scope.begins) one.0 ∙ ap (λ z. inside v z x.scope.begins) one.1 ∙ ap (λ (z : Scope). inside v k z.begins) scope

  -- what is written already stands apart from all that gets a context, and from tops
  written-top : {R : Type 0} (j c k x y : ℕ) (part : BundleModule) → StandsWritten p answers j c → slice_get bundle.parts.now k ≡ Some part → x ≡ c → y ≡ part.local → x ≡ y → R
  written-top j c k x y part w at is_x is_y same = absurd (parts.written.tops j k c part w at (sym is_x ∙ same ∙ is_y))

  written-inside : {R : Type 0} (j c : ℕ) (v : Bool) (k n d x y : ℕ) → StandsWritten p answers j c → HasScopeContext (scopes_at bundle v k) (contexts_at names v k) n d → x ≡ c → y ≡ d → x ≡ y → R
  written-inside j c v k n d x y w has is_x is_y same = let high = parts.written.free j c w in let range = in-range v k n d has in let low = range.0 in absurd (omega (arith, high, low, is_x, is_y, same))

  written-label : {R : Type 0} (j c : ℕ) (label : Label) (ident : Ident) (x y : ℕ) → StandsWritten p answers j c → held names label ≡ Some ident → x ≡ c → y ≡ ident.1 → x ≡ y → R
  written-label j c label ident x y w there is_x is_y same = let high = parts.written.free j c w in let low = behind label ident there in let later = named.later in absurd (omega (arith, high, low, later, is_x, is_y, same))

  both-written : (a b : Holder) (j k c : ℕ) → j ≡ k → IsOfWritten p answers j c a → IsOfWritten p answers k c b → a ≡ b
  both-written a b j k c same (of_name notes properties told is) (of_name others its also other) = is ∙ ap (λ i. NameOf (m.Meta i)) same ∙ sym other
  both-written a b j k c same (of_inside holder is) (of_inside also other) = is ∙ ap (λ i. WrittenIn i c) same ∙ sym other
  both-written a b j k c same (of_name notes properties told is) (of_inside also other) = absurd (parts.written.names j c c notes properties told (subst (λ i. IsHolder p answers (WrittenIn i c)) (sym same) also) refl)
  both-written a b j k c same (of_inside holder is) (of_name notes properties told other) = absurd (parts.written.names k c c notes properties told (subst (λ i. IsHolder p answers (WrittenIn i c)) same holder) refl)

  apart : (a b : Holder) → Stands p answers bundle names a → Stands p answers bundle names b → context a ≡ context b → a ≡ b
  apart a b (stands_written_in j c w is x) (stands_written_in k d v its y) same =
      let contexts : d ≡ c = sym y ∙ sym same ∙ x in
      both-written a b j k c (parts.written.apart j k c w (subst (StandsWritten p answers k) contexts v)) is (subst (λ i. IsOfWritten p answers k i b) contexts its)
  apart a b (stands_written_in j c w is x) (stands_top k part its at y) same = written-top j c k (context a) (context b) part w at x y same
  apart a b (stands_top k part its at y) (stands_written_in j c w is x) same = written-top j c k (context b) (context a) part w at x y (sym same)
  apart a b (stands_written_in j c w is x) (stands_inside v k n d has its y) same = written-inside j c v k n d (context a) (context b) w has x y same
  apart a b (stands_inside v k n d has its y) (stands_written_in j c w is x) same = written-inside j c v k n d (context b) (context a) w has x y (sym same)
  apart a b (stands_written_in j c w is x) (stands_label label ident its there y) same = written-label j c label ident (context a) (context b) w there x y same
  apart a b (stands_label label ident its there y) (stands_written_in j c w is x) same = written-label j c label ident (context b) (context a) w there x y (sym same)
  apart a b (stands_top j part is at x) (stands_top k other its there y) same = is ∙ ap TopOf (parts.apart j k part other at there (sym x ∙ same ∙ y)) ∙ sym its
  apart a b (stands_inside w j n c has is x) (stands_inside v k i d other its y) same = is ∙ one-scope w v j k n i c d has other (sym x ∙ same ∙ y) ∙ sym its
  apart a b (stands_label label ident is at x) (stands_label other i its there y) same = is ∙ held-from.apart label other ident i at there (sym x ∙ same ∙ y) ∙ sym its
  apart a b (stands_top j part is at x) (stands_inside w k n c has its y) same = top-inside j part w k n c (context a) (context b) at has x y same
  apart a b (stands_inside w k n c has is x) (stands_top j part its at y) same = top-inside j part w k n c (context b) (context a) at has y x (sym same)
  apart a b (stands_top j part is at x) (stands_label label ident its there y) same = top-label j part label ident (context a) (context b) at there x y same
  apart a b (stands_label label ident is there x) (stands_top j part its at y) same = top-label j part label ident (context b) (context a) at there y x (sym same)
  apart a b (stands_inside w j n c has is x) (stands_label label ident its there y) same = inside-label w j n c label ident (context a) (context b) has there x y same
  apart a b (stands_label label ident is there x) (stands_inside w j n c has its y) same = inside-label w j n c label ident (context b) (context a) has there y x (sym same)

  -- labels have their identifiers
  label-context : (label : Label) → ((j : ℕ) → holder_of label ≡ NameOf (m.Meta j) → stands_written (answers j) ≡ false) → context (holder_of label) ≡ (label_ident names label).1
  label-context (n.Of target) fresh = ap (λ (o : Option Ident). (unwrap_or o ([], 1)).1) (same-held names (n.Of (target_for (target_of target))) (n.Of target) (ap (λ u. NameOf (m.Of u)) (target-for (target_of target))))
  label-context (n.Load c) fresh = refl
  label-context (n.Meta j) fresh = meta-context names j (answers j) (fresh j refl)
  label-context n.Helper fresh = refl
  label-context n.HelperParameter fresh = refl
  label-context n.HelperVariable fresh = refl

  label-held : (label : Label) → Named (holder_of label) → held names label ≡ Some (holder_symbol p list (holder_of label), context (holder_of label))
  label-held label holder =
      let there = adds.there label holder in
      let symbol : there.0.0 ≡ holder_symbol p list (holder_of label) = elim (adds.others label there.0 there.1) [ inl old ↦ absurd (none-some there.0 (sym (none label) ∙ old)) | inr new ↦ new.1 ] in
      let ctxt : there.0.1 ≡ context (holder_of label) = sym (label-context label holder.fresh ∙ ap (λ (o : Option Ident). (unwrap_or o ([], 1)).1) there.1) in
      there.1 ∙ ap₂ (λ x c. Some (x, c)) symbol ctxt

  -- the next free one is above all
  below : (a : Holder) → Stands p answers bundle names a → context a < position names.contexts
  below a (stands_written_in j c w is same) = let high = parts.written.free j c w in let mid = named.later in let last = adds.later in omega (arith, high, mid, last, same)
  below a (stands_top j part is at same) = let high = parts.free j part at in let later = named.later in let last = adds.later in omega (arith, high, later, last, same)
  below a (stands_inside w j n c has is same) = let range = in-range w j n c has in let high = range.1 in let last = adds.later in omega (arith, high, last, same)
  below a (stands_label label ident is there same) = let w = held-from.within label ident there in let high = w.1 in omega (arith, high, same)

  -- what gets a context has one from the next one on
  from-next : (a : Holder) → Stands p answers bundle names a → GetsContext answers a → first ≤ context a
  from-next a (stands_written_in j c w (of_name notes properties told is) same) gets = absurd (true≢false (sym (ap stands_written told) ∙ gets.fresh j is))
  from-next a (stands_written_in j c w (of_inside holder is) same) gets = absurd (gets.unwritten j c is)
  from-next a (stands_top j part is at same) gets = absurd (gets.no_top j is)
  from-next a (stands_inside w j n c has is same) gets = let range = in-range w j n c has in let low = range.0 in omega (arith, low, same)
  from-next a (stands_label label ident is there same) gets = let low = behind label ident there in let later = named.later in omega (arith, low, later, same)

  are-names : AreNamesOf p list answers context bundle names
  are-names = record {
    apart = record {
      own = λ a holder. own a (stands a holder);
      apart = λ a b holder_a holder_b same. apart a b (stands a holder_a) (stands b holder_b) same;
    };
    below = λ a holder. below a (stands a holder);
    from = λ a holder gets. from-next a (stands a holder) gets;
    locals = λ j less. let part = there-below bundle.parts.now j less in local j part.0 part.1 ∙ ap (λ c. Some c) (sym (local-top j part.0 part.1));
    tops = local-top;
    scopes = λ j part kind at has_kind. let range = scoped j part at in numbers-are kind (list_of_part part) part.denotations.now ((parts.parts j part at).table kind has_kind) part.local range.from range.to (scopes_in names j) range.has (numbers_in context j)
        (λ order x less. top-order (context (TopOf j)) (λ b. context (InsideOf j b)) order less ∙ local-top j part at)
        (λ begins x. inner-order (context (TopOf j)) (λ b. context (InsideOf j b)) begins ∙ ap (λ l. context_at l (scopes_in names j) begins) (list-scopes j part at));
    answered = λ j its less at.
        let part = there-below bundle.parts.now j less in
        let is : answer_of bundle j ≡ Some its = ap (λ (o : Option (Option Answered)). unwrap_or o None) at in
        let range = scoped-answer j part.0 its part.1 is in
        numbers-are Es (map item_of its.pieces.now) its.denotations.now (answer-told j part.0 its part.1 is).1.table part.0.local range.from range.to (answered_in names j) range.has (numbers_answered context j)
        (λ order x less. top-order (context (TopOf j)) (λ b. context (AnsweredOf j b)) order less ∙ local-top j part.0 part.1)
        (λ begins x. inner-order (context (TopOf j)) (λ b. context (AnsweredOf j b)) begins ∙ ap (λ l. context_at l (answered_in names j) begins) (answer-scopes j its is));
    metas = λ j ctxt notes properties less told. ap (meta_context names j) told;
    inside = λ j ctxt. refl;
    labels = label-held;
  }

pub same-labels : (a b : BundleNames) → a.labels ≡ b.labels → (label : Label) → held a label ≡ held b label
same-labels a b same label = ap (λ x. option_map ident_of (get_by (label_impl.ghosts.eq label) x)) same

-- first the scopes get contexts, and then labels their names
pub names-given : (bundle : BundleInput) (old before names : BundleNames)
    → HoldsNothing bundle old
    → (HoldsNothing bundle old → AreScopesNamed bundle before (length bundle.parts.now))
    → before.labels ≡ old.labels
    → (p : Program) (list : List ℕ) (answers : ℕ → Option HookAnswer)
    → AreBundleParts p list answers bundle
    → GivesNames p list (IsGiven (λ j. stands_written (answers j)) (IsHolder p answers)) before names
    → (context : BundleContexts) × AreNamesOf p list answers context bundle names
names-given bundle old before names nothing scopes labels p list answers parts adds = (context_by answers bundle names, are-names p list answers bundle parts before names (scopes nothing) (λ label. same-labels before old labels label ∙ nothing.labels label) adds)
