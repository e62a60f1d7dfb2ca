-- A program whose modules are numbered by their places in a list, and what a merge of it owes.
-- The labels of a bundle's table speak of reached modules.
use Rattle.std.specs.Prelude.{◌≡◌, ℕ, List, Contains}
use Rattle.std.proofs.Common.{Option}
use Rattle.bundle_syntax.specs.Item.{Item}
use Rattle.bundle_order_graph.specs.Walks.{itself, along}
use Rattle.bundle_order_graph.proofs.WalkLemmas.{Reaches-trans}
use Rattle.bundle_rules.specs.Declarations.{ByContext}
use Rattle.bundle_rules.specs.Denotes.{Denoted, IsResolved}
use Rattle.bundle_rules.specs.Program.{Program, module_of, IsReached, tree_of}
use Rattle.bundle_rules.specs.Linking.{Target, Declared, Namespace, External, CommonJs}
use Rattle.bundle_rules.specs.Meaning.{Label, Of, Parameter, Load, Meta, Helper, Labelling}
use Rattle.bundle_rules.specs.Bundle
use Rattle.bundle_rules.specs.Bundle.{Cause, Own, Defines, Loads, HoldsMeta, HoldsNamespace, Hooks, labelled, Form, AsksCommonJs, IsDue}
use Rattle.bundle_rules.specs.Symbols.{AreCalled}
use Rattle.bundle_rules.specs.Merged.{HasContexts, BindsOwn}
use Rattle.bundle_rules.specs.Idents.{Ident}
use Rattle.bundle_rules.specs.Scopes.{Es}
use Rattle.bundle_link.specs.Alike.{IsAlike, IsModuleAt}
use Rattle.bundle_merge_theory.specs.noted.Listed.{AreListed, Other}
use Rattle.bundle_merge_theory.specs.joined.Joined.{joined_items}
use Rattle.bundle_merge_theory.specs.loaded.Contexts as own
use Rattle.bundle_merge_theory.specs.loaded.Contexts.{OwnEntry}
use Rattle.bundle_merge_theory.specs.composed.Noted.{pairing_of}
use Rattle.bundle_merge_theory.proofs.composed.Theorem.{IsWholeBundle}
use Rattle.bundle_merge_theory.specs.composed.Names.{labels_in}
use Rattle.bundle_merge_theory.proofs.composed.Fronts.{label-from}
use Rattle.bundle_merge_theory.proofs.planned.RequestLemmas.{declared_leads, meant-reached}
use Rattle.bundle_merge_theory.specs.made.Given.{HookAnswer, BundleContexts, numbers_in}
use Rattle.bundle_merge_theory.specs.made.Alone
use Rattle.bundle_merge_theory.specs.made.Alone.{AddsLabel, DeclaresLabel, IsTopLabel}
use Rattle.bundle_merge_theory.specs.together.Others.{HasOthersFrom}
use Rattle.bundle_merge_theory.specs.together.Together.{AreMergedTogether}
use Rattle.bundle_merge_theory.specs.together.Table.{HasItemNotes, table_of}
use Rattle.bundle_merge_theory.proofs.together.Tables.{EntryKind, of_label, of_own, entry-from, entry-kind}

-- ---- owed

-- what a merge owes, where a module has this context, and all that is no module's name has one from `first` on
pub record IsMergedBy (first : ℕ) (local : ℕ → ℕ) (p : Program) (hooks : Hooks) (plan : List Cause)
    (merged : List Item) : Type 0 where
  pub whole : IsWholeBundle p hooks plan merged
  pub listed : AreListed Other merged
  pub called : AreCalled (λ x. x) p hooks
      (labelled merged ByContext (pairing_of whole.ready.still.labels whole.ready.still.items plan))
      (pairing_of whole.ready.still.labels whole.ready.still.items plan)
  pub contexts : HasContexts (λ x. x) local
      (labelled merged ByContext (pairing_of whole.ready.still.labels whole.ready.still.items plan))
  pub others : HasOthersFrom first
      (labelled merged ByContext (pairing_of whole.ready.still.labels whole.ready.still.items plan))
  pub binds : BindsOwn merged

-- the modules of q are those of p, numbered by their places in the list
pub record AreMoved (p q : Program) (list : List ℕ) : Type 0 where
  pub alike : IsAlike p q (IsModuleAt list)
  pub modules : (m k : ℕ) → IsModuleAt list m k → module_of p m ≡ module_of q k

-- the modules of p and those of q that stand for them, by which they have other numbers: `name` is
-- the number in q of a module of p, and `back` that in p of one of q
pub record AreRenamed (p q : Program) (R : ℕ → ℕ → Type 0) (name back : ℕ → ℕ) : Type 0 where
  pub alike : IsAlike p q R
  pub names : (a b : ℕ) → R a b → name a ≡ b
  pub backs : (a b : ℕ) → R a b → back b ≡ a
  pub modules : (a b : ℕ) → R a b → module_of p a ≡ module_of q b

-- what holds of each module of which a cause speaks
abbrev pub EachModule : (ℕ → Type 0) → Cause → Type 0
EachModule P (Own m k) = P m
EachModule P (Defines c) = P c
EachModule P (Loads m c) = P m × P c
EachModule P (HoldsMeta m) = P m
EachModule P (HoldsNamespace d) = P d
EachModule P _ = Unit {0}

-- the modules of which a target speaks are reached
abbrev pub IsTargetReached : Program → Target → Type 0
IsTargetReached p (Declared m x) = IsReached p m
IsTargetReached p (Namespace m) = IsReached p m
IsTargetReached p (External s its) = Unit {0}
IsTargetReached p (CommonJs m c its) = IsReached p m × IsReached p c

-- those of a label
abbrev pub IsLabelReached : Program → Label → Type 0
IsLabelReached p (Of t) = IsTargetReached p t
IsLabelReached p (Parameter c x) = IsReached p c
IsLabelReached p (Load c) = IsReached p c
IsLabelReached p (Meta m) = IsReached p m
IsLabelReached p Helper = Unit {0}

-- each label is of reached modules
abbrev pub AreLabelsReached : Program → Labelling → Type 0
AreLabelsReached p labels = (d : Denoted) (l : Label) → Contains labels (d, l) → IsLabelReached p l

-- ---- reached
module _ (p : Program) where
  pub asked-reached : (m c : ℕ) → IsReached p m → AsksCommonJs p m c → IsReached p c
  asked-reached m c reached asks =
      Reaches-trans reached
      (along (declared_leads p m c asks.specifier asks.asks asks.resolved) itself)

  -- what is due speaks of reached modules
  pub due-reached : {form : Form} {cause : Cause} → IsDue p form cause →
      EachModule (IsReached p) cause
  due-reached (Bundle.own reached es inside) = reached
  due-reached (Bundle.imports_names used means) = tt
  due-reached (Bundle.imports_whole used means) = tt
  due-reached (Bundle.imports_nothing used none not) = tt
  due-reached (Bundle.helps reached common) = tt
  due-reached (Bundle.defines reached common) = reached
  due-reached (Bundle.loads {m = m} {c = c} reached es asks) =
      (reached, asked-reached m c reached asks)
  due-reached (Bundle.holds_meta reached has) = reached
  due-reached (Bundle.holds_namespace meant) = meant-reached p meant
  due-reached (Bundle.stars star) = tt
  due-reached (Bundle.exports form linked) = tt
  due-reached (Bundle.returns form) = tt

  adds-reached : {cause : Cause} {l : Label} → AddsLabel p cause l →
      EachModule (IsReached p) cause → IsLabelReached p l
  adds-reached (Alone.imports_name its) r = tt
  adds-reached Alone.imports_whole r = tt
  adds-reached Alone.helps r = tt
  adds-reached Alone.defines r = r
  adds-reached (Alone.loads its) r = r
  adds-reached Alone.holds_meta r = r
  adds-reached Alone.holds_namespace r = r

  declares-reached : {cause : Cause} {l : Label} → DeclaresLabel p cause l →
      EachModule (IsReached p) cause → IsLabelReached p l
  declares-reached (Alone.own statement e at there its) r = r
  declares-reached (Alone.adds its) r = adds-reached its r

  -- a label of the top
  pub top-reached : (l : Label) → IsTopLabel p l → IsLabelReached p l
  top-reached l top = declares-reached top.declares (due-reached top.due)

  -- a name of a CommonJS module
  entry-reached : (c : ℕ) (context : BundleContexts) (tree : List Item) {i : Ident} {l : Label} →
      IsReached p c → OwnEntry c (numbers_in context c) tree i l → IsLabelReached p l
  entry-reached c context tree r (own.top_entry i m at) = r
  entry-reached c context tree r (own.wrapper_entry i m at) = r
  entry-reached c context tree r (own.parameter_entry x which) = r

  kind-reached : (list : List ℕ) (context : BundleContexts) {i : Ident} {l : Label} →
      EntryKind p list context i l → IsLabelReached p l
  kind-reached list context {l = l} (of_label top same) = top-reached l top
  kind-reached list context (of_own c reached common entry) =
      entry-reached c context (tree_of p c) reached entry

-- the labels that the table gives
pub labels-reached : (p : Program) (hooks : Hooks) (list : List ℕ) (context : BundleContexts)
    (answers : ℕ → Option HookAnswer) (plan : List Cause) (items : List (List Item)) →
    (its : AreMergedTogether p hooks list context answers plan items) →
    (notes : HasItemNotes p hooks list context answers plan items) →
    IsResolved Es (joined_items items) →
    AreLabelsReached p (labels_in (joined_items items) (table_of items notes.noted))
labels-reached p hooks list context answers plan items its notes resolved d l there =
    let from = label-from (joined_items items) resolved (table_of items notes.noted) d l there in
    kind-reached p list context
    (entry-kind p hooks list context answers plan items its _
    (entry-from p hooks list context answers plan items notes.noted notes.each _ from.its))
