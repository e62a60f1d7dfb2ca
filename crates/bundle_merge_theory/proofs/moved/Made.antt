-- Theorem of this folder (`made-by`, `made-moved`): what is made of the modules by their places is
-- what a merge owes for the modules by their numbers, where each item is right by itself, contexts
-- tell apart what has one, and the items are laid out.
-- Used by folder `together` and by the crate `bundle_merge`.
use Rattle.std.proofs.Common.{◌≡◌, ◌↔◌, ℕ, List, Option, Some, Contains, map, refl}
use Rattle.std.specs.Prelude.{slice_get}
use Rattle.std.specs.List.{AllZip}
use Rattle.bundle_syntax.specs.Item.{Item}
use Rattle.bundle_rules.specs.Declarations.{ByContext}
use Rattle.bundle_rules.specs.Linking.{Declared as IsDeclared}
use Rattle.bundle_rules.specs.Meaning.{Of, Labelling}
use Rattle.bundle_rules.specs.Program.{Program, IsReached}
use Rattle.bundle_rules.specs.Kept.{local_context}
use Rattle.bundle_rules.specs.Bundle.{Cause, AsModule, Hooks, IsDue, IsLaidOut}
use Rattle.bundle_merge_theory.specs.joined.Joined.{joined_items}
use Rattle.bundle_merge_theory.specs.composed.Noted.{pairing_of}
use Rattle.bundle_merge_theory.specs.planned.Placed.{id_at}
use Rattle.bundle_merge_theory.proofs.composed.Becomings.{has-contexts}
use Rattle.bundle_merge_theory.proofs.composed.Naming.{merged-bundle, merged-ready}
use Rattle.bundle_merge_theory.proofs.finished.Bundles.{IsMergedRight}
use Rattle.bundle_merge_theory.proofs.fit.Facts.{one_listed, joined_fit}
use Rattle.bundle_merge_theory.specs.made.Given.{HookAnswer, BundleContexts, TopOf}
use Rattle.bundle_merge_theory.specs.made.Alone.{AreTreesSound, TellApart, IsItemAlone}
use Rattle.bundle_merge_theory.specs.together.Others.{AreOthersGiven}
use Rattle.bundle_merge_theory.specs.together.Together.{AreMergedTogether}
use Rattle.bundle_merge_theory.specs.together.Table.{HasItemNotes, HasOneEntries, table_of}
use Rattle.bundle_merge_theory.specs.moved.Renumbered.{cause_at}
use Rattle.bundle_merge_theory.proofs.moved.Owed.{IsMergedBy, AreMoved, AreLabelsReached, labels-reached}
use Rattle.bundle_merge_theory.proofs.together.Apart.{are-apart, all-named}
use Rattle.bundle_merge_theory.proofs.together.Contexts.{are-called, module-contexts, binds-own, called-labels}
use Rattle.bundle_merge_theory.proofs.together.Facts.{all-fit, whole-items, whole-resolved, whole-bundle}
use Rattle.bundle_merge_theory.proofs.together.End.{one-entries}
use Rattle.bundle_merge_theory.proofs.together.Others.{others-from}
use Rattle.bundle_merge_theory.proofs.together.Tables.{notes-of}
use Rattle.bundle_merge_theory.proofs.moved.Moved.{moved}

-- what a merge owes, where its labels speak of reached modules
pub record IsOwed (first : ℕ) (local : ℕ → ℕ) (p : Program) (hooks : Hooks) (plan : List Cause)
    (merged : List Item) : Type 0 where
  pub owed : IsMergedBy first local p hooks plan merged
  pub reached : AreLabelsReached p owed.whole.ready.still.labels

module _ (p : Program) (hooks : Hooks) (list : List ℕ) (context : BundleContexts)
    (answers : ℕ → Option HookAnswer) (plan : List Cause) (items : List (List Item))
    (its : AreMergedTogether p hooks list context answers plan items)
    (entries : HasOneEntries p context) (notes : HasItemNotes p hooks list context answers plan items)
    (labels : Labelling)
    (laid : IsLaidOut p AsModule ByContext (joined_items items) (pairing_of labels items plan))
    (local : ℕ → ℕ) (locals : (m : ℕ) → IsReached p m → context (TopOf m) ≡ local m)
    (first : ℕ) (given : AreOthersGiven p answers context first) where
  -- the contexts of modules may be any
  owed-by : IsOwed first local p hooks plan (joined_items items)
  unfolding whole-bundle merged-bundle merged-ready
  owed-by =
      let whole = whole-items p hooks list context answers plan items its notes in
      let named = all-named p hooks list context answers plan items its in
      let apart = are-apart p hooks list context answers plan items its in
      let fits = all-fit p hooks list context answers plan items notes.noted notes.each in
      let resolved = whole-resolved p hooks list context answers plan items its notes in
      record {
        owed = record {
          whole =
              whole-bundle p hooks list context answers plan items its entries notes labels laid;
          listed = one_listed (joined_fit items fits);
          called = are-called p hooks list context answers plan items its notes;
          contexts =
              has-contexts items whole named apart resolved (table_of items notes.noted) local
              (module-contexts p hooks list context answers plan items its notes local locals)
              (λ i m x c. called-labels p hooks list context answers plan items its notes i
              (Of (IsDeclared m x)) c) plan;
          others = others-from p hooks list context answers plan items its notes first given;
          binds = binds-own p hooks list context answers plan items its notes;
        };
        reached = labels-reached p hooks list context answers plan items its notes resolved;
      }

-- what is made of a program is what a merge owes for it, where a module has this context
pub made-by : (p : Program) (hooks : Hooks) (list : List ℕ) (context : BundleContexts)
    (answers : ℕ → Option HookAnswer) (plan : List Cause) (items : List (List Item)) →
    (sound : AreTreesSound p list) → (apart : TellApart p answers context) →
    (alone : AllZip (IsItemAlone p hooks list context answers) plan items) →
    (due : (cause : Cause) → Contains plan cause ↔ IsDue p AsModule cause) →
    (once : (i j : ℕ) (cause : Cause) → slice_get plan i ≡ Some cause →
    slice_get plan j ≡ Some cause → i ≡ j) →
    (local : ℕ → ℕ) → (locals : (m : ℕ) → IsReached p m → context (TopOf m) ≡ local m) →
    (labels : Labelling) →
    (laid : IsLaidOut p AsModule ByContext (joined_items items) (pairing_of labels items plan)) →
    (first : ℕ) → AreOthersGiven p answers context first →
    IsOwed first local p hooks plan (joined_items items)
made-by p hooks list context answers plan items sound apart alone due once local locals labels
    laid first given =
    owed-by p hooks list context answers plan items
    (record { sound = sound; apart = apart; alone = alone; due = due; once = once })
    (one-entries p list sound context) (notes-of p hooks list context answers plan items alone)
    labels laid local locals first given

-- RIGHT for the program itself, where q has its modules by their places in the list
pub made-moved : (p q : Program) (places : List ℕ) → AreMoved p q places → (hooks : Hooks)
    (list : List ℕ) (context : BundleContexts) (answers : ℕ → Option HookAnswer) (plan : List Cause)
    (items : List (List Item)) → (sound : AreTreesSound q list) →
    (apart : TellApart q answers context) →
    (alone : AllZip (IsItemAlone q hooks list context answers) plan items) →
    (due : (cause : Cause) → Contains plan cause ↔ IsDue q AsModule cause) →
    (once : (i j : ℕ) (cause : Cause) → slice_get plan i ≡ Some cause →
    slice_get plan j ≡ Some cause → i ≡ j) →
    (locals : (k : ℕ) → IsReached q k → context (TopOf k) ≡ local_context (id_at places k)) →
    (labels : Labelling) →
    (laid : IsLaidOut q AsModule ByContext (joined_items items) (pairing_of labels items plan)) →
    (first : ℕ) → AreOthersGiven q answers context first →
    IsMergedRight first p hooks (map (cause_at places) plan) (joined_items items)
made-moved p q places its hooks list context answers plan items sound apart alone due once locals
    labels laid first given =
    let made =
    made-by q hooks list context answers plan items sound apart alone due once
    (λ k. context (TopOf k)) (λ k reached. refl) labels laid first given in
    moved p q places its hooks plan (joined_items items) first (λ k. context (TopOf k)) made.owed made.reached
    locals
