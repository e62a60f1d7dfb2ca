-- What each item by itself gives of the module that is put together of all.
-- Items that are right each by itself are, put together, what a merge owes.
use Rattle.std.proofs.Common.{ℕ, List, [], ◌∷◌, Option, subst, codes, eq-eqb}
use Rattle.std.specs.List.{AllZip, AllByRecursion}
use Rattle.bundle_syntax.specs.Item.{Item}
use Rattle.bundle_rules.specs.Declarations.{ByContext}
use Rattle.bundle_rules.specs.Scopes.{Es}
use Rattle.bundle_rules.specs.Denotes.{IsResolved}
use Rattle.bundle_rules.specs.Program.{Program}
use Rattle.bundle_rules.specs.Meaning.{Labelling}
use Rattle.bundle_rules.specs.Bundle.{Cause, Form, AsModule, Hooks, StandsFor, IsBlockLaidOut, lone, cycle, AreBlocksLaidOut, over, next, IsLaidOut}
use Rattle.bundle_rules.proofs.PlacesLemmas.{occurrences-at}
use Rattle.bundle_scope_names.specs.fit.Sorts.{AnItem}
use Rattle.bundle_scope_names.specs.fit.Fits.{IsFit}
use Rattle.bundle_merge_theory.specs.joined.Joined.{joined_items, AllOf, IsWholeItem}
use Rattle.bundle_merge_theory.specs.joined.Picked.{IsSingle}
use Rattle.bundle_merge_theory.proofs.joined.Notes.{resolved, joined-names}
use Rattle.bundle_merge_theory.proofs.joined.Declarations.{occurrence-of-item}
use Rattle.bundle_merge_theory.specs.composed.Noted.{NotedItem, IsNotedFor, AreNotedFor, IsNotedBundle, pairing_of}
use Rattle.bundle_merge_theory.proofs.composed.Naming.{OneNode, all-whole, merged-bundle, merged-ready}
use Rattle.bundle_merge_theory.proofs.composed.Remade.{NoLone, AllOfForm}
use Rattle.bundle_merge_theory.proofs.composed.Among.{all-in}
use Rattle.bundle_merge_theory.proofs.fit.Facts.{joined_listing, joined_plain, joined_ways}
use Rattle.bundle_merge_theory.specs.made.Given.{HookAnswer, BundleContexts}
use Rattle.bundle_merge_theory.specs.made.Alone.{IsItemAlone}
use Rattle.bundle_merge_theory.specs.together.Together.{AreMergedTogether}
use Rattle.bundle_merge_theory.specs.together.Table.{AllAloneAs, HasItemNotes, HasOneEntries, table_of}
use Rattle.bundle_merge_theory.proofs.together.Statements.{of-item}
use Rattle.bundle_merge_theory.proofs.together.Apart.{are-apart, all-named}
use Rattle.bundle_merge_theory.specs.composed.Names.{LabelTable, labels_in}
use Rattle.bundle_merge_theory.proofs.composed.Theorem.{IsWholeBundle}
use Rattle.bundle_merge_theory.proofs.composed.Becomings.{global-one}
use Rattle.bundle_merge_theory.proofs.together.Tables.{table-one, all-noted}

-- ---- facts

-- a layout does not speak of labels
module _ (p : Program) (form : Form) (tree : List Item) (plan : List Cause)
    (items : List (List Item)) (labels others : Labelling) where
  stands-again : (causes : List Cause) (tops : List _) →
      AllZip (StandsFor (pairing_of labels items plan)) causes tops →
      AllZip (StandsFor (pairing_of others items plan)) causes tops
  stands-again [] [] all = tt
  stands-again [] (top ∷ tops) all = absurd all
  stands-again (cause ∷ causes) [] all = absurd all
  stands-again (cause ∷ causes) (top ∷ tops) all = (
    record { at = all.0.at; cause_there = all.0.cause_there; item_there = all.0.item_there },
    stands-again causes tops all.1,
  )

  block-again : {members : List ℕ} {causes : List Cause} →
      IsBlockLaidOut p form tree ByContext (pairing_of labels items plan) members causes →
      IsBlockLaidOut p form tree ByContext (pairing_of others items plan) members causes
  block-again (lone apart its) = lone apart its
  block-again (cycle numbered tops order by_needs asks numbers stand ordered its) =
      cycle numbered tops order by_needs asks numbers (stands-again numbered tops stand) ordered its

  blocks-again : {blocks : List (List ℕ)} {causes : List Cause} →
      AreBlocksLaidOut p form tree ByContext (pairing_of labels items plan) blocks causes →
      AreBlocksLaidOut p form tree ByContext (pairing_of others items plan) blocks causes
  blocks-again over = over
  blocks-again (next causes block rest) = next causes (block-again block) (blocks-again rest)

  pub laid-again : IsLaidOut p form ByContext tree (pairing_of labels items plan) →
      IsLaidOut p form ByContext tree (pairing_of others items plan)
  laid-again laid = record {
    list = laid.list;
    is_list = laid.is_list;
    blocks = laid.blocks;
    are_blocks = laid.are_blocks;
    follows = laid.follows;
    front = laid.front;
    middle = laid.middle;
    back = laid.back;
    plan = laid.plan;
    in_front = laid.in_front;
    in_blocks = blocks-again laid.in_blocks;
    behind = laid.behind;
  }

module _ (p : Program) (hooks : Hooks) (list : List ℕ) (context : BundleContexts)
    (answers : ℕ → Option HookAnswer) where
  abbrev All : List Cause → List (List Item) → List NotedItem → Type 0
  All plan items noted = AllAloneAs p hooks list context answers plan items noted

  -- each item is noted for its cause
  pub noted-for : (plan : List Cause) (items : List (List Item)) (noted : List NotedItem) →
      All plan items noted → AreNotedFor p hooks AsModule items noted plan
  noted-for [] [] [] each = tt
  noted-for [] [] (one ∷ noted) each = absurd each
  noted-for [] (item ∷ items) noted each = absurd each
  noted-for (cause ∷ plan) [] noted each = absurd each
  noted-for (cause ∷ plan) (item ∷ items) [] each = absurd each
  noted-for (cause ∷ plan) (item ∷ items) (one ∷ noted) each = (
    subst (λ n. IsNotedFor p hooks AsModule item n cause) each.0.its each.0.alone.stands,
    noted-for plan items noted each.1,
  )

  -- and has what each has by itself
  each-noted : (P : List Item → NotedItem → Type 0) →
      ((cause : Cause) (item : List Item) (alone : IsItemAlone p hooks list context answers cause item)
      → P item alone.noted) → (plan : List Cause) (items : List (List Item)) (noted : List NotedItem) →
      All plan items noted → AllZip P items noted
  each-noted P of [] [] [] each = tt
  each-noted P of [] [] (one ∷ noted) each = absurd each
  each-noted P of [] (item ∷ items) noted each = absurd each
  each-noted P of (cause ∷ plan) [] noted each = absurd each
  each-noted P of (cause ∷ plan) (item ∷ items) [] each = absurd each
  each-noted P of (cause ∷ plan) (item ∷ items) (one ∷ noted) each = (
    subst (P item) each.0.its (of cause item each.0.alone),
    each-noted P of plan items noted each.1,
  )

  pub all-forms : (plan : List Cause) (items : List (List Item)) (noted : List NotedItem) →
      All plan items noted → AllOfForm items noted
  all-forms plan items noted each =
      each-noted _ (λ cause item alone. alone.form) plan items noted each

  pub all-one : (plan : List Cause) (items : List (List Item)) (noted : List NotedItem) →
      All plan items noted → AllZip OneNode items noted
  all-one plan items noted each =
      each-noted OneNode (λ cause item alone. alone.one) plan items noted each

  pub no-lone : (plan : List Cause) (items : List (List Item)) (noted : List NotedItem) →
      All plan items noted → AllZip NoLone items noted
  no-lone plan items noted each =
      each-noted NoLone (λ cause item alone. alone.lone) plan items noted each

  pub all-fit : (plan : List Cause) (items : List (List Item)) (noted : List NotedItem) →
      All plan items noted → AllByRecursion (IsFit AnItem 0) items
  all-fit [] [] [] each = tt
  all-fit [] [] (one ∷ noted) each = absurd each
  all-fit [] (item ∷ items) noted each = absurd each
  all-fit (cause ∷ plan) [] noted each = absurd each
  all-fit (cause ∷ plan) (item ∷ items) [] each = absurd each
  all-fit (cause ∷ plan) (item ∷ items) (one ∷ noted) each =
      (each.0.alone.fit, all-fit plan items noted each.1)

module _ (p : Program) (hooks : Hooks) (list : List ℕ) (context : BundleContexts)
    (answers : ℕ → Option HookAnswer) (plan : List Cause) (items : List (List Item))
    (its : AreMergedTogether p hooks list context answers plan items) where
  pub all-single : AllOf IsSingle items
  all-single = all-in IsSingle items (λ m item at.
      let stands = of-item p hooks list context answers plan items its m item at in
      stands.1.alone.single)

  module _ (notes : HasItemNotes p hooks list context answers plan items) where
    pub whole-items : AllOf IsWholeItem items
    whole-items =
        all-whole p hooks AsModule items notes.noted plan
        (noted-for p hooks list context answers plan items notes.noted notes.each)

    pub noted-bundle : IsNotedBundle p hooks items notes.noted plan
    noted-bundle = record {
      single = all-single;
      listing =
          joined_listing items
          (all-fit p hooks list context answers plan items notes.noted notes.each);
      each = noted-for p hooks list context answers plan items notes.noted notes.each;
      due = its.due;
      once = its.once;
    }

    -- the whole is resolved
    pub whole-resolved : IsResolved Es (joined_items items)
    whole-resolved =
        resolved items whole-items (all-named p hooks list context answers plan items its)
        (are-apart p hooks list context answers plan items its)

-- ---- whole
module _ (p : Program) (hooks : Hooks) (list : List ℕ) (context : BundleContexts)
    (answers : ℕ → Option HookAnswer) (plan : List Cause) (items : List (List Item))
    (its : AreMergedTogether p hooks list context answers plan items)
    (entries : HasOneEntries p context) (notes : HasItemNotes p hooks list context answers plan items)
    (labels : Labelling)
    (laid : IsLaidOut p AsModule ByContext (joined_items items) (pairing_of labels items plan)) where
  abbrev table : LabelTable
  table = table_of items notes.noted

  -- a bundle by symbol and context, with all that renaming asks
  unfoldable pub whole-bundle : IsWholeBundle p hooks plan (joined_items items)
  unfolding merged-bundle merged-ready
  whole-bundle =
      let whole = whole-items p hooks list context answers plan items its notes in
      let named = all-named p hooks list context answers plan items its in
      let apart = are-apart p hooks list context answers plan items its in
      let fits = all-fit p hooks list context answers plan items notes.noted notes.each in
      record {
        ready =
            merged-ready p hooks plan items notes.noted table
            (noted-bundle p hooks list context answers plan items its notes) named apart
            (table-one p hooks list context answers plan items its entries notes.noted notes.each)
            (all-noted p hooks list context answers plan items its notes.noted notes.each)
            (all-forms p hooks list context answers plan items notes.noted notes.each)
            (all-one p hooks list context answers plan items notes.noted notes.each)
            (no-lone p hooks list context answers plan items notes.noted notes.each);
        laid =
            laid-again p AsModule (joined_items items) plan items labels
            (labels_in (joined_items items) table) laid;
        resolved = whole-resolved p hooks list context answers plan items its notes;
        names = joined-names items named;
        plain = joined_plain items fits;
        ways = joined_ways items fits;
        objects = record {
          unbound =
              λ n o at denotes. eq-eqb o.ctxt 1
              (global-one items whole named apart o
              (occurrence-of-item items whole o.place o (occurrences-at (joined_items items) n o at))
              (codes "Object") denotes);
        };
      }
