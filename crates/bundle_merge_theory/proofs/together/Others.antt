-- Theorem (`others-from`): where all but the tops of modules have contexts from one on, each binding of the bundle that
-- stands for no module's name has one.
use Rattle.std.proofs.Common.{◌≡◌, ℕ, zero, suc, ◌≤◌, true, false, List, [], ◌∷◌, ◌++◌, Option, Some, option_map, ◌⊎◌, inl, inr, refl, ap, sym, ◌∙◌, subst}
use Rattle.std.specs.Prelude.{Contains, fold, slice_get}
use Rattle.std.specs.List.{AllZip}
use Rattle.std.proofs.lemmas.Bool.{false≢true}
use Rattle.std.proofs.lemmas.Option.{none-some, same_Some}
use Rattle.bundle_syntax.specs.Item.{Item}
use Rattle.bundle_rules.specs.Places.{Spot, Occurrence, past, occurrences_from}
use Rattle.bundle_rules.proofs.PlacesLemmas.{occurrence_at-listed}
use Rattle.bundle_rules.specs.Scopes.{Es}
use Rattle.bundle_rules.specs.Declarations.{ByContext}
use Rattle.bundle_rules.specs.Denotes.{Denoted, Bound, Global, IsResolved}
use Rattle.bundle_rules.specs.Idents.{Ident, ident_of}
use Rattle.bundle_rules.specs.Sorting.{flat}
use Rattle.bundle_rules.specs.Program.{Program, tree_of}
use Rattle.bundle_rules.specs.Meaning.{Label, Meant, Known}
use Rattle.bundle_rules.specs.Bundle.{Cause, Hooks, Defines, AsModule, labelled}
use Rattle.bundle_rules.specs.Merged.{is_module_name}
use Rattle.bundle_merge_theory.specs.joined.Joined.{joined_items, moved_occurrence, offset}
use Rattle.bundle_merge_theory.specs.joined.Notes as note
use Rattle.bundle_merge_theory.specs.joined.Notes.{IsListedIn}
use Rattle.bundle_merge_theory.specs.loaded.Contexts as entry
use Rattle.bundle_merge_theory.specs.loaded.Contexts.{OwnEntry}
use Rattle.bundle_merge_theory.specs.walked.Renaming.{ItemMeaning}
use Rattle.bundle_merge_theory.specs.composed.Noted.{NotedItem, AsFunction, IsNotedFor, as_whole, as_function, function_ends, first_spot, pairing_of}
use Rattle.bundle_merge_theory.specs.composed.Names.{LabelTable, NameNoted, IsLabelled, labelled_top, labelled_inner, is_one_inside, is_known, is_known_top, is_free, StatementNamed, StatementsNamed, ItemNoted, denoted_in_tree, labels_in}
use Rattle.bundle_merge_theory.specs.made.Given.{HookAnswer, BundleContexts, Holder, TopOf, NameOf, numbers_in, ident_of_label}
use Rattle.bundle_merge_theory.specs.made.Alone as a
use Rattle.bundle_merge_theory.specs.made.Alone.{NameAlone, StatementAlone, StatementsAlone, FrontAlone, ItemAlone, OwnsHolder}
use Rattle.bundle_merge_theory.specs.together.Others.{AreOthersGiven, HasOthersFrom}
use Rattle.bundle_merge_theory.specs.together.Together.{AreMergedTogether}
use Rattle.bundle_merge_theory.specs.together.Table.{table_of, HasItemNotes, AllAloneAs}
use Rattle.bundle_merge_theory.proofs.composed.Fronts.{label-there}
use Rattle.bundle_merge_theory.proofs.joined.Declarations.{occurrence-of-item, IsOfItem}
use Rattle.bundle_merge_theory.proofs.joined.Notes.{note-told}
use Rattle.bundle_merge_theory.proofs.joined.Paths.{get-append, item-occurrences, occurrences-append}
use Rattle.bundle_merge_theory.proofs.together.Apart.{all-named}
use Rattle.bundle_merge_theory.proofs.together.Facts.{whole-items, whole-resolved}
use Rattle.bundle_merge_theory.proofs.together.Statements.{StandsAt, of-item}
use Rattle.bundle_merge_theory.proofs.together.Tables.{HoldsLabel, by_module, by_name, holds, holder-context, one-not-top, all-noted}

-- ---- what is told of one place by two
both-beside : {A B : Type 0} (R S : A → B → Type 0) (xs : List A) (ys : List B) → AllZip R xs ys →
    AllZip S xs ys → (i : ℕ) (x : A) → slice_get xs i ≡ Some x → (y : B) × R x y × S x y
both-beside R S [] ys all also i x at = absurd (none-some x at)
both-beside R S (z ∷ xs) [] all also i x at = absurd all
both-beside {B = B} R S (z ∷ xs) (y ∷ ys) all also zero x at =
    subst (λ w. (v : B) × R w v × S w v) (same_Some z x at) (y, all.0, also.0)
both-beside R S (z ∷ xs) (y ∷ ys) all also (suc i) x at = both-beside R S xs ys all.1 also.1 i x at

module _ (p : Program) (list : List ℕ) (context : BundleContexts) (answers : ℕ → Option HookAnswer)
    (items : List (List Item)) (table : LabelTable) (cause : Cause) (item : List Item) where
  -- what a name of an item means, and its label in the table
  pub record ToldAt (o : Occurrence) : Type 0 where
    pub begins : ℕ
    pub all : List Denoted
    pub meant : Meant
    pub alone : NameAlone p list context answers cause item begins all o meant
    pub in_table : (l : Label) → meant ≡ Known l → Contains table (ident_of o, l)

  label-in : {o : Occurrence} {l : Label} → IsLabelled items table item o l → Contains table (ident_of o, l)
  label-in (labelled_top is not_inner there) = there
  label-in (labelled_inner is unless there) = there

  known-in : {begins : ℕ} {all : List Denoted} {o : Occurrence} {meant : Meant} →
      NameNoted items table item begins all o meant → (l : Label) → meant ≡ Known l →
      Contains table (ident_of o, l)
  known-in (is_one_inside is unless within at) l e = absurd cc
  known-in {o = o} (is_known {l = k} out its) l e =
      let same : k ≡ l = cc in subst (λ n. Contains table (ident_of o, n)) same (label-in its)
  known-in {o = o} (is_known_top {l = k} is not_inner there) l e =
      let same : k ≡ l = cc in subst (λ n. Contains table (ident_of o, n)) same there
  known-in (is_free one not_top not_inner) l e = absurd cc

  in-statement : (s : Spot) (part : List Item) (told : ItemMeaning) →
      StatementAlone p list context answers cause item s part told →
      StatementNamed items table item s part told → (i : ℕ) (o : Occurrence) →
      slice_get (occurrences_from s part) i ≡ Some o → ToldAt o
  in-statement s part told alone noted i o at =
      let both = both-beside _ _ (occurrences_from s part) told.0 alone noted i o at in
      record { begins = s.place; all = _; meant = both.0; alone = both.1; in_table = known-in both.2 }

  in-statements : (s : Spot) (parts : List (List Item)) (tolds : List ItemMeaning) →
      StatementsAlone p list context answers cause item s parts tolds →
      StatementsNamed items table item s parts tolds → (i : ℕ) (o : Occurrence) →
      slice_get (occurrences_from s (flat parts)) i ≡ Some o → ToldAt o
  in-statements s [] [] alone noted i o at = absurd (none-some o at)
  in-statements s [] (told ∷ tolds) alone noted i o at = absurd alone
  in-statements s (part ∷ parts) [] alone noted i o at = absurd alone
  in-statements s (part ∷ parts) (told ∷ tolds) alone noted i o at =
      by (get-append (occurrences_from s part) (occurrences_from (fold past s part) (flat parts)) i
      o (ap (λ os. slice_get os i) (sym (occurrences-append s part (flat parts))) ∙ at))
      (λ j there. in-statements (fold past s part) parts tolds alone.1 noted.1 j o there)
    where
      by : (slice_get (occurrences_from s part) i ≡ Some o)
          ⊎ ((j : ℕ) × (slice_get (occurrences_from (fold past s part) (flat parts)) j ≡ Some o))
          → ((j : ℕ) → slice_get (occurrences_from (fold past s part) (flat parts)) j ≡ Some o →
          ToldAt o) → ToldAt o
      by (inl here) ih = in-statement s part told alone.0 noted.0 i o here
      by (inr later) ih = ih later.0 later.1

  in-front : (os : List Occurrence) (names : List Label) →
      AllZip (FrontAlone p list context answers cause item) os names →
      AllZip (IsLabelled items table item) os names → (i : ℕ) (o : Occurrence) →
      slice_get os i ≡ Some o → ToldAt o
  in-front os names alone noted i o at =
      let both =
      both-beside (FrontAlone p list context answers cause item) (IsLabelled items table item) os names
      alone noted i o at in
      record {
        begins = 22;
        all = [];
        meant = Known both.0;
        alone = both.1;
        in_table = λ l e.
            let same : both.0 ≡ l = cc in
            subst (λ n. Contains table (ident_of o, n)) same (label-in both.2);
      }

  in-function : (front : List Item) (names : List Label) (insides : List (List Item))
      (tolds : List ItemMeaning) →
      ItemAlone p list context answers cause item (AsFunction front names insides tolds) →
      ItemNoted items table item (AsFunction front names insides tolds) → (i : ℕ) (o : Occurrence) →
      slice_get (occurrences_from first_spot (front ++ (flat insides ++ function_ends))) i
      ≡ Some o → ToldAt o
  in-function front names insides tolds alone noted i o at =
      by (get-append (occurrences_from first_spot front)
      (occurrences_from (fold past first_spot front) (flat insides ++ function_ends)) i o
      (ap (λ os. slice_get os i)
      (sym (occurrences-append first_spot front (flat insides ++ function_ends))) ∙ at))
    where
      behind : (j : ℕ) →
          (slice_get (occurrences_from (fold past first_spot front) (flat insides)) j ≡ Some o)
          ⊎ ((k : ℕ) × (slice_get
          (occurrences_from (fold past (fold past first_spot front) (flat insides)) function_ends)
          k ≡ Some o)) → ToldAt o
      behind j (inl here) =
          in-statements (fold past first_spot front) insides tolds alone.1 noted.1 j o here
      behind j (inr later) = absurd (none-some o later.1)

      by : (slice_get (occurrences_from first_spot front) i ≡ Some o)
          ⊎ ((j : ℕ) × (slice_get
          (occurrences_from (fold past first_spot front) (flat insides ++ function_ends)) j
          ≡ Some o)) → ToldAt o
      by (inl here) = in-front (occurrences_from first_spot front) names alone.0 noted.0 i o here
      by (inr later) =
          behind later.0
          (get-append (occurrences_from (fold past first_spot front) (flat insides))
          (occurrences_from (fold past (fold past first_spot front) (flat insides)) function_ends)
          later.0 o
          (ap (λ os. slice_get os later.0)
          (sym (occurrences-append (fold past first_spot front) (flat insides) function_ends))
          ∙ later.1))

told-at : (p : Program) (hooks : Hooks) (list : List ℕ) (context : BundleContexts)
    (answers : ℕ → Option HookAnswer) (items : List (List Item)) (table : LabelTable) {cause : Cause}
    {item : List Item} {noted : NotedItem} → IsNotedFor p hooks AsModule item noted cause →
    ItemAlone p list context answers cause item noted → ItemNoted items table item noted →
    (o : Occurrence) → IsListedIn item o → ToldAt p list context answers items table cause item o
told-at p hooks list context answers items table {cause = cause} {item = item} (as_whole {told = told} marked
    stand) alone noted o listed =
    in-statement p list context answers items table cause item first_spot item told alone noted listed.0 o
    (sym (ap (λ os. slice_get os listed.0) (item-occurrences item)) ∙ listed.1)
told-at p hooks list context answers items table (as_function {c = c} {item = item} {front = front}
    {names = names} {insides = insides} {tolds = tolds} nodes is plain states) alone noted o listed =
    in-function p list context answers items table (Defines c) item front names insides tolds alone noted
    listed.0 o
    (ap (λ l. slice_get (occurrences_from first_spot l) listed.0) (sym is)
    ∙ sym (ap (λ os. slice_get os listed.0) (item-occurrences item)) ∙ listed.1)

-- ---- contexts
-- what stands only in an item is the top of no module, but for that of a CommonJS module in its function
owned-other : (p : Program) {cause : Cause} {holder : Holder} → OwnsHolder p cause holder →
    ((c : ℕ) → cause ≡ Defines c → holder ≡ TopOf c → ⊥) → (m : ℕ) → holder ≡ TopOf m → ⊥
owned-other p (a.own statement at there) never m e = cc
owned-other p a.defines_inside never m e = cc
owned-other p (a.defines_top {c = c}) never m e = never c refl refl
owned-other p a.holds_meta never m e = cc
owned-other p a.holds_written never m e = cc
owned-other p a.helps_parameter never m e = cc
owned-other p a.helps_variable never m e = cc

-- a name of a CommonJS module is a module's name
entry-name : (c : ℕ) (context : BundleContexts) (tree : List Item) {i : Ident} {l : Label} →
    OwnEntry c (numbers_in context c) tree i l → is_module_name l ≡ true
entry-name c context tree (entry.top_entry i m at) = refl
entry-name c context tree (entry.wrapper_entry i m at) = refl
entry-name c context tree (entry.parameter_entry x which) = refl

module _ (p : Program) (hooks : Hooks) (list : List ℕ) (context : BundleContexts)
    (answers : ℕ → Option HookAnswer) (plan : List Cause) (items : List (List Item))
    (its : AreMergedTogether p hooks list context answers plan items)
    (notes : HasItemNotes p hooks list context answers plan items) where
  abbrev table : LabelTable
  table = table_of items notes.noted

  -- what is told of an item, and noted
  record BothTold (cause : Cause) (item : List Item) : Type 0 where
    noted : NotedItem
    stands : IsNotedFor p hooks AsModule item noted cause
    alone : ItemAlone p list context answers cause item noted
    by_table : ItemNoted items table item noted

  both-told : (causes : List Cause) (parts : List (List Item)) (all : List NotedItem) →
      AllAloneAs p hooks list context answers causes parts all → AllZip (ItemNoted items table) parts all →
      (i : ℕ) (cause : Cause) (item : List Item) → slice_get causes i ≡ Some cause →
      slice_get parts i ≡ Some item → BothTold cause item
  both-told [] [] [] each noted i cause item at there = absurd (none-some cause at)
  both-told [] [] (one ∷ all) each noted i cause item at there = absurd each
  both-told [] (part ∷ parts) all each noted i cause item at there = absurd each
  both-told (c ∷ causes) [] all each noted i cause item at there = absurd each
  both-told (c ∷ causes) (part ∷ parts) [] each noted i cause item at there = absurd each
  both-told (c ∷ causes) (part ∷ parts) (one ∷ all) each noted zero cause item at there =
      subst (λ x. BothTold x item) (same_Some c cause at)
      (subst (λ x. BothTold c x) (same_Some part item there)
      (record {
        noted = one;
        stands = subst (λ n. IsNotedFor p hooks AsModule part n c) each.0.its each.0.alone.stands;
        alone = subst (λ n. ItemAlone p list context answers c part n) each.0.its each.0.alone.names;
        by_table = noted.0;
      }))
  both-told (c ∷ causes) (part ∷ parts) (one ∷ all) each noted (suc i) cause item at there =
      both-told causes parts all each.1 noted.1 i cause item at there

  -- OTHERS have contexts from this one on
  pub others-from : (first : ℕ) → AreOthersGiven p answers context first →
      HasOthersFrom first
      (labelled (joined_items items) ByContext (pairing_of (labels_in (joined_items items) table) items plan))
  others-from first given place o scope name at denotes unlabelled =
      let here = told-at p hooks list context answers items table both.stands both.alone both.by_table of.o (of.j, of.at) in
      subst (λ n. first ≤ n) (sym (ap (λ (x : Occurrence). x.ctxt) of.is)) (by here.alone here.in_table)
    where
      whole : IsResolved Es (joined_items items)
      whole = whole-resolved p hooks list context answers plan items its notes

      of : IsOfItem items o
      of = occurrence-of-item items (whole-items p hooks list context answers plan items its notes) place o at

      stands : (cause : Cause) × StandsAt p hooks list context answers plan items its of.m cause of.item
      stands = of-item p hooks list context answers plan items its of.m of.item of.there

      both : BothTold stands.0 of.item
      both =
          both-told plan items notes.noted notes.each
          (all-noted p hooks list context answers plan items its notes.noted notes.each) of.m stands.0 of.item
          stands.1.cause_there of.there

      bound : denoted_in_tree (joined_items items) o ≡ Bound scope name
      bound =
          same_Some _ _
          (sym (ap (option_map (denoted_in_tree (joined_items items))) at) ∙ denotes)

      -- a label that the table has for the occurrence is no module's name
      other : (l : Label) → Contains table (ident_of of.o, l) → is_module_name l ≡ false
      other l there =
          let listed = occurrence_at-listed (joined_items items) place o at in
          let same : ident_of of.o ≡ ident_of o = ap ident_of (sym of.is) in
          unlabelled l
          (subst (λ d. Contains (labels_in (joined_items items) table) (d, l)) bound
          (label-there (joined_items items) whole table o listed l
          (subst (λ (i : Ident). Contains table (i, l)) same there)))

      held : {l : Label} {holder : Holder} → HoldsLabel p l holder → is_module_name l ≡ false →
          first ≤ (ident_of_label p list context l).1
      held (by_module reached es) no_name = absurd (false≢true (sym no_name))
      held {l = l} (by_name cause due adds) no_name =
          subst (λ n. first ≤ n) (sym (holder-context p list context (by_name cause due adds)))
          (given (NameOf l) (a.added cause due adds) (λ m e. cc))

      by : {begins : ℕ} {all : List Denoted} {meant : Meant} →
          NameAlone p list context answers stands.0 of.item begins all of.o meant →
          ((l : Label) → meant ≡ Known l → Contains table (ident_of of.o, l)) → first ≤ of.o.ctxt
      by (a.inside holder within inner_there found owns never is ctxt) known =
          subst (λ n. first ≤ n) (sym ctxt) (given holder is (owned-other p owns never))
      by (a.of_top {l = l} not_inner never top same) known =
          subst (λ n. first ≤ n) (sym (ap (λ (i : Ident). i.1) same))
          (held (holds p l top).1 (other l (known l refl)))
      by (a.of_function {c = c} {l = l} is out inside_it declares its_entry) known =
          absurd
          (false≢true
          (sym (other l (known l refl)) ∙ entry-name c context (tree_of p c) its_entry))
      by (a.free one not_inner arguments) known =
          absurd (global_bound (sym global ∙ ap (denoted_in_tree (joined_items items)) (sym of.is) ∙ bound))
        where
          global : denoted_in_tree (joined_items items) (moved_occurrence (offset items of.m) of.o) ≡ Global of.o.sym
          global =
              note-told items (whole-items p hooks list context answers plan items its notes)
              (all-named p hooks list context answers plan items its) of.m of.item of.there of.o (of.j, of.at)
              (note.free one (one-not-top p hooks list context answers plan items its of.o one) not_inner)

          global_bound : Global of.o.sym ≡ Bound scope name → ⊥
          global_bound e = cc
