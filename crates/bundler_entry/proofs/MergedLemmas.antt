-- What the modules of an entry make is what they are as one, and where they make nothing, a module
-- of theirs or the entry is told.
-- What becomes of identifiers that denote bindings in turn, as changes; a tree with these is named.
-- Answers that were read stand at the numbers of their modules.
use Rattle.std.proofs.Common.{◌≡◌, ℕ, zero, ◌+◌, ◌*◌, ◌<◌, ◌≤◌, Bool, List, [], ◌∷◌, ◌++◌, Option, Some, None, length, map, refl, sym, ap, ◌∙◌, subst, arith, if◌then◌else◌, ◌⊎◌, inl, inr, suc, Contains, get_or, take}
use Rattle.std.specs.Prelude.{IfNone, IfSome, unwrap_or, IsSome, option_map, slice_get, slice_set}
use Rattle.std.specs.List.{AllZip, flat_map}
use Rattle.std.proofs.lemmas.Option.{get_or_from_slice_get, none-some, same_Some, slice_get-get_or, slice_get_within}
use Rattle.std.proofs.lemmas.List.{length-set, take_all, take_more}
use Rattle.std.proofs.lemmas.List.Elements.{Contains-append_cases}
use Rattle.bundle_syntax.specs.Item as h
use Rattle.bundle_syntax.specs.Item.{Item}
use Rattle.bundle_tree_ast.specs.declared.module.Module.{Module}
use Rattle.bundle_order_sort.specs.declared.plan.Block.{Block}
use Rattle.bundle_rules.specs.Entries.{has_import_meta}
use Rattle.bundle_rules.specs.Kept.{local_context, export_context}
use Rattle.bundle_rules.specs.Nodes.{flat}
use Rattle.bundle_rules.specs.Program.{Program, tree_of, IsReached}
use Rattle.bundle_rules.specs.Statements.{own_statements}
use Rattle.bundle_rules.specs.Idents.{Ident, idents}
use Rattle.bundle_rules.specs.Rebuilds.{Change, change_to, rebuilt}
use Rattle.bundle_tree_listed.specs.Tree.{module_item_items, module_items, node}
use Rattle.bundle_scope_denote.specs.declared.table.Denotations.{Denotations}
use Rattle.bundle_tree_places.specs.Edits.{Edited}
use Rattle.bundle_tree_places.proofs.EditsLemmas.{rebuilt_so}
use Rattle.bundle_scope_names.specs.declared.names.Names.{Names}
use Rattle.bundle_scope_names.specs.declared.names.ContextRule.{ContextRule}
use Rattle.bundle_scope_names.specs.declared.names.ContextRule.TheVariants.{Keep, Clear}
use Rattle.bundle_scope_names.specs.Called.{called_ident, in_context, name_changes}
use Rattle.bundle_tree_rename.specs.Naming.{Naming, change_at, changes_at}
use Rattle.bundle_scope_names.proofs.grown.Grown.{module_fit}
use Rattle.bundle_link_targets.specs.declared.linking.Linking.{Linking}
use Rattle.bundle_link.proofs.NumbersLemmas.{there_is}
use Rattle.bundle_link.proofs.NumberLemmas.{held}
use Rattle.bundle_merge_theory.specs.joined.Joined.{joined_items}
use Rattle.bundle_merge_theory.specs.made.Alone as a
use Rattle.bundle_merge_theory.specs.made.Alone.{AreTreesSound, IsHolder}
use Rattle.bundle_merge_theory.specs.made.Given.{HookAnswer, WrittenIn, all_fresh, Holder, AnsweredOf, InsideOf, TopOf}
use Rattle.bundle_merge_theory.specs.made.Made.{AreMade}
use Rattle.bundle_merge_theory.specs.planned.Blocks.{block_of}
use Rattle.bundle_merge_theory.specs.planned.Decided.{Decided, numbers_from}
use Rattle.bundle_merge_theory.specs.planned.Placed.{id_at}
use Rattle.bundle_merge_theory.specs.sound.Decided.{AreTablesTold, decided_by}
use Rattle.bundle_merge_theory.specs.finished.Ended.{IsNamedAtOnce}
use Rattle.bundle_merge_theory.specs.finished.Twice.{IsEditable}
use Rattle.bundle_merge_theory.proofs.answered.Meta.{are-fresh}
use Rattle.bundle_merge_theory.proofs.fit.Facts.{one_plain}
use Rattle.bundle_merge_theory.proofs.finished.Theorem.{in-turn}
use Rattle.bundle_merge_names.specs.Bundle.{AreBundleParts}
use Rattle.bundle_merge_names.proofs.RefusedLemmas.{others-get}
use Rattle.bundle_merge_names.specs.Numbers.{position}
use Rattle.bundle_merge_names.specs.Refused as r
use Rattle.bundle_merge_names.specs.Refused.{RefusesContextsIn, RefusesNames}
use Rattle.bundle_merge_names.specs.declared.error.MergeError.{MergeError}
use Rattle.bundle_merge_names.specs.declared.part.BundleInput.{BundleInput}
use Rattle.bundle_merge_names.specs.declared.error.MergeError.TheVariants
use Rattle.bundle_merge_items.specs.Added.{module_item_lists}
use Rattle.bundle_merge_items.specs.Adds.{AreAnswered, any_hooks, decided_of}
use Rattle.bundle_merge_items.specs.Merged.{AreBlocksOnce, IsMergedOf}
use Rattle.bundle_merge_items.specs.declared.merge.MergedModule.{MergedModule}
use Rattle.bundler_entry.specs.Linked.{IsCallOf, IsLinkedEntry}
use Rattle.bundler_entry.specs.Hook.{AreRead, IsMetaRead}
use Rattle.bundler_entry.specs.Made as m
use Rattle.bundler_entry.specs.Made.{IsRefusedMaking, answers_in, AreOfAnswers, kept_properties}
use Rattle.bundler_entry.specs.Merged.{IsMergedIn, TellsContexts, decided_in}
use Rattle.bundler_entry.specs.Parts.{AreBodies, AreEntryParts, IsAnswerRead, found_at}
use Rattle.bundler_entry.specs.declared.call.EntryCall.{EntryCall}
use Rattle.bundler_entry.specs.declared.linked.LinkedEntry.{LinkedEntry}
use Rattle.bundler_entry.specs.declared.meta.ReadMeta.{ReadMeta}
use Rattle.bundler_entry.specs.declared.unlinked.EntryError.{EntryError}
use Rattle.bundler_entry.proofs.LinkedLemmas.{file_at}
use Rattle.bundler_entry.proofs.PartsLemmas.{are-once, are-parts, are-sound, are-told, below-reached, export-below, free-above, local-is}
use Rattle.bundler_entry.specs.Finished.{IsEnded, NamesInTurn, naming_for}
use Rattle.bundler_entry.specs.declared.entry.MetaAnswer.{MetaAnswer as Answer_read}

-- ---- merged

-- the list of a module is that of its items' lists
flat-mapped : {A : Type 0} (f : A → List Item) (xs : List A) → flat_map f xs ≡ flat (map f xs)
flat-mapped f [] = refl
flat-mapped f (x ∷ xs) = ap (λ (rest : List Item). f x ++ rest) (flat-mapped f xs)

pub joined-items : (merged : Module) (items : List (List Item)) → module_item_lists merged ≡ items →
    module_items 0 merged ≡ joined_items items
joined-items merged items is =
    ap (λ (inside : List Item). node 0 h.Module inside)
    (flat-mapped (module_item_items 0) merged.body.items)
    ∙ ap joined_items is

-- ---- whose names get contexts
-- the module inside which a scope is that has a context is reached
abbrev IsOfReached : Program → Holder → Type 0
IsOfReached q (InsideOf k begins) = IsReached q k
IsOfReached q (AnsweredOf k begins) = IsReached q k
IsOfReached q (WrittenIn k ctxt) = IsReached q k
IsOfReached q _ = Unit {0}

holder-reached : (q : Program) (answers : ℕ → Option HookAnswer) (holder : Holder) →
    IsHolder q answers holder → IsOfReached q holder
holder-reached q answers _ (a.top_of reached) = tt
holder-reached q answers _ (a.inside_of kind its name i reached has denoted) = reached
holder-reached q answers _ (a.answered_of properties its name i reached there denoted) = reached
holder-reached q answers _ (a.written_in own notes properties its begins name i o reached there at denoted is) = reached
holder-reached q answers _ (a.added cause due adds) = tt
holder-reached q answers _ (a.parameter c reached common) = tt
holder-reached q answers _ (a.variable c reached common) = tt

-- a module that is told is reached
abbrev TellsReached : Program → MergeError → Type 0
TellsReached q (TheVariants.ContextsUsedUp (Some k)) = IsReached q k
TellsReached q _ = Unit {0}

scopes-reached : (q : Program) (list : List ℕ) (answers : ℕ → Option HookAnswer) (next : ℕ)
    (refusal : MergeError) → RefusesContextsIn q list answers next refusal →
    TellsReached q refusal
scopes-reached q list answers next _ r.for_memory = tt
scopes-reached q list answers next _ (r.for_module k begins holder lacks) =
    holder-reached q answers (InsideOf k begins) holder
scopes-reached q list answers next _ (r.for_answer k begins holder lacks) =
    holder-reached q answers (AnsweredOf k begins) holder

names-reached : (q : Program) (list : List ℕ) (answers : ℕ → Option HookAnswer) (next : ℕ)
    (refusal : MergeError) → RefusesNames q list answers next refusal → TellsReached q refusal
names-reached q list answers next refusal (r.for_scopes refuses) =
    scopes-reached q list answers next refusal refuses
names-reached q list answers next _ (r.for_labels label given lacks) = tt

module _ (p : Program) (entry : ℕ) (call : EntryCall) (w : IsCallOf p entry call) (linked : LinkedEntry) (l : IsLinkedEntry p call linked) (answers : ℕ → Option (List Item)) where
  abbrev ids : List ℕ
  ids = linked.reached.list.items

  abbrev n : ℕ
  n = length ids

  abbrev q : Program
  q = l.links.places

  abbrev meta : ℕ → Bool
  meta k = has_import_meta (tree_of q k)

  abbrev count : ℕ → ℕ
  count k = length (own_statements (tree_of q k))

  -- where contexts run out for a module, its file is told, and else the entry's
  pub refused-making : (next : ℕ) (found : Option ℕ) (refusal : EntryError) →
      next ≤ 2 * call.program.now.count + 2 →
      RefusesNames q (numbers_from zero n) (all_fresh answers) next (TheVariants.ContextsUsedUp found) →
      TellsContexts call linked.reached found refusal →
      IsRefusedMaking q call linked answers refusal
  refused-making next None refusal few refuses tells =
      subst (IsRefusedMaking q call linked answers) (sym tells.is)
      (m.for_entry next tells.told few refuses (tells.of_entry refl))
  refused-making next (Some k) refusal few refuses tells =
      let reached = names-reached q (numbers_from zero n) (all_fresh answers) next (TheVariants.ContextsUsedUp (Some k))
      refuses in
      let at = there_is ids k ((below-reached p entry call w linked l k).0 reached) in
      let file = file_at p entry call w linked.reached l.reached k at.0 at.1 in
      subst (IsRefusedMaking q call linked answers) (sym tells.is)
      (m.for_module next file.0 tells.told few refuses file.1
      (tells.of_module k file.0 refl file.1))

  -- what the parts of a bundle make is what the modules of the entry are as one
  pub merged-in : (bodies : List (Option Denotations)) (bundle : BundleInput) →
      AreEntryParts call linked.reached bodies (length linked.reached.leads.items)
      bundle.parts.now → bundle.linking.now ≡ linked.linking →
      bundle.blocks.now ≡ linked.plan.blocks.items → (merged : MergedModule) →
      IsMergedOf q (numbers_from zero n) (all_fresh answers) bundle meta count merged →
      IfSome bundle.contexts.next (λ next. next ≡ call.program.now.count * 2 + 2) →
      IsMergedIn q linked answers merged.tree
  merged-in bodies bundle parts linking blocks merged its above = record {
    context = its.context;
    apart = its.apart;
    tops = tops;
    first = position bundle.contexts;
    others = λ a holder never.
        its.from a holder (others-get q (all_fresh answers) (are-fresh answers) a holder never);
    over = λ k reached.
        let at = there_is ids k ((below-reached p entry call w linked l k).0 reached) in
        subst (λ (o : Option ℕ). export_context (unwrap_or o zero) < position bundle.contexts)
        (sym at.1) (export-below p entry call w linked l bundle.contexts.next above k at.0 at.1);
    orders = its.orders;
    items = its.items;
    are_made = subst
        (λ (d : Decided). AreMade q any_hooks (numbers_from zero n) its.context (all_fresh answers) d
        its.orders its.items) decided its.made;
    is = joined-items merged.tree its.items its.is;
  }
    where
      long : length bundle.parts.now ≡ n
      long = parts.long ∙ l.reached.long

      tops : (k : ℕ) → IsReached q k → its.context (TopOf k) ≡ local_context (id_at ids k)
      tops k reached =
          let below = (below-reached p entry call w linked l k).0 reached in
          let part = there_is bundle.parts.now k (omega (arith, below, long)) in
          let at = there_is ids k below in
          its.tops k part.0 part.1
          ∙ local-is p entry call w linked l bodies k at.0 part.0 at.1
          (parts.each k part.0 part.1)
          ∙ ap (λ (o : Option ℕ). local_context (unwrap_or o zero)) (sym at.1)

      decided : decided_of bundle meta count ≡ decided_in q linked
      decided =
          ap (λ (its : Linking). decided_by its meta count (length bundle.parts.now)
          (map block_of bundle.blocks.now)) linking
          ∙ ap (λ (k : ℕ). decided_by linked.linking meta count k (map block_of bundle.blocks.now))
          long
          ∙ ap (λ (list : List Block). decided_by linked.linking meta count n (map block_of list))
          blocks

module _ (p : Program) (entry : ℕ) (call : EntryCall) (w : IsCallOf p entry call) (linked : LinkedEntry) (l : IsLinkedEntry p call linked) (bodies : List (Option Denotations)) (are-bodies : AreBodies l.links.places call linked.reached (length linked.reached.places.items) bodies) (metas : List (Option ReadMeta)) (read : AreRead metas) where
  abbrev its : Program
  its = l.links.places

  abbrev list : List ℕ
  list = numbers_from zero (length linked.reached.list.items)

  -- what the parts are merged to
  pub all-merged : AreAnswered its (all_fresh (answers_in metas)) → (bundle : BundleInput) (merged : MergedModule) →
      ((q : Program) (list : List ℕ) (answers : ℕ → Option HookAnswer) (meta : ℕ → Bool)
      (count : ℕ → ℕ) → AreTreesSound q list → AreBundleParts q list answers bundle →
      AreBlocksOnce bundle → AreAnswered q answers →
      AreTablesTold q (length bundle.parts.now) meta count →
      IsMergedOf q list answers bundle meta count merged) →
      AreEntryParts call linked.reached bodies (length linked.reached.leads.items)
      bundle.parts.now → AllZip IsAnswerRead metas bundle.answers.now →
      bundle.linking.now ≡ linked.linking → bundle.blocks.now ≡ linked.plan.blocks.items →
      IfSome bundle.contexts.next (λ next. next ≡ call.program.now.count * 2 + 2) →
      IsMergedIn its linked (answers_in metas) merged.tree
  all-merged answered bundle merged makes parts answers linking blocks above =
      merged-in p entry call w linked l (answers_in metas) bodies bundle parts linking blocks merged
      (makes its list (all_fresh (answers_in metas)) (λ k. has_import_meta (tree_of its k))
      (λ k. length (own_statements (tree_of its k))) (are-sound p entry call w linked l)
      (are-parts p entry call w linked l bodies are-bodies metas read bundle parts answers linking
      blocks above)
      (are-once p entry call w linked l bodies are-bodies metas read bundle parts answers linking
      blocks above)
      answered
      (are-told p entry call w linked l bodies are-bodies metas read bundle parts answers linking
      blocks above)) above

  -- why they are not merged
  pub all-refused : (bundle : BundleInput) (error : MergeError) (found : Option ℕ)
      (refusal : EntryError) → error ≡ TheVariants.ContextsUsedUp found →
      ((q : Program) (list : List ℕ) (answers : ℕ → Option HookAnswer) →
      AreBundleParts q list answers bundle →
      RefusesNames q list answers (position bundle.contexts) error) →
      AreEntryParts call linked.reached bodies (length linked.reached.leads.items)
      bundle.parts.now → AllZip IsAnswerRead metas bundle.answers.now →
      bundle.linking.now ≡ linked.linking → bundle.blocks.now ≡ linked.plan.blocks.items →
      IfSome bundle.contexts.next (λ next. next ≡ call.program.now.count * 2 + 2) →
      IfNone bundle.contexts.next (4294967295 < call.program.now.count * 2 + 2) →
      TellsContexts call linked.reached found refusal →
      IsRefusedMaking its call linked (answers_in metas) refusal
  all-refused bundle error found refusal is refuses parts answers linking blocks above none tells =
      refused-making p entry call w linked l (answers_in metas) (position bundle.contexts) found
      refusal (free-above bundle.contexts.next call.program.now.count above none)
      (subst (RefusesNames its list (all_fresh (answers_in metas)) (position bundle.contexts)) is
      (refuses its list (all_fresh (answers_in metas))
      (are-parts p entry call w linked l bodies are-bodies metas read bundle parts answers linking
      blocks above))) tells

-- ---- naming

-- the change of one
change_named : (names : Names) (contexts : ContextRule) (binding : Option ℕ) (old : Ident) → change_at old (naming_for names contexts binding) ≡ change_to old (in_context contexts (called_ident names old binding))
change_named names Keep None old = refl
change_named names Clear None old = refl
change_named names Keep (Some binding) old = refl
change_named names Clear (Some binding) old = refl

-- those of all
pub changes_named : (names : Names) (contexts : ContextRule) (bindings : List (Option ℕ)) (olds : List Ident) → changes_at (map (naming_for names contexts) bindings) olds ≡ name_changes names contexts olds bindings
changes_named names contexts [] [] = refl
changes_named names contexts [] (old ∷ olds) = refl
changes_named names contexts (binding ∷ bindings) [] = refl
changes_named names contexts (binding ∷ bindings) (old ∷ olds) =
    ap (λ (change : Change). change ∷ changes_at (map (naming_for names contexts) bindings) olds) (change_named names contexts binding old)
    ∙ ap (λ (changes : List Change). change_to old (in_context contexts (called_ident names old binding)) ∷ changes) (changes_named names contexts bindings olds)

-- a tree with the names of its bindings
pub named_so : (renames : Bool) (names : Names) (contexts : ContextRule) (bindings : List (Option ℕ)) (namings : List Naming) {before after : List Item} → namings ≡ map (naming_for names contexts) bindings → contexts ≡ (if renames then Clear else Keep) → IsEnded renames before names bindings → Edited (changes_at namings (idents before)) before after → IsNamedAtOnce renames before after
named_so renames names contexts bindings namings {before = before} namings_are contexts_are ended edited = record {
  table = ended.table;
  denotes = ended.denotes;
  names = names;
  right = ended.right;
  is =
      rebuilt_so edited
      ∙ ap (λ its. rebuilt before (changes_at its (idents before))) namings_are
      ∙ ap (rebuilt before) (changes_named names contexts bindings (idents before))
      ∙ ap (λ its. rebuilt before (name_changes names its (idents before) bindings)) contexts_are
      ∙ ap (λ its. rebuilt before (name_changes names (if renames then Clear else Keep) (idents before) its)) ended.are;
}

-- and one whose names are changed
pub editable_so : {changes : List Change} {before after : List Item} → Edited changes before after → IsEditable before
editable_so edited = record { changes = _; after = _; left = edited.rest; edits = edited.by }

-- which comes to both renamings, one after the other
pub in_turn_so : (renames : Bool) (merged : Module) {after : List Item} → IsEditable (module_items 0 merged) → IsNamedAtOnce renames (module_items 0 merged) after → NamesInTurn renames (module_items 0 merged) after
in_turn_so renames merged {after = after} editable at_once = λ resolved only tidy.
    in-turn renames (module_items 0 merged) editable resolved only (one_plain (module_fit 0 merged)) tidy after at_once

-- ---- read

-- What is put at a place.

module _ {A : Type 0} where
  pub found-there : (list : List (Option A)) (k : ℕ) (x : A) → found_at list k ≡ Some x →
      slice_get list k ≡ Some (Some x)
  found-there [] k x is = absurd (none-some x is)
  found-there (o ∷ list) zero x is = ap (λ y. Some y) is
  found-there (o ∷ list) (suc k) x is = found-there list k x is

  pub put-found : (list : List (Option A)) (n k : ℕ) (x y : A) →
      found_at (slice_set list n (Some x)) k ≡ Some y →
      ((n ≡ k) × (x ≡ y)) ⊎ (found_at list k ≡ Some y)
  put-found [] n k x y is = inr is
  put-found (o ∷ list) zero zero x y is = inl (refl, same_Some x y is)
  put-found (o ∷ list) zero (suc k) x y is = inr is
  put-found (o ∷ list) (suc n) zero x y is = inr is
  put-found (o ∷ list) (suc n) (suc k) x y is = elim (put-found list n k x y is) [
    | inl it ↦ inl (ap suc it.0, it.1)
    | inr it ↦ inr it
  ]

  pub put-kept : (list : List (Option A)) (n k : ℕ) (x : A) → IsSome (found_at list k) →
      IsSome (found_at (slice_set list n (Some x)) k)
  put-kept [] n k x there = there
  put-kept (o ∷ list) zero zero x there = refl
  put-kept (o ∷ list) zero (suc k) x there = there
  put-kept (o ∷ list) (suc n) zero x there = there
  put-kept (o ∷ list) (suc n) (suc k) x there = put-kept list n k x there

  pub put-there : (list : List (Option A)) (n : ℕ) (x : A) → n < length list →
      IsSome (found_at (slice_set list n (Some x)) n)
  put-there [] n x below = absurd (omega (arith, below))
  put-there (o ∷ list) zero x below = refl
  put-there (o ∷ list) (suc n) x below = put-there list n x (omega (arith, below))

-- What is made of what may be there.

module _ {A B : Type 0} (f : A → B) where
  pub mapped-back : (o : Option A) (y : B) → option_map f o ≡ Some y →
      (x : A) × (o ≡ Some x) × (y ≡ f x)
  mapped-back None y is = absurd (none-some y is)
  mapped-back (Some x) y is = (x, refl, sym (same_Some (f x) y is))

  pub mapped-there : (o : Option A) → IsSome o → IsSome (option_map f o)
  mapped-there None there = there
  mapped-there (Some x) there = there

  pub mapped-from : (o : Option A) → IsSome (option_map f o) → IsSome o
  mapped-from None there = there
  mapped-from (Some x) there = there

-- Answers in turn.

taken-more : {A : Type 0} (list : List A) (i : ℕ) (x y : A) → slice_get list i ≡ Some x →
    Contains (take (i + 1) list) y → Contains (take i list) y ⊎ (x ≡ y)
taken-more list i x y at there =
    elim (Contains-append_cases (take i list) (x ∷ []) y
    (subst (λ l. Contains l y) more there)) [
      | inl before ↦ inl before
      | inr (zero, below, e) ↦ inr e
      | inr (suc k, below, e) ↦ absurd (omega (arith, below))
    ]
  where
    more : take (i + 1) list ≡ take i list ++ x ∷ []
    more = take_more list i x (slice_get_within list i x at)
        ∙ ap (λ y. take i list ++ y ∷ []) (get_or_from_slice_get list i x x at)

-- the answers before place i were read, and stand at the numbers of their modules, of which there are
-- so many
pub record AreReadSoFar (answers : List Answer_read) (count i : ℕ)
    (metas : List (Option ReadMeta)) : Type 0 where
  pub long : length metas ≡ count
  pub read : AreRead metas
  pub of : AreOfAnswers answers (answers_in metas)
  pub all : (answer : Answer_read) → Contains (take i answers) answer → answer.which < count →
      IsSome (answers_in metas answer.which)

-- one more is read, and put at the number of its module
pub read-more : (answers : List Answer_read) (count i : ℕ) (metas : List (Option ReadMeta))
    (answer : Answer_read) (meta : ReadMeta) → slice_get answers i ≡ Some answer →
    IsMetaRead answer.properties.items meta → AreReadSoFar answers count i metas →
    AreReadSoFar answers count (i + 1) (slice_set metas answer.which (Some meta))
read-more answers count i metas answer meta at is its = record {
  long = length-set metas answer.which (Some meta) ∙ its.long;
  read = λ k other there.
      elim (put-found metas answer.which k meta other (ap (λ o. unwrap_or o None) there)) [
        | inl same ↦
            subst (λ (it : ReadMeta). IsMetaRead it.properties.now it) same.1
            (subst (λ given. IsMetaRead given meta) (sym is.properties) is)
        | inr was ↦ its.read k other (found-there metas k other was)
      ];
  of = λ k properties there.
      let it = mapped-back keeps (found_at after k) properties there in
      elim (put-found metas answer.which k meta it.0 it.1) [
        | inl same ↦ (
          answer,
          held answers answer i at,
          same.0,
          it.2 ∙ ap keeps (sym same.1) ∙ ap kept_properties is.properties,
        )
        | inr was ↦ its.of k properties (ap (option_map keeps) was ∙ ap (λ y. Some y) (sym it.2))
      ];
  all = λ other there below.
      elim (taken-more answers i answer other at there) [
        | inl before ↦
            mapped-there keeps (found_at after other.which)
            (put-kept metas answer.which other.which meta
            (mapped-from keeps (found_at metas other.which) (its.all other before below)))
        | inr same ↦
            subst (λ (it : Answer_read). IsSome (answers_in after it.which)) same
            (mapped-there keeps (found_at after answer.which)
            (put-there metas answer.which meta
            (let few = its.long in
            let low : answer.which < count =
            subst (λ (it : Answer_read). it.which < count) (sym same) below in
            omega (arith, low, few))))
      ];
}
  where
    keeps : ReadMeta → List Item
    keeps it = kept_properties it.properties.now

    after : List (Option ReadMeta)
    after = slice_set metas answer.which (Some meta)

-- all were
pub read-all : (answers : List Answer_read) (count i : ℕ) (metas : List (Option ReadMeta)) →
    length answers ≤ i → AreReadSoFar answers count i metas → (answer : Answer_read) →
    Contains answers answer → answer.which < count →
    IsSome (answers_in metas answer.which)
read-all answers count i metas past its answer there below =
    its.all answer (subst (λ l. Contains l answer) (sym (take_all i answers past)) there) below

-- the element at a place
pub at-index : {A : Type 0} (list : List A) (i : ℕ) (x : A) → i < length list →
    x ≡ get_or list i x → slice_get list i ≡ Some x
at-index list i x below is = slice_get-get_or list i x below ∙ ap (λ y. Some y) (sym is)
