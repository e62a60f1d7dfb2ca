-- Symbols and contexts of the labels of a bundle, and that none of its bindings has the context of
-- globals.
-- Where an item stands in the module that is put together of all, and that the bindings inside a
-- part of it are called there as by itself.
-- The bindings of a bundle are called right.
use Rattle.std.proofs.Common.{◌≡◌, ◌≢◌, ◌==◌, ◌&&◌, ℕ, true, false, cond, List, Option, Some, None, refl, ap, sym, ◌∙◌, subst, arith, eqb-true, option_map, append_assoc, ◌+◌, zero, suc, Bool, not, [], ◌∷◌, ◌++◌, filter, map, take, drop, length, ap₂}
use Rattle.std.specs.Prelude.{Contains, slice_get, bytes_eq, fold}
use Rattle.std.proofs.lemmas.Bool.{false≢true, and_parts}
use Rattle.std.proofs.lemmas.Slice.Eq.{bytes_eq-Decides}
use Rattle.std.specs.List.{AllZip}
use Rattle.std.proofs.lemmas.Option.{none-some, same_Some}
use Rattle.std.proofs.lemmas.List.{length-append}
use Rattle.bundle_syntax.specs.Item as in_item
use Rattle.bundle_syntax.specs.Item.{Item}
use Rattle.bundle_rules.specs.Places.{Occurrence, occurrences, is_binding, Spot, past, occurrences_from}
use Rattle.bundle_rules.proofs.PlacesLemmas.{occurrences-at, occurrence_at-listed}
use Rattle.bundle_rules.specs.Scopes.{Es, Scope, Top, scopes_around, Cjs}
use Rattle.bundle_rules.specs.Declarations.{ByContext, name_of, names_agree, Declared, declared_by, declaration_of, way_of}
use Rattle.bundle_rules.specs.Homes.{is_declared_in, home_of}
use Rattle.bundle_rules.specs.Denotes.{Denoted, Bound, has_identifier, is_written_in, own_or_found, denoted_by_context, Global, IsResolved}
use Rattle.bundle_rules.specs.Parts.{tree_of_items}
use Rattle.bundle_rules.specs.Idents.{Ident, ident_of}
use Rattle.bundle_rules.specs.Nodes.{Text, side_by_side}
use Rattle.bundle_rules.specs.Program.{Program, tree_of, IsReached}
use Rattle.bundle_rules.specs.Linking.{Declared as IsDeclared, Namespace, External, CommonJs}
use Rattle.bundle_rules.specs.Meaning.{Label, Of, Parameter, Load, Meta, Helper, Meant, Known, is_inside, Labelling, own_view}
use Rattle.bundle_rules.specs.Symbols.{symbol_of_label, denoted_symbol, inner_symbols, item_symbols, CalledAlike, AreCalled}
use Rattle.bundle_rules.specs.Bundle.{Cause, Hooks, Own, Defines, Helps, HoldsMeta, AsModule, ItemMeans, Labelled, labelled, StandsFor, IsLoadFunction}
use Rattle.bundle_rules.specs.Merged.{BindsOwn}
use Rattle.bundle_rules.specs.Mentions.{same_context, same_denoted, each_denoted_once}
use Rattle.bundle_rules.specs.Sorting.{flat}
use Rattle.bundle_rules.specs.Statements.{TopItem, placed, taken_from, top_items, Element, own_statements}
use Rattle.bundle_rules.specs.Injected.{load_front}
use Rattle.bundle_rules.proofs.LoadLemmas.{inside_is}
use Rattle.bundle_scope_names.proofs.HomesLemmas.{list_any-found}
use Rattle.bundle_link_index.proofs.ProgramLemmas.{got_there as at-contains}
use Rattle.bundle_link.proofs.NumberedModuleLemmas.{zip_at as zip-at}
use Rattle.bundle_merge_theory.specs.joined.Joined.{joined_items, AllOf, IsWholeItem, moved_declared, moved_occurrence, offset, own_declared, is_global_written, moved_denoted}
use Rattle.bundle_merge_theory.specs.joined.Notes.{its_name, own_denoted, is_inner_name, IsListedIn}
use Rattle.bundle_merge_theory.specs.grouped.Renaming.{HasWays}
use Rattle.bundle_merge_theory.proofs.joined.Bindings.{bound-global}
use Rattle.bundle_merge_theory.proofs.joined.Declarations.{IsNamed as HasNames, declared-item, declaration-moved, occurrence-of-item, occurrence-in-whole, split-at}
use Rattle.bundle_merge_theory.proofs.joined.Notes.{Viewed, written, implicit, unbound, viewed, own-top, free-own}
use Rattle.bundle_merge_theory.specs.loaded.Contexts as entry
use Rattle.bundle_merge_theory.specs.loaded.Contexts.{OwnEntry}
use Rattle.bundle_merge_theory.proofs.loaded.Noted.{picked}
use Rattle.bundle_merge_theory.proofs.joined.Paths.{all-front, all-back, inside, AreMoved, moved-start, at-item, item-occurrences, flat-append, moved-past, occurrences-append, fold-place, same-moved}
use Rattle.bundle_merge_theory.specs.noted.Agrees.{IsSpotAt}
use Rattle.bundle_merge_theory.proofs.walked.NameLemmas.{elements_denote}
use Rattle.bundle_merge_theory.specs.walked.Renaming.{ItemMeaning}
use Rattle.bundle_merge_theory.specs.joined.Picked.{IsSingle}
use Rattle.bundle_merge_theory.proofs.joined.Theorem.{top_items-joined}
use Rattle.bundle_merge_theory.proofs.noted.Spots.{at-behind, at-as}
use Rattle.bundle_merge_theory.specs.composed.Names.{LabelTable, HasModuleContexts, IsCalledAsLabels, told_inside, NameNoted, labels_in, StatementNamed, StatementsNamed, ItemNoted}
use Rattle.bundle_merge_theory.proofs.composed.Becomings.{declared-name, outer-called, Moves, beside, in_turn, in_whole, merged_agrees}
use Rattle.bundle_merge_theory.specs.made.Given.{HookAnswer, BundleContexts, TopOf, numbers_in, ident_of_label}
use Rattle.bundle_merge_theory.specs.made.Alone
use Rattle.bundle_merge_theory.specs.made.Alone.{IsTopLabel, NameAlone, symbols_inside, CalledAlone, StatementsCalled, symbols_whole, symbols_answered}
use Rattle.bundle_merge_theory.specs.together.Together.{AreMergedTogether}
use Rattle.bundle_merge_theory.specs.together.Table.{table_of, HasItemNotes, IsAloneAs, AllAloneAs}
use Rattle.bundle_merge_theory.proofs.together.Tables.{HoldsLabel, by_module, by_name, holds, label-above, IsOwnName, inside-own, function-own, one-not-top, EntryKind, of_label, of_own, IsEntry, entry-from, entry-kind, entry-listed, all-noted}
use Rattle.bundle_merge_theory.proofs.together.Statements.{StandsAt, of-item, of-due}
use Rattle.bundle_merge_theory.proofs.together.Apart.{named-of, all-named}
use Rattle.bundle_merge_theory.proofs.together.Facts.{whole-items, all-single, noted-bundle, whole-resolved}
use Rattle.bundle_merge_theory.proofs.laid.Ready.{item-ways}
use Rattle.bundle_merge_theory.specs.composed.Noted.{view_of, NotedItem, AsWhole, AsFunction, function_ends, IsNotedFor, as_whole, as_function, pairing_of}
use Rattle.bundle_merge_theory.proofs.composed.Among.{all-in}
use Rattle.bundle_merge_theory.proofs.composed.Unique.{beside-flat, told_means}
use Rattle.bundle_merge_theory.proofs.composed.Naming.{all-made}

-- ---- contexts

-- Symbols.

label-symbol : (p : Program) (list : List ℕ) (context : BundleContexts) (l : Label) →
    (ident_of_label p list context l).0 ≡ symbol_of_label p list l
label-symbol p list context (Of (IsDeclared m x)) = refl
label-symbol p list context (Of (Namespace m)) = refl
label-symbol p list context (Of (External s taken)) = refl
label-symbol p list context (Of (CommonJs m c taken)) = refl
label-symbol p list context (Parameter c x) = refl
label-symbol p list context (Load c) = refl
label-symbol p list context (Meta m) = refl
label-symbol p list context Helper = refl

entry-symbol : (p : Program) (list : List ℕ) (context : BundleContexts) (c : ℕ) (tree : List Item)
    {i : Ident} {l : Label} → OwnEntry c (numbers_in context c) tree i l →
    i.0 ≡ symbol_of_label p list l
entry-symbol p list context c tree (entry.top_entry i m at) = refl
entry-symbol p list context c tree (entry.wrapper_entry i m at) = refl
entry-symbol p list context c tree (entry.parameter_entry x which) = refl

kind-symbol : (p : Program) (list : List ℕ) (context : BundleContexts) {i : Ident} {l : Label} →
    EntryKind p list context i l → i.0 ≡ symbol_of_label p list l
kind-symbol p list context {l = l} (of_label top same) =
    ap (λ (i : Ident). i.0) same ∙ label-symbol p list context l
kind-symbol p list context (of_own c reached is its) =
    entry-symbol p list context c (tree_of p c) its

-- Contexts.

-- what has such a label has the context of the module's top
kind-context : (p : Program) (list : List ℕ) (context : BundleContexts) {i : Ident} {l : Label} →
    EntryKind p list context i l → (m : ℕ) (x : Text) → l ≡ Of (IsDeclared m x) →
    IsReached p m × (i.1 ≡ context (TopOf m))
kind-context p list context {i = i} {l = l} (of_label top same) m x e =
    by (holds p l top).1 e (ap (λ (i : Ident). i.1) (same ∙ ap (ident_of_label p list context) e))
  where
    by : {k : Label} {h : _} → HoldsLabel p k h → k ≡ Of (IsDeclared m x) →
        i.1 ≡ context (TopOf m) → IsReached p m × (i.1 ≡ context (TopOf m))
    by (by_module {m = n} reached es) same_label its =
        let same : n ≡ m = cc in (subst (IsReached p) same reached, its)
    by (by_name cause due (Alone.imports_name meant)) same_label its = absurd cc
    by (by_name cause due Alone.imports_whole) same_label its = absurd cc
    by (by_name cause due Alone.helps) same_label its = absurd cc
    by (by_name cause due Alone.defines) same_label its = absurd cc
    by (by_name cause due (Alone.loads meant)) same_label its = absurd cc
    by (by_name cause due Alone.holds_meta) same_label its = absurd cc
    by (by_name cause due Alone.holds_namespace) same_label its = absurd cc
kind-context p list context (of_own c reached is (entry.top_entry i k at)) m x e =
    let same : c ≡ m = cc in
    subst (λ n. IsReached p n × (context (TopOf c) ≡ context (TopOf n))) same (reached, refl)
kind-context p list context (of_own c reached is (entry.wrapper_entry i k at)) m x e = absurd cc
kind-context p list context (of_own c reached is (entry.parameter_entry y which)) m x e = absurd cc

-- Declarations.

-- an identifier of an item declares a name
pub record Declares (item : List Item) (i : Ident) : Type 0 where
  pub o : Occurrence
  pub listed : IsListedIn item o
  pub d : Declared
  pub is : declaration_of ByContext Es o ≡ Some d
  pub same : ident_of o ≡ i

pub declared-by : (item : List Item) → HasNames item → (scope : Scope) (x : Text) (c : ℕ) →
    is_written_in (own_declared item) scope (name_of ByContext x c) ≡ true → Declares item (x, c)
declared-by item named scope x c is =
    let found = list_any-found
    (λ d. has_identifier d && is_declared_in (own_declared item) scope (name_of ByContext x c) d)
    (own_declared item) is in
    let from = picked (declaration_of ByContext Es) (occurrences (tree_of_items item)) found.0
    found.1 (ap (λ ds. slice_get ds found.0) (sym (declared-item item named)) ∙ found.2) in
    let parts = and_parts (has_identifier found.1)
    (is_declared_in (own_declared item) scope (name_of ByContext x c) found.1) found.3 in
    let agrees = (and_parts _ (names_agree found.1.name (name_of ByContext x c)) parts.1).1 in
    let name : found.1.name ≡ its_name from.1 = declared-name from.1 found.1 from.3 in
    let both : names_agree (its_name from.1) (name_of ByContext x c) ≡ true =
    ap (λ n. names_agree n (name_of ByContext x c)) (sym name) ∙ agrees in
    let idents = and_parts (bytes_eq from.1.sym x) (from.1.ctxt == c) both in
    record {
      o = from.1;
      listed = (from.0, from.2);
      d = found.1;
      is = from.3;
      same = λ i. ((bytes_eq-Decides from.1.sym x).0 idents.0 i, eqb-true from.1.ctxt c idents.1 i);
    }

-- what an identifier declares in the whole
pub declared-whole : (items : List (List Item)) → AllOf IsWholeItem items → (m : ℕ) (item : List Item) →
    slice_get items m ≡ Some item → (i : Ident) → Declares item i →
    (o : Occurrence) × (d : Declared) × Contains (occurrences (joined_items items)) o
    × (ident_of o ≡ i) × (declaration_of ByContext Es o ≡ Some d)
declared-whole items whole m item at i its =
    let there = occurrence-in-whole items whole m item its.listed.0 its.o at its.listed.1 in
    let listed =
    occurrence_at-listed (joined_items items) there.0 (moved_occurrence (offset items m) its.o)
    there.1 in (
      moved_occurrence (offset items m) its.o,
      moved_declared (offset items m) its.d,
      at-contains (occurrences (joined_items items)) listed.0 (moved_occurrence (offset items m) its.o)
          listed.1,
      its.same,
      declaration-moved (offset items m) its.o
          ∙ ap (option_map (moved_declared (offset items m))) its.is,
    )

-- what is written denotes what its identifier declares somewhere
written-declares : (item : List Item) → HasNames item → (o : Occurrence) → {d : Denoted} →
    Viewed item o d → is_global_written d ≡ true → Declares item (ident_of o)
written-declares item named o (written scope at is) has =
    declared-by item named scope o.sym o.ctxt is
written-declares item named o (implicit scope at other fun) has = absurd (false≢true has)
written-declares item named o unbound has = absurd (false≢true has)

module _ (p : Program) (hooks : Hooks) (list : List ℕ) (context : BundleContexts)
    (answers : ℕ → Option HookAnswer) (plan : List Cause) (items : List (List Item))
    (its : AreMergedTogether p hooks list context answers plan items)
    (notes : HasItemNotes p hooks list context answers plan items) where
  abbrev table : LabelTable
  table = table_of items notes.noted

  entry-of : (e : Ident × Label) → Contains table e →
      IsEntry p hooks list context answers plan items e
  entry-of e c = entry-from p hooks list context answers plan items notes.noted notes.each e c

  -- CALLED as the labels
  pub called-labels : IsCalledAsLabels (λ x. x) p list table
  called-labels i l c =
      kind-symbol p list context
      (entry-kind p hooks list context answers plan items its (i, l) (entry-of (i, l) c))

  label-declared : (l : Label) → IsTopLabel p l →
      (o : Occurrence) × (d : Declared) × Contains (occurrences (joined_items items)) o
      × (ident_of o ≡ ident_of_label p list context l) × (declaration_of ByContext Es o ≡ Some d)
  label-declared l top =
      let here = of-due p hooks list context answers plan items its top.cause top.due in
      declared-whole items (whole-items p hooks list context answers plan items its notes) here.0
      here.1 here.2.item_there (ident_of_label p list context l)
      (declared-by here.1 here.2.alone.named Top (ident_of_label p list context l).0
      (ident_of_label p list context l).1 (here.2.alone.declares l top.declares))

  -- a declared name of a CommonJS module is declared in its load function
  own-declared : (e : Ident × Label) → IsEntry p hooks list context answers plan items e → (m : ℕ)
      (x : Text) → e.1 ≡ Of (IsDeclared m x) →
      (o : Occurrence) × (d : Declared) × Contains (occurrences (joined_items items)) o
      × (ident_of o ≡ e.0) × (declaration_of ByContext Es o ≡ Some d)
  own-declared e is m x label = by is.from.is.alone
    where
      by : {begins : ℕ} {all : List Denoted} →
          NameAlone p list context answers is.cause is.item begins all is.from.o
          (Known e.1) →
          (o : Occurrence) × (d : Declared) × Contains (occurrences (joined_items items)) o
          × (ident_of o ≡ e.0) × (declaration_of ByContext Es o ≡ Some d)
      by (Alone.of_top not_inner never top same) =
          let there = label-declared e.1 top in
          (there.0, there.1, there.2, there.3 ∙ sym same ∙ is.from.same, there.4)
      by (Alone.of_function function out inside declares its_entry) =
          let there = declared-whole items
          (whole-items p hooks list context answers plan items its notes) is.m is.item
          is.item_there (ident_of is.from.o)
          (written-declares is.item is.alone.named is.from.o
          (viewed is.item is.alone.named is.from.o
          (entry-listed p hooks list context answers plan items its e is))
          (declares m x label)) in
          (there.0, there.1, there.2, there.3 ∙ is.from.same, there.4)

  -- CONTEXTS of modules
  pub module-contexts : (local : ℕ → ℕ) →
      ((m : ℕ) → IsReached p m → context (TopOf m) ≡ local m) →
      HasModuleContexts local (joined_items items) table
  module-contexts local locals = record {
    contexts = λ i m x c.
        let both = kind-context p list context
        (entry-kind p hooks list context answers plan items its (i, Of (IsDeclared m x))
        (entry-of (i, Of (IsDeclared m x)) c)) m x refl in
        both.1 ∙ locals m both.0;
    declared = λ i m x c.
        own-declared (i, Of (IsDeclared m x)) (entry-of (i, Of (IsDeclared m x)) c) m x refl;
  }

  -- BINDINGS have no context of globals

  own-above : (cause : Cause) (o : Occurrence) → IsOwnName p answers context cause o → o.ctxt ≢ 1
  own-above cause o own e =
      let above = its.apart.own own.holder own.is in
      let same : 1 ≡ context own.holder = sym e ∙ own.its in
      omega (arith, above, same)

  free-never : (m : ℕ) (item : List Item) → slice_get items m ≡ Some item → HasNames item →
      HasWays (tree_of_items item) → (o : Occurrence) → IsListedIn item o →
      is_binding o.role ≡ true → o.ctxt ≡ 1 →
      is_inner_name (own_declared item) (its_name o) ≡ false → ⊥
  free-never m item at named ways o listed binds e not_inner =
      let way = ways.way listed.0 o listed.1 binds in
      let d : Declared = record {
        place = o.place;
        name = its_name o;
        by = way.0;
        scopes = scopes_around Es o.path;
      } in
      let declares : declaration_of ByContext Es o ≡ Some d =
      ap (λ b. cond b (declared_by o.place (its_name o) (scopes_around Es o.path) (way_of o.path))
      None) binds
      ∙ ap (declared_by o.place (its_name o) (scopes_around Es o.path)) way.1 in
      let bound : own_denoted item o ≡ Bound (home_of (own_declared item) d) (its_name o) =
      ap (own_or_found (own_declared item)
      (denoted_by_context (own_declared item) (scopes_around Es o.path) (its_name o))) declares in
      bound-global (sym bound
      ∙ free-own item o (viewed item named o listed) e not_inner
      (own-top items m item (its_name o) at
      (one-not-top p hooks list context answers plan items its o e)))

  item-binds : (m : ℕ) (cause : Cause) (item : List Item) →
      StandsAt p hooks list context answers plan items its m cause item →
      HasWays (tree_of_items item) → (o : Occurrence) → IsListedIn item o →
      is_binding o.role ≡ true → o.ctxt ≢ 1
  item-binds m cause item stands ways o listed binds e =
      let named = named-of p hooks list context answers plan items its m cause item stands o listed
      in
      by named.alone
    where
      by : {begins : ℕ} {all : List Denoted} {meant : Meant} →
          NameAlone p list context answers cause item begins all o meant → ⊥
      by (Alone.inside holder inner within found owns never is ctxt) =
          own-above cause o
          (inside-own p hooks list context answers plan items its cause stands.due item o holder
          owns never is ctxt) e
      by (Alone.of_top {l = l} not_inner never top same) =
          let above = label-above p list context answers its.apart l top in
          let context_one : 1 ≡ (ident_of_label p list context l).1 =
          sym e ∙ ap (λ (i : Ident). i.1) same in
          omega (arith, above, context_one)
      by (Alone.of_function {c = c} {l = l} is out inside declares its_entry) =
          own-above cause o
          (function-own p hooks list context answers plan items its cause stands.due item o c l is
          its_entry) e
      by (Alone.free is_one not_inner arguments) =
          free-never m item stands.item_there stands.alone.named ways o listed binds e not_inner

  pub binds-own : BindsOwn (joined_items items)
  binds-own n o at binds e =
      let of = occurrence-of-item items
      (whole-items p hooks list context answers plan items its notes) o.place o
      (occurrences-at (joined_items items) n o at) in
      let stands = of-item p hooks list context answers plan items its of.m of.item of.there in
      item-binds of.m stands.0 of.item stands.1 (item-ways of.item stands.1.alone.fit) of.o
      (of.j, of.at) (sym (ap (λ (a : Occurrence). is_binding a.role) of.is) ∙ binds)
      (sym (ap (λ (a : Occurrence). a.ctxt) of.is) ∙ e)

-- ---- seats

-- Lists that have moved.

same_denoted-moved : (k : ℕ) (d e : Denoted) →
    same_denoted (moved_denoted k d) (moved_denoted k e) ≡ same_denoted d e
same_denoted-moved k (Bound scope name) (Bound other its) =
    ap (λ b. b && bytes_eq name.sym its.sym && same_context name.ctxt its.ctxt)
    (same-moved k scope other)
same_denoted-moved k (Bound scope name) (Global x) = refl
same_denoted-moved k (Global x) (Bound scope name) = refl
same_denoted-moved k (Global x) (Global y) = refl

filter-moved : (k : ℕ) (p q : Denoted → Bool) → ((d : Denoted) → q (moved_denoted k d) ≡ p d) →
    (xs : List Denoted) → filter q (map (moved_denoted k) xs) ≡ map (moved_denoted k) (filter p xs)
filter-moved k p q same [] = refl
filter-moved k p q same (x ∷ xs) =
    ap (λ b. cond b (moved_denoted k x ∷ filter q (map (moved_denoted k) xs))
    (filter q (map (moved_denoted k) xs))) (same x)
    ∙ by_first (p x) (filter-moved k p q same xs)
  where
    by_first : (b : Bool) →
        filter q (map (moved_denoted k) xs) ≡ map (moved_denoted k) (filter p xs) →
        cond b (moved_denoted k x ∷ filter q (map (moved_denoted k) xs))
        (filter q (map (moved_denoted k) xs))
        ≡ map (moved_denoted k) (cond b (x ∷ filter p xs) (filter p xs))
    by_first true ih = ap (λ rest. moved_denoted k x ∷ rest) ih
    by_first false ih = ih

once-moved : (k : ℕ) (xs : List Denoted) →
    each_denoted_once (map (moved_denoted k) xs) ≡ map (moved_denoted k) (each_denoted_once xs)
once-moved k [] = refl
once-moved k (x ∷ xs) =
    ap (λ rest. moved_denoted k x
    ∷ filter (λ other. not (same_denoted (moved_denoted k x) other)) rest) (once-moved k xs)
    ∙ ap (λ rest. moved_denoted k x ∷ rest)
    (filter-moved k (λ other. not (same_denoted x other))
    (λ other. not (same_denoted (moved_denoted k x) other))
    (λ d. ap not (same_denoted-moved k x d)) (each_denoted_once xs))

-- what has moved keeps its symbol
symbol-moved : (k : ℕ) (d : Denoted) → denoted_symbol (moved_denoted k d) ≡ denoted_symbol d
symbol-moved k (Bound scope name) = refl
symbol-moved k (Global x) = refl

symbols-moved : (k : ℕ) (xs : List Denoted) →
    map denoted_symbol (map (moved_denoted k) xs) ≡ map denoted_symbol xs
symbols-moved k [] = refl
symbols-moved k (x ∷ xs) = (λ i. symbol-moved k x i ∷ symbols-moved k xs i)

all-moved : (k : ℕ) (xs ys : List Denoted) → AllZip (Moves k) xs ys →
    ys ≡ map (moved_denoted k) xs
all-moved k [] [] all = refl
all-moved k [] (y ∷ ys) all = absurd all
all-moved k (x ∷ xs) [] all = absurd all
all-moved k (x ∷ xs) (y ∷ ys) all = (λ i. all.0 i ∷ all-moved k xs ys all.1 i)

-- Seats.

-- where an item stands in the whole
pub record Seat (items : List (List Item)) (m : ℕ) (item : List Item) : Type 0 where
  pub spot : Spot
  pub moves : AreMoved (offset items m) inside spot
  pub tail : List Item
  pub at : IsSpotAt (joined_items items) spot (item ++ tail)

pub seat : (items : List (List Item)) → AllOf IsWholeItem items → (m : ℕ) (item : List Item) →
    slice_get items m ≡ Some item → Seat items m item
seat items whole m item there = record {
  spot = fold past inside (flat before);
  moves =
      moved-start (length (flat before)) (fold past inside (flat before))
      (at-item before
      (all-front IsWholeItem before (item ∷ after)
      (subst (AllOf IsWholeItem) (sym (split-at items m item there)) whole)));
  tail = flat after ++ in_item.Close ∷ [];
  at = record {
    front = in_item.Open 0 in_item.Module ∷ flat before;
    tree_is =
        ap (λ l. in_item.Open 0 in_item.Module ∷ l)
        (ap (λ its. flat its ++ in_item.Close ∷ []) (sym (split-at items m item there))
        ∙ ap (λ l. l ++ in_item.Close ∷ []) (flat-append before (item ∷ after))
        ∙ append_assoc (flat before) (item ++ flat after) (in_item.Close ∷ [])
        ∙ ap (λ l. flat before ++ l) (append_assoc item (flat after) (in_item.Close ∷ [])));
    spot_is = refl;
  };
}
  where
    before : List (List Item)
    before = take m items

    after : List (List Item)
    after = drop (suc m) items

-- a placed item
pub placed-get : (n : ℕ) (items : List (List Item)) (m : ℕ) (top : TopItem) →
    slice_get (placed n items) m ≡ Some top →
    (slice_get items m ≡ Some top.items) × (top.start ≡ n + offset items m)
placed-get n [] m top e = absurd (none-some top e)
placed-get n (x ∷ items) zero top e = (
  ap (λ (t : TopItem). Some t.items) (same_Some _ top e),
  let first : n ≡ top.start = ap (λ (t : TopItem). t.start) (same_Some _ top e) in
      omega (arith, first),
)
placed-get n (x ∷ items) (suc m) top e =
    let rest = placed-get (n + length x) items m top e in (
      rest.0,
      let begins = rest.1 in
          let both = length-append x (flat (take m items)) in omega (arith, begins, both),
    )

pub all-listed : (item : List Item) → AllOf (IsListedIn item) (occurrences_from inside item)
all-listed item =
    subst (AllOf (IsListedIn item)) (item-occurrences item)
    (all-in (IsListedIn item) (occurrences (tree_of_items item)) (λ i o there. (i, there)))

module _ (items : List (List Item)) (table : LabelTable) (whole : AllOf IsWholeItem items)
    (named : AllOf HasNames items) (resolved : IsResolved Es (joined_items items)) (m : ℕ)
    (item : List Item) (at : slice_get items m ≡ Some item) where
  -- CALLED as by itself
  pub part-symbols : (a b : Spot) → AreMoved (offset items m) a b → (part tail : List Item) →
      IsSpotAt (joined_items items) b (part ++ tail) → AllOf (IsListedIn item) (occurrences_from a part) →
      (its : List Denoted) (told : ItemMeaning) →
      AllZip (NameNoted items table item a.place its) (occurrences_from a part) told.0 →
      inner_symbols (view_of ByContext items) b.place (taken_from b.place part)
      ≡ symbols_inside item a part told
  part-symbols a b moves part tail there listed its told noted =
      ap (λ l. map denoted_symbol (each_denoted_once (filter (is_inside b.place) l)))
      (elements_denote (view_of ByContext items) b part tail there
      ∙ in_turn items table whole named resolved m item at a b moves part)
      ∙ ap (λ n. map denoted_symbol (each_denoted_once (filter (is_inside n)
      (map (in_whole items table whole named resolved m item at) (occurrences_from a part)))))
      moves.place
      ∙ ap (λ l. map denoted_symbol (each_denoted_once l))
      (all-moved (offset items m)
      (told_inside (map (own_denoted item) (occurrences_from a part)) told.0)
      (filter (is_inside (a.place + offset items m))
      (map (in_whole items table whole named resolved m item at) (occurrences_from a part)))
      (beside items table whole named resolved m item at a.place its (occurrences_from a part)
      listed told.0 noted))
      ∙ ap (map denoted_symbol)
      (once-moved (offset items m)
      (told_inside (map (own_denoted item) (occurrences_from a part)) told.0))
      ∙ symbols-moved (offset items m)
      (each_denoted_once
      (told_inside (map (own_denoted item) (occurrences_from a part)) told.0))

-- ---- called

-- spelled as they are
pub spelled-same : (xs : List Text) → map (λ x. x) xs ≡ xs
spelled-same [] = refl
spelled-same (x ∷ xs) = ap (λ l. x ∷ l) (spelled-same xs)

moved-fold : (k : ℕ) (a b : Spot) → AreMoved k a b → (xs : List Item) →
    AreMoved k (fold past a xs) (fold past b xs)
moved-fold k a b m [] = m
moved-fold k a b m (x ∷ xs) = moved-fold k (past a x) (past b x) (moved-past k a b m x) xs

-- what is told of the item of this number
record NotedAt (p : Program) (hooks : Hooks) (list : List ℕ) (context : BundleContexts)
    (answers : ℕ → Option HookAnswer) (noted : List NotedItem) (m : ℕ) (cause : Cause)
    (item : List Item) : Type 0 where
  one : NotedItem
  there : slice_get noted m ≡ Some one
  alone : IsAloneAs p hooks list context answers cause item one

noted-at : (p : Program) (hooks : Hooks) (list : List ℕ) (context : BundleContexts)
    (answers : ℕ → Option HookAnswer) (plan : List Cause) (items : List (List Item))
    (noted : List NotedItem) → AllAloneAs p hooks list context answers plan items noted → (m : ℕ)
    (cause : Cause) (item : List Item) → slice_get plan m ≡ Some cause →
    slice_get items m ≡ Some item → NotedAt p hooks list context answers noted m cause item
noted-at p hooks list context answers [] items noted each m cause item at there =
    absurd (none-some cause at)
noted-at p hooks list context answers (first ∷ plan) [] noted each m cause item at there =
    absurd (none-some item there)
noted-at p hooks list context answers (first ∷ plan) (x ∷ items) [] each m cause item at there =
    absurd each
noted-at p hooks list context answers (first ∷ plan) (x ∷ items) (one ∷ noted) each zero cause
    item at there = record {
      one = one;
      there = refl;
      alone =
          subst (λ k. IsAloneAs p hooks list context answers k item one) (same_Some first cause at)
          (subst (λ y. IsAloneAs p hooks list context answers first y one) (same_Some x item there)
          each.0);
    }
noted-at p hooks list context answers (first ∷ plan) (x ∷ items) (one ∷ noted) each (suc m) cause
    item at there =
    let rest = noted-at p hooks list context answers plan items noted each.1 m cause item at there
    in
    record { one = rest.one; there = rest.there; alone = rest.alone }

-- only the function of a CommonJS module is told by its parts
whole-told : {p : Program} {hooks : Hooks} {item : List Item} {one : NotedItem} {cause : Cause} →
    IsNotedFor p hooks AsModule item one cause → ((c : ℕ) → cause ≡ Defines c → ⊥) →
    (told : ItemMeaning) × (one ≡ AsWhole told)
whole-told (as_whole {told = told} marked stand) never = (told, refl)
whole-told (as_function {c = c} nodes is plain states) never = absurd (never c refl)

-- a function as it is noted
record FunctionParts (p : Program) (c : ℕ) (item : List Item) (one : NotedItem) : Type 0 where
  front : List Item
  names : List _
  insides : List (List Item)
  tolds : List ItemMeaning
  is : item ≡ front ++ (flat insides ++ function_ends)
  long : length front ≡ length (load_front c)
  single : AllOf IsSingle insides
  noted : one ≡ AsFunction front names insides tolds

function-parts : {p : Program} {hooks : Hooks} {item : List Item} {one : NotedItem} {cause : Cause}
    {c : ℕ} → IsNotedFor p hooks AsModule item one cause → cause ≡ Defines c →
    CalledAlone p hooks (Defines c) item one → FunctionParts p c item one
function-parts (as_whole marked stand) same called = absurd called
function-parts {c = c} (as_function {c = d} {front = front} {names = names} {insides = insides}
    {tolds = tolds} nodes is plain states) same called =
    let modules : d ≡ c = cc in
    record {
      front = front;
      names = names;
      insides = insides;
      tolds = tolds;
      is = is;
      long = plain.long ∙ ap (λ n. length (load_front n)) modules;
      single = states.single;
      noted = refl;
    }

-- the items inside a function, however it is parted
insides-are : {p : Program} {b : Labelled} {c : ℕ} {item : TopItem} (f : IsLoadFunction p b c item)
    {one : NotedItem} (its : FunctionParts p c item.items one) →
    placed (item.start + length f.front) (side_by_side zero f.inside) ≡
    placed (item.start + length its.front) its.insides
insides-are {item = item} f its =
    ap₂ (λ (k : ℕ) (parts : List (List Item)). placed (item.start + k) parts)
    (f.front_length ∙ sym its.long)
    (ap (side_by_side zero)
    (inside_is f its.front (flat its.insides) function_ends its.is its.long refl)
    ∙ beside-flat its.insides its.single)

module _ (p : Program) (hooks : Hooks) (list : List ℕ) (context : BundleContexts)
    (answers : ℕ → Option HookAnswer) (plan : List Cause) (items : List (List Item))
    (its : AreMergedTogether p hooks list context answers plan items)
    (notes : HasItemNotes p hooks list context answers plan items) where
  abbrev table_called : LabelTable
  table_called = table_of items notes.noted

  abbrev labels : Labelling
  labels = labels_in (joined_items items) table_called

  abbrev bundle : Labelled
  bundle = labelled (joined_items items) ByContext (pairing_of labels items plan)

  resolved : IsResolved Es (joined_items items)
  resolved = whole-resolved p hooks list context answers plan items its notes

  -- a top item that stands for a cause
  record Found (cause : Cause) (top : TopItem) : Type 0 where
    m : ℕ
    there : slice_get items m ≡ Some top.items
    noted : NotedAt p hooks list context answers notes.noted m cause top.items
    listed : slice_get (top_items (joined_items items)) m ≡ Some top
    seats : Seat items m top.items
    place : seats.spot.place ≡ top.start
    names : ItemNoted items table_called top.items noted.one

  found : (cause : Cause) (top : TopItem) → StandsFor (pairing_of labels items plan) cause top →
      Found cause top
  found cause top stands =
      let got = placed-get 1 items stands.at top
      (sym (ap (λ l. slice_get l stands.at)
      (top_items-joined items (all-single p hooks list context answers plan items its)))
      ∙ stands.item_there) in
      let noted = noted-at p hooks list context answers plan items notes.noted notes.each stands.at
      cause top.items stands.cause_there got.0 in
      let its_seat = seat items (whole-items p hooks list context answers plan items its notes)
      stands.at top.items got.0 in
      record {
        m = stands.at;
        there = got.0;
        noted = noted;
        listed = stands.item_there;
        seats = its_seat;
        place = its_seat.moves.place ∙ sym got.1;
        names =
            zip-at (ItemNoted items table_called) items notes.noted
            (all-noted p hooks list context answers plan items its notes.noted notes.each)
            stands.at top.items noted.one got.0 noted.there;
      }

  called-alone : (cause : Cause) (top : TopItem) (f : Found cause top) →
      CalledAlone p hooks cause top.items f.noted.one
  called-alone cause top f =
      subst (λ one. CalledAlone p hooks cause top.items one) f.noted.alone.its
      f.noted.alone.alone.called

  noted-for-cause : (cause : Cause) (top : TopItem) (f : Found cause top) →
      IsNotedFor p hooks AsModule top.items f.noted.one cause
  noted-for-cause cause top f =
      subst (λ one. IsNotedFor p hooks AsModule top.items one cause) f.noted.alone.its
      f.noted.alone.alone.stands

  -- the bindings inside a part of an item
  part-called : (m : ℕ) (item : List Item) → slice_get items m ≡ Some item → (a b : Spot) →
      AreMoved (offset items m) a b → (part tail : List Item) →
      IsSpotAt (joined_items items) b (part ++ tail) → AllOf (IsListedIn item) (occurrences_from a part) →
      (told : ItemMeaning) → StatementNamed items table_called item a part told →
      item_symbols bundle (record { start = b.place; items = part }) ≡ symbols_inside item a part told
  part-called m item at a b moves part tail there listed told noted =
      part-symbols items table_called (whole-items p hooks list context answers plan items its notes)
      (all-named p hooks list context answers plan items its) resolved m item at a b moves part tail
      there listed _ told noted

  -- those inside an item that is told as a whole
  whole-called : (cause : Cause) (top : TopItem)
      (stands : StandsFor (pairing_of labels items plan) cause top) → ((c : ℕ) → cause ≡ Defines c → ⊥) →
      item_symbols bundle top ≡ symbols_whole top.items (found cause top stands).noted.one
  whole-called cause top stands never =
      let f = found cause top stands in
      let told = whole-told (noted-for-cause cause top f) never in
      ap (λ n. item_symbols bundle (record { start = n; items = top.items })) (sym f.place)
      ∙ part-called f.m top.items f.there inside f.seats.spot f.seats.moves top.items f.seats.tail
      f.seats.at (all-listed top.items) told.0
      (subst (λ one. ItemNoted items table_called top.items one) told.1 f.names)
      ∙ ap (symbols_whole top.items) (sym told.1)

  -- and those inside statements of a load function
  statements-called : (c m : ℕ) (item : List Item) → slice_get items m ≡ Some item → (a b : Spot) →
      AreMoved (offset items m) a b → (parts : List (List Item)) (tail : List Item) →
      IsSpotAt (joined_items items) b (flat parts ++ tail) →
      AllOf (IsListedIn item) (occurrences_from a (flat parts)) → (tolds : List ItemMeaning) →
      StatementsNamed items table_called item a parts tolds → (statements : List (List Element)) →
      StatementsCalled p c item a parts tolds statements →
      AllZip (CalledAlike (λ x. x) bundle (own_view p c Cjs)) (placed b.place parts) statements
  statements-called c m item at a b moves [] tail there listed [] noted [] called = tt
  statements-called c m item at a b moves [] tail there listed (told ∷ tolds) noted statements
      called =
      absurd noted
  statements-called c m item at a b moves [] tail there listed [] noted (statement ∷ statements)
      called =
      absurd called
  statements-called c m item at a b moves (part ∷ parts) tail there listed [] noted statements
      called =
      absurd noted
  statements-called c m item at a b moves (part ∷ parts) tail there listed (told ∷ tolds) noted []
      called =
      absurd called
  statements-called c m item at a b moves (part ∷ parts) tail there listed (told ∷ tolds) noted
      (statement ∷ statements) called =
      let both = subst (AllOf (IsListedIn item)) (occurrences-append a part (flat parts)) listed in
      let here : IsSpotAt (joined_items items) b (part ++ (flat parts ++ tail)) =
      at-as refl (append_assoc part (flat parts) tail) there in (
        part-called m item at a b moves part (flat parts ++ tail) here
            (all-front (IsListedIn item) (occurrences_from a part)
            (occurrences_from (fold past a part) (flat parts)) both) told noted.0
            ∙ called.0
            ∙ sym (spelled-same (inner_symbols (own_view p c Cjs) 0 statement)),
        subst
            (λ n. AllZip (CalledAlike (λ x. x) bundle (own_view p c Cjs)) (placed n parts)
            statements) (fold-place b part)
            (statements-called c m item at (fold past a part) (fold past b part)
            (moved-fold (offset items m) a b moves part) parts tail
            (at-behind part (flat parts ++ tail) here)
            (all-back (IsListedIn item) (occurrences_from a part)
            (occurrences_from (fold past a part) (flat parts)) both) tolds noted.1 statements
            called.1),
      )

  function-called : (c : ℕ) (top : TopItem) → StandsFor (pairing_of labels items plan) (Defines c)
      top → (f : IsLoadFunction p bundle c top) →
      AllZip (CalledAlike (λ x. x) bundle (own_view p c Cjs))
      (placed (top.start + length f.front) (side_by_side zero f.inside))
      (own_statements (tree_of p c))
  function-called c top stands load =
      let f = found (Defines c) top stands in
      let parts = function-parts (noted-for-cause (Defines c) top f) refl
      (called-alone (Defines c) top f) in
      by f parts
    where
      by : (f : Found (Defines c) top) (parts : FunctionParts p c top.items f.noted.one) →
          AllZip (CalledAlike (λ x. x) bundle (own_view p c Cjs))
          (placed (top.start + length load.front) (side_by_side zero load.inside))
          (own_statements (tree_of p c))
      by f parts =
          let names = subst (λ one. ItemNoted items table_called top.items one) parts.noted f.names in
          let called = subst (λ one. CalledAlone p hooks (Defines c) top.items one) parts.noted
          (called-alone (Defines c) top f) in
          let behind : Spot = fold past inside parts.front in
          let there : Spot = fold past f.seats.spot parts.front in
          let at_front : IsSpotAt (joined_items items) f.seats.spot
          (parts.front ++ ((flat parts.insides ++ function_ends) ++ f.seats.tail)) =
          at-as refl
          (ap (λ l. l ++ f.seats.tail) parts.is
          ∙ append_assoc parts.front (flat parts.insides ++ function_ends) f.seats.tail)
          f.seats.at in
          let at_inside : IsSpotAt (joined_items items) there
          (flat parts.insides ++ (function_ends ++ f.seats.tail)) =
          at-as refl (append_assoc (flat parts.insides) function_ends f.seats.tail)
          (at-behind parts.front ((flat parts.insides ++ function_ends) ++ f.seats.tail) at_front)
          in
          let one = subst (λ l. AllOf (IsListedIn top.items) (occurrences_from inside l)) parts.is
          (all-listed top.items) in
          let two = subst (AllOf (IsListedIn top.items))
          (occurrences-append inside parts.front (flat parts.insides ++ function_ends)) one in
          let three = all-back (IsListedIn top.items) (occurrences_from inside parts.front)
          (occurrences_from behind (flat parts.insides ++ function_ends)) two in
          let four = subst (AllOf (IsListedIn top.items))
          (occurrences-append behind (flat parts.insides) function_ends) three in
          subst
          (λ tops. AllZip (CalledAlike (λ x. x) bundle (own_view p c Cjs)) tops
          (own_statements (tree_of p c))) (sym (insides-are load parts))
          (subst
          (λ n. AllZip (CalledAlike (λ x. x) bundle (own_view p c Cjs)) (placed n parts.insides)
          (own_statements (tree_of p c)))
          (fold-place f.seats.spot parts.front ∙ ap (λ n. n + length parts.front) f.place)
          (statements-called c f.m top.items f.there behind there
          (moved-fold (offset items f.m) inside f.seats.spot f.seats.moves parts.front)
          parts.insides (function_ends ++ f.seats.tail) at_inside
          (all-front (IsListedIn top.items) (occurrences_from behind (flat parts.insides))
          (occurrences_from (fold past behind (flat parts.insides)) function_ends) four)
          parts.tolds names.1 (own_statements (tree_of p c)) called))

  -- what is told of an item as a whole, it means
  item-tells : (cause : Cause) (top : TopItem) (f : Found cause top) (told : ItemMeaning) →
      f.noted.one ≡ AsWhole told → ItemMeans bundle top told.1
  item-tells cause top f told is =
      let whole = whole-items p hooks list context answers plan items its notes in
      let named = all-named p hooks list context answers plan items its in
      let noted = noted-bundle p hooks list context answers plan items its notes in
      told_means p hooks ByContext labels items notes.noted plan noted
      (merged_agrees items table_called whole named resolved notes.noted
      (all-made p hooks AsModule items notes.noted plan noted.each)
      (all-noted p hooks list context answers plan items its notes.noted notes.each))
      f.m top told f.listed (f.noted.there ∙ ap (λ o. Some o) is)

  -- CALLED
  pub are-called : AreCalled (λ x. x) p hooks bundle (pairing_of labels items plan)
  are-called = record {
    list = list;
    is_list = its.sound.is_list;
    outer = λ scope name l c.
        outer-called (joined_items items) resolved table_called (λ x. x) p list
        (called-labels p hooks list context answers plan items its notes) scope name l c;
    own = λ m k top statement stands at.
        whole-called (Own m k) top stands (λ c e. absurd cc)
        ∙ called-alone (Own m k) top (found (Own m k) top stands) statement at
        ∙ sym (spelled-same (inner_symbols (own_view p m Es) 0 statement));
    common_js = λ c top f stands. function-called c top stands f;
    helper = λ top stands.
        whole-called Helps top stands (λ c e. absurd cc)
        ∙ called-alone Helps top (found Helps top stands);
    metas = λ m top stands.
        let f = found (HoldsMeta m) top stands in
        let told = whole-told (noted-for-cause (HoldsMeta m) top f) (λ c e. absurd cc) in
        let called =
        subst (λ one. CalledAlone p hooks (HoldsMeta m) top.items one) told.1
        (called-alone (HoldsMeta m) top f) in
        record {
          properties = called.0;
          held = called.2;
          marks = called.1;
          means = called.3;
          object =
              subst (λ l. ItemMeans bundle top l) called.4
              (item-tells (HoldsMeta m) top f told.0 told.1);
          alike =
              whole-called (HoldsMeta m) top stands (λ c e. absurd cc)
              ∙ ap (symbols_whole top.items) told.1
              ∙ called.5
              ∙ sym (spelled-same (symbols_answered called.0));
        };
  }
