-- Contexts and symbols of the labelled bindings of a module that is put together of items.
-- What is denoted in a tree is told apart by the order of its scopes.
-- A tree that is named by the naming rule denotes by symbol what corresponds to what the tree
-- before denotes by symbol and context.
-- The tree that is put together of items agrees with what is told of their names by identifiers.
use Rattle.std.proofs.Common.{◌≡◌, ℕ, Bool, true, false, cond, List, Option, Some, None, find, slice_get, option_map, refl, ap, sym, ◌∙◌, ◌&&◌, [], ◌∷◌, bytes_eq, subst, eqb-true, map, arith, ◌+◌, ◌++◌, append_assoc, append-nil, filter, take, length, ap₂}
use Rattle.std.specs.Prelude.{Contains, fold, nat_le, position}
use Rattle.std.proofs.lemmas.Option.{none-some, same_Some, slice_get-get_or}
use Rattle.std.proofs.lemmas.Bool.{false≢true, and_parts, leb-true, le-leb}
use Rattle.std.proofs.lemmas.Slice.Eq.{bytes_eq-Decides}
use Rattle.std.specs.List.{AllZip}
use Rattle.bundle_syntax.specs.Item.{Item}
use Rattle.bundle_rules.specs.Places.{Occurrence, occurrences, is_binding, start, Spot, past, occurrences_from}
use Rattle.bundle_rules.specs.Scopes.{Es, Scope, Inner, scopes_around, scope_order, same_scope, Wrapper, Top}
use Rattle.bundle_rules.specs.Declarations.{Way, ByContext, Name, Declared, declared, declared_by, declaration_of, way_of, Reading, BySymbol}
use Rattle.bundle_rules.specs.Homes.{home_of}
use Rattle.bundle_rules.specs.Denotes.{Denoted, Bound, Global, is_written_in, denoted_by_context, own_or_found, denoted_of, IsResolved, denotations}
use Rattle.bundle_rules.specs.Nodes.{Text}
use Rattle.bundle_rules.specs.Idents.{Ident, ident_of, idents}
use Rattle.bundle_rules.specs.Program.{Program}
use Rattle.bundle_rules.specs.Linking.{Declared as IsDeclared}
use Rattle.bundle_rules.specs.Meaning.{Of, Label, Meant, Known, Labelling, View, is_inside}
use Rattle.bundle_rules.specs.Bundle.{Cause, labelled}
use Rattle.bundle_rules.specs.Symbols.{denoted_symbol, symbol_of_label}
use Rattle.bundle_rules.specs.Merged.{HasContexts}
use Rattle.bundle_rules.specs.Mentions.{same_context, same_denoted, each_denoted_once}
use Rattle.bundle_rules.specs.Renaming.{symbol_after, Numbering, IsRenamed}
use Rattle.bundle_rules.specs.Cleared.{cleared, without_notes}
use Rattle.bundle_rules.specs.Rebuilds.{Change, changes_to, with_idents}
use Rattle.bundle_rules.specs.Renamed.{HasNamesOnly}
use Rattle.bundle_rules.proofs.PathLemmas.{cleared_occurrence, occurrences-cleared}
use Rattle.bundle_rules.proofs.DenotesLemmas.{scopes_around-cleared, denotations-cleared}
use Rattle.bundle_rules.proofs.PlacesLemmas.{occurrence_at-listed}
use Rattle.bundle_rules.specs.Parts.{tree_of_items}
use Rattle.bundle_rules.specs.Sorting.{flat}
use Rattle.bundle_scope_names.proofs.TreeLemmas.{map-map as map-twice}
use Rattle.bundle_scope_names.proofs.HomesLemmas.{iff as same_bool}
use Rattle.bundle_scope_names.proofs.naming_rule.Tables.{IsIn, map-in, map-congr, Table as Table_told, AreOf, rest-known, same-known, table_in, occurrences-known, declarations, AreNamed, declared-named, all-named, setting}
use Rattle.bundle_scope_names.proofs.naming_rule.Heart as heart
use Rattle.bundle_scope_names.proofs.naming_rule.Heart.{renamed_all, as_named, renamed_occurrence, IsSound, named, as_named-one}
use Rattle.bundle_scope_names.proofs.naming_rule.Clash.{moved as moved_becomings, moved_denoted as moved_denoted_becomings, all_moved, IsInjective, IsMoved, HasMoved, denoted-moved, declarations-moved}
use Rattle.bundle_scope_names.proofs.naming_rule.Transfer.{map-zip, moved-one, all-renamed}
use Rattle.bundle_scope_names.proofs.naming_rule.Rebuilt.{HasPlace, place_in, place-injective, rebuilt-zipped, ArePlain, rebuilt-named}
use Rattle.bundle_scope_names.proofs.naming_rule.Theorem.{zip-symbols, cleared-twice, cleared-notes, symbols-cleared}
use Rattle.bundle_merge_theory.specs.joined.Joined.{joined_items, AllOf, IsWholeItem, moved, moved_denoted, offset, moved_occurrence, is_item_top_name, is_global_written}
use Rattle.bundle_merge_theory.specs.joined.Notes.{its_name, IsOccurrenceNoted, inner, top_name, free, noted_denoted, IsListedIn, AreItemsApart, own_denoted, is_inner_denoted}
use Rattle.bundle_merge_theory.proofs.joined.Declarations.{IsNamed, IsOfItem, all-at, occurrence-of-item, occurrence-in-whole}
use Rattle.bundle_merge_theory.proofs.joined.Notes.{viewed, note-told, inner-of, InnerOf}
use Rattle.bundle_merge_theory.proofs.grouped.TopLemmas.{same-refl as same-self}
use Rattle.bundle_merge_theory.proofs.joined.Paths.{all-front, all-back, inside, moved-from, AreMoved, moved-past, moved-occurrences, occurrences-append, fold-append, moved-start, at-item, item-occurrences, flat-append, same-moved}
use Rattle.bundle_merge_theory.specs.walked.Together.{IsBoundAs}
use Rattle.bundle_merge_theory.specs.walked.Numbers.{AreDenotedOneToOne}
use Rattle.bundle_merge_theory.specs.walked.Renaming.{ItemMeaning}
use Rattle.bundle_merge_theory.proofs.walked.NameLemmas.{numbers_agree}
use Rattle.bundle_merge_theory.specs.composed.Noted.{pairing_of, NotedItem, AsWhole, AsFunction, AgreesWith, MeantInTurn, denoted_here, denoted_from, StatementsAgree, StandsForLabel, ItemAgrees, ItemsAgree, IsMadeOfNoted, view_of, BundleAgrees}
use Rattle.bundle_merge_theory.specs.composed.Names.{LabelTable, denoted_in_tree, labels_in, HasModuleContexts, IsCalledAsLabels, IsLabelled, labelled_top, labelled_inner, NameNoted, is_one_inside, is_known, is_known_top, is_free, is_told_inside, told_inside, StatementNamed, StatementsNamed, ItemNoted}
use Rattle.bundle_merge_theory.proofs.composed.Fronts.{same-denoted, label-from, label-there}
use Rattle.bundle_merge_theory.proofs.answered.Resolving.{written-symbol as found-symbol}
use Rattle.bundle_merge_theory.proofs.composed.Among.{OfScope, denoted-of, all-in, pick}
use Rattle.bundle_merge_theory.specs.composed.Becoming.{placed_scope, StandsInMoved, Becoming}

-- ---- contexts
pub contains-in : {A : Type 0} (xs : List A) (x : A) → Contains xs x → IsIn xs x
contains-in xs x c = (c.0, slice_get-get_or xs c.0 x c.1 ∙ ap Some c.2)

-- the name of what an occurrence declares
pub declared-name : (o : Occurrence) (d : Declared) → declaration_of ByContext Es o ≡ Some d →
    d.name ≡ its_name o
declared-name o d is = by_role (is_binding o.role) (way_of o.path) is
  where
    by_role : (b : Bool) (way : Option Way) →
        cond b (declared_by o.place (its_name o) (scopes_around Es o.path) way) None ≡ Some d →
        d.name ≡ its_name o
    by_role true None e = absurd (none-some d e)
    by_role true (Some way) e = ap (λ (x : Declared). x.name) (sym (same_Some _ d e))
    by_role false way e = absurd (none-some d e)

pub own-symbol : (all : List Declared) (o : Occurrence) →
    denoted_symbol (denoted_of ByContext Es all o) ≡ o.sym
own-symbol all o = by_declared (declaration_of ByContext Es o) refl
  where
    by_declared : (d : Option Declared) → declaration_of ByContext Es o ≡ d →
        denoted_symbol
        (own_or_found all (denoted_by_context all (scopes_around Es o.path) (its_name o)) d) ≡
        o.sym
    by_declared None is =
        found-symbol all (scopes_around Es o.path) (its_name o)
        (find (λ scope. is_written_in all scope (its_name o)) (scopes_around Es o.path))
    by_declared (Some d) is = ap (λ (n : Name). n.sym) (declared-name o d is)

-- each labelled binding is called as its label
pub outer-called : (tree : List Item) → IsResolved Es tree →
    (table : LabelTable) (spelled : Text → Text) (p : Program) (list : List ℕ) →
    IsCalledAsLabels spelled p list table → (scope : Scope) (name : Name) (l : Label) →
    Contains (labels_in tree table) (Bound scope name, l) →
    name.sym ≡ spelled (symbol_of_label p list l)
outer-called tree resolved table spelled p list called scope name l c =
    let from = label-from tree resolved table (Bound scope name) l c in
    ap denoted_symbol (sym from.is)
    ∙ own-symbol (declared ByContext Es tree) from.o
    ∙ called (ident_of from.o) l from.its

-- a global has the context 1
pub global-one : (items : List (List Item)) → AllOf IsWholeItem items → AllOf IsNamed items →
    AreItemsApart items → (o : Occurrence) → IsOfItem items o → (x : Text) →
    denoted_in_tree (joined_items items) o ≡ Global x → o.ctxt ≡ 1
global-one items whole named apart o of x e =
    let note = apart.noted of.m of.item of.o of.there (of.j, of.at) in
    ap (λ (a : Occurrence). a.ctxt) of.is
    ∙ by_note of.m of.item of.o of.there (of.j, of.at) x note
    (sym (note-told items whole named of.m of.item of.there of.o (of.j, of.at) note)
    ∙ ap (denoted_in_tree (joined_items items)) (sym of.is)
    ∙ e)
  where
    by_note : (m : ℕ) (item : List Item) (a : Occurrence) → slice_get items m ≡ Some item →
        IsListedIn item a → (x : Text) (note : IsOccurrenceNoted items item a) →
        noted_denoted (offset items m) note ≡ Global x → a.ctxt ≡ 1
    by_note m item a there listed x (inner is unless) e =
        let it =
        inner-of item a (viewed item (all-at IsNamed items m item named there) a listed) is in
        let both : Bound (Inner it.kind (moved (offset items m) it.begins)) it.name ≡ Global x =
        sym (ap (moved_denoted (offset items m)) it.is) ∙ e in
        absurd cc
    by_note m item a there listed x (top_name top not_inner) e = absurd cc
    by_note m item a there listed x (free one not_top not_inner) e = one

-- declared names have the contexts of their modules, and globals have 1
pub has-contexts : (items : List (List Item)) → AllOf IsWholeItem items → AllOf IsNamed items →
    AreItemsApart items → (resolved : IsResolved Es (joined_items items)) → (table : LabelTable) (local : ℕ → ℕ) →
    HasModuleContexts local (joined_items items) table →
    ((i : Ident) (m : ℕ) (x : Text) → Contains table (i, Of (IsDeclared m x)) → i.0 ≡ x) →
    (plan : List Cause) →
    HasContexts (λ x. x) local
    (labelled (joined_items items) ByContext (pairing_of (labels_in (joined_items items) table) items plan))
has-contexts items whole named apart resolved table local its called plan = record {
  declared = λ scope name m x c kept.
      let from =
      label-from (joined_items items) resolved table (Bound scope name) (Of (IsDeclared m x)) c in
      let at = its.declared (ident_of from.o) m x from.its in
      let same =
      same-denoted (joined_items items) resolved from.o at.0 from.at
      (contains-in (occurrences (joined_items items)) at.0 at.2) (sym at.3) in
      let denotes : denoted_in_tree (joined_items items) at.0 ≡ Bound
      (home_of (declared ByContext Es (joined_items items)) at.1) at.1.name =
      ap
      (own_or_found (declared ByContext Es (joined_items items))
      (denoted_by_context (declared ByContext Es (joined_items items))
      (scopes_around Es at.0.path) (its_name at.0))) at.4 in
      ap name_in (sym from.is ∙ same ∙ denotes)
      ∙ ap (λ (n : Name). n.ctxt) (declared-name at.0 at.1 at.4)
      ∙ ap (λ (i : Ident). Some i.1) at.3
      ∙ ap Some (its.contexts (ident_of from.o) m x from.its);
  stands = λ scope name m x c.
      let from =
      label-from (joined_items items) resolved table (Bound scope name) (Of (IsDeclared m x)) c in
      let at = its.declared (ident_of from.o) m x from.its in (
        at.0,
        at.2,
        ap (λ (i : Ident). i.0) at.3 ∙ called (ident_of from.o) m x from.its,
        ap (λ (i : Ident). i.1) at.3 ∙ its.contexts (ident_of from.o) m x from.its,
      );
  globals =
      λ place o x there denotes. global-one items whole named apart o
      (occurrence-of-item items whole place o there) x
      (same_Some _ _ (sym (ap (option_map (denoted_in_tree (joined_items items))) there) ∙ denotes));
}
  where
    name_in : Denoted → Option ℕ
    name_in (Bound scope name) = name.ctxt
    name_in (Global x) = None

-- ---- told

-- a scope of the table
abbrev pub InTable : Table_told → Scope → Type 0
InTable K scope = (outer : List Scope) × AreOf K (scope ∷ outer)

all-known : (K : Table_told) (scopes : List Scope) → AreOf K scopes → AllOf (InTable K) scopes
all-known K [] known = tt
all-known K (scope ∷ outer) known =
    ((outer, known), all-known K outer (rest-known K scope outer known))

pub same-scopes : (K : Table_told) (s t : Scope) → InTable K s → InTable K t →
    scope_order s ≡ scope_order t → s ≡ t
same-scopes K s t one two e = (same-known K s t one.0 two.0 one.1 two.1 e).0

-- what is denoted in a tree is of a scope of its table
pub in-table : (reading : Reading) (tree : List Item) (d : Denoted) →
    Contains (denotations reading Es tree) d → OfScope (InTable (table_in start tree)) ([], refl) d
in-table reading tree d c =
    let from =
    map-in (denoted_of reading Es (declared reading Es tree)) (occurrences tree) d
    (contains-in (denotations reading Es tree) d c) in
    subst (OfScope (InTable (table_in start tree)) ([], refl)) (sym from.2)
    (denoted-of (InTable (table_in start tree)) ([], refl) reading (declared reading Es tree) from.0
    (all-known (table_in start tree) (scopes_around Es from.0.path)
    (occurrences-known tree from.0 from.1)))

-- names
context-same : (a b : Option ℕ) → same_context a b ≡ true → a ≡ b
context-same None None e = refl
context-same None (Some y) e = absurd (false≢true e)
context-same (Some x) None e = absurd (false≢true e)
context-same (Some x) (Some y) e = ap Some (eqb-true x y e)

pub record SameParts (s t : Scope) (name its : Name) : Type 0 where
  pub order : scope_order s ≡ scope_order t
  pub names : name ≡ its

pub same-bound : (s t : Scope) (name its : Name) →
    same_denoted (Bound s name) (Bound t its) ≡ true → SameParts s t name its
same-bound s t name its e =
    let one =
    and_parts (same_scope s t && bytes_eq name.sym its.sym) (same_context name.ctxt its.ctxt)
    e in
    let two = and_parts (same_scope s t) (bytes_eq name.sym its.sym) one.0 in
    let symbols = (bytes_eq-Decides name.sym its.sym).0 two.1 in
    let contexts = context-same name.ctxt its.ctxt one.1 in
    record {
      order = eqb-true (scope_order s) (scope_order t) two.0;
      names = λ i. record { sym = symbols i; ctxt = contexts i };
    }

-- what is told to be the same is
pub same-is : (K : Table_told) (d e : Denoted) → OfScope (InTable K) ([], refl) d →
    OfScope (InTable K) ([], refl) e → same_denoted d e ≡ true → d ≡ e
same-is K (Bound s name) (Bound t its) one two e =
    let parts = same-bound s t name its e in
    let scopes = same-scopes K s t one two parts.order in
    λ i. Bound (scopes i) (parts.names i)
same-is K (Bound s name) (Global y) one two e = absurd (false≢true e)
same-is K (Global x) (Bound t its) one two e = absurd (false≢true e)
same-is K (Global x) (Global y) one two e = ap Global ((bytes_eq-Decides x y).0 e)

-- ---- becomings

-- the same scopes
pub placed-same : (move : ℕ → ℕ) (s : Scope) → placed_scope move s ≡ moved_becomings move s
placed-same move Wrapper = refl
placed-same move Top = refl
placed-same move (Inner kind begins) = refl

pub all-placed : (move : ℕ → ℕ) (scopes : List Scope) →
    map (placed_scope move) scopes ≡ all_moved move scopes
all-placed move [] = refl
all-placed move (s ∷ scopes) = λ i. placed-same move s i ∷ all-placed move scopes i

-- scopes that have moved have one order only where they have it
pub orders-one : (move : ℕ → ℕ) → IsInjective move → (s t : Scope) →
    scope_order (placed_scope move s) ≡ scope_order (placed_scope move t) →
    scope_order s ≡ scope_order t
orders-one move injective Wrapper Wrapper e = refl
orders-one move injective Top Top e = refl
orders-one move injective (Inner k a) (Inner l b) e =
    let same = injective a b (omega (arith, e)) in omega (arith, same)
orders-one move injective Wrapper Top e = e
orders-one move injective Wrapper (Inner l b) e = absurd (omega (arith, e))
orders-one move injective Top Wrapper e = e
orders-one move injective Top (Inner l b) e = absurd (omega (arith, e))
orders-one move injective (Inner k a) Wrapper e = absurd (omega (arith, e))
orders-one move injective (Inner k a) Top e = absurd (omega (arith, e))

-- what stands in moved scopes in a tree that is cleared
pub stands-cleared : (move : ℕ → ℕ) (os ps qs : List Occurrence) → AllZip (HasPlace move) os ps →
    map cleared_occurrence qs ≡ map cleared_occurrence ps → AllZip (StandsInMoved move) os qs
stands-cleared move [] [] [] zip e = tt
stands-cleared move [] [] (q ∷ qs) zip e = absurd cc
stands-cleared move [] (p ∷ ps) qs zip e = absurd zip
stands-cleared move (o ∷ os) [] qs zip e = absurd zip
stands-cleared move (o ∷ os) (p ∷ ps) [] zip e = absurd cc
stands-cleared move (o ∷ os) (p ∷ ps) (q ∷ qs) zip e =
    let first : cleared_occurrence q ≡ cleared_occurrence p = cc in
    let later : map cleared_occurrence qs ≡ map cleared_occurrence ps = cc in
    let one : HasPlace move o p = zip.0 in (
      sym (scopes_around-cleared Es q.path)
          ∙ ap (λ (x : Occurrence). scopes_around Es x.path) first
          ∙ scopes_around-cleared Es p.path
          ∙ one.scopes
          ∙ sym (all-placed move (scopes_around Es o.path)),
      stands-cleared move os ps qs zip.1 later,
    )

module _ (before after : List Item) (resolved : IsResolved Es before) (names : HasNamesOnly before)
    (plain : ArePlain before) (renamed : IsRenamed before after)
    (same : without_notes after ≡ cleared (with_idents before (idents after))) where
  abbrev numbers : Numbering
  numbers = renamed.numbers

  abbrev os : List Occurrence
  os = occurrences before

  abbrev all : List Declared
  all = declared ByContext Es before

  abbrev changes : List Change
  changes = changes_to (idents before) (idents after)

  abbrev move : ℕ → ℕ
  move = place_in before changes

  injective : IsInjective move
  injective = place-injective before changes

  abbrev made : List Item
  made = with_idents before (idents after)

  -- the next five stand inside the proof of `denotes-alike` too, which hands on none of them
  clear : cleared after ≡ cleared made
  clear = sym (cleared-notes after) ∙ ap cleared same ∙ cleared-twice made

  denotes : denotations BySymbol Es after ≡ denotations BySymbol Es made
  denotes =
      sym (denotations-cleared Es after)
      ∙ ap (denotations BySymbol Es) clear
      ∙ denotations-cleared Es made

  symbols_of : (l : List Item) →
      map (λ (o : Occurrence). o.sym) (occurrences (cleared l)) ≡ map (λ (o : Occurrence). o.sym)
      (occurrences l)
  symbols_of l =
      ap (map (λ (o : Occurrence). o.sym)) (occurrences-cleared l) ∙ symbols-cleared (occurrences l)

  symbols : map (λ (o : Occurrence). o.sym) (occurrences made) ≡ map
      (λ o. symbol_after numbers (denoted_of ByContext Es all o)) os
  symbols =
      sym (symbols_of made)
      ∙ ap (λ l. map (λ (o : Occurrence). o.sym) (occurrences l)) (sym clear)
      ∙ symbols_of after
      ∙ renamed.symbols

  abbrev renamed_occurrences : List Occurrence
  renamed_occurrences = map (renamed_occurrence numbers all) os

  zip : AllZip (HasMoved move) renamed_occurrences (occurrences made)
  zip =
      zip-symbols move (renamed_occurrence numbers all)
      (λ o. symbol_after numbers (denoted_of ByContext Es all o)) (λ o. refl) os
      (occurrences made) (rebuilt-zipped before changes) symbols

  named_after : AreNamed made
  named_after = rebuilt-named before changes (all-named before names) plain

  -- the next two stand inside the proof of `capture` too, which hands on neither
  zip_declared : AllZip (IsMoved move) (renamed_all numbers all)
      (declarations BySymbol (occurrences made))
  zip_declared =
      subst (λ l. AllZip (IsMoved move) l (declarations BySymbol (occurrences made)))
      (all-renamed before resolved names numbers renamed.right)
      (declarations-moved move renamed_occurrences (occurrences made) zip)

  abbrev named_denoted : Denoted → Denoted
  named_denoted d = moved_denoted_becomings move (as_named numbers d)

  are : denotations BySymbol Es made ≡ map named_denoted (denotations ByContext Es before)
  are =
      ap (λ l. map (denoted_of BySymbol Es l) (occurrences made))
      (declared-named BySymbol made named_after)
      ∙ map-zip (HasMoved move)
      (λ o. moved_denoted_becomings move (denoted_of BySymbol Es (renamed_all numbers all) o))
      (denoted_of BySymbol Es (declarations BySymbol (occurrences made)))
      (λ o p m. denoted-moved move injective (renamed_all numbers all)
      (declarations BySymbol (occurrences made)) zip_declared o p m) renamed_occurrences
      (occurrences made) zip
      ∙ map-twice (λ o. moved_denoted_becomings move (denoted_of BySymbol Es (renamed_all numbers all) o))
      (renamed_occurrence numbers all) os
      ∙ map-congr
      (λ o. moved_denoted_becomings move
      (denoted_of BySymbol Es (renamed_all numbers all) (renamed_occurrence numbers all o)))
      (λ o. named_denoted (denoted_of ByContext Es all o)) os
      (λ o at. ap (moved_denoted_becomings move)
      (named (table_in start before) numbers os all (setting before names numbers resolved renamed.right) o at).0)
      ∙ sym (map-twice named_denoted (denoted_of ByContext Es all) os)

  sound : (d : Denoted) → Contains (denotations ByContext Es before) d → IsSound os all d
  sound d c =
      let from =
      map-in (denoted_of ByContext Es all) os d
      (contains-in (denotations ByContext Es before) d c) in
      subst (IsSound os all) (sym from.2)
      (named (table_in start before) numbers os all (setting before names numbers resolved renamed.right) from.0 from.1).1

  abbrev K : Table_told
  K = table_in start before

  moved-back : (d e : Denoted) → moved_denoted_becomings move d ≡ moved_denoted_becomings move e → d ≡ e
  moved-back (Global x) (Global y) e = e
  moved-back (Global x) (Bound t n) e = absurd cc
  moved-back (Bound s m) (Global y) e = absurd cc
  moved-back (Bound s m) (Bound t n) e =
      let scopes : moved_becomings move s ≡ moved_becomings move t = cc in
      let its : m ≡ n = cc in λ i. Bound (moved-one move injective s t scopes i) (its i)

  one : (d e : Denoted) → Contains (denotations ByContext Es before) d →
      Contains (denotations ByContext Es before) e → named_denoted d ≡ named_denoted e → d ≡ e
  one d e at there is =
      as_named-one (table_in start before) numbers os all
      (setting before names numbers resolved renamed.right) d e (sound d at) (sound e there)
      (moved-back (as_named numbers d) (as_named numbers e) is)

  -- what is told to be the same afterwards is
  same-after : (d e : Denoted) → OfScope (InTable K) ([], refl) d →
      OfScope (InTable K) ([], refl) e → same_denoted (named_denoted d) (named_denoted e) ≡ true →
      named_denoted d ≡ named_denoted e
  same-after (Bound s m) (Bound t n) at there is =
      let parts =
      same-bound (moved_becomings move s) (moved_becomings move t) (heart.plain (symbol_after numbers (Bound s m)))
      (heart.plain (symbol_after numbers (Bound t n))) is in
      let orders =
      orders-one move injective s t
      (ap scope_order (placed-same move s)
      ∙ parts.order
      ∙ sym (ap scope_order (placed-same move t))) in
      let scopes = same-scopes K s t at there orders in
      λ i. Bound (moved_becomings move (scopes i)) (parts.names i)
  same-after (Bound s m) (Global y) at there is = absurd cc
  same-after (Global x) (Bound t n) at there is = absurd cc
  same-after (Global x) (Global y) at there is = same-is K (Global x) (Global y) tt tt is

  -- with naming what is denoted becomes what corresponds
  pub becoming_named : Becoming ByContext before BySymbol after
  becoming_named = record {
    becomes = named_denoted;
    move = move;
    stands =
        stands-cleared move os (occurrences made) (occurrences after)
        (rebuilt-zipped before changes)
        (sym (occurrences-cleared after) ∙ ap occurrences clear ∙ occurrences-cleared made);
    are = denotes ∙ are;
    bindings =
        λ scope name. (
          heart.plain (symbol_after numbers (Bound scope name)),
          ap (λ s. Bound s (heart.plain (symbol_after numbers (Bound scope name))))
              (sym (placed-same move scope)),
        );
    globals = λ x. refl;
    one = one;
    same =
        λ d e at there. same_bool (same_denoted d e)
        (same_denoted (named_denoted d) (named_denoted e))
        (λ is. ap (λ x. same_denoted (named_denoted d) (named_denoted x))
        (sym
        (same-is K d e (in-table ByContext before d at)
        (in-table ByContext before e there) is))
        ∙ same-self (named_denoted d))
        (λ is. ap (same_denoted d)
        (sym
        (one d e at there
        (same-after d e (in-table ByContext before d at)
        (in-table ByContext before e there) is)))
        ∙ same-self d);
  }

-- ---- merged

-- Numbers and lists.
shifted : (a b k : ℕ) → nat_le (a + k) (b + k) ≡ nat_le a b
shifted a b k =
    same_bool (nat_le (a + k) (b + k)) (nat_le a b)
    (λ is. let l = leb-true (a + k) (b + k) is in le-leb a b (omega (arith, l)))
    (λ is. let l = leb-true a b is in le-leb (a + k) (b + k) (omega (arith, l)))

get-behind : (before after : List (List Item)) (item : List Item) →
    slice_get (before ++ item ∷ after) (length before) ≡ Some item
get-behind [] after item = refl
get-behind (x ∷ before) after item = get-behind before after item

take-behind : (before after : List (List Item)) → take (length before) (before ++ after) ≡ before
take-behind [] after = refl
take-behind (x ∷ before) after = ap (λ rest. x ∷ rest) (take-behind before after)

-- Spots.
moved-fold : (k : ℕ) (a b : Spot) → AreMoved k a b → (xs : List Item) →
    AreMoved k (fold past a xs) (fold past b xs)
moved-fold k a b m [] = m
moved-fold k a b m (x ∷ xs) = moved-fold k (past a x) (past b x) (moved-past k a b m x) xs

-- What has moved.
abbrev pub Moves : ℕ → Denoted → Denoted → Type 0
Moves k d e = e ≡ moved_denoted k d

same_denoted-moved : (k : ℕ) (d e : Denoted) →
    same_denoted (moved_denoted k d) (moved_denoted k e) ≡ same_denoted d e
same_denoted-moved k (Bound scope name) (Bound other its) =
    ap (λ b. b && bytes_eq name.sym its.sym && same_context name.ctxt its.ctxt)
    (same-moved k scope other)
same_denoted-moved k (Bound scope name) (Global x) = refl
same_denoted-moved k (Global x) (Bound scope name) = refl
same_denoted-moved k (Global x) (Global y) = refl

pub moves-one : (k : ℕ) → AreDenotedOneToOne (Moves k)
moves-one k a b c d one two = sym (same_denoted-moved k a b) ∙ ap₂ same_denoted (sym one) (sym two)

-- an inner binding of an item is as far inside in the whole
inside-moved : (item : List Item) (o : Occurrence) (begins k : ℕ) (d : Denoted) → InnerOf item o d →
    is_inside (begins + k) (moved_denoted k d) ≡ is_inside begins d
inside-moved item o begins k d it =
    ap (λ e. is_inside (begins + k) (moved_denoted k e)) it.is
    ∙ ap (nat_le (begins + k)) (moved-from k it.begins it.above)
    ∙ shifted begins it.begins k
    ∙ sym (ap (is_inside begins) it.is)

-- what is inside in one is so in the other, and has moved
record AreAlike (begins k : ℕ) (d e : Denoted) : Type 0 where
  pub same : is_inside begins d ≡ is_inside (begins + k) e
  pub moves : is_inside begins d ≡ true → Moves k d e

module _ (items : List (List Item)) (table : LabelTable) (whole : AllOf IsWholeItem items)
    (named : AllOf IsNamed items) (resolved : IsResolved Es (joined_items items)) where
  abbrev labels : Labelling
  labels = labels_in (joined_items items) table

  -- an item
  module _ (m : ℕ) (item : List Item) (at : slice_get items m ≡ Some item) where
    abbrev pub k : ℕ
    k = offset items m

    abbrev pub in_whole : Occurrence → Denoted
    in_whole o = denoted_in_tree (joined_items items) (moved_occurrence k o)

    inner_it : (o : Occurrence) → IsListedIn item o → is_inner_denoted (own_denoted item o) ≡ true →
        InnerOf item o (own_denoted item o)
    inner_it o listed is =
        inner-of item o (viewed item (all-at IsNamed items m item named at) o listed) is

    told_by : (o : Occurrence) → IsListedIn item o → (note : IsOccurrenceNoted items item o) →
        in_whole o ≡ noted_denoted k note
    told_by o listed note = note-told items whole named m item at o listed note

    in_occurrences : (o : Occurrence) → IsListedIn item o →
        IsIn (occurrences (joined_items items)) (moved_occurrence k o)
    in_occurrences o listed =
        let there = occurrence-in-whole items whole m item listed.0 o at listed.1 in
        occurrence_at-listed (joined_items items) there.0 (moved_occurrence k o) there.1

    -- a binding that stands for the label
    bound_as : (l : Label) (d : Denoted) → ((x : List ℕ) → d ≡ Global x → ⊥) →
        Contains labels (d, l) → IsBoundAs labels l d
    bound_as l (Bound scope name) never c = record {
      scope = scope;
      name = name;
      is = refl;
      labelled = c;
    }
    bound_as l (Global x) never c = absurd (never x refl)

    inner_global : (item : List Item) (o : Occurrence) (d : Denoted) → InnerOf item o d →
        (x : List ℕ) → moved_denoted k d ≡ Global x → ⊥
    inner_global item o d it x e =
        let both : Bound (Inner it.kind (moved k it.begins)) it.name ≡ Global x = sym
        (ap (moved_denoted k) it.is)
        ∙ e in cc

    labelled_bound : (o : Occurrence) → IsListedIn item o → (l : Label) →
        IsLabelled items table item o l → StandsForLabel labels (in_whole o) l
    labelled_bound o listed l (labelled_top top not_inner c) =
        bound_as l (in_whole o)
        (λ x e. let both : Bound Top (its_name o) ≡ Global x = sym
        (told_by o listed (top_name top not_inner))
        ∙ e in cc)
        (label-there (joined_items items) resolved table (moved_occurrence k o)
        (in_occurrences o listed) l c)
    labelled_bound o listed l (labelled_inner is unless c) =
        bound_as l (in_whole o)
        (λ x e. inner_global item o (own_denoted item o) (inner_it o listed is) x
        (sym (told_by o listed (inner is unless)) ∙ e))
        (label-there (joined_items items) resolved table (moved_occurrence k o)
        (in_occurrences o listed) l c)

    inner_alike : (begins : ℕ) (o : Occurrence) → IsListedIn item o →
        (is : is_inner_denoted (own_denoted item o) ≡ true) →
        (is_global_written (own_denoted item o) ≡ false → is_item_top_name items (its_name o) ≡ false) →
        AreAlike begins k (own_denoted item o) (in_whole o)
    inner_alike begins o listed is unless =
        let e = told_by o listed (inner is unless) in
        record {
          same =
              sym
              (ap (is_inside (begins + k)) e
              ∙ inside-moved item o begins k (own_denoted item o) (inner_it o listed is));
          moves = λ its. e;
        }

    -- in the whole it is inside exactly if it is told so
    as_told : (begins : ℕ) (its : List Denoted) (o : Occurrence) → IsListedIn item o →
        (meant : Meant) → NameNoted items table item begins its o meant →
        (is_told_inside meant ≡ is_inside (begins + k) (in_whole o))
        × (is_told_inside meant ≡ true → Moves k (own_denoted item o) (in_whole o))
    as_told begins its o listed meant (is_one_inside is unless within found) =
        let both = inner_alike begins o listed is unless in
        (sym within ∙ both.same, λ told. both.moves within)
    as_told begins its o listed meant (is_known out (labelled_inner is unless c)) =
        (sym out ∙ (inner_alike begins o listed is unless).same, λ told. absurd (false≢true told))
    as_told begins its o listed meant (is_known out (labelled_top top not_inner c)) = (
      sym (ap (is_inside (begins + k)) (told_by o listed (top_name top not_inner))),
      λ told. absurd (false≢true told),
    )
    as_told begins its o listed meant (is_known_top top not_inner c) = (
      sym (ap (is_inside (begins + k)) (told_by o listed (top_name top not_inner))),
      λ told. absurd (false≢true told),
    )
    as_told begins its o listed meant (is_free one not_top not_inner) = (
      sym (ap (is_inside (begins + k)) (told_by o listed (free one not_top not_inner))),
      λ told. absurd (false≢true told),
    )

    pub beside : (begins : ℕ) (its : List Denoted) (os : List Occurrence) →
        AllOf (IsListedIn item) os → (meants : List Meant) →
        AllZip (NameNoted items table item begins its) os meants →
        AllZip (Moves k) (told_inside (map (own_denoted item) os) meants)
        (filter (is_inside (begins + k)) (map in_whole os))
    beside begins its [] listed [] noted = tt
    beside begins its [] listed (meant ∷ meants) noted = absurd noted
    beside begins its (o ∷ os) listed [] noted = absurd noted
    beside begins its (o ∷ os) listed (meant ∷ meants) noted =
        let one = as_told begins its o listed.0 meant noted.0 in
        pick (Moves k) (is_told_inside meant) (is_inside (begins + k) (in_whole o))
        (own_denoted item o) (in_whole o)
        (told_inside (map (own_denoted item) os) meants)
        (filter (is_inside (begins + k)) (map in_whole os)) one.0 one.1
        (beside begins its os listed.1 meants noted.1)

    module _ (begins : ℕ) (all : List Occurrence) (all_meants : List Meant) where
      abbrev here : List Denoted
      here = each_denoted_once (told_inside (map (own_denoted item) all) all_meants)

      abbrev there : List Denoted
      there = each_denoted_once (filter (is_inside (begins + k)) (map in_whole all))

      abbrev SameNumbers : Type 0
      SameNumbers =
          (d e : Denoted) → Moves k d e → position (same_denoted d) here ≡ position (same_denoted e)
          there

      one_agrees : SameNumbers → (o : Occurrence) → IsListedIn item o → (meant : Meant) →
          NameNoted items table item begins here o meant →
          AgreesWith labels there (begins + k) (in_whole o) meant
      one_agrees same o listed meant (is_one_inside is unless within found) =
          sym (same (own_denoted item o) (in_whole o) (told_by o listed (inner is unless))) ∙ found
      one_agrees same o listed meant (is_known {l = l} out its) = (
        sym (as_told begins here o listed (Known l) (is_known out its)).0,
        labelled_bound o listed l its,
      )
      one_agrees same o listed meant (is_known_top {l = l} top not_inner c) = (
        sym (as_told begins here o listed (Known l) (is_known_top top not_inner c)).0,
        labelled_bound o listed l (labelled_top top not_inner c),
      )
      one_agrees same o listed meant (is_free one not_top not_inner) =
          told_by o listed (free one not_top not_inner)

      all_agree : SameNumbers → (os : List Occurrence) → AllOf (IsListedIn item) os →
          (meants : List Meant) → AllZip (NameNoted items table item begins here) os meants →
          AllZip (AgreesWith labels there (begins + k)) (map in_whole os) meants
      all_agree same [] listed [] noted = tt
      all_agree same [] listed (meant ∷ meants) noted = absurd noted
      all_agree same (o ∷ os) listed [] noted = absurd noted
      all_agree same (o ∷ os) listed (meant ∷ meants) noted =
          (one_agrees same o listed.0 meant noted.0, all_agree same os listed.1 meants noted.1)

    abbrev pub view : View
    view = view_of ByContext items

    -- what names denote in the whole
    pub in_turn : (a b : Spot) → AreMoved k a b → (part : List Item) →
        denoted_from view b part ≡ map in_whole (occurrences_from a part)
    in_turn a b moves part =
        ap (map (denoted_here view)) (moved-occurrences k part a b moves)
        ∙ map-twice (denoted_here view) (moved_occurrence k) (occurrences_from a part)

    -- a statement of the item agrees
    statement_agrees : (a b : Spot) → AreMoved k a b → (part : List Item) →
        AllOf (IsListedIn item) (occurrences_from a part) → (told : ItemMeaning) →
        StatementNamed items table item a part told →
        MeantInTurn labels b.place (denoted_from view b part) told.0
    statement_agrees a b moves part listed told noted =
        let os : List Occurrence = occurrences_from a part in
        subst (λ place. MeantInTurn labels place (denoted_from view b part) told.0)
        (sym moves.place)
        (subst (λ ds. MeantInTurn labels (a.place + k) ds told.0) (sym (in_turn a b moves part))
        (all_agree a.place os told.0 (λ d e its. numbers_agree (Moves k) (moves-one k) (told_inside (map (own_denoted item) os) told.0) (filter (is_inside (a.place + k)) (map in_whole os)) (beside a.place (here a.place os told.0) os listed told.0 noted) d e its) os listed told.0 noted))

    statements_agree : (a b : Spot) → AreMoved k a b → (parts : List (List Item)) →
        AllOf (IsListedIn item) (occurrences_from a (flat parts)) → (tolds : List ItemMeaning) →
        StatementsNamed items table item a parts tolds → StatementsAgree view labels b parts tolds
    statements_agree a b moves [] listed [] noted = tt
    statements_agree a b moves [] listed (told ∷ tolds) noted = absurd noted
    statements_agree a b moves (part ∷ parts) listed [] noted = absurd noted
    statements_agree a b moves (part ∷ parts) listed (told ∷ tolds) noted =
        let both = subst (AllOf (IsListedIn item)) (occurrences-append a part (flat parts)) listed in (
          statement_agrees a b moves part
              (all-front (IsListedIn item) (occurrences_from a part)
              (occurrences_from (fold past a part) (flat parts)) both) told noted.0,
          statements_agree (fold past a part) (fold past b part) (moved-fold k a b moves part) parts
              (all-back (IsListedIn item) (occurrences_from a part)
              (occurrences_from (fold past a part) (flat parts)) both) tolds noted.1,
        )

    fronts_agree : (os : List Occurrence) → AllOf (IsListedIn item) os → (names : List Label) →
        AllZip (IsLabelled items table item) os names →
        AllZip (StandsForLabel labels) (map in_whole os) names
    fronts_agree [] listed [] noted = tt
    fronts_agree [] listed (l ∷ names) noted = absurd noted
    fronts_agree (o ∷ os) listed [] noted = absurd noted
    fronts_agree (o ∷ os) listed (l ∷ names) noted =
        (labelled_bound o listed.0 l noted.0, fronts_agree os listed.1 names noted.1)

    -- and so does the item
    item_agrees : (b : Spot) → AreMoved k inside b →
        AllOf (IsListedIn item) (occurrences_from inside item) → (noted : NotedItem) →
        IsMadeOfNoted item noted → ItemNoted items table item noted → ItemAgrees view labels b item noted
    item_agrees b moves listed (AsWhole told) made noted =
        statement_agrees inside b moves item listed told noted
    item_agrees b moves listed (AsFunction front names insides tolds) made noted =
        let one = subst (λ l. AllOf (IsListedIn item) (occurrences_from inside l)) made.1 listed in
        let two =
        subst (AllOf (IsListedIn item))
        (occurrences-append inside front (flat insides ++ made.0)) one in
        let behind : Spot = fold past inside front in
        let three =
        all-back (IsListedIn item) (occurrences_from inside front)
        (occurrences_from behind (flat insides ++ made.0)) two in
        let four = subst (AllOf (IsListedIn item)) (occurrences-append behind (flat insides) made.0) three in (
          subst (λ ds. AllZip (StandsForLabel labels) ds names) (sym (in_turn inside b moves front))
              (fronts_agree (occurrences_from inside front)
              (all-front (IsListedIn item) (occurrences_from inside front)
              (occurrences_from behind (flat insides ++ made.0)) two) names noted.0),
          statements_agree behind (fold past b front) (moved-fold k inside b moves front) insides
              (all-front (IsListedIn item) (occurrences_from behind (flat insides))
              (occurrences_from (fold past behind (flat insides)) made.0) four) tolds noted.1,
        )

  all_items : (before after : List (List Item)) → before ++ after ≡ items → (noted : List NotedItem) →
      AllZip IsMadeOfNoted after noted → AllZip (ItemNoted items table) after noted →
      ItemsAgree (view_of ByContext items) labels (fold past inside (flat before)) after noted
  all_items before [] e [] made noted = tt
  all_items before [] e (one ∷ more) made noted = absurd noted
  all_items before (item ∷ after) e [] made noted = absurd noted
  all_items before (item ∷ after) e (one ∷ more) made noted = (
    item_agrees (length before) item at (fold past inside (flat before)) moves listed one made.0
        noted.0,
    subst (λ s. ItemsAgree (view_of ByContext items) labels s after more) next
        (all_items (before ++ item ∷ []) after (append_assoc before (item ∷ []) after ∙ e) more
        made.1 noted.1),
  )
    where
      at : slice_get items (length before) ≡ Some item
      at = ap (λ l. slice_get l (length before)) (sym e) ∙ get-behind before after item

      far : length (flat before) ≡ offset items (length before)
      far =
          ap (λ l. length (flat l))
          (sym (take-behind before (item ∷ after)) ∙ ap (take (length before)) e)

      moves : AreMoved (offset items (length before)) inside (fold past inside (flat before))
      moves =
          subst (λ n. AreMoved n inside (fold past inside (flat before))) far
          (moved-start (length (flat before)) (fold past inside (flat before))
          (at-item before
          (all-front IsWholeItem before (item ∷ after)
          (subst (AllOf IsWholeItem) (sym e) whole))))

      listed : AllOf (IsListedIn item) (occurrences_from inside item)
      listed =
          subst (AllOf (IsListedIn item)) (item-occurrences item)
          (all-in (IsListedIn item) (occurrences (tree_of_items item))
          (λ i o there. (i, there)))

      next : fold past inside (flat (before ++ item ∷ [])) ≡ fold past
          (fold past inside (flat before)) item
      next =
          ap (fold past inside)
          (flat-append before (item ∷ []) ∙ ap (λ l. flat before ++ l) (append-nil item))
          ∙ fold-append inside (flat before) item

  -- in the merged tree names denote, by symbol and context, what is told of them by identifiers
  pub merged_agrees : (noted : List NotedItem) → AllZip IsMadeOfNoted items noted →
      AllZip (ItemNoted items table) items noted → BundleAgrees ByContext labels items noted
  merged_agrees noted made its = all_items [] items refl noted made its
