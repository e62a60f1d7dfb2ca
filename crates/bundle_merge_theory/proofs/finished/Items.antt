-- The statements of a CommonJS module stand in a bundle in one way, so what the bindings inside
-- them are called is known of any way in which its function is parted.
-- What the bindings inside a bundle's items are called where names change and denote what
-- corresponds.
-- Renaming of keywords keeps the merged bundle: its contexts, and what its bindings are called.
-- A merged bundle without its keywords is a merged bundle.
use Rattle.std.proofs.Common.{◌≡◌, ℕ, zero, suc, ◌+◌, List, [], ◌∷◌, ◌++◌, Some, map, length, slice_get, refl, ap, ap₂, sym, ◌∙◌, subst, ◌≤◌, inl, inr, append_assoc, filter, arith, Option}
use Rattle.std.specs.Prelude.{⊤, Contains, fold}
use Rattle.std.specs.List.{AllZip}
use Rattle.std.proofs.lemmas.Option.{none-some, same_Some}
use Rattle.bundle_syntax.specs.Item as h
use Rattle.bundle_syntax.specs.Item.{Item}
use Rattle.bundle_rules.specs.Nodes.{Text, flat, side_by_side}
use Rattle.bundle_rules.specs.Statements.{TopItem, placed, Element, taken_from, top_items, own_statements}
use Rattle.bundle_rules.specs.Program.{Program, tree_of}
use Rattle.bundle_rules.specs.Meaning.{Mark, View, Labelling, is_inside, Of, IsOneToOne, own_view}
use Rattle.bundle_rules.specs.Symbols.{item_symbols, inner_symbols, CalledAlike, denoted_symbol, AreCalled}
use Rattle.bundle_rules.specs.Injected.{load_front, meta_object}
use Rattle.bundle_rules.specs.Bundle
use Rattle.bundle_rules.specs.Bundle.{Form, Cause, Defines, Hooks, Labelled, IsLoadFunction, Realises, HoldsMeta, ItemMeans, AsModule, labelled, Pairing, StandsFor, IsLaidOut}
use Rattle.bundle_rules.proofs.LoadLemmas.{inside_is}
use Rattle.bundle_rules.specs.Places.{Spot, Occurrence, past, in_field, occurrences, occurrences_from}
use Rattle.bundle_rules.specs.Scopes.{Es, Scope, Cjs, Top}
use Rattle.bundle_rules.specs.Declarations.{Reading, Name, ByContext, declared}
use Rattle.bundle_rules.specs.Denotes.{Bound, denotations, IsResolved}
use Rattle.bundle_rules.specs.Mentions.{each_denoted_once}
use Rattle.bundle_rules.specs.Keywords.{keyword_free}
use Rattle.bundle_rules.specs.Idents.{idents}
use Rattle.bundle_rules.specs.Renamed.{HasNamesOnly, IsRidOfKeywords}
use Rattle.bundle_rules.specs.Linking.{Declared as IsDeclared}
use Rattle.bundle_rules.specs.Merged.{HasContexts, BindsOwn, IsMerged}
use Rattle.bundle_rules.specs.Rebuilds.{changes_to}
use Rattle.bundle_rules.specs.Order.{IsGoodOrder, group_of}
use Rattle.bundle_tree_places.specs.Edits.{Anywhere, Edits, Inside, node}
use Rattle.bundle_scope_names.proofs.TreeLemmas.{map-map as map-twice}
use Rattle.bundle_scope_names.proofs.naming_rule.Rebuilt.{ArePlain, faithful-names, zip-at}
use Rattle.bundle_scope_names.proofs.naming_rule.Transfer.{Calling, IsFaithful}
use Rattle.bundle_link.proofs.NodePaths.{fold-place, field-twice, same-field as same_field}
use Rattle.bundle_merge_theory.specs.joined.Joined.{AllOf, joined_items}
use Rattle.bundle_merge_theory.specs.joined.Picked.{IsSingle}
use Rattle.bundle_merge_theory.specs.noted.Agrees.{IsSpotAt, IsListing}
use Rattle.bundle_merge_theory.proofs.noted.Spots.{fold-path, at-first, at-past, at-behind, at-as}
use Rattle.bundle_merge_theory.proofs.joined.Paths.{occurrences-append, item-occurrences}
use Rattle.bundle_merge_theory.proofs.joined.Bindings.{Contains-cons}
use Rattle.bundle_merge_theory.specs.walked.Names.{idents_among}
use Rattle.bundle_merge_theory.proofs.walked.NameLemmas.{elements_denote}
use Rattle.bundle_merge_theory.proofs.joined.Theorem.{top_items-joined}
use Rattle.bundle_merge_theory.specs.walked.Renaming.{ItemMeaning, KeepsText}
use Rattle.bundle_merge_theory.specs.noted.Listed.{AreListed, Other}
use Rattle.bundle_merge_theory.specs.grouped.Renaming.{HasWays, HasObjects, AtOne}
use Rattle.bundle_merge_theory.proofs.grouped.AlikeLemmas.{owners-refl}
use Rattle.bundle_merge_theory.proofs.grouped.ClearedLemmas.{keyword-good_order, keyword-own}
use Rattle.bundle_merge_theory.specs.composed.Noted as w
use Rattle.bundle_merge_theory.specs.composed.Noted.{MarksStandFor, NotedItem, AsFunction, function_ends, IsNotedFor, as_whole, as_function, AreNotedFor, denoted_here, denoted_from, first_spot, view_of, AsWhole, BundleAgrees, IsNotedBundle, pairing_of}
use Rattle.bundle_merge_theory.proofs.composed.Unique.{beside-flat, is_paired, told_means, means-one}
use Rattle.bundle_merge_theory.specs.composed.Becoming.{StandsInMoved, Becoming, AllOccur, labels_of}
use Rattle.bundle_merge_theory.specs.composed.Turned.{SpotsMatch, module_path, PartTurned, ItemTurned, whole_turned, function_turned, FrontTurned, ItemsTurned}
use Rattle.bundle_merge_theory.proofs.composed.Among.{Corresponds, names-count, module-match, zip-parts, flat-names, contains-map}
use Rattle.bundle_merge_theory.proofs.composed.Keywords.{symbols-turn, symbol-becomes, outer-becomes, contexts-become, contexts-stand, globals-become, zip-at as both-there, layout-stays, body-length}
use Rattle.bundle_merge_theory.proofs.composed.Remade.{Remade, remade_whole, AllOfForm, AllRemade, NoLone, Renewed, renewed}
use Rattle.bundle_merge_theory.proofs.composed.Theorem.{becoming_recalled, recalled-written, IsWholeBundle}
use Rattle.bundle_merge_theory.proofs.composed.Naming.{OneNode, IsStillNoted, all-turned, still, still-labels, still-items, still-told, items-edited, changes-keep, module-names}
use Rattle.bundle_merge_theory.specs.finished.Twice.{IsEditable}
use Rattle.bundle_merge_theory.specs.finished.Finished.{called_idents, recall}
use Rattle.bundle_merge_theory.specs.finished.Rules.{IsKeywordRule}
use Rattle.bundle_merge_theory.proofs.finished.Rules.{rule-faithful}
use Rattle.bundle_merge_theory.proofs.finished.Tidied.{calls, rid-of-keywords}
use Rattle.bundle_merge_theory.proofs.finished.Numbers.{as-many, free-listing}

-- ---- common js

-- a function of a CommonJS module as it is noted, at this place
pub record StandsAs (c : ℕ) (item : TopItem) : Type 0 where
  pub front : List Item
  pub insides : List (List Item)
  pub is : item.items ≡ front ++ (flat insides ++ function_ends)
  pub long : length front ≡ length (load_front c)
  pub single : AllOf IsSingle insides

-- no marks alone stand for it
no-marks : {p : Program} {hooks : Hooks} {form : Form} {marks : List Mark} {cause : Cause} {c : ℕ} →
    MarksStandFor p hooks form marks cause → cause ≡ Defines c → ⊥
no-marks (w.own statement at own) e = cc
no-marks (w.imports_names names are) e = cc
no-marks w.imports_whole e = cc
no-marks w.imports_nothing e = cc
no-marks w.helps e = cc
no-marks (w.loads whole names are is) e = cc
no-marks (w.holds_meta properties marks held faultless its) e = cc
no-marks (w.holds_namespace pairs are) e = cc
no-marks w.stars e = cc
no-marks (w.exports pairs is are) e = cc
no-marks (w.returns pairs is are) e = cc

-- what realises it is its function
pub load-function : {p : Program} {hooks : Hooks} {form : Form} {bundle : Labelled} {item : TopItem}
    {cause : Cause} {c : ℕ} →
    Realises p hooks form bundle item cause → cause ≡ Defines c → IsLoadFunction p bundle c item
load-function {p} {bundle = bundle} {item = item} {c = c} (Bundle.defines {c = k} f) e = let same : k ≡ c = cc in subst (λ n. IsLoadFunction p bundle n item) same f
load-function (Bundle.own statement at means) e = absurd cc
load-function (Bundle.imports_names names are means) e = absurd cc
load-function (Bundle.imports_whole means) e = absurd cc
load-function (Bundle.imports_nothing means) e = absurd cc
load-function (Bundle.helps means) e = absurd cc
load-function (Bundle.loads whole names are is means) e = absurd cc
load-function (Bundle.holds_meta properties marks held faultless its means) e = absurd cc
load-function (Bundle.holds_namespace pairs are means) e = absurd cc
load-function (Bundle.stars means) e = absurd cc
load-function (Bundle.exports pairs is are means) e = absurd cc
load-function (Bundle.returns pairs is are means) e = absurd cc

-- Two such functions.

-- what is inside a function and inside another one, which begin at these places, is so related,
-- item by item
abbrev pub InsideAre : (TopItem → TopItem → Type 0) → ℕ → NotedItem → ℕ → NotedItem → Type 0
InsideAre R place (AsFunction front names insides tolds) its_place (AsFunction its_front its_names its its_tolds) =
    AllZip R (placed (place + length front) insides) (placed (its_place + length its_front) its)
InsideAre R place _ its_place _ = ⊤

-- the same of all items, of which the first begin at these places
abbrev pub AllInside : (TopItem → TopItem → Type 0) → ℕ → List (List Item) → List NotedItem → ℕ →
    List (List Item) → List NotedItem → Type 0
AllInside R place (part ∷ parts) (one ∷ noted) its_place (item ∷ renamed) (two ∷ its) =
    InsideAre R place one its_place two × AllInside R (place + length part) parts noted (its_place + length item) renamed its
AllInside R place _ _ its_place _ _ = ⊤

-- both are functions of the module, and what is inside them is so related
pub record AreFunctions (R : TopItem → TopItem → Type 0) (c : ℕ) (top item : TopItem) : Type 0 where
  pub first : StandsAs c top
  pub second : StandsAs c item
  pub inside : AllZip R (placed (top.start + length first.front) first.insides)
      (placed (item.start + length second.front) second.insides)

module _ (R : TopItem → TopItem → Type 0) (p : Program) (hooks : Hooks) (form : Form) (c : ℕ) where
  both-functions : (place its_place : ℕ) {part item : List Item} {one two : NotedItem}
      {cause other : Cause} →
      IsNotedFor p hooks form part one cause → IsNotedFor p hooks form item two other →
      cause ≡ Defines c → other ≡ Defines c → InsideAre R place one its_place two →
      AreFunctions R c (record { start = place; items = part })
      (record { start = its_place; items = item })
  both-functions place its_place (as_whole marked stands) its e f inside =
      absurd (no-marks stands e)
  both-functions place its_place (as_function nodes is plain states) (as_whole marked stands) e f inside = absurd (no-marks stands f)
  both-functions place its_place (as_function {front = front} {insides = insides} nodes is plain states) (as_function {front = its_front} {insides = its_insides} its_nodes its_is its_plain its_states) e f inside = record {
    first = record { front = front; insides = insides; is = is; long = plain.long; single = states.single };
    second = record { front = its_front; insides = its_insides; is = its_is; long = its_plain.long; single = its_states.single };
    inside = inside;
  }

  pub functions-at : (place its_place : ℕ) (parts : List (List Item)) (noted : List NotedItem)
      (renamed : List (List Item)) (its : List NotedItem) (causes : List Cause) →
      AreNotedFor p hooks form parts noted causes → AreNotedFor p hooks form renamed its causes →
      AllInside R place parts noted its_place renamed its → (n : ℕ) (top item : TopItem) →
      slice_get causes n ≡ Some (Defines c) → slice_get (placed place parts) n ≡ Some top →
      slice_get (placed its_place renamed) n ≡ Some item → AreFunctions R c top item
  functions-at place its_place [] noted renamed its causes each others inside n top item cause there its_there = absurd (none-some top there)
  functions-at place its_place (part ∷ parts) noted [] its causes each others inside n top item cause there its_there = absurd (none-some item its_there)
  functions-at place its_place (part ∷ parts) [] (new ∷ renamed) its causes each others inside n top item cause there its_there = absurd each
  functions-at place its_place (part ∷ parts) (one ∷ noted) (new ∷ renamed) [] causes each others inside n top item cause there its_there = absurd others
  functions-at place its_place (part ∷ parts) (one ∷ noted) (new ∷ renamed) (two ∷ its) [] each others inside n top item cause there its_there = absurd each
  functions-at place its_place (part ∷ parts) (one ∷ noted) (new ∷ renamed) (two ∷ its) (first ∷ causes) each others inside zero top item cause there its_there =
      subst (λ x. AreFunctions R c x item) (same_Some _ top there)
      (subst (λ x. AreFunctions R c (record { start = place; items = part }) x) (same_Some _ item its_there)
      (both-functions place its_place each.0 others.0 (same_Some _ _ cause) (same_Some _ _ cause) inside.0))
  functions-at place its_place (part ∷ parts) (one ∷ noted) (new ∷ renamed) (two ∷ its) (first ∷ causes) each others inside (suc n) top item cause there its_there =
      functions-at (place + length part) (its_place + length new) parts noted renamed its causes each.1 others.1 inside.1 n top item cause there its_there

-- What is inside them is called alike.

-- the bindings inside the one are called as those inside the other, each spelled so
abbrev pub SpelledAlike : (Text → Text) → Labelled → Labelled → TopItem → TopItem → Type 0
SpelledAlike spelled old new top item = item_symbols new item ≡ map spelled (item_symbols old top)

alike-again : (spelled : Text → Text) (old new : Labelled) (view : View) (tops items : List TopItem)
    (statements : List (List Element)) →
    AllZip (SpelledAlike spelled old new) tops items →
    AllZip (CalledAlike (λ x. x) old view) tops statements →
    AllZip (CalledAlike spelled new view) items statements
alike-again spelled old new view [] [] [] alike called = tt
alike-again spelled old new view [] [] (statement ∷ statements) alike called = absurd called
alike-again spelled old new view [] (item ∷ items) statements alike called = absurd alike
alike-again spelled old new view (top ∷ tops) [] statements alike called = absurd alike
alike-again spelled old new view (top ∷ tops) (item ∷ items) [] alike called = absurd called
alike-again spelled old new view (top ∷ tops) (item ∷ items) (statement ∷ statements) alike called =
    (alike.0 ∙ ap (map spelled) called.0 ∙ map-twice spelled (λ x. x) (inner_symbols view 0 statement), alike-again spelled old new view tops items statements alike.1 called.1)

-- the items inside a function, however it is parted
insides-are : {p : Program} {b : Labelled} {c : ℕ} {item : TopItem} (f : IsLoadFunction p b c item)
    (its : StandsAs c item) →
    placed (item.start + length f.front) (side_by_side zero f.inside) ≡
    placed (item.start + length its.front) its.insides
insides-are {item = item} f its =
    ap₂ (λ (k : ℕ) (parts : List (List Item)). placed (item.start + k) parts) (f.front_length ∙ sym its.long)
    (ap (side_by_side zero) (inside_is f its.front (flat its.insides) function_ends its.is its.long refl) ∙ beside-flat its.insides its.single)

pub inside-again : (spelled : Text → Text) (p : Program) (old new : Labelled) (view : View) (c : ℕ)
    (top item : TopItem) →
    AreFunctions (SpelledAlike spelled old new) c top item →
    (f : IsLoadFunction p old c top) (g : IsLoadFunction p new c item)
    (statements : List (List Element)) →
    AllZip (CalledAlike (λ x. x) old view)
    (placed (top.start + length f.front) (side_by_side zero f.inside)) statements →
    AllZip (CalledAlike spelled new view)
    (placed (item.start + length g.front) (side_by_side zero g.inside)) statements
inside-again spelled p old new view c top item both f g statements called =
    subst (λ items. AllZip (CalledAlike spelled new view) items statements) (sym (insides-are g both.second))
    (alike-again spelled old new view (placed (top.start + length both.first.front) both.first.insides) (placed (item.start + length both.second.front) both.second.insides) statements both.inside
    (subst (λ items. AllZip (CalledAlike (λ x. x) old view) items statements) (insides-are f both.first) called))

-- ---- items
turned-nodes : {item renamed : List Item} {one other : NotedItem} → ItemTurned item one renamed other →
    PartTurned item renamed
turned-nodes (whole_turned turned) = turned
turned-nodes (function_turned back its_back turned is its_made fronts parts) = turned

-- the symbols inside a part, by its occurrences
abbrev symbols_at : View → Spot → List Item → List Text
symbols_at view s part =
    map denoted_symbol (each_denoted_once (filter (is_inside s.place) (denoted_from view s part)))

symbols-there : (view : View) (s : Spot) (part tail : List Item) → IsSpotAt view.tree s (part ++ tail) →
    inner_symbols view s.place (taken_from s.place part) ≡ symbols_at view s part
symbols-there view s part tail at =
    ap (λ list. map denoted_symbol (each_denoted_once (filter (is_inside s.place) list)))
    (elements_denote view s part tail at)

-- the symbols inside an item
abbrev pub symbols_in : View → TopItem → List Text
symbols_in view top = inner_symbols view top.start (taken_from top.start top.items)

module _ (reading other : Reading) (items others : List (List Item)) (b : Becoming reading (joined_items items) other (joined_items others)) (labels : Labelling) (spelled : Text → Text) (symbols : (scope : Scope) (name : Name) → Contains (denotations reading Es (joined_items items)) (Bound scope name) → denoted_symbol (b.becomes (Bound scope name)) ≡ spelled name.sym) where
  abbrev here : View
  here = view_of reading items

  abbrev there : View
  there = view_of other others

  abbrev Corr : Occurrence → Occurrence → Type 0
  Corr = Corresponds reading other items others b labels

  -- bindings inside the one are called as those inside the other become
  abbrev pub BothCalled : TopItem → TopItem → Type 0
  BothCalled top its =
      symbols_in (view_of other others) its ≡ map spelled (symbols_in (view_of reading items) top)

  parts-split : (s t : Spot) (xs ys zs more : List Item) →
      length (idents_among xs) ≡ length (idents_among zs) →
      AllZip Corr (occurrences_from s (xs ++ ys)) (occurrences_from t (zs ++ more)) →
      AllZip Corr (occurrences_from s xs) (occurrences_from t zs) × AllZip Corr
      (occurrences_from (fold past s xs) ys) (occurrences_from (fold past t zs) more)
  parts-split s t xs ys zs more same all =
      zip-parts Corr (occurrences_from s xs) (occurrences_from (fold past s xs) ys) (occurrences_from t zs) (occurrences_from (fold past t zs) more)
      (names-count xs s ∙ same ∙ sym (names-count zs t))
      (subst (λ os. AllZip Corr os (occurrences_from t zs ++ occurrences_from (fold past t zs) more)) (occurrences-append s xs ys)
      (subst (AllZip Corr (occurrences_from s (xs ++ ys))) (occurrences-append t zs more) all))

  item-called : (s t : Spot) (field its_field : ℕ) → s.path ≡ in_field field module_path →
      t.path ≡ in_field its_field module_path → (item renamed : List Item) →
      PartTurned item renamed → AllZip Corr (occurrences_from s item) (occurrences_from t renamed) →
      symbols_at there t renamed ≡ map spelled (symbols_at here s item)
  item-called s t field its_field path_is its_is item renamed turned all =
      let own = same_field s.path in
      let its = same_field t.path in
      symbols-turn reading other items others b labels spelled symbols s t s t (module-match s t field its_field path_is its_is) own.0 its.0 own.1 its.1 (omega arith) (omega arith) item renamed turned all

  items-called : (s t : Spot) (field its_field : ℕ) → s.path ≡ in_field field module_path →
      t.path ≡ in_field its_field module_path →
      (parts : List (List Item)) (noted : List NotedItem) (renamed : List (List Item))
      (its : List NotedItem) →
      ItemsTurned parts noted renamed its →
      AllZip Corr (occurrences_from s (flat parts)) (occurrences_from t (flat renamed)) →
      (tail its_tail : List Item) → IsSpotAt (joined_items items) s (flat parts ++ tail) →
      IsSpotAt (joined_items others) t (flat renamed ++ its_tail) →
      AllZip BothCalled (placed s.place parts) (placed t.place renamed)
  items-called s t field its_field path_is its_is [] [] [] [] turned all tail its_tail at its_at =
      tt
  items-called s t field its_field path_is its_is [] [] [] (one ∷ its) turned all tail its_tail at its_at = absurd turned
  items-called s t field its_field path_is its_is [] [] (item ∷ renamed) its turned all tail its_tail at its_at = absurd turned
  items-called s t field its_field path_is its_is [] (one ∷ noted) renamed its turned all tail its_tail at its_at = absurd turned
  items-called s t field its_field path_is its_is (part ∷ parts) [] renamed its turned all tail its_tail at its_at = absurd turned
  items-called s t field its_field path_is its_is (part ∷ parts) (one ∷ noted) [] its turned all tail its_tail at its_at = absurd turned
  items-called s t field its_field path_is its_is (part ∷ parts) (one ∷ noted) (item ∷ renamed) [] turned all tail its_tail at its_at = absurd turned
  items-called s t field its_field path_is its_is (part ∷ parts) (one ∷ noted) (item ∷ renamed) (two ∷ its) turned all tail its_tail at its_at =
      let nodes : PartTurned part item = turned-nodes turned.0 in
      let both = parts-split s t part (flat parts) item (flat renamed) nodes.names all in
      let behind = fold-path nodes.nodes s in
      let its_behind = fold-path nodes.its_nodes t in
      let here_at : IsSpotAt (joined_items items) s (part ++ (flat parts ++ tail)) = at-as refl (append_assoc part (flat parts) tail) at in
      let there_at : IsSpotAt (joined_items others) t (item ++ (flat renamed ++ its_tail)) = at-as refl (append_assoc item (flat renamed) its_tail) its_at in
      let rest : AllZip BothCalled (placed (fold past s part).place parts) (placed (fold past t item).place renamed) = items-called (fold past s part) (fold past t item) behind.0 its_behind.0 (behind.1 ∙ ap (in_field behind.0) path_is ∙ field-twice behind.0 field module_path) (its_behind.1 ∙ ap (in_field its_behind.0) its_is ∙ field-twice its_behind.0 its_field module_path) parts noted renamed its turned.1 both.1 tail its_tail (at-behind part (flat parts ++ tail) here_at) (at-behind item (flat renamed ++ its_tail) there_at) in (
        symbols-there there t item (flat renamed ++ its_tail) there_at
            ∙ item-called s t field its_field path_is its_is part item nodes both.0
            ∙ ap (map spelled) (sym (symbols-there here s part (flat parts ++ tail) here_at)),
        subst (λ place. AllZip BothCalled (placed place parts) (placed (t.place + length item) renamed)) (fold-place s part)
            (subst (λ place. AllZip BothCalled (placed (fold past s part).place parts) (placed place renamed)) (fold-place t item) rest),
      )

  -- statements in a function, one after another
  pub statements-called : (base its_base s t : Spot) → SpotsMatch base its_base →
      (field its_field : ℕ) → s.path ≡ in_field field base.path →
      t.path ≡ in_field its_field its_base.path → base.place ≤ s.place → its_base.place ≤ t.place →
      (parts renamed : List (List Item)) → AllZip PartTurned parts renamed →
      AllZip Corr (occurrences_from s (flat parts)) (occurrences_from t (flat renamed)) →
      (tail its_tail : List Item) → IsSpotAt (joined_items items) s (flat parts ++ tail) →
      IsSpotAt (joined_items others) t (flat renamed ++ its_tail) →
      AllZip BothCalled (placed s.place parts) (placed t.place renamed)
  statements-called base its_base s t match field its_field path_is its_is low high [] [] turned all tail its_tail at its_at = tt
  statements-called base its_base s t match field its_field path_is its_is low high [] (item ∷ renamed) turned all tail its_tail at its_at = absurd turned
  statements-called base its_base s t match field its_field path_is its_is low high (part ∷ parts) [] turned all tail its_tail at its_at = absurd turned
  statements-called base its_base s t match field its_field path_is its_is low high (part ∷ parts) (item ∷ renamed) turned all tail its_tail at its_at =
      let nodes : PartTurned part item = turned.0 in
      let both = parts-split s t part (flat parts) item (flat renamed) nodes.names all in
      let behind = fold-path nodes.nodes s in
      let its_behind = fold-path nodes.its_nodes t in
      let place = fold-place s part in
      let its_place = fold-place t item in
      let here_at : IsSpotAt (joined_items items) s (part ++ (flat parts ++ tail)) = at-as refl (append_assoc part (flat parts) tail) at in
      let there_at : IsSpotAt (joined_items others) t (item ++ (flat renamed ++ its_tail)) = at-as refl (append_assoc item (flat renamed) its_tail) its_at in
      let rest : AllZip BothCalled (placed (fold past s part).place parts) (placed (fold past t item).place renamed) = statements-called base its_base (fold past s part) (fold past t item) match behind.0 its_behind.0 (behind.1 ∙ ap (in_field behind.0) path_is ∙ field-twice behind.0 field base.path) (its_behind.1 ∙ ap (in_field its_behind.0) its_is ∙ field-twice its_behind.0 its_field its_base.path) (omega (arith, low, place)) (omega (arith, high, its_place)) parts renamed turned.1 both.1 tail its_tail (at-behind part (flat parts ++ tail) here_at) (at-behind item (flat renamed ++ its_tail) there_at) in (
        symbols-there there t item (flat renamed ++ its_tail) there_at
            ∙ symbols-turn reading other items others b labels spelled symbols base its_base s t match field its_field path_is its_is low high part item nodes both.0
            ∙ ap (map spelled) (sym (symbols-there here s part (flat parts ++ tail) here_at)),
        subst (λ place. AllZip BothCalled (placed place parts) (placed (t.place + length item) renamed)) (fold-place s part)
            (subst (λ place. AllZip BothCalled (placed (fold past s part).place parts) (placed place renamed)) (fold-place t item) rest),
      )

  -- those of a function that has become another
  pub function-called : (s t : Spot) (field its_field : ℕ) → s.path ≡ in_field field module_path →
      t.path ≡ in_field its_field module_path →
      (front its_front back its_back : List Item) (insides its : List (List Item)) →
      FrontTurned front its_front → AllZip PartTurned insides its →
      AllZip Corr (occurrences_from s (front ++ (flat insides ++ back)))
      (occurrences_from t (its_front ++ (flat its ++ its_back))) →
      (tail its_tail : List Item) →
      IsSpotAt (joined_items items) s ((front ++ (flat insides ++ back)) ++ tail) →
      IsSpotAt (joined_items others) t ((its_front ++ (flat its ++ its_back)) ++ its_tail) →
      AllZip BothCalled (placed (s.place + length front) insides)
      (placed (t.place + length its_front) its)
  function-called s t field its_field path_is its_is front its_front back its_back insides its fronts parts all tail its_tail at its_at =
      let one = parts-split s t front (flat insides ++ back) its_front (flat its ++ its_back) fronts.names all in
      let two = parts-split (fold past s front) (fold past t its_front) (flat insides) back (flat its) its_back (flat-names insides its parts) one.1 in
      let own = same_field (fold past s front).path in
      let other_field = same_field (fold past t its_front).path in
      let here_at = at-as refl (append_assoc (flat insides) back tail) (at-behind front ((flat insides ++ back) ++ tail) (at-as refl (append_assoc front (flat insides ++ back) tail) at)) in
      let there_at = at-as refl (append_assoc (flat its) its_back its_tail) (at-behind its_front ((flat its ++ its_back) ++ its_tail) (at-as refl (append_assoc its_front (flat its ++ its_back) its_tail) its_at)) in
      subst (λ place. AllZip BothCalled (placed place insides) (placed (t.place + length its_front) its)) (fold-place s front)
      (subst (λ place. AllZip BothCalled (placed (fold past s front).place insides) (placed place its)) (fold-place t its_front)
      (statements-called (fold past s front) (fold past t its_front) (fold past s front) (fold past t its_front) (fronts.spots s t field its_field path_is its_is) own.0 other_field.0 own.1 other_field.1 (omega arith) (omega arith) insides its parts two.0 (back ++ tail) (its_back ++ its_tail) here_at there_at))

  -- what all occurrences denote
  each-corresponds : (os ps : List Occurrence) → AllZip (StandsInMoved b.move) os ps →
      map (denoted_here there) ps ≡ map b.becomes (map (denoted_here here) os) →
      ((o : Occurrence) → Contains os o → Contains (denotations reading Es (joined_items items)) (denoted_here here o))
      →
      AllZip Corr os ps
  each-corresponds [] [] stands are in_it = tt
  each-corresponds [] (p ∷ ps) stands are in_it = absurd stands
  each-corresponds (o ∷ os) [] stands are in_it = absurd stands
  each-corresponds (o ∷ os) (p ∷ ps) stands are in_it =
      let first : denoted_here there p ≡ b.becomes (denoted_here here o) = cc in
      let later : map (denoted_here there) ps ≡ map b.becomes (map (denoted_here here) os) = cc in
      (record { scopes = stands.0; is = first; denoted = in_it o ((Contains-cons o os o).1 (inl refl)) }, each-corresponds os ps stands.1 later (λ x c. in_it x ((Contains-cons o os x).1 (inr c))))

  all-correspond : AllZip Corr (occurrences_from first_spot (flat items))
      (occurrences_from first_spot (flat others))
  all-correspond =
      subst (λ os. AllZip Corr os (occurrences_from first_spot (flat others))) (item-occurrences (flat items))
      (subst (AllZip Corr (occurrences (joined_items items))) (item-occurrences (flat others))
      (each-corresponds (occurrences (joined_items items)) (occurrences (joined_items others)) b.stands b.are (λ o c. contains-map (denoted_here here) (occurrences (joined_items items)) o c)))

  first-at : IsSpotAt (joined_items items) first_spot (flat items ++ h.Close ∷ [])
  first-at = at-past (h.Open 0 h.Module) (flat items ++ h.Close ∷ []) (at-first (joined_items items))

  its-first-at : IsSpotAt (joined_items others) first_spot (flat others ++ h.Close ∷ [])
  its-first-at =
      at-past (h.Open 0 h.Module) (flat others ++ h.Close ∷ []) (at-first (joined_items others))

  -- all items
  pub all-called : (noted its : List NotedItem) → ItemsTurned items noted others its →
      AllZip BothCalled (placed 1 items) (placed 1 others)
  all-called noted its turned =
      items-called first_spot first_spot 0 0 refl refl items noted others its turned all-correspond
      (h.Close ∷ []) (h.Close ∷ []) first-at its-first-at

  inside-called : (s t : Spot) (field its_field : ℕ) → s.path ≡ in_field field module_path →
      t.path ≡ in_field its_field module_path → {part item : List Item} {one two : NotedItem} →
      ItemTurned part one item two →
      AllZip Corr (occurrences_from s part) (occurrences_from t item) →
      (tail its_tail : List Item) → IsSpotAt (joined_items items) s (part ++ tail) →
      IsSpotAt (joined_items others) t (item ++ its_tail) → InsideAre BothCalled s.place one t.place two
  inside-called s t field its_field path_is its_is (whole_turned turned) all tail its_tail at its_at = tt
  inside-called s t field its_field path_is its_is {part} {item} (function_turned {front = front} {its_front = its_front} {insides = insides} {its = its} back its_back turned is its_made fronts inner) all tail its_tail at its_at =
      function-called s t field its_field path_is its_is front its_front back its_back insides its fronts inner
      (subst (λ xs. AllZip Corr (occurrences_from s xs) (occurrences_from t (its_front ++ (flat its ++ its_back)))) is (subst (λ xs. AllZip Corr (occurrences_from s part) (occurrences_from t xs)) its_made all))
      tail its_tail (subst (λ xs. IsSpotAt (joined_items items) s (xs ++ tail)) is at) (subst (λ xs. IsSpotAt (joined_items others) t (xs ++ its_tail)) its_made its_at)

  insides-called : (s t : Spot) (field its_field : ℕ) → s.path ≡ in_field field module_path →
      t.path ≡ in_field its_field module_path →
      (parts : List (List Item)) (noted : List NotedItem) (renamed : List (List Item))
      (its : List NotedItem) →
      ItemsTurned parts noted renamed its →
      AllZip Corr (occurrences_from s (flat parts)) (occurrences_from t (flat renamed)) →
      (tail its_tail : List Item) → IsSpotAt (joined_items items) s (flat parts ++ tail) →
      IsSpotAt (joined_items others) t (flat renamed ++ its_tail) →
      AllInside BothCalled s.place parts noted t.place renamed its
  insides-called s t field its_field path_is its_is [] noted renamed its turned all tail its_tail at its_at = tt
  insides-called s t field its_field path_is its_is (part ∷ parts) [] renamed its turned all tail its_tail at its_at = tt
  insides-called s t field its_field path_is its_is (part ∷ parts) (one ∷ noted) [] its turned all tail its_tail at its_at = tt
  insides-called s t field its_field path_is its_is (part ∷ parts) (one ∷ noted) (item ∷ renamed) [] turned all tail its_tail at its_at = tt
  insides-called s t field its_field path_is its_is (part ∷ parts) (one ∷ noted) (item ∷ renamed) (two ∷ its) turned all tail its_tail at its_at =
      let nodes : PartTurned part item = turned-nodes turned.0 in
      let both = parts-split s t part (flat parts) item (flat renamed) nodes.names all in
      let behind = fold-path nodes.nodes s in
      let its_behind = fold-path nodes.its_nodes t in
      let here_at : IsSpotAt (joined_items items) s (part ++ (flat parts ++ tail)) = at-as refl (append_assoc part (flat parts) tail) at in
      let there_at : IsSpotAt (joined_items others) t (item ++ (flat renamed ++ its_tail)) = at-as refl (append_assoc item (flat renamed) its_tail) its_at in
      let rest : AllInside BothCalled (fold past s part).place parts noted (fold past t item).place renamed its = insides-called (fold past s part) (fold past t item) behind.0 its_behind.0 (behind.1 ∙ ap (in_field behind.0) path_is ∙ field-twice behind.0 field module_path) (its_behind.1 ∙ ap (in_field its_behind.0) its_is ∙ field-twice its_behind.0 its_field module_path) parts noted renamed its turned.1 both.1 tail its_tail (at-behind part (flat parts ++ tail) here_at) (at-behind item (flat renamed ++ its_tail) there_at) in (
        inside-called s t field its_field path_is its_is turned.0 both.0 (flat parts ++ tail) (flat renamed ++ its_tail) here_at there_at,
        subst (λ place. AllInside BothCalled place parts noted (t.place + length item) renamed its) (fold-place s part)
            (subst (λ place. AllInside BothCalled (fold past s part).place parts noted place renamed its) (fold-place t item) rest),
      )

  -- all functions
  pub all-inside : (noted its : List NotedItem) → ItemsTurned items noted others its →
      AllInside BothCalled 1 items noted 1 others its
  all-inside noted its turned =
      insides-called first_spot first_spot 0 0 refl refl items noted others its turned
      all-correspond (h.Close ∷ []) (h.Close ∷ []) first-at its-first-at

-- ---- merged

-- what is told of an object of `import.meta` is so before and after
told-both : (p : Program) (hooks : Hooks) (items : List (List Item)) (noted : List NotedItem)
    (plan : List Cause) (made : List (List Item)) (others : List NotedItem) →
    AreNotedFor p hooks AsModule items noted plan → AllRemade noted made others → (i m : ℕ) →
    slice_get plan i ≡ Some (HoldsMeta m) →
    (told : ItemMeaning) × (slice_get noted i ≡ Some (AsWhole told)) × (slice_get others i ≡ Some (AsWhole told))
told-both p hooks items noted [] made others each remade i m at = absurd (none-some (HoldsMeta m) at)
told-both p hooks [] [] (cause ∷ plan) made others each remade i m at = absurd each
told-both p hooks [] (one ∷ noted) (cause ∷ plan) made others each remade i m at = absurd each
told-both p hooks (item ∷ items) [] (cause ∷ plan) made others each remade i m at = absurd each
told-both p hooks (item ∷ items) (one ∷ noted) (cause ∷ plan) [] others each remade i m at = absurd remade
told-both p hooks (item ∷ items) (one ∷ noted) (cause ∷ plan) (its ∷ made) [] each remade i m at = absurd remade
told-both p hooks (item ∷ items) (one ∷ noted) (cause ∷ plan) (its ∷ made) (other ∷ others) each remade zero m at =
    by each.0 remade.0 (same_Some cause (HoldsMeta m) at)
  where
    by : {a b : List Item} {x y : NotedItem} {c : Cause} → IsNotedFor p hooks AsModule a x c →
        Remade x b y → c ≡ HoldsMeta m →
        (told : ItemMeaning) × (Some x ≡ Some (AsWhole told)) × (Some y ≡ Some (AsWhole told))
    by (as_whole {told = told} marked stand) (remade_whole again) is = (told, refl, refl)
    by (as_function nodes made_of plain states) again is = absurd cc
told-both p hooks (item ∷ items) (one ∷ noted) (cause ∷ plan) (its ∷ made) (other ∷ others) each remade (suc i) m at =
    told-both p hooks items noted plan made others each.1 remade.1 i m at

module _ (p : Program) (hooks : Hooks) (plan : List Cause) (items : List (List Item)) (noted : List NotedItem) (labels : Labelling) (made : List (List Item)) (others : List NotedItem) (call : Calling) (local : ℕ → ℕ)
    (bundle : IsNotedBundle p hooks items noted plan) (forms : AllOfForm items noted) (count : AllZip OneNode items noted) (one : IsOneToOne labels) (occur : AllOccur ByContext (joined_items items) labels) (agrees : BundleAgrees ByContext labels items noted)
    (remade : AllRemade noted made others) (listing : IsListing (joined_items made))
    (resolved : IsResolved Es (joined_items items)) (names : HasNamesOnly (joined_items items)) (plain : ArePlain (joined_items items)) (rid : IsRidOfKeywords (joined_items items) (joined_items made)) (calls : idents (joined_items made) ≡ map (λ (o : Occurrence). call o.sym o.ctxt) (occurrences (joined_items items))) (faithful : IsFaithful call (occurrences (joined_items items)) (declared ByContext Es (joined_items items))) where
  abbrev b : Becoming ByContext (joined_items items) ByContext (joined_items made)
  b = becoming_recalled call (joined_items items) (joined_items made) names plain faithful rid.same calls

  abbrev pub its_still : IsStillNoted p hooks plan ByContext (joined_items made)
  its_still =
      still p hooks plan ByContext ByContext items noted labels made others bundle forms count one
      occur agrees b remade listing

  labels-are : its_still.labels ≡ labels_of b.becomes labels
  labels-are =
      still-labels p hooks plan ByContext ByContext items noted labels made others bundle forms
      count one occur agrees b remade listing

  pub items-are : its_still.items ≡ made
  items-are =
      still-items p hooks plan ByContext ByContext items noted labels made others bundle forms count
      one occur agrees b remade listing

  told-are : its_still.noted ≡ others
  told-are =
      still-told p hooks plan ByContext ByContext items noted labels made others bundle forms count
      one occur agrees b remade listing

  abbrev first : Pairing
  first = pairing_of labels items plan

  abbrev second : Pairing
  second = pairing_of its_still.labels its_still.items plan

  its-single : AllOf IsSingle made
  its-single = subst (AllOf IsSingle) items-are its_still.bundle.single

  abbrev Both : TopItem → TopItem → Type 0
  Both =
      BothCalled ByContext ByContext items made b labels keyword_free
      (symbol-becomes (joined_items items) (joined_items made) resolved names rid b)

  both : AllZip Both (placed 1 items) (placed 1 made)
  both =
      all-called ByContext ByContext items made b labels keyword_free
      (symbol-becomes (joined_items items) (joined_items made) resolved names rid b) noted others
      (all-turned items noted made others forms remade)

  -- what an item was, and what it is called
  record Was (n : ℕ) (item : TopItem) : Type 0 where
    top : TopItem
    there : slice_get (top_items (joined_items items)) n ≡ Some top
    called : item_symbols (labelled (joined_items made) ByContext second) item ≡
        map keyword_free (item_symbols (labelled (joined_items items) ByContext first) top)

  was : (n : ℕ) (item : TopItem) → slice_get (top_items (joined_items its_still.items)) n ≡ Some item →
      Was n item
  was n item at =
      let here = ap (λ l. slice_get l n) (sym (top_items-joined made its-single)) ∙ ap (λ l. slice_get (top_items (joined_items l)) n) (sym items-are) ∙ at in
      let found = zip-at Both (placed 1 items) (placed 1 made) both n item here in
      record { top = found.0; there = ap (λ l. slice_get l n) (top_items-joined items bundle.single) ∙ found.1; called = found.2 }

  -- contexts
  pub contexts-again : AreCalled (λ x. x) p hooks (labelled (joined_items items) ByContext first) first →
      HasContexts (λ x. x) local (labelled (joined_items items) ByContext first) →
      HasContexts keyword_free local (labelled (joined_items made) ByContext second)
  contexts-again called contexts = record {
    declared = λ scope name m x c kept. contexts-become (joined_items items) (joined_items made) resolved names rid b (recalled-written call (joined_items items) (joined_items made) names plain faithful rid.same calls) labels occur local (λ s n k y c. called.outer s n (Of (IsDeclared k y)) c) (λ s n k y c. contexts.declared s n k y c refl) scope name m x (subst (λ l. Contains l (Bound scope name, Of (IsDeclared m x))) labels-are c) kept;
    stands = λ scope name m x c. contexts-stand (joined_items items) (joined_items made) resolved names rid b labels occur local (λ s n k y c. called.outer s n (Of (IsDeclared k y)) c) (λ s n k y c. contexts.declared s n k y c refl) scope name m x (subst (λ l. Contains l (Bound scope name, Of (IsDeclared m x))) labels-are c);
    globals = globals-become (joined_items items) (joined_items made) resolved names rid b contexts.globals;
  }

  -- the functions of CommonJS modules
  each-again : AreNotedFor p hooks AsModule made others plan
  each-again =
      subst (λ l. AreNotedFor p hooks AsModule made l plan) told-are
      (subst (λ l. AreNotedFor p hooks AsModule l its_still.noted plan) items-are its_still.bundle.each)

  realised : AllZip (Realises p hooks AsModule (labelled (joined_items items) ByContext first))
      (top_items (joined_items items)) plan
  realised = (is_paired p hooks ByContext labels items noted plan bundle one agrees).realised

  common-again : AreCalled (λ x. x) p hooks (labelled (joined_items items) ByContext first) first →
      (c : ℕ) (item : TopItem)
      (g : IsLoadFunction p (labelled (joined_items made) ByContext second) c item) →
      StandsFor second (Defines c) item →
      AllZip (CalledAlike keyword_free (labelled (joined_items made) ByContext second) (own_view p c Cjs))
      (placed (item.start + length g.front) (side_by_side zero g.inside))
      (own_statements (tree_of p c))
  common-again called c item g stands =
      let it = was stands.at item stands.item_there in
      let f = load-function (both-there (Realises p hooks AsModule (labelled (joined_items items) ByContext first)) (top_items (joined_items items)) plan realised stands.at it.top (Defines c) it.there stands.cause_there) refl in
      let there : slice_get (placed 1 items) stands.at ≡ Some it.top = ap (λ l. slice_get l stands.at) (sym (top_items-joined items bundle.single)) ∙ it.there in
      let its_there : slice_get (placed 1 made) stands.at ≡ Some item = ap (λ l. slice_get l stands.at) (sym (top_items-joined made its-single)) ∙ ap (λ l. slice_get (top_items (joined_items l)) stands.at) (sym items-are) ∙ stands.item_there in
      let functions = functions-at Both p hooks AsModule c 1 1 items noted made others plan bundle.each each-again (all-inside ByContext ByContext items made b labels keyword_free (symbol-becomes (joined_items items) (joined_items made) resolved names rid b) noted others (all-turned items noted made others forms remade)) stands.at it.top item stands.cause_there there its_there in
      inside-again keyword_free p (labelled (joined_items items) ByContext first) (labelled (joined_items made) ByContext second) (own_view p c Cjs) c it.top item functions f g (own_statements (tree_of p c)) (called.common_js c it.top f (record { at = stands.at; cause_there = stands.cause_there; item_there = it.there }))

  -- an object of `import.meta` means what it meant
  object-again : (m : ℕ) (item : TopItem) (stands : StandsFor second (HoldsMeta m) item)
      (top : TopItem) → slice_get (top_items (joined_items items)) stands.at ≡ Some top →
      (marks : List Mark) →
      ItemMeans (labelled (joined_items items) ByContext first) top (meta_object m marks) →
      ItemMeans (labelled (joined_items made) ByContext second) item (meta_object m marks)
  object-again m item stands top there marks object =
      let told = told-both p hooks items noted plan made others bundle.each remade stands.at m stands.cause_there in
      let same : told.0.1 ≡ meta_object m marks =
      means-one ByContext labels items plan one bundle.single stands.at top there told.0.1
      (meta_object m marks)
      (told_means p hooks ByContext labels items noted plan bundle agrees stands.at top told.0 there told.1)
      object in
      subst (ItemMeans (labelled (joined_items made) ByContext second) item) same
      (subst (λ l. ItemMeans (labelled (joined_items l) ByContext second) item told.0.1) items-are
      (told_means p hooks ByContext its_still.labels its_still.items its_still.noted plan its_still.bundle its_still.agrees stands.at item told.0 stands.item_there (ap (λ l. slice_get l stands.at) told-are ∙ told.2)))

  -- called
  pub called-again : AreCalled (λ x. x) p hooks (labelled (joined_items items) ByContext first) first →
      AreCalled keyword_free p hooks (labelled (joined_items made) ByContext second) second
  called-again called = record {
    list = called.list;
    is_list = called.is_list;
    outer = λ scope name l c. outer-becomes (joined_items items) (joined_items made) resolved names rid b labels occur p called.list called.outer scope name l (subst (λ ls. Contains ls (Bound scope name, l)) labels-are c);
    own = λ m k item statement stands at.
        let it = was stands.at item stands.item_there in
        it.called ∙ ap (map keyword_free) (called.own m k it.top statement (record { at = stands.at; cause_there = stands.cause_there; item_there = it.there }) at) ∙ map-twice keyword_free (λ x. x) (inner_symbols (own_view p m Es) 0 statement);
    common_js = common-again called;
    helper = λ item stands.
        let it = was stands.at item stands.item_there in
        it.called ∙ ap (map keyword_free) (called.helper it.top (record { at = stands.at; cause_there = stands.cause_there; item_there = it.there }));
    metas = λ m item stands.
        let it = was stands.at item stands.item_there in
        let meta = called.metas m it.top (record { at = stands.at; cause_there = stands.cause_there; item_there = it.there }) in
        record {
          properties = meta.properties;
          held = meta.held;
          marks = meta.marks;
          means = meta.means;
          object = object-again m item stands it.top it.there meta.marks meta.object;
          alike = it.called ∙ ap (map keyword_free) meta.alike ∙ map-twice keyword_free (λ x. x) _;
        };
  }

  -- the merged bundle without keywords
  pub merged-again : AreCalled (λ x. x) p hooks (labelled (joined_items items) ByContext first) first →
      HasContexts (λ x. x) local (labelled (joined_items items) ByContext first) →
      IsLaidOut p AsModule ByContext (joined_items made) second → BindsOwn (joined_items made) →
      IsMerged keyword_free local p hooks (joined_items made)
  merged-again called contexts laid own = record {
    is_bundle = record { pairing = second; paired = its_still.paired; laid_out = laid };
    resolved = rid.free.resolved;
    named = faithful-names call (joined_items items) (joined_items made) names plain faithful rid.same calls;
    contexts = contexts-again called contexts;
    binds = own;
    called = called-again called;
  }

-- ---- keeping
module _ (p : Program) (hooks : Hooks) (plan : List Cause) (items : List (List Item)) (noted : List NotedItem) (labels : Labelling) (call : Calling) (local : ℕ → ℕ)
    (bundle : IsNotedBundle p hooks items noted plan) (forms : AllOfForm items noted) (count : AllZip OneNode items noted) (lone : AllZip NoLone items noted) (one : IsOneToOne labels) (occur : AllOccur ByContext (joined_items items) labels) (agrees : BundleAgrees ByContext labels items noted)
    (size : length (top_items (joined_items items)) ≡ length plan) (laid : IsLaidOut p AsModule ByContext (joined_items items) (pairing_of labels items plan))
    (resolved : IsResolved Es (joined_items items)) (names : HasNamesOnly (joined_items items)) (plain : ArePlain (joined_items items)) (ways : HasWays (joined_items items)) (objects : HasObjects ByContext (joined_items items))
    (rule : IsKeywordRule call (joined_items items)) (listed : AreListed Other (joined_items items)) where
  abbrev tree : List Item
  tree = joined_items items

  editable : IsEditable tree
  editable = let edited = items-edited items noted tree forms lone refl in record { changes = _; after = node 0 h.Module edited.made; left = []; edits = Inside 0 h.Module refl edited.edits }

  faithful : IsFaithful call (occurrences tree) (declared ByContext Es tree)
  faithful = rule-faithful call tree names rule

  all : Renewed items noted (changes_to (idents tree) (called_idents call tree))
  all =
      renewed items noted (changes_to (idents tree) (called_idents call tree)) forms lone
      (subst (AllZip KeepsText (changes_to (idents tree) (called_idents call tree))) (module-names items) (changes-keep (idents tree) (called_idents call tree) (as-many call tree)))

  its_idents : idents (joined_items all.made) ≡ called_idents call tree
  its_idents = ap idents (sym all.is) ∙ calls call tree names plain editable faithful

  rid : IsRidOfKeywords tree (joined_items all.made)
  rid =
      subst (IsRidOfKeywords tree) all.is
      (rid-of-keywords call tree names plain editable faithful resolved rule.calling)

  listing : IsListing (joined_items all.made)
  listing = subst IsListing all.is (free-listing call tree editable listed)

  abbrev after : IsStillNoted p hooks plan ByContext (joined_items all.made)
  after =
      its_still p hooks plan items noted labels all.made all.others call local bundle forms count
      one occur agrees all.remade listing resolved names plain rid its_idents faithful

  edits : Edits Anywhere (changes_to (idents tree) (idents (joined_items all.made))) (flat items)
      (flat all.made) []
  edits =
      subst (λ l. Edits Anywhere (changes_to (idents tree) l) (flat items) (flat all.made) [])
      (sym its_idents) all.edits

  ordered : (tops others : List TopItem) → AllZip (AtOne tree (joined_items all.made)) tops others →
      (owners : List (Option ℕ)) (order : List ℕ) →
      IsGoodOrder (group_of ByContext Top tree tops owners) order →
      IsGoodOrder (group_of ByContext Top (joined_items all.made) others owners) order
  ordered tops others at owners order good =
      (keyword-good_order 0 (joined_items all.made) edits rid ways objects tops others at owners owners (owners-refl owners) order).0
      good

  its_laid : IsLaidOut p AsModule ByContext (joined_items all.made)
      (pairing_of after.labels after.items plan)
  its_laid =
      layout-stays p AsModule ByContext ByContext tree (joined_items all.made) plan labels after.labels
      items after.items refl after.is
      (size ∙ sym (body-length p hooks plan ByContext (joined_items all.made) after)) ordered laid

  pub kept-joined : AreCalled (λ x. x) p hooks
      (labelled tree ByContext (pairing_of labels items plan)) (pairing_of labels items plan) →
      HasContexts (λ x. x) local (labelled tree ByContext (pairing_of labels items plan)) → BindsOwn tree →
      IsMerged keyword_free local p hooks (recall call tree)
  kept-joined called contexts own =
      subst (IsMerged keyword_free local p hooks) (sym all.is)
      (merged-again p hooks plan items noted labels all.made all.others call local bundle forms count one occur agrees all.remade listing resolved names plain rid its_idents faithful called contexts its_laid (keyword-own tree (joined_items all.made) (Inside 0 h.Module refl edits) rid.free (record { own = own })).own)

-- what is merged stays so without them
pub keywords-keep-merged : (p : Program) (hooks : Hooks) (plan : List Cause) (merged : List Item)
    (its : IsWholeBundle p hooks plan merged) (call : Calling) →
    IsKeywordRule call merged → AreListed Other merged → (local : ℕ → ℕ) →
    AreCalled (λ x. x) p hooks
    (labelled merged ByContext (pairing_of its.ready.still.labels its.ready.still.items plan))
    (pairing_of its.ready.still.labels its.ready.still.items plan) →
    HasContexts (λ x. x) local
    (labelled merged ByContext (pairing_of its.ready.still.labels its.ready.still.items plan)) →
    BindsOwn merged → IsMerged keyword_free local p hooks (recall call merged)
keywords-keep-merged p hooks plan merged its call rule listed local called contexts own =
    let still = its.ready.still in
    let is : merged ≡ joined_items still.items = still.is in
    subst (λ t. IsMerged keyword_free local p hooks (recall call t)) (sym is)
    (kept-joined p hooks plan still.items still.noted still.labels call local still.bundle its.ready.forms its.ready.count its.ready.lone still.one still.occur still.agrees (body-length p hooks plan ByContext merged still)
    (subst (λ t. IsLaidOut p AsModule ByContext t (pairing_of still.labels still.items plan)) is its.laid)
    (subst (IsResolved Es) is its.resolved) (subst HasNamesOnly is its.names) (subst ArePlain is its.plain) (subst HasWays is its.ways) (subst (HasObjects ByContext) is its.objects)
    (subst (IsKeywordRule call) is rule) (subst (AreListed Other) is listed)
    (subst (λ t. AreCalled (λ x. x) p hooks (labelled t ByContext (pairing_of still.labels still.items plan)) (pairing_of still.labels still.items plan)) is called)
    (subst (λ t. HasContexts (λ x. x) local (labelled t ByContext (pairing_of still.labels still.items plan))) is contexts) (subst BindsOwn is own))
