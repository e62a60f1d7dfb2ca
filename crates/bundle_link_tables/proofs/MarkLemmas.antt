-- The first import of each name that imports bind.
-- What is put into a set of texts, one by one, is there once, in the order in which it came first.
-- Places that are marked, one by one; and a set of texts that grows by lists of texts.
-- The words of the reads around a place are those of the reads that begin right before it.
-- What the entries of a table of denotations use is what the occurrences of the list use.
use Rattle.std.proofs.Common.{◌≡◌, ℕ, suc, ◌+◌, ◌<◌, Bool, true, false, List, [], ◌∷◌, ◌++◌, Option, Some, None, arith, length, map, take, get_or, refl, ap, sym, ◌∙◌, cond, bytes_eq, option_map, append-nil, ◌≤◌, ◌⊎◌, ◌&&◌, set, inl, inr, ltb, eqb, zero, ◌-◌, All, true≢false, append_assoc, subst}
use Rattle.std.specs.Option.{option_or, option_map as option_map_mark, option_and_then}
use Rattle.std.proofs.lemmas.List.{map-append, get_or-set_same, get_or-set_other, get_or-map, length-map}
use Rattle.std.proofs.Math.Seq.{take-suc}
use Rattle.std.proofs.lemmas.List.Folds.{find-append, list_any-append, list_any_more}
use Rattle.std.specs.Prelude.{is_some, ◌||◌, filter, not, if◌then◌else◌, slice_get}
use Rattle.std.specs.Borrow.{Bor}
use Rattle.std.specs.HashMap.{HashMap, UpdatesBy, get_by}
use Rattle.std.proofs.lemmas.Map.Text.{hash_map_updates_str}
use Rattle.std.specs.List.{list_any, flat_map, AllZip}
use Rattle.std.proofs.lemmas.Slice.Eq.{bytes_eq-Decides}
use Rattle.std.proofs.lemmas.Bool.{cases_eq, eq-eqb, ne_eqb, lt-ltb, le-ltb, eqb-true}
use Rattle.std.proofs.lemmas.List.Concat.{flat_map-append}
use Rattle.std.proofs.lemmas.Option.{slice_get-map, none-some, same_Some, slice_get_within}
use Rattle.std.proofs.lemmas.List.Elements.{All-append, All-cons}
use Rattle.indexmap.specs.IndexSet.{insert_key}
use Rattle.indexmap.specs.IndexMap.{IndexMap, get_by as get_by_use}
use Rattle.bundle_syntax.specs.declared.piece.Piece.{Piece}
use Rattle.bundle_syntax.specs.Item as h
use Rattle.bundle_syntax.specs.Item.{item_of, Item}
use Rattle.bundle_syntax.specs.declared.piece.Role.TheVariants as r
use Rattle.bundle_rules.specs.Nodes.{Text, each_once, has_text, node_at}
use Rattle.bundle_rules.specs.Entries.{ImportEntry, import_of, imports_of}
use Rattle.bundle_rules.specs.Places.{Around, Spot, in_field, past, start, spot_before, path_to_option, path_at, Occurrence, occurrence_at, occurrence_of, occurrences}
use Rattle.bundle_rules.proofs.PlacesLemmas.{fold_past-take}
use Rattle.bundle_rules.specs.Reads.{is_optional_base, is_written_to, property_of, read_word}
use Rattle.bundle_rules.specs.Scopes.{Es, Scope}
use Rattle.bundle_rules.specs.Declarations.{BySymbol}
use Rattle.bundle_rules.specs.Homes.{is_top}
use Rattle.bundle_rules.specs.Denotes
use Rattle.bundle_scope_denote.specs.declared.table.Denoted.{Denoted}
use Rattle.bundle_tree_places.proofs.PlaceLemmas.{none_read}
use Rattle.bundle_tree_places.specs.declared.places.ReadAt.{ReadAt}
use Rattle.bundle_tree_places.specs.Placed.{AreTold, word_told}
use Rattle.bundle_tree_places.specs.Seconds.{second_of, word_at}
use Rattle.bundle_tree_places.proofs.SecondLemmas.{property_by, property_is}
use Rattle.bundle_scope_denote.specs.declared.table.Denotations.{Denotations}
use Rattle.bundle_scope_denote.specs.declared.table.Scope.{Scope as Kinded}
use Rattle.bundle_scope_denote.specs.declared.table.ScopeKind.{ScopeKind}
use Rattle.bundle_scope_denote.specs.Kinds.{scope_as}
use Rattle.bundle_scope_denote.specs.Numbers.{NumberedScope, numbered_scope}
use Rattle.bundle_scope_denote.specs.Listed.{IsDenoted, IsTableEntry, IsDenotationTable}
use Rattle.bundle_tree_places.specs.Stated.{is_in_statement}
use Rattle.bundle_scope_denote.specs.declared.table.ScopeKind.TheVariants
use Rattle.bundle_link_tables.specs.Exported.{Finds, import_by}
use Rattle.bundle_link_tables.specs.TablesOf.{import_entry_of}
use Rattle.bundle_link_tables.specs.declared.table.ImportRef.{ImportRef}
use Rattle.bundle_link_tables.proofs.FaultLemmas.{same_texts as same_text}
use Rattle.bundle_link_tables.specs.Free.{frees, is_place_marked}
use Rattle.bundle_link_tables.specs.declared.table.MemberRead.{MemberRead}
use Rattle.bundle_link_tables.specs.Used.{name_read, place_read, places_before, words_around, UseEntry, is_bound_at_top, is_use, use_of, uses_of}
use Rattle.bundle_link_tables.specs.declared.walk.ImportedName.{ImportedName}
use Rattle.bundle_link_tables.specs.Walked.{AreWordsRead, begins_member, is_behind_member, word_before, words_before, SaysUses, has_import, is_own_binding, is_own_kind, is_own_number, is_own_scope, named_at, named_use, placed_names, pairs_at, symbol_if, uses_of_name}
use Rattle.bundle_link_tables.proofs.CallLemmas.{fold_past-place, Paired, meaning, paired}
use Rattle.bundle_link_tables.specs.declared.table.Use.{Use}
use Rattle.bundle_link_tables.specs.Within.{IsStated}

-- ---- local
or_none : (found : Option ImportEntry) → option_or found None ≡ found
or_none None = refl
or_none (Some entry) = refl

-- an import of a name that no import before it binds is the first of it
pub first_noted : (look new : Text → Option ImportEntry) (es : List ImportEntry) (entry : ImportEntry) → ((x : Text) → look x ≡ import_of es x) → look entry.local ≡ None → ((x : Text) → new x ≡ cond (bytes_eq entry.local x) (Some entry) (look x)) → (x : Text) → new x ≡ import_of (es ++ entry ∷ []) x
first_noted look new es entry known free put x =
    put x ∙ step (bytes_eq entry.local x) refl ∙ sym (find-append (λ it. bytes_eq it.local x) es (entry ∷ []))
  where
    step : (b : Bool) → b ≡ bytes_eq entry.local x → cond b (Some entry) (look x) ≡ option_or (import_of es x) (cond b (Some entry) None)
    step true is = ap (λ found. option_or found (Some entry)) (sym free ∙ ap look (same_text entry.local x (sym is)) ∙ known x)
    step false is = known x ∙ sym (or_none (import_of es x))

-- an import of a name that one before it binds is not
pub first_kept : (look : Text → Option ImportEntry) (es : List ImportEntry) (entry first : ImportEntry) → ((x : Text) → look x ≡ import_of es x) → look entry.local ≡ Some first → (x : Text) → look x ≡ import_of (es ++ entry ∷ []) x
first_kept look es entry first known there x =
    step (bytes_eq entry.local x) refl ∙ sym (find-append (λ it. bytes_eq it.local x) es (entry ∷ []))
  where
    step : (b : Bool) → b ≡ bytes_eq entry.local x → look x ≡ option_or (import_of es x) (cond b (Some entry) None)
    step true is =
        let found : look x ≡ Some first = ap look (sym (same_text entry.local x (sym is))) ∙ there in
        found ∙ ap (λ it. option_or it (Some entry)) (sym found ∙ known x)
    step false is = known x ∙ sym (or_none (import_of es x))

map_cond : (b : Bool) (import : ImportRef) (other : Option ImportRef) → option_map import_entry_of (cond b (Some import) other) ≡ cond b (Some (import_entry_of import)) (option_map import_entry_of other)
map_cond true import other = refl
map_cond false import other = refl

map_none : (found : Option ImportRef) → is_some found ≡ false → option_map import_entry_of found ≡ None
map_none None none = refl
map_none (Some import) none = cc

-- the same in a table of locals: of a new name, and of one that was noted
pub finds_noted : {S : Type 0} (m n : HashMap (Bor Text) ImportRef S) (es : List ImportEntry) (import : ImportRef) → Finds m es → is_some (get_by (λ k. bytes_eq import.local.now k.now) m) ≡ false → UpdatesBy (λ x y. bytes_eq x.now y.now) (λ k. bytes_eq import.local.now k.now) m n (Some import) → Finds n (es ++ import_entry_of import ∷ [])
finds_noted m n es import known free put =
    first_noted (import_by m) (import_by n) es (import_entry_of import) known (map_none (get_by (λ k. bytes_eq import.local.now k.now) m) free)
    (λ x. ap (option_map import_entry_of) (hash_map_updates_str import.local.now m n (Some import) put x) ∙ map_cond (bytes_eq import.local.now x) import (get_by (λ k. bytes_eq x k.now) m))

pub finds_kept : {S : Type 0} (m : HashMap (Bor Text) ImportRef S) (es : List ImportEntry) (import : ImportRef) → Finds m es → is_some (get_by (λ k. bytes_eq import.local.now k.now) m) ≡ true → Finds m (es ++ import_entry_of import ∷ [])
finds_kept m es import known there = by_found (get_by (λ k. bytes_eq import.local.now k.now) m) refl there
  where
    by_found : (found : Option ImportRef) → found ≡ get_by (λ k. bytes_eq import.local.now k.now) m → is_some found ≡ true → Finds m (es ++ import_entry_of import ∷ [])
    by_found None is some = cc
    by_found (Some first) is some = first_kept (import_by m) es (import_entry_of import) (import_entry_of first) known (ap (option_map import_entry_of) (sym is))

-- one element more was passed
pub one_more : {A B : Type 0} (f : A → B) (xs : List A) (i : ℕ) (d : A) → i < length xs → map f (take i xs) ++ f (get_or xs i d) ∷ [] ≡ map f (take (i + 1) xs)
one_more f xs i d inside =
    let next : suc i ≡ i + 1 = omega arith in
    sym (map-append f (take i xs) (get_or xs i d ∷ [])) ∙ ap (map f) (sym (take-suc xs i d inside)) ∙ ap (λ n. map f (take n xs)) next

-- ---- once

-- texts compare alike both ways
pub swapped : (x y : Text) → bytes_eq x y ≡ bytes_eq y x
swapped x y = both (bytes_eq x y) (bytes_eq y x) refl refl
  where
    both : (a b : Bool) → bytes_eq x y ≡ a → bytes_eq y x ≡ b → a ≡ b
    both true true one other = refl
    both false false one other = refl
    both true false one other = sym other' ∙ other
      where
        other' : bytes_eq y x ≡ true
        other' = (bytes_eq-Decides y x).1 (sym ((bytes_eq-Decides x y).0 one))
    both false true one other = sym one ∙ one'
      where
        one' : bytes_eq x y ≡ true
        one' = (bytes_eq-Decides x y).1 (sym ((bytes_eq-Decides y x).0 other))

pub or_true : (b : Bool) → (b || true) ≡ true
or_true true = refl
or_true false = refl

filter_append : (test : Text → Bool) (a b : List Text) → filter test (a ++ b) ≡ filter test a ++ filter test b
filter_append test [] b = refl
filter_append test (x ∷ a) b = step (test x) (filter_append test a b)
  where
    step : (t : Bool) → filter test (a ++ b) ≡ filter test a ++ filter test b → (if t then x ∷ filter test (a ++ b) else filter test (a ++ b)) ≡ (if t then x ∷ filter test a else filter test a) ++ filter test b
    step true same = ap (λ l. x ∷ l) same
    step false same = same

-- each text once, with one more behind
once_behind : (xs : List Text) (y : Text) → each_once (xs ++ y ∷ []) ≡ (if has_text y xs then each_once xs else each_once xs ++ y ∷ [])
once_behind [] y = refl
once_behind (x ∷ xs) y =
    ap (λ l. x ∷ filter (λ z. not (bytes_eq x z)) l) (once_behind xs y) ∙ step (has_text y xs) (bytes_eq y x) (swapped x y)
  where
    others : Text → Bool
    others z = not (bytes_eq x z)

    kept : List Text
    kept = filter others (each_once xs)

    last : (same : Bool) → ◌≡◌ {A = List Text} (x ∷ (kept ++ (if not same then y ∷ [] else []))) (if (same || false) then x ∷ kept else (x ∷ kept) ++ y ∷ [])
    last true = ap (λ l. x ∷ l) (append-nil kept)
    last false = refl

    step : (there same : Bool) → bytes_eq x y ≡ same → ◌≡◌ {A = List Text} (x ∷ filter others (if there then each_once xs else each_once xs ++ y ∷ [])) (if (same || there) then x ∷ kept else (x ∷ kept) ++ y ∷ [])
    step true same is = ap (λ b. if b then x ∷ kept else (x ∷ kept) ++ y ∷ []) (sym (or_true same))
    step false same is = ap (λ l. x ∷ l) (filter_append others (each_once xs) (y ∷ []) ∙ ap (λ b. kept ++ (if not b then y ∷ [] else [])) is) ∙ last same

-- what is left out is another text
has_others : (x y : Text) (l : List Text) → bytes_eq y x ≡ false → has_text y (filter (λ z. not (bytes_eq x z)) l) ≡ has_text y l
has_others x y [] other = refl
has_others x y (z ∷ l) other = step (has_others x y l other) (bytes_eq x z) refl
  where
    step : has_text y (filter (λ z. not (bytes_eq x z)) l) ≡ has_text y l → (same : Bool) → bytes_eq x z ≡ same → has_text y (if not same then z ∷ filter (λ z. not (bytes_eq x z)) l else filter (λ z. not (bytes_eq x z)) l) ≡ has_text y (z ∷ l)
    step rest true is = rest ∙ ap (λ b. b || has_text y l) (sym (ap (bytes_eq y) (sym ((bytes_eq-Decides x z).0 is)) ∙ other))
    step rest false is = ap (λ b. bytes_eq y z || b) rest

-- the same texts are there
has_once : (y : Text) (xs : List Text) → has_text y (each_once xs) ≡ has_text y xs
has_once y [] = refl
has_once y (x ∷ xs) = step (has_once y xs) (bytes_eq y x) refl
  where
    step : has_text y (each_once xs) ≡ has_text y xs → (same : Bool) → bytes_eq y x ≡ same → (same || has_text y (filter (λ z. not (bytes_eq x z)) (each_once xs))) ≡ (same || has_text y xs)
    step rest true is = refl
    step rest false is = has_others x y (each_once xs) is ∙ rest

-- a set of texts holds those that its keys are
pub has_key : (k : Bor Text) (ks : List (Bor Text)) → list_any (λ other. bytes_eq k.now other.now) ks ≡ has_text k.now (map (λ key. key.now) ks)
has_key k [] = refl
has_key k (first ∷ ks) = ap (λ b. bytes_eq k.now first.now || b) (has_key k ks)

pub map_put : (b : Bool) (k : Bor Text) (ks : List (Bor Text)) → map (λ key. key.now) (if b then ks else ks ++ k ∷ []) ≡ (if b then map (λ key. key.now) ks else map (λ key. key.now) ks ++ k.now ∷ [])
map_put true k ks = refl
map_put false k ks = map-append (λ key. key.now) ks (k ∷ [])

pub once_put : (seen : List Text) (old new : List (Bor Text)) (k : Bor Text) → new ≡ insert_key (λ x y. bytes_eq x.now y.now) old k → map (λ key. key.now) old ≡ each_once seen → map (λ key. key.now) new ≡ each_once (seen ++ k.now ∷ [])
once_put seen old new k put before =
    ap (map (λ key. key.now)) put
    ∙ map_put (list_any (λ other. bytes_eq k.now other.now) old) k old
    ∙ ap (λ b. if b then map (λ key. key.now) old else map (λ key. key.now) old ++ k.now ∷ []) (has_key k old)
    ∙ ap (λ texts. if has_text k.now texts then texts else texts ++ k.now ∷ []) before
    ∙ ap (λ b. if b then each_once seen else each_once seen ++ k.now ∷ []) (has_once k.now seen)
    ∙ sym (once_behind seen k.now)

pub or_false : (b : Bool) → (b || false) ≡ b
or_false true = refl
or_false false = refl

-- a set holds one text more
pub texts_put : (texts : List Text) (old new : List (Bor Text)) (k : Bor Text) → new ≡ insert_key (λ x y. bytes_eq x.now y.now) old k → ((x : Text) → list_any (λ key. bytes_eq x key.now) old ≡ has_text x texts) → (x : Text) → list_any (λ key. bytes_eq x key.now) new ≡ has_text x (texts ++ k.now ∷ [])
texts_put texts old new k put before x =
    ap (list_any (λ key. bytes_eq x key.now)) put
    ∙ step (list_any (λ other. bytes_eq k.now other.now) old) (bytes_eq x k.now) refl refl
    ∙ sym (list_any-append (bytes_eq x) texts (k.now ∷ []))
  where
    step : (there same : Bool) → list_any (λ other. bytes_eq k.now other.now) old ≡ there → bytes_eq x k.now ≡ same → list_any (λ key. bytes_eq x key.now) (if there then old else old ++ k ∷ []) ≡ (has_text x texts || (same || false))
    step false same is here =
        list_any-append (λ key. bytes_eq x key.now) old (k ∷ []) ∙ ap (λ b. b || (bytes_eq x k.now || false)) (before x) ∙ ap (λ b. has_text x texts || (b || false)) here
    step true true is here =
        let found : has_text x texts ≡ true = ap (λ y. has_text y texts) ((bytes_eq-Decides x k.now).0 here) ∙ sym (before k.now) ∙ is in
        before x ∙ found ∙ ap (λ b. b || true) (sym found)
    step true false is here = before x ∙ sym (or_false (has_text x texts))

-- ---- mark
pub and_false : (b : Bool) → (b && false) ≡ false
and_false true = refl
and_false false = refl

-- one place is marked
pub marked_one : (free : List Bool) (at place : ℕ) → at < length free → is_place_marked (set free at true) place ≡ (is_place_marked free place || (ltb place (length free) && eqb at place))
marked_one free at place inside = by (cases_eq at place)
  where
    by : (at ≡ place) ⊎ (at ≡ place → ⊥) → get_or (set free at true) place false ≡ (get_or free place false || (ltb place (length free) && eqb at place))
    by (inl same) =
        let here : ltb place (length free) ≡ true = lt-ltb place (length free) (omega (arith, same)) in
        ap (λ p. get_or (set free at true) p false) (sym same)
        ∙ get_or-set_same free at true false inside
        ∙ sym (or_true (get_or free place false))
        ∙ ap (λ b. get_or free place false || (b && true)) (sym here)
        ∙ ap (λ b. get_or free place false || (ltb place (length free) && b)) (sym (eq-eqb at place same))
    by (inr other) =
        get_or-set_other free at place true false (λ e. other (sym e))
        ∙ sym (or_false (get_or free place false))
        ∙ ap (λ b. get_or free place false || b) (sym (and_false (ltb place (length free))))
        ∙ ap (λ b. get_or free place false || (ltb place (length free) && b)) (sym (ne_eqb at place other))

-- an entry that is not free marks none
pub marked_none : (free : List Bool) (place : ℕ) (b f : Bool) → f ≡ false → is_place_marked free place ≡ (is_place_marked free place || (b && f))
marked_none free place b f is = sym (or_false (is_place_marked free place)) ∙ ap (λ c. is_place_marked free place || c) (sym (and_false b)) ∙ ap (λ c. is_place_marked free place || (b && c)) (sym is)

-- an entry of a place past the end marks none
pub marked_past : (free : List Bool) (place at : ℕ) (f : Bool) → length free ≤ at → is_place_marked free place ≡ (is_place_marked free place || (ltb place (length free) && (eqb at place && f)))
marked_past free place at f past = by (cases_eq at place)
  where
    by : (at ≡ place) ⊎ (at ≡ place → ⊥) → get_or free place false ≡ (get_or free place false || (ltb place (length free) && (eqb at place && f)))
    by (inl same) =
        sym (or_false (get_or free place false))
        ∙ ap (λ b. get_or free place false || (b && (eqb at place && f))) (sym (le-ltb place (length free) (omega (arith, same, past))))
    by (inr other) =
        sym (or_false (get_or free place false))
        ∙ ap (λ b. get_or free place false || b) (sym (and_false (ltb place (length free))))
        ∙ ap (λ b. get_or free place false || (ltb place (length free) && (b && f))) (sym (ne_eqb at place other))

both : (inside any one : Bool) → ((inside && any) || (inside && one)) ≡ (inside && (any || one))
both true any one = refl
both false any one = refl

-- an entry more was passed
pub marks_next : (place count : ℕ) (old new : List Bool) (entries : List Denoted) (i : ℕ) (d : Denoted) → is_place_marked new place ≡ (is_place_marked old place || (ltb place (length old) && frees place (get_or entries i d))) → length old ≡ count → is_place_marked old place ≡ (ltb place count && list_any (frees place) (take i entries)) → i < length entries → is_place_marked new place ≡ (ltb place count && list_any (frees place) (take (i + 1) entries))
marks_next place count old new entries i d step long known inside =
    step
    ∙ ap (λ n. is_place_marked old place || (ltb place n && frees place (get_or entries i d))) long
    ∙ ap (λ b. b || (ltb place count && frees place (get_or entries i d))) known
    ∙ both (ltb place count) (list_any (frees place) (take i entries)) (frees place (get_or entries i d))
    ∙ ap (λ b. ltb place count && b) (sym (list_any_more (frees place) entries i d inside))

-- lists of an element more
pub flat_next : {A B : Type 0} (f : A → List B) (xs : List A) (i : ℕ) (d : A) → i < length xs → flat_map f (take i xs) ++ f (get_or xs i d) ≡ flat_map f (take (i + 1) xs)
flat_next f xs i d inside =
    let next : suc i ≡ i + 1 = omega arith in
    ap (λ l. flat_map f (take i xs) ++ l) (sym (append-nil (f (get_or xs i d))))
    ∙ sym (flat_map-append f (take i xs) (get_or xs i d ∷ []))
    ∙ ap (flat_map f) (sym (take-suc xs i d inside) ∙ ap (λ n. take n xs) next)

-- the item of an element of a list
pub get_mapped : (pieces : List Piece) (place : ℕ) → slice_get (map item_of pieces) place ≡ option_map_mark item_of (slice_get pieces place)
get_mapped pieces place = slice_get-map item_of pieces place

-- the same two, of a list that is told in two ways
pub marks_next_of : (place count : ℕ) (old new : List Bool) (entries items : List Denoted) (i : ℕ) (d : Denoted) → entries ≡ items → is_place_marked new place ≡ (is_place_marked old place || (ltb place (length old) && frees place (get_or entries i d))) → length old ≡ count → is_place_marked old place ≡ (ltb place count && list_any (frees place) (take i items)) → i < length entries → is_place_marked new place ≡ (ltb place count && list_any (frees place) (take (i + 1) items))
marks_next_of place count old new entries items i d same step long known inside =
    marks_next place count old new entries i d step long (known ∙ ap (λ l. ltb place count && list_any (frees place) (take i l)) (sym same)) inside
    ∙ ap (λ l. ltb place count && list_any (frees place) (take (i + 1) l)) same

pub flat_next_of : {A B : Type 0} (f : A → List B) (xs items : List A) (i : ℕ) (d : A) → xs ≡ items → i < length xs → flat_map f (take i items) ++ f (get_or xs i d) ≡ flat_map f (take (i + 1) items)
flat_next_of f xs items i d same inside =
    ap (λ l. flat_map f (take i l) ++ f (get_or xs i d)) (sym same) ∙ flat_next f xs i d inside ∙ ap (λ l. flat_map f (take (i + 1) l)) same

-- ---- word
module _ (tree : List Item) where
  no_property : (p : ℕ) (x : Option Item) → begins_member x ≡ false → property_by tree x p ≡ None
  no_property p None unbegun = refl
  no_property p (Some item) unbegun = ap (λ b. cond b (word_at tree (second_of tree p)) None) unbegun

  -- nothing is read where no member begins
  no_read : (p : ℕ) (x : Option Item) → slice_get tree p ≡ x → begins_member x ≡ false → read_word tree p ≡ None
  no_read p x at unbegun = none_read (is_written_to (path_at tree p) || is_optional_base (path_at tree p)) (property_of (node_at tree p)) (property_is tree p x at ∙ no_property p x unbegun)

  -- what reads there are right before a place
  abbrev reads_at : ℕ → List Around → ℕ → List Text
  reads_at p outer begins = elim (read_word tree begins) [ None ↦ [] | Some x ↦ x ∷ words_around tree begins outer ]

  -- none is
  around_none : (p : ℕ) (path : List Around) → read_word tree p ≡ None → words_around tree (suc p) path ≡ []
  around_none p [] none = refl
  around_none p (node ∷ outer) none = by (eqb (node.begins + 1) (suc p)) refl
    where
      by : (b : Bool) → eqb (node.begins + 1) (suc p) ≡ b → (if b then reads_at p outer node.begins else []) ≡ []
      by false is = refl
      by true is =
          let equal : node.begins + 1 ≡ suc p = eqb-true (node.begins + 1) (suc p) is in
          let same : node.begins ≡ p = omega (arith, equal) in
          ap (λ (word : Option Text). elim word [ None ↦ [] | Some x ↦ x ∷ words_around tree node.begins outer ]) (ap (read_word tree) same ∙ none)

  -- one is, in the nodes around it
  around_open : (p : ℕ) (node : Around) (outer : List Around) → node.begins ≡ p → words_around tree p outer ≡ words_before (read_word tree) p → words_around tree (suc p) (node ∷ outer) ≡ words_before (read_word tree) (suc p)
  around_open p node outer is inner =
      let here : eqb (node.begins + 1) (suc p) ≡ true = eq-eqb (node.begins + 1) (suc p) (omega (arith, is)) in
      ap (λ b. if b then reads_at p outer node.begins else []) here
      ∙ (ap (λ k. reads_at p outer k) is
      ∙ ap (λ (words : List Text). elim (read_word tree p) [ None ↦ [] | Some x ↦ x ∷ words ]) inner)

  -- the innermost node may be told with any field
  record Headed (node : Around) (outer : List Around) (path : List Around) : Type 0 where
    head : Around
    is : path ≡ head ∷ outer
    begins : head.begins ≡ node.begins

  headed : (node : Around) (outer : List Around) (x : Option Item) → Headed node outer (path_to_option (node ∷ outer) x)
  headed node outer None = record { head = node; is = refl; begins = refl }
  headed node outer (Some (h.Open field head)) = record { head = record node { field = field }; is = refl; begins = refl }
  headed node outer (Some (h.Ident field symbol ctxt role)) = record { head = record node { field = field }; is = refl; begins = refl }
  headed node outer (Some (h.Hole field)) = record { head = record node { field = field }; is = refl; begins = refl }
  headed node outer (Some h.Close) = record { head = node; is = refl; begins = refl }

  no_path : (x : Option Item) → path_to_option [] x ≡ []
  no_path None = refl
  no_path (Some (h.Open field head)) = refl
  no_path (Some (h.Ident field symbol ctxt role)) = refl
  no_path (Some (h.Hole field)) = refl
  no_path (Some h.Close) = refl

  -- behind a node that begins
  around_begun : (p field : ℕ) (head : h.Head) → slice_get tree p ≡ Some (h.Open field head) → words_around tree p (path_at tree p) ≡ words_before (read_word tree) p → words_around tree (suc p) (path_at tree (suc p)) ≡ words_before (read_word tree) (suc p)
  around_begun p field head at inner =
      let before : Spot = spot_before tree p in
      let node : Around = record { head = head; begins = before.place; field = 0 } in
      let outer : List Around = in_field field before.path in
      let next : spot_before tree (suc p) ≡ past before (h.Open field head) = fold_past-take start tree p (h.Open field head) at in
      let it = headed node outer (slice_get tree (suc p)) in
      let place : before.place ≡ p = (let far = fold_past-place start tree p (h.Open field head) at in omega (arith, far)) in
      let there : path_at tree p ≡ outer = ap (λ (x : Option Item). path_to_option before.path x) at in
      ap (λ (s : Spot). words_around tree (suc p) (path_to_option s.path (slice_get tree (suc p)))) next
      ∙ (ap (words_around tree (suc p)) it.is
      ∙ around_open p it.head outer (it.begins ∙ place) (ap (words_around tree p) (sym there) ∙ inner))

  pub words_told : (place : ℕ) → words_around tree place (path_at tree place) ≡ words_before (read_word tree) place
  words_told zero = ap (words_around tree zero) (no_path (slice_get tree zero))
  words_told (suc p) = by (slice_get tree p) refl (words_told p)
    where
      none : (x : Option Item) → slice_get tree p ≡ x → begins_member x ≡ false → words_around tree (suc p) (path_at tree (suc p)) ≡ words_before (read_word tree) (suc p)
      none x at unbegun =
          let nothing : read_word tree p ≡ None = no_read p x at unbegun in
          around_none p (path_at tree (suc p)) nothing ∙ sym (ap (λ (word : Option Text). elim word [ None ↦ [] | Some x ↦ x ∷ words_before (read_word tree) p ]) nothing)

      by : (x : Option Item) → slice_get tree p ≡ x → words_around tree p (path_at tree p) ≡ words_before (read_word tree) p → words_around tree (suc p) (path_at tree (suc p)) ≡ words_before (read_word tree) (suc p)
      by None at inner = none None at refl
      by (Some (h.Open field head)) at inner = around_begun p field head at inner
      by (Some (h.Ident field symbol ctxt role)) at inner = none (Some (h.Ident field symbol ctxt role)) at refl
      by (Some (h.Hole field)) at inner = none (Some (h.Hole field)) at refl
      by (Some h.Close) at inner = none (Some h.Close) at refl

-- words that are told alike
pub words_alike : (one other : ℕ → Option Text) (place : ℕ) → ((p : ℕ) → p < place → one p ≡ other p) → words_before one place ≡ words_before other place
words_alike one other zero same = refl
words_alike one other (suc place) same =
    ap (λ (words : List Text). elim (one place) [ None ↦ [] | Some x ↦ x ∷ words ]) (words_alike one other place (λ p l. same p (omega (arith, l))))
    ∙ ap (λ (word : Option Text). elim word [ None ↦ [] | Some x ↦ x ∷ words_before other place ]) (same place (omega arith))

-- no words are told before a place that no member begins right before
pub words_unread : (tree : List Item) (place : ℕ) → is_behind_member tree place ≡ false → words_before (read_word tree) place ≡ []
words_unread tree zero unbegun = refl
words_unread tree (suc place) unbegun = ap (λ (word : Option Text). elim word [ None ↦ [] | Some x ↦ x ∷ words_before (read_word tree) place ]) (no_read tree place (slice_get tree place) refl unbegun)

-- nor where nothing is told of any place
words_untold : (place : ℕ) → words_before (word_told []) place ≡ []
words_untold zero = refl
words_untold (suc place) = refl

-- names that are not read of have no words around them
pub unread_all : (tree : List Item) (told : List ReadAt) (names : List ImportedName) → told ≡ [] → list_any (λ (name : ImportedName). is_behind_member tree name.place) names ≡ false → All (λ (name : ImportedName). AreWordsRead tree told name.place) names
unread_all tree told names none unread k d inside within =
    let here : is_behind_member tree (get_or names k d).place ≡ false = any_none (λ (name : ImportedName). is_behind_member tree name.place) names k d inside unread in
    ap (λ (l : List ReadAt). words_before (word_told l) (get_or names k d).place) none
    ∙ words_untold (get_or names k d).place
    ∙ sym (words_unread tree (get_or names k d).place here)
  where
    any_none : (test : ImportedName → Bool) (list : List ImportedName) (k : ℕ) (d : ImportedName) → k < length list → list_any test list ≡ false → test (get_or list k d) ≡ false
    any_none test [] k d inside none = absurd (omega (arith, inside))
    any_none test (x ∷ rest) zero d inside none = both (test x) (list_any test rest) none
      where
        both : (b c : Bool) → (b || c) ≡ false → b ≡ false
        both true c is = is
        both false c is = refl
    any_none test (x ∷ rest) (suc k) d inside none = any_none test rest k d (omega (arith, inside)) (both (test x) (list_any test rest) none)
      where
        both : (b c : Bool) → (b || c) ≡ false → c ≡ false
        both true c is = absurd (true≢false is)
        both false c is = is

-- all are told where each place is
pub read_all : (tree : List Item) (told : List ReadAt) (names : List ImportedName) → AreTold tree told → All (λ (name : ImportedName). AreWordsRead tree told name.place) names
read_all tree told names tells k d inside within = words_alike (word_told told) (read_word tree) (get_or names k d).place (λ q l. (tells q (omega (arith, l, within))).word)

-- the word right before a place, and those before it
pub words_more : (word : ℕ → Option Text) (place inner : ℕ) (x : Text) → word_before word place ≡ Some x → inner + 1 ≡ place → words_before word place ≡ x ∷ words_before word inner
words_more word zero inner x is next = absurd (omega (arith, next))
words_more word (suc place) inner x is next =
    let same : place ≡ inner = omega (arith, next) in
    ap (λ (it : Option Text). elim it [ None ↦ [] | Some y ↦ y ∷ words_before word place ]) is ∙ ap (λ p. x ∷ words_before word p) same

pub words_end : (word : ℕ → Option Text) (place : ℕ) → word_before word place ≡ None → words_before word place ≡ []
words_end word zero none = refl
words_end word (suc place) none = ap (λ (it : Option Text). elim it [ None ↦ [] | Some y ↦ y ∷ words_before word place ]) none

-- a read more, whose name is the first of these
pub reads_more : (reads : List MemberRead) (read : MemberRead) (words rest : List Text) → words ≡ read.name.now ∷ rest → map name_read (reads ++ read ∷ []) ++ rest ≡ map name_read reads ++ words
reads_more reads read words rest is =
    ap (λ (l : List Text). l ++ rest) (map-append name_read reads (read ∷ []))
    ∙ append_assoc (map name_read reads) (read.name.now ∷ []) rest
    ∙ ap (λ (l : List Text). map name_read reads ++ l) (sym is)

-- The places of the reads.

-- a read more, right before a place
pub places_more : (reads : List MemberRead) (read : MemberRead) (place : ℕ) (words rest : List Text) (x : Text) → words ≡ x ∷ rest → read.place ≡ place - 1 → map place_read (reads ++ read ∷ []) ++ places_before (place - 1) (length rest) ≡ map place_read reads ++ places_before place (length words)
places_more reads read place words rest x is at =
    let before : List ℕ = map place_read reads in
    let behind : List ℕ = places_before (place - 1) (length rest) in
    ap (λ (l : List ℕ). l ++ behind) (map-append place_read reads (read ∷ []))
    ∙ append_assoc before (read.place ∷ []) behind
    ∙ ap (λ p. before ++ p ∷ behind) at
    ∙ ap (λ (l : List Text). before ++ places_before place (length l)) (sym is)

-- none is left
pub places_end : (places : List ℕ) (place : ℕ) (words : List Text) → words ≡ [] → places ++ places_before place (length words) ≡ places
places_end places place words is = ap (λ (l : List Text). places ++ places_before place (length l)) is ∙ append-nil places

-- ---- use

-- whether a scope is the top, by its kind
own_kind_told : (kind : ScopeKind) (begins : ℕ) → is_own_kind kind ≡ is_top (scope_as kind begins)
own_kind_told TheVariants.Top begins = refl
own_kind_told _ begins = refl

own_scope_told : (scopes : List Kinded) (n : ℕ) (scope : Scope) → option_map_mark (λ (x : NumberedScope). x.scope) (slice_get (map numbered_scope scopes) n) ≡ Some scope → is_own_scope (slice_get scopes n) ≡ is_top scope
own_scope_told scopes n scope there = by (slice_get scopes n) (sym (ap (option_map_mark (λ (x : NumberedScope). x.scope)) (slice_get-map numbered_scope scopes n)) ∙ there)
  where
    by : (found : Option Kinded) → option_map_mark (λ (x : NumberedScope). x.scope) (option_map_mark numbered_scope found) ≡ Some scope → is_own_scope found ≡ is_top scope
    by None is = absurd (none-some scope is)
    by (Some it) is = own_kind_told it.kind it.begins ∙ ap is_top (same_Some (scope_as it.kind it.begins) scope is)

own_told : (table : Denotations) (b : Option ℕ) (d : Denotes.Denoted) → IsDenoted (map numbered_scope table.scopes.items) table.bindings.items b d → is_own_number table b ≡ is_bound_at_top (Some d)
own_told table None (Denotes.Global x) t = refl
own_told table None (Denotes.Bound scope name) t = absurd t
own_told table (Some n) (Denotes.Global x) t = absurd t
own_told table (Some n) (Denotes.Bound scope name) t = ap (is_own_binding table.scopes.items) t.at ∙ own_scope_told table.scopes.items t.binding.scope scope t.in_scope

-- An occurrence stands as a symbol.

symbol_of : (test : Text → Bool) (s : Spot) (item : Item) (o : Occurrence) → occurrence_of s item ≡ Some o → symbol_if test (Some item) ≡ (if test o.sym then o.sym ∷ [] else [])
symbol_of test s (h.Open field head) o at = absurd (none-some o at)
symbol_of test s (h.Ident field symbol ctxt r.Binding) o at = ap (λ (x : Occurrence). if test x.sym then x.sym ∷ [] else []) (same_Some _ o at)
symbol_of test s (h.Ident field symbol ctxt r.Reference) o at = ap (λ (x : Occurrence). if test x.sym then x.sym ∷ [] else []) (same_Some _ o at)
symbol_of test s (h.Ident field symbol ctxt r.Word) o at = absurd (none-some o at)
symbol_of test s (h.Hole field) o at = absurd (none-some o at)
symbol_of test s h.Close o at = absurd (none-some o at)

symbol_at : (test : Text → Bool) (tree : List Item) (p : ℕ) (o : Occurrence) → occurrence_at tree p ≡ Some o → symbol_if test (slice_get tree p) ≡ (if test o.sym then o.sym ∷ [] else [])
symbol_at test tree p o at = by (slice_get tree p) at
  where
    by : (x : Option Item) → option_and_then (occurrence_of (spot_before tree p)) x ≡ Some o → symbol_if test x ≡ (if test o.sym then o.sym ∷ [] else [])
    by None is = absurd (none-some o is)
    by (Some item) is = symbol_of test (spot_before tree p) item o is

-- Names, one by one.

module _ (tree : List Item) where
  -- the use that a name is at its place, if it is one
  abbrev pub use_at : ℕ × Text → List UseEntry
  use_at pair =
      if is_in_statement (path_at tree pair.0)
      then record { place = pair.0; local = pair.1; words = words_around tree pair.0 (path_at tree pair.0) } ∷ []
      else []

  one_name : (stated : List Bool) (told : List ReadAt) (name : ImportedName) → name.place < length tree → IsStated tree stated name.place → AreWordsRead tree told name.place → uses_of_name stated told name ≡ use_at (named_at name)
  one_name stated told name inside states reads =
      let p : ℕ = name.place in
      ap (λ b. if b then named_use told p name.local.now ∷ [] else []) (states inside)
      ∙ ap (λ (l : List Text). if is_in_statement (path_at tree p) then (let u : UseEntry = record { place = p; local = name.local.now; words = l } in u) ∷ [] else []) (reads inside ∙ sym (words_told tree p))

  -- all of them
  pub names_used : (stated : List Bool) (told : List ReadAt) (names : List ImportedName) → All (λ (name : ImportedName). name.place < length tree) names → All (λ (name : ImportedName). IsStated tree stated name.place) names → All (λ (name : ImportedName). AreWordsRead tree told name.place) names → flat_map (uses_of_name stated told) names ≡ flat_map use_at (map named_at names)
  names_used stated told [] inside states reads = refl
  names_used stated told (name ∷ rest) inside states reads =
      ap (λ (l : List UseEntry). l ++ flat_map (uses_of_name stated told) rest) (one_name stated told name (inside 0 name (omega arith)) (states 0 name (omega arith)) (reads 0 name (omega arith)))
      ∙ ap (λ (l : List UseEntry). use_at (named_at name) ++ l) (names_used stated told rest (λ k d l. inside (suc k) d (omega (arith, l))) (λ k d l. states (suc k) d (omega (arith, l))) (λ k d l. reads (suc k) d (omega (arith, l))))

-- a name more was passed
pub says_next : (stated stated_lent : List Bool) (told told_lent : List ReadAt) (names : List ImportedName) (i : ℕ) (d : ImportedName) (words : List Text) (uses : List Use) → stated_lent ≡ stated → told_lent ≡ told → i < length names → SaysUses words uses (flat_map (uses_of_name stated told) (take i names) ++ uses_of_name stated_lent told_lent (get_or names i d)) → SaysUses words uses (flat_map (uses_of_name stated told) (take (i + 1) names))
says_next stated stated_lent told told_lent names i d words uses same_stated same_told inside said =
    let before : List UseEntry = flat_map (uses_of_name stated told) (take i names) in
    subst (λ (entries : List UseEntry). SaysUses words uses entries)
    (ap (λ (l : List Bool). before ++ uses_of_name l told_lent (get_or names i d)) same_stated
    ∙ ap (λ (l : List ReadAt). before ++ uses_of_name stated l (get_or names i d)) same_told
    ∙ flat_next_of (uses_of_name stated told) names names i d refl inside)
    said

-- a text with a place lies within the list
abbrev Lies : List Item → ℕ × Text → Type 0
Lies tree pair = pair.0 < length tree

-- of none it is all true
none : {A : Type 0} (P : A → Type 0) → All P []
none P k d l = absurd (omega (arith, l))

-- a symbol stands within the list
symbols_within : (tree : List Item) (test : Text → Bool) (p : ℕ) → All (Lies tree) (pairs_at p (symbol_if test (slice_get tree p)))
symbols_within tree test p = by (slice_get tree p) refl
  where
    kept : (b : Bool) (x : Text) → p < length tree → All (Lies tree) (pairs_at p (if b then x ∷ [] else []))
    kept true x inside = All-cons (Lies tree) (p, x) [] inside (none (Lies tree))
    kept false x inside = none (Lies tree)

    by : (x : Option Item) → slice_get tree p ≡ x → All (Lies tree) (pairs_at p (symbol_if test x))
    by None at = none (Lies tree)
    by (Some (h.Open field head)) at = none (Lies tree)
    by (Some (h.Ident field symbol ctxt role)) at = kept (test symbol) symbol (slice_get_within tree p (h.Ident field symbol ctxt role) at)
    by (Some (h.Hole field)) at = none (Lies tree)
    by (Some h.Close) at = none (Lies tree)

-- so does each name of an entry
names_within : (table : Denotations) (is_import : Text → Bool) (tree : List Item) (entries : List Denoted) → All (Lies tree) (flat_map (placed_names table is_import tree) entries)
names_within table is_import tree [] = none (Lies tree)
names_within table is_import tree (entry ∷ rest) =
    All-append (Lies tree) (placed_names table is_import tree entry) (flat_map (placed_names table is_import tree) rest) (by (is_own_number table entry.binding)) (names_within table is_import tree rest)
  where
    by : (b : Bool) → All (Lies tree) (pairs_at entry.place (if b then symbol_if is_import (slice_get tree entry.place) else []))
    by true = symbols_within tree is_import entry.place
    by false = none (Lies tree)

pub named_within : (table : Denotations) (is_import : Text → Bool) (tree : List Item) (names : List ImportedName) → map named_at names ≡ flat_map (placed_names table is_import tree) table.occurrences.items → All (λ (name : ImportedName). name.place < length tree) names
named_within table is_import tree names are k d l =
    let all : All (Lies tree) (map named_at names) = subst (λ (l : List (ℕ × Text)). All (Lies tree) l) (sym are) (names_within table is_import tree table.occurrences.items) in
    subst (λ (pair : ℕ × Text). Lies tree pair) (get_or-map named_at names k d (named_at d) l) (all k (named_at d) (omega (arith, l, length-map names named_at)))

-- One entry.

all_three : (g : ℕ × Text → List UseEntry) (p : ℕ) (x : Text) (u : UseEntry) (b s i : Bool) → g (p, x) ≡ (if s then u ∷ [] else []) → flat_map g (pairs_at p (if b then (if i then x ∷ [] else []) else [])) ≡ (if b && (i && s) then u ∷ [] else [])
all_three g p x u true true true is = ap (λ (l : List UseEntry). l ++ []) is
all_three g p x u true false true is = ap (λ (l : List UseEntry). l ++ []) is
all_three g p x u true s false is = refl
all_three g p x u false s i is = refl

module _ (tree : List Item) (table : Denotations) (is : IsDenotationTable BySymbol Es tree table) (is_import : Text → Bool) (finds : (x : Text) → is_import x ≡ is_some (import_of (imports_of tree) x)) where
  -- the use that an occurrence is, if it is one
  abbrev use_if : Occurrence → List UseEntry
  use_if o = if is_use tree o then use_of tree o ∷ [] else []

  -- the uses that an entry is
  abbrev uses_by : Denoted → List UseEntry
  uses_by entry = flat_map (use_at tree) (placed_names table is_import tree entry)

  one_use : (i : ℕ) (entry : Denoted) (o : Occurrence) → Paired tree table is i entry o → uses_by entry ≡ use_if o
  one_use i entry o its =
      let p : ℕ = o.place in
      let own : is_own_number table entry.binding ≡ is_bound_at_top (Denotes.denoted_at BySymbol Es tree p) = own_told table entry.binding (meaning tree table is o) its.tells ∙ ap (λ (x : Option Occurrence). is_bound_at_top (option_map_mark (meaning tree table is) x)) (sym its.stands) in
      ap (λ n. flat_map (use_at tree) (pairs_at n (if is_own_number table entry.binding then symbol_if is_import (slice_get tree n) else []))) its.place
      ∙ ap (λ (l : List Text). flat_map (use_at tree) (pairs_at p (if is_own_number table entry.binding then l else []))) (symbol_at is_import tree p o its.stands)
      ∙ ap (λ b. flat_map (use_at tree) (pairs_at p (if b then (if is_import o.sym then o.sym ∷ [] else []) else []))) own
      ∙ ap (λ b. flat_map (use_at tree) (pairs_at p (if is_bound_at_top (Denotes.denoted_at BySymbol Es tree p) then (if b then o.sym ∷ [] else []) else []))) (finds o.sym)
      ∙ all_three (use_at tree) p o.sym (use_of tree o) (is_bound_at_top (Denotes.denoted_at BySymbol Es tree p)) (is_in_statement (path_at tree p)) (is_some (import_of (imports_of tree) o.sym)) refl

  filtered : (os : List Occurrence) → map (use_of tree) (filter (is_use tree) os) ≡ flat_map use_if os
  filtered [] = refl
  filtered (o ∷ os) = step (is_use tree o) (filtered os)
    where
      step : (b : Bool) → map (use_of tree) (filter (is_use tree) os) ≡ flat_map use_if os → map (use_of tree) (if b then o ∷ filter (is_use tree) os else filter (is_use tree) os) ≡ (if b then use_of tree o ∷ [] else []) ++ flat_map use_if os
      step true same = ap (λ (l : List UseEntry). use_of tree o ∷ l) same
      step false same = same

  -- what is used, entry by entry
  pub uses_told : flat_map (use_at tree) (flat_map (placed_names table is_import tree) table.occurrences.items) ≡ uses_of tree
  uses_told = zipped table.occurrences.items (occurrences tree) is.occurrences (λ i entry o at there place. one_use i entry o (paired tree table is i entry o at there place)) ∙ sym (filtered (occurrences tree))
    where
      zipped : (entries : List Denoted) (os : List Occurrence) → AllZip (IsTableEntry (map numbered_scope table.scopes.items) BySymbol Es) entries os → ((i : ℕ) (entry : Denoted) (o : Occurrence) → slice_get entries i ≡ Some entry → slice_get os i ≡ Some o → entry.place ≡ o.place → uses_by entry ≡ use_if o) → flat_map (use_at tree) (flat_map (placed_names table is_import tree) entries) ≡ flat_map use_if os
      zipped [] [] all each = refl
      zipped [] (o ∷ os) all each = absurd all
      zipped (entry ∷ entries) [] all each = absurd all
      zipped (entry ∷ entries) (o ∷ os) all each =
          flat_map-append (use_at tree) (placed_names table is_import tree entry) (flat_map (placed_names table is_import tree) entries)
          ∙ ap (λ (l : List UseEntry). l ++ flat_map (use_at tree) (flat_map (placed_names table is_import tree) entries)) (each 0 entry o refl refl all.0.place)
          ∙ ap (λ (l : List UseEntry). use_if o ++ l) (zipped entries os all.1 (λ i x y at there. each (suc i) x y at there))

-- a table of imports tells whether an import binds a name
some_mapped : {A B : Type 0} (f : A → B) (x : Option A) → is_some x ≡ is_some (option_map_mark f x)
some_mapped f None = refl
some_mapped f (Some x) = refl

pub imports_found : {S : Type 0} (imports : IndexMap (Bor Text) ImportRef S) (tree : List Item) → Finds imports (imports_of tree) → (x : Text) → has_import imports x ≡ is_some (import_of (imports_of tree) x)
imports_found imports tree finds x = some_mapped import_entry_of (get_by_use (λ k. bytes_eq x k.now) imports) ∙ ap is_some (finds x)
