-- Which names nothing binds, and which the top binds: what the table tells is what the definitions say.
-- The literal calls of `require`, place by place.
-- The names that the top of a module binds, as the table tells them.
use Rattle.std.proofs.Common.{◌≡◌, ℕ, zero, suc, ◌+◌, ◌⊎◌, Bool, true, false, not, ◌&&◌, List, [], ◌∷◌, Option, Some, None, take, map, slice_get, fold, refl, sym, ap, ◌∙◌, subst, inl, inr, eqb, arith, bytes_eq, ◌<◌, ◌≤◌, ◌++◌, length, drop, get_or, append_assoc, append-nil, ltb, cond, ◌||◌}
use Rattle.std.specs.Prelude.{is_some, if◌then◌else◌, filter}
use Rattle.std.specs.List.{list_any, AllZip, cons_option, flat_map}
use Rattle.std.specs.Option.{option_map, option_and_then}
use Rattle.std.proofs.lemmas.Bool.{false≢true, eqb-true, eq-eqb, and_parts, and_from, or_cases, cases_Bool, ltb-false}
use Rattle.std.proofs.lemmas.Option.{none-some, same_Some, slice_get-map, slice_get_past}
use Rattle.std.proofs.lemmas.Map.Keys.{any_passes_from_place}
use Rattle.std.specs.Borrow.{Bor}
use Rattle.std.proofs.lemmas.List.{drop_more, drop_all}
use Rattle.std.proofs.lemmas.List.Folds.{list_any-append}
use Rattle.indexmap.specs.IndexSet.{IndexSet, contains_by}
use Rattle.bundle_syntax.specs.Item as h
use Rattle.bundle_syntax.specs.Item.{Item, item_of}
use Rattle.bundle_syntax.specs.declared.piece.Piece.{Piece}
use Rattle.bundle_syntax.specs.declared.piece.Role.TheVariants as r
use Rattle.bundle_rules.specs.Places.{Spot, past, start, spot_before, Occurrence, occurrence_of, occurrence_at, occurrences, occurrences_from}
use Rattle.bundle_rules.specs.Scopes.{Es, Scope, scopes_around}
use Rattle.bundle_rules.specs.Declarations.{BySymbol, declared, Name, name_of, Declared, declared_from, declaration_of, is_nameless_default, nameless_default}
use Rattle.bundle_rules.proofs.PlacesLemmas.{occurrences-at, occurrence_at-listed}
use Rattle.bundle_rules.specs.Nodes.{Text, has_text, string_of}
use Rattle.bundle_rules.specs.Bound.{is_free, is_global, has_free, top_names}
use Rattle.bundle_rules.specs.Denotes as e
use Rattle.bundle_rules.specs.Denotes.{denoted_of}
use Rattle.bundle_rules.specs.Entries.{RequireCall, Settings, after, call_at, ends, is_call, is_end, is_plain_argument, is_require_name, linked_calls, only_argument, require_calls, require_calls_from, required_at}
use Rattle.bundle_rules.specs.Homes.{home_of, is_top, is_wrapper}
use Rattle.bundle_rules.specs.Statements.{default_name}
use Rattle.bundle_scope_denote.specs.declared.table.Denoted.{Denoted}
use Rattle.bundle_scope_denote.specs.declared.table.Denotations.{Denotations}
use Rattle.bundle_scope_denote.specs.Numbers.{numbered_scope, NumberedScope}
use Rattle.bundle_scope_denote.specs.Listed.{IsDenoted, IsTableEntry, IsDenotationTable, TellsDenoted}
use Rattle.bundle_scope_denote.proofs.ZipLemmas.{AllZip-at, AllZip-at_second}
use Rattle.bundle_tree_places.specs.Heads.{begins}
use Rattle.bundle_scope_denote.specs.declared.table.Scope.{Scope as Kinded}
use Rattle.bundle_scope_denote.specs.declared.table.ScopeKind.{ScopeKind}
use Rattle.bundle_scope_denote.specs.Kinds.{scope_as}
use Rattle.bundle_scope_denote.specs.declared.table.ScopeKind.TheVariants
use Rattle.bundle_link_tables.specs.Free.{frees, frees_name, is_ident_called, is_place_marked, is_top_kind, is_top_scope, symbol_at_top, symbol_of_number, declared_at_top, has_nameless_default, default_declared_in, told_top_names}
use Rattle.bundle_link_tables.specs.Sources.{HasTexts}

-- ---- free

-- truths that follow from each other are one
pub same_truth : (a b : Bool) → (a ≡ true → b ≡ true) → (b ≡ true → a ≡ true) → a ≡ b
same_truth true b to back = sym (to refl)
same_truth false true to back = back refl
same_truth false false to back = refl

-- an element that passes, and its place
abbrev Passed : {X : Type 0} → (X → Bool) → List X → Type 0
Passed {X} p xs = (i : ℕ) × (x : X) × (slice_get xs i ≡ Some x) × (p x ≡ true)

any_at : {X : Type 0} (p : X → Bool) (xs : List X) → list_any p xs ≡ true → Passed p xs
any_at p [] e = absurd (false≢true e)
any_at {X} p (x ∷ xs) e = by (any_at p xs) (or_cases (p x) (list_any p xs) e)
  where
    by : (list_any p xs ≡ true → Passed p xs) → (p x ≡ true) ⊎ (list_any p xs ≡ true) → Passed p (x ∷ xs)
    by later (inl here) = (0, x, refl, here)
    by later (inr there) = let it = later there in (suc it.0, it.1, it.2, it.3)

-- An occurrence stands at its place.

pub fold_past-place : (s : Spot) (items : List Item) (n : ℕ) (item : Item) → slice_get items n ≡ Some item → (fold past s (take n items)).place ≡ s.place + n
fold_past-place s [] n item at = absurd (none-some item at)
fold_past-place s (x ∷ xs) zero item at = omega arith
fold_past-place s (x ∷ xs) (suc n) item at = let rest = fold_past-place (past s x) xs n item at in omega (arith, rest)

-- what is known of an occurrence at an item
abbrev IsOf : Spot → Option Item → Occurrence → Type 0
IsOf s item o = (o.place ≡ s.place) × ((x : Text) → is_ident_called x item ≡ bytes_eq x o.sym)

is_of : (s : Spot) (item : Item) (o : Occurrence) → occurrence_of s item ≡ Some o → IsOf s (Some item) o
is_of s (h.Open field head) o at = absurd (none-some o at)
is_of s (h.Ident field symbol ctxt r.Binding) o at = let same = same_Some _ o at in (ap (λ (x : Occurrence). x.place) (sym same), λ x. ap (λ (y : Occurrence). bytes_eq x y.sym) same)
is_of s (h.Ident field symbol ctxt r.Reference) o at = let same = same_Some _ o at in (ap (λ (x : Occurrence). x.place) (sym same), λ x. ap (λ (y : Occurrence). bytes_eq x y.sym) same)
is_of s (h.Ident field symbol ctxt r.Word) o at = absurd (none-some o at)
is_of s (h.Hole field) o at = absurd (none-some o at)
is_of s h.Close o at = absurd (none-some o at)

-- the place of an occurrence, and what it is called
abbrev StandsAt : List Item → ℕ → Occurrence → Type 0
StandsAt items p o = (o.place ≡ p) × ((x : Text) → is_ident_called x (slice_get items p) ≡ bytes_eq x o.sym)

stands_at : (items : List Item) (p : ℕ) (o : Occurrence) → occurrence_at items p ≡ Some o → StandsAt items p o
stands_at items p o at = by (slice_get items p) refl at
  where
    by : (x : Option Item) → slice_get items p ≡ x → option_and_then (occurrence_of (spot_before items p)) x ≡ Some o → StandsAt items p o
    by None there is = absurd (none-some o is)
    by (Some item) there is =
        let known = is_of (spot_before items p) item o is in
        let place = fold_past-place start items p item there in
        (known.0 ∙ (let same : (spot_before items p).place ≡ p = omega (arith, place) in same), λ x. ap (is_ident_called x) there ∙ known.1 x)

-- What an entry denotes.

module _ (tree : List Item) (table : Denotations) (is : IsDenotationTable BySymbol Es tree table) where
  abbrev pub meaning : Occurrence → e.Denoted
  meaning = e.denoted_of BySymbol Es (declared BySymbol Es tree)

  -- an entry and its occurrence
  pub record Paired (i : ℕ) (entry : Denoted) (o : Occurrence) : Type 0 where
    pub entry_there : slice_get table.occurrences.items i ≡ Some entry
    pub there : slice_get (occurrences tree) i ≡ Some o
    pub stands : occurrence_at tree o.place ≡ Some o
    pub place : entry.place ≡ o.place
    pub tells : TellsDenoted (map numbered_scope table.scopes.items) table.bindings.items entry (meaning o)

  pub paired : (i : ℕ) (entry : Denoted) (o : Occurrence) → slice_get table.occurrences.items i ≡ Some entry → slice_get (occurrences tree) i ≡ Some o → entry.place ≡ o.place → Paired i entry o
  paired i entry o at there place =
      let told = AllZip-at (TellsDenoted (map numbered_scope table.scopes.items) table.bindings.items) table.occurrences.items (e.denotations BySymbol Es tree) i entry is.denotes at in
      let same : told.0 ≡ meaning o = same_Some _ _ (sym told.1 ∙ (slice_get-map meaning (occurrences tree) i ∙ ap (option_map meaning) there)) in
      record {
        entry_there = at;
        there = there;
        stands = occurrences-at tree i o there;
        place = place;
        tells = subst (λ d. TellsDenoted (map numbered_scope table.scopes.items) table.bindings.items entry d) same told.2;
      }

  of_entry : (i : ℕ) (entry : Denoted) → slice_get table.occurrences.items i ≡ Some entry → (o : Occurrence) × Paired i entry o
  of_entry i entry at =
      let its = AllZip-at (IsTableEntry (map numbered_scope table.scopes.items) BySymbol Es) table.occurrences.items (occurrences tree) i entry is.occurrences at in
      (its.0, paired i entry its.0 at its.1 its.2.place)

  of_occurrence : (i : ℕ) (o : Occurrence) → slice_get (occurrences tree) i ≡ Some o → (entry : Denoted) × Paired i entry o
  of_occurrence i o there =
      let its = AllZip-at_second (IsTableEntry (map numbered_scope table.scopes.items) BySymbol Es) table.occurrences.items (occurrences tree) i o is.occurrences there in
      (its.0, paired i its.0 o its.1 there its.2.place)

  told_global : (b : Option ℕ) (d : e.Denoted) → IsDenoted (map numbered_scope table.scopes.items) table.bindings.items b d → not (is_some b) ≡ is_global (Some d)
  told_global None (e.Global x) t = refl
  told_global None (e.Bound scope name) t = absurd t
  told_global (Some n) (e.Global x) t = absurd t
  told_global (Some n) (e.Bound scope name) t = refl

  -- an entry without a binding is of a free name
  free_here : (i : ℕ) (entry : Denoted) (o : Occurrence) → Paired i entry o → not (is_some entry.binding) ≡ is_free tree o.place
  free_here i entry o its = told_global entry.binding (meaning o) its.tells ∙ ap (λ x. is_global (option_map meaning x)) (sym its.stands)

  -- a name stands free at a place exactly if an entry of that place has no binding
  pub free_told : (p : ℕ) → list_any (frees p) table.occurrences.items ≡ is_free tree p
  free_told p = same_truth (list_any (frees p) table.occurrences.items) (is_free tree p) to (λ f. back (occurrence_at tree p) refl f)
    where
      to : list_any (frees p) table.occurrences.items ≡ true → is_free tree p ≡ true
      to found =
          let it = any_at (frees p) table.occurrences.items found in
          let both = and_parts (eqb it.1.place p) (not (is_some it.1.binding)) it.3 in
          let its = of_entry it.0 it.1 it.2 in
          ap (is_free tree) (sym (eqb-true it.1.place p both.0) ∙ its.1.place) ∙ sym (free_here it.0 it.1 its.0 its.1) ∙ both.1

      back : (x : Option Occurrence) → occurrence_at tree p ≡ x → is_free tree p ≡ true → list_any (frees p) table.occurrences.items ≡ true
      back None at f = absurd (false≢true (ap (λ x. is_global (option_map meaning x)) (sym at) ∙ f))
      back (Some o) at f =
          let listed = occurrence_at-listed tree p o at in
          let its = of_occurrence listed.0 o listed.1 in
          let place = (stands_at tree p o at).0 in
          any_passes_from_place (frees p) table.occurrences.items listed.0 its.0 its.1.entry_there
          (and_from (eqb its.0.place p) (not (is_some its.0.binding)) (eq-eqb its.0.place p (its.1.place ∙ place)) (free_here listed.0 its.0 o its.1 ∙ ap (is_free tree) place ∙ f))

  called_here : (x : Text) (i : ℕ) (entry : Denoted) (o : Occurrence) → Paired i entry o → is_ident_called x (slice_get tree entry.place) ≡ bytes_eq x o.sym
  called_here x i entry o its = ap (λ p. is_ident_called x (slice_get tree p)) its.place ∙ (stands_at tree o.place o its.stands).1 x

  -- the same of a name anywhere
  pub has_free_told : (x : Text) → list_any (frees_name tree x) table.occurrences.items ≡ has_free tree x
  has_free_told x = same_truth (list_any (frees_name tree x) table.occurrences.items) (has_free tree x) to back
    where
      to : list_any (frees_name tree x) table.occurrences.items ≡ true → has_free tree x ≡ true
      to found =
          let it = any_at (frees_name tree x) table.occurrences.items found in
          let both = and_parts (is_ident_called x (slice_get tree it.1.place)) (not (is_some it.1.binding)) it.3 in
          let its = of_entry it.0 it.1 it.2 in
          any_passes_from_place (λ (o : Occurrence). bytes_eq x o.sym && is_free tree o.place) (occurrences tree) it.0 its.0 its.1.there
          (and_from (bytes_eq x its.0.sym) (is_free tree its.0.place) (sym (called_here x it.0 it.1 its.0 its.1) ∙ both.0) (sym (free_here it.0 it.1 its.0 its.1) ∙ both.1))

      back : has_free tree x ≡ true → list_any (frees_name tree x) table.occurrences.items ≡ true
      back found =
          let it = any_at (λ (o : Occurrence). bytes_eq x o.sym && is_free tree o.place) (occurrences tree) found in
          let both = and_parts (bytes_eq x it.1.sym) (is_free tree it.1.place) it.3 in
          let its = of_occurrence it.0 it.1 it.2 in
          any_passes_from_place (frees_name tree x) table.occurrences.items it.0 its.0 its.1.entry_there
          (and_from (is_ident_called x (slice_get tree its.0.place)) (not (is_some its.0.binding)) (called_here x it.0 its.0 it.1 its.1 ∙ both.0) (free_here it.0 its.0 it.1 its.1 ∙ both.1))

-- ---- call

-- what is free may be told in two ways
call_alike : (one other : ℕ → Bool) → ((p : ℕ) → one p ≡ other p) → (place : ℕ) (text : Option Text) → call_at one place text ≡ call_at other place text
call_alike one other same place None = refl
call_alike one other same place (Some text) = ap (λ b. if b then record { place = place; specifier = text } ∷ [] else []) (same (suc place))

calls_alike : (one other : ℕ → Bool) → ((p : ℕ) → one p ≡ other p) → (place : ℕ) (items : List Item) → require_calls_from one place items ≡ require_calls_from other place items
calls_alike one other same place [] = refl
calls_alike one other same place (x ∷ rest) =
    ap (λ l. l ++ require_calls_from one (suc place) rest) (call_alike one other same place (required_at (x ∷ rest)))
    ∙ ap (λ l. call_at other place (required_at (x ∷ rest)) ++ l) (calls_alike one other same (suc place) rest)

-- a place more was passed
pub calls_next : (f : ℕ → Bool) (pieces : List Piece) (place : ℕ) (d : Piece) (all before after : List RequireCall) → place < length pieces → before ++ require_calls_from f place (map item_of (drop place pieces)) ≡ all → after ≡ before ++ call_at f place (required_at (map item_of (drop place pieces))) → after ++ require_calls_from f (place + 1) (map item_of (drop (place + 1) pieces)) ≡ all
calls_next f pieces place d all before after inside known added =
    let rest : List Item = map item_of (drop (place + 1) pieces) in
    let next : suc place ≡ place + 1 = omega arith in
    let split : map item_of (drop place pieces) ≡ item_of (get_or pieces place d) ∷ rest = ap (map item_of) (drop_more pieces place d inside) in
    ap (λ l. l ++ require_calls_from f (place + 1) rest) (added ∙ ap (λ items. before ++ call_at f place (required_at items)) split)
    ∙ append_assoc before (call_at f place (required_at (item_of (get_or pieces place d) ∷ rest))) (require_calls_from f (place + 1) rest)
    ∙ ap (λ n. before ++ (call_at f place (required_at (item_of (get_or pieces place d) ∷ rest)) ++ require_calls_from f n rest)) (sym next)
    ∙ ap (λ items. before ++ require_calls_from f place items) (sym split)
    ∙ known

-- all were passed
pub calls_end : (f : ℕ → Bool) (pieces : List Piece) (place : ℕ) (all found : List RequireCall) → length pieces ≤ place → found ++ require_calls_from f place (map item_of (drop place pieces)) ≡ all → found ≡ all
calls_end f pieces place all found past known =
    sym (append-nil found) ∙ ap (λ l. found ++ require_calls_from f place (map item_of l)) (sym (drop_all place pieces past)) ∙ known

-- what follows an element
after_by : (test : Item → Bool) (items : List Item) → after test items ≡ (if begins test items then drop 1 items else [])
after_by test [] = refl
after_by test (x ∷ rest) = refl

pub after_told : (test : Item → Bool) (b : Bool) (items found : List Item) → b ≡ begins test items → found ≡ (if b then drop 1 items else []) → found ≡ after test items
after_told test b items found is are = are ∙ ap (λ c. if c then drop 1 items else []) is ∙ sym (after_by test items)

-- three ends, one by one
one_more_true : (a t : Bool) → (a && t) ≡ (a && (t && true))
one_more_true false t = refl
one_more_true true true = refl
one_more_true true false = refl

pub three_ends : (items : List Item) → ends 3 items ≡ (begins is_end items && (begins is_end (drop 1 items) && begins is_end (drop 1 (drop 1 items))))
three_ends [] = refl
three_ends (x ∷ []) = refl
three_ends (x ∷ y ∷ []) = refl
three_ends (x ∷ y ∷ z ∷ rest) = ap (λ b. is_end x && b) (sym (one_more_true (is_end y) (is_end z)))

pub only_by : (items : List Item) → only_argument items ≡ (if ends 3 (drop 1 items) then string_of items else None)
only_by [] = refl
only_by (x ∷ rest) = refl

-- Marked places.

marked_by : (free : List Bool) (tree : List Item) (table : Denotations) → IsDenotationTable BySymbol Es tree table → ((p : ℕ) → is_place_marked free p ≡ (ltb p (length tree) && list_any (frees p) table.occurrences.items)) → (p : ℕ) → is_place_marked free p ≡ is_free tree p
marked_by free tree table is marks p = marks p ∙ by (cases_Bool (ltb p (length tree)))
  where
    outside : length tree ≤ p → false ≡ is_free tree p
    outside past = ap (λ x. is_global (option_map (denoted_of BySymbol Es (declared BySymbol Es tree)) (option_and_then (occurrence_of (spot_before tree p)) x))) (sym (slice_get_past tree p past))

    by : (ltb p (length tree) ≡ true) ⊎ (ltb p (length tree) ≡ false) → (ltb p (length tree) && list_any (frees p) table.occurrences.items) ≡ is_free tree p
    by (inl inside) = ap (λ b. b && list_any (frees p) table.occurrences.items) inside ∙ free_told tree table is p
    by (inr past) = ap (λ b. b && list_any (frees p) table.occurrences.items) past ∙ outside (ltb-false p (length tree) past)

-- The calls that are linked.

kept_alike : {S : Type 0} (set : IndexSet (Bor Text) S) (texts : List Text) → HasTexts set texts → (calls : List RequireCall) → filter (λ (call : RequireCall). not (contains_by (λ (k : Bor Text). bytes_eq call.specifier k.now) set)) calls ≡ filter (λ (call : RequireCall). not (has_text call.specifier texts)) calls
kept_alike set texts holds [] = refl
kept_alike set texts holds (call ∷ calls) =
    ap (λ b. if not b then call ∷ filter (λ (call : RequireCall). not (contains_by (λ (k : Bor Text). bytes_eq call.specifier k.now) set)) calls else filter (λ (call : RequireCall). not (contains_by (λ (k : Bor Text). bytes_eq call.specifier k.now) set)) calls) (holds call.specifier)
    ∙ ap (λ l. if not (has_text call.specifier texts) then call ∷ l else l) (kept_alike set texts holds calls)

-- those that were found are those that are linked, where `require` is on
pub linked_on : {S : Type 0} (set : IndexSet (Bor Text) S) (settings : Settings) (tree : List Item) (table : Denotations) (free : List Bool) (found kept : List RequireCall) → settings.require ≡ true → HasTexts set settings.external → IsDenotationTable BySymbol Es tree table → ((p : ℕ) → is_place_marked free p ≡ (ltb p (length tree) && list_any (frees p) table.occurrences.items)) → found ≡ require_calls (is_place_marked free) tree → kept ≡ filter (λ (call : RequireCall). not (contains_by (λ (k : Bor Text). bytes_eq call.specifier k.now) set)) found → kept ≡ linked_calls settings (is_free tree) tree
linked_on set settings tree table free found kept on holds is marks are kept_are =
    kept_are
    ∙ ap (filter (λ (call : RequireCall). not (contains_by (λ (k : Bor Text). bytes_eq call.specifier k.now) set))) (are ∙ calls_alike (is_place_marked free) (is_free tree) (marked_by free tree table is marks) 0 tree)
    ∙ kept_alike set settings.external holds (require_calls (is_free tree) tree)
    ∙ ap (λ b. if b then filter (λ (call : RequireCall). not (has_text call.specifier settings.external)) (require_calls (is_free tree) tree) else []) (sym on)

-- ---- no name `require`

pub require_any : (pieces : List Piece) → list_any (λ (x : Piece). is_require_name (item_of x)) pieces ≡ list_any is_require_name (map item_of pieces)
require_any [] = refl
require_any (x ∷ rest) = ap (λ (b : Bool). is_require_name (item_of x) || b) (require_any rest)

neither_first : (a b : Bool) → (a || b) ≡ false → a ≡ false
neither_first true b e = absurd (false≢true (sym e))
neither_first false b e = refl

neither_second : (a b : Bool) → (a || b) ≡ false → b ≡ false
neither_second true b e = absurd (false≢true (sym e))
neither_second false b e = e

unrequired : (items : List Item) → list_any is_require_name items ≡ false → after is_require_name items ≡ []
unrequired [] e = refl
unrequired (x ∷ rest) e = ap (λ (b : Bool). if b then rest else []) (neither_first (is_require_name x) (list_any is_require_name rest) e)

unrequired_if : (is : Bool) (items : List Item) → list_any is_require_name items ≡ false → after is_require_name (if is then items else []) ≡ []
unrequired_if true items e = unrequired items e
unrequired_if false items e = refl

uncalled : (x : Item) (rest : List Item) → list_any is_require_name rest ≡ false → required_at (x ∷ rest) ≡ None
uncalled x rest e = ap (λ (items : List Item). only_argument (after is_plain_argument items)) (unrequired_if (is_call x) rest e)

calls_none : (f : ℕ → Bool) (place : ℕ) (items : List Item) → list_any is_require_name items ≡ false → require_calls_from f place items ≡ []
calls_none f place [] e = refl
calls_none f place (x ∷ rest) e =
    let behind = neither_second (is_require_name x) (list_any is_require_name rest) e in
    ap (λ (o : Option Text). call_at f place o ++ require_calls_from f (suc place) rest) (uncalled x rest behind) ∙ calls_none f (suc place) rest behind

-- where no calls of `require` are linked, or none has that name, there are none
pub linked_none : (settings : Settings) (tree : List Item) → (settings.require && list_any is_require_name tree) ≡ false → [] ≡ linked_calls settings (is_free tree) tree
linked_none settings tree = by settings.require
  where
    by : (b : Bool) → (b && list_any is_require_name tree) ≡ false → [] ≡ (if b then filter (λ (call : RequireCall). not (has_text call.specifier settings.external)) (require_calls (is_free tree) tree) else [])
    by true e = sym (ap (filter (λ (call : RequireCall). not (has_text call.specifier settings.external))) (calls_none (is_free tree) 0 tree e))
    by false e = refl

-- ---- top

-- whether a scope is the top or a wrapper, by its kind
kind_told : (kind : ScopeKind) (begins : ℕ) → is_top_kind kind ≡ (is_top (scope_as kind begins) || is_wrapper (scope_as kind begins))
kind_told TheVariants.Top begins = refl
kind_told TheVariants.Wrapper begins = refl
kind_told _ begins = refl

scope_told : (scopes : List Kinded) (n : ℕ) (scope : Scope) → option_map (λ (x : NumberedScope). x.scope) (slice_get (map numbered_scope scopes) n) ≡ Some scope → is_top_scope (slice_get scopes n) ≡ (is_top scope || is_wrapper scope)
scope_told scopes n scope there = by (slice_get scopes n) (sym (ap (option_map (λ (x : NumberedScope). x.scope)) (slice_get-map numbered_scope scopes n)) ∙ there)
  where
    by : (found : Option Kinded) → option_map (λ (x : NumberedScope). x.scope) (option_map numbered_scope found) ≡ Some scope → is_top_scope found ≡ (is_top scope || is_wrapper scope)
    by None is = absurd (none-some scope is)
    by (Some it) is = kind_told it.kind it.begins ∙ ap (λ s. is_top s || is_wrapper s) (same_Some (scope_as it.kind it.begins) scope is)

-- whether a list has a text, part by part
has-append : (x : Text) (a b : List Text) → has_text x (a ++ b) ≡ (has_text x a || has_text x b)
has-append x a b = list_any-append (bytes_eq x) a b

module _ (tree : List Item) where
  abbrev all : List Declared
  all = declared BySymbol Es tree

  abbrev at_top : Declared → Bool
  at_top d = is_top (home_of all d) || is_wrapper (home_of all d)

  -- the symbol of a declaration, if it is one of the top
  abbrev symbol_if : Declared → List Text
  symbol_if d = if at_top d then d.name.sym ∷ [] else []

  abbrev symbol_of : Option Declared → List Text
  symbol_of None = []
  symbol_of (Some d) = symbol_if d

  -- the symbol that an occurrence declares there
  abbrev symbol_by : Occurrence → List Text
  symbol_by o = symbol_of (declaration_of BySymbol Es o)

  filtered : (ds : List Declared) → map (λ d. d.name.sym) (filter at_top ds) ≡ flat_map symbol_if ds
  filtered [] = refl
  filtered (d ∷ ds) = step (at_top d) (filtered ds)
    where
      step : (b : Bool) → map (λ d. d.name.sym) (filter at_top ds) ≡ flat_map symbol_if ds → map (λ (d : Declared). d.name.sym) (if b then d ∷ filter at_top ds else filter at_top ds) ≡ (if b then d.name.sym ∷ [] else []) ++ flat_map symbol_if ds
      step true same = ap (λ l. d.name.sym ∷ l) same
      step false same = same

  put : {A : Type 0} (f : A → List Text) (g : Option A → List Text) → g None ≡ [] → ((x : A) → g (Some x) ≡ f x) → (first : Option A) (xs : List A) → flat_map f (cons_option first xs) ≡ g first ++ flat_map f xs
  put f g none some None xs = ap (λ l. l ++ flat_map f xs) (sym none)
  put f g none some (Some x) xs = ap (λ l. l ++ flat_map f xs) (sym (some x))

  abbrev of_occurrence_top : Option Occurrence → List Text
  of_occurrence_top None = []
  of_occurrence_top (Some o) = symbol_by o

  -- where a nameless default begins stands no identifier
  no_name : (s : Spot) (item : Item) (rest : List Item) → is_nameless_default item rest ≡ true → occurrence_of s item ≡ None
  no_name s (h.Open field head) rest is = refl
  no_name s (h.Ident field symbol ctxt role) rest is = absurd (false≢true is)
  no_name s (h.Hole field) rest is = absurd (false≢true is)
  no_name s h.Close rest is = absurd (false≢true is)

  one_declares : (o : Option Occurrence) → symbol_of (option_and_then (declaration_of BySymbol Es) o) ≡ of_occurrence_top o
  one_declares None = refl
  one_declares (Some o) = refl

  or_assoc : (a b c : Bool) → ((a || b) || c) ≡ (a || (b || c))
  or_assoc true b c = refl
  or_assoc false b c = refl

  or_false : (b : Bool) → (b || false) ≡ b
  or_false true = refl
  or_false false = refl

  -- a default that is declared here and one that is declared behind are one name
  one_default : (f d b g : Bool) → (f || (b && d)) ≡ g → (f || d) ≡ (d || g)
  one_default true true b g is = refl
  one_default false true b g is = refl
  one_default true false b g is = is
  one_default false false true g is = is
  one_default false false false g is = is

  if_default : (x : Text) (b : Bool) → has_text x (if b then default_name ∷ [] else []) ≡ (b && bytes_eq x default_name)
  if_default x true = or_false (bytes_eq x default_name)
  if_default x false = refl

  -- what occurrences and nameless defaults declare is all that is declared
  declared_told : (x : Text) (s : Spot) (items : List Item) → (has_text x (flat_map symbol_by (occurrences_from s items)) || has_text x (default_declared_in items)) ≡ has_text x (flat_map symbol_if (declared_from BySymbol Es s items))
  declared_told x s [] = refl
  declared_told x s (item ∷ rest) = by (is_nameless_default item rest) refl (declared_told x (past s item) rest)
    where
      os : List Occurrence
      os = occurrences_from (past s item) rest

      ds : List Declared
      ds = declared_from BySymbol Es (past s item) rest

      f : Bool
      f = has_text x (flat_map symbol_by os)

      g : Bool
      g = has_text x (flat_map symbol_if ds)

      here : Option Declared
      here = option_and_then (declaration_of BySymbol Es) (occurrence_of s item)

      by : (b : Bool) → is_nameless_default item rest ≡ b → (f || has_text x (default_declared_in rest)) ≡ g → (has_text x (flat_map symbol_by (cons_option (occurrence_of s item) os)) || has_text x (if (is_nameless_default item rest || has_nameless_default rest) then default_name ∷ [] else [])) ≡ has_text x (flat_map symbol_if (cons_option (cond (is_nameless_default item rest) (Some (nameless_default Es s.place)) here) ds))
      by true is same =
          ap (λ o. has_text x (flat_map symbol_by (cons_option o os)) || has_text x (if (is_nameless_default item rest || has_nameless_default rest) then default_name ∷ [] else [])) (no_name s item rest is)
          ∙ ap (λ b. f || has_text x (if (b || has_nameless_default rest) then default_name ∷ [] else [])) is
          ∙ ap (λ b. f || b) (if_default x true)
          ∙ one_default f (bytes_eq x default_name) (has_nameless_default rest) g (ap (λ b. f || b) (sym (if_default x (has_nameless_default rest))) ∙ same)
          ∙ sym (ap (λ b. has_text x (flat_map symbol_if (cons_option (cond b (Some (nameless_default Es s.place)) here) ds))) is)
      by false is same =
          ap (λ b. has_text x (flat_map symbol_by (cons_option (occurrence_of s item) os)) || has_text x (if (b || has_nameless_default rest) then default_name ∷ [] else [])) is
          ∙ ap (λ l. has_text x l || has_text x (default_declared_in rest)) (put symbol_by of_occurrence_top refl (λ o. refl) (occurrence_of s item) os)
          ∙ ap (λ b. b || has_text x (default_declared_in rest)) (has-append x (of_occurrence_top (occurrence_of s item)) (flat_map symbol_by os))
          ∙ or_assoc (has_text x (of_occurrence_top (occurrence_of s item))) f (has_text x (default_declared_in rest))
          ∙ ap (λ b. has_text x (of_occurrence_top (occurrence_of s item)) || b) same
          ∙ ap (λ l. has_text x l || g) (sym (one_declares (occurrence_of s item)))
          ∙ sym (has-append x (symbol_of here) (flat_map symbol_if ds))
          ∙ ap (has_text x) (sym (put symbol_if symbol_of refl (λ d. refl) here ds))
          ∙ sym (ap (λ b. has_text x (flat_map symbol_if (cons_option (cond b (Some (nameless_default Es s.place)) here) ds))) is)

module _ (tree : List Item) (table : Denotations) (is : IsDenotationTable BySymbol Es tree table) where
  abbrev scopes : List NumberedScope
  scopes = map numbered_scope table.scopes.items

  abbrev meaning_top : Occurrence → e.Denoted
  meaning_top = e.denoted_of BySymbol Es (declared BySymbol Es tree)

  -- the number of a binding says whether it is one of the top
  number_told : (d : Declared) (b : Option ℕ) → IsDenoted scopes table.bindings.items b (e.Bound (home_of (all tree) d) d.name) → symbol_of_number table b ≡ symbol_if tree d
  number_told d None t = absurd t
  number_told d (Some n) t =
      ap (symbol_at_top table.scopes.items) t.at
      ∙ ap (λ b. if b then t.binding.sym.now ∷ [] else []) (scope_told table.scopes.items t.binding.scope (home_of (all tree) d) t.in_scope)
      ∙ ap (λ (name : Name). if at_top tree d then name.sym ∷ [] else []) t.named

  entry_told : (entry : Denoted) (o : Occurrence) → IsTableEntry scopes BySymbol Es entry o → TellsDenoted scopes table.bindings.items entry (meaning_top o) → declared_at_top table entry ≡ symbol_by tree o
  entry_told entry o its told = by (declaration_of BySymbol Es o) refl
    where
      by : (d : Option Declared) → declaration_of BySymbol Es o ≡ d → declared_at_top table entry ≡ symbol_of tree d
      by None at = ap (λ b. if b then symbol_of_number table entry.binding else []) (its.declares ∙ ap is_some at)
      by (Some d) at =
          ap (λ b. if b then symbol_of_number table entry.binding else []) (its.declares ∙ ap is_some at)
          ∙ number_told d entry.binding (subst (λ m. IsDenoted scopes table.bindings.items entry.binding (e.own_or_found (all tree) (e.denoted_in BySymbol (all tree) (scopes_around Es o.path) (name_of BySymbol o.sym o.ctxt)) m)) at told)

  zipped : (es : List Denoted) (os : List Occurrence) → AllZip (IsTableEntry scopes BySymbol Es) es os → AllZip (TellsDenoted scopes table.bindings.items) es (map meaning_top os) → flat_map (declared_at_top table) es ≡ flat_map (symbol_by tree) os
  zipped [] [] a b = refl
  zipped [] (o ∷ os) a b = absurd a
  zipped (entry ∷ es) [] a b = absurd a
  zipped (entry ∷ es) (o ∷ os) a b = ap (λ l. l ++ flat_map (declared_at_top table) es) (entry_told entry o a.0 b.0) ∙ ap (λ l. symbol_by tree o ++ l) (zipped es os a.1 b.1)

  -- the names that the table tells are those that the top binds
  pub top_told : (x : Text) → has_text x (told_top_names table tree) ≡ has_text x (top_names tree)
  top_told x =
      has-append x (flat_map (declared_at_top table) table.occurrences.items) (default_declared_in tree)
      ∙ ap (λ l. has_text x l || has_text x (default_declared_in tree)) (zipped table.occurrences.items (occurrences tree) is.occurrences is.denotes)
      ∙ declared_told tree x start tree
      ∙ ap (has_text x) (sym (filtered tree (declared BySymbol Es tree)))
