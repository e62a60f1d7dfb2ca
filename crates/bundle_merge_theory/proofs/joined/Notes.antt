-- What is noted of the names of items is denoted in the whole, and tells them apart there.
-- What a linker cites: items that are whole nodes and have names only, and what stands at their
-- places.
-- Names that are noted so tell the bindings of the whole apart.
use Rattle.std.proofs.Common.{◌≡◌, ℕ, zero, suc, ◌+◌, ◌==◌, Bool, true, false, cond, not, ◌&&◌, ◌||◌, List, [], ◌∷◌, Option, Some, None, option_and_then, find, slice_get, take, drop, length, bytes_eq, refl, ap, sym, ◌∙◌, subst, arith, eq-eqb, ne_eqb, ◌<◌, ◌++◌, option_map, ◌≢◌, ◌↔◌, ◌≤◌, ◌⊎◌, inl, inr, codes, unwrap_or, eqb-true}
use Rattle.std.specs.List.{list_any, cons_option}
use Rattle.std.proofs.lemmas.Bool.{false≢true, and_parts, and_from, or_left, or_right, or_parts, cases_lt}
use Rattle.std.proofs.lemmas.Option.{none-some, same_Some, slice_get-get_or}
use Rattle.std.proofs.lemmas.Slice.Eq.{bytes_eq-Decides}
use Rattle.bundle_syntax.specs.Item as h
use Rattle.bundle_syntax.specs.Item.{Item, Head}
use Rattle.bundle_rules.specs.Places.{Spot, past, start, Occurrence, occurrence_of, occurrences_from, occurrences, is_binding, occurrence_at}
use Rattle.bundle_rules.specs.Scopes.{Es, Scope, ScopeKind, Wrapper, Top, Inner, same_scope, scopes_around}
use Rattle.bundle_rules.specs.Declarations.{Way, ByContext, Name, names_agree, name_of, Declared, declared_by, declaration_of, is_nameless_default, nameless_default, declared_from, way_of, declared}
use Rattle.bundle_rules.specs.Homes.{home_of, is_top, is_declared_in, is_arguments, is_function}
use Rattle.bundle_rules.specs.Denotes.{Denoted, Bound, Global, without_context, bound_in, has_identifier, is_written_in, is_implied_in, implied, written_or_implied, denoted_by_context, own_or_found, denoted_of, denoted_at, SameIdent, IsResolved}
use Rattle.bundle_rules.specs.Parts.{tree_of_items}
use Rattle.bundle_rules.specs.Sorting.{flat}
use Rattle.bundle_rules.proofs.PlacesLemmas.{occurrence_at-listed}
use Rattle.bundle_rules.specs.Renamed.{HasNamesOnly}
use Rattle.bundle_rules.specs.Symbols.{denoted_symbol}
use Rattle.bundle_merge_theory.specs.joined.Joined.{offset, AllOf, IsWholeItem, moved_occurrence, moved_denoted, own_declared, is_item_top_name, is_global_written, denoted_in_whole, joined_items, open_behind, moved, moved_scope}
use Rattle.bundle_merge_theory.specs.joined.Notes.{its_name, own_denoted, is_inner_name, IsOccurrenceNoted, inner, top_name, free, noted_denoted, IsListedIn, is_inner_denoted, AreItemsApart, IsInnerAmong}
use Rattle.bundle_merge_theory.proofs.joined.Declarations.{IsNamed, named-flat, scopes_around-moved, all-at, split-at, offset-later, IsOfItem, occurrence-of-item}
use Rattle.bundle_merge_theory.proofs.joined.Paths.{IsIn, IsOccurrenceIn, item-in, moved-same, all-front, find-map, open-append, occurrence_at-joined, moved-from}
use Rattle.bundle_merge_theory.proofs.joined.Denotes.{home-in, IsPlain, identified, nothing-implied, denotes-joined, HasIdentifier, is_function-relocated}
use Rattle.bundle_merge_theory.proofs.joined.Bindings.{bound-global}

-- ---- notes

-- What an item's names denote in it by itself: a binding that an identifier declares, an implicit
-- `arguments`, or a global.
pub data Viewed (item : List Item) (o : Occurrence) : Denoted → Type 0 where
  written : (scope : Scope) → IsIn 1 (1 + length item) scope →
      is_written_in (own_declared item) scope (its_name o) ≡ true →
      Viewed item o (Bound scope (its_name o))
  implicit : (scope : Scope) → IsIn 1 (1 + length item) scope → (o.ctxt == 1) ≡ false →
      is_function scope ≡ true → Viewed item o (Bound scope (without_context (its_name o)))
  unbound : Viewed item o (Global o.sym)

-- what is found in a list whose elements have something
pub find-has : (P : Scope → Type 0) (p : Scope → Bool) (xs : List Scope) → AllOf P xs →
    (x : Scope) → find p xs ≡ Some x → P x × (p x ≡ true)
find-has P p [] all x e = absurd (none-some x e)
find-has P p (y ∷ ys) all x e = by_first (p y) refl e (find-has P p ys all.1 x)
  where
    by_first : (b : Bool) → p y ≡ b → cond b (Some y) (find p ys) ≡ Some x →
        (find p ys ≡ Some x → P x × (p x ≡ true)) → P x × (p x ≡ true)
    by_first true is found ih =
        let same = same_Some y x found in (subst P same all.0, ap p (sym same) ∙ is)
    by_first false is found ih = ih found

-- what an occurrence declares stands among the declarations
declared-listed_from : (s : Spot) (xs : List Item) (i : ℕ) (o : Occurrence) (d : Declared)
    (p : Declared → Bool) →
    slice_get (occurrences_from s xs) i ≡ Some o → declaration_of ByContext Es o ≡ Some d →
    p d ≡ true → list_any p (declared_from ByContext Es s xs) ≡ true
declared-listed_from s [] i o d p at is passes = absurd (none-some o at)
declared-listed_from s (x ∷ xs) i o d p at is passes =
    by_default (is_nameless_default x xs) refl (declared-listed_from (past s x) xs)
  where
    later : (first : Option Declared) →
        list_any p (declared_from ByContext Es (past s x) xs) ≡ true →
        list_any p (cons_option first (declared_from ByContext Es (past s x) xs)) ≡ true
    later None rest = rest
    later (Some y) rest =
        or_right (p y) (list_any p (declared_from ByContext Es (past s x) xs)) rest

    default-opens : (y : Item) (ys : List Item) → is_nameless_default y ys ≡ true →
        occurrence_of s y ≡ None
    default-opens (h.Open field head) ys e = refl
    default-opens (h.Ident field symbol ctxt role) ys e = absurd (false≢true e)
    default-opens (h.Hole field) ys e = refl
    default-opens h.Close ys e = refl

    by_first : (first : Option Occurrence) (j : ℕ) →
        slice_get (cons_option first (occurrences_from (past s x) xs)) j ≡ Some o →
        ((k : ℕ) → slice_get (occurrences_from (past s x) xs) k ≡ Some o →
        list_any p (declared_from ByContext Es (past s x) xs) ≡ true) →
        list_any p (cons_option (option_and_then (declaration_of ByContext Es) first)
        (declared_from ByContext Es (past s x) xs)) ≡ true
    by_first None j there ih = ih j there
    by_first (Some first) zero there ih =
        ap (λ e. list_any p (cons_option e (declared_from ByContext Es (past s x) xs)))
        (ap (declaration_of ByContext Es) (same_Some first o there) ∙ is)
        ∙ ap (λ b. b || list_any p (declared_from ByContext Es (past s x) xs)) passes
    by_first (Some first) (suc j) there ih = later (declaration_of ByContext Es first) (ih j there)

    by_default : (b : Bool) → is_nameless_default x xs ≡ b →
        ((k : ℕ) (o : Occurrence) (d : Declared) (p : Declared → Bool) →
        slice_get (occurrences_from (past s x) xs) k ≡ Some o → declaration_of ByContext Es o
        ≡ Some d → p d ≡ true → list_any p (declared_from ByContext Es (past s x) xs) ≡ true) →
        list_any p (declared_from ByContext Es s (x ∷ xs)) ≡ true
    by_default false e ih =
        ap (λ b. list_any p
        (cons_option (cond b (Some (nameless_default Es s.place))
        (option_and_then (declaration_of ByContext Es) (occurrence_of s x)))
        (declared_from ByContext Es (past s x) xs))) e
        ∙ by_first (occurrence_of s x) i at (λ k there. ih k o d p there is passes)
    by_default true e ih =
        later (cond (is_nameless_default x xs) (Some (nameless_default Es s.place))
        (option_and_then (declaration_of ByContext Es) (occurrence_of s x)))
        (ih i o d p (ap (λ first. slice_get
        (cons_option first (occurrences_from (past s x) xs)) i) (sym (default-opens x xs e))
        ∙ at) is passes)

declared-listed : (item : List Item) (o : Occurrence) → IsListedIn item o → (d : Declared) →
    declaration_of ByContext Es o ≡ Some d → (p : Declared → Bool) → p d ≡ true →
    list_any p (own_declared item) ≡ true
declared-listed item o listed d is p passes =
    declared-listed_from start (tree_of_items item) listed.0 o d p listed.1 is passes

pub agrees-itself : (sym : List ℕ) (ctxt : ℕ) →
    names_agree (name_of ByContext sym ctxt) (name_of ByContext sym ctxt) ≡ true
agrees-itself sym ctxt =
    and_from (bytes_eq sym sym) (ctxt == ctxt) ((bytes_eq-Decides sym sym).1 refl)
    (eq-eqb ctxt ctxt refl)

pub within : (item : List Item) (o : Occurrence) → IsListedIn item o →
    IsOccurrenceIn 1 (1 + length item) o
within item o listed =
    all-at (IsOccurrenceIn 1 (1 + length item)) (occurrences (tree_of_items item)) listed.0 o
    (item-in item) listed.1

module _ (item : List Item) (o : Occurrence) (listed : IsListedIn item o)
    (safe : IsPlain (own_declared item) (its_name o)) where
  implicit-viewed : Viewed item o
      (implied (own_declared item) (scopes_around Es o.path) (its_name o))
  implicit-viewed = by_context (o.ctxt == 1) refl
    where
      by_found : (o.ctxt == 1) ≡ false → (found : Option Scope) →
          find (λ scope. is_implied_in (own_declared item) scope (its_name o))
          (scopes_around Es o.path) ≡ found →
          Viewed item o (bound_in (without_context (its_name o)) found)
      by_found other None e = unbound
      by_found other (Some scope) e =
          let has = find-has (IsIn 1 (1 + length item))
          (λ scope. is_implied_in (own_declared item) scope (its_name o))
          (scopes_around Es o.path) (within item o listed) scope e in
          implicit scope has.0 other
          (and_parts (is_arguments o.sym) (is_function scope) (sym (safe scope) ∙ has.1)).1

      by_context : (b : Bool) → (o.ctxt == 1) ≡ b →
          Viewed item o (cond b (Global o.sym)
          (bound_in (without_context (its_name o))
          (find (λ scope. is_implied_in (own_declared item) scope (its_name o))
          (scopes_around Es o.path))))
      by_context true is = unbound
      by_context false is =
          by_found is (find (λ scope. is_implied_in (own_declared item) scope (its_name o))
          (scopes_around Es o.path)) refl

  reference-viewed : Viewed item o
      (denoted_by_context (own_declared item) (scopes_around Es o.path) (its_name o))
  reference-viewed =
      by_found (find (λ scope. is_written_in (own_declared item) scope (its_name o))
      (scopes_around Es o.path)) refl
    where
      by_found : (found : Option Scope) →
          find (λ scope. is_written_in (own_declared item) scope (its_name o))
          (scopes_around Es o.path) ≡ found →
          Viewed item o (written_or_implied (own_declared item) (scopes_around Es o.path)
          (its_name o) found)
      by_found None e = implicit-viewed
      by_found (Some scope) e =
          let has = find-has (IsIn 1 (1 + length item))
          (λ scope. is_written_in (own_declared item) scope (its_name o))
          (scopes_around Es o.path) (within item o listed) scope e in written scope has.0 has.1

  pub viewed-plain : Viewed item o (own_denoted item o)
  viewed-plain =
      by_declared (declaration_of ByContext Es o) refl (is_binding o.role) (way_of o.path) refl
    where
      own_home : (way : Way) →
          declaration_of ByContext Es o
          ≡ Some (record {
            place = o.place;
            name = its_name o;
            by = way;
            scopes = scopes_around Es o.path;
          }) →
          Viewed item o (Bound
          (home_of (own_declared item)
          (record {
            place = o.place;
            name = its_name o;
            by = way;
            scopes = scopes_around Es o.path;
          })) (its_name o))
      own_home way is =
          let d : Declared = record {
            place = o.place;
            name = its_name o;
            by = way;
            scopes = scopes_around Es o.path;
          } in
          let home : Scope = home_of (own_declared item) d in
          written home (home-in (IsIn 1 (1 + length item)) tt (own_declared item) d
          (within item o listed))
          (declared-listed item o listed d is
          (λ x. has_identifier x && is_declared_in (own_declared item) home (its_name o) x)
          (and_from (same_scope home home) (names_agree (its_name o) (its_name o))
          (eq-eqb _ _ refl) (agrees-itself o.sym o.ctxt)))

      by_declared : (declared : Option Declared) → declaration_of ByContext Es o ≡ declared →
          (b : Bool) (way : Option Way) →
          declared ≡ cond b (declared_by o.place (its_name o) (scopes_around Es o.path) way) None →
          Viewed item o (own_or_found (own_declared item)
          (denoted_by_context (own_declared item) (scopes_around Es o.path) (its_name o))
          declared)
      by_declared declared e false way is =
          subst (λ x. Viewed item o
          (own_or_found (own_declared item)
          (denoted_by_context (own_declared item) (scopes_around Es o.path) (its_name o)) x))
          (sym is) reference-viewed
      by_declared declared e true None is =
          subst (λ x. Viewed item o
          (own_or_found (own_declared item)
          (denoted_by_context (own_declared item) (scopes_around Es o.path) (its_name o)) x))
          (sym is) reference-viewed
      by_declared declared e true (Some way) is =
          subst (λ x. Viewed item o
          (own_or_found (own_declared item)
          (denoted_by_context (own_declared item) (scopes_around Es o.path) (its_name o)) x))
          (sym is) (own_home way (e ∙ is))

pub viewed : (item : List Item) → IsNamed item → (o : Occurrence) → IsListedIn item o →
    Viewed item o (own_denoted item o)
viewed item named o listed =
    viewed-plain item o listed
    (λ scope. nothing-implied (own_declared item) (identified item named) scope (its_name o))

-- what an inner scope declares is an inner name
pub inner-declared : (all : List Declared) (kind : ScopeKind) (begins : ℕ) (name : Name) →
    is_written_in all (Inner kind begins) name ≡ true → is_inner_name all name ≡ true
inner-declared all kind begins name e = weaker all e
  where
    at : (d : Declared) →
        (has_identifier d && is_declared_in all (Inner kind begins) name d) ≡ true →
        (not (is_top (home_of all d)) && names_agree d.name name) ≡ true
    at d is =
        let parts = and_parts (same_scope (home_of all d) (Inner kind begins))
        (names_agree d.name name)
        (and_parts (has_identifier d) (is_declared_in all (Inner kind begins) name d) is).1 in
        and_from (not (is_top (home_of all d))) (names_agree d.name name)
        (not-top (home_of all d) parts.0) parts.1
      where
        not-top : (scope : Scope) → same_scope scope (Inner kind begins) ≡ true →
            not (is_top scope) ≡ true
        not-top Wrapper same = refl
        not-top Top same =
            absurd (false≢true (sym (ne_eqb 1 (begins + 2) (λ e. omega (arith, e))) ∙ same))
        not-top (Inner which other) same = refl

    weaker : (ds : List Declared) →
        list_any (λ d. has_identifier d && is_declared_in all (Inner kind begins) name d) ds
        ≡ true →
        list_any (λ d. not (is_top (home_of all d)) && names_agree d.name name) ds ≡ true
    weaker [] is = absurd (false≢true is)
    weaker (d ∷ ds) is =
        by_first (has_identifier d && is_declared_in all (Inner kind begins) name d) refl is
        (weaker ds)
      where
        by_first : (b : Bool) →
            (has_identifier d && is_declared_in all (Inner kind begins) name d) ≡ b →
            (b || list_any (λ d. has_identifier d && is_declared_in all (Inner kind begins) name d)
            ds) ≡ true →
            (list_any (λ d. has_identifier d && is_declared_in all (Inner kind begins) name d) ds
            ≡ true → list_any (λ d. not (is_top (home_of all d)) && names_agree d.name name) ds
            ≡ true) →
            list_any (λ d. not (is_top (home_of all d)) && names_agree d.name name) (d ∷ ds) ≡ true
        by_first true first any ih =
            or_left (not (is_top (home_of all d)) && names_agree d.name name) _ (at d first)
        by_first false first any ih =
            or_right (not (is_top (home_of all d)) && names_agree d.name name) _ (ih any)

-- each note is told
pub inner-told : (t : Bool) (k : ℕ) (name : Name) (d : Denoted) →
    (is_global_written d ≡ false → t ≡ false) → denoted_in_whole t k name d ≡ moved_denoted k d
inner-told t k name d unless = by_written (is_global_written d) unless
  where
    by_written : (b : Bool) → (b ≡ false → t ≡ false) →
        cond (not b && t) (Bound Top name) (moved_denoted k d) ≡ moved_denoted k d
    by_written true u = refl
    by_written false u = ap (λ t. cond t (Bound Top name) (moved_denoted k d)) (u refl)

pub top-told : (item : List Item) (o : Occurrence) (k : ℕ) {d : Denoted} → Viewed item o d →
    is_inner_name (own_declared item) (its_name o) ≡ false →
    denoted_in_whole true k (its_name o) d ≡ Bound Top (its_name o)
top-told item o k (written Wrapper at is) not_inner = absurd at
top-told item o k (written Top at is) not_inner = refl
top-told item o k (written (Inner kind begins) at is) not_inner =
    absurd (false≢true (sym not_inner
    ∙ inner-declared (own_declared item) kind begins (its_name o) is))
top-told item o k (implicit scope at other fun) not_inner = refl
top-told item o k unbound not_inner = refl

-- what is free denotes a global in its item by itself
pub free-own : (item : List Item) (o : Occurrence) {d : Denoted} → Viewed item o d → o.ctxt ≡ 1 →
    is_inner_name (own_declared item) (its_name o) ≡ false →
    is_written_in (own_declared item) Top (its_name o) ≡ false → d ≡ Global o.sym
free-own item o (written Wrapper at is) one not_inner not_top = absurd at
free-own item o (written Top at is) one not_inner not_top = absurd (false≢true (sym not_top ∙ is))
free-own item o (written (Inner kind begins) at is) one not_inner not_top =
    absurd (false≢true (sym not_inner
    ∙ inner-declared (own_declared item) kind begins (its_name o) is))
free-own item o (implicit scope at other fun) one not_inner not_top =
    absurd (false≢true (sym other ∙ eq-eqb o.ctxt 1 one))
free-own item o unbound one not_inner not_top = refl

pub free-told : (item : List Item) (o : Occurrence) (k : ℕ) {d : Denoted} → Viewed item o d →
    o.ctxt ≡ 1 → is_inner_name (own_declared item) (its_name o) ≡ false →
    is_written_in (own_declared item) Top (its_name o) ≡ false →
    denoted_in_whole false k (its_name o) d ≡ Global o.sym
free-told item o k {d = d} v one not_inner not_top =
    ap (denoted_in_whole false k (its_name o)) (free-own item o v one not_inner not_top)

-- an item's top names are top names
pub own-top : (items : List (List Item)) (m : ℕ) (item : List Item) (name : Name) →
    slice_get items m ≡ Some item → is_item_top_name items name ≡ false →
    is_written_in (own_declared item) Top name ≡ false
own-top [] m item name at e = absurd (none-some item at)
own-top (x ∷ items) zero item name at e =
    ap (λ one. is_written_in (own_declared one) Top name) (sym (same_Some x item at))
    ∙ (or_parts (is_written_in (own_declared x) Top name) (is_item_top_name items name) e).0
own-top (x ∷ items) (suc m) item name at e =
    own-top items m item name at
    (or_parts (is_written_in (own_declared x) Top name) (is_item_top_name items name) e).1

-- an occurrence of the item with this number, in the whole
pub denotes-at : (items : List (List Item)) → AllOf IsWholeItem items → AllOf IsNamed items →
    (m : ℕ) (item : List Item) → slice_get items m ≡ Some item → (o : Occurrence) →
    IsListedIn item o →
    denoted_of ByContext Es (own_declared (flat items)) (moved_occurrence (offset items m) o)
    ≡ denoted_in_whole (is_item_top_name items (its_name o)) (offset items m) (its_name o)
    (own_denoted item o)
denotes-at items whole named m item at o listed =
    let e = split-at items m item at in
    subst (λ its. denoted_of ByContext Es (own_declared (flat its))
    (moved_occurrence (offset items m) o)
    ≡ denoted_in_whole (is_item_top_name its (its_name o)) (offset items m) (its_name o)
    (own_denoted item o)) e
    (denotes-joined (take m items) (drop (suc m) items) item (subst (AllOf IsWholeItem) (sym e) whole)
    (subst (AllOf IsNamed) (sym e) named) o (within item o listed))

-- NOTES: each occurrence denotes in the whole just what is noted of it.
pub note-told : (items : List (List Item)) → AllOf IsWholeItem items → AllOf IsNamed items →
    (m : ℕ) (item : List Item) → slice_get items m ≡ Some item → (o : Occurrence) →
    IsListedIn item o → (note : IsOccurrenceNoted items item o) →
    denoted_of ByContext Es (own_declared (flat items)) (moved_occurrence (offset items m) o)
    ≡ noted_denoted (offset items m) note
note-told items whole named m item at o listed (inner is unless) =
    denotes-at items whole named m item at o listed
    ∙ inner-told (is_item_top_name items (its_name o)) (offset items m) (its_name o)
    (own_denoted item o) unless
note-told items whole named m item at o listed (top_name is_top not_inner) =
    denotes-at items whole named m item at o listed
    ∙ ap (λ t. denoted_in_whole t (offset items m) (its_name o) (own_denoted item o)) is_top
    ∙ top-told item o (offset items m)
    (viewed item (all-at IsNamed items m item named at) o listed) not_inner
note-told items whole named m item at o listed (free one not_top not_inner) =
    denotes-at items whole named m item at o listed
    ∙ ap (λ t. denoted_in_whole t (offset items m) (its_name o) (own_denoted item o)) not_top
    ∙ free-told item o (offset items m)
    (viewed item (all-at IsNamed items m item named at) o listed) one not_inner
    (own-top items m item (its_name o) at not_top)

-- ---- joining

-- more nodes open around
deeper : (xs : List Item) (depth last more : ℕ) → open_behind depth xs ≡ Some last →
    open_behind (depth + more) xs ≡ Some (last + more)
deeper [] depth last more e = ap (λ n. Some (n + more)) (same_Some depth last e)
deeper (h.Open field head ∷ xs) depth last more e =
    let n : suc (depth + more) ≡ suc depth + more = omega arith in ap (λ n. open_behind n xs) n
    ∙ deeper xs (suc depth) last more e
deeper (h.Ident field symbol ctxt role ∷ xs) depth last more e = deeper xs depth last more e
deeper (h.Hole field ∷ xs) depth last more e = deeper xs depth last more e
deeper (h.Close ∷ xs) zero last more e = absurd (none-some last e)
deeper (h.Close ∷ xs) (suc depth) last more e =
    let n : suc depth + more ≡ suc (depth + more) = omega arith in
    ap (λ n. open_behind n (h.Close ∷ xs)) n ∙ deeper xs depth last more e

pub whole-node : (field : ℕ) (head : Head) (within rest : List Item) → IsWholeItem within →
    IsWholeItem rest → IsWholeItem (h.Open field head ∷ (within ++ h.Close ∷ rest))
whole-node field head within rest whole after =
    let n : 0 + 1 ≡ 1 = omega arith in
    open-append within (h.Close ∷ rest) 1 1
    (subst (λ n. open_behind n within ≡ Some n) n (deeper within 0 0 1 whole))
    ∙ after

pub named-names : (item : List Item) → IsNamed item → HasNamesOnly (tree_of_items item)
named-names item named d there =
    all-at HasIdentifier (own_declared item) there.0 d (identified item named)
    (slice_get-get_or (own_declared item) there.0 d there.1 ∙ ap Some there.2)

-- the whole has names only, if each item has
pub joined-names : (items : List (List Item)) → AllOf IsNamed items → HasNamesOnly (joined_items items)
joined-names items named = named-names (flat items) (named-flat items named)

-- what stands at a place of an item
pub occurrence-placed : (items : List (List Item)) → AllOf IsWholeItem items →
    (m : ℕ) (item : List Item) → slice_get items m ≡ Some item → (p : ℕ) → p < length item →
    occurrence_at (joined_items items) (suc (offset items m + p))
    ≡ option_map (moved_occurrence (offset items m))
    (occurrence_at (tree_of_items item) (suc p))
occurrence-placed items whole m item at p lt =
    let e = split-at items m item at in
    subst (λ its. occurrence_at (joined_items its) (suc (offset items m + p))
    ≡ option_map (moved_occurrence (offset items m))
    (occurrence_at (tree_of_items item) (suc p))) e
    (occurrence_at-joined (take m items) (drop (suc m) items) item
    (all-front IsWholeItem (take m items) (item ∷ drop (suc m) items)
    (subst (AllOf IsWholeItem) (sym e) whole)) p lt)

-- PLACES: what stands at a place of an item denotes in the whole.
pub denoted-joined : (items : List (List Item)) → AllOf IsWholeItem items → AllOf IsNamed items →
    (m : ℕ) (item : List Item) → slice_get items m ≡ Some item → (p : ℕ) → p < length item →
    denoted_at ByContext Es (joined_items items) (suc (offset items m + p))
    ≡ option_map (λ o. denoted_in_whole (is_item_top_name items (its_name o)) (offset items m)
    (its_name o) (own_denoted item o)) (occurrence_at (tree_of_items item) (suc p))
denoted-joined items whole named m item at p lt =
    ap (option_map (denoted_of ByContext Es (own_declared (flat items))))
    (occurrence-placed items whole m item at p lt)
    ∙ by_occurrence (occurrence_at (tree_of_items item) (suc p)) refl
  where
    by_occurrence : (o : Option Occurrence) → occurrence_at (tree_of_items item) (suc p) ≡ o →
        option_map (denoted_of ByContext Es (own_declared (flat items)))
        (option_map (moved_occurrence (offset items m)) o)
        ≡ option_map (λ o. denoted_in_whole (is_item_top_name items (its_name o)) (offset items m)
        (its_name o) (own_denoted item o)) o
    by_occurrence None there = refl
    by_occurrence (Some o) there =
        ap Some (denotes-at items whole named m item at o
        (occurrence_at-listed (tree_of_items item) (suc p) o there))

-- ---- resolved

-- an inner binding that is denoted, with its place
pub record InnerOf (item : List Item) (o : Occurrence) (d : Denoted) : Type 0 where
  pub kind : ScopeKind
  pub begins : ℕ
  pub name : Name
  pub is : d ≡ Bound (Inner kind begins) name
  pub above : 1 ≤ begins
  pub below : begins < 1 + length item
  -- it is declared by an identifier, or implied by an `arguments` of another context than that of
  -- what nothing binds
  pub by : (is_inner_name (own_declared item) (its_name o) ≡ true)
      ⊎ ((is_global_written d ≡ false) × ((o.ctxt == 1) ≡ false))

pub inner-of : (item : List Item) (o : Occurrence) {d : Denoted} → Viewed item o d →
    is_inner_denoted d ≡ true → InnerOf item o d
inner-of item o (written Wrapper at is) e = absurd at
inner-of item o (written Top at is) e = absurd (false≢true e)
inner-of item o (written (Inner kind begins) at is) e =
    record {
      kind = kind;
      begins = begins;
      name = its_name o;
      is = refl;
      above = at.0;
      below = at.1;
      by = inl (inner-declared (own_declared item) kind begins (its_name o) is);
    }
inner-of item o (implicit Wrapper at other fun) e = absurd at
inner-of item o (implicit Top at other fun) e = absurd (false≢true e)
inner-of item o (implicit (Inner kind begins) at other fun) e =
    record {
      kind = kind;
      begins = begins;
      name = _;
      is = refl;
      above = at.0;
      below = at.1;
      by = inr (refl, other);
    }
inner-of item o unbound e = absurd (false≢true e)

pub inner-moved : (k : ℕ) (d : Denoted) → is_inner_denoted d ≡ true → is_inner_denoted (moved_denoted k d) ≡ true
inner-moved k (Bound (Inner kind begins) name) e = refl
inner-moved k (Bound Top name) e = e
inner-moved k (Bound Wrapper name) e = e
inner-moved k (Global sym) e = e

-- equal after moving
pub moved-back : (k : ℕ) (d e : Denoted) → moved_denoted k d ≡ moved_denoted k e →
    is_inner_denoted d ≡ true → is_inner_denoted e ≡ true → d ≡ e
moved-back k (Bound (Inner kind begins) name) (Bound (Inner which other) its) same x y =
    let kinds : kind ≡ which = cc in
    let names : name ≡ its = cc in
    let places : begins ≡ other = moved-same k begins other cc in
    λ i. Bound (Inner (kinds i) (places i)) (names i)
moved-back k (Bound (Inner kind begins) name) (Bound Top its) same x y = absurd (false≢true y)
moved-back k (Bound (Inner kind begins) name) (Bound Wrapper its) same x y = absurd (false≢true y)
moved-back k (Bound (Inner kind begins) name) (Global sym) same x y = absurd (false≢true y)
moved-back k (Bound Top name) e same x y = absurd (false≢true x)
moved-back k (Bound Wrapper name) e same x y = absurd (false≢true x)
moved-back k (Global sym) e same x y = absurd (false≢true x)

-- the position of what is denoted
abbrev pub position_of : Denoted → ℕ
position_of (Bound (Inner kind begins) name) = begins
position_of (Bound Top name) = 0
position_of (Bound Wrapper name) = 0
position_of (Global x) = 0

-- the context of what is denoted, as an identifier has it
abbrev context_of : Denoted → ℕ
context_of (Bound scope name) = unwrap_or name.ctxt 0
context_of (Global x) = 1

-- positions of items that stand one after the other
pub far : (k l one two x y : ℕ) → 1 ≤ x → x < 1 + one → 1 ≤ y → y < 1 + two →
    (k + one ≤ l) ⊎ (l + two ≤ k) → x + k ≡ y + l → ⊥
far k l one two x y a b c d (inl le) e = omega (arith, a, b, c, d, le, e)
far k l one two x y a b c d (inr le) e = omega (arith, a, b, c, d, le, e)

-- names of one identifier
same-name : (a b : Occurrence) → SameIdent a b → its_name a ≡ its_name b
same-name a b same = λ i. name_of ByContext (same.0 i) (same.1 i)

flip : (a b : Occurrence) → SameIdent a b → SameIdent b a
flip a b same = (sym same.0, sym same.1)

module _ (items : List (List Item)) where
  -- two names that are no inner ones
  pub data Outer (item : List Item) (o : Occurrence) : Denoted → Type 0 where
    of_top : is_item_top_name items (its_name o) ≡ true → Outer item o (Bound Top (its_name o))
    of_none : o.ctxt ≡ 1 → is_item_top_name items (its_name o) ≡ false → Outer item o (Global o.sym)

  pub outer-alike : (item other : List Item) (a b : Occurrence) {d e : Denoted} → Outer item a d →
      Outer other b e → SameIdent a b ↔ (d ≡ e)
  outer-alike item other a b (of_top is) (of_top its) = (
    λ same. ap (Bound Top) (same-name a b same),
    λ same. (ap denoted_symbol same, ap context_of same),
  )
  outer-alike item other a b (of_top is) (of_none one none) = (
    λ same. absurd (false≢true (sym none ∙ ap (is_item_top_name items) (sym (same-name a b same))
        ∙ is)),
    λ same. absurd cc,
  )
  outer-alike item other a b (of_none one none) (of_top is) = (
    λ same. absurd (false≢true (sym none ∙ ap (is_item_top_name items) (same-name a b same) ∙ is)),
    λ same. absurd cc,
  )
  outer-alike item other a b (of_none one none) (of_none its nothing) =
      (λ same. ap Global same.0, λ same. (ap denoted_symbol same, one ∙ sym its))

  module _ (whole : AllOf IsWholeItem items) (named : AllOf IsNamed items) (distinct : AreItemsApart items)
    where
      -- what an occurrence denotes in the whole: an inner binding of its item, moved, or none
      pub data Told (m : ℕ) (item : List Item) (o : Occurrence) : Denoted → Type 0 where
        is_inner_of : is_inner_denoted (own_denoted item o) ≡ true →
            (is_global_written (own_denoted item o) ≡ false → is_item_top_name items (its_name o) ≡ false) →
            Told m item o (moved_denoted (offset items m) (own_denoted item o))
        is_outer : {d : Denoted} → is_inner_name (own_declared item) (its_name o) ≡ false →
            Outer item o d → Told m item o d

      told-by : (m : ℕ) (item : List Item) (o : Occurrence) → (note : IsOccurrenceNoted items item o) →
          Told m item o (noted_denoted (offset items m) note)
      told-by m item o (inner is unless) = is_inner_of is unless
      told-by m item o (top_name is not_inner) = is_outer not_inner (of_top is)
      told-by m item o (free one not_top not_inner) = is_outer not_inner (of_none one not_top)

      pub told : (m : ℕ) (item : List Item) → slice_get items m ≡ Some item → (o : Occurrence) →
          IsListedIn item o →
          Told m item o (denoted_of ByContext Es (own_declared (flat items))
          (moved_occurrence (offset items m) o))
      told m item at o listed =
          let note = distinct.noted m item o at listed in
          subst (Told m item o) (sym (note-told items whole named m item at o listed note))
          (told-by m item o note)

      -- an inner binding of an item is no name of the top and no global
      inner-outer : (m n : ℕ) (item other : List Item) → slice_get items m ≡ Some item →
          slice_get items n ≡ Some other → (a b : Occurrence) → IsListedIn item a →
          IsListedIn other b → is_inner_denoted (own_denoted item a) ≡ true →
          (is_global_written (own_denoted item a) ≡ false → is_item_top_name items (its_name a) ≡ false) →
          is_inner_name (own_declared other) (its_name b) ≡ false → {d : Denoted} → Outer other b d →
          (SameIdent a b → ⊥) × (moved_denoted (offset items m) (own_denoted item a) ≡ d → ⊥)
      inner-outer m n item other at there a b listed its_listed is unless not_inner outer =
          (differ, apart outer)
        where
          it : InnerOf item a (own_denoted item a)
          it = inner-of item a (viewed item (all-at IsNamed items m item named at) a listed) is

          apart : {d : Denoted} → Outer other b d →
              moved_denoted (offset items m) (own_denoted item a) ≡ d → ⊥
          apart (of_top top) e =
              false≢true (ap is_inner_denoted (sym e) ∙ inner-moved (offset items m) (own_denoted item a) is)
          apart (of_none one none) e =
              false≢true (ap is_inner_denoted (sym e) ∙ inner-moved (offset items m) (own_denoted item a) is)

          implied_differs : {d : Denoted} → Outer other b d →
              is_global_written (own_denoted item a) ≡ false → (a.ctxt == 1) ≡ false → SameIdent a b → ⊥
          implied_differs (of_top top) unwritten other_context same =
              false≢true (sym (unless unwritten) ∙ ap (is_item_top_name items) (same-name a b same) ∙ top)
          implied_differs (of_none one none) unwritten other_context same =
              false≢true (sym other_context ∙ eq-eqb a.ctxt 1 (same.1 ∙ one))

          by_number : (e : Bool) → (m == n) ≡ e → SameIdent a b → ⊥
          by_number false e same =
              distinct.others m n item other a b (λ one. false≢true (sym e ∙ eq-eqb m n one)) at
              there listed its_listed (record { is = is; unless = unless }) same
          by_number true e same = by_kind it.by
            where
              items_same : item ≡ other
              items_same =
                  same_Some item other (sym at ∙ ap (slice_get items) (eqb-true m n e) ∙ there)

              by_kind : (is_inner_name (own_declared item) (its_name a) ≡ true)
                  ⊎ ((is_global_written (own_denoted item a) ≡ false) × ((a.ctxt == 1) ≡ false)) →
                  ⊥
              by_kind (inl declared) =
                  false≢true (sym not_inner
                  ∙ ap (λ i. is_inner_name (own_declared i) (its_name b)) (sym items_same)
                  ∙ ap (is_inner_name (own_declared item)) (sym (same-name a b same)) ∙ declared)
              by_kind (inr implied) = implied_differs outer implied.0 implied.1 same

          differ : SameIdent a b → ⊥
          differ same = by_number (m == n) refl same

      -- inner bindings
      inner-inner : (m n : ℕ) (item other : List Item) → slice_get items m ≡ Some item →
          slice_get items n ≡ Some other → (a b : Occurrence) → IsListedIn item a →
          IsListedIn other b → IsInnerAmong items item a → IsInnerAmong items other b →
          SameIdent a b ↔ (moved_denoted (offset items m) (own_denoted item a)
          ≡ moved_denoted (offset items n) (own_denoted other b))
      inner-inner m n item other at there a b listed its_listed is its = by_number (m == n) refl
        where
          of_one : (n : ℕ) → m ≡ n → (other : List Item) → item ≡ other → IsListedIn other b →
              IsInnerAmong items other b →
              SameIdent a b ↔ (moved_denoted (offset items m) (own_denoted item a)
              ≡ moved_denoted (offset items n) (own_denoted other b))
          of_one n e =
              subst (λ n. (other : List Item) → item ≡ other → IsListedIn other b →
              IsInnerAmong items other b → SameIdent a b
              ↔ (moved_denoted (offset items m) (own_denoted item a)
              ≡ moved_denoted (offset items n) (own_denoted other b))) e
              (λ other f. subst (λ other. IsListedIn other b → IsInnerAmong items other b →
              SameIdent a b
              ↔ (moved_denoted (offset items m) (own_denoted item a)
              ≡ moved_denoted (offset items m) (own_denoted other b))) f
              (λ lists inners. let alike = distinct.inside m item a b at listed lists is inners in (
                λ same. ap (moved_denoted (offset items m)) (alike.0 same),
                λ same. alike.1 (moved-back (offset items m) (own_denoted item a)
                    (own_denoted item b) same is.is inners.is),
              )))

          x : InnerOf item a (own_denoted item a)
          x = inner-of item a (viewed item (all-at IsNamed items m item named at) a listed) is.is

          y : InnerOf other b (own_denoted other b)
          y =
              inner-of other b (viewed other (all-at IsNamed items n other named there) b its_listed)
              its.is

          apart : m ≢ n →
              moved_denoted (offset items m) (own_denoted item a)
              ≡ moved_denoted (offset items n) (own_denoted other b) →
              ⊥
          apart ne e =
              let positions : moved (offset items m) x.begins ≡ moved (offset items n) y.begins =
              ap position_of (sym (ap (moved_denoted (offset items m)) x.is) ∙ e
              ∙ ap (moved_denoted (offset items n)) y.is) in
              far (offset items m) (offset items n) (length item) (length other) x.begins y.begins
              x.above x.below y.above y.below (by_order (cases_lt m n))
              (sym (moved-from (offset items m) x.begins x.above) ∙ positions
              ∙ moved-from (offset items n) y.begins y.above)
            where
              by_order : (m < n) ⊎ (n ≤ m) →
                  (offset items m + length item ≤ offset items n)
                  ⊎ (offset items n + length other ≤ offset items m)
              by_order (inl lt) = inl (offset-later items m n item other lt at there)
              by_order (inr le) =
                  inr (offset-later items n m other item (omega (arith, le, ne)) there at)

          by_number : (e : Bool) → (m == n) ≡ e →
              SameIdent a b ↔ (moved_denoted (offset items m) (own_denoted item a)
              ≡ moved_denoted (offset items n) (own_denoted other b))
          by_number true e =
              of_one n (eqb-true m n e) other
              (same_Some item other (sym at ∙ ap (slice_get items) (eqb-true m n e) ∙ there))
              its_listed its
          by_number false e =
              let ne : m ≢ n = λ one. false≢true (sym e ∙ eq-eqb m n one) in (
                λ same. absurd (distinct.others m n item other a b ne at there listed its_listed is
                    same),
                λ same. absurd (apart ne same),
              )

      alike : (m n : ℕ) (item other : List Item) → slice_get items m ≡ Some item →
          slice_get items n ≡ Some other → (a b : Occurrence) → IsListedIn item a →
          IsListedIn other b → {d e : Denoted} → Told m item a d → Told n other b e →
          SameIdent a b ↔ (d ≡ e)
      alike m n item other at there a b listed its_listed (is_inner_of is unless)
          (is_inner_of its or) =
          inner-inner m n item other at there a b listed its_listed
          (record { is = is; unless = unless }) (record { is = its; unless = or })
      alike m n item other at there a b listed its_listed (is_inner_of is unless)
          (is_outer not_inner outer) =
          let never = inner-outer m n item other at there a b listed its_listed is unless not_inner
          outer in
          (λ same. absurd (never.0 same), λ same. absurd (never.1 same))
      alike m n item other at there a b listed its_listed (is_outer not_inner outer)
          (is_inner_of is unless) =
          let never = inner-outer n m other item there at b a its_listed listed is unless not_inner
          outer in
          (λ same. absurd (never.0 (flip a b same)), λ same. absurd (never.1 (sym same)))
      alike m n item other at there a b listed its_listed (is_outer not_inner outer)
          (is_outer not_either its) =
          outer-alike item other a b outer its

      -- what stands at a place of the whole
      at-place : (p : ℕ) (a : Occurrence) → occurrence_at (joined_items items) p ≡ Some a →
          denoted_at ByContext Es (joined_items items) p
          ≡ Some (denoted_of ByContext Es (own_declared (flat items)) a)
      at-place p a e = ap (option_map (denoted_of ByContext Es (own_declared (flat items)))) e

      told-of : (a : Occurrence) → (x : IsOfItem items a) →
          Told x.m x.item x.o (denoted_of ByContext Es (own_declared (flat items)) a)
      told-of a x =
          subst (λ b. Told x.m x.item x.o (denoted_of ByContext Es (own_declared (flat items)) b))
          (sym x.is) (told x.m x.item x.there x.o (x.j, x.at))

      both-alike : (p q : ℕ) (a b : Occurrence) → occurrence_at (joined_items items) p ≡ Some a →
          occurrence_at (joined_items items) q ≡ Some b → IsOfItem items a → IsOfItem items b →
          SameIdent a b ↔ (denoted_at ByContext Es (joined_items items) p
          ≡ denoted_at ByContext Es (joined_items items) q)
      both-alike p q a b here there x y = (
        λ same. at-place p a here ∙ ap Some (it.0 (idents same)) ∙ sym (at-place q b there),
        λ same. back (it.1
            (same_Some _ _ (sym (at-place p a here) ∙ same ∙ at-place q b there))),
      )
        where
          it : SameIdent x.o y.o
              ↔ (denoted_of ByContext Es (own_declared (flat items)) a
              ≡ denoted_of ByContext Es (own_declared (flat items)) b)
          it =
              alike x.m y.m x.item y.item x.there y.there x.o y.o (x.j, x.at) (y.j, y.at)
              (told-of a x) (told-of b y)

          idents : SameIdent a b → SameIdent x.o y.o
          idents same = (
            sym (ap (λ (o : Occurrence). o.sym) x.is) ∙ same.0
                ∙ ap (λ (o : Occurrence). o.sym) y.is,
            sym (ap (λ (o : Occurrence). o.ctxt) x.is)
                ∙ same.1 ∙ ap (λ (o : Occurrence). o.ctxt) y.is,
          )

          back : SameIdent x.o y.o → SameIdent a b
          back same = (
            ap (λ (o : Occurrence). o.sym) x.is ∙ same.0
                ∙ sym (ap (λ (o : Occurrence). o.sym) y.is),
            ap (λ (o : Occurrence). o.ctxt) x.is
                ∙ same.1 ∙ sym (ap (λ (o : Occurrence). o.ctxt) y.is),
          )

      -- a global of the whole is one of its item, and no item declares it
      global-own : (m : ℕ) (item : List Item) (o : Occurrence) {d : Denoted} →
          slice_get items m ≡ Some item → IsListedIn item o → Told m item o d → (x : List ℕ) →
          d ≡ Global x → (own_denoted item o ≡ Global x) × (is_item_top_name items (its_name o) ≡ false)
      global-own m item o at listed (is_inner_of is unless) x e =
          absurd (false≢true (ap is_inner_denoted (sym e)
          ∙ inner-moved (offset items m) (own_denoted item o) is))
      global-own m item o at listed (is_outer not_inner (of_top top)) x e = absurd (bound-global e)
      global-own m item o at listed (is_outer not_inner (of_none one none)) x e = (
        free-own item o (viewed item (all-at IsNamed items m item named at) o listed) one
            not_inner (own-top items m item (its_name o) at none) ∙ e,
        none,
      )

      arguments-own : (p : ℕ) (a : Occurrence) → occurrence_at (joined_items items) p ≡ Some a →
          denoted_at ByContext Es (joined_items items) p ≡ Some (Global (codes "arguments")) →
          IsOfItem items a → find is_function (scopes_around Es a.path) ≡ None
      arguments-own p a at e x =
          let own = global-own x.m x.item x.o x.there (x.j, x.at) (told-of a x) (codes "arguments")
          (same_Some _ _ (sym (at-place p a at) ∙ e)) in
          let none = distinct.own_arguments x.m x.item x.o x.there (x.j, x.at) own.1 own.0 in
          ap (λ (b : Occurrence). find is_function (scopes_around Es b.path)) x.is
          ∙ ap (find is_function) (scopes_around-moved (offset items x.m) Es x.o.path)
          ∙ find-map is_function is_function (moved_scope (offset items x.m))
          (is_function-relocated (moved (offset items x.m))) (scopes_around Es x.o.path)
          ∙ ap (option_map (moved_scope (offset items x.m))) none

      -- RESOLVED: symbols and contexts tell the bindings of the whole apart.
      pub resolved : IsResolved Es (joined_items items)
      resolved = record {
        same =
            λ p q a b here there. both-alike p q a b here there
            (occurrence-of-item items whole p a here) (occurrence-of-item items whole q b there);
        own_arguments = λ p a at e. arguments-own p a at e (occurrence-of-item items whole p a at);
      }
