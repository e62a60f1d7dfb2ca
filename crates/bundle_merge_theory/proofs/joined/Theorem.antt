-- Theorem of this folder (`placed-items`, `order-of-block`): in a module that is put together of
-- items each occurrence has the note that its context asks for, its top items are those items, and
-- an order that is good in the whole is good for a block.
-- Used by folders `composed`, `finished`, `laid`, `sorted`, `together` of `bundle_merge_theory`.
use Rattle.std.proofs.Common.{◌≡◌, ℕ, suc, ◌==◌, Bool, true, false, cond, not, ◌&&◌, ◌||◌, List, [], ◌∷◌, Option, Some, None, is_some, filter_map, slice_get, bytes_eq, refl, ap, sym, ◌∙◌, eqb-true, zero, ◌+◌, ◌++◌, map, take, length, codes, subst, arith, append_assoc}
use Rattle.std.specs.List.{list_any, cons_option}
use Rattle.std.proofs.lemmas.Bool.{false≢true, and_parts}
use Rattle.std.proofs.lemmas.Option.{none-some, same_Some}
use Rattle.std.proofs.lemmas.Slice.Eq.{bytes_eq-Decides}
use Rattle.std.proofs.lemmas.List.{length-append, take_at}
use Rattle.bundle_syntax.specs.Item as h
use Rattle.bundle_syntax.specs.Item.{Item, Head}
use Rattle.bundle_syntax.specs.declared.piece.Role.{Role}
use Rattle.bundle_rules.specs.Places.{Occurrence, occurrences, is_binding}
use Rattle.bundle_rules.specs.Scopes.{Es, Scope, Wrapper, Top, Inner, scopes_around}
use Rattle.bundle_rules.specs.Declarations.{Way, ByContext, Name, names_agree, Declared, declared_by, declaration_of, way_of, name_of}
use Rattle.bundle_rules.specs.Homes.{home_of, is_top}
use Rattle.bundle_rules.specs.Denotes.{Denoted, Bound, Global, own_or_found, denoted_by_context, SameIdent, IsResolved}
use Rattle.bundle_rules.specs.Parts.{tree_of_items}
use Rattle.bundle_rules.specs.Nodes.{put_first, side_by_side, parts}
use Rattle.bundle_rules.specs.Order.{group_of, IsGoodOrder}
use Rattle.bundle_rules.specs.Sorting.{flat, group_of_items}
use Rattle.bundle_rules.specs.Statements.{TopItem, placed, top_items}
use Rattle.bundle_merge_theory.specs.joined.Joined.{joined_items, AllOf, IsWholeItem, own_declared, is_item_top_name, is_global_written, open_behind}
use Rattle.bundle_merge_theory.specs.joined.Notes.{its_name, own_denoted, is_inner_denoted, is_inner_name, IsOccurrenceNoted, inner, top_name, free, IsListedIn, AreItemsApart, AreToldApart}
use Rattle.bundle_merge_theory.proofs.joined.Declarations.{IsNamed, declared-item, all-at}
use Rattle.bundle_merge_theory.proofs.joined.Notes.{Viewed, written, implicit, unbound, viewed, inner-declared, own-top, resolved}
use Rattle.bundle_merge_theory.specs.joined.Picked.{IsItemPlaced, BindsOwnNames, IsSingle}
use Rattle.bundle_merge_theory.proofs.joined.Paths.{flat-append, get-first}
use Rattle.bundle_merge_theory.proofs.joined.Blocks.{order-joined}
use Rattle.bundle_merge_theory.proofs.grouped.WholeLemmas.{put_all, put_all-cons}

-- ---- noting

-- an element of what is told of a list
told-found : (f : Occurrence → Option Declared) (p : Declared → Bool) (os : List Occurrence) →
    list_any p (filter_map f os) ≡ true →
    (i : ℕ) × (o : Occurrence) × (d : Declared) × (slice_get os i ≡ Some o) × (f o ≡ Some d)
    × (p d ≡ true)
told-found f p [] e = absurd (false≢true e)
told-found f p (x ∷ os) e = by_first (f x) refl e (told-found f p os)
  where
    later : (i : ℕ) × (o : Occurrence) × (d : Declared) × (slice_get os i ≡ Some o)
        × (f o ≡ Some d) × (p d ≡ true) →
        (i : ℕ) × (o : Occurrence) × (d : Declared) × (slice_get (x ∷ os) i ≡ Some o)
        × (f o ≡ Some d) × (p d ≡ true)
    later it = (suc it.0, it.1, it.2, it.3, it.4, it.5)

    by_first : (first : Option Declared) → f x ≡ first →
        list_any p (cons_option first (filter_map f os)) ≡ true →
        (list_any p (filter_map f os) ≡ true → (i : ℕ) × (o : Occurrence) × (d : Declared)
        × (slice_get os i ≡ Some o) × (f o ≡ Some d) × (p d ≡ true)) →
        (i : ℕ) × (o : Occurrence) × (d : Declared) × (slice_get (x ∷ os) i ≡ Some o)
        × (f o ≡ Some d) × (p d ≡ true)
    by_first None is any ih = later (ih any)
    by_first (Some d) is any ih = by_test (p d) refl any
      where
        by_test : (b : Bool) → p d ≡ b → (b || list_any p (filter_map f os)) ≡ true →
            (i : ℕ) × (o : Occurrence) × (d : Declared) × (slice_get (x ∷ os) i ≡ Some o)
            × (f o ≡ Some d) × (p d ≡ true)
        by_test true passes any = (0, x, d, refl, is, passes)
        by_test false passes any = later (ih any)

-- whether what is denoted is of the top
abbrev top_of : Denoted → Bool
top_of (Bound scope name) = is_top scope
top_of (Global x) = false

-- an identifier that declares an inner name
record Declares (item : List Item) (name : Name) : Type 0 where
  pub a : Occurrence
  pub listed : IsListedIn item a
  pub inner : is_inner_denoted (own_denoted item a) ≡ true
  pub written : is_global_written (own_denoted item a) ≡ true
  pub agrees : names_agree (its_name a) name ≡ true

module _ (item : List Item) (named : IsNamed item) where
  -- what an identifier that declares denotes
  by-way : (a : Occurrence) (d : Declared) → declaration_of ByContext Es a ≡ Some d →
      (d.name ≡ its_name a) × (own_denoted item a ≡ Bound (home_of (own_declared item) d) d.name)
  by-way a d is = (
    by_role (is_binding a.role) (way_of a.path) is,
    ap (own_or_found (own_declared item)
        (denoted_by_context (own_declared item) (scopes_around Es a.path) (its_name a))) is,
  )
    where
      by_role : (b : Bool) (way : Option Way) →
          cond b (declared_by a.place (its_name a) (scopes_around Es a.path) way) None ≡ Some d →
          d.name ≡ its_name a
      by_role true None e = absurd (none-some d e)
      by_role true (Some way) e = ap (λ (x : Declared). x.name) (sym (same_Some _ d e))
      by_role false way e = absurd (none-some d e)

  not-top : (a : Occurrence) {d : Denoted} → Viewed item a d → (scope : Scope) (name : Name) →
      d ≡ Bound scope name → is_top scope ≡ false → is_inner_denoted d ≡ true
  not-top a (written Wrapper at is) scope name e below = absurd at
  not-top a (written Top at is) scope name e below =
      absurd (false≢true (sym below ∙ ap top_of (sym e)))
  not-top a (written (Inner kind begins) at is) scope name e below = refl
  not-top a (implicit Wrapper at other fun) scope name e below = absurd at
  not-top a (implicit Top at other fun) scope name e below = absurd (false≢true fun)
  not-top a (implicit (Inner kind begins) at other fun) scope name e below = refl
  not-top a unbound scope name e below = absurd cc

  declaring : (name : Name) → is_inner_name (own_declared item) name ≡ true → Declares item name
  declaring name e =
      let it = told-found (declaration_of ByContext Es)
      (λ d. not (is_top (home_of (own_declared item) d)) && names_agree d.name name)
      (occurrences (tree_of_items item))
      (ap (list_any (λ d. not (is_top (home_of (own_declared item) d))
      && names_agree d.name name)) (sym (declared-item item named)) ∙ e) in
      let parts = and_parts (not (is_top (home_of (own_declared item) it.2)))
      (names_agree it.2.name name) it.5 in
      let way = by-way it.1 it.2 it.4 in
      record {
        a = it.1;
        listed = (it.0, it.3);
        inner =
            not-top it.1 (viewed item named it.1 (it.0, it.3)) (home_of (own_declared item) it.2)
            it.2.name way.1 (not-true (is_top (home_of (own_declared item) it.2)) parts.0);
        written = ap is_global_written way.1 ∙ ap (λ (n : Name). is_some n.ctxt) way.0;
        agrees = ap (λ n. names_agree n name) (sym way.0) ∙ parts.1;
      }
    where
      not-true : (b : Bool) → not b ≡ true → b ≡ false
      not-true true e = absurd (false≢true e)
      not-true false e = refl

same-ident : (a b : Occurrence) → names_agree (its_name a) (its_name b) ≡ true → SameIdent a b
same-ident a b e =
    let parts = and_parts (bytes_eq a.sym b.sym) (a.ctxt == b.ctxt) e in
    ((bytes_eq-Decides a.sym b.sym).0 parts.0, eqb-true a.ctxt b.ctxt parts.1)

-- NOTING: each occurrence has its note.
module _ (items : List (List Item)) (named : AllOf IsNamed items) (told : AreToldApart items)
    (m : ℕ) (item : List Item) (o : Occurrence) (at : slice_get items m ≡ Some item)
    (listed : IsListedIn item o) where
  item-named : IsNamed item
  item-named = all-at IsNamed items m item named at

  of-inner : Declares item (its_name o) → IsOccurrenceNoted items item o
  of-inner d =
      let same = ((told.inside m item at).same d.a o d.listed listed d.inner).0
      (same-ident d.a o d.agrees) in
      inner (ap is_inner_denoted (sym same) ∙ d.inner)
      (λ unwritten. absurd (false≢true (sym unwritten ∙ ap is_global_written (sym same) ∙ d.written)))

  of-rest : {d : Denoted} → Viewed item o d → own_denoted item o ≡ d →
      is_inner_name (own_declared item) (its_name o) ≡ false →
      is_item_top_name items (its_name o) ≡ false → IsOccurrenceNoted items item o
  of-rest (written Wrapper in_range is) e not_inner not_top = absurd in_range
  of-rest (written Top in_range is) e not_inner not_top =
      absurd (false≢true (sym (own-top items m item (its_name o) at not_top) ∙ is))
  of-rest (written (Inner kind begins) in_range is) e not_inner not_top =
      absurd (false≢true (sym not_inner
      ∙ inner-declared (own_declared item) kind begins (its_name o) is))
  of-rest (implicit Wrapper in_range other fun) e not_inner not_top = absurd in_range
  of-rest (implicit Top in_range other fun) e not_inner not_top = absurd (false≢true fun)
  of-rest (implicit (Inner kind begins) in_range other fun) e not_inner not_top =
      inner (ap is_inner_denoted e) (λ unwritten. not_top)
  of-rest unbound e not_inner not_top =
      free (told.known m item o at listed e not_top) not_top not_inner

  pub note-of : IsOccurrenceNoted items item o
  note-of =
      by_inner (is_inner_name (own_declared item) (its_name o)) refl
      (is_item_top_name items (its_name o)) refl
    where
      by_inner : (b : Bool) → is_inner_name (own_declared item) (its_name o) ≡ b → (t : Bool) →
          is_item_top_name items (its_name o) ≡ t → IsOccurrenceNoted items item o
      by_inner true e t is = of-inner (declaring item item-named (its_name o) e)
      by_inner false e true is = top_name is e
      by_inner false e false is = of-rest (viewed item item-named o listed) refl e is

pub told-apart : (items : List (List Item)) → AllOf IsNamed items → AreToldApart items →
    AreItemsApart items
told-apart items named told =
    record {
      noted = λ m item o at listed. note-of items named told m item o at listed;
      inside = λ m item a b at one two is its. (told.inside m item at).same a b one two is.is;
      others = λ m n item other a b ne at there one two is.
          told.others m n item other a b ne at there one two is.is;
      own_arguments = told.own_arguments;
    }

-- the whole is resolved
pub resolved-by_contexts : (items : List (List Item)) → AllOf IsWholeItem items → AllOf IsNamed items →
    AreToldApart items → IsResolved Es (joined_items items)
resolved-by_contexts items whole named told =
    resolved items whole named (told-apart items named told)

-- ---- top items

-- One node.
pub single-name : (field : ℕ) (symbol : List ℕ) (ctxt : ℕ) (role : Role) →
    IsSingle (h.Ident field symbol ctxt role ∷ [])
single-name field symbol ctxt role rest = refl

pub single-hole : (field : ℕ) → IsSingle (h.Hole field ∷ [])
single-hole field rest = refl

inside-node : (xs : List Item) (depth last : ℕ) → open_behind depth xs ≡ Some last →
    (rest : List Item) →
    side_by_side (suc depth) (xs ++ rest) ≡ put_all xs (side_by_side (suc last) rest)
inside-node [] depth last e rest = ap (λ n. side_by_side (suc n) rest) (same_Some depth last e)
inside-node (h.Open field head ∷ xs) depth last e rest =
    ap (put_first (h.Open field head)) (inside-node xs (suc depth) last e rest)
inside-node (h.Ident field symbol ctxt role ∷ xs) depth last e rest =
    ap (put_first (h.Ident field symbol ctxt role)) (inside-node xs depth last e rest)
inside-node (h.Hole field ∷ xs) depth last e rest =
    ap (put_first (h.Hole field)) (inside-node xs depth last e rest)
inside-node (h.Close ∷ xs) zero last e rest = absurd (none-some last e)
inside-node (h.Close ∷ xs) (suc depth) last e rest =
    ap (put_first h.Close) (inside-node xs depth last e rest)

pub single-node : (field : ℕ) (head : Head) (within : List Item) → IsWholeItem within →
    IsSingle (h.Open field head ∷ (within ++ h.Close ∷ []))
single-node field head within whole rest =
    ap (λ list. put_first (h.Open field head) (side_by_side 1 list))
    (append_assoc within (h.Close ∷ []) rest)
    ∙ ap (put_first (h.Open field head)) (inside-node within 0 0 whole (h.Close ∷ rest))
    ∙ ap (put_first (h.Open field head))
    (put_all-cons within (h.Close ∷ []) (side_by_side zero rest))

-- PARTS: the nodes of a whole are its items.
pub parts-joined : (items : List (List Item)) → AllOf IsSingle items → parts (joined_items items) ≡ items
parts-joined [] single = refl
parts-joined (item ∷ more) single =
    ap (side_by_side zero) (append_assoc item (flat more) (h.Close ∷ []))
    ∙ single.0 (flat more ++ h.Close ∷ []) ∙ ap (λ rest. item ∷ rest) (parts-joined more single.1)

pub top_items-joined : (items : List (List Item)) → AllOf IsSingle items →
    top_items (joined_items items) ≡ placed 1 items
top_items-joined items single = ap (placed 1) (parts-joined items single)

placed-behind : (items before after : List (List Item)) → before ++ after ≡ items →
    AllOf (IsItemPlaced items) (placed (suc (length (flat before))) after)
placed-behind items before [] e = tt
placed-behind items before (item ∷ more) e = (
  record {
    m = length before;
    there = ap (λ its. slice_get its (length before)) (sym e) ∙ get-first before more item;
    start =
        ap (λ list. suc (length (flat list)))
        (sym (take_at before (item ∷ more) (length before) refl)
        ∙ ap (take (length before)) e);
  },
  subst (λ n. AllOf (IsItemPlaced items) (placed n more)) further
      (placed-behind items (before ++ item ∷ []) more (append_assoc before (item ∷ []) more ∙ e)),
)
  where
    further : suc (length (flat (before ++ item ∷ []))) ≡ suc (length (flat before)) + length item
    further =
        let one = ap length (flat-append before (item ∷ [])) in
        let both = length-append (flat before) (item ++ []) in
        let own = length-append item [] in omega (arith, one, both, own)

pub placed-joined : (items : List (List Item)) → AllOf (IsItemPlaced items) (placed 1 items)
placed-joined items = placed-behind items [] items refl

pub placed-items : (n : ℕ) (items : List (List Item)) →
    map (λ (top : TopItem). top.items) (placed n items) ≡ items
placed-items n [] = refl
placed-items n (item ∷ more) = ap (λ rest. item ∷ rest) (placed-items (n + length item) more)

placed-at : (n : ℕ) (items : List (List Item)) (m : ℕ) (item : List Item) →
    slice_get items m ≡ Some item →
    (s : ℕ) × (top : TopItem) × (slice_get (placed n items) s ≡ Some top) × (top.items ≡ item)
placed-at n [] m item e = absurd (none-some item e)
placed-at n (x ∷ items) zero item e = (0, _, refl, same_Some x item e)
placed-at n (x ∷ items) (suc m) item e =
    let it = placed-at (n + length x) items m item e in (suc it.0, it.1, it.2, it.3)

-- the elements of placed items
items-at : (n : ℕ) (items : List (List Item)) (s : ℕ) (top : TopItem) →
    slice_get (placed n items) s ≡ Some top → slice_get items s ≡ Some top.items
items-at n [] s top e = absurd (none-some top e)
items-at n (x ∷ items) zero top e = ap (λ (t : TopItem). Some t.items) (same_Some _ top e)
items-at n (x ∷ items) (suc s) top e = items-at (n + length x) items s top e

-- ORDER: an order that is good for the items of a block, as the tree of them alone, is good for
-- them where they stand in a whole.
pub order-of-block : (block others : List (List Item)) → AllOf IsSingle block →
    AllOf IsWholeItem block → AllOf IsNamed block → AllOf (BindsOwnNames block others) block →
    AllOf IsWholeItem others → AllOf IsNamed others → (its : List TopItem) →
    AllOf (IsItemPlaced others) its → map (λ (top : TopItem). top.items) its ≡ block →
    is_item_top_name others (name_of ByContext (codes "Object") 1)
    ≡ is_item_top_name block (name_of ByContext (codes "Object") 1) →
    (owners : List (Option ℕ)) (order : List ℕ) →
    IsGoodOrder (group_of_items (flat block) owners) order →
    IsGoodOrder (group_of ByContext Top (joined_items others) its owners) order
order-of-block block others single whole named ways other_whole other_named its placed_its same
    object owners order good =
    order-joined block others whole named other_whole other_named (placed 1 block) its
    (record {
      placed = placed-joined block;
      its_placed = placed_its;
      same = placed-items 1 block
          ∙ sym same;
      all = placed-at 1 block;
      object = object;
    })
    (λ s top at. all-at (BindsOwnNames block others) block s top.items ways (items-at 1 block s top at))
    owners order
    (subst (λ tops. IsGoodOrder (group_of ByContext Top (joined_items block) tops owners) order)
    (top_items-joined block single) good)
