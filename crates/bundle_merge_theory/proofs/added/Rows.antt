-- Items whose bindings all stand at their top: what they declare, and what their names denote.
-- An item whose bindings all stand at its top, where each name stands for a label of the top of the
-- bundle: all that is shown of it by itself.
-- Names with the identifiers that stand for their targets, in turn: which identifiers they bind,
-- and for which labels they stand.
use Rattle.std.proofs.Common.{◌≡◌, ℕ, ◌==◌, ◌&&◌, ◌||◌, Bool, true, false, cond, not, List, [], ◌∷◌, Some, None, bytes_eq, append-nil, unwrap_or, refl, ap, sym, ◌∙◌, subst, zero, suc, Option, slice_get, eq-eqb, map, inl, inr}
use Rattle.std.specs.List.{AllZip, list_any, cons_option}
use Rattle.std.proofs.lemmas.Bool.{and_parts, and_from, eqb-true, false≢true, or_right}
use Rattle.std.proofs.lemmas.Option.{none-some, same_Some}
use Rattle.std.proofs.lemmas.Slice.Eq.{bytes_eq-Decides}
use Rattle.std.specs.Prelude.{Contains}
use Rattle.bundle_syntax.specs.Item as h
use Rattle.bundle_syntax.specs.Item.{Item}
use Rattle.bundle_rules.specs.Places.{Around, Occurrence, occurrences, occurrences_from, is_binding}
use Rattle.bundle_rules.specs.Scopes.{Es, Scope, Top, same_scope, scopes_around}
use Rattle.bundle_rules.specs.Declarations.{Way, ByContext, Name, names_agree, name_of, Declared, declared_by, declaration_of, way_of}
use Rattle.bundle_rules.specs.Homes.{takes, from_taker, nearest, taker, parameters_of, joins_parameter, home_beside, home_of, is_top, is_declared_in}
use Rattle.bundle_rules.specs.Denotes.{has_identifier, is_written_in, Denoted}
use Rattle.bundle_rules.specs.Nodes.{Text}
use Rattle.bundle_rules.specs.Idents.{Ident, ident_of}
use Rattle.bundle_rules.specs.Rebuilds.{Listed}
use Rattle.bundle_rules.specs.Parts.{tree_of_items}
use Rattle.bundle_rules.specs.Meaning.{Label, Meant, Known, Of}
use Rattle.bundle_rules.specs.Program.{Program}
use Rattle.bundle_rules.specs.Bundle.{Cause, Defines, AsModule, Hooks}
use Rattle.bundle_rules.specs.Injected.{NamedTarget}
use Rattle.bundle_rules.specs.Linking.{Target}
use Rattle.bundle_scope_names.proofs.Kept.{occurrences-append as occurrences_append}
use Rattle.bundle_scope_names.specs.fit.Sorts.{AnItem}
use Rattle.bundle_scope_names.specs.fit.Fits as f
use Rattle.bundle_scope_names.specs.fit.Fits.{IsFit}
use Rattle.bundle_merge_theory.specs.joined.Joined.{AllOf, own_declared}
use Rattle.bundle_merge_theory.specs.joined.Notes.{its_name, is_inner_name}
use Rattle.bundle_merge_theory.proofs.joined.Paths.{any-none}
use Rattle.bundle_merge_theory.proofs.joined.Declarations.{IsNamed as HasNames, declared_by_names, declared-item}
use Rattle.bundle_merge_theory.specs.joined.Picked.{IsSingle}
use Rattle.bundle_merge_theory.specs.walked.Renaming.{ItemMeaning, HasMarks, HasNoLoneName}
use Rattle.bundle_merge_theory.proofs.joined.Bindings.{Contains-cons, Contains-none}
use Rattle.bundle_merge_theory.proofs.walked.Loading.{Row, means_of, written_of, target_of, Import as Pair}
use Rattle.bundle_merge_theory.specs.composed.Noted.{first_spot, AsWhole, MarksStandFor, as_whole}
use Rattle.bundle_merge_theory.proofs.answered.Inward.{declared_so}
use Rattle.bundle_merge_theory.specs.composed.Functions.{whole_form}
use Rattle.bundle_merge_theory.proofs.composed.Counting.{nodes_in}
use Rattle.bundle_merge_theory.proofs.composed.Naming.{node-count}
use Rattle.bundle_merge_theory.proofs.fit.Facts.{fit_nodes}
use Rattle.bundle_merge_theory.proofs.fit.Clearing.{beside}
use Rattle.bundle_merge_theory.specs.made.Given.{HookAnswer, BundleContexts, ident_of_label}
use Rattle.bundle_merge_theory.specs.made.Alone.{IsTopLabel, DeclaresLabel, NameAlone, of_top, IsItemAlone, CalledAlone}
use Rattle.bundle_merge_theory.proofs.own.Tree.{top-not-inner}
use Rattle.bundle_merge_theory.specs.made.Made.{named_idents, linked_idents}

-- ---- topped

-- a name that stands so is declared at the top of its item
pub record IsAtTop (path : List Around) : Type 0 where
  pub way : Way
  pub is : way_of path ≡ Some way
  pub scopes : scopes_around Es path ≡ Top ∷ []
  pub takes_it : takes way Top ≡ true

-- an occurrence of this identifier, which binds it at the top, or refers to it
pub record IsTopped (o : Occurrence) (its : Listed) : Type 0 where
  pub ident : ident_of o ≡ its.0
  pub binds : is_binding o.role ≡ its.1
  pub home : its.1 ≡ true → IsAtTop o.path

-- the occurrences of an item by itself
pub occurrences-item : (item : List Item) →
    occurrences (tree_of_items item) ≡ occurrences_from first_spot item
occurrences-item item =
    occurrences_append first_spot item (h.Close ∷ []) ∙ append-nil
    (occurrences_from first_spot item)

-- what is declared at the top belongs there
abbrev pub BelongsToTop : Declared → Type 0
BelongsToTop d = (all : List Declared) → home_of all d ≡ Top

belongs : (d : Declared) → d.scopes ≡ Top ∷ [] → takes d.by Top ≡ true → BelongsToTop d
belongs d scopes takes_it all =
    ap (λ from. cond (joins_parameter d.by) (home_beside all d (parameters_of from))
    (taker d)) taken
    ∙ both (joins_parameter d.by) (taker d) its_taker
  where
    taken : from_taker d.by d.scopes ≡ Top ∷ []
    taken = ap (from_taker d.by) scopes ∙ ap (λ b. cond b (Top ∷ []) []) takes_it

    its_taker : taker d ≡ Top
    its_taker = ap (λ from. unwrap_or (nearest from) Top) taken

    both : (b : Bool) (scope : Scope) → scope ≡ Top → cond b scope scope ≡ Top
    both true scope e = e
    both false scope e = e

declares-so : (o : Occurrence) (its : Listed) (topped : IsTopped o its) (binds : its.1 ≡ true) →
    declaration_of ByContext Es o ≡ Some (declared_so (topped.home binds).way o)
declares-so o its topped binds =
    ap (λ b. cond b (declared_by o.place (its_name o) (scopes_around Es o.path)
    (way_of o.path)) None)
    (topped.binds ∙ binds)
    ∙ ap (declared_by o.place (its_name o) (scopes_around Es o.path)) (topped.home binds).is

declares-none : (o : Occurrence) (its : Listed) → IsTopped o its → its.1 ≡ false →
    declaration_of ByContext Es o ≡ None
declares-none o its topped refers =
    ap (λ b. cond b (declared_by o.place (its_name o) (scopes_around Es o.path)
    (way_of o.path)) None)
    (topped.binds ∙ refers)

so-belongs : (o : Occurrence) (its : Listed) (topped : IsTopped o its) (binds : its.1 ≡ true) →
    BelongsToTop (declared_so (topped.home binds).way o)
so-belongs o its topped binds =
    belongs (declared_so (topped.home binds).way o) (topped.home binds).scopes
    (topped.home binds).takes_it

-- all that topped occurrences declare
all-belong : (os : List Occurrence) (names : List Listed) → AllZip IsTopped os names →
    AllOf BelongsToTop (declared_by_names os)
all-belong [] [] topped = tt
all-belong [] (its ∷ names) topped = absurd topped
all-belong (o ∷ os) [] topped = absurd topped
all-belong (o ∷ os) (its ∷ names) topped =
    by_binds its.1 refl (all-belong os names topped.1)
  where
    by_binds : (b : Bool) → its.1 ≡ b → AllOf BelongsToTop (declared_by_names os) →
        AllOf BelongsToTop (cons_option (declaration_of ByContext Es o) (declared_by_names os))
    by_binds true is rest =
        subst (λ d. AllOf BelongsToTop (cons_option d (declared_by_names os)))
        (sym (declares-so o its topped.0 is)) (so-belongs o its topped.0 is, rest)
    by_binds false is rest =
        subst (λ d. AllOf BelongsToTop (cons_option d (declared_by_names os)))
        (sym (declares-none o its topped.0 is)) rest

-- whether this binds the identifier
abbrev pub binds_it : Text → ℕ → Listed → Bool
binds_it x c its = its.1 && (bytes_eq its.0.0 x && (its.0.1 == c))

-- whether a declaration has an identifier and declares the name at the top
abbrev declares_top : List Declared → Name → Declared → Bool
declares_top all name d = has_identifier d && is_declared_in all Top name d

any-top : (all : List Declared) (x : Text) (c : ℕ) (os : List Occurrence) (names : List Listed) →
    AllZip IsTopped os names →
    list_any (declares_top all (name_of ByContext x c)) (declared_by_names os)
    ≡ list_any (binds_it x c) names
any-top all x c [] [] topped = refl
any-top all x c [] (its ∷ names) topped = absurd topped
any-top all x c (o ∷ os) [] topped = absurd topped
any-top all x c (o ∷ os) (its ∷ names) topped =
    by_binds its.1 refl (any-top all x c os names topped.1)
  where
    by_binds : (b : Bool) → its.1 ≡ b →
        list_any (declares_top all (name_of ByContext x c)) (declared_by_names os)
        ≡ list_any (binds_it x c) names →
        list_any (declares_top all (name_of ByContext x c))
        (cons_option (declaration_of ByContext Es o) (declared_by_names os))
        ≡ (binds_it x c its || list_any (binds_it x c) names)
    by_binds true is rest =
        ap
        (λ d. list_any (declares_top all (name_of ByContext x c)) (cons_option d
        (declared_by_names os)))
        (declares-so o its topped.0 is)
        ∙ ap
        (λ scope. (same_scope scope Top && (bytes_eq o.sym x && (o.ctxt == c)))
        || list_any (declares_top all (name_of ByContext x c)) (declared_by_names os))
        (so-belongs o its topped.0 is all)
        ∙ ap
        (λ (i : Ident). (bytes_eq i.0 x && (i.1 == c))
        || list_any (declares_top all (name_of ByContext x c)) (declared_by_names os))
        (topped.0).ident
        ∙ ap (λ b. (bytes_eq its.0.0 x && (its.0.1 == c)) || b) rest
        ∙ ap (λ b. (b && (bytes_eq its.0.0 x && (its.0.1 == c))) || list_any (binds_it x c) names)
        (sym is)
    by_binds false is rest =
        ap
        (λ d. list_any (declares_top all (name_of ByContext x c)) (cons_option d
        (declared_by_names os)))
        (declares-none o its topped.0 is)
        ∙ rest
        ∙ ap (λ b. (b && (bytes_eq its.0.0 x && (its.0.1 == c))) || list_any (binds_it x c) names)
        (sym is)

-- An item whose occurrences are topped.
module _ (item : List Item) (names : List Listed) (named : HasNames item)
    (topped : AllZip IsTopped (occurrences_from first_spot item) names) where
  own-is : own_declared item ≡ declared_by_names (occurrences_from first_spot item)
  own-is = declared-item item named ∙ ap declared_by_names (occurrences-item item)

  own-belong : AllOf BelongsToTop (own_declared item)
  own-belong =
      subst (AllOf BelongsToTop) (sym own-is)
      (all-belong (occurrences_from first_spot item) names topped)

  -- no inner scope declares a name
  pub none-inner : (name : Name) → is_inner_name (own_declared item) name ≡ false
  none-inner name =
      any-none BelongsToTop
      (λ d. not (is_top (home_of (own_declared item) d)) && names_agree d.name name)
      (λ d top. ap (λ scope. not (is_top scope) && names_agree d.name name) (top
      (own_declared item)))
      (own_declared item) own-belong

  -- what its top declares
  pub top-written : (x : Text) (c : ℕ) →
      is_written_in (own_declared item) Top (name_of ByContext x c) ≡ list_any (binds_it x c) names
  top-written x c =
      ap (list_any (declares_top (own_declared item) (name_of ByContext x c))) own-is
      ∙ any-top (own_declared item) x c (occurrences_from first_spot item) names topped

-- ---- alone

-- a name stands for a label of the top of the bundle
pub record IsOfTop (p : Program) (list : List ℕ) (context : BundleContexts) (its : Listed)
    (meant : Meant) : Type 0 where
  pub label : Label
  pub is : meant ≡ Known label
  pub there : IsTopLabel p label
  pub ident : its.0 ≡ ident_of_label p list context label

-- one node or name
pub fit-one : {field : ℕ} {item : List Item} → IsFit AnItem field item → nodes_in 0 item ≡ 1
fit-one (f.name it) = refl
fit-one (f.node {field = n} {head = head} {inside = inside} it in_it) =
    node-count n head inside (fit_nodes in_it)

pub fit-single : {field : ℕ} {item : List Item} → IsFit AnItem field item → IsSingle item
fit-single it rest = beside it rest

-- Which identifiers are bound.

-- a binding of this identifier
pub binds-same : (its : Listed) (i : Ident) → its.1 ≡ true → its.0 ≡ i →
    binds_it i.0 i.1 its ≡ true
binds-same its i binds is =
    and_from its.1 (bytes_eq its.0.0 i.0 && (its.0.1 == i.1)) binds
    (and_from (bytes_eq its.0.0 i.0) (its.0.1 == i.1)
    ((bytes_eq-Decides its.0.0 i.0).1 (ap (λ (j : Ident). j.0) is))
    (eq-eqb its.0.1 i.1 (ap (λ (j : Ident). j.1) is)))

pub binds-is : (its : Listed) (x : Text) (c : ℕ) → binds_it x c its ≡ true →
    (its.1 ≡ true) × (its.0 ≡ (x, c))
binds-is its x c is =
    let parts = and_parts its.1 (bytes_eq its.0.0 x && (its.0.1 == c)) is in
    let both = and_parts (bytes_eq its.0.0 x) (its.0.1 == c) parts.1 in
    let first : its.0.0 ≡ x = (bytes_eq-Decides its.0.0 x).0 both.0 in
    let second : its.0.1 ≡ c = eqb-true its.0.1 c both.1 in
    (parts.0, λ i. (first i, second i))

-- All of it.
module _ (p : Program) (hooks : Hooks) (list : List ℕ) (context : BundleContexts)
    (answers : ℕ → Option HookAnswer) (cause : Cause)
    (other : (c : ℕ) → cause ≡ Defines c → ⊥) (item : List Item) (told : ItemMeaning)
    (names : List Listed) where
  means-alone : (begins : ℕ) (inner : List Denoted) → HasNames item →
      AllZip IsTopped (occurrences_from first_spot item) names →
      (os : List Occurrence) (its : List Listed) (meants : List Meant) → AllZip IsTopped os its →
      AllZip (IsOfTop p list context) its meants →
      AllZip (NameAlone p list context answers cause item begins inner) os meants
  means-alone begins inner named all [] [] [] topped means = tt
  means-alone begins inner named all [] [] (meant ∷ meants) topped means = absurd means
  means-alone begins inner named all [] (one ∷ its) meants topped means = absurd topped
  means-alone begins inner named all (o ∷ os) [] meants topped means = absurd topped
  means-alone begins inner named all (o ∷ os) (one ∷ its) [] topped means = absurd means
  means-alone begins inner named all (o ∷ os) (one ∷ its) (meant ∷ meants) topped means = (
    subst (NameAlone p list context answers cause item begins inner o) (sym (means.0).is)
        (of_top (none-inner item names named all (its_name o))
        (λ c is. absurd (other c is)) (means.0).there
        ((topped.0).ident ∙ (means.0).ident)),
    means-alone begins inner named all os its meants topped.1 means.1,
  )

  label-at : (os : List Occurrence) (its : List Listed) (meants : List Meant) →
      AllZip IsTopped os its → AllZip (IsOfTop p list context) its meants → (i : ℕ)
      (o : Occurrence) → slice_get os i ≡ Some o →
      (l : Label) × IsTopLabel p l × (ident_of o ≡ ident_of_label p list context l)
  label-at [] its meants topped means i o at = absurd (none-some o at)
  label-at (x ∷ os) [] meants topped means i o at = absurd topped
  label-at (x ∷ os) (one ∷ its) [] topped means i o at = absurd means
  label-at (x ∷ os) (one ∷ its) (meant ∷ meants) topped means zero o at = (
    (means.0).label,
    (means.0).there,
    subst (λ y. ident_of y ≡ ident_of_label p list context (means.0).label) (same_Some x o at)
        ((topped.0).ident ∙ (means.0).ident),
  )
  label-at (x ∷ os) (one ∷ its) (meant ∷ meants) topped means (suc i) o at =
      label-at os its meants topped.1 means.1 i o at

  pub topped-alone : IsFit AnItem 0 item → HasMarks item told →
      MarksStandFor p hooks AsModule told.1 cause → HasNoLoneName item → HasNames item →
      AllZip IsTopped (occurrences_from first_spot item) names →
      AllZip (IsOfTop p list context) names told.0 →
      CalledAlone p hooks cause item (AsWhole told) →
      ((l : Label) → DeclaresLabel p cause l →
      list_any (binds_it (ident_of_label p list context l).0
      (ident_of_label p list context l).1) names
      ≡ true) →
      ((x : Text) (c : ℕ) → list_any (binds_it x c) names ≡ true →
      (l : Label) × DeclaresLabel p cause l × ((x, c) ≡ ident_of_label p list context l)) →
      IsItemAlone p hooks list context answers cause item
  topped-alone fit marked stands lone named topped means called declares declared = record {
    noted = AsWhole told;
    stands = as_whole marked stands;
    names =
        means-alone _ _ named topped (occurrences_from first_spot item) names told.0 topped means;
    called = called;
    form = whole_form marked;
    one = fit-one fit;
    lone = lone;
    named = named;
    single = fit-single fit;
    fit = fit;
    inner = λ a b la lb is also.
        let at : slice_get (occurrences_from first_spot item) la.0 ≡ Some a =
        ap (λ os. slice_get os la.0) (sym (occurrences-item item)) ∙ la.1 in
        let it = label-at (occurrences_from first_spot item) names told.0 topped means la.0 a at in
        absurd (top-not-inner p list context item named a la
        (none-inner item names named topped (its_name a)) it.0 it.1 it.2 is);
    declares = λ l its.
        top-written item names named topped (ident_of_label p list context l).0
        (ident_of_label p list context l).1
        ∙ declares l its;
    declared = λ x c is. declared x c (sym (top-written item names named topped x c) ∙ is);
  }

-- ---- rows

-- what the name of a pair is, where it binds, and where it refers
abbrev pub bound_name : Pair → Listed
bound_name pair = (pair.1, true)

abbrev pub read_name : Pair → Listed
read_name pair = (pair.1, false)

-- one name that is bound first
pub first-bound : (id : Ident) (more : List Listed) →
    list_any (binds_it id.0 id.1) ((id, true) ∷ more) ≡ true
first-bound id more =
    ap (λ b. b || list_any (binds_it id.0 id.1) more) (binds-same (id, true) id refl refl)

-- a name that is referred to binds nothing
pub none-read : (x : Text) (c : ℕ) (pairs : List Pair) →
    list_any (binds_it x c) (map read_name pairs) ≡ false
none-read x c [] = refl
none-read x c (pair ∷ pairs) = none-read x c pairs

pub bound-first : (id : Ident) (more : List Listed) (x : Text) (c : ℕ) →
    list_any (binds_it x c) more ≡ false →
    list_any (binds_it x c) ((id, true) ∷ more) ≡ true → (x, c) ≡ id
bound-first id more x c none is = by_first (binds_it x c (id, true)) refl is
  where
    by_first : (b : Bool) → binds_it x c (id, true) ≡ b →
        (b || list_any (binds_it x c) more) ≡ true → (x, c) ≡ id
    by_first true first any = sym (binds-is (id, true) x c first).1
    by_first false first any = absurd (false≢true (sym none ∙ any))

module _ (p : Program) (list : List ℕ) (context : BundleContexts) where
  -- what each of the names binds
  module _ (of : Text → Target) where
    -- the names are those
    pub names-again : (names : List Text) →
        map (λ (pair : Pair). pair.0) (named_idents p list context of names) ≡ names
    names-again [] = refl
    names-again (x ∷ names) = ap (λ l. x ∷ l) (names-again names)

    pub name-bound : (names : List Text) (x : Text) → Contains names x →
        list_any
        (binds_it (ident_of_label p list context (Of (of x))).0 (ident_of_label p list context (Of
        (of x))).1)
        (map bound_name (named_idents p list context of names))
        ≡ true
    name-bound [] x has = absurd (Contains-none x has)
    name-bound (y ∷ names) x has =
        elim ((Contains-cons y names x).0 has) [
          | inl e ↦
              ap
              (λ b. b || list_any (binds_it (ident_of_label p list context (Of (of x))).0
              (ident_of_label p list context (Of (of x))).1) (map bound_name
              (named_idents p list context of names)))
              (binds-same (ident_of_label p list context (Of (of y)), true)
              (ident_of_label p list context (Of (of x))) refl
              (ap (λ z. ident_of_label p list context (Of (of z))) e))
          | inr later ↦
              or_right
              (binds_it (ident_of_label p list context (Of (of x))).0
              (ident_of_label p list context (Of (of x))).1 (
                ident_of_label p list context (Of
                    (of y)),
                true,
              ))
              (list_any (binds_it (ident_of_label p list context (Of (of x))).0
              (ident_of_label p list context (Of (of x))).1) (map bound_name
              (named_idents p list context of names)))
              (name-bound names x later)
        ]

    pub bound-name : (names : List Text) (x : Text) (c : ℕ) →
        list_any (binds_it x c) (map bound_name (named_idents p list context of names)) ≡ true →
        (y : Text) × Contains names y × ((x, c) ≡ ident_of_label p list context (Of (of y)))
    bound-name [] x c is = absurd (false≢true is)
    bound-name (y ∷ names) x c is =
        by_first (binds_it x c (ident_of_label p list context (Of (of y)), true)) refl is
        (bound-name names x c)
      where
        by_first : (b : Bool) →
            binds_it x c (ident_of_label p list context (Of (of y)), true) ≡ b →
            (b || list_any (binds_it x c) (map bound_name (named_idents p list context of names)))
            ≡ true →
            (list_any (binds_it x c) (map bound_name (named_idents p list context of names))
            ≡ true →
            (z : Text) × Contains names z × ((x, c) ≡ ident_of_label p list context (Of (of z)))) →
            (z : Text) × Contains (y ∷ names) z × ((x, c) ≡ ident_of_label p list context (Of
            (of z)))
        by_first true first any more = (
          y,
          (Contains-cons y names y).1 (inl refl),
          sym (binds-is (ident_of_label p list context (Of (of y)), true) x c first).1,
        )
        by_first false first any more =
            let it = more any in (it.0, (Contains-cons y names it.0).1 (inr it.1), it.2)

    pub names-tell : (names : List Text) →
        ((x : Text) → Contains names x → IsTopLabel p (Of (of x))) →
        AllZip (IsOfTop p list context) (map bound_name (named_idents p list context of names))
        (map (λ (pair : Pair). Known (Of (of pair.0))) (named_idents p list context of names))
    names-tell [] tops = tt
    names-tell (x ∷ names) tops = (
      record {
        label = Of (of x);
        is = refl;
        there = tops x ((Contains-cons x names x).1 (inl refl));
        ident = refl;
      },
      names-tell names (λ y has. tops y ((Contains-cons x names y).1 (inr has))),
    )

  -- linked names, each with its identifier and its target
  abbrev pub rows_of : List NamedTarget → List Row
  rows_of pairs = map (λ pair. (pair.0, ident_of_label p list context (Of pair.1), pair.1)) pairs

  pub written-rows : (pairs : List NamedTarget) →
      map written_of (rows_of pairs) ≡ linked_idents p list context pairs
  written-rows [] = refl
  written-rows (pair ∷ pairs) =
      ap (λ l. (pair.0, ident_of_label p list context (Of pair.1)) ∷ l) (written-rows pairs)

  pub target-rows : (pairs : List NamedTarget) → map target_of (rows_of pairs) ≡ pairs
  target-rows [] = refl
  target-rows (pair ∷ pairs) = ap (λ l. pair ∷ l) (target-rows pairs)

  pub rows-tell : (pairs : List NamedTarget) →
      ((x : Text) (t : Target) → Contains pairs (x, t) → IsTopLabel p (Of t)) →
      AllZip (IsOfTop p list context) (map read_name (linked_idents p list context pairs))
      (map means_of (rows_of pairs))
  rows-tell [] tops = tt
  rows-tell (pair ∷ pairs) tops = (
    record {
      label = Of pair.1;
      is = refl;
      there = tops pair.0 pair.1 ((Contains-cons pair pairs pair).1 (inl refl));
      ident = refl;
    },
    rows-tell pairs (λ x t has. tops x t ((Contains-cons pair pairs (x, t)).1 (inr has))),
  )
