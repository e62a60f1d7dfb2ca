-- No place of a module stands in two of its own statements.
-- The top of a bundle declares the identifiers of its labels, and nothing else.
use Rattle.std.proofs.Common.{◌≡◌, ◌≤◌, ◌<◌, ◌⊎◌, inl, inr, ℕ, ◌+◌, List, [], ◌∷◌, ◌++◌, Some, length, sym, ◌∙◌, arith, true, Option}
use Rattle.std.specs.Prelude.{Contains, slice_get, flat_map}
use Rattle.std.proofs.lemmas.Option.{none-some}
use Rattle.bundle_syntax.specs.Item as h
use Rattle.bundle_syntax.specs.Item.{Item, Head}
use Rattle.bundle_rules.specs.Nodes.{parts, Text}
use Rattle.bundle_rules.specs.Statements.{TopItem, placed, Element, taken, stated_by, stated, own_statements}
use Rattle.bundle_rules.specs.Scopes.{Top}
use Rattle.bundle_rules.specs.Declarations.{ByContext, name_of}
use Rattle.bundle_rules.specs.Denotes.{is_written_in}
use Rattle.bundle_rules.specs.Program.{Program}
use Rattle.bundle_rules.specs.Meaning.{Label}
use Rattle.bundle_rules.specs.Bundle.{Cause, AsModule, Hooks, IsDue}
use Rattle.bundle_scope_names.proofs.HomesLemmas.{list_any-here, list_any-found}
use Rattle.bundle_scope_names.proofs.Told.{zip-length}
use Rattle.bundle_link_index.proofs.AskedLemmas.{flat_back as flat-back}
use Rattle.bundle_link_index.proofs.ProgramLemmas.{got_there as at-contains, got as contains-at}
use Rattle.bundle_link.proofs.NodePaths.{get-front, get-behind, split}
use Rattle.bundle_link.proofs.StatedElements.{stated-range, placed-from}
use Rattle.bundle_link.proofs.NumberedModuleLemmas.{zip_at as zip-at}
use Rattle.bundle_merge_theory.specs.joined.Joined.{own_declared, is_item_top_name}
use Rattle.bundle_merge_theory.proofs.composed.Among.{as-long}
use Rattle.bundle_merge_theory.specs.made.Given.{HookAnswer, BundleContexts, ident_of_label}
use Rattle.bundle_merge_theory.specs.made.Alone.{IsTopLabel, IsItemAlone}
use Rattle.bundle_merge_theory.specs.together.Together.{AreMergedTogether}

-- ---- statements

-- a top item states one statement at most
by-head : (head : Head) (start : ℕ) (items : List Item) → length (stated_by head start items) ≤ 1
by-head (h.ImportDecl meta) start items = omega arith
by-head (h.NamedExport meta) start items = omega arith
by-head (h.ExportAll meta) start items = omega arith
by-head h.EmptyStmt start items = omega arith
by-head h.ExportDecl start items = omega arith
by-head h.ExportDefaultExpr start items = omega arith
by-head h.ExportDefaultDecl start items = omega arith
by-head _ start items = omega arith

one-stated : (start : ℕ) (items : List Item) → length (stated start items) ≤ 1
one-stated start [] = omega arith
one-stated start (h.Open field head ∷ rest) = by-head head start (h.Open field head ∷ rest)
one-stated start (h.Ident field x ctxt role ∷ rest) = omega arith
one-stated start (h.Hole field ∷ rest) = omega arith
one-stated start (h.Close ∷ rest) = omega arith

abbrev states : TopItem → List (List Element)
states top = stated top.start top.items

-- a statement with an element that is taken from this place
record HasPlace (statements : List (List Element)) (k place : ℕ) : Type 0 where
  statement : List Element
  there : slice_get statements k ≡ Some statement
  x : Item
  has : Contains statement (taken place x)

first-range : (start : ℕ) (items : List Item) (k place : ℕ) →
    HasPlace (stated start items) k place → (start ≤ place) × (place < start + length items)
first-range start items k place its =
    (stated-range start items its.statement
    (at-contains (stated start items) k its.statement its.there)).1 place its.x its.has

later-range : (start : ℕ) (lists : List (List Item)) (k place : ℕ) →
    HasPlace (flat_map states (placed start lists)) k place → start ≤ place
later-range start lists k place its =
    let from = flat-back states (placed start lists) its.statement
    (at-contains (flat_map states (placed start lists)) k its.statement its.there) in
    let top : TopItem = from.0 in
    let low = placed-from start lists top from.1 in
    let range = (stated-range top.start top.items its.statement from.2).1 place its.x its.has in
    omega (arith, low, range.0)

-- in the first list or in the second
parted : (xs ys : List (List Element)) (k place : ℕ) → HasPlace (xs ++ ys) k place →
    ((k < length xs) × HasPlace xs k place)
    ⊎ ((j : ℕ) × (k ≡ length xs + j) × HasPlace ys j place)
parted xs ys k place its = by (split xs k)
  where
    by : (k < length xs) ⊎ ((j : ℕ) × (k ≡ length xs + j)) →
        ((k < length xs) × HasPlace xs k place)
        ⊎ ((j : ℕ) × (k ≡ length xs + j) × HasPlace ys j place)
    by (inl lt) = inl (
      lt,
      record {
        statement = its.statement;
        there = sym (get-front xs ys k lt) ∙ its.there;
        x = its.x;
        has = its.has;
      },
    )
    by (inr more) = inr (
      more.0,
      more.1,
      record {
        statement = its.statement;
        there = sym (get-behind xs ys k more.0 more.1) ∙ its.there;
        x = its.x;
        has = its.has;
      },
    )

same-among : (start : ℕ) (lists : List (List Item)) (k j place : ℕ) →
    HasPlace (flat_map states (placed start lists)) k place →
    HasPlace (flat_map states (placed start lists)) j place → k ≡ j
same-among start [] k j place one two = absurd (none-some one.statement one.there)
same-among start (items ∷ more) k j place one two =
    by (parted (stated start items) later k place one)
    (parted (stated start items) later j place two)
    (λ a b first second. same-among (start + length items) more a b place first second)
  where
    later : List (List Element)
    later = flat_map states (placed (start + length items) more)

    by : ((k < length (stated start items)) × HasPlace (stated start items) k place)
        ⊎ ((a : ℕ) × (k ≡ length (stated start items) + a) × HasPlace later a place) →
        ((j < length (stated start items)) × HasPlace (stated start items) j place)
        ⊎ ((b : ℕ) × (j ≡ length (stated start items) + b) × HasPlace later b place) →
        ((a b : ℕ) → HasPlace later a place → HasPlace later b place → a ≡ b) → k ≡ j
    by (inl x) (inl y) ih =
        let n = one-stated start items in
        let i = x.0 in
        let l = y.0 in
        omega (arith, n, i, l)
    by (inl x) (inr y) ih =
        let high = (first-range start items k place x.1).1 in
        let low = later-range (start + length items) more y.0 place y.2 in
        absurd (omega (arith, high, low))
    by (inr x) (inl y) ih =
        let high = (first-range start items j place y.1).1 in
        let low = later-range (start + length items) more x.0 place x.2 in
        absurd (omega (arith, high, low))
    by (inr x) (inr y) ih =
        let same = ih x.0 y.0 x.2 y.2 in
        let i = x.1 in
        let l = y.1 in
        omega (arith, same, i, l)

-- ONE STATEMENT
pub same-statement : (tree : List Item) (k j place : ℕ) (s t : List Element) (x y : Item) →
    slice_get (own_statements tree) k ≡ Some s → slice_get (own_statements tree) j ≡ Some t →
    Contains s (taken place x) → Contains t (taken place y) → k ≡ j
same-statement tree k j place s t x y at there has also =
    same-among 1 (parts tree) k j place
    (record { statement = s; there = at; x = x; has = has })
    (record { statement = t; there = there; x = y; has = also })

-- ---- tops
module _ (p : Program) (hooks : Hooks) (list : List ℕ) (context : BundleContexts)
    (answers : ℕ → Option HookAnswer) (plan : List Cause) (items : List (List Item))
    (its : AreMergedTogether p hooks list context answers plan items) where
  -- an item, and the cause for which it stands
  pub record StandsAt (m : ℕ) (cause : Cause) (item : List Item) : Type 0 where
    pub cause_there : slice_get plan m ≡ Some cause
    pub item_there : slice_get items m ≡ Some item
    pub due : IsDue p AsModule cause
    pub alone : IsItemAlone p hooks list context answers cause item

  stands : (m : ℕ) (cause : Cause) (item : List Item) → slice_get plan m ≡ Some cause →
      slice_get items m ≡ Some item → StandsAt m cause item
  stands m cause item at there = record {
    cause_there = at;
    item_there = there;
    due = (its.due cause).0 (at-contains plan m cause at);
    alone =
        zip-at (IsItemAlone p hooks list context answers) plan items its.alone m cause item at there;
  }

  size : length plan ≡ length items
  size = zip-length (IsItemAlone p hooks list context answers) plan items its.alone

  pub of-item : (m : ℕ) (item : List Item) → slice_get items m ≡ Some item →
      (cause : Cause) × StandsAt m cause item
  of-item m item there =
      let at = as-long items plan m item (sym size) there in
      (at.0, stands m at.0 item at.1 there)

  pub of-due : (cause : Cause) → IsDue p AsModule cause →
      (m : ℕ) × (item : List Item) × StandsAt m cause item
  of-due cause due =
      let at = contains-at plan cause ((its.due cause).1 due) in
      let there = as-long plan items at.0 cause size at.1 in
      (at.0, there.0, stands at.0 cause there.0 at.1 there.1)

  -- TOPS
  pub top-there : (l : Label) → IsTopLabel p l →
      is_item_top_name items
      (name_of ByContext (ident_of_label p list context l).0 (ident_of_label p list context l).1)
      ≡ true
  top-there l top =
      let here = of-due top.cause top.due in
      list_any-here
      (λ item. is_written_in (own_declared item) Top
      (name_of ByContext (ident_of_label p list context l).0 (ident_of_label p list context l).1))
      items here.0 here.1 here.2.item_there (here.2.alone.declares l top.declares)

  pub top-from : (x : Text) (c : ℕ) → is_item_top_name items (name_of ByContext x c) ≡ true →
      (l : Label) × IsTopLabel p l × ((x, c) ≡ ident_of_label p list context l)
  top-from x c is =
      let found = list_any-found
      (λ item. is_written_in (own_declared item) Top (name_of ByContext x c)) items is in
      let here = of-item found.0 found.1 found.2 in
      let declares = here.1.alone.declared x c found.3 in (
        declares.0,
        record { cause = here.0; due = here.1.due; declares = declares.1 },
        declares.2,
      )
