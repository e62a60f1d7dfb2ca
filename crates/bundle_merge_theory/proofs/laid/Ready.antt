-- Two lists in turn: one behind another, and picked by places.
-- What a layout asks of an item, by the item itself.
use Rattle.std.proofs.Common.{◌≡◌, ℕ, zero, suc, ◌+◌, ◌<◌, List, [], ◌∷◌, ◌++◌, Option, Some, None, Contains, length, refl, sym, ap, ◌∙◌, arith, ◌||◌, inl, false, append-nil, subst}
use Rattle.std.specs.Prelude.{filter_map, slice_get, codes}
use Rattle.std.specs.List.{AllZip, cons_option}
use Rattle.std.proofs.lemmas.Option.{none-some}
use Rattle.std.proofs.lemmas.Bool.{false_from_ne_true}
use Rattle.bundle_syntax.specs.Item.{Item}
use Rattle.bundle_rules.specs.Scopes.{Top}
use Rattle.bundle_rules.specs.Declarations.{ByContext, name_of}
use Rattle.bundle_rules.specs.Denotes.{is_written_in}
use Rattle.bundle_rules.specs.Idents.{Ident}
use Rattle.bundle_rules.specs.Parts.{tree_of_items}
use Rattle.bundle_rules.specs.Program.{Program, IsReached}
use Rattle.bundle_rules.specs.Bundle
use Rattle.bundle_rules.specs.Bundle.{Cause, Own, AsModule, Hooks, IsDue}
use Rattle.bundle_rules.specs.Meaning.{Label}
use Rattle.bundle_scope_names.proofs.Told.{zip-length}
use Rattle.bundle_link_index.proofs.ProgramLemmas.{later}
use Rattle.bundle_scope_names.specs.fit.Sorts.{AnItem}
use Rattle.bundle_scope_names.specs.fit.Fits.{IsFit}
use Rattle.bundle_scope_names.proofs.fit.Rows.{last}
use Rattle.bundle_link_targets.proofs.ListLemmas.{first-there as here}
use Rattle.bundle_link.proofs.NumberedModuleLemmas.{zip_at as zip-at}
use Rattle.bundle_merge_theory.specs.joined.Joined.{AllOf, IsWholeItem, own_declared, is_item_top_name}
use Rattle.bundle_merge_theory.proofs.joined.Paths.{get-behind, get-left as get-front}
use Rattle.bundle_merge_theory.specs.joined.Picked.{IsSingle, BindsOwnNames}
use Rattle.bundle_merge_theory.specs.grouped.Renaming.{HasWays}
use Rattle.bundle_merge_theory.proofs.joined.Declarations.{IsNamed as HasNames}
use Rattle.bundle_merge_theory.proofs.composed.Among.{as-long}
use Rattle.bundle_merge_theory.proofs.planned.OrderLemmas.{ReadBy}
use Rattle.bundle_merge_theory.proofs.fit.Facts.{fit_is_whole, joined_ways}
use Rattle.bundle_merge_theory.specs.made.Given.{HookAnswer, BundleContexts, NameOf, ident_of_label}
use Rattle.bundle_merge_theory.specs.made.Alone
use Rattle.bundle_merge_theory.specs.made.Alone.{DeclaresLabel, TellApart, IsItemAlone}
use Rattle.bundle_merge_theory.proofs.own.Holders.{added-context}

-- ---- lists
pub zip-join : {A B : Type 0} (R : A → B → Type 0) (xs more : List A) (ys others : List B) →
    AllZip R xs ys → AllZip R more others → AllZip R (xs ++ more) (ys ++ others)
zip-join R [] more [] others one two = two
zip-join R [] more (y ∷ ys) others one two = absurd one
zip-join R (x ∷ xs) more [] others one two = absurd one
zip-join R (x ∷ xs) more (y ∷ ys) others one two = (one.0, zip-join R xs more ys others one.1 two)

-- what is picked of two lists by the same places is so in turn
pub zip-picked : {A B : Type 0} (R : A → B → Type 0) (xs : List A) (ys : List B) → AllZip R xs ys →
    (order : List ℕ) → AllZip R (filter_map (slice_get xs) order) (filter_map (slice_get ys) order)
zip-picked R xs ys all [] = tt
zip-picked {A = A} {B = B} R xs ys all (n ∷ order) =
    by (slice_get xs n) (slice_get ys n) refl refl (zip-picked R xs ys all order)
  where
    long : length xs ≡ length ys
    long = zip-length R xs ys all

    by : (o : Option A) (u : Option B) → slice_get xs n ≡ o → slice_get ys n ≡ u →
        AllZip R (filter_map (slice_get xs) order) (filter_map (slice_get ys) order) →
        AllZip R (cons_option o (filter_map (slice_get xs) order))
        (cons_option u (filter_map (slice_get ys) order))
    by None None e f ih = ih
    by (Some x) (Some y) e f ih = (zip-at R xs ys all n x y e f, ih)
    by None (Some y) e f ih =
        let its = as-long ys xs n y (sym long) f in absurd (none-some its.0 (sym e ∙ its.1))
    by (Some x) None e f ih =
        let its = as-long xs ys n x long e in absurd (none-some its.0 (sym f ∙ its.1))

-- what is so of the elements of two lists in turn is so of the second
pub all-second : {A B : Type 0} (R : A → B → Type 0) (P : B → Type 0) (xs : List A) (ys : List B) →
    AllZip R xs ys → ((x : A) (y : B) → Contains xs x → R x y → P y) → AllOf P ys
all-second R P [] [] all each = tt
all-second R P [] (y ∷ ys) all each = absurd all
all-second R P (x ∷ xs) [] all each = tt
all-second R P (x ∷ xs) (y ∷ ys) all each = (
  each x y (here x xs) all.0,
  all-second R P xs ys all.1 (λ a b c r. each a b (later x xs a c) r),
)

-- and another relation
pub zip-through : {A B : Type 0} (R S : A → B → Type 0) (xs : List A) (ys : List B) →
    AllZip R xs ys → ((x : A) (y : B) → Contains xs x → R x y → S x y) → AllZip S xs ys
zip-through R S [] [] all each = tt
zip-through R S [] (y ∷ ys) all each = absurd all
zip-through R S (x ∷ xs) [] all each = absurd all
zip-through R S (x ∷ xs) (y ∷ ys) all each = (
  each x y (here x xs) all.0,
  zip-through R S xs ys all.1 (λ a b c r. each a b (later x xs a c) r),
)

pub all-to : {A : Type 0} (P Q : A → Type 0) (xs : List A) → AllOf P xs → ((x : A) → P x → Q x) →
    AllOf Q xs
all-to P Q [] all each = tt
all-to P Q (x ∷ xs) all each = (each x all.0, all-to P Q xs all.1 each)

-- what is picked by places that are there, is read by them
pub picked-reads : {A : Type 0} (xs : List A) (order : List ℕ) →
    ((n : ℕ) → Contains order n → n < length xs) →
    AllZip (ReadBy xs) order (filter_map (slice_get xs) order)
picked-reads xs [] within = tt
picked-reads {A = A} xs (n ∷ order) within =
    by (slice_get xs n) refl (picked-reads xs order (λ k c. within k (later n order k c)))
  where
    by : (o : Option A) → slice_get xs n ≡ o →
        AllZip (ReadBy xs) order (filter_map (slice_get xs) order) →
        AllZip (ReadBy xs) (n ∷ order) (cons_option o (filter_map (slice_get xs) order))
    by (Some x) e ih = (e, ih)
    by None e ih = absurd (there xs n (within n (here n order)) e)
      where
        there : (ys : List A) (k : ℕ) → k < length ys → slice_get ys k ≡ None → ⊥
        there [] k l e = omega (arith, l)
        there (y ∷ ys) zero l e = none-some y (sym e)
        there (y ∷ ys) (suc k) l e = there ys k (omega (arith, l)) e

-- where a part of a list stands
pub part-at : {A : Type 0} (whole before xs after : List A) → whole ≡ before ++ (xs ++ after) →
    (k : ℕ) (x : A) → slice_get xs k ≡ Some x → slice_get whole (length before + k) ≡ Some x
part-at {A = A} whole before xs after is k x e =
    ap (λ (l : List A). slice_get l (length before + k)) is
    ∙ (get-behind before (xs ++ after) k ∙ get-front xs after k x e)

-- ---- ready
due-own : (p : Program) {cause : Cause} {m k : ℕ} → IsDue p AsModule cause → cause ≡ Own m k →
    IsReached p m
due-own p {m = m} (Bundle.own {m = n} reached es there) e =
    let same : n ≡ m = cc in subst (IsReached p) same reached
due-own p (Bundle.imports_names used its) e = absurd cc
due-own p (Bundle.imports_whole used its) e = absurd cc
due-own p (Bundle.imports_nothing used its whole) e = absurd cc
due-own p (Bundle.helps reached its) e = absurd cc
due-own p (Bundle.defines reached its) e = absurd cc
due-own p (Bundle.loads reached es asks) e = absurd cc
due-own p (Bundle.holds_meta reached its) e = absurd cc
due-own p (Bundle.holds_namespace its) e = absurd cc
due-own p (Bundle.stars its) e = absurd cc
due-own p (Bundle.exports is its) e = absurd cc
due-own p (Bundle.returns is) e = absurd cc

-- the context of what an item declares is above that of globals
label-above : (p : Program) (list : List ℕ) (context : BundleContexts)
    (answers : ℕ → Option HookAnswer) →
    TellApart p answers context → {cause : Cause} {l : Label} → IsDue p AsModule cause →
    DeclaresLabel p cause l → 1 < (ident_of_label p list context l).1
label-above p list context answers apart due (Alone.own statement e at there declares) =
    apart.own _ (Alone.top_of (due-own p due refl))
label-above p list context answers apart {cause = cause} {l = l} due (Alone.adds its) =
    subst (λ n. 1 < n) (sym (added-context p list context its))
    (apart.own (NameOf l) (Alone.added cause due its))

pub item-ways : (item : List Item) → IsFit AnItem 0 item → HasWays (tree_of_items item)
item-ways item fit =
    subst (λ l. HasWays (tree_of_items l)) (append-nil item) (joined_ways (item ∷ []) (fit, tt))

-- an item is one node of which each identifier that binds stands where names are declared, and
-- declares at its top no `Object` with the context of globals
pub record IsReadyItem (item : List Item) : Type 0 where
  pub single : IsSingle item
  pub whole : IsWholeItem item
  pub named : HasNames item
  pub ways : HasWays (tree_of_items item)
  pub object : is_written_in (own_declared item) Top (name_of ByContext (codes "Object") 1) ≡ false

pub ready-item : (p : Program) (hooks : Hooks) (list : List ℕ) (context : BundleContexts)
    (answers : ℕ → Option HookAnswer) → TellApart p answers context → (cause : Cause)
    (item : List Item) → IsDue p AsModule cause →
    IsItemAlone p hooks list context answers cause item → IsReadyItem item
ready-item p hooks list context answers apart cause item due alone = record {
  single = alone.single;
  whole = fit_is_whole (last alone.fit);
  named = alone.named;
  ways = item-ways item alone.fit;
  object =
      false_from_ne_true
      (is_written_in (own_declared item) Top (name_of ByContext (codes "Object") 1)) (λ is.
      let from = alone.declared (codes "Object") 1 is in
      let above = label-above p list context answers apart due from.1 in
      let same : 1 ≡ (ident_of_label p list context from.0).1 = ap (λ (i : Ident). i.1) from.2 in
      omega (arith, above, same));
}

-- so it binds its own, among whatever items
pub binds-ready : (items others : List (List Item)) (item : List Item) → IsReadyItem item →
    BindsOwnNames items others item
binds-ready items others item ready o listed binds =
    let way = ready.ways.way listed.0 o listed.1 binds in
    inl (λ none. none-some way.0 (sym none ∙ way.1))

-- and no such items declare an `Object` with the context of globals
pub no-object : (items : List (List Item)) → AllOf IsReadyItem items →
    is_item_top_name items (name_of ByContext (codes "Object") 1) ≡ false
no-object [] all = refl
no-object (item ∷ items) all =
    ap (λ b. b || is_item_top_name items (name_of ByContext (codes "Object") 1)) all.0.object
    ∙ no-object items all.1
