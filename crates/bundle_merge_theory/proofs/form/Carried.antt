-- Own statements keep their forms in the items of a bundle, whatever the numbers of modules are.
use Rattle.std.proofs.Common.{◌≡◌, ℕ, zero, suc, ◌+◌, List, [], ◌∷◌, ◌++◌, length, Some, map, append_assoc, refl, sym, ap, ◌∙◌, subst}
use Rattle.std.specs.Prelude.{slice_get, ⊤}
use Rattle.std.specs.List.{AllZip}
use Rattle.std.proofs.lemmas.Option.{none-some, same_Some}
use Rattle.bundle_syntax.specs.Item as h
use Rattle.bundle_syntax.specs.Item.{Item}
use Rattle.bundle_rules.specs.Nodes.{side_by_side, parts}
use Rattle.bundle_rules.specs.Idents.{Ident}
use Rattle.bundle_rules.specs.Statements.{TopItem, Element, taken, written, own_statements, placed, top_items}
use Rattle.bundle_rules.specs.Sorting.{flat}
use Rattle.bundle_rules.specs.Program.{Program, tree_of}
use Rattle.bundle_rules.specs.Meaning.{Labelling, Replacement, ByName, ByCall}
use Rattle.bundle_rules.specs.Bundle.{Cause, Own, ImportsNames, ImportsWhole, ImportsNothing, Helps, Defines, Loads, HoldsMeta, HoldsNamespace, Stars, Exports}
use Rattle.bundle_link.specs.Alike.{IsAlike}
use Rattle.bundle_link.proofs.AlikeLemmas.{flip}
use Rattle.bundle_merge_theory.specs.joined.Joined.{AllOf, joined_items}
use Rattle.bundle_merge_theory.specs.joined.Picked.{IsSingle}
use Rattle.bundle_merge_theory.specs.composed.Noted.{pairing_of}
use Rattle.bundle_merge_theory.specs.moved.Renumbered.{cause_by, replacement_by}
use Rattle.bundle_merge_theory.proofs.moved.Due.{replaced-by, replaced_there}
use Rattle.bundle_merge_theory.proofs.moved.Owed.{EachModule}
use Rattle.bundle_rules.specs.OwnForms.{replacement_items, IsUnreplaced, WithNames, over, replaced, stays, KeepsForm, FunctionKeepsForms, KeepForms}

-- in the item of a cause the own statements for which it stands keep their forms
abbrev pub CauseKeepsForms : Program → Cause → List Item → Type 0
CauseKeepsForms p (Own m k) item =
    (statement : List Element) → slice_get (own_statements (tree_of p m)) k ≡ Some statement →
    KeepsForm p m statement item
CauseKeepsForms p (Defines c) item = FunctionKeepsForms p c item
CauseKeepsForms p _ item = ⊤

-- ---- other numbers
module _ (R : ℕ → ℕ → Type 0) (name : ℕ → ℕ) (names : (a b : ℕ) → R a b → name a ≡ b)
    (p q : Program) (w : IsAlike p q R) where
  same_replacement : (field : ℕ) (ident : Ident) (by : Replacement) →
      replacement_items field ident (replacement_by name by) ≡ replacement_items field ident by
  same_replacement field ident (ByName l) = refl
  same_replacement field ident (ByCall l) = refl

  -- what is unreplaced here is so there
  unreplaced_on : (c d : ℕ) → R c d → (e : Element) → IsUnreplaced p c e → IsUnreplaced q d e
  unreplaced_on c d r (taken place (h.Open field head)) none = λ by is.
      let back = replaced_there q p (λ a b. R b a) (flip w) is c r in none back.0 back.1
  unreplaced_on c d r (taken place (h.Ident field x ctxt role)) none = tt
  unreplaced_on c d r (taken place (h.Hole field)) none = tt
  unreplaced_on c d r (taken place h.Close) none = tt
  unreplaced_on c d r (written x) none = tt

  names_on : {c : ℕ} {es : List Element} {items : List Item} → WithNames p c es items → (d : ℕ) →
      R c d → WithNames q d es items
  names_on over d r = over
  names_on {c = c} (replaced {place = place} {field = field} {head = head} {rest = rest} {items = items} ident by is more)
      d r =
      subst (λ front. WithNames q d (taken place (h.Open field head) ∷ rest) (front ++ items))
      (same_replacement field ident by)
      (replaced ident (replacement_by name by) (replaced-by R name names p q w is d r) (names_on more d r))
  names_on {c = c} (stays {e = e} none more) d r =
      stays {e = e} (unreplaced_on c d r e none) (names_on more d r)

  keeps_on : (c d : ℕ) → R c d → (statement : List Element) (item : List Item) →
      KeepsForm p c statement item → KeepsForm q d statement item
  keeps_on c d r statement item its = record {
    named = its.named;
    with_names = names_on its.with_names d r;
    same = its.same;
  }

  all_keep_on : (c d : ℕ) → R c d → (statements : List (List Element)) (items : List (List Item)) →
      AllZip (KeepsForm p c) statements items → AllZip (KeepsForm q d) statements items
  all_keep_on c d r [] [] all = tt
  all_keep_on c d r [] (item ∷ items) all = absurd all
  all_keep_on c d r (statement ∷ statements) [] all = absurd all
  all_keep_on c d r (statement ∷ statements) (item ∷ items) all =
      (keeps_on c d r statement item all.0, all_keep_on c d r statements items all.1)

  -- in an item
  forms-on : (cause : Cause) (item : List Item) → EachModule (λ m. R m (name m)) cause →
      CauseKeepsForms p cause item → CauseKeepsForms q (cause_by name cause) item
  forms-on (Own m k) item r keeps = λ statement at.
      keeps_on m (name m) r statement item
      (keeps statement
      (subst (λ (tree : List Item). slice_get (own_statements tree) k ≡ Some statement)
      (sym (w.tree m (name m) r)) at))
  forms-on (Defines c) item r keeps = record {
    front = keeps.front;
    inside = keeps.inside;
    back = keeps.back;
    is = keeps.is;
    front_length = keeps.front_length;
    back_length = keeps.back_length;
    statements =
        subst
        (λ (tree : List Item). AllZip (KeepsForm q (name c)) (own_statements tree) (side_by_side zero keeps.inside))
        (w.tree c (name c) r)
        (all_keep_on c (name c) r (own_statements (tree_of p c)) (side_by_side zero keeps.inside) keeps.statements);
  }
  forms-on (ImportsNames s) item r keeps = tt
  forms-on (ImportsWhole s) item r keeps = tt
  forms-on (ImportsNothing s) item r keeps = tt
  forms-on Helps item r keeps = tt
  forms-on (Loads m c) item r keeps = tt
  forms-on (HoldsMeta m) item r keeps = tt
  forms-on (HoldsNamespace d) item r keeps = tt
  forms-on (Stars s) item r keeps = tt
  forms-on Exports item r keeps = tt

  -- in all of them
  pub all-forms-on : (plan : List Cause) (items : List (List Item)) →
      ((i : ℕ) (cause : Cause) → slice_get plan i ≡ Some cause → EachModule (λ m. R m (name m)) cause) →
      AllZip (CauseKeepsForms p) plan items → AllZip (CauseKeepsForms q) (map (cause_by name) plan) items
  all-forms-on [] [] named all = tt
  all-forms-on [] (item ∷ items) named all = absurd all
  all-forms-on (cause ∷ plan) [] named all = absurd all
  all-forms-on (cause ∷ plan) (item ∷ items) named all = (
    forms-on cause item (named 0 cause refl) all.0,
    all-forms-on plan items (λ i other at. named (suc i) other at) all.1,
  )

-- ---- the items of a bundle
placed-there : (start : ℕ) (items : List (List Item)) (i : ℕ) (top : TopItem) →
    slice_get (placed start items) i ≡ Some top → slice_get items i ≡ Some top.items
placed-there start [] i top at = absurd (none-some top at)
placed-there start (item ∷ items) zero top at = ap (λ (t : TopItem). Some t.items) (same_Some _ top at)
placed-there start (item ∷ items) (suc i) top at = placed-there (start + length item) items i top at

beside-end : (items : List (List Item)) → AllOf IsSingle items →
    side_by_side zero (flat items ++ h.Close ∷ []) ≡ items
beside-end [] single = refl
beside-end (item ∷ more) single =
    ap (side_by_side zero) (append_assoc item (flat more) (h.Close ∷ []))
    ∙ single.0 (flat more ++ h.Close ∷ [])
    ∙ ap (λ rest. item ∷ rest) (beside-end more single.1)

zip-there : {A B : Type 0} (R : A → B → Type 0) (xs : List A) (ys : List B) (i : ℕ) (x : A) (y : B) →
    AllZip R xs ys → slice_get xs i ≡ Some x → slice_get ys i ≡ Some y → R x y
zip-there R [] ys i x y all at there = absurd (none-some x at)
zip-there R (a ∷ xs) [] i x y all at there = absurd all
zip-there R (a ∷ xs) (c ∷ ys) zero x y all at there =
    subst (λ z. R x z) (same_Some c y there) (subst (λ z. R z c) (same_Some a x at) all.0)
zip-there R (a ∷ xs) (c ∷ ys) (suc i) x y all at there = zip-there R xs ys i x y all.1 at there

-- THEOREM: where the item of each cause keeps the forms of own statements, the bundle does
pub paired-keep : (p : Program) (plan : List Cause) (items : List (List Item)) (labels : Labelling) →
    AllOf IsSingle items → AllZip (CauseKeepsForms p) plan items → KeepForms p (pairing_of labels items plan)
paired-keep p plan items labels single all = record {
  own = λ m k item statement stands at.
      zip-there (CauseKeepsForms p) plan items stands.at (Own m k) item.items all stands.cause_there
      (there stands.at item stands.item_there) statement at;
  common_js = λ c item stands.
      zip-there (CauseKeepsForms p) plan items stands.at (Defines c) item.items all stands.cause_there
      (there stands.at item stands.item_there);
}
  where
    there : (i : ℕ) (item : TopItem) → slice_get (top_items (joined_items items)) i ≡ Some item →
        slice_get items i ≡ Some item.items
    there i item at =
        placed-there 1 items i item
        (subst (λ list. slice_get (placed 1 list) i ≡ Some item) (beside-end items single) at)

-- the items of which a tree is put together are what they are
pub same-items : (items others : List (List Item)) → AllOf IsSingle items → AllOf IsSingle others →
    joined_items items ≡ joined_items others → items ≡ others
same-items items others single also same =
    sym (beside-end items single) ∙ ap parts same ∙ beside-end others also
