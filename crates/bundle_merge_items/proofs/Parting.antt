-- The occurrences of a list, part by part.
use Rattle.std.proofs.Common.{◌≡◌, ◌≤◌, ℕ, zero, suc, append_assoc, arith, Bool, true, false, cond, List, [], ◌∷◌, ◌++◌, refl, ap, ◌∙◌, length, map, drop, take}
use Rattle.std.specs.Prelude.{filter}
use Rattle.std.specs.List.{AllZip, flat_map}
use Rattle.bundle_syntax.specs.declared.piece.Role.TheVariants as r
use Rattle.bundle_syntax.specs.Item as h
use Rattle.bundle_syntax.specs.Item.{Item}
use Rattle.bundle_tree_ast.specs.declared.module.ModuleItem.{ModuleItem}
use Rattle.bundle_tree_listed.specs.Tree.{module_item_items, node}
use Rattle.bundle_rules.specs.Nodes.{side_by_side, parts}
use Rattle.bundle_rules.specs.Places.{Spot, past, occurrences_from}
use Rattle.bundle_rules.proofs.NodeLemmas.{side_by_side-cleared}
use Rattle.bundle_rules.specs.Cleared.{cleared, cleared_item}
use Rattle.bundle_scope_names.proofs.grown.Grown.{module_item_fit}
use Rattle.bundle_merge_items.specs.Stated.{occurrence_count}
use Rattle.bundle_merge_theory.proofs.fit.Clearing.{beside as fit-beside}

-- the occurrences of a list are as many as its names, also where it is cleared
pub names-counted : (s : Spot) (items : List Item) →
    length (occurrences_from s (cleared items)) ≡ occurrence_count items
names-counted s [] = refl
names-counted s (h.Open field head ∷ rest) =
    names-counted (past s (cleared_item (h.Open field head))) rest
names-counted s (h.Ident field x ctxt r.Word ∷ rest) =
    names-counted (past s (h.Ident field x 0 r.Word)) rest
names-counted s (h.Ident field x ctxt r.Binding ∷ rest) =
    ap suc (names-counted (past s (h.Ident field x 0 r.Binding)) rest)
names-counted s (h.Ident field x ctxt r.Reference ∷ rest) =
    ap suc (names-counted (past s (h.Ident field x 0 r.Reference)) rest)
names-counted s (h.Hole field ∷ rest) = names-counted (past s (h.Hole field)) rest
names-counted s (h.Close ∷ rest) = names-counted (past s h.Close) rest

-- two lists in turn, the first of which is one behind another
pub zip-front : {A B : Type 0} (R : A → B → Type 0) (xs more : List A) (ys : List B) →
    AllZip R (xs ++ more) ys → AllZip R xs (take (length xs) ys)
zip-front R [] more ys all = tt
zip-front R (x ∷ xs) more [] all = absurd all
zip-front R (x ∷ xs) more (y ∷ ys) all = (all.0, zip-front R xs more ys all.1)

pub zip-back : {A B : Type 0} (R : A → B → Type 0) (xs more : List A) (ys : List B) →
    AllZip R (xs ++ more) ys → AllZip R more (drop (length xs) ys)
zip-back R [] more ys all = all
zip-back R (x ∷ xs) more [] all = absurd all
zip-back R (x ∷ xs) more (y ∷ ys) all = zip-back R xs more ys all.1

-- what is dropped past the end of a list is all of it
pub drop_end : {A : Type 0} (n : ℕ) (xs : List A) → length xs ≤ n → drop (length xs) xs ≡ drop n xs
drop_end zero [] within = refl
drop_end (suc n) [] within = refl
drop_end zero (x ∷ xs) within = absurd (omega (arith, within))
drop_end (suc n) (x ∷ xs) within = drop_end n xs (omega (arith, within))

-- in turn what the second list is made of
pub zip-made : {A B C : Type 0} (R : A → C → Type 0) (make : B → C) (xs : List A) (ys : List B) →
    AllZip (λ x y. R x (make y)) xs ys → AllZip R xs (map make ys)
zip-made R make [] [] all = tt
zip-made R make [] (y ∷ ys) all = absurd all
zip-made R make (x ∷ xs) [] all = absurd all
zip-made R make (x ∷ xs) (y ∷ ys) all = (all.0, zip-made R make xs ys all.1)

-- those of the made that pass
pub filter_mapped : {A B : Type 0} (make : A → B) (test : B → Bool) (xs : List A) →
    length (filter test (map make xs)) ≡ length (filter (λ x. test (make x)) xs)
filter_mapped make test [] = refl
filter_mapped make test (x ∷ xs) = by (test (make x)) (filter_mapped make test xs)
  where
    by : (b : Bool) → length (filter test (map make xs)) ≡ length (filter (λ x. test (make x)) xs) →
        length (cond b (make x ∷ filter test (map make xs)) (filter test (map make xs)))
        ≡ length (cond b (x ∷ filter (λ x. test (make x)) xs) (filter (λ x. test (make x)) xs))
    by true is = ap suc is
    by false is = is

-- the nodes of a module are the lists of its items
beside : (items : List ModuleItem) →
    side_by_side zero (flat_map (module_item_items 0) items ++ h.Close ∷ [])
    ≡ map (module_item_items 0) items
beside [] = refl
beside (x ∷ items) =
    let xs = module_item_items 0 x in
    let rest = flat_map (module_item_items 0) items in
    ap (λ (l : List Item). side_by_side zero l) (append_assoc xs rest (h.Close ∷ []))
    ∙ (fit-beside (module_item_fit 0 x) (rest ++ h.Close ∷ [])
    ∙ ap (λ (l : List (List Item)). xs ∷ l) (beside items))

pub parts-listed : (items : List ModuleItem) →
    parts (node 0 h.Module (flat_map (module_item_items 0) items)) ≡ map (module_item_items 0) items
parts-listed items = beside items

-- and of the module cleared they are those cleared
pub parts-cleared : (items : List ModuleItem) →
    parts (cleared (node 0 h.Module (flat_map (module_item_items 0) items)))
    ≡ map cleared (map (module_item_items 0) items)
parts-cleared items =
    side_by_side-cleared zero (flat_map (module_item_items 0) items ++ h.Close ∷ [])
    ∙ ap (map cleared) (beside items)
