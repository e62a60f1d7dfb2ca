-- What is copied of the items of modules, one by one, with those that are left, is all of each module's.
use Rattle.std.proofs.Common.{◌≡◌, ℕ, zero, suc, Bool, true, false, cond, List, [], ◌∷◌, ◌++◌, Some, None, length, map, nat_eq, refl, ap, sym, ◌∙◌, append-nil, append_assoc, eqb-true, eq-eqb, arith}
use Rattle.std.specs.Prelude.{filter, replicate, slice_get, slice_set}
use Rattle.std.proofs.lemmas.Option.{none-some, same_Some}
use Rattle.bundle_tree_ast.specs.declared.module.Module.{Module}
use Rattle.bundle_syntax.specs.Item.{Item}
use Rattle.bundle_rules.specs.Parts.{Owned, items_in}
use Rattle.bundle_merge_items.specs.Added.{module_item_lists}
use Rattle.bundle_merge.specs.Prepared.{with_one, items_of_each}

-- the items that were copied of each module, with those of the module that are left
abbrev pub with_rest : List ℕ → List (List (List Item)) → List Owned → List (List (List Item))
with_rest [] lists rest = []
with_rest (id ∷ ids) [] rest = []
with_rest (id ∷ ids) (its ∷ lists) rest = (its ++ items_in rest id) ∷ with_rest ids lists rest

-- no number of these is this one
abbrev pub AreOthers : ℕ → List ℕ → Type 0
AreOthers m ids = (i : ℕ) → slice_get ids i ≡ Some m → ⊥

-- one item less is left, and of a module
own-first : (m id : ℕ) (item : List Item) (rest : List Owned) → nat_eq m id ≡ true →
    items_in ((m, item) ∷ rest) id ≡ item ∷ items_in rest id
own-first m id item rest is =
    ap (λ b. map (λ (pair : Owned). pair.1)
    (cond b ((m, item) ∷ filter (λ (pair : Owned). nat_eq pair.0 id) rest)
    (filter (λ (pair : Owned). nat_eq pair.0 id) rest))) is

other-first : (m id : ℕ) (item : List Item) (rest : List Owned) → nat_eq m id ≡ false →
    items_in ((m, item) ∷ rest) id ≡ items_in rest id
other-first m id item rest is =
    ap (λ b. map (λ (pair : Owned). pair.1)
    (cond b ((m, item) ∷ filter (λ (pair : Owned). nat_eq pair.0 id) rest)
    (filter (λ (pair : Owned). nat_eq pair.0 id) rest))) is

-- of no module
none-first : (m : ℕ) (item : List Item) (rest : List Owned) (ids : List ℕ)
    (lists : List (List (List Item))) → AreOthers m ids →
    with_rest ids lists ((m, item) ∷ rest) ≡ with_rest ids lists rest
none-first m item rest [] lists others = refl
none-first m item rest (id ∷ ids) [] others = refl
none-first m item rest (id ∷ ids) (its ∷ lists) others =
    by (nat_eq m id) refl
    (none-first m item rest ids lists (λ i at. others (suc i) at))
  where
    by : (b : Bool) → nat_eq m id ≡ b →
        with_rest ids lists ((m, item) ∷ rest) ≡ with_rest ids lists rest →
        with_rest (id ∷ ids) (its ∷ lists) ((m, item) ∷ rest)
        ≡ with_rest (id ∷ ids) (its ∷ lists) rest
    by true is later = absurd (others 0 (ap (λ y. Some y) (sym (eqb-true m id is))))
    by false is later =
        ap (λ l. (its ++ l) ∷ with_rest ids lists ((m, item) ∷ rest))
        (other-first m id item rest is)
        ∙ ap (λ l. (its ++ items_in rest id) ∷ l) later

-- of the module at a place, and it is copied there
pub copied-one : (m : ℕ) (item : List Item) (rest : List Owned) (ids : List ℕ)
    (lists : List (List (List Item))) →
    ((i j : ℕ) (x : ℕ) → slice_get ids i ≡ Some x → slice_get ids j ≡ Some x → i ≡ j) →
    (place : ℕ) → slice_get ids place ≡ Some m →
    with_rest ids (with_one place item lists) rest ≡ with_rest ids lists ((m, item) ∷ rest)
copied-one m item rest [] lists once place at = absurd (none-some m at)
copied-one m item rest (id ∷ ids) [] once place at = refl
copied-one m item rest (id ∷ ids) (its ∷ lists) once zero at =
    let same : id ≡ m = same_Some id m at in
    let test : nat_eq m id ≡ true = eq-eqb m id (sym same) in
    let others : AreOthers m ids = λ i there.
    let no : 0 ≡ suc i = once 0 (suc i) m at there in absurd (omega (arith, no)) in
    ap (λ l. l ∷ with_rest ids lists rest) (append_assoc its (item ∷ []) (items_in rest id))
    ∙ ap (λ l. (its ++ l) ∷ with_rest ids lists rest) (sym (own-first m id item rest test))
    ∙ ap (λ l. (its ++ items_in ((m, item) ∷ rest) id) ∷ l)
    (sym (none-first m item rest ids lists others))
copied-one m item rest (id ∷ ids) (its ∷ lists) once (suc place) at =
    let other : nat_eq m id ≡ false = by (nat_eq m id) refl in
    ap (λ l. (its ++ l) ∷ with_rest ids (with_one place item lists) rest)
    (sym (other-first m id item rest other))
    ∙ ap (λ l. (its ++ items_in ((m, item) ∷ rest) id) ∷ l)
    (copied-one m item rest ids lists
    (λ i j x a b. let same = once (suc i) (suc j) x a b in omega (arith, same)) place at)
  where
    by : (b : Bool) → nat_eq m id ≡ b → nat_eq m id ≡ false
    by false is = is
    by true is =
        let no : 0 ≡ suc place = once 0 (suc place) m (ap (λ y. Some y) (sym (eqb-true m id is))) at in
        absurd (omega (arith, no))

-- or its module has no place
pub copied-none : (m : ℕ) (item : List Item) (rest : List Owned) (ids : List ℕ)
    (lists : List (List (List Item))) → AreOthers m ids →
    with_rest ids lists rest ≡ with_rest ids lists ((m, item) ∷ rest)
copied-none m item rest ids lists others = sym (none-first m item rest ids lists others)

-- so many lists stay
pub with_one-long : (place : ℕ) (item : List Item) (lists : List (List (List Item))) →
    length (with_one place item lists) ≡ length lists
with_one-long place item [] = refl
with_one-long zero item (its ∷ lists) = refl
with_one-long (suc place) item (its ∷ lists) = ap suc (with_one-long place item lists)

-- nothing is copied at first
pub copied-begin : (ids : List ℕ) (all : List Owned) →
    with_rest ids (replicate (length ids) []) all ≡ items_of_each all ids
copied-begin [] all = refl
copied-begin (id ∷ ids) all = ap (λ l. items_in all id ∷ l) (copied-begin ids all)

-- and all at the end
pub copied-end : (ids : List ℕ) (lists : List (List (List Item))) → length lists ≡ length ids →
    with_rest ids lists [] ≡ lists
copied-end [] [] long = refl
copied-end [] (its ∷ lists) long = absurd (omega (arith, long))
copied-end (id ∷ ids) [] long = absurd (omega (arith, long))
copied-end (id ∷ ids) (its ∷ lists) long =
    ap (λ l. l ∷ with_rest ids lists []) (append-nil its)
    ∙ ap (λ l. its ∷ l) (copied-end ids lists (omega (arith, long)))

-- ---- modules
-- a module at a place with one more item
pub set-one : (copies : List Module) (place : ℕ) (its more : Module) (item : List Item) →
    slice_get copies place ≡ Some its → module_item_lists more ≡ module_item_lists its ++ item ∷ [] →
    map module_item_lists (slice_set copies place more) ≡ with_one place item (map module_item_lists copies)
set-one [] place its more item at is = absurd (none-some its at)
set-one (x ∷ copies) zero its more item at is =
    ap (λ l. l ∷ map module_item_lists copies)
    (is ∙ ap (λ (its : Module). module_item_lists its ++ item ∷ []) (sym (same_Some x its at)))
set-one (x ∷ copies) (suc place) its more item at is =
    ap (λ l. module_item_lists x ∷ l) (set-one copies place its more item at is)

-- where none stands at the place
pub set-none : (copies : List Module) (place : ℕ) (item : List Item) →
    slice_get copies place ≡ None →
    map module_item_lists copies ≡ with_one place item (map module_item_lists copies)
set-none [] place item at = refl
set-none (x ∷ copies) zero item at = absurd (none-some x (sym at))
set-none (x ∷ copies) (suc place) item at =
    ap (λ l. module_item_lists x ∷ l) (set-none copies place item at)
