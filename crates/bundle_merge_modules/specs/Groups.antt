-- The items of one part as they are held: each module once, with its own items, as the modules
-- first came.
use Rattle.std.specs.Prelude.{◌≡◌, ℕ, nat_eq, Bool, true, false, List, [], ◌∷◌, ◌++◌, Option, Some, None, map, length, take, if◌then◌else◌}
use Rattle.std.specs.List.{flat_map, AllZip}
use Rattle.bundle_merge_modules.specs.Parts.{OwnedOf}

-- items by module: each module with its own
abbrev pub Groups : Type 0 → Type 0
Groups A = List (ℕ × List A)

-- the items of modules in turn, each with its module
abbrev pub owned : {A : Type 0} → Groups A → List (OwnedOf A)
owned groups = flat_map (λ group. map (λ item. (group.0, item)) group.1) groups

-- more items, behind the last one of their module; at the end where the module has none
abbrev pub put_items : {A : Type 0} → Groups A → ℕ → List A → Groups A
put_items [] m items = (m, items) ∷ []
put_items ((n, its) ∷ rest) m items =
    if nat_eq m n then (n, its ++ items) ∷ rest else (n, its) ∷ put_items rest m items

-- the same, where there may be none: a module without items has no place
abbrev pub put_any : {A : Type 0} → Groups A → ℕ → List A → Groups A
put_any groups m [] = groups
put_any groups m (item ∷ items) = put_items groups m (item ∷ items)

-- all items of b behind those of a
abbrev pub put_all : {A : Type 0} → Groups A → Groups A → Groups A
put_all a [] = a
put_all a ((m, items) ∷ rest) = put_all (put_any a m items) rest

-- each of these items behind the last one of its module, in turn
abbrev pub put_each : {A : Type 0} → Groups A → List (OwnedOf A) → Groups A
put_each groups [] = groups
put_each groups ((m, item) ∷ rest) = put_each (put_items groups m (item ∷ [])) rest

-- `to` has, in the place of each module's items, what is answered for them, behind what was `done`
abbrev pub IsMapped :
    {A : Type 0} → (ℕ → List A → List A → Type 0) → Groups A → Groups A → Groups A → Type 0
IsMapped answers done [] to = to ≡ done
IsMapped answers done ((m, items) ∷ rest) to =
    (answer : List _) × answers m items answer × IsMapped answers (put_any done m answer) rest to

-- whether there is an item
abbrev pub is_any : {A : Type 0} → List A → Bool
is_any [] = false
is_any (item ∷ items) = true

-- of these items those are kept for which the answer is true
abbrev pub IsSifted : {A : Type 0} → (A → Bool → Type 0) → List A → List A → Type 0
IsSifted asks [] kept = kept ≡ []
IsSifted asks (item ∷ items) kept =
    (answer : Bool) × (rest : List _) × asks item answer × IsSifted asks items rest
    × (kept ≡ (if answer then item ∷ rest else rest))

-- of the items of each module those are kept for which the answer is true; a module of which none
-- is kept has no place
abbrev pub AreItemsKept : {A : Type 0} → (ℕ → A → Bool → Type 0) → Groups A → Groups A → Type 0
AreItemsKept asks [] to = to ≡ []
AreItemsKept asks ((m, items) ∷ rest) to =
    (kept : List _) × (others : Groups _) × IsSifted (asks m) items kept
    × AreItemsKept asks rest others × (to ≡ (if is_any kept then (m, kept) ∷ others else others))

-- whether a module has a place
abbrev pub has_group : {A : Type 0} → Groups A → ℕ → Bool
has_group [] m = false
has_group ((n, items) ∷ rest) m = if nat_eq m n then true else has_group rest m

-- each module has one place, and an item there
abbrev pub AreGroupsTidy : {A : Type 0} → Groups A → Type 0
AreGroupsTidy [] = Unit {0}
AreGroupsTidy ((m, items) ∷ rest) =
    (has_group rest m ≡ false) × (items ≡ [] → ⊥) × AreGroupsTidy rest

-- how many items a module has, if it has a place
abbrev pub count_of : {A : Type 0} → Groups A → ℕ → Option ℕ
count_of [] m = None
count_of ((n, items) ∷ rest) m = if nat_eq m n then Some (length items) else count_of rest m

-- that many of the items of a module are left; or it has no place
abbrev pub cut_one : {A : Type 0} → ℕ → List A → Groups A → Option ℕ → Groups A
cut_one n items rest None = rest
cut_one n items rest (Some count) = (n, take count items) ∷ rest

-- the same, wherever it stands
abbrev pub cut : {A : Type 0} → Groups A → ℕ → Option ℕ → Groups A
cut [] m count = []
cut ((n, items) ∷ rest) m count =
    if nat_eq m n then cut_one n items rest count else (n, items) ∷ cut rest m count

-- what was before each of these modules had more items, the last one first
abbrev pub undone : {A : Type 0} → List (ℕ × Option ℕ) → Groups A → Groups A
undone [] groups = groups
undone ((m, count) ∷ rest) groups = cut (undone rest groups) m count

-- each of these items is answered
abbrev pub ItemsAnswered : {A : Type 0} → (ℕ → A → A → Type 0) → ℕ → List A → List A → Type 0
ItemsAnswered answers m items answer = AllZip (answers m) items answer

-- `Picked May items answers`: an item for which none is answered goes, and any other is replaced by
-- its answer
pub data PickedOf {A : Type 0} (May : A → Option A → Type 0) : List A → List A → Type 0 where
  over : PickedOf May [] []
  goes : {item : A} {items answers : List A} →
      May item None →
      PickedOf May items answers →
      PickedOf May (item ∷ items) answers
  stays : {item answer : A} {items answers : List A} →
      May item (Some answer) →
      PickedOf May items answers →
      PickedOf May (item ∷ items) (answer ∷ answers)

-- the same of the items of a module
abbrev pub ItemsPicked : {A : Type 0} → (ℕ → A → Option A → Type 0) → ℕ → List A → List A → Type 0
ItemsPicked may m items answers = PickedOf (may m) items answers
