-- What holds after a call whether it is refused or not.
-- Items that are poured into one list, and put into an order there.
-- What an iterator over the items of a part has left.
use Rattle.std.specs.Prelude.{Result, Ok, Err, OnOk, OnErr, map}
use Rattle.std.proofs.Common.{◌≡◌, ℕ, ◌+◌, ◌≤◌, List, ◌∷◌, ◌++◌, length, ap, ◌∙◌, subst, arith, [], sym}
use Rattle.std.specs.List.Sorted.{IsPermutation}
use Rattle.std.proofs.lemmas.List.{length-append, length-map}
use Rattle.std.specs.declared.vec.Vec.{Vec}
use Rattle.std.specs.declared.alloc.Global.{Global}
use Rattle.bundle_order_sort.specs.Arranged.{AreArranged, IsArrangement}
use Rattle.bundle_merge_modules.specs.Groups.{Groups, owned}
use Rattle.bundle_merge_modules.specs.Parts.{HeldOf, IsArrangedAs, OwnedOf, body_held, items_held}
use Rattle.bundle_merge_modules.proofs.AnswerLemmas.{length-owned}
use Rattle.bundle_merge_modules.specs.Calls.{group_items}
use Rattle.bundle_merge_modules.specs.Rest.{rest_of_part}
use Rattle.bundle_merge_modules.specs.declared.iter.PartIter.{PartIter}

-- ---- either

-- one of the two
pub either : {T E P Q X : Type 0} (r : Result T E) → OnOk r P → OnErr r Q → (P → X) → (Q → X) → X
either (Ok x) p q f g = f p
either (Err e) p q f g = g q

-- ---- pour
module _ {A : Type 0} where
  -- the items without their modules
  abbrev pub items_only : List (OwnedOf A) → List A
  items_only pairs = map (λ (pair : OwnedOf A). pair.1) pairs

  pub length-only : (front : List A) (pairs : List (OwnedOf A)) → length (front ++ items_only pairs) ≡ length front + length pairs
  length-only front pairs = length-append front (items_only pairs) ∙ ap (λ n. length front + n) (length-map pairs (λ (pair : OwnedOf A). pair.1))

  -- there is room for the items of the next module
  pub room_next : (now was its : List A) (m : ℕ) (rest whole : Groups A) (room : ℕ) → now ++ items_only (owned ((m, its) ∷ rest)) ≡ was ++ items_only (owned whole) → length was + length (owned whole) ≤ room → length now + length its ≤ room
  room_next now was its m rest whole room same fits =
      omega (arith, length-only now (owned ((m, its) ∷ rest)), length-only was (owned whole), ap length same, length-owned m its rest)

  -- what was poured is put into an order
  pub IsArrangedAs-poured : (m : ℕ) (order : List ℕ) (before after : HeldOf A) (poured sorted : List A) → poured ≡ items_held before → after ≡ body_held m sorted → IsPermutation poured sorted
      → (IsArrangement order (length poured) → AreArranged order poured sorted) → IsArrangedAs m order before after
  IsArrangedAs-poured m order before after poured sorted all is moved arranged = record {
    items = sorted;
    is = is;
    moved = subst (λ (l : List A). IsPermutation l sorted) all moved;
    arranged = subst (λ (l : List A). IsArrangement order (length l) → AreArranged order l sorted) all arranged;
  }

-- ---- rest
module _ {A : Type 0} where
  -- the next module is at hand
  pub settle_more : (old : PartIter A) (id : ℕ) (v : Vec A Global) (now : List A) (groups : List (ℕ × Vec A Global)) → old.items.now ≡ [] → old.groups ≡ (id, v) ∷ groups → now ≡ v.items
      → map (λ item. (id, item)) now ++ owned (map group_items groups) ≡ rest_of_part old
  settle_more old id v now groups none more is =
      ap (λ (l : List A). map (λ item. (id, item)) l ++ owned (map group_items groups)) is
      ∙ sym (ap (λ (gs : List (ℕ × Vec A Global)). owned (map group_items gs)) more)
      ∙ sym (ap (λ (l : List A). map (λ item. (old.id, item)) l ++ owned (map group_items old.groups)) none)

  -- nothing is left
  pub rest-none : (i : PartIter A) → i.items.now ≡ [] → i.groups ≡ [] → rest_of_part i ≡ []
  rest-none i none last =
      ap (λ (l : List A). map (λ item. (i.id, item)) l ++ owned (map group_items i.groups)) none ∙ ap (λ (gs : List (ℕ × Vec A Global)). owned (map group_items gs)) last
