-- A list whose elements are gone through one by one, each changed in place.
use Rattle.std.proofs.Common.{◌≡◌, ℕ, ◌+◌, ◌<◌, List, ◌∷◌, All, length, get_or, drop, take, set, map, sym, ap, ◌∙◌, subst, arith, length-drop}
use Rattle.std.proofs.lemmas.List.{drop_more, drop-set-lt, take_more, get_or-map, length-map}
use Rattle.std.proofs.lemmas.List.Elements.{All-push, All-get_or}

-- lists that are the same from a place on both have it
within_too : {X : Type 0} (items init : List X) (i : ℕ) → i < length items → drop i items ≡ drop i init
    → i < length init
within_too items init i within same = omega (arith, length-drop i items, length-drop i init, ap length same)

-- the element there is the same, and so is what stands behind it
same_there : {X : Type 0} (items init : List X) (i : ℕ) (x : X) → i < length items → drop i items ≡ drop i init
    → (get_or items i x ≡ get_or init i x) × (drop (i + 1) items ≡ drop (i + 1) init)
same_there items init i x within same =
    let e : (get_or items i x ∷ drop (i + 1) items) ≡ (get_or init i x ∷ drop (i + 1) init) =
    sym (drop_more items i x within) ∙ same ∙ drop_more init i x (within_too items init i within same) in
    ((cc), (cc))

-- the element there has what all of the one list have
pub has_there : {X : Type 0} (Q : X → Type 0) (items init : List X) (i : ℕ) (x : X) → i < length items
    → drop i items ≡ drop i init → All Q init → Q (get_or items i x)
has_there Q items init i x within same all =
    subst Q (sym (same_there items init i x within same).0)
    (All-get_or Q init i x (within_too items init i within same) all)

-- what stands behind the element that is changed stays
pub rest_more : {X : Type 0} (items init now : List X) (i : ℕ) (x left : X) → i < length items
    → now ≡ set items i left → drop i items ≡ drop i init → drop (i + 1) now ≡ drop (i + 1) init
rest_more items init now i x left within is_now same =
    ap (λ it. drop (i + 1) it) is_now ∙ drop-set-lt (i + 1) items i left (omega arith)
    ∙ (same_there items init i x within same).1

-- one element more has what those before it have
pub done_more : {X Y : Type 0} (P : Y → Type 0) (f : X → Y) (items init : List X) (i : ℕ) (x : X) → i < length items
    → x ≡ get_or items i x → drop i items ≡ drop i init → P (f x) → All P (take i (map f init))
    → All P (take (i + 1) (map f init))
done_more P f items init i x within is same here all =
    let inside = within_too items init i within same in
    let e : get_or (map f init) i (f x) ≡ f x =
    get_or-map f init i x (f x) inside ∙ ap f (sym (same_there items init i x within same).0 ∙ sym is) in
    let within_map : i < length (map f init) = simp length-map inside in
    subst (λ it. All P it) (sym (take_more (map f init) i (f x) within_map))
    (All-push P (take i (map f init)) (get_or (map f init) i (f x)) all (subst P (sym e) here))
