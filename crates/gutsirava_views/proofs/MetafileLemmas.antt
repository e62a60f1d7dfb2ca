-- What a metafile tells of shares and imports.
use Rattle.std.proofs.Common.{◌≡◌, ◌<◌, ◌≤◌, ◌+◌, ℕ, zero, suc, Bool, List, [], ◌∷◌, ◌++◌, map, String, refl, sym, ◌∙◌, ap, ap₂, subst, arith, zero-add, flat_map}
use Rattle.std.specs.List.{range_with_len}
use Rattle.std.proofs.lemmas.List.{flat_map_more}
use Rattle.std.proofs.lemmas.List.FromFn.{map-range_with_len_more}
use Rattle.gutsirava_views.specs.Metafile.{all_shares, exports_member, imports_member, path_of, share_member, share_members}
use Rattle.gutsirava_views.specs.Writing.{AddsItems}
use Rattle.std.specs.declared.alloc.Global.{Global}
use Rattle.gutsirava_views.specs.declared.json.JsonWriter.{JsonWriter}
use Rattle.gutsirava_views.specs.declared.overview.ImportView.{ImportView}
use Rattle.gutsirava_views.specs.declared.overview.Overview.{Overview}
use Rattle.gutsirava_views.proofs.WritingLemmas.{adds_more}

-- imports that are told are those that were to be
pub told_imports : (overview : Overview) (has : Bool) (xs ys : List ImportView) (old new : JsonWriter) → xs ≡ ys
    → AddsItems 3 (imports_member overview has xs ∷ []) old new → AddsItems 3 (imports_member overview has ys ∷ []) old new
told_imports overview has xs ys old new are adds =
    let P : List ImportView → Type 0 = λ l. AddsItems 3 (imports_member overview has l ∷ []) old new in
    subst P are adds

same_numbers : (ns : List ℕ) → map (λ n. n) ns ≡ ns
same_numbers [] = refl
same_numbers (n ∷ ns) = ap (λ l. n ∷ l) (same_numbers ns)

-- one number more
range_next : (n : ℕ) → range_with_len 0 (n + 1) ≡ range_with_len 0 n ++ n ∷ []
range_next n =
    sym (same_numbers (range_with_len 0 (n + 1)))
    ∙ map-range_with_len_more (λ k. k) 0 n n (zero-add n)
    ∙ ap (λ l. l ++ n ∷ []) (same_numbers (range_with_len 0 n))

-- the share of one input more
pub share_next : (overview : Overview) (share : ℕ → ℕ) (i bytes : ℕ) (old between new : JsonWriter) → bytes ≡ share i
    → AddsItems 4 (all_shares overview share i) old between → AddsItems 4 (share_members overview i bytes) between new
    → AddsItems 4 (all_shares overview share (i + 1)) old new
share_next overview share i bytes old between new is before added =
    let f : ℕ → List (List ℕ) = λ input. share_members overview input (share input) in
    let P : List (List ℕ) → Type 0 = λ l. AddsItems 4 l old new in
    let Q : ℕ → Type 0 = λ b. AddsItems 4 (share_members overview i b) between new in
    subst P (flat_map_more f [] (range_with_len 0 i) i ∙ ap (flat_map f) (sym (range_next i)))
    (adds_more 4 (all_shares overview share i) (f i) old between new before (subst Q is added))

-- the same shares are told alike
same_from : (overview : Overview) (f g : ℕ → ℕ) (a n : ℕ) → ((k : ℕ) → a ≤ k → k < a + n → f k ≡ g k)
    → flat_map (λ input. share_members overview input (f input)) (range_with_len a n)
    ≡ flat_map (λ input. share_members overview input (g input)) (range_with_len a n)
same_from overview f g a zero same = refl
same_from overview f g a (suc n) same =
    ap₂ (λ s l. share_members overview a s ++ l) (same a (omega arith) (omega arith))
    (same_from overview f g (a + 1) n (λ k least less. same k (omega (arith, least)) (omega (arith, less))))

pub same_shares : (overview : Overview) (f g : ℕ → ℕ) (n m : ℕ) (old new : JsonWriter) → n ≡ m
    → ((k : ℕ) → k < m → f k ≡ g k) → AddsItems 4 (all_shares overview f n) old new
    → AddsItems 4 (all_shares overview g m) old new
same_shares overview f g n m old new is same adds =
    let P : List (List ℕ) → Type 0 = λ l. AddsItems 4 l old new in
    subst P (ap (all_shares overview f) is ∙ same_from overview f g 0 m (λ k least less. same k (omega (arith, less)))) adds

-- exports that are told are those that were to be
pub told_exports : (xs ys : List (String Global)) (old new : JsonWriter) → xs ≡ ys
    → AddsItems 3 (exports_member xs ∷ []) old new → AddsItems 3 (exports_member ys ∷ []) old new
told_exports xs ys old new are adds =
    let P : List (String Global) → Type 0 = λ l. AddsItems 3 (exports_member l ∷ []) old new in
    subst P are adds

-- a share that is none is told
pub told_share : (overview : Overview) (input bytes : ℕ) (old new : JsonWriter) → 0 < bytes
    → AddsItems 4 (share_member (path_of overview input) bytes ∷ []) old new
    → AddsItems 4 (share_members overview input bytes) old new
told_share overview input zero old new some adds = absurd (omega (arith, some))
told_share overview input (suc n) old new some adds = adds
