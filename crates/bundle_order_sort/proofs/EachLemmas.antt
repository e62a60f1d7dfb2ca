-- Items in blocks of their own.
use Rattle.std.proofs.Common.{◌≡◌, ℕ, zero, suc, ◌+◌, List, [], ◌∷◌, ◌++◌, ap, ◌∙◌, subst, sym, arith}
use Rattle.std.specs.List.{AllZip}
use Rattle.indexmap.proofs.SetLemmas.{AllZip-push}
use Rattle.bundle_order_sort.specs.declared.plan.Block.{Block}
use Rattle.bundle_order_sort.specs.Places.{numbers_from}
use Rattle.bundle_order_sort.specs.Plan.{IsOwnBlock}

numbers_from-more : (n count : ℕ) → numbers_from n (suc count) ≡ numbers_from n count ++ (n + count) ∷ []
numbers_from-more n zero = ap (λ k. k ∷ []) (let e : n ≡ n + 0 = omega arith in e)
numbers_from-more n (suc count) =
    ap (λ (l : List ℕ). n ∷ l) (numbers_from-more (suc n) count)
    ∙ ap (λ k. n ∷ (numbers_from (suc n) count ++ k ∷ [])) (let e : suc n + count ≡ n + suc count = omega arith in e)

pub each_more : (place : ℕ) (blocks more : List Block) (block : Block) → AllZip IsOwnBlock (numbers_from 0 place) blocks → IsOwnBlock place block → more ≡ blocks ++ block ∷ [] → AllZip IsOwnBlock (numbers_from 0 (place + 1)) more
each_more place blocks more block each its is =
    subst (λ (l : List Block). AllZip IsOwnBlock (numbers_from 0 (place + 1)) l) (sym is)
    (subst (λ (l : List ℕ). AllZip IsOwnBlock l (blocks ++ block ∷ [])) (sym (ap (numbers_from 0) (let e : place + 1 ≡ suc place = omega arith in e) ∙ numbers_from-more 0 place))
    (AllZip-push IsOwnBlock (numbers_from 0 place) blocks (0 + place) block each (let e : place ≡ 0 + place = omega arith in subst (λ k. IsOwnBlock k block) e its)))
