use Rattle.std.proofs.Common.{◌≡◌, ◌+◌, ◌<◌, ◌++◌, ◌∷◌, [], ℕ, zero, suc, List, length, map, take, append-nil, append_assoc, refl, sym, ap, ◌∙◌, arith}
use Rattle.std.proofs.lemmas.List.{take_all}
use Rattle.bundle_order_sort.proofs.plan.add_number.Goals as goal

one_more : {X : Type 0} (xs : List X) (n k : ℕ) → k < length xs → map (λ (x : X). n) (take k xs) ++ n ∷ [] ≡ map (λ (x : X). n) (take (suc k) xs)
one_more [] n k l = absurd (omega (arith, l))
one_more (x ∷ xs) n zero l = refl
one_more (x ∷ xs) n (suc k) l = ap (λ (m : List ℕ). n ∷ m) (one_more xs n k (omega (arith, l)))

pub loop-init : goal.loop-init
loop-init c = sym (append-nil c.args.numbers.now.items)

pub loop-preserved : goal.loop-preserved
loop-preserved c =
    let row = c.args.row.now in
    let n = c.args.number in
    let k = c.loop.counter in
    c.in_ok-push.ensures.items
    ∙ (ap (λ (l : List ℕ). l ++ n ∷ []) c.loop.invariant
    ∙ (append_assoc c.args.numbers.now.items (map (λ (place : ℕ). n) (take k row)) (n ∷ [])
    ∙ ap (λ (l : List ℕ). c.args.numbers.now.items ++ l) (one_more row n k c.loop-test.true ∙ ap (λ j. map (λ (place : ℕ). n) (take j row)) (let same : suc k ≡ k + 1 = omega arith in same))))

pub returns : goal.returns
returns c = c.loop.invariant ∙ ap (λ (l : List ℕ). c.args.numbers.now.items ++ map (λ (place : ℕ). c.args.number) l) (take_all c.loop.counter c.args.row.now c.loop-test.false)
