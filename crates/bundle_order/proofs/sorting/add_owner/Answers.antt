use Rattle.std.proofs.Common.{◌≡◌, ◌+◌, ◌<◌, ◌++◌, ◌∷◌, [], ℕ, zero, suc, List, length, map, take, append-nil, append_assoc, refl, sym, ap, ◌∙◌, arith}
use Rattle.std.proofs.lemmas.List.{take_all}
use Rattle.bundle_tree_ast.specs.declared.module.ModuleItem.{ModuleItem}
use Rattle.bundle_order.proofs.sorting.add_owner.Goals as goal

one_more : {X : Type 0} (xs : List X) (n k : ℕ) → k < length xs → map (λ (x : X). n) (take k xs) ++ n ∷ [] ≡ map (λ (x : X). n) (take (suc k) xs)
one_more [] n k l = absurd (omega (arith, l))
one_more (x ∷ xs) n zero l = refl
one_more (x ∷ xs) n (suc k) l = ap (λ (m : List ℕ). n ∷ m) (one_more xs n k (omega (arith, l)))

pub loop-init : goal.loop-init
loop-init c = sym (append-nil c.args.owners.now.items)

pub loop-preserved : goal.loop-preserved
loop-preserved c =
    let items = c.args.items.now in
    let n = c.args.number in
    let k = c.loop.counter in
    c.in_ok-push.ensures.items
    ∙ (ap (λ (l : List ℕ). l ++ n ∷ []) c.loop.invariant
    ∙ (append_assoc c.args.owners.now.items (map (λ (item : ModuleItem). n) (take k items)) (n ∷ [])
    ∙ ap (λ (l : List ℕ). c.args.owners.now.items ++ l) (one_more items n k c.loop-test.true ∙ ap (λ j. map (λ (item : ModuleItem). n) (take j items)) (let same : suc k ≡ k + 1 = omega arith in same))))

pub returns : goal.returns
returns c = c.loop.invariant ∙ ap (λ (l : List ModuleItem). c.args.owners.now.items ++ map (λ (item : ModuleItem). c.args.number) l) (take_all c.loop.counter c.args.items.now c.loop-test.false)
