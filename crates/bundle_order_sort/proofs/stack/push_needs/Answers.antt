use Rattle.std.proofs.Common.{◌≡◌, ◌+◌, ◌-◌, ◌++◌, ◌∷◌, [], ℕ, List, length, get_or, take, reverse, sym, ap, ◌∙◌, arith}
use Rattle.std.proofs.lemmas.List.{append_assoc, get_or-reverse, length-reverse, take_more}
use Rattle.bundle_order_sort.proofs.stack.push_needs.Goals as goal

pub loop-done-preserved : goal.loop-done-preserved
loop-done-preserved c =
    let needed = c.args.needed.now in
    let i = c.loop-done.done in
    let base = c.args.stack.now.items in
    let one = get_or needed (length needed - 1 - i) 0 in
    let more : take (i + 1) (reverse needed) ≡ take i (reverse needed) ++ one ∷ [] = take_more (reverse needed) i 0 (omega (arith, c.loop-done-test.true, length-reverse needed)) ∙ ap (λ x. take i (reverse needed) ++ x ∷ []) (get_or-reverse needed i 0 c.loop-done-test.true) in
    c.in_ok-push.ensures.items
    ∙ (ap (λ (l : List ℕ). l ++ one ∷ []) c.loop-done.invariant
    ∙ (append_assoc base (take i (reverse needed)) (one ∷ []) ∙ ap (λ (l : List ℕ). base ++ l) (sym more)))
