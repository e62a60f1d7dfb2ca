use Rattle.std.proofs.Common.{◌≡◌, ◌++◌, length, ap, sym, subst, ◌∙◌}
use Rattle.bundle_order_sort.specs.Arranged.{IsStill}
use Rattle.bundle_merge_modules.specs.Parts.{items_held}
use Rattle.bundle_merge_modules.proofs.PourLemmas.{IsArrangedAs-poured}
use Rattle.bundle_merge_modules.proofs.parts.Parts.put_in_order.Goals as goal

pub returns-clause-arranged : goal.returns-clause-arranged
returns-clause-arranged g c =
    let poured = c.pour.new.all.items in
    let all : poured ≡ items_held c.args.self.now = c.pour.ensures.items ∙ ap (λ l. l ++ items_held c.args.self.now) c.in_ok-items.ensures.items in
    let count = c.requires ∙ ap length (sym all) in
    IsArrangedAs-poured c.args.id c.args.order.now c.args.self.now c.fill.new.self poured c.arrange.new.values.items all c.fill.ensures c.arrange.ensures.moved
    (c.arrange.ensures.arranged (subst (λ n. IsStill c.in_ok-shuffle.shuffle n) count c.in_ok-shuffle.ensures))
