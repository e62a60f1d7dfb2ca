use Rattle.std.proofs.Common.{◌++◌, append_assoc, ap, sym, ◌∙◌}
use Rattle.std.specs.Prelude.{map}
use Rattle.std.proofs.lemmas.Map.Iter.{rest_more}
use Rattle.bundle_merge_modules.specs.Groups.{owned}
use Rattle.bundle_merge_modules.specs.Calls.{group_items}
use Rattle.bundle_merge_modules.proofs.AnswerLemmas.{owned-cons}
use Rattle.bundle_merge_modules.proofs.part.ModuleItems.move_into.Goals as goal

pub loop-items-preserved : goal.loop-items-preserved
loop-items-preserved g c =
    let e = rest_more (λ p. p) c.loop-items.items-iterator c.next.new.self _ _ c.in-Some.is c.next.ensures.steps in
    let before = ap (λ l. c.loop-items.all.items ++ map (λ o. o.1) (owned (map group_items l))) (sym e) ∙ c.loop-items.invariant in
    let more = owned-cons c.in-Some.field-0-0 c.in-Some.items.items (map group_items c.next.new.self) in
    let behind = map (λ o. o.1) (owned (map group_items c.next.new.self)) in
    ap (λ l. l ++ behind) c.in_ok-append.ensures.items
    ∙ append_assoc c.loop-items.all.items c.in-Some.items.items behind
    ∙ ap (λ l. c.loop-items.all.items ++ l) (sym more)
    ∙ before
