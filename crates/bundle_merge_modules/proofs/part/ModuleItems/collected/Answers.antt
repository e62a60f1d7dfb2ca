use Rattle.std.proofs.Common.{sym, ap, ◌∙◌}
use Rattle.std.proofs.lemmas.List.{nil_from_length}
use Rattle.bundle_merge_modules.specs.Calls.{groups_of}
use Rattle.bundle_merge_modules.specs.Groups.{put_each}
use Rattle.bundle_merge_modules.proofs.part.ModuleItems.collected.Goals as goal

pub loop-pair-preserved : goal.loop-pair-preserved
loop-pair-preserved g c =
    ap (λ done. put_each done c.next.new.self.rest.items) c.in_ok-push.ensures.put
    ∙ ap (λ l. put_each (groups_of c.loop-pair.part) l) (sym c.in-Some.ensures.steps.0)
    ∙ c.loop-pair.invariant

pub returns : goal.returns
returns g c =
    let rest = c.loop-pair.pair-iterator.rest in
    ap (λ l. put_each (groups_of c.loop-pair.part) l) (sym (nil_from_length rest.items (sym rest.ok.0 ∙ c.in-None.ensures.steps.0))) ∙ c.loop-pair.invariant
