use Rattle.std.proofs.Common.{ap, map, ◌∙◌}
use Rattle.std.proofs.lemmas.Result.{on_ok_weaker}
use Rattle.bundle_marks.specs.Idents.{pair_named}
use Rattle.bundle_merge_modules.proofs.InlinedLemmas.{cycle_from, inlines, no_cycle_from}
use Rattle.bundle_merge_modules.proofs.inline.inline.Goals as goal

pub returns-in-Ok-Some-clause-inlined : goal.returns-in-Ok-Some-clause-inlined
returns-in-Ok-Some-clause-inlined c =
    let are = ap (map pair_named) c.deref.ensures.value ∙ c.in-Ok.ensures in
    let leads = rw c.in-Ok-Some.field-0-is at c.in-Ok-Some.ensures.ends in
    on_ok_weaker c.replace.result
    (inlines c.args.modules.now c.replace.new.modules c.deref.result.now c.in-Ok-Some.renaming are leads)
    c.replace.ensures.made

pub returns-in-Ok-Some-clause-whole : goal.returns-in-Ok-Some-clause-whole
returns-in-Ok-Some-clause-whole c =
    let are = ap (map pair_named) c.deref.ensures.value ∙ c.in-Ok.ensures in
    let none = rw c.in-Ok-Some.field-0-is at c.in-Ok-Some.ensures.none in
    on_ok_weaker c.replace.result (λ made. no_cycle_from c.args.modules.now c.deref.result.now are none) c.replace.ensures.made

pub returns-in-Ok-None-clause-cycle : goal.returns-in-Ok-None-clause-cycle
returns-in-Ok-None-clause-cycle c =
    let are = ap (map pair_named) c.deref.ensures.value ∙ c.in-Ok.ensures in
    λ same. cycle_from c.args.modules.now c.deref.result.now are (rw c.in-Ok-None.field-0-is at c.in-Ok-None.ensures.cycle)
