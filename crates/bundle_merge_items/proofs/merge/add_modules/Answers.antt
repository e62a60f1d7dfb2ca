-- One module more.
use Rattle.std.proofs.Common.{◌≡◌, get_or, subst, sym}
use Rattle.std.proofs.lemmas.List.Elements.{Contains-get_or}
use Rattle.bundle_merge_items.specs.Blocks.{AreBundleModules}
use Rattle.bundle_merge_theory.specs.planned.Decided.{module_plan}
use Rattle.bundle_merge_items.proofs.Behind.{owned-next, owned-none, owned-all}
use Rattle.bundle_merge_items.proofs.merge.add_modules.Goals as goal

pub loop-which-init : goal.loop-which-init
loop-which-init c = λ within. owned-none c.args.bundle.now c.args.names.now c.args.its.now c.args.owners.now.items

pub loop-which-preserved : goal.loop-which-preserved
loop-which-preserved c = λ within.
    let numbers = c.deref-which-items.result.now in
    let i = c.loop-which.which-index in
    owned-next c.args.bundle.now c.args.names.now module_plan numbers i 0 c.args.its.now
    c.loop-which.its c.put_module.new.its c.args.owners.now.items c.loop-which.owners.items
    c.put_module.new.owners.items c.loop-which-test.true (c.loop-which.invariant within)
    (c.in_ok-put_module.ensures (within (get_or numbers i 0)
    (Contains-get_or numbers i 0 c.loop-which-test.true)))

pub returns : goal.returns
returns c = λ within.
    let numbers = c.deref-which-items.result.now in
    let places = c.args.block.now.places.items in
    let same : numbers ≡ places = c.deref-which-items.ensures.value in
    owned-all c.args.bundle.now c.args.names.now module_plan numbers places c.loop-which.which-index
    c.args.its.now c.loop-which.its c.args.owners.now.items c.loop-which.owners.items
    c.loop-which-test.false same
    (c.loop-which.invariant (subst (AreBundleModules c.args.bundle.now) (sym same) within))
