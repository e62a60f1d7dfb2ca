-- The imports of one external more.
use Rattle.std.proofs.Common.{sym, append-nil}
use Rattle.std.specs.Prelude.{flat_map}
use Rattle.bundle_merge_theory.specs.planned.Decided.{external_plan}
use Rattle.bundle_merge_items.specs.Added.{import_declarations_of, module_item_lists}
use Rattle.bundle_merge_items.proofs.Behind.{behind-all, behind-next, plan-made, externals-made}
use Rattle.bundle_merge_items.proofs.merge.add_externals.Goals as goal

pub loop-external-init : goal.loop-external-init
loop-external-init c = sym (append-nil (module_item_lists c.args.items.now))

pub loop-external-preserved : goal.loop-external-preserved
loop-external-preserved c =
    behind-next (import_declarations_of c.args.names.now) c.externals-external-items.result.now
    c.loop-external.external-index c.external-item.result c.args.items.now c.loop-external.items
    c.add_external.new.items c.loop-external-test.true c.external-item.is c.loop-external.invariant
    c.in_ok-add_external.ensures

pub returns : goal.returns
returns c =
    let bundle = c.args.bundle.now in
    let names = c.args.names.now in
    let found = c.externals-external-items.result.now in
    plan-made bundle names (λ d. flat_map external_plan d.externals)
    (flat_map (import_declarations_of names) found) c.args.items.now c.loop-external.items
    (externals-made bundle names found c.externals-external-items.ensures)
    (behind-all (import_declarations_of names) found c.loop-external.external-index c.args.items.now
    c.loop-external.items c.loop-external-test.false c.loop-external.invariant)
