-- The stars, and then what is exported.
use Rattle.std.proofs.Common.{map}
use Rattle.bundle_rules.specs.Bundle.{Exports, Stars}
use Rattle.bundle_merge_theory.specs.planned.Decided.{one_if}
use Rattle.bundle_merge_items.proofs.Behind.{plan-made, plan-on, exports-made}
use Rattle.bundle_merge_items.proofs.merge.add_back.Goals as goal

pub returns : goal.returns
returns c =
    let bundle = c.args.bundle.now in
    let names = c.args.names.now in
    let its = c.in_ok-add_exports.ensures in
    plan-on bundle names (λ d. map Stars d.stars) (λ d. one_if d.exports Exports) c.args.items.now
    c.add_stars.new.items c.add_exports.new.items c.in_ok-add_stars.ensures
    (plan-made bundle names (λ d. one_if d.exports Exports) its.0 c.add_stars.new.items
    c.add_exports.new.items (exports-made bundle names its.0 its.1) its.2)
