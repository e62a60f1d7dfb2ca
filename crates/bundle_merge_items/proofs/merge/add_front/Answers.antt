-- What is imported, and then the helper.
use Rattle.std.specs.Prelude.{flat_map}
use Rattle.std.specs.List.{list_any}
use Rattle.bundle_rules.specs.Bundle.{Helps}
use Rattle.bundle_merge_theory.specs.planned.Decided.{external_plan, one_if}
use Rattle.bundle_merge_items.proofs.Behind.{plan-on}
use Rattle.bundle_merge_items.proofs.merge.add_front.Goals as goal

pub returns : goal.returns
returns c =
    plan-on c.args.bundle.now c.args.names.now (λ d. flat_map external_plan d.externals)
    (λ d. one_if (list_any d.is_common_js d.list) Helps) c.args.items.now
    c.add_externals.new.items c.add_helpers.new.items c.in_ok-add_externals.ensures
    c.in_ok-add_helpers.ensures
