-- The helper, where some module is CommonJS.
use Rattle.std.proofs.Common.{◌∷◌, [], sym, ap, ◌∙◌}
use Rattle.std.specs.List.{list_any}
use Rattle.bundle_rules.specs.Bundle.{Helps}
use Rattle.bundle_merge_items.specs.Added.{helper_of}
use Rattle.bundle_merge_theory.specs.planned.Decided.{one_if}
use Rattle.bundle_merge_items.proofs.Behind.{plan-made, plan-none, helper-made, helper-decided}
use Rattle.bundle_merge_items.proofs.merge.add_helpers.Goals as goal

pub returns-then-not-has_common_js : goal.returns-then-not-has_common_js
returns-then-not-has_common_js c =
    let bundle = c.args.bundle.now in
    let names = c.args.names.now in
    plan-none bundle names (λ d. one_if (list_any d.is_common_js d.list) Helps) c.args.items.now
    (λ q list answers context meta count named told.
    ap (λ b. one_if b Helps)
    (sym (helper-decided bundle names c.has_common_js.result c.has_common_js.ensures q list answers
    context meta count named told) ∙ c.if-not-has_common_js.true))

pub returns : goal.returns
returns c =
    let bundle = c.args.bundle.now in
    let names = c.args.names.now in
    plan-made bundle names (λ d. one_if (list_any d.is_common_js d.list) Helps)
    (helper_of names ∷ []) c.args.items.now c.add_helper.new.items
    (helper-made bundle names c.has_common_js.result c.has_common_js.ensures
    c.if-not-has_common_js.false)
    c.in_ok-add_helper.ensures
