-- The helper gets its names where some module is CommonJS.
use Rattle.std.proofs.Common.{rules, ◌≡◌, true, false, sym, ◌∙◌}
use Rattle.std.proofs.lemmas.Bool.{true≢false}
use Rattle.std.proofs.lemmas.Result.{IfErr-weaker}
use Rattle.bundle_merge_names.specs.Added.{IsOfHelper, IsOfHelpers}
use Rattle.bundle_merge_names.proofs.LabelLemmas.{adds-none, on-ok, adds-like}
use Rattle.bundle_merge_names.proofs.LackLemmas.{refuses-like}
use Rattle.bundle_merge_names.proofs.given.give_helpers.Goals as goal

pub returns-then-not-has_common_js-clause-given : goal.returns-then-not-has_common_js-clause-given
returns-then-not-has_common_js-clause-given c =
    let none : c.has_common_js.result ≡ false = search rules in
    λ p list answers are. adds-none p list (IsOfHelpers p) c.args.names.now (λ holder its. true≢false (sym ((c.has_common_js.ensures p are.linking).1 (its.c, (are.reached its.c).0 its.reached, its.common_js)) ∙ none))

pub returns-clause-given : goal.returns-clause-given
returns-clause-given c =
    let yes : c.has_common_js.result ≡ true = search rules in
    on-ok c.give_helper.result _ _ (λ adds p list answers are.
    let some = (c.has_common_js.ensures p are.linking).0 yes in
    adds-like p list IsOfHelper (IsOfHelpers p) c.args.names.now c.give_helper.new.names
    (λ holder its. record { c = some.0; reached = (are.reached some.0).1 some.1; common_js = some.2; its = its })
    (λ holder its. its.its) (adds p list)) c.give_helper.ensures.given

pub returns-clause-refused : goal.returns-clause-refused
returns-clause-refused c =
    let yes : c.has_common_js.result ≡ true = search rules in
    IfErr-weaker c.give_helper.result _ _ (λ refusal refuses p list answers are.
    let some = (c.has_common_js.ensures p are.linking).0 yes in
    refuses-like IsOfHelper (IsOfHelpers p) c.args.names.now refusal
    (λ holder its. record { c = some.0; reached = (are.reached some.0).1 some.1; common_js = some.2; its = its })
    refuses) c.give_helper.ensures.refused
