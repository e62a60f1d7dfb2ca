-- The load function gets its name where the module is CommonJS.
use Rattle.std.proofs.Common.{rules, ◌≡◌, true, false, refl, sym, ◌∙◌}
use Rattle.std.proofs.lemmas.Bool.{true≢false}
use Rattle.std.proofs.lemmas.Result.{IfErr-weaker}
use Rattle.bundle_rules.specs.Linking.{IsCommonJs}
use Rattle.bundle_rules.specs.Meaning as m
use Rattle.bundle_merge_names.specs.declared.names.Label.TheVariants as n
use Rattle.bundle_merge_theory.specs.made.Given.{NameOf}
use Rattle.bundle_merge_names.proofs.LabelLemmas.{adds-one, on-ok}
use Rattle.bundle_merge_names.proofs.LackLemmas.{where-refused}
use Rattle.bundle_merge_names.proofs.SomeLemmas.{adds-where, adds-not}
use Rattle.bundle_merge_names.proofs.given.give_load.Goals as goal

pub returns-then-not-is_common_js-clause-given : goal.returns-then-not-is_common_js-clause-given
returns-then-not-is_common_js-clause-given c =
    let none : c.is_common_js.result ≡ false = search rules in
    λ p list linked. adds-not p list (IsCommonJs p c.args.which) (NameOf (m.Load c.args.which)) c.args.names.now (λ is. true≢false (sym ((c.is_common_js.ensures p linked).1 is) ∙ none))

pub returns-clause-given : goal.returns-clause-given
returns-clause-given c =
    let yes : c.is_common_js.result ≡ true = search rules in
    on-ok c.give.result _ _ (λ gives p list linked. adds-where p list (IsCommonJs p c.args.which) (NameOf (m.Load c.args.which)) c.args.names.now c.give.new.self ((c.is_common_js.ensures p linked).0 yes) (adds-one p list (n.Load c.args.which) _ c.args.names.now c.give.new.self refl gives)) c.give.ensures.given

pub returns-clause-refused : goal.returns-clause-refused
returns-clause-refused c =
    let yes : c.is_common_js.result ≡ true = search rules in
    IfErr-weaker c.give.result _ _ (λ refusal refuses p linked. where-refused (IsCommonJs p c.args.which) (n.Load c.args.which) c.args.names.now refusal ((c.is_common_js.ensures p linked).0 yes) refuses) c.give.ensures.refused
