-- The whole gets a name where it is taken.
use Rattle.std.proofs.Common.{rules, ◌≡◌, ◌∙◌, Bool, true, ap, sym, subst}
use Rattle.std.proofs.lemmas.Result.{IfErr-weaker}
use Rattle.bundle_rules.specs.Entries.{Whole}
use Rattle.bundle_rules.specs.Meaning as m
use Rattle.bundle_link_index.specs.Says.{target_of}
use Rattle.bundle_link_targets.specs.Symbols.{IsTakable}
use Rattle.bundle_merge_names.specs.Added.{GivesNames, IsWholeOf}
use Rattle.bundle_merge_theory.specs.made.Given.{NameOf}
use Rattle.bundle_merge_names.proofs.LabelLemmas.{on-ok, adds-whole, takable-with}
use Rattle.bundle_merge_names.proofs.LackLemmas.{refuses-like}
use Rattle.bundle_merge_names.proofs.given.give_whole.Goals as goal

pub returns-clause-given : goal.returns-clause-given
returns-clause-given c =
    let taken : true ≡ c.args.whole = search rules in
    on-ok c.give_target.result _ _ (λ adds p list handed takable. subst (λ (b : Bool). GivesNames p list (IsWholeOf (target_of c.args.base) b) c.args.names.now c.give_target.new.names) taken (adds-whole p list (target_of c.args.base) (target_of c.taking.result) c.args.names.now c.give_target.new.names c.taking.ensures (adds p list handed (subst (IsTakable p) (sym c.taking.ensures) (takable-with p (target_of c.args.base) Whole takable))))) c.give_target.ensures.given

pub returns-clause-refused : goal.returns-clause-refused
returns-clause-refused c =
    let taken : c.args.whole ≡ true = search rules in
    let same = c.taking.ensures in
    IfErr-weaker c.give_target.result _ _ (λ refusal refuses. refuses-like (λ holder. holder ≡ NameOf (m.Of (target_of c.taking.result))) (IsWholeOf (target_of c.args.base) c.args.whole) c.args.names.now refusal
    (λ holder is. record { taken = taken; is = is ∙ ap (λ t. NameOf (m.Of t)) same }) refuses) c.give_target.ensures.refused
