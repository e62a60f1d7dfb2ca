-- The target gets the name that its modules call it by.
use Rattle.std.proofs.lemmas.Result.{IfErr-weaker}
use Rattle.bundle_merge_names.specs.declared.names.Label.TheVariants as n
use Rattle.bundle_merge_names.proofs.LabelLemmas.{adds-one, on-ok}
use Rattle.bundle_merge_names.proofs.LackLemmas.{refuses-one}
use Rattle.bundle_merge_names.proofs.given.give_target.Goals as goal

pub returns-clause-given : goal.returns-clause-given
returns-clause-given c = on-ok c.give.result _ _ (λ gives p list handed takable. adds-one p list (n.Of c.args.target) c.symbol_of.result.now c.args.names.now c.give.new.self (c.symbol_of.ensures p list handed takable) gives) c.give.ensures.given

pub returns-clause-refused : goal.returns-clause-refused
returns-clause-refused c = IfErr-weaker c.give.result _ _ (λ refusal refuses. refuses-one (n.Of c.args.target) c.args.names.now refusal refuses) c.give.ensures.refused
