use Rattle.bundle_link.proofs.ToldLemmas.{kind_false, kind_true}
use Rattle.bundle_link.proofs.judging.kind_of.Goals as goal

pub returns-in-true : goal.returns-in-true
returns-in-true c = λ q w. kind_true q c.args.which c.is_common_js.result (c.is_common_js.ensures q w) c.in-true.is

pub returns-in-false : goal.returns-in-false
returns-in-false c = λ q w. kind_false q c.args.which c.is_common_js.result (c.is_common_js.ensures q w) c.in-false.is
