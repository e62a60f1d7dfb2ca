-- What is no module is the list of none.
use Rattle.std.proofs.lemmas.Result.{MatchResult-weaker}
use Rattle.bundle_tree_parse.proofs.Lists.{no_module}
use Rattle.bundle_tree_parse.proofs.build_module.Goals as goal

pub returns-clause-refused : goal.returns-clause-refused
returns-clause-refused c = MatchResult-weaker c.build_node.result c.build_node.ensures (λ _ _. tt) (λ why none form. no_module _ (none form))
