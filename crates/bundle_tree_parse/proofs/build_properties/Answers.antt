-- What is no row of properties is the list of none.
use Rattle.std.proofs.lemmas.Result.{MatchResult-weaker}
use Rattle.bundle_tree_parse.proofs.Lists.{no_properties}
use Rattle.bundle_tree_parse.proofs.build_properties.Goals as goal

pub returns-clause-refused : goal.returns-clause-refused
returns-clause-refused c = MatchResult-weaker c.build_nodes.result c.build_nodes.ensures (λ _ _. tt) (λ why none form. no_properties _ (none form))
