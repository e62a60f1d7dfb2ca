-- All elements were passed.
use Rattle.std.proofs.Common.{arith}
use Rattle.std.proofs.lemmas.Grind.{common_steps}
use Rattle.bundle_tree_places.proofs.MarksLemmas.{listed-each}
use Rattle.bundle_tree_places.proofs.mark.occurrences_of.Goals as goal

pub returns : goal.returns
returns c = grind (arith, common_steps, listed-each)
