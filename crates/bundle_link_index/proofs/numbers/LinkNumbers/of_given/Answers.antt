use Rattle.bundle_link_index.specs.Says.{value_of}
use Rattle.bundle_link_index.proofs.EqualLemmas.{given}
use Rattle.bundle_link_index.proofs.NumberedLemmas.{Inserts-key}
use Rattle.bundle_link_index.proofs.numbers.LinkNumbers.of_given.Goals as goal

pub returns-clause-values : goal.returns-clause-values
returns-clause-values c = Inserts-key _ value_of given c.args.self.now.given.keys c.insert_full.new.self.keys c.args.given _ c.in_ok-number.ensures.keys c.in_ok-number.ensures.stored
