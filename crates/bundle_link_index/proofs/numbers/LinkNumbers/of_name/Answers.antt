use lib.Pointwise.{bytes_decides}
use Rattle.bundle_link_index.proofs.NumberedLemmas.{Inserts-key}
use Rattle.bundle_link_index.proofs.numbers.LinkNumbers.of_name.Goals as goal

pub returns-clause-names : goal.returns-clause-names
returns-clause-names c = Inserts-key _ (λ name. name.now) (λ a b. bytes_decides a.now b.now) c.args.self.now.names.keys c.insert_full.new.self.keys _ _ c.in_ok-number.ensures.keys c.in_ok-number.ensures.stored
