use Rattle.std.proofs.Common.{sym, subst}
use Rattle.bundle_link_index.specs.Says.{GivenFor, TellsAnswer, answer_of_values}
use Rattle.bundle_link_index.specs.Numbered.{index_names, values_of}
use Rattle.bundle_link_index.proofs.NumberedLemmas.{found_tells, none_tells}
use Rattle.bundle_link_index.proofs.index.Index.answer.Goals as goal

pub returns-in_ok-found-in-Some-clause-right : goal.returns-in_ok-found-in-Some-clause-right
returns-in_ok-found-in-Some-clause-right c = λ p is.
    let self = c.args.self.now in
    let spot = c.in-Some.ensures in
    subst (λ (told : GivenFor). TellsAnswer p c.args.asked.which c.args.asked.name.now told) (sym c.answer-in-Some.ensures)
    (subst (λ m. TellsAnswer p m c.args.asked.name.now (answer_of_values (values_of self.numbers) c.in_ok-found-in-Some.found)) spot.0
    (found_tells p (index_names self.numbers) self.numbers.given.keys self.search is.names c.in-Some.at.0 c.in-Some.at.1 c.args.asked.name.now spot.1 c.in_ok-found-in-Some.found c.in_ok-found-in-Some.ensures.right))

pub returns-in-None-clause-right : goal.returns-in-None-clause-right
returns-in-None-clause-right c = λ p is. none_tells p (index_names c.args.self.now.numbers) c.args.self.now.numbers.given.keys c.args.self.now.search is.names c.args.asked.which c.args.asked.name.now c.in-None.ensures
