use Rattle.std.proofs.Common.{sym, subst}
use Rattle.bundle_link_index.specs.Says.{GivenFor, TellsAnswer, answer_of_values}
use Rattle.bundle_link_index.specs.Numbered.{index_names, values_of}
use Rattle.bundle_link_index.proofs.NumberedLemmas.{found_tells, none_tells}
use Rattle.bundle_link_index.proofs.index.Index.found.Goals as goal

pub returns-in_ok-found-in-Some : goal.returns-in_ok-found-in-Some
returns-in_ok-found-in-Some c = λ p is.
    let self = c.args.self.now in
    let spot = c.in-Some.ensures in
    subst (λ (told : GivenFor). TellsAnswer p c.args.number c.args.name.now told) (sym c.answer.ensures)
    (subst (λ m. TellsAnswer p m c.args.name.now (answer_of_values (values_of self.numbers) c.in_ok-found-in-Some.found)) spot.0
    (found_tells p (index_names self.numbers) self.numbers.given.keys self.search is.names c.in-Some.at.0 c.in-Some.at.1 c.args.name.now spot.1 c.in_ok-found-in-Some.found c.in_ok-found-in-Some.ensures))

pub returns-in-None : goal.returns-in-None
returns-in-None c = λ p is. none_tells p (index_names c.args.self.now.numbers) c.args.self.now.numbers.given.keys c.args.self.now.search is.names c.args.number c.args.name.now c.in-None.ensures
