use Rattle.bundle_link.proofs.ProgramLemmas.{are_modules}
use Rattle.bundle_link.proofs.link.Linker.should_be_wrapped_with_a_fn.Goals as goal

pub returns-clause-told : goal.returns-clause-told
returns-clause-told c = λ p sound. c.is_object_meant.ensures.told p sound.of.linked (are_modules p c.args.self.now sound)
