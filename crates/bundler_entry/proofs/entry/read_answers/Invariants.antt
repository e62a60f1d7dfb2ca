-- The answers before this one were read.
use Rattle.bundler_entry.proofs.MergedLemmas.{AreReadSoFar}
use Rattle.bundler_entry.proofs.entry.read_answers.Given as goal

abbrev pub invariant-loop-answer : goal.invariant-loop-answer
invariant-loop-answer l = AreReadSoFar l.answers l.count l.answer-index l.metas.items
