-- What was gone over is handed on as it was read.
use Rattle.std.proofs.Common.{take}
use Rattle.std.specs.List.{AllZip}
use Rattle.bundler_entry.specs.Parts.{IsAnswerRead}
use Rattle.bundler_entry.proofs.made.answers_of.Given as goal

abbrev pub invariant-loop-meta : goal.invariant-loop-meta
invariant-loop-meta l = AllZip IsAnswerRead (take l.meta-index l.metas) l.answers.items
