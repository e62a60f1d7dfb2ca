use Rattle.std.proofs.Common.{◌≡◌}
use Rattle.gutsirava_files.proofs.outputs.Writer.make_folders.Given as goal

abbrev pub invariant-loop-part : goal.invariant-loop-part
invariant-loop-part g l =
    (goal.iterator-loop-part g).can_next l.part-iterator ×
    (goal.iterator-loop-part g).is_finite l.part-iterator ×
    (l.self.stages ≡ l.initial.self.stages)
