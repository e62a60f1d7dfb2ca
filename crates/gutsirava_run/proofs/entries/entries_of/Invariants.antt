use Rattle.std.proofs.Common.{take}
use Rattle.std.specs.List.{AllZip}
use Rattle.gutsirava_run.specs.Making.{IsNamed}
use Rattle.gutsirava_run.proofs.entries.entries_of.Given as goal

abbrev pub invariant-loop-begin : goal.invariant-loop-begin
invariant-loop-begin g l = AllZip (IsNamed g.F.FileSystem.is_real l.folder) (take l.begin-index l.begins) l.entries.items
