use Rattle.std.proofs.Common.{◌≡◌, All, drop, map, take}
use Rattle.gutsirava_files.specs.Outputs.{IsWrittenTo}
use Rattle.gutsirava_files.specs.Stages.{wanted_by}
use Rattle.gutsirava_files.proofs.outputs.Writer.put_all.Given as goal

abbrev pub invariant-loop-at : goal.invariant-loop-at
invariant-loop-at g l = record {
  done : All (IsWrittenTo g.D.Disk.leads g.D.Disk.has_device g.D.Disk.is_written)
      (take l.at (map wanted_by l.initial.stage-items));
  rest : drop l.at l.stage-items ≡ drop l.at l.initial.stage-items;
}
