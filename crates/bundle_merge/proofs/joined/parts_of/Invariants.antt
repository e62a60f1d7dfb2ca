-- What was gone over is handed on as it was read.
use Rattle.std.proofs.Common.{take}
use Rattle.std.specs.List.{AllZip}
use Rattle.bundle_merge.specs.Handed.{IsPartRead}
use Rattle.bundle_merge.proofs.joined.parts_of.Given as goal

abbrev pub invariant-loop-read : goal.invariant-loop-read
invariant-loop-read l = AllZip IsPartRead (take l.read-index l.reads) l.parts.items
