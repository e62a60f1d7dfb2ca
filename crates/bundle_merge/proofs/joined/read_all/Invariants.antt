-- The modules that were gone over were read.
use Rattle.std.proofs.Common.{◌≡◌, length}
use Rattle.bundle_merge.specs.Handed.{AreReadFrom}
use Rattle.bundle_merge.specs.Read.{AreAllKnown}
use Rattle.bundle_merge.proofs.joined.read_all.Given as goal

abbrev pub invariant-loop-place : goal.invariant-loop-place
invariant-loop-place l =
    AreAllKnown l.linker l.linker.linked.list.items →
    length l.copies ≡ length l.linker.linked.list.items →
    AreReadFrom l.linker l.places.keys l.linker.linked.list.items l.copies l.place l.reads.items
