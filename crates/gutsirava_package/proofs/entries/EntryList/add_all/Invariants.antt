use Rattle.gutsirava_package.specs.Entries.{IsAligned}
use Rattle.gutsirava_package.proofs.entries.EntryList.add_all.Given as goal

abbrev pub invariant-loop-key : goal.invariant-loop-key
invariant-loop-key l = IsAligned l.self
