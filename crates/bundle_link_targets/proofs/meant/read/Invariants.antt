use Rattle.std.proofs.Common.{◌≡◌, map}
use Rattle.bundle_rules.specs.Program.{Program}
use Rattle.bundle_link_index.specs.Outside.{IsIndexOf}
use Rattle.bundle_link_index.specs.Says.{target_of}
use Rattle.bundle_link_tables.specs.Used.{name_read}
use Rattle.bundle_link_targets.proofs.ListLemmas.{Onward}
use Rattle.bundle_link_targets.proofs.meant.read.Given as goal

abbrev pub invariant-loop-read : goal.invariant-loop-read
invariant-loop-read l = (l.index ≡ l.fn.index) × (l.meaning.steps ≡ l.read-index) × ((p : Program) → IsIndexOf p l.fn.index → Onward p (target_of l.target) (map name_read l.reads) l.read-index (target_of l.meaning.target))
