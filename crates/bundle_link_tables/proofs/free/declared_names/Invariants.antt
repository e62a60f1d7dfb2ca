-- The names that the entries declare that were passed.
use Rattle.std.proofs.Common.{take}
use Rattle.std.specs.List.{flat_map}
use Rattle.bundle_link_tables.specs.Free.{declared_at_top}
use Rattle.bundle_link_tables.specs.Sources.{HasTexts}
use Rattle.bundle_link_tables.proofs.free.declared_names.Given as goal

abbrev pub invariant-loop-occurrence : goal.invariant-loop-occurrence
invariant-loop-occurrence l = HasTexts l.names (flat_map (declared_at_top l.denotations) (take l.occurrence-index l.denotations.occurrences.items))
