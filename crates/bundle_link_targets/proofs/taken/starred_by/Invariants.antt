use Rattle.std.proofs.Common.{take}
use Rattle.std.specs.List.{flat_map}
use Rattle.bundle_link_tables.specs.Sources.{HasTexts}
use Rattle.bundle_link_targets.specs.Taken.{starred_in}
use Rattle.bundle_link_targets.proofs.taken.starred_by.Given as goal

abbrev pub invariant-loop-which : goal.invariant-loop-which
invariant-loop-which l = HasTexts l.starred (flat_map (starred_in l.kinds) (take l.which-index l.all))
