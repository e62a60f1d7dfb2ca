use Rattle.std.proofs.Common.{◌≡◌, List, ◌++◌, take}
use Rattle.std.specs.List.{flat_map}
use Rattle.bundle_rules.specs.Nodes.{Text, each_once}
use Rattle.bundle_link_index.specs.Handed.{external_one}
use Rattle.bundle_link_targets.specs.Names.{texts_in}
use Rattle.bundle_link_targets.proofs.taken.add_specifiers.Given as goal

abbrev pub invariant-loop-source : goal.invariant-loop-source
invariant-loop-source l = (before : List Text) → texts_in l.fn.specifiers ≡ each_once before → texts_in l.specifiers ≡ each_once (before ++ flat_map external_one (take l.source-index l.sources))
