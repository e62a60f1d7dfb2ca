use Rattle.std.proofs.Common.{List, ◌++◌, take}
use Rattle.std.specs.List.{flat_map}
use Rattle.bundle_rules.specs.Nodes.{Text}
use Rattle.bundle_link_tables.specs.Sources.{HasTexts}
use Rattle.bundle_link_index.specs.Handed.{external_one}
use Rattle.bundle_link_index.proofs.kinds.add_externals.Given as goal

abbrev pub invariant-loop-source : goal.invariant-loop-source
invariant-loop-source l = (before : List Text) → HasTexts l.fn.texts before → HasTexts l.texts (before ++ flat_map external_one (take l.source-index l.sources))
