use Rattle.std.proofs.Common.{List, ◌++◌, take}
use Rattle.std.specs.List.{flat_map}
use Rattle.bundle_rules.specs.Nodes.{Text}
use Rattle.bundle_link_tables.specs.Sources.{HasTexts}
use Rattle.bundle_link_index.specs.Leads.{lead_of}
use Rattle.bundle_link_targets.specs.Taken.{starred_one}
use Rattle.bundle_link_targets.proofs.taken.add_starred.Given as goal

abbrev pub invariant-loop-star : goal.invariant-loop-star
invariant-loop-star l = (before : List Text) → HasTexts l.fn.starred before → HasTexts l.starred (before ++ flat_map (starred_one (lead_of l.kinds l.which)) (take l.star-index l.stars))
