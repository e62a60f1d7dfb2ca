use Rattle.std.proofs.Common.{◌≡◌, take}
use Rattle.bundle_rules.specs.Nodes.{each_once}
use Rattle.bundle_link_targets.specs.Names.{texts_in}
use Rattle.bundle_link_targets.specs.Taken.{outside_of}
use Rattle.bundle_link_targets.proofs.taken.specifiers_of.Given as goal

abbrev pub invariant-loop-which : goal.invariant-loop-which
invariant-loop-which l = texts_in l.specifiers ≡ each_once (outside_of l.kinds.modules.now (take l.which-index l.kinds.list.now))
