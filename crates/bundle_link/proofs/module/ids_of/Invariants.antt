use Rattle.std.proofs.Common.{◌≡◌, take}
use Rattle.bundle_rules.specs.Nodes.{numbers_once}
use Rattle.bundle_link.specs.Numbered.{numbers}
use Rattle.bundle_link.proofs.module.ids_of.Given as goal

abbrev pub invariant-loop-module : goal.invariant-loop-module
invariant-loop-module l = l.ids.keys ≡ numbers_once (numbers (take l.module-index l.modules))
