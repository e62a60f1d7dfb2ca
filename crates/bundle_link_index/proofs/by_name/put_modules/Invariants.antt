use Rattle.std.proofs.Common.{take, Contains}
use Rattle.bundle_link_index.specs.Given.{AddsMissing}
use Rattle.bundle_link_index.proofs.by_name.put_modules.Given as goal

abbrev pub invariant-loop-number : goal.invariant-loop-number
invariant-loop-number l = AddsMissing l.fn.reach.keys (λ at. Contains (take l.number-index l.modules) at) l.reach.keys
