use Rattle.std.proofs.Common.{ℕ, List, ◌++◌, take}
use Rattle.std.specs.Prelude.{filter_map}
use Rattle.bundle_link_index.specs.Handed.{HoldsNumbers, modules_called}
use Rattle.bundle_link_index.proofs.kinds.add_called.Given as goal

abbrev pub invariant-loop-call : goal.invariant-loop-call
invariant-loop-call l = (before : List ℕ) → HoldsNumbers l.fn.required before → HoldsNumbers l.required (before ++ filter_map (modules_called l.link_module) (take l.call-index l.calls))
