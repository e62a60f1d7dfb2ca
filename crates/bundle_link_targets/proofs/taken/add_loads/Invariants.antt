use Rattle.std.proofs.Common.{◌≡◌, ℕ, List, ◌++◌, take}
use Rattle.std.specs.Prelude.{filter_map}
use Rattle.bundle_rules.specs.Nodes.{numbers_once}
use Rattle.bundle_link_targets.specs.Taken.{module_loaded_by}
use Rattle.bundle_link_targets.proofs.taken.add_loads.Given as goal

abbrev pub invariant-loop-source : goal.invariant-loop-source
invariant-loop-source l = (before : List ℕ) → l.fn.modules.keys ≡ numbers_once before → l.modules.keys ≡ numbers_once (before ++ filter_map (module_loaded_by l.kinds l.taker) (take l.source-index l.sources))
