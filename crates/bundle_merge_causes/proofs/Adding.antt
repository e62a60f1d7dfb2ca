-- Causes that are added one behind another.
use Rattle.std.proofs.Common.{append_assoc}
use Rattle.std.proofs.lemmas.Grind.{common_steps}
use Rattle.std.proofs.lemmas.List.{map-append}

pub ruleset adding = (common_steps, map-append, append_assoc)
