-- What the proofs of the parameters list: one after another.
use Rattle.std.proofs.lemmas.Grind.{common_steps, flat_map-append}
use Rattle.bundle_tree_listed.proofs.Rows.{all_param}

pub ruleset nodes = (
  common_steps,
  flat_map-append,
  all_param,
)
