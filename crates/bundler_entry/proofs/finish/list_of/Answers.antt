-- A list keeps its elements where its room is given back.
use Rattle.std.proofs.Common.{map, ap, ◌∙◌}
use Rattle.bundle_syntax.specs.Item.{item_of}
use Rattle.bundler_entry.proofs.finish.list_of.Goals as goal

pub returns : goal.returns
returns c = ap (map item_of) c.shrink_to_fit.ensures.items ∙ c.in_ok-list.ensures
