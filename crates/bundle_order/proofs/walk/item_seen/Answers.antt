use Rattle.std.proofs.Common.{ℕ, Option, List, map, sym, subst}
use Rattle.bundle_syntax.specs.Item.{item_of}
use Rattle.bundle_tree_places.specs.Seconds.{AreSeconds}
use Rattle.bundle_order.proofs.walk.item_seen.Goals as goal

pub seen_along-requires-clause-seconds : goal.seen_along-requires-clause-seconds
seen_along-requires-clause-seconds c = subst (λ (l : List (Option ℕ)). AreSeconds (map item_of c.args.item.now) l) (sym c.deref.ensures.value) c.in_ok-seconds.ensures
