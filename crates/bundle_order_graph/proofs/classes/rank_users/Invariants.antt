use Rattle.std.proofs.Common.{ℕ, ◌<◌, get_or}
use Rattle.bundle_order_graph.specs.Classes.{IsRanked, RanksUsers}
use Rattle.bundle_order_graph.proofs.classes.rank_users.Given as goal

abbrev pub invariant-loop-user : goal.invariant-loop-user
invariant-loop-user l = record {
  ranks : RanksUsers l.users l.rank l.fn.ranks l.fn.waiting.items l.ranks l.waiting.items;
  all : (k : ℕ) → k < l.user-index → IsRanked l.ranks (get_or l.users k 0);
}
