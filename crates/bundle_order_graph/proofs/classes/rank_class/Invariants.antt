use Rattle.std.proofs.Common.{◌≡◌, ℕ, ◌+◌, ◌<◌, List, [], Contains, None, map, length, get_or}
use Rattle.bundle_order_graph.specs.Classes.{AreReversed, IsPostOrder, IsRanked, Ranking, rank_of, left_to_rank}
use Rattle.bundle_order_graph.proofs.classes.rank_class.Given as goal

abbrev pub invariant-loop-item : goal.invariant-loop-item
invariant-loop-item l = record {
  len : length l.ranks ≡ length l.users;
  inside : (x : ℕ) → Contains l.waiting.items x → x < length l.users;
  last : IsRanked l.ranks (get_or l.listed l.place 0);
  ranking : (edges : List (List ℕ)) → AreReversed edges (map (λ v. v.items) l.users) → IsPostOrder edges l.listed → rank_of l.fn.ranks (get_or l.listed l.place 0) ≡ None → Ranking edges l.listed (l.place + 1) l.fn.ranks [] → Ranking edges l.listed (l.place + 1) l.ranks l.waiting.items;
}

abbrev pub decreases-loop-item : goal.decreases-loop-item
decreases-loop-item l = left_to_rank l.ranks l.waiting.items
