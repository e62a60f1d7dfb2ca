use Rattle.std.proofs.Common.{◌≡◌, ℕ, ◌<◌, ◌⊎◌, ◌↔◌, map, length, get_or}
use Rattle.bundle_order_graph.specs.Classes.{Leads}
use Rattle.bundle_order_graph.proofs.classes.add_user.Given as goal

abbrev pub invariant-loop-end : goal.invariant-loop-end
invariant-loop-end l = record {
  len : length l.users ≡ length l.fn.users;
  added : (s t : ℕ) → Leads (map (λ v. v.items) l.users) t s ↔ (Leads (map (λ v. v.items) l.fn.users) t s ⊎ ((s ≡ l.user) × ((k : ℕ) × (k < l.end-index) × (get_or l.ends k 0 ≡ t))));
}
