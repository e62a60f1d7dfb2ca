use Rattle.std.proofs.Common.{◌≡◌, ℕ, ◌<◌, Some, None, map, length, get_or}
use Rattle.bundle_order_graph.specs.Classes.{Leads}
use Rattle.bundle_order_sort.specs.Items.{IsItemOf}
use Rattle.bundle_order_sort.proofs.needs.soles_of.Given as goal

abbrev pub invariant-loop-list : goal.invariant-loop-list
invariant-loop-list l = record {
  len : length l.soles.items ≡ l.list-index;
  each : (k t : ℕ) → k < l.list-index → Leads (map (λ v. v.items) l.lists) k t → (m : ℕ) → get_or l.soles.items k None ≡ Some m → IsItemOf l.items t m;
}
