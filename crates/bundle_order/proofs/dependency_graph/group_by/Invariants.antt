-- Each item passed was added, with the module that its range tells.
use Rattle.std.proofs.Common.{◌≡◌, ◌≤◌, length, map, take}
use Rattle.bundle_syntax.specs.Item.{item_of}
use Rattle.bundle_rules.specs.Sorting.{owners_by}
use Rattle.bundle_order.specs.Grouped.{AreAscending, ArePast, IsGroup, ends_of}
use Rattle.bundle_order.proofs.dependency_graph.group_by.Given as goal

abbrev pub invariant-loop-number : goal.invariant-loop-number
invariant-loop-number l = record {
  len : length l.group.ranges.items ≡ l.number;
  within : l.module ≤ length l.modules;
  past : ArePast (map ends_of l.modules) l.module l.number;
  group : AreAscending (map ends_of l.modules) → IsGroup l.group (map (λ v. map item_of v.items) (take l.number l.lists)) (owners_by (map ends_of l.modules) 0 (map (λ v. map item_of v.items) (take l.number l.lists)));
}
