use Rattle.std.proofs.Common.{◌≡◌, ◌↔◌, All, Contains, false, map, take}
use Rattle.bundle_order.proofs.depends.dependencies_in.Given as goal

abbrev pub invariant-loop-item : goal.invariant-loop-item
invariant-loop-item l = record {
  items : map (λ one. one.item) l.found.items ≡ take l.item-index l.all;
  strong : All (λ one. (one.is_weak ≡ false) ↔ Contains l.strong one.item) l.found.items;
}
