use Rattle.std.proofs.Common.{◌≡◌, ◌↔◌, All, Contains, false, map, take}
use Rattle.bundle_order.proofs.depends.references_in.Given as goal

abbrev pub invariant-loop-list : goal.invariant-loop-list
invariant-loop-list l = record {
  lists : map (λ one. one.list) l.found.items ≡ take l.list-index l.all;
  strong : All (λ one. (one.is_weak ≡ false) ↔ Contains l.strong one.list) l.found.items;
}
