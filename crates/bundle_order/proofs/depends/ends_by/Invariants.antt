use Rattle.std.proofs.Common.{ℕ, ◌↔◌, Contains, map, take}
use Rattle.bundle_order.specs.Found.{IsEnd}
use Rattle.bundle_order.proofs.depends.ends_by.Given as goal

abbrev pub invariant-loop-binding : goal.invariant-loop-binding
invariant-loop-binding l = (t : ℕ) → Contains l.ends.items t ↔ IsEnd (map (λ v. v.items) l.providers) (take l.binding-index l.bindings) l.number t
