use Rattle.std.proofs.Common.{◌≡◌, ℕ, ◌<◌, length, get_or, map, take}
use Rattle.bundle_syntax.specs.Item.{item_of}
use Rattle.bundle_order.specs.Told.{no_binding_told, told_in}
use Rattle.bundle_order.proofs.told.tell.Given as goal

abbrev pub invariant-loop-denoted : goal.invariant-loop-denoted
invariant-loop-denoted l = record {
  len : length l.told.items ≡ length l.pieces;
  each : ((p : ℕ) → get_or l.fn.fresh.items p no_binding_told ≡ no_binding_told) → (p : ℕ) → p < length l.pieces → get_or l.told.items p no_binding_told ≡ told_in (take l.denoted-index l.entries) (map item_of l.pieces) l.denotations l.top p;
}
