-- Where nothing was refused, what is joined and what is left are all.
use Rattle.std.proofs.Common.{◌≡◌, ◌++◌, false, vec_len}
use Rattle.std.specs.Prelude.{reverse}
use Rattle.std.specs.List.{flat_map}
use Rattle.bundle_order.proofs.sorting.joined.Given as goal

abbrev pub invariant-loop-items : goal.invariant-loop-items
invariant-loop-items l = l.is_refused ≡ false → l.all.body.items ++ flat_map (λ items. items.items) (reverse l.rest.items) ≡ flat_map (λ items. items.items) l.fn.modules.items

abbrev pub decreases-loop-items : goal.decreases-loop-items
decreases-loop-items l = vec_len l.rest
