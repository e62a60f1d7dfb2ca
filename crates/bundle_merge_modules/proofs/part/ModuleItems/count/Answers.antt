use Rattle.std.proofs.Common.{◌≡◌, ◌+◌, length, ap, sym, ◌∙◌, arith}
use Rattle.std.specs.Prelude.{map}
use Rattle.std.specs.Map.Iter.{deref_pair}
use Rattle.std.proofs.lemmas.Map.Iter.{rest_all}
use Rattle.bundle_merge_modules.specs.Groups.{owned}
use Rattle.bundle_merge_modules.specs.Calls.{group_items, groups_of}
use Rattle.bundle_merge_modules.proofs.part.ModuleItems.count.Goals as goal

pub returns : goal.returns
returns g c =
    let none = rest_all deref_pair c.loop-items.items-iterator _ _ c.in-None.is c.next.ensures.steps in
    let all : c.loop-items.count + 0 ≡ c.args.besides + length (owned (groups_of c.args.self.now)) = ap (λ l. c.loop-items.count + length (owned (map group_items l))) (sym none) ∙ c.loop-items.invariant.counted in
    (omega (arith, all, c.loop-items.invariant.fits), omega (arith, all))
