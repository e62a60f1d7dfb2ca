use Rattle.std.proofs.Common.{◌≡◌, ◌+◌, subst, sym, take}
use Rattle.bundle_link_index.specs.Leads.{lead_of}
use Rattle.bundle_link_index.specs.Numbered.{starred}
use Rattle.bundle_link_index.proofs.NumberedLemmas.{starred_then}
use Rattle.bundle_link_index.proofs.stars.starred_modules.Goals as goal

pub loop-star-preserved : goal.loop-star-preserved
loop-star-preserved c =
    let lead = lead_of c.args.kinds.now c.args.number in
    let i = c.loop-star.star-index in
    let same = c.deref-star-items.ensures.value in
    subst (λ l. c.add_star.new.modules.items ≡ starred lead (take (i + 1) l)) same
    (starred_then lead c.deref-star-items.result.now i _ c.loop-star.modules.items c.add_star.new.modules.items c.loop-star-test.true
    (subst (λ l. c.loop-star.modules.items ≡ starred lead (take i l)) (sym same) c.loop-star.invariant) c.in_ok-add_star.ensures)
