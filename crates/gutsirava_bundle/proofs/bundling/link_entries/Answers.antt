-- One more entry of the linker's begins with one more module; where no module is left, all have theirs.
use Rattle.std.proofs.Common.{[], sym, subst, arith}
use Rattle.std.specs.List.{AllZip}
use Rattle.gutsirava_bundle.specs.Linking.{BeginsAt}
use Rattle.gutsirava_bundle.proofs.Loops.{zip_more, zip_all}
use Rattle.gutsirava_bundle.proofs.bundling.link_entries.Goals as goal

pub loop-root-init : goal.loop-root-init
loop-root-init c = subst (λ ys. AllZip BeginsAt [] ys) (sym c.new-entries.ensures.items) tt

pub loop-root-preserved : goal.loop-root-preserved
loop-root-preserved c =
    zip_more BeginsAt c.args.roots.now c.loop-root.root-index _ c.loop-root.entries.items _ _ c.loop-root-test.true c.root-item.is c.in_ok-push.ensures.items c.loop-root.invariant c.in_ok-file_of.ensures

pub returns : goal.returns
returns c = zip_all BeginsAt c.args.roots.now c.loop-root.root-index c.loop-root.entries.items (omega (arith, c.loop-root-test.false)) c.loop-root.invariant
