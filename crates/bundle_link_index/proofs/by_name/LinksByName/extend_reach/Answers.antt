use Rattle.std.proofs.Common.{◌≡◌, ℕ, ◌<◌, Contains, length, sym, subst, arith}
use Rattle.std.proofs.lemmas.Option.{slice_get_within}
use Rattle.bundle_link_index.specs.Given.{AddsMissing}
use Rattle.bundle_link_index.specs.Reached.{Reaching}
use Rattle.bundle_link_index.proofs.SearchLemmas.{each_place}
use Rattle.bundle_link_index.proofs.ReachLemmas.{Reaching-begins, Reaching-steps, Reaching-ends}
use Rattle.bundle_link_index.proofs.by_name.LinksByName.extend_reach.Goals as goal

pub loop-done-init : goal.loop-done-init
loop-done-init c =
    subst (Reaching c.args.self.now c.args.start c.args.reach.now.keys c.put_module.new.reach.keys) (sym c.len-done.ensures.len)
    (Reaching-begins c.args.self.now c.args.start c.args.reach.now.keys c.put_module.new.reach.keys c.requires c.in_ok-put_module.ensures)

pub loop-done-preserved : goal.loop-done-preserved
loop-done-preserved c =
    let old = c.loop-done.reach.keys in
    let new = c.put_modules.new.reach.keys in
    let inside : c.loop-done.done < length old = omega arith in
    Reaching-steps c.args.self.now c.args.start c.args.reach.now.keys old new c.loop-done.done c.number_at-next.result c.requires c.loop-done.invariant c.number_at-next.ensures (λ i h. each_place old i (omega arith)) (subst (λ l. AddsMissing old (Contains l) new) c.stars.ensures c.in_ok-put_modules.ensures)

pub returns : goal.returns
returns c = Reaching-ends c.args.self.now c.args.start c.args.reach.now.keys c.loop-done.reach.keys c.loop-done.done c.loop-done.invariant (λ i k e. omega (arith, slice_get_within c.loop-done.reach.keys i k e))
