use Rattle.std.proofs.Common.{List, ℕ, subst}
use Rattle.bundle_merge_modules.specs.Chains.{AreLast, HasOpen}
use Rattle.bundle_merge_modules.proofs.AliasLemmas.{AreEnds-last, AreWithin-given, HasRing-open}
use Rattle.bundle_merge_modules.proofs.chains.chain_ends.Goals as goal

pub are_last-requires : goal.are_last-requires
are_last-requires c = AreWithin-given c.args.next.now c.in_ok-ends.ensures.reach c.in_ok-ends.ends.items c.deref.result.now c.requires c.in_ok-ends.ensures.are c.deref.ensures.value

pub returns-then-are_last-clause-ends : goal.returns-then-are_last-clause-ends
returns-then-are_last-clause-ends c =
    let next = c.args.next.now in
    AreEnds-last next c.in_ok-ends.ends.items c.requires c.in_ok-ends.ensures (subst (λ (l : List ℕ). AreLast next l) c.deref.ensures.value (c.are_last.ensures.all c.if-are_last.true))

pub returns-clause-ring : goal.returns-clause-ring
returns-clause-ring c =
    let next = c.args.next.now in
    HasRing-open next c.in_ok-ends.ends.items c.requires c.in_ok-ends.ensures (subst (λ (l : List ℕ). HasOpen next l) c.deref.ensures.value (c.are_last.ensures.leads c.if-are_last.false))
