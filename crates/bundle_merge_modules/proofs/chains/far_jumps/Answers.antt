use Rattle.std.proofs.Common.{◌≡◌, List, ℕ, get_or, length, sym, ap, subst, ◌∙◌, arith}
use Rattle.std.specs.Prelude.{map}
use Rattle.bundle_merge_modules.specs.Chains.{AreNumbersBelow}
use Rattle.bundle_merge_modules.proofs.AliasLemmas.{AreJumps-twice, AreWithin-given}
use Rattle.bundle_merge_modules.proofs.chains.far_jumps.Goals as goal

pub doubled-requires : goal.doubled-requires
doubled-requires c =
    let given = c.deref.result.now in
    let now = c.loop-reach.jumps.items in
    let is : given ≡ now = c.deref.ensures.value in
    subst (λ n. AreNumbersBelow given n) (sym (ap length is ∙ c.loop-reach.invariant.jumps.len))
    (AreWithin-given c.args.next.now c.loop-reach.reach now given c.requires c.loop-reach.invariant.jumps is)

pub loop-reach-preserved : goal.loop-reach-preserved
loop-reach-preserved c =
    let now = c.loop-reach.jumps.items in
    let is = c.in_ok-jumps-2.ensures ∙ ap (λ (l : List ℕ). map (λ j. get_or l j 0) l) c.deref.ensures.value in
    record {
      some = omega arith;
      jumps = AreJumps-twice c.args.next.now c.loop-reach.reach now c.in_ok-jumps-2.jumps.items c.requires c.loop-reach.invariant.jumps is;
    }

pub returns : goal.returns
returns c = record { reach = c.loop-reach.reach; far = c.loop-reach-test.false; are = c.loop-reach.invariant.jumps }
