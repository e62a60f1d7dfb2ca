use Rattle.std.proofs.Common.{inl, inr, ◌+◌, get_or, take, sym, ◌∙◌, subst, Contains, arith}
use Rattle.std.proofs.lemmas.List.{take_all, take_more}
use Rattle.std.proofs.lemmas.Option.{slice_get_past}
use Rattle.bundle_link_targets.specs.Found.{targets_in}
use Rattle.bundle_link_targets.specs.Taken.{AreLoadsOf}
use Rattle.bundle_link_targets.proofs.CallPlaceLemmas.{fills-put, one-more}
use Rattle.bundle_link_index.proofs.AskedLemmas.{none_there as none-there}
use Rattle.bundle_link_targets.proofs.TakenLemmas.{no-loads}
use Rattle.bundle_link_targets.proofs.taken.loads_of.Goals as goal

pub loop-taker-init : goal.loop-taker-init
loop-taker-init c = record { long = c.in_ok-loads.ensures.count; there = λ m there. none-there m there }

pub loop-taker-preserved : goal.loop-taker-preserved
loop-taker-preserved c =
    let kinds = c.args.kinds.now in
    let targets = targets_in c.args.meant.now in
    let list = kinds.list.now in
    let i = c.loop-taker.taker-index in
    let inv = c.loop-taker.invariant in
    let all = inv.long in
    let fills = fills-put (AreLoadsOf kinds targets) (get_or list i 0) c.loop-taker.loads.items c.put_at.new.lists.items c.in_ok-own.own c.put_at.ensures
    (λ h. c.in_ok-own.ensures c.in_ok-names.ensures) (λ past. no-loads kinds targets (get_or list i 0) (slice_get_past kinds.modules.now (get_or list i 0) (omega (arith, past, all)))) in
    record {
      long = fills.long ∙ all;
      there = λ m there. elim (one-more (take i list) (take (i + 1) list) (get_or list i 0) (take_more list i 0 c.loop-taker-test.true) m there) [
        | inl before ↦ fills.kept m (inv.there m before)
        | inr same ↦ fills.there m same
      ];
    }

pub returns : goal.returns
returns c = λ m there.
    c.loop-taker.invariant.there m (subst (λ l. Contains l m) (sym (take_all c.loop-taker.taker-index c.args.kinds.now.list.now c.loop-taker-test.false)) there)
