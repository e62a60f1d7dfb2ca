use Rattle.std.proofs.Common.{map, sym, ◌∙◌, subst}
use Rattle.std.proofs.lemmas.List.{take_all}
use Rattle.std.proofs.lemmas.List.Sorted.{Contains-permutation, IsPermutation-map, IsPermutation-sym}
use Rattle.bundle_rules.specs.Entries.{Named}
use Rattle.bundle_link_targets.specs.Taken.{HoldNames, target_from_giver}
use Rattle.bundle_link_targets.proofs.TakenLemmas.{push-more, lent-is, text-of}
use Rattle.bundle_link_targets.proofs.AscendingLemmas.{texts-ascend}
use Rattle.bundle_link_index.proofs.ProgramLemmas.{got_there as place-there, got as there-place}
use Rattle.bundle_link_targets.proofs.taken.names_from.Goals as goal

pub loop-name-preserved : goal.loop-name-preserved
loop-name-preserved c = push-more c.items_of-own.result.now c.loop-name.sorted.items c.push.new.self.items c.loop-name.name-index _ c.in_ok-push.ensures.items c.loop-name.invariant c.loop-name-test.true

pub returns : goal.returns
returns c = λ targets holds.
    let giver = c.args.giver in
    let old = c.loop-name.sorted.items in
    let new = c.sort_unstable.new.self.items in
    let moved = c.sort_unstable.ensures.permutation in
    let seen = IsPermutation-map text-of old new moved in
    let same = c.loop-name.invariant ∙ take_all c.loop-name.name-index c.items_of-own.result.now c.loop-name-test.false ∙ c.items_of-own.ensures ∙ lent-is c.get.result _ c.get.ensures.value in
    let all = subst (HoldNames giver targets) (sym same) holds in
    record {
      ascending = texts-ascend old new moved all.once c.sort_unstable.ensures.sorted;
      all = λ x. (
        λ there. there-place targets (target_from_giver giver (Named x)) (all.right x (Contains-permutation (map text-of new) (map text-of old) x (IsPermutation-sym (map text-of old) (map text-of new) seen) there)),
        λ there. Contains-permutation (map text-of old) (map text-of new) x seen (all.there x (place-there targets there.0 (target_from_giver giver (Named x)) there.1)),
      );
    }
