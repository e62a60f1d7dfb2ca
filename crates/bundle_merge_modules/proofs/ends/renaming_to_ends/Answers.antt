use Rattle.std.proofs.Common.{◌≡◌, ℕ, List, Option, length, sym, subst, ◌∙◌}
use Rattle.std.specs.BTreeMap.{get}
use Rattle.std.proofs.lemmas.List.{length-map}
use Rattle.bundle_tree.specs.IdName.{name_cmp}
use Rattle.bundle_merge_modules.specs.Chains.{AreEnds, AreNumbersBelow, HasRing, LeadsWithin}
use Rattle.bundle_merge_modules.specs.Pairs.{AreRenamingSteps, AliasPair, next_by}
use Rattle.bundle_merge_modules.proofs.PairLemmas.{LeadsToEnds-steps, cycle_of, ends-within, no_cycle, within}
use Rattle.bundle_merge_modules.proofs.ends.renaming_to_ends.Goals as goal

pub chain_ends-requires : goal.chain_ends-requires
chain_ends-requires c =
    let is = c.deref.ensures.value ∙ c.in_ok-next.ensures in
    subst (λ (l : List (Option ℕ)). LeadsWithin l) (sym is) (within c.args.pairs.now c.in_ok-numbers.numbers c.in_ok-numbers.ensures)

pub renaming_by-requires-clause-within : goal.renaming_by-requires-clause-within
renaming_by-requires-clause-within c =
    let pairs = c.args.pairs.now in
    let next = next_by c.in_ok-numbers.numbers pairs in
    let ends = c.in-Some.ends.items in
    let is = c.deref.ensures.value ∙ c.in_ok-next.ensures in
    let all = subst (λ (l : List (Option ℕ)). AreEnds l ends) is (rw c.in-Some.is at c.in_ok-ends.ensures.ends) in
    let len : length next ≡ length pairs = length-map pairs (λ (pair : AliasPair). get name_cmp c.in_ok-numbers.numbers pair.1) in
    subst (λ (l : List ℕ). AreNumbersBelow l (length pairs)) (sym c.deref-in-Some.ensures.value) (subst (λ n. AreNumbersBelow ends n) len (ends-within next ends all))

pub returns-in-Some-clause-ends : goal.returns-in-Some-clause-ends
returns-in-Some-clause-ends c =
    let pairs = c.args.pairs.now in
    let ends = c.in-Some.ends.items in
    let renaming = c.in_ok-renaming_by-in-Some.field-0 in
    let is = c.deref.ensures.value ∙ c.in_ok-next.ensures in
    let all = subst (λ (l : List (Option ℕ)). AreEnds l ends) is (rw c.in-Some.is at c.in_ok-ends.ensures.ends) in
    let steps = subst (λ (l : List ℕ). AreRenamingSteps pairs l (length pairs) renaming) c.deref-in-Some.ensures.value c.in_ok-renaming_by-in-Some.ensures in
    LeadsToEnds-steps pairs c.in_ok-numbers.numbers ends renaming c.in_ok-numbers.ensures all steps

pub returns-in-Some-clause-none : goal.returns-in-Some-clause-none
returns-in-Some-clause-none c =
    let ends = c.in-Some.ends.items in
    let is = c.deref.ensures.value ∙ c.in_ok-next.ensures in
    let all = subst (λ (l : List (Option ℕ)). AreEnds l ends) is (rw c.in-Some.is at c.in_ok-ends.ensures.ends) in
    λ once cycle. no_cycle c.args.pairs.now c.in_ok-numbers.numbers c.in_ok-numbers.ensures once ends all cycle

pub returns-clause-cycle : goal.returns-clause-cycle
returns-clause-cycle c =
    let is = c.deref.ensures.value ∙ c.in_ok-next.ensures in
    let ring = subst (λ (l : List (Option ℕ)). HasRing l) is (rw c.in-None.is at c.in_ok-ends.ensures.ring) in
    cycle_of c.args.pairs.now c.in_ok-numbers.numbers c.in_ok-numbers.ensures ring
