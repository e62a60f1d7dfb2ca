use Rattle.std.proofs.Common.{map, sym, ◌∙◌, subst, Bor, Contains, ℕ, List}
use Rattle.std.proofs.lemmas.List.{take_all}
use Rattle.std.proofs.lemmas.List.Sorted.{Contains-permutation, IsPermutation-map}
use Rattle.std.specs.List.{IsDistinct}
use Rattle.bundle_link_targets.proofs.TakenLemmas.{push-more}
use Rattle.bundle_link_targets.proofs.AscendingLemmas.{text-eq, texts-ascend}
use Rattle.bundle_link_targets.proofs.names.sorted.Goals as goal

pub loop-name-preserved : goal.loop-name-preserved
loop-name-preserved c = push-more c.as_slice-all.result.now c.loop-name.sorted.items c.push.new.self.items c.loop-name.name-index _ c.in_ok-push.ensures.items c.loop-name.invariant c.loop-name-test.true

pub returns-clause-there : goal.returns-clause-there
returns-clause-there c = λ x there.
    let text = λ (name : Bor (List ℕ)). name.now in
    let old = c.loop-name.sorted.items in
    let new = c.sort_unstable.new.self.items in
    let same = c.loop-name.invariant ∙ take_all c.loop-name.name-index c.as_slice-all.result.now c.loop-name-test.false ∙ c.as_slice-all.ensures.keys in
    Contains-permutation (map text old) (map text new) x (IsPermutation-map text old new c.sort_unstable.ensures.permutation) (subst (λ l. Contains (map text l) x) (sym same) there)

pub returns-clause-ascending : goal.returns-clause-ascending
returns-clause-ascending c =
    let old = c.loop-name.sorted.items in
    let new = c.sort_unstable.new.self.items in
    let same = c.loop-name.invariant ∙ take_all c.loop-name.name-index c.as_slice-all.result.now c.loop-name-test.false ∙ c.as_slice-all.ensures.keys in
    texts-ascend old new c.sort_unstable.ensures.permutation (subst (IsDistinct text-eq) (sym same) c.as_slice-all.ensures.unique) c.sort_unstable.ensures.sorted
