-- One more is the same, the contexts of plain words aside, and has no others.
use Rattle.std.proofs.Common.{◌≡◌, suc, ◌+◌, length, set, ap, ◌∙◌, subst, arith}
use Rattle.std.proofs.lemmas.List.{length-set}
use Rattle.bundle_syntax.specs.declared.piece.Role.TheVariants.{Word}
use Rattle.bundle_tree_listed.specs.Tree.{export_specifier_items}
use Rattle.bundle_scope.specs.Named.{words_aside}
use Rattle.bundle_scope.proofs.WordsLemmas.{words_set, AreClearTo, clear_set, clear_all}
use Rattle.bundle_scope.proofs.words.clear_names.Goals as goal

pub loop-place-preserved : goal.loop-place-preserved
loop-place-preserved c = (
  length-set _ _ _ ∙ c.loop-place.invariant.0,
  words_set (export_specifier_items Word 0) c.loop-place.specifiers.items c.loop-place.place c.clear_both.new.specifier _ (c.clear_both.ensures.same ∙ ap (λ old. words_aside (export_specifier_items Word 0 old)) c.index_mut.ensures.value)
      ∙ c.loop-place.invariant.1,
  (let one : suc c.loop-place.place ≡ c.loop-place.place + 1 = omega arith in subst (λ n. AreClearTo (export_specifier_items Word 0) n (set c.loop-place.specifiers.items c.loop-place.place c.clear_both.new.specifier)) one (clear_set (export_specifier_items Word 0) c.loop-place.specifiers.items c.loop-place.place c.clear_both.new.specifier c.loop-place.invariant.2 c.clear_both.ensures.clear)),
)

pub returns-clause-clear : goal.returns-clause-clear
returns-clause-clear c =
    let all = c.loop-place.invariant.0 in
    let end = c.loop-place-test.false in
    let within = c.loop-place.auto.place-end in
    let passed : c.loop-place.place ≡ length c.loop-place.specifiers.items = omega (arith, all, end, within) in
    clear_all (export_specifier_items Word 0) c.loop-place.specifiers.items (subst (λ n. AreClearTo (export_specifier_items Word 0) n c.loop-place.specifiers.items) passed c.loop-place.invariant.2)
