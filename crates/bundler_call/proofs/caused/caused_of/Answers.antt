-- One more bundle and its causes stand for one more entry; where no entry is left, all have theirs. A refusal of one is of all.
use Rattle.std.proofs.Common.{refl, inl, inr}
use Rattle.bundler_call.proofs.Explained.{told_all, told_more}
use Rattle.bundler_call.proofs.Sources.{made_all, made_more, made_over, number_here, refused_here}
use Rattle.bundler_call.proofs.Growing.{handed_on}
use Rattle.bundler_call.proofs.Leading.{counted_less, none_left}
use Rattle.bundler_call.specs.Kept.{settings_of}
use Rattle.bundler_call.proofs.caused.caused_of.Goals as goal

pub loop-entry-preserved-in_ok-push-2 : goal.loop-entry-preserved-in_ok-push-2
loop-entry-preserved-in_ok-push-2 g c = (
  counted_less _ _ _ _ _ c.in-Some.ensures.steps.0.0 c.in-Some.ensures.steps.0.1 c.loop-entry.invariant.0,
  counted_less _ _ _ _ _ c.in-Some.ensures.steps.1.0 c.in-Some.ensures.steps.1.1 c.loop-entry.invariant.1,
  λ kept list read numbered.
      let so_far = c.loop-entry.invariant.2 kept list read numbered in
      let here = number_here _ c.args.config.now kept list c.args.entries.items _ _ _ _ _ c.in-Some.entry c.in-Some.id c.in-Some.ensures.steps.0.0 c.in-Some.ensures.steps.1.0 so_far.0 in (
        made_more _ c.args.config.now kept list c.args.entries.items _ _ _ _ _ c.in-Some.entry c.in-Some.id c.in-Some.ensures.steps.0.0 c.in-Some.ensures.steps.1.0 so_far.0 _ _ c.in_ok-push.ensures.items refl refl (c.in_ok-module.ensures.made kept list read here),
        told_more (settings_of c.args.config.now) kept c.args.entries.items _ _ c.in-Some.entry c.in-Some.id _ _ _ c.in-Some.ensures.steps.0.0 c.in_ok-push-2.ensures.items here.0 (c.in_ok-module.ensures.told kept list read here) so_far.1,
      ),
)

pub loop-entry-preserved : goal.loop-entry-preserved
loop-entry-preserved g c = (
  counted_less _ _ _ _ _ c.in-Some.ensures.steps.0.0 c.in-Some.ensures.steps.0.1 c.loop-entry.invariant.0,
  counted_less _ _ _ _ _ c.in-Some.ensures.steps.1.0 c.in-Some.ensures.steps.1.1 c.loop-entry.invariant.1,
  λ kept list read numbered.
      let so_far = c.loop-entry.invariant.2 kept list read numbered in
      let here = number_here _ c.args.config.now kept list c.args.entries.items _ _ _ _ _ c.in-Some.entry c.in-Some.id c.in-Some.ensures.steps.0.0 c.in-Some.ensures.steps.1.0 so_far.0 in (
        made_more _ c.args.config.now kept list c.args.entries.items _ _ _ _ _ c.in-Some.entry c.in-Some.id c.in-Some.ensures.steps.0.0 c.in-Some.ensures.steps.1.0 so_far.0 _ _ c.in_ok-push.ensures.items refl refl (c.in_ok-module.ensures.made kept list read here),
        told_more (settings_of c.args.config.now) kept c.args.entries.items _ _ c.in-Some.entry c.in-Some.id _ _ _ c.in-Some.ensures.steps.0.0 c.in_ok-push-2.ensures.items here.0 (c.in_ok-module.ensures.told kept list read here) so_far.1,
      ),
)

pub returns-clause-bundles : goal.returns-clause-bundles
returns-clause-bundles g c = λ kept list read numbered.
    made_all _ c.args.config.now kept list _ _ _ _ (elim c.in-None.ensures.steps [ inl none ↦ inl (none_left _ _ c.loop-entry.invariant.0 none.1.0) | inr none ↦ inr (none_left _ _ c.loop-entry.invariant.1 none.1.0) ]) (c.loop-entry.invariant.2 kept list read numbered).0

pub returns-clause-causes : goal.returns-clause-causes
returns-clause-causes g c = λ kept list read numbered.
    let so_far = c.loop-entry.invariant.2 kept list read numbered in
    told_all (settings_of c.args.config.now) kept c.args.entries.items _ _
    (made_over _ c.args.config.now kept list _ _ _ _ (elim c.in-None.ensures.steps [ inl none ↦ inl (none_left _ _ c.loop-entry.invariant.0 none.1.0) | inr none ↦ inr (none_left _ _ c.loop-entry.invariant.1 none.1.0) ]) so_far.0) so_far.1

pub returns-in_err-module-clause-refused : goal.returns-in_err-module-clause-refused
returns-in_err-module-clause-refused g c =
    handed_on c.from_residual.result c.in_err-module.field-0.0 _ c.from_residual.ensures.1 (λ kept list read numbered.
    let so_far = (c.loop-entry.invariant.2 kept list read numbered).0 in
    refused_here _ c.args.config.now kept list c.args.entries.items _ _ _ _ _ c.in-Some.entry c.in-Some.id c.in-Some.ensures.steps.0.0 c.in-Some.ensures.steps.1.0 so_far c.in_err-module.field-0.0
    (c.in_err-module.ensures.refused kept list read (number_here _ c.args.config.now kept list c.args.entries.items _ _ _ _ _ c.in-Some.entry c.in-Some.id c.in-Some.ensures.steps.0.0 c.in-Some.ensures.steps.1.0 so_far)))
