-- A use becomes what it means, and the name of a call its load function.
use Rattle.std.proofs.Common.{Option, sym, ap, subst, ◌∙◌}
use Rattle.std.specs.Prelude.{slice_get}
use Rattle.std.proofs.lemmas.Bool.{false≢true}
use Rattle.bundle_link_targets.specs.Handed.{IsMeaningAt}
use Rattle.bundle_link_targets.specs.declared.target.Meaning.{Meaning}
use Rattle.bundle_merge_names.specs.Body.{by_use, by_call, is_use_at}
use Rattle.bundle_merge_names.proofs.body.rewrite_of.Goals as goal
use Rattle.bundle_merge_names.proofs.body.rewrite_of.Goals.{then-is_use+in_default, else-is_use}

pub returns-in-Some : goal.returns-in-Some
returns-in-Some c = by_use c.in-Some.meaning (ap (λ l. is_use_at c.args.place (slice_get l c.args.uses)) (sym c.deref.ensures.value) ∙ sym c.is_use.ensures ∙ c.if-is_use.true) (λ p linked reached. subst (λ (found : Option Meaning). IsMeaningAt p c.args.which c.args.uses found) c.in-Some.is (c.meaning.ensures p linked reached)) c.meant.ensures

pub returns-in-Some-called : goal.returns-in-Some-called
returns-in-Some-called c = by_call c.in-Some-called.which (λ is. elim c.if-is_use.branch [ then-is_use+in_default w ↦ (λ p linked reached. subst (λ (found : Option Meaning). IsMeaningAt p c.args.which c.args.uses found) w.in_default.is (w.meaning.ensures p linked reached)) | else-is_use w ↦ absurd (false≢true (sym w.if-is_use.false ∙ c.is_use.ensures ∙ ap (λ l. is_use_at c.args.place (slice_get l c.args.uses)) c.deref.ensures.value ∙ is)) ]) (sym c.called.ensures ∙ c.in-Some-called.is) c.load.ensures
