-- Each module is there, and goes last.
use Rattle.std.proofs.Common.{◌≡◌, ◌∙◌, Some, length, refl, ap, subst}
use Rattle.std.specs.Prelude.{IfSome, IsSome, slice_get}
use Rattle.std.proofs.lemmas.Bool.{false≢true}
use Rattle.std.proofs.lemmas.Option.{slice_get_read, slice_get_within}
use Rattle.bundler_entry.specs.Parts.{IsEntryPart}
use Rattle.bundler_entry.proofs.PartsLemmas.{parts-more}
use Rattle.bundler_entry.proofs.made.parts_of.Goals as goal
use Rattle.bundler_entry.proofs.made.parts_of.Goals.{in-Some+in_ok-push, in_default}

pub loop-module-preserved : goal.loop-module-preserved
loop-module-preserved c = λ places files.
    let call = c.args.call.now in
    let reached = c.args.reached.now in
    let bodies = c.args.bodies.now in
    let k = c.loop-module.module in
    let list = c.deref-leads-items.result.now in
    let leads = c.leads-item.result in
    let at : slice_get reached.leads.items k ≡ Some leads =
    subst (λ l. slice_get l k ≡ Some leads) c.deref-leads-items.ensures.value
    (slice_get_read list (length list) k leads refl c.loop-module-test.true c.leads-item.is) in
    let within = slice_get_within reached.leads.items k leads at in
    let file = files k within in
    elim c.match-part_of.branch [
      | in-Some+in_ok-push w ↦
          parts-more call reached bodies k c.loop-module.parts.items c.match-part_of.parts.items
          w.in-Some.part (ap (λ v. v.items) w.parts-is ∙ w.in_ok-push.ensures.items)
          (subst
          (λ o. IfSome o (λ part. slice_get reached.leads.items k ≡ Some leads → IsEntryPart call reached bodies k part))
          w.in-Some.is c.part_of.ensures.part at)
          (c.loop-module.invariant places files)
      | in_default w ↦ absurd (false≢true (subst (λ o. IsSome o) w.in_default.is
          (c.part_of.ensures.there (places k within) file.0 file.1)))
    ]
