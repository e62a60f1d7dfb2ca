use Rattle.std.proofs.Common.{◌≡◌, refl, ap, inl, inr, subst, ◌∙◌}
use denote.Param.Object.{read_made}
use Rattle.bundle_tree_names.specs.declared.error.Error.TheVariants.{OutOfMemory}
use Rattle.bundle_json_document.specs.Answer.{line_of}
use Rattle.bundle_json_document.specs.Program.{fails_nowhere, may_list}
use Rattle.bundle_json_document.specs.Writing.{AppendsOrFails}
use Rattle.bundle_json_document.proofs.Reading.{answers_input, refuses_input}
use Rattle.bundle_json_document.proofs.Wanting.{line_of_memory, memory_line}
use Rattle.bundle_json_document.proofs.running.run.Given.{Over}
use Rattle.bundle_json_document.proofs.running.run.OwnLists.{own-1, at-1-1}
use Rattle.bundle_json_document.proofs.running.run.Goals as goal

-- the hook gives behind its box what it gives, and fails nowhere
gives : (g : Over) (c : goal.After-answer g)
    → (own-1.entry c.into_dyn_box.result.vtable).1.may_give c.into_dyn_box.result.value ≡ may_list c.in-Ok.hook
gives g c =
    read_made own-1 (own-1.entry at-1-1) at-1-1 refl _ (λ j hook. j.1.may_give hook) _ _ c.in-Ok-new.hook.value c.into_dyn_box.ensures.1
    ∙ ap may_list c.in-Ok-new.ensures.ok

fails : (g : Over) (c : goal.After-answer g)
    → (own-1.entry c.into_dyn_box.result.vtable).1.may_fail_hook c.into_dyn_box.result.value ≡ fails_nowhere
fails g c =
    read_made own-1 (own-1.entry at-1-1) at-1-1 refl _ (λ j hook. j.1.may_fail_hook hook) _ _ c.in-Ok-new.hook.value c.into_dyn_box.ensures.1

pub returns-in-Ok-new-clause-written : goal.returns-in-Ok-new-clause-written
returns-in-Ok-new-clause-written g c = λ zero.
    let (text, right, written) = c.answer.ensures.written zero in
    (text, answers_input _ _ _ c.in-Ok.hook c.in-Ok.ensures.document c.in-Ok.ensures.whole _ _ (gives g c) (fails g c) text right, written)

pub returns-in-Ok-new-clause-cut_off : goal.returns-in-Ok-new-clause-cut_off
returns-in-Ok-new-clause-cut_off g c = λ three.
    let (text, right, written) = c.answer.ensures.cut_off three in
    (text, answers_input _ _ _ c.in-Ok.hook c.in-Ok.ensures.document c.in-Ok.ensures.whole _ _ (gives g c) (fails g c) text right, written)

pub returns-in-Ok-new-clause-refused : goal.returns-in-Ok-new-clause-refused
returns-in-Ok-new-clause-refused g c = λ one.
    let (refusal, right, written) = c.answer.ensures.refused one in (
      refusal,
      inr (refuses_input _ _ _ c.in-Ok.hook c.in-Ok.ensures.document c.in-Ok.ensures.whole _ _ (gives g c) (fails g c) refusal right),
      subst (λ it. AppendsOrFails (g.E.Output.may_fail_write it) (g.E.Output.contents it) (g.E.Output.contents c.answer.new.errors) (line_of refusal))
          c.in-Ok.ensures.no_error written,
    )

pub returns-in-Err-new-clause-refused : goal.returns-in-Err-new-clause-refused
returns-in-Err-new-clause-refused g c = λ one. (
  OutOfMemory,
  inl refl,
  subst (λ it. AppendsOrFails (g.E.Output.may_fail_write it) (g.E.Output.contents it) (g.E.Output.contents c.refuse.new.errors) (line_of OutOfMemory))
      c.in-Ok.ensures.no_error (subst (AppendsOrFails _ _ _) memory_line c.refuse.ensures.line),
)

pub returns-in-Err-clause-refused : goal.returns-in-Err-clause-refused
returns-in-Err-clause-refused g c = λ one.
    let (line, why, written) = c.in-Err.ensures.refused in (
      OutOfMemory,
      inl refl,
      subst (AppendsOrFails _ _ _) (line_of_memory _ _ _ line one why ∙ memory_line) written,
    )
