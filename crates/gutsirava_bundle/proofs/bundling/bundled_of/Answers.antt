-- What was told before is told, and the answer is that of the linker.
use Rattle.std.proofs.Common.{◌≡◌, ap, arith, subst, sym, ◌∙◌}
use Rattle.gutsirava_bundle.specs.Linking.{IsLinkAnswer}
use Rattle.gutsirava_graph.specs.declared.message.Messages.{Messages}
use Rattle.gutsirava_bundle.proofs.bundling.bundled_of.Goals as goal

pub returns-clause-grows : goal.returns-clause-grows
returns-clause-grows g c =
    omega (arith, c.outputs_of.ensures.grows, ap (λ (it : Messages). it.errors) c.in_ok-bundled.ensures.told)

pub returns-clause-answer : goal.returns-clause-answer
returns-clause-answer g c = λ none.
    let zero : c.outputs_of.new.teller.messages.errors ≡ 0 = ap (λ it. it.errors) (sym c.in_ok-bundled.ensures.told) ∙ none in
    subst (λ it. IsLinkAnswer c.args.settings.now c.args.roots.now it.items) (sym (c.in_ok-bundled.ensures.same none)) (c.in_ok-outputs.ensures.answer zero)
