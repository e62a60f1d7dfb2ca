-- The answer is that of the linker, for the entries that were found.
use Rattle.std.proofs.Common.{◌≡◌, arith, subst}
use Rattle.gutsirava_bundle.specs.Linking.{IsLinkAnswer}
use Rattle.gutsirava_bundle.proofs.Answering.{command_answer}
use Rattle.gutsirava_bundle.proofs.bundling.bundle_entries.Goals as goal

pub returns-clause-answers : goal.returns-clause-answers
returns-clause-answers g c = λ none.
    let zero : c.in_ok-graph.graph.teller.messages.errors ≡ 0 = omega (arith, none, c.in_ok-bundled.ensures.grows) in
    let answer = subst (λ it. IsLinkAnswer c.args.settings.now it c.in_ok-bundled.bundled.outputs.items) c.as_slice.ensures.value (c.in_ok-bundled.ensures.answer none) in
    command_answer c.args.settings.now c.args.entries.items c.in_ok-graph.graph.roots.items c.in_ok-bundled.bundled.outputs.items (c.in_ok-graph.ensures zero) answer
