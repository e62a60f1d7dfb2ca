-- The texts are those of the linker's bundles, one for each entry.
use Rattle.std.proofs.Common.{map, subst}
use Rattle.std.proofs.lemmas.Result.{IfOk-weaker}
use Rattle.std.specs.String.{string_bytes}
use Rattle.bundler_call.specs.Kept.{entry_of}
use Rattle.gutsirava_bundle.specs.Command.{link_settings, linked_told, IsLinked}
use Rattle.gutsirava_bundle.specs.Parties.{gives_nothing, fails_nowhere}
use Rattle.gutsirava_bundle.proofs.Answering.{link_answer}
use Rattle.gutsirava_bundle.proofs.bundling.link.Goals as goal

pub returns-in-Ok-clause-answer : goal.returns-in-Ok-clause-answer
returns-in-Ok-clause-answer c =
    let settings = c.args.settings.now in
    let external = map string_bytes c.args.table.now.externals.keys in
    let trees = c.args.trees.now.list.items in
    let entries = c.in_ok-entries.entries.items in
    let linked = subst (λ it. IsLinked gives_nothing fails_nowhere (link_settings settings external) trees (map entry_of entries) (linked_told it)) c.in-Ok.is c.in_ok-linked.ensures in
    IfOk-weaker c.texts_of.result _ _
    (λ outputs are none. link_answer settings external trees c.args.roots.now entries c.in-Ok.made.bundles.items outputs.items c.in_ok-entries.ensures linked are)
    c.texts_of.ensures
