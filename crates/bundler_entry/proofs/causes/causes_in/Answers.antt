-- Files and items together are what is told.
use Rattle.std.proofs.Common.{subst, sym, ◌∙◌}
use Rattle.bundler_entry.specs.Caused.{AreFilesOfAll}
use Rattle.bundler_entry.specs.Linked.{HasFiles}
use Rattle.bundler_entry.proofs.CausedLemmas.{all-told}
use Rattle.bundler_entry.proofs.LinkedLemmas.{long_places}
use Rattle.bundler_entry.proofs.PartsLemmas.{has-files}
use Rattle.bundler_entry.proofs.causes.causes_in.Goals as goal

pub returns : goal.returns
returns c = λ p entry w l.
    let call = c.args.call.now in
    let linked = c.args.linked.now in
    let long = long_places p entry call w linked.reached l.reached in
    let files = c.in_ok-modules.ensures
    (subst (HasFiles call linked.reached) (l.reached.long ∙ sym long) (has-files p entry call w linked l)) in
    all-told p entry call w linked l _
    (subst (λ n. AreFilesOfAll call linked.reached n c.in_ok-modules.modules.items) long files)
    (c.in_ok-items.ensures p entry w l)
