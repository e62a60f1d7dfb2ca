-- What is told does not change how the run ends; bundles are made in the folder that the run was given.
use Rattle.std.proofs.Common.{List, ℕ, ap, subst, sym, ◌∙◌}
use Rattle.gutsirava_run.specs.Ending.{folder_text}
use Rattle.gutsirava_run.specs.Making.{IsMade}
use Rattle.gutsirava_run.proofs.EndingLemmas.{bundles_told}
use Rattle.gutsirava_run.proofs.command.bundle.Goals as goal

pub returns-clause-ends : goal.returns-clause-ends
returns-clause-ends g c =
    let there = c.as_str.ensures.value ∙ sym (ap folder_text c.in-Ok.is) in
    let made = subst (λ (it : List ℕ). IsMade g.F.FileSystem.is_real it c.args.options.now c.in_ok-bundled.bundled) there c.in_ok-bundled.ensures in
    bundles_told c.tell.result c.in_ok-ended.ended.status _ _ _ c.args.options.now c.in_ok-bundled.bundled _ _
    made c.in_ok-ended.ensures.ends c.tell.ensures.status
