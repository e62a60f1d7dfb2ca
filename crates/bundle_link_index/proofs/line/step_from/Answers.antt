use Rattle.std.specs.Map.{lookup}
use Rattle.std.proofs.Common.{◌≡◌, Some, subst}
use Rattle.bundle_link_index.specs.Graph.{same_spot}
use Rattle.bundle_link_index.specs.Reached.{LeadsAlone}
use Rattle.bundle_link_index.proofs.ReachLemmas.{missing_answer}
use Rattle.bundle_link_index.proofs.line.step_from.Goals as goal

pub returns-in-Some-clause-right : goal.returns-in-Some-clause-right
returns-in-Some-clause-right c =
    let noted : lookup (same_spot c.args.at) c.args.answers.now.entries ≡ Some c.in-Some.known = cc in
    c.requires.right c.args.at c.in-Some.known noted

pub returns-in-To-clause-right : goal.returns-in-To-clause-right
returns-in-To-clause-right c = subst (λ o. LeadsAlone c.args.index.now c.args.at o) c.in-To.is c.in_ok-next.ensures.right

pub returns-in-Nothing-clause-right : goal.returns-in-Nothing-clause-right
returns-in-Nothing-clause-right c = missing_answer c.args.index.now c.args.at (subst (λ o. LeadsAlone c.args.index.now c.args.at o) c.in-Nothing.is c.in_ok-next.ensures.right)
