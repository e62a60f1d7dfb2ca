use Rattle.std.specs.Map.{lookup}
use Rattle.std.proofs.Common.{◌≡◌, Some, subst}
use Rattle.bundle_link_index.specs.Graph.{Graph, same_spot}
use Rattle.bundle_link_index.specs.Given.{IsCandidates}
use Rattle.bundle_link_index.proofs.search.Search.answer.Goals as goal

pub returns-in-Some-copied-clause-right : goal.returns-in-Some-copied-clause-right
returns-in-Some-copied-clause-right c =
    let noted : lookup (same_spot c.args.at) c.self.inside.answers.entries ≡ Some c.in-Some-copied.answer = cc in
    subst (λ (g : Graph). IsCandidates g c.args.at c.in-Some-copied.answer) c.self.view_is (c.self.invariant.right c.args.at c.in-Some-copied.answer noted)
