-- A value that the own entry gives is given, and no other is.
use Rattle.std.proofs.Common.{◌≡◌, Some}
use Rattle.bundle_link_index.specs.declared.links.OwnLink.TheVariants.{Gives}
use Rattle.bundle_link_index.specs.Graph.{own_of}
use Rattle.bundle_link_index.proofs.ReachLemmas.{own-answer}
use Rattle.bundle_link_index.proofs.search.own_answer.Goals as goal

pub returns-in-Some-Gives : goal.returns-in-Some-Gives
returns-in-Some-Gives c =
    let own : own_of c.args.index.now c.args.at ≡ Some (Gives c.in-Some-Gives.value) = cc in
    own-answer c.args.index.now c.args.at c.in-Some-Gives.value own
