-- It is kept as it was found.
use Rattle.bundle_link_targets.proofs.linking.Linking.link_fault.Goals as goal

pub returns : goal.returns
returns c = λ p list w. w.links
