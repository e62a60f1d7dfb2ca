use Rattle.bundle_link_targets.proofs.HandedLemmas.{object-told}
use Rattle.bundle_link_targets.proofs.meant.Meant.has_object.Goals as goal

pub returns : goal.returns
returns c = λ p holds. object-told p c.args.self.now.targets holds c.args.which c.contains.result c.contains.ensures
