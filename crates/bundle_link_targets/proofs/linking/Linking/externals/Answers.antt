use Rattle.std.proofs.Common.{sym, subst}
use Rattle.bundle_link_targets.specs.Handed.{AreExternalsOf}
use Rattle.bundle_link_targets.proofs.linking.Linking.externals.Goals as goal

pub returns : goal.returns
returns c = λ p list w. subst (AreExternalsOf p list) (sym c.as_slice.ensures.value) w.externals
