use Rattle.std.proofs.Common.{map, sym, subst}
use Rattle.bundle_rules.specs.Bundle.{externals}
use Rattle.bundle_rules.specs.Linking.{HasExternalStar}
use Rattle.bundle_link_targets.specs.Taken.{PicksThose}
use Rattle.bundle_link_targets.proofs.TakenLemmas.{text-of}
use Rattle.bundle_link_targets.proofs.linking.Linking.external_stars.Goals as goal

pub returns : goal.returns
returns c = λ p list w. subst (λ l. PicksThose (HasExternalStar p p.entry) (externals p list) (map text-of l)) (sym c.as_slice.ensures.value) w.stars
