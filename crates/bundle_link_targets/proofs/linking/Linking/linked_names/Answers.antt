use Rattle.std.proofs.Common.{map, sym, subst}
use Rattle.bundle_rules.specs.Bundle.{AreLinked}
use Rattle.bundle_link_targets.specs.Names.{target_pair}
use Rattle.bundle_link_targets.proofs.linking.Linking.linked_names.Goals as goal

pub returns : goal.returns
returns c = λ p w are which. subst (λ l. AreLinked p c.args.which (map target_pair l)) (sym c.list_at.ensures) (w.linked are c.args.which which)
