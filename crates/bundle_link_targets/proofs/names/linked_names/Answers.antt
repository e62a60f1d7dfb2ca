use Rattle.std.proofs.Common.{map, sym, subst}
use Rattle.bundle_rules.specs.Bundle.{IsAscending}
use Rattle.bundle_link_targets.specs.Names.{LinksAmong, target_pair}
use Rattle.bundle_link_targets.proofs.CallPlaceLemmas.{are-linked}
use Rattle.bundle_link_targets.proofs.names.linked_names.Goals as goal

pub returns-clause-right : goal.returns-clause-right
returns-clause-right c = λ p is are.
    are-linked p c.args.which (map (λ name. name.now) c.in_ok-names.names.items) (map target_pair c.in_ok-linked.linked.items) (c.in_ok-names.ensures.there p is are)
    (subst (λ l. LinksAmong p c.args.which (map (λ name. name.now) l) (map target_pair c.in_ok-linked.linked.items)) c.deref.ensures.value (c.in_ok-linked.ensures.right p is))

pub returns-clause-ascending : goal.returns-clause-ascending
returns-clause-ascending c = c.in_ok-linked.ensures.ascending (subst (λ l. IsAscending (map (λ name. name.now) l)) (sym c.deref.ensures.value) c.in_ok-names.ensures.ascending)
