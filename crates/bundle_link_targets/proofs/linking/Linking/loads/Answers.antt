use Rattle.std.proofs.Common.{sym, subst}
use Rattle.bundle_link_targets.specs.Handed.{AreLoadsIn}
use Rattle.bundle_link_targets.proofs.linking.Linking.loads.Goals as goal

pub returns : goal.returns
returns c = λ p list w reached. subst (AreLoadsIn p c.args.which) (sym c.list_at.ensures) (w.loads c.args.which reached)
