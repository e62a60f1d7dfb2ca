use Rattle.bundle_link_index.proofs.OutsideLemmas.{tells_outside}
use Rattle.bundle_link_index.proofs.index.Index.has_external_star.Goals as goal

pub returns-clause-right : goal.returns-clause-right
returns-clause-right c = λ p is. tells_outside p c.args.self.now c.args.number c.is_given.result is (c.is_given.ensures c.args.self.now.outside (c.args.number, 0) c.in_ok-found.ensures.right)
