use Rattle.bundle_link_index.proofs.OutsideLemmas.{tells_outside}
use Rattle.bundle_link_index.proofs.index.Index.finds_external_star.Goals as goal

pub returns : goal.returns
returns c = λ p is. tells_outside p c.args.self.now c.args.number c.is_given.result is (c.is_given.ensures c.args.self.now.outside (c.args.number, 0) c.in_ok-found.ensures)
