-- Nothing is spelled out where the symbol stays.
use Rattle.bundle_scope.proofs.FacesLemmas.{symbol-kept}
use Rattle.bundle_scope.proofs.resolve.change_to.Goals as goal

pub returns : goal.returns
returns c = symbol-kept c.args.old.sym.now c.args.old.ctxt c.args.context
