use Rattle.std.proofs.Common.{Some, None, sym, ap}
use Rattle.bundle_merge_modules.specs.Chains.{step_to}
use Rattle.bundle_merge_modules.proofs.AliasLemmas.{read_at}
use Rattle.bundle_merge_modules.proofs.chains.step.Goals as goal

pub returns-in-Some : goal.returns-in-Some
returns-in-Some c = sym (ap (λ o. step_to o c.args.i) (read_at c.args.next.now c.args.i (Some c.in-Some.other) c.requires c.in-Some.is))

pub returns-in-None : goal.returns-in-None
returns-in-None c = sym (ap (λ o. step_to o c.args.i) (read_at c.args.next.now c.args.i None c.requires c.in-None.is))
