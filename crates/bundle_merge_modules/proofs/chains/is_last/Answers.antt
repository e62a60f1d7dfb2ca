use Rattle.std.proofs.Common.{Some, None, sym, ap}
use Rattle.bundle_merge_modules.specs.Chains.{leads_none}
use Rattle.bundle_merge_modules.proofs.AliasLemmas.{read_at}
use Rattle.bundle_merge_modules.proofs.chains.is_last.Goals as goal

pub returns-in-Some : goal.returns-in-Some
returns-in-Some c = sym (ap leads_none (read_at c.args.next.now c.args.i (Some c.in-Some.field-0) c.requires c.in-Some.is))

pub returns-in-None : goal.returns-in-None
returns-in-None c = sym (ap leads_none (read_at c.args.next.now c.args.i None c.requires c.in-None.is))
