use Rattle.std.proofs.Common.{OnOk, sym, subst}
use Rattle.bundle_link_index.specs.Given.{AddsMissing}
use Rattle.bundle_link_targets.specs.Found.{MeansSome, targets_in}
use Rattle.bundle_link_targets.proofs.meant.add_meant.Goals as goal

pub returns-in-Some : goal.returns-in-Some
returns-in-Some c = subst (λ o. OnOk c.add_target.result (AddsMissing (targets_in c.args.targets.now) (MeansSome o) (targets_in c.add_target.new.targets))) (sym c.in-Some.is) c.add_target.ensures
