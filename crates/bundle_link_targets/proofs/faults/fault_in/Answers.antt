-- Each stage is that of its function.
use Rattle.std.proofs.Common.{subst, sym}
use Rattle.bundle_link_targets.specs.Judged.{IsFoundIn}
use Rattle.bundle_link_targets.specs.Stages.{stage_of}
use Rattle.bundle_link_targets.specs.declared.faults.Stage.{Stage}
use Rattle.bundle_link_targets.proofs.faults.fault_in.Goals as goal

pub returns-in-Entries : goal.returns-in-Entries
returns-in-Entries c = λ p w. subst (λ (s : Stage). IsFoundIn p (stage_of s) c.args.which c.entry_fault.result) (sym c.in-Entries.is) (c.entry_fault.ensures p w)

pub returns-in-Modules : goal.returns-in-Modules
returns-in-Modules c = λ p w. subst (λ (s : Stage). IsFoundIn p (stage_of s) c.args.which c.es_fault.result) (sym c.in-Modules.is) (c.es_fault.ensures p w)

pub returns-in-Awaits : goal.returns-in-Awaits
returns-in-Awaits c = λ p w. subst (λ (s : Stage). IsFoundIn p (stage_of s) c.args.which c.await_fault.result) (sym c.in-Awaits.is) (c.await_fault.ensures p w)

pub returns-in-Stars : goal.returns-in-Stars
returns-in-Stars c = λ p w. subst (λ (s : Stage). IsFoundIn p (stage_of s) c.args.which c.star_fault.result) (sym c.in-Stars.is) (c.star_fault.ensures p w)

pub returns-in-Externals : goal.returns-in-Externals
returns-in-Externals c = λ p w. subst (λ (s : Stage). IsFoundIn p (stage_of s) c.args.which c.external_fault.result) (sym c.in-Externals.is) (c.external_fault.ensures p w)

pub returns-in-Arguments : goal.returns-in-Arguments
returns-in-Arguments c = λ p w. subst (λ (s : Stage). IsFoundIn p (stage_of s) c.args.which c.arguments_fault.result) (sym c.in-Arguments.is) (c.arguments_fault.ensures p w)
