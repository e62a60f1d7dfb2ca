-- A name of an ECMAScript module is asked for, or none is.
use Rattle.std.proofs.Common.{refl, ap, sym, ◌∙◌}
use Rattle.std.proofs.lemmas.Result.{IfOk-weaker}
use Rattle.bundle_link_index.specs.Says.{own_says}
use Rattle.bundle_link_targets.proofs.StageLemmas.{gives_right, leads_wrong, nothing_right}
use Rattle.bundle_link_targets.proofs.faults.taken_fault.Goals as goal

pub returns-in-Leads-clause-right : goal.returns-in-Leads-clause-right
returns-in-Leads-clause-right c =
    IfOk-weaker c.asked_fault.result _ _ (λ found known. λ p w v asks.
    leads_wrong p c.args.kinds.now w c.args.which c.args.asked.specifier.now asks c.args.asked.name.now c.in-Leads.asked.which c.in-Leads.asked.name.now found (sym (ap own_says c.in-Leads.is) ∙ c.taking.ensures) (known p v)) c.asked_fault.ensures.right

pub returns-in-Gives : goal.returns-in-Gives
returns-in-Gives c = record {
  right = λ p w v asks. gives_right p c.args.kinds.now w c.args.which c.args.asked.specifier.now asks c.args.asked.name.now _ _ (sym (ap own_says c.in-Gives.is) ∙ c.taking.ensures);
  same = refl;
}

pub returns-in-Nothing : goal.returns-in-Nothing
returns-in-Nothing c = record {
  right = λ p w v asks. nothing_right p c.args.kinds.now w c.args.which c.args.asked.specifier.now asks c.args.asked.name.now (sym (ap own_says c.in-Nothing.is) ∙ c.taking.ensures);
  same = refl;
}
