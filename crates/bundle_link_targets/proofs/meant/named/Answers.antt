use Rattle.std.proofs.Common.{sym, subst, option_map}
use Rattle.bundle_link_tables.specs.TablesOf.{import_entry_of}
use Rattle.bundle_link_index.specs.Says.{answer_says, target_of}
use Rattle.bundle_link_targets.specs.Names.{IsLinkedTo}
use Rattle.bundle_link_targets.proofs.HandedLemmas.{import-gives, import-leads, import-none, told-linked}
use Rattle.bundle_link_targets.proofs.meant.named.Goals as goal

pub returns-in-Gives-clause-right : goal.returns-in-Gives-clause-right
returns-in-Gives-clause-right c = λ p is are there. import-gives p c.args.kinds.now are c.args.which (import_entry_of c.args.import) there (target_of c.in-Gives.given.target) _ (sym c.in-Gives.ensures)

pub returns-in_ok-answer-in-Leads-clause-right : goal.returns-in_ok-answer-in-Leads-clause-right
returns-in_ok-answer-in-Leads-clause-right c = λ p is are there.
    let d = c.in-Leads.asked.which in
    let y = c.in-Leads.asked.name.now in
    import-leads p c.args.kinds.now are c.args.which (import_entry_of c.args.import) there d y (option_map target_of c.linked.result) (sym c.in-Leads.ensures)
    (subst (IsLinkedTo p d y) (sym c.linked.ensures) (told-linked p d y (answer_says c.in_ok-answer-in-Leads.answer) (c.in_ok-answer-in-Leads.ensures.right p is)))

pub returns-in-Nothing-clause-right : goal.returns-in-Nothing-clause-right
returns-in-Nothing-clause-right c = λ p is are there. import-none p c.args.kinds.now are c.args.which (import_entry_of c.args.import) there (sym c.in-Nothing.ensures)
