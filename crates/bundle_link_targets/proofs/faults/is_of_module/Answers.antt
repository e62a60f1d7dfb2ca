-- A module that is there tells whether it is a script.
use Rattle.std.proofs.Common.{◌∙◌, sym}
use Rattle.bundle_link_targets.proofs.StageLemmas.{es_told, table_of}
use Rattle.bundle_link_targets.proofs.faults.is_of_module.Goals as goal

pub returns-in-Some-tables : goal.returns-in-Some-tables
returns-in-Some-tables c = λ p w.
    es_told p c.args.kinds.now w c.args.which c.args.specifier.now c.in-Some.number c.in-Some-tables.tables.now
    (table_of p c.args.kinds.now w c.in-Some.number c.in-Some-tables.tables c.tables.result c.tables.ensures c.in-Some-tables.is)
    (sym c.required.ensures ∙ c.in-Some.is)
