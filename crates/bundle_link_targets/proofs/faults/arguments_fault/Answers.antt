-- An ECMAScript module has a free `arguments`, or not.
use Rattle.std.proofs.Common.{◌∙◌, sym}
use Rattle.std.proofs.lemmas.Bool.{false≢true}
use Rattle.bundle_link_targets.proofs.StageLemmas.{arguments_first, arguments_none, table_of}
use Rattle.bundle_link_targets.proofs.faults.arguments_fault.Goals.{else-tables-via-then-tables+else-not-is_common_js, else-tables-via-else-tables}
use Rattle.bundle_link_targets.proofs.faults.arguments_fault.Goals as goal

pub returns-then-not-is_common_js : goal.returns-then-not-is_common_js
returns-then-not-is_common_js c = λ p w.
    arguments_first p c.args.kinds.now w.modules c.args.which c.in_ok-tables.tables.now
    (table_of p c.args.kinds.now w.modules c.args.which c.in_ok-tables.tables c.tables.result c.tables.ensures c.in_ok-tables.was) _
    (w.iife ∙ c.if-not-kinds.false) (sym c.is_common_js.ensures ∙ c.if-not-is_common_js.true) c.if-tables.true

pub returns : goal.returns
returns c = λ p w.
    arguments_none p c.args.kinds.now w.modules c.args.which c.in_ok-tables.tables.now
    (table_of p c.args.kinds.now w.modules c.args.which c.in_ok-tables.tables c.tables.result c.tables.ensures c.in_ok-tables.was)
    (λ es free. elim c.else-tables.branch [
      | else-tables-via-then-tables+else-not-is_common_js v ↦ false≢true (sym es ∙ (sym v.is_common_js.ensures ∙ v.if-not-is_common_js.false))
      | else-tables-via-else-tables v ↦ false≢true (sym v.if-tables.false ∙ free)
    ])
