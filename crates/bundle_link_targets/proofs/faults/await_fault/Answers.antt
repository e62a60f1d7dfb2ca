-- A CommonJS module awaits, or not.
use Rattle.std.proofs.Common.{◌∙◌, sym}
use Rattle.std.proofs.lemmas.Bool.{false≢true}
use Rattle.bundle_link_targets.proofs.StageLemmas.{await_first, await_none, table_of}
use Rattle.bundle_link_targets.proofs.faults.await_fault.Goals.{else-tables-via-then-tables+else-is_common_js, else-tables-via-else-tables}
use Rattle.bundle_link_targets.proofs.faults.await_fault.Goals as goal

pub returns-then-is_common_js : goal.returns-then-is_common_js
returns-then-is_common_js c = λ p w.
    await_first p c.args.kinds.now w.modules c.args.which c.in_ok-tables.tables.now
    (table_of p c.args.kinds.now w.modules c.args.which c.in_ok-tables.tables c.tables.result c.tables.ensures c.in_ok-tables.was) _
    (sym c.is_common_js.ensures ∙ c.if-is_common_js.true) c.if-tables.true

pub returns : goal.returns
returns c = λ p w.
    await_none p c.args.kinds.now w.modules c.args.which c.in_ok-tables.tables.now
    (table_of p c.args.kinds.now w.modules c.args.which c.in_ok-tables.tables c.tables.result c.tables.ensures c.in_ok-tables.was)
    (λ common awaits. elim c.else-tables.branch [
      | else-tables-via-then-tables+else-is_common_js v ↦ false≢true (sym v.if-is_common_js.false ∙ (v.is_common_js.ensures ∙ common))
      | else-tables-via-else-tables v ↦ false≢true (sym v.if-tables.false ∙ awaits)
    ])
