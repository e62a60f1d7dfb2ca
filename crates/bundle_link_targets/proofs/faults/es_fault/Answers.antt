-- The first call that is of a module which is no script, or none is.
use Rattle.std.proofs.Common.{◌∙◌, ap, arith, map, sym}
use Rattle.std.proofs.lemmas.Bool.{false≢true}
use Rattle.bundle_link_tables.specs.declared.table.RequireCall.{RequireCall}
use Rattle.bundle_link_tables.specs.TablesOf.{call_entry_of}
use Rattle.bundle_link_targets.specs.Stages.{LeadsToEs}
use Rattle.bundle_link_targets.proofs.StageLemmas.{holds_all, holds_more, es_first, es_none, table_of}
use Rattle.std.proofs.lemmas.Option.{slice_get-get_or}
use Rattle.bundle_link_targets.proofs.faults.es_fault.Goals as goal

pub loop-call-init : goal.loop-call-init
loop-call-init c = λ p w k x under at. absurd (omega arith)

pub loop-call-preserved : goal.loop-call-preserved
loop-call-preserved c = λ p w.
    holds_more (λ (it : RequireCall). LeadsToEs p c.args.which it.specifier.now → ⊥)
    c.deref-call-items.result.now c.loop-call.call-index _ (c.loop-call.invariant p w)
    (λ leads. false≢true (sym c.if-is_of_module.false ∙ (c.is_of_module.ensures p w).1 leads))

pub returns-then-is_of_module : goal.returns-then-is_of_module
returns-then-is_of_module c = λ p w.
    es_first p c.args.kinds.now w.modules c.args.which c.deref-call-items.result.now
    (ap (map call_entry_of) c.deref-call-items.ensures.value ∙ (table_of p c.args.kinds.now w.modules c.args.which c.in_ok-tables.tables c.tables.result c.tables.ensures c.in_ok-tables.was).calls)
    c.loop-call.call-index _ (slice_get-get_or c.deref-call-items.result.now c.loop-call.call-index _ c.loop-call-test.true)
    (c.loop-call.invariant p w.modules) ((c.is_of_module.ensures p w.modules).0 c.if-is_of_module.true)

pub returns : goal.returns
returns c = λ p w.
    es_none p c.args.kinds.now w.modules c.args.which c.deref-call-items.result.now
    (ap (map call_entry_of) c.deref-call-items.ensures.value ∙ (table_of p c.args.kinds.now w.modules c.args.which c.in_ok-tables.tables c.tables.result c.tables.ensures c.in_ok-tables.was).calls)
    (holds_all (λ (it : RequireCall). LeadsToEs p c.args.which it.specifier.now → ⊥)
    c.deref-call-items.result.now c.loop-call.call-index (c.loop-call.invariant p w.modules) (λ less. let end = c.loop-call-test.false in omega arith))
