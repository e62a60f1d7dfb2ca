-- The first call that is of the entry, or none is.
use Rattle.std.proofs.Common.{◌≡◌, ◌∙◌, Some, ap, arith, map, sym}
use Rattle.std.proofs.lemmas.Bool.{false≢true}
use Rattle.bundle_link_tables.specs.declared.table.RequireCall.{RequireCall}
use Rattle.bundle_link_tables.specs.TablesOf.{call_entry_of}
use Rattle.bundle_link_index.specs.Leads.{required_of}
use Rattle.bundle_link_targets.proofs.StageLemmas.{holds_all, holds_more, entry_first, entry_none, table_of}
use Rattle.std.proofs.lemmas.Option.{slice_get-get_or}
use Rattle.bundle_link_targets.proofs.faults.entry_fault.Goals as goal

pub loop-call-init : goal.loop-call-init
loop-call-init c = λ k x under at. absurd (omega arith)

pub loop-call-preserved : goal.loop-call-preserved
loop-call-preserved c =
    holds_more (λ (it : RequireCall). required_of c.args.kinds.now.modules.now c.args.which it.specifier.now ≡ Some c.args.kinds.now.entry → ⊥)
    c.deref-call-items.result.now c.loop-call.call-index _ c.loop-call.invariant
    (λ leads. false≢true (sym c.if-is_of_entry.false ∙ c.is_of_entry.ensures.1 leads))

pub returns-then-is_of_entry : goal.returns-then-is_of_entry
returns-then-is_of_entry c = λ p w.
    entry_first p c.args.kinds.now w.modules c.args.which c.deref-call-items.result.now
    (ap (map call_entry_of) c.deref-call-items.ensures.value ∙ (table_of p c.args.kinds.now w.modules c.args.which c.in_ok-tables.tables c.tables.result c.tables.ensures c.in_ok-tables.was).calls)
    c.loop-call.call-index _ (slice_get-get_or c.deref-call-items.result.now c.loop-call.call-index _ c.loop-call-test.true)
    c.loop-call.invariant (c.is_of_entry.ensures.0 c.if-is_of_entry.true)

pub returns : goal.returns
returns c = λ p w.
    entry_none p c.args.kinds.now w.modules c.args.which c.deref-call-items.result.now
    (ap (map call_entry_of) c.deref-call-items.ensures.value ∙ (table_of p c.args.kinds.now w.modules c.args.which c.in_ok-tables.tables c.tables.result c.tables.ensures c.in_ok-tables.was).calls)
    (holds_all (λ (it : RequireCall). required_of c.args.kinds.now.modules.now c.args.which it.specifier.now ≡ Some c.args.kinds.now.entry → ⊥)
    c.deref-call-items.result.now c.loop-call.call-index c.loop-call.invariant (λ less. let end = c.loop-call-test.false in omega arith))
