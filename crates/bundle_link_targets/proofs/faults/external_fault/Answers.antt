-- The first source that is external, or none is.
use Rattle.std.proofs.Common.{◌≡◌, ◌∙◌, ap, arith, false, map}
use Rattle.bundle_link_tables.specs.Sources.{source_asked}
use Rattle.bundle_link_tables.specs.declared.table.Source.{Source}
use Rattle.bundle_link_targets.proofs.StageLemmas.{holds_all, holds_more, external_first, external_none, table_of}
use Rattle.std.proofs.lemmas.Option.{slice_get-get_or}
use Rattle.bundle_link_targets.proofs.faults.external_fault.Goals as goal

pub loop-source-init : goal.loop-source-init
loop-source-init c = λ k x under at. absurd (omega arith)

pub loop-source-preserved : goal.loop-source-preserved
loop-source-preserved c =
    holds_more (λ (s : Source). s.is_external ≡ false) c.deref-source-items.result.now c.loop-source.source-index _ c.loop-source.invariant c.if-source.false

pub returns-then-source : goal.returns-then-source
returns-then-source c = λ p w.
    external_first p c.args.kinds.now w.modules c.args.which c.deref-source-items.result.now
    (ap (map source_asked) c.deref-source-items.ensures.value ∙ (table_of p c.args.kinds.now w.modules c.args.which c.in_ok-tables.tables c.tables.result c.tables.ensures c.in_ok-tables.was).sources)
    c.loop-source.source-index _ (w.iife ∙ c.if-not-kinds.false)
    (slice_get-get_or c.deref-source-items.result.now c.loop-source.source-index _ c.loop-source-test.true)
    c.loop-source.invariant c.if-source.true

pub returns : goal.returns
returns c = λ p w.
    external_none p c.args.kinds.now w.modules c.args.which c.deref-source-items.result.now
    (ap (map source_asked) c.deref-source-items.ensures.value ∙ (table_of p c.args.kinds.now w.modules c.args.which c.in_ok-tables.tables c.tables.result c.tables.ensures c.in_ok-tables.was).sources)
    (holds_all (λ (s : Source). s.is_external ≡ false) c.deref-source-items.result.now c.loop-source.source-index c.loop-source.invariant (λ less. let end = c.loop-source-test.false in omega arith))
