-- The first star of a CommonJS module, or none is.
use Rattle.std.proofs.Common.{◌≡◌, ◌∙◌, ap, arith, false, map, sym}
use Rattle.std.specs.Borrow.{Bor}
use Rattle.bundle_rules.specs.Nodes.{Text}
use Rattle.bundle_link_index.specs.Leads.{lead_of, lead_told}
use Rattle.bundle_link_index.specs.declared.kinds.Lead.{Lead}
use Rattle.bundle_link_targets.proofs.StageLemmas.{holds_all, holds_more, is_common, not_common, star_first, star_none, table_of}
use Rattle.std.proofs.lemmas.Option.{slice_get-get_or}
use Rattle.bundle_link_targets.proofs.faults.star_fault.Goals as goal

pub loop-star-init : goal.loop-star-init
loop-star-init c = λ k x under at. absurd (omega arith)

pub loop-star-preserved : goal.loop-star-preserved
loop-star-preserved c =
    holds_more (λ (s : Bor Text). is_common (lead_of c.args.kinds.now c.args.which s.now) ≡ false) c.deref-star-items.result.now c.loop-star.star-index _ c.loop-star.invariant
    (ap is_common (sym c.lead.ensures) ∙ not_common c.lead.result c.in_default.not-CommonJs)

pub returns-in-CommonJs : goal.returns-in-CommonJs
returns-in-CommonJs c = λ p w.
    star_first p c.args.kinds.now w.modules c.args.which c.deref-star-items.result.now
    (ap (map (λ (s : Bor Text). s.now)) c.deref-star-items.ensures.value ∙ (table_of p c.args.kinds.now w.modules c.args.which c.in_ok-tables.tables c.tables.result c.tables.ensures c.in_ok-tables.was).stars)
    c.loop-star.star-index _ (slice_get-get_or c.deref-star-items.result.now c.loop-star.star-index _ c.loop-star-test.true)
    c.loop-star.invariant (ap is_common (sym c.lead.ensures) ∙ ap (λ (l : Lead). is_common (lead_told l)) c.in-CommonJs.is)

pub returns : goal.returns
returns c = λ p w.
    star_none p c.args.kinds.now w.modules c.args.which c.deref-star-items.result.now
    (ap (map (λ (s : Bor Text). s.now)) c.deref-star-items.ensures.value ∙ (table_of p c.args.kinds.now w.modules c.args.which c.in_ok-tables.tables c.tables.result c.tables.ensures c.in_ok-tables.was).stars)
    (holds_all (λ (s : Bor Text). is_common (lead_of c.args.kinds.now c.args.which s.now) ≡ false)
    c.deref-star-items.result.now c.loop-star.star-index c.loop-star.invariant (λ less. let end = c.loop-star-test.false in omega arith))
