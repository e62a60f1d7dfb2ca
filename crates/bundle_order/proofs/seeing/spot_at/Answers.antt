use Rattle.std.proofs.Common.{List, sym, subst}
use Rattle.bundle_rules.specs.Places.{Around, in_field}
use Rattle.bundle_order.specs.Open.{IsItemSpot}
use Rattle.bundle_order.proofs.EventLemmas.{innermost, outermost, spot_made}
use Rattle.bundle_order.proofs.seeing.spot_at.Goals as goal

pub returns-then-frames-gt0 : goal.returns-then-frames-gt0
returns-then-frames-gt0 c = λ item told path all.
    let i = innermost item told c.args.frames.now c.index-frames-frames.result path c.if-frames-gt0.true c.index-frames-frames.is all in
    subst (λ (p : List Around). IsItemSpot item told c.inside.result (in_field c.args.field p)) (sym i.is) (spot_made item told c.index-frames-frames.result i.node i.outer i.opened c.args.field c.inside.result c.inside.ensures.known c.inside.ensures.later c.inside.ensures.assign c.inside.ensures.empty)

pub returns-else-frames-gt0 : goal.returns-else-frames-gt0
returns-else-frames-gt0 c = λ item told path all. subst (λ (p : List Around). IsItemSpot item told c.outside.result (in_field c.args.field p)) (sym (outermost item told c.args.frames.now path c.if-frames-gt0.false all)) (c.outside.ensures item told)
