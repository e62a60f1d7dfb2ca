-- A module that stars the known one reaches all that it does.
use Rattle.bundle_link_index.proofs.ReachLemmas.{Reach-extended, reach-within}
use Rattle.bundle_link_index.proofs.line.lead_from.Goals as goal

pub extend_reach-requires : goal.extend_reach-requires
extend_reach-requires c =
    let k = c.stars_known.ensures c.if-stars_known.true in
    reach-within c.args.index.now c.args.start k.0 c.args.modules.now.keys (c.requires k.0 k.1)

pub returns-then-stars_known : goal.returns-then-stars_known
returns-then-stars_known c =
    let k = c.stars_known.ensures c.if-stars_known.true in
    Reach-extended c.args.index.now c.args.start k.0 c.args.modules.now.keys c.extend_reach.new.reach.keys k.2 (c.requires k.0 k.1) c.in_ok-extend_reach.ensures

pub returns : goal.returns
returns c = record { reached = c.in_ok-modules.ensures.reached; all = c.in_ok-modules.ensures.all }
