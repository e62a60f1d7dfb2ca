use Rattle.std.proofs.Common.{sym, subst}
use Rattle.std.proofs.lemmas.Result.{IfOk-weaker}
use Rattle.bundle_link_index.specs.Graph.{Graph}
use Rattle.bundle_link_index.specs.Leads.{lead_of}
use Rattle.bundle_link_index.specs.Numbered.{all_starred}
use Rattle.bundle_link_index.specs.Handed.{modules_numbered}
use Rattle.bundle_link_index.specs.Outside.{IsOutsideGraph, starring}
use Rattle.bundle_link_index.proofs.OutsideLemmas.{outside_tells}
use Rattle.bundle_link_index.proofs.index.outside_of.Goals as goal

pub returns : goal.returns
returns c =
    let lead = lead_of c.args.kinds.now in
    let modules = c.args.kinds.now.modules.now in
    IfOk-weaker c.new.result _ _ (λ outside is p w. outside_tells p c.args.kinds.now w outside
    (subst (λ (g : Graph). IsOutsideGraph (modules_numbered (starring lead) 0 modules) (all_starred lead 0 modules) g) (sym is) c.in_ok-links.ensures)) c.new.ensures
