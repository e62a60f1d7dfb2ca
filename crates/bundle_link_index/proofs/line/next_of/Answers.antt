use Rattle.std.proofs.Common.{◌≡◌, Some, sym, subst}
use Rattle.bundle_link_index.specs.declared.links.OwnLink.TheVariants.{Leads}
use Rattle.bundle_link_index.specs.Graph.{NameSpot, own_of}
use Rattle.bundle_link_index.specs.Reached.{SameGiven}
use Rattle.bundle_link_index.proofs.ReachLemmas.{alone_by_entry}
use Rattle.bundle_link_index.proofs.line.next_of.Goals as goal

pub returns-in-Some-Leads-clause-right : goal.returns-in-Some-Leads-clause-right
returns-in-Some-Leads-clause-right c =
    let g = c.args.index.now in
    let own : own_of g c.args.at ≡ Some (Leads c.in-Some-Leads.next) = cc in
    subst (λ (next : NameSpot). SameGiven g c.args.at next) (sym c.in-Some-Leads.next-is) (alone_by_entry g c.args.at c.in-Some-Leads.next own)
