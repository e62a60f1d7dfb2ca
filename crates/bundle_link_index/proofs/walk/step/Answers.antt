use Rattle.std.proofs.Common.{◌≡◌, Some, Contains, sym, ◌∙◌, subst}
use Rattle.bundle_link_index.specs.declared.links.OwnLink.TheVariants.{Gives, Leads}
use Rattle.bundle_link_index.specs.declared.answer.Candidates.{Candidates}
use Rattle.bundle_link_index.specs.Graph.{NameSpot, own_of}
use Rattle.bundle_link_index.specs.Answers.{with_more}
use Rattle.bundle_link_index.specs.Given.{SearchSteps, AddsMissing}
use Rattle.bundle_link_index.proofs.SearchLemmas.{Steps-known, Steps-gives, Steps-leads, Steps-stars}
use Rattle.bundle_link_index.proofs.walk.step.Goals as goal

pub returns-in-Some : goal.returns-in-Some
returns-in-Some c =
    let g = c.args.index.now in
    let known = c.in-Some.known.now in
    subst (λ (a : Candidates). SearchSteps g c.args.at c.args.met.now.keys c.args.answer c.args.met.now.keys a) (sym c.with_all.ensures) (Steps-known g c.args.at c.args.met.now.keys c.args.answer known (c.requires c.args.at known (sym c.in-Some.ensures.value)))

pub returns-in-Some-Gives : goal.returns-in-Some-Gives
returns-in-Some-Gives c =
    let g = c.args.index.now in
    let own : own_of g c.args.at ≡ Some (Gives c.in-Some-Gives.value) = cc in
    let same : with_more c.args.answer c.in-Some-Gives.value ≡ c.with.result = cc in
    subst (λ (a : Candidates). SearchSteps g c.args.at c.args.met.now.keys c.args.answer c.args.met.now.keys a) same (Steps-gives g c.args.at c.args.met.now.keys c.args.answer c.in-Some-Gives.value own)

pub returns-in_ok-put-in-Some-Leads : goal.returns-in_ok-put-in-Some-Leads
returns-in_ok-put-in-Some-Leads c =
    let g = c.args.index.now in
    let own : own_of g c.args.at ≡ Some (Leads c.in-Some-Leads.next) = cc in
    Steps-leads g c.args.at c.args.met.now.keys c.args.answer c.in-Some-Leads.next own c.put.new.met.keys (subst (λ (next : NameSpot). AddsMissing c.args.met.now.keys (λ (other : NameSpot). other ≡ next) c.put.new.met.keys) c.in-Some-Leads.next-is c.in_ok-put-in-Some-Leads.ensures)

pub returns-in_ok-put_stars-in-None : goal.returns-in_ok-put_stars-in-None
returns-in_ok-put_stars-in-None c =
    let g = c.args.index.now in
    let new = c.put_stars.new.met.keys in
    Steps-stars g c.args.at c.args.met.now.keys c.args.answer (sym c.in-None.ensures) (λ e. c.if-name-default.true (e ∙ sym c.default.ensures)) new (subst (λ l. AddsMissing c.args.met.now.keys (λ (at : NameSpot). Contains l at.0 × (at.1 ≡ c.args.at.1)) new) c.stars.ensures c.in_ok-put_stars-in-None.ensures)
