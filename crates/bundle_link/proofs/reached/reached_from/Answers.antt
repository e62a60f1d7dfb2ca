use Rattle.std.proofs.Common.{ap, ◌∙◌, subst, List, ℕ, filter_map}
use Rattle.std.specs.List.{AllZip}
use Rattle.bundle_link.specs.Leads.{module_place}
use Rattle.bundle_rules.specs.Nodes.{numbers_once}
use Rattle.bundle_link.specs.Reached.{LeadsBy}
use Rattle.bundle_link.proofs.ReachedLemmas as l
use Rattle.bundle_link.proofs.reached.reached_from.Goals as goal

pub returns-clause-reached : goal.returns-clause-reached
returns-clause-reached c = λ p w begins inside.
    let files = c.args.files.now in
    let entry = c.args.entry in
    let list = c.in_ok-list.list.items in
    let order = c.in_ok-list.ensures in
    let places = c.in_ok-places.places.items in
    let leads = c.in_ok-leads.leads.items in
    let their = c.in_ok-ids.ids.keys in
    let places_are = c.in_ok-places.ensures ∙ ap (filter_map (module_place files.ids.keys)) c.deref.ensures.value in
    let their_are = c.in_ok-ids.ensures ∙ ap numbers_once c.deref-2.ensures.value in
    let all = subst (λ (l : List ℕ). AllZip (LeadsBy files.deps.now their) l leads) c.deref-3.ensures.value c.in_ok-leads.ensures in
    record {
      is_list = l.is_list p files w entry list order begins inside;
      reached = l.reached p files w entry list order begins inside;
      once = l.once p files w entry list order begins inside;
      places = l.places p files w entry list order begins inside places places_are;
      long = l.long p files w entry list order begins inside places leads their places_are their_are all;
      leads = l.leads_on p files w entry list order begins inside places leads their places_are their_are all;
      within = l.within p files w entry list order begins inside places leads their places_are their_are all;
      last = l.last p files w entry list order begins inside;
    }
