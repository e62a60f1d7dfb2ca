use Rattle.std.proofs.Common.{[], get_or, ap, refl, sym, ◌∙◌, take}
use Rattle.std.proofs.lemmas.List.{get_or_default}
use Rattle.std.specs.Borrow.{Bor}
use Rattle.bundle_order_graph.specs.Modules.{Modules, deps}
use Rattle.bundle_order_graph.specs.Nodes.{added}
use Rattle.bundle_rules.specs.Nodes.{Text, numbers_once}
use Rattle.bundle_link.specs.Graph.{asked_modules, asked_for}
use Rattle.bundle_link.proofs.LeadLemmas.{some-here, some-none}
use Rattle.bundle_link.proofs.NumberLemmas.{once-push}
use Rattle.bundle_link.proofs.linked.add_requests.Goals as goal
use Rattle.bundle_link.proofs.linked.add_requests.Goals.{in-Some+in_ok-add_edge, in_default}

pub loop-request-preserved : goal.loop-request-preserved
loop-request-preserved c =
    let ids = c.args.ids.now.keys in
    let leads = c.args.leads.now in
    let requests = c.args.requests.now in
    let i = c.loop-request.request-index in
    let none : Bor Text = record { ref_ptr = (0, 0); now = [] } in
    let text = get_or requests i none in
    let same = get_or_default requests i none text c.loop-request-test.true in
    let done = asked_modules ids leads (take i requests) in
    elim c.match-requested_by.branch [
      | in-Some+in_ok-add_edge w ↦
          let x = w.in-Some.requested in
          let adds = w.in_ok-add_edge.ensures.ok in (
            λ e.
                ap (λ (g : Modules). deps g c.args.id) w.graph-is
                ∙ adds.requests
                ∙ ap (λ l. added l x) (c.loop-request.invariant.0 e)
                ∙ sym (once-push done x)
                ∙ ap numbers_once (some-here (λ text. asked_for ids leads text.now) requests i text done c.loop-request-test.true same refl x (sym c.requested_by.ensures ∙ w.in-Some.is)),
            λ m apart. ap (λ (g : Modules). deps g m) w.graph-is ∙ adds.others m apart ∙ c.loop-request.invariant.1 m apart,
          )
      | in_default w ↦ (
        λ e.
            ap (λ (g : Modules). deps g c.args.id) w.graph-is
            ∙ c.loop-request.invariant.0 e
            ∙ ap numbers_once (some-none (λ text. asked_for ids leads text.now) requests i text done c.loop-request-test.true same refl (sym c.requested_by.ensures ∙ w.in_default.is)),
        λ m apart. ap (λ (g : Modules). deps g m) w.graph-is ∙ c.loop-request.invariant.1 m apart,
      )
    ]
