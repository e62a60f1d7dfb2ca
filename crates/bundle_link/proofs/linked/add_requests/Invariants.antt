use Rattle.std.proofs.Common.{◌≡◌, ◌≢◌, ℕ, [], take}
use Rattle.bundle_order_graph.specs.Modules.{deps}
use Rattle.bundle_rules.specs.Nodes.{numbers_once}
use Rattle.bundle_link.specs.Graph.{asked_modules}
use Rattle.bundle_link.proofs.linked.add_requests.Given as goal

abbrev pub invariant-loop-request : goal.invariant-loop-request
invariant-loop-request l =
    (deps l.initial.graph l.id ≡ [] → deps l.graph l.id ≡ numbers_once (asked_modules l.ids.keys l.leads (take l.request-index l.requests)))
    × ((m : ℕ) → m ≢ l.id → deps l.graph m ≡ deps l.initial.graph m)
