use Rattle.std.proofs.Common.{◌≡◌, ◌≢◌, ℕ, [], map, take}
use Rattle.bundle_order_graph.specs.Modules.{deps as noted}
use Rattle.bundle_rules.specs.Nodes.{numbers_once}
use Rattle.bundle_link.specs.Files.{module_led_to}
use Rattle.bundle_link.proofs.files.add_requests.Given as goal

abbrev pub invariant-loop-requested : goal.invariant-loop-requested
invariant-loop-requested l =
    (noted l.initial.graph l.id ≡ [] → noted l.graph l.id ≡ numbers_once (map module_led_to (take l.requested-index l.deps)))
    × ((m : ℕ) → m ≢ l.id → noted l.graph m ≡ noted l.initial.graph m)
