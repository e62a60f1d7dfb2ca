-- The requests so far are requests, and the nodes that are open begin before this place.
use Rattle.std.proofs.Common.{◌<◌}
use Rattle.std.specs.Prelude.{All}
use Rattle.gutsirava_sources.specs.Outline.{IsRequest}
use Rattle.gutsirava_sources.proofs.outline.walk_of.Given as goal

abbrev pub invariant-loop-at : goal.invariant-loop-at
invariant-loop-at l =
    All (IsRequest l.pieces) l.walk.requests.items × All (λ around. around.begin < l.at) l.walk.nodes.items
