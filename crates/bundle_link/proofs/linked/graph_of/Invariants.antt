use Rattle.bundle_link.specs.Graph.{IsRequestGraph}
use Rattle.bundle_link_index.specs.Numbered.{HasNoDoubles}
use Rattle.bundle_link.proofs.linked.graph_of.Given as goal

abbrev pub invariant-loop-place : goal.invariant-loop-place
invariant-loop-place l = HasNoDoubles l.ids.keys → IsRequestGraph l.ids.keys l.modules l.place l.graph
