use Rattle.bundle_link_index.specs.Numbered.{HasNoDoubles}
use Rattle.bundle_link.specs.Files.{IsFileGraph}
use Rattle.bundle_link.proofs.files.graph_of.Given as goal

abbrev pub invariant-loop-place : goal.invariant-loop-place
invariant-loop-place l = HasNoDoubles l.ids.keys → IsFileGraph l.ids.keys l.deps l.place l.graph
