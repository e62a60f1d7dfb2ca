-- What the sources ask for that were passed.
use Rattle.std.proofs.Common.{◌≡◌, map, take}
use Rattle.bundle_link_tables.specs.Sources.{unexternal}
use Rattle.bundle_link_tables.proofs.tables.only_request.Given as goal

abbrev pub invariant-loop-source : goal.invariant-loop-source
invariant-loop-source l = map (λ request. request.now) l.requests.items ≡ unexternal (take l.source-index l.sources)
