-- What was asked for so far, each text once.
use Rattle.std.proofs.Common.{◌≡◌, ◌++◌, map, take}
use Rattle.bundle_rules.specs.Nodes.{each_once}
use Rattle.bundle_link_tables.specs.Sources.{unexternal}
use Rattle.bundle_link_tables.proofs.tables.requests.Given as goal

abbrev pub invariant-loop-source : goal.invariant-loop-source
invariant-loop-source l = map (λ key. key.now) l.texts.keys ≡ each_once (unexternal (take l.source-index l.sources))

abbrev pub invariant-loop-call : goal.invariant-loop-call
invariant-loop-call l = map (λ key. key.now) l.texts.keys ≡ each_once (unexternal l.sources ++ map (λ call. call.specifier.now) (take l.call-index l.calls))
