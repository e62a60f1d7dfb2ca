use Rattle.std.proofs.Common.{take}
use Rattle.std.specs.List.{AllZip}
use Rattle.gutsirava_bundle.specs.Linking.{BeginsAt}
use Rattle.gutsirava_bundle.proofs.bundling.link_entries.Given as goal

abbrev pub invariant-loop-root : goal.invariant-loop-root
invariant-loop-root l = AllZip BeginsAt (take l.root-index l.roots) l.entries.items
