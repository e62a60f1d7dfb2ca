use Rattle.std.proofs.Common.{take}
use Rattle.bundle_link_tables.specs.Sources.{HasTexts}
use Rattle.bundle_link_index.specs.Handed.{externals_of}
use Rattle.bundle_link_index.proofs.kinds.externals_of.Given as goal

abbrev pub invariant-loop-module : goal.invariant-loop-module
invariant-loop-module l = HasTexts l.texts (externals_of (take l.module-index l.modules))
