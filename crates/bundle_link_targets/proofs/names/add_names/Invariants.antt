use Rattle.std.proofs.Common.{take}
use Rattle.bundle_link_targets.specs.Names.{GainsNames, IsNamedBy, texts_in}
use Rattle.bundle_link_targets.proofs.names.add_names.Given as goal

abbrev pub invariant-loop-export : goal.invariant-loop-export
invariant-loop-export l = GainsNames (texts_in l.fn.names) (IsNamedBy (take l.export-index l.exports) l.is_own) (texts_in l.names)
