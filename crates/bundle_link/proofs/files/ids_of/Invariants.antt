use Rattle.std.proofs.Common.{◌≡◌, map, take}
use Rattle.bundle_rules.specs.Nodes.{numbers_once}
use Rattle.bundle_link.specs.Files.{file_number}
use Rattle.bundle_link.proofs.files.ids_of.Given as goal

abbrev pub invariant-loop-id : goal.invariant-loop-id
invariant-loop-id l = l.ids.keys ≡ numbers_once (map file_number (take l.id-index l.files))
