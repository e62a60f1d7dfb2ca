-- The changes so far are those of the occurrences passed.
use Rattle.std.proofs.Common.{◌≡◌, map, take}
use Rattle.bundle_rules.specs.Rebuilds.{becomes_by, change_to}
use Rattle.bundle_tree_places.specs.Changes.{change_of}
use Rattle.bundle_tree_places.specs.Marks.{ident_of}
use Rattle.bundle_marks.specs.Idents.{pair_named}
use Rattle.bundle_marks.proofs.rename.changes_by.Given as goal

abbrev pub invariant-loop-occurrence : goal.invariant-loop-occurrence
invariant-loop-occurrence l = map change_of l.changes.items ≡ map (λ o. change_to (ident_of o.id) (becomes_by (map pair_named l.renaming.entries) (ident_of o.id))) (take l.occurrence-index l.listed)
