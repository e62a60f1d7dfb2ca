-- The changes so far are those of the identifiers among the elements passed.
use Rattle.std.proofs.Common.{◌≡◌, map}
use Rattle.bundle_syntax.specs.Item.{item_of}
use Rattle.bundle_tree_places.specs.Changes.{change_of}
use Rattle.bundle_scope_names.proofs.HomesLemmas.{changes_to_here}
use Rattle.bundle_scope_names.proofs.rename.changes_of.Given as goal

abbrev pub invariant-loop-piece : goal.invariant-loop-piece
invariant-loop-piece l = map change_of l.changes.items ≡ changes_to_here item_of l.names l.contexts l.pieces l.piece-index (map (λ denoted. denoted.binding) l.denotations.occurrences.items)
