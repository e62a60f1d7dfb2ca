-- The changes so far, and those of what is left of both lists, are all.
use Rattle.std.proofs.Common.{◌≡◌, ◌++◌, map}
use Rattle.bundle_rules.specs.Rebuilds.{changes_to}
use Rattle.bundle_tree_places.specs.Changes.{change_of}
use Rattle.bundle_tree_places.specs.Marks.{ident_of}
use Rattle.bundle_scope.specs.Faces.{in_contexts}
use Rattle.bundle_scope.proofs.resolve.changes_to.Given as goal

abbrev pub invariant-loop-occurrence : goal.invariant-loop-occurrence
invariant-loop-occurrence l =
    map change_of l.changes.items
    ++ changes_to (map (λ o. ident_of o.id) l.occurrence-iterator.a.rest.now) (in_contexts (map (λ o. ident_of o.id) l.occurrence-iterator.a.rest.now) l.occurrence-iterator.b.rest.now)
    ≡ changes_to (map (λ o. ident_of o.id) l.occurrences) (in_contexts (map (λ o. ident_of o.id) l.occurrences) l.contexts)
