-- The changes so far, and those of what is left of both lists, are all.
use Rattle.std.proofs.Common.{◌≡◌, ◌++◌, map}
use Rattle.bundle_rules.specs.Rebuilds.{changes_to}
use Rattle.bundle_tree_places.specs.Changes.{change_of}
use Rattle.bundle_tree_places.specs.Marks.{ident_of}
use Rattle.bundle_marks.specs.Idents.{tree_ident}
use Rattle.bundle_marks.proofs.rename.changes_between.Given as goal

abbrev pub invariant-loop-old : goal.invariant-loop-old
invariant-loop-old l = map change_of l.changes.items ++ changes_to (map (λ o. ident_of o.id) l.old-iterator.a.rest.now) (map tree_ident l.old-iterator.b.rest.now) ≡ changes_to (map (λ o. ident_of o.id) l.listed) (map tree_ident l.idents)
