-- The tree that is made is the tree with the contexts.
use Rattle.std.proofs.Common.{List, ℕ, map, ap, ◌∙◌}
use Rattle.bundle_syntax.specs.Item.{item_of}
use Rattle.bundle_rules.specs.Rebuilds.{changes_to, listed, rebuilt}
use Rattle.bundle_tree_places.specs.Changes.{change_of}
use Rattle.bundle_tree_places.specs.Marks.{ident_of, listed_of}
use Rattle.bundle_scope_denote.specs.Kinds.{kind_as}
use Rattle.bundle_marks.specs.Composed.{items_list}
use Rattle.bundle_scope.specs.Faces.{in_contexts}
use Rattle.bundle_scope.proofs.FacesLemmas.{resolved-so}
use Rattle.bundle_scope.proofs.resolve.resolve_scopes.Goals as goal

pub returns-clause-resolved : goal.returns-clause-resolved
returns-clause-resolved c =
    resolved-so (kind_as c.args.kind) c.args.contexts.now.local c.args.contexts.now.next _
    (items_list c.args.tree.now.body.items) (map item_of c.deref.result.now) (items_list c.in_ok-body.body.items) c.in_ok-resolution.resolution c.deref-2.result.now (map change_of c.deref-4.result.now)
    c.in_ok-resolution.ensures.judged.resolves
    (ap (map item_of) c.deref.ensures.value ∙ c.in_ok-listing.ensures.list ∙ ap items_list c.as_slice-items.ensures.value)
    (ap (map listed_of) c.deref-2.ensures.value ∙ c.in_ok-listing.ensures.occurrences ∙ ap (λ items. listed (items_list items)) c.as_slice-items.ensures.value)
    (ap (map change_of) c.deref-4.ensures.value
    ∙ c.in_ok-changes.ensures
    ∙ ap (λ (contexts : List ℕ). changes_to (map (λ o. ident_of o.id) c.deref-2.result.now) (in_contexts (map (λ o. ident_of o.id) c.deref-2.result.now) contexts)) c.deref-3.ensures.value)
    (c.in_ok-body.ensures ∙ ap (λ items. rebuilt (items_list items) (map change_of c.deref-4.result.now)) c.as_slice-items.ensures.value)
    (ap (λ held. held.next) c.go_to.ensures)
