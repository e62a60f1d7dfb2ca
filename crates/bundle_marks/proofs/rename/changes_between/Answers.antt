-- Where nothing is left of one of the lists, all changes are there.
use Rattle.std.proofs.Common.{List, ◌++◌, map, inl, inr, append-nil, ap, sym, ◌∙◌}
use Rattle.bundle_rules.specs.Rebuilds.{Change}
use Rattle.bundle_tree_places.specs.Changes.{change_of}
use Rattle.bundle_tree_places.specs.Marks.{ident_of}
use Rattle.bundle_tree_places.proofs.RenameLemmas.{changes_to-none}
use Rattle.bundle_marks.specs.Idents.{tree_ident}
use Rattle.bundle_marks.proofs.rename.changes_between.Goals as goal

pub returns : goal.returns
returns c =
    sym (append-nil _)
    ∙ ap (λ (rest : List Change). map change_of c.loop-old.changes.items ++ rest) (sym (changes_to-none (λ o. ident_of o.id) tree_ident c.loop-old.old-iterator.a.rest.now c.loop-old.old-iterator.b.rest.now (elim c.in-None.ensures.steps [ inl none ↦ inl none.1.0 | inr none ↦ inr none.1.0 ])))
    ∙ c.loop-old.invariant
