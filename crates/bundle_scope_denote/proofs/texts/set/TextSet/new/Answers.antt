-- No key has a place in an empty set.
use Rattle.std.proofs.Common.{[], sym, subst}
use Rattle.std.specs.List.{IsDistinct}
use Rattle.bundle_scope_denote.specs.texts.Placed.{ArePlaced}
use Rattle.bundle_scope_denote.proofs.TextPlaceLemmas.{placed-nothing}
use Rattle.bundle_scope_denote.proofs.TextSeenLemmas.{distinct-set_of}
use Rattle.bundle_scope_denote.proofs.texts.set.TextSet.new.Goals as goal

pub invariant_of-result : goal.invariant_of-result
invariant_of-result g c =
    let cmp = g.K.Ord.cmp in
    let eq = g.K.PartialEq.eq in
    subst (λ ks. ArePlaced cmp eq ks c.new-2.result) (sym c.new.ensures.items) (placed-nothing cmp eq c.new-2.result c.new-2.ensures.empty)

pub returns-clause-unique : goal.returns-clause-unique
unfolding IsDistinct
returns-clause-unique g c = distinct-set_of g.K.PartialEq.eq [] _ c.new.ensures.items tt
