-- The keys are those that the set is seen to have.
use Rattle.std.proofs.Common.{refl, sym, ap, subst, ◌∙◌}
use Rattle.indexmap.specs.IndexSet.{IsUnique}
use Rattle.bundle_scope_denote.proofs.TextSeenLemmas.{keys-set_of, distinct-set_of}
use Rattle.bundle_scope_denote.proofs.texts.set.TextSet.as_slice.Goals as goal

pub returns-clause-keys : goal.returns-clause-keys
returns-clause-keys g c = c.as_slice.ensures.value ∙ sym (keys-set_of c.self.inside.keys.items) ∙ ap (λ s. s.keys) c.self.view_is

pub returns-clause-unique : goal.returns-clause-unique
returns-clause-unique g c = subst (IsUnique g.K.PartialEq.eq) c.self.view_is (distinct-set_of g.K.PartialEq.eq _ _ refl c.self.invariant.distinct)
