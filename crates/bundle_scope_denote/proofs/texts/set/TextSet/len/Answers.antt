-- There are as many keys as the set is seen to have.
use Rattle.std.proofs.Common.{refl, subst}
use Rattle.indexmap.specs.IndexSet.{IsUnique}
use Rattle.bundle_scope_denote.proofs.TextSeenLemmas.{distinct-set_of}
use Rattle.bundle_scope_denote.proofs.texts.set.TextSet.len.Goals as goal

pub returns-clause-unique : goal.returns-clause-unique
returns-clause-unique g c = subst (IsUnique g.K.PartialEq.eq) c.self.view_is (distinct-set_of g.K.PartialEq.eq _ _ refl c.self.invariant.distinct)
