-- The place noted of a key is where it stands among the keys.
use Rattle.std.proofs.Common.{◌≡◌, is_some, position, refl, sym, ap, subst, ◌∙◌}
use Rattle.indexmap.specs.IndexSet.{IsUnique}
use Rattle.bundle_scope_denote.proofs.TextPlaceLemmas.{is_some-position}
use Rattle.bundle_scope_denote.proofs.TextSeenLemmas.{keys-set_of, distinct-set_of}
use Rattle.bundle_scope_denote.proofs.texts.set.TextSet.get_index_of.Goals as goal

pub returns-clause-index : goal.returns-clause-index
returns-clause-index g c =
    let key = c.args.key.now in
    let keys = c.self.inside.keys.items in
    let seen : c.args.self.now.keys ≡ keys = sym (ap (λ s. s.keys) c.self.view_is) ∙ keys-set_of keys in
    c.copied.ensures ∙ c.get.ensures.value ∙ c.self.invariant.found key ∙ ap (position (g.K.PartialEq.eq key)) (sym seen)

pub returns-clause-found : goal.returns-clause-found
returns-clause-found g c =
    let key = c.args.key.now in
    let keys = c.self.inside.keys.items in
    let seen : c.args.self.now.keys ≡ keys = sym (ap (λ s. s.keys) c.self.view_is) ∙ keys-set_of keys in
    ap is_some (c.copied.ensures ∙ c.get.ensures.value ∙ c.self.invariant.found key ∙ ap (position (g.K.PartialEq.eq key)) (sym seen))
    ∙ is_some-position (g.K.PartialEq.eq key) c.args.self.now.keys

pub returns-clause-unique : goal.returns-clause-unique
returns-clause-unique g c = subst (IsUnique g.K.PartialEq.eq) c.self.view_is (distinct-set_of g.K.PartialEq.eq _ _ refl c.self.invariant.distinct)
