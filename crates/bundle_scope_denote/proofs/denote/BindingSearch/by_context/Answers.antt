-- What is written is denoted, or else what is implied.
use Rattle.std.proofs.Common.{false, refl, sym, ◌∙◌}
use Rattle.bundle_scope_denote.specs.Bound.{binds_at}
use Rattle.bundle_scope_denote.specs.Chains.{nearest_at}
use Rattle.bundle_scope_denote.specs.Numbers.{name_as}
use Rattle.bundle_scope_denote.specs.Searched.{keys_of}
use Rattle.bundle_scope_denote.specs.Steps.{scopes_of}
use Rattle.bundle_scope_denote.proofs.NearestLemmas.{nearest-walk, number-some, puts-there}
use Rattle.bundle_scope_denote.proofs.SearchLemmas.{found-walk, written-found, unresolved-found, nowhere-found, implied-found}
use Rattle.bundle_scope_denote.proofs.denote.BindingSearch.by_context.Goals as goal

pub returns-then-is_some : goal.returns-then-is_some
returns-then-is_some c =
    let walk = c.args.walk.now in
    let old = c.args.self.now in
    let nearest = nearest_at (scopes_of walk) (binds_at (scopes_of walk) (keys_of old) false c.args.number) c.args.from in
    let known = nearest-walk walk c.deref.result.now (keys_of old) false c.args.number c.args.from c.nearest_key-found.result c.deref.ensures.value refl c.nearest_key-found.ensures in
    written-found walk old old c.args.name c.args.number c.args.from nearest c.nearest_key-found.result c.requires refl (number-some (keys_of old) c.args.number nearest c.nearest_key-found.result known ∙ sym c.is_some.ensures ∙ c.if-is_some.true) (puts-there old nearest (name_as c.args.name) c.args.number c.nearest_key-found.result known)

pub returns-then-is_unresolved : goal.returns-then-is_unresolved
returns-then-is_unresolved c =
    let walk = c.args.walk.now in
    let old = c.args.self.now in
    let nearest = nearest_at (scopes_of walk) (binds_at (scopes_of walk) (keys_of old) false c.args.number) c.args.from in
    let known = nearest-walk walk c.deref.result.now (keys_of old) false c.args.number c.args.from c.nearest_key-found.result c.deref.ensures.value refl c.nearest_key-found.ensures in
    unresolved-found walk old c.args.name c.args.number c.args.from nearest c.requires refl (number-some (keys_of old) c.args.number nearest c.nearest_key-found.result known ∙ sym c.is_some.ensures ∙ c.if-is_some.false) (sym c.is_unresolved.ensures ∙ c.if-is_unresolved.true)

pub returns-in_default : goal.returns-in_default
returns-in_default c =
    let walk = c.args.walk.now in
    let old = c.args.self.now in
    let nearest = nearest_at (scopes_of walk) (binds_at (scopes_of walk) (keys_of old) false c.args.number) c.args.from in
    let known = nearest-walk walk c.deref.result.now (keys_of old) false c.args.number c.args.from c.nearest_key-found.result c.deref.ensures.value refl c.nearest_key-found.ensures in
    nowhere-found walk old c.args.name c.args.number c.args.from nearest c.alone_of.result c.requires refl (number-some (keys_of old) c.args.number nearest c.nearest_key-found.result known ∙ sym c.is_some.ensures ∙ c.if-is_some.false) (sym c.is_unresolved.ensures ∙ c.if-is_unresolved.false) c.in_default.is (c.alone_of.ensures c.requires)

pub returns : goal.returns
returns c =
    let walk = c.args.walk.now in
    let old = c.args.self.now in
    let nearest = nearest_at (scopes_of walk) (binds_at (scopes_of walk) (keys_of old) false c.args.number) c.args.from in
    let known = nearest-walk walk c.deref.result.now (keys_of old) false c.args.number c.args.from c.nearest_key-found.result c.deref.ensures.value refl c.nearest_key-found.ensures in
    implied-found walk old _ c.args.name c.args.number c.args.from nearest c.alone_of.result c.in-Some.alone c.nearest-implied.result c.in_ok-binding.binding c.requires refl (number-some (keys_of old) c.args.number nearest c.nearest_key-found.result known ∙ sym c.is_some.ensures ∙ c.if-is_some.false) (sym c.is_unresolved.ensures ∙ c.if-is_unresolved.false) c.in-Some.is (c.alone_of.ensures c.requires) (found-walk walk c.deref-2.result.now old.implied.keys c.is_arguments-adds.result _ c.in-Some.alone c.args.from c.nearest-implied.result c.deref-2.ensures.value c.is_arguments-adds.ensures c.nearest-implied.ensures) c.in_ok-binding.ensures
