-- The search goes outwards, and ends at a key.
use Rattle.std.proofs.Common.{◌≡◌, ◌-◌, ◌+◌, suc, false, map, length, sym, ◌∙◌, arith, subst, List}
use Rattle.std.proofs.lemmas.List.{length-map}
use Rattle.bundle_scope_denote.specs.Numbers.{NumberedScope, numbered_scope}
use Rattle.std.specs.Prelude.{find}
use Rattle.bundle_scope_denote.specs.Chains.{scopes_outwards, nearest_at}
use Rattle.bundle_scope_denote.specs.Bound.{binds_at}
use Rattle.bundle_scope_denote.proofs.LoopLemmas.{loop-first, loop-outside, loop-last, loop-found, loop-next}
use Rattle.bundle_scope_denote.proofs.NearestLemmas.{key-binds, key-missing, number-there, number-nowhere}
use Rattle.bundle_scope_denote.proofs.denote.nearest_key.Goals as goal

pub loop-init : goal.loop-init
loop-init c = let scopes : List NumberedScope = map numbered_scope c.args.scopes.now in loop-first scopes (binds_at scopes c.args.keys.now.keys false c.args.name) c.args.from

pub returns-in_default : goal.returns-in_default
returns-in_default c = let scopes : List NumberedScope = map numbered_scope c.args.scopes.now in
    number-nowhere c.args.keys.now.keys c.args.name _ (loop-outside scopes (binds_at scopes c.args.keys.now.keys false c.args.name) (length scopes - c.loop.counter) _ (subst (λ at. find (binds_at scopes c.args.keys.now.keys false c.args.name) (scopes_outwards scopes (length scopes - c.loop.counter) at) ≡ nearest_at scopes (binds_at scopes c.args.keys.now.keys false c.args.name) c.args.from) c.in_default.is c.loop.invariant))

pub returns-then-is_some : goal.returns-then-is_some
returns-then-is_some c = let scopes : List NumberedScope = map numbered_scope c.args.scopes.now in
    let same = length-map c.args.scopes.now numbered_scope in
    let one : length scopes - c.loop.counter ≡ suc (length scopes - (c.loop.counter + 1)) = omega (arith, same) in
    let some = sym c.is_some.ensures ∙ c.if-is_some.true in
    number-there c.args.keys.now.keys c.args.name c.in-Some.scope c.get_index_of-found.result _ c.get_index_of-found.ensures.index some (loop-found scopes (binds_at scopes c.args.keys.now.keys false c.args.name) (length scopes - c.loop.counter) (length scopes - (c.loop.counter + 1)) c.in-Some.scope _ one (key-binds scopes c.args.keys.now.keys c.args.name c.in-Some.scope c.get_index_of-found.result c.get_index_of-found.ensures.found some) (subst (λ at. find (binds_at scopes c.args.keys.now.keys false c.args.name) (scopes_outwards scopes (length scopes - c.loop.counter) at) ≡ nearest_at scopes (binds_at scopes c.args.keys.now.keys false c.args.name) c.args.from) c.in-Some.is c.loop.invariant))

pub loop-preserved : goal.loop-preserved
loop-preserved c = let scopes : List NumberedScope = map numbered_scope c.args.scopes.now in
    let same = length-map c.args.scopes.now numbered_scope in
    let one : length scopes - c.loop.counter ≡ suc (length scopes - (c.loop.counter + 1)) = omega (arith, same) in
    loop-next scopes (binds_at scopes c.args.keys.now.keys false c.args.name) (length scopes - c.loop.counter) (length scopes - (c.loop.counter + 1)) c.in-Some.scope c.outer_at-at.result _ one (key-missing scopes c.args.keys.now.keys c.args.name c.in-Some.scope c.get_index_of-found.result c.get_index_of-found.ensures.found (sym c.is_some.ensures ∙ c.if-is_some.false)) (sym c.outer_at-at.ensures) (subst (λ at. find (binds_at scopes c.args.keys.now.keys false c.args.name) (scopes_outwards scopes (length scopes - c.loop.counter) at) ≡ nearest_at scopes (binds_at scopes c.args.keys.now.keys false c.args.name) c.args.from) c.in-Some.is c.loop.invariant)

pub returns : goal.returns
returns c = let scopes : List NumberedScope = map numbered_scope c.args.scopes.now in
    let same = length-map c.args.scopes.now numbered_scope in
    let none : length scopes - c.loop.counter ≡ 0 = omega (arith, same) in
    number-nowhere c.args.keys.now.keys c.args.name _ (loop-last scopes (binds_at scopes c.args.keys.now.keys false c.args.name) (length scopes - c.loop.counter) c.loop.at _ none c.loop.invariant)
