-- The search goes outwards.
use Rattle.std.proofs.Common.{◌≡◌, ◌-◌, ◌+◌, suc, map, length, sym, ◌∙◌, arith, subst, List}
use Rattle.std.proofs.lemmas.List.{length-map}
use Rattle.bundle_scope_denote.specs.Numbers.{NumberedScope, numbered_scope}
use Rattle.std.specs.Prelude.{find}
use Rattle.bundle_scope_denote.specs.Chains.{passes, scopes_outwards, nearest_at}
use Rattle.bundle_scope_denote.specs.Kinds.{takes_by}
use Rattle.bundle_scope_denote.proofs.LoopLemmas.{loop-first, loop-outside, loop-last, loop-found, loop-next}
use Rattle.bundle_scope_denote.proofs.homes.taker_of.Goals as goal

pub loop-init : goal.loop-init
loop-init c = let scopes : List NumberedScope = map numbered_scope c.args.scopes.now in loop-first scopes (passes (takes_by c.args.way) scopes) c.args.from

pub returns-in_default : goal.returns-in_default
returns-in_default c = let scopes : List NumberedScope = map numbered_scope c.args.scopes.now in
    let same = length-map c.args.scopes.now numbered_scope in
    loop-outside scopes (passes (takes_by c.args.way) scopes) (length scopes - c.loop.counter) _ (subst (λ at. find (passes (takes_by c.args.way) scopes) (scopes_outwards scopes (length scopes - c.loop.counter) at) ≡ nearest_at scopes (passes (takes_by c.args.way) scopes) c.args.from) c.in_default.is c.loop.invariant)

pub returns-then-takes_at : goal.returns-then-takes_at
returns-then-takes_at c = let scopes : List NumberedScope = map numbered_scope c.args.scopes.now in
    let same = length-map c.args.scopes.now numbered_scope in
    let one : length scopes - c.loop.counter ≡ suc (length scopes - (c.loop.counter + 1)) = omega (arith, same) in
    loop-found scopes (passes (takes_by c.args.way) scopes) (length scopes - c.loop.counter) (length scopes - (c.loop.counter + 1)) c.in-Some.number _ one (sym c.takes_at.ensures ∙ c.if-takes_at.true) (subst (λ at. find (passes (takes_by c.args.way) scopes) (scopes_outwards scopes (length scopes - c.loop.counter) at) ≡ nearest_at scopes (passes (takes_by c.args.way) scopes) c.args.from) c.in-Some.is c.loop.invariant)

pub loop-preserved : goal.loop-preserved
loop-preserved c = let scopes : List NumberedScope = map numbered_scope c.args.scopes.now in
    let same = length-map c.args.scopes.now numbered_scope in
    let one : length scopes - c.loop.counter ≡ suc (length scopes - (c.loop.counter + 1)) = omega (arith, same) in
    loop-next scopes (passes (takes_by c.args.way) scopes) (length scopes - c.loop.counter) (length scopes - (c.loop.counter + 1)) c.in-Some.number c.outer_at-at.result _ one (sym c.takes_at.ensures ∙ c.if-takes_at.false) (sym c.outer_at-at.ensures) (subst (λ at. find (passes (takes_by c.args.way) scopes) (scopes_outwards scopes (length scopes - c.loop.counter) at) ≡ nearest_at scopes (passes (takes_by c.args.way) scopes) c.args.from) c.in-Some.is c.loop.invariant)

pub returns : goal.returns
returns c = let scopes : List NumberedScope = map numbered_scope c.args.scopes.now in
    let same = length-map c.args.scopes.now numbered_scope in
    let none : length scopes - c.loop.counter ≡ 0 = omega (arith, same) in
    loop-last scopes (passes (takes_by c.args.way) scopes) (length scopes - c.loop.counter) c.loop.at _ none c.loop.invariant
