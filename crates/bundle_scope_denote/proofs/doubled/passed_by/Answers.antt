-- The scopes go outwards.
use Rattle.std.proofs.Common.{◌≡◌, ◌-◌, ◌+◌, suc, map, length, sym, ◌∙◌, arith, List}
use Rattle.std.proofs.lemmas.List.{length-map}
use Rattle.bundle_scope_denote.specs.Numbers.{NumberedScope, numbered_scope}
use Rattle.bundle_scope_denote.proofs.PassedLemmas.{passed-outside, passed-taken, passed-next}
use Rattle.bundle_scope_denote.proofs.doubled.passed_by.Goals as goal

pub returns-in_default : goal.returns-in_default
returns-in_default c = let scopes : List NumberedScope = map numbered_scope c.args.scopes.now in
    passed-outside scopes c.args.way (length scopes - c.loop.counter) c.loop.at c.loop.passed.items _ c.in_default.is c.loop.invariant

pub returns-then-takes_at : goal.returns-then-takes_at
returns-then-takes_at c = let scopes : List NumberedScope = map numbered_scope c.args.scopes.now in
    let same = length-map c.args.scopes.now numbered_scope in
    let one : length scopes - c.loop.counter ≡ suc (length scopes - (c.loop.counter + 1)) = omega (arith, same) in
    passed-taken scopes c.args.way (length scopes - c.loop.counter) (length scopes - (c.loop.counter + 1)) c.in-Some.number c.loop.at c.loop.passed.items _ c.in-Some.is one (sym c.takes_at.ensures ∙ c.if-takes_at.true) c.loop.invariant

pub loop-preserved : goal.loop-preserved
loop-preserved c = let scopes : List NumberedScope = map numbered_scope c.args.scopes.now in
    let same = length-map c.args.scopes.now numbered_scope in
    let one : length scopes - c.loop.counter ≡ suc (length scopes - (c.loop.counter + 1)) = omega (arith, same) in
    passed-next scopes c.args.way (length scopes - c.loop.counter) (length scopes - (c.loop.counter + 1)) c.in-Some.number c.loop.at c.outer_at-at.result c.loop.passed.items _ _ c.in-Some.is one (sym c.takes_at.ensures ∙ c.if-takes_at.false) (sym c.outer_at-at.ensures) c.in_ok-push.ensures.items c.loop.invariant
