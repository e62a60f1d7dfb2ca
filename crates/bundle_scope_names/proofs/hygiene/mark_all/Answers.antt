-- The occurrences are gone over from the last one on.
use Rattle.std.proofs.Common.{◌≡◌, ◌-◌, ◌+◌, suc, length, map, List, inl, inr, sym, subst, arith}
use Rattle.bundle_scope_denote.specs.Numbers.{NumberedScope, numbered_scope}
use Rattle.bundle_scope_names.specs.Marks.{marked}
use Rattle.bundle_scope_names.specs.Uses.{IsLastUse}
use Rattle.bundle_scope_names.proofs.KnowsLemmas.{IsMarkedFrom, marked-first, marked-next, marked-last}
use Rattle.bundle_scope_names.proofs.hygiene.mark_all.Goals as goal

pub loop-init : goal.loop-init
loop-init c = λ symbols text is closed. marked-first (map numbered_scope c.args.scopes.now) c.args.occurrences.now c.args.binding text (marked symbols c.args.marks.now.keys) _ c.last_of-at.result (omega arith) (subst (IsLastUse c.args.occurrences.now c.args.binding (length c.args.occurrences.now)) (sym c.last_of-at.ensures) (c.requires.uses.last c.args.binding c.requires.within)) closed

pub returns-in_default : goal.returns-in_default
returns-in_default c = λ symbols text is closed. marked-last (map numbered_scope c.args.scopes.now) c.args.occurrences.now c.args.binding text (marked symbols c.args.marks.now.keys) (marked symbols c.loop.marks.keys) _ c.loop.at (inr c.in_default.is) (c.loop.invariant symbols text is closed)

pub loop-preserved : goal.loop-preserved
loop-preserved c =
    let scopes : List NumberedScope = map numbered_scope c.args.scopes.now in
    let one : length c.args.occurrences.now - c.loop.counter ≡ suc (length c.args.occurrences.now - (c.loop.counter + 1)) = omega arith in
    λ symbols text is closed. marked-next scopes c.args.occurrences.now c.args.binding text (marked symbols c.args.marks.now.keys) (marked symbols c.loop.marks.keys) (marked symbols c.mark.new.marks.keys) (length c.args.occurrences.now - c.loop.counter) (length c.args.occurrences.now - (c.loop.counter + 1)) c.in-Some.number c.scope_at.result c.before-at.result one c.scope_at.ensures (λ o is_at own. subst (IsLastUse c.args.occurrences.now c.args.binding c.in-Some.number) (sym c.before-at.ensures) (c.requires.uses.before c.args.binding c.in-Some.number o c.requires.within is_at own)) (λ shut. c.in_ok-mark.ensures symbols text is shut) (subst (IsMarkedFrom scopes c.args.occurrences.now c.args.binding text (marked symbols c.args.marks.now.keys) (marked symbols c.loop.marks.keys) (length c.args.occurrences.now - c.loop.counter)) c.in-Some.is (c.loop.invariant symbols text is closed))

pub returns : goal.returns
returns c = λ symbols text is closed. marked-last (map numbered_scope c.args.scopes.now) c.args.occurrences.now c.args.binding text (marked symbols c.args.marks.now.keys) (marked symbols c.loop.marks.keys) (length c.args.occurrences.now - c.loop.counter) c.loop.at (inl (omega arith)) (c.loop.invariant symbols text is closed)
