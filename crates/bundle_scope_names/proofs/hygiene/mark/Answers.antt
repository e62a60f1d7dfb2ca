-- The way outwards ends, or meets what is marked.
use Rattle.std.proofs.Common.{◌≡◌, ◌-◌, ◌+◌, suc, map, length, sym, ap, ◌∙◌, arith, subst, List}
use Rattle.std.proofs.lemmas.Bool.{not-false, OnFalse_at}
use Rattle.std.proofs.lemmas.List.{length-map}
use Rattle.bundle_scope_denote.specs.Numbers.{NumberedScope, numbered_scope}
use Rattle.bundle_scope_denote.specs.Chains.{scopes_outwards}
use Rattle.bundle_scope_names.specs.Marks.{marked}
use Rattle.bundle_scope_names.proofs.KnowsLemmas.{IsMarking, has-put, has-there, marking-first, marking-next, marking-last, marking-outside, marking-met}
use Rattle.bundle_scope_names.proofs.hygiene.mark.Goals as goal

pub loop-init : goal.loop-init
loop-init c = let same = length-map c.args.scopes.now numbered_scope in
    λ symbols text is. marking-first (map numbered_scope c.args.scopes.now) c.args.from text (marked symbols c.args.marks.now.keys) _ (omega arith)

pub returns-in_default : goal.returns-in_default
returns-in_default c = λ symbols text is closed. marking-outside (map numbered_scope c.args.scopes.now) c.requires c.args.from text (marked symbols c.args.marks.now.keys) (marked symbols c.loop.marks.keys) _ c.loop.at c.in_default.is closed (c.loop.invariant symbols text is)

pub returns-then-not-branch : goal.returns-then-not-branch
returns-then-not-branch c = let scopes : List NumberedScope = map numbered_scope c.args.scopes.now in
    let same = length-map c.args.scopes.now numbered_scope in
    let one : length scopes - c.loop.counter ≡ suc (length scopes - (c.loop.counter + 1)) = omega (arith, same) in
    λ symbols text is closed. marking-met scopes c.requires c.args.from text (marked symbols c.args.marks.now.keys) (marked symbols c.loop.marks.keys) (marked symbols c.insert.new.self.keys) (length scopes - c.loop.counter) (length scopes - (c.loop.counter + 1)) c.in-Some.number one (has-there symbols c.in-Some.number c.args.symbol text c.loop.marks.keys is ∙ not-false _ (sym c.in_ok-insert.ensures.added ∙ c.if-not-branch.true)) (ap (marked symbols) (OnFalse_at c.if-not-branch.true c.in_ok-insert.ensures.unchanged)) closed (subst (IsMarking scopes c.args.from text (marked symbols c.args.marks.now.keys) (marked symbols c.loop.marks.keys) (length scopes - c.loop.counter)) c.in-Some.is (c.loop.invariant symbols text is))

pub loop-preserved : goal.loop-preserved
loop-preserved c = let scopes : List NumberedScope = map numbered_scope c.args.scopes.now in
    let same = length-map c.args.scopes.now numbered_scope in
    let one : length scopes - c.loop.counter ≡ suc (length scopes - (c.loop.counter + 1)) = omega (arith, same) in
    λ symbols text is. marking-next scopes c.requires c.args.from text (marked symbols c.args.marks.now.keys) (marked symbols c.loop.marks.keys) (marked symbols c.insert.new.self.keys) (length scopes - c.loop.counter) (length scopes - (c.loop.counter + 1)) c.in-Some.number c.outer_at-at.result one c.outer_at-at.ensures (has-put symbols c.in-Some.number c.args.symbol text c.loop.marks.keys c.insert.new.self.keys is c.in_ok-insert.ensures.updates.0) (subst (IsMarking scopes c.args.from text (marked symbols c.args.marks.now.keys) (marked symbols c.loop.marks.keys) (length scopes - c.loop.counter)) c.in-Some.is (c.loop.invariant symbols text is))

pub returns : goal.returns
returns c = let scopes : List NumberedScope = map numbered_scope c.args.scopes.now in
    let same = length-map c.args.scopes.now numbered_scope in
    let none : length scopes - c.loop.counter ≡ 0 = omega (arith, same) in
    λ symbols text is closed. marking-last scopes c.requires c.args.from text (marked symbols c.args.marks.now.keys) (marked symbols c.loop.marks.keys) (length scopes - c.loop.counter) c.loop.at (ap (λ n. scopes_outwards scopes n c.loop.at) none) closed (c.loop.invariant symbols text is)
