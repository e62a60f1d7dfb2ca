-- What stands before a statement is told of, and then the walk moves over it.
use Rattle.std.proofs.Common.{◌≡◌, ◌≢◌, ℕ, true, refl, sym, subst, arith}
use Rattle.gutsirava_traces.specs.Told.{first_of, has_print, IsOneTold}
use Rattle.gutsirava_traces.specs.Traces.{place_of}
use Rattle.gutsirava_traces.specs.declared.trace.OwnForm.{OwnForm}
use Rattle.gutsirava_traces.specs.declared.trace.TheConstants.{NOWHERE}
use Rattle.gutsirava_traces.proofs.WalkLemmas.{goes_telling}
use Rattle.gutsirava_traces.proofs.walk.StatementWalk.begin.Goals as goal

pub returns-in_ok-tell_piece-in-Constant-clause-goes : goal.returns-in_ok-tell_piece-in-Constant-clause-goes
returns-in_ok-tell_piece-in-Constant-clause-goes c =
    goes_telling _ c.args.self.now _ c.args.self.now.to c.args.self.now.to c.saturating_sub-own.result c.saturating_sub-own.result c.args.source.now _ c.args.maker.now _
    c.in_ok-tell_piece-in-Constant.ensures.tells
    (record { list = refl; from = omega arith; to = omega arith })
    (omega arith) (omega arith) (omega arith) (omega arith)

pub returns-in_ok-tell-in-Declaration-clause-goes : goal.returns-in_ok-tell-in-Declaration-clause-goes
returns-in_ok-tell-in-Declaration-clause-goes c =
    goes_telling _ c.args.self.now _ c.args.self.now.to c.args.self.now.to c.args.self.now.from c.args.self.now.from c.args.source.now _ c.args.maker.now _
    c.in_ok-tell-in-Declaration.ensures.tells
    (record { list = refl; from = omega arith; to = omega arith })
    (omega arith) (omega arith) (omega arith) (omega arith)

pub returns-in_ok-tell-in-Same-clause-goes : goal.returns-in_ok-tell-in-Same-clause-goes
returns-in_ok-tell-in-Same-clause-goes c =
    goes_telling _ c.args.self.now _ c.args.self.now.to c.args.self.now.to c.args.self.now.from c.args.self.now.from c.args.source.now _ c.args.maker.now _
    c.in_ok-tell-in-Same.ensures.tells
    (record { list = refl; from = omega arith; to = omega arith })
    (omega arith) (omega arith) (omega arith) (omega arith)

pub returns-in_ok-tell_piece-in-Constant-clause-one : goal.returns-in_ok-tell_piece-in-Constant-clause-one
returns-in_ok-tell_piece-in-Constant-clause-one c =
    let walk = c.args.self.now in
    let source = c.args.source.now in
    let Q : ℕ → Type 0 = λ own. place_of source.trace.now.places.items own ≢ NOWHERE
    → IsOneTold walk.list walk.to own source c.tell_piece.new.source c.args.maker.now c.tell_piece.new.self in
    let P : OwnForm → Type 0 = λ form. has_print form ≡ true → Q (first_of form walk.from) in
    subst P (sym c.in-Constant.is)
    (λ print. subst Q c.saturating_sub-own.ensures c.in_ok-tell_piece-in-Constant.ensures.one)
