use Rattle.bundle_json_form.proofs.OfKind.{after_end, after_last}
use Rattle.bundle_json_form.proofs.Pieces.{from_end, piece_at}
use Rattle.bundle_json_form.proofs.text.after_first.Goals as goal

pub returns-then-opened-eq0-clause-rest : goal.returns-then-opened-eq0-clause-rest
returns-then-opened-eq0-clause-rest c =
    let next = piece_at c.args.pieces.now c.pieces.rest c.index-pieces-rest.result c.pieces-test.true c.index-pieces-rest.is in
    after_last _ _ _ _ c.pieces.opened c.count-opened.result next c.count-opened.ensures c.if-opened-eq0.true c.pieces.invariant.same

pub returns-clause-rest : goal.returns-clause-rest
returns-clause-rest c =
    after_end _ _ c.pieces.opened (from_end c.args.pieces.now c.pieces.rest c.pieces-test.false) c.pieces.invariant.same
