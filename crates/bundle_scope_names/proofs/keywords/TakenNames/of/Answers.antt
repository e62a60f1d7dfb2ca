-- One more element was gone over.
use Rattle.std.proofs.Common.{◌≡◌, ◌+◌, suc, map, take, refl, ◌∙◌, subst, arith}
use Rattle.std.proofs.lemmas.Option.{slice_get_read}
use Rattle.bundle_syntax.specs.Item.{item_of}
use Rattle.bundle_scope_names.specs.Fresh.{KnowsNames}
use Rattle.bundle_scope_names.proofs.HomesLemmas.{names-more}
use Rattle.bundle_scope_names.proofs.keywords.TakenNames.of.Goals as goal

pub loop-piece-preserved : goal.loop-piece-preserved
loop-piece-preserved c =
    let one : suc c.loop-piece.piece-index ≡ c.loop-piece.piece-index + 1 = omega arith in
    (subst (λ n. KnowsNames (map item_of (take n c.args.pieces.now)) c.add.new.self) one (names-more item_of c.args.pieces.now c.loop-piece.piece-index c.piece-item.result c.loop-piece.taken c.add.new.self (slice_get_read c.args.pieces.now _ c.loop-piece.piece-index c.piece-item.result refl c.loop-piece-test.true c.piece-item.is) c.in_ok-add.ensures c.loop-piece.invariant.0), c.in_ok-add.ensures.next ∙ c.loop-piece.invariant.1)
