-- Each element is passed, up to that which ends the node.
use Rattle.std.proofs.Common.{◌≡◌, ◌+◌, ◌-◌, zero, suc, Some, map, drop, ap, sym, ◌∙◌, arith}
use Rattle.bundle_syntax.specs.declared.piece.Piece.{Piece}
use Rattle.bundle_syntax.specs.Item.{item_of}
use Rattle.bundle_tree_places.specs.Lengths.{depth_past, length_of_first}
use Rattle.bundle_tree_places.proofs.LengthLemmas.{close-ended, close-passed, length-ended, length-passed, read-at}
use Rattle.bundle_tree_places.proofs.parts.length_inside.Goals as goal
use Rattle.bundle_tree_places.proofs.parts.length_inside.Goals.{in-Open, in-Close-2, in-Ident, in-Hole}

pub returns-in-Close-clause-length : goal.returns-in-Close-clause-length
returns-in-Close-clause-length c =
    let pieces = c.args.pieces.now in
    let place = c.loop-place.place in
    let x = c.index-pieces-place.result in
    let depth = c.loop-place.depth in
    let last : depth ≡ zero = omega (arith, c.if-depth-eq0.true) in
    sym (length-ended (map item_of pieces) place (suc depth) _ (item_of x) (read-at pieces place x c.loop-place-test.true c.index-pieces-place.is) (ap (λ (y : Piece). depth_past (suc depth) (item_of y)) c.in-Close.is ∙ close-ended depth last) c.loop-place.invariant.1)

pub loop-place-preserved : goal.loop-place-preserved
loop-place-preserved c =
    let pieces = c.args.pieces.now in
    let place = c.loop-place.place in
    let x = c.index-pieces-place.result in
    let depth = c.loop-place.depth in
    let next = c.match-piece.depth in
    let low = c.loop-place.invariant.0 in
    let passed : depth_past (suc depth) (item_of x) ≡ Some (suc next) → length_of_first 1 (map item_of pieces) ≡ place + 1 + length_of_first (suc next) (drop (place + 1) (map item_of pieces)) =
    λ goes. length-passed (map item_of pieces) place (suc depth) (suc next) _ (item_of x) (read-at pieces place x c.loop-place-test.true c.index-pieces-place.is) goes c.loop-place.invariant.1 in
    let below : (depth ≡ zero → ⊥) → next ≡ depth - 1 → suc next ≡ depth = λ some is. omega (arith, some, is) in
    let past : (y : Piece) → x ≡ y → depth_past (suc depth) (item_of y) ≡ Some (suc next) → depth_past (suc depth) (item_of x) ≡ Some (suc next) =
    λ y e. λ goes. ap (λ (z : Piece). depth_past (suc depth) (item_of z)) e ∙ goes in
    elim c.match-piece.branch [
      | in-Open w ↦ (omega (arith, low, w.depth-is), passed (past _ w.in-Open.is (ap (λ k. Some (suc k)) (omega (arith, w.depth-is)))))
      | in-Close-2 w ↦ (omega (arith, low, w.depth-is), passed (past _ w.in-Close.is (close-passed depth next (below w.if-depth-eq0.false w.depth-is))))
      | in-Ident w ↦ (omega (arith, low, w.depth-is), passed (past _ w.in-Ident.is (ap (λ k. Some (suc k)) (sym w.depth-is))))
      | in-Hole w ↦ (omega (arith, low, w.depth-is), passed (past _ w.in-Hole.is (ap (λ k. Some (suc k)) (sym w.depth-is))))
    ]
