use Rattle.std.proofs.Common.{refl, arith, rules}
use Rattle.bundle_json_form.proofs.Unique.{view_null, empty_is, open_step, ident_step, hole_step, close_step, close_last, close_none, at_end}
use Rattle.bundle_json_form.proofs.write.tree_value.Goals as goal
use Rattle.bundle_json_form.proofs.write.tree_value.Goals.{in-Open+in_ok-push-in-Open, in-Ident+in_ok-ident-in-Ident+in_ok-add-in-Ident, in-Hole+in_ok-add-in-Hole, in-Close+in-Some+in_ok-value-in-Close+else-is_empty+in_ok-add-in-Close}

pub returns-in_default : goal.returns-in_default
returns-in_default c = close_none c.loop-piece.open.items _ _ _ _ c.loop-piece-test.true c.piece-item.is c.in-Close.is (empty_is _ (omega (arith, c.in_default.ensures.cases.0))) view_null c.loop-piece.invariant

pub returns-then-is_empty : goal.returns-then-is_empty
returns-then-is_empty c = close_last _ _ _ _ _ _ _ c.loop-piece-test.true c.piece-item.is c.in-Close.is c.in-Some.ensures.items (grind arith) c.in_ok-value-in-Close.ensures c.loop-piece.invariant

pub returns : goal.returns
returns c = at_end c.loop-piece.open.items c.args.pieces.now c.loop-piece.piece-index _ (omega arith) view_null c.loop-piece.invariant

pub loop-piece-preserved : goal.loop-piece-preserved
loop-piece-preserved c =
    elim c.match-piece.branch [
      | in-Open+in_ok-push-in-Open w ↦ rw w.open-is (open_step _ _ _ _ _ _ _ _ _ c.loop-piece-test.true c.piece-item.is w.in-Open.is w.in_ok-push-in-Open.ensures.items refl refl (search rules) c.loop-piece.invariant)
      | in-Ident+in_ok-ident-in-Ident+in_ok-add-in-Ident w ↦
          rw w.open-is (ident_step c.loop-piece.open.items w.add.new.nodes.items _ _ _ _ _ _ _ _ _ c.loop-piece-test.true c.piece-item.is w.in-Ident.is w.in_ok-ident-in-Ident.ensures w.in_ok-add-in-Ident.ensures c.loop-piece.invariant)
      | in-Hole+in_ok-add-in-Hole w ↦ rw w.open-is (hole_step c.loop-piece.open.items w.add-in-Hole.new.nodes.items _ _ _ _ _ _ c.loop-piece-test.true c.piece-item.is w.in-Hole.is view_null w.in_ok-add-in-Hole.ensures c.loop-piece.invariant)
      | in-Close+in-Some+in_ok-value-in-Close+else-is_empty+in_ok-add-in-Close w ↦
          rw w.open-is (close_step _ _ w.add-in-Close.new.nodes.items _ _ _ _ _ _ c.loop-piece-test.true c.piece-item.is w.in-Close.is w.in-Some.ensures.items (λ none. grind arith) w.in_ok-value-in-Close.ensures w.in_ok-add-in-Close.ensures c.loop-piece.invariant)
    ]
