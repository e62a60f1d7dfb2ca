-- One form behind the other.
use Rattle.std.proofs.lemmas.Result.{on_ok_weaker}
use Rattle.bundle_rules.specs.Forms.{returned_property}
use Rattle.bundle_merge_injected.proofs.Written.{all_of, behind, one_more}
use Rattle.bundle_merge_injected.proofs.list.PieceWriter.returned_object.Goals as goal

pub loop-pair-preserved : goal.loop-pair-preserved
loop-pair-preserved c = one_more returned_property c.add.new.self c.loop-pair.self c.returned_property.new.self c.args.pairs.now c.loop-pair.pair-index _ c.loop-pair-test.true c.loop-pair.invariant c.in_ok-returned_property.ensures

pub returns : goal.returns
returns c =
    on_ok_weaker c.add-2.result
    (λ is. behind c.args.self.now c.loop-pair.self c.add-2.new.self _ _ (behind c.args.self.now c.add.new.self c.loop-pair.self _ _ c.in_ok-add.ensures (all_of returned_property c.add.new.self c.loop-pair.self c.args.pairs.now c.loop-pair.pair-index c.loop-pair-test.false c.loop-pair.invariant)) is)
    c.add-2.ensures
