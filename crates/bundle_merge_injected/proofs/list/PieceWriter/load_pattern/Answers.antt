-- One form behind the other.
use Rattle.std.proofs.lemmas.Result.{on_ok_weaker}
use Rattle.bundle_merge_injected.specs.Listed as listed
use Rattle.bundle_merge_injected.proofs.Written.{all_of, behind, one_more}
use Rattle.bundle_merge_injected.proofs.list.PieceWriter.load_pattern.Goals as goal

pub loop-pair-preserved : goal.loop-pair-preserved
loop-pair-preserved c = one_more listed.load_property c.add.new.self c.loop-pair.self c.load_property.new.self c.args.names.now c.loop-pair.pair-index _ c.loop-pair-test.true c.loop-pair.invariant c.in_ok-load_property.ensures

pub returns : goal.returns
returns c =
    on_ok_weaker c.add-2.result
    (λ is. behind c.args.self.now c.loop-pair.self c.add-2.new.self _ _ (behind c.args.self.now c.add.new.self c.loop-pair.self _ _ c.in_ok-add.ensures (all_of listed.load_property c.add.new.self c.loop-pair.self c.args.names.now c.loop-pair.pair-index c.loop-pair-test.false c.loop-pair.invariant)) is)
    c.add-2.ensures
