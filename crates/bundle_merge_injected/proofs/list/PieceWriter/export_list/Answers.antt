-- One form behind the other.
use Rattle.std.proofs.lemmas.Result.{on_ok_weaker}
use Rattle.bundle_merge_injected.specs.Listed as listed
use Rattle.bundle_merge_injected.proofs.Written.{all_of, behind, one_more, written}
use Rattle.bundle_merge_injected.proofs.list.PieceWriter.export_list.Goals as goal

pub loop-pair-preserved : goal.loop-pair-preserved
loop-pair-preserved c = one_more listed.export_specifier c.add.new.self c.loop-pair.self c.export_specifier.new.self c.args.names.now c.loop-pair.pair-index _ c.loop-pair-test.true c.loop-pair.invariant c.in_ok-export_specifier.ensures

pub returns : goal.returns
returns c =
    on_ok_weaker c.add-2.result
    (λ is. written c.args.self.now c.add-2.new.self _ _ (behind c.args.self.now c.loop-pair.self c.add-2.new.self _ _ (behind c.args.self.now c.add.new.self c.loop-pair.self _ _ c.in_ok-add.ensures (all_of listed.export_specifier c.add.new.self c.loop-pair.self c.args.names.now c.loop-pair.pair-index c.loop-pair-test.false c.loop-pair.invariant)) is) (rw c.requires))
    c.add-2.ensures
