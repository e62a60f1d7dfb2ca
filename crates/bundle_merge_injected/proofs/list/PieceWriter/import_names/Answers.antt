-- One form behind the other.
use Rattle.std.proofs.Common.{append_assoc}
use Rattle.std.proofs.lemmas.Result.{on_ok_weaker}
use Rattle.bundle_merge_injected.specs.Listed as listed
use Rattle.bundle_merge_injected.proofs.Written.{all_of, behind, one_more, written}
use Rattle.bundle_merge_injected.proofs.list.PieceWriter.import_names.Goals as goal

pub loop-pair-preserved : goal.loop-pair-preserved
loop-pair-preserved c = one_more listed.import_specifier c.add.new.self c.loop-pair.self c.import_specifier.new.self c.args.names.now c.loop-pair.pair-index _ c.loop-pair-test.true c.loop-pair.invariant c.in_ok-import_specifier.ensures

pub returns : goal.returns
returns c =
    on_ok_weaker c.add-2.result
    (λ is. written c.args.self.now c.add-2.new.self _ _ (behind c.args.self.now c.loop-pair.self c.add-2.new.self _ _ (behind c.args.self.now c.add.new.self c.loop-pair.self _ _ c.in_ok-add.ensures (all_of listed.import_specifier c.add.new.self c.loop-pair.self c.args.names.now c.loop-pair.pair-index c.loop-pair-test.false c.loop-pair.invariant)) is) (rw c.requires (simp append_assoc)))
    c.add-2.ensures
