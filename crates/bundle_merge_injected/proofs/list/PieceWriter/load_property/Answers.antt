-- One part behind the other.
use Rattle.std.proofs.Common.{append_assoc}
use Rattle.std.proofs.lemmas.Result.{on_ok_weaker}
use Rattle.bundle_merge_injected.proofs.Written.{behind, written}
use Rattle.bundle_merge_injected.proofs.list.PieceWriter.load_property.Goals as goal

pub returns : goal.returns
returns c =
    on_ok_weaker c.add-2.result
    (λ is. written c.args.self.now c.add-2.new.self _ _ (behind c.args.self.now c.key.new.self c.add-2.new.self _ _ (behind c.args.self.now c.add.new.self c.key.new.self _ _ c.in_ok-add.ensures c.in_ok-key.ensures) is) (simp append_assoc))
    c.add-2.ensures
