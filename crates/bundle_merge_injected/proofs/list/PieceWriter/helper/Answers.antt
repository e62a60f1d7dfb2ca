-- One part behind the other.
use Rattle.std.proofs.lemmas.Result.{on_ok_weaker}
use Rattle.bundle_merge_injected.proofs.Written.{behind, written}
use Rattle.bundle_merge_injected.proofs.list.PieceWriter.helper.Goals as goal

pub returns : goal.returns
returns c =
    on_ok_weaker c.add-2.result
    (λ is. written c.args.self.now c.add-2.new.self _ _ (behind c.args.self.now c.loader.new.self c.add-2.new.self _ _ (behind c.args.self.now c.add.new.self c.loader.new.self _ _ c.in_ok-add.ensures c.in_ok-loader.ensures) is) (rw c.requires))
    c.add-2.ensures
