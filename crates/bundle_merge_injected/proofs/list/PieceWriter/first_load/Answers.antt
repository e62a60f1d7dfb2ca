-- One part behind the other.
use Rattle.std.proofs.lemmas.Result.{on_ok_weaker}
use Rattle.bundle_merge_injected.proofs.Written.{behind}
use Rattle.bundle_merge_injected.proofs.list.PieceWriter.first_load.Goals as goal

pub returns : goal.returns
returns c =
    on_ok_weaker c.add-3.result
    (λ is. behind c.args.self.now c.exports_argument-2.new.self c.add-3.new.self _ _ (behind c.args.self.now c.add-2.new.self c.exports_argument-2.new.self _ _ (behind c.args.self.now c.exports_argument.new.self c.add-2.new.self _ _ (behind c.args.self.now c.add.new.self c.exports_argument.new.self _ _ c.in_ok-add.ensures c.in_ok-exports_argument.ensures) c.in_ok-add-2.ensures) c.in_ok-exports_argument-2.ensures) is)
    c.add-3.ensures
