-- One part behind the other.
use Rattle.std.proofs.lemmas.Result.{on_ok_weaker}
use Rattle.std.proofs.Common.{map}
use Rattle.bundle_tree_places.specs.Marks.{ident_of}
use Rattle.bundle_merge_injected.specs.Listed.{pair_of}
use Rattle.bundle_merge_injected.proofs.Written.{behind, object_written, written}
use Rattle.bundle_merge_injected.proofs.list.PieceWriter.namespace_object.Goals as goal

pub returns : goal.returns
returns c =
    on_ok_weaker c.add-2.result
    (λ is. written c.args.self.now c.add-2.new.self _ _ (behind c.args.self.now c.returned_object.new.self c.add-2.new.self _ _ (behind c.args.self.now c.add.new.self c.returned_object.new.self _ _ c.in_ok-add.ensures c.in_ok-returned_object.ensures) is) (object_written c.args.notes.now (ident_of c.args.object) (map pair_of c.args.pairs.now)))
    c.add-2.ensures
