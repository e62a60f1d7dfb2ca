-- One part behind the other.
use Rattle.std.proofs.Common.{◌∙◌, sym}
use Rattle.std.proofs.lemmas.Result.{on_ok_weaker}
use Rattle.bundle_tree_places.specs.Marks.{ident_of}
use Rattle.bundle_merge_injected.proofs.Loads.{loads_both, loads_whole}
use Rattle.bundle_merge_injected.proofs.Written.{behind, written}
use Rattle.bundle_merge_injected.proofs.list.PieceWriter.load_whole.Goals as goal

pub returns-then-is_empty : goal.returns-then-is_empty
returns-then-is_empty c =
    on_ok_weaker c.add-then-is_empty.result
    (λ is. written c.args.self.now c.add-then-is_empty.new.self _ _ (behind c.args.self.now c.add.new.self c.add-then-is_empty.new.self _ _ c.in_ok-add.ensures is) (rw c.requires (loads_whole (ident_of c.args.load) (ident_of c.args.whole) c.args.names.now (sym c.is_empty.ensures ∙ c.if-is_empty.true))))
    c.add-then-is_empty.ensures

pub returns : goal.returns
returns c =
    on_ok_weaker c.add-3.result
    (λ is. written c.args.self.now c.add-3.new.self _ _ (behind c.args.self.now c.load_pattern.new.self c.add-3.new.self _ _ (behind c.args.self.now c.add-2.new.self c.load_pattern.new.self _ _ (behind c.args.self.now c.add.new.self c.add-2.new.self _ _ c.in_ok-add.ensures c.in_ok-add-2.ensures) c.in_ok-load_pattern.ensures) is) (rw c.requires (loads_both (ident_of c.args.load) (ident_of c.args.whole) c.args.names.now (sym c.is_empty.ensures ∙ c.if-is_empty.false))))
    c.add-3.ensures
