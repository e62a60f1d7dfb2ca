-- The list is that of the form, and one of the grammar.
use Rattle.std.proofs.Common.{map, ◌∙◌}
use Rattle.std.proofs.lemmas.Result.{IfOk-weaker}
use Rattle.bundle_merge_injected.specs.Listed.{pair_of}
use Rattle.bundle_merge_injected.proofs.Grammar.{object_returned, stands}
use Rattle.bundle_merge_injected.proofs.Written.{alone}
use Rattle.bundle_merge_injected.proofs.object.return_object.Goals as goal

pub make_node-requires : goal.make_node-requires
make_node-requires c = stands _ _ (c.as_slice.ensures ∙ alone _ _ _ c.new-writer.ensures c.in_ok-returned_object.ensures) (object_returned (map pair_of c.args.pairs.now))

pub returns : goal.returns
returns c = IfOk-weaker c.make_node.result _ _ (λ made is. is ∙ c.as_slice.ensures ∙ alone _ _ _ c.new-writer.ensures c.in_ok-returned_object.ensures) c.make_node.ensures
