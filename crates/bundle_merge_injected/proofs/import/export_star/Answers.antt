-- The list is that of the form, and one of the grammar.
use Rattle.std.proofs.Common.{◌∙◌}
use Rattle.std.proofs.lemmas.Result.{IfOk-weaker}
use Rattle.bundle_merge_injected.proofs.Grammar.{star_exported, stands}
use Rattle.bundle_merge_injected.proofs.Written.{alone}
use Rattle.bundle_merge_injected.proofs.import.export_star.Goals as goal

pub make_node-requires : goal.make_node-requires
make_node-requires c = stands _ _ (c.as_slice.ensures ∙ alone _ _ _ c.new-writer.ensures c.in_ok-export_star.ensures) (star_exported c.args.specifier.now)

pub returns : goal.returns
returns c = IfOk-weaker c.make_node.result _ _ (λ made is. is ∙ c.as_slice.ensures ∙ alone _ _ _ c.new-writer.ensures c.in_ok-export_star.ensures) c.make_node.ensures
