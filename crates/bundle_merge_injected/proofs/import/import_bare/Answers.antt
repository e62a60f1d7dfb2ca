-- The list is that of the form, and one of the grammar.
use Rattle.std.proofs.Common.{◌∙◌}
use Rattle.std.proofs.lemmas.Result.{IfOk-weaker}
use Rattle.bundle_merge_injected.proofs.Grammar.{bare_imported, stands}
use Rattle.bundle_merge_injected.proofs.Written.{alone}
use Rattle.bundle_merge_injected.proofs.import.import_bare.Goals as goal

pub make_node-requires : goal.make_node-requires
make_node-requires c = stands _ _ (c.as_slice.ensures ∙ alone _ _ _ c.new-writer.ensures c.in_ok-import_bare.ensures) (bare_imported c.args.specifier.now)

pub returns : goal.returns
returns c = IfOk-weaker c.make_node.result _ _ (λ made is. is ∙ c.as_slice.ensures ∙ alone _ _ _ c.new-writer.ensures c.in_ok-import_bare.ensures) c.make_node.ensures
