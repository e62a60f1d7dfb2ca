-- The call of one function is what the definitions wrap the module in.
use Rattle.bundle_tree_listed.specs.Tree.{module_items, stmt_items}
use Rattle.bundle_merge_forms.proofs.Objects.{wrapped_whole}
use Rattle.bundle_merge_forms.proofs.wrap.wrap_with_iife.Goals as goal

pub returns-clause-wrapped : goal.returns-clause-wrapped
returns-clause-wrapped c = λ can. wrapped_whole _ _ (module_items 0 c.in_ok-made.made) (stmt_items 0 c.in_ok-call.call) c.in_ok-made.ensures c.in_ok-call.ensures c.as_slice.ensures.value can
