-- A statement has no plain words.
use Rattle.std.proofs.Common.{sym, subst}
use Rattle.bundle_tree_listed.specs.Tree.{module_item_items}
use Rattle.bundle_scope.specs.Named.{AreWordsClear}
use Rattle.bundle_scope.proofs.WordsLemmas.{stmt_clear}
use Rattle.bundle_scope.proofs.words.clear_item.Goals as goal

pub returns-in_default-clause-clear : goal.returns-in_default-clause-clear
returns-in_default-clause-clear c = subst (λ it. AreWordsClear (module_item_items 0 it)) (sym c.in_default.is) (stmt_clear 0 c.in_default.field-0)
