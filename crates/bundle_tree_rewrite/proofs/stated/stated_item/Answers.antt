-- What was made is a statement, if there is something.
use Rattle.std.proofs.Common.{◌≡◌, [], map, ap, sym, subst}
use Rattle.std.specs.Prelude.{◌⊎◌}
use Rattle.bundle_syntax.specs.Item.{item_of}
use Rattle.bundle_tree_parse.specs.Sorts.{AStmt}
use Rattle.bundle_tree_parse.specs.Standing.{IsIn}
use Rattle.bundle_tree_rewrite.proofs.grammar.States.{states_in}
use Rattle.bundle_tree_rewrite.proofs.stated.stated_item.Goals as goal

pub statement_of-requires : goal.statement_of-requires
statement_of-requires c =
    subst (λ list. (list ≡ []) ⊎ IsIn AStmt 0 list) (sym (ap (map item_of) c.deref-2.ensures.value)) (states_in c.in_ok-made.ensures)
