-- Modules of statements, with perhaps a list of exports behind them, by what stands in them.
use Rattle.std.specs.Prelude.{◌≡◌, Bool, true, not, List, ◌∷◌, ◌++◌, []}
use Rattle.std.specs.List.{list_all}
use Rattle.bundle_syntax.specs.Item as h
use Rattle.bundle_syntax.specs.Item.{Item}
use Rattle.bundle_rules.specs.Callable.{is_module_head, module_with, IsBack}
use Rattle.bundle_merge_theory.specs.noted.Nodes.{AreNodesInTurn}

-- whether an element begins no module, import or export, and no part of one
abbrev pub is_inner_item : Item → Bool
is_inner_item (h.Open field head) = not (is_module_head head)
is_inner_item (h.Ident field x ctxt role) = true
is_inner_item (h.Hole field) = true
is_inner_item h.Close = true

-- whole nodes, none of which is such a one
pub record AreStatementNodes (items : List Item) : Type 0 where
  pub nodes : AreNodesInTurn items
  pub inner : list_all is_inner_item items ≡ true

-- a module of statements, with perhaps a list of exports of its own names behind them
pub record IsOfStatements (tree : List Item) : Type 0 where
  pub stmts : List Item
  pub back : List Item
  pub is : tree ≡ module_with stmts (back ++ h.Close ∷ [])
  pub statements : AreStatementNodes stmts
  pub ends : IsBack back
