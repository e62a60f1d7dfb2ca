-- How many statements of its own a module has: as many as there are items that state something.
use Rattle.std.proofs.Common.{arith, ◌≡◌, ℕ, zero, suc, ◌+◌, Bool, true, false, List, [], ◌∷◌, ◌++◌, length, refl, sym, ap, ap₂, ◌∙◌, append_assoc, length-append}
use Rattle.std.specs.Prelude.{cond, count_by, filter, flat_map}
use Rattle.std.proofs.lemmas.List.Sums.{length-filter}
use Rattle.bundle_syntax.specs.Item as h
use Rattle.bundle_syntax.specs.Item.{Item}
use Rattle.bundle_tree_ast.specs.declared.stmt.Stmt as v_stmt
use Rattle.bundle_tree_ast.specs.declared.decl.Decl as v_decl
use Rattle.bundle_tree_ast.specs.declared.module.Module.{Module}
use Rattle.bundle_tree_ast.specs.declared.module.ModuleItem.{ModuleItem}
use Rattle.bundle_tree_ast.specs.declared.module.ModuleItem.TheVariants as i_item
use Rattle.bundle_tree_ast.specs.declared.module.ModuleDecl.TheVariants as i_decl
use Rattle.bundle_tree_listed.specs.Tree.{decl_items, module_item_items, module_items, stmt_items}
use Rattle.bundle_tree_list.proofs.Modules.{item_single}
use Rattle.bundle_rules.specs.Nodes.{side_by_side}
use Rattle.bundle_rules.specs.Statements.{Element, TopItem, own_statements, placed, stated}
use Rattle.bundle_merge_causes.specs.Shape.{states}

-- one, or none
abbrev one : Bool → ℕ
one true = 1
one false = 0

module _ (start : ℕ) where
  stated-decl : (d : v_decl.Decl) → length (stated start (decl_items 0 d)) ≡ 1
  unfolding decl_items
  stated-decl (v_decl.ClassDecl' _ _ _ _) = refl
  stated-decl (v_decl.FnDecl' _ _ _ _ _ _ _) = refl
  stated-decl (v_decl.VarDecl' _ _ _ _) = refl

  stated-stmt : (s : v_stmt.Stmt) →
      length (stated start (stmt_items 0 s)) ≡ one (states (i_item.Stmt s))
  unfolding stmt_items
  stated-stmt (v_stmt.BlockStmt' _ _) = refl
  stated-stmt v_stmt.EmptyStmt = refl
  stated-stmt v_stmt.DebuggerStmt = refl
  stated-stmt (v_stmt.WithStmt' _ _ _) = refl
  stated-stmt (v_stmt.ReturnStmt' _) = refl
  stated-stmt (v_stmt.LabeledStmt' _ _ _) = refl
  stated-stmt (v_stmt.BreakStmt _) = refl
  stated-stmt (v_stmt.ContinueStmt _) = refl
  stated-stmt (v_stmt.IfStmt' _ _ _ _) = refl
  stated-stmt (v_stmt.SwitchStmt' _ _ _) = refl
  stated-stmt (v_stmt.ThrowStmt _) = refl
  stated-stmt (v_stmt.TryStmt' _ _ _ _) = refl
  stated-stmt (v_stmt.WhileStmt' _ _ _) = refl
  stated-stmt (v_stmt.DoWhileStmt' _ _ _) = refl
  stated-stmt (v_stmt.ForStmt' _ _ _ _ _) = refl
  stated-stmt (v_stmt.ForInStmt' _ _ _ _) = refl
  stated-stmt (v_stmt.ForOfStmt' _ _ _ _ _) = refl
  stated-stmt (v_stmt.Decl d) = stated-decl d
  stated-stmt (v_stmt.ExprStmt _) = refl

  stated-item : (item : ModuleItem) →
      length (stated start (module_item_items 0 item)) ≡ one (states item)
  stated-item (i_item.Stmt s) = stated-stmt s
  stated-item (i_item.ModuleDecl (i_decl.ImportDecl _ _ _)) = refl
  stated-item (i_item.ModuleDecl (i_decl.NamedExport _ _ _)) = refl
  stated-item (i_item.ModuleDecl (i_decl.ExportAll _ _)) = refl
  stated-item (i_item.ModuleDecl (i_decl.ExportDecl _)) = refl
  stated-item (i_item.ModuleDecl (i_decl.ExportDefaultDecl _)) = refl
  stated-item (i_item.ModuleDecl (i_decl.ExportDefaultExpr _)) = refl

-- what top items state
abbrev stated_top : TopItem → List (List Element)
stated_top top = stated top.start top.items

counted : (start : ℕ) (items : List ModuleItem) →
    length
    (flat_map stated_top
    (placed start (side_by_side zero (flat_map (module_item_items 0) items ++ h.Close ∷ []))))
    ≡ length (filter (λ item. states item) items)
counted start [] = refl
counted start (item ∷ items) =
    let xs = module_item_items 0 item in
    let rest = flat_map (module_item_items 0) items in
    let behind = start + length xs in
    ap (λ (l : List Item). length (flat_map stated_top (placed start (side_by_side zero l))))
    (append_assoc xs rest (h.Close ∷ []))
    ∙ (ap (λ (l : List (List Item)). length (flat_map stated_top (placed start l)))
    ((item_single 0 item).beside (rest ++ h.Close ∷ []))
    ∙ (length-append (stated start xs)
    (flat_map stated_top (placed behind (side_by_side zero (rest ++ h.Close ∷ []))))
    ∙ (ap₂ (λ m n. m + n) (stated-item start item) (counted behind items)
    ∙ by (states item) (filter (λ item. states item) items))))
  where
    by : (t : Bool) (l : List ModuleItem) → one t + length l ≡ length (cond t (item ∷ l) l)
    by true l = let same : 1 + length l ≡ suc (length l) = omega arith in same
    by false l = let same : 0 + length l ≡ length l = omega arith in same

pub statements-counted : (tree : Module) →
    length (own_statements (module_items 0 tree)) ≡ count_by states tree.body.items
statements-counted tree =
    counted 1 tree.body.items ∙ length-filter (λ item. states item) tree.body.items
