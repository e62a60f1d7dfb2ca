-- A tree that is rebuilt without changes is the same.
-- What a statement states by its list is what it states by the lists of its parts.
use Rattle.std.proofs.Common.{◌≡◌, ℕ, suc, ◌==◌, ◌&&◌, List, [], ◌∷◌, ◌++◌, refl, ap, ◌∙◌, ◌≢◌, true, sym, subst}
use Rattle.std.specs.Prelude.{if◌then◌else◌}
use Rattle.std.proofs.lemmas.Bool.{and_right}
use Rattle.bundle_syntax.specs.Item as h
use Rattle.bundle_syntax.specs.Item.{Item, Head}
use Rattle.bundle_syntax.specs.declared.piece.Role.TheVariants as r
use Rattle.bundle_syntax.specs.declared.lit.Lit.TheVariants as i_lit
use Rattle.bundle_syntax.specs.declared.lit.Lit as v_lit
use Rattle.bundle_rules.specs.Places.{Around, path_at}
use Rattle.bundle_rules.specs.Shorthands.{has_default, is_shorthand_in_pattern}
use Rattle.bundle_rules.specs.Rebuilds.{is_key_spelled_out, new_begin, new_end, new_item, rebuilt_from, rebuilt}
use Rattle.bundle_tree_ast.specs.declared.module.ModuleItem.{ModuleItem}
use Rattle.bundle_rules.specs.Idents.{Ident}
use Rattle.bundle_rules.specs.Cleared.{cleared, cleared_head}
use Rattle.bundle_rules.specs.Statements.{Element, moved_to, stated}
use Rattle.bundle_rules.proofs.HeadLemmas.{of_head}
use Rattle.bundle_tree_ast.specs.declared.stmt.Stmt as v_stmt
use Rattle.bundle_tree_ast.specs.declared.decl.Decl as v_decl
use Rattle.bundle_tree_ast.specs.declared.expr.Expr as v_expr
use Rattle.bundle_tree_listed.specs.Tree as k
use Rattle.bundle_tree_listed.specs.Tree.{stmt_items, decl_items, expr_items, module_item_items}
use Rattle.bundle_tree_places.specs.Edits.{Anywhere, node}
use Rattle.bundle_tree_rebuild.specs.Becomes.{Becomes, Joined}
use Rattle.bundle_tree_rebuild.specs.Work.{Work}
use Rattle.bundle_tree_rewrite.specs.Stated.{States, Own, OfDefault, ImportStates, ListStates, StarStates, EmptyStates, StatementStates, DeclarationStates, ValueStates, FunctionStates, ClassStates}
use Rattle.bundle_merge_theory.specs.noted.Stated.{states_itself}
use Rattle.bundle_merge_theory.proofs.noted.Statements.{itself_stated}
use Rattle.bundle_merge_theory.specs.walked.Stated as w
use Rattle.bundle_merge_theory.specs.walked.Stated.{StatesList}

-- ---- copies
begin-stays : (tree : List Item) (place field : ℕ) (around : List Around) (head : Head) →
    new_begin tree [] place field around head ≡ h.Open field head ∷ []
begin-stays tree place field around h.AssignPatProp = refl
begin-stays tree place field [] _ = refl
begin-stays tree place field (node ∷ outer) head =
    ap (λ b. if b then h.Open (if has_default tree node.begins then 0 else 1) head ∷ [] else h.Open field head ∷ [])
    (and_right (is_shorthand_in_pattern node.head && node.field == 0) (is_key_spelled_out tree [] node.begins) refl)

end-stays : (tree : List Item) (around : List Around) → new_end tree [] around ≡ h.Close ∷ []
end-stays tree [] = refl
end-stays tree (node ∷ outer) =
    ap (λ b. if b then h.Close ∷ h.Close ∷ [] else h.Close ∷ [])
    (and_right (is_shorthand_in_pattern node.head && has_default tree node.begins) (is_key_spelled_out tree [] node.begins) refl)

item-stays : (tree : List Item) (place : ℕ) (x : Item) →
    new_item tree [] place (path_at tree place) x ≡ x ∷ []
item-stays tree place (h.Open field head) = begin-stays tree place field (path_at tree place) head
item-stays tree place (h.Ident field x ctxt r.Word) = refl
item-stays tree place (h.Ident field x ctxt r.Binding) = refl
item-stays tree place (h.Ident field x ctxt r.Reference) = refl
item-stays tree place (h.Hole field) = refl
item-stays tree place h.Close = end-stays tree (path_at tree place)

all-stay : (tree : List Item) (place : ℕ) (items : List Item) →
    rebuilt_from tree [] place items ≡ items
all-stay tree place [] = refl
all-stay tree place (x ∷ items) =
    ap (λ made. made ++ rebuilt_from tree [] (suc place) items) (item-stays tree place x)
    ∙ ap (λ more. x ∷ more) (all-stay tree (suc place) items)

pub rebuilt-none : (tree : List Item) → rebuilt tree [] ≡ tree
rebuilt-none tree = all-stay tree 0 tree

-- ---- stating

-- a list is one node, which states itself
record IsStating (items : List Item) : Type 0 where
  pub head : Head
  pub inside : List Item
  pub is : items ≡ node 0 head inside
  pub states : states_itself head ≡ true

decl-stating : (decl : v_decl.Decl) → IsStating (decl_items 0 decl)
unfolding stmt_items
decl-stating (v_decl.ClassDecl' ident super_class _ body) = record { head = _; inside = (k.ident_items r.Binding 0 ident ++ (node 1 h.Class (k.held_option_boxed_expr 0 super_class ++ k.row_of_class_member 1 body))); is = refl; states = refl }
decl-stating (v_decl.FnDecl' ident _ params _ stmts is_generator is_async) = record { head = _; inside = (k.ident_items r.Binding 0 ident ++ (node 1 (h.Function is_generator is_async) (k.row_of_param 0 params ++ (node 1 h.BlockStmt (k.row_of_stmt 0 stmts))))); is = refl; states = refl }
decl-stating (v_decl.VarDecl' kind _ decls meta) = record { head = _; inside = _; is = refl; states = refl }

stmt-stating : (stmt : v_stmt.Stmt) → stmt ≢ v_stmt.EmptyStmt → IsStating (stmt_items 0 stmt)
unfolding stmt_items
stmt-stating (v_stmt.BlockStmt' _ stmts) filled = record { head = _; inside = _; is = refl; states = refl }
stmt-stating v_stmt.EmptyStmt filled = absurd (filled refl)
stmt-stating v_stmt.DebuggerStmt filled = record { head = _; inside = []; is = refl; states = refl }
stmt-stating (v_stmt.WithStmt' obj _ body) filled = record { head = _; inside = _; is = refl; states = refl }
stmt-stating (v_stmt.ReturnStmt' arg) filled = record { head = _; inside = _; is = refl; states = refl }
stmt-stating (v_stmt.LabeledStmt' label _ body) filled = record { head = _; inside = (k.ident_name_items 0 label ++ k.stmt_items 1 body); is = refl; states = refl }
stmt-stating (v_stmt.BreakStmt label) filled = record { head = _; inside = _; is = refl; states = refl }
stmt-stating (v_stmt.ContinueStmt label) filled = record { head = _; inside = _; is = refl; states = refl }
stmt-stating (v_stmt.IfStmt' test _ cons alt) filled = record { head = _; inside = _; is = refl; states = refl }
stmt-stating (v_stmt.SwitchStmt' discriminant _ cases) filled = record { head = _; inside = _; is = refl; states = refl }
stmt-stating (v_stmt.ThrowStmt arg) filled = record { head = _; inside = _; is = refl; states = refl }
stmt-stating (v_stmt.TryStmt' _ stmts handler finalizer) filled = record { head = _; inside = (node 0 h.BlockStmt (k.row_of_stmt 0 stmts) ++ (k.held_option_catch_clause 1 handler ++ k.held_option_block_stmt 2 finalizer)); is = refl; states = refl }
stmt-stating (v_stmt.WhileStmt' test _ body) filled = record { head = _; inside = _; is = refl; states = refl }
stmt-stating (v_stmt.DoWhileStmt' _ body test) filled = record { head = _; inside = _; is = refl; states = refl }
stmt-stating (v_stmt.ForStmt' init test update _ body) filled = record { head = _; inside = _; is = refl; states = refl }
stmt-stating (v_stmt.ForInStmt' left right _ body) filled = record { head = _; inside = _; is = refl; states = refl }
stmt-stating (v_stmt.ForOfStmt' is_await left right _ body) filled = record { head = _; inside = _; is = refl; states = refl }
stmt-stating (v_stmt.Decl it) filled = decl-stating it
stmt-stating (v_stmt.ExprStmt expr) filled = record { head = _; inside = _; is = refl; states = refl }

-- an expression begins with an item, and stands in another field by that
pub record IsMoved (items other : List Item) : Type 0 where
  pub first : Item
  pub more : List Item
  pub is : items ≡ first ∷ more
  pub moved : other ≡ moved_to 1 first ∷ more

lit-moved : (it : v_lit.Lit) → IsMoved (k.lit_items 0 it) (k.lit_items 1 it)
lit-moved (i_lit.Str it) = record { first = _; more = _; is = refl; moved = refl }
lit-moved (i_lit.Bool value) = record { first = _; more = _; is = refl; moved = refl }
lit-moved i_lit.Null = record { first = _; more = _; is = refl; moved = refl }
lit-moved (i_lit.Number it) = record { first = _; more = _; is = refl; moved = refl }
lit-moved (i_lit.BigInt it) = record { first = _; more = _; is = refl; moved = refl }
lit-moved (i_lit.Regex it) = record { first = _; more = _; is = refl; moved = refl }

pub expr-moved : (expr : v_expr.Expr) → IsMoved (expr_items 0 expr) (expr_items 1 expr)
unfolding stmt_items
expr-moved v_expr.ThisExpr = record { first = _; more = _; is = refl; moved = refl }
expr-moved (v_expr.ArrayLit' _ elems) = record { first = _; more = _; is = refl; moved = refl }
expr-moved (v_expr.ObjectLit' _ props) = record { first = _; more = _; is = refl; moved = refl }
expr-moved (v_expr.FnExpr' ident _ params _ stmts is_generator is_async) = record { first = _; more = _; is = refl; moved = refl }
expr-moved (v_expr.UnaryExpr' op _ arg) = record { first = _; more = _; is = refl; moved = refl }
expr-moved (v_expr.UpdateExpr' op prefix _ arg) = record { first = _; more = _; is = refl; moved = refl }
expr-moved (v_expr.BinExpr' op _ left _ right) = record { first = _; more = _; is = refl; moved = refl }
expr-moved (v_expr.AssignExpr' op left _ right) = record { first = _; more = _; is = refl; moved = refl }
expr-moved (v_expr.MemberExpr' _ obj prop) = record { first = _; more = _; is = refl; moved = refl }
expr-moved (v_expr.SuperPropExpr' prop) = record { first = _; more = _; is = refl; moved = refl }
expr-moved (v_expr.CondExpr' _ test _ cons _ alt) = record { first = _; more = _; is = refl; moved = refl }
expr-moved (v_expr.CallExpr' callee _ args) = record { first = _; more = _; is = refl; moved = refl }
expr-moved (v_expr.NewExpr' _ callee args) = record { first = _; more = _; is = refl; moved = refl }
expr-moved (v_expr.SeqExpr' _ exprs) = record { first = _; more = _; is = refl; moved = refl }
expr-moved (v_expr.Ident it) = record { first = _; more = _; is = refl; moved = refl }
expr-moved (v_expr.Lit it) = lit-moved it
expr-moved (v_expr.Tpl' _ exprs quasis) = record { first = _; more = _; is = refl; moved = refl }
expr-moved (v_expr.TaggedTpl' _ tag _ exprs quasis) = record { first = _; more = _; is = refl; moved = refl }
expr-moved (v_expr.ArrowExpr' _ params body is_async) = record { first = _; more = _; is = refl; moved = refl }
expr-moved (v_expr.ClassExpr' ident super_class _ body) = record { first = _; more = _; is = refl; moved = refl }
expr-moved (v_expr.YieldExpr' arg delegate) = record { first = _; more = _; is = refl; moved = refl }
expr-moved (v_expr.MetaPropExpr kind) = record { first = _; more = _; is = refl; moved = refl }
expr-moved (v_expr.AwaitExpr' _ arg) = record { first = _; more = _; is = refl; moved = refl }
expr-moved (v_expr.ParenExpr' _ expr) = record { first = _; more = _; is = refl; moved = refl }
expr-moved (v_expr.PrivateName it) = record { first = _; more = _; is = refl; moved = refl }
expr-moved (v_expr.OptChainExpr' optional base) = record { first = _; more = _; is = refl; moved = refl }

-- `StatesOne work default items made`: a top item with this list states nothing, and nothing is made;
-- or it states one statement, which is made
pub data StatesOne (work : Work) (default : Ident) (items made : List Item) : Type 0 where
  states_nothing : ((start : ℕ) → stated start (cleared items) ≡ []) →
      made ≡ [] →
      StatesOne work default items made
  states_this : ((start : ℕ) → (statement : List Element)
      × (stated start (cleared items) ≡ statement ∷ [])) →
      StatesList work default items made →
      StatesOne work default items made

-- a node that states itself, cleared, states one statement
itself-one : (field : ℕ) (head : Head) (inside : List Item) → states_itself head ≡ true →
    (start : ℕ) → (statement : List Element)
    × (stated start (cleared (node field head inside)) ≡ statement ∷ [])
itself-one field head inside itself start = (
  _,
  itself_stated (cleared_head head)
      (of_head states_itself (λ meta. (refl, refl, refl, λ kind. refl)) head ∙ itself) start
      (cleared (node field head inside)),
)

-- what an item states
pub states-one : (work : Work) (default : Ident) (item : ModuleItem) (made : List Item) →
    States work default item made →
    StatesOne work default (module_item_items 0 item) made
unfolding stmt_items
states-one work default _ _ ImportStates = states_nothing (λ start. refl) refl
states-one work default _ _ ListStates = states_nothing (λ start. refl) refl
states-one work default _ _ StarStates = states_nothing (λ start. refl) refl
states-one work default _ _ EmptyStates = states_nothing (λ start. refl) refl
states-one work default _ made (StatementStates {stmt} other its) =
    let whole = stmt-stating stmt other in
    subst (λ items. StatesOne work default items made) (sym whole.is)
    (states_this (itself-one 0 whole.head whole.inside whole.states)
    (w.StatementStates 0 whole.head whole.inside whole.states
    (subst (λ items. Becomes Anywhere work items made its.rest) whole.is its.by)))
states-one work default _ made (DeclarationStates {decl} its) =
    states_this (λ start. (_, refl)) (w.DeclarationStates 0 (decl_items 0 decl) its.by)
states-one work default _ _ (ValueStates {expr} {value} its) =
    let moved = expr-moved expr in
    states_this (λ start. (_, refl))
    (subst (λ items. StatesList work default (node 0 h.ExportDefaultExpr items) (w.constant_declared default value)) (sym moved.is)
    (w.ValueStates 0 moved.first moved.more
    (subst (λ items. Becomes Anywhere work items value its.rest) moved.moved its.by)))
states-one work default _ _ (FunctionStates (Own its) by) =
    states_this (λ start. (_, refl)) (w.OwnStates 0 0 0 _ _ r.Binding h.FnExpr _ refl (Joined its by))
states-one work default _ _ (FunctionStates OfDefault by) =
    states_this (λ start. (_, refl)) (w.DefaultStates 0 0 1 h.FnExpr _ _ refl by)
states-one work default _ _ (ClassStates (Own its) by) =
    states_this (λ start. (_, refl)) (w.OwnStates 0 0 0 _ _ r.Binding h.ClassExpr _ refl (Joined its by))
states-one work default _ _ (ClassStates OfDefault by) =
    states_this (λ start. (_, refl)) (w.DefaultStates 0 0 1 h.ClassExpr _ _ refl by)
