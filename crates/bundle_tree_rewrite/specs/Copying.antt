-- Parts of a tree that have the same list are copies: in each field, and in each role of their
-- names.
use Rattle.std.proofs.Common.{◌≡◌, ℕ, Bool, true, false, cond, List, [], ◌∷◌, sym, refl, ap, ◌∙◌}
use Rattle.bundle_syntax.specs.declared.lit.Lit.TheVariants as i_lit
use Rattle.bundle_syntax.specs.declared.specifier.ModuleExportName as v_module_export_name
use Rattle.bundle_syntax.specs.declared.specifier.ModuleExportName.TheVariants as i_module_export_name
use Rattle.bundle_syntax.specs.declared.specifier.ImportSpecifier.TheVariants as i_import_specifier
use Rattle.bundle_syntax.specs.declared.specifier.ExportSpecifier.TheVariants as i_export_specifier
use Rattle.bundle_tree_ast.specs.declared.module.ModuleItem.TheVariants as i_module_item
use Rattle.bundle_tree_ast.specs.declared.module.ModuleDecl.TheVariants as i_module_decl
use Rattle.bundle_tree_ast.specs.declared.module.DefaultDecl.TheVariants as i_default_decl
use Rattle.bundle_tree_ast.specs.declared.stmt.Stmt as v_stmt
use Rattle.bundle_tree_ast.specs.declared.stmt.ForInit as v_for_init
use Rattle.bundle_tree_ast.specs.declared.stmt.ForHead as v_for_head
use Rattle.bundle_tree_ast.specs.declared.decl.Decl as v_decl
use Rattle.bundle_tree_ast.specs.declared.expr.Expr as v_expr
use Rattle.bundle_tree_ast.specs.declared.expr.ArrowBody as v_arrow_body
use Rattle.bundle_tree_ast.specs.declared.prop.PropOrSpread as v_prop_or_spread
use Rattle.bundle_tree_ast.specs.declared.prop.Prop as v_prop
use Rattle.bundle_tree_ast.specs.declared.pat.Pat as v_pat
use Rattle.bundle_tree_ast.specs.declared.pat.AssignTarget as v_assign_target
use Rattle.bundle_tree_ast.specs.declared.class.ClassMember as v_class_member
use Rattle.bundle_tree_ast.specs.declared.class.ClassMember.TheBlock as block
use Rattle.bundle_syntax.specs.declared.piece.Role.{Role}
use Rattle.bundle_syntax.specs.declared.piece.Role.TheVariants as r
use Rattle.bundle_syntax.specs.Item as h
use Rattle.bundle_syntax.specs.Item.{Item, Head}
use Rattle.bundle_tree_list.proofs.Part.{Part}
use Rattle.bundle_tree_list.proofs.Trees.{same_pat, same_object_pat_prop}
use Rattle.bundle_tree_listed.specs.Tree.{ident_items, binding_ident_items, lit_items, stmt_items, for_init_items, for_head_items, decl_items, expr_items, arrow_body_items, callee_items, held_callee, opt_chain_base_items, held_opt_chain_base, prop_or_spread_items, prop_items, prop_name_items, held_prop_name, member_prop_items, held_member_prop, super_prop_items, held_super_prop, pat_items, array_pat_items, rest_pat_items, object_pat_items, object_pat_prop_items, assign_target_items, class_member_items, module_export_name_items, import_specifier_items, export_specifier_items, default_decl_items, module_decl_items, module_item_items}
use Rattle.bundle_tree_rewrite.specs.Copies.{IsCopyBy, IsPatternCopyBy, IsNameCopyBy}

-- A list in another field.

abbrev pub moved : ℕ → List Item → List Item
moved field [] = []
moved field (h.Open at head ∷ rest) = h.Open field head ∷ rest
moved field (h.Ident at x ctxt role ∷ rest) = h.Ident field x ctxt role ∷ rest
moved field (h.Hole at ∷ rest) = h.Hole at ∷ rest
moved field (h.Close ∷ rest) = h.Close ∷ rest

-- the list in one field gives that in each
abbrev pub Moves : {A : Type 0} → (ℕ → A → List Item) → Type 0
Moves {A} items = (field : ℕ) (it : A) → moved field (items 0 it) ≡ items field it

-- what has the same list, in field 0, is a copy
abbrev pub SameIsCopy : {A : Type 0} → (ℕ → A → List Item) → (A → A → Type 0) → Type 0
SameIsCopy {A} items Copy = (it made : A) → items 0 made ≡ items 0 it → Copy it made

pub copy_by : {A : Type 0} (items : ℕ → A → List Item) → Moves items →
    SameIsCopy items (IsCopyBy items)
copy_by items moves it made is = λ field.
    sym (moves field made) ∙ (ap (moved field) is ∙ moves field it)

pub lit_moves : Moves lit_items
lit_moves field (i_lit.Bool value) = refl
lit_moves field _ = refl

pub expr_moves : Moves expr_items
unfolding stmt_items
expr_moves field (v_expr.Lit it) = lit_moves field it
expr_moves field _ = refl

pub arrow_body_moves : Moves arrow_body_items
unfolding stmt_items
arrow_body_moves field (v_arrow_body.BlockStmt' s stmts) = refl
arrow_body_moves field (v_arrow_body.Expr' b it) = expr_moves field it

held_callee_moves : Moves held_callee
unfolding stmt_items
held_callee_moves field block.Super' = refl
held_callee_moves field block.Import' = refl
held_callee_moves field (block.Expr-CallExpr-0-Expr' b it) = expr_moves field it

pub callee_moves : Moves callee_items
callee_moves field it = held_callee_moves field (block.back-Expr-CallExpr-0 it)

link_moves : Moves held_opt_chain_base
unfolding stmt_items
link_moves field (block.Expr-OptChainExpr-1-MemberExpr' b obj prop) = refl
link_moves field (block.OptCall' b callee s args) = refl

pub opt_chain_base_moves : Moves opt_chain_base_items
opt_chain_base_moves field it = link_moves field (block.back-Expr-OptChainExpr-1 it)

pub prop_moves : Moves prop_items
unfolding stmt_items
prop_moves field (v_prop.Shorthand it) = refl
prop_moves field _ = refl

pub prop_or_spread_moves : Moves prop_or_spread_items
unfolding stmt_items
prop_or_spread_moves field (v_prop_or_spread.SpreadElement expr) = refl
prop_or_spread_moves field (v_prop_or_spread.Prop it) = prop_moves field it

key_moves : Moves held_prop_name
unfolding stmt_items
key_moves field (block.Str' it) = refl
key_moves field _ = refl

pub prop_name_moves : Moves prop_name_items
prop_name_moves field it = key_moves field (block.back-ClassMember-ClassMethod-0 it)

member_key_moves : Moves held_member_prop
unfolding stmt_items
member_key_moves field (block.Expr-MemberExpr-0-7-IdentName' it) = refl
member_key_moves field _ = refl

pub member_prop_moves : Moves member_prop_items
member_prop_moves field it = member_key_moves field (block.back-Expr-MemberExpr-0-7 it)

super_key_moves : Moves held_super_prop
unfolding stmt_items
super_key_moves field (block.Expr-SuperPropExpr-0-4-IdentName' it) = refl
super_key_moves field _ = refl

pub super_prop_moves : Moves super_prop_items
super_prop_moves field it = super_key_moves field (block.back-Expr-SuperPropExpr-0-4 it)

pub assign_target_moves : Moves assign_target_items
unfolding stmt_items
assign_target_moves field (v_assign_target.BindingIdent it) = refl
assign_target_moves field _ = refl

pub class_member_moves : Moves class_member_items
unfolding stmt_items
class_member_moves field v_class_member.EmptyStmt = refl
class_member_moves field _ = refl

pub decl_moves : Moves decl_items
unfolding stmt_items
decl_moves field (v_decl.VarDecl' kind s decls meta) = refl
decl_moves field _ = refl

pub stmt_moves : Moves stmt_items
unfolding stmt_items
stmt_moves field (v_stmt.Decl it) = decl_moves field it
stmt_moves field _ = refl

pub for_init_moves : Moves for_init_items
unfolding stmt_items
for_init_moves field (v_for_init.VarDecl' kind s decls meta) = refl
for_init_moves field (v_for_init.Expr it) = expr_moves field it

pat_moves : (role : Role) → Moves (pat_items role)
unfolding stmt_items
pat_moves role field (v_pat.Expr' b it) = expr_moves field it
pat_moves role field _ = refl

pub for_head_moves : Moves for_head_items
unfolding stmt_items
for_head_moves field (v_for_head.VarDecl' kind s decls meta) = refl
for_head_moves field (v_for_head.Pat it) = pat_moves r.Reference field it

pub import_moves : Moves import_specifier_items
import_moves field (i_import_specifier.ImportDefaultSpecifier local) = refl
import_moves field _ = refl

pub default_moves : Moves default_decl_items
default_moves field (i_default_decl.ClassExpr name body) = refl
default_moves field _ = refl

pub module_decl_moves : Moves module_decl_items
module_decl_moves field (i_module_decl.ExportDecl decl) = refl
module_decl_moves field _ = refl

pub module_item_moves : Moves module_item_items
module_item_moves field (i_module_item.ModuleDecl it) = module_decl_moves field it
module_item_moves field (i_module_item.Stmt it) = stmt_moves field it

-- A name in another role: the identifier itself, or that which stands first in a node. Of a whole
-- namespace the role is always that of a word.

is_namespace : Head → Bool
is_namespace h.ExportNamespaceSpecifier = true
is_namespace _ = false

first_in : Role → List Item → List Item
first_in role (h.Ident at x ctxt found ∷ rest) = h.Ident at x ctxt role ∷ rest
first_in role list = list

in_role : Role → ℕ → List Item → List Item
in_role role field (h.Ident at x ctxt found ∷ rest) = h.Ident field x ctxt role ∷ rest
in_role role field (h.Open at head ∷ rest) =
    h.Open field head ∷ cond (is_namespace head) rest (first_in role rest)
in_role role field list = list

abbrev Turns : {A : Type 0} → Role → (Role → ℕ → A → List Item) → Type 0
Turns {A} from items =
    (role : Role) (field : ℕ) (it : A) → in_role role field (items from 0 it) ≡ items role field it

name_copy : {A : Type 0} (from : Role) (items : Role → ℕ → A → List Item) → Turns from items →
    SameIsCopy (items from) (IsNameCopyBy items)
name_copy from items turns it made is = λ role field.
    sym (turns role field made) ∙ (ap (in_role role field) is ∙ turns role field it)

pub ident_copy : SameIsCopy (ident_items r.Word) (IsNameCopyBy ident_items)
unfolding in_role
ident_copy = name_copy r.Word ident_items (λ role field one. refl)

pub binding_ident_copy :
    SameIsCopy (binding_ident_items r.Binding) (IsNameCopyBy binding_ident_items)
unfolding in_role first_in is_namespace
binding_ident_copy = name_copy r.Binding binding_ident_items (λ role field one. refl)

export_name_turns : Turns r.Word module_export_name_items
unfolding in_role first_in is_namespace
export_name_turns role field (i_module_export_name.Ident it) = refl
export_name_turns role field (i_module_export_name.Str it) = refl

pub export_name_copy :
    SameIsCopy (module_export_name_items r.Word) (IsNameCopyBy module_export_name_items)
export_name_copy = name_copy r.Word module_export_name_items export_name_turns

-- by the first of its names
export_turns : Turns r.Word export_specifier_items
unfolding in_role first_in is_namespace
export_turns role field (i_export_specifier.ExportNamespaceSpecifier name) = refl
export_turns role field (i_export_specifier.ExportNamedSpecifier orig exported) =
    elim orig as
    (λ (o : v_module_export_name.ModuleExportName).
    in_role role field
    (export_specifier_items r.Word 0 (i_export_specifier.ExportNamedSpecifier o exported))
    ≡ export_specifier_items role field (i_export_specifier.ExportNamedSpecifier o exported))
    [ i_module_export_name.Ident it ↦ refl | i_module_export_name.Str it ↦ refl ]

pub export_copy :
    SameIsCopy (export_specifier_items r.Word) (IsNameCopyBy export_specifier_items)
export_copy = name_copy r.Word export_specifier_items export_turns

-- A pattern, whose names bind or refer: trees are equal where their lists are, in whatever role.

turned : {field other : ℕ} {test : Bool} {one two three four : List Item} →
    Part field test one two →
    Part other test three four →
    one ≡ two →
    three ≡ four
turned before after is = after.same.0 (before.same.1 is)

pub pat_copy : SameIsCopy (pat_items r.Binding) (IsPatternCopyBy pat_items)
pat_copy it made is = λ role occurs field.
    turned (same_pat r.Binding 0 made it) (same_pat role field made it) is

pub object_pat_prop_copy :
    SameIsCopy (object_pat_prop_items r.Binding) (IsPatternCopyBy object_pat_prop_items)
object_pat_prop_copy it made is = λ role occurs field.
    turned (same_object_pat_prop r.Binding 0 made it) (same_object_pat_prop role field made it) is

pub array_pat_copy : SameIsCopy (array_pat_items r.Binding) (IsPatternCopyBy array_pat_items)
unfolding stmt_items
array_pat_copy it made is = pat_copy (v_pat.ArrayPat it) (v_pat.ArrayPat made) is

pub rest_pat_copy : SameIsCopy (rest_pat_items r.Binding) (IsPatternCopyBy rest_pat_items)
unfolding stmt_items
rest_pat_copy it made is = pat_copy (v_pat.RestPat it) (v_pat.RestPat made) is

pub object_pat_copy : SameIsCopy (object_pat_items r.Binding) (IsPatternCopyBy object_pat_items)
unfolding stmt_items
object_pat_copy it made is = pat_copy (v_pat.ObjectPat it) (v_pat.ObjectPat made) is
