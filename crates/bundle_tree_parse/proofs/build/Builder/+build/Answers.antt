-- What is taken of a place, and what is made of it: a node that begins there, what it holds, and its end.
use Rattle.std.proofs.Common.{arith, ◌∙◌, ◌∷◌, ◌++◌, List, ap}
use Rattle.bundle_syntax.specs.Item as h
use Rattle.bundle_syntax.specs.Item.{Item, head_of}
use Rattle.bundle_syntax.specs.declared.piece.Node.{Node}
use Rattle.bundle_syntax.specs.declared.piece.Role.TheVariants as r
use Rattle.bundle_tree_listed.specs.Tree.{arrow_body_items, assign_target_items, block_stmt_items, callee_items, catch_clause_items, class_items, class_member_items, expr_items, expr_or_spread_items, for_head_items, for_init_items, function_items, ident_items, member_prop_items, object_pat_prop_items, opt_chain_base_items, option_block_stmt_items, option_catch_clause_items, option_expr_items, option_for_init_items, param_items, pat_items, prop_name_items, prop_or_spread_items, stmt_items, super_prop_items, switch_case_items, tpl_items, var_declarator_items}
use Rattle.bundle_tree_parse.specs.Parse.{after_inside, taken}
use Rattle.bundle_tree_parse.proofs.Misplaced.{other_arrow_body, other_assign_target, other_callee, other_decl, other_for_head, other_for_init, other_member_prop, other_opt_chain_base, other_pat, other_prop_name, other_prop_or_spread, other_super_prop}
use Rattle.bundle_tree_parse.specs.Sorts.{ABlock, ACallee, ACase, AClass, AClassMember, ADeclarator, AFunction, AHandler, AKey, ALink, ALoopHead, AMemberKey, AParameter, APattern, APatternProperty, APropertyOrSpread, AStmt, ASuperKey, ATarget, ATemplate, AnArgument, AnArrowBody, AnExpr, AnInit}
use Rattle.bundle_tree_parse.proofs.Made as made
use Rattle.bundle_tree_parse.proofs.Parsing.{building, place_built}
use Rattle.bundle_tree_parse.proofs.build.Builder.+build.Goals as goal

pub arrow_body-returns : goal.arrow_body-returns
arrow_body-returns t c =
    place_built c.arrow_body_of-it.result c.leave.result arrow_body_items c.args.field _ _ _ _ _ _ _
    (c.in_ok-node.ensures.taken AnArrowBody) c.in_ok-node.ensures.item c.arrow_body_of-it.ensures c.leave.ensures

pub assign_target-returns : goal.assign_target-returns
assign_target-returns t c =
    place_built c.assign_target_of-it.result c.leave.result assign_target_items c.args.field _ _ _ _ _ _ _
    (c.in_ok-node.ensures.taken ATarget) c.in_ok-node.ensures.item c.assign_target_of-it.ensures c.leave.ensures

pub block_stmt-returns : goal.block_stmt-returns
block_stmt-returns t c =
    place_built c.block_stmt_of-it.result c.leave.result block_stmt_items c.args.field _ _ _ _ _ _ _
    (c.in_ok-node.ensures.taken ABlock) c.in_ok-node.ensures.item c.block_stmt_of-it.ensures c.leave.ensures

pub callee-returns : goal.callee-returns
callee-returns t c =
    place_built c.callee_of-it.result c.leave.result callee_items c.args.field _ _ _ _ _ _ _
    (c.in_ok-node.ensures.taken ACallee) c.in_ok-node.ensures.item c.callee_of-it.ensures c.leave.ensures

pub catch_clause-returns : goal.catch_clause-returns
catch_clause-returns t c =
    place_built c.catch_clause_of-it.result c.leave.result catch_clause_items c.args.field _ _ _ _ _ _ _
    (c.in_ok-node.ensures.taken AHandler) c.in_ok-node.ensures.item c.catch_clause_of-it.ensures c.leave.ensures

pub class-returns : goal.class-returns
class-returns t c =
    place_built c.class_of-it.result c.leave.result class_items c.args.field _ _ _ _ _ _ _
    (c.in_ok-node.ensures.taken AClass) c.in_ok-node.ensures.item c.class_of-it.ensures c.leave.ensures

pub class_member-returns : goal.class_member-returns
class_member-returns t c =
    place_built c.class_member_of-it.result c.leave.result class_member_items c.args.field _ _ _ _ _ _ _
    (c.in_ok-node.ensures.taken AClassMember) c.in_ok-node.ensures.item c.class_member_of-it.ensures c.leave.ensures

pub expr-returns : goal.expr-returns
expr-returns t c =
    place_built c.expr_of-it.result c.leave.result expr_items c.args.field _ _ _ _ _ _ _
    (c.in_ok-node.ensures.taken AnExpr) c.in_ok-node.ensures.item c.expr_of-it.ensures c.leave.ensures

pub expr_or_spread-returns : goal.expr_or_spread-returns
expr_or_spread-returns t c =
    place_built c.expr_or_spread_of-it.result c.leave.result expr_or_spread_items c.args.field _ _ _ _ _ _ _
    (c.in_ok-node.ensures.taken AnArgument) c.in_ok-node.ensures.item c.expr_or_spread_of-it.ensures c.leave.ensures

pub for_head-returns : goal.for_head-returns
for_head-returns t c =
    place_built c.for_head_of-it.result c.leave.result for_head_items c.args.field _ _ _ _ _ _ _
    (c.in_ok-node.ensures.taken ALoopHead) c.in_ok-node.ensures.item c.for_head_of-it.ensures c.leave.ensures

pub for_init-returns : goal.for_init-returns
for_init-returns t c =
    place_built c.for_init_of-it.result c.leave.result for_init_items c.args.field _ _ _ _ _ _ _
    (c.in_ok-node.ensures.taken AnInit) c.in_ok-node.ensures.item c.for_init_of-it.ensures c.leave.ensures

pub function-returns : goal.function-returns
function-returns t c =
    place_built c.function_of-it.result c.leave.result function_items c.args.field _ _ _ _ _ _ _
    (c.in_ok-node.ensures.taken AFunction) c.in_ok-node.ensures.item c.function_of-it.ensures c.leave.ensures

pub member_prop-returns : goal.member_prop-returns
member_prop-returns t c =
    place_built c.member_prop_of-it.result c.leave.result member_prop_items c.args.field _ _ _ _ _ _ _
    (c.in_ok-node.ensures.taken AMemberKey) c.in_ok-node.ensures.item c.member_prop_of-it.ensures c.leave.ensures

pub object_pat_prop-returns : goal.object_pat_prop-returns
object_pat_prop-returns t c =
    place_built c.object_pat_prop_of-it.result c.leave.result (object_pat_prop_items c.args.role) c.args.field _ _ _ _ _ _ _
    (c.in_ok-node.ensures.taken (APatternProperty c.args.role)) c.in_ok-node.ensures.item c.object_pat_prop_of-it.ensures c.leave.ensures

pub opt_chain_base-returns : goal.opt_chain_base-returns
opt_chain_base-returns t c =
    place_built c.opt_chain_base_of-it.result c.leave.result opt_chain_base_items c.args.field _ _ _ _ _ _ _
    (c.in_ok-node.ensures.taken ALink) c.in_ok-node.ensures.item c.opt_chain_base_of-it.ensures c.leave.ensures

pub param-returns : goal.param-returns
param-returns t c =
    place_built c.param_of-it.result c.leave.result param_items c.args.field _ _ _ _ _ _ _
    (c.in_ok-node.ensures.taken AParameter) c.in_ok-node.ensures.item c.param_of-it.ensures c.leave.ensures

pub pat-returns : goal.pat-returns
pat-returns t c =
    place_built c.pat_of-it.result c.leave.result (pat_items c.args.role) c.args.field _ _ _ _ _ _ _
    (c.in_ok-node.ensures.taken (APattern c.args.role)) c.in_ok-node.ensures.item c.pat_of-it.ensures c.leave.ensures

pub prop_name-returns : goal.prop_name-returns
prop_name-returns t c =
    place_built c.prop_name_of-it.result c.leave.result prop_name_items c.args.field _ _ _ _ _ _ _
    (c.in_ok-node.ensures.taken AKey) c.in_ok-node.ensures.item c.prop_name_of-it.ensures c.leave.ensures

pub prop_or_spread-returns : goal.prop_or_spread-returns
prop_or_spread-returns t c =
    place_built c.prop_or_spread_of-it.result c.leave.result prop_or_spread_items c.args.field _ _ _ _ _ _ _
    (c.in_ok-node.ensures.taken APropertyOrSpread) c.in_ok-node.ensures.item c.prop_or_spread_of-it.ensures c.leave.ensures

pub stmt-returns : goal.stmt-returns
stmt-returns t c =
    place_built c.stmt_of-it.result c.leave.result stmt_items c.args.field _ _ _ _ _ _ _
    (c.in_ok-node.ensures.taken AStmt) c.in_ok-node.ensures.item c.stmt_of-it.ensures c.leave.ensures

pub super_prop-returns : goal.super_prop-returns
super_prop-returns t c =
    place_built c.super_prop_of-it.result c.leave.result super_prop_items c.args.field _ _ _ _ _ _ _
    (c.in_ok-node.ensures.taken ASuperKey) c.in_ok-node.ensures.item c.super_prop_of-it.ensures c.leave.ensures

pub switch_case-returns : goal.switch_case-returns
switch_case-returns t c =
    place_built c.switch_case_of-it.result c.leave.result switch_case_items c.args.field _ _ _ _ _ _ _
    (c.in_ok-node.ensures.taken ACase) c.in_ok-node.ensures.item c.switch_case_of-it.ensures c.leave.ensures

pub tpl-returns : goal.tpl-returns
tpl-returns t c =
    place_built c.tpl_of-it.result c.leave.result tpl_items c.args.field _ _ _ _ _ _ _
    (c.in_ok-node.ensures.taken ATemplate) c.in_ok-node.ensures.item c.tpl_of-it.ensures c.leave.ensures

pub var_declarator-returns : goal.var_declarator-returns
var_declarator-returns t c =
    place_built c.var_declarator_of-it.result c.leave.result var_declarator_items c.args.field _ _ _ _ _ _ _
    (c.in_ok-node.ensures.taken ADeclarator) c.in_ok-node.ensures.item c.var_declarator_of-it.ensures c.leave.ensures

-- What a node is as another.

pub arrow_body_of-returns-in_ok-block_stmt_of-in-BlockStmt : goal.arrow_body_of-returns-in_ok-block_stmt_of-in-BlockStmt
unfolding stmt_items
arrow_body_of-returns-in_ok-block_stmt_of-in-BlockStmt t c = (
  grind (arith, building),
  λ field rest e. c.in_ok-block_stmt_of-in-BlockStmt.ensures.1 field rest e,
)

pub arrow_body_of-returns-in_ok-boxed_expr_of-in_default : goal.arrow_body_of-returns-in_ok-boxed_expr_of-in_default
unfolding stmt_items
arrow_body_of-returns-in_ok-boxed_expr_of-in_default t c = (
  ap (λ o. after_inside (taken c.args.room) o c.args.self.now) (other_arrow_body c.args.node c.in_default.not-BlockStmt) ∙ c.in_ok-boxed_expr_of-in_default.ensures.0,
  λ field rest e. c.in_ok-boxed_expr_of-in_default.ensures.1 field rest e,
)

pub assign_target_of-returns-in_ok-binding_ident_of-in-BindingIdent : goal.assign_target_of-returns-in_ok-binding_ident_of-in-BindingIdent
unfolding stmt_items
assign_target_of-returns-in_ok-binding_ident_of-in-BindingIdent t c = (
  grind (arith, building, c.in_ok-binding_ident_of-in-BindingIdent.ensures c.args.room),
  λ field rest e. (c.in_ok-binding_ident_of-in-BindingIdent.ensures c.args.room).1 field rest e,
)

pub assign_target_of-returns-in_ok-member_expr_of-in-MemberExpr : goal.assign_target_of-returns-in_ok-member_expr_of-in-MemberExpr
unfolding stmt_items
assign_target_of-returns-in_ok-member_expr_of-in-MemberExpr t c = (
  grind (arith, building),
  λ field rest e. c.in_ok-member_expr_of-in-MemberExpr.ensures.1 field rest e,
)

pub assign_target_of-returns-in_ok-super_prop_expr_of-in-SuperPropExpr : goal.assign_target_of-returns-in_ok-super_prop_expr_of-in-SuperPropExpr
unfolding stmt_items
assign_target_of-returns-in_ok-super_prop_expr_of-in-SuperPropExpr t c = (
  grind (arith, building),
  λ field rest e. c.in_ok-super_prop_expr_of-in-SuperPropExpr.ensures.1 field rest e,
)

pub assign_target_of-returns-in_ok-paren_expr_of-in-ParenExpr : goal.assign_target_of-returns-in_ok-paren_expr_of-in-ParenExpr
unfolding stmt_items
assign_target_of-returns-in_ok-paren_expr_of-in-ParenExpr t c = (
  grind (arith, building),
  λ field rest e. c.in_ok-paren_expr_of-in-ParenExpr.ensures.1 field rest e,
)

pub assign_target_of-returns-in_ok-array_pat_of-in-ArrayPat : goal.assign_target_of-returns-in_ok-array_pat_of-in-ArrayPat
unfolding stmt_items
assign_target_of-returns-in_ok-array_pat_of-in-ArrayPat t c = (
  grind (arith, building),
  λ field rest e. c.in_ok-array_pat_of-in-ArrayPat.ensures.1 field rest e,
)

pub assign_target_of-returns-in_ok-object_pat_of-in_default : goal.assign_target_of-returns-in_ok-object_pat_of-in_default
unfolding stmt_items
assign_target_of-returns-in_ok-object_pat_of-in_default t c = (
  ap (λ o. after_inside (taken c.args.room) o c.args.self.now) (other_assign_target c.args.node c.in_default.not-BindingIdent c.in_default.not-MemberExpr c.in_default.not-SuperPropExpr c.in_default.not-ParenExpr c.in_default.not-ArrayPat) ∙ c.in_ok-object_pat_of-in_default.ensures.0,
  λ field rest e. c.in_ok-object_pat_of-in_default.ensures.1 field rest e,
)

pub callee_of-returns-in_ok-boxed_expr_of-in_default : goal.callee_of-returns-in_ok-boxed_expr_of-in_default
unfolding stmt_items
callee_of-returns-in_ok-boxed_expr_of-in_default t c = (
  ap (λ o. after_inside (taken c.args.room) o c.args.self.now) (other_callee c.args.node c.in_default.not-Super c.in_default.not-Import) ∙ c.in_ok-boxed_expr_of-in_default.ensures.0,
  λ field rest e. c.in_ok-boxed_expr_of-in_default.ensures.1 field rest e,
)

pub decl_of-returns-in_ok-var_decl_of-in_default : goal.decl_of-returns-in_ok-var_decl_of-in_default
unfolding stmt_items
decl_of-returns-in_ok-var_decl_of-in_default t c = (
  ap (λ o. after_inside (taken c.args.room) o c.args.self.now) (other_decl c.args.node c.in_default.not-ClassDecl c.in_default.not-FnDecl) ∙ c.in_ok-var_decl_of-in_default.ensures.0,
  λ field rest e. c.in_ok-var_decl_of-in_default.ensures.1 field rest e,
)

pub expr_of-returns-in_ok-private_name_of-in-PrivateName : goal.expr_of-returns-in_ok-private_name_of-in-PrivateName
unfolding stmt_items
expr_of-returns-in_ok-private_name_of-in-PrivateName t c = (
  grind (arith, building),
  λ field rest e. ap (λ (l : List Item). h.Open field (head_of c.args.node) ∷ l) e ∙ c.in_ok-private_name_of-in-PrivateName.ensures.1 field rest,
)

pub expr_of-returns-in_ok-member_expr_of-in-MemberExpr : goal.expr_of-returns-in_ok-member_expr_of-in-MemberExpr
unfolding stmt_items
expr_of-returns-in_ok-member_expr_of-in-MemberExpr t c = (
  grind (arith, building),
  λ field rest e. c.in_ok-member_expr_of-in-MemberExpr.ensures.1 field rest e,
)

pub expr_of-returns-in_ok-super_prop_expr_of-in-SuperPropExpr : goal.expr_of-returns-in_ok-super_prop_expr_of-in-SuperPropExpr
unfolding stmt_items
expr_of-returns-in_ok-super_prop_expr_of-in-SuperPropExpr t c = (
  grind (arith, building),
  λ field rest e. c.in_ok-super_prop_expr_of-in-SuperPropExpr.ensures.1 field rest e,
)

pub expr_of-returns-in_ok-paren_expr_of-in-ParenExpr : goal.expr_of-returns-in_ok-paren_expr_of-in-ParenExpr
unfolding stmt_items
expr_of-returns-in_ok-paren_expr_of-in-ParenExpr t c = (
  grind (arith, building),
  λ field rest e. c.in_ok-paren_expr_of-in-ParenExpr.ensures.1 field rest e,
)

pub expr_of-returns-in_ok-tpl_of-in-Tpl : goal.expr_of-returns-in_ok-tpl_of-in-Tpl
unfolding stmt_items
expr_of-returns-in_ok-tpl_of-in-Tpl t c = (
  grind (arith, building),
  λ field rest e. c.in_ok-tpl_of-in-Tpl.ensures.1 field rest e,
)

pub for_head_of-returns-in_ok-var_decl_of-in-VarDecl : goal.for_head_of-returns-in_ok-var_decl_of-in-VarDecl
unfolding stmt_items
for_head_of-returns-in_ok-var_decl_of-in-VarDecl t c = (
  grind (arith, building),
  λ field rest e. c.in_ok-var_decl_of-in-VarDecl.ensures.1 field rest e,
)

pub for_head_of-returns-in_ok-pat_of-in_default : goal.for_head_of-returns-in_ok-pat_of-in_default
unfolding stmt_items
for_head_of-returns-in_ok-pat_of-in_default t c = (
  ap (λ o. after_inside (taken c.args.room) o c.args.self.now) (other_for_head c.args.node c.in_default.not-VarDecl) ∙ c.in_ok-pat_of-in_default.ensures.0,
  λ field rest e. c.in_ok-pat_of-in_default.ensures.1 field rest e,
)

pub for_init_of-returns-in_ok-var_decl_of-in-VarDecl : goal.for_init_of-returns-in_ok-var_decl_of-in-VarDecl
unfolding stmt_items
for_init_of-returns-in_ok-var_decl_of-in-VarDecl t c = (
  grind (arith, building),
  λ field rest e. c.in_ok-var_decl_of-in-VarDecl.ensures.1 field rest e,
)

pub for_init_of-returns-in_ok-expr_of-in_default : goal.for_init_of-returns-in_ok-expr_of-in_default
unfolding stmt_items
for_init_of-returns-in_ok-expr_of-in_default t c = (
  ap (λ o. after_inside (taken c.args.room) o c.args.self.now) (other_for_init c.args.node c.in_default.not-VarDecl) ∙ c.in_ok-expr_of-in_default.ensures.0,
  λ field rest e. c.in_ok-expr_of-in_default.ensures.1 field rest e,
)

pub member_prop_of-returns-in_ok-ident_name_of-in-IdentName : goal.member_prop_of-returns-in_ok-ident_name_of-in-IdentName
unfolding stmt_items
member_prop_of-returns-in_ok-ident_name_of-in-IdentName t c = (
  grind (arith, building),
  λ field rest e. ap (λ (l : List Item). h.Open field (head_of c.args.node) ∷ l) e ∙ c.in_ok-ident_name_of-in-IdentName.ensures.1 field rest,
)

pub member_prop_of-returns-in_ok-private_name_of-in-PrivateName : goal.member_prop_of-returns-in_ok-private_name_of-in-PrivateName
unfolding stmt_items
member_prop_of-returns-in_ok-private_name_of-in-PrivateName t c = (
  grind (arith, building),
  λ field rest e. ap (λ (l : List Item). h.Open field (head_of c.args.node) ∷ l) e ∙ c.in_ok-private_name_of-in-PrivateName.ensures.1 field rest,
)

pub member_prop_of-returns-in_ok-computed_prop_name_of-in_default : goal.member_prop_of-returns-in_ok-computed_prop_name_of-in_default
unfolding stmt_items
member_prop_of-returns-in_ok-computed_prop_name_of-in_default t c = (
  ap (λ o. after_inside (taken c.args.room) o c.args.self.now) (other_member_prop c.args.node c.in_default.not-IdentName c.in_default.not-PrivateName) ∙ c.in_ok-computed_prop_name_of-in_default.ensures.0,
  λ field rest e. c.in_ok-computed_prop_name_of-in_default.ensures.1 field rest e,
)

pub object_pat_prop_of-returns-in_ok-rest_pat_of-in-RestPat : goal.object_pat_prop_of-returns-in_ok-rest_pat_of-in-RestPat
unfolding stmt_items
object_pat_prop_of-returns-in_ok-rest_pat_of-in-RestPat t c = (
  grind (arith, building),
  λ field rest e. c.in_ok-rest_pat_of-in-RestPat.ensures.1 field rest e,
)

pub opt_chain_base_of-returns-in_ok-opt_call_of-in-OptCall : goal.opt_chain_base_of-returns-in_ok-opt_call_of-in-OptCall
unfolding stmt_items
opt_chain_base_of-returns-in_ok-opt_call_of-in-OptCall t c = (
  grind (arith, building),
  λ field rest e. c.in_ok-opt_call_of-in-OptCall.ensures.1 field rest e,
)

pub opt_chain_base_of-returns-in_ok-member_expr_of-in_default : goal.opt_chain_base_of-returns-in_ok-member_expr_of-in_default
unfolding stmt_items
opt_chain_base_of-returns-in_ok-member_expr_of-in_default t c = (
  ap (λ o. after_inside (taken c.args.room) o c.args.self.now) (other_opt_chain_base c.args.node c.in_default.not-OptCall) ∙ c.in_ok-member_expr_of-in_default.ensures.0,
  λ field rest e. c.in_ok-member_expr_of-in_default.ensures.1 field rest e,
)

pub pat_of-returns-in_ok-binding_ident_of-in-BindingIdent : goal.pat_of-returns-in_ok-binding_ident_of-in-BindingIdent
unfolding stmt_items
pat_of-returns-in_ok-binding_ident_of-in-BindingIdent t c = (
  grind (arith, building, c.in_ok-binding_ident_of-in-BindingIdent.ensures c.args.room),
  λ field rest e. (c.in_ok-binding_ident_of-in-BindingIdent.ensures c.args.room).1 field rest e,
)

pub pat_of-returns-in_ok-array_pat_of-in-ArrayPat : goal.pat_of-returns-in_ok-array_pat_of-in-ArrayPat
unfolding stmt_items
pat_of-returns-in_ok-array_pat_of-in-ArrayPat t c = (
  grind (arith, building),
  λ field rest e. c.in_ok-array_pat_of-in-ArrayPat.ensures.1 field rest e,
)

pub pat_of-returns-in_ok-rest_pat_of-in-RestPat : goal.pat_of-returns-in_ok-rest_pat_of-in-RestPat
unfolding stmt_items
pat_of-returns-in_ok-rest_pat_of-in-RestPat t c = (
  grind (arith, building),
  λ field rest e. c.in_ok-rest_pat_of-in-RestPat.ensures.1 field rest e,
)

pub pat_of-returns-in_ok-object_pat_of-in-ObjectPat : goal.pat_of-returns-in_ok-object_pat_of-in-ObjectPat
unfolding stmt_items
pat_of-returns-in_ok-object_pat_of-in-ObjectPat t c = (
  grind (arith, building),
  λ field rest e. c.in_ok-object_pat_of-in-ObjectPat.ensures.1 field rest e,
)

pub pat_of-returns-in_ok-boxed_expr_of-in_default : goal.pat_of-returns-in_ok-boxed_expr_of-in_default
unfolding stmt_items
pat_of-returns-in_ok-boxed_expr_of-in_default t c = (
  ap (λ o. after_inside (taken c.args.room) o c.args.self.now) (other_pat c.args.role c.args.node c.in_default.not-BindingIdent c.in_default.not-ArrayPat c.in_default.not-RestPat c.in_default.not-ObjectPat c.in_default.not-AssignPat) ∙ c.in_ok-boxed_expr_of-in_default.ensures.0,
  λ field rest e. c.in_ok-boxed_expr_of-in_default.ensures.1 field rest e,
)

pub prop_name_of-returns-in_ok-ident_name_of-in-IdentName : goal.prop_name_of-returns-in_ok-ident_name_of-in-IdentName
unfolding stmt_items
prop_name_of-returns-in_ok-ident_name_of-in-IdentName t c = (
  grind (arith, building),
  λ field rest e. ap (λ (l : List Item). h.Open field (head_of c.args.node) ∷ l) e ∙ c.in_ok-ident_name_of-in-IdentName.ensures.1 field rest,
)

pub prop_name_of-returns-in_ok-str_of-in-Str : goal.prop_name_of-returns-in_ok-str_of-in-Str
unfolding stmt_items
prop_name_of-returns-in_ok-str_of-in-Str t c = (
  grind (arith, building),
  λ field rest e. ap (λ (l : List Item). h.Open field (head_of c.args.node) ∷ l) e ∙ c.in_ok-str_of-in-Str.ensures.1 field rest,
)

pub prop_name_of-returns-in_ok-number_of-in-Number : goal.prop_name_of-returns-in_ok-number_of-in-Number
unfolding stmt_items
prop_name_of-returns-in_ok-number_of-in-Number t c = (
  grind (arith, building),
  λ field rest e. ap (λ (l : List Item). h.Open field (head_of c.args.node) ∷ l) e ∙ c.in_ok-number_of-in-Number.ensures.1 field rest,
)

pub prop_name_of-returns-in_ok-big_int_of-in-BigInt : goal.prop_name_of-returns-in_ok-big_int_of-in-BigInt
unfolding stmt_items
prop_name_of-returns-in_ok-big_int_of-in-BigInt t c = (
  grind (arith, building),
  λ field rest e. ap (λ (l : List Item). h.Open field (head_of c.args.node) ∷ l) e ∙ c.in_ok-big_int_of-in-BigInt.ensures.1 field rest,
)

pub prop_name_of-returns-in_ok-computed_prop_name_of-in_default : goal.prop_name_of-returns-in_ok-computed_prop_name_of-in_default
unfolding stmt_items
prop_name_of-returns-in_ok-computed_prop_name_of-in_default t c = (
  ap (λ o. after_inside (taken c.args.room) o c.args.self.now) (other_prop_name c.args.node c.in_default.not-IdentName c.in_default.not-Str c.in_default.not-Number c.in_default.not-BigInt) ∙ c.in_ok-computed_prop_name_of-in_default.ensures.0,
  λ field rest e. c.in_ok-computed_prop_name_of-in_default.ensures.1 field rest e,
)

pub prop_of-returns-in_ok-key_value_prop_of-in-KeyValueProp : goal.prop_of-returns-in_ok-key_value_prop_of-in-KeyValueProp
unfolding stmt_items
prop_of-returns-in_ok-key_value_prop_of-in-KeyValueProp t c = (
  grind (arith, building),
  λ field rest e. c.in_ok-key_value_prop_of-in-KeyValueProp.ensures.1 field rest e,
)

pub prop_or_spread_of-returns-in_ok-prop_of-in_default : goal.prop_or_spread_of-returns-in_ok-prop_of-in_default
unfolding stmt_items
prop_or_spread_of-returns-in_ok-prop_of-in_default t c = (
  ap (λ o. after_inside (taken c.args.room) o c.args.self.now) (other_prop_or_spread c.args.node c.in_default.not-SpreadElement) ∙ c.in_ok-prop_of-in_default.ensures.0,
  λ field rest e. c.in_ok-prop_of-in_default.ensures.1 field rest e,
)

pub stmt_of-returns-in_ok-block_stmt_of-in-BlockStmt : goal.stmt_of-returns-in_ok-block_stmt_of-in-BlockStmt
unfolding stmt_items
stmt_of-returns-in_ok-block_stmt_of-in-BlockStmt t c = (
  grind (arith, building),
  λ field rest e. c.in_ok-block_stmt_of-in-BlockStmt.ensures.1 field rest e,
)

pub stmt_of-returns-in_ok-decl_of-in-ClassDecl : goal.stmt_of-returns-in_ok-decl_of-in-ClassDecl
unfolding stmt_items
stmt_of-returns-in_ok-decl_of-in-ClassDecl t c = (
  grind (arith, building),
  λ field rest e. c.in_ok-decl_of-in-ClassDecl.ensures.1 field rest e,
)

pub super_prop_of-returns-in_ok-ident_name_of-in-IdentName : goal.super_prop_of-returns-in_ok-ident_name_of-in-IdentName
unfolding stmt_items
super_prop_of-returns-in_ok-ident_name_of-in-IdentName t c = (
  grind (arith, building),
  λ field rest e. ap (λ (l : List Item). h.Open field (head_of c.args.node) ∷ l) e ∙ c.in_ok-ident_name_of-in-IdentName.ensures.1 field rest,
)

pub super_prop_of-returns-in_ok-computed_prop_name_of-in_default : goal.super_prop_of-returns-in_ok-computed_prop_name_of-in_default
unfolding stmt_items
super_prop_of-returns-in_ok-computed_prop_name_of-in_default t c = (
  ap (λ o. after_inside (taken c.args.room) o c.args.self.now) (other_super_prop c.args.node c.in_default.not-IdentName) ∙ c.in_ok-computed_prop_name_of-in_default.ensures.0,
  λ field rest e. c.in_ok-computed_prop_name_of-in_default.ensures.1 field rest e,
)

-- A node of several fields, each with what is made of it.

pub branch_stmt_of-returns-in_ok-finalizer-in-TryStmt : goal.branch_stmt_of-returns-in_ok-finalizer-in-TryStmt
unfolding stmt_items
branch_stmt_of-returns-in_ok-finalizer-in-TryStmt t c = (
  grind (arith, building),
  λ field rest e. ap (λ (it : Node). h.Open field (head_of it) ∷ c.args.self.now) c.in-TryStmt.is
      ∙ made.a_node field h.TryStmt (block_stmt_items 0 c.in_ok-block-in-TryStmt.block ++ (option_catch_clause_items 1 c.in_ok-handler-in-TryStmt.handler ++ (option_block_stmt_items 2 c.in_ok-finalizer-in-TryStmt.finalizer))) c.args.self.now rest
      (made.a_field (block_stmt_items 0 c.in_ok-block-in-TryStmt.block) (option_catch_clause_items 1 c.in_ok-handler-in-TryStmt.handler ++ (option_block_stmt_items 2 c.in_ok-finalizer-in-TryStmt.finalizer)) c.args.self.now c.block_stmt.new.self (h.Close ∷ rest) c.in_ok-block-in-TryStmt.ensures.1
      (made.a_field (option_catch_clause_items 1 c.in_ok-handler-in-TryStmt.handler) (option_block_stmt_items 2 c.in_ok-finalizer-in-TryStmt.finalizer) c.block_stmt.new.self c.option_catch_clause.new.self (h.Close ∷ rest) c.in_ok-handler-in-TryStmt.ensures.1
      (made.the_last (option_block_stmt_items 2 c.in_ok-finalizer-in-TryStmt.finalizer) c.option_catch_clause.new.self c.option_block_stmt.new.self rest c.in_ok-finalizer-in-TryStmt.ensures.1 e))),
)

pub compound_expr_of-returns-in_ok-tpl-in-TaggedTpl : goal.compound_expr_of-returns-in_ok-tpl-in-TaggedTpl
unfolding stmt_items
compound_expr_of-returns-in_ok-tpl-in-TaggedTpl t c = (
  grind (arith, building),
  λ field rest e. ap (λ (it : Node). h.Open field (head_of it) ∷ c.args.self.now) c.in-TaggedTpl.is
      ∙ made.a_node field h.TaggedTpl (expr_items 0 c.in_ok-tag-in-TaggedTpl.tag.value ++ (tpl_items 1 c.in_ok-tpl-in-TaggedTpl.tpl)) c.args.self.now rest
      (made.a_field (expr_items 0 c.in_ok-tag-in-TaggedTpl.tag.value) (tpl_items 1 c.in_ok-tpl-in-TaggedTpl.tpl) c.args.self.now c.boxed_expr.new.self (h.Close ∷ rest) c.in_ok-tag-in-TaggedTpl.ensures.1
      (made.the_last (tpl_items 1 c.in_ok-tpl-in-TaggedTpl.tpl) c.boxed_expr.new.self c.tpl.new.self rest c.in_ok-tpl-in-TaggedTpl.ensures.1 e)),
)

pub decl_of-returns-in_ok-class-in-ClassDecl : goal.decl_of-returns-in_ok-class-in-ClassDecl
unfolding stmt_items
decl_of-returns-in_ok-class-in-ClassDecl t c = (
  grind (arith, building),
  λ field rest e. ap (λ (it : Node). h.Open field (head_of it) ∷ c.args.self.now) c.in-ClassDecl.is
      ∙ made.a_node field h.ClassDecl (ident_items r.Binding 0 c.in_ok-ident-in-ClassDecl.ident ++ (class_items 1 c.in_ok-class-in-ClassDecl.class)) c.args.self.now rest
      (made.a_field (ident_items r.Binding 0 c.in_ok-ident-in-ClassDecl.ident) (class_items 1 c.in_ok-class-in-ClassDecl.class) c.args.self.now c.ident.new.self (h.Close ∷ rest) c.in_ok-ident-in-ClassDecl.ensures.1
      (made.the_last (class_items 1 c.in_ok-class-in-ClassDecl.class) c.ident.new.self c.class.new.self rest c.in_ok-class-in-ClassDecl.ensures.1 e)),
)

pub decl_of-returns-in_ok-function-in-FnDecl : goal.decl_of-returns-in_ok-function-in-FnDecl
unfolding stmt_items
decl_of-returns-in_ok-function-in-FnDecl t c = (
  grind (arith, building),
  λ field rest e. ap (λ (it : Node). h.Open field (head_of it) ∷ c.args.self.now) c.in-FnDecl.is
      ∙ made.a_node field h.FnDecl (ident_items r.Binding 0 c.in_ok-ident-in-FnDecl.ident ++ (function_items 1 c.in_ok-function-in-FnDecl.function)) c.args.self.now rest
      (made.a_field (ident_items r.Binding 0 c.in_ok-ident-in-FnDecl.ident) (function_items 1 c.in_ok-function-in-FnDecl.function) c.args.self.now c.ident-in-FnDecl.new.self (h.Close ∷ rest) c.in_ok-ident-in-FnDecl.ensures.1
      (made.the_last (function_items 1 c.in_ok-function-in-FnDecl.function) c.ident-in-FnDecl.new.self c.function.new.self rest c.in_ok-function-in-FnDecl.ensures.1 e)),
)

pub for_stmt_of-returns-in_ok-body-in-ForStmt : goal.for_stmt_of-returns-in_ok-body-in-ForStmt
unfolding stmt_items
for_stmt_of-returns-in_ok-body-in-ForStmt t c = (
  grind (arith, building),
  λ field rest e. ap (λ (it : Node). h.Open field (head_of it) ∷ c.args.self.now) c.in-ForStmt.is
      ∙ made.a_node field h.ForStmt (option_for_init_items 0 c.in_ok-init-in-ForStmt.init ++ (option_expr_items 1 c.in_ok-test-in-ForStmt.test ++ (option_expr_items 2 c.in_ok-update-in-ForStmt.update ++ (stmt_items 3 c.in_ok-body-in-ForStmt.body.value)))) c.args.self.now rest
      (made.a_field (option_for_init_items 0 c.in_ok-init-in-ForStmt.init) (option_expr_items 1 c.in_ok-test-in-ForStmt.test ++ (option_expr_items 2 c.in_ok-update-in-ForStmt.update ++ (stmt_items 3 c.in_ok-body-in-ForStmt.body.value))) c.args.self.now c.option_for_init.new.self (h.Close ∷ rest) c.in_ok-init-in-ForStmt.ensures.1
      (made.a_field (option_expr_items 1 c.in_ok-test-in-ForStmt.test) (option_expr_items 2 c.in_ok-update-in-ForStmt.update ++ (stmt_items 3 c.in_ok-body-in-ForStmt.body.value)) c.option_for_init.new.self c.option_expr.new.self (h.Close ∷ rest) c.in_ok-test-in-ForStmt.ensures.1
      (made.a_field (option_expr_items 2 c.in_ok-update-in-ForStmt.update) (stmt_items 3 c.in_ok-body-in-ForStmt.body.value) c.option_expr.new.self c.option_expr-in-ForStmt.new.self (h.Close ∷ rest) c.in_ok-update-in-ForStmt.ensures.1
      (made.the_last (stmt_items 3 c.in_ok-body-in-ForStmt.body.value) c.option_expr-in-ForStmt.new.self c.boxed_stmt.new.self rest c.in_ok-body-in-ForStmt.ensures.1 e)))),
)

pub method_of-returns-in_ok-function-in-ClassMethod : goal.method_of-returns-in_ok-function-in-ClassMethod
unfolding stmt_items
method_of-returns-in_ok-function-in-ClassMethod t c = (
  grind (arith, building),
  λ field rest e. ap (λ (it : Node). h.Open field (head_of it) ∷ c.args.self.now) c.in-ClassMethod.is
      ∙ made.a_node field (h.ClassMethod c.in-ClassMethod.kind c.in-ClassMethod.is_static) (prop_name_items 0 c.in_ok-key-in-ClassMethod.key ++ (function_items 1 c.in_ok-function-in-ClassMethod.function)) c.args.self.now rest
      (made.a_field (prop_name_items 0 c.in_ok-key-in-ClassMethod.key) (function_items 1 c.in_ok-function-in-ClassMethod.function) c.args.self.now c.prop_name.new.self (h.Close ∷ rest) c.in_ok-key-in-ClassMethod.ensures.1
      (made.the_last (function_items 1 c.in_ok-function-in-ClassMethod.function) c.prop_name.new.self c.function.new.self rest c.in_ok-function-in-ClassMethod.ensures.1 e)),
)

pub prop_of-returns-in_ok-body-in-SetterProp : goal.prop_of-returns-in_ok-body-in-SetterProp
unfolding stmt_items
prop_of-returns-in_ok-body-in-SetterProp t c = (
  grind (arith, building),
  λ field rest e. ap (λ (it : Node). h.Open field (head_of it) ∷ c.args.self.now) c.in-SetterProp.is
      ∙ made.a_node field h.SetterProp (prop_name_items 0 c.in_ok-key-in-SetterProp.key ++ (pat_items r.Binding 1 c.in_ok-param-in-SetterProp.param ++ (block_stmt_items 2 c.in_ok-body-in-SetterProp.body))) c.args.self.now rest
      (made.a_field (prop_name_items 0 c.in_ok-key-in-SetterProp.key) (pat_items r.Binding 1 c.in_ok-param-in-SetterProp.param ++ (block_stmt_items 2 c.in_ok-body-in-SetterProp.body)) c.args.self.now c.prop_name-in-SetterProp.new.self (h.Close ∷ rest) c.in_ok-key-in-SetterProp.ensures.1
      (made.a_field (pat_items r.Binding 1 c.in_ok-param-in-SetterProp.param) (block_stmt_items 2 c.in_ok-body-in-SetterProp.body) c.prop_name-in-SetterProp.new.self c.pat.new.self (h.Close ∷ rest) c.in_ok-param-in-SetterProp.ensures.1
      (made.the_last (block_stmt_items 2 c.in_ok-body-in-SetterProp.body) c.pat.new.self c.block_stmt-in-SetterProp.new.self rest c.in_ok-body-in-SetterProp.ensures.1 e))),
)

pub prop_of-returns-in_ok-function-in-MethodProp : goal.prop_of-returns-in_ok-function-in-MethodProp
unfolding stmt_items
prop_of-returns-in_ok-function-in-MethodProp t c = (
  grind (arith, building),
  λ field rest e. ap (λ (it : Node). h.Open field (head_of it) ∷ c.args.self.now) c.in-MethodProp.is
      ∙ made.a_node field h.MethodProp (prop_name_items 0 c.in_ok-key-in-MethodProp.key ++ (function_items 1 c.in_ok-function-in-MethodProp.function)) c.args.self.now rest
      (made.a_field (prop_name_items 0 c.in_ok-key-in-MethodProp.key) (function_items 1 c.in_ok-function-in-MethodProp.function) c.args.self.now c.prop_name-in-MethodProp.new.self (h.Close ∷ rest) c.in_ok-key-in-MethodProp.ensures.1
      (made.the_last (function_items 1 c.in_ok-function-in-MethodProp.function) c.prop_name-in-MethodProp.new.self c.function.new.self rest c.in_ok-function-in-MethodProp.ensures.1 e)),
)

pub wide_operator_expr_of-returns-in_ok-alt-in-CondExpr : goal.wide_operator_expr_of-returns-in_ok-alt-in-CondExpr
unfolding stmt_items
wide_operator_expr_of-returns-in_ok-alt-in-CondExpr t c = (
  grind (arith, building),
  λ field rest e. ap (λ (it : Node). h.Open field (head_of it) ∷ c.args.self.now) c.in-CondExpr.is
      ∙ made.a_node field h.CondExpr (expr_items 0 c.in_ok-test-in-CondExpr.test.value ++ (expr_items 1 c.in_ok-cons-in-CondExpr.cons.value ++ (expr_items 2 c.in_ok-alt-in-CondExpr.alt.value))) c.args.self.now rest
      (made.a_field (expr_items 0 c.in_ok-test-in-CondExpr.test.value) (expr_items 1 c.in_ok-cons-in-CondExpr.cons.value ++ (expr_items 2 c.in_ok-alt-in-CondExpr.alt.value)) c.args.self.now c.boxed_expr-in-CondExpr.new.self (h.Close ∷ rest) c.in_ok-test-in-CondExpr.ensures.1
      (made.a_field (expr_items 1 c.in_ok-cons-in-CondExpr.cons.value) (expr_items 2 c.in_ok-alt-in-CondExpr.alt.value) c.boxed_expr-in-CondExpr.new.self c.boxed_expr-in-CondExpr-2.new.self (h.Close ∷ rest) c.in_ok-cons-in-CondExpr.ensures.1
      (made.the_last (expr_items 2 c.in_ok-alt-in-CondExpr.alt.value) c.boxed_expr-in-CondExpr-2.new.self c.boxed_expr-in-CondExpr-3.new.self rest c.in_ok-alt-in-CondExpr.ensures.1 e))),
)
