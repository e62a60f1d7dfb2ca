-- The comparison that the tree's types derive: one function for all the kinds of nodes that lead back to each other.
use Rattle.std.proofs.Common.{◌≡◌, Bool, true, false, []}
use Rattle.bundle_tree_ast.specs.declared.class.ClassMember.TheBlock as block
use Rattle.bundle_tree_ast.specs.contracts.expr.ExprPartialEq.TheImpl as derived
use Rattle.bundle_tree_ast.specs.contracts.expr.ExprPartialEq.TheImpl.Laws as laws
use Rattle.bundle_tree_ast.specs.declared.expr.Expr as v_expr
use Rattle.bundle_tree_ast.specs.declared.expr.Callee as v_callee
use Rattle.bundle_tree_ast.specs.declared.expr.OptChainBase as v_opt_chain_base
use Rattle.bundle_tree_ast.specs.declared.prop.PropName as v_prop_name
use Rattle.bundle_tree_ast.specs.declared.prop.MemberProp as v_member_prop
use Rattle.bundle_tree_ast.specs.declared.prop.SuperProp as v_super_prop
use Rattle.bundle_tree_ast.specs.contracts.stmt.Stmt as c_stmt
use Rattle.bundle_tree_ast.specs.contracts.stmt.ForInit as c_for_init
use Rattle.bundle_tree_ast.specs.contracts.stmt.ForHead as c_for_head
use Rattle.bundle_tree_ast.specs.contracts.decl.Decl as c_decl
use Rattle.bundle_tree_ast.specs.contracts.expr.Expr as c_expr
use Rattle.bundle_tree_ast.specs.contracts.expr.ArrowBody as c_arrow_body
use Rattle.bundle_tree_ast.specs.contracts.prop.PropOrSpread as c_prop_or_spread
use Rattle.bundle_tree_ast.specs.contracts.prop.Prop as c_prop
use Rattle.bundle_tree_ast.specs.contracts.pat.Pat as c_pat
use Rattle.bundle_tree_ast.specs.contracts.pat.ObjectPatProp as c_object_pat_prop
use Rattle.bundle_tree_ast.specs.contracts.pat.AssignTarget as c_assign_target
use Rattle.bundle_tree_ast.specs.contracts.class.ClassMember as c_class_member
use Rattle.bundle_tree_ast.specs.contracts.expr.CalleePartialEq.TheImpl as e_callee
use Rattle.bundle_tree_ast.specs.contracts.expr.OptChainBasePartialEq.TheImpl as e_opt_chain_base
use Rattle.bundle_tree_ast.specs.contracts.prop.PropNamePartialEq.TheImpl as e_prop_name
use Rattle.bundle_tree_ast.specs.contracts.prop.MemberPropPartialEq.TheImpl as e_member_prop
use Rattle.bundle_tree_ast.specs.contracts.prop.SuperPropPartialEq.TheImpl as e_super_prop
use Rattle.std.specs.declared.cmp.PartialEq as partial_eq
use mir.Syntax as syntax
use denote.Enum.Compared.{Each, by}
use denote.Enum.Declared.{Record}
use denote.Hole.Carrier as carrier
use denote.Hole.Compared as compared

abbrev pub same : compared.Rel block.the_members (carrier.Values block.the_members block.the_sigs block.the_carrier) block.the_depth Bool
same = laws.family

-- it goes by the variants and fields of the two
pub step_is : (j : block.the_members) (d e : carrier.Values block.the_members block.the_sigs block.the_carrier j) → same j d e ≡ derived.the_step same j d e
step_is = compared.compared_is block.the_members (carrier.Values block.the_members block.the_sigs block.the_carrier) block.the_depth Bool true derived.the_step laws.local

abbrev pub no_dict : syntax.Dict
no_dict = syntax.impl [] syntax.tnil syntax.dnil

abbrev pub expr_eq : partial_eq.Ghosts v_expr.Expr
expr_eq = record { eq = same block.member-Expr }

-- the comparisons of small nodes that hold expressions
abbrev pub prop_name_eq : v_prop_name.PropName v_expr.Expr → v_prop_name.PropName v_expr.Expr → Bool
prop_name_eq = (e_prop_name.ghosts c_expr.the_row expr_eq no_dict).eq

abbrev pub member_prop_eq : v_member_prop.MemberProp v_expr.Expr → v_member_prop.MemberProp v_expr.Expr → Bool
member_prop_eq = (e_member_prop.ghosts c_expr.the_row expr_eq no_dict).eq

abbrev pub super_prop_eq : v_super_prop.SuperProp v_expr.Expr → v_super_prop.SuperProp v_expr.Expr → Bool
super_prop_eq = (e_super_prop.ghosts c_expr.the_row expr_eq no_dict).eq

abbrev pub callee_eq : v_callee.Callee v_expr.Expr → v_callee.Callee v_expr.Expr → Bool
callee_eq = (e_callee.ghosts c_expr.the_row expr_eq no_dict).eq

abbrev pub opt_chain_base_eq : v_opt_chain_base.OptChainBase v_expr.Expr → v_opt_chain_base.OptChainBase v_expr.Expr → Bool
opt_chain_base_eq = (e_opt_chain_base.ghosts c_expr.the_row expr_eq no_dict).eq

-- how a comparison goes, variant by variant
pub record Stepwise (N : Record) (test : N.D → N.D → Bool) : Type 0 where
  pub each : Each Bool N.parts
  pub is : (d e : N.D) → test d e ≡ by false false N.parts each (N.as_values d) (N.as_values e)

abbrev pub stmt : Stepwise c_stmt.enum (same block.member-Stmt)
stmt = record { each = _; is = step_is block.member-Stmt }

abbrev pub for_init : Stepwise c_for_init.enum (same block.member-ForInit)
for_init = record { each = _; is = step_is block.member-ForInit }

abbrev pub for_head : Stepwise c_for_head.enum (same block.member-ForHead)
for_head = record { each = _; is = step_is block.member-ForHead }

abbrev pub decl : Stepwise c_decl.enum (same block.member-Decl)
decl = record { each = _; is = step_is block.member-Decl }

abbrev pub expr : Stepwise c_expr.enum (same block.member-Expr)
expr = record { each = _; is = step_is block.member-Expr }

abbrev pub arrow_body : Stepwise c_arrow_body.enum (same block.member-ArrowBody)
arrow_body = record { each = _; is = step_is block.member-ArrowBody }

abbrev pub prop_or_spread : Stepwise c_prop_or_spread.enum (same block.member-PropOrSpread)
prop_or_spread = record { each = _; is = step_is block.member-PropOrSpread }

abbrev pub prop : Stepwise c_prop.enum (same block.member-Prop)
prop = record { each = _; is = step_is block.member-Prop }

abbrev pub pat : Stepwise c_pat.enum (same block.member-Pat)
pat = record { each = _; is = step_is block.member-Pat }

abbrev pub object_pat_prop : Stepwise c_object_pat_prop.enum (same block.member-ObjectPatProp)
object_pat_prop = record { each = _; is = step_is block.member-ObjectPatProp }

abbrev pub assign_target : Stepwise c_assign_target.enum (same block.member-AssignTarget)
assign_target = record { each = _; is = step_is block.member-AssignTarget }

abbrev pub class_member : Stepwise c_class_member.enum (same block.member-ClassMember)
class_member = record { each = _; is = step_is block.member-ClassMember }
