-- Nodes that a method does not name are what another takes.
use Rattle.std.proofs.Common.{◌≡◌, refl}
use Rattle.bundle_syntax.specs.declared.piece.Node.{Node}
use Rattle.bundle_syntax.specs.declared.piece.Node.TheVariants as n
use Rattle.bundle_syntax.specs.declared.piece.Role.{Role}
use Rattle.bundle_syntax.specs.declared.piece.Role.TheVariants as r
use Rattle.bundle_syntax.specs.Item.{head_of}
use Rattle.bundle_tree_parse.specs.Sorts.{ACallee, AComputedKey, ADecl, AKey, ALink, ALoopHead, AMemberExpr, AMemberKey, APattern, AProperty, APropertyOrSpread, ASuperKey, ATarget, AVarDecl, AnArrowBody, AnExpr, AnInit, AnObjectPattern, holds}

pub other_callee : (node : Node) → (node ≡ n.Super → ⊥) → (node ≡ n.Import → ⊥) → holds ACallee (head_of node) ≡ holds AnExpr (head_of node)
other_callee n.Super not-Super _ = absurd (not-Super refl)
other_callee n.Import _ not-Import = absurd (not-Import refl)
other_callee _ _ _ = refl

pub other_arrow_body : (node : Node) → (node ≡ n.BlockStmt → ⊥) → holds AnArrowBody (head_of node) ≡ holds AnExpr (head_of node)
other_arrow_body n.BlockStmt not-BlockStmt = absurd (not-BlockStmt refl)
other_arrow_body _ _ = refl

pub other_opt_chain_base : (node : Node) → (node ≡ n.OptCall → ⊥) → holds ALink (head_of node) ≡ holds AMemberExpr (head_of node)
other_opt_chain_base n.OptCall not-OptCall = absurd (not-OptCall refl)
other_opt_chain_base _ _ = refl

pub other_prop_or_spread : (node : Node) → (node ≡ n.SpreadElement → ⊥) → holds APropertyOrSpread (head_of node) ≡ holds AProperty (head_of node)
other_prop_or_spread n.SpreadElement not-SpreadElement = absurd (not-SpreadElement refl)
other_prop_or_spread _ _ = refl

pub other_prop_name : (node : Node) → ((x0 : _) → node ≡ n.IdentName x0 → ⊥) → ((x0 : _) (x1 : _) → node ≡ n.Str x0 x1 → ⊥) → ((x0 : _) → node ≡ n.Number x0 → ⊥) → ((x0 : _) → node ≡ n.BigInt x0 → ⊥) → holds AKey (head_of node) ≡ holds AComputedKey (head_of node)
other_prop_name (n.IdentName x0) not-IdentName _ _ _ = absurd (not-IdentName x0 refl)
other_prop_name (n.Str x0 x1) _ not-Str _ _ = absurd (not-Str x0 x1 refl)
other_prop_name (n.Number x0) _ _ not-Number _ = absurd (not-Number x0 refl)
other_prop_name (n.BigInt x0) _ _ _ not-BigInt = absurd (not-BigInt x0 refl)
other_prop_name _ _ _ _ _ = refl

pub other_member_prop : (node : Node) → ((x0 : _) → node ≡ n.IdentName x0 → ⊥) → ((x0 : _) → node ≡ n.PrivateName x0 → ⊥) → holds AMemberKey (head_of node) ≡ holds AComputedKey (head_of node)
other_member_prop (n.IdentName x0) not-IdentName _ = absurd (not-IdentName x0 refl)
other_member_prop (n.PrivateName x0) _ not-PrivateName = absurd (not-PrivateName x0 refl)
other_member_prop _ _ _ = refl

pub other_super_prop : (node : Node) → ((x0 : _) → node ≡ n.IdentName x0 → ⊥) → holds ASuperKey (head_of node) ≡ holds AComputedKey (head_of node)
other_super_prop (n.IdentName x0) not-IdentName = absurd (not-IdentName x0 refl)
other_super_prop _ _ = refl

pub other_pat : (role : Role) (node : Node) → (node ≡ n.BindingIdent → ⊥) → (node ≡ n.ArrayPat → ⊥) → (node ≡ n.RestPat → ⊥) → (node ≡ n.ObjectPat → ⊥) → (node ≡ n.AssignPat → ⊥) → holds (APattern role) (head_of node) ≡ holds AnExpr (head_of node)
other_pat role n.BindingIdent not-BindingIdent _ _ _ _ = absurd (not-BindingIdent refl)
other_pat role n.ArrayPat _ not-ArrayPat _ _ _ = absurd (not-ArrayPat refl)
other_pat role n.RestPat _ _ not-RestPat _ _ = absurd (not-RestPat refl)
other_pat role n.ObjectPat _ _ _ not-ObjectPat _ = absurd (not-ObjectPat refl)
other_pat role n.AssignPat _ _ _ _ not-AssignPat = absurd (not-AssignPat refl)
other_pat role _ _ _ _ _ _ = refl

pub other_assign_target : (node : Node) → (node ≡ n.BindingIdent → ⊥) → (node ≡ n.MemberExpr → ⊥) → (node ≡ n.SuperPropExpr → ⊥) → (node ≡ n.ParenExpr → ⊥) → (node ≡ n.ArrayPat → ⊥) → holds ATarget (head_of node) ≡ holds (AnObjectPattern r.Reference) (head_of node)
other_assign_target n.BindingIdent not-BindingIdent _ _ _ _ = absurd (not-BindingIdent refl)
other_assign_target n.MemberExpr _ not-MemberExpr _ _ _ = absurd (not-MemberExpr refl)
other_assign_target n.SuperPropExpr _ _ not-SuperPropExpr _ _ = absurd (not-SuperPropExpr refl)
other_assign_target n.ParenExpr _ _ _ not-ParenExpr _ = absurd (not-ParenExpr refl)
other_assign_target n.ArrayPat _ _ _ _ not-ArrayPat = absurd (not-ArrayPat refl)
other_assign_target _ _ _ _ _ _ = refl

pub other_for_init : (node : Node) → ((x0 : _) (x1 : _) → node ≡ n.VarDecl x0 x1 → ⊥) → holds AnInit (head_of node) ≡ holds AnExpr (head_of node)
other_for_init (n.VarDecl x0 x1) not-VarDecl = absurd (not-VarDecl x0 x1 refl)
other_for_init _ _ = refl

pub other_for_head : (node : Node) → ((x0 : _) (x1 : _) → node ≡ n.VarDecl x0 x1 → ⊥) → holds ALoopHead (head_of node) ≡ holds (APattern r.Reference) (head_of node)
other_for_head (n.VarDecl x0 x1) not-VarDecl = absurd (not-VarDecl x0 x1 refl)
other_for_head _ _ = refl

pub other_decl : (node : Node) → (node ≡ n.ClassDecl → ⊥) → (node ≡ n.FnDecl → ⊥) → holds ADecl (head_of node) ≡ holds AVarDecl (head_of node)
other_decl n.ClassDecl not-ClassDecl _ = absurd (not-ClassDecl refl)
other_decl n.FnDecl _ not-FnDecl = absurd (not-FnDecl refl)
other_decl _ _ _ = refl
