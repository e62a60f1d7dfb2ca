-- Whether a default export has a name is said by the two items behind its beginning.
use Rattle.std.proofs.Common.{◌≡◌, ℕ, List, [], ◌∷◌, Some, Bool, not, ◌&&◌, refl, sym}
use Rattle.std.specs.Prelude.{slice_get}
use Rattle.bundle_syntax.specs.Item as h
use Rattle.bundle_syntax.specs.Item.{Item}
use Rattle.bundle_rules.specs.Declarations.{is_nameless_default}
use Rattle.bundle_scope_denote.specs.Walked.{begins_nameless, begins_node_by, is_identifier_by, is_nameless_by}

-- whether a node with an identifier as its first element begins there
abbrev begins_named : List Item → Bool
begins_named rest = begins_node_by (slice_get rest 0) && is_identifier_by (slice_get rest 1)

default_decl_named : (field : ℕ) (rest : List Item) → is_nameless_default (h.Open field h.ExportDefaultDecl) rest ≡ not (begins_named rest)
default_decl_named field [] = refl
default_decl_named field (h.Open a b ∷ []) = refl
default_decl_named field (h.Open a b ∷ h.Ident e f i j ∷ rest) = refl
default_decl_named field (h.Open a b ∷ h.Open e f ∷ rest) = refl
default_decl_named field (h.Open a b ∷ h.Hole e ∷ rest) = refl
default_decl_named field (h.Open a b ∷ h.Close ∷ rest) = refl
default_decl_named field (h.Ident a b e f ∷ rest) = refl
default_decl_named field (h.Hole a ∷ rest) = refl
default_decl_named field (h.Close ∷ rest) = refl

-- only an export is nameless
nameless-split : (item : Item) (rest : List Item) → is_nameless_default item rest ≡ is_nameless_by (Some item) (slice_get rest 0) (slice_get rest 1)
nameless-split (h.Open field h.Module) rest = refl
nameless-split (h.Open field (h.ImportDecl a)) rest = refl
nameless-split (h.Open field h.ImportNamedSpecifier) rest = refl
nameless-split (h.Open field h.ImportDefaultSpecifier) rest = refl
nameless-split (h.Open field h.ImportStarAsSpecifier) rest = refl
nameless-split (h.Open field h.ExportDecl) rest = refl
nameless-split (h.Open field (h.NamedExport a)) rest = refl
nameless-split (h.Open field h.ExportNamespaceSpecifier) rest = refl
nameless-split (h.Open field h.ExportNamedSpecifier) rest = refl
nameless-split (h.Open field h.ExportDefaultDecl) rest = default_decl_named field rest
nameless-split (h.Open field h.ExportDefaultExpr) rest = refl
nameless-split (h.Open field (h.ExportAll a)) rest = refl
nameless-split (h.Open field h.BlockStmt) rest = refl
nameless-split (h.Open field h.EmptyStmt) rest = refl
nameless-split (h.Open field h.DebuggerStmt) rest = refl
nameless-split (h.Open field h.WithStmt) rest = refl
nameless-split (h.Open field h.ReturnStmt) rest = refl
nameless-split (h.Open field h.LabeledStmt) rest = refl
nameless-split (h.Open field h.BreakStmt) rest = refl
nameless-split (h.Open field h.ContinueStmt) rest = refl
nameless-split (h.Open field h.IfStmt) rest = refl
nameless-split (h.Open field h.SwitchStmt) rest = refl
nameless-split (h.Open field h.SwitchCase) rest = refl
nameless-split (h.Open field h.ThrowStmt) rest = refl
nameless-split (h.Open field h.TryStmt) rest = refl
nameless-split (h.Open field h.CatchClause) rest = refl
nameless-split (h.Open field h.WhileStmt) rest = refl
nameless-split (h.Open field h.DoWhileStmt) rest = refl
nameless-split (h.Open field h.ForStmt) rest = refl
nameless-split (h.Open field h.ForInStmt) rest = refl
nameless-split (h.Open field (h.ForOfStmt a)) rest = refl
nameless-split (h.Open field h.ExprStmt) rest = refl
nameless-split (h.Open field h.ClassDecl) rest = refl
nameless-split (h.Open field h.FnDecl) rest = refl
nameless-split (h.Open field (h.VarDecl a b)) rest = refl
nameless-split (h.Open field h.VarDeclarator) rest = refl
nameless-split (h.Open field h.ThisExpr) rest = refl
nameless-split (h.Open field h.ArrayLit) rest = refl
nameless-split (h.Open field h.ObjectLit) rest = refl
nameless-split (h.Open field h.FnExpr) rest = refl
nameless-split (h.Open field (h.UnaryExpr a)) rest = refl
nameless-split (h.Open field (h.UpdateExpr a b)) rest = refl
nameless-split (h.Open field (h.BinExpr a)) rest = refl
nameless-split (h.Open field (h.AssignExpr a)) rest = refl
nameless-split (h.Open field h.MemberExpr) rest = refl
nameless-split (h.Open field h.SuperPropExpr) rest = refl
nameless-split (h.Open field h.CondExpr) rest = refl
nameless-split (h.Open field h.CallExpr) rest = refl
nameless-split (h.Open field (h.NewExpr a)) rest = refl
nameless-split (h.Open field h.SeqExpr) rest = refl
nameless-split (h.Open field h.Tpl) rest = refl
nameless-split (h.Open field (h.TplElement a)) rest = refl
nameless-split (h.Open field h.TaggedTpl) rest = refl
nameless-split (h.Open field (h.ArrowExpr a)) rest = refl
nameless-split (h.Open field h.ClassExpr) rest = refl
nameless-split (h.Open field (h.YieldExpr a)) rest = refl
nameless-split (h.Open field (h.MetaPropExpr a)) rest = refl
nameless-split (h.Open field h.AwaitExpr) rest = refl
nameless-split (h.Open field h.ParenExpr) rest = refl
nameless-split (h.Open field (h.OptChainExpr a)) rest = refl
nameless-split (h.Open field h.OptCall) rest = refl
nameless-split (h.Open field (h.ExprOrSpread a)) rest = refl
nameless-split (h.Open field h.Super) rest = refl
nameless-split (h.Open field h.Import) rest = refl
nameless-split (h.Open field (h.IdentName a)) rest = refl
nameless-split (h.Open field (h.PrivateName a)) rest = refl
nameless-split (h.Open field (h.Str a b)) rest = refl
nameless-split (h.Open field (h.Bool a)) rest = refl
nameless-split (h.Open field h.Null) rest = refl
nameless-split (h.Open field (h.Number a)) rest = refl
nameless-split (h.Open field (h.BigInt a)) rest = refl
nameless-split (h.Open field (h.Regex a)) rest = refl
nameless-split (h.Open field h.SpreadElement) rest = refl
nameless-split (h.Open field h.KeyValueProp) rest = refl
nameless-split (h.Open field h.GetterProp) rest = refl
nameless-split (h.Open field h.SetterProp) rest = refl
nameless-split (h.Open field h.MethodProp) rest = refl
nameless-split (h.Open field h.ComputedPropName) rest = refl
nameless-split (h.Open field h.BindingIdent) rest = refl
nameless-split (h.Open field h.ArrayPat) rest = refl
nameless-split (h.Open field h.ObjectPat) rest = refl
nameless-split (h.Open field h.RestPat) rest = refl
nameless-split (h.Open field h.AssignPat) rest = refl
nameless-split (h.Open field h.KeyValuePatProp) rest = refl
nameless-split (h.Open field h.AssignPatProp) rest = refl
nameless-split (h.Open field (h.Function a b)) rest = refl
nameless-split (h.Open field h.Param) rest = refl
nameless-split (h.Open field h.Class) rest = refl
nameless-split (h.Open field h.Constructor) rest = refl
nameless-split (h.Open field (h.ClassMethod a b)) rest = refl
nameless-split (h.Open field (h.PrivateMethod a b)) rest = refl
nameless-split (h.Open field (h.ClassProp a)) rest = refl
nameless-split (h.Open field (h.PrivateProp a)) rest = refl
nameless-split (h.Open field h.StaticBlock) rest = refl
nameless-split (h.Ident field sym ctxt role) rest = refl
nameless-split (h.Hole field) rest = refl
nameless-split h.Close rest = refl

pub begins_nameless-first : (items : List Item) → begins_nameless items ≡ is_nameless_by (slice_get items 0) (slice_get items 1) (slice_get items 2)
begins_nameless-first [] = refl
begins_nameless-first (item ∷ rest) = nameless-split item rest
