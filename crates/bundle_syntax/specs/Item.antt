-- The list of a tree: where each node begins and ends, and the identifiers, in the order of the
-- source (ECMA-262, 13 to 16).
use Rattle.std.specs.Prelude.{ℕ, Bool as Truth, List, Option, option_map}
use Rattle.bundle_syntax.specs.declared.kind.ExportMetadata.{ExportMetadata}
use Rattle.bundle_syntax.specs.declared.kind.MetaPropKind.{MetaPropKind}
use Rattle.bundle_syntax.specs.declared.kind.MethodKind.{MethodKind}
use Rattle.bundle_syntax.specs.declared.kind.VarDeclKind.{VarDeclKind}
use Rattle.bundle_syntax.specs.declared.operator.AssignOp.{AssignOp}
use Rattle.bundle_syntax.specs.declared.operator.BinaryOp.{BinaryOp}
use Rattle.bundle_syntax.specs.declared.operator.UnaryOp.{UnaryOp}
use Rattle.bundle_syntax.specs.declared.operator.UpdateOp.{UpdateOp}
use Rattle.bundle_syntax.specs.declared.piece.Role.{Role}
use Rattle.bundle_syntax.specs.declared.piece.Node as r_node
use Rattle.bundle_syntax.specs.declared.piece.Node.TheVariants as n
use Rattle.bundle_syntax.specs.declared.piece.Piece as r_piece
use Rattle.bundle_syntax.specs.declared.piece.Piece.TheVariants as p

-- a node by its name, with each value that stands in it and is no node: texts as their bytes
pub data Head : Type 0 where
  -- modules (ECMA-262, 16.2)
  Module : Head
  ImportDecl : ExportMetadata → Head
  ImportNamedSpecifier : Head
  ImportDefaultSpecifier : Head
  ImportStarAsSpecifier : Head
  ExportDecl : Head
  NamedExport : ExportMetadata → Head
  ExportNamespaceSpecifier : Head
  ExportNamedSpecifier : Head
  ExportDefaultDecl : Head
  ExportDefaultExpr : Head
  ExportAll : ExportMetadata → Head
  -- statements (ECMA-262, 14)
  BlockStmt : Head
  EmptyStmt : Head
  DebuggerStmt : Head
  WithStmt : Head
  ReturnStmt : Head
  LabeledStmt : Head
  BreakStmt : Head
  ContinueStmt : Head
  IfStmt : Head
  SwitchStmt : Head
  SwitchCase : Head
  ThrowStmt : Head
  TryStmt : Head
  CatchClause : Head
  WhileStmt : Head
  DoWhileStmt : Head
  ForStmt : Head
  ForInStmt : Head
  ForOfStmt : Truth → Head
  ExprStmt : Head
  -- declarations (ECMA-262, 14.3, 15.2 and 15.7)
  ClassDecl : Head
  FnDecl : Head
  VarDecl : VarDeclKind → ExportMetadata → Head
  VarDeclarator : Head
  -- expressions (ECMA-262, 13)
  ThisExpr : Head
  ArrayLit : Head
  ObjectLit : Head
  FnExpr : Head
  UnaryExpr : UnaryOp → Head
  UpdateExpr : UpdateOp → Truth → Head
  BinExpr : BinaryOp → Head
  AssignExpr : AssignOp → Head
  MemberExpr : Head
  SuperPropExpr : Head
  CondExpr : Head
  CallExpr : Head
  NewExpr : Truth → Head
  SeqExpr : Head
  Tpl : Head
  TplElement : List ℕ → Head
  TaggedTpl : Head
  ArrowExpr : Truth → Head
  ClassExpr : Head
  YieldExpr : Truth → Head
  MetaPropExpr : MetaPropKind → Head
  AwaitExpr : Head
  ParenExpr : Head
  OptChainExpr : Truth → Head
  OptCall : Head
  ExprOrSpread : Truth → Head
  Super : Head
  Import : Head
  -- names and literals (ECMA-262, 12.7 and 13.2.3)
  IdentName : List ℕ → Head
  PrivateName : List ℕ → Head
  Str : List ℕ → Option (List ℕ) → Head
  Bool : Truth → Head
  Null : Head
  Number : List ℕ → Head
  BigInt : List ℕ → Head
  Regex : List ℕ → Head
  -- properties of object literals (ECMA-262, 13.2.5)
  SpreadElement : Head
  KeyValueProp : Head
  GetterProp : Head
  SetterProp : Head
  MethodProp : Head
  ComputedPropName : Head
  -- patterns (ECMA-262, 14.3.3)
  BindingIdent : Head
  ArrayPat : Head
  ObjectPat : Head
  RestPat : Head
  AssignPat : Head
  KeyValuePatProp : Head
  AssignPatProp : Head
  -- functions and classes (ECMA-262, 15)
  Function : Truth → Truth → Head
  Param : Head
  Class : Head
  Constructor : Head
  ClassMethod : MethodKind → Truth → Head
  PrivateMethod : MethodKind → Truth → Head
  ClassProp : Truth → Head
  PrivateProp : Truth → Head
  StaticBlock : Head

-- one element of the list; the number is that of its field in the node around it
pub data Item : Type 0 where
  Open : ℕ → Head → Item
  Ident : ℕ → List ℕ → ℕ → Role → Item
  Hole : ℕ → Item
  Close : Item

-- what a `Node` of the code stands for
abbrev pub head_of : r_node.Node → Head
head_of n.Module = Module
head_of (n.ImportDecl meta) = ImportDecl meta.now
head_of n.ImportNamedSpecifier = ImportNamedSpecifier
head_of n.ImportDefaultSpecifier = ImportDefaultSpecifier
head_of n.ImportStarAsSpecifier = ImportStarAsSpecifier
head_of n.ExportDecl = ExportDecl
head_of (n.NamedExport meta) = NamedExport meta.now
head_of n.ExportNamespaceSpecifier = ExportNamespaceSpecifier
head_of n.ExportNamedSpecifier = ExportNamedSpecifier
head_of n.ExportDefaultDecl = ExportDefaultDecl
head_of n.ExportDefaultExpr = ExportDefaultExpr
head_of (n.ExportAll meta) = ExportAll meta.now
head_of n.BlockStmt = BlockStmt
head_of n.EmptyStmt = EmptyStmt
head_of n.DebuggerStmt = DebuggerStmt
head_of n.WithStmt = WithStmt
head_of n.ReturnStmt = ReturnStmt
head_of n.LabeledStmt = LabeledStmt
head_of n.BreakStmt = BreakStmt
head_of n.ContinueStmt = ContinueStmt
head_of n.IfStmt = IfStmt
head_of n.SwitchStmt = SwitchStmt
head_of n.SwitchCase = SwitchCase
head_of n.ThrowStmt = ThrowStmt
head_of n.TryStmt = TryStmt
head_of n.CatchClause = CatchClause
head_of n.WhileStmt = WhileStmt
head_of n.DoWhileStmt = DoWhileStmt
head_of n.ForStmt = ForStmt
head_of n.ForInStmt = ForInStmt
head_of (n.ForOfStmt is_await) = ForOfStmt is_await
head_of n.ExprStmt = ExprStmt
head_of n.ClassDecl = ClassDecl
head_of n.FnDecl = FnDecl
head_of (n.VarDecl kind meta) = VarDecl kind meta.now
head_of n.VarDeclarator = VarDeclarator
head_of n.ThisExpr = ThisExpr
head_of n.ArrayLit = ArrayLit
head_of n.ObjectLit = ObjectLit
head_of n.FnExpr = FnExpr
head_of (n.UnaryExpr op) = UnaryExpr op
head_of (n.UpdateExpr op prefix) = UpdateExpr op prefix
head_of (n.BinExpr op) = BinExpr op
head_of (n.AssignExpr op) = AssignExpr op
head_of n.MemberExpr = MemberExpr
head_of n.SuperPropExpr = SuperPropExpr
head_of n.CondExpr = CondExpr
head_of n.CallExpr = CallExpr
head_of (n.NewExpr has_args) = NewExpr has_args
head_of n.SeqExpr = SeqExpr
head_of n.Tpl = Tpl
head_of (n.TplElement raw) = TplElement raw.now
head_of n.TaggedTpl = TaggedTpl
head_of (n.ArrowExpr is_async) = ArrowExpr is_async
head_of n.ClassExpr = ClassExpr
head_of (n.YieldExpr delegate) = YieldExpr delegate
head_of (n.MetaPropExpr kind) = MetaPropExpr kind
head_of n.AwaitExpr = AwaitExpr
head_of n.ParenExpr = ParenExpr
head_of (n.OptChainExpr optional) = OptChainExpr optional
head_of n.OptCall = OptCall
head_of (n.ExprOrSpread spread) = ExprOrSpread spread
head_of n.Super = Super
head_of n.Import = Import
head_of (n.IdentName sym) = IdentName sym.now
head_of (n.PrivateName sym) = PrivateName sym.now
head_of (n.Str value raw) = Str value.now (option_map (λ text. text.now) raw)
head_of (n.Bool value) = Bool value
head_of n.Null = Null
head_of (n.Number raw) = Number raw.now
head_of (n.BigInt raw) = BigInt raw.now
head_of (n.Regex raw) = Regex raw.now
head_of n.SpreadElement = SpreadElement
head_of n.KeyValueProp = KeyValueProp
head_of n.GetterProp = GetterProp
head_of n.SetterProp = SetterProp
head_of n.MethodProp = MethodProp
head_of n.ComputedPropName = ComputedPropName
head_of n.BindingIdent = BindingIdent
head_of n.ArrayPat = ArrayPat
head_of n.ObjectPat = ObjectPat
head_of n.RestPat = RestPat
head_of n.AssignPat = AssignPat
head_of n.KeyValuePatProp = KeyValuePatProp
head_of n.AssignPatProp = AssignPatProp
head_of (n.Function is_generator is_async) = Function is_generator is_async
head_of n.Param = Param
head_of n.Class = Class
head_of n.Constructor = Constructor
head_of (n.ClassMethod kind is_static) = ClassMethod kind is_static
head_of (n.PrivateMethod kind is_static) = PrivateMethod kind is_static
head_of (n.ClassProp is_static) = ClassProp is_static
head_of (n.PrivateProp is_static) = PrivateProp is_static
head_of n.StaticBlock = StaticBlock

-- what a `Piece` of the code stands for
abbrev pub item_of : r_piece.Piece → Item
item_of (p.Open field node) = Open field (head_of node)
item_of (p.Ident field sym ctxt role) = Ident field sym.now ctxt role
item_of (p.Hole field) = Hole field
item_of p.Close = Close
