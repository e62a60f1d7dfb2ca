-- What may stand where in the list of a tree (ECMA-262, 12 to 16): sorts of nodes and names, and
-- for each node the sorts of its fields, in their order, with how many nodes each field holds.
use Rattle.std.specs.Prelude.{ℕ, Bool, true, false, List, [], ◌∷◌}
use Rattle.bundle_syntax.specs.declared.piece.Role.{Role}
use Rattle.bundle_syntax.specs.declared.piece.Role.TheVariants as r
use Rattle.bundle_syntax.specs.Item as h
use Rattle.bundle_syntax.specs.Item.{Head}

-- what stands in a field; of a pattern also what its names are
pub data NodeSort : Type 0 where
  AModule : NodeSort
  AnItem : NodeSort
  AnImport : NodeSort
  AnExport : NodeSort
  -- a name that is bound
  ALocal : NodeSort
  -- a name of another module, or a string
  AnOuter : NodeSort
  -- a name that is exported, or a string
  AnInner : NodeSort
  ASource : NodeSort
  ADefault : NodeSort
  ADecl : NodeSort
  AStmt : NodeSort
  ABlock : NodeSort
  ALabel : NodeSort
  ACase : NodeSort
  AHandler : NodeSort
  -- what stands in front in the head of a `for`, and of a `for` with `in` or `of`
  AnInit : NodeSort
  ALoopHead : NodeSort
  ADeclarator : NodeSort
  AnExpr : NodeSort
  ACallee : NodeSort
  AnArgument : NodeSort
  -- what stands behind `?.`
  ALink : NodeSort
  AnArrowBody : NodeSort
  ATemplate : NodeSort
  ATextPart : NodeSort
  AProperty : NodeSort
  AKey : NodeSort
  AMemberKey : NodeSort
  ASuperKey : NodeSort
  APrivateKey : NodeSort
  APattern : Role → NodeSort
  APatternProperty : Role → NodeSort
  ABindingIdent : Role → NodeSort
  AnIdent : Role → NodeSort
  -- what is assigned to
  ATarget : NodeSort
  AParameter : NodeSort
  AFunction : NodeSort
  AClass : NodeSort
  AMember : NodeSort

-- how many nodes stand in a field: one; one or none; each number; each number, with places that
-- hold nothing
pub data NodeCount : Type 0 where
  One : NodeCount
  Optional : NodeCount
  Many : NodeCount
  Places : NodeCount

-- a field: its number, how many nodes it holds, and of which sort
pub data NodeSlot : Type 0 where
  slot : ℕ → NodeCount → NodeSort → NodeSlot

-- Which sorts take which nodes.

abbrev pub takes_module : NodeSort → Bool
takes_module AModule = true
takes_module _ = false

-- an import or export
abbrev pub takes_item : NodeSort → Bool
takes_item AnItem = true
takes_item _ = false

abbrev pub takes_import : NodeSort → Bool
takes_import AnImport = true
takes_import _ = false

abbrev pub takes_export : NodeSort → Bool
takes_export AnExport = true
takes_export _ = false

abbrev pub takes_stmt : NodeSort → Bool
takes_stmt AnItem = true
takes_stmt AStmt = true
takes_stmt _ = false

abbrev pub takes_block : NodeSort → Bool
takes_block AnItem = true
takes_block AStmt = true
takes_block ABlock = true
takes_block AnArrowBody = true
takes_block _ = false

-- `;`
abbrev pub takes_empty : NodeSort → Bool
takes_empty AnItem = true
takes_empty AStmt = true
takes_empty AMember = true
takes_empty _ = false

abbrev pub takes_case : NodeSort → Bool
takes_case ACase = true
takes_case _ = false

abbrev pub takes_handler : NodeSort → Bool
takes_handler AHandler = true
takes_handler _ = false

abbrev pub takes_decl : NodeSort → Bool
takes_decl AnItem = true
takes_decl AStmt = true
takes_decl ADecl = true
takes_decl _ = false

abbrev pub takes_var : NodeSort → Bool
takes_var AnItem = true
takes_var AStmt = true
takes_var ADecl = true
takes_var AnInit = true
takes_var ALoopHead = true
takes_var _ = false

abbrev pub takes_declarator : NodeSort → Bool
takes_declarator ADeclarator = true
takes_declarator _ = false

abbrev pub takes_expr : NodeSort → Bool
takes_expr AnExpr = true
takes_expr AnInit = true
takes_expr ACallee = true
takes_expr AnArrowBody = true
takes_expr (APattern names) = true
takes_expr ALoopHead = true
takes_expr _ = false

-- a function or class, which may be exported by default
abbrev pub takes_default : NodeSort → Bool
takes_default ADefault = true
takes_default AnExpr = true
takes_default AnInit = true
takes_default ACallee = true
takes_default AnArrowBody = true
takes_default (APattern names) = true
takes_default ALoopHead = true
takes_default _ = false

-- `a.b`
abbrev pub takes_read : NodeSort → Bool
takes_read ALink = true
takes_read ATarget = true
takes_read AnExpr = true
takes_read AnInit = true
takes_read ACallee = true
takes_read AnArrowBody = true
takes_read (APattern names) = true
takes_read ALoopHead = true
takes_read _ = false

-- `super.a`, `(a)`
abbrev pub takes_place : NodeSort → Bool
takes_place ATarget = true
takes_place AnExpr = true
takes_place AnInit = true
takes_place ACallee = true
takes_place AnArrowBody = true
takes_place (APattern names) = true
takes_place ALoopHead = true
takes_place _ = false

abbrev pub takes_template : NodeSort → Bool
takes_template ATemplate = true
takes_template AnExpr = true
takes_template AnInit = true
takes_template ACallee = true
takes_template AnArrowBody = true
takes_template (APattern names) = true
takes_template ALoopHead = true
takes_template _ = false

abbrev pub takes_text_part : NodeSort → Bool
takes_text_part ATextPart = true
takes_text_part _ = false

abbrev pub takes_string : NodeSort → Bool
takes_string AnOuter = true
takes_string AnInner = true
takes_string ASource = true
takes_string AKey = true
takes_string AnExpr = true
takes_string AnInit = true
takes_string ACallee = true
takes_string AnArrowBody = true
takes_string (APattern names) = true
takes_string ALoopHead = true
takes_string _ = false

abbrev pub takes_number : NodeSort → Bool
takes_number AKey = true
takes_number AnExpr = true
takes_number AnInit = true
takes_number ACallee = true
takes_number AnArrowBody = true
takes_number (APattern names) = true
takes_number ALoopHead = true
takes_number _ = false

abbrev pub takes_private : NodeSort → Bool
takes_private AMemberKey = true
takes_private APrivateKey = true
takes_private AnExpr = true
takes_private AnInit = true
takes_private ACallee = true
takes_private AnArrowBody = true
takes_private (APattern names) = true
takes_private ALoopHead = true
takes_private _ = false

-- a word
abbrev pub takes_word : NodeSort → Bool
takes_word ALabel = true
takes_word AKey = true
takes_word AMemberKey = true
takes_word ASuperKey = true
takes_word _ = false

abbrev pub takes_computed : NodeSort → Bool
takes_computed AKey = true
takes_computed AMemberKey = true
takes_computed ASuperKey = true
takes_computed _ = false

-- `super`, `import`
abbrev pub takes_callee : NodeSort → Bool
takes_callee ACallee = true
takes_callee _ = false

abbrev pub takes_argument : NodeSort → Bool
takes_argument AnArgument = true
takes_argument _ = false

-- `?.(a)`
abbrev pub takes_link : NodeSort → Bool
takes_link ALink = true
takes_link _ = false

abbrev pub takes_property : NodeSort → Bool
takes_property AProperty = true
takes_property _ = false

abbrev pub takes_binding_ident : NodeSort → Bool
takes_binding_ident (ABindingIdent names) = true
takes_binding_ident (APattern names) = true
takes_binding_ident ATarget = true
takes_binding_ident ALoopHead = true
takes_binding_ident _ = false

-- `[a]`, `{ a }`
abbrev pub takes_pattern : NodeSort → Bool
takes_pattern (APattern names) = true
takes_pattern ATarget = true
takes_pattern ALoopHead = true
takes_pattern _ = false

abbrev pub takes_rest : NodeSort → Bool
takes_rest (APattern names) = true
takes_rest (APatternProperty names) = true
takes_rest ALoopHead = true
takes_rest _ = false

-- `a = b`
abbrev pub takes_assigned : NodeSort → Bool
takes_assigned (APattern names) = true
takes_assigned ALoopHead = true
takes_assigned _ = false

abbrev pub takes_pattern_property : NodeSort → Bool
takes_pattern_property (APatternProperty names) = true
takes_pattern_property _ = false

abbrev pub takes_function : NodeSort → Bool
takes_function AFunction = true
takes_function _ = false

abbrev pub takes_parameter : NodeSort → Bool
takes_parameter AParameter = true
takes_parameter _ = false

abbrev pub takes_class : NodeSort → Bool
takes_class AClass = true
takes_class _ = false

abbrev pub takes_member : NodeSort → Bool
takes_member AMember = true
takes_member _ = false

-- whether a node of such a head may stand where that sort is
abbrev pub takes_head : Head → NodeSort → Bool
takes_head h.Module = takes_module
takes_head (h.ImportDecl meta) = takes_item
takes_head h.ImportNamedSpecifier = takes_import
takes_head h.ImportDefaultSpecifier = takes_import
takes_head h.ImportStarAsSpecifier = takes_import
takes_head h.ExportDecl = takes_item
takes_head (h.NamedExport meta) = takes_item
takes_head h.ExportNamespaceSpecifier = takes_export
takes_head h.ExportNamedSpecifier = takes_export
takes_head h.ExportDefaultDecl = takes_item
takes_head h.ExportDefaultExpr = takes_item
takes_head (h.ExportAll meta) = takes_item
takes_head h.BlockStmt = takes_block
takes_head h.EmptyStmt = takes_empty
takes_head h.DebuggerStmt = takes_stmt
takes_head h.WithStmt = takes_stmt
takes_head h.ReturnStmt = takes_stmt
takes_head h.LabeledStmt = takes_stmt
takes_head h.BreakStmt = takes_stmt
takes_head h.ContinueStmt = takes_stmt
takes_head h.IfStmt = takes_stmt
takes_head h.SwitchStmt = takes_stmt
takes_head h.SwitchCase = takes_case
takes_head h.ThrowStmt = takes_stmt
takes_head h.TryStmt = takes_stmt
takes_head h.CatchClause = takes_handler
takes_head h.WhileStmt = takes_stmt
takes_head h.DoWhileStmt = takes_stmt
takes_head h.ForStmt = takes_stmt
takes_head h.ForInStmt = takes_stmt
takes_head (h.ForOfStmt is_await) = takes_stmt
takes_head h.ExprStmt = takes_stmt
takes_head h.ClassDecl = takes_decl
takes_head h.FnDecl = takes_decl
takes_head (h.VarDecl kind meta) = takes_var
takes_head h.VarDeclarator = takes_declarator
takes_head h.ThisExpr = takes_expr
takes_head h.ArrayLit = takes_expr
takes_head h.ObjectLit = takes_expr
takes_head h.FnExpr = takes_default
takes_head (h.UnaryExpr op) = takes_expr
takes_head (h.UpdateExpr op prefix) = takes_expr
takes_head (h.BinExpr op) = takes_expr
takes_head (h.AssignExpr op) = takes_expr
takes_head h.MemberExpr = takes_read
takes_head h.SuperPropExpr = takes_place
takes_head h.CondExpr = takes_expr
takes_head h.CallExpr = takes_expr
takes_head (h.NewExpr has_args) = takes_expr
takes_head h.SeqExpr = takes_expr
takes_head h.Tpl = takes_template
takes_head (h.TplElement raw) = takes_text_part
takes_head h.TaggedTpl = takes_expr
takes_head (h.ArrowExpr is_async) = takes_expr
takes_head h.ClassExpr = takes_default
takes_head (h.YieldExpr delegate) = takes_expr
takes_head (h.MetaPropExpr kind) = takes_expr
takes_head h.AwaitExpr = takes_expr
takes_head h.ParenExpr = takes_place
takes_head (h.OptChainExpr optional) = takes_expr
takes_head h.OptCall = takes_link
takes_head (h.ExprOrSpread spread) = takes_argument
takes_head h.Super = takes_callee
takes_head h.Import = takes_callee
takes_head (h.IdentName sym) = takes_word
takes_head (h.PrivateName sym) = takes_private
takes_head (h.Str value raw) = takes_string
takes_head (h.Bool value) = takes_expr
takes_head h.Null = takes_expr
takes_head (h.Number raw) = takes_number
takes_head (h.BigInt raw) = takes_number
takes_head (h.Regex raw) = takes_expr
takes_head h.SpreadElement = takes_property
takes_head h.KeyValueProp = takes_property
takes_head h.GetterProp = takes_property
takes_head h.SetterProp = takes_property
takes_head h.MethodProp = takes_property
takes_head h.ComputedPropName = takes_computed
takes_head h.BindingIdent = takes_binding_ident
takes_head h.ArrayPat = takes_pattern
takes_head h.ObjectPat = takes_pattern
takes_head h.RestPat = takes_rest
takes_head h.AssignPat = takes_assigned
takes_head h.KeyValuePatProp = takes_pattern_property
takes_head h.AssignPatProp = takes_pattern_property
takes_head (h.Function is_generator is_async) = takes_function
takes_head h.Param = takes_parameter
takes_head h.Class = takes_class
takes_head h.Constructor = takes_member
takes_head (h.ClassMethod kind is_static) = takes_member
takes_head (h.PrivateMethod kind is_static) = takes_member
takes_head (h.ClassProp is_static) = takes_member
takes_head (h.PrivateProp is_static) = takes_member
takes_head h.StaticBlock = takes_member

-- Which sorts take which names.

-- a name that is bound
abbrev pub takes_binding : NodeSort → Bool
takes_binding ALocal = true
takes_binding (AnIdent r.Binding) = true
takes_binding _ = false

abbrev pub takes_reference : NodeSort → Bool
takes_reference AnInner = true
takes_reference AProperty = true
takes_reference (AnIdent r.Reference) = true
takes_reference AnExpr = true
takes_reference AnInit = true
takes_reference ACallee = true
takes_reference AnArrowBody = true
takes_reference (APattern names) = true
takes_reference ALoopHead = true
takes_reference _ = false

-- a name of another module
abbrev pub takes_outer : NodeSort → Bool
takes_outer AnOuter = true
takes_outer AnInner = true
takes_outer (AnIdent r.Word) = true
takes_outer _ = false

-- whether a name of such a role may stand where that sort is
abbrev pub takes_name : Role → NodeSort → Bool
takes_name r.Binding = takes_binding
takes_name r.Reference = takes_reference
takes_name r.Word = takes_outer

-- what the names of a pattern are that stands where that sort is
abbrev pub names_of_sort : NodeSort → Role
names_of_sort ALocal = r.Binding
names_of_sort (APattern names) = names
names_of_sort (APatternProperty names) = names
names_of_sort (ABindingIdent names) = names
names_of_sort (AnIdent names) = names
names_of_sort _ = r.Reference

-- the fields of a node, where its names as a pattern are these; those that are not listed have none
abbrev pub slots : Head → Role → List NodeSlot
-- modules (ECMA-262, 16.2)
slots h.Module names = slot 0 Many AnItem ∷ []
slots (h.ImportDecl meta) names = slot 0 Many AnImport ∷ slot 1 One ASource ∷ []
slots h.ImportNamedSpecifier names = slot 0 One ALocal ∷ slot 1 Optional AnOuter ∷ []
slots h.ImportDefaultSpecifier names = slot 0 One ALocal ∷ []
slots h.ImportStarAsSpecifier names = slot 0 One ALocal ∷ []
slots h.ExportDecl names = slot 0 One ADecl ∷ []
slots (h.NamedExport meta) names = slot 0 Many AnExport ∷ slot 1 Optional ASource ∷ []
slots h.ExportNamespaceSpecifier names = slot 0 One AnOuter ∷ []
slots h.ExportNamedSpecifier names = slot 0 One AnInner ∷ slot 1 Optional AnOuter ∷ []
slots h.ExportDefaultDecl names = slot 0 One ADefault ∷ []
slots h.ExportDefaultExpr names = slot 0 One AnExpr ∷ []
slots (h.ExportAll meta) names = slot 0 One ASource ∷ []
-- statements (ECMA-262, 14)
slots h.BlockStmt names = slot 0 Many AStmt ∷ []
slots h.WithStmt names = slot 0 One AnExpr ∷ slot 1 One AStmt ∷ []
slots h.ReturnStmt names = slot 0 Optional AnExpr ∷ []
slots h.LabeledStmt names = slot 0 One ALabel ∷ slot 1 One AStmt ∷ []
slots h.BreakStmt names = slot 0 Optional ALabel ∷ []
slots h.ContinueStmt names = slot 0 Optional ALabel ∷ []
slots h.IfStmt names = slot 0 One AnExpr ∷ slot 1 One AStmt ∷ slot 2 Optional AStmt ∷ []
slots h.SwitchStmt names = slot 0 One AnExpr ∷ slot 1 Many ACase ∷ []
slots h.SwitchCase names = slot 0 Optional AnExpr ∷ slot 1 Many AStmt ∷ []
slots h.ThrowStmt names = slot 0 One AnExpr ∷ []
slots h.TryStmt names = slot 0 One ABlock ∷ slot 1 Optional AHandler ∷ slot 2 Optional ABlock ∷ []
slots h.CatchClause names = slot 0 Optional (APattern r.Binding) ∷ slot 1 One ABlock ∷ []
slots h.WhileStmt names = slot 0 One AnExpr ∷ slot 1 One AStmt ∷ []
slots h.DoWhileStmt names = slot 0 One AStmt ∷ slot 1 One AnExpr ∷ []
slots h.ForStmt names =
    slot 0 Optional AnInit ∷ slot 1 Optional AnExpr ∷ slot 2 Optional AnExpr ∷ slot 3 One AStmt ∷ []
slots h.ForInStmt names = slot 0 One ALoopHead ∷ slot 1 One AnExpr ∷ slot 2 One AStmt ∷ []
slots (h.ForOfStmt is_await) names =
    slot 1 One ALoopHead ∷ slot 2 One AnExpr ∷ slot 3 One AStmt ∷ []
slots h.ExprStmt names = slot 0 One AnExpr ∷ []
-- declarations (ECMA-262, 14.3, 15.2 and 15.7)
slots h.ClassDecl names = slot 0 One ALocal ∷ slot 1 One AClass ∷ []
slots h.FnDecl names = slot 0 One ALocal ∷ slot 1 One AFunction ∷ []
slots (h.VarDecl kind meta) names = slot 1 Many ADeclarator ∷ []
slots h.VarDeclarator names = slot 0 One (APattern r.Binding) ∷ slot 1 Optional AnExpr ∷ []
-- expressions (ECMA-262, 13)
slots h.ArrayLit names = slot 0 Places AnArgument ∷ []
slots h.ObjectLit names = slot 0 Many AProperty ∷ []
slots h.FnExpr names = slot 0 Optional ALocal ∷ slot 1 One AFunction ∷ []
slots (h.UnaryExpr op) names = slot 1 One AnExpr ∷ []
slots (h.UpdateExpr op prefix) names = slot 2 One AnExpr ∷ []
slots (h.BinExpr op) names = slot 1 One AnExpr ∷ slot 2 One AnExpr ∷ []
slots (h.AssignExpr op) names = slot 1 One ATarget ∷ slot 2 One AnExpr ∷ []
slots h.MemberExpr names = slot 0 One AnExpr ∷ slot 1 One AMemberKey ∷ []
slots h.SuperPropExpr names = slot 0 One ASuperKey ∷ []
slots h.CondExpr names = slot 0 One AnExpr ∷ slot 1 One AnExpr ∷ slot 2 One AnExpr ∷ []
slots h.CallExpr names = slot 0 One ACallee ∷ slot 1 Many AnArgument ∷ []
slots (h.NewExpr true) names = slot 0 One AnExpr ∷ slot 1 Many AnArgument ∷ []
slots (h.NewExpr false) names = slot 0 One AnExpr ∷ slot 1 Optional AnArgument ∷ []
slots h.SeqExpr names = slot 0 Many AnExpr ∷ []
slots h.Tpl names = slot 0 Many AnExpr ∷ slot 1 Many ATextPart ∷ []
slots h.TaggedTpl names = slot 0 One AnExpr ∷ slot 1 One ATemplate ∷ []
slots (h.ArrowExpr is_async) names = slot 0 Many (APattern r.Binding) ∷ slot 1 One AnArrowBody ∷ []
slots h.ClassExpr names = slot 0 Optional ALocal ∷ slot 1 One AClass ∷ []
slots (h.YieldExpr delegate) names = slot 0 Optional AnExpr ∷ []
slots h.AwaitExpr names = slot 0 One AnExpr ∷ []
slots h.ParenExpr names = slot 0 One AnExpr ∷ []
slots (h.OptChainExpr optional) names = slot 1 One ALink ∷ []
slots h.OptCall names = slot 0 One AnExpr ∷ slot 1 Many AnArgument ∷ []
slots (h.ExprOrSpread spread) names = slot 1 One AnExpr ∷ []
-- properties of object literals (ECMA-262, 13.2.5)
slots h.SpreadElement names = slot 0 One AnExpr ∷ []
slots h.KeyValueProp names = slot 0 One AKey ∷ slot 1 One AnExpr ∷ []
slots h.GetterProp names = slot 0 One AKey ∷ slot 1 One ABlock ∷ []
slots h.SetterProp names =
    slot 0 One AKey ∷ slot 1 One (APattern r.Binding) ∷ slot 2 One ABlock ∷ []
slots h.MethodProp names = slot 0 One AKey ∷ slot 1 One AFunction ∷ []
slots h.ComputedPropName names = slot 0 One AnExpr ∷ []
-- patterns (ECMA-262, 14.3.3)
slots h.BindingIdent names = slot 0 One (AnIdent names) ∷ []
slots h.ArrayPat names = slot 0 Places (APattern names) ∷ []
slots h.ObjectPat names = slot 0 Many (APatternProperty names) ∷ []
slots h.RestPat names = slot 0 One (APattern names) ∷ []
slots h.AssignPat names = slot 0 One (APattern names) ∷ slot 1 One AnExpr ∷ []
slots h.KeyValuePatProp names = slot 0 One AKey ∷ slot 1 One (APattern names) ∷ []
slots h.AssignPatProp names = slot 0 One (ABindingIdent names) ∷ slot 1 Optional AnExpr ∷ []
-- functions and classes (ECMA-262, 15)
slots (h.Function is_generator is_async) names = slot 0 Many AParameter ∷ slot 1 One ABlock ∷ []
slots h.Param names = slot 0 One (APattern r.Binding) ∷ []
slots h.Class names = slot 0 Optional AnExpr ∷ slot 1 Many AMember ∷ []
slots h.Constructor names = slot 0 Many AParameter ∷ slot 1 One ABlock ∷ []
slots (h.ClassMethod kind is_static) names = slot 0 One AKey ∷ slot 1 One AFunction ∷ []
slots (h.PrivateMethod kind is_static) names = slot 0 One APrivateKey ∷ slot 1 One AFunction ∷ []
slots (h.ClassProp is_static) names = slot 0 One AKey ∷ slot 1 Optional AnExpr ∷ []
slots (h.PrivateProp is_static) names = slot 0 One APrivateKey ∷ slot 1 Optional AnExpr ∷ []
slots h.StaticBlock names = slot 0 One ABlock ∷ []
slots _ names = []
