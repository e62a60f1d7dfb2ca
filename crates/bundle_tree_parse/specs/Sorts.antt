-- What may stand where in the list of a tree (ECMA-262, 12 to 16): for each sort of place the nodes
-- and names that it takes, and for each node its fields in their order.
use Rattle.std.specs.Prelude.{ℕ, Bool, true, false, cond, ◌||◌, List, [], ◌∷◌, Option, Some, None}
use Rattle.bundle_syntax.specs.declared.piece.Role.{Role}
use Rattle.bundle_syntax.specs.declared.piece.Role.TheVariants as r
use Rattle.bundle_syntax.specs.Item as h
use Rattle.bundle_syntax.specs.Item.{Head}

-- what stands in a place; of a pattern and of a name also what the names in it are
pub data Sort : Type 0 where
  -- modules (ECMA-262, 16.2)
  AModule : Sort
  AnItem : Sort
  AModuleDecl : Sort
  AnImport : Sort
  AnExport : Role → Sort
  AModuleName : Role → Sort
  ADefault : Sort
  -- statements (ECMA-262, 14)
  AStmt : Sort
  APlainStmt : Sort
  ABranchStmt : Sort
  ALoop : Sort
  AFor : Sort
  ABlock : Sort
  ACase : Sort
  AHandler : Sort
  AnInit : Sort
  ALoopHead : Sort
  -- declarations (ECMA-262, 14.3, 15.2 and 15.7)
  ADecl : Sort
  AVarDecl : Sort
  ADeclarator : Sort
  -- expressions (ECMA-262, 13)
  AnExpr : Sort
  AFunctionExpr : Sort
  ACompoundExpr : Sort
  ACallExpr : Sort
  AnOperatorExpr : Sort
  AWideOperatorExpr : Sort
  AnArgument : Sort
  ACallee : Sort
  AnArrowBody : Sort
  AMemberExpr : Sort
  ASuperMember : Sort
  AParen : Sort
  ATemplate : Sort
  ALink : Sort
  AnOptCall : Sort
  -- properties (ECMA-262, 13.2.5 and 13.3.2)
  APropertyOrSpread : Sort
  AProperty : Sort
  AKeyValue : Sort
  AComputedKey : Sort
  AKey : Sort
  AMemberKey : Sort
  ASuperKey : Sort
  -- patterns, and what is assigned to (ECMA-262, 13.15.5 and 14.3.3)
  APattern : Role → Sort
  AnAssignPattern : Role → Sort
  AnArrayPattern : Role → Sort
  ARestPattern : Role → Sort
  AnObjectPattern : Role → Sort
  APatternProperty : Role → Sort
  ATarget : Sort
  -- functions and classes (ECMA-262, 15)
  AFunction : Sort
  AParameter : Sort
  AClass : Sort
  AClassMember : Sort
  AMethod : Sort
  AField : Sort
  -- names and literals (ECMA-262, 12.7 and 13.2.3)
  AnIdent : Role → Sort
  ABindingIdent : Role → Sort
  AWord : Sort
  APrivateName : Sort
  AString : Sort
  ANumber : Sort
  ABigInt : Sort
  ARegex : Sort
  ALiteral : Sort
  ATextPart : Sort

-- how many nodes stand in a field: one; one or none; each number; each number, with places that
-- hold nothing
pub data Count : Type 0 where
  One : Count
  Optional : Count
  Many : Count
  Places : Count

-- a field: its number, how many nodes it holds, and of which sort
pub data Slot : Type 0 where
  slot : ℕ → Count → Sort → Slot

-- what a node holds: it may not stand there; its fields; an export list, whose names are words of
-- another module where a source comes after them
pub data Holding : Type 0 where
  Refused : Holding
  Fields : List Slot → Holding
  Exports : Holding

-- what the names of a pattern are that stands there
abbrev pub names_in : Sort → Role
names_in (AnExport names) = names
names_in (AModuleName names) = names
names_in (APattern names) = names
names_in (AnAssignPattern names) = names
names_in (AnArrayPattern names) = names
names_in (ARestPattern names) = names
names_in (AnObjectPattern names) = names
names_in (APatternProperty names) = names
names_in (AnIdent names) = names
names_in (ABindingIdent names) = names
names_in _ = r.Reference

-- what a name is that may stand there alone
abbrev pub name_of : Sort → Option Role
name_of (AnIdent role) = Some role
name_of (AModuleName role) = Some role
name_of AnExpr = Some r.Reference
name_of AnInit = Some r.Reference
name_of ALoopHead = Some r.Reference
name_of ACallee = Some r.Reference
name_of AnArrowBody = Some r.Reference
name_of (APattern names) = Some r.Reference
name_of APropertyOrSpread = Some r.Reference
name_of AProperty = Some r.Reference
name_of _ = None

-- Which nodes stand where.

abbrev pub is_module : Head → Bool
is_module h.Module = true
is_module _ = false

abbrev pub is_module_decl : Head → Bool
is_module_decl (h.ImportDecl meta) = true
is_module_decl h.ExportDecl = true
is_module_decl (h.NamedExport meta) = true
is_module_decl h.ExportDefaultDecl = true
is_module_decl h.ExportDefaultExpr = true
is_module_decl (h.ExportAll meta) = true
is_module_decl _ = false

abbrev pub is_import : Head → Bool
is_import h.ImportNamedSpecifier = true
is_import h.ImportDefaultSpecifier = true
is_import h.ImportStarAsSpecifier = true
is_import _ = false

abbrev pub is_export : Head → Bool
is_export h.ExportNamespaceSpecifier = true
is_export h.ExportNamedSpecifier = true
is_export _ = false

abbrev pub is_default : Head → Bool
is_default h.ClassExpr = true
is_default h.FnExpr = true
is_default _ = false

abbrev pub is_plain_stmt : Head → Bool
is_plain_stmt h.ExprStmt = true
is_plain_stmt h.ReturnStmt = true
is_plain_stmt h.ThrowStmt = true
is_plain_stmt _ = false

abbrev pub is_branch : Head → Bool
is_branch h.IfStmt = true
is_branch h.SwitchStmt = true
is_branch h.TryStmt = true
is_branch h.WithStmt = true
is_branch h.LabeledStmt = true
is_branch _ = false

abbrev pub is_for : Head → Bool
is_for h.ForStmt = true
is_for h.ForInStmt = true
is_for (h.ForOfStmt is_await) = true
is_for _ = false

abbrev pub is_loop : Head → Bool
is_loop h.WhileStmt = true
is_loop h.DoWhileStmt = true
is_loop head = is_for head

abbrev pub is_opened_stmt : Head → Bool
is_opened_stmt h.EmptyStmt = true
is_opened_stmt h.DebuggerStmt = true
is_opened_stmt h.BreakStmt = true
is_opened_stmt h.ContinueStmt = true
is_opened_stmt head = is_loop head || is_branch head || is_plain_stmt head

abbrev pub is_block : Head → Bool
is_block h.BlockStmt = true
is_block _ = false

abbrev pub is_var_decl : Head → Bool
is_var_decl (h.VarDecl kind meta) = true
is_var_decl _ = false

abbrev pub is_decl : Head → Bool
is_decl h.ClassDecl = true
is_decl h.FnDecl = true
is_decl (h.VarDecl kind meta) = true
is_decl _ = false

abbrev pub is_stmt : Head → Bool
is_stmt head = is_block head || is_decl head || is_opened_stmt head

abbrev pub is_case : Head → Bool
is_case h.SwitchCase = true
is_case _ = false

abbrev pub is_handler : Head → Bool
is_handler h.CatchClause = true
is_handler _ = false

abbrev pub is_declarator : Head → Bool
is_declarator h.VarDeclarator = true
is_declarator _ = false

abbrev pub is_function_expr : Head → Bool
is_function_expr h.FnExpr = true
is_function_expr h.ClassExpr = true
is_function_expr (h.ArrowExpr is_async) = true
is_function_expr _ = false

abbrev pub is_compound : Head → Bool
is_compound h.ArrayLit = true
is_compound h.ObjectLit = true
is_compound h.SeqExpr = true
is_compound h.TaggedTpl = true
is_compound _ = false

abbrev pub is_call : Head → Bool
is_call h.CallExpr = true
is_call (h.NewExpr has_args) = true
is_call (h.OptChainExpr optional) = true
is_call _ = false

abbrev pub is_wide_operator : Head → Bool
is_wide_operator (h.BinExpr op) = true
is_wide_operator (h.AssignExpr op) = true
is_wide_operator h.CondExpr = true
is_wide_operator _ = false

abbrev pub is_operator : Head → Bool
is_operator (h.UnaryExpr op) = true
is_operator (h.UpdateExpr op prefix) = true
is_operator (h.YieldExpr delegate) = true
is_operator h.AwaitExpr = true
is_operator head = is_wide_operator head

abbrev pub is_opened_expr : Head → Bool
is_opened_expr h.ThisExpr = true
is_opened_expr (h.MetaPropExpr kind) = true
is_opened_expr head = is_function_expr head || is_compound head || is_call head || is_operator head

abbrev pub is_word_literal : Head → Bool
is_word_literal (h.Bool value) = true
is_word_literal h.Null = true
is_word_literal _ = false

abbrev pub is_literal : Head → Bool
is_literal (h.Str value raw) = true
is_literal (h.Number raw) = true
is_literal (h.BigInt raw) = true
is_literal (h.Regex raw) = true
is_literal head = is_word_literal head

abbrev pub is_member_expr : Head → Bool
is_member_expr h.MemberExpr = true
is_member_expr _ = false

abbrev pub is_super_member : Head → Bool
is_super_member h.SuperPropExpr = true
is_super_member _ = false

abbrev pub is_paren : Head → Bool
is_paren h.ParenExpr = true
is_paren _ = false

abbrev pub is_template : Head → Bool
is_template h.Tpl = true
is_template _ = false

abbrev pub is_private_name : Head → Bool
is_private_name (h.PrivateName sym) = true
is_private_name _ = false

abbrev pub is_expr : Head → Bool
is_expr h.MemberExpr = true
is_expr h.SuperPropExpr = true
is_expr h.ParenExpr = true
is_expr h.Tpl = true
is_expr (h.PrivateName sym) = true
is_expr head = is_literal head || is_opened_expr head

abbrev pub is_argument : Head → Bool
is_argument (h.ExprOrSpread spread) = true
is_argument _ = false

abbrev pub is_callee : Head → Bool
is_callee h.Super = true
is_callee h.Import = true
is_callee head = is_expr head

abbrev pub is_arrow_body : Head → Bool
is_arrow_body h.BlockStmt = true
is_arrow_body head = is_expr head

abbrev pub is_opt_call : Head → Bool
is_opt_call h.OptCall = true
is_opt_call _ = false

abbrev pub is_link : Head → Bool
is_link h.OptCall = true
is_link head = is_member_expr head

abbrev pub is_init : Head → Bool
is_init (h.VarDecl kind meta) = true
is_init head = is_expr head

abbrev pub is_key_value : Head → Bool
is_key_value h.KeyValueProp = true
is_key_value _ = false

abbrev pub is_property : Head → Bool
is_property h.KeyValueProp = true
is_property h.GetterProp = true
is_property h.SetterProp = true
is_property h.MethodProp = true
is_property _ = false

abbrev pub is_property_or_spread : Head → Bool
is_property_or_spread h.SpreadElement = true
is_property_or_spread head = is_property head

abbrev pub is_computed_key : Head → Bool
is_computed_key h.ComputedPropName = true
is_computed_key _ = false

abbrev pub is_word : Head → Bool
is_word (h.IdentName sym) = true
is_word _ = false

abbrev pub is_string : Head → Bool
is_string (h.Str value raw) = true
is_string _ = false

abbrev pub is_number : Head → Bool
is_number (h.Number raw) = true
is_number _ = false

abbrev pub is_big_int : Head → Bool
is_big_int (h.BigInt raw) = true
is_big_int _ = false

abbrev pub is_regex : Head → Bool
is_regex (h.Regex raw) = true
is_regex _ = false

abbrev pub is_key : Head → Bool
is_key (h.IdentName sym) = true
is_key (h.Str value raw) = true
is_key (h.Number raw) = true
is_key (h.BigInt raw) = true
is_key head = is_computed_key head

abbrev pub is_member_key : Head → Bool
is_member_key (h.IdentName sym) = true
is_member_key (h.PrivateName sym) = true
is_member_key head = is_computed_key head

abbrev pub is_super_key : Head → Bool
is_super_key (h.IdentName sym) = true
is_super_key head = is_computed_key head

abbrev pub is_binding_ident : Head → Bool
is_binding_ident h.BindingIdent = true
is_binding_ident _ = false

abbrev pub is_array_pattern : Head → Bool
is_array_pattern h.ArrayPat = true
is_array_pattern _ = false

abbrev pub is_object_pattern : Head → Bool
is_object_pattern h.ObjectPat = true
is_object_pattern _ = false

abbrev pub is_rest_pattern : Head → Bool
is_rest_pattern h.RestPat = true
is_rest_pattern _ = false

abbrev pub is_assign_pattern : Head → Bool
is_assign_pattern h.AssignPat = true
is_assign_pattern _ = false

abbrev pub is_pattern : Head → Bool
is_pattern h.BindingIdent = true
is_pattern h.ArrayPat = true
is_pattern h.RestPat = true
is_pattern h.ObjectPat = true
is_pattern h.AssignPat = true
is_pattern head = is_expr head

abbrev pub is_pattern_property : Head → Bool
is_pattern_property h.RestPat = true
is_pattern_property h.KeyValuePatProp = true
is_pattern_property h.AssignPatProp = true
is_pattern_property _ = false

abbrev pub is_target : Head → Bool
is_target h.BindingIdent = true
is_target h.MemberExpr = true
is_target h.SuperPropExpr = true
is_target h.ParenExpr = true
is_target h.ArrayPat = true
is_target head = is_object_pattern head

abbrev pub is_loop_head : Head → Bool
is_loop_head (h.VarDecl kind meta) = true
is_loop_head head = is_pattern head

abbrev pub is_function : Head → Bool
is_function (h.Function is_generator is_async) = true
is_function _ = false

abbrev pub is_parameter : Head → Bool
is_parameter h.Param = true
is_parameter _ = false

abbrev pub is_class : Head → Bool
is_class h.Class = true
is_class _ = false

abbrev pub is_method : Head → Bool
is_method (h.ClassMethod kind is_static) = true
is_method (h.PrivateMethod kind is_static) = true
is_method _ = false

abbrev pub is_field : Head → Bool
is_field (h.ClassProp is_static) = true
is_field (h.PrivateProp is_static) = true
is_field _ = false

abbrev pub is_class_member : Head → Bool
is_class_member h.EmptyStmt = true
is_class_member h.StaticBlock = true
is_class_member h.Constructor = true
is_class_member head = is_method head || is_field head

abbrev pub is_text_part : Head → Bool
is_text_part (h.TplElement raw) = true
is_text_part _ = false

-- whether a node of such a head may stand where that sort is
abbrev pub takes : Sort → Head → Bool
takes AModule = is_module
takes AnItem = λ head. is_module_decl head || is_stmt head
takes AModuleDecl = is_module_decl
takes AnImport = is_import
takes (AnExport names) = is_export
takes (AModuleName names) = is_string
takes ADefault = is_default
takes AStmt = is_stmt
takes APlainStmt = is_plain_stmt
takes ABranchStmt = is_branch
takes ALoop = is_loop
takes AFor = is_for
takes ABlock = is_block
takes ACase = is_case
takes AHandler = is_handler
takes AnInit = is_init
takes ALoopHead = is_loop_head
takes ADecl = is_decl
takes AVarDecl = is_var_decl
takes ADeclarator = is_declarator
takes AnExpr = is_expr
takes AFunctionExpr = is_function_expr
takes ACompoundExpr = is_compound
takes ACallExpr = is_call
takes AnOperatorExpr = is_operator
takes AWideOperatorExpr = is_wide_operator
takes AnArgument = is_argument
takes ACallee = is_callee
takes AnArrowBody = is_arrow_body
takes AMemberExpr = is_member_expr
takes ASuperMember = is_super_member
takes AParen = is_paren
takes ATemplate = is_template
takes ALink = is_link
takes AnOptCall = is_opt_call
takes APropertyOrSpread = is_property_or_spread
takes AProperty = is_property
takes AKeyValue = is_key_value
takes AComputedKey = is_computed_key
takes AKey = is_key
takes AMemberKey = is_member_key
takes ASuperKey = is_super_key
takes (APattern names) = is_pattern
takes (AnAssignPattern names) = is_assign_pattern
takes (AnArrayPattern names) = is_array_pattern
takes (ARestPattern names) = is_rest_pattern
takes (AnObjectPattern names) = is_object_pattern
takes (APatternProperty names) = is_pattern_property
takes ATarget = is_target
takes AFunction = is_function
takes AParameter = is_parameter
takes AClass = is_class
takes AClassMember = is_class_member
takes AMethod = is_method
takes AField = is_field
takes (AnIdent names) = λ head. false
takes (ABindingIdent names) = is_binding_ident
takes AWord = is_word
takes APrivateName = is_private_name
takes AString = is_string
takes ANumber = is_number
takes ABigInt = is_big_int
takes ARegex = is_regex
takes ALiteral = is_literal
takes ATextPart = is_text_part

-- the arguments of a `new`, where it has a list of them
abbrev pub arguments : Bool → List Slot
arguments true = slot 1 Many AnArgument ∷ []
arguments false = []

-- what a node holds, where its names as a pattern are these
abbrev pub fields : Role → Head → Holding
-- modules (ECMA-262, 16.2)
fields names h.Module = Fields (slot 0 Many AnItem ∷ [])
fields names (h.ImportDecl meta) = Fields (slot 0 Many AnImport ∷ slot 1 One AString ∷ [])
fields names h.ImportNamedSpecifier =
    Fields (slot 0 One (AnIdent r.Binding) ∷ slot 1 Optional (AModuleName r.Word) ∷ [])
fields names h.ImportDefaultSpecifier = Fields (slot 0 One (AnIdent r.Binding) ∷ [])
fields names h.ImportStarAsSpecifier = Fields (slot 0 One (AnIdent r.Binding) ∷ [])
fields names h.ExportDecl = Fields (slot 0 One ADecl ∷ [])
fields names (h.NamedExport meta) = Exports
fields names h.ExportNamespaceSpecifier = Fields (slot 0 One (AModuleName r.Word) ∷ [])
fields names h.ExportNamedSpecifier =
    Fields (slot 0 One (AModuleName names) ∷ slot 1 Optional (AModuleName r.Word) ∷ [])
fields names h.ExportDefaultDecl = Fields (slot 0 One ADefault ∷ [])
fields names h.ExportDefaultExpr = Fields (slot 0 One AnExpr ∷ [])
fields names (h.ExportAll meta) = Fields (slot 0 One AString ∷ [])
-- statements (ECMA-262, 14)
fields names h.BlockStmt = Fields (slot 0 Many AStmt ∷ [])
fields names h.EmptyStmt = Fields []
fields names h.DebuggerStmt = Fields []
fields names h.WithStmt = Fields (slot 0 One AnExpr ∷ slot 1 One AStmt ∷ [])
fields names h.ReturnStmt = Fields (slot 0 Optional AnExpr ∷ [])
fields names h.LabeledStmt = Fields (slot 0 One AWord ∷ slot 1 One AStmt ∷ [])
fields names h.BreakStmt = Fields (slot 0 Optional AWord ∷ [])
fields names h.ContinueStmt = Fields (slot 0 Optional AWord ∷ [])
fields names h.IfStmt = Fields (slot 0 One AnExpr ∷ slot 1 One AStmt ∷ slot 2 Optional AStmt ∷ [])
fields names h.SwitchStmt = Fields (slot 0 One AnExpr ∷ slot 1 Many ACase ∷ [])
fields names h.SwitchCase = Fields (slot 0 Optional AnExpr ∷ slot 1 Many AStmt ∷ [])
fields names h.ThrowStmt = Fields (slot 0 One AnExpr ∷ [])
fields names h.TryStmt =
    Fields (slot 0 One ABlock ∷ slot 1 Optional AHandler ∷ slot 2 Optional ABlock ∷ [])
fields names h.CatchClause = Fields (slot 0 Optional (APattern r.Binding) ∷ slot 1 One ABlock ∷ [])
fields names h.WhileStmt = Fields (slot 0 One AnExpr ∷ slot 1 One AStmt ∷ [])
fields names h.DoWhileStmt = Fields (slot 0 One AStmt ∷ slot 1 One AnExpr ∷ [])
fields names h.ForStmt =
    Fields
    (slot 0 Optional AnInit ∷ slot 1 Optional AnExpr ∷ slot 2 Optional AnExpr ∷ slot 3 One AStmt
    ∷ [])
fields names h.ForInStmt = Fields (slot 0 One ALoopHead ∷ slot 1 One AnExpr ∷ slot 2 One AStmt ∷ [])
fields names (h.ForOfStmt is_await) =
    Fields (slot 1 One ALoopHead ∷ slot 2 One AnExpr ∷ slot 3 One AStmt ∷ [])
fields names h.ExprStmt = Fields (slot 0 One AnExpr ∷ [])
-- declarations (ECMA-262, 14.3, 15.2 and 15.7)
fields names h.ClassDecl = Fields (slot 0 One (AnIdent r.Binding) ∷ slot 1 One AClass ∷ [])
fields names h.FnDecl = Fields (slot 0 One (AnIdent r.Binding) ∷ slot 1 One AFunction ∷ [])
fields names (h.VarDecl kind meta) = Fields (slot 1 Many ADeclarator ∷ [])
fields names h.VarDeclarator =
    Fields (slot 0 One (APattern r.Binding) ∷ slot 1 Optional AnExpr ∷ [])
-- expressions (ECMA-262, 13)
fields names h.ThisExpr = Fields []
fields names h.ArrayLit = Fields (slot 0 Places AnArgument ∷ [])
fields names h.ObjectLit = Fields (slot 0 Many APropertyOrSpread ∷ [])
fields names h.FnExpr = Fields (slot 0 Optional (AnIdent r.Binding) ∷ slot 1 One AFunction ∷ [])
fields names (h.UnaryExpr op) = Fields (slot 1 One AnExpr ∷ [])
fields names (h.UpdateExpr op prefix) = Fields (slot 2 One AnExpr ∷ [])
fields names (h.BinExpr op) = Fields (slot 1 One AnExpr ∷ slot 2 One AnExpr ∷ [])
fields names (h.AssignExpr op) = Fields (slot 1 One ATarget ∷ slot 2 One AnExpr ∷ [])
fields names h.MemberExpr = Fields (slot 0 One AnExpr ∷ slot 1 One AMemberKey ∷ [])
fields names h.SuperPropExpr = Fields (slot 0 One ASuperKey ∷ [])
fields names h.CondExpr = Fields (slot 0 One AnExpr ∷ slot 1 One AnExpr ∷ slot 2 One AnExpr ∷ [])
fields names h.CallExpr = Fields (slot 0 One ACallee ∷ slot 1 Many AnArgument ∷ [])
fields names (h.NewExpr has_args) = Fields (slot 0 One AnExpr ∷ arguments has_args)
fields names h.SeqExpr = Fields (slot 0 Many AnExpr ∷ [])
fields names h.Tpl = Fields (slot 0 Many AnExpr ∷ slot 1 Many ATextPart ∷ [])
fields names (h.TplElement raw) = Fields []
fields names h.TaggedTpl = Fields (slot 0 One AnExpr ∷ slot 1 One ATemplate ∷ [])
fields names (h.ArrowExpr is_async) =
    Fields (slot 0 Many (APattern r.Binding) ∷ slot 1 One AnArrowBody ∷ [])
fields names h.ClassExpr = Fields (slot 0 Optional (AnIdent r.Binding) ∷ slot 1 One AClass ∷ [])
fields names (h.YieldExpr delegate) = Fields (slot 0 Optional AnExpr ∷ [])
fields names (h.MetaPropExpr kind) = Fields []
fields names h.AwaitExpr = Fields (slot 0 One AnExpr ∷ [])
fields names h.ParenExpr = Fields (slot 0 One AnExpr ∷ [])
fields names (h.OptChainExpr optional) = Fields (slot 1 One ALink ∷ [])
fields names h.OptCall = Fields (slot 0 One AnExpr ∷ slot 1 Many AnArgument ∷ [])
fields names (h.ExprOrSpread spread) = Fields (slot 1 One AnExpr ∷ [])
fields names h.Super = Fields []
fields names h.Import = Fields []
-- names and literals (ECMA-262, 12.7 and 13.2.3)
fields names (h.IdentName sym) = Fields []
fields names (h.PrivateName sym) = Fields []
fields names (h.Str value raw) = Fields []
fields names (h.Bool value) = Fields []
fields names h.Null = Fields []
fields names (h.Number raw) = Fields []
fields names (h.BigInt raw) = Fields []
fields names (h.Regex raw) = Fields []
-- properties of object literals (ECMA-262, 13.2.5)
fields names h.SpreadElement = Fields (slot 0 One AnExpr ∷ [])
fields names h.KeyValueProp = Fields (slot 0 One AKey ∷ slot 1 One AnExpr ∷ [])
fields names h.GetterProp = Fields (slot 0 One AKey ∷ slot 1 One ABlock ∷ [])
fields names h.SetterProp =
    Fields (slot 0 One AKey ∷ slot 1 One (APattern r.Binding) ∷ slot 2 One ABlock ∷ [])
fields names h.MethodProp = Fields (slot 0 One AKey ∷ slot 1 One AFunction ∷ [])
fields names h.ComputedPropName = Fields (slot 0 One AnExpr ∷ [])
-- patterns (ECMA-262, 14.3.3)
fields names h.BindingIdent = Fields (slot 0 One (AnIdent names) ∷ [])
fields names h.ArrayPat = Fields (slot 0 Places (APattern names) ∷ [])
fields names h.ObjectPat = Fields (slot 0 Many (APatternProperty names) ∷ [])
fields names h.RestPat = Fields (slot 0 One (APattern names) ∷ [])
fields names h.AssignPat = Fields (slot 0 One (APattern names) ∷ slot 1 One AnExpr ∷ [])
fields names h.KeyValuePatProp = Fields (slot 0 One AKey ∷ slot 1 One (APattern names) ∷ [])
fields names h.AssignPatProp =
    Fields (slot 0 One (ABindingIdent names) ∷ slot 1 Optional AnExpr ∷ [])
-- functions and classes (ECMA-262, 15)
fields names (h.Function is_generator is_async) =
    Fields (slot 0 Many AParameter ∷ slot 1 One ABlock ∷ [])
fields names h.Param = Fields (slot 0 One (APattern r.Binding) ∷ [])
fields names h.Class = Fields (slot 0 Optional AnExpr ∷ slot 1 Many AClassMember ∷ [])
fields names h.Constructor = Fields (slot 0 Many AParameter ∷ slot 1 One ABlock ∷ [])
fields names (h.ClassMethod kind is_static) = Fields (slot 0 One AKey ∷ slot 1 One AFunction ∷ [])
fields names (h.PrivateMethod kind is_static) =
    Fields (slot 0 One APrivateName ∷ slot 1 One AFunction ∷ [])
fields names (h.ClassProp is_static) = Fields (slot 0 One AKey ∷ slot 1 Optional AnExpr ∷ [])
fields names (h.PrivateProp is_static) =
    Fields (slot 0 One APrivateName ∷ slot 1 Optional AnExpr ∷ [])
fields names h.StaticBlock = Fields (slot 0 One ABlock ∷ [])

-- what a node of such a head holds where that sort is
abbrev pub holds : Sort → Head → Holding
holds sort head = cond (takes sort head) (fields (names_in sort) head) Refused
