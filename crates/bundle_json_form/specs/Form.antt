-- The JSON form of a syntax tree.
use Rattle.std.specs.Prelude.{◌≡◌, ℕ, ◌==◌, Bool, true, false, if◌then◌else◌, is_some, not, List, [], ◌∷◌, ◌++◌, Option, Some, None, IsSomeAnd, option_and_then, codes}
use Rattle.std.specs.List.{AllByRecursion}
use Rattle.serde_json.specs.Data.{Data, null, boolean, number as numeric, unsigned, string, array, object, Items, no_items, item, Members, no_members, put}
use Rattle.serde_json.specs.Find.{get, as_null, as_str, as_bool, as_array}
use Rattle.bundle_syntax.specs.Text.{unary_text, update_text, binary_text, assign_text, declaration_word, method_word, meta_prop_text}
use Rattle.bundle_syntax.specs.declared.kind.ExportMetadata.{ExportMetadata}
use Rattle.bundle_syntax.specs.declared.piece.Role.{Role}
use Rattle.bundle_syntax.specs.declared.piece.Role.TheVariants.{Binding, Reference, Word}
use Rattle.bundle_syntax.specs.Item as h
use Rattle.bundle_syntax.specs.Item.{Item, Head}
use Rattle.bundle_json_form.specs.declared.layout.Shape.{Shape}
use Rattle.bundle_json_form.specs.declared.layout.Shape.TheVariants as s
use Rattle.bundle_json_form.specs.declared.role.NodePlace.{NodePlace}

-- a field of a node that holds nodes: its number, its key, and what stands under the key
pub record Field : Type 0 where
  pub number : ℕ
  pub key : List ℕ
  pub shape : Shape

-- one node
abbrev pub single_node : ℕ → List ℕ → Field
single_node number key = record { number = number; key = key; shape = s.One }

-- one node, or `null`
abbrev pub optional : ℕ → List ℕ → Field
optional number key = record { number = number; key = key; shape = s.Optional }

-- a list of nodes
abbrev pub list : ℕ → List ℕ → Field
list number key = record { number = number; key = key; shape = s.List }

-- a list of nodes and `null`s
abbrev pub places : ℕ → List ℕ → Field
places number key = record { number = number; key = key; shape = s.Places }

-- the name of a node, which stands under `type`
abbrev pub name : Head → List ℕ
-- modules (ECMA-262, 16.2)
name h.Module = codes "Module"
name (h.ImportDecl _) = codes "ImportDecl"
name h.ImportNamedSpecifier = codes "ImportNamedSpecifier"
name h.ImportDefaultSpecifier = codes "ImportDefaultSpecifier"
name h.ImportStarAsSpecifier = codes "ImportStarAsSpecifier"
name h.ExportDecl = codes "ExportDecl"
name (h.NamedExport _) = codes "NamedExport"
name h.ExportNamespaceSpecifier = codes "ExportNamespaceSpecifier"
name h.ExportNamedSpecifier = codes "ExportNamedSpecifier"
name h.ExportDefaultDecl = codes "ExportDefaultDecl"
name h.ExportDefaultExpr = codes "ExportDefaultExpr"
name (h.ExportAll _) = codes "ExportAll"
-- statements (ECMA-262, 14)
name h.BlockStmt = codes "BlockStmt"
name h.EmptyStmt = codes "EmptyStmt"
name h.DebuggerStmt = codes "DebuggerStmt"
name h.WithStmt = codes "WithStmt"
name h.ReturnStmt = codes "ReturnStmt"
name h.LabeledStmt = codes "LabeledStmt"
name h.BreakStmt = codes "BreakStmt"
name h.ContinueStmt = codes "ContinueStmt"
name h.IfStmt = codes "IfStmt"
name h.SwitchStmt = codes "SwitchStmt"
name h.SwitchCase = codes "SwitchCase"
name h.ThrowStmt = codes "ThrowStmt"
name h.TryStmt = codes "TryStmt"
name h.CatchClause = codes "CatchClause"
name h.WhileStmt = codes "WhileStmt"
name h.DoWhileStmt = codes "DoWhileStmt"
name h.ForStmt = codes "ForStmt"
name h.ForInStmt = codes "ForInStmt"
name (h.ForOfStmt _) = codes "ForOfStmt"
name h.ExprStmt = codes "ExprStmt"
-- declarations (ECMA-262, 14.3, 15.2 and 15.7)
name h.ClassDecl = codes "ClassDecl"
name h.FnDecl = codes "FnDecl"
name (h.VarDecl _ _) = codes "VarDecl"
name h.VarDeclarator = codes "VarDeclarator"
-- expressions (ECMA-262, 13)
name h.ThisExpr = codes "ThisExpr"
name h.ArrayLit = codes "ArrayLit"
name h.ObjectLit = codes "ObjectLit"
name h.FnExpr = codes "FnExpr"
name (h.UnaryExpr _) = codes "UnaryExpr"
name (h.UpdateExpr _ _) = codes "UpdateExpr"
name (h.BinExpr _) = codes "BinExpr"
name (h.AssignExpr _) = codes "AssignExpr"
name h.MemberExpr = codes "MemberExpr"
name h.SuperPropExpr = codes "SuperPropExpr"
name h.CondExpr = codes "CondExpr"
name h.CallExpr = codes "CallExpr"
name (h.NewExpr _) = codes "NewExpr"
name h.SeqExpr = codes "SeqExpr"
name h.Tpl = codes "Tpl"
name (h.TplElement _) = codes "TplElement"
name h.TaggedTpl = codes "TaggedTpl"
name (h.ArrowExpr _) = codes "ArrowExpr"
name h.ClassExpr = codes "ClassExpr"
name (h.YieldExpr _) = codes "YieldExpr"
name (h.MetaPropExpr _) = codes "MetaPropExpr"
name h.AwaitExpr = codes "AwaitExpr"
name h.ParenExpr = codes "ParenExpr"
name (h.OptChainExpr _) = codes "OptChainExpr"
name h.OptCall = codes "OptCall"
name (h.ExprOrSpread _) = codes "ExprOrSpread"
name h.Super = codes "Super"
name h.Import = codes "Import"
-- functions and classes (ECMA-262, 15)
name (h.Function _ _) = codes "Function"
name h.Param = codes "Param"
name h.Class = codes "Class"
name h.Constructor = codes "Constructor"
name (h.ClassMethod _ _) = codes "ClassMethod"
name (h.PrivateMethod _ _) = codes "PrivateMethod"
name (h.ClassProp _) = codes "ClassProp"
name (h.PrivateProp _) = codes "PrivateProp"
name h.StaticBlock = codes "StaticBlock"
-- names and literals (ECMA-262, 12.7 and 13.2.3)
name (h.IdentName _) = codes "IdentName"
name (h.PrivateName _) = codes "PrivateName"
name (h.Str _ _) = codes "Str"
name (h.Bool _) = codes "Bool"
name h.Null = codes "Null"
name (h.Number _) = codes "Number"
name (h.BigInt _) = codes "BigInt"
name (h.Regex _) = codes "Regex"
-- properties of object literals (ECMA-262, 13.2.5)
name h.SpreadElement = codes "SpreadElement"
name h.KeyValueProp = codes "KeyValueProp"
name h.GetterProp = codes "GetterProp"
name h.SetterProp = codes "SetterProp"
name h.MethodProp = codes "MethodProp"
name h.ComputedPropName = codes "ComputedPropName"
-- patterns (ECMA-262, 14.3.3)
name h.BindingIdent = codes "BindingIdent"
name h.ArrayPat = codes "ArrayPat"
name h.ObjectPat = codes "ObjectPat"
name h.RestPat = codes "RestPat"
name h.AssignPat = codes "AssignPat"
name h.KeyValuePatProp = codes "KeyValuePatProp"
name h.AssignPatProp = codes "AssignPatProp"

-- the fields of a node that hold nodes; those that are not listed have none
abbrev pub node_fields : Head → List Field
-- modules (ECMA-262, 16.2)
node_fields h.Module = list 0 (codes "body") ∷ []
node_fields (h.ImportDecl _) = list 0 (codes "specifiers") ∷ single_node 1 (codes "src") ∷ []
node_fields h.ImportNamedSpecifier =
    single_node 0 (codes "local") ∷ optional 1 (codes "imported") ∷ []
node_fields h.ImportDefaultSpecifier = single_node 0 (codes "local") ∷ []
node_fields h.ImportStarAsSpecifier = single_node 0 (codes "local") ∷ []
node_fields h.ExportDecl = single_node 0 (codes "decl") ∷ []
node_fields (h.NamedExport _) = list 0 (codes "specifiers") ∷ optional 1 (codes "src") ∷ []
node_fields h.ExportNamespaceSpecifier = single_node 0 (codes "name") ∷ []
node_fields h.ExportNamedSpecifier =
    single_node 0 (codes "orig") ∷ optional 1 (codes "exported") ∷ []
node_fields h.ExportDefaultDecl = single_node 0 (codes "decl") ∷ []
node_fields h.ExportDefaultExpr = single_node 0 (codes "expr") ∷ []
node_fields (h.ExportAll _) = single_node 0 (codes "src") ∷ []
-- statements (ECMA-262, 14)
node_fields h.BlockStmt = list 0 (codes "stmts") ∷ []
node_fields h.WithStmt = single_node 0 (codes "obj") ∷ single_node 1 (codes "body") ∷ []
node_fields h.ReturnStmt = optional 0 (codes "arg") ∷ []
node_fields h.LabeledStmt = single_node 0 (codes "label") ∷ single_node 1 (codes "body") ∷ []
node_fields h.BreakStmt = optional 0 (codes "label") ∷ []
node_fields h.ContinueStmt = optional 0 (codes "label") ∷ []
node_fields h.IfStmt =
    single_node 0 (codes "test") ∷ single_node 1 (codes "cons") ∷ optional 2 (codes "alt") ∷ []
node_fields h.SwitchStmt = single_node 0 (codes "discriminant") ∷ list 1 (codes "cases") ∷ []
node_fields h.SwitchCase = optional 0 (codes "test") ∷ list 1 (codes "cons") ∷ []
node_fields h.ThrowStmt = single_node 0 (codes "arg") ∷ []
node_fields h.TryStmt =
    single_node 0 (codes "block") ∷ optional 1 (codes "handler") ∷ optional 2 (codes "finalizer")
    ∷ []
node_fields h.CatchClause = optional 0 (codes "param") ∷ single_node 1 (codes "body") ∷ []
node_fields h.WhileStmt = single_node 0 (codes "test") ∷ single_node 1 (codes "body") ∷ []
node_fields h.DoWhileStmt = single_node 0 (codes "body") ∷ single_node 1 (codes "test") ∷ []
node_fields h.ForStmt =
    optional 0 (codes "init") ∷ optional 1 (codes "test") ∷ optional 2 (codes "update")
    ∷ single_node 3 (codes "body") ∷ []
node_fields h.ForInStmt =
    single_node 0 (codes "left") ∷ single_node 1 (codes "right") ∷ single_node 2 (codes "body") ∷ []
node_fields (h.ForOfStmt _) =
    single_node 1 (codes "left") ∷ single_node 2 (codes "right") ∷ single_node 3 (codes "body") ∷ []
node_fields h.ExprStmt = single_node 0 (codes "expr") ∷ []
-- declarations (ECMA-262, 14.3, 15.2 and 15.7)
node_fields h.ClassDecl = single_node 0 (codes "ident") ∷ single_node 1 (codes "class") ∷ []
node_fields h.FnDecl = single_node 0 (codes "ident") ∷ single_node 1 (codes "function") ∷ []
node_fields (h.VarDecl _ _) = list 1 (codes "decls") ∷ []
node_fields h.VarDeclarator = single_node 0 (codes "name") ∷ optional 1 (codes "init") ∷ []
-- expressions (ECMA-262, 13)
node_fields h.ArrayLit = places 0 (codes "elems") ∷ []
node_fields h.ObjectLit = list 0 (codes "props") ∷ []
node_fields h.FnExpr = optional 0 (codes "ident") ∷ single_node 1 (codes "function") ∷ []
node_fields (h.UnaryExpr _) = single_node 1 (codes "arg") ∷ []
node_fields (h.UpdateExpr _ _) = single_node 2 (codes "arg") ∷ []
node_fields (h.BinExpr _) = single_node 1 (codes "left") ∷ single_node 2 (codes "right") ∷ []
node_fields (h.AssignExpr _) = single_node 1 (codes "left") ∷ single_node 2 (codes "right") ∷ []
node_fields h.MemberExpr = single_node 0 (codes "obj") ∷ single_node 1 (codes "prop") ∷ []
node_fields h.SuperPropExpr = single_node 0 (codes "prop") ∷ []
node_fields h.CondExpr =
    single_node 0 (codes "test") ∷ single_node 1 (codes "cons") ∷ single_node 2 (codes "alt") ∷ []
node_fields h.CallExpr = single_node 0 (codes "callee") ∷ list 1 (codes "args") ∷ []
node_fields (h.NewExpr true) = single_node 0 (codes "callee") ∷ list 1 (codes "args") ∷ []
node_fields (h.NewExpr false) = single_node 0 (codes "callee") ∷ optional 1 (codes "args") ∷ []
node_fields h.SeqExpr = list 0 (codes "exprs") ∷ []
node_fields h.Tpl = list 0 (codes "exprs") ∷ list 1 (codes "quasis") ∷ []
node_fields h.TaggedTpl = single_node 0 (codes "tag") ∷ single_node 1 (codes "tpl") ∷ []
node_fields (h.ArrowExpr _) = list 0 (codes "params") ∷ single_node 1 (codes "body") ∷ []
node_fields h.ClassExpr = optional 0 (codes "ident") ∷ single_node 1 (codes "class") ∷ []
node_fields (h.YieldExpr _) = optional 0 (codes "arg") ∷ []
node_fields h.AwaitExpr = single_node 0 (codes "arg") ∷ []
node_fields h.ParenExpr = single_node 0 (codes "expr") ∷ []
node_fields (h.OptChainExpr _) = single_node 1 (codes "base") ∷ []
node_fields h.OptCall = single_node 0 (codes "callee") ∷ list 1 (codes "args") ∷ []
node_fields (h.ExprOrSpread _) = single_node 1 (codes "expr") ∷ []
-- functions and classes (ECMA-262, 15)
node_fields (h.Function _ _) = list 0 (codes "params") ∷ single_node 1 (codes "body") ∷ []
node_fields h.Param = single_node 0 (codes "pat") ∷ []
node_fields h.Class = optional 0 (codes "super_class") ∷ list 1 (codes "body") ∷ []
node_fields h.Constructor = list 0 (codes "params") ∷ single_node 1 (codes "body") ∷ []
node_fields (h.ClassMethod _ _) =
    single_node 0 (codes "key") ∷ single_node 1 (codes "function") ∷ []
node_fields (h.PrivateMethod _ _) =
    single_node 0 (codes "key") ∷ single_node 1 (codes "function") ∷ []
node_fields (h.ClassProp _) = single_node 0 (codes "key") ∷ optional 1 (codes "value") ∷ []
node_fields (h.PrivateProp _) = single_node 0 (codes "key") ∷ optional 1 (codes "value") ∷ []
node_fields h.StaticBlock = single_node 0 (codes "body") ∷ []
-- names and literals (ECMA-262, 12.7 and 13.2.3)
-- properties of object literals (ECMA-262, 13.2.5)
node_fields h.SpreadElement = single_node 0 (codes "expr") ∷ []
node_fields h.KeyValueProp = single_node 0 (codes "key") ∷ single_node 1 (codes "value") ∷ []
node_fields h.GetterProp = single_node 0 (codes "key") ∷ single_node 1 (codes "body") ∷ []
node_fields h.SetterProp =
    single_node 0 (codes "key") ∷ single_node 1 (codes "param") ∷ single_node 2 (codes "body") ∷ []
node_fields h.MethodProp = single_node 0 (codes "key") ∷ single_node 1 (codes "function") ∷ []
node_fields h.ComputedPropName = single_node 0 (codes "expr") ∷ []
-- patterns (ECMA-262, 14.3.3)
node_fields h.BindingIdent = single_node 0 (codes "id") ∷ []
node_fields h.ArrayPat = places 0 (codes "elems") ∷ []
node_fields h.ObjectPat = list 0 (codes "props") ∷ []
node_fields h.RestPat = single_node 0 (codes "arg") ∷ []
node_fields h.AssignPat = single_node 0 (codes "left") ∷ single_node 1 (codes "right") ∷ []
node_fields h.KeyValuePatProp = single_node 0 (codes "key") ∷ single_node 1 (codes "value") ∷ []
node_fields h.AssignPatProp = single_node 0 (codes "key") ∷ optional 1 (codes "value") ∷ []
node_fields _ = []

-- what stands in a node and is no node, under its key
pub data Scalar : Type 0 where
  text : List ℕ → List ℕ → Scalar
  optional_text : List ℕ → Option (List ℕ) → Scalar
  truth : List ℕ → Bool → Scalar
  -- whether there is a list of nodes under the key, which is a field of its own
  given : List ℕ → Bool → Scalar

-- the scalars of a node; those that are not listed have none
abbrev pub scalars : Head → List Scalar
scalars (h.IdentName sym) = text (codes "sym") sym ∷ []
scalars (h.PrivateName sym) = text (codes "sym") sym ∷ []
scalars (h.Number raw) = text (codes "raw") raw ∷ []
scalars (h.BigInt raw) = text (codes "raw") raw ∷ []
scalars (h.Regex raw) = text (codes "raw") raw ∷ []
scalars (h.TplElement raw) = text (codes "raw") raw ∷ []
scalars (h.Bool value) = truth (codes "value") value ∷ []
scalars (h.Str value raw) = text (codes "value") value ∷ optional_text (codes "raw") raw ∷ []
scalars (h.ForOfStmt is_await) = truth (codes "is_await") is_await ∷ []
scalars (h.ArrowExpr is_async) = truth (codes "is_async") is_async ∷ []
scalars (h.YieldExpr delegate) = truth (codes "delegate") delegate ∷ []
scalars (h.OptChainExpr optional) = truth (codes "optional") optional ∷ []
scalars (h.ExprOrSpread spread) = truth (codes "spread") spread ∷ []
scalars (h.NewExpr has_args) = given (codes "args") has_args ∷ []
scalars (h.Function is_generator is_async) =
    truth (codes "is_generator") is_generator ∷ truth (codes "is_async") is_async ∷ []
scalars (h.ClassMethod kind is_static) =
    text (codes "kind") (method_word kind) ∷ truth (codes "is_static") is_static ∷ []
scalars (h.PrivateMethod kind is_static) =
    text (codes "kind") (method_word kind) ∷ truth (codes "is_static") is_static ∷ []
scalars (h.ClassProp is_static) = truth (codes "is_static") is_static ∷ []
scalars (h.PrivateProp is_static) = truth (codes "is_static") is_static ∷ []
scalars (h.VarDecl kind _) = text (codes "kind") (declaration_word kind) ∷ []
scalars (h.UnaryExpr op) = text (codes "op") (unary_text op) ∷ []
scalars (h.UpdateExpr op prefix) =
    text (codes "op") (update_text op) ∷ truth (codes "prefix") prefix ∷ []
scalars (h.BinExpr op) = text (codes "op") (binary_text op) ∷ []
scalars (h.AssignExpr op) = text (codes "op") (assign_text op) ∷ []
scalars (h.MetaPropExpr kind) = text (codes "kind") (meta_prop_text kind) ∷ []
scalars _ = []

-- Reading.

-- the text under a key
abbrev pub text_at : List ℕ → Data → Option (List ℕ)
text_at key d = option_and_then as_str (get key d)

abbrev pub text_or_null : Option Data → Option (Option (List ℕ))
text_or_null None = Some None
text_or_null (Some null) = Some None
text_or_null (Some (string it)) = Some (Some it)
text_or_null (Some _) = None

-- the text under a key, or nothing where there is no value or `null`
abbrev pub optional_text_at : List ℕ → Data → Option (Option (List ℕ))
optional_text_at key d = text_or_null (get key d)

abbrev pub truth_or_false : Option Data → Option Bool
truth_or_false None = Some false
truth_or_false (Some d) = as_bool d

-- the truth value under a key, false where there is no value
abbrev pub truth_at : List ℕ → Data → Option Bool
truth_at key d = truth_or_false (get key d)

abbrev pub is_null : Data → Bool
is_null d = is_some (as_null d)

abbrev pub is_value : Option Data → Bool
is_value None = false
is_value (Some d) = not (is_null d)

-- whether there is a value under a key, and it is not `null`
abbrev pub is_value_given : List ℕ → Data → Bool
is_value_given key d = is_value (get key d)

-- what `d` has under the key is this scalar
abbrev pub IsScalarRead : Data → Scalar → Type 0
IsScalarRead d (text key it) = text_at key d ≡ Some it
IsScalarRead d (optional_text key it) = optional_text_at key d ≡ Some it
IsScalarRead d (truth key it) = truth_at key d ≡ Some it
IsScalarRead d (given key it) = is_value_given key d ≡ it

-- what is noted on a declaration is not in the form
abbrev pub HasNotes : ExportMetadata → Head → Type 0
HasNotes meta (h.ImportDecl it) = it ≡ meta
HasNotes meta (h.NamedExport it) = it ≡ meta
HasNotes meta (h.ExportAll it) = it ≡ meta
HasNotes meta (h.VarDecl _ it) = it ≡ meta
HasNotes meta _ = Unit {0}

-- `d` has the name and the scalars of a node with this head
pub record IsHeadOf (meta : ExportMetadata) (d : Data) (head : Head) : Type 0 where
  pub named : text_at (codes "type") d ≡ Some (name head)
  pub filled : AllByRecursion (IsScalarRead d) (scalars head)
  pub noted : HasNotes meta head

-- Roles of identifiers (ECMA-262, 8.2 and 13.1).

-- what an identifier is in a field of a node, where the names of the node itself as a pattern are
-- `names`
abbrev pub ident_role : Head → ℕ → Role → Role
ident_role h.BindingIdent field names = names
ident_role h.ImportNamedSpecifier field names = if field == 0 then Binding else Word
ident_role h.ImportDefaultSpecifier field names = if field == 0 then Binding else Reference
ident_role h.ImportStarAsSpecifier field names = if field == 0 then Binding else Reference
ident_role h.ExportNamespaceSpecifier field names = Word
ident_role h.ExportNamedSpecifier field names = if field == 0 then names else Word
ident_role h.ClassDecl field names = if field == 0 then Binding else Reference
ident_role h.FnDecl field names = if field == 0 then Binding else Reference
ident_role h.ClassExpr field names = if field == 0 then Binding else Reference
ident_role h.FnExpr field names = if field == 0 then Binding else Reference
ident_role _ field names = Reference

-- what the names of a pattern are that stands in a field of a node, where those of the node itself
-- are `names`; for an export list, which may have a source, what the names are that it exports
abbrev pub names_role : Head → ℕ → Role → Bool → Role
names_role h.VarDeclarator field names has_source = if field == 0 then Binding else Reference
names_role h.Param field names has_source = if field == 0 then Binding else Reference
names_role h.CatchClause field names has_source = if field == 0 then Binding else Reference
names_role (h.ArrowExpr _) field names has_source = if field == 0 then Binding else Reference
names_role h.SetterProp field names has_source = if field == 1 then Binding else Reference
names_role (h.NamedExport _) field names has_source = if has_source then Word else Reference
names_role h.ExportNamedSpecifier field names has_source = names
names_role h.ArrayPat field names has_source = if field == 0 then names else Reference
names_role h.ObjectPat field names has_source = if field == 0 then names else Reference
names_role h.RestPat field names has_source = if field == 0 then names else Reference
names_role h.AssignPat field names has_source = if field == 0 then names else Reference
names_role h.AssignPatProp field names has_source = if field == 0 then names else Reference
names_role h.KeyValuePatProp field names has_source = if field == 1 then names else Reference
names_role _ field names has_source = Reference

-- Trees.

mutual
  -- an identifier with the number of its context, a place of a list that has no element, or a node
  -- with what its fields hold
  pub data Tree : Type 0 where
    ident : List ℕ → ℕ → Role → Tree
    hole : Tree
    node : Head → Fields → Tree

  -- fields by their numbers
  pub data Fields : Type 0 where
    no_fields : Fields
    in_field : ℕ → Trees → Fields → Fields

  pub data Trees : Type 0 where
    no_trees : Trees
    tree : Tree → Trees → Trees

-- the list of a tree that stands in the field of that number
abbrev mutual
  pub tree_items : ℕ → Tree → List Item
  tree_items field (ident sym ctxt role) = h.Ident field sym ctxt role ∷ []
  tree_items field hole = h.Hole field ∷ []
  tree_items field (node head inside) = h.Open field head ∷ (fields_items inside ++ (h.Close ∷ []))

  pub fields_items : Fields → List Item
  fields_items no_fields = []
  fields_items (in_field field them rest) = trees_items field them ++ fields_items rest

  pub trees_items : ℕ → Trees → List Item
  trees_items field no_trees = []
  trees_items field (tree it rest) = tree_items field it ++ trees_items field rest

-- What a value is read as.

-- a module, or a property of a list
abbrev pub top : NodePlace
top = record { field = 0; ident = Reference; names = Reference; has_holes = false }

abbrev pub allows_holes : Shape → Bool
allows_holes s.One = false
allows_holes s.Optional = false
allows_holes s.List = false
allows_holes s.Places = true

-- the place of a field in a node that is read from `d`, where the names of the node itself are
-- `names`
abbrev pub place_in : Head → Role → Data → Field → NodePlace
place_in head names d it =
    record {
      field = it.number;
      ident = ident_role head it.number names;
      names = names_role head it.number names (is_value_given (codes "src") d);
      has_holes = allows_holes it.shape;
    }

-- the values that stand for nodes under a key, if what is there has the shape
abbrev pub values : Shape → Option Data → Option Items
values s.One None = None
values s.One (Some d) = Some (item d no_items)
values s.Optional None = Some no_items
values s.Optional (Some d) = if is_null d then Some no_items else Some (item d no_items)
values s.List None = Some no_items
values s.List (Some d) = as_array d
values s.Places None = Some no_items
values s.Places (Some d) = as_array d

-- `d` is an identifier; a context in it is passed over
pub record IsIdent (at : NodePlace) (d : Data) (sym : List ℕ) (ctxt : ℕ)
    (role : Role) : Type 0 where
  pub named : text_at (codes "type") d ≡ Some (codes "Ident")
  pub symbol : text_at (codes "sym") d ≡ Some sym
  pub no_context : ctxt ≡ 0
  pub in_role : role ≡ at.ident

-- `d` is the form of this tree in this place, where `meta` is noted on its declarations. Members of
-- other keys are passed over
abbrev mutual
  pub Reads : ExportMetadata → NodePlace → Data → Tree → Type 0
  Reads meta at d (ident sym ctxt role) = IsIdent at d sym ctxt role
  Reads meta at d hole = (at.has_holes ≡ true) × (is_null d ≡ true)
  Reads meta at d (node head inside) =
      IsHeadOf meta d head × ReadsFields meta at.names d head (node_fields head) inside

  -- the fields of a node have their numbers, and what stands under their keys
  pub ReadsFields : ExportMetadata → Role → Data → Head → List Field → Fields → Type 0
  ReadsFields meta names d head [] no_fields = Unit {0}
  ReadsFields meta names d head [] (in_field number them rest) = ⊥
  ReadsFields meta names d head (it ∷ more) no_fields = ⊥
  ReadsFields meta names d head (it ∷ more) (in_field number them rest) =
      (number ≡ it.number)
      × IsSomeAnd (values it.shape (get it.key d))
      (λ ds. ReadsEach meta (place_in head names d it) ds them)
      × ReadsFields meta names d head more rest

  -- the values are one by one the forms of these trees
  pub ReadsEach : ExportMetadata → NodePlace → Items → Trees → Type 0
  ReadsEach meta at no_items no_trees = Unit {0}
  ReadsEach meta at no_items (tree it rest) = ⊥
  ReadsEach meta at (item d ds) no_trees = ⊥
  ReadsEach meta at (item d ds) (tree it rest) = Reads meta at d it × ReadsEach meta at ds rest

-- `d` is the form of the node in this place whose list is `items`
pub record IsForm (meta : ExportMetadata) (at : NodePlace) (d : Data)
    (items : List Item) : Type 0 where
  pub it : Tree
  pub read : Reads meta at d it
  pub listed : items ≡ tree_items at.field it

-- `ds` are one by one the forms of the nodes in this place whose list is `items`
pub record AreForms
    (meta : ExportMetadata) (at : NodePlace) (ds : Items) (items : List Item) : Type 0 where
  pub them : Trees
  pub read : ReadsEach meta at ds them
  pub listed : items ≡ trees_items at.field them

-- What is written.

-- a context is written where it is not 0
abbrev pub with_context : ℕ → Members → Members
with_context ctxt members =
    if ctxt == 0 then members else put (codes "ctxt") (numeric (unsigned ctxt)) members

abbrev pub with_scalar : Scalar → Members → Members
with_scalar (text key it) members = put key (string it) members
with_scalar (optional_text key None) members = put key null members
with_scalar (optional_text key (Some it)) members = put key (string it) members
with_scalar (truth key it) members = put key (boolean it) members
with_scalar (given key it) members = members

abbrev pub with_scalars : List Scalar → Members → Members
with_scalars [] members = members
with_scalars (it ∷ more) members = with_scalars more (with_scalar it members)

-- what stands under a key for these values: the one, `null` for none, or the list
abbrev pub in_shape : Shape → Items → Data
in_shape s.One no_items = null
in_shape s.One (item d ds) = d
in_shape s.Optional no_items = null
in_shape s.Optional (item d ds) = d
in_shape s.List ds = array ds
in_shape s.Places ds = array ds

-- the value of a tree: an object with these members and no others, or `null` for a place that has
-- no element
abbrev mutual
  pub written : Tree → Data
  written (ident sym ctxt role) =
      object
      (with_context ctxt
      (put (codes "sym") (string sym) (put (codes "type") (string (codes "Ident")) no_members)))
  written hole = null
  written (node head inside) =
      object
      (with_fields (node_fields head) inside
      (with_scalars (scalars head) (put (codes "type") (string (name head)) no_members)))

  pub with_fields : List Field → Fields → Members → Members
  with_fields [] inside members = members
  with_fields (it ∷ more) no_fields members = members
  with_fields (it ∷ more) (in_field number them rest) members =
      with_fields more rest (put it.key (in_shape it.shape (each_written them)) members)

  pub each_written : Trees → Items
  each_written no_trees = no_items
  each_written (tree it rest) = item (written it) (each_written rest)

-- where one node at most may stand, one at most stands
abbrev pub Fits : Shape → Trees → Type 0
Fits s.One (tree it (tree other rest)) = ⊥
Fits s.Optional (tree it (tree other rest)) = ⊥
Fits _ them = Unit {0}

-- each node has its own fields in their order
abbrev mutual
  pub IsLaidOut : Tree → Type 0
  IsLaidOut (ident sym ctxt role) = Unit {0}
  IsLaidOut hole = Unit {0}
  IsLaidOut (node head inside) = AreLaidOut (node_fields head) inside

  pub AreLaidOut : List Field → Fields → Type 0
  AreLaidOut [] no_fields = Unit {0}
  AreLaidOut [] (in_field number them rest) = ⊥
  AreLaidOut (it ∷ more) no_fields = ⊥
  AreLaidOut (it ∷ more) (in_field number them rest) =
      (number ≡ it.number) × Fits it.shape them × EachLaidOut them × AreLaidOut more rest

  pub EachLaidOut : Trees → Type 0
  EachLaidOut no_trees = Unit {0}
  EachLaidOut (tree it rest) = IsLaidOut it × EachLaidOut rest

-- `value` is the form of the node whose list is `items`, if it is that of one
abbrev pub IsFormWritten : Data → List Item → Type 0
IsFormWritten value items =
    (field : ℕ) (head : Head) (inside : Fields) →
    items ≡ tree_items field (node head inside) →
    IsLaidOut (node head inside) →
    value ≡ written (node head inside)
