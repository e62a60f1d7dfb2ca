-- How tightly expressions hold together (ECMA-262, 13).
use Rattle.std.specs.Prelude.{ℕ, zero, suc, Bool, true, false, not, ◌&&◌, ◌||◌, nat_lt, Option, Some, None, unwrap_or, List, bytes_eq, codes}
use Rattle.bundle_syntax.specs.declared.operator.BinaryOp.{BinaryOp}
use Rattle.bundle_syntax.specs.declared.operator.BinaryOp.TheVariants as o
use Rattle.bundle_syntax.specs.Item as h
use Rattle.bundle_syntax.specs.Item.{Head, Item}
use Rattle.bundle_js_print.specs.declared.context.Link.{Link}
use Rattle.bundle_js_print.specs.declared.context.Link.TheVariants as k
use Rattle.bundle_js_print.specs.declared.context.PrintContext.{PrintContext}
use Rattle.bundle_js_print.specs.declared.context.Slot.{Slot}
use Rattle.bundle_js_print.specs.declared.context.Slot.TheVariants as t
use Rattle.bundle_js_print.specs.declared.context.Start.{Start}
use Rattle.bundle_js_print.specs.declared.context.Start.TheVariants as s
use Rattle.bundle_js_print.specs.declared.level.Level.{Level}
use Rattle.bundle_js_print.specs.declared.level.Level.TheVariants as l

-- the place of a level, the loosest at 0
abbrev pub rank : Level → ℕ
rank l.Sequence = 0
rank l.Assignment = 1
rank l.Conditional = 2
rank l.Coalesce = 3
rank l.Or = 4
rank l.And = 5
rank l.BitOr = 6
rank l.BitXor = 7
rank l.BitAnd = 8
rank l.Equality = 9
rank l.Relational = 10
rank l.Shift = 11
rank l.Sum = 12
rank l.Product = 13
rank l.Power = 14
rank l.Unary = 15
rank l.Update = 16
rank l.Chain = 17
rank l.New = 18
rank l.Call = 19
rank l.Member = 20

-- the level of the production of a binary operator (ECMA-262, 13.6 to 13.13)
abbrev pub operator_level : BinaryOp → Level
operator_level o.NullishCoalescing = l.Coalesce
operator_level o.LogicalOr = l.Or
operator_level o.LogicalAnd = l.And
operator_level o.BitOr = l.BitOr
operator_level o.BitXor = l.BitXor
operator_level o.BitAnd = l.BitAnd
operator_level o.EqEq = l.Equality
operator_level o.NotEq = l.Equality
operator_level o.EqEqEq = l.Equality
operator_level o.NotEqEq = l.Equality
operator_level o.Lt = l.Relational
operator_level o.LtEq = l.Relational
operator_level o.Gt = l.Relational
operator_level o.GtEq = l.Relational
operator_level o.In = l.Relational
operator_level o.InstanceOf = l.Relational
operator_level o.LShift = l.Shift
operator_level o.RShift = l.Shift
operator_level o.ZeroFillRShift = l.Shift
operator_level o.Add = l.Sum
operator_level o.Sub = l.Sum
operator_level o.Mul = l.Product
operator_level o.Div = l.Product
operator_level o.Mod = l.Product
operator_level o.Exp = l.Power

-- the level of the production that a node is of; what is no expression of operators is never torn
-- apart
abbrev pub level : Head → Level
level h.SeqExpr = l.Sequence
level (h.AssignExpr _) = l.Assignment
level (h.ArrowExpr _) = l.Assignment
level (h.YieldExpr _) = l.Assignment
level h.CondExpr = l.Conditional
level (h.BinExpr op) = operator_level op
level (h.UnaryExpr _) = l.Unary
level h.AwaitExpr = l.Unary
level (h.UpdateExpr _ _) = l.Update
level (h.OptChainExpr _) = l.Chain
level (h.NewExpr false) = l.New
level h.CallExpr = l.Call
level _ = l.Member

-- the production that the operands of one are of, next to it, where they stand from the left to the
-- right
abbrev pub tighter : Level → Level
tighter l.Or = l.And
tighter l.And = l.BitOr
tighter l.BitOr = l.BitXor
tighter l.BitXor = l.BitAnd
tighter l.BitAnd = l.Equality
tighter l.Equality = l.Relational
tighter l.Relational = l.Shift
tighter l.Shift = l.Sum
tighter l.Sum = l.Product
tighter l.Product = l.Power
tighter _ = l.Member

-- the production of the left operand, and of the right one (ECMA-262, 13.6 to 13.13). On the left
-- of `??` another `??` may stand besides
abbrev pub left_operand : BinaryOp → Level
left_operand o.Exp = l.Update
left_operand o.NullishCoalescing = l.BitOr
left_operand op = operator_level op

abbrev pub right_operand : BinaryOp → Level
right_operand o.Exp = l.Power
right_operand o.NullishCoalescing = l.BitOr
right_operand op = tighter (operator_level op)

-- the production of an operand in this field of a binary operator
abbrev pub binary_place : BinaryOp → ℕ → Option Level
binary_place op (suc zero) = Some (left_operand op)
binary_place op _ = Some (right_operand op)

-- the production of the expression in this field of an expression (ECMA-262, 13.3 to 13.16)
abbrev pub operand_place : Head → ℕ → Option Level
operand_place (h.UnaryExpr _) _ = Some l.Unary
operand_place h.AwaitExpr _ = Some l.Unary
operand_place (h.UpdateExpr _ _) _ = Some l.Chain
operand_place (h.BinExpr op) field = binary_place op field
operand_place (h.AssignExpr _) (suc zero) = Some l.Chain
operand_place h.CondExpr zero = Some l.Coalesce
operand_place h.CallExpr zero = Some l.Call
operand_place h.OptCall zero = Some l.Call
operand_place h.TaggedTpl zero = Some l.Call
operand_place (h.NewExpr true) zero = Some l.Call
operand_place (h.NewExpr false) zero = Some l.New
operand_place (h.OptChainExpr _) _ = Some l.Sequence
operand_place _ _ = Some l.Assignment

-- the same of what has a property. Of a computed name it is what is asked of the name itself
abbrev pub property_place : Head → ℕ → Option Level
property_place h.MemberExpr zero = Some l.Call
property_place h.ComputedPropName _ = None
property_place _ _ = Some l.Sequence

-- the same of a `for` (ECMA-262, 14.7.4 and 14.7.5)
abbrev pub for_place : Head → ℕ → Option Level
for_place h.ForStmt _ = Some l.Sequence
for_place h.ForInStmt zero = Some l.Chain
for_place h.ForInStmt (suc _) = Some l.Sequence
for_place (h.ForOfStmt _) (suc zero) = Some l.Chain
for_place (h.ForOfStmt _) (suc (suc (suc zero))) = Some l.Sequence
for_place _ _ = Some l.Assignment

-- the same of what is no operator, statements and patterns among it (ECMA-262, 13 to 16). Of a name
-- that is bound it is what is asked of the name itself
abbrev pub statement_place : Head → ℕ → Option (Option Level)
statement_place h.BindingIdent _ = Some None
statement_place h.MemberExpr field = Some (property_place h.MemberExpr field)
statement_place h.SuperPropExpr field = Some (property_place h.SuperPropExpr field)
statement_place h.ComputedPropName field = Some (property_place h.ComputedPropName field)
statement_place h.ParenExpr _ = Some (Some l.Sequence)
statement_place h.ExprStmt _ = Some (Some l.Sequence)
statement_place h.ReturnStmt _ = Some (Some l.Sequence)
statement_place h.ThrowStmt _ = Some (Some l.Sequence)
statement_place h.IfStmt _ = Some (Some l.Sequence)
statement_place h.WithStmt _ = Some (Some l.Sequence)
statement_place h.SwitchStmt _ = Some (Some l.Sequence)
statement_place h.SwitchCase _ = Some (Some l.Sequence)
statement_place h.WhileStmt _ = Some (Some l.Sequence)
statement_place h.DoWhileStmt _ = Some (Some l.Sequence)
statement_place h.ForStmt field = Some (for_place h.ForStmt field)
statement_place h.ForInStmt field = Some (for_place h.ForInStmt field)
statement_place (h.ForOfStmt is_await) field = Some (for_place (h.ForOfStmt is_await) field)
statement_place (h.VarDecl _ _) _ = Some (Some l.Sequence)
statement_place h.Tpl _ = Some (Some l.Sequence)
statement_place h.LabeledStmt zero = Some (Some l.Assignment)
statement_place h.LabeledStmt (suc _) = Some (Some l.Sequence)
statement_place h.VarDeclarator _ = Some (Some l.Assignment)
statement_place h.SeqExpr _ = Some (Some l.Assignment)
statement_place h.ExportDefaultExpr _ = Some (Some l.Assignment)
statement_place h.RestPat zero = Some (Some l.Chain)
statement_place h.RestPat (suc _) = Some (Some l.Assignment)
statement_place h.ArrayPat zero = Some (Some l.Chain)
statement_place h.ArrayPat (suc _) = Some (Some l.Assignment)
statement_place h.AssignPat zero = Some (Some l.Chain)
statement_place h.AssignPat (suc _) = Some (Some l.Assignment)
statement_place h.KeyValuePatProp (suc zero) = Some (Some l.Chain)
statement_place h.KeyValuePatProp _ = Some (Some l.Assignment)
statement_place h.Class zero = Some (Some l.Chain)
statement_place h.Class (suc _) = Some (Some l.Assignment)
statement_place _ _ = None

-- the same of every node
abbrev pub place_level : Head → ℕ → Option Level
place_level head field = unwrap_or (statement_place head field) (operand_place head field)

-- the production that a slot asks for, if it does by itself
abbrev pub slot_level : Slot → Option Level
slot_level (t.Inside least) = Some least
slot_level (t.Right least) = Some least
slot_level (t.Left least) = Some least
slot_level t.LeftOfCoalesce = Some l.BitOr
slot_level t.Object = Some l.Call
slot_level (t.Callee least) = Some least
slot_level (t.Begin least _) = Some least
slot_level t.ArrowBody = Some l.Assignment
slot_level (t.Part _) = Some l.Sequence
slot_level t.Whole = None
slot_level t.Body = Some l.Sequence

-- whether the head of a `for` is begun
abbrev pub is_head : Start → Bool
is_head s.ForHead = true
is_head s.ForOf = true
is_head s.ForLet = true
is_head _ = false

-- whether `in` would end the head of a `for` in a slot, by whether it would in the node: it is the
-- parameter In of the productions (ECMA-262, 13.10), which brackets set
abbrev pub slot_no_in : Bool → Slot → Bool
slot_no_in no_in (t.Inside _) = false
slot_no_in no_in (t.Callee _) = false
slot_no_in no_in t.Body = false
slot_no_in no_in (t.Begin _ start) = is_head start
slot_no_in no_in _ = no_in

abbrev pub is_looser : Level → Level → Bool
is_looser a b = nat_lt (rank a) (rank b)

abbrev pub is_object : Link → Bool
is_object k.Object = true
is_object _ = false

-- whether what stands around a node would take a part of it: the head of a `for` its `in`, a `new`
-- the arguments of a call
abbrev pub is_taken : Head → PrintContext → Bool
is_taken (h.BinExpr o.In) c = c.no_in
is_taken h.CallExpr c = c.no_call
is_taken _ c = false

-- whether a node may stand where it does however loose it is: a `??` on the left of another, a
-- chain as the object of a part of a chain
abbrev pub is_excused : Head → PrintContext → Bool
is_excused (h.BinExpr o.NullishCoalescing) c = c.takes_coalesce
is_excused (h.OptChainExpr _) c = is_object c.link
is_excused _ c = false

-- whether a node would be torn apart
abbrev pub is_torn : Head → PrintContext → Bool
is_torn head c = is_taken head c || (is_looser (level head) c.least && not (is_excused head c))

abbrev pub is_object_pattern : Head → Bool
is_object_pattern h.ObjectPat = true
is_object_pattern _ = false

-- whether a pattern of an object begins with an item
abbrev pub begins_pattern : Option Item → Bool
begins_pattern (Some (h.Open _ head)) = is_object_pattern head
begins_pattern _ = false

-- whether a node begins with a brace: it is an object, or an assignment to a pattern of one, with
-- which the next item begins
abbrev pub begins_brace : Head → Option Item → Bool
begins_brace h.ObjectLit _ = true
begins_brace (h.AssignExpr _) next = begins_pattern next
begins_brace _ _ = false

-- whether a node begins with `function` or `class`
abbrev pub begins_declaration : Head → Bool
begins_declaration h.FnExpr = true
begins_declaration h.ClassExpr = true
begins_declaration _ = false

-- whether the first word of a node would be read as something else (ECMA-262, 14.5, 15.3 and
-- 16.2.3)
abbrev pub is_misread : Start → Head → Option Item → Bool
is_misread s.Statement head next = begins_brace head next || begins_declaration head
is_misread s.ArrowBody head next = begins_brace head next
is_misread s.Default head next = begins_declaration head
is_misread _ head next = false

-- whether a node needs parentheses where this is asked of it
abbrev pub needs_parens : Head → PrintContext → Option Item → Bool
needs_parens head c next = is_torn head c || is_misread c.start head next

abbrev pub is_computed_name : Head → Bool
is_computed_name h.ComputedPropName = true
is_computed_name _ = false

-- whether a name in brackets begins with an item
abbrev pub is_computed : Option Item → Bool
is_computed (Some (h.Open _ head)) = is_computed_name head
is_computed _ = false

-- whether an identifier needs parentheses where it begins that (ECMA-262, 14.5 and 14.7): `let [`,
-- and in a `for of` also `let` and `async` alone
abbrev pub name_needs_parens : List ℕ → Start → Option Item → Bool
name_needs_parens name s.Statement next = bytes_eq name (codes "let") && is_computed next
name_needs_parens name s.ForHead next = bytes_eq name (codes "let") && is_computed next
name_needs_parens name s.ForOf next = bytes_eq name (codes "let") || bytes_eq name (codes "async")
name_needs_parens name s.ForLet next = bytes_eq name (codes "let")
name_needs_parens name _ next = false
