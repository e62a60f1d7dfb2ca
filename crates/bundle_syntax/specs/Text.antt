-- The JavaScript texts of operators and of the words that tell kinds of nodes apart.
use Rattle.std.specs.Prelude.{ℕ, List, codes}
use Rattle.bundle_syntax.specs.declared.operator.UnaryOp.{UnaryOp}
use Rattle.bundle_syntax.specs.declared.operator.UnaryOp.TheVariants.{Minus, Plus, Bang, Tilde, TypeOf, Void, Delete}
use Rattle.bundle_syntax.specs.declared.operator.UpdateOp.{UpdateOp}
use Rattle.bundle_syntax.specs.declared.operator.UpdateOp.TheVariants.{PlusPlus, MinusMinus}
use Rattle.bundle_syntax.specs.declared.operator.BinaryOp.{BinaryOp}
use Rattle.bundle_syntax.specs.declared.operator.BinaryOp.TheVariants.{EqEq, NotEq, EqEqEq, NotEqEq, Lt, LtEq, Gt, GtEq, LShift, RShift, ZeroFillRShift, Add, Sub, Mul, Div, Mod, BitOr, BitXor, BitAnd, LogicalOr, LogicalAnd, In, InstanceOf, Exp, NullishCoalescing}
use Rattle.bundle_syntax.specs.declared.operator.AssignOp.{AssignOp}
use Rattle.bundle_syntax.specs.declared.operator.AssignOp.TheVariants.{Assign, AddAssign, SubAssign, MulAssign, DivAssign, ModAssign, LShiftAssign, RShiftAssign, ZeroFillRShiftAssign, BitOrAssign, BitXorAssign, BitAndAssign, ExpAssign, AndAssign, OrAssign, NullishAssign}
use Rattle.bundle_syntax.specs.declared.kind.VarDeclKind.{VarDeclKind}
use Rattle.bundle_syntax.specs.declared.kind.VarDeclKind.TheVariants.{Var, Let, Const}
use Rattle.bundle_syntax.specs.declared.kind.MethodKind.{MethodKind}
use Rattle.bundle_syntax.specs.declared.kind.MethodKind.TheVariants.{Method, Getter, Setter}
use Rattle.bundle_syntax.specs.declared.kind.MetaPropKind.{MetaPropKind}
use Rattle.bundle_syntax.specs.declared.kind.MetaPropKind.TheVariants.{NewTarget, ImportMeta}

-- the JavaScript text of a `UnaryOp`
abbrev pub unary_text : UnaryOp → List ℕ
unary_text Minus = codes "-"
unary_text Plus = codes "+"
unary_text Bang = codes "!"
unary_text Tilde = codes "~"
unary_text TypeOf = codes "typeof"
unary_text Void = codes "void"
unary_text Delete = codes "delete"

-- the JavaScript text of a `UpdateOp`
abbrev pub update_text : UpdateOp → List ℕ
update_text PlusPlus = codes "++"
update_text MinusMinus = codes "--"

-- the JavaScript text of a `BinaryOp`
abbrev pub binary_text : BinaryOp → List ℕ
binary_text EqEq = codes "=="
binary_text NotEq = codes "!="
binary_text EqEqEq = codes "==="
binary_text NotEqEq = codes "!=="
binary_text Lt = codes "<"
binary_text LtEq = codes "<="
binary_text Gt = codes ">"
binary_text GtEq = codes ">="
binary_text LShift = codes "<<"
binary_text RShift = codes ">>"
binary_text ZeroFillRShift = codes ">>>"
binary_text Add = codes "+"
binary_text Sub = codes "-"
binary_text Mul = codes "*"
binary_text Div = codes "/"
binary_text Mod = codes "%"
binary_text BitOr = codes "|"
binary_text BitXor = codes "^"
binary_text BitAnd = codes "&"
binary_text LogicalOr = codes "||"
binary_text LogicalAnd = codes "&&"
binary_text In = codes "in"
binary_text InstanceOf = codes "instanceof"
binary_text Exp = codes "**"
binary_text NullishCoalescing = codes "??"

-- the JavaScript text of a `AssignOp`
abbrev pub assign_text : AssignOp → List ℕ
assign_text Assign = codes "="
assign_text AddAssign = codes "+="
assign_text SubAssign = codes "-="
assign_text MulAssign = codes "*="
assign_text DivAssign = codes "/="
assign_text ModAssign = codes "%="
assign_text LShiftAssign = codes "<<="
assign_text RShiftAssign = codes ">>="
assign_text ZeroFillRShiftAssign = codes ">>>="
assign_text BitOrAssign = codes "|="
assign_text BitXorAssign = codes "^="
assign_text BitAndAssign = codes "&="
assign_text ExpAssign = codes "**="
assign_text AndAssign = codes "&&="
assign_text OrAssign = codes "||="
assign_text NullishAssign = codes "??="

-- the JavaScript text of a `VarDeclKind`
abbrev pub declaration_word : VarDeclKind → List ℕ
declaration_word Var = codes "var"
declaration_word Let = codes "let"
declaration_word Const = codes "const"

-- the JavaScript text of a `MethodKind`
abbrev pub method_word : MethodKind → List ℕ
method_word Method = codes "method"
method_word Getter = codes "getter"
method_word Setter = codes "setter"

-- the JavaScript text of a `MetaPropKind`
abbrev pub meta_prop_text : MetaPropKind → List ℕ
meta_prop_text NewTarget = codes "new.target"
meta_prop_text ImportMeta = codes "import.meta"
