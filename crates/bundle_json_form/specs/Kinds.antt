-- The one kind of node that may have a name, by its length and a letter or two of it.
use Rattle.std.specs.Prelude.{ℕ, ◌==◌, ◌&&◌, if◌then◌else◌, Bool, false, List, [], ◌∷◌, Option, Some, None, get_or, length, slice_get}
use Rattle.bundle_syntax.specs.declared.kind.ExportMetadata.{ExportMetadata}
use Rattle.bundle_syntax.specs.declared.kind.MetaPropKind.TheVariants.{NewTarget}
use Rattle.bundle_syntax.specs.declared.kind.MethodKind.TheVariants.{Method}
use Rattle.bundle_syntax.specs.declared.kind.VarDeclKind.TheVariants.{Var}
use Rattle.bundle_syntax.specs.declared.operator.AssignOp.TheVariants.{Assign}
use Rattle.bundle_syntax.specs.declared.operator.BinaryOp.TheVariants.{EqEq}
use Rattle.bundle_syntax.specs.declared.operator.UnaryOp.TheVariants.{Minus}
use Rattle.bundle_syntax.specs.declared.operator.UpdateOp.TheVariants.{PlusPlus}
use Rattle.bundle_syntax.specs.Item as h
use Rattle.bundle_syntax.specs.Item.{Head}
use Rattle.bundle_json_form.specs.Form.{name}

-- what stands in for notes
abbrev pub no_form_notes : ExportMetadata
no_form_notes = record { injected = false; export_ctxt = None }

-- the letter of a kind's name at a place
abbrev pub letter_at : ℕ → Head → ℕ
letter_at place kind = get_or (name kind) place 0

-- the first of the kinds that has this letter at that place
abbrev pub with_letter : ℕ → ℕ → List Head → Option Head
with_letter place it [] = None
with_letter place it (kind ∷ more) =
    if it == letter_at place kind then Some kind else with_letter place it more

-- the first of the kinds that has these letters at those places
abbrev pub with_letters : ℕ → ℕ → ℕ → ℕ → List Head → Option Head
with_letters place it other_place other [] = None
with_letters place it other_place other (kind ∷ more) =
    if (it == letter_at place kind) && (other == letter_at other_place kind) then Some kind
    else with_letters place it other_place other more

abbrev pub of_three : ℕ → Option Head
of_three first = with_letter 0 first (h.Tpl ∷ h.Str [] None ∷ [])

abbrev pub of_four : ℕ → Option Head
of_four first = with_letter 0 first (h.Bool false ∷ h.Null ∷ [])

abbrev pub of_five : ℕ → Option Head
of_five first = with_letter 0 first (h.Super ∷ h.Param ∷ h.Class ∷ h.Regex [] ∷ [])

abbrev pub of_six : ℕ → Option Head
of_six third =
    with_letter 2 third
    (h.Module ∷ h.IfStmt ∷ h.FnDecl ∷ h.FnExpr ∷ h.Import ∷ h.Number [] ∷ h.BigInt [] ∷ [])

abbrev pub of_seven : ℕ → Option Head
of_seven first =
    with_letter 0 first
    (h.TryStmt ∷ h.ForStmt ∷ h.VarDecl Var no_form_notes ∷ h.BinExpr EqEq ∷ h.NewExpr false
    ∷ h.SeqExpr ∷ h.OptCall ∷ h.RestPat ∷ [])

abbrev pub of_eight : ℕ → ℕ → Option Head
of_eight second sixth =
    with_letters 1 second 5 sixth
    (h.WithStmt ∷ h.ExprStmt ∷ h.ThisExpr ∷ h.ArrayLit ∷ h.CondExpr ∷ h.CallExpr
    ∷ h.Function false false ∷ h.ArrayPat ∷ [])

abbrev pub of_nine : ℕ → ℕ → Option Head
of_nine fourth seventh =
    with_letters 3 fourth 6 seventh
    (h.ExportAll no_form_notes ∷ h.BlockStmt ∷ h.EmptyStmt ∷ h.BreakStmt ∷ h.ThrowStmt ∷ h.WhileStmt
    ∷ h.ForInStmt ∷ h.ForOfStmt false ∷ h.ClassDecl ∷ h.ClassProp false ∷ h.IdentName []
    ∷ h.ObjectPat ∷ h.AssignPat ∷ h.ObjectLit ∷ h.UnaryExpr Minus ∷ h.TaggedTpl
    ∷ h.ArrowExpr false ∷ h.ClassExpr ∷ h.YieldExpr false ∷ h.AwaitExpr ∷ h.ParenExpr ∷ [])

abbrev pub expression_of_nine : ℕ → ℕ → Option Head
expression_of_nine fourth seventh =
    with_letters 3 fourth 6 seventh
    (h.ObjectLit ∷ h.UnaryExpr Minus ∷ h.TaggedTpl ∷ h.ArrowExpr false ∷ h.ClassExpr
    ∷ h.YieldExpr false ∷ h.AwaitExpr ∷ h.ParenExpr ∷ [])

abbrev pub of_ten : ℕ → ℕ → Option Head
of_ten first seventh =
    with_letters 0 first 6 seventh
    (h.ImportDecl no_form_notes ∷ h.ExportDecl ∷ h.ReturnStmt ∷ h.SwitchStmt ∷ h.SwitchCase
    ∷ h.UpdateExpr PlusPlus false ∷ h.AssignExpr Assign ∷ h.MemberExpr ∷ h.TplElement []
    ∷ h.GetterProp ∷ h.SetterProp ∷ h.MethodProp ∷ [])

abbrev pub of_eleven : ℕ → ℕ → Option Head
of_eleven first eighth =
    with_letters 0 first 7 eighth
    (h.NamedExport no_form_notes ∷ h.LabeledStmt ∷ h.CatchClause ∷ h.DoWhileStmt ∷ h.Constructor
    ∷ h.ClassMethod Method false ∷ h.PrivateProp false ∷ h.StaticBlock ∷ h.PrivateName [] ∷ [])

abbrev pub of_twelve : ℕ → Option Head
of_twelve first =
    with_letter 0 first
    (h.DebuggerStmt ∷ h.ContinueStmt ∷ h.MetaPropExpr NewTarget ∷ h.OptChainExpr false
    ∷ h.ExprOrSpread false ∷ h.KeyValueProp ∷ h.BindingIdent ∷ [])

abbrev pub of_thirteen : ℕ → Option Head
of_thirteen second =
    with_letter 1 second
    (h.VarDeclarator ∷ h.SuperPropExpr ∷ h.PrivateMethod Method false ∷ h.SpreadElement
    ∷ h.AssignPatProp ∷ [])

abbrev pub is_letter_at : ℕ → Option ℕ → Bool
is_letter_at it None = false
is_letter_at it (Some letter) = letter == it

abbrev pub of_many : List ℕ → Option Head
of_many it =
    if length it == 15 then Some h.KeyValuePatProp
    else if length it == 16 then Some h.ComputedPropName
    else if length it == 17 then
    (if is_letter_at 68 (slice_get it 13)
    then Some h.ExportDefaultDecl
    else Some h.ExportDefaultExpr)
    else if length it == 20 then
    (if is_letter_at 73 (slice_get it 0)
    then Some h.ImportNamedSpecifier
    else Some h.ExportNamedSpecifier)
    else if length it == 21 then Some h.ImportStarAsSpecifier
    else if length it == 22 then Some h.ImportDefaultSpecifier
    else if length it == 24 then Some h.ExportNamespaceSpecifier
    else None

-- the kind that may have this name
unfoldable pub kind_of : List ℕ → Option Head
kind_of it =
    if length it == 3 then of_three (get_or it 0 0)
    else if length it == 4 then of_four (get_or it 0 0)
    else if length it == 5 then of_five (get_or it 0 0)
    else if length it == 6 then of_six (get_or it 2 0)
    else if length it == 7 then of_seven (get_or it 0 0)
    else if length it == 8 then of_eight (get_or it 1 0) (get_or it 5 0)
    else if length it == 9 then of_nine (get_or it 3 0) (get_or it 6 0)
    else if length it == 10 then of_ten (get_or it 0 0) (get_or it 6 0)
    else if length it == 11 then of_eleven (get_or it 0 0) (get_or it 7 0)
    else if length it == 12 then of_twelve (get_or it 0 0)
    else if length it == 13 then of_thirteen (get_or it 1 0)
    else of_many it
