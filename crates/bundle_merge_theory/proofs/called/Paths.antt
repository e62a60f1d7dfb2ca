-- What is read of the nodes around a place is the same in the function.
use Rattle.std.proofs.Common.{◌≡◌, ℕ, ◌+◌, ◌<◌, Bool, true, false, cond, List, [], ◌∷◌, ◌++◌, Option, Some, None, option_map, refl, ap, ap₂, sym, ◌∙◌}
use Rattle.std.proofs.lemmas.Bool.{false≢true}
use Rattle.bundle_syntax.specs.declared.kind.VarDeclKind.{VarDeclKind}
use Rattle.bundle_syntax.specs.declared.kind.VarDeclKind.TheVariants as v
use Rattle.bundle_syntax.specs.declared.piece.Role.{Role}
use Rattle.bundle_syntax.specs.Item as h
use Rattle.bundle_syntax.specs.Item.{Head}
use Rattle.bundle_rules.specs.Places.{Around, in_field, is_binding}
use Rattle.bundle_rules.specs.Scopes.{Es, Scope, ScopeKind, FunctionName, ClassName, block_kind, is_default, kind_of_scope, scope_at, scopes_around}
use Rattle.bundle_rules.specs.Declarations.{Way, ByLet, ByConst, ByLoop, ByFunction, ByFunctionName, ByClass, ByClassName, Reading, name_of, is_pattern, way_of, way_in, way_of_declarator, way_of_variable, way_of_kind, heads_loop, declared_by, declaration_of}
use Rattle.bundle_rules.specs.Callable.{is_module_head}
use Rattle.bundle_merge_theory.specs.called.Moved.{moved_scopes, called_declared, is_module_way, AreFair, top, inner}
use Rattle.bundle_merge_theory.specs.called.Called.{IsPathMoved, outside, within}

pub in_field-moved : {is_async : Bool} {depth : ℕ} {old new : List Around} →
    IsPathMoved is_async depth old new → (field : ℕ) →
    IsPathMoved is_async depth (in_field field old) (in_field field new)
in_field-moved (outside its) field = outside field
in_field-moved (within node known moved) field =
    within (record node { field = field }) (record { begins = known.begins; head = known.head })
    moved

-- Scopes.

block_kind-moved : {is_async : Bool} {depth : ℕ} {old new : List Around} →
    IsPathMoved is_async depth old new → block_kind new ≡ block_kind old
block_kind-moved (outside field) = refl
block_kind-moved (within node known moved) = refl

is_default-moved : {is_async : Bool} {depth : ℕ} {old new : List Around} →
    IsPathMoved is_async depth old new → is_default new ≡ is_default old
is_default-moved (outside field) = refl
is_default-moved (within node known moved) = refl

kind_of_scope-moved : {is_async : Bool} {depth : ℕ} {old new : List Around} →
    IsPathMoved is_async depth old new → (head : Head) (field : ℕ) →
    kind_of_scope head field new ≡ kind_of_scope head field old
kind_of_scope-moved moved h.BlockStmt field = ap Some (block_kind-moved moved)
kind_of_scope-moved moved h.FnExpr field =
    ap (λ t. cond t None (Some FunctionName)) (is_default-moved moved)
kind_of_scope-moved moved h.ClassExpr field =
    ap (λ t. cond t None (Some ClassName)) (is_default-moved moved)
kind_of_scope-moved moved _ field = refl

scope_at-moved : (begins : ℕ) (kind : Option ScopeKind) (outer : List Scope) →
    scope_at (begins + 6) kind ++ moved_scopes outer ≡ moved_scopes (scope_at begins kind ++ outer)
scope_at-moved begins None outer = refl
scope_at-moved begins (Some kind) outer = refl

pub scopes-moved : {is_async : Bool} {depth : ℕ} {old new : List Around} →
    IsPathMoved is_async depth old new → scopes_around Es new ≡ moved_scopes (scopes_around Es old)
scopes-moved (outside field) = refl
scopes-moved (within {old} {new} node known moved) =
    ap₂ (λ (kind : Option ScopeKind) (outer : List Scope). scope_at (node.begins + 6) kind ++ outer) (kind_of_scope-moved moved node.head node.field) (scopes-moved moved)
    ∙ scope_at-moved node.begins (kind_of_scope node.head node.field old) (scopes_around Es old)

scope_at-fair : (begins : ℕ) → 0 < begins → (kind : Option ScopeKind) {outer : List Scope} →
    AreFair outer → AreFair (scope_at begins kind ++ outer)
scope_at-fair begins positive None fair = fair
scope_at-fair begins positive (Some kind) fair = inner positive fair

pub scopes-fair : {is_async : Bool} {depth : ℕ} {old new : List Around} →
    IsPathMoved is_async depth old new → AreFair (scopes_around Es old)
scopes-fair (outside field) = top
scopes-fair (within {old} node known moved) =
    scope_at-fair node.begins known.begins (kind_of_scope node.head node.field old)
    (scopes-fair moved)

-- Ways.

heads_loop-moved : {is_async : Bool} {depth : ℕ} {old new : List Around} →
    IsPathMoved is_async depth old new → heads_loop new ≡ heads_loop old
heads_loop-moved (outside field) = refl
heads_loop-moved (within node known moved) = refl

way_of_kind-moved : {is_async : Bool} {depth : ℕ} {old new : List Around} →
    IsPathMoved is_async depth old new → (kind : VarDeclKind) →
    way_of_kind kind new ≡ way_of_kind kind old
way_of_kind-moved moved v.Var = refl
way_of_kind-moved moved v.Let = ap (λ t. cond t ByLoop ByLet) (heads_loop-moved moved)
way_of_kind-moved moved v.Const = ap (λ t. cond t ByLoop ByConst) (heads_loop-moved moved)

way_of_variable-moved : {is_async : Bool} {depth : ℕ} {old new : List Around} →
    IsPathMoved is_async depth old new → (head : Head) →
    way_of_variable head new ≡ way_of_variable head old
way_of_variable-moved moved (h.VarDecl kind meta) = ap Some (way_of_kind-moved moved kind)
way_of_variable-moved moved _ = refl

way_of_declarator-moved : {is_async : Bool} {depth : ℕ} {old new : List Around} →
    IsPathMoved is_async depth old new → way_of_declarator new ≡ way_of_declarator old
way_of_declarator-moved (outside field) = refl
way_of_declarator-moved (within node known moved) = way_of_variable-moved moved node.head

way_in-moved : {is_async : Bool} {depth : ℕ} {old new : List Around} →
    IsPathMoved is_async depth old new → (head : Head) → way_in head new ≡ way_in head old
way_in-moved moved h.VarDeclarator = way_of_declarator-moved moved
way_in-moved moved h.FnExpr =
    ap (λ t. Some (cond t ByFunction ByFunctionName)) (is_default-moved moved)
way_in-moved moved h.ClassExpr =
    ap (λ t. Some (cond t ByClass ByClassName)) (is_default-moved moved)
way_in-moved moved _ = refl

pub way-moved : {is_async : Bool} {depth : ℕ} {old new : List Around} →
    IsPathMoved is_async depth old new → way_of new ≡ way_of old
way-moved (outside field) = refl
way-moved (within node known moved) =
    ap₂ (λ (a : Option Way) (b : Option Way). cond (is_pattern node.head) a b) (way-moved moved)
    (way_in-moved moved node.head)

-- no way is that of a module
abbrev pub IsPlainWay : Option Way → Type 0
IsPlainWay None = Unit {0}
IsPlainWay (Some way) = is_module_way way ≡ false

plain_kind : (kind : VarDeclKind) (path : List Around) →
    is_module_way (way_of_kind kind path) ≡ false
plain_kind v.Var path = refl
plain_kind v.Let path = by (heads_loop path)
  where
    by : (t : Bool) → is_module_way (cond t ByLoop ByLet) ≡ false
    by true = refl
    by false = refl
plain_kind v.Const path = by (heads_loop path)
  where
    by : (t : Bool) → is_module_way (cond t ByLoop ByConst) ≡ false
    by true = refl
    by false = refl

plain_variable : (head : Head) (path : List Around) → IsPlainWay (way_of_variable head path)
plain_variable (h.VarDecl kind meta) path = plain_kind kind path
plain_variable _ path = tt

plain_declarator : (path : List Around) → IsPlainWay (way_of_declarator path)
plain_declarator [] = tt
plain_declarator (node ∷ outer) = plain_variable node.head outer

plain_in : (head : Head) → is_module_head head ≡ false → (path : List Around) →
    IsPlainWay (way_in head path)
plain_in h.ImportNamedSpecifier e path = absurd (false≢true (sym e))
plain_in h.ImportDefaultSpecifier e path = absurd (false≢true (sym e))
plain_in h.ImportStarAsSpecifier e path = absurd (false≢true (sym e))
plain_in h.VarDeclarator e path = plain_declarator path
plain_in h.FnDecl e path = refl
plain_in h.ClassDecl e path = refl
plain_in h.FnExpr e path = by (is_default path)
  where
    by : (t : Bool) → is_module_way (cond t ByFunction ByFunctionName) ≡ false
    by true = refl
    by false = refl
plain_in h.ClassExpr e path = by (is_default path)
  where
    by : (t : Bool) → is_module_way (cond t ByClass ByClassName) ≡ false
    by true = refl
    by false = refl
plain_in h.Param e path = refl
plain_in (h.ArrowExpr is_async) e path = refl
plain_in h.SetterProp e path = refl
plain_in h.CatchClause e path = refl
plain_in _ e path = tt

pub way-plain : {is_async : Bool} {depth : ℕ} {old new : List Around} →
    IsPathMoved is_async depth old new → IsPlainWay (way_of old)
way-plain (outside field) = tt
way-plain (within {old} node known moved) = by (is_pattern node.head) (way-plain moved)
  where
    by : (t : Bool) → IsPlainWay (way_of old) →
        IsPlainWay (cond t (way_of old) (way_in node.head old))
    by true later = later
    by false later = plain_in node.head known.head old

-- Declarations.

pub declaration-moved : {is_async : Bool} {depth : ℕ} {old new : List Around} →
    IsPathMoved is_async depth old new →
    (reading : Reading) (place its : ℕ) (x : List ℕ) (ctxt : ℕ) (role : Role) → its ≡ place + 6 →
    declaration_of reading Es
    (record { place = its; sym = x; ctxt = ctxt; role = role; path = new }) ≡
    option_map called_declared
    (declaration_of reading Es (record { place = place; sym = x; ctxt = ctxt; role = role; path = old }))
declaration-moved {old} {new} moved reading place its x ctxt role at =
    (λ i. cond (is_binding role) (declared_by (at i) (name_of reading x ctxt) (scopes-moved moved i) (way-moved moved i)) None)
    ∙ by (is_binding role) (way_of old)
  where
    by : (t : Bool) (way : Option Way) →
        cond t
        (declared_by (place + 6) (name_of reading x ctxt) (moved_scopes (scopes_around Es old)) way)
        None ≡
        option_map called_declared
        (cond t (declared_by place (name_of reading x ctxt) (scopes_around Es old) way) None)
    by true None = refl
    by true (Some way) = refl
    by false way = refl
