-- How a name is declared, and whether at the top of a module, by the nodes around it.
use Rattle.std.proofs.Common.{◌≡◌, ℕ, ◌+◌, ◌&&◌, ◌||◌, Bool, true, false, cond, List, [], ◌∷◌, ◌++◌, Option, Some, None, refl, sym, ap, ◌∙◌, arith}
use Rattle.std.specs.List.{list_any}
use Rattle.std.specs.Option.{unwrap_or}
use Rattle.std.proofs.lemmas.Bool.{false≢true, eqb-true, ne_eqb, and_parts}
use Rattle.std.proofs.lemmas.Option.{none-some}
use Rattle.bundle_syntax.specs.declared.kind.VarDeclKind.{VarDeclKind}
use Rattle.bundle_syntax.specs.declared.kind.VarDeclKind.TheVariants as v
use Rattle.bundle_syntax.specs.Item as h
use Rattle.bundle_syntax.specs.Item.{Item, Head}
use Rattle.bundle_rules.specs.Places.{Around, Occurrence, is_binding}
use Rattle.bundle_rules.specs.Scopes.{Es, Scope, ScopeKind, Wrapper, Top, Inner, Parameters, ArrowParameters, FunctionBody, StaticBody, Block, CatchBlock, Loop, Catch, FunctionName, ClassName, scope_order, same_scope, scopes_around, scope_at, kind_of_scope, block_kind, is_default}
use Rattle.bundle_rules.specs.Declarations.{Way, ByImport, ByVar, ByLet, ByConst, ByFunction, ByClass, ByDefault, ByParameter, ByCatch, ByLoop, ByFunctionName, ByClassName, ByWrapper, is_pattern, way_of, way_in, way_of_declarator, way_of_variable, way_of_kind, heads_loop, Declared, Reading, name_of, declared_by}
use Rattle.bundle_rules.specs.Homes.{takes, from_taker, nearest, taker, parameters_of, joins_parameter, is_parameters, is_wrapper, is_parameter, home_beside, home_of}
use Rattle.bundle_rules.specs.Denotes.{Denoted, denoted_in, own_or_found, denoted_of}
use Rattle.bundle_rules.specs.Order.{is_of_scope}
use Rattle.bundle_merge_theory.specs.grouped.Paths.{PathAlike}
use Rattle.bundle_merge_theory.specs.grouped.Paths as path
use Rattle.bundle_merge_theory.specs.grouped.Forms.{FormAlike, outside, in_module, same, pair, key, defaulted, is_top_first}

pub form-path : {before after : List Item} {test_before test_after : ℕ → Bool} {p q : List Around}
    →
    PathAlike before after test_before test_after p q → FormAlike p q
form-path path.outside = outside
form-path (path.same head b a field node outer) = same head b a field (form-path outer)
form-path (path.pair b a field word outer) = pair b a field (form-path outer)
form-path (path.key b a word outer) = key b a (form-path outer)
form-path (path.defaulted b a o field one two outer) = defaulted b a o field (form-path outer)

-- ---- how it is declared
loop-alike : {p q : List Around} → FormAlike p q → heads_loop p ≡ heads_loop q
loop-alike outside = refl
loop-alike (in_module b field) = refl
loop-alike (same head b a field outer) = refl
loop-alike (pair b a field outer) = refl
loop-alike (key b a outer) = refl
loop-alike (defaulted b a o field outer) = refl

default-alike : {p q : List Around} → FormAlike p q → is_default p ≡ is_default q
default-alike outside = refl
default-alike (in_module b field) = refl
default-alike (same head b a field outer) = refl
default-alike (pair b a field outer) = refl
default-alike (key b a outer) = refl
default-alike (defaulted b a o field outer) = refl

block-alike : {p q : List Around} → FormAlike p q → block_kind p ≡ block_kind q
block-alike outside = refl
block-alike (in_module b field) = refl
block-alike (same head b a field outer) = refl
block-alike (pair b a field outer) = refl
block-alike (key b a outer) = refl
block-alike (defaulted b a o field outer) = refl

kind-alike : (kind : VarDeclKind) {p q : List Around} → FormAlike p q →
    way_of_kind kind p ≡ way_of_kind kind q
kind-alike v.Var alike = refl
kind-alike v.Let alike = ap (λ b. cond b ByLoop ByLet) (loop-alike alike)
kind-alike v.Const alike = ap (λ b. cond b ByLoop ByConst) (loop-alike alike)

variable-alike : (head : Head) {p q : List Around} → FormAlike p q →
    way_of_variable head p ≡ way_of_variable head q
variable-alike (h.VarDecl kind meta) alike = ap (λ (w : Way). Some w) (kind-alike kind alike)
variable-alike _ alike = refl

declarator-alike : {p q : List Around} → FormAlike p q → way_of_declarator p ≡ way_of_declarator q
declarator-alike outside = refl
declarator-alike (in_module b field) = refl
declarator-alike (same head b a field outer) = variable-alike head outer
declarator-alike (pair b a field outer) = refl
declarator-alike (key b a outer) = refl
declarator-alike (defaulted b a o field outer) = refl

way_in-alike : (head : Head) {p q : List Around} → FormAlike p q → way_in head p ≡ way_in head q
way_in-alike h.VarDeclarator alike = declarator-alike alike
way_in-alike h.FnExpr alike =
    ap (λ b. Some (cond b ByFunction ByFunctionName)) (default-alike alike)
way_in-alike h.ClassExpr alike = ap (λ b. Some (cond b ByClass ByClassName)) (default-alike alike)
way_in-alike _ alike = refl

pub way-alike : {p q : List Around} → FormAlike p q → way_of p ≡ way_of q
way-alike outside = refl
way-alike (in_module b field) = refl
way-alike (same head b a field {p = p} {q = q} outer) =
    ap (λ w. cond (is_pattern head) w (way_in head p)) (way-alike outer)
    ∙ ap (λ w. cond (is_pattern head) (way_of q) w) (way_in-alike head outer)
way-alike (pair b a field outer) = refl
way-alike (key b a outer) = way-alike outer
way-alike (defaulted b a o field outer) = way-alike outer

-- ---- the scopes around
scope-alike : (head : Head) (field : ℕ) {p q : List Around} → FormAlike p q →
    kind_of_scope head field p ≡ kind_of_scope head field q
scope-alike h.BlockStmt field alike = ap (λ (k : ScopeKind). Some k) (block-alike alike)
scope-alike h.FnExpr field alike = ap (λ b. cond b None (Some FunctionName)) (default-alike alike)
scope-alike h.ClassExpr field alike = ap (λ b. cond b None (Some ClassName)) (default-alike alike)
scope-alike _ field alike = refl

body-takes : (kind : ScopeKind) (b a : ℕ) → takes ByVar (Inner kind b) ≡ takes ByVar (Inner kind a)
body-takes FunctionBody b a = refl
body-takes StaticBody b a = refl
body-takes _ b a = refl

block-takes : (kind : ScopeKind) (b a : ℕ) →
    takes ByLet (Inner kind b) ≡ takes ByLet (Inner kind a)
block-takes FunctionBody b a = refl
block-takes StaticBody b a = refl
block-takes Block b a = refl
block-takes CatchBlock b a = refl
block-takes _ b a = refl

parameter-takes : (kind : ScopeKind) (b a : ℕ) →
    takes ByParameter (Inner kind b) ≡ takes ByParameter (Inner kind a)
parameter-takes Parameters b a = refl
parameter-takes ArrowParameters b a = refl
parameter-takes _ b a = refl

catch-takes : (kind : ScopeKind) (b a : ℕ) →
    takes ByCatch (Inner kind b) ≡ takes ByCatch (Inner kind a)
catch-takes Catch b a = refl
catch-takes _ b a = refl

loop-takes : (kind : ScopeKind) (b a : ℕ) →
    takes ByLoop (Inner kind b) ≡ takes ByLoop (Inner kind a)
loop-takes Loop b a = refl
loop-takes _ b a = refl

function-takes : (kind : ScopeKind) (b a : ℕ) →
    takes ByFunctionName (Inner kind b) ≡ takes ByFunctionName (Inner kind a)
function-takes FunctionName b a = refl
function-takes _ b a = refl

class-takes : (kind : ScopeKind) (b a : ℕ) →
    takes ByClassName (Inner kind b) ≡ takes ByClassName (Inner kind a)
class-takes ClassName b a = refl
class-takes _ b a = refl

pub takes-alike : (way : Way) (kind : ScopeKind) (b a : ℕ) →
    takes way (Inner kind b) ≡ takes way (Inner kind a)
takes-alike ByImport kind b a = refl
takes-alike ByVar kind b a = body-takes kind b a
takes-alike ByLet kind b a = block-takes kind b a
takes-alike ByConst kind b a = block-takes kind b a
takes-alike ByFunction kind b a = block-takes kind b a
takes-alike ByClass kind b a = block-takes kind b a
takes-alike ByDefault kind b a = refl
takes-alike ByParameter kind b a = parameter-takes kind b a
takes-alike ByCatch kind b a = catch-takes kind b a
takes-alike ByLoop kind b a = loop-takes kind b a
takes-alike ByFunctionName kind b a = function-takes kind b a
takes-alike ByClassName kind b a = class-takes kind b a
takes-alike ByWrapper kind b a = refl

from-alike : (way : Way) (o : Option ScopeKind) (b a : ℕ) (xs ys : List Scope) →
    is_top_first (from_taker way xs) ≡ is_top_first (from_taker way ys) →
    is_top_first (from_taker way (scope_at b o ++ xs))
    ≡ is_top_first (from_taker way (scope_at a o ++ ys))
from-alike way None b a xs ys e = e
from-alike way (Some kind) b a xs ys e =
    ap (λ t. is_top_first (cond t (Inner kind b ∷ xs) (from_taker way xs)))
    (takes-alike way kind b a)
    ∙ by (takes way (Inner kind a))
  where
    by : (t : Bool) →
        is_top_first (cond t (Inner kind b ∷ xs) (from_taker way xs))
        ≡ is_top_first (cond t (Inner kind a ∷ ys) (from_taker way ys))
    by true = refl
    by false = e

pub top_first-alike : (way : Way) {p q : List Around} → FormAlike p q →
    is_top_first (from_taker way (scopes_around Es p))
    ≡ is_top_first (from_taker way (scopes_around Es q))
top_first-alike way outside = refl
top_first-alike way (in_module b field) = refl
top_first-alike way (same head b a field {p = p} {q = q} outer) =
    ap (λ (o : Option ScopeKind). is_top_first
    (from_taker way (scope_at b o ++ scopes_around Es p))) (scope-alike head field outer)
    ∙ from-alike way (kind_of_scope head field q) b a (scopes_around Es p) (scopes_around Es q)
    (top_first-alike way outer)
top_first-alike way (pair b a field outer) = top_first-alike way outer
top_first-alike way (key b a outer) = top_first-alike way outer
top_first-alike way (defaulted b a o field outer) = top_first-alike way outer

-- ---- whether it belongs to the top
taker-top : (t : List Scope) → same_scope (unwrap_or (nearest t) Top) Top ≡ is_top_first t
taker-top [] = refl
taker-top (Top ∷ outer) = refl
taker-top (Wrapper ∷ outer) = refl
taker-top (Inner kind b ∷ outer) = ne_eqb (b + 2) 1 (λ e. omega (arith, e))

any-true : {X : Type 0} (f : X → Bool) (xs : List X) → list_any f xs ≡ true →
    (x : X) × (f x ≡ true)
any-true f [] e = absurd (false≢true e)
any-true {X} f (x ∷ xs) e = by (f x) refl e (any-true f xs)
  where
    by : (b : Bool) → f x ≡ b → (b || list_any f xs) ≡ true →
        (list_any f xs ≡ true → (y : X) × (f y ≡ true)) → (y : X) × (f y ≡ true)
    by true is e ih = (x, is)
    by false is e ih = ih e

parameter-order : (scope : Scope) → (is_parameters scope || is_wrapper scope) ≡ true →
    scope_order scope ≡ 1 → ⊥
parameter-order Wrapper e f = absurd (omega (arith, f))
parameter-order Top e f = absurd (false≢true e)
parameter-order (Inner kind b) e f = absurd (omega (arith, f))

-- a scope that has parameters is no top
no_top : (all : List Declared) (scope : Scope) (d : Declared) →
    list_any (is_parameter scope d.name) all ≡ true → same_scope scope Top ≡ false
no_top all scope d e =
    let found = any-true (is_parameter scope d.name) all e in
    let p = and_parts ((is_parameters (taker found.0) || is_wrapper (taker found.0))
    && same_scope (taker found.0) scope) _ found.1 in
    let q = and_parts (is_parameters (taker found.0) || is_wrapper (taker found.0))
    (same_scope (taker found.0) scope) p.0 in
    ne_eqb (scope_order scope) 1
    (λ f. parameter-order (taker found.0) q.0
    (eqb-true (scope_order (taker found.0)) (scope_order scope) q.1 ∙ f))

-- what takes a name in a module is no top where it has parameters beside it
beside-top : (way : Way) (p : List Around) (scope : Scope) →
    parameters_of (from_taker way (scopes_around Es p)) ≡ Some scope →
    is_top_first (from_taker way (scopes_around Es p)) ≡ false
beside-top way [] scope e = by (takes way Top) e
  where
    by : (t : Bool) → parameters_of (cond t (Top ∷ []) []) ≡ Some scope →
        is_top_first (cond t (Top ∷ []) []) ≡ false
    by true e = absurd (none-some scope e)
    by false e = absurd (none-some scope e)
beside-top way (node ∷ outer) scope e =
    by (kind_of_scope node.head node.field outer) (beside-top way outer scope) e
  where
    inner : (t : Bool) (kind : ScopeKind) (rest : List Scope) →
        (parameters_of rest ≡ Some scope → is_top_first rest ≡ false) →
        parameters_of (cond t (Inner kind node.begins ∷ scopes_around Es outer) rest)
        ≡ Some scope →
        is_top_first (cond t (Inner kind node.begins ∷ scopes_around Es outer) rest) ≡ false
    inner true kind rest ih e = refl
    inner false kind rest ih e = ih e

    by : (o : Option ScopeKind) →
        (parameters_of (from_taker way (scopes_around Es outer)) ≡ Some scope →
        is_top_first (from_taker way (scopes_around Es outer)) ≡ false) →
        parameters_of (from_taker way (scope_at node.begins o ++ scopes_around Es outer))
        ≡ Some scope →
        is_top_first (from_taker way (scope_at node.begins o ++ scopes_around Es outer)) ≡ false
    by None ih e = ih e
    by (Some kind) ih e =
        inner (takes way (Inner kind node.begins)) kind (from_taker way (scopes_around Es outer))
        ih e

pub home-top : (all : List Declared) (d : Declared) (p : List Around) →
    d.scopes ≡ scopes_around Es p →
    same_scope (home_of all d) Top ≡ is_top_first (from_taker d.by d.scopes)
home-top all d p e = by (joins_parameter d.by)
  where
    none : same_scope (taker d) Top ≡ is_top_first (from_taker d.by d.scopes)
    none = taker-top (from_taker d.by d.scopes)

    either : (scope : Scope) → parameters_of (from_taker d.by d.scopes) ≡ Some scope → (b : Bool) →
        list_any (is_parameter scope d.name) all ≡ b →
        same_scope (cond b scope (taker d)) Top ≡ is_top_first (from_taker d.by d.scopes)
    either scope f true g =
        no_top all scope d g
        ∙ sym (ap (λ l. is_top_first (from_taker d.by l)) e
        ∙ beside-top d.by p scope (ap (λ l. parameters_of (from_taker d.by l)) (sym e) ∙ f))
    either scope f false g = none

    beside : (o : Option Scope) → parameters_of (from_taker d.by d.scopes) ≡ o →
        same_scope (home_beside all d o) Top ≡ is_top_first (from_taker d.by d.scopes)
    beside None f = none
    beside (Some scope) f = either scope f (list_any (is_parameter scope d.name) all) refl

    by : (b : Bool) →
        same_scope (cond b (home_beside all d (parameters_of (from_taker d.by d.scopes)))
        (taker d)) Top ≡ is_top_first (from_taker d.by d.scopes)
    by true = beside (parameters_of (from_taker d.by d.scopes)) refl
    by false = none

-- what an identifier that declares denotes is of the top, by the nodes around it alone
pub binding-top : (reading : Reading) (all : List Declared) (o : Occurrence) (way : Way) →
    is_binding o.role ≡ true → way_of o.path ≡ Some way →
    is_of_scope Top (denoted_of reading Es all o)
    ≡ is_top_first (from_taker way (scopes_around Es o.path))
binding-top reading all o way binds is =
    let found : Denoted = denoted_in reading all (scopes_around Es o.path)
    (name_of reading o.sym o.ctxt) in
    ap (λ b. is_of_scope Top
    (own_or_found all found
    (cond b (declared_by o.place (name_of reading o.sym o.ctxt) (scopes_around Es o.path)
    (way_of o.path)) None))) binds
    ∙ (ap (λ (w : Option Way). is_of_scope Top
    (own_or_found all found
    (declared_by o.place (name_of reading o.sym o.ctxt) (scopes_around Es o.path) w))) is
    ∙ home-top all (record {
      place = o.place;
      name = name_of reading o.sym o.ctxt;
      by = way;
      scopes = scopes_around Es o.path;
    }) o.path refl)
