-- A module of such statements can be called.
use Rattle.std.proofs.Common.{◌≡◌, ℕ, zero, Bool, true, false, cond, not, List, [], ◌∷◌, ◌++◌, append_assoc, append-nil, Option, Some, None, refl, ap, sym, ◌∙◌, subst}
use Rattle.std.specs.Prelude.{is_some}
use Rattle.std.specs.List.{cons_option}
use Rattle.std.proofs.lemmas.Bool.{false≢true}
use Rattle.std.proofs.lemmas.Option.{none-some, same_Some}
use Rattle.bundle_syntax.specs.declared.kind.VarDeclKind.{VarDeclKind}
use Rattle.bundle_syntax.specs.declared.kind.VarDeclKind.TheVariants as v
use Rattle.bundle_syntax.specs.declared.piece.Role.{Role}
use Rattle.bundle_syntax.specs.declared.piece.Role.TheVariants as r
use Rattle.bundle_syntax.specs.Item as h
use Rattle.bundle_syntax.specs.Item.{Item, Head}
use Rattle.bundle_rules.specs.Places.{Around, Spot, in_field, outer_path, past}
use Rattle.bundle_rules.specs.Scopes.{Es, Scope, ScopeKind, Top, Inner, Parameters, ArrowParameters, Loop, Catch, FunctionName, ClassName, is_default, kind_of_scope, scope_at, scopes_around}
use Rattle.bundle_rules.specs.Declarations.{Way, ByImport, ByVar, ByLet, ByConst, ByLoop, ByFunction, ByFunctionName, ByClass, ByClassName, ByParameter, ByCatch, Reading, name_of, Declared, is_pattern, is_loop_head, heads_loop, way_of, way_in, way_of_declarator, way_of_variable, way_of_kind, declared_by, declared_at, declared_from}
use Rattle.bundle_rules.specs.Homes.{takes, from_taker, nearest}
use Rattle.bundle_rules.specs.Callable.{Every, none, IsTaken, HasName, AreStatements, over, begun, ended, named, empty, module_with, IsBack, CanBeCalled}
use Rattle.bundle_merge_theory.specs.called.Called.{around_place, statements_start}
use Rattle.bundle_merge_theory.specs.called.Within.{is_setter_key, head_has_parameters, may_hold, may_name, AreIn, no_more, a_name, a_hole, a_node}
use Rattle.bundle_merge_theory.proofs.called.Lists.{open-declares, consed}
use Rattle.bundle_merge_theory.proofs.called.Theorem.{nothing-declared, back-bindless}

-- Whole nodes.

has_name-longer : (head : Head) (inside post : List Item) → HasName head inside →
    HasName head (inside ++ post)
has_name-longer h.AssignPatProp inside post name = record { outer = name.outer; inner = name.inner; sym = name.sym; ctxt = name.ctxt; role = name.role; more = name.more ++ post; is = ap (λ l. l ++ post) name.is }
has_name-longer _ inside post name = tt

flat : {parent : Head} {xs : List Item} → AreIn parent xs → {depth : ℕ} {rest : List Item} →
    AreStatements depth rest → AreStatements depth (xs ++ rest)
flat no_more statements = statements
flat (a_name may xs) statements = named (flat xs statements)
flat (a_hole xs) statements = empty (flat xs statements)
flat (a_node {field} {head} {inside} {rest = behind} plain may name in_it xs) {depth} {rest} statements =
    subst (AreStatements depth) (ap (λ l. h.Open field head ∷ l) (sym (append_assoc inside (h.Close ∷ behind) rest)))
    (begun plain (has_name-longer head inside (h.Close ∷ (behind ++ rest)) name) (flat in_it (ended (flat xs statements))))

-- What takes a declaration.

held-more : (way : Way) (xs ys : List Scope) → is_some (nearest (from_taker way ys)) ≡ true →
    is_some (nearest (from_taker way (xs ++ ys))) ≡ true
held-more way [] ys e = e
held-more way (x ∷ xs) ys e = by (takes way x) (held-more way xs ys e)
  where
    by : (t : Bool) → is_some (nearest (from_taker way (xs ++ ys))) ≡ true →
        is_some (nearest (cond t (x ∷ (xs ++ ys)) (from_taker way (xs ++ ys)))) ≡ true
    by true is = refl
    by false is = is

held-at : (way : Way) (node : Around) (outer : List Around) →
    is_some (nearest (from_taker way (scopes_around Es outer))) ≡ true →
    is_some (nearest (from_taker way (scopes_around Es (node ∷ outer)))) ≡ true
held-at way node outer e =
    held-more way (scope_at node.begins (kind_of_scope node.head node.field outer))
    (scopes_around Es outer) e

held-top : (way : Way) → takes way Top ≡ true → (path : List Around) →
    is_some (nearest (from_taker way (scopes_around Es path))) ≡ true
held-top way e [] = ap (λ t. is_some (nearest (cond t (Top ∷ []) []))) e
held-top way e (node ∷ outer) = held-at way node outer (held-top way e outer)

held-own : (way : Way) (kind : ScopeKind) (node : Around) (outer : List Around) →
    kind_of_scope node.head node.field outer ≡ Some kind →
    takes way (Inner kind node.begins) ≡ true →
    is_some (nearest (from_taker way (scopes_around Es (node ∷ outer)))) ≡ true
held-own way kind node outer e takes_it =
    ap (λ k. is_some (nearest (from_taker way (scope_at node.begins k ++ scopes_around Es outer))))
    e ∙ ap
    (λ t. is_some (nearest (cond t (Inner kind node.begins ∷ scopes_around Es outer) (from_taker way (scopes_around Es outer)))))
    takes_it

-- Nodes that stand where they may.

abbrev first_field : List Around → ℕ
first_field [] = 0
first_field (node ∷ outer) = node.field

-- `AreSeated heads path`: the nodes of a path, by their heads, each in one that may hold it
data AreSeated : List Head → List Around → Type 0 where
  at_top : (field : ℕ) → AreSeated (h.Module ∷ []) (around_place h.Module 0 field ∷ [])
  in_node : {parent : Head} {heads : List Head} {outer : List Around} (node : Around) →
      AreSeated (parent ∷ heads) outer → may_hold parent (first_field outer) node.head ≡ true →
      AreSeated (node.head ∷ parent ∷ heads) (node ∷ outer)

in_field-seated : {heads : List Head} {path : List Around} → AreSeated heads path → (field : ℕ) →
    AreSeated heads (in_field field path)
in_field-seated (at_top its) field = at_top field
in_field-seated (in_node node outer may) field = in_node (record node { field = field }) outer may

outer-seated : {head parent : Head} {heads : List Head} {path : List Around} →
    AreSeated (head ∷ parent ∷ heads) path → AreSeated (parent ∷ heads) (outer_path path)
outer-seated (in_node node outer may) = outer

-- no key of a setter
abbrev IsNoKey : List Around → Type 0
IsNoKey [] = Unit {0}
IsNoKey (node ∷ outer) = is_setter_key node.head node.field ≡ false

loop-kind : (head : Head) (field : ℕ) (outer : List Around) → is_loop_head head field ≡ true →
    kind_of_scope head field outer ≡ Some Loop
loop-kind h.ForStmt field outer e = refl
loop-kind h.ForInStmt field outer e = refl
loop-kind (h.ForOfStmt is_await) field outer e = refl
loop-kind _ field outer e = absurd (false≢true e)

held-loop : (path : List Around) → heads_loop path ≡ true →
    is_some (nearest (from_taker ByLoop (scopes_around Es path))) ≡ true
held-loop [] e = absurd (false≢true e)
held-loop (node ∷ outer) e =
    held-own ByLoop Loop node outer (loop-kind node.head node.field outer e) refl

held-lexical : (way : Way) → takes way Top ≡ true → (path : List Around) →
    is_some (nearest (from_taker (cond (heads_loop path) ByLoop way) (scopes_around Es path))) ≡
    true
held-lexical way top path = by (heads_loop path) refl
  where
    by : (t : Bool) → heads_loop path ≡ t →
        is_some (nearest (from_taker (cond (heads_loop path) ByLoop way) (scopes_around Es path))) ≡
        true
    by true e =
        ap (λ t. is_some (nearest (from_taker (cond t ByLoop way) (scopes_around Es path)))) e
        ∙ held-loop path e
    by false e =
        ap (λ t. is_some (nearest (from_taker (cond t ByLoop way) (scopes_around Es path)))) e
        ∙ held-top way top path

held-kind : (kind : VarDeclKind) (path : List Around) →
    is_some (nearest (from_taker (way_of_kind kind path) (scopes_around Es path))) ≡ true
held-kind v.Var path = held-top ByVar refl path
held-kind v.Let path = held-lexical ByLet refl path
held-kind v.Const path = held-lexical ByConst refl path

-- the way is that one
held-way : (path : List Around) (way other : Way) → Some way ≡ Some other →
    is_some (nearest (from_taker way (scopes_around Es path))) ≡ true →
    is_some (nearest (from_taker other (scopes_around Es path))) ≡ true
held-way path way other e held =
    subst (λ w. is_some (nearest (from_taker w (scopes_around Es path))) ≡ true)
    (same_Some way other e) held

held-variable : (head : Head) (outer : List Around) (way : Way) →
    way_of_variable head outer ≡ Some way →
    is_some (nearest (from_taker way (scopes_around Es outer))) ≡ true
held-variable (h.VarDecl kind meta) outer way e =
    held-way outer (way_of_kind kind outer) way e (held-kind kind outer)
held-variable _ outer way e = absurd (none-some way e)

held-declarator : (path : List Around) (way : Way) → way_of_declarator path ≡ Some way →
    is_some (nearest (from_taker way (scopes_around Es path))) ≡ true
held-declarator [] way e = absurd (none-some way e)
held-declarator (node ∷ outer) way e = held-at way node outer (held-variable node.head outer way e)

parameters-kind : (head : Head) (field : ℕ) (outer : List Around) → head_has_parameters head ≡ true →
    kind_of_scope head field outer ≡ Some Parameters
parameters-kind (h.Function is_generator is_async) field outer e = refl
parameters-kind h.Constructor field outer e = refl
parameters-kind _ field outer e = absurd (false≢true e)

held-parameters : {parent : Head} {heads : List Head} {path : List Around} →
    AreSeated (parent ∷ heads) path → head_has_parameters parent ≡ true →
    is_some (nearest (from_taker ByParameter (scopes_around Es path))) ≡ true
held-parameters (at_top field) e = absurd (false≢true e)
held-parameters (in_node {outer} node seated may) e =
    held-own ByParameter Parameters node outer (parameters-kind node.head node.field outer e) refl

-- what takes a name that stands right in such a node
held-in : (head : Head) (begins field : ℕ) {parent : Head} {heads : List Head} {outer : List Around}
    →
    AreSeated (parent ∷ heads) outer → may_hold parent (first_field outer) head ≡ true →
    is_setter_key head field ≡ false → (way : Way) → way_in head outer ≡ Some way →
    is_some (nearest (from_taker way (scopes_around Es (around_place head begins field ∷ outer)))) ≡ true
held-in h.ImportNamedSpecifier begins field {outer} seated may no_key way e =
    held-way (around_place h.ImportNamedSpecifier begins field ∷ outer) ByImport way e
    (held-top ByImport refl (around_place h.ImportNamedSpecifier begins field ∷ outer))
held-in h.ImportDefaultSpecifier begins field {outer} seated may no_key way e =
    held-way (around_place h.ImportDefaultSpecifier begins field ∷ outer) ByImport way e
    (held-top ByImport refl (around_place h.ImportDefaultSpecifier begins field ∷ outer))
held-in h.ImportStarAsSpecifier begins field {outer} seated may no_key way e =
    held-way (around_place h.ImportStarAsSpecifier begins field ∷ outer) ByImport way e
    (held-top ByImport refl (around_place h.ImportStarAsSpecifier begins field ∷ outer))
held-in h.VarDeclarator begins field {outer} seated may no_key way e =
    held-at way (around_place h.VarDeclarator begins field) outer (held-declarator outer way e)
held-in h.FnDecl begins field {outer} seated may no_key way e =
    held-way (around_place h.FnDecl begins field ∷ outer) ByFunction way e
    (held-top ByFunction refl (around_place h.FnDecl begins field ∷ outer))
held-in h.ClassDecl begins field {outer} seated may no_key way e =
    held-way (around_place h.ClassDecl begins field ∷ outer) ByClass way e
    (held-top ByClass refl (around_place h.ClassDecl begins field ∷ outer))
held-in h.FnExpr begins field {outer} seated may no_key way e =
    held-way (around_place h.FnExpr begins field ∷ outer)
    (cond (is_default outer) ByFunction ByFunctionName) way e (by (is_default outer) refl)
  where
    by : (t : Bool) → is_default outer ≡ t →
        is_some
        (nearest (from_taker (cond (is_default outer) ByFunction ByFunctionName) (scopes_around Es (around_place h.FnExpr begins field ∷ outer))))
        ≡
        true
    by true is =
        ap
        (λ t. is_some (nearest (from_taker (cond t ByFunction ByFunctionName) (scopes_around Es (around_place h.FnExpr begins field ∷ outer)))))
        is ∙ held-top ByFunction refl (around_place h.FnExpr begins field ∷ outer)
    by false is =
        ap
        (λ t. is_some (nearest (from_taker (cond t ByFunction ByFunctionName) (scopes_around Es (around_place h.FnExpr begins field ∷ outer)))))
        is ∙ held-own ByFunctionName FunctionName (around_place h.FnExpr begins field) outer
        (ap (λ t. cond t None (Some FunctionName)) is) refl
held-in h.ClassExpr begins field {outer} seated may no_key way e =
    held-way (around_place h.ClassExpr begins field ∷ outer) (cond (is_default outer) ByClass ByClassName)
    way e (by (is_default outer) refl)
  where
    by : (t : Bool) → is_default outer ≡ t →
        is_some
        (nearest (from_taker (cond (is_default outer) ByClass ByClassName) (scopes_around Es (around_place h.ClassExpr begins field ∷ outer))))
        ≡
        true
    by true is =
        ap
        (λ t. is_some (nearest (from_taker (cond t ByClass ByClassName) (scopes_around Es (around_place h.ClassExpr begins field ∷ outer)))))
        is ∙ held-top ByClass refl (around_place h.ClassExpr begins field ∷ outer)
    by false is =
        ap
        (λ t. is_some (nearest (from_taker (cond t ByClass ByClassName) (scopes_around Es (around_place h.ClassExpr begins field ∷ outer)))))
        is ∙ held-own ByClassName ClassName (around_place h.ClassExpr begins field) outer
        (ap (λ t. cond t None (Some ClassName)) is) refl
held-in h.Param begins field {outer} seated may no_key way e =
    held-way (around_place h.Param begins field ∷ outer) ByParameter way e
    (held-at ByParameter (around_place h.Param begins field) outer (held-parameters seated may))
held-in (h.ArrowExpr is_async) begins field {outer} seated may no_key way e =
    held-way (around_place (h.ArrowExpr is_async) begins field ∷ outer) ByParameter way e
    (held-own ByParameter ArrowParameters (around_place (h.ArrowExpr is_async) begins field) outer refl refl)
held-in h.SetterProp begins field {outer} seated may no_key way e =
    held-way (around_place h.SetterProp begins field ∷ outer) ByParameter way e
    (held-own ByParameter Parameters (around_place h.SetterProp begins field) outer (ap (λ t. cond t None (Some Parameters)) no_key) refl)
held-in h.CatchClause begins field {outer} seated may no_key way e =
    held-way (around_place h.CatchClause begins field ∷ outer) ByCatch way e
    (held-own ByCatch Catch (around_place h.CatchClause begins field) outer refl refl)
held-in _ begins field seated may no_key way e = absurd (none-some way e)

-- a pattern stands in no key
pattern-placed : (parent : Head) (field : ℕ) (head : Head) → is_pattern head ≡ true →
    may_hold parent field head ≡ true → is_setter_key parent field ≡ false
pattern-placed parent field h.Param e may = absurd (false≢true e)
pattern-placed parent field head e may = by (is_setter_key parent field) (is_pattern head) e may
  where
    by : (k t : Bool) → t ≡ true → cond t (not k) true ≡ true → k ≡ false
    by false t is its = refl
    by true true is its = absurd (false≢true its)
    by true false is its = absurd (false≢true is)

no-key-outer : {parent : Head} {heads : List Head} {path : List Around} →
    AreSeated (parent ∷ heads) path → is_setter_key parent (first_field path) ≡ false → IsNoKey path
no-key-outer (at_top field) e = refl
no-key-outer (in_node node seated may) e = e

held-path : {heads : List Head} {path : List Around} → AreSeated heads path → IsNoKey path →
    (way : Way) → way_of path ≡ Some way →
    is_some (nearest (from_taker way (scopes_around Es path))) ≡ true
held-path (at_top field) no_key way e = absurd (none-some way e)
held-path (in_node {parent} {heads} {outer} node seated may) no_key way e =
    by (is_pattern node.head) refl e (λ is its. held-path seated (no-key-outer seated (pattern-placed parent (first_field outer) node.head is may)) way its)
  where
    by : (t : Bool) → is_pattern node.head ≡ t →
        cond t (way_of outer) (way_in node.head outer) ≡ Some way →
        (is_pattern node.head ≡ true → way_of outer ≡ Some way → is_some (nearest (from_taker way (scopes_around Es outer))) ≡ true)
        →
        is_some (nearest (from_taker way (scopes_around Es (node ∷ outer)))) ≡ true
    by true is its rest = held-at way node outer (rest is its)
    by false is its rest = held-in node.head node.begins node.field seated may no_key way its

-- Declarations.

name-key : {heads : List Head} {parent : Head} {path : List Around} →
    AreSeated (parent ∷ heads) path → (field : ℕ) → may_name parent field r.Binding ≡ true →
    IsNoKey (in_field field path)
name-key (at_top its) field may = refl
name-key (in_node node seated its) field may = by (is_setter_key node.head field) may
  where
    by : (k : Bool) → not k ≡ true → k ≡ false
    by true is = absurd (false≢true is)
    by false is = refl

taken-name : (reading : Reading) {parent : Head} {heads : List Head} (s : Spot) →
    AreSeated (parent ∷ heads) s.path → (field : ℕ) (x : List ℕ) (ctxt : ℕ) (role : Role) →
    may_name parent field role ≡ true → (rest : List Item) (d : Declared) →
    declared_at reading Es s (h.Ident field x ctxt role) rest ≡ Some d → IsTaken d
taken-name reading s seated field x ctxt r.Reference may rest d e = absurd (none-some d e)
taken-name reading s seated field x ctxt r.Word may rest d e = absurd (none-some d e)
taken-name reading s seated field x ctxt r.Binding may rest d e =
    by (way_of (in_field field s.path))
    (held-path (in_field-seated seated field) (name-key seated field may)) e
  where
    by : (o : Option Way) →
        ((way : Way) → o ≡ Some way → is_some (nearest (from_taker way (scopes_around Es (in_field field s.path)))) ≡ true)
        →
        declared_by s.place (name_of reading x ctxt) (scopes_around Es (in_field field s.path)) o ≡
        Some d →
        IsTaken d
    by None held is = absurd (none-some d is)
    by (Some way) held is = record { taken = subst (λ (z : Declared). is_some (nearest (from_taker z.by z.scopes)) ≡ true) (same_Some _ d is) (held way refl) }

each-taken : (reading : Reading) {parent : Head} {xs : List Item} → AreIn parent xs →
    {heads : List Head} (s : Spot) → AreSeated (parent ∷ heads) s.path → (rest : List Item) →
    ((t : Spot) → AreSeated (parent ∷ heads) t.path → Every IsTaken (declared_from reading Es t rest))
    →
    Every IsTaken (declared_from reading Es s (xs ++ rest))
each-taken reading no_more s seated rest then = then s seated
each-taken reading (a_name {field} {ctxt} {x} {role} {rest = more_items} may xs) s seated rest then =
    consed (declared_at reading Es s (h.Ident field x ctxt role) (more_items ++ rest)) (declared_from reading Es (past s (h.Ident field x ctxt role)) (more_items ++ rest)) (taken-name reading s seated field x ctxt role may (more_items ++ rest))
    (each-taken reading xs (past s (h.Ident field x ctxt role)) seated rest then)
each-taken reading (a_hole {field} xs) s seated rest then =
    each-taken reading xs (past s (h.Hole field)) seated rest then
each-taken reading (a_node {field} {head} {inside} {rest = behind_it} plain may name in_it xs) s seated rest then =
    subst (λ l. Every IsTaken (declared_from reading Es s (h.Open field head ∷ l))) (sym (append_assoc inside (h.Close ∷ behind_it) rest))
    (subst (λ o. Every IsTaken (cons_option o (declared_from reading Es (past s (h.Open field head)) (inside ++ h.Close ∷ (behind_it ++ rest))))) (sym (open-declares reading s field head plain (inside ++ h.Close ∷ (behind_it ++ rest))))
    (each-taken reading in_it (past s (h.Open field head)) (in_node (around_place head s.place 0) (in_field-seated seated field) (held-field seated field may)) (h.Close ∷ (behind_it ++ rest))
    (λ t its. each-taken reading xs (past t h.Close) (outer-seated its) rest then)))
  where
    held-field : {parent : Head} {heads : List Head} {path : List Around} →
        AreSeated (parent ∷ heads) path → (field : ℕ) → may_hold parent field head ≡ true →
        may_hold parent (first_field (in_field field path)) head ≡ true
    held-field (at_top its) field may = may
    held-field (in_node node seated its) field may = may

-- such a module, with no list of exports behind its statements or one
pub can-be-called : (reading : Reading) (stmts back : List Item) → AreIn h.Module stmts →
    IsBack back → CanBeCalled reading (module_with stmts (back ++ h.Close ∷ []))
can-be-called reading stmts back nodes ends = record {
  stmts = stmts;
  back = back;
  is = refl;
  statements = subst (AreStatements zero) (append-nil stmts) (flat nodes over);
  ends = ends;
  taken = each-taken reading nodes statements_start (at_top 0) (back ++ h.Close ∷ []) (λ t seated. subst (Every IsTaken) (sym (nothing-declared reading t (back-bindless ends))) none);
}
