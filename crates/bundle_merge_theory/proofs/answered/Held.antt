-- In an expression each name that is declared is held by a scope inside: a variable by the body of
-- a function, a parameter by its function, and so on.
use Rattle.std.proofs.Common.{◌≡◌, ℕ, ◌&&◌, ◌||◌, Bool, true, false, cond, not, List, [], ◌∷◌, ◌++◌, Option, None, Some, refl, ap, sym, ◌∙◌, subst}
use Rattle.std.proofs.lemmas.Bool.{false≢true, true≢false, and_parts, and_from}
use Rattle.bundle_syntax.specs.declared.kind.VarDeclKind.{VarDeclKind}
use Rattle.bundle_syntax.specs.declared.kind.VarDeclKind.TheVariants as v
use Rattle.bundle_syntax.specs.declared.piece.Role.TheVariants as r
use Rattle.bundle_syntax.specs.Item as h
use Rattle.bundle_syntax.specs.Item.{Item, Head}
use Rattle.bundle_rules.specs.Places.{Around, Spot, past, in_field, Occurrence, occurrences_from, is_binding}
use Rattle.bundle_rules.specs.Scopes.{Es, Scope, ScopeKind, Wrapper, Top, Inner, Block, CatchBlock, FunctionBody, StaticBody, FunctionName, ClassName, block_kind, is_default, scope_at, scopes_around}
use Rattle.bundle_rules.specs.Declarations.{Way, ByVar, ByLet, ByConst, ByFunction, ByClass, ByLoop, ByParameter, ByFunctionName, ByClassName, is_pattern, heads_loop, is_loop_head, way_of_kind, way_of_declarator, way_of}
use Rattle.bundle_rules.specs.Homes.{is_body, is_block, takes as takes_way}
use Rattle.bundle_rules.specs.Callable.{is_module_head}
use Rattle.bundle_tree_places.specs.Edits.{is_occurrence}
use Rattle.bundle_merge_theory.specs.joined.Joined.{AllOf}
use Rattle.bundle_scope_names.specs.fit.Sorts.{NodeSort, AnItem, AStmt, ADecl, ACase, AHandler, AnInit, ALoopHead, ABlock, AnArrowBody, ADeclarator, AParameter, ALocal, APattern, APatternProperty, ABindingIdent, AnIdent, NodeSlot, takes_head, takes_stmt, takes_decl, takes_var, takes_block, takes_case, takes_handler, takes_declarator, takes_parameter, takes_binding, names_of_sort}
use Rattle.bundle_scope_names.specs.fit.Fits.{AreFit}
use Rattle.bundle_scope_names.specs.fit.Seen.{around_node, each_slot, AreSeen, SortSteps}
use Rattle.bundle_scope_names.proofs.fit.Keys.{seen}
use Rattle.bundle_scope_names.proofs.fit.Rows.{is_own, own_head, own_names}

-- whether a scope inside takes what is declared so, before the top
abbrev pub is_held : Way → List Scope → Bool
is_held way [] = false
is_held way (Wrapper ∷ outer) = false
is_held way (Top ∷ outer) = false
is_held way (Inner kind begins ∷ outer) =
    cond (takes_way way (Inner kind begins)) true (is_held way outer)

abbrev pub held_so : Option Way → List Around → Bool
held_so None path = true
held_so (Some way) path = is_held way (scopes_around Es path)

-- whether a name that is bound at these nodes is held
abbrev held_path : List Around → Bool
held_path path = held_so (way_of path) path

-- whether the body of a function, or of a static block, is around
abbrev has_body : List Around → Bool
has_body path = is_held ByVar (scopes_around Es path)

-- whether a block there is one
abbrev makes_body : List Around → Bool
makes_body path = is_body (Inner (block_kind path) 0)

-- statements stand in bodies, parameters in functions, and names where they are held
abbrev is_seated : NodeSort → List Around → Bool
is_seated AStmt path = has_body path
is_seated ADecl path = has_body path
is_seated ACase path = has_body path
is_seated AHandler path = has_body path
is_seated AnInit path = has_body path
is_seated ALoopHead path = has_body path
is_seated ABlock path = makes_body path || has_body path
is_seated AnArrowBody path = makes_body path || has_body path
is_seated ADeclarator path = held_so (way_of_declarator path) path
is_seated AParameter path = is_held ByParameter (scopes_around Es path)
is_seated ALocal path = held_path path
is_seated (APattern names) path = not (is_binding names) || held_path path
is_seated (APatternProperty names) path = not (is_binding names) || held_path path
is_seated (ABindingIdent names) path = not (is_binding names) || held_path path
is_seated (AnIdent names) path = not (is_binding names) || held_path path
is_seated sort path = true

abbrev pub holds : NodeSort → List Around → Bool
holds sort path = is_own sort && (not (is_default path) && is_seated sort path)

record Holds (sort : NodeSort) (path : List Around) : Type 0 where
  own : is_own sort ≡ true
  undefault : not (is_default path) ≡ true
  seated : is_seated sort path ≡ true

parts_of : (sort : NodeSort) (path : List Around) → holds sort path ≡ true → Holds sort path
parts_of sort path e =
    let one = and_parts (is_own sort) (not (is_default path) && is_seated sort path) e in
    let two = and_parts (not (is_default path)) (is_seated sort path) one.1 in
    record { own = one.0; undefault = two.0; seated = two.1 }

-- Bodies hold all that is declared by statements.

body_holds : (way : Way) → ((kind : ScopeKind) (begins : ℕ) →
    is_body (Inner kind begins) ≡ true → takes_way way (Inner kind begins) ≡ true) →
    (scopes : List Scope) → is_held ByVar scopes ≡ true → is_held way scopes ≡ true
body_holds way more [] e = e
body_holds way more (Wrapper ∷ outer) e = e
body_holds way more (Top ∷ outer) e = e
body_holds way more (Inner kind begins ∷ outer) e =
    by_first (is_body (Inner kind begins)) refl (takes_way way (Inner kind begins)) refl e
    (body_holds way more outer)
  where
    by_first : (b : Bool) → is_body (Inner kind begins) ≡ b → (t : Bool) →
        takes_way way (Inner kind begins) ≡ t → cond b true (is_held ByVar outer) ≡ true →
        (is_held ByVar outer ≡ true → is_held way outer ≡ true) →
        cond t true (is_held way outer) ≡ true
    by_first b is true its e ih = refl
    by_first true is false its e ih = absurd (false≢true (sym its ∙ more kind begins is))
    by_first false is false its e ih = ih e

body_block : (kind : ScopeKind) (begins : ℕ) → is_body (Inner kind begins) ≡ true →
    is_block (Inner kind begins) ≡ true
body_block Block begins e = refl
body_block CatchBlock begins e = refl
body_block _ begins e = e

held_block : (scopes : List Scope) → is_held ByVar scopes ≡ true → is_held ByFunction scopes ≡ true
held_block scopes e = body_holds ByFunction body_block scopes e

-- in the head of a loop, and elsewhere
held_loop : (other : Way) → ((kind : ScopeKind) (begins : ℕ) → is_body (Inner kind begins) ≡ true →
    takes_way other (Inner kind begins) ≡ true) → (b : Bool) (head : Head) (begins field : ℕ)
    (outer : List Around) → is_loop_head head field ≡ b →
    has_body (around_node head begins field ∷ outer) ≡ true →
    is_held (cond b ByLoop other) (scopes_around Es (around_node head begins field ∷ outer)) ≡ true
held_loop other more false head begins field outer is body =
    body_holds other more (scopes_around Es (around_node head begins field ∷ outer)) body
held_loop other more true h.ForStmt begins field outer is body = refl
held_loop other more true h.ForInStmt begins field outer is body = refl
held_loop other more true (h.ForOfStmt it) begins field outer is body = refl
held_loop other more true _ begins field outer is body = absurd (false≢true is)

loop_held : (other : Way) → ((kind : ScopeKind) (begins : ℕ) → is_body (Inner kind begins) ≡ true →
    takes_way other (Inner kind begins) ≡ true) → (path : List Around) → has_body path ≡ true →
    is_held (cond (heads_loop path) ByLoop other) (scopes_around Es path) ≡ true
loop_held other more [] body = absurd (false≢true body)
loop_held other more (node ∷ outer) body =
    held_loop other more (is_loop_head node.head node.field) node.head node.begins node.field outer
    refl body

-- what the declaration of a variable declares
held_variable : (kind : VarDeclKind) (path : List Around) → has_body path ≡ true →
    is_held (way_of_kind kind path) (scopes_around Es path) ≡ true
held_variable v.Var path e = e
held_variable v.Let path e = loop_held ByLet body_block path e
held_variable v.Const path e = loop_held ByConst body_block path e

-- What stands where.

-- a sort of statements
stmt_body : (sort : NodeSort) (path : List Around) → takes_stmt sort ≡ true → holds sort path ≡ true →
    has_body path ≡ true
stmt_body AnItem path is e = absurd (false≢true e)
stmt_body AStmt path is e = (parts_of AStmt path e).seated
stmt_body _ path is e = absurd (false≢true is)

decl_body : (sort : NodeSort) (path : List Around) → takes_decl sort ≡ true → holds sort path ≡ true →
    has_body path ≡ true
decl_body AnItem path is e = absurd (false≢true e)
decl_body AStmt path is e = (parts_of AStmt path e).seated
decl_body ADecl path is e = (parts_of ADecl path e).seated
decl_body _ path is e = absurd (false≢true is)

var_body : (sort : NodeSort) (path : List Around) → takes_var sort ≡ true → holds sort path ≡ true →
    has_body path ≡ true
var_body AnItem path is e = absurd (false≢true e)
var_body AStmt path is e = (parts_of AStmt path e).seated
var_body ADecl path is e = (parts_of ADecl path e).seated
var_body AnInit path is e = (parts_of AnInit path e).seated
var_body ALoopHead path is e = (parts_of ALoopHead path e).seated
var_body _ path is e = absurd (false≢true is)

case_body : (sort : NodeSort) (path : List Around) → takes_case sort ≡ true → holds sort path ≡ true →
    has_body path ≡ true
case_body ACase path is e = (parts_of ACase path e).seated
case_body _ path is e = absurd (false≢true is)

handler_body : (sort : NodeSort) (path : List Around) → takes_handler sort ≡ true →
    holds sort path ≡ true → has_body path ≡ true
handler_body AHandler path is e = (parts_of AHandler path e).seated
handler_body _ path is e = absurd (false≢true is)

either_right : (a b : Bool) → b ≡ true → (a || b) ≡ true
either_right true b e = refl
either_right false b e = e

block_body : (sort : NodeSort) (path : List Around) → takes_block sort ≡ true →
    holds sort path ≡ true → (makes_body path || has_body path) ≡ true
block_body AnItem path is e = absurd (false≢true e)
block_body AStmt path is e =
    either_right (makes_body path) (has_body path) (parts_of AStmt path e).seated
block_body ABlock path is e = (parts_of ABlock path e).seated
block_body AnArrowBody path is e = (parts_of AnArrowBody path e).seated
block_body _ path is e = absurd (false≢true is)

declarator_held : (sort : NodeSort) (path : List Around) → takes_declarator sort ≡ true →
    holds sort path ≡ true → held_so (way_of_declarator path) path ≡ true
declarator_held ADeclarator path is e = (parts_of ADeclarator path e).seated
declarator_held _ path is e = absurd (false≢true is)

parameter_held : (sort : NodeSort) (path : List Around) → takes_parameter sort ≡ true →
    holds sort path ≡ true → is_held ByParameter (scopes_around Es path) ≡ true
parameter_held AParameter path is e = (parts_of AParameter path e).seated
parameter_held _ path is e = absurd (false≢true is)

-- the names of a pattern
pattern_held : (sort : NodeSort) (path : List Around) → holds sort path ≡ true →
    (sort ≡ ALocal → ⊥) → (not (is_binding (names_of_sort sort)) || held_path path) ≡ true
pattern_held ALocal path e other = absurd (other refl)
pattern_held (APattern names) path e other = (parts_of (APattern names) path e).seated
pattern_held (APatternProperty names) path e other = (parts_of
    (APatternProperty names) path e).seated
pattern_held (ABindingIdent names) path e other = (parts_of (ABindingIdent names) path e).seated
pattern_held (AnIdent names) path e other = (parts_of (AnIdent names) path e).seated
pattern_held _ path e other = refl

-- the names of a pattern are so in the nodes of it
not_local : (head : Head) → is_pattern head ≡ true → (sort : NodeSort) → takes_head head sort ≡ true →
    sort ≡ ALocal → ⊥
not_local head is sort it e = at_local head is (subst (λ s. takes_head head s ≡ true) e it)
  where
    at_local : (head : Head) → is_pattern head ≡ true → takes_head head ALocal ≡ true → ⊥
    at_local h.BindingIdent is it = false≢true it
    at_local h.ArrayPat is it = false≢true it
    at_local h.ObjectPat is it = false≢true it
    at_local h.RestPat is it = false≢true it
    at_local h.AssignPat is it = false≢true it
    at_local h.KeyValuePatProp is it = false≢true it
    at_local h.AssignPatProp is it = false≢true it
    at_local _ is it = false≢true is

-- a node of a module stands nowhere here
module_none : {A : Type 0} (head : Head) (sort : NodeSort) (path : List Around) →
    is_module_head head ≡ true → takes_head head sort ≡ true → holds sort path ≡ true → A
module_none head sort path is it e =
    absurd (true≢false (sym is ∙ own_head head sort it (parts_of sort path e).own))

-- what is held among the same scopes
held_among : (way : Option Way) (ps qs : List Around) →
    scopes_around Es ps ≡ scopes_around Es qs → held_so way ps ≡ true → held_so way qs ≡ true
held_among None ps qs same e = refl
held_among (Some way) ps qs same e = ap (is_held way) (sym same) ∙ e

either_among : (b : Bool) (way : Option Way) (ps qs : List Around) →
    scopes_around Es ps ≡ scopes_around Es qs → (not b || held_so way ps) ≡ true →
    (not b || held_so way qs) ≡ true
either_among false way ps qs same e = refl
either_among true way ps qs same e = held_among way ps qs same e

-- in a node of a pattern
in_pattern : (head : Head) → is_pattern head ≡ true → (sort : NodeSort) (path in_it : List Around) →
    takes_head head sort ≡ true → holds sort path ≡ true →
    scopes_around Es path ≡ scopes_around Es in_it →
    (is_occurrence (names_of_sort sort)
    && (not (is_binding (names_of_sort sort)) || held_so (way_of path) in_it))
    ≡ true
in_pattern head is sort path in_it it e same =
    and_from (is_occurrence (names_of_sort sort))
    (not (is_binding (names_of_sort sort)) || held_so (way_of path) in_it)
    (own_names sort (parts_of sort path e).own)
    (either_among (is_binding (names_of_sort sort)) (way_of path) path in_it same
    (pattern_held sort path e (not_local head is sort it)))

same_body : (kind : ScopeKind) (begins : ℕ) → is_body (Inner kind begins) ≡ is_body (Inner kind 0)
same_body FunctionBody begins = refl
same_body StaticBody begins = refl
same_body _ begins = refl

-- a body in a block
inner_body : (path : List Around) (begins : ℕ) → (makes_body path || has_body path) ≡ true →
    has_body (around_node h.BlockStmt begins 0 ∷ path) ≡ true
inner_body path begins e = by_first (is_body (Inner (block_kind path) begins)) (is_body (Inner
    (block_kind path) 0))
    (same_body (block_kind path) begins) e
  where
    by_first : (b c : Bool) → b ≡ c → (c || has_body path) ≡ true →
        cond b true (has_body path) ≡ true
    by_first true c same e = refl
    by_first false true same e = absurd (false≢true same)
    by_first false false same e = e

-- a function's or a class's own name, where it is no default
own_function : (path : List Around) (begins : ℕ) → not (is_default path) ≡ true →
    held_path (around_node h.FnExpr begins 0 ∷ path) ≡ true
own_function path begins e = by_default (is_default path) refl e
  where
    by_default : (b : Bool) → is_default path ≡ b → not b ≡ true →
        is_held (cond b ByFunction ByFunctionName) (scope_at begins (cond b None
        (Some FunctionName)) ++ scopes_around Es path) ≡ true
    by_default true is e = absurd (false≢true e)
    by_default false is e = refl

own_class : (path : List Around) (begins : ℕ) → not (is_default path) ≡ true →
    held_path (around_node h.ClassExpr begins 0 ∷ path) ≡ true
own_class path begins e = by_default (is_default path) refl e
  where
    by_default : (b : Bool) → is_default path ≡ b → not b ≡ true →
        is_held (cond b ByClass ByClassName) (scope_at begins (cond b None (Some ClassName))
        ++ scopes_around Es path) ≡ true
    by_default true is e = absurd (false≢true e)
    by_default false is e = refl

steps : SortSteps holds
steps h.Module begins sort path it e = module_none h.Module sort path refl it e
steps (h.ImportDecl meta) begins sort path it e = module_none
    (h.ImportDecl meta) sort path refl it e
steps h.ImportNamedSpecifier begins sort path it e = module_none h.ImportNamedSpecifier sort path refl it e
steps h.ImportDefaultSpecifier begins sort path it e = module_none h.ImportDefaultSpecifier sort path refl it e
steps h.ImportStarAsSpecifier begins sort path it e = module_none h.ImportStarAsSpecifier sort path refl it e
steps h.ExportDecl begins sort path it e = module_none h.ExportDecl sort path refl it e
steps (h.NamedExport meta) begins sort path it e = module_none
    (h.NamedExport meta) sort path refl it e
steps h.ExportNamespaceSpecifier begins sort path it e = module_none h.ExportNamespaceSpecifier sort path refl it e
steps h.ExportNamedSpecifier begins sort path it e = module_none h.ExportNamedSpecifier sort path refl it e
steps h.ExportDefaultDecl begins sort path it e = module_none h.ExportDefaultDecl sort path refl it e
steps h.ExportDefaultExpr begins sort path it e = module_none h.ExportDefaultExpr sort path refl it e
steps (h.ExportAll meta) begins sort path it e = module_none (h.ExportAll meta) sort path refl it e
steps h.BlockStmt begins sort path it e =
    and_from _ _ (inner_body path begins (block_body sort path it e)) refl
steps h.WithStmt begins sort path it e = and_from _ _ (stmt_body sort path it e) refl
steps h.LabeledStmt begins sort path it e = and_from _ _ (stmt_body sort path it e) refl
steps h.IfStmt begins sort path it e =
    and_from _ _ (stmt_body sort path it e) (and_from _ _ (stmt_body sort path it e) refl)
steps h.SwitchStmt begins sort path it e = and_from _ _ (stmt_body sort path it e) refl
steps h.SwitchCase begins sort path it e = and_from _ _ (case_body sort path it e) refl
steps h.TryStmt begins sort path it e =
    and_from _ _ (stmt_body sort path it e)
    (and_from _ _ (stmt_body sort path it e) (and_from _ _ (stmt_body sort path it e) refl))
steps h.CatchClause begins sort path it e = and_from _ _ (handler_body sort path it e) refl
steps h.WhileStmt begins sort path it e = and_from _ _ (stmt_body sort path it e) refl
steps h.DoWhileStmt begins sort path it e = and_from _ _ (stmt_body sort path it e) refl
steps h.ForStmt begins sort path it e =
    and_from _ _ (stmt_body sort path it e) (and_from _ _ (stmt_body sort path it e) refl)
steps h.ForInStmt begins sort path it e =
    and_from _ _ (stmt_body sort path it e) (and_from _ _ (stmt_body sort path it e) refl)
steps (h.ForOfStmt is_await) begins sort path it e =
    and_from _ _ (stmt_body sort path it e) (and_from _ _ (stmt_body sort path it e) refl)
steps h.ClassDecl begins sort path it e =
    and_from _ _
    (body_holds ByClass body_block (scopes_around Es path) (decl_body sort path it e)) refl
steps h.FnDecl begins sort path it e =
    and_from _ _ (held_block (scopes_around Es path) (decl_body sort path it e)) refl
steps (h.VarDecl kind meta) begins sort path it e =
    and_from _ _ (held_variable kind path (var_body sort path it e)) refl
steps h.VarDeclarator begins sort path it e =
    and_from _ _
    (held_among (way_of_declarator path) path (around_node h.VarDeclarator begins 0 ∷ path) refl
    (declarator_held sort path it e))
    refl
steps h.FnExpr begins sort path it e =
    and_from _ _ (own_function path begins (parts_of sort path e).undefault) refl
steps h.ClassExpr begins sort path it e =
    and_from _ _ (own_class path begins (parts_of sort path e).undefault) refl
steps h.Param begins sort path it e = and_from _ _ (parameter_held sort path it e) refl
steps h.BindingIdent begins sort path it e =
    and_from _ _ (in_pattern h.BindingIdent refl sort path
    (around_node h.BindingIdent begins 0 ∷ path) it e refl) refl
steps h.ArrayPat begins sort path it e = and_from _ _ (in_pattern h.ArrayPat refl sort path
    (around_node h.ArrayPat begins 0 ∷ path) it e refl) refl
steps h.ObjectPat begins sort path it e = and_from _ _ (in_pattern h.ObjectPat refl sort path
    (around_node h.ObjectPat begins 0 ∷ path) it e refl) refl
steps h.RestPat begins sort path it e = and_from _ _ (in_pattern h.RestPat refl sort path
    (around_node h.RestPat begins 0 ∷ path) it e refl) refl
steps h.AssignPat begins sort path it e = and_from _ _ (in_pattern h.AssignPat refl sort path
    (around_node h.AssignPat begins 0 ∷ path) it e refl) refl
steps h.KeyValuePatProp begins sort path it e =
    and_from _ _ (in_pattern h.KeyValuePatProp refl sort path
    (around_node h.KeyValuePatProp begins 1 ∷ path) it e refl) refl
steps h.AssignPatProp begins sort path it e =
    and_from _ _ (in_pattern h.AssignPatProp refl sort path
    (around_node h.AssignPatProp begins 0 ∷ path) it e refl) refl
steps (h.NewExpr true) begins sort path it e = refl
steps (h.NewExpr false) begins sort path it e = refl
steps _ begins sort path it e = refl

-- a name that is bound
name_held : (sort : NodeSort) (path : List Around) → takes_binding sort ≡ true → holds sort path
    ≡ true →
    held_path path ≡ true
name_held ALocal path is e = (parts_of ALocal path e).seated
name_held (AnIdent r.Binding) path is e = (parts_of (AnIdent r.Binding) path e).seated
name_held (AnIdent r.Reference) path is e = absurd (false≢true is)
name_held (AnIdent r.Word) path is e = absurd (false≢true is)
name_held _ path is e = absurd (false≢true is)

-- each occurrence that binds is held
abbrev pub IsHeld : Occurrence → Type 0
IsHeld o =
    is_binding o.role ≡ true → (way : Way) → way_of o.path ≡ Some way →
    is_held way (scopes_around Es o.path) ≡ true

held_at : (path : List Around) → held_path path ≡ true → (way : Way) → way_of path ≡ Some way →
    is_held way (scopes_around Es path) ≡ true
held_at path e way is = sym (ap (λ w. held_so w path) is) ∙ e

from_seen : (s : Spot) (items : List Item) → AreSeen holds s items →
    AllOf IsHeld (occurrences_from s items)
from_seen s [] them = tt
from_seen s (h.Open field head ∷ rest) them = from_seen (past s (h.Open field head)) rest them.1
from_seen s (h.Hole field ∷ rest) them = from_seen (past s (h.Hole field)) rest them.1
from_seen s (h.Close ∷ rest) them = from_seen (past s h.Close) rest them.1
from_seen s (h.Ident field x ctxt r.Word ∷ rest) them =
    from_seen (past s (h.Ident field x ctxt r.Word)) rest them.1
from_seen s (h.Ident field x ctxt r.Reference ∷ rest) them = (
  λ binds. absurd (false≢true binds),
  from_seen (past s (h.Ident field x ctxt r.Reference)) rest them.1,
)
from_seen s (h.Ident field x ctxt r.Binding ∷ rest) them = (
  λ binds. held_at (in_field field s.path)
      (name_held them.0.0 (in_field field s.path) them.0.1 them.0.2),
  from_seen (past s (h.Ident field x ctxt r.Binding)) rest them.1,
)

pub all_held : {list : List NodeSlot} {items : List Item} → AreFit list items → (s : Spot) →
    each_slot (λ number sort. holds sort (in_field number s.path)) list ≡ true →
    AllOf IsHeld (occurrences_from s items)
all_held {items = items} fit s ok = from_seen s items (seen holds steps fit s ok)
