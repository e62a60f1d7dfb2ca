-- In a tree that is fit some scope takes each declared name.
use Rattle.std.proofs.Common.{◌≡◌, ◌==◌, ◌&&◌, ◌||◌, ℕ, zero, suc, Bool, true, false, cond, not, List, [], ◌∷◌, ◌++◌, Option, Some, None, refl, ap, sym, ◌∙◌, subst}
use Rattle.std.specs.Prelude.{slice_get, is_some}
use Rattle.std.proofs.lemmas.Bool.{false≢true, and_parts, and_from}
use Rattle.std.proofs.lemmas.Option.{none-some, same_Some}
use Rattle.bundle_syntax.specs.declared.kind.VarDeclKind.{VarDeclKind}
use Rattle.bundle_syntax.specs.declared.kind.VarDeclKind.TheVariants as v
use Rattle.bundle_syntax.specs.declared.piece.Role.{Role}
use Rattle.bundle_syntax.specs.declared.piece.Role.TheVariants as r
use Rattle.bundle_syntax.specs.Item as h
use Rattle.bundle_syntax.specs.Item.{Item, Head}
use Rattle.bundle_rules.specs.Places.{Around, Spot, past, start, in_field, Occurrence, occurrences, occurrences_from, is_binding}
use Rattle.bundle_rules.specs.Scopes.{Es, Scope, ScopeKind, Top, Inner, FunctionName, ClassName, Parameters, is_default, kind_of_scope, scope_at, scopes_around}
use Rattle.bundle_rules.specs.Declarations.{Way, ByImport, ByVar, ByLet, ByConst, ByFunction, ByClass, ByParameter, ByLoop, ByFunctionName, ByClassName, BySymbol, Declared, declared, declared_by, declaration_of, way_of, way_in, way_of_kind, way_of_variable, way_of_declarator, heads_loop, is_loop_head, is_pattern}
use Rattle.bundle_rules.specs.Homes.{takes, from_taker, nearest}
use Rattle.bundle_scope_names.proofs.HomesLemmas.{Each}
use Rattle.bundle_scope_names.proofs.FoundLemmas.{plain}
use Rattle.bundle_scope_names.proofs.TreeLemmas.{each-declared}
use Rattle.bundle_scope_names.specs.fit.Sorts.{NodeSort, NodeSlot, takes_name, takes_parameter, names_of_sort}
use Rattle.bundle_scope_names.specs.fit.Fits.{AreFit}
use Rattle.bundle_scope_names.specs.fit.Seen.{each_slot, AreSeen, SortSteps}
use Rattle.bundle_scope_names.proofs.fit.Keys.{seen}
use Rattle.bundle_merge_theory.specs.loaded.Kept.{IsDeclarationTaken}
use Rattle.bundle_merge_theory.proofs.fit.Clearing.{either, bound}

-- Where parameters stand.

-- some scope around takes a parameter
abbrev pub has_parameters : List Around → Bool
has_parameters path = is_some (nearest (from_taker ByParameter (scopes_around Es path)))

-- a name that is declared in such a node, with these nodes around it, has a scope that takes it, if
-- it is a parameter
abbrev pub is_seated : Head → ℕ → List Around → Bool
is_seated h.Param field outer = has_parameters outer
is_seated h.SetterProp field outer = not (field == 0)
is_seated _ field outer = true

abbrev pub binds_seated : List Around → Bool
binds_seated [] = true
binds_seated (node ∷ outer) =
    cond (is_pattern node.head) (binds_seated outer) (is_seated node.head node.field outer)

-- names that are bound are seated, and parameters stand in a scope for them
abbrev pub seats : NodeSort → List Around → Bool
seats sort path =
    (not (is_binding (names_of_sort sort)) || binds_seated path)
    && (not (takes_parameter sort) || has_parameters path)

first : (sort : NodeSort) (path : List Around) → seats sort path ≡ true →
    (not (is_binding (names_of_sort sort)) || binds_seated path) ≡ true
first sort path e =
    (and_parts (not (is_binding (names_of_sort sort)) || binds_seated path)
    (not (takes_parameter sort) || has_parameters path) e).0

second : (sort : NodeSort) (path : List Around) → takes_parameter sort ≡ true →
    seats sort path ≡ true → has_parameters path ≡ true
second sort path is e =
    either (takes_parameter sort) (has_parameters path) is
    (and_parts (not (is_binding (names_of_sort sort)) || binds_seated path)
    (not (takes_parameter sort) || has_parameters path) e).1

steps : SortSteps seats
steps h.Param begins sort path is e =
    and_from _ _ (and_from _ _ (second sort path is e) refl) refl
steps h.BindingIdent begins sort path is e =
    and_from _ _ (and_from _ _ (first sort path e) refl) refl
steps h.ArrayPat begins sort path is e = and_from _ _ (and_from _ _ (first sort path e) refl) refl
steps h.ObjectPat begins sort path is e = and_from _ _ (and_from _ _ (first sort path e) refl) refl
steps h.RestPat begins sort path is e = and_from _ _ (and_from _ _ (first sort path e) refl) refl
steps h.AssignPat begins sort path is e = and_from _ _ (and_from _ _ (first sort path e) refl) refl
steps h.KeyValuePatProp begins sort path is e =
    and_from _ _ (and_from _ _ (first sort path e) refl) refl
steps h.AssignPatProp begins sort path is e =
    and_from _ _ (and_from _ _ (first sort path e) refl) refl
steps (h.NewExpr true) begins sort path is e = refl
steps (h.NewExpr false) begins sort path is e = refl
steps _ begins sort path is e = refl

seated-there : (role : Role) (sort : NodeSort) (path : List Around) → is_binding role ≡ true →
    takes_name role sort ≡ true → seats sort path ≡ true → binds_seated path ≡ true
seated-there r.Binding sort path binds is e =
    either (is_binding (names_of_sort sort)) (binds_seated path) (bound sort is) (first sort path e)
seated-there r.Reference sort path binds is e = absurd (false≢true binds)
seated-there r.Word sort path binds is e = absurd (false≢true binds)

from_seen : (s : Spot) (items : List Item) → AreSeen seats s items → (n : ℕ) (o : Occurrence) →
    slice_get (occurrences_from s items) n ≡ Some o → is_binding o.role ≡ true →
    binds_seated o.path ≡ true
from_seen s [] them n o e binds = absurd (none-some o e)
from_seen s (h.Open field head ∷ rest) them n o e binds =
    from_seen (past s (h.Open field head)) rest them.1 n o e binds
from_seen s (h.Hole field ∷ rest) them n o e binds =
    from_seen (past s (h.Hole field)) rest them.1 n o e binds
from_seen s (h.Close ∷ rest) them n o e binds = from_seen (past s h.Close) rest them.1 n o e binds
from_seen s (h.Ident field x ctxt r.Word ∷ rest) them n o e binds =
    from_seen (past s (h.Ident field x ctxt r.Word)) rest them.1 n o e binds
from_seen s (h.Ident field x ctxt r.Binding ∷ rest) them zero o e binds =
    subst (λ (it : Occurrence). binds_seated it.path ≡ true) (same_Some _ _ e)
    (seated-there r.Binding them.0.0 (in_field field s.path) refl them.0.1 them.0.2)
from_seen s (h.Ident field x ctxt r.Binding ∷ rest) them (suc n) o e binds =
    from_seen (past s (h.Ident field x ctxt r.Binding)) rest them.1 n o e binds
from_seen s (h.Ident field x ctxt r.Reference ∷ rest) them zero o e binds =
    absurd (false≢true (ap (λ (it : Occurrence). is_binding it.role) (same_Some _ _ e) ∙ binds))
from_seen s (h.Ident field x ctxt r.Reference ∷ rest) them (suc n) o e binds =
    from_seen (past s (h.Ident field x ctxt r.Reference)) rest them.1 n o e binds

pub all-seated : {list : List NodeSlot} {items : List Item} → AreFit list items →
    each_slot (λ number sort. seats sort []) list ≡ true → (n : ℕ) (o : Occurrence) →
    slice_get (occurrences items) n ≡ Some o → is_binding o.role ≡ true →
    binds_seated o.path ≡ true
all-seated {items = items} fit ok n o e binds =
    from_seen start items (seen seats steps fit start ok) n o e binds

-- Scopes that take.

abbrev HasTaker : Way → List Scope → Type 0
HasTaker way scopes = is_some (nearest (from_taker way scopes)) ≡ true

-- the first of these, or one further out
taker-first : (way : Way) (scope : Scope) (outer : List Scope) → takes way scope ≡ true →
    HasTaker way (scope ∷ outer)
taker-first way scope outer is =
    ap (λ b. is_some (nearest (cond b (scope ∷ outer) (from_taker way outer)))) is

taker-later : (way : Way) (scope : Scope) (outer : List Scope) → HasTaker way outer →
    HasTaker way (scope ∷ outer)
taker-later way scope outer has = by (takes way scope)
  where
    by : (b : Bool) → is_some (nearest (cond b (scope ∷ outer) (from_taker way outer))) ≡ true
    by true = refl
    by false = has

taker-outer : (way : Way) (begins : ℕ) (kind : Option ScopeKind) (outer : List Scope) →
    HasTaker way outer → HasTaker way (scope_at begins kind ++ outer)
taker-outer way begins None outer has = has
taker-outer way begins (Some kind) outer has = taker-later way (Inner kind begins) outer has

-- the top is around each place
taken-top : (way : Way) → takes way Top ≡ true → (path : List Around) →
    HasTaker way (scopes_around Es path)
taken-top way is [] = taker-first way Top [] is
taken-top way is (node ∷ outer) =
    taker-outer way node.begins (kind_of_scope node.head node.field outer) (scopes_around Es outer)
    (taken-top way is outer)

taken-outer : (way : Way) (node : Around) (outer : List Around) →
    HasTaker way (scopes_around Es outer) → HasTaker way (scopes_around Es (node ∷ outer))
taken-outer way node outer has =
    taker-outer way node.begins (kind_of_scope node.head node.field outer) (scopes_around Es outer)
    has

-- the head of a loop makes its scope
loop-head : (head : Head) (field begins : ℕ) (outer : List Around) →
    is_loop_head head field ≡ true →
    HasTaker ByLoop
    (scopes_around Es (record { head = head; begins = begins; field = field } ∷ outer))
loop-head h.ForStmt field begins outer is = refl
loop-head h.ForInStmt field begins outer is = refl
loop-head (h.ForOfStmt is_await) field begins outer is = refl
loop-head _ field begins outer is = absurd (false≢true is)

heads-loop : (path : List Around) → heads_loop path ≡ true → HasTaker ByLoop (scopes_around Es path)
heads-loop [] is = absurd (false≢true is)
heads-loop (node ∷ outer) is = loop-head node.head node.field node.begins outer is

-- a variable
by-kind : (kind : VarDeclKind) (outer : List Around) →
    HasTaker (way_of_kind kind outer) (scopes_around Es outer)
by-kind v.Var outer = taken-top ByVar refl outer
by-kind v.Let outer = by (heads_loop outer) refl
  where
    by : (b : Bool) → heads_loop outer ≡ b → HasTaker (cond b ByLoop ByLet) (scopes_around Es outer)
    by true is = heads-loop outer is
    by false is = taken-top ByLet refl outer
by-kind v.Const outer = by (heads_loop outer) refl
  where
    by : (b : Bool) → heads_loop outer ≡ b →
        HasTaker (cond b ByLoop ByConst) (scopes_around Es outer)
    by true is = heads-loop outer is
    by false is = taken-top ByConst refl outer

by-variable : (head : Head) (outer : List Around) (way : Way) →
    way_of_variable head outer ≡ Some way → HasTaker way (scopes_around Es outer)
by-variable (h.VarDecl kind meta) outer way is =
    subst (λ w. HasTaker w (scopes_around Es outer)) (same_Some _ way is) (by-kind kind outer)
by-variable _ outer way is = absurd (none-some way is)

by-declarator : (path : List Around) (way : Way) → way_of_declarator path ≡ Some way →
    HasTaker way (scopes_around Es path)
by-declarator [] way is = absurd (none-some way is)
by-declarator (node ∷ outer) way is =
    taken-outer way node outer (by-variable node.head outer way is)

-- what a node declares
by-node : (head : Head) (begins field : ℕ) (outer : List Around) (way : Way) →
    way_in head outer ≡ Some way → is_seated head field outer ≡ true →
    HasTaker way (scopes_around Es (record { head = head; begins = begins; field = field } ∷ outer))
by-node h.ImportNamedSpecifier begins field outer way is seated =
    subst (λ w. HasTaker w (scopes_around Es outer)) (same_Some _ way is)
    (taken-top ByImport refl outer)
by-node h.ImportDefaultSpecifier begins field outer way is seated =
    subst (λ w. HasTaker w (scopes_around Es outer)) (same_Some _ way is)
    (taken-top ByImport refl outer)
by-node h.ImportStarAsSpecifier begins field outer way is seated =
    subst (λ w. HasTaker w (scopes_around Es outer)) (same_Some _ way is)
    (taken-top ByImport refl outer)
by-node h.VarDeclarator begins field outer way is seated = by-declarator outer way is
by-node h.FnDecl begins field outer way is seated =
    subst (λ w. HasTaker w (scopes_around Es outer)) (same_Some _ way is)
    (taken-top ByFunction refl outer)
by-node h.ClassDecl begins field outer way is seated =
    subst (λ w. HasTaker w (scopes_around Es outer)) (same_Some _ way is)
    (taken-top ByClass refl outer)
by-node h.FnExpr begins field outer way is seated =
    subst
    (λ w. HasTaker w
    (scopes_around Es (record { head = h.FnExpr; begins = begins; field = field } ∷ outer)))
    (same_Some _ way is) (by (is_default outer))
  where
    by : (b : Bool) →
        HasTaker (cond b ByFunction ByFunctionName)
        (scope_at begins (cond b None (Some FunctionName)) ++ scopes_around Es outer)
    by true = taken-top ByFunction refl outer
    by false = refl
by-node h.ClassExpr begins field outer way is seated =
    subst
    (λ w. HasTaker w
    (scopes_around Es (record { head = h.ClassExpr; begins = begins; field = field } ∷ outer)))
    (same_Some _ way is) (by (is_default outer))
  where
    by : (b : Bool) →
        HasTaker (cond b ByClass ByClassName)
        (scope_at begins (cond b None (Some ClassName)) ++ scopes_around Es outer)
    by true = taken-top ByClass refl outer
    by false = refl
by-node h.Param begins field outer way is seated =
    subst (λ w. HasTaker w (scopes_around Es outer)) (same_Some _ way is) seated
by-node (h.ArrowExpr is_async) begins field outer way is seated =
    subst
    (λ w. HasTaker w
    (scopes_around Es
    (record { head = h.ArrowExpr is_async; begins = begins; field = field } ∷ outer)))
    (same_Some _ way is) refl
by-node h.SetterProp begins field outer way is seated =
    subst
    (λ w. HasTaker w
    (scopes_around Es (record { head = h.SetterProp; begins = begins; field = field } ∷ outer)))
    (same_Some _ way is) (by (field == 0) seated)
  where
    by : (b : Bool) → not b ≡ true →
        HasTaker ByParameter
        (scope_at begins (cond b None (Some Parameters)) ++ scopes_around Es outer)
    by true is = absurd (false≢true is)
    by false is = refl
by-node h.CatchClause begins field outer way is seated =
    subst
    (λ w. HasTaker w
    (scopes_around Es (record { head = h.CatchClause; begins = begins; field = field } ∷ outer)))
    (same_Some _ way is) refl
by-node _ begins field outer way is seated = absurd (none-some way is)

-- SOME SCOPE takes it
pub taken-by : (path : List Around) (way : Way) → way_of path ≡ Some way →
    binds_seated path ≡ true → HasTaker way (scopes_around Es path)
taken-by [] way is seated = absurd (none-some way is)
taken-by (node ∷ outer) way is seated =
    by (is_pattern node.head) is seated (λ one two. taken-by outer way one two)
  where
    by : (b : Bool) → cond b (way_of outer) (way_in node.head outer) ≡ Some way →
        cond b (binds_seated outer) (is_seated node.head node.field outer) ≡ true →
        (way_of outer ≡ Some way → binds_seated outer ≡ true →
        HasTaker way (scopes_around Es outer)) →
        HasTaker way (scopes_around Es (node ∷ outer))
    by true one two ih = taken-outer way node outer (ih one two)
    by false one two ih = by-node node.head node.begins node.field outer way one two

-- what an occurrence declares is taken
pub taken-es : (items : List Item) →
    ((n : ℕ) (o : Occurrence) → slice_get (occurrences items) n ≡ Some o →
    is_binding o.role ≡ true → binds_seated o.path ≡ true) →
    Each IsDeclarationTaken (declared BySymbol Es items)
taken-es items all =
    each-declared IsDeclarationTaken
    (λ (o : Occurrence). is_binding o.role ≡ true → binds_seated o.path ≡ true) BySymbol Es
    (λ x. refl) (λ place. refl) (λ o d seated is. by o d seated (is_binding o.role) refl
    (way_of o.path) refl is) items (λ n o e. all n o e)
  where
    by : (o : Occurrence) (d : Declared) →
        (is_binding o.role ≡ true → binds_seated o.path ≡ true) → (b : Bool) →
        is_binding o.role ≡ b → (way : Option Way) → way_of o.path ≡ way →
        declaration_of BySymbol Es o ≡ Some d → IsDeclarationTaken d
    by o d seated false role way at is =
        absurd (none-some d
        (sym (ap (λ b. cond b
        (declared_by o.place (plain o.sym) (scopes_around Es o.path) (way_of o.path)) None) role)
        ∙ is))
    by o d seated true role None at is =
        absurd (none-some d
        (sym (ap (λ b. cond b
        (declared_by o.place (plain o.sym) (scopes_around Es o.path) (way_of o.path)) None) role
        ∙ ap (declared_by o.place (plain o.sym) (scopes_around Es o.path)) at)
        ∙ is))
    by o d seated true role (Some way) at is =
        subst IsDeclarationTaken
        (same_Some _ d
        (sym (ap (λ b. cond b
        (declared_by o.place (plain o.sym) (scopes_around Es o.path) (way_of o.path)) None) role
        ∙ ap (declared_by o.place (plain o.sym) (scopes_around Es o.path)) at)
        ∙ is))
        (taken-by o.path way at (seated role))
