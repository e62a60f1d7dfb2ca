-- What names denote in the body of the function is what they denoted at the top of the module.
use Rattle.std.proofs.Common.{◌≡◌, ℕ, ◌+◌, Bool, true, false, cond, not, ◌&&◌, ◌||◌, List, [], ◌∷◌, Option, Some, None, option_map, map, find, unwrap_or, refl, ap, ap₂, sym, ◌∙◌, arith, codes}
use Rattle.std.specs.Prelude.{is_some, ◌==◌}
use Rattle.std.specs.List.{list_any}
use Rattle.std.specs.Bool.{Decides}
use Rattle.std.proofs.lemmas.Bool.{false≢true}
use Rattle.std.proofs.lemmas.Bool.Decides.{same_from_decides, Decides-eqb}
use Rattle.std.proofs.lemmas.Option.{none-some}
use Rattle.std.proofs.lemmas.Slice.Eq.{bytes_eq-Decides}
use Rattle.bundle_rules.specs.Scopes.{Scope, ScopeKind, Wrapper, Top, Inner, Parameters, ArrowParameters, FunctionBody, FunctionName, same_scope}
use Rattle.bundle_rules.specs.Declarations.{Way, ByImport, ByVar, ByLet, ByConst, ByFunction, ByClass, ByDefault, ByParameter, ByCatch, ByLoop, ByFunctionName, ByClassName, ByWrapper, Reading, BySymbol, ByContext, Name, names_agree, Declared}
use Rattle.bundle_rules.specs.Homes.{is_parameters, takes, from_taker, nearest, taker, parameters_of, joins_parameter, is_parameter, home_beside, home_of, is_wrapper, is_declared_in, declares, is_arguments, is_function, has_implicit_arguments, binds}
use Rattle.bundle_rules.specs.Denotes.{Denoted, Global, without_context, bound_in, denoted_by_symbol, is_unresolved, has_identifier, is_written_in, is_implied_in, implied, written_or_implied, denoted_by_context, denoted_in}
use Rattle.bundle_rules.specs.Callable.{Every, none, more}
use Rattle.bundle_merge_theory.specs.called.Moved.{called_scope, moved_scopes, called_denoted, called_declared, is_module_way, AreFair, top, inner, IsFair, IsSeated}
use Rattle.bundle_merge_theory.proofs.grouped.FormLemmas.{takes-alike as takes-at}

-- Lists.

pub any-map : {A B : Type 0} (p : B → Bool) (q : A → Bool) (f : A → B) (P : A → Type 0) →
    ((x : A) → P x → p (f x) ≡ q x) → {xs : List A} → Every P xs →
    list_any p (map f xs) ≡ list_any q xs
any-map p q f P same none = refl
any-map p q f P same (more {x} {xs} here later) =
    ap₂ (λ (a : Bool) (b : Bool). a || b) (same x here) (any-map p q f P same later)

pub any-none : {A B : Type 0} (p : B → Bool) (f : A → B) (P : A → Type 0) →
    ((x : A) → P x → p (f x) ≡ false) → {xs : List A} → Every P xs → list_any p (map f xs) ≡ false
any-none p f P same none = refl
any-none p f P same (more {x} {xs} here later) =
    ap₂ (λ (a : Bool) (b : Bool). a || b) (same x here) (any-none p f P same later)

-- What takes a declaration.

parameters-at : (kind : ScopeKind) (a b : ℕ) →
    is_parameters (Inner kind a) ≡ is_parameters (Inner kind b)
parameters-at Parameters a b = refl
parameters-at ArrowParameters a b = refl
parameters-at _ a b = refl

function-at : (kind : ScopeKind) (a b : ℕ) → is_function (Inner kind a) ≡ is_function (Inner kind b)
function-at Parameters a b = refl
function-at _ a b = refl

pub from_taker-moved : (way : Way) {scopes : List Scope} → AreFair scopes →
    is_module_way way ≡ false → is_some (nearest (from_taker way scopes)) ≡ true →
    from_taker way (moved_scopes scopes) ≡ moved_scopes (from_taker way scopes)
from_taker-moved ByImport top is_inner taken = absurd (false≢true (sym is_inner))
from_taker-moved ByVar top is_inner taken = refl
from_taker-moved ByLet top is_inner taken = refl
from_taker-moved ByConst top is_inner taken = refl
from_taker-moved ByFunction top is_inner taken = refl
from_taker-moved ByClass top is_inner taken = refl
from_taker-moved ByDefault top is_inner taken = absurd (false≢true (sym is_inner))
from_taker-moved ByParameter top is_inner taken = absurd (false≢true taken)
from_taker-moved ByCatch top is_inner taken = absurd (false≢true taken)
from_taker-moved ByLoop top is_inner taken = absurd (false≢true taken)
from_taker-moved ByFunctionName top is_inner taken = absurd (false≢true taken)
from_taker-moved ByClassName top is_inner taken = absurd (false≢true taken)
from_taker-moved ByWrapper top is_inner taken = absurd (false≢true taken)
from_taker-moved way (inner {kind} {begins} {outer} positive fair) is_inner taken =
    ap (λ t. cond t (Inner kind (begins + 6) ∷ moved_scopes outer) (from_taker way (moved_scopes outer))) (takes-at way kind (begins + 6) begins)
    ∙ by (takes way (Inner kind begins)) taken (λ further. from_taker-moved way fair is_inner further)
  where
    by : (t : Bool) →
        is_some (nearest (cond t (Inner kind begins ∷ outer) (from_taker way outer))) ≡ true →
        (is_some (nearest (from_taker way outer)) ≡ true → from_taker way (moved_scopes outer) ≡ moved_scopes (from_taker way outer))
        →
        cond t (Inner kind (begins + 6) ∷ moved_scopes outer) (from_taker way (moved_scopes outer))
        ≡
        moved_scopes (cond t (Inner kind begins ∷ outer) (from_taker way outer))
    by true is rest = refl
    by false is rest = rest is

pub from_taker-fair : (way : Way) {scopes : List Scope} → AreFair scopes →
    is_some (nearest (from_taker way scopes)) ≡ true → AreFair (from_taker way scopes)
from_taker-fair way top taken = by (takes way Top) taken
  where
    by : (t : Bool) → is_some (nearest (cond t (Top ∷ []) [])) ≡ true →
        AreFair (cond t (Top ∷ []) [])
    by true is = top
    by false is = absurd (false≢true is)
from_taker-fair way (inner {kind} {begins} {outer} positive fair) taken =
    by (takes way (Inner kind begins)) taken (λ further. from_taker-fair way fair further)
  where
    by : (t : Bool) →
        is_some (nearest (cond t (Inner kind begins ∷ outer) (from_taker way outer))) ≡ true →
        (is_some (nearest (from_taker way outer)) ≡ true → AreFair (from_taker way outer)) →
        AreFair (cond t (Inner kind begins ∷ outer) (from_taker way outer))
    by true is rest = inner positive fair
    by false is rest = rest is

pub nearest-moved : {scopes : List Scope} → AreFair scopes →
    nearest (moved_scopes scopes) ≡ option_map called_scope (nearest scopes)
nearest-moved top = refl
nearest-moved (inner positive fair) = refl

first-moved : {scopes : List Scope} → AreFair scopes →
    unwrap_or (nearest (moved_scopes scopes)) Top ≡ called_scope (unwrap_or (nearest scopes) Top)
first-moved top = refl
first-moved (inner positive fair) = refl

first-fair : {scopes : List Scope} → AreFair scopes → IsFair (unwrap_or (nearest scopes) Top)
first-fair top = tt
first-fair (inner positive fair) = positive

pub taker-moved : (d : Declared) → IsSeated d → taker (called_declared d) ≡ called_scope (taker d)
taker-moved d seated =
    ap (λ l. unwrap_or (nearest l) Top) (from_taker-moved d.by seated.fair seated.way seated.taken)
    ∙ first-moved (from_taker-fair d.by seated.fair seated.taken)

pub taker-fair : (d : Declared) → IsSeated d → IsFair (taker d)
taker-fair d seated = first-fair (from_taker-fair d.by seated.fair seated.taken)

-- Scopes that are the same.

eqb-both : (a b c d : ℕ) → (a ≡ b → c ≡ d) → (c ≡ d → a ≡ b) → (c == d) ≡ (a == b)
eqb-both a b c d on back =
    same_from_decides (c == d) (a == b) (Decides-eqb c d)
    (λ e. on ((Decides-eqb a b).0 e), λ e. (Decides-eqb a b).1 (back e))

pub same-moved : (s t : Scope) → IsFair s → IsFair t →
    same_scope (called_scope s) (called_scope t) ≡ same_scope s t
same-moved Wrapper t fair its = absurd fair
same-moved Top Wrapper fair its = absurd its
same-moved (Inner kind begins) Wrapper fair its = absurd its
same-moved Top Top fair its = refl
same-moved Top (Inner other at) fair its =
    eqb-both 1 (at + 2) 8 (at + 6 + 2) (λ e. omega arith) (λ e. omega arith)
same-moved (Inner kind begins) Top fair its =
    eqb-both (begins + 2) 1 (begins + 6 + 2) 8 (λ e. omega arith) (λ e. omega arith)
same-moved (Inner kind begins) (Inner other at) fair its =
    eqb-both (begins + 2) (at + 2) (begins + 6 + 2) (at + 6 + 2) (λ e. omega arith)
    (λ e. omega arith)

-- a scope that is moved is none of those around the function's body
pub differs : (a b : ℕ) → (a ≡ b → ⊥) → (a == b) ≡ false
differs a b apart = by (a == b) (Decides-eqb a b)
  where
    by : (t : Bool) → Decides t (a ≡ b) → t ≡ false
    by true is = absurd (apart (is.0 refl))
    by false is = refl

-- the scopes of the function around its body
pub data IsOuter : Scope → Type 0 where
  at_parameters : IsOuter (Inner Parameters 5)
  at_name : IsOuter (Inner FunctionName 4)
  at_top : IsOuter Top

pub outer-differs : (s t : Scope) → IsFair s → IsOuter t → same_scope (called_scope s) t ≡ false
outer-differs Wrapper _ fair outer = absurd fair
outer-differs Top _ fair at_parameters = refl
outer-differs Top _ fair at_name = refl
outer-differs Top _ fair at_top = refl
outer-differs (Inner kind begins) _ fair at_parameters =
    differs (begins + 6 + 2) 7 (λ e. omega arith)
outer-differs (Inner kind begins) _ fair at_name = differs (begins + 6 + 2) 6 (λ e. omega arith)
outer-differs (Inner kind begins) _ fair at_top = differs (begins + 6 + 2) 1 (λ e. omega arith)

pub parameters-differ : (s : Scope) → IsFair s →
    same_scope (Inner Parameters 5) (called_scope s) ≡ false
parameters-differ Wrapper fair = absurd fair
parameters-differ Top fair = refl
parameters-differ (Inner kind begins) fair = differs 7 (begins + 6 + 2) (λ e. omega arith)

parameters-moved : (s : Scope) → is_parameters (called_scope s) ≡ is_parameters s
parameters-moved Wrapper = refl
parameters-moved Top = refl
parameters-moved (Inner kind begins) = parameters-at kind (begins + 6) begins

wrapper-moved : (s : Scope) → is_wrapper (called_scope s) ≡ is_wrapper s
wrapper-moved Wrapper = refl
wrapper-moved Top = refl
wrapper-moved (Inner kind begins) = refl

function-moved : (s : Scope) → is_function (called_scope s) ≡ is_function s
function-moved Wrapper = refl
function-moved Top = refl
function-moved (Inner kind begins) = function-at kind (begins + 6) begins

-- The scope to which a name belongs.

is_parameter-moved : (scope : Scope) → IsFair scope → (name : Name) (d : Declared) → IsSeated d →
    is_parameter (called_scope scope) name (called_declared d) ≡ is_parameter scope name d
is_parameter-moved scope fair name d seated =
    ap (λ (t : Scope). (is_parameters t || is_wrapper t) && same_scope t (called_scope scope) && names_agree d.name name) (taker-moved d seated)
    ∙ ap₂ (λ (a : Bool) (b : Bool). (a || b) && same_scope (called_scope (taker d)) (called_scope scope) && names_agree d.name name) (parameters-moved (taker d)) (wrapper-moved (taker d))
    ∙ ap (λ (t : Bool). (is_parameters (taker d) || is_wrapper (taker d)) && t && names_agree d.name name) (same-moved (taker d) scope (taker-fair d seated) fair)

and_false : (a b c : Bool) → b ≡ false → (a && b && c) ≡ false
and_false a b c e = ap (λ t. a && t && c) e ∙ by a c
  where
    by : (a c : Bool) → (a && false && c) ≡ false
    by true true = refl
    by true false = refl
    by false true = refl
    by false false = refl

is_parameter-outer : (scope : Scope) → IsOuter scope → (name : Name) (d : Declared) → IsSeated d →
    is_parameter scope name (called_declared d) ≡ false
is_parameter-outer scope outer name d seated =
    and_false _ _ _
    (ap (λ (t : Scope). same_scope t scope) (taker-moved d seated) ∙ outer-differs (taker d) scope (taker-fair d seated) outer)

-- beside parameters
pub data MaybeFair : Option Scope → Type 0 where
  no_scope : MaybeFair None
  some_scope : {s : Scope} → IsFair s → MaybeFair (Some s)

beside-moved : {all : List Declared} → Every IsSeated all → (d : Declared) → IsSeated d →
    {beside : Option Scope} → MaybeFair beside →
    home_beside (map called_declared all) (called_declared d) (option_map called_scope beside) ≡
    called_scope (home_beside all d beside)
beside-moved seats d seated no_scope = taker-moved d seated
beside-moved {all} seats d seated (some_scope {s} fair) =
    ap₂ (λ (t : Bool) (x : Scope). cond t (called_scope s) x) (any-map (is_parameter (called_scope s) d.name) (is_parameter s d.name) called_declared IsSeated (is_parameter-moved s fair d.name) seats) (taker-moved d seated)
    ∙ by (list_any (is_parameter s d.name) all)
  where
    by : (t : Bool) →
        cond t (called_scope s) (called_scope (taker d)) ≡ called_scope (cond t s (taker d))
    by true = refl
    by false = refl

-- the top has no parameters, and neither has the function
beside-outer : {all : List Declared} → Every IsSeated all → (d : Declared) → IsSeated d →
    home_beside (map called_declared all) (called_declared d) (Some (Inner Parameters 5)) ≡
    called_scope (taker d)
beside-outer seats d seated =
    ap₂ (λ (t : Bool) (x : Scope). cond t (Inner Parameters 5) x)
    (any-none (is_parameter (Inner Parameters 5) d.name) called_declared IsSeated (is_parameter-outer (Inner Parameters 5) at_parameters d.name) seats)
    (taker-moved d seated)

pub nearest-fair : {scopes : List Scope} → AreFair scopes → MaybeFair (nearest scopes)
nearest-fair top = some_scope tt
nearest-fair (inner positive fair) = some_scope positive

beside-taken : {all : List Declared} → Every IsSeated all → (d : Declared) → IsSeated d →
    {scopes : List Scope} → AreFair scopes →
    home_beside (map called_declared all) (called_declared d) (parameters_of (moved_scopes scopes)) ≡
    called_scope (home_beside all d (parameters_of scopes))
beside-taken seats d seated top = beside-outer seats d seated
beside-taken {all} seats d seated (inner {kind = FunctionBody} positive fair) =
    ap (home_beside (map called_declared all) (called_declared d)) (nearest-moved fair)
    ∙ beside-moved seats d seated (nearest-fair fair)
beside-taken seats d seated (inner positive fair) = beside-moved seats d seated no_scope

pub home-moved : {all : List Declared} → Every IsSeated all → (d : Declared) → IsSeated d →
    home_of (map called_declared all) (called_declared d) ≡ called_scope (home_of all d)
home-moved {all} seats d seated =
    ap₂ (λ (h : Scope) (t : Scope). cond (joins_parameter d.by) h t) (ap (λ l. home_beside (map called_declared all) (called_declared d) (parameters_of l)) (from_taker-moved d.by seated.fair seated.way seated.taken) ∙ beside-taken seats d seated (from_taker-fair d.by seated.fair seated.taken)) (taker-moved d seated)
    ∙ by (joins_parameter d.by)
  where
    by : (t : Bool) →
        cond t (called_scope (home_beside all d (parameters_of (from_taker d.by d.scopes))))
        (called_scope (taker d)) ≡
        called_scope
        (cond t (home_beside all d (parameters_of (from_taker d.by d.scopes))) (taker d))
    by true = refl
    by false = refl

beside-fair : (all : List Declared) (d : Declared) → IsSeated d → {beside : Option Scope} →
    MaybeFair beside → IsFair (home_beside all d beside)
beside-fair all d seated no_scope = taker-fair d seated
beside-fair all d seated (some_scope {s} fair) = by (list_any (is_parameter s d.name) all)
  where
    by : (t : Bool) → IsFair (cond t s (taker d))
    by true = fair
    by false = taker-fair d seated

pub parameters-fair : {scopes : List Scope} → AreFair scopes → MaybeFair (parameters_of scopes)
parameters-fair top = no_scope
parameters-fair (inner {kind = FunctionBody} positive fair) = nearest-fair fair
parameters-fair (inner positive fair) = no_scope

pub home-fair : (all : List Declared) (d : Declared) → IsSeated d → IsFair (home_of all d)
home-fair all d seated = by (joins_parameter d.by)
  where
    by : (t : Bool) →
        IsFair (cond t (home_beside all d (parameters_of (from_taker d.by d.scopes))) (taker d))
    by true =
        beside-fair all d seated (parameters-fair (from_taker-fair d.by seated.fair seated.taken))
    by false = taker-fair d seated

-- What a scope binds.

is_declared_in-moved : {all : List Declared} → Every IsSeated all → (s : Scope) → IsFair s →
    (name : Name) (d : Declared) → IsSeated d →
    is_declared_in (map called_declared all) (called_scope s) name (called_declared d) ≡
    is_declared_in all s name d
is_declared_in-moved {all} seats s fair name d seated =
    ap (λ (t : Scope). same_scope t (called_scope s) && names_agree d.name name) (home-moved seats d seated)
    ∙ ap (λ (t : Bool). t && names_agree d.name name) (same-moved (home_of all d) s (home-fair all d seated) fair)

is_declared_in-outer : {all : List Declared} → Every IsSeated all → (s : Scope) → IsOuter s →
    (name : Name) (d : Declared) → IsSeated d →
    is_declared_in (map called_declared all) s name (called_declared d) ≡ false
is_declared_in-outer {all} seats s outer name d seated =
    ap (λ (t : Scope). same_scope t s && names_agree d.name name) (home-moved seats d seated)
    ∙ ap (λ (t : Bool). t && names_agree d.name name) (outer-differs (home_of all d) s (home-fair all d seated) outer)

declares-moved : {all : List Declared} → Every IsSeated all → (s : Scope) → IsFair s →
    (name : Name) → declares (map called_declared all) (called_scope s) name ≡ declares all s name
declares-moved {all} seats s fair name =
    any-map (is_declared_in (map called_declared all) (called_scope s) name)
    (is_declared_in all s name) called_declared IsSeated (is_declared_in-moved seats s fair name)
    seats

pub declares-outer : {all : List Declared} → Every IsSeated all → (s : Scope) → IsOuter s →
    (name : Name) → declares (map called_declared all) s name ≡ false
declares-outer {all} seats s outer name =
    any-none (is_declared_in (map called_declared all) s name) called_declared IsSeated
    (is_declared_in-outer seats s outer name) seats

pub written-moved : {all : List Declared} → Every IsSeated all → (s : Scope) → IsFair s →
    (name : Name) →
    is_written_in (map called_declared all) (called_scope s) name ≡ is_written_in all s name
written-moved {all} seats s fair name =
    any-map
    (λ d. has_identifier d && is_declared_in (map called_declared all) (called_scope s) name d)
    (λ d. has_identifier d && is_declared_in all s name d) called_declared IsSeated
    (λ d seated. ap (λ t. has_identifier d && t) (is_declared_in-moved seats s fair name d seated))
    seats

pub written-outer : {all : List Declared} → Every IsSeated all → (s : Scope) → IsOuter s →
    (name : Name) → is_written_in (map called_declared all) s name ≡ false
written-outer {all} seats s outer name =
    any-none (λ d. has_identifier d && is_declared_in (map called_declared all) s name d)
    called_declared IsSeated
    (λ d seated. ap (λ t. has_identifier d && t) (is_declared_in-outer seats s outer name d seated) ∙ and_no (has_identifier d))
    seats
  where
    and_no : (t : Bool) → (t && false) ≡ false
    and_no true = refl
    and_no false = refl

pub binds-moved : {all : List Declared} → Every IsSeated all → (s : Scope) → IsFair s →
    (name : Name) → binds (map called_declared all) (called_scope s) name ≡ binds all s name
binds-moved {all} seats s fair name =
    ap₂ (λ (a : Bool) (b : Bool). a || (is_arguments name.sym && (is_function (called_scope s) && not b))) (declares-moved seats s fair name) (declares-moved seats s fair (record { sym = codes "arguments"; ctxt = None }))
    ∙ ap (λ t. declares all s name || (is_arguments name.sym && (t && not (declares all s (record { sym = codes "arguments"; ctxt = None }))))) (function-moved s)

pub implied-moved : {all : List Declared} → Every IsSeated all → (s : Scope) → IsFair s →
    (name : Name) →
    is_implied_in (map called_declared all) (called_scope s) name ≡ is_implied_in all s name
implied-moved {all} seats s fair name =
    ap₂ (λ (a : Bool) (b : Bool). (a && not b) || (is_arguments name.sym && is_function (called_scope s))) (declares-moved seats s fair (without_context name)) (written-moved seats s fair (without_context name))
    ∙ ap (λ t. (declares all s (without_context name) && not (is_written_in all s (without_context name))) || (is_arguments name.sym && t)) (function-moved s)

-- the scopes around the body bind nothing but, in the function's own, `arguments`
binds-outer : {all : List Declared} → Every IsSeated all → (s : Scope) → IsOuter s → (name : Name) →
    is_arguments name.sym ≡ false → binds (map called_declared all) s name ≡ false
binds-outer {all} seats s outer name other =
    ap₂ (λ (a : Bool) (b : Bool). a || (b && has_implicit_arguments (map called_declared all) s))
    (declares-outer seats s outer name) other

implied-outer : {all : List Declared} → Every IsSeated all → (s : Scope) → IsOuter s →
    (name : Name) → is_arguments name.sym ≡ false →
    is_implied_in (map called_declared all) s name ≡ false
implied-outer {all} seats s outer name other =
    ap₂
    (λ (a : Bool) (b : Bool). (a && not (is_written_in (map called_declared all) s (without_context name))) || (b && is_function s))
    (declares-outer seats s outer (without_context name)) other

-- The nearest scope that binds a name.

pub find-there : (p q : Scope → Bool) → ((s : Scope) → IsFair s → p (called_scope s) ≡ q s) →
    {scopes : List Scope} → AreFair scopes → (s : Scope) → find q scopes ≡ Some s →
    find p (moved_scopes scopes) ≡ Some (called_scope s)
find-there p q same top s e =
    ap
    (λ (t : Bool). cond t (Some (Inner FunctionBody 6)) (cond (p (Inner Parameters 5)) (Some (Inner Parameters 5)) (cond (p (Inner FunctionName 4)) (Some (Inner FunctionName 4)) (cond (p Top) (Some Top) None))))
    (same Top tt) ∙ by (q Top) e
  where
    by : (t : Bool) → ◌≡◌ {A = Option Scope} (cond t (Some Top) None) (Some s) →
        cond t (Some (Inner FunctionBody 6))
        (cond (p (Inner Parameters 5)) (Some (Inner Parameters 5)) (cond (p (Inner FunctionName 4)) (Some (Inner FunctionName 4)) (cond (p Top) (Some Top) None)))
        ≡
        Some (called_scope s)
    by true is = ap (option_map called_scope) is
    by false is = absurd (none-some s is)
find-there p q same (inner {kind} {begins} {outer} positive fair) s e =
    ap (λ (t : Bool). cond t (Some (Inner kind (begins + 6))) (find p (moved_scopes outer)))
    (same (Inner kind begins) positive)
    ∙ by (q (Inner kind begins)) e (λ further. find-there p q same fair s further)
  where
    by : (t : Bool) → cond t (Some (Inner kind begins)) (find q outer) ≡ Some s →
        (find q outer ≡ Some s → find p (moved_scopes outer) ≡ Some (called_scope s)) →
        cond t (Some (Inner kind (begins + 6))) (find p (moved_scopes outer)) ≡ Some (called_scope s)
    by true is rest = ap (option_map called_scope) is
    by false is rest = rest is

find-nowhere : (p q : Scope → Bool) → ((s : Scope) → IsFair s → p (called_scope s) ≡ q s) →
    ((s : Scope) → IsOuter s → p s ≡ false) → {scopes : List Scope} → AreFair scopes →
    find q scopes ≡ None → find p (moved_scopes scopes) ≡ None
find-nowhere p q same outside top e =
    ap₂ (λ (t : Bool) (u : Bool). cond t (Some (Inner FunctionBody 6)) (cond u (Some (Inner Parameters 5)) (cond (p (Inner FunctionName 4)) (Some (Inner FunctionName 4)) (cond (p Top) (Some Top) None)))) (same Top tt) (outside (Inner Parameters 5) at_parameters)
    ∙ ap₂ (λ (t : Bool) (u : Bool). cond (q Top) (Some (Inner FunctionBody 6)) (cond t (Some (Inner FunctionName 4)) (cond u (Some Top) None))) (outside (Inner FunctionName 4) at_name) (outside Top at_top)
    ∙ by (q Top) e
  where
    by : (t : Bool) → ◌≡◌ {A = Option Scope} (cond t (Some Top) None) None →
        ◌≡◌ {A = Option Scope} (cond t (Some (Inner FunctionBody 6)) None) None
    by true is = absurd (none-some Top (sym is))
    by false is = refl
find-nowhere p q same outside (inner {kind} {begins} {outer} positive fair) e =
    ap (λ (t : Bool). cond t (Some (Inner kind (begins + 6))) (find p (moved_scopes outer)))
    (same (Inner kind begins) positive)
    ∙ by (q (Inner kind begins)) e (λ further. find-nowhere p q same outside fair further)
  where
    by : (t : Bool) → cond t (Some (Inner kind begins)) (find q outer) ≡ None →
        (find q outer ≡ None → find p (moved_scopes outer) ≡ None) →
        cond t (Some (Inner kind (begins + 6))) (find p (moved_scopes outer)) ≡ None
    by true is rest = absurd (none-some (Inner kind begins) (sym is))
    by false is rest = rest is

-- What names denote.

-- a global that is not `arguments`
not_arguments : (x : List ℕ) → (Global x ≡ Global (codes "arguments") → ⊥) → is_arguments x ≡ false
not_arguments x apart = by (is_arguments x) (bytes_eq-Decides x (codes "arguments"))
  where
    by : (t : Bool) → Decides t (x ≡ codes "arguments") → t ≡ false
    by true is = absurd (apart (ap Global (is.0 refl)))
    by false is = refl

by_symbol-moved : {all : List Declared} → Every IsSeated all → {scopes : List Scope} →
    AreFair scopes → (name : Name) →
    (denoted_by_symbol all scopes name ≡ Global (codes "arguments") → ⊥) →
    denoted_by_symbol (map called_declared all) (moved_scopes scopes) name ≡
    called_denoted (denoted_by_symbol all scopes name)
by_symbol-moved {all} seats {scopes} fair name apart =
    by (find (λ scope. binds all scope name) scopes) refl
  where
    new : Scope → Bool
    new scope = binds (map called_declared all) scope name

    by : (o : Option Scope) → find (λ scope. binds all scope name) scopes ≡ o →
        denoted_by_symbol (map called_declared all) (moved_scopes scopes) name ≡
        called_denoted (denoted_by_symbol all scopes name)
    by None e =
        let other : is_arguments name.sym ≡ false = not_arguments name.sym (λ is. apart (ap (bound_in name) e ∙ is)) in
        ap (bound_in name) (find-nowhere (λ scope. binds (map called_declared all) scope name) (λ scope. binds all scope name) (λ s f. binds-moved seats s f name) (λ s o. binds-outer seats s o name other) fair e)
        ∙ sym (ap (λ o. called_denoted (bound_in name o)) e)
    by (Some s) e =
        ap (bound_in name) (find-there (λ scope. binds (map called_declared all) scope name) (λ scope. binds all scope name) (λ s f. binds-moved seats s f name) fair s e)
        ∙ sym (ap (λ o. called_denoted (bound_in name o)) e)

implied_at-moved : {all : List Declared} → Every IsSeated all → {scopes : List Scope} →
    AreFair scopes → (name : Name) → (implied all scopes name ≡ Global (codes "arguments") → ⊥) →
    implied (map called_declared all) (moved_scopes scopes) name ≡
    called_denoted (implied all scopes name)
implied_at-moved {all} seats {scopes} fair name apart = unresolved (is_unresolved name.ctxt) refl
  where
    found : Option Scope → Denoted
    found o = bound_in (without_context name) o

    resolved :
        (implied all scopes name ≡ bound_in (without_context name) (find (λ scope. is_implied_in all scope name) scopes))
        →
        (o : Option Scope) → find (λ scope. is_implied_in all scope name) scopes ≡ o →
        bound_in (without_context name)
        (find (λ scope. is_implied_in (map called_declared all) scope name) (moved_scopes scopes))
        ≡
        called_denoted
        (bound_in (without_context name) (find (λ scope. is_implied_in all scope name) scopes))
    resolved is None e =
        let other : is_arguments name.sym ≡ false = not_arguments name.sym (λ global. apart (is ∙ ap (bound_in (without_context name)) e ∙ global)) in
        ap (bound_in (without_context name)) (find-nowhere (λ scope. is_implied_in (map called_declared all) scope name) (λ scope. is_implied_in all scope name) (λ s f. implied-moved seats s f name) (λ s o. implied-outer seats s o name other) fair e)
        ∙ sym (ap (λ o. called_denoted (bound_in (without_context name) o)) e)
    resolved is (Some s) e =
        ap (bound_in (without_context name)) (find-there (λ scope. is_implied_in (map called_declared all) scope name) (λ scope. is_implied_in all scope name) (λ s f. implied-moved seats s f name) fair s e)
        ∙ sym (ap (λ o. called_denoted (bound_in (without_context name) o)) e)

    unresolved : (t : Bool) → is_unresolved name.ctxt ≡ t →
        implied (map called_declared all) (moved_scopes scopes) name ≡
        called_denoted (implied all scopes name)
    unresolved true e =
        ap
        (λ t. cond t (Global name.sym) (bound_in (without_context name) (find (λ scope. is_implied_in (map called_declared all) scope name) (moved_scopes scopes))))
        e ∙ sym
        (ap (λ t. called_denoted (cond t (Global name.sym) (bound_in (without_context name) (find (λ scope. is_implied_in all scope name) scopes)))) e)
    unresolved false e =
        ap (λ t. cond t (Global name.sym) (bound_in (without_context name) (find (λ scope. is_implied_in (map called_declared all) scope name) (moved_scopes scopes)))) e
        ∙ resolved (ap (λ t. cond t (Global name.sym) (bound_in (without_context name) (find (λ scope. is_implied_in all scope name) scopes))) e) (find (λ scope. is_implied_in all scope name) scopes) refl
        ∙ sym (ap (λ t. called_denoted (cond t (Global name.sym) (bound_in (without_context name) (find (λ scope. is_implied_in all scope name) scopes)))) e)

by_context-moved : {all : List Declared} → Every IsSeated all → {scopes : List Scope} →
    AreFair scopes → (name : Name) →
    (denoted_by_context all scopes name ≡ Global (codes "arguments") → ⊥) →
    denoted_by_context (map called_declared all) (moved_scopes scopes) name ≡
    called_denoted (denoted_by_context all scopes name)
by_context-moved {all} seats {scopes} fair name apart =
    by (find (λ scope. is_written_in all scope name) scopes) refl
  where
    by : (o : Option Scope) → find (λ scope. is_written_in all scope name) scopes ≡ o →
        denoted_by_context (map called_declared all) (moved_scopes scopes) name ≡
        called_denoted (denoted_by_context all scopes name)
    by None e =
        ap (written_or_implied (map called_declared all) (moved_scopes scopes) name) (find-nowhere (λ scope. is_written_in (map called_declared all) scope name) (λ scope. is_written_in all scope name) (λ s f. written-moved seats s f name) (λ s o. written-outer seats s o name) fair e)
        ∙ implied_at-moved seats fair name (λ is. apart (ap (written_or_implied all scopes name) e ∙ is))
        ∙ sym (ap (λ o. called_denoted (written_or_implied all scopes name o)) e)
    by (Some s) e =
        ap (written_or_implied (map called_declared all) (moved_scopes scopes) name) (find-there (λ scope. is_written_in (map called_declared all) scope name) (λ scope. is_written_in all scope name) (λ s f. written-moved seats s f name) fair s e)
        ∙ sym (ap (λ o. called_denoted (written_or_implied all scopes name o)) e)

-- what a name denotes, but for a free `arguments`
pub denoted_in-moved : (reading : Reading) {all : List Declared} → Every IsSeated all →
    {scopes : List Scope} → AreFair scopes → (name : Name) →
    (denoted_in reading all scopes name ≡ Global (codes "arguments") → ⊥) →
    denoted_in reading (map called_declared all) (moved_scopes scopes) name ≡
    called_denoted (denoted_in reading all scopes name)
denoted_in-moved BySymbol seats fair name apart = by_symbol-moved seats fair name apart
denoted_in-moved ByContext seats fair name apart = by_context-moved seats fair name apart
