-- Nothing of the linker's own comes into the call.
-- What is declared once in the module is declared once in the function.
use Rattle.std.proofs.Common.{◌≡◌, zero, Bool, true, false, List, [], ◌∷◌, ◌++◌, None, map, bytes_eq, refl, ap, ap₂, sym, ◌∙◌, subst, codes, ℕ, ◌+◌, ◌<◌, cond, not, ◌&&◌, ◌||◌, Some, find, unwrap_or, arith}
use Rattle.std.specs.Prelude.{if◌then◌else◌, flat_map, ◌==◌, nat_lt, take_while}
use Rattle.std.specs.Cmp.Lexicographic.{slice_cmp}
use Rattle.std.specs.Ordering.{nat_cmp}
use Rattle.std.specs.List.{list_any}
use Rattle.std.proofs.lemmas.Bool.{false≢true, and_parts, and_from}
use Rattle.std.proofs.lemmas.Bool.Decides.{same_from_decides, Decides-eqb, Decides-ltb}
use Rattle.std.proofs.lemmas.Option.{none-some}
use Rattle.std.proofs.lemmas.List.Sums.{take_while-cons}
use Rattle.bundle_syntax.specs.Item as h
use Rattle.bundle_syntax.specs.Item.{Item}
use Rattle.bundle_syntax.specs.declared.piece.Role.TheVariants as r
use Rattle.bundle_rules.specs.Declarations.{Reading, Way, ByImport, ByVar, ByLet, ByConst, ByFunction, ByClass, ByDefault, ByLoop, BySymbol, names_agree, Declared, declared}
use Rattle.bundle_rules.specs.Nodes.{Text}
use Rattle.bundle_rules.specs.Idents.{Ident}
use Rattle.bundle_rules.specs.Cleared.{cleared_item, cleared, tidy_item, tidied}
use Rattle.bundle_rules.specs.Injected.{is_ascii_identifier}
use Rattle.bundle_rules.specs.Rebuilds.{plain_key}
use Rattle.bundle_rules.specs.Forms.{is_less, put_by_name, by_names, exported_pairs, returned_key, returned_property, wrapped}
use Rattle.bundle_rules.specs.Bundle.{function_front, function_back}
use Rattle.bundle_rules.specs.Callable.{Every, none, more, AreStatements, module_with, Specifier, specifier_items, export_items, IsBack, nothing, exports, CanBeCalled, IsTaken}
use Rattle.bundle_rules.specs.Scopes.{Es, Scope, ScopeKind, Inner, Parameters, FunctionBody, StaticBody, CatchBlock, same_scope}
use Rattle.bundle_rules.specs.Homes.{takes, taker, from_taker, nearest, group_of}
use Rattle.bundle_rules.specs.Doubled.{may_double_functions, stands_once, is_lexical, stands_beside, is_var, passes_scope_of, excludes, clash, is_doubled, first_doubled}
use Rattle.bundle_merge_theory.proofs.grouped.FormLemmas.{takes-alike as takes-at}
use Rattle.bundle_merge_theory.specs.called.Called.{call_with, AreTwins}
use Rattle.bundle_merge_theory.proofs.called.Sides.{every-front, body-plain, body-exports}
use Rattle.bundle_merge_theory.proofs.called.Plain.{every-join}
use Rattle.bundle_merge_theory.proofs.called.Exported.{pair_of, pairs-of}
use Rattle.bundle_merge_theory.proofs.called.Theorem.{its_of, is_async_of, wrapped-is, twins-of}
use Rattle.bundle_merge_theory.proofs.called.Means.{every-rest}
use Rattle.bundle_merge_theory.specs.called.Moved.{called_scope, moved_scopes, called_declared, AreFair, top, inner, IsFair, IsSeated}
use Rattle.bundle_merge_theory.proofs.called.Homes.{from_taker-moved, from_taker-fair, taker-moved, taker-fair, same-moved, at_parameters, outer-differs}
use Rattle.bundle_merge_theory.proofs.called.Lists.{declared-twins, seats-twins}

-- ---- cleaned

-- an element that a map leaves as it is
abbrev pub IsLeft : (Item → Item) → Item → Type 0
IsLeft f x = x ≡ f x

each-cleared : (xs : List Item) → xs ≡ cleared xs → Every (IsLeft cleared_item) xs
each-cleared [] e = none
each-cleared (x ∷ xs) e = let here : x ≡ cleared_item x = cc in let later : xs ≡ cleared xs = cc in more here (each-cleared xs later)

all-cleared : {xs : List Item} → Every (IsLeft cleared_item) xs → xs ≡ cleared xs
all-cleared none = refl
all-cleared (more here later) = ap₂ (λ (x : Item) (xs : List Item). x ∷ xs) here (all-cleared later)

each-tidied : (xs : List Item) → xs ≡ tidied xs → Every (IsLeft tidy_item) xs
each-tidied [] e = none
each-tidied (x ∷ xs) e = let here : x ≡ tidy_item x = cc in let later : xs ≡ tidied xs = cc in more here (each-tidied xs later)

all-tidied : {xs : List Item} → Every (IsLeft tidy_item) xs → xs ≡ tidied xs
all-tidied none = refl
all-tidied (more here later) = ap₂ (λ (x : Item) (xs : List Item). x ∷ xs) here (all-tidied later)

-- What is added is left as it is by a map that changes no such element.

-- a map that leaves what is added
record Leaves (f : Item → Item) : Type 0 where
  front : (is_async : Bool) → Every (IsLeft f) (function_front is_async)
  close : IsLeft f h.Close
  key : (x : Text) → Every (IsLeft f) (returned_key x)
  pair : IsLeft f (h.Open 0 h.KeyValueProp)
  object : IsLeft f (h.Open 0 h.ObjectLit)
  returns : IsLeft f (h.Open 0 h.ReturnStmt)

-- a pair whose identifier it leaves
abbrev LeavesPair : (Item → Item) → Text × Ident → Type 0
LeavesPair f pair = IsLeft f (h.Ident 1 pair.1.0 pair.1.1 r.Reference)

properties-left : (f : Item → Item) → Leaves f → {pairs : List (Text × Ident)} →
    Every (LeavesPair f) pairs → Every (IsLeft f) (flat_map returned_property pairs)
properties-left f leaves none = none
properties-left f leaves (more {x = pair} here later) =
    every-join
    (more leaves.pair (every-join (leaves.key pair.0) (more here (more leaves.close none))))
    (properties-left f leaves later)

call-left : (f : Item → Item) → Leaves f → (is_async : Bool) {stmts : List Item} →
    Every (IsLeft f) stmts → {pairs : List (Text × Ident)} → Every (LeavesPair f) pairs →
    Every (IsLeft f) (call_with is_async stmts (its_of pairs))
call-left f leaves is_async stmts pairs =
    every-join (leaves.front is_async) (every-join stmts (every-join (more leaves.returns (more leaves.object (every-join (properties-left f leaves pairs) (more leaves.close (more leaves.close none))))) closes))
  where
    closes : Every (IsLeft f) function_back
    closes =
        more leaves.close
        (more leaves.close (more leaves.close (more leaves.close (more leaves.close (more leaves.close (more leaves.close none))))))

cleared-leaves : Leaves cleared_item
cleared-leaves = record {
  front = λ is_async. more refl (more refl (more refl (more refl (more refl (more refl (more refl none))))));
  close = refl;
  key = key;
  pair = refl;
  object = refl;
  returns = refl;
}
  where
    key : (x : Text) → Every (IsLeft cleared_item) (returned_key x)
    key x = by (bytes_eq x (codes "__proto__")) (is_ascii_identifier x)
      where
        by : (t u : Bool) →
            Every (IsLeft cleared_item)
            (if t then h.Open 0 h.ComputedPropName ∷ h.Open 0 (h.Str x None) ∷ h.Close ∷ h.Close ∷ [] else (if u then plain_key x else h.Open 0 (h.Str x None) ∷ h.Close ∷ []))
        by true u = more refl (more refl (more refl (more refl none)))
        by false true = more refl (more refl none)
        by false false = more refl (more refl none)

tidy-leaves : Leaves tidy_item
tidy-leaves = record {
  front = λ is_async. more refl (more refl (more refl (more refl (more refl (more refl (more refl none))))));
  close = refl;
  key = key;
  pair = refl;
  object = refl;
  returns = refl;
}
  where
    key : (x : Text) → Every (IsLeft tidy_item) (returned_key x)
    key x = by (bytes_eq x (codes "__proto__")) (is_ascii_identifier x)
      where
        by : (t u : Bool) →
            Every (IsLeft tidy_item)
            (if t then h.Open 0 h.ComputedPropName ∷ h.Open 0 (h.Str x None) ∷ h.Close ∷ h.Close ∷ [] else (if u then plain_key x else h.Open 0 (h.Str x None) ∷ h.Close ∷ []))
        by true u = more refl (more refl (more refl (more refl none)))
        by false true = more refl (more refl none)
        by false false = more refl (more refl none)

-- The pairs of the list.

every-put : {P : Text × Ident → Type 0} (pair : Text × Ident) {pairs : List (Text × Ident)} →
    P pair → Every P pairs → Every P (put_by_name pair pairs)
every-put pair here none = more here none
every-put {P = P} pair here (more {x = other} {xs = rest} its later) =
    by (is_less (slice_cmp nat_cmp other.0 pair.0)) (every-put pair here later)
  where
    by : (t : Bool) → Every P (put_by_name pair rest) →
        Every P (if t then other ∷ put_by_name pair rest else pair ∷ other ∷ rest)
    by true put = more its put
    by false put = more here (more its later)

every-sorted : {P : Text × Ident → Type 0} {pairs : List (Text × Ident)} → Every P pairs →
    Every P (by_names pairs)
every-sorted none = none
every-sorted (more {x = pair} here later) = every-put pair here (every-sorted later)

-- the identifiers of a list of exports that is cleared have the context 0
specifiers-cleared : (specifiers : List Specifier) (post : List Item) →
    Every (IsLeft cleared_item) (flat_map specifier_items specifiers ++ post) →
    Every (LeavesPair cleared_item) (map pair_of specifiers)
specifiers-cleared [] post each = none
specifiers-cleared (it ∷ specifiers) post each =
    let here = every-front (flat_map specifier_items (it ∷ specifiers)) post each in
    let own = every-front (specifier_items it) (flat_map specifier_items specifiers) here in
    let rest = every-rest (specifier_items it) (flat_map specifier_items specifiers) here in
    more (local it own) (specifiers-cleared specifiers [] (every-join rest none))
  where
    second : {P : Item → Type 0} {x y : Item} {xs : List Item} → Every P (x ∷ y ∷ xs) → P y
    second (more first (more here later)) = here

    local : (it : Specifier) → Every (IsLeft cleared_item) (specifier_items it) →
        LeavesPair cleared_item (pair_of it)
    local it own = let e : h.Ident 0 it.sym it.ctxt r.Reference ≡ h.Ident 0 it.sym 0 r.Reference = second own in let c : it.ctxt ≡ 0 = cc in ap (λ k. h.Ident 1 it.sym k r.Reference) c

every-always : {A : Type 0} {P : A → Type 0} → ((x : A) → P x) → (xs : List A) → Every P xs
every-always each [] = none
every-always each (x ∷ xs) = more (each x) (every-always each xs)

-- The call.

cleared-by : (stmts : List Item) {back : List Item} → IsBack back → AreStatements zero stmts →
    module_with stmts (back ++ h.Close ∷ []) ≡ cleared (module_with stmts (back ++ h.Close ∷ [])) →
    wrapped (module_with stmts (back ++ h.Close ∷ [])) ≡
    cleared (wrapped (module_with stmts (back ++ h.Close ∷ [])))
cleared-by stmts nothing statements e =
    let each = every-rest (h.Open 0 h.Module ∷ []) (stmts ++ h.Close ∷ []) (each-cleared (module_with stmts (h.Close ∷ [])) e) in
    let is = wrapped-is (module_with stmts (h.Close ∷ [])) stmts [] (body-plain statements) in
    is ∙ all-cleared (call-left cleared_item cleared-leaves (is_async_of stmts []) (every-front stmts (h.Close ∷ []) each) none) ∙ sym (ap cleared is)
cleared-by stmts (exports meta specifiers) statements e =
    let each = every-rest (h.Open 0 h.Module ∷ []) (stmts ++ (export_items meta specifiers ++ h.Close ∷ [])) (each-cleared (module_with stmts (export_items meta specifiers ++ h.Close ∷ [])) e) in
    let list = every-front (export_items meta specifiers) (h.Close ∷ []) (every-rest stmts (export_items meta specifiers ++ h.Close ∷ []) each) in
    let pairs = specifiers-cleared specifiers (h.Close ∷ []) (every-rest (h.Open 0 (h.NamedExport meta) ∷ []) (flat_map specifier_items specifiers ++ h.Close ∷ []) list) in
    let is = wrapped-is (module_with stmts (export_items meta specifiers ++ h.Close ∷ [])) stmts (exported_pairs (export_items meta specifiers)) (body-exports statements meta specifiers) in
    is ∙ all-cleared (call-left cleared_item cleared-leaves (is_async_of stmts (exported_pairs (export_items meta specifiers))) (every-front stmts (export_items meta specifiers ++ h.Close ∷ []) each) (subst (Every (LeavesPair cleared_item)) (sym (pairs-of meta specifiers)) (every-sorted pairs))) ∙ sym (ap cleared is)

tidied-by : (stmts : List Item) {back : List Item} → IsBack back → AreStatements zero stmts →
    module_with stmts (back ++ h.Close ∷ []) ≡ tidied (module_with stmts (back ++ h.Close ∷ [])) →
    wrapped (module_with stmts (back ++ h.Close ∷ [])) ≡
    tidied (wrapped (module_with stmts (back ++ h.Close ∷ [])))
tidied-by stmts nothing statements e =
    let each = every-rest (h.Open 0 h.Module ∷ []) (stmts ++ h.Close ∷ []) (each-tidied (module_with stmts (h.Close ∷ [])) e) in
    let is = wrapped-is (module_with stmts (h.Close ∷ [])) stmts [] (body-plain statements) in
    is ∙ all-tidied (call-left tidy_item tidy-leaves (is_async_of stmts []) (every-front stmts (h.Close ∷ []) each) none) ∙ sym (ap tidied is)
tidied-by stmts (exports meta specifiers) statements e =
    let each = every-rest (h.Open 0 h.Module ∷ []) (stmts ++ (export_items meta specifiers ++ h.Close ∷ [])) (each-tidied (module_with stmts (export_items meta specifiers ++ h.Close ∷ [])) e) in
    let is = wrapped-is (module_with stmts (export_items meta specifiers ++ h.Close ∷ [])) stmts (exported_pairs (export_items meta specifiers)) (body-exports statements meta specifiers) in
    is ∙ all-tidied (call-left tidy_item tidy-leaves (is_async_of stmts (exported_pairs (export_items meta specifiers))) (every-front stmts (export_items meta specifiers ++ h.Close ∷ []) each) (every-always (λ pair. refl) (exported_pairs (export_items meta specifiers)))) ∙ sym (ap tidied is)

-- with no contexts and no notes, and with contexts but no notes
pub wrapped-cleared : (reading : Reading) (tree : List Item) → CanBeCalled reading tree →
    tree ≡ cleared tree → wrapped tree ≡ cleared (wrapped tree)
wrapped-cleared reading tree can e =
    ap wrapped can.is
    ∙ cleared-by can.stmts can.ends can.statements (sym can.is ∙ e ∙ ap cleared can.is)
    ∙ sym (ap (λ t. cleared (wrapped t)) can.is)

pub wrapped-tidied : (reading : Reading) (tree : List Item) → CanBeCalled reading tree →
    tree ≡ tidied tree → wrapped tree ≡ tidied (wrapped tree)
wrapped-tidied reading tree can e =
    ap wrapped can.is
    ∙ tidied-by can.stmts can.ends can.statements (sym can.is ∙ e ∙ ap tidied can.is)
    ∙ sym (ap (λ t. tidied (wrapped t)) can.is)

-- ---- undoubled

-- Tests that pass less often.

any-less : {A B : Type 0} (p : B → Bool) (q : A → Bool) (f : A → B) {P : A → Type 0} →
    ((x : A) → P x → p (f x) ≡ true → q x ≡ true) → {xs : List A} → Every P xs →
    list_any p (map f xs) ≡ true → list_any q xs ≡ true
any-less p q f on none e = absurd (false≢true e)
any-less p q f on (more {x} {xs} here later) e =
    by (p (f x)) (on x here) (any-less p q f on later) e
  where
    or_true : (t : Bool) → (t || true) ≡ true
    or_true true = refl
    or_true false = refl

    by : (t : Bool) → (t ≡ true → q x ≡ true) →
        (list_any p (map f xs) ≡ true → list_any q xs ≡ true) →
        (t || list_any p (map f xs)) ≡ true → (q x || list_any q xs) ≡ true
    by true first rest is = ap (λ t. t || list_any q xs) (first refl)
    by false first rest is = ap (λ t. q x || t) (rest is) ∙ or_true (q x)

or-less : (a b c d : Bool) → (a ≡ true → c ≡ true) → (b ≡ true → d ≡ true) → (a || b) ≡ true →
    (c || d) ≡ true
or-less true b c d first second e = ap (λ t. t || d) (first refl)
or-less false b true d first second e = refl
or-less false b false d first second e = second e

and-less : (a b c d : Bool) → (a ≡ true → c ≡ true) → (b ≡ true → d ≡ true) → (a && b) ≡ true →
    (c && d) ≡ true
and-less a b c d first second e = let parts = and_parts a b e in and_from c d (first parts.0) (second parts.1)

-- Lexical declarations.

double-at : (kind : ScopeKind) (a c : ℕ) (xs ys : List Scope) →
    may_double_functions (Inner kind a ∷ xs) ≡ may_double_functions (Inner kind c ∷ ys)
double-at FunctionBody a c xs ys = refl
double-at StaticBody a c xs ys = refl
double-at _ a c xs ys = refl

once-at : (way : Way) (kind : ScopeKind) (a c : ℕ) (xs ys : List Scope) →
    stands_once way (Inner kind a ∷ xs) ≡ stands_once way (Inner kind c ∷ ys)
once-at ByFunction kind a c xs ys = ap not (double-at kind a c xs ys)
once-at _ kind a c xs ys = refl

once-less : (way : Way) {scopes : List Scope} → AreFair scopes →
    stands_once way (moved_scopes scopes) ≡ true → stands_once way scopes ≡ true
once-less ByFunction top e = absurd (false≢true e)
once-less ByImport top e = e
once-less ByLet top e = e
once-less ByConst top e = e
once-less ByClass top e = e
once-less ByDefault top e = e
once-less ByLoop top e = e
once-less _ top e = absurd (false≢true e)
once-less way (inner {kind} {begins} {outer} positive fair) e =
    once-at way kind begins (begins + 6) outer (moved_scopes outer) ∙ e

lexical-less : (d : Declared) → IsSeated d → is_lexical (called_declared d) ≡ true →
    is_lexical d ≡ true
lexical-less d seated e =
    once-less d.by (from_taker-fair d.by seated.fair seated.taken)
    (sym (ap (stands_once d.by) (from_taker-moved d.by seated.fair seated.way seated.taken)) ∙ e)

-- Groups.

first-moved : (kind : ScopeKind) (begins : ℕ) {outer : List Scope} → AreFair outer →
    unwrap_or (nearest (moved_scopes outer)) (Inner kind (begins + 6)) ≡
    called_scope (unwrap_or (nearest outer) (Inner kind begins))
first-moved kind begins top = refl
first-moved kind begins (inner positive fair) = refl

first-fair : (kind : ScopeKind) (begins : ℕ) → {outer : List Scope} → AreFair outer →
    IsFair (unwrap_or (nearest outer) (Inner kind begins))
first-fair kind begins top = tt
first-fair kind begins (inner positive fair) = positive

beside-less : (b : Declared) → IsSeated b → {scopes : List Scope} → AreFair scopes →
    same_scope (taker (called_declared b)) (group_of (moved_scopes scopes)) ≡ true →
    same_scope (taker b) (group_of scopes) ≡ true
beside-less b seated top e =
    absurd
    (false≢true (sym (ap (λ (t : Scope). same_scope t (Inner Parameters 5)) (taker-moved b seated) ∙ outer-differs (taker b) (Inner Parameters 5) (taker-fair b seated) at_parameters) ∙ e))
beside-less b seated (inner {kind = CatchBlock} {begins} {outer} positive fair) e =
    sym (ap₂ same_scope (taker-moved b seated) (first-moved CatchBlock begins fair) ∙ same-moved (taker b) (unwrap_or (nearest outer) (Inner CatchBlock begins)) (taker-fair b seated) (first-fair CatchBlock begins fair)) ∙ e
beside-less b seated (inner {kind = FunctionBody} {begins} {outer} positive fair) e =
    sym (ap₂ same_scope (taker-moved b seated) (first-moved FunctionBody begins fair) ∙ same-moved (taker b) (unwrap_or (nearest outer) (Inner FunctionBody begins)) (taker-fair b seated) (first-fair FunctionBody begins fair)) ∙ e
beside-less b seated (inner {kind} {begins} positive fair) e =
    sym (ap (λ t. same_scope t (Inner kind (begins + 6))) (taker-moved b seated) ∙ same-moved (taker b) (Inner kind begins) (taker-fair b seated) positive) ∙ e

stands-less : (a b : Declared) → IsSeated a → IsSeated b →
    stands_beside (called_declared a) (called_declared b) ≡ true → stands_beside a b ≡ true
stands-less a b seated its e =
    or-less (same_scope (taker (called_declared b)) (taker (called_declared a))) (same_scope (taker (called_declared b)) (group_of (from_taker a.by (moved_scopes a.scopes)))) (same_scope (taker b) (taker a)) (same_scope (taker b) (group_of (from_taker a.by a.scopes)))
    (λ is. sym (ap₂ same_scope (taker-moved b its) (taker-moved a seated) ∙ same-moved (taker b) (taker a) (taker-fair b its) (taker-fair a seated)) ∙ is)
    (λ is. beside-less b its (from_taker-fair a.by seated.fair seated.taken) (sym (ap (λ l. same_scope (taker (called_declared b)) (group_of l)) (from_taker-moved a.by seated.fair seated.way seated.taken)) ∙ is))
    e

-- Scopes on the way up.

passed-less : (b : Declared) → IsSeated b → {scopes : List Scope} → AreFair scopes →
    list_any (same_scope (taker (called_declared b)))
    (take_while (λ scope. not (takes ByVar scope)) (moved_scopes scopes)) ≡
    true →
    list_any (same_scope (taker b)) (take_while (λ scope. not (takes ByVar scope)) scopes) ≡ true
passed-less b seated top e = absurd (false≢true e)
passed-less b seated (inner {kind} {begins} {outer} positive fair) e =
    ap (list_any (same_scope (taker b))) (take_while-cons (λ scope. not (takes ByVar scope)) (Inner kind begins) outer)
    ∙ by (takes ByVar (Inner kind begins)) (passed-less b seated fair)
    (sym (ap (list_any (same_scope (taker (called_declared b)))) (take_while-cons (λ scope. not (takes ByVar scope)) (Inner kind (begins + 6)) (moved_scopes outer) ∙ ap (λ t. cond (not t) (Inner kind (begins + 6) ∷ take_while (λ scope. not (takes ByVar scope)) (moved_scopes outer)) []) (takes-at ByVar kind (begins + 6) begins))) ∙ e)
  where
    by : (t : Bool) →
        (list_any (same_scope (taker (called_declared b))) (take_while (λ scope. not (takes ByVar scope)) (moved_scopes outer)) ≡ true → list_any (same_scope (taker b)) (take_while (λ scope. not (takes ByVar scope)) outer) ≡ true)
        →
        list_any (same_scope (taker (called_declared b)))
        (cond (not t) (Inner kind (begins + 6) ∷ take_while (λ scope. not (takes ByVar scope)) (moved_scopes outer)) [])
        ≡
        true →
        list_any (same_scope (taker b))
        (cond (not t) (Inner kind begins ∷ take_while (λ scope. not (takes ByVar scope)) outer) [])
        ≡
        true
    by true rest is = absurd (false≢true is)
    by false rest is =
        or-less (same_scope (taker (called_declared b)) (Inner kind (begins + 6))) (list_any (same_scope (taker (called_declared b))) (take_while (λ scope. not (takes ByVar scope)) (moved_scopes outer))) (same_scope (taker b) (Inner kind begins)) (list_any (same_scope (taker b)) (take_while (λ scope. not (takes ByVar scope)) outer))
        (λ same. sym (ap (λ t. same_scope t (Inner kind (begins + 6))) (taker-moved b seated) ∙ same-moved (taker b) (Inner kind begins) (taker-fair b seated) positive) ∙ same)
        rest is

passes-by : (way : Way) (b : Declared) → IsSeated b → {scopes : List Scope} → AreFair scopes →
    (is_var way && list_any (same_scope (taker (called_declared b))) (take_while (λ scope. not (takes way scope)) (moved_scopes scopes)))
    ≡
    true →
    (is_var way && list_any (same_scope (taker b)) (take_while (λ scope. not (takes way scope)) scopes))
    ≡
    true
passes-by ByVar b seated fair e = passed-less b seated fair e
passes-by _ b seated fair e = absurd (false≢true e)

excludes-less : (a b : Declared) → IsSeated a → IsSeated b →
    excludes (called_declared a) (called_declared b) ≡ true → excludes a b ≡ true
excludes-less a b seated its e =
    or-less (is_lexical (called_declared a) && stands_beside (called_declared a) (called_declared b)) (passes_scope_of (called_declared a) (called_declared b)) (is_lexical a && stands_beside a b) (passes_scope_of a b)
    (λ is. and-less (is_lexical (called_declared a)) (stands_beside (called_declared a) (called_declared b)) (is_lexical a) (stands_beside a b) (lexical-less a seated) (stands-less a b seated its) is)
    (λ is. passes-by a.by b its seated.fair is)
    e

place-same : (m n : ℕ) → (m + 6 == n + 6) ≡ (m == n)
place-same m n =
    same_from_decides (m + 6 == n + 6) (m == n) (Decides-eqb (m + 6) (n + 6))
    (λ e. let f : m ≡ n = (Decides-eqb m n).0 e in omega arith, λ e. let f : m ≡ n = omega (arith, e) in (Decides-eqb m n).1 f)

before-same : (m n : ℕ) → nat_lt (m + 6) (n + 6) ≡ nat_lt m n
before-same m n =
    same_from_decides (nat_lt (m + 6) (n + 6)) (nat_lt m n) (Decides-ltb (m + 6) (n + 6))
    (λ e. let f : m < n = (Decides-ltb m n).0 e in omega arith, λ e. let f : m < n = omega (arith, e) in (Decides-ltb m n).1 f)

clash-less : (a b : Declared) → IsSeated a → IsSeated b →
    clash (called_declared a) (called_declared b) ≡ true → clash a b ≡ true
clash-less a b seated its e =
    and-less (names_agree a.name b.name && not (a.place + 6 == b.place + 6)) (excludes (called_declared a) (called_declared b) || excludes (called_declared b) (called_declared a)) (names_agree a.name b.name && not (a.place == b.place)) (excludes a b || excludes b a)
    (λ is. and-less (names_agree a.name b.name) (not (a.place + 6 == b.place + 6)) (names_agree a.name b.name) (not (a.place == b.place)) (λ x. x) (λ apart. sym (ap not (place-same a.place b.place)) ∙ apart) is)
    (λ either. or-less (excludes (called_declared a) (called_declared b)) (excludes (called_declared b) (called_declared a)) (excludes a b) (excludes b a) (excludes-less a b seated its) (excludes-less b a its seated) either)
    e

doubled-less : {all : List Declared} → Every IsSeated all → (d : Declared) → IsSeated d →
    is_doubled (map called_declared all) (called_declared d) ≡ true → is_doubled all d ≡ true
doubled-less {all} seats d seated e =
    any-less (λ earlier. nat_lt earlier.place (d.place + 6) && clash earlier (called_declared d)) (λ earlier. nat_lt earlier.place d.place && clash earlier d) called_declared
    (λ earlier its is. and-less (nat_lt (earlier.place + 6) (d.place + 6)) (clash (called_declared earlier) (called_declared d)) (nat_lt earlier.place d.place) (clash earlier d) (λ l. sym (before-same earlier.place d.place) ∙ l) (clash-less earlier d its seated) is)
    seats e

find-less : {A B : Type 0} (p : B → Bool) (q : A → Bool) (f : A → B) {P : A → Type 0} →
    ((x : A) → P x → p (f x) ≡ true → q x ≡ true) → {xs : List A} → Every P xs → find q xs ≡ None →
    find p (map f xs) ≡ None
find-less p q f on none e = refl
find-less {A} {B} p q f on (more {x} {xs} here later) e =
    by (q x) (p (f x)) refl refl (find-less p q f on later)
  where
    by : (t u : Bool) → q x ≡ t → p (f x) ≡ u → (find q xs ≡ None → find p (map f xs) ≡ None) →
        cond (p (f x)) (Some (f x)) (find p (map f xs)) ≡ None
    by true u is its rest = absurd (none-some x (sym e ∙ ap (λ t. cond t (Some x) (find q xs)) is))
    by false true is its rest = absurd (false≢true (sym is ∙ on x here its))
    by false false is its rest =
        ap (λ t. cond t (Some (f x)) (find p (map f xs))) its
        ∙ rest (sym (ap (λ t. cond t (Some x) (find q xs)) is) ∙ e)

-- undoubled
undoubled-twins : {is_async : Bool} {stmts after its : List Item} →
    AreTwins BySymbol is_async stmts after its → first_doubled Es (module_with stmts after) ≡ None →
    first_doubled Es (call_with is_async stmts its) ≡ None
undoubled-twins {is_async} {stmts} {after} {its} twins e =
    ap (λ all. find (is_doubled all) all) (declared-twins twins)
    ∙ find-less (is_doubled (map called_declared (declared BySymbol Es (module_with stmts after)))) (is_doubled (declared BySymbol Es (module_with stmts after))) called_declared (doubled-less (seats-twins twins)) (seats-twins twins) e

undoubled-by : (stmts : List Item) {back : List Item} → IsBack back → AreStatements zero stmts →
    Every IsTaken (declared BySymbol Es (module_with stmts (back ++ h.Close ∷ []))) →
    first_doubled Es (module_with stmts (back ++ h.Close ∷ [])) ≡ None →
    first_doubled Es (wrapped (module_with stmts (back ++ h.Close ∷ []))) ≡ None
undoubled-by stmts nothing statements taken e =
    ap (first_doubled Es)
    (wrapped-is (module_with stmts (h.Close ∷ [])) stmts [] (body-plain statements))
    ∙ undoubled-twins (twins-of statements nothing taken []) e
undoubled-by stmts (exports meta specifiers) statements taken e =
    ap (first_doubled Es)
    (wrapped-is (module_with stmts (export_items meta specifiers ++ h.Close ∷ [])) stmts (exported_pairs (export_items meta specifiers)) (body-exports statements meta specifiers))
    ∙ undoubled-twins
    (twins-of statements (exports meta specifiers) taken (exported_pairs (export_items meta specifiers)))
    e

pub wrapped-undoubled : (tree : List Item) → CanBeCalled BySymbol tree →
    first_doubled Es tree ≡ None → first_doubled Es (wrapped tree) ≡ None
wrapped-undoubled tree can e =
    ap (λ t. first_doubled Es (wrapped t)) can.is ∙ undoubled-by can.stmts can.ends can.statements
    (subst (λ t. Every IsTaken (declared BySymbol Es t)) can.is can.taken)
    (sym (ap (first_doubled Es) can.is) ∙ e)
