-- What a reference denotes as contexts are given by a numbering.
use Rattle.std.proofs.Common.{◌≡◌, ◌≢◌, ℕ, Bool, true, false, cond, not, ◌&&◌, ◌==◌, List, Option, Some, None, is_some, find, bytes_eq, codes, refl, ap, sym, ◌∙◌, inl, inr, ◌⊎◌, eq-eqb, eqb-true, ne_eqb}
use Rattle.std.specs.List.{list_any}
use Rattle.std.proofs.lemmas.Bool.{false≢true, and_parts, and_from, or_cases, or_left, or_right, false_from_ne_true}
use Rattle.bundle_rules.specs.Scopes.{Scope, scope_order, same_scope}
use Rattle.bundle_rules.specs.Declarations.{Name, contexts_agree, names_agree, Declared}
use Rattle.bundle_rules.specs.Homes.{home_of, is_declared_in, declares, is_arguments, is_function, has_implicit_arguments, binds}
use Rattle.bundle_rules.specs.Denotes.{Bound, Global, bound_in, has_identifier, is_written_in, is_implied_in, written_or_implied, denoted_by_context}
use Rattle.bundle_scope_names.proofs.Numbering.{Numbering, context_of, is_identified, lifted, lift_all, is_written, given}
use Rattle.bundle_scope_names.proofs.HomesLemmas.{Each, list_any-map_each, list_any-and, list_any-implies, find-passes, find-nothing, find-same, find-none, IsBySymbol, home-lifted, names_agree-by_symbol, same_order, bytes_same as same_symbol}

-- a name that is read by symbol, and one that is read by context too
abbrev pub plain : List ℕ → Name
plain x = record { sym = x; ctxt = None }

abbrev pub with : List ℕ → ℕ → Name
with x c = record { sym = x; ctxt = Some c }

-- An identifier declares a name with its context where it declares the symbol and the numbers agree.
written_at : (f : Numbering) (all : List Declared) (s : Scope) (x : List ℕ) (c : ℕ) (d : Declared) → IsBySymbol d → (has_identifier (lifted f all d) && is_declared_in (lift_all f all) s (with x c) (lifted f all d)) ≡ ((is_identified d.by && (same_scope (home_of all d) s && bytes_eq d.name.sym x)) && (f (scope_order s) x == c))
written_at f all s x c d none =
    ap (λ home. is_some (lifted f all d).name.ctxt && (same_scope home s && names_agree (lifted f all d).name (with x c))) (home-lifted f all d none)
    ∙ by_all (is_identified d.by) (same_scope (home_of all d) s) refl (bytes_eq d.name.sym x) refl
  where
    by_all : (i h : Bool) → same_scope (home_of all d) s ≡ h → (b : Bool) → bytes_eq d.name.sym x ≡ b → (is_some (cond i (Some (f (scope_order (home_of all d)) d.name.sym)) None) && (h && (b && contexts_agree (cond i (Some (f (scope_order (home_of all d)) d.name.sym)) None) (Some c)))) ≡ ((i && (h && b)) && (f (scope_order s) x == c))
    by_all false h e b g = refl
    by_all true false e b g = refl
    by_all true true e false g = refl
    by_all true true e true g = ap (λ n. f n d.name.sym == c) (same_order (home_of all d) s e) ∙ ap (λ y. f (scope_order s) y == c) (same_symbol d.name.sym x g)

pub written-lifted : (f : Numbering) (all : List Declared) → Each IsBySymbol all → (s : Scope) (x : List ℕ) (c : ℕ) → is_written_in (lift_all f all) s (with x c) ≡ (is_written all s x && (f (scope_order s) x == c))
written-lifted f all each s x c =
    list_any-map_each IsBySymbol (λ d. (is_identified d.by && (same_scope (home_of all d) s && bytes_eq d.name.sym x)) && (f (scope_order s) x == c)) _ (lifted f all) (written_at f all s x c) all each
    ∙ list_any-and (λ d. is_identified d.by && (same_scope (home_of all d) s && bytes_eq d.name.sym x)) (f (scope_order s) x == c) all

-- by symbol alone
plainly_at : (f : Numbering) (all : List Declared) (s : Scope) (x : List ℕ) (d : Declared) → IsBySymbol d → (has_identifier (lifted f all d) && is_declared_in (lift_all f all) s (plain x) (lifted f all d)) ≡ (is_identified d.by && (same_scope (home_of all d) s && bytes_eq d.name.sym x))
plainly_at f all s x d none =
    ap (λ home. is_some (lifted f all d).name.ctxt && (same_scope home s && names_agree (lifted f all d).name (plain x))) (home-lifted f all d none)
    ∙ ap (λ agree. is_some (lifted f all d).name.ctxt && (same_scope (home_of all d) s && agree)) (names_agree-by_symbol (lifted f all d).name (plain x) refl)
    ∙ ap (λ b. b && (same_scope (home_of all d) s && bytes_eq d.name.sym x)) (some_if (is_identified d.by) (f (scope_order (home_of all d)) d.name.sym))
  where
    some_if : (b : Bool) (n : ℕ) → is_some (cond b (Some n) None) ≡ b
    some_if true n = refl
    some_if false n = refl

pub plainly_written-lifted : (f : Numbering) (all : List Declared) → Each IsBySymbol all → (s : Scope) (x : List ℕ) → is_written_in (lift_all f all) s (plain x) ≡ is_written all s x
plainly_written-lifted f all each s x = list_any-map_each IsBySymbol (λ d. is_identified d.by && (same_scope (home_of all d) s && bytes_eq d.name.sym x)) _ (lifted f all) (plainly_at f all s x) all each

declared_at : (f : Numbering) (all : List Declared) (s : Scope) (x : List ℕ) (d : Declared) → IsBySymbol d → is_declared_in (lift_all f all) s (plain x) (lifted f all d) ≡ is_declared_in all s (plain x) d
declared_at f all s x d none =
    ap (λ home. same_scope home s && names_agree (lifted f all d).name (plain x)) (home-lifted f all d none)
    ∙ ap (λ agree. same_scope (home_of all d) s && agree) (names_agree-by_symbol (lifted f all d).name (plain x) refl ∙ sym (names_agree-by_symbol d.name (plain x) refl))

pub declares-lifted : (f : Numbering) (all : List Declared) → Each IsBySymbol all → (s : Scope) (x : List ℕ) → declares (lift_all f all) s (plain x) ≡ declares all s (plain x)
declares-lifted f all each s x = list_any-map_each IsBySymbol (is_declared_in all s (plain x)) _ (lifted f all) (declared_at f all s x) all each

-- what an identifier declares is declared
pub written-declares : (all : List Declared) (s : Scope) (x : List ℕ) → is_written all s x ≡ true → declares all s (plain x) ≡ true
written-declares all s x e = list_any-implies (λ d. is_identified d.by && (same_scope (home_of all d) s && bytes_eq d.name.sym x)) (is_declared_in all s (plain x)) weaker all e
  where
    weaker : (d : Declared) → (is_identified d.by && (same_scope (home_of all d) s && bytes_eq d.name.sym x)) ≡ true → is_declared_in all s (plain x) d ≡ true
    weaker d holds =
        let parts = and_parts (is_identified d.by) (same_scope (home_of all d) s && bytes_eq d.name.sym x) holds in
        ap (λ agree. same_scope (home_of all d) s && agree) (names_agree-by_symbol d.name (plain x) refl) ∙ parts.1

-- scopes of one order declare alike
pub written-same_order : (all : List Declared) (s t : Scope) (x : List ℕ) → scope_order t ≡ scope_order s → is_written all t x ≡ is_written all s x
written-same_order all s t x e = ap (λ n. list_any (λ (d : Declared). is_identified d.by && ((scope_order (home_of all d) == n) && bytes_eq d.name.sym x)) all) e

-- What binds a name with its context, or implies it, binds its symbol.
written-binds : (f : Numbering) (all : List Declared) → Each IsBySymbol all → (x : List ℕ) (c : ℕ) (t : Scope) → is_written_in (lift_all f all) t (with x c) ≡ true → binds all t (plain x) ≡ true
written-binds f all each x c t e =
    let parts = and_parts (is_written all t x) (f (scope_order t) x == c) (sym (written-lifted f all each t x c) ∙ e) in
    or_left (declares all t (plain x)) _ (written-declares all t x parts.0)

pub arguments-bind : (all : List Declared) (x : List ℕ) (t : Scope) → (is_arguments x && is_function t) ≡ true → binds all t (plain x) ≡ true
arguments-bind all x t e =
    let parts = and_parts (is_arguments x) (is_function t) e in
    by_declared (declares all t (plain x)) refl parts.0 parts.1 (same_symbol x (codes "arguments") parts.0)
  where
    by_declared : (b : Bool) → declares all t (plain x) ≡ b → is_arguments x ≡ true → is_function t ≡ true → x ≡ codes "arguments" → binds all t (plain x) ≡ true
    by_declared true is arg fun eq = or_left (declares all t (plain x)) _ is
    by_declared false is arg fun eq = or_right (declares all t (plain x)) _ (and_from (is_arguments x) _ arg (and_from (is_function t) _ fun (ap (λ y. not (declares all t (plain y))) (sym eq) ∙ ap not is)))

implied-binds : (f : Numbering) (all : List Declared) → Each IsBySymbol all → (x : List ℕ) (c : ℕ) (t : Scope) → is_implied_in (lift_all f all) t (with x c) ≡ true → binds all t (plain x) ≡ true
implied-binds f all each x c t e = by_either (or_cases (declares (lift_all f all) t (plain x) && not (is_written_in (lift_all f all) t (plain x))) (is_arguments x && is_function t) e)
  where
    by_either : ((declares (lift_all f all) t (plain x) && not (is_written_in (lift_all f all) t (plain x))) ≡ true) ⊎ ((is_arguments x && is_function t) ≡ true) → binds all t (plain x) ≡ true
    by_either (inl h) = or_left (declares all t (plain x)) _ (sym (declares-lifted f all each t x) ∙ (and_parts (declares (lift_all f all) t (plain x)) _ h).0)
    by_either (inr h) = arguments-bind all x t h

-- What is bound without an identifier is implied.
binds-implied : (f : Numbering) (all : List Declared) → Each IsBySymbol all → (x : List ℕ) (c : ℕ) (s : Scope) → binds all s (plain x) ≡ true → is_written all s x ≡ false → is_implied_in (lift_all f all) s (with x c) ≡ true
binds-implied f all each x c s e unwritten = by_either (or_cases (declares all s (plain x)) (is_arguments x && has_implicit_arguments all s) e)
  where
    by_either : (declares all s (plain x) ≡ true) ⊎ ((is_arguments x && has_implicit_arguments all s) ≡ true) → is_implied_in (lift_all f all) s (with x c) ≡ true
    by_either (inl h) = or_left (declares (lift_all f all) s (plain x) && not (is_written_in (lift_all f all) s (plain x))) _ (and_from (declares (lift_all f all) s (plain x)) _ (declares-lifted f all each s x ∙ h) (ap not (plainly_written-lifted f all each s x ∙ unwritten)))
    by_either (inr h) =
        let parts = and_parts (is_arguments x) (has_implicit_arguments all s) h in
        or_right (declares (lift_all f all) s (plain x) && not (is_written_in (lift_all f all) s (plain x))) _ (and_from (is_arguments x) _ parts.0 (and_parts (is_function s) _ parts.1).0)

-- A reference: what it denotes with the context that it is given, where the numbers of bindings of its symbol differ from that of a binding without an identifier, which is not 1.
pub reference-given : (f : Numbering) (all : List Declared) → Each IsBySymbol all → (scopes : List Scope) (x : List ℕ) (r : Option Scope) → find (λ s. binds all s (plain x)) scopes ≡ r → ((s : Scope) → r ≡ Some s → f (scope_order s) x ≢ 1) → ((s t : Scope) → r ≡ Some s → is_written all t x ≡ true → f (scope_order t) x ≡ f (scope_order s) x → scope_order t ≡ scope_order s) → denoted_by_context (lift_all f all) scopes (with x (context_of f (bound_in (plain x) r))) ≡ given f all (bound_in (plain x) r)
reference-given f all each scopes x None found own apart = ap (written_or_implied (lift_all f all) scopes (with x 1)) (find-nothing (λ s. binds all s (plain x)) (λ s. is_written_in (lift_all f all) s (with x 1)) (written-binds f all each x 1) scopes found)
reference-given f all each scopes x (Some s) found own apart = by_written (is_written all s x) refl
  where
    by_written : (b : Bool) → is_written all s x ≡ b → denoted_by_context (lift_all f all) scopes (with x (f (scope_order s) x)) ≡ Bound s (record { sym = x; ctxt = cond (is_written all s x) (Some (f (scope_order s) x)) None })
    by_written true is =
        ap (written_or_implied (lift_all f all) scopes (with x (f (scope_order s) x))) (find-same (λ t. binds all t (plain x)) (λ t. is_written_in (lift_all f all) t (with x (f (scope_order s) x))) (written-binds f all each x (f (scope_order s) x)) scopes s found (written-lifted f all each s x (f (scope_order s) x) ∙ and_from (is_written all s x) _ is (eq-eqb (f (scope_order s) x) (f (scope_order s) x) refl)))
        ∙ ap (λ b. Bound s (record { sym = x; ctxt = cond b (Some (f (scope_order s) x)) None })) (sym is)
    by_written false is =
        let unwritten : (t : Scope) → is_written_in (lift_all f all) t (with x (f (scope_order s) x)) ≡ false =
        λ t. false_from_ne_true (is_written_in (lift_all f all) t (with x (f (scope_order s) x))) (λ holds.
        let parts = and_parts (is_written all t x) (f (scope_order t) x == (f (scope_order s) x)) (sym (written-lifted f all each t x (f (scope_order s) x)) ∙ holds) in
        let order = apart s t refl parts.0 (eqb-true (f (scope_order t) x) (f (scope_order s) x) parts.1) in
        false≢true (sym is ∙ sym (written-same_order all s t x order) ∙ parts.0)) in
        ap (written_or_implied (lift_all f all) scopes (with x (f (scope_order s) x))) (find-none (λ t. is_written_in (lift_all f all) t (with x (f (scope_order s) x))) unwritten scopes)
        ∙ ap (λ b. cond b (Global x) (bound_in (plain x) (find (λ t. is_implied_in (lift_all f all) t (with x (f (scope_order s) x))) scopes))) (ne_eqb (f (scope_order s) x) 1 (own s refl))
        ∙ ap (bound_in (plain x)) (find-same (λ t. binds all t (plain x)) (λ t. is_implied_in (lift_all f all) t (with x (f (scope_order s) x))) (implied-binds f all each x (f (scope_order s) x)) scopes s found (binds-implied f all each x (f (scope_order s) x) s (find-passes (λ t. binds all t (plain x)) scopes s found) is))
        ∙ ap (λ b. Bound s (record { sym = x; ctxt = cond b (Some (f (scope_order s) x)) None })) (sym is)
