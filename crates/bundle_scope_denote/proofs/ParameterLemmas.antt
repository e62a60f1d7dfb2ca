-- Whether a scope has a parameter, by the keys of the parameters.
use Rattle.std.proofs.Common.{◌≡◌, ℕ, ◌==◌, Bool, true, false, ◌&&◌, ◌||◌, ◌⊎◌, inl, inr, List, [], ◌∷◌, Option, Some, None, refl, ap, ap₂, sym, ◌∙◌, nat_eq, bytes_eq}
use Rattle.std.specs.Prelude.{slice_get, is_some}
use Rattle.std.specs.Option.{option_eq}
use Rattle.std.specs.List.{AllZip, list_any}
use Rattle.std.proofs.lemmas.Bool.{false≢true, or_from}
use Rattle.std.proofs.lemmas.Option.{none-some}
use Rattle.bundle_rules.specs.Scopes as s
use Rattle.bundle_rules.specs.Declarations as d
use Rattle.bundle_rules.specs.Homes as o
use Rattle.bundle_rules.specs.Denotes as e
use Rattle.bundle_scope_denote.specs.Numbers.{NumberedScope}
use Rattle.bundle_scope_denote.specs.Chains.{numbered_scope_at, AreInOrder, IsOnce}
use Rattle.bundle_scope_denote.specs.Bound.{ScopeKey, exactly, IsDeclaredAs, IsKeyTaken, holds_parameters, is_parameter_key}
use Rattle.bundle_scope_denote.proofs.ZipLemmas.{list_any-zipped}
use Rattle.bundle_scope_denote.proofs.KeyLemmas.{same_key-at, exactly-Decides}
use Rattle.bundle_scope_denote.proofs.HomeLemmas.{passes-at}
use Rattle.bundle_scope_denote.proofs.ReadLemmas.{Each}

-- whether any passes one of two tests
pub list_any-or : {X : Type 0} (p q : X → Bool) (xs : List X) → (list_any p xs || list_any q xs) ≡ list_any (λ x. p x || q x) xs
list_any-or p q [] = refl
list_any-or p q (x ∷ xs) = shuffled (p x) (q x) (list_any p xs) (list_any q xs) ∙ ap (λ t. (p x || q x) || t) (list_any-or p q xs)
  where
    shuffled : (a b c f : Bool) → ((a || c) || (b || f)) ≡ ((a || b) || (c || f))
    shuffled true b c f = refl
    shuffled false true true f = refl
    shuffled false true false f = refl
    shuffled false false c f = refl

-- tests that agree at each
pub list_any-same : {X : Type 0} (p q : X → Bool) → ((x : X) → p x ≡ q x) → (xs : List X) → list_any p xs ≡ list_any q xs
list_any-same p q same [] = refl
list_any-same p q same (x ∷ xs) = ap (λ t. t || list_any p xs) (same x) ∙ ap (λ t. q x || t) (list_any-same p q same xs)

-- a parameter of this very name is declared in the scope
abbrev pub is_parameter_exactly : s.Scope → d.Name → d.Declared → Bool
is_parameter_exactly scope name x = ((o.is_parameters (o.taker x) || o.is_wrapper (o.taker x)) && s.same_scope (o.taker x) scope) && exactly x.name name

pub parameter-by_key : (scopes : List NumberedScope) (names : List d.Name) → AreInOrder scopes → IsOnce names → (n number : ℕ) (scope : s.Scope) (name : d.Name) → numbered_scope_at scopes n ≡ Some scope → slice_get names number ≡ Some name → (keys : List ScopeKey) (all : List d.Declared) → AllZip (IsKeyTaken scopes names) keys all → list_any (is_parameter_key scopes (n, number)) keys ≡ list_any (is_parameter_exactly scope name) all
parameter-by_key scopes names ordered once n number scope name at_n at_number = list_any-zipped (IsKeyTaken scopes names) (is_parameter_key scopes (n, number)) (is_parameter_exactly scope name) (λ key x known. ap₂ (λ (a : Bool) (b : Bool). a && b) (passes-at holds_parameters scopes key.0 (o.taker x) known.scope) (same_key-at scopes names ordered once n number scope name at_n at_number key (o.taker x) x.name known.scope known.name) ∙ regroup (holds_parameters (o.taker x)) (s.same_scope (o.taker x) scope) (exactly x.name name))
  where
    regroup : (a b c : Bool) → (a && (b && c)) ≡ ((a && b) && c)
    regroup true b c = refl
    regroup false b c = refl

-- a name agrees that is the same, or has no context
pub agree-either : (a b : d.Name) → (is_some b.ctxt ≡ true) ⊎ ((a.ctxt ≡ None) × (b.ctxt ≡ None)) → (exactly a b || exactly a (e.without_context b)) ≡ d.names_agree a b
agree-either a b cases = by (bytes_eq a.sym b.sym) a.ctxt b.ctxt cases
  where
    by : (u : Bool) (x y : Option ℕ) → (is_some y ≡ true) ⊎ ((x ≡ None) × (y ≡ None)) → ((u && option_eq nat_eq x y) || (u && option_eq nat_eq x None)) ≡ (u && d.contexts_agree x y)
    by false x y cases = refl
    by true None None cases = refl
    by true None (Some y) cases = refl
    by true (Some x) None (inl is) = absurd (false≢true is)
    by true (Some x) None (inr both) = absurd (none-some x (sym both.0))
    by true (Some x) (Some y) cases = orless (x == y)
      where
        orless : (t : Bool) → (t || false) ≡ t
        orless true = refl
        orless false = refl

-- a name that nothing declared has is no parameter's
pub no-parameter : (scope : s.Scope) (names : List d.Name) (name : d.Name) → ((number : ℕ) → slice_get names number ≡ Some name → ⊥) → (scopes : List NumberedScope) (keys : List ScopeKey) (all : List d.Declared) → AllZip (IsKeyTaken scopes names) keys all → list_any (is_parameter_exactly scope name) all ≡ false
no-parameter scope names name absent scopes [] [] all_known = refl
no-parameter scope names name absent scopes [] (x ∷ xs) all_known = absurd all_known
no-parameter scope names name absent scopes (k ∷ ks) [] all_known = absurd all_known
no-parameter scope names name absent scopes (k ∷ ks) (x ∷ xs) all_known = or_from (is_parameter_exactly scope name x) (list_any (is_parameter_exactly scope name) xs) (fails (exactly x.name name) refl) (no-parameter scope names name absent scopes ks xs all_known.1)
  where
    shut : (a b : Bool) → ((a && b) && false) ≡ false
    shut true true = refl
    shut true false = refl
    shut false b = refl

    fails : (t : Bool) → exactly x.name name ≡ t → (((o.is_parameters (o.taker x) || o.is_wrapper (o.taker x)) && s.same_scope (o.taker x) scope) && t) ≡ false
    fails true is = absurd (absent k.1 (all_known.0.name ∙ ap (λ y. Some y) ((exactly-Decides x.name name).0 is)))
    fails false is = shut (o.is_parameters (o.taker x) || o.is_wrapper (o.taker x)) (s.same_scope (o.taker x) scope)

-- the two tests together are the definition's, for a name that joins parameters
pub parameter-either : (reading : d.Reading) (scope : s.Scope) (joining : d.Declared) → IsDeclaredAs reading joining → o.joins_parameter joining.by ≡ true → (some : List d.Declared) → Each (IsDeclaredAs reading) some → (list_any (is_parameter_exactly scope joining.name) some || list_any (is_parameter_exactly scope (e.without_context joining.name)) some) ≡ list_any (o.is_parameter scope joining.name) some
parameter-either reading scope joining read joins [] each = refl
parameter-either reading scope joining read joins (x ∷ xs) each =
    shuffled (is_parameter_exactly scope joining.name x) (is_parameter_exactly scope (e.without_context joining.name) x) (list_any (is_parameter_exactly scope joining.name) xs) (list_any (is_parameter_exactly scope (e.without_context joining.name)) xs) ∙ ap₂ (λ (a : Bool) (b : Bool). a || b) (here (o.is_parameters (o.taker x) || o.is_wrapper (o.taker x)) (s.same_scope (o.taker x) scope)) (parameter-either reading scope joining read joins xs each.1)
  where
    shuffled : (a b c f : Bool) → ((a || c) || (b || f)) ≡ ((a || b) || (c || f))
    shuffled true b c f = refl
    shuffled false true true f = refl
    shuffled false true false f = refl
    shuffled false false c f = refl

    cases : (reading : d.Reading) → IsDeclaredAs reading joining → IsDeclaredAs reading x → (is_some joining.name.ctxt ≡ true) ⊎ ((x.name.ctxt ≡ None) × (joining.name.ctxt ≡ None))
    cases d.BySymbol own other = inr (other, own)
    cases d.ByContext own other = inl (own joins)

    shared : (a b p q r : Bool) → (p || q) ≡ r → (((a && b) && p) || ((a && b) && q)) ≡ ((a && b) && r)
    shared true true p q r is = is
    shared true false p q r is = refl
    shared false b p q r is = refl

    here : (a b : Bool) → (((a && b) && exactly x.name joining.name) || ((a && b) && exactly x.name (e.without_context joining.name))) ≡ ((a && b) && d.names_agree x.name joining.name)
    here a b = shared a b (exactly x.name joining.name) (exactly x.name (e.without_context joining.name)) (d.names_agree x.name joining.name) (agree-either x.name joining.name (cases reading read each.0))
