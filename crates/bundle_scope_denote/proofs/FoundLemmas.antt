-- What is found from a scope on outwards is what the definitions find.
use Rattle.std.proofs.Common.{◌≡◌, ℕ, Bool, true, false, cond, ◌&&◌, ◌||◌, List, Option, Some, None, find, length, refl, ap, sym, ◌∙◌, subst}
use Rattle.std.specs.Prelude.{slice_get}
use Rattle.std.specs.List.{list_any}
use Rattle.bundle_rules.specs.Scopes as s
use Rattle.bundle_rules.specs.Declarations as d
use Rattle.bundle_rules.specs.Homes as o
use Rattle.bundle_rules.specs.Denotes as e
use Rattle.bundle_scope_denote.specs.Numbers.{NumberedScope, AreAround}
use Rattle.bundle_scope_denote.specs.Chains.{numbered_scope_at, passes, scopes_outwards, nearest_at, AreInOrder}
use Rattle.bundle_scope_denote.specs.Bound.{ScopeKey, same_key, binds_at, reads, adds, is_name_bound, put_key, alone, TellsBound, TellsImplied, SaysDenoted, NumberOf}
use Rattle.bundle_scope_denote.proofs.ZipLemmas.{BothOrNone, find-zipped}
use Rattle.bundle_scope_denote.proofs.OutwardLemmas.{IsScopeAt, outwards-around}
use Rattle.bundle_scope_denote.proofs.HomeLemmas.{number-around}
use Rattle.bundle_scope_denote.proofs.InsertLemmas.{any-put, same_key-true}

-- the nearest scope that passes, by numbers and by the scopes around
pub nearest-around : (scopes : List NumberedScope) → AreInOrder scopes → (p : ℕ → Bool) (q : s.Scope → Bool) → ((number : ℕ) (scope : s.Scope) → numbered_scope_at scopes number ≡ Some scope → p number ≡ q scope) → (from : ℕ) (around : List s.Scope) → AreAround scopes (Some from) around → BothOrNone (IsScopeAt scopes) (nearest_at scopes p from) (find q around)
nearest-around scopes ordered p q same from around known = find-zipped (IsScopeAt scopes) p q same (scopes_outwards scopes (length scopes) (Some from)) around (outwards-around scopes ordered (length scopes) from around (number-around scopes from around known) known)

-- the nearest scope that binds the name
pub bound-around : (reading : d.Reading) (scopes : List NumberedScope) (names : List d.Name) (all : List d.Declared) (keys : List ScopeKey) → AreInOrder scopes → TellsBound reading scopes names all keys → (number : ℕ) (name : d.Name) → slice_get names number ≡ Some name → reads reading name ≡ true → (from : ℕ) (around : List s.Scope) → AreAround scopes (Some from) around → BothOrNone (IsScopeAt scopes) (nearest_at scopes (binds_at scopes keys (adds reading name) number) from) (find (λ scope. is_name_bound reading all scope name) around)
bound-around reading scopes names all keys ordered tells number name at fits from around known =
    nearest-around scopes ordered (binds_at scopes keys (adds reading name) number) (λ scope. is_name_bound reading all scope name) (λ n scope at_n. tells n number scope name at_n at fits) from around known

-- what was found, with the number that it has
pub says-found : (scopes : List NumberedScope) (names : List d.Name) (keys : List ScopeKey) (number : ℕ) (name : d.Name) → slice_get names number ≡ Some name → (found result : Option ℕ) (scope : Option s.Scope) → BothOrNone (IsScopeAt scopes) found scope → NumberOf keys number found result → SaysDenoted scopes names keys result (e.bound_in name scope)
says-found scopes names keys number name at None None None both is = tt
says-found scopes names keys number name at None (Some r) None both is = absurd is
says-found scopes names keys number name at None result (Some scope) both is = absurd both
says-found scopes names keys number name at (Some f) result None both is = absurd both
says-found scopes names keys number name at (Some f) None (Some scope) both is = absurd is
says-found scopes names keys number name at (Some f) (Some r) (Some scope) both is = ((f, number), is, both, at)

-- by symbol and context: what is written, or else implied
pub says-implied : (scopes : List NumberedScope) (names : List d.Name) (all : List d.Declared) (keys implied : List ScopeKey) → AreInOrder scopes → TellsImplied scopes names all implied → (name : d.Name) (number : ℕ) → slice_get names number ≡ Some (alone name.sym) → (from : ℕ) (around : List s.Scope) → AreAround scopes (Some from) around → e.is_unresolved name.ctxt ≡ false → (result : Option ℕ) → NumberOf keys number (nearest_at scopes (binds_at scopes implied (o.is_arguments name.sym) number) from) result → SaysDenoted scopes names keys result (e.implied all around name)
says-implied scopes names all keys implied ordered tells name number at from around known resolved result is =
    subst (λ t. SaysDenoted scopes names keys result (cond t (e.Global name.sym) (e.bound_in (e.without_context name) (find (λ scope. e.is_implied_in all scope name) around)))) (sym resolved)
    (says-found scopes names keys number (alone name.sym) at (nearest_at scopes (binds_at scopes implied (o.is_arguments name.sym) number) from) result (find (λ scope. e.is_implied_in all scope name) around) (nearest-around scopes ordered (binds_at scopes implied (o.is_arguments name.sym) number) (λ scope. e.is_implied_in all scope name) (λ n scope at_n. tells n number scope name at_n at) from around known) is)

-- once a key is put that is told, the keys tell the same
pub tells-put : (reading : d.Reading) (scopes : List NumberedScope) (names : List d.Name) (all : List d.Declared) (keys : List ScopeKey) → TellsBound reading scopes names all keys → (key : ScopeKey) → ((scope : s.Scope) (name : d.Name) → numbered_scope_at scopes key.0 ≡ Some scope → slice_get names key.1 ≡ Some name → reads reading name ≡ true → is_name_bound reading all scope name ≡ true) → TellsBound reading scopes names all (put_key keys key)
tells-put reading scopes names all keys tells key fits n number scope name at_n at_number read =
    ap (λ t. t || (adds reading name && passes o.is_function scopes n)) (any-put (same_key (n, number)) keys key) ∙ by (same_key (n, number) key) refl
  where
    whole : (a b : Bool) → ((a || false) || b) ≡ (a || b)
    whole true b = refl
    whole false b = refl

    sure : (a b : Bool) → ((a || true) || b) ≡ true
    sure true b = refl
    sure false b = refl

    by : (t : Bool) → same_key (n, number) key ≡ t → ((list_any (same_key (n, number)) keys || t) || (adds reading name && passes o.is_function scopes n)) ≡ is_name_bound reading all scope name
    by false is = whole (list_any (same_key (n, number)) keys) (adds reading name && passes o.is_function scopes n) ∙ tells n number scope name at_n at_number read
    by true is =
        let same : (n, number) ≡ key = same_key-true (n, number) key is in
        sure (list_any (same_key (n, number)) keys) (adds reading name && passes o.is_function scopes n) ∙ sym (fits scope name (ap (λ (k : ScopeKey). numbered_scope_at scopes k.0) (sym same) ∙ at_n) (ap (λ (k : ScopeKey). slice_get names k.1) (sym same) ∙ at_number) read)
