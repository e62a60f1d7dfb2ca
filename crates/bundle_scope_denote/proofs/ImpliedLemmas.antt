-- What a scope binds though no identifier declares it there, by keys.
use Rattle.std.proofs.Common.{◌≡◌, ℕ, Bool, true, false, not, ◌&&◌, ◌||◌, List, [], ◌∷◌, Option, Some, None, refl, ap, ap₂, sym, ◌∙◌, nat_eq, bytes_eq}
use Rattle.std.specs.Prelude.{slice_get, is_some}
use Rattle.std.specs.Option.{option_eq}
use Rattle.std.specs.List.{AllZip, list_any}
use Rattle.std.proofs.lemmas.Bool.{or_from}
use Rattle.bundle_rules.specs.Scopes as s
use Rattle.bundle_rules.specs.Declarations as d
use Rattle.bundle_rules.specs.Homes as o
use Rattle.bundle_rules.specs.Denotes as e
use Rattle.bundle_scope_denote.specs.Numbers.{NumberedScope}
use Rattle.bundle_scope_denote.specs.Chains.{numbered_scope_at, AreInOrder, IsOnce}
use Rattle.bundle_scope_denote.specs.Bound.{ScopeKey, same_key, exactly, IsHome, is_written_key, is_written_name, alone}
use Rattle.bundle_scope_denote.proofs.ZipLemmas.{list_any-zipped}
use Rattle.bundle_scope_denote.proofs.KeyLemmas.{at_key, scope-agrees, exactly-Decides}
use Rattle.bundle_scope_denote.proofs.ParameterLemmas.{list_any-or, list_any-same}

-- a key that an identifier has there is that of a declaration with one
written-by_key : (scopes : List NumberedScope) (names : List d.Name) (all : List d.Declared) → AreInOrder scopes → (n : ℕ) (scope : s.Scope) (symbol : List ℕ) → numbered_scope_at scopes n ≡ Some scope → (keys : List ScopeKey) (some : List d.Declared) → AllZip (IsHome scopes names all) keys some → list_any (is_written_key names n symbol) keys ≡ list_any (λ x. e.has_identifier x && o.is_declared_in all scope (alone symbol) x) some
written-by_key scopes names all ordered n scope symbol at_n keys some known = list_any-zipped (IsHome scopes names all) (is_written_key names n symbol) (λ x. e.has_identifier x && o.is_declared_in all scope (alone symbol) x) one keys some known
  where
    swapped : (a b c : Bool) → (a && (b && c)) ≡ (b && (a && c))
    swapped true true c = refl
    swapped true false c = refl
    swapped false true c = refl
    swapped false false c = refl

    by_name : (t : Bool) (name : d.Name) → (t && (is_some name.ctxt && bytes_eq name.sym symbol)) ≡ (is_some name.ctxt && (t && d.names_agree name (alone symbol)))
    by_name t name = swapped t (is_some name.ctxt) (bytes_eq name.sym symbol) ∙ agree name.ctxt
      where
        whole : (a : Bool) → a ≡ (a && true)
        whole true = refl
        whole false = refl

        agree : (ctxt : Option ℕ) → (is_some ctxt && (t && bytes_eq name.sym symbol)) ≡ (is_some ctxt && (t && (bytes_eq name.sym symbol && d.contexts_agree ctxt None)))
        agree None = refl
        agree (Some c) = ap (λ u. t && u) (whole (bytes_eq name.sym symbol))

    one : (key : ScopeKey) (x : d.Declared) → IsHome scopes names all key x → is_written_key names n symbol key ≡ (e.has_identifier x && o.is_declared_in all scope (alone symbol) x)
    one key x is = ap₂ (λ (a : Bool) (b : Bool). a && b) (scope-agrees scopes ordered n scope at_n key.0 (o.home_of all x) is.scope) (ap (λ y. is_written_name symbol y) is.name) ∙ by_name (s.same_scope (o.home_of all x) scope) x.name

-- what is declared there is declared without a context, or by an identifier
declared-split : (all : List d.Declared) (scope : s.Scope) (symbol : List ℕ) (x : d.Declared) → ((s.same_scope (o.home_of all x) scope && exactly x.name (alone symbol)) || (e.has_identifier x && o.is_declared_in all scope (alone symbol) x)) ≡ o.is_declared_in all scope (alone symbol) x
declared-split all scope symbol x = by (s.same_scope (o.home_of all x) scope) (bytes_eq x.name.sym symbol) x.name.ctxt
  where
    by : (t u : Bool) (ctxt : Option ℕ) → ((t && (u && option_eq nat_eq ctxt None)) || (is_some ctxt && (t && (u && d.contexts_agree ctxt None)))) ≡ (t && (u && d.contexts_agree ctxt None))
    by true true None = refl
    by true true (Some c) = refl
    by true false None = refl
    by true false (Some c) = refl
    by false u None = refl
    by false u (Some c) = refl

-- a scope binds the symbol though no identifier declares it there
pub implied-by_key : (scopes : List NumberedScope) (names : List d.Name) (all : List d.Declared) → AreInOrder scopes → IsOnce names → (n number : ℕ) (scope : s.Scope) (symbol : List ℕ) → numbered_scope_at scopes n ≡ Some scope → slice_get names number ≡ Some (alone symbol) → (keys : List ScopeKey) → AllZip (IsHome scopes names all) keys all → (list_any (same_key (n, number)) keys && not (list_any (is_written_key names n symbol) keys)) ≡ (o.declares all scope (alone symbol) && not (e.is_written_in all scope (alone symbol)))
implied-by_key scopes names all ordered once n number scope symbol at_n at_number keys known =
    ap₂ (λ (a : Bool) (b : Bool). a && not b) plain written ∙ only (list_any (λ x. s.same_scope (o.home_of all x) scope && exactly x.name (alone symbol)) all) (e.is_written_in all scope (alone symbol)) ∙ ap (λ t. t && not (e.is_written_in all scope (alone symbol))) split
  where
    plain : list_any (same_key (n, number)) keys ≡ list_any (λ x. s.same_scope (o.home_of all x) scope && exactly x.name (alone symbol)) all
    plain = list_any-zipped (IsHome scopes names all) (same_key (n, number)) (λ x. s.same_scope (o.home_of all x) scope && exactly x.name (alone symbol)) (at_key scopes names all ordered once n number scope (alone symbol) at_n at_number) keys all known

    written : list_any (is_written_key names n symbol) keys ≡ e.is_written_in all scope (alone symbol)
    written = written-by_key scopes names all ordered n scope symbol at_n keys all known

    only : (a b : Bool) → (a && not b) ≡ ((a || b) && not b)
    only true b = refl
    only false true = refl
    only false false = refl

    split : (list_any (λ x. s.same_scope (o.home_of all x) scope && exactly x.name (alone symbol)) all || e.is_written_in all scope (alone symbol)) ≡ o.declares all scope (alone symbol)
    split = list_any-or (λ x. s.same_scope (o.home_of all x) scope && exactly x.name (alone symbol)) (λ x. e.has_identifier x && o.is_declared_in all scope (alone symbol) x) all ∙ list_any-same (λ x. (s.same_scope (o.home_of all x) scope && exactly x.name (alone symbol)) || (e.has_identifier x && o.is_declared_in all scope (alone symbol) x)) (o.is_declared_in all scope (alone symbol)) (declared-split all scope symbol) all

-- nothing is implied whose name has no number
pub implied-nowhere : (scopes : List NumberedScope) (names : List d.Name) (all : List d.Declared) (scope : s.Scope) (symbol : List ℕ) → ((number : ℕ) → slice_get names number ≡ Some (alone symbol) → ⊥) → (keys : List ScopeKey) → AllZip (IsHome scopes names all) keys all → (o.declares all scope (alone symbol) && not (e.is_written_in all scope (alone symbol))) ≡ false
implied-nowhere scopes names all scope symbol absent keys known = ap (λ t. t && not (e.is_written_in all scope (alone symbol))) (sym split) ∙ ap (λ t. (t || e.is_written_in all scope (alone symbol)) && not (e.is_written_in all scope (alone symbol))) (none keys all known) ∙ never (e.is_written_in all scope (alone symbol))
  where
    never : (t : Bool) → ((false || t) && not t) ≡ false
    never true = refl
    never false = refl

    split : (list_any (λ x. s.same_scope (o.home_of all x) scope && exactly x.name (alone symbol)) all || e.is_written_in all scope (alone symbol)) ≡ o.declares all scope (alone symbol)
    split = list_any-or (λ x. s.same_scope (o.home_of all x) scope && exactly x.name (alone symbol)) (λ x. e.has_identifier x && o.is_declared_in all scope (alone symbol) x) all ∙ list_any-same (λ x. (s.same_scope (o.home_of all x) scope && exactly x.name (alone symbol)) || (e.has_identifier x && o.is_declared_in all scope (alone symbol) x)) (o.is_declared_in all scope (alone symbol)) (declared-split all scope symbol) all

    shut : (a : Bool) → (a && false) ≡ false
    shut true = refl
    shut false = refl

    fails : (key : ScopeKey) (x : d.Declared) → IsHome scopes names all key x → (t : Bool) → exactly x.name (alone symbol) ≡ t → (s.same_scope (o.home_of all x) scope && t) ≡ false
    fails key x known true is = absurd (absent key.1 (known.name ∙ ap (λ y. Some y) ((exactly-Decides x.name (alone symbol)).0 is)))
    fails key x known false is = shut (s.same_scope (o.home_of all x) scope)

    none : (keys : List ScopeKey) (some : List d.Declared) → AllZip (IsHome scopes names all) keys some → list_any (λ x. s.same_scope (o.home_of all x) scope && exactly x.name (alone symbol)) some ≡ false
    none [] [] known = refl
    none [] (x ∷ xs) known = absurd known
    none (k ∷ ks) [] known = absurd known
    none (k ∷ ks) (x ∷ xs) known = or_from (s.same_scope (o.home_of all x) scope && exactly x.name (alone symbol)) (list_any (λ y. s.same_scope (o.home_of all y) scope && exactly y.name (alone symbol)) xs) (fails k x known.0 (exactly x.name (alone symbol)) refl) (none ks xs known.1)
