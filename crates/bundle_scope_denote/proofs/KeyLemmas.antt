-- What a scope binds, by the keys of the declarations.
use Rattle.std.proofs.Common.{◌≡◌, ℕ, ◌==◌, Bool, true, false, not, ◌&&◌, ◌||◌, List, Option, Some, None, refl, ap, ap₂, sym, ◌∙◌, nat_eq, bytes_eq, eqb-true, eq-eqb, codes}
use Rattle.std.specs.Prelude.{slice_get, is_some}
use Rattle.std.specs.Bool.{Decides}
use Rattle.std.specs.Option.{option_eq}
use Rattle.std.specs.List.{AllZip, list_any}
use Rattle.std.proofs.lemmas.Bool.{false≢true, and_from, and_parts}
use Rattle.std.proofs.lemmas.Bool.Decides.{same_from_decides, Decides-eqb}
use Rattle.std.proofs.lemmas.Option.{none-some, same_Some}
use Rattle.std.proofs.lemmas.Slice.Eq.{bytes_eq-Decides}
use Rattle.bundle_rules.specs.Scopes as s
use Rattle.bundle_rules.specs.Declarations as d
use Rattle.bundle_rules.specs.Homes as o
use Rattle.bundle_rules.specs.Denotes as e
use Rattle.bundle_scope_denote.specs.Numbers.{NumberedScope}
use Rattle.bundle_scope_denote.specs.Chains.{numbered_scope_at, AreInOrder, IsOnce}
use Rattle.bundle_scope_denote.specs.Bound.{ScopeKey, same_key, exactly, IsHome, IsDeclaredAs, reads, adds, is_name_bound, declares_in}
use Rattle.bundle_scope_denote.proofs.ZipLemmas.{list_any-zipped}
use Rattle.bundle_scope_denote.proofs.OutwardLemmas.{same-scope}

option_eq-Decides : (a b : Option ℕ) → Decides (option_eq nat_eq a b) (a ≡ b)
option_eq-Decides None None = (λ e. refl, λ e. refl)
option_eq-Decides None (Some b) = (λ e. absurd (false≢true e), λ e. absurd (none-some b e))
option_eq-Decides (Some a) None = (λ e. absurd (false≢true e), λ e. absurd (none-some a (sym e)))
option_eq-Decides (Some a) (Some b) = (λ e. ap (λ x. Some x) (eqb-true a b e), λ e. eq-eqb a b (same_Some a b e))

-- names are the same if their symbols and contexts are
pub exactly-Decides : (a b : d.Name) → Decides (exactly a b) (a ≡ b)
exactly-Decides a b = (λ e. same (and_parts (bytes_eq a.sym b.sym) (option_eq nat_eq a.ctxt b.ctxt) e), λ e. and_from (bytes_eq a.sym b.sym) (option_eq nat_eq a.ctxt b.ctxt) ((bytes_eq-Decides a.sym b.sym).1 (ap (λ (x : d.Name). x.sym) e)) ((option_eq-Decides a.ctxt b.ctxt).1 (ap (λ (x : d.Name). x.ctxt) e)))
  where
    same : (bytes_eq a.sym b.sym ≡ true) × (option_eq nat_eq a.ctxt b.ctxt ≡ true) → a ≡ b
    same both = ap₂ (λ (sym : List ℕ) (ctxt : Option ℕ). let name : d.Name = record { sym = sym; ctxt = ctxt } in name) ((bytes_eq-Decides a.sym b.sym).0 both.0) ((option_eq-Decides a.ctxt b.ctxt).0 both.1)

-- numbers agree exactly if the scopes do
pub scope-agrees : (scopes : List NumberedScope) → AreInOrder scopes → (n : ℕ) (scope : s.Scope) → numbered_scope_at scopes n ≡ Some scope → (m : ℕ) (other : s.Scope) → numbered_scope_at scopes m ≡ Some other → (n == m) ≡ s.same_scope other scope
scope-agrees scopes ordered n scope at_n m other at_other = same_from_decides (n == m) (s.same_scope other scope) (Decides-eqb n m) (λ e. same-scope scopes ordered n m scope other at_n at_other (sym (eqb-true (s.scope_order other) (s.scope_order scope) e)), λ e. eq-eqb (s.scope_order other) (s.scope_order scope) (ap s.scope_order (same_Some other scope (sym at_other ∙ ap (numbered_scope_at scopes) (sym e) ∙ at_n))))

-- a key is that of a scope and a name exactly if what has the key is
pub same_key-at : (scopes : List NumberedScope) (names : List d.Name) → AreInOrder scopes → IsOnce names → (n number : ℕ) (scope : s.Scope) (name : d.Name) → numbered_scope_at scopes n ≡ Some scope → slice_get names number ≡ Some name → (key : ScopeKey) (other : s.Scope) (other_name : d.Name) → numbered_scope_at scopes key.0 ≡ Some other → slice_get names key.1 ≡ Some other_name → same_key (n, number) key ≡ (s.same_scope other scope && exactly other_name name)
same_key-at scopes names ordered once n number scope name at_n at_number key other other_name at_other at_name = ap₂ (λ (a : Bool) (b : Bool). a && b) (scope-agrees scopes ordered n scope at_n key.0 other at_other) second
  where
    names_same : Decides (exactly other_name name) (number ≡ key.1)
    names_same = (λ e. once number key.1 name at_number (at_name ∙ ap (λ y. Some y) ((exactly-Decides other_name name).0 e)), λ e. (exactly-Decides other_name name).1 (same_Some other_name name (sym at_name ∙ ap (slice_get names) (sym e) ∙ at_number)))

    second : (number == key.1) ≡ exactly other_name name
    second = same_from_decides (number == key.1) (exactly other_name name) (Decides-eqb number key.1) names_same

pub at_key : (scopes : List NumberedScope) (names : List d.Name) (all : List d.Declared) → AreInOrder scopes → IsOnce names → (n number : ℕ) (scope : s.Scope) (name : d.Name) → numbered_scope_at scopes n ≡ Some scope → slice_get names number ≡ Some name → (key : ScopeKey) (x : d.Declared) → IsHome scopes names all key x → same_key (n, number) key ≡ (s.same_scope (o.home_of all x) scope && exactly x.name name)
at_key scopes names all ordered once n number scope name at_n at_number key x known = same_key-at scopes names ordered once n number scope name at_n at_number key (o.home_of all x) x.name known.scope known.name

-- where no context is read, names agree if they are the same
pub agree-plain : (a b : d.Name) → a.ctxt ≡ None → b.ctxt ≡ None → d.names_agree a b ≡ exactly a b
agree-plain a b first second = ap (λ t. bytes_eq a.sym b.sym && t) (both a.ctxt b.ctxt first second)
  where
    both : (x y : Option ℕ) → x ≡ None → y ≡ None → d.contexts_agree x y ≡ option_eq nat_eq x y
    both None None first second = refl
    both None (Some y) first second = absurd (none-some y (sym second))
    both (Some x) y first second = absurd (none-some x (sym first))

-- where a context is read, an identifier that agrees has it too
pub agree-read : (t : Bool) (a b : d.Name) → is_some b.ctxt ≡ true → (is_some a.ctxt && (t && d.names_agree a b)) ≡ (t && exactly a b)
agree-read t a b is = by t (bytes_eq a.sym b.sym) a.ctxt b.ctxt is
  where
    by : (t u : Bool) (x y : Option ℕ) → is_some y ≡ true → (is_some x && (t && (u && d.contexts_agree x y))) ≡ (t && (u && option_eq nat_eq x y))
    by t u x None is = absurd (false≢true is)
    by t u (Some x) (Some y) is = refl
    by true true None (Some y) is = refl
    by true false None (Some y) is = refl
    by false u None (Some y) is = refl

-- what a scope binds by declarations, in either reading, is what has its key
pub told-by_key : (reading : d.Reading) (scopes : List NumberedScope) (names : List d.Name) (all : List d.Declared) → AreInOrder scopes → IsOnce names → (n number : ℕ) (scope : s.Scope) (name : d.Name) → numbered_scope_at scopes n ≡ Some scope → slice_get names number ≡ Some name → reads reading name ≡ true → (keys : List ScopeKey) (some : List d.Declared) → AllZip (λ key x. IsHome scopes names all key x × IsDeclaredAs reading x) keys some → list_any (same_key (n, number)) keys ≡ list_any (λ x. declares_in reading all scope name x) some
told-by_key d.BySymbol scopes names all ordered once n number scope name at_n at_number fits keys some known =
    list_any-zipped (λ key x. IsHome scopes names all key x × IsDeclaredAs d.BySymbol x) (same_key (n, number)) (o.is_declared_in all scope name) (λ key x is. at_key scopes names all ordered once n number scope name at_n at_number key x is.0 ∙ ap (λ t. s.same_scope (o.home_of all x) scope && t) (sym (agree-plain x.name name is.1 (plain name.ctxt fits)))) keys some known
  where
    plain : (ctxt : Option ℕ) → not (is_some ctxt) ≡ true → ctxt ≡ None
    plain None e = refl
    plain (Some c) e = absurd (false≢true e)
told-by_key d.ByContext scopes names all ordered once n number scope name at_n at_number fits keys some known =
    list_any-zipped (λ key x. IsHome scopes names all key x × IsDeclaredAs d.ByContext x) (same_key (n, number)) (λ x. e.has_identifier x && o.is_declared_in all scope name x) (λ key x is. at_key scopes names all ordered once n number scope name at_n at_number key x is.0 ∙ sym (agree-read (s.same_scope (o.home_of all x) scope) x.name name fits)) keys some known

-- what a scope binds, in either reading
pub told-split : (reading : d.Reading) (all : List d.Declared) (scope : s.Scope) (name : d.Name) → reads reading name ≡ true → (list_any (λ x. declares_in reading all scope name x) all || (adds reading name && o.is_function scope)) ≡ is_name_bound reading all scope name
told-split d.ByContext all scope name fits = nothing (list_any (λ x. e.has_identifier x && o.is_declared_in all scope name x) all)
  where
    nothing : (t : Bool) → (t || false) ≡ t
    nothing true = refl
    nothing false = refl
told-split d.BySymbol all scope name fits = by_arguments (o.is_arguments name.sym) refl
  where
    plain : (ctxt : Option ℕ) → not (is_some ctxt) ≡ true → ctxt ≡ None
    plain None e = refl
    plain (Some c) e = absurd (false≢true e)

    by_declared : (b g : Bool) → (b || (true && g)) ≡ (b || (true && (g && not b)))
    by_declared true g = refl
    by_declared false true = refl
    by_declared false false = refl

    is_name : o.is_arguments name.sym ≡ true → name ≡ record { sym = codes "arguments"; ctxt = None }
    is_name e = ap₂ (λ (sym : List ℕ) (ctxt : Option ℕ). let name : d.Name = record { sym = sym; ctxt = ctxt } in name) ((bytes_eq-Decides name.sym (codes "arguments")).0 e) (plain name.ctxt fits)

    by_arguments : (t : Bool) → o.is_arguments name.sym ≡ t → (o.declares all scope name || (t && o.is_function scope)) ≡ (o.declares all scope name || (t && o.has_implicit_arguments all scope))
    by_arguments false is = refl
    by_arguments true is = by_declared (o.declares all scope name) (o.is_function scope) ∙ ap (λ x. o.declares all scope name || (true && (o.is_function scope && not (o.declares all scope x)))) (is_name is)
