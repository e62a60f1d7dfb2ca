-- The number of a key that was found says what the nearest scope with the name is.
use Rattle.std.proofs.Common.{◌≡◌, ℕ, Bool, true, false, ◌||◌, ◌++◌, ◌∷◌, [], Option, Some, None, List, get_or, if◌then◌else◌, map, refl, ap, ap₂, sym, ◌∙◌, subst}
use Rattle.std.specs.Prelude.{slice_get, is_some, position}
use Rattle.std.specs.List.{list_any}
use Rattle.std.proofs.lemmas.Bool.{false≢true}
use Rattle.std.proofs.lemmas.Option.{slice_get-get_or}
use Rattle.bundle_rules.specs.Declarations as d
use Rattle.bundle_scope_denote.specs.declared.denote.BindingSearch.{BindingSearch}
use Rattle.bundle_scope_denote.specs.declared.table.Scope.{Scope}
use Rattle.bundle_scope_denote.specs.declared.walk.ScopeWalk.{ScopeWalk}
use Rattle.bundle_scope_denote.specs.Numbers.{NumberedScope, numbered_scope}
use Rattle.bundle_scope_denote.specs.Chains.{nearest_at}
use Rattle.bundle_scope_denote.specs.Steps.{scopes_of}
use Rattle.bundle_scope_denote.specs.Bound.{ScopeKey, same_key, binds_at, NumberOf}
use Rattle.bundle_scope_denote.specs.Searched.{keys_of, put_found, Puts}
use Rattle.bundle_scope_denote.proofs.InsertLemmas.{list_any-here, same_key-refl, same_key-true}
use Rattle.std.proofs.lemmas.List.Quantifiers.{position-Some}

-- a key that was found is there
key-at : (keys : List ScopeKey) (key : ScopeKey) (number : ℕ) → Some number ≡ position (same_key key) keys → slice_get keys number ≡ Some key
key-at keys key number is =
    let known = position-Some (same_key key) keys number key (sym is) in
    slice_get-get_or keys number key known.0 ∙ ap (λ (k : ScopeKey). Some k) (sym (same_key-true key (get_or keys number key) known.1))

without_more : (t : Bool) → (t || false) ≡ t
without_more true = refl
without_more false = refl

-- the scope binds the name where its key was found
pub key-binds : (scopes : List NumberedScope) (keys : List ScopeKey) (name scope : ℕ) (found : Option ℕ) → is_some found ≡ list_any (same_key (scope, name)) keys → is_some found ≡ true → binds_at scopes keys false name scope ≡ true
key-binds scopes keys name scope found is some = without_more (list_any (same_key (scope, name)) keys) ∙ sym is ∙ some

-- and does not where it was not
pub key-missing : (scopes : List NumberedScope) (keys : List ScopeKey) (name scope : ℕ) (found : Option ℕ) → is_some found ≡ list_any (same_key (scope, name)) keys → is_some found ≡ false → binds_at scopes keys false name scope ≡ false
key-missing scopes keys name scope found is none = without_more (list_any (same_key (scope, name)) keys) ∙ sym is ∙ none

-- the number of the key that was found in the nearest scope
pub number-there : (keys : List ScopeKey) (name scope : ℕ) (found nearest : Option ℕ) → found ≡ position (same_key (scope, name)) keys → is_some found ≡ true → Some scope ≡ nearest → NumberOf keys name nearest found
number-there keys name scope None nearest at some is = absurd (false≢true some)
number-there keys name scope (Some number) nearest at some is = subst (λ (n : Option ℕ). NumberOf keys name n (Some number)) is (key-at keys (scope, name) number at)

-- and none where no scope has the name
pub number-nowhere : (keys : List ScopeKey) (name : ℕ) (nearest : Option ℕ) → None ≡ nearest → NumberOf keys name nearest None
number-nowhere keys name nearest is = subst (λ (n : Option ℕ). NumberOf keys name n None) is tt

-- a scope was found just where a number was
pub number-some : (keys : List ScopeKey) (name : ℕ) (nearest found : Option ℕ) → NumberOf keys name nearest found → is_some nearest ≡ is_some found
number-some keys name None None known = refl
number-some keys name None (Some number) known = absurd known
number-some keys name (Some scope) None known = absurd known
number-some keys name (Some scope) (Some number) known = refl

-- the same by the scopes of a walk, of a name that functions do not bind without a declaration
pub nearest-walk : (walk : ScopeWalk) (scopes : List Scope) (keys : List ScopeKey) (adds : Bool) (number from : ℕ) (found : Option ℕ) → scopes ≡ walk.scopes.items → adds ≡ false → NumberOf keys number (nearest_at (map numbered_scope scopes) (binds_at (map numbered_scope scopes) keys false number) from) found → NumberOf keys number (nearest_at (scopes_of walk) (binds_at (scopes_of walk) keys adds number) from) found
nearest-walk walk scopes keys adds number from found same_scopes none known = subst (λ (n : Option ℕ). NumberOf keys number n found) (ap₂ (λ (l : List Scope) (t : Bool). nearest_at (map numbered_scope l) (binds_at (map numbered_scope l) keys t number) from) same_scopes (sym none)) known

-- nothing has to be put where the key is there
pub puts-there : (search : BindingSearch) (nearest : Option ℕ) (name : d.Name) (number : ℕ) (found : Option ℕ) → NumberOf (keys_of search) number nearest found → Puts search search nearest name number found
puts-there search nearest name number found known = record {
  keys = kept nearest found known;
  result_number = known;
  matches = λ names at matched. matched;
  implied = refl;
}
  where
    kept : (nearest found : Option ℕ) → NumberOf (keys_of search) number nearest found → keys_of search ≡ put_found (keys_of search) nearest number
    kept None found known = refl
    kept (Some scope) None known = absurd known
    kept (Some scope) (Some at) known = sym (ap (λ t. if t then keys_of search else keys_of search ++ (scope, number) ∷ []) (list_any-here (same_key (scope, number)) (keys_of search) at (scope, number) known (same_key-refl (scope, number))))
