-- The numbers from a scope on outwards are those of the scopes around.
use Rattle.std.proofs.Common.{◌≡◌, ◌<◌, ℕ, zero, suc, List, [], ◌∷◌, Option, Some, None, option_map, refl, ap, sym, ◌∙◌, subst, arith, ⊎_elim}
use Rattle.std.specs.Prelude.{slice_get, option_and_then}
use Rattle.std.specs.List.{AllZip}
use Rattle.std.proofs.lemmas.Bool.{cases_order}
use Rattle.std.proofs.lemmas.Option.{none-some, same_Some}
use Rattle.bundle_rules.specs.Scopes as s
use Rattle.bundle_scope_denote.specs.Numbers.{NumberedScope, AreAround}
use Rattle.bundle_scope_denote.specs.Chains.{numbered_scope_at, scopes_outwards, AreInOrder, IsOnlyTopOf}

-- from nothing on there is nothing
pub outwards-none : (scopes : List NumberedScope) (more : ℕ) → scopes_outwards scopes more None ≡ []
outwards-none scopes zero = refl
outwards-none scopes (suc more) = refl

-- a number is that of a scope
abbrev pub IsScopeAt : List NumberedScope → ℕ → s.Scope → Type 0
IsScopeAt scopes number scope = numbered_scope_at scopes number ≡ Some scope

pub outwards-around : (scopes : List NumberedScope) → AreInOrder scopes → (more number : ℕ) (around : List s.Scope) → number < more → AreAround scopes (Some number) around → AllZip (IsScopeAt scopes) (scopes_outwards scopes more (Some number)) around
outwards-around scopes ordered zero number around within known = absurd (omega arith)
outwards-around scopes ordered (suc more) number [] within known = absurd known
outwards-around scopes ordered (suc more) number (scope ∷ outer) within known =
    (ap (option_map (λ (x : NumberedScope). x.scope)) known.1 ∙ ap (λ x. Some x) known.2, subst (λ o. AllZip (IsScopeAt scopes) (scopes_outwards scopes more o) outer) (sym (ap (option_and_then (λ (x : NumberedScope). x.outer)) known.1)) (beyond (λ next. outwards-around scopes ordered more next outer) known.0.outer refl known.3))
  where
    beyond : ((next : ℕ) → next < more → AreAround scopes (Some next) outer → AllZip (IsScopeAt scopes) (scopes_outwards scopes more (Some next)) outer) → (o : Option ℕ) → known.0.outer ≡ o → AreAround scopes o outer → AllZip (IsScopeAt scopes) (scopes_outwards scopes more o) outer
    beyond further None is later = none_left outer later
      where
        none_left : (outer : List s.Scope) → AreAround scopes None outer → AllZip (IsScopeAt scopes) (scopes_outwards scopes more None) outer
        none_left [] later = subst (λ l. AllZip (IsScopeAt scopes) l []) (sym (outwards-none scopes more)) tt
        none_left (scope ∷ outer) later = absurd later
    beyond further (Some next) is later = let below : next < number = ordered.behind number next known.0 known.1 is in
        let within : next < more = omega arith in
        further next within later

-- a scope has one number
pub same-number : (scopes : List NumberedScope) → AreInOrder scopes → (i j : ℕ) (x y : NumberedScope) → slice_get scopes i ≡ Some x → slice_get scopes j ≡ Some y → s.scope_order x.scope ≡ s.scope_order y.scope → i ≡ j
same-number scopes ordered i j x y at_i at_j same = ⊎_elim (λ e. e) (λ apart. absurd (⊎_elim (λ lt. let less : s.scope_order x.scope < s.scope_order y.scope = ordered.rising i j x y lt at_i at_j in below less) (λ lt. let less : s.scope_order y.scope < s.scope_order x.scope = ordered.rising j i y x lt at_j at_i in above less) apart)) (cases_order i j)
  where
    below : s.scope_order x.scope < s.scope_order y.scope → ⊥
    below less = omega arith

    above : s.scope_order y.scope < s.scope_order x.scope → ⊥
    above less = omega arith

-- there is an element where a number finds something
pub entry-at : (scopes : List NumberedScope) (number : ℕ) (scope : s.Scope) → numbered_scope_at scopes number ≡ Some scope → (x : NumberedScope) × (slice_get scopes number ≡ Some x) × (x.scope ≡ scope)
entry-at scopes number scope at = found (slice_get scopes number) refl at
  where
    found : (e : Option NumberedScope) → slice_get scopes number ≡ e → option_map (λ (x : NumberedScope). x.scope) e ≡ Some scope → (x : NumberedScope) × (slice_get scopes number ≡ Some x) × (x.scope ≡ scope)
    found None is at = absurd (none-some scope at)
    found (Some x) is at = (x, is, same_Some x.scope scope at)

pub same-scope : (scopes : List NumberedScope) → AreInOrder scopes → (i j : ℕ) (a b : s.Scope) → numbered_scope_at scopes i ≡ Some a → numbered_scope_at scopes j ≡ Some b → s.scope_order a ≡ s.scope_order b → i ≡ j
same-scope scopes ordered i j a b at_i at_j same =
    let one = entry-at scopes i a at_i in
    let two = entry-at scopes j b at_j in
    same-number scopes ordered i j one.0 two.0 one.1 two.1 (ap s.scope_order one.2 ∙ same ∙ sym (ap s.scope_order two.2))

-- the first of the scopes around is that with the number
first-at : (scopes : List NumberedScope) (number : ℕ) (scope : s.Scope) (outer : List s.Scope) → AreAround scopes (Some number) (scope ∷ outer) → numbered_scope_at scopes number ≡ Some scope
first-at scopes number scope outer known = ap (option_map (λ (x : NumberedScope). x.scope)) known.1 ∙ ap (λ x. Some x) known.2

top-at : (scopes : List NumberedScope) (top : ℕ) (kind : s.ModuleKind) → AreAround scopes (Some top) (s.outermost kind) → numbered_scope_at scopes top ≡ Some s.Top
top-at scopes top s.Es known = first-at scopes top s.Top [] known
top-at scopes top s.Cjs known = first-at scopes top s.Top (s.Wrapper ∷ []) known

-- the top has one number
pub only-top : (scopes : List NumberedScope) (top : ℕ) (kind : s.ModuleKind) → AreInOrder scopes → AreAround scopes (Some top) (s.outermost kind) → IsOnlyTopOf scopes top
only-top scopes top kind ordered known number scope at = (
  λ e. same-scope scopes ordered number top scope s.Top at (top-at scopes top kind known) (ap s.scope_order e),
  λ e. same_Some scope s.Top (sym at ∙ (ap (λ n. numbered_scope_at scopes n) e ∙ top-at scopes top kind known)),
)
