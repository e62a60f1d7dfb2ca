-- The number of the scope to which a declared name belongs.
use Rattle.std.proofs.Common.{◌≡◌, ◌<◌, ℕ, zero, suc, Bool, true, false, cond, List, [], ◌∷◌, Option, Some, None, option_map, unwrap_or, find, length, refl, ap, sym, ◌∙◌, subst, arith}
use Rattle.std.specs.Prelude.{option_and_then}
use Rattle.std.specs.List.{list_any}
use Rattle.std.proofs.lemmas.Option.{slice_get_within}
use Rattle.bundle_rules.specs.Scopes as s
use Rattle.bundle_rules.specs.Declarations as d
use Rattle.bundle_rules.specs.Homes as o
use Rattle.bundle_scope_denote.specs.Numbers.{NumberedScope, AreAround}
use Rattle.bundle_scope_denote.specs.Chains.{numbered_scope_at, outer_at, passes, scopes_outwards, nearest_at, AreInOrder}
use Rattle.bundle_scope_denote.specs.Bound.{has_parameters, beside_at, beside_or, home_from}
use Rattle.bundle_scope_denote.proofs.OutwardLemmas.{outwards-none}

-- what a test says of the scope with a number
pub passes-at : (test : s.Scope → Bool) (scopes : List NumberedScope) (number : ℕ) (scope : s.Scope) → numbered_scope_at scopes number ≡ Some scope → passes test scopes number ≡ test scope
passes-at test scopes number scope at = ap (λ x. unwrap_or (option_map test x) false) at

-- the scope with the first number around
pub scope-around : (scopes : List NumberedScope) (number : ℕ) (scope : s.Scope) (outer : List s.Scope) → AreAround scopes (Some number) (scope ∷ outer) → numbered_scope_at scopes number ≡ Some scope
scope-around scopes number scope outer known = ap (option_map (λ (x : NumberedScope). x.scope)) known.1 ∙ ap (λ x. Some x) known.2

-- and the rest is around it
pub rest-around : (scopes : List NumberedScope) (number : ℕ) (scope : s.Scope) (outer : List s.Scope) → AreAround scopes (Some number) (scope ∷ outer) → AreAround scopes (outer_at scopes number) outer
rest-around scopes number scope outer known = subst (λ o. AreAround scopes o outer) (sym (ap (option_and_then (λ (x : NumberedScope). x.outer)) known.1)) known.3

pub number-around : (scopes : List NumberedScope) (number : ℕ) (around : List s.Scope) → AreAround scopes (Some number) around → number < length scopes
number-around scopes number [] known = absurd known
number-around scopes number (scope ∷ outer) known = slice_get_within scopes number known.0 known.1

-- the next number is smaller
next-smaller : (scopes : List NumberedScope) → AreInOrder scopes → (number next : ℕ) (scope : s.Scope) (outer : List s.Scope) → AreAround scopes (Some number) (scope ∷ outer) → outer_at scopes number ≡ Some next → next < number
next-smaller scopes ordered number next scope outer known is = ordered.behind number next known.0 known.1 (sym (ap (option_and_then (λ (x : NumberedScope). x.outer)) known.1) ∙ is)

-- the scopes from the taker on
taken-around : (scopes : List NumberedScope) → AreInOrder scopes → (way : d.Way) (more number : ℕ) (around : List s.Scope) → number < more → AreAround scopes (Some number) around → AreAround scopes (find (passes (o.takes way) scopes) (scopes_outwards scopes more (Some number))) (o.from_taker way around)
taken-around scopes ordered way zero number around within known = absurd (omega arith)
taken-around scopes ordered way (suc more) number [] within known = absurd known
taken-around scopes ordered way (suc more) number (scope ∷ outer) within known =
    subst (λ t. AreAround scopes (cond t (Some number) (find (passes (o.takes way) scopes) (scopes_outwards scopes more (outer_at scopes number)))) (o.from_taker way (scope ∷ outer))) (sym (passes-at (o.takes way) scopes number scope (scope-around scopes number scope outer known))) (by (λ next. taken-around scopes ordered way more next outer) (o.takes way scope))
  where
    further : ((next : ℕ) → next < more → AreAround scopes (Some next) outer → AreAround scopes (find (passes (o.takes way) scopes) (scopes_outwards scopes more (Some next))) (o.from_taker way outer)) → (next : Option ℕ) → outer_at scopes number ≡ next → AreAround scopes next outer → AreAround scopes (find (passes (o.takes way) scopes) (scopes_outwards scopes more next)) (o.from_taker way outer)
    further ih None is later = at_end outer later
      where
        at_end : (outer : List s.Scope) → AreAround scopes None outer → AreAround scopes (find (passes (o.takes way) scopes) (scopes_outwards scopes more None)) (o.from_taker way outer)
        at_end [] later = subst (λ l. AreAround scopes (find (passes (o.takes way) scopes) l) []) (sym (outwards-none scopes more)) tt
        at_end (x ∷ xs) later = absurd later
    further ih (Some next) is later = let below : next < number = next-smaller scopes ordered number next scope outer known is in
        let inside : next < more = omega arith in
        ih next inside later

    by : ((next : ℕ) → next < more → AreAround scopes (Some next) outer → AreAround scopes (find (passes (o.takes way) scopes) (scopes_outwards scopes more (Some next))) (o.from_taker way outer)) → (t : Bool) → AreAround scopes (cond t (Some number) (find (passes (o.takes way) scopes) (scopes_outwards scopes more (outer_at scopes number)))) (cond t (scope ∷ outer) (o.from_taker way outer))
    by ih true = known
    by ih false = further ih (outer_at scopes number) refl (rest-around scopes number scope outer known)

pub taker-around : (scopes : List NumberedScope) → AreInOrder scopes → (way : d.Way) (number : ℕ) (around : List s.Scope) → AreAround scopes (Some number) around → AreAround scopes (nearest_at scopes (passes (o.takes way) scopes) number) (o.from_taker way around)
taker-around scopes ordered way number around known = taken-around scopes ordered way (length scopes) number around (number-around scopes number around known) known

-- the first scope outside all nodes is the top
pub scope-top : (scopes : List NumberedScope) (top : ℕ) (kind : s.ModuleKind) → AreAround scopes (Some top) (s.outermost kind) → numbered_scope_at scopes top ≡ Some s.Top
scope-top scopes top s.Es known = scope-around scopes top s.Top [] known
scope-top scopes top s.Cjs known = scope-around scopes top s.Top (s.Wrapper ∷ []) known

-- the scope that takes a name, or the top
pub taker-at : (scopes : List NumberedScope) (top : ℕ) (kind : s.ModuleKind) → AreAround scopes (Some top) (s.outermost kind) → (taken : Option ℕ) (rest : List s.Scope) → AreAround scopes taken rest → numbered_scope_at scopes (unwrap_or taken top) ≡ Some (unwrap_or (o.nearest rest) s.Top)
taker-at scopes top kind outermost None [] known = scope-top scopes top kind outermost
taker-at scopes top kind outermost None (x ∷ xs) known = absurd known
taker-at scopes top kind outermost (Some n) [] known = absurd known
taker-at scopes top kind outermost (Some n) (scope ∷ outer) known = scope-around scopes n scope outer known

parameters_of-beside : (scope : s.Scope) (outer : List s.Scope) → o.parameters_of (scope ∷ outer) ≡ cond (has_parameters scope) (o.nearest outer) None
parameters_of-beside s.Wrapper outer = refl
parameters_of-beside s.Top outer = refl
parameters_of-beside (s.Inner s.FunctionBody begins) outer = refl
parameters_of-beside (s.Inner s.Parameters begins) outer = refl
parameters_of-beside (s.Inner s.ArrowParameters begins) outer = refl
parameters_of-beside (s.Inner s.StaticBody begins) outer = refl
parameters_of-beside (s.Inner s.Block begins) outer = refl
parameters_of-beside (s.Inner s.CatchBlock begins) outer = refl
parameters_of-beside (s.Inner s.Loop begins) outer = refl
parameters_of-beside (s.Inner s.Catch begins) outer = refl
parameters_of-beside (s.Inner s.FunctionName begins) outer = refl
parameters_of-beside (s.Inner s.ClassName begins) outer = refl

-- the home beside, or the taker
home-beside : (scopes : List NumberedScope) (all : List d.Declared) (x : d.Declared) (is_parameter : ℕ → Bool) (body : ℕ) → numbered_scope_at scopes body ≡ Some (o.taker x) → ((number : ℕ) (scope : s.Scope) → numbered_scope_at scopes number ≡ Some scope → is_parameter number ≡ list_any (o.is_parameter scope x.name) all) → (beside : Option ℕ) (outer : List s.Scope) → AreAround scopes beside outer → numbered_scope_at scopes (beside_or is_parameter body beside) ≡ Some (o.home_beside all x (o.nearest outer))
home-beside scopes all x is_parameter body at tells None [] known = at
home-beside scopes all x is_parameter body at tells None (scope ∷ outer) known = absurd known
home-beside scopes all x is_parameter body at tells (Some beside) [] known = absurd known
home-beside scopes all x is_parameter body at tells (Some beside) (scope ∷ outer) known =
    let there = scope-around scopes beside scope outer known in
    subst (λ t. numbered_scope_at scopes (cond t beside body) ≡ Some (o.home_beside all x (Some scope))) (sym (tells beside scope there)) (by (list_any (o.is_parameter scope x.name) all))
  where
    by : (t : Bool) → numbered_scope_at scopes (cond t beside body) ≡ Some (cond t scope (o.taker x))
    by true = scope-around scopes beside scope outer known
    by false = at

-- the scope to which a declared name belongs
pub home-at : (scopes : List NumberedScope) (top : ℕ) (kind : s.ModuleKind) → AreAround scopes (Some top) (s.outermost kind) → (all : List d.Declared) (x : d.Declared) (is_parameter : ℕ → Bool) → (o.joins_parameter x.by ≡ true → (number : ℕ) (scope : s.Scope) → numbered_scope_at scopes number ≡ Some scope → is_parameter number ≡ list_any (o.is_parameter scope x.name) all) → (taken : Option ℕ) → AreAround scopes taken (o.from_taker x.by x.scopes) → numbered_scope_at scopes (home_from scopes top (o.joins_parameter x.by) is_parameter taken) ≡ Some (o.home_of all x)
home-at scopes top kind outermost all x is_parameter tells taken known = by (o.from_taker x.by x.scopes) refl taken known
  where
    home_by : (rest : List s.Scope) → o.from_taker x.by x.scopes ≡ rest → o.home_of all x ≡ cond (o.joins_parameter x.by) (o.home_beside all x (o.parameters_of rest)) (o.taker x)
    home_by rest is = ap (λ r. cond (o.joins_parameter x.by) (o.home_beside all x (o.parameters_of r)) (o.taker x)) is

    taker_by : (rest : List s.Scope) → o.from_taker x.by x.scopes ≡ rest → o.taker x ≡ unwrap_or (o.nearest rest) s.Top
    taker_by rest is = ap (λ r. unwrap_or (o.nearest r) s.Top) is

    same : {X : Type 0} (t : Bool) (y : X) → cond t y y ≡ y
    same true y = refl
    same false y = refl

    in_body : (scope : s.Scope) (outer : List s.Scope) (n : ℕ) → o.from_taker x.by x.scopes ≡ scope ∷ outer → AreAround scopes (Some n) (scope ∷ outer) → (joins : Bool) → o.joins_parameter x.by ≡ joins → numbered_scope_at scopes (cond joins (beside_or is_parameter n (beside_at scopes n)) n) ≡ Some (cond joins (o.home_beside all x (o.parameters_of (scope ∷ outer))) (o.taker x))
    in_body scope outer n is around false joins = scope-around scopes n scope outer around ∙ ap (λ y. Some y) (sym (taker_by (scope ∷ outer) is))
    in_body scope outer n is around true joins =
        let at : numbered_scope_at scopes n ≡ Some scope = scope-around scopes n scope outer around in
        ap (λ t. numbered_scope_at scopes (beside_or is_parameter n (cond t (outer_at scopes n) None))) (passes-at has_parameters scopes n scope at) ∙ beside_in (has_parameters scope) ∙ ap (λ r. Some (o.home_beside all x r)) (sym (parameters_of-beside scope outer))
      where
        beside_in : (t : Bool) → numbered_scope_at scopes (beside_or is_parameter n (cond t (outer_at scopes n) None)) ≡ Some (o.home_beside all x (cond t (o.nearest outer) None))
        beside_in false = scope-around scopes n scope outer around ∙ ap (λ y. Some y) (sym (taker_by (scope ∷ outer) is))
        beside_in true = home-beside scopes all x is_parameter n (scope-around scopes n scope outer around ∙ ap (λ y. Some y) (sym (taker_by (scope ∷ outer) is))) (tells joins) (outer_at scopes n) outer (rest-around scopes n scope outer around)

    by : (rest : List s.Scope) → o.from_taker x.by x.scopes ≡ rest → (taken : Option ℕ) → AreAround scopes taken rest → numbered_scope_at scopes (home_from scopes top (o.joins_parameter x.by) is_parameter taken) ≡ Some (o.home_of all x)
    by [] is None around = scope-top scopes top kind outermost ∙ ap (λ y. Some y) (sym (home_by [] is ∙ same (o.joins_parameter x.by) (o.taker x) ∙ taker_by [] is))
    by [] is (Some n) around = absurd around
    by (scope ∷ outer) is None around = absurd around
    by (scope ∷ outer) is (Some n) around = in_body scope outer n is around (o.joins_parameter x.by) refl ∙ ap (λ y. Some y) (sym (home_by (scope ∷ outer) is))
