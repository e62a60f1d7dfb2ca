-- The heart of the naming rule: with the symbols that it gives, each name denotes by its symbol alone what it denoted by
-- symbol and context. All stands where it stood.
use Rattle.std.proofs.Common.{◌≡◌, ◌<◌, ◌⊎◌, inl, inr, ℕ, zero, suc, ◌==◌, ◌&&◌, ◌||◌, not, nat_lt, Bool, true, false, cond, List, [], ◌∷◌, Option, Some, None, option_map, map, bytes_eq, find, codes, refl, ap, sym, ◌∙◌, subst, eq-eqb, eqb-true, lt-ltb, arith}
use Rattle.std.specs.Prelude.{is_some}
use Rattle.std.specs.List.{list_any}
use Rattle.std.proofs.lemmas.Bool.{false≢true, and_parts, and_from, and_left, and_right, or_cases, or_left, false_from_ne_true}
use Rattle.std.proofs.lemmas.Option.{none-some, same_Some}
use Rattle.std.proofs.lemmas.Slice.Eq.{bytes_eq-Decides}
use Rattle.bundle_rules.specs.Places.{Occurrence, is_binding}
use Rattle.bundle_rules.specs.Scopes.{Es, Scope, Top, scope_order, same_scope, scopes_around}
use Rattle.bundle_rules.specs.Declarations.{Way, BySymbol, ByContext, Name, names_agree, Declared, declared_by, declaration_of, way_of}
use Rattle.bundle_rules.specs.Homes.{is_parameters, is_wrapper, from_taker, taker, parameters_of, joins_parameter, is_parameter, home_beside, home_of, is_declared_in, declares, binds, is_arguments, is_function, has_implicit_arguments}
use Rattle.bundle_rules.specs.Denotes.{Denoted, Bound, Global, bound_in, denoted_in, own_or_found, denoted_of, has_identifier, is_written_in, is_implied_in, written_or_implied}
use Rattle.bundle_rules.specs.Renaming.{Numbering, numbered, number_of, symbol_of, symbol_after, is_kept_outside, group}
use Rattle.bundle_scope_names.proofs.naming_rule.Tables.{IsIn, list_any-in, any-here, find-in, find-congr, find-none_in, map-in, in-map, in-rest, Table, AreOf, same-known, rest-known, from-known, outer-below, taken-known, taker-outer, parameters-outer, parameters-group, no-wrapper, Setting, declared_as, IsSame, kept-symbol, agreed-with, has-context, agreed, agree-self, scopes-of, homed, homes-same, groups-same, apart, kept-by, group-apart, never-arguments, not-needed}
use Rattle.bundle_scope_names.proofs.HomesLemmas.{find-passes, find-failed, home-parameter}

-- a name that is read by its symbol
abbrev pub plain : List ℕ → Name
plain x = record { sym = x; ctxt = None }

-- a declaration with its new symbol, which is read by it
abbrev pub renamed_declared : Numbering → List Declared → Declared → Declared
renamed_declared numbers all d = record { place = d.place; name = record { sym = symbol_of numbers all d; ctxt = None }; by = d.by; scopes = d.scopes }

abbrev pub renamed_all : Numbering → List Declared → List Declared
renamed_all numbers all = map (renamed_declared numbers all) all

-- what is denoted, by its new symbol
abbrev pub as_named : Numbering → Denoted → Denoted
as_named numbers (Global x) = Global x
as_named numbers (Bound scope name) = Bound scope (plain (symbol_after numbers (Bound scope name)))

-- an occurrence with its new symbol
abbrev pub renamed_occurrence : Numbering → List Declared → Occurrence → Occurrence
renamed_occurrence numbers all o = record { place = o.place; sym = symbol_after numbers (denoted_of ByContext Es all o); ctxt = 0; role = o.role; path = o.path }

-- what is found, where each scope before it fails
find-at : (K : Table) (p : Scope → Bool) (scopes : List Scope) → AreOf K scopes → (t : Scope) → IsIn scopes t → p t ≡ true → ((s : Scope) → IsIn scopes s → scope_order t < scope_order s → p s ≡ false) → find p scopes ≡ Some t
find-at K p [] known t at passes fails = absurd (none-some t at.1)
find-at K p (x ∷ xs) known t (zero, at) passes fails = ap (λ b. cond b (Some x) (find p xs)) (ap p (same_Some x t at) ∙ passes) ∙ at
find-at K p (x ∷ xs) known t (suc i, at) passes fails =
    ap (λ b. cond b (Some x) (find p xs)) (fails x (0, refl) (outer-below K x xs known t (i, at)))
    ∙ find-at K p xs (rest-known K x xs known) t (i, at) passes (λ s there more. fails s (in-rest x xs s there) more)

-- what an occurrence denotes is one of three: a global, a declared name, or the implicit `arguments`
pub data IsSound (os : List Occurrence) (all : List Declared) : Denoted → Type 0 where
  OfGlobal : (x : List ℕ) → IsSound os all (Global x)
  OfDeclared : (d : Declared) → IsIn all d → IsSound os all (Bound (home_of all d) d.name)
  OfArguments : (scope : Scope) → IsSound os all (Bound scope (plain (codes "arguments")))

-- the parts of what is denoted
abbrev pub bound_symbol : Denoted → List ℕ
bound_symbol (Bound t n) = n.sym
bound_symbol (Global x) = x

abbrev pub bound_scope : Denoted → Scope
bound_scope (Bound t n) = t
bound_scope (Global x) = Top

module _ (K : Table) (numbers : Numbering) (os : List Occurrence) (all : List Declared) (s : Setting K numbers os all) where
  abbrev after : List Declared
  after = renamed_all numbers all

  abbrev new : Declared → Declared
  new d = renamed_declared numbers all d

  -- Where names belong.

  -- a parameter that a name is, it is afterwards
  parameter-more : (d : Declared) → IsIn all d → (t : Scope) → home_of all d ≡ t → (p : Declared) → IsIn all p → is_parameter t d.name p ≡ true → is_parameter t (new d).name (new p) ≡ true
  parameter-more d at t home p there is =
      let whole = and_parts ((is_parameters (taker p) || is_wrapper (taker p)) && same_scope (taker p) t) (names_agree p.name d.name) is in
      let parts = and_parts (is_parameters (taker p) || is_wrapper (taker p)) (same_scope (taker p) t) whole.0 in
      let belongs : home_of all p ≡ taker p = home-parameter all p parts.0 in
      let names : p.name ≡ d.name = agreed K os all s.shape p d there at whole.1 in
      let homes : home_of all p ≡ home_of all d = homes-same K os all s.shape p d there at (ap (λ u. same_scope u (home_of all d)) belongs ∙ ap (same_scope (taker p)) home ∙ parts.1) in
      let symbols : symbol_of numbers all p ≡ symbol_of numbers all d = ap (λ (n : Name). numbered n.sym (numbers (home_of all p) n)) names ∙ ap (λ u. numbered d.name.sym (numbers u d.name)) homes in
      and_from ((is_parameters (taker p) || is_wrapper (taker p)) && same_scope (taker p) t) _ whole.0 (and_from (bytes_eq (symbol_of numbers all p) (symbol_of numbers all d)) true ((bytes_eq-Decides (symbol_of numbers all p) (symbol_of numbers all d)).1 symbols) refl)

  -- and what is none, is none afterwards
  parameter-less : (d : Declared) → IsIn all d → (t : Scope) → parameters_of (from_taker d.by d.scopes) ≡ Some t → (p : Declared) → IsIn all p → is_parameter t (new d).name (new p) ≡ true → is_parameter t d.name p ≡ true
  parameter-less d at t beside p there is =
      let whole = and_parts ((is_parameters (taker p) || is_wrapper (taker p)) && same_scope (taker p) t) (names_agree (new p).name (new d).name) is in
      let parts = and_parts (is_parameters (taker p) || is_wrapper (taker p)) (same_scope (taker p) t) whole.0 in
      let symbols : symbol_of numbers all p ≡ symbol_of numbers all d = (bytes_eq-Decides (symbol_of numbers all p) (symbol_of numbers all d)).0 (and_parts (bytes_eq (symbol_of numbers all p) (symbol_of numbers all d)) true whole.1).0 in
      let its = taker-outer K p (scopes-of K os all s.shape p there) in
      let own : group p ≡ taker p = its.2 ∙ parameters-group (taker p) its.0 (no-wrapper K (taker p) its.0 its.1 parts.0) in
      let body = parameters-outer K (from_taker d.by d.scopes) t (taken-known K d.by d.scopes (scopes-of K os all s.shape d at)) beside in
      let groups : scope_order (group p) ≡ scope_order (group d) = ap scope_order own ∙ eqb-true (scope_order (taker p)) (scope_order t) parts.1 ∙ ap scope_order (sym body.2) in
      let same = group-apart K numbers os all s p d there at groups symbols in
      and_from ((is_parameters (taker p) || is_wrapper (taker p)) && same_scope (taker p) t) (names_agree p.name d.name) whole.0 (ap (λ (n : Name). names_agree n d.name) same.1 ∙ agree-self K os all s.shape d at)

  -- so the home of a name stays
  pub home-stays : (d : Declared) → IsIn all d → home_of after (new d) ≡ home_of all d
  home-stays d at = by_joins (joins_parameter d.by) refl
    where
      by_test : (t : Scope) → (parameters_of (from_taker d.by d.scopes)) ≡ Some t → home_of all d ≡ home_beside all d (Some t) → (b : Bool) → list_any (is_parameter t d.name) all ≡ b → list_any (is_parameter t (new d).name) after ≡ b
      by_test t e is true test =
          let home : home_of all d ≡ t = is ∙ ap (λ b. cond b t (taker d)) test in
          let found = list_any-in (is_parameter t d.name) all test in
          any-here (is_parameter t (new d).name) after (new found.0) (in-map new all found.0 found.1) (parameter-more d at t home found.0 found.1 found.2)
      by_test t e is false test = false_from_ne_true (list_any (is_parameter t (new d).name) after) (λ passes.
          let found = list_any-in (is_parameter t (new d).name) after passes in
          let from = map-in new all found.0 found.1 in
          false≢true (sym test ∙ any-here (is_parameter t d.name) all from.0 from.1 (parameter-less d at t e from.0 from.1 (ap (is_parameter t (new d).name) (sym from.2) ∙ found.2))))

      by_beside : (o : Option Scope) → (parameters_of (from_taker d.by d.scopes)) ≡ o → home_of all d ≡ home_beside all d o → home_beside after (new d) o ≡ home_beside all d o
      by_beside None e is = refl
      by_beside (Some t) e is = ap (λ b. cond b t (taker d)) (by_test t e is (list_any (is_parameter t d.name) all) refl)

      by_joins : (b : Bool) → joins_parameter d.by ≡ b → home_of after (new d) ≡ home_of all d
      by_joins false e = ap (λ b. cond b (home_beside after (new d) (parameters_of (from_taker d.by d.scopes))) (taker d)) e ∙ sym (ap (λ b. cond b (home_beside all d (parameters_of (from_taker d.by d.scopes))) (taker d)) e)
      by_joins true e =
          let is : home_of all d ≡ home_beside all d (parameters_of (from_taker d.by d.scopes)) = ap (λ b. cond b (home_beside all d (parameters_of (from_taker d.by d.scopes))) (taker d)) e in
          ap (λ b. cond b (home_beside after (new d) (parameters_of (from_taker d.by d.scopes))) (taker d)) e ∙ by_beside (parameters_of (from_taker d.by d.scopes)) refl is ∙ sym is

  -- What scopes bind.

  -- what a scope declares afterwards
  pub declared-from : (t : Scope) (x : List ℕ) → declares after t (plain x) ≡ true → (d : Declared) × IsIn all d × (scope_order (home_of all d) ≡ scope_order t) × (symbol_of numbers all d ≡ x)
  declared-from t x is =
      let found = list_any-in (is_declared_in after t (plain x)) after is in
      let from = map-in new all found.0 found.1 in
      let passes : is_declared_in after t (plain x) (new from.0) ≡ true = ap (is_declared_in after t (plain x)) (sym from.2) ∙ found.2 in
      let parts = and_parts (same_scope (home_of after (new from.0)) t) (names_agree (new from.0).name (plain x)) passes in
      (from.0, from.1, ap scope_order (sym (home-stays from.0 from.1)) ∙ eqb-true (scope_order (home_of after (new from.0))) (scope_order t) parts.0, (bytes_eq-Decides (symbol_of numbers all from.0) x).0 (and_parts (bytes_eq (symbol_of numbers all from.0) x) true parts.1).0)

  pub declared-here : (d : Declared) → IsIn all d → declares after (home_of all d) (plain (symbol_of numbers all d)) ≡ true
  declared-here d at =
      any-here (is_declared_in after (home_of all d) (plain (symbol_of numbers all d))) after (new d) (in-map new all d at)
      (and_from (same_scope (home_of after (new d)) (home_of all d)) _ (eq-eqb (scope_order (home_of after (new d))) (scope_order (home_of all d)) (ap scope_order (home-stays d at))) (and_from (bytes_eq (symbol_of numbers all d) (symbol_of numbers all d)) true ((bytes_eq-Decides (symbol_of numbers all d) (symbol_of numbers all d)).1 refl) refl))

  -- no scope declares `arguments` afterwards
  none-arguments : (t : Scope) → declares after t (plain (codes "arguments")) ≡ false
  none-arguments t = false_from_ne_true (declares after t (plain (codes "arguments"))) (λ is. let found = declared-from t (codes "arguments") is in never-arguments K numbers os all s found.0 found.1 found.3)

  -- a declared name's new symbol
  symbol-declared : (d : Declared) → IsIn all d → symbol_after numbers (Bound (home_of all d) d.name) ≡ symbol_of numbers all d
  symbol-declared d at = let has = has-context K os all s.shape d at in ap (λ c. cond (is_some c) (symbol_of numbers all d) d.name.sym) has.1

  -- each declared name has an identifier
  none-nameless : (t : Scope) (x : List ℕ) → (declares all t (plain x) && not (is_written_in all t (plain x))) ≡ false
  none-nameless t x = by_written (is_written_in all t (plain x)) refl
    where
      by_written : (b : Bool) → is_written_in all t (plain x) ≡ b → (declares all t (plain x) && not b) ≡ false
      by_written true is = and_right (declares all t (plain x)) false refl
      by_written false is = and_left (declares all t (plain x)) true (false_from_ne_true (declares all t (plain x)) (λ declared.
          let found = list_any-in (is_declared_in all t (plain x)) all declared in
          let has = has-context K os all s.shape found.0 found.1 in
          false≢true (sym is ∙ any-here (λ (d : Declared). has_identifier d && is_declared_in all t (plain x) d) all found.0 found.1 (and_from (has_identifier found.0) (is_declared_in all t (plain x) found.0) (ap is_some has.1) found.2))))

  module _ (o : Occurrence) (at : IsIn os o) where
    abbrev scopes : List Scope
    scopes = scopes_around Es o.path

    abbrev name : Name
    name = record { sym = o.sym; ctxt = Some o.ctxt }

    abbrev denoted : Denoted
    denoted = denoted_of ByContext Es all o

    around : (t : Scope) → IsIn scopes t → (ts : List Scope) × AreOf K (t ∷ ts)
    around t there = from-known K scopes (s.shape.known o at) t there

    -- no scope around a global binds its symbol afterwards
    global-free : denoted ≡ Global o.sym → find (λ t. binds after t (plain o.sym)) scopes ≡ None
    global-free global = find-none_in (λ t. binds after t (plain o.sym)) scopes (λ t there. false_from_ne_true (binds after t (plain o.sym)) (λ is. never t there (or_cases (declares after t (plain o.sym)) (is_arguments o.sym && has_implicit_arguments after t) is)))
      where
        never : (t : Scope) → IsIn scopes t → (declares after t (plain o.sym) ≡ true) ⊎ ((is_arguments o.sym && has_implicit_arguments after t) ≡ true) → ⊥
        never t there (inl is) =
            let found = declared-from t o.sym is in
            let kept = kept-by K numbers os all s found.0 found.1 o at found.3 in
            not-needed K numbers os all s found.0 found.1 kept.0 o at t there found.2 (sym kept.1) (ap (is_kept_outside numbers (home_of all found.0)) global)
        never t there (inr is) =
            let parts = and_parts (is_arguments o.sym) (has_implicit_arguments after t) is in
            let fun = (and_parts (is_function t) (not (declares after t (plain (codes "arguments")))) parts.1).0 in
            let symbol : o.sym ≡ codes "arguments" = (bytes_eq-Decides o.sym (codes "arguments")).0 parts.0 in
            let none = s.own_arguments o at (global ∙ ap Global symbol) in
            false≢true (sym (find-failed is_function scopes none there.0 t there.1) ∙ fun)

    -- the nearest scope that binds the new symbol of a declared name is its home
    declared-found : (d : Declared) → IsIn all d → d.name.sym ≡ o.sym → denoted ≡ Bound (home_of all d) d.name → IsIn scopes (home_of all d) → find (λ t. binds after t (plain (symbol_of numbers all d))) scopes ≡ Some (home_of all d)
    declared-found d among symbol is inside = find-at K (λ t. binds after t (plain (symbol_of numbers all d))) scopes (s.shape.known o at) (home_of all d) inside (or_left (declares after (home_of all d) (plain (symbol_of numbers all d))) _ (declared-here d among)) (λ t there more. false_from_ne_true (binds after t (plain (symbol_of numbers all d))) (λ passes. never t there more (or_cases (declares after t (plain (symbol_of numbers all d))) (is_arguments (symbol_of numbers all d) && has_implicit_arguments after t) passes)))
      where
        captured : (t : Scope) → IsIn scopes t → scope_order (home_of all d) < scope_order t → (e : Declared) → IsIn all e → scope_order (home_of all e) ≡ scope_order t → symbol_of numbers all e ≡ symbol_of numbers all d → (IsSame all e d) ⊎ ((number_of numbers all e ≡ 0) × (number_of numbers all d ≡ 0)) → ⊥
        captured t there more e its order same (inl one) = let homes = ap scope_order one.0 in omega (arith, homes, order, more)
        captured t there more e its order same (inr both) =
            let symbols : o.sym ≡ e.name.sym = sym symbol ∙ sym (kept-symbol K numbers os all s d both.1) ∙ sym same ∙ kept-symbol K numbers os all s e both.0 in
            let less : scope_order (home_of all d) < scope_order (home_of all e) = omega (arith, order, more) in
            let outside : is_kept_outside numbers (home_of all e) (Bound (home_of all d) d.name) ≡ true = and_from (nat_lt (scope_order (home_of all d)) (scope_order (home_of all e))) (number_of numbers all d == 0) (lt-ltb (scope_order (home_of all d)) (scope_order (home_of all e)) less) (eq-eqb (number_of numbers all d) 0 both.1) in
            not-needed K numbers os all s e its both.0 o at t there order symbols (ap (is_kept_outside numbers (home_of all e)) is ∙ outside)

        never : (t : Scope) → IsIn scopes t → scope_order (home_of all d) < scope_order t → (declares after t (plain (symbol_of numbers all d)) ≡ true) ⊎ ((is_arguments (symbol_of numbers all d) && has_implicit_arguments after t) ≡ true) → ⊥
        never t there more (inl passes) = let found = declared-from t (symbol_of numbers all d) passes in captured t there more found.0 found.1 found.2 found.3 (apart K numbers os all s found.0 d found.1 among found.3)
        never t there more (inr passes) = never-arguments K numbers os all s d among ((bytes_eq-Decides (symbol_of numbers all d) (codes "arguments")).0 (and_parts (is_arguments (symbol_of numbers all d)) (has_implicit_arguments after t) passes).0)

    -- the nearest scope that binds `arguments` is that of the nearest function
    arguments-found : o.sym ≡ codes "arguments" → find (λ t. binds after t (plain o.sym)) scopes ≡ find (λ t. is_implied_in all t name) scopes
    arguments-found symbol = find-congr (λ t. binds after t (plain o.sym)) (λ t. is_implied_in all t name) scopes (λ t there.
        ap (λ b. b || (is_arguments o.sym && has_implicit_arguments after t)) (ap (λ x. declares after t (plain x)) symbol ∙ none-arguments t)
        ∙ ap (λ b. is_arguments o.sym && (is_function t && not b)) (none-arguments t)
        ∙ ap (λ b. is_arguments o.sym && b) (and_true (is_function t))
        ∙ sym (ap (λ b. b || (is_arguments o.sym && is_function t)) (none-nameless t o.sym)))
      where
        and_true : (b : Bool) → (b && true) ≡ b
        and_true true = refl
        and_true false = refl

    -- what is to be shown of what is denoted
    abbrev Named : Denoted → Type 0
    Named d = (bound_in (plain (symbol_after numbers d)) (find (λ t. binds after t (plain (symbol_after numbers d))) scopes) ≡ as_named numbers d) × IsSound os all d

    named-global : denoted ≡ Global o.sym → Named denoted
    named-global is = subst Named (sym is) (ap (bound_in (plain o.sym)) (global-free is), OfGlobal o.sym)

    named-declared : (d : Declared) → IsIn all d → d.name.sym ≡ o.sym → denoted ≡ Bound (home_of all d) d.name → IsIn scopes (home_of all d) → Named denoted
    named-declared d among symbol is inside = subst Named (sym is) (
      subst (λ x. bound_in (plain x) (find (λ t. binds after t (plain x)) scopes) ≡ Bound (home_of all d) (plain x)) (sym (symbol-declared d among)) (ap (bound_in (plain (symbol_of numbers all d))) (declared-found d among symbol is inside)),
      OfDeclared d among,
    )

    named-arguments : (t : Scope) → o.sym ≡ codes "arguments" → find (λ t. is_implied_in all t name) scopes ≡ Some t → denoted ≡ Bound t (plain o.sym) → Named denoted
    named-arguments t symbol found is = subst Named (sym is) (
      ap (bound_in (plain o.sym)) (arguments-found symbol ∙ found),
      subst (λ x. IsSound os all (Bound t (plain x))) (sym symbol) (OfArguments t),
    )

    -- a reference
    reference : (r : Option Scope) → find (λ t. is_written_in all t name) scopes ≡ r → denoted ≡ written_or_implied all scopes name r → Named denoted
    reference (Some t) e is =
        let inside = find-in (λ t. is_written_in all t name) scopes t e in
        let found = list_any-in (λ (d : Declared). has_identifier d && is_declared_in all t name d) all (find-passes (λ t. is_written_in all t name) scopes t e) in
        let parts = and_parts (same_scope (home_of all found.0) t) (names_agree found.0.name name) (and_parts (has_identifier found.0) (is_declared_in all t name found.0) found.2).1 in
        let names : found.0.name ≡ name = agreed-with K os all s.shape found.0 found.1 o.sym o.ctxt parts.1 in
        let one = homed K os all s.shape found.0 found.1 in
        let two = around t inside in
        let home : home_of all found.0 ≡ t = (same-known K (home_of all found.0) t one.0 two.0 one.1 two.1 (eqb-true (scope_order (home_of all found.0)) (scope_order t) parts.0)).0 in
        named-declared found.0 found.1 (ap (λ (n : Name). n.sym) names) (is ∙ ap (λ u. Bound u name) (sym home) ∙ ap (Bound (home_of all found.0)) (sym names)) (subst (IsIn scopes) (sym home) inside)
    reference None e is = by_context (o.ctxt == 1) is
      where
        by_implied : (r : Option Scope) → find (λ t. is_implied_in all t name) scopes ≡ r → denoted ≡ bound_in (plain o.sym) r → Named denoted
        by_implied None found is = named-global is
        by_implied (Some t) found is = by_how (or_cases (declares all t (plain o.sym) && not (is_written_in all t (plain o.sym))) (is_arguments o.sym && is_function t) (find-passes (λ t. is_implied_in all t name) scopes t found))
          where
            by_how : ((declares all t (plain o.sym) && not (is_written_in all t (plain o.sym))) ≡ true) ⊎ ((is_arguments o.sym && is_function t) ≡ true) → Named denoted
            by_how (inl nameless) = absurd (false≢true (sym (none-nameless t o.sym) ∙ nameless))
            by_how (inr implicit) = named-arguments t ((bytes_eq-Decides o.sym (codes "arguments")).0 (and_parts (is_arguments o.sym) (is_function t) implicit).0) found is

        by_context : (b : Bool) → denoted ≡ cond b (Global o.sym) (bound_in (plain o.sym) (find (λ t. is_implied_in all t name) scopes)) → Named denoted
        by_context true is = named-global is
        by_context false is = by_implied (find (λ t. is_implied_in all t name) scopes) refl is

    -- the occurrence afterwards
    abbrev renamed : Occurrence
    renamed = renamed_occurrence numbers all o

    abbrev IsNamed : Type 0
    IsNamed = (denoted_of BySymbol Es after renamed ≡ as_named numbers denoted) × IsSound os all denoted

    own : (way : Way) → is_binding o.role ≡ true → way_of o.path ≡ Some way → IsNamed
    own way binding way_is =
        let d : Declared = declared_as o way in
        let declares : declaration_of ByContext Es o ≡ Some d = ap (λ b. cond b (declared_by o.place name scopes (way_of o.path)) None) binding ∙ ap (declared_by o.place name scopes) way_is in
        let among = s.shape.declares o at d declares in
        let is : denoted ≡ Bound (home_of all d) d.name = ap (own_or_found all (denoted_in ByContext all scopes name)) declares in
        let symbol : symbol_after numbers denoted ≡ symbol_of numbers all d = ap (symbol_after numbers) is ∙ symbol-declared d among in
        let later : declaration_of BySymbol Es renamed ≡ Some (new d) =
        ap (λ b. cond b (declared_by o.place (plain (symbol_after numbers denoted)) scopes (way_of o.path)) None) binding
        ∙ ap (declared_by o.place (plain (symbol_after numbers denoted)) scopes) way_is
        ∙ ap (λ x. Some (record { place = o.place; name = plain x; by = way; scopes = scopes })) symbol in (
          ap (own_or_found after (denoted_in BySymbol after scopes (plain (symbol_after numbers denoted)))) later
              ∙ ap (λ t. Bound t (plain (symbol_of numbers all d))) (home-stays d among)
              ∙ ap (λ x. Bound (home_of all d) (plain x)) (sym (symbol-declared d among))
              ∙ ap (as_named numbers) (sym is),
          subst (IsSound os all) (sym is) (OfDeclared d among),
        )

    found : declaration_of ByContext Es o ≡ None → declaration_of BySymbol Es renamed ≡ None → IsNamed
    found none later =
        let named = reference (find (λ t. is_written_in all t name) scopes) refl (ap (own_or_found all (denoted_in ByContext all scopes name)) none) in
        (ap (own_or_found after (denoted_in BySymbol after scopes (plain (symbol_after numbers denoted)))) later ∙ named.0, named.1)

    -- what it declares, with its new symbol
    pub declaration-renamed : declaration_of BySymbol Es renamed ≡ option_map new (declaration_of ByContext Es o)
    declaration-renamed = by_both (is_binding o.role) refl (way_of o.path) refl
      where
        by_both : (b : Bool) → is_binding o.role ≡ b → (w : Option Way) → way_of o.path ≡ w → declaration_of BySymbol Es renamed ≡ option_map new (declaration_of ByContext Es o)
        by_both true binding (Some way) way_is =
            let d : Declared = declared_as o way in
            let declares : declaration_of ByContext Es o ≡ Some d = ap (λ b. cond b (declared_by o.place name scopes (way_of o.path)) None) binding ∙ ap (declared_by o.place name scopes) way_is in
            let among = s.shape.declares o at d declares in
            let is : denoted ≡ Bound (home_of all d) d.name = ap (own_or_found all (denoted_in ByContext all scopes name)) declares in
            ap (λ b. cond b (declared_by o.place (plain (symbol_after numbers denoted)) scopes (way_of o.path)) None) binding
            ∙ ap (declared_by o.place (plain (symbol_after numbers denoted)) scopes) way_is
            ∙ ap (λ x. Some (record { place = o.place; name = plain x; by = way; scopes = scopes })) (ap (symbol_after numbers) is ∙ symbol-declared d among)
            ∙ sym (ap (option_map new) declares)
        by_both true binding None way_is =
            ap (λ b. cond b (declared_by o.place (plain (symbol_after numbers denoted)) scopes (way_of o.path)) None) binding ∙ ap (declared_by o.place (plain (symbol_after numbers denoted)) scopes) way_is
            ∙ sym (ap (option_map new) (ap (λ b. cond b (declared_by o.place name scopes (way_of o.path)) None) binding ∙ ap (declared_by o.place name scopes) way_is))
        by_both false binding w way_is =
            ap (λ b. cond b (declared_by o.place (plain (symbol_after numbers denoted)) scopes (way_of o.path)) None) binding
            ∙ sym (ap (option_map new) (ap (λ b. cond b (declared_by o.place name scopes (way_of o.path)) None) binding))

    -- it denotes by its symbol alone what it denoted by symbol and context
    pub named : IsNamed
    named = by_both (is_binding o.role) refl (way_of o.path) refl
      where
        by_both : (b : Bool) → is_binding o.role ≡ b → (w : Option Way) → way_of o.path ≡ w → IsNamed
        by_both true binding (Some way) way_is = own way binding way_is
        by_both true binding None way_is = found
            (ap (λ b. cond b (declared_by o.place name scopes (way_of o.path)) None) binding ∙ ap (declared_by o.place name scopes) way_is)
            (ap (λ b. cond b (declared_by o.place (plain (symbol_after numbers denoted)) scopes (way_of o.path)) None) binding ∙ ap (declared_by o.place (plain (symbol_after numbers denoted)) scopes) way_is)
        by_both false binding w way_is = found
            (ap (λ b. cond b (declared_by o.place name scopes (way_of o.path)) None) binding)
            (ap (λ b. cond b (declared_by o.place (plain (symbol_after numbers denoted)) scopes (way_of o.path)) None) binding)

  -- what is one afterwards was one
  pub as_named-one : (d e : Denoted) → IsSound os all d → IsSound os all e → as_named numbers d ≡ as_named numbers e → d ≡ e
  as_named-one _ _ (OfGlobal x) (OfGlobal y) same = same
  as_named-one _ _ (OfGlobal x) (OfDeclared e there) same = absurd cc
  as_named-one _ _ (OfGlobal x) (OfArguments u) same = absurd cc
  as_named-one _ _ (OfDeclared d at) (OfGlobal y) same = absurd cc
  as_named-one _ _ (OfArguments t) (OfGlobal y) same = absurd cc
  as_named-one _ _ (OfArguments t) (OfArguments u) same = same
  as_named-one _ _ (OfDeclared d at) (OfArguments u) same =
      let symbols : symbol_after numbers (Bound (home_of all d) d.name) ≡ codes "arguments" = ap bound_symbol same in
      absurd (never-arguments K numbers os all s d at (sym (symbol-declared d at) ∙ symbols))
  as_named-one _ _ (OfArguments t) (OfDeclared e there) same =
      let symbols : codes "arguments" ≡ symbol_after numbers (Bound (home_of all e) e.name) = ap bound_symbol same in
      absurd (never-arguments K numbers os all s e there (sym (symbol-declared e there) ∙ sym symbols))
  as_named-one _ _ (OfDeclared d at) (OfDeclared e there) same =
      let symbols : symbol_of numbers all d ≡ symbol_of numbers all e = sym (symbol-declared d at) ∙ ap bound_symbol same ∙ symbol-declared e there in
      let homes : home_of all d ≡ home_of all e = ap bound_scope same in
      let groups : group d ≡ group e = groups-same K os all s.shape d e at there homes in
      let one = group-apart K numbers os all s d e at there (ap scope_order groups) symbols in
      ap (λ t. Bound t d.name) homes ∙ ap (Bound (home_of all e)) one.1

-- a global afterwards was one
pub as_named-global : (numbers : Numbering) (d : Denoted) (x : List ℕ) → as_named numbers d ≡ Global x → d ≡ Global x
as_named-global numbers (Global y) x e = e
as_named-global numbers (Bound t n) x e = absurd cc
