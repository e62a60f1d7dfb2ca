-- No two declarations clash by their new symbols, where none did by symbol and context.
-- In a list where no block stands as the key of an accessor, the body of a function has its parameters around it.
-- Occurrences whose scopes have moved to other places, one by one: by their symbols they denote the same, which has moved.
-- The naming rule taken step by step: whether a binding has the number that it is to have is settled by the bindings
-- before it. So who numbers the bindings in their order, each by those before it, ends with numbers that are right; and
-- the numbers that were tried for an earlier binding of a symbol need not be tried again.
use Rattle.std.proofs.Common.{◌≡◌, ◌<◌, ◌≤◌, ◌⊎◌, inl, inr, zero, suc, ◌==◌, ◌&&◌, ◌||◌, not, nat_lt, Bool, true, false, cond, List, [], ◌∷◌, Option, Some, None, unwrap_or, bytes_eq, refl, ap, sym, ◌∙◌, subst, eq-eqb, eqb-true, lt-ltb, arith, ℕ, ◌++◌, ◌+◌, option_map, map, find}
use Rattle.std.specs.Prelude.{⊤, take_while, codes, is_some}
use Rattle.std.specs.List.{list_any, cons_option, AllZip, list_all}
use Rattle.std.proofs.lemmas.Bool.{false≢true, and_parts, and_from, or_cases, false_from_ne_true, and_left, and_right, or_left, or_right, ltb-true}
use Rattle.std.proofs.lemmas.List.Sums.{take_while-cons}
use Rattle.std.proofs.lemmas.Option.{none-some, same_Some}
use Rattle.std.proofs.lemmas.Slice.Eq.{bytes_eq-Decides}
use Rattle.bundle_syntax.specs.Item as h
use Rattle.bundle_syntax.specs.Item.{Item, Head}
use Rattle.bundle_syntax.specs.declared.piece.Role.TheVariants
use Rattle.bundle_rules.specs.Places.{Occurrence, is_binding, Around, Spot, past, start, in_field, outer_path, occurrence_of, occurrences_from, occurrences}
use Rattle.bundle_rules.specs.Scopes.{Es, Scope, Wrapper, Top, Inner, Parameters, ArrowParameters, FunctionBody, StaticBody, Block, CatchBlock, Loop, Catch, FunctionName, ClassName, scope_order, same_scope, scopes_around, ScopeKind, block_in, block_kind, is_default, kind_of_scope, scope_at}
use Rattle.bundle_rules.specs.Declarations.{Way, ByVar, ByContext, names_agree, Declared, declared_by, declaration_of, way_of, ByImport, ByLet, ByConst, ByFunction, ByClass, ByDefault, ByLoop, ByParameter, ByCatch, ByFunctionName, ByClassName, ByWrapper, BySymbol, Name, declared}
use Rattle.bundle_rules.specs.Homes.{is_body, is_parameters, is_catch, takes, from_taker, nearest, taker, parameters_of, joins_parameter, is_parameter, home_beside, home_of, group_of, is_block, is_top, is_wrapper, is_loop, is_function_name, is_class_name, is_function, is_declared_in, declares, is_arguments, has_implicit_arguments, binds}
use Rattle.bundle_rules.specs.Denotes.{Bound, denoted_in, own_or_found, denoted_of, Denoted, Global, bound_in, has_identifier, is_written_in, is_implied_in, written_or_implied}
use Rattle.bundle_rules.specs.Doubled.{is_lexical, stands_beside, is_var, passes_scope_of, excludes, clash}
use Rattle.bundle_rules.specs.Renaming.{Numbering, number_of, symbol_of, is_kept_outside, group, first_place, comes_before, is_named_right, IsNumbering}
use Rattle.bundle_scope_names.proofs.HomesLemmas.{iff as same_bool, find-passes}
use Rattle.bundle_scope_names.proofs.naming_rule.Tables.{IsIn, list_any-in, in-rest, any-here, find-in, find-some, Table, AreOf, same-known, rest-known, from-known, outer-below, taken-known, taker-outer, parameters-group, Setting, IsSame, origin, agree-self, scopes-of, apart, group-apart, not-needed, kept-symbol, Shape, declared_as, has-context, agreed-with, homed, in-cons, declarations}
use Rattle.bundle_scope_names.proofs.naming_rule.Heart.{renamed_declared, plain}

-- ---- clash

-- a body of a function has its parameters around it, and the block of a catch its parameter
abbrev pub IsBeside : Scope → List Scope → Type 0
IsBeside (Inner FunctionBody begins) (outer ∷ rest) = is_parameters outer ≡ true
IsBeside (Inner CatchBlock begins) (outer ∷ rest) = is_catch outer ≡ true
IsBeside scope outer = ⊤

abbrev pub AreGrouped : List Scope → Type 0
AreGrouped [] = ⊤
AreGrouped (s ∷ ss) = IsBeside s ss × AreGrouped ss

taken-grouped : (way : Way) (scopes : List Scope) → AreGrouped scopes → AreGrouped (from_taker way scopes)
taken-grouped way [] grouped = grouped
taken-grouped way (s ∷ ss) grouped = by_takes (takes way s) (taken-grouped way ss grouped.1)
  where
    by_takes : (b : Bool) → AreGrouped (from_taker way ss) → AreGrouped (cond b (s ∷ ss) (from_taker way ss))
    by_takes true rest = grouped
    by_takes false rest = rest

catch-group : (s : Scope) (outer : List Scope) → is_catch s ≡ true → group_of (s ∷ outer) ≡ s
catch-group (Inner Catch begins) outer e = refl
catch-group Wrapper outer e = absurd (false≢true e)
catch-group Top outer e = absurd (false≢true e)
catch-group (Inner Parameters begins) outer e = absurd (false≢true e)
catch-group (Inner ArrowParameters begins) outer e = absurd (false≢true e)
catch-group (Inner FunctionBody begins) outer e = absurd (false≢true e)
catch-group (Inner StaticBody begins) outer e = absurd (false≢true e)
catch-group (Inner Block begins) outer e = absurd (false≢true e)
catch-group (Inner CatchBlock begins) outer e = absurd (false≢true e)
catch-group (Inner Loop begins) outer e = absurd (false≢true e)
catch-group (Inner FunctionName begins) outer e = absurd (false≢true e)
catch-group (Inner ClassName begins) outer e = absurd (false≢true e)

-- a group is that of its own scope
group-own : (K : Table) (l : List Scope) → AreOf K l → AreGrouped l → (outer : List Scope) × AreOf K (group_of l ∷ outer) × (group_of (group_of l ∷ outer) ≡ group_of l)
group-own K [] known grouped = ([], refl, refl)
group-own K (Wrapper ∷ outer) known grouped = absurd known
group-own K (Top ∷ []) known grouped = ([], refl, refl)
group-own K (Top ∷ s ∷ ss) known grouped = absurd cc
group-own K (Inner FunctionBody begins ∷ []) known grouped = ([], known, refl)
group-own K (Inner FunctionBody begins ∷ s ∷ ss) known grouped = (ss, known.3, parameters-group s ss grouped.0)
group-own K (Inner CatchBlock begins ∷ []) known grouped = ([], known, refl)
group-own K (Inner CatchBlock begins ∷ s ∷ ss) known grouped = (ss, known.3, catch-group s ss grouped.0)
group-own K (Inner _ begins ∷ outer) known grouped = (outer, known, refl)

-- Homes and takers.

home-below : (K : Table) (all : List Declared) (d : Declared) → AreOf K d.scopes → scope_order (home_of all d) ≤ scope_order (taker d)
home-below K all d known = by_joins (joins_parameter d.by)
  where
    beside : (l : List Scope) (s : Scope) → AreOf K l → parameters_of l ≡ Some s → scope_order s ≤ scope_order (unwrap_or (nearest l) Top)
    beside (Top ∷ outer) s known e = absurd (none-some s (sym (ap nearest known) ∙ e))
    beside (Inner FunctionBody begins ∷ []) s known e = absurd (none-some s e)
    beside (Inner FunctionBody begins ∷ t ∷ ts) s known e = let less = outer-below K (Inner FunctionBody begins) (t ∷ ts) known s (0, e) in omega (arith, less)
    beside _ s known e = absurd (none-some s e)

    by_beside : (o : Option Scope) → parameters_of (from_taker d.by d.scopes) ≡ o → scope_order (home_beside all d o) ≤ scope_order (taker d)
    by_beside None e = omega arith
    by_beside (Some s) e = by_test (list_any (is_parameter s d.name) all)
      where
        by_test : (b : Bool) → scope_order (cond b s (taker d)) ≤ scope_order (taker d)
        by_test true = beside (from_taker d.by d.scopes) s (taken-known K d.by d.scopes known) e
        by_test false = omega arith

    by_joins : (b : Bool) → scope_order (cond b (home_beside all d (parameters_of (from_taker d.by d.scopes))) (taker d)) ≤ scope_order (taker d)
    by_joins true = by_beside (parameters_of (from_taker d.by d.scopes)) refl
    by_joins false = omega arith

-- what belongs to no body belongs where it is taken
no_body : (l : List Scope) → is_body (unwrap_or (nearest l) Top) ≡ false → parameters_of l ≡ None
no_body [] e = absurd (false≢true (sym e))
no_body (Top ∷ outer) e = absurd (false≢true (sym e))
no_body (Inner FunctionBody begins ∷ outer) e = absurd (false≢true (sym e))
no_body _ e = refl

home-taken : (all : List Declared) (d : Declared) → is_body (taker d) ≡ false → home_of all d ≡ taker d
home-taken all d e = ap (λ o. cond (joins_parameter d.by) (home_beside all d o) (taker d)) (no_body (from_taker d.by d.scopes) e) ∙ same (joins_parameter d.by)
  where
    same : (b : Bool) → cond b (taker d) (taker d) ≡ taker d
    same true = refl
    same false = refl

-- the nearest scope that takes a name is one of those around
taken-in : (way : Way) (scopes : List Scope) (u : Scope) → nearest (from_taker way scopes) ≡ Some u → IsIn scopes u
taken-in way [] u e = absurd (none-some u e)
taken-in way (s ∷ ss) u e = by_takes (takes way s) e (taken-in way ss u)
  where
    by_takes : (b : Bool) → nearest (cond b (s ∷ ss) (from_taker way ss)) ≡ Some u → (nearest (from_taker way ss) ≡ Some u → IsIn ss u) → IsIn (s ∷ ss) u
    by_takes true found ih = (0, found)
    by_takes false found ih = in-rest s ss u (ih found)

-- and it has a lower order than what stands before it and is no body
outside : (K : Table) (s : Scope) (ss : List Scope) → AreOf K (s ∷ ss) → is_body s ≡ false → scope_order (unwrap_or (nearest (from_taker ByVar ss)) Top) < scope_order s
outside K s ss known e = by_nearest (nearest (from_taker ByVar ss)) refl
  where
    above : (s : Scope) → AreOf K (s ∷ ss) → is_body s ≡ false → 1 < scope_order s
    above Wrapper known e = absurd known
    above Top known e = absurd (false≢true (sym e))
    above (Inner kind begins) known e = omega arith

    by_nearest : (o : Option Scope) → nearest (from_taker ByVar ss) ≡ o → scope_order (unwrap_or o Top) < scope_order s
    by_nearest None is = above s known e
    by_nearest (Some u) is = outer-below K s ss known u (taken-in ByVar ss u is)

-- a `var` belongs outside each scope that it passes
abbrev passing : List Scope → List Scope
passing scopes = take_while (λ scope. not (takes ByVar scope)) scopes

passed : (K : Table) (scopes : List Scope) → AreOf K scopes → (t : Scope) → IsIn (passing scopes) t → IsIn scopes t × (is_body t ≡ false) × (scope_order (unwrap_or (nearest (from_taker ByVar scopes)) Top) < scope_order t)
passed K [] known t at = absurd (none-some t at.1)
passed K (s ∷ ss) known t at = by_body (is_body s) refl (subst (λ l. IsIn l t) (take_while-cons (λ scope. not (takes ByVar scope)) s ss) at) (passed K ss (rest-known K s ss known) t)
  where
    lower : is_body s ≡ false → scope_order (unwrap_or (nearest (from_taker ByVar (s ∷ ss))) Top) ≡ scope_order (unwrap_or (nearest (from_taker ByVar ss)) Top)
    lower is = ap (λ b. scope_order (unwrap_or (nearest (cond b (s ∷ ss) (from_taker ByVar ss))) Top)) is

    by_body : (b : Bool) → is_body s ≡ b → IsIn (cond (not b) (s ∷ passing ss) []) t → (IsIn (passing ss) t → IsIn ss t × (is_body t ≡ false) × (scope_order (unwrap_or (nearest (from_taker ByVar ss)) Top) < scope_order t)) → IsIn (s ∷ ss) t × (is_body t ≡ false) × (scope_order (unwrap_or (nearest (from_taker ByVar (s ∷ ss))) Top) < scope_order t)
    by_body true is at ih = absurd (none-some t at.1)
    by_body false is (zero, at) ih =
        let here : s ≡ t = same_Some s t at in
        let less = outside K s ss known is in
        let moves = lower is in
        let order : scope_order s ≡ scope_order t = ap scope_order here in
        ((0, at), ap is_body (sym here) ∙ is, omega (arith, less, moves, order))
    by_body false is (suc i, at) ih =
        let rest = ih (i, at) in
        let moves = lower is in
        let less : scope_order (unwrap_or (nearest (from_taker ByVar ss)) Top) < scope_order t = rest.2 in
        (in-rest s ss t rest.0, rest.1, omega (arith, less, moves))

pub var-is : (way : Way) → is_var way ≡ true → way ≡ ByVar
var-is ByVar e = refl
var-is _ e = absurd (false≢true e)

-- the name and the scopes of what an occurrence declares
declared-parts : (o : Occurrence) (d : Declared) → declaration_of ByContext Es o ≡ Some d → (d.name.sym ≡ o.sym) × (d.scopes ≡ scopes_around Es o.path)
declared-parts o d e = by_both (is_binding o.role) (way_of o.path) e
  where
    by_both : (b : Bool) (w : Option Way) → cond b (declared_by o.place (record { sym = o.sym; ctxt = Some o.ctxt }) (scopes_around Es o.path) w) None ≡ Some d → (d.name.sym ≡ o.sym) × (d.scopes ≡ scopes_around Es o.path)
    by_both false w is = absurd (none-some d is)
    by_both true None is = absurd (none-some d is)
    by_both true (Some way) is = let same = same_Some (record { place = o.place; name = record { sym = o.sym; ctxt = Some o.ctxt }; by = way; scopes = scopes_around Es o.path }) d is in (ap (λ (x : Declared). x.name.sym) (sym same), ap (λ (x : Declared). x.scopes) (sym same))

module _ (K : Table) (numbers : Numbering) (os : List Occurrence) (all : List Declared) (s : Setting K numbers os all) (grouped : (o : Occurrence) → IsIn os o → AreGrouped (scopes_around Es o.path)) where
  scopes-grouped : (d : Declared) → IsIn all d → AreGrouped d.scopes
  scopes-grouped d at = let one = origin K os all s.shape d at in subst (λ (x : Declared). AreGrouped x.scopes) (sym one.is) (grouped one.o one.at)

  -- what stands beside a name is of its group
  beside-group : (a b : Declared) → IsIn all a → IsIn all b → stands_beside a b ≡ true → scope_order (group b) ≡ scope_order (group a)
  beside-group a b at there e = by_cases (or_cases (same_scope (taker b) (taker a)) (same_scope (taker b) (group_of (from_taker a.by a.scopes))) e)
    where
      one : (outer : List Scope) × AreOf K (taker a ∷ outer) × (group a ≡ group_of (taker a ∷ outer))
      one = taker-outer K a (scopes-of K os all s.shape a at)

      two : (outer : List Scope) × AreOf K (taker b ∷ outer) × (group b ≡ group_of (taker b ∷ outer))
      two = taker-outer K b (scopes-of K os all s.shape b there)

      own : (outer : List Scope) × AreOf K (group_of (from_taker a.by a.scopes) ∷ outer) × (group_of (group_of (from_taker a.by a.scopes) ∷ outer) ≡ group_of (from_taker a.by a.scopes))
      own = group-own K (from_taker a.by a.scopes) (taken-known K a.by a.scopes (scopes-of K os all s.shape a at)) (taken-grouped a.by a.scopes (scopes-grouped a at))

      by_cases : (same_scope (taker b) (taker a) ≡ true) ⊎ (same_scope (taker b) (group_of (from_taker a.by a.scopes)) ≡ true) → scope_order (group b) ≡ scope_order (group a)
      by_cases (inl same) =
          let both = same-known K (taker b) (taker a) two.0 one.0 two.1 one.1 (eqb-true (scope_order (taker b)) (scope_order (taker a)) same) in
          ap scope_order (two.2 ∙ ap (λ t. group_of (t ∷ two.0)) both.0 ∙ ap (λ l. group_of (taker a ∷ l)) both.1 ∙ sym one.2)
      by_cases (inr same) =
          let both = same-known K (taker b) (group_of (from_taker a.by a.scopes)) two.0 own.0 two.1 own.1 (eqb-true (scope_order (taker b)) (scope_order (group_of (from_taker a.by a.scopes))) same) in
          ap scope_order (two.2 ∙ ap (λ t. group_of (t ∷ two.0)) both.0 ∙ ap (λ l. group_of (group_of (from_taker a.by a.scopes) ∷ l)) both.1 ∙ own.2)

  -- no `var` that keeps its symbol passes the scope of another binding that does
  never-passed : (a b : Declared) → IsIn all a → IsIn all b → passes_scope_of a b ≡ true → number_of numbers all a ≡ 0 → number_of numbers all b ≡ 0 → a.name.sym ≡ b.name.sym → ⊥
  never-passed a b at there e kept_a kept_b symbols =
      let parts = and_parts (is_var a.by) (list_any (same_scope (taker b)) (take_while (λ scope. not (takes a.by scope)) a.scopes)) e in
      let way = var-is a.by parts.0 in
      let known = scopes-of K os all s.shape a at in
      let found = list_any-in (same_scope (taker b)) (passing a.scopes) (ap (λ w. list_any (same_scope (taker b)) (take_while (λ scope. not (takes w scope)) a.scopes)) (sym way) ∙ parts.1) in
      let it = passed K a.scopes known found.0 found.1 in
      let around = from-known K a.scopes known found.0 it.0 in
      let its = taker-outer K b (scopes-of K os all s.shape b there) in
      let same : taker b ≡ found.0 = (same-known K (taker b) found.0 its.0 around.0 its.1 around.1 (eqb-true (scope_order (taker b)) (scope_order found.0) found.2)).0 in
      let home_b : home_of all b ≡ found.0 = home-taken all b (ap is_body same ∙ it.1) ∙ same in
      let below = home-below K all a known in
      let lower : scope_order (taker a) < scope_order found.0 = subst (λ w. scope_order (unwrap_or (nearest (from_taker w a.scopes)) Top) < scope_order found.0) (sym way) it.2 in
      let order : scope_order (home_of all b) ≡ scope_order found.0 = ap scope_order home_b in
      let less : scope_order (home_of all a) < scope_order (home_of all b) = omega (arith, below, lower, order) in
      let from = s.shape.declared a at in
      let denoted : denoted_of ByContext Es all from.0 ≡ Bound (home_of all a) a.name = ap (own_or_found all (denoted_in ByContext all (scopes_around Es from.0.path) (record { sym = from.0.sym; ctxt = Some from.0.ctxt }))) from.2 in
      let declared_is = declared-parts from.0 a from.2 in
      let inside : IsIn (scopes_around Es from.0.path) found.0 = subst (λ l. IsIn l found.0) declared_is.1 it.0 in
      let outside_is : is_kept_outside numbers (home_of all b) (denoted_of ByContext Es all from.0) ≡ true =
      ap (is_kept_outside numbers (home_of all b)) denoted ∙ and_from (nat_lt (scope_order (home_of all a)) (scope_order (home_of all b))) (number_of numbers all a == 0) (lt-ltb (scope_order (home_of all a)) (scope_order (home_of all b)) less) (eq-eqb (number_of numbers all a) 0 kept_a) in
      not-needed K numbers os all s b there kept_b from.0 from.1 found.0 inside order (sym declared_is.0 ∙ symbols) outside_is

  -- what may not have one name has two, or is one binding
  excluded : (a b : Declared) → IsIn all a → IsIn all b → excludes a b ≡ true → symbol_of numbers all a ≡ symbol_of numbers all b → IsSame all a b
  excluded a b at there e same = by_apart (apart K numbers os all s a b at there same)
    where
      by_how : number_of numbers all a ≡ 0 → number_of numbers all b ≡ 0 → ((is_lexical a && stands_beside a b) ≡ true) ⊎ (passes_scope_of a b ≡ true) → IsSame all a b
      by_how one two (inl beside) = group-apart K numbers os all s a b at there (sym (beside-group a b at there (and_parts (is_lexical a) (stands_beside a b) beside).1)) same
      by_how one two (inr passes) = absurd (never-passed a b at there passes one two (sym (kept-symbol K numbers os all s a one) ∙ same ∙ kept-symbol K numbers os all s b two))

      by_apart : (IsSame all a b) ⊎ ((number_of numbers all a ≡ 0) × (number_of numbers all b ≡ 0)) → IsSame all a b
      by_apart (inl is) = is
      by_apart (inr both) = by_how both.0 both.1 (or_cases (is_lexical a && stands_beside a b) (passes_scope_of a b) e)

  -- so no two declarations clash afterwards that did not before
  pub never-clash : (a b : Declared) → IsIn all a → IsIn all b → clash a b ≡ false → clash (renamed_declared numbers all a) (renamed_declared numbers all b) ≡ false
  never-clash a b at there fine = false_from_ne_true (clash (renamed_declared numbers all a) (renamed_declared numbers all b)) (λ e.
      let parts = and_parts (names_agree (renamed_declared numbers all a).name (renamed_declared numbers all b).name && not (a.place == b.place)) (excludes a b || excludes b a) e in
      let agree = and_parts (names_agree (renamed_declared numbers all a).name (renamed_declared numbers all b).name) (not (a.place == b.place)) parts.0 in
      let symbols : symbol_of numbers all a ≡ symbol_of numbers all b = (bytes_eq-Decides (symbol_of numbers all a) (symbol_of numbers all b)).0 (and_parts (bytes_eq (symbol_of numbers all a) (symbol_of numbers all b)) true agree.0).0 in
      let same = by_excludes symbols (or_cases (excludes a b) (excludes b a) parts.1) in
      false≢true (sym fine ∙ and_from (names_agree a.name b.name && not (a.place == b.place)) (excludes a b || excludes b a) (and_from (names_agree a.name b.name) (not (a.place == b.place)) (ap (λ n. names_agree n b.name) same.1 ∙ agree-self K os all s.shape b there) agree.1) parts.1))
    where
      by_excludes : symbol_of numbers all a ≡ symbol_of numbers all b → (excludes a b ≡ true) ⊎ (excludes b a ≡ true) → IsSame all a b
      by_excludes symbols (inl e) = excluded a b at there e symbols
      by_excludes symbols (inr e) = let same = excluded b a there at e (sym symbols) in (sym same.0, sym same.1)

-- ---- grouped
abbrev is_accessor : Head → Bool
is_accessor h.GetterProp = true
is_accessor h.SetterProp = true
is_accessor _ = false

-- whether a block right in these nodes would be the key of an accessor
abbrev pub is_key : List Around → Bool
is_key [] = false
is_key (node ∷ outer) = is_accessor node.head && node.field == 0

abbrev pub begins_key : Head → List Around → Bool
begins_key h.BlockStmt outer = is_key outer
begins_key _ outer = false

-- no block is, of those from a spot on; of a list
abbrev pub HasNoKeys : Spot → List Item → Type 0
HasNoKeys spot [] = ⊤
HasNoKeys spot (h.Open field head ∷ rest) = (begins_key head (in_field field spot.path) ≡ false) × HasNoKeys (past spot (h.Open field head)) rest
HasNoKeys spot (item ∷ rest) = HasNoKeys (past spot item) rest

abbrev pub HasPlainKeys : List Item → Type 0
HasPlainKeys items = HasNoKeys start items

-- the same of the nodes that are open
abbrev AreSound : List Around → Type 0
AreSound [] = ⊤
AreSound (node ∷ outer) = (begins_key node.head outer ≡ false) × AreSound outer

sound-in_field : (field : ℕ) (path : List Around) → AreSound path → AreSound (in_field field path)
sound-in_field field [] sound = sound
sound-in_field field (node ∷ outer) sound = sound

sound-outer : (path : List Around) → AreSound path → AreSound (outer_path path)
sound-outer [] sound = sound
sound-outer (node ∷ outer) sound = sound.1

-- what a block's scope has around it
body-beside : (begins : ℕ) (node : Around) (outer : List Around) → (is_accessor node.head && node.field == 0) ≡ false → IsBeside (Inner (block_in node.head) begins) (scope_at node.begins (kind_of_scope node.head node.field outer) ++ scopes_around Es outer)
body-beside begins node outer plain = by_head node.head plain
  where
    by_field : (b : Bool) → b ≡ false → IsBeside (Inner FunctionBody begins) (scope_at node.begins (cond b None (Some Parameters)) ++ scopes_around Es outer)
    by_field true e = absurd (false≢true (sym e))
    by_field false e = refl

    by_head : (head : Head) → (is_accessor head && node.field == 0) ≡ false → IsBeside (Inner (block_in head) begins) (scope_at node.begins (kind_of_scope head node.field outer) ++ scopes_around Es outer)
    by_head (h.Function is_generator is_async) plain = refl
    by_head (h.ArrowExpr is_async) plain = refl
    by_head h.Constructor plain = refl
    by_head h.GetterProp plain = by_field (node.field == 0) plain
    by_head h.SetterProp plain = by_field (node.field == 0) plain
    by_head h.CatchClause plain = refl
    by_head _ plain = tt

block-beside : (begins : ℕ) (outer : List Around) → is_key outer ≡ false → IsBeside (Inner (block_kind outer) begins) (scopes_around Es outer)
block-beside begins [] plain = tt
block-beside begins (node ∷ outer) plain = body-beside begins node outer plain

-- the scopes around a place
grouped-path : (path : List Around) → AreSound path → AreGrouped (scopes_around Es path)
grouped-path [] sound = (tt, tt)
grouped-path (node ∷ outer) sound = by_head node.head sound.0 (grouped-path outer sound.1)
  where
    by_cond : (b : Bool) (kind : ScopeKind) → ((rest : List Scope) → IsBeside (Inner kind node.begins) rest) → AreGrouped (scopes_around Es outer) → AreGrouped (scope_at node.begins (cond b None (Some kind)) ++ scopes_around Es outer)
    by_cond true kind beside rest = rest
    by_cond false kind beside rest = (beside (scopes_around Es outer), rest)

    by_head : (head : Head) → begins_key head outer ≡ false → AreGrouped (scopes_around Es outer) → AreGrouped (scope_at node.begins (kind_of_scope head node.field outer) ++ scopes_around Es outer)
    by_head (h.Function is_generator is_async) plain rest = (tt, rest)
    by_head h.Constructor plain rest = (tt, rest)
    by_head h.GetterProp plain rest = by_cond (node.field == 0) Parameters (λ l. tt) rest
    by_head h.SetterProp plain rest = by_cond (node.field == 0) Parameters (λ l. tt) rest
    by_head (h.ArrowExpr is_async) plain rest = (tt, rest)
    by_head h.BlockStmt plain rest = (block-beside node.begins outer plain, rest)
    by_head h.SwitchStmt plain rest = by_cond (node.field == 0) Block (λ l. tt) rest
    by_head h.ForStmt plain rest = (tt, rest)
    by_head h.ForInStmt plain rest = (tt, rest)
    by_head (h.ForOfStmt is_await) plain rest = (tt, rest)
    by_head h.CatchClause plain rest = (tt, rest)
    by_head h.FnExpr plain rest = by_cond (is_default outer) FunctionName (λ l. tt) rest
    by_head h.ClassExpr plain rest = by_cond (is_default outer) ClassName (λ l. tt) rest
    by_head _ plain rest = rest

occurrence-sound : (spot : Spot) (item : Item) → AreSound spot.path → (o : Occurrence) → occurrence_of spot item ≡ Some o → AreSound o.path
occurrence-sound spot (h.Open field head) sound o e = absurd (none-some o e)
occurrence-sound spot (h.Hole field) sound o e = absurd (none-some o e)
occurrence-sound spot h.Close sound o e = absurd (none-some o e)
occurrence-sound spot (h.Ident field x c TheVariants.Word) sound o e = absurd (none-some o e)
occurrence-sound spot (h.Ident field x c TheVariants.Binding) sound o e = subst (λ (q : Occurrence). AreSound q.path) (same_Some _ o e) (sound-in_field field spot.path sound)
occurrence-sound spot (h.Ident field x c TheVariants.Reference) sound o e = subst (λ (q : Occurrence). AreSound q.path) (same_Some _ o e) (sound-in_field field spot.path sound)

sound-from : (spot : Spot) (items : List Item) → HasNoKeys spot items → AreSound spot.path → (o : Occurrence) → IsIn (occurrences_from spot items) o → AreSound o.path
sound-from spot [] plain sound o at = absurd (none-some o at.1)
sound-from spot (h.Open field head ∷ rest) plain sound o at = sound-from (past spot (h.Open field head)) rest plain.1 (plain.0, sound-in_field field spot.path sound) o at
sound-from spot (h.Ident field x c role ∷ rest) plain sound o at = in-cons (λ (o : Occurrence). AreSound o.path) (occurrence_of spot (h.Ident field x c role)) (occurrences_from (past spot (h.Ident field x c role)) rest) (occurrence-sound spot (h.Ident field x c role) sound) (sound-from (past spot (h.Ident field x c role)) rest plain sound) o at
sound-from spot (h.Hole field ∷ rest) plain sound o at = sound-from (past spot (h.Hole field)) rest plain sound o at
sound-from spot (h.Close ∷ rest) plain sound o at = sound-from (past spot h.Close) rest plain (sound-outer spot.path sound) o at

pub occurrences-grouped : (items : List Item) → HasPlainKeys items → (o : Occurrence) → IsIn (occurrences items) o → AreGrouped (scopes_around Es o.path)
occurrences-grouped items plain o at = grouped-path o.path (sound-from start items plain tt o at)

-- ---- moved

-- a scope whose node begins elsewhere
abbrev pub moved : (ℕ → ℕ) → Scope → Scope
moved move Wrapper = Wrapper
moved move Top = Top
moved move (Inner kind begins) = Inner kind (move begins)

abbrev pub all_moved : (ℕ → ℕ) → List Scope → List Scope
all_moved move scopes = map (moved move) scopes

abbrev pub moved_denoted : (ℕ → ℕ) → Denoted → Denoted
moved_denoted move (Bound scope name) = Bound (moved move scope) name
moved_denoted move (Global x) = Global x

-- no two places become one
abbrev pub IsInjective : (ℕ → ℕ) → Type 0
IsInjective move = (a b : ℕ) → move a ≡ move b → a ≡ b

-- a declaration that has moved
pub record IsMoved (move : ℕ → ℕ) (d e : Declared) : Type 0 where
  pub name : e.name ≡ d.name
  pub by : e.by ≡ d.by
  pub scopes : e.scopes ≡ all_moved move d.scopes

-- an occurrence that has moved
pub record HasMoved (move : ℕ → ℕ) (o p : Occurrence) : Type 0 where
  pub role : p.role ≡ o.role
  pub symbol : p.sym ≡ o.sym
  pub way : way_of p.path ≡ way_of o.path
  pub scopes : scopes_around Es p.path ≡ all_moved move (scopes_around Es o.path)

-- Tests of a scope do not read where it begins.

abbrev Stays : (Scope → Bool) → Type 0
Stays test = (move : ℕ → ℕ) (s : Scope) → test (moved move s) ≡ test s

body-stays : Stays is_body
body-stays move Wrapper = refl
body-stays move Top = refl
body-stays move (Inner kind begins) = by_kind kind
  where
    by_kind : (k : ScopeKind) → is_body (Inner k (move begins)) ≡ is_body (Inner k begins)
    by_kind FunctionBody = refl
    by_kind StaticBody = refl
    by_kind _ = refl

block-stays : Stays is_block
block-stays move Wrapper = refl
block-stays move Top = refl
block-stays move (Inner kind begins) = by_kind kind
  where
    by_kind : (k : ScopeKind) → is_block (Inner k (move begins)) ≡ is_block (Inner k begins)
    by_kind Parameters = refl
    by_kind _ = refl

pub parameters-stays : Stays is_parameters
parameters-stays move Wrapper = refl
parameters-stays move Top = refl
parameters-stays move (Inner kind begins) = by_kind kind
  where
    by_kind : (k : ScopeKind) → is_parameters (Inner k (move begins)) ≡ is_parameters (Inner k begins)
    by_kind Parameters = refl
    by_kind _ = refl

loop-stays : Stays is_loop
loop-stays move Wrapper = refl
loop-stays move Top = refl
loop-stays move (Inner kind begins) = by_kind kind
  where
    by_kind : (k : ScopeKind) → is_loop (Inner k (move begins)) ≡ is_loop (Inner k begins)
    by_kind Parameters = refl
    by_kind _ = refl

catch-stays : Stays is_catch
catch-stays move Wrapper = refl
catch-stays move Top = refl
catch-stays move (Inner kind begins) = by_kind kind
  where
    by_kind : (k : ScopeKind) → is_catch (Inner k (move begins)) ≡ is_catch (Inner k begins)
    by_kind Parameters = refl
    by_kind _ = refl

function_name-stays : Stays is_function_name
function_name-stays move Wrapper = refl
function_name-stays move Top = refl
function_name-stays move (Inner kind begins) = by_kind kind
  where
    by_kind : (k : ScopeKind) → is_function_name (Inner k (move begins)) ≡ is_function_name (Inner k begins)
    by_kind Parameters = refl
    by_kind _ = refl

class_name-stays : Stays is_class_name
class_name-stays move Wrapper = refl
class_name-stays move Top = refl
class_name-stays move (Inner kind begins) = by_kind kind
  where
    by_kind : (k : ScopeKind) → is_class_name (Inner k (move begins)) ≡ is_class_name (Inner k begins)
    by_kind Parameters = refl
    by_kind _ = refl

pub function-stays : Stays is_function
function-stays move Wrapper = refl
function-stays move Top = refl
function-stays move (Inner kind begins) = by_kind kind
  where
    by_kind : (k : ScopeKind) → is_function (Inner k (move begins)) ≡ is_function (Inner k begins)
    by_kind Parameters = refl
    by_kind _ = refl

top-stays : Stays is_top
top-stays move Wrapper = refl
top-stays move Top = refl
top-stays move (Inner kind begins) = refl

pub wrapper-stays : Stays is_wrapper
wrapper-stays move Wrapper = refl
wrapper-stays move Top = refl
wrapper-stays move (Inner kind begins) = refl

pub takes-stays : (way : Way) → Stays (takes way)
takes-stays ByImport = top-stays
takes-stays ByVar = body-stays
takes-stays ByLet = block-stays
takes-stays ByConst = block-stays
takes-stays ByFunction = block-stays
takes-stays ByClass = block-stays
takes-stays ByDefault = top-stays
takes-stays ByParameter = parameters-stays
takes-stays ByCatch = catch-stays
takes-stays ByLoop = loop-stays
takes-stays ByFunctionName = function_name-stays
takes-stays ByClassName = class_name-stays
takes-stays ByWrapper = wrapper-stays

-- Lists that agree place by place.

pub any-zip : {A B : Type 0} (R : A → B → Type 0) (p : A → Bool) (q : B → Bool) → ((a : A) (b : B) → R a b → q b ≡ p a) → (xs : List A) (ys : List B) → AllZip R xs ys → list_any q ys ≡ list_any p xs
any-zip R p q same [] [] all = refl
any-zip R p q same [] (y ∷ ys) all = absurd all
any-zip R p q same (x ∷ xs) [] all = absurd all
any-zip R p q same (x ∷ xs) (y ∷ ys) all = ap (λ b. b || list_any q ys) (same x y all.0) ∙ ap (λ b. p x || b) (any-zip R p q same xs ys all.1)

pub find-moved : (move : ℕ → ℕ) (p q : Scope → Bool) → ((s : Scope) → q (moved move s) ≡ p s) → (scopes : List Scope) → find q (all_moved move scopes) ≡ option_map (moved move) (find p scopes)
find-moved move p q same [] = refl
find-moved move p q same (s ∷ ss) = ap (λ b. cond b (Some (moved move s)) (find q (all_moved move ss))) (same s) ∙ by_test (p s) (find-moved move p q same ss)
  where
    by_test : (b : Bool) → find q (all_moved move ss) ≡ option_map (moved move) (find p ss) → cond b (Some (moved move s)) (find q (all_moved move ss)) ≡ option_map (moved move) (cond b (Some s) (find p ss))
    by_test true rest = refl
    by_test false rest = rest

pub bound-moved : (move : ℕ → ℕ) (name : Name) (o : Option Scope) → bound_in name (option_map (moved move) o) ≡ moved_denoted move (bound_in name o)
bound-moved move name None = refl
bound-moved move name (Some s) = refl

-- Where names belong.

taken-moved : (move : ℕ → ℕ) (way : Way) (scopes : List Scope) → from_taker way (all_moved move scopes) ≡ all_moved move (from_taker way scopes)
taken-moved move way [] = refl
taken-moved move way (s ∷ ss) = ap (λ b. cond b (moved move s ∷ all_moved move ss) (from_taker way (all_moved move ss))) (takes-stays way move s) ∙ by_takes (takes way s) (taken-moved move way ss)
  where
    by_takes : (b : Bool) → from_taker way (all_moved move ss) ≡ all_moved move (from_taker way ss) → cond b (moved move s ∷ all_moved move ss) (from_taker way (all_moved move ss)) ≡ all_moved move (cond b (s ∷ ss) (from_taker way ss))
    by_takes true rest = refl
    by_takes false rest = rest

nearest-moved : (move : ℕ → ℕ) (scopes : List Scope) → nearest (all_moved move scopes) ≡ option_map (moved move) (nearest scopes)
nearest-moved move [] = refl
nearest-moved move (s ∷ ss) = refl

top-moved : (move : ℕ → ℕ) (o : Option Scope) → unwrap_or (option_map (moved move) o) Top ≡ moved move (unwrap_or o Top)
top-moved move None = refl
top-moved move (Some s) = refl

pub parameters_of-moved : (move : ℕ → ℕ) (scopes : List Scope) → parameters_of (all_moved move scopes) ≡ option_map (moved move) (parameters_of scopes)
parameters_of-moved move [] = refl
parameters_of-moved move (Wrapper ∷ outer) = refl
parameters_of-moved move (Top ∷ outer) = nearest-moved move outer
parameters_of-moved move (Inner FunctionBody begins ∷ outer) = nearest-moved move outer
parameters_of-moved move (Inner _ begins ∷ outer) = refl

module _ (move : ℕ → ℕ) (injective : IsInjective move) where
  order-back : (s t : Scope) → scope_order (moved move s) ≡ scope_order (moved move t) → scope_order s ≡ scope_order t
  order-back (Inner k a) (Inner l b) e = let same : move a ≡ move b = omega (arith, e) in ap (λ n. n + 2) (injective a b same)
  order-back Wrapper Wrapper e = refl
  order-back Top Top e = refl
  order-back Wrapper Top e = e
  order-back Top Wrapper e = e
  order-back Wrapper (Inner l b) e = absurd (omega (arith, e))
  order-back Top (Inner l b) e = absurd (omega (arith, e))
  order-back (Inner k a) Wrapper e = absurd (omega (arith, e))
  order-back (Inner k a) Top e = absurd (omega (arith, e))

  order-moved : (s t : Scope) → scope_order s ≡ scope_order t → scope_order (moved move s) ≡ scope_order (moved move t)
  order-moved (Inner k a) (Inner l b) e = let same : a ≡ b = omega (arith, e) in ap (λ n. move n + 2) same
  order-moved Wrapper Wrapper e = refl
  order-moved Top Top e = refl
  order-moved Wrapper Top e = e
  order-moved Top Wrapper e = e
  order-moved Wrapper (Inner l b) e = absurd (omega (arith, e))
  order-moved Top (Inner l b) e = absurd (omega (arith, e))
  order-moved (Inner k a) Wrapper e = absurd (omega (arith, e))
  order-moved (Inner k a) Top e = absurd (omega (arith, e))

  pub same-moved : (s t : Scope) → same_scope (moved move s) (moved move t) ≡ same_scope s t
  same-moved s t = same_bool (same_scope (moved move s) (moved move t)) (same_scope s t) (λ e. eq-eqb (scope_order s) (scope_order t) (order-back s t (eqb-true (scope_order (moved move s)) (scope_order (moved move t)) e))) (λ e. eq-eqb (scope_order (moved move s)) (scope_order (moved move t)) (order-moved s t (eqb-true (scope_order s) (scope_order t) e)))

  pub from_taker-moved : (d e : Declared) → IsMoved move d e → from_taker e.by e.scopes ≡ all_moved move (from_taker d.by d.scopes)
  from_taker-moved d e m = ap (λ w. from_taker w e.scopes) m.by ∙ ap (from_taker d.by) m.scopes ∙ taken-moved move d.by d.scopes

  pub taker-moved : (d e : Declared) → IsMoved move d e → taker e ≡ moved move (taker d)
  taker-moved d e m = ap (λ l. unwrap_or (nearest l) Top) (from_taker-moved d e m) ∙ ap (λ o. unwrap_or o Top) (nearest-moved move (from_taker d.by d.scopes)) ∙ top-moved move (nearest (from_taker d.by d.scopes))

  parameter-moved : (t : Scope) (name : Name) (d e : Declared) → IsMoved move d e → is_parameter (moved move t) name e ≡ is_parameter t name d
  parameter-moved t name d e m =
      ap (λ u. (is_parameters u || is_wrapper u) && same_scope u (moved move t) && names_agree e.name name) (taker-moved d e m)
      ∙ ap (λ b. (b || is_wrapper (moved move (taker d))) && same_scope (moved move (taker d)) (moved move t) && names_agree e.name name) (parameters-stays move (taker d))
      ∙ ap (λ b. (is_parameters (taker d) || b) && same_scope (moved move (taker d)) (moved move t) && names_agree e.name name) (wrapper-stays move (taker d))
      ∙ ap (λ b. (is_parameters (taker d) || is_wrapper (taker d)) && b && names_agree e.name name) (same-moved (taker d) t)
      ∙ ap (λ n. (is_parameters (taker d) || is_wrapper (taker d)) && same_scope (taker d) t && names_agree n name) m.name

  module _ (all every : List Declared) (zip : AllZip (IsMoved move) all every) where
    beside-moved : (d e : Declared) → IsMoved move d e → (o : Option Scope) → home_beside every e (option_map (moved move) o) ≡ moved move (home_beside all d o)
    beside-moved d e m None = taker-moved d e m
    beside-moved d e m (Some t) =
        ap (λ n. cond (list_any (is_parameter (moved move t) n) every) (moved move t) (taker e)) m.name
        ∙ ap (λ b. cond b (moved move t) (taker e)) (any-zip (IsMoved move) (is_parameter t d.name) (is_parameter (moved move t) d.name) (λ p q. parameter-moved t d.name p q) all every zip)
        ∙ by_test (list_any (is_parameter t d.name) all)
      where
        by_test : (b : Bool) → cond b (moved move t) (taker e) ≡ moved move (cond b t (taker d))
        by_test true = refl
        by_test false = taker-moved d e m

    pub home-moved : (d e : Declared) → IsMoved move d e → home_of every e ≡ moved move (home_of all d)
    home-moved d e m =
        ap (λ w. cond (joins_parameter w) (home_beside every e (parameters_of (from_taker e.by e.scopes))) (taker e)) m.by
        ∙ ap (λ l. cond (joins_parameter d.by) (home_beside every e (parameters_of l)) (taker e)) (from_taker-moved d e m)
        ∙ ap (λ o. cond (joins_parameter d.by) (home_beside every e o) (taker e)) (parameters_of-moved move (from_taker d.by d.scopes))
        ∙ by_joins (joins_parameter d.by)
      where
        by_joins : (b : Bool) → cond b (home_beside every e (option_map (moved move) (parameters_of (from_taker d.by d.scopes)))) (taker e) ≡ moved move (cond b (home_beside all d (parameters_of (from_taker d.by d.scopes))) (taker d))
        by_joins true = beside-moved d e m (parameters_of (from_taker d.by d.scopes))
        by_joins false = taker-moved d e m

    -- What scopes bind.

    declares-moved : (t : Scope) (name : Name) → declares every (moved move t) name ≡ declares all t name
    declares-moved t name = any-zip (IsMoved move) (is_declared_in all t name) (is_declared_in every (moved move t) name) (λ d e m. ap (λ u. same_scope u (moved move t) && names_agree e.name name) (home-moved d e m) ∙ ap (λ b. b && names_agree e.name name) (same-moved (home_of all d) t) ∙ ap (λ n. same_scope (home_of all d) t && names_agree n name) m.name) all every zip

    binds-moved : (name : Name) (t : Scope) → binds every (moved move t) name ≡ binds all t name
    binds-moved name t =
        ap (λ b. b || (is_arguments name.sym && has_implicit_arguments every (moved move t))) (declares-moved t name)
        ∙ ap (λ b. declares all t name || (is_arguments name.sym && (b && not (declares every (moved move t) (record { sym = codes "arguments"; ctxt = None }))))) (function-stays move t)
        ∙ ap (λ b. declares all t name || (is_arguments name.sym && (is_function t && not b))) (declares-moved t (record { sym = codes "arguments"; ctxt = None }))

    -- What an occurrence denotes.

    pub denoted-moved : (o p : Occurrence) → HasMoved move o p → denoted_of BySymbol Es every p ≡ moved_denoted move (denoted_of BySymbol Es all o)
    denoted-moved o p m =
        ap (λ x. own_or_found every (denoted_in BySymbol every (scopes_around Es p.path) (record { sym = x; ctxt = None })) (cond (is_binding p.role) (declared_by p.place (record { sym = x; ctxt = None }) (scopes_around Es p.path) (way_of p.path)) None)) m.symbol
        ∙ ap (λ l. own_or_found every (denoted_in BySymbol every l name) (cond (is_binding p.role) (declared_by p.place name l (way_of p.path)) None)) m.scopes
        ∙ ap (λ r. own_or_found every (denoted_in BySymbol every (all_moved move scopes) name) (cond (is_binding r) (declared_by p.place name (all_moved move scopes) (way_of p.path)) None)) m.role
        ∙ ap (λ w. own_or_found every (denoted_in BySymbol every (all_moved move scopes) name) (cond (is_binding o.role) (declared_by p.place name (all_moved move scopes) w) None)) m.way
        ∙ by_both (is_binding o.role) (way_of o.path)
      where
        scopes : List Scope
        scopes = scopes_around Es o.path

        name : Name
        name = record { sym = o.sym; ctxt = None }

        found : denoted_in BySymbol every (all_moved move scopes) name ≡ moved_denoted move (denoted_in BySymbol all scopes name)
        found = ap (bound_in name) (find-moved move (λ t. binds all t name) (λ t. binds every t name) (binds-moved name) scopes) ∙ bound-moved move name (find (λ t. binds all t name) scopes)

        by_both : (b : Bool) (w : Option Way) → own_or_found every (denoted_in BySymbol every (all_moved move scopes) name) (cond b (declared_by p.place name (all_moved move scopes) w) None) ≡ moved_denoted move (own_or_found all (denoted_in BySymbol all scopes name) (cond b (declared_by o.place name scopes w) None))
        by_both false w = found
        by_both true None = found
        by_both true (Some way) = ap (λ t. Bound t name) (home-moved (record { place = o.place; name = name; by = way; scopes = scopes }) (record { place = p.place; name = name; by = way; scopes = all_moved move scopes }) (record { name = refl; by = refl; scopes = refl }))

-- The declarations of occurrences that have moved.

pub declarations-moved : (move : ℕ → ℕ) (os ps : List Occurrence) → AllZip (HasMoved move) os ps → AllZip (IsMoved move) (declarations BySymbol os) (declarations BySymbol ps)
declarations-moved move [] [] zip = tt
declarations-moved move [] (p ∷ ps) zip = absurd zip
declarations-moved move (o ∷ os) [] zip = absurd zip
declarations-moved move (o ∷ os) (p ∷ ps) zip = step (declarations-moved move os ps zip.1)
  where
    m : HasMoved move o p
    m = zip.0

    step : AllZip (IsMoved move) (declarations BySymbol os) (declarations BySymbol ps) → AllZip (IsMoved move) (cons_option (declaration_of BySymbol Es o) (declarations BySymbol os)) (cons_option (declaration_of BySymbol Es p) (declarations BySymbol ps))
    step rest = subst (λ d. AllZip (IsMoved move) (cons_option (declaration_of BySymbol Es o) (declarations BySymbol os)) (cons_option d (declarations BySymbol ps))) (sym its) (by_both (is_binding o.role) (way_of o.path))
      where
        its : declaration_of BySymbol Es p ≡ cond (is_binding o.role) (declared_by p.place (record { sym = o.sym; ctxt = None }) (all_moved move (scopes_around Es o.path)) (way_of o.path)) None
        its =
            ap (λ x. cond (is_binding p.role) (declared_by p.place (record { sym = x; ctxt = None }) (scopes_around Es p.path) (way_of p.path)) None) m.symbol
            ∙ ap (λ l. cond (is_binding p.role) (declared_by p.place (record { sym = o.sym; ctxt = None }) l (way_of p.path)) None) m.scopes
            ∙ ap (λ r. cond (is_binding r) (declared_by p.place (record { sym = o.sym; ctxt = None }) (all_moved move (scopes_around Es o.path)) (way_of p.path)) None) m.role
            ∙ ap (λ w. cond (is_binding o.role) (declared_by p.place (record { sym = o.sym; ctxt = None }) (all_moved move (scopes_around Es o.path)) w) None) m.way

        by_both : (b : Bool) (w : Option Way) → AllZip (IsMoved move) (cons_option (cond b (declared_by o.place (record { sym = o.sym; ctxt = None }) (scopes_around Es o.path) w) None) (declarations BySymbol os)) (cons_option (cond b (declared_by p.place (record { sym = o.sym; ctxt = None }) (all_moved move (scopes_around Es o.path)) w) None) (declarations BySymbol ps))
        by_both false w = rest
        by_both true None = rest
        by_both true (Some way) = (record { name = refl; by = refl; scopes = refl }, rest)

-- ---- steps
pub any-congr : {A : Type 0} (p q : A → Bool) (xs : List A) → ((x : A) → IsIn xs x → p x ≡ q x) → list_any p xs ≡ list_any q xs
any-congr p q [] same = refl
any-congr p q (x ∷ xs) same = ap (λ b. b || list_any p xs) (same x (0, refl)) ∙ ap (λ b. q x || b) (any-congr p q xs (λ y at. same y (suc at.0, at.1)))

-- what an occurrence denotes has its symbol: a global, a declared name, or the implicit `arguments`
pub data Source (all : List Declared) (o : Occurrence) : Denoted → Type 0 where
  FromGlobal : Source all o (Global o.sym)
  FromDeclared : (d : Declared) → IsIn all d → d.name.sym ≡ o.sym → Source all o (Bound (home_of all d) d.name)
  FromArguments : (t : Scope) → o.sym ≡ codes "arguments" → Source all o (Bound t (plain o.sym))

module _ (K : Table) (os : List Occurrence) (all : List Declared) (s : Shape K os all) where
  none-nameless : (t : Scope) (x : List ℕ) → (declares all t (plain x) && not (is_written_in all t (plain x))) ≡ false
  none-nameless t x = by_written (is_written_in all t (plain x)) refl
    where
      by_written : (b : Bool) → is_written_in all t (plain x) ≡ b → (declares all t (plain x) && not b) ≡ false
      by_written true is = and_right (declares all t (plain x)) false refl
      by_written false is = and_left (declares all t (plain x)) true (false_from_ne_true (declares all t (plain x)) (λ declared.
          let found = list_any-in (is_declared_in all t (plain x)) all declared in
          let has = has-context K os all s found.0 found.1 in
          false≢true (sym is ∙ any-here (λ (d : Declared). has_identifier d && is_declared_in all t (plain x) d) all found.0 found.1 (and_from (has_identifier found.0) (is_declared_in all t (plain x) found.0) (ap is_some has.1) found.2))))

  module _ (o : Occurrence) (at : IsIn os o) where
    abbrev scopes : List Scope
    scopes = scopes_around Es o.path

    abbrev name : Name
    name = record { sym = o.sym; ctxt = Some o.ctxt }

    source_found : (r : Option Scope) → find (λ t. is_written_in all t name) scopes ≡ r → Source all o (written_or_implied all scopes name r)
    source_found (Some t) e =
        let inside = find-in (λ t. is_written_in all t name) scopes t e in
        let found = list_any-in (λ (d : Declared). has_identifier d && is_declared_in all t name d) all (find-passes (λ t. is_written_in all t name) scopes t e) in
        let parts = and_parts (same_scope (home_of all found.0) t) (names_agree found.0.name name) (and_parts (has_identifier found.0) (is_declared_in all t name found.0) found.2).1 in
        let names : found.0.name ≡ name = agreed-with K os all s found.0 found.1 o.sym o.ctxt parts.1 in
        let one = homed K os all s found.0 found.1 in
        let two = from-known K scopes (s.known o at) t inside in
        let home : home_of all found.0 ≡ t = (same-known K (home_of all found.0) t one.0 two.0 one.1 two.1 (eqb-true (scope_order (home_of all found.0)) (scope_order t) parts.0)).0 in
        subst (λ n. Source all o (Bound t n)) names (subst (λ u. Source all o (Bound u found.0.name)) home (FromDeclared found.0 found.1 (ap (λ (n : Name). n.sym) names)))
    source_found None e = by_context (o.ctxt == 1)
      where
        by_implied : (r : Option Scope) → find (λ t. is_implied_in all t name) scopes ≡ r → Source all o (bound_in (plain o.sym) r)
        by_implied None found = FromGlobal
        by_implied (Some t) found = by_how (or_cases (declares all t (plain o.sym) && not (is_written_in all t (plain o.sym))) (is_arguments o.sym && is_function t) (find-passes (λ t. is_implied_in all t name) scopes t found))
          where
            by_how : ((declares all t (plain o.sym) && not (is_written_in all t (plain o.sym))) ≡ true) ⊎ ((is_arguments o.sym && is_function t) ≡ true) → Source all o (Bound t (plain o.sym))
            by_how (inl nameless) = absurd (false≢true (sym (none-nameless t o.sym) ∙ nameless))
            by_how (inr implicit) = FromArguments t ((bytes_eq-Decides o.sym (codes "arguments")).0 (and_parts (is_arguments o.sym) (is_function t) implicit).0)

        by_context : (b : Bool) → Source all o (cond b (Global o.sym) (bound_in (plain o.sym) (find (λ t. is_implied_in all t name) scopes)))
        by_context true = FromGlobal
        by_context false = by_implied (find (λ t. is_implied_in all t name) scopes) refl

    pub source : Source all o (denoted_of ByContext Es all o)
    source = by_both (is_binding o.role) refl (way_of o.path) refl
      where
        by_both : (b : Bool) → is_binding o.role ≡ b → (w : Option Way) → way_of o.path ≡ w → Source all o (own_or_found all (denoted_in ByContext all scopes name) (cond b (declared_by o.place name scopes w) None))
        by_both false role w way = source_found (find (λ t. is_written_in all t name) scopes) refl
        by_both true role None way = source_found (find (λ t. is_written_in all t name) scopes) refl
        by_both true role (Some x) way = FromDeclared (declared_as o x) (s.declares o at (declared_as o x) (ap (λ b. cond b (declared_by o.place name scopes (way_of o.path)) None) role ∙ ap (declared_by o.place name scopes) way)) refl

  -- The order of bindings.

  -- one comes before the other, by numbers
  abbrev IsEarlier : Declared → Declared → Type 0
  IsEarlier a b = (scope_order (home_of all a) < scope_order (home_of all b)) ⊎ ((scope_order (home_of all a) ≡ scope_order (home_of all b)) × (first_place all a < first_place all b))

  earlier : (a b : Declared) → comes_before all a b ≡ true → IsEarlier a b
  earlier a b e = by_cases (or_cases (nat_lt (scope_order (home_of all a)) (scope_order (home_of all b))) _ e)
    where
      by_cases : (nat_lt (scope_order (home_of all a)) (scope_order (home_of all b)) ≡ true) ⊎ ((same_scope (home_of all a) (home_of all b) && nat_lt (first_place all a) (first_place all b)) ≡ true) → IsEarlier a b
      by_cases (inl less) = inl (ltb-true (scope_order (home_of all a)) (scope_order (home_of all b)) less)
      by_cases (inr same) = let parts = and_parts (same_scope (home_of all a) (home_of all b)) (nat_lt (first_place all a) (first_place all b)) same in inr (eqb-true (scope_order (home_of all a)) (scope_order (home_of all b)) parts.0, ltb-true (first_place all a) (first_place all b) parts.1)

  before : (a b : Declared) → IsEarlier a b → comes_before all a b ≡ true
  before a b (inl less) = or_left (nat_lt (scope_order (home_of all a)) (scope_order (home_of all b))) _ (lt-ltb (scope_order (home_of all a)) (scope_order (home_of all b)) less)
  before a b (inr both) = or_right (nat_lt (scope_order (home_of all a)) (scope_order (home_of all b))) _ (and_from (same_scope (home_of all a) (home_of all b)) (nat_lt (first_place all a) (first_place all b)) (eq-eqb (scope_order (home_of all a)) (scope_order (home_of all b)) both.0) (lt-ltb (first_place all a) (first_place all b) both.1))

  pub before-trans : (a b c : Declared) → comes_before all a b ≡ true → comes_before all b c ≡ true → comes_before all a c ≡ true
  before-trans a b c one two = before a c (by_cases (earlier a b one) (earlier b c two))
    where
      by_cases : IsEarlier a b → IsEarlier b c → IsEarlier a c
      by_cases (inl x) (inl y) = inl (omega (arith, x, y))
      by_cases (inl x) (inr y) = inl (omega (arith, x, y.0))
      by_cases (inr x) (inl y) = inl (omega (arith, x.0, y))
      by_cases (inr x) (inr y) = inr (x.0 ∙ y.0, omega (arith, x.1, y.1))

  -- one binding has one first place
  pub first-same : (d e : Declared) → IsIn all d → IsSame all d e → first_place all d ≡ first_place all e
  first-same d e at same =
      let itself : is_declared_in all (home_of all d) d.name d ≡ true = and_from (same_scope (home_of all d) (home_of all d)) (names_agree d.name d.name) (eq-eqb (scope_order (home_of all d)) (scope_order (home_of all d)) refl) (agree-self K os all s d at) in
      let found = find-some (is_declared_in all (home_of all d) d.name) all d at itself in
      let other : find (is_declared_in all (home_of all e) e.name) all ≡ Some found.0 = ap (λ t. find (is_declared_in all t e.name) all) (sym same.0) ∙ ap (λ n. find (is_declared_in all (home_of all d) n) all) (sym same.1) ∙ found.1 in
      ap (λ o. unwrap_or (option_map (λ (x : Declared). x.place) o) d.place) found.1 ∙ sym (ap (λ o. unwrap_or (option_map (λ (x : Declared). x.place) o) e.place) other)

  pub never-before : (d e : Declared) → IsIn all d → IsSame all d e → comes_before all d e ≡ true → ⊥
  never-before d e at same is = by_cases (earlier d e is)
    where
      by_cases : IsEarlier d e → ⊥
      by_cases (inl less) = let homes = ap scope_order same.0 in omega (arith, less, homes)
      by_cases (inr both) = let places = first-same d e at same in omega (arith, both.1, places)

-- where each declared name has the number that it is to have, the numbers are those of the tree
each-right : {A : Type 0} (p : A → Bool) (xs : List A) → ((x : A) → IsIn xs x → p x ≡ true) → list_all p xs ≡ true
each-right p [] each = refl
each-right p (x ∷ xs) each = and_from (p x) (list_all p xs) (each x (0, refl)) (each-right p xs (λ y at. each y (suc at.0, at.1)))

pub are-numbers : (items : List Item) (numbers : Numbering) → ((d : Declared) → IsIn (declared ByContext Es items) d → is_named_right numbers (declared ByContext Es items) (occurrences items) d ≡ true) → IsNumbering items numbers
are-numbers items numbers each = each-right (is_named_right numbers (declared ByContext Es items) (occurrences items)) (declared ByContext Es items) each
