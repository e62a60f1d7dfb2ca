-- What has the occurrences of a tree, with the symbols that the naming rule gives and in scopes that have moved, denotes
-- by symbol alone what the tree denotes by symbol and context.
-- Other identifiers by which the bindings of a tree are told apart just as before: by symbol and context each name denotes
-- what it denoted. Scopes may have moved.
-- The naming rule for a tree whose identifiers were called otherwise (as keywords are), read off the tree before: by the
-- symbols that its names have afterwards.
use Rattle.std.proofs.Common.{◌≡◌, ℕ, List, [], ◌∷◌, Option, Some, None, option_map, map, length, slice_get, refl, ap, sym, ◌∙◌, subst, zero, suc, ◌==◌, ◌&&◌, ◌||◌, not, Bool, true, false, cond, find, bytes_eq, eq-eqb, eqb-true, ◌<◌, ◌⊎◌, inl, inr, nat_lt, unwrap_or, lt-ltb, arith}
use Rattle.std.specs.List.{cons_option, AllZip, list_any}
use Rattle.std.proofs.lemmas.Option.{none-some, same_Some, slice_get-map}
use Rattle.std.specs.Prelude.{is_some}
use Rattle.std.proofs.lemmas.Bool.{false≢true, and_parts, and_from, and_left, and_right, false_from_ne_true, ltb-true}
use Rattle.std.proofs.lemmas.Slice.Eq.{bytes_eq-Decides}
use Rattle.bundle_syntax.specs.Item.{Item}
use Rattle.bundle_rules.specs.Places.{start, Occurrence, occurrences, is_binding}
use Rattle.bundle_rules.specs.Scopes.{Es, Scope, Wrapper, Top, Inner, same_scope, scopes_around, FunctionBody, CatchBlock, scope_order}
use Rattle.bundle_rules.specs.Declarations.{Reading, BySymbol, ByContext, Declared, declaration_of, declared, Way, Name, names_agree, declared_by, way_of}
use Rattle.bundle_rules.specs.Denotes.{Denoted, Bound, Global, denoted_of, denotations, denoted_as, IsResolved, DenoteAlike, bound_in, denoted_in, own_or_found, has_identifier, is_written_in, is_implied_in, implied, written_or_implied}
use Rattle.bundle_rules.specs.Renaming.{Numbering, IsNumbering, numbered, number_of, symbol_of, keeps, first_place, comes_before, group, is_kept_beside, is_kept_outside, is_needed_by, may_keep, is_taken, are_taken_to, is_least_free, is_named_right}
use Rattle.bundle_rules.specs.Renamed.{HasNamesOnly}
use Rattle.bundle_rules.specs.Homes.{is_parameters, is_wrapper, is_function, from_taker, taker, parameters_of, joins_parameter, is_parameter, home_beside, home_of, is_declared_in, declares, is_arguments, nearest, group_of}
use Rattle.bundle_rules.specs.Idents.{Ident}
use Rattle.bundle_scope_denote.proofs.ChainLemmas.{AllZip-weaker as zip-map}
use Rattle.bundle_scope_names.proofs.TreeLemmas.{map-map as map-twice}
use Rattle.bundle_scope_names.proofs.Counting.{length-map}
use Rattle.bundle_scope_names.proofs.HomesLemmas.{iff as same_bool}
use Rattle.bundle_scope_names.proofs.naming_rule.Tables.{IsIn, in-rest, map-in, map-congr, list_any-in, any-here, find-some, trichotomy, table_in, declarations, AreNamed, declared-named, all-are, setting}
use Rattle.bundle_scope_names.proofs.naming_rule.Heart.{renamed_declared, renamed_all, as_named, renamed_occurrence, IsSound, declaration-renamed, named as named_alike, as_named-one, as_named-global, plain, bound_symbol as symbol_in, bound_scope as scope_in}
use Rattle.bundle_scope_names.proofs.naming_rule.Clash.{moved, moved_denoted, IsInjective, IsMoved, HasMoved, denoted-moved, declarations-moved, all_moved, any-zip, find-moved, parameters-stays, wrapper-stays, function-stays, parameters_of-moved, same-moved, from_taker-moved, taker-moved}

-- ---- alike
pub map-zip : {A B C : Type 0} (R : A → B → Type 0) (f : A → C) (g : B → C) → ((a : A) (b : B) → R a b → g b ≡ f a) → (xs : List A) (ys : List B) → AllZip R xs ys → map g ys ≡ map f xs
map-zip R f g same [] [] all = refl
map-zip R f g same [] (y ∷ ys) all = absurd all
map-zip R f g same (x ∷ xs) [] all = absurd all
map-zip R f g same (x ∷ xs) (y ∷ ys) all = ap (λ z. z ∷ map g ys) (same x y all.0) ∙ ap (λ zs. f x ∷ zs) (map-zip R f g same xs ys all.1)

-- what is denoted afterwards is made of what was, and nothing is lost: the two denote alike
pub alike-from : (reading : Reading) (g : Denoted → Denoted) (P : Denoted → Type 0) (before after : List Item) → denotations reading Es after ≡ map g (denotations ByContext Es before) → ((d : Denoted) → IsIn (denotations ByContext Es before) d → P d) → ((d e : Denoted) → P d → P e → g d ≡ g e → d ≡ e) → ((d : Denoted) (x : List ℕ) → g d ≡ Global x → d ≡ Global x) → ((x : List ℕ) → g (Global x) ≡ Global x) → DenoteAlike ByContext before reading after
alike-from reading g P before after are each one was stays = record {
  len = sym (ap length are ∙ length-map g (denotations ByContext Es before));
  same = λ i j. (λ e. at i ∙ ap (option_map g) e ∙ sym (at j), λ e. back (denoted_as ByContext Es before i) (denoted_as ByContext Es before j) (λ d is. each d (i, is)) (λ d is. each d (j, is)) (sym (at i) ∙ e ∙ at j));
  globals = λ i x. (λ e. at i ∙ ap (option_map g) e ∙ ap (λ d. Some d) (stays x), λ e. global (denoted_as ByContext Es before i) x (sym (at i) ∙ e));
}
  where
    at : (i : ℕ) → denoted_as reading Es after i ≡ option_map g (denoted_as ByContext Es before i)
    at i = ap (λ ds. slice_get ds i) are ∙ slice_get-map g (denotations ByContext Es before) i

    back : (a b : Option Denoted) → ((d : Denoted) → a ≡ Some d → P d) → ((d : Denoted) → b ≡ Some d → P d) → option_map g a ≡ option_map g b → a ≡ b
    back None None p q e = refl
    back None (Some y) p q e = absurd (none-some (g y) e)
    back (Some x) None p q e = absurd (none-some (g x) (sym e))
    back (Some x) (Some y) p q e = ap (λ d. Some d) (one x y (p x refl) (q y refl) (same_Some (g x) (g y) e))

    global : (a : Option Denoted) (x : List ℕ) → option_map g a ≡ Some (Global x) → a ≡ Some (Global x)
    global None x e = absurd (none-some (Global x) e)
    global (Some d) x e = ap (λ d. Some d) (was d x (same_Some (g d) (Global x) e))

-- what has moved was one only where it is one
pub moved-one : (move : ℕ → ℕ) → IsInjective move → (s t : Scope) → moved move s ≡ moved move t → s ≡ t
moved-one move injective Wrapper Wrapper e = refl
moved-one move injective Top Top e = refl
moved-one move injective (Inner k a) (Inner l b) e = let kinds : k ≡ l = cc in let places : move a ≡ move b = cc in ap (λ j. Inner j a) kinds ∙ ap (Inner l) (injective a b places)
moved-one move injective Wrapper Top e = absurd cc
moved-one move injective Wrapper (Inner l b) e = absurd cc
moved-one move injective Top Wrapper e = absurd cc
moved-one move injective Top (Inner l b) e = absurd cc
moved-one move injective (Inner k a) Wrapper e = absurd cc
moved-one move injective (Inner k a) Top e = absurd cc

moved_denoted-one : (move : ℕ → ℕ) → IsInjective move → (d e : Denoted) → moved_denoted move d ≡ moved_denoted move e → d ≡ e
moved_denoted-one move injective (Global x) (Global y) e = e
moved_denoted-one move injective (Global x) (Bound t n) e = absurd cc
moved_denoted-one move injective (Bound s m) (Global y) e = absurd cc
moved_denoted-one move injective (Bound s m) (Bound t n) e = let scopes : moved move s ≡ moved move t = cc in let names : m ≡ n = cc in ap (λ u. Bound u m) (moved-one move injective s t scopes) ∙ ap (Bound t) names

moved_denoted-global : (move : ℕ → ℕ) (d : Denoted) (x : List ℕ) → moved_denoted move d ≡ Global x → d ≡ Global x
moved_denoted-global move (Global y) x e = e
moved_denoted-global move (Bound t n) x e = absurd cc

module _ (before : List Item) (resolved : IsResolved Es before) (names : HasNamesOnly before) (numbers : Numbering) (right : IsNumbering before numbers) where
  abbrev os : List Occurrence
  os = occurrences before

  abbrev all : List Declared
  all = declared ByContext Es before

  -- the occurrences with their new symbols
  abbrev pub renamed_occurrences : List Occurrence
  renamed_occurrences = map (renamed_occurrence numbers all) os

  declarations-renamed : (l : List Occurrence) → ((o : Occurrence) → IsIn l o → IsIn os o) → declarations BySymbol (map (renamed_occurrence numbers all) l) ≡ map (renamed_declared numbers all) (declarations ByContext l)
  declarations-renamed [] among = refl
  declarations-renamed (o ∷ l) among =
      ap (λ d. cons_option d (declarations BySymbol (map (renamed_occurrence numbers all) l))) (declaration-renamed (table_in start before) numbers os all (setting before names numbers resolved right) o (among o (0, refl)))
      ∙ ap (cons_option (option_map (renamed_declared numbers all) (declaration_of ByContext Es o))) (declarations-renamed l (λ p at. among p (in-rest o l p at)))
      ∙ cons-map (declaration_of ByContext Es o)
    where
      cons-map : (first : Option Declared) → cons_option (option_map (renamed_declared numbers all) first) (map (renamed_declared numbers all) (declarations ByContext l)) ≡ map (renamed_declared numbers all) (cons_option first (declarations ByContext l))
      cons-map None = refl
      cons-map (Some d) = refl

  pub all-renamed : declarations BySymbol renamed_occurrences ≡ renamed_all numbers all
  all-renamed = declarations-renamed os (λ o at. at) ∙ ap (map (renamed_declared numbers all)) (sym (all-are before names))

  -- the capture lemma, over the occurrences of what comes afterwards
  pub capture : (move : ℕ → ℕ) → IsInjective move → (after : List Item) → AreNamed after → AllZip (HasMoved move) renamed_occurrences (occurrences after) → DenoteAlike ByContext before BySymbol after
  capture move injective after named_after zip = alike-from BySymbol becomes (IsSound os all) before after are each one was (λ x. refl)
    where
      becomes : Denoted → Denoted
      becomes d = moved_denoted move (as_named numbers d)

      every : List Declared
      every = declarations BySymbol (occurrences after)

      zip_declared : AllZip (IsMoved move) (renamed_all numbers all) (declarations BySymbol (occurrences after))
      zip_declared = subst (λ l. AllZip (IsMoved move) l (declarations BySymbol (occurrences after))) all-renamed (declarations-moved move renamed_occurrences (occurrences after) zip)

      are : denotations BySymbol Es after ≡ map becomes (denotations ByContext Es before)
      are =
          ap (λ l. map (denoted_of BySymbol Es l) (occurrences after)) (declared-named BySymbol after named_after)
          ∙ map-zip (HasMoved move) (λ o. moved_denoted move (denoted_of BySymbol Es (renamed_all numbers all) o)) (denoted_of BySymbol Es (declarations BySymbol (occurrences after))) (λ o p m. denoted-moved move injective (renamed_all numbers all) (declarations BySymbol (occurrences after)) zip_declared o p m) renamed_occurrences (occurrences after) zip
          ∙ map-twice (λ o. moved_denoted move (denoted_of BySymbol Es (renamed_all numbers all) o)) (renamed_occurrence numbers all) os
          ∙ map-congr (λ o. moved_denoted move (denoted_of BySymbol Es (renamed_all numbers all) (renamed_occurrence numbers all o))) (λ o. becomes (denoted_of ByContext Es all o)) os (λ o at. ap (moved_denoted move) (named_alike (table_in start before) numbers os all (setting before names numbers resolved right) o at).0)
          ∙ sym (map-twice becomes (denoted_of ByContext Es all) os)

      each : (d : Denoted) → IsIn (denotations ByContext Es before) d → IsSound os all d
      each d at = let from = map-in (denoted_of ByContext Es all) os d at in subst (IsSound os all) (sym from.2) (named_alike (table_in start before) numbers os all (setting before names numbers resolved right) from.0 from.1).1

      one : (d e : Denoted) → IsSound os all d → IsSound os all e → becomes d ≡ becomes e → d ≡ e
      one d e p q same = as_named-one (table_in start before) numbers os all (setting before names numbers resolved right) d e p q (moved_denoted-one move injective (as_named numbers d) (as_named numbers e) same)

      was : (d : Denoted) (x : List ℕ) → becomes d ≡ Global x → d ≡ Global x
      was d x e = as_named-global numbers d x (moved_denoted-global move (as_named numbers d) x e)

-- ---- recalled

-- what becomes of the identifiers
abbrev pub Calling : Type 0
Calling = List ℕ → ℕ → Ident

-- a name by its new identifier; one without a context stays
abbrev pub recalled_as : Calling → Name → Option ℕ → Name
recalled_as call name None = name
recalled_as call name (Some c) = record { sym = (call name.sym c).0; ctxt = Some (call name.sym c).1 }

abbrev pub recalled : Calling → Name → Name
recalled call name = recalled_as call name name.ctxt

-- what is denoted by the new identifiers
abbrev pub recalled_denoted : Calling → (ℕ → ℕ) → Denoted → Denoted
recalled_denoted call move (Global x) = Global x
recalled_denoted call move (Bound scope name) = Bound (moved move scope) (recalled call name)

-- whether what is denoted is a name that an identifier declares
abbrev pub is_written_one : Denoted → Bool
is_written_one (Global x) = false
is_written_one (Bound scope name) = is_some name.ctxt

-- an occurrence with its new identifier
pub record Recalls (call : Calling) (move : ℕ → ℕ) (o p : Occurrence) : Type 0 where
  pub role : p.role ≡ o.role
  pub symbol : p.sym ≡ (call o.sym o.ctxt).0
  pub context : p.ctxt ≡ (call o.sym o.ctxt).1
  pub way : way_of p.path ≡ way_of o.path
  pub scopes : scopes_around Es p.path ≡ all_moved move (scopes_around Es o.path)

-- the identifiers of these occurrences are told apart as before, and what no identifier declares keeps its own
pub record IsFaithful (call : Calling) (os : List Occurrence) (all : List Declared) : Type 0 where
  pub one : (o p : Occurrence) → IsIn os o → IsIn os p → (call o.sym o.ctxt).0 ≡ (call p.sym p.ctxt).0 → (call o.sym o.ctxt).1 ≡ (call p.sym p.ctxt).1 → (o.sym ≡ p.sym) × (o.ctxt ≡ p.ctxt)
  pub stays : (o : Occurrence) → IsIn os o → is_written_one (denoted_of ByContext Es all o) ≡ false → ((call o.sym o.ctxt).0 ≡ o.sym) × ((call o.sym o.ctxt).1 ≡ o.ctxt)

-- the name of an identifier
abbrev pub named : Occurrence → Name
named o = record { sym = o.sym; ctxt = Some o.ctxt }

-- a name is that of an occurrence
abbrev pub IsOf : List Occurrence → Name → Type 0
IsOf os name = (o : Occurrence) × IsIn os o × (name ≡ named o)

-- a declaration by its new name
pub record IsRecalled (call : Calling) (move : ℕ → ℕ) (os : List Occurrence) (d e : Declared) : Type 0 where
  pub of : IsOf os d.name
  pub name : e.name ≡ recalled call d.name
  pub by : e.by ≡ d.by
  pub scopes : e.scopes ≡ all_moved move d.scopes

-- what is denoted, by its name
pub data IsKnown (os : List Occurrence) : Denoted → Type 0 where
  KnownGlobal : (x : List ℕ) → IsKnown os (Global x)
  KnownName : (t : Scope) (o : Occurrence) → IsIn os o → IsKnown os (Bound t (named o))
  KnownPlain : (t : Scope) (x : List ℕ) → IsKnown os (Bound t (plain x))

abbrev context_in : Denoted → Option ℕ
context_in (Bound t n) = n.ctxt
context_in (Global x) = None

-- where each declaration has a context, none is nameless
nameless-none : (all : List Declared) → ((d : Declared) → IsIn all d → (c : ℕ) × (d.name.ctxt ≡ Some c)) → (t : Scope) (x : List ℕ) → (declares all t (plain x) && not (is_written_in all t (plain x))) ≡ false
nameless-none all each t x = by_written (is_written_in all t (plain x)) refl
  where
    by_written : (b : Bool) → is_written_in all t (plain x) ≡ b → (declares all t (plain x) && not b) ≡ false
    by_written true is = and_right (declares all t (plain x)) false refl
    by_written false is = and_left (declares all t (plain x)) true (false_from_ne_true (declares all t (plain x)) (λ declared.
        let found = list_any-in (is_declared_in all t (plain x)) all declared in
        let has = each found.0 found.1 in
        false≢true (sym is ∙ any-here (λ (d : Declared). has_identifier d && is_declared_in all t (plain x) d) all found.0 found.1 (and_from (has_identifier found.0) (is_declared_in all t (plain x) found.0) (ap is_some has.1) found.2))))

-- elements of zipped lists
pub zip-first : {A B : Type 0} (R : A → B → Type 0) (xs : List A) (ys : List B) → AllZip R xs ys → (x : A) → IsIn xs x → (y : B) × IsIn ys y × R x y
zip-first R [] ys zipped x at = absurd (none-some x at.1)
zip-first R (a ∷ xs) [] zipped x at = absurd zipped
zip-first R (a ∷ xs) (b ∷ ys) zipped x (zero, at) = (b, (0, refl), subst (λ z. R z b) (same_Some a x at) zipped.0)
zip-first R (a ∷ xs) (b ∷ ys) zipped x (suc i, at) = let rest = zip-first R xs ys zipped.1 x (i, at) in (rest.0, in-rest b ys rest.0 rest.1, rest.2)

pub zip-second : {A B : Type 0} (R : A → B → Type 0) (xs : List A) (ys : List B) → AllZip R xs ys → (y : B) → IsIn ys y → (x : A) × IsIn xs x × R x y
zip-second R xs [] zipped y at = absurd (none-some y at.1)
zip-second R [] (b ∷ ys) zipped y at = absurd zipped
zip-second R (a ∷ xs) (b ∷ ys) zipped y (zero, at) = (a, (0, refl), subst (R a) (same_Some b y at) zipped.0)
zip-second R (a ∷ xs) (b ∷ ys) zipped y (suc i, at) = let rest = zip-second R xs ys zipped.1 y (i, at) in (rest.0, in-rest a xs rest.0 rest.1, rest.2)

module _ (call : Calling) (move : ℕ → ℕ) (injective : IsInjective move) (os : List Occurrence) (all every : List Declared) (zip : AllZip (IsRecalled call move os) all every) (faithful : IsFaithful call os all) where
  -- names agree afterwards as they did
  pub agree-recalled : (m n : Name) → IsOf os m → IsOf os n → names_agree (recalled call m) (recalled call n) ≡ names_agree m n
  agree-recalled m n one two =
      ap (λ k. names_agree (recalled call k) (recalled call n)) one.2
      ∙ ap (λ k. names_agree (recalled call (named one.0)) (recalled call k)) two.2
      ∙ same_bool (names_agree (recalled call (named one.0)) (recalled call (named two.0))) (names_agree (named one.0) (named two.0)) back forth
      ∙ ap (λ k. names_agree k (named two.0)) (sym one.2)
      ∙ ap (names_agree m) (sym two.2)
    where
      back : names_agree (recalled call (named one.0)) (recalled call (named two.0)) ≡ true → names_agree (named one.0) (named two.0) ≡ true
      back e =
          let parts = and_parts (bytes_eq (call one.0.sym one.0.ctxt).0 (call two.0.sym two.0.ctxt).0) ((call one.0.sym one.0.ctxt).1 == (call two.0.sym two.0.ctxt).1) e in
          let same = faithful.one one.0 two.0 one.1 two.1 ((bytes_eq-Decides (call one.0.sym one.0.ctxt).0 (call two.0.sym two.0.ctxt).0).0 parts.0) (eqb-true (call one.0.sym one.0.ctxt).1 (call two.0.sym two.0.ctxt).1 parts.1) in
          and_from (bytes_eq one.0.sym two.0.sym) (one.0.ctxt == two.0.ctxt) ((bytes_eq-Decides one.0.sym two.0.sym).1 same.0) (eq-eqb one.0.ctxt two.0.ctxt same.1)

      forth : names_agree (named one.0) (named two.0) ≡ true → names_agree (recalled call (named one.0)) (recalled call (named two.0)) ≡ true
      forth e =
          let parts = and_parts (bytes_eq one.0.sym two.0.sym) (one.0.ctxt == two.0.ctxt) e in
          let symbols : one.0.sym ≡ two.0.sym = (bytes_eq-Decides one.0.sym two.0.sym).0 parts.0 in
          let contexts : one.0.ctxt ≡ two.0.ctxt = eqb-true one.0.ctxt two.0.ctxt parts.1 in
          let idents : call one.0.sym one.0.ctxt ≡ call two.0.sym two.0.ctxt = ap (λ x. call x one.0.ctxt) symbols ∙ ap (call two.0.sym) contexts in
          and_from (bytes_eq (call one.0.sym one.0.ctxt).0 (call two.0.sym two.0.ctxt).0) ((call one.0.sym one.0.ctxt).1 == (call two.0.sym two.0.ctxt).1) ((bytes_eq-Decides (call one.0.sym one.0.ctxt).0 (call two.0.sym two.0.ctxt).0).1 (ap (λ (i : Ident). i.0) idents)) (eq-eqb (call one.0.sym one.0.ctxt).1 (call two.0.sym two.0.ctxt).1 (ap (λ (i : Ident). i.1) idents))

  -- a declaration with the new name, before it moves
  abbrev pub held : Declared → Declared → Declared
  held d e = record { place = d.place; name = e.name; by = d.by; scopes = d.scopes }

  pub held-moved : (d e : Declared) → IsRecalled call move os d e → IsMoved move (held d e) e
  held-moved d e m = record { name = refl; by = m.by; scopes = m.scopes }

  taker-recalled : (d e : Declared) → IsRecalled call move os d e → taker e ≡ moved move (taker d)
  taker-recalled d e m = taker-moved move injective (held d e) e (held-moved d e m)

  parameter-recalled : (t : Scope) (n : Name) → IsOf os n → (d e : Declared) → IsRecalled call move os d e → is_parameter (moved move t) (recalled call n) e ≡ is_parameter t n d
  parameter-recalled t n of d e m =
      ap (λ u. (is_parameters u || is_wrapper u) && same_scope u (moved move t) && names_agree e.name (recalled call n)) (taker-recalled d e m)
      ∙ ap (λ b. (b || is_wrapper (moved move (taker d))) && same_scope (moved move (taker d)) (moved move t) && names_agree e.name (recalled call n)) (parameters-stays move (taker d))
      ∙ ap (λ b. (is_parameters (taker d) || b) && same_scope (moved move (taker d)) (moved move t) && names_agree e.name (recalled call n)) (wrapper-stays move (taker d))
      ∙ ap (λ b. (is_parameters (taker d) || is_wrapper (taker d)) && b && names_agree e.name (recalled call n)) (same-moved move injective (taker d) t)
      ∙ ap (λ k. (is_parameters (taker d) || is_wrapper (taker d)) && same_scope (taker d) t && names_agree k (recalled call n)) m.name
      ∙ ap (λ b. (is_parameters (taker d) || is_wrapper (taker d)) && same_scope (taker d) t && b) (agree-recalled d.name n m.of of)

  pub home-recalled : (d e : Declared) → IsRecalled call move os d e → home_of every e ≡ moved move (home_of all d)
  home-recalled d e m =
      ap (λ w. cond (joins_parameter w) (home_beside every e (parameters_of (from_taker e.by e.scopes))) (taker e)) m.by
      ∙ ap (λ l. cond (joins_parameter d.by) (home_beside every e (parameters_of l)) (taker e)) (from_taker-moved move injective (held d e) e (held-moved d e m))
      ∙ ap (λ o. cond (joins_parameter d.by) (home_beside every e o) (taker e)) (parameters_of-moved move (from_taker d.by d.scopes))
      ∙ by_joins (joins_parameter d.by)
    where
      by_test : (t : Scope) (b : Bool) → cond b (moved move t) (taker e) ≡ moved move (cond b t (taker d))
      by_test t true = refl
      by_test t false = taker-recalled d e m

      beside : (o : Option Scope) → home_beside every e (option_map (moved move) o) ≡ moved move (home_beside all d o)
      beside None = taker-recalled d e m
      beside (Some t) =
          ap (λ n. cond (list_any (is_parameter (moved move t) n) every) (moved move t) (taker e)) m.name
          ∙ ap (λ b. cond b (moved move t) (taker e)) (any-zip (IsRecalled call move os) (is_parameter t d.name) (is_parameter (moved move t) (recalled call d.name)) (λ p q. parameter-recalled t d.name m.of p q) all every zip)
          ∙ by_test t (list_any (is_parameter t d.name) all)

      by_joins : (b : Bool) → cond b (home_beside every e (option_map (moved move) (parameters_of (from_taker d.by d.scopes)))) (taker e) ≡ moved move (cond b (home_beside all d (parameters_of (from_taker d.by d.scopes))) (taker d))
      by_joins true = beside (parameters_of (from_taker d.by d.scopes))
      by_joins false = taker-recalled d e m

  -- What scopes bind.

  has-before : (d : Declared) → IsIn all d → (c : ℕ) × (d.name.ctxt ≡ Some c)
  has-before d at = let m = zip-first (IsRecalled call move os) all every zip d at in (m.2.of.0.ctxt, ap (λ (n : Name). n.ctxt) m.2.of.2)

  has-after : (e : Declared) → IsIn every e → (c : ℕ) × (e.name.ctxt ≡ Some c)
  has-after e at = let m = zip-second (IsRecalled call move os) all every zip e at in ((call m.2.of.0.sym m.2.of.0.ctxt).1, ap (λ (n : Name). n.ctxt) (m.2.name ∙ ap (recalled call) m.2.of.2))

  written-recalled : (t : Scope) (n : Name) → IsOf os n → is_written_in every (moved move t) (recalled call n) ≡ is_written_in all t n
  written-recalled t n of = any-zip (IsRecalled call move os) (λ (d : Declared). has_identifier d && is_declared_in all t n d) (λ (e : Declared). has_identifier e && is_declared_in every (moved move t) (recalled call n) e) (λ d e m.
      ap (λ k. is_some k.ctxt && is_declared_in every (moved move t) (recalled call n) e) (m.name ∙ ap (recalled call) m.of.2)
      ∙ ap (λ u. same_scope u (moved move t) && names_agree e.name (recalled call n)) (home-recalled d e m)
      ∙ ap (λ b. b && names_agree e.name (recalled call n)) (same-moved move injective (home_of all d) t)
      ∙ ap (λ k. same_scope (home_of all d) t && names_agree k (recalled call n)) m.name
      ∙ ap (λ b. same_scope (home_of all d) t && b) (agree-recalled d.name n m.of of)
      ∙ ap (λ k. is_some k.ctxt && (same_scope (home_of all d) t && names_agree d.name n)) (sym m.of.2)) all every zip

  implied-recalled : (n : Name) (t : Scope) → is_implied_in every (moved move t) n ≡ is_implied_in all t n
  implied-recalled n t =
      ap (λ b. b || (is_arguments n.sym && is_function (moved move t))) (nameless-none every has-after (moved move t) n.sym)
      ∙ ap (λ b. is_arguments n.sym && b) (function-stays move t)
      ∙ sym (ap (λ b. b || (is_arguments n.sym && is_function t)) (nameless-none all has-before t n.sym))

  -- What an occurrence denotes.

  module _ (o p : Occurrence) (at : IsIn os o) (m : Recalls call move o p) where
    abbrev scopes : List Scope
    scopes = scopes_around Es o.path

    abbrev new : Name
    new = recalled call (named o)

    new-is : named p ≡ new
    new-is = ap (λ x. record { sym = x; ctxt = Some p.ctxt }) m.symbol ∙ ap (λ c. record { sym = (call o.sym o.ctxt).0; ctxt = Some c }) m.context

    plain_one : (r : Option Scope) → is_written_one (bound_in (plain o.sym) r) ≡ false
    plain_one None = refl
    plain_one (Some t) = refl

    implied_one : (b : Bool) (r : Option Scope) → is_written_one (cond b (Global o.sym) (bound_in (plain o.sym) r)) ≡ false
    implied_one true r = refl
    implied_one false r = plain_one r

    bound-recalled : (r : Option Scope) → bound_in (plain o.sym) (option_map (moved move) r) ≡ recalled_denoted call move (bound_in (plain o.sym) r)
    bound-recalled None = refl
    bound-recalled (Some t) = refl

    by_unresolved : (b : Bool) (r : Option Scope) → cond b (Global o.sym) (bound_in (plain o.sym) (option_map (moved move) r)) ≡ recalled_denoted call move (cond b (Global o.sym) (bound_in (plain o.sym) r))
    by_unresolved true r = refl
    by_unresolved false r = bound-recalled r

    found-recalled : (r : Option Scope) → find (λ t. is_written_in all t (named o)) scopes ≡ r → denoted_of ByContext Es all o ≡ written_or_implied all scopes (named o) r → written_or_implied every (all_moved move scopes) new (option_map (moved move) r) ≡ recalled_denoted call move (written_or_implied all scopes (named o) r)
    found-recalled (Some t) e is = refl
    found-recalled None e is =
        let stays = faithful.stays o at (ap is_written_one is ∙ implied_one (o.ctxt == 1) (find (λ t. is_implied_in all t (named o)) scopes)) in
        ap (λ x. implied every (all_moved move scopes) (record { sym = x; ctxt = Some (call o.sym o.ctxt).1 })) stays.0
        ∙ ap (λ c. implied every (all_moved move scopes) (record { sym = o.sym; ctxt = Some c })) stays.1
        ∙ ap (λ r. cond (o.ctxt == 1) (Global o.sym) (bound_in (plain o.sym) r)) (find-moved move (λ t. is_implied_in all t (named o)) (λ t. is_implied_in every t (named o)) (implied-recalled (named o)) scopes)
        ∙ by_unresolved (o.ctxt == 1) (find (λ t. is_implied_in all t (named o)) scopes)

    found : denoted_of ByContext Es all o ≡ denoted_in ByContext all scopes (named o) → denoted_in ByContext every (all_moved move scopes) new ≡ recalled_denoted call move (denoted_in ByContext all scopes (named o))
    found is = ap (written_or_implied every (all_moved move scopes) new) (find-moved move (λ t. is_written_in all t (named o)) (λ t. is_written_in every t new) (λ t. written-recalled t (named o) (o, at, refl)) scopes) ∙ found-recalled (find (λ t. is_written_in all t (named o)) scopes) refl is

    pub denoted-recalled : denoted_of ByContext Es every p ≡ recalled_denoted call move (denoted_of ByContext Es all o)
    denoted-recalled =
        ap (λ n. own_or_found every (denoted_in ByContext every (scopes_around Es p.path) n) (cond (is_binding p.role) (declared_by p.place n (scopes_around Es p.path) (way_of p.path)) None)) new-is
        ∙ ap (λ l. own_or_found every (denoted_in ByContext every l new) (cond (is_binding p.role) (declared_by p.place new l (way_of p.path)) None)) m.scopes
        ∙ ap (λ r. own_or_found every (denoted_in ByContext every (all_moved move scopes) new) (cond (is_binding r) (declared_by p.place new (all_moved move scopes) (way_of p.path)) None)) m.role
        ∙ ap (λ w. own_or_found every (denoted_in ByContext every (all_moved move scopes) new) (cond (is_binding o.role) (declared_by p.place new (all_moved move scopes) w) None)) m.way
        ∙ by_both (is_binding o.role) refl (way_of o.path) refl
      where
        own : (b : Bool) → is_binding o.role ≡ b → (w : Option Way) → way_of o.path ≡ w → denoted_of ByContext Es all o ≡ own_or_found all (denoted_in ByContext all scopes (named o)) (cond b (declared_by o.place (named o) scopes w) None)
        own b role w way = ap (λ c. own_or_found all (denoted_in ByContext all scopes (named o)) (cond c (declared_by o.place (named o) scopes (way_of o.path)) None)) role ∙ ap (λ v. own_or_found all (denoted_in ByContext all scopes (named o)) (cond b (declared_by o.place (named o) scopes v) None)) way

        by_both : (b : Bool) → is_binding o.role ≡ b → (w : Option Way) → way_of o.path ≡ w → own_or_found every (denoted_in ByContext every (all_moved move scopes) new) (cond b (declared_by p.place new (all_moved move scopes) w) None) ≡ recalled_denoted call move (denoted_of ByContext Es all o)
        by_both false role w way = found (own false role w way) ∙ ap (recalled_denoted call move) (sym (own false role w way))
        by_both true role None way = found (own true role None way) ∙ ap (recalled_denoted call move) (sym (own true role None way))
        by_both true role (Some x) way = ap (λ t. Bound t new) (home-recalled (record { place = o.place; name = named o; by = x; scopes = scopes }) (record { place = p.place; name = new; by = x; scopes = all_moved move scopes }) (record { of = (o, at, refl); name = refl; by = refl; scopes = refl })) ∙ ap (recalled_denoted call move) (sym (own true role (Some x) way))

  -- What is denoted, by its name.

  module _ (o : Occurrence) (at : IsIn os o) where
    known_bound : (r : Option Scope) → IsKnown os (bound_in (plain o.sym) r)
    known_bound None = KnownGlobal o.sym
    known_bound (Some t) = KnownPlain t o.sym

    known_implied : (b : Bool) (r : Option Scope) → IsKnown os (cond b (Global o.sym) (bound_in (plain o.sym) r))
    known_implied true r = KnownGlobal o.sym
    known_implied false r = known_bound r

    known_found : (r : Option Scope) → IsKnown os (written_or_implied all (scopes_around Es o.path) (named o) r)
    known_found (Some t) = KnownName t o at
    known_found None = known_implied (o.ctxt == 1) (find (λ t. is_implied_in all t (named o)) (scopes_around Es o.path))

    pub known : IsKnown os (denoted_of ByContext Es all o)
    known = by_both (is_binding o.role) (way_of o.path)
      where
        by_both : (b : Bool) (w : Option Way) → IsKnown os (own_or_found all (denoted_in ByContext all (scopes_around Es o.path) (named o)) (cond b (declared_by o.place (named o) (scopes_around Es o.path) w) None))
        by_both false w = known_found (find (λ t. is_written_in all t (named o)) (scopes_around Es o.path))
        by_both true None = known_found (find (λ t. is_written_in all t (named o)) (scopes_around Es o.path))
        by_both true (Some x) = KnownName (home_of all (record { place = o.place; name = named o; by = x; scopes = scopes_around Es o.path })) o at

  -- what is one afterwards was one
  pub recalled-one : (d e : Denoted) → IsKnown os d → IsKnown os e → recalled_denoted call move d ≡ recalled_denoted call move e → d ≡ e
  recalled-one _ _ (KnownGlobal x) (KnownGlobal y) same = same
  recalled-one _ _ (KnownGlobal x) (KnownName u p there) same = absurd cc
  recalled-one _ _ (KnownGlobal x) (KnownPlain u y) same = absurd cc
  recalled-one _ _ (KnownName t o at) (KnownGlobal y) same = absurd cc
  recalled-one _ _ (KnownPlain t x) (KnownGlobal y) same = absurd cc
  recalled-one _ _ (KnownName t o at) (KnownPlain u y) same = absurd (none-some (call o.sym o.ctxt).1 (sym (ap context_in same)))
  recalled-one _ _ (KnownPlain t x) (KnownName u p there) same = absurd (none-some (call p.sym p.ctxt).1 (ap context_in same))
  recalled-one _ _ (KnownPlain t x) (KnownPlain u y) same =
      let scopes : moved move t ≡ moved move u = ap scope_in same in
      let symbols : x ≡ y = ap symbol_in same in
      ap (λ v. Bound v (plain x)) (moved-one move injective t u scopes) ∙ ap (λ z. Bound u (plain z)) symbols
  recalled-one _ _ (KnownName t o at) (KnownName u p there) same =
      let scopes : moved move t ≡ moved move u = ap scope_in same in
      let symbols : (call o.sym o.ctxt).0 ≡ (call p.sym p.ctxt).0 = ap symbol_in same in
      let contexts : (call o.sym o.ctxt).1 ≡ (call p.sym p.ctxt).1 = same_Some (call o.sym o.ctxt).1 (call p.sym p.ctxt).1 (ap context_in same) in
      let one = faithful.one o p at there symbols contexts in
      ap (λ v. Bound v (named o)) (moved-one move injective t u scopes) ∙ ap (λ x. Bound u (record { sym = x; ctxt = Some o.ctxt })) one.0 ∙ ap (λ c. Bound u (record { sym = p.sym; ctxt = Some c })) one.1

-- a global afterwards was one
pub recalled-global : (call : Calling) (move : ℕ → ℕ) (d : Denoted) (x : List ℕ) → recalled_denoted call move d ≡ Global x → d ≡ Global x
recalled-global call move (Global y) x e = e
recalled-global call move (Bound t n) x e = absurd cc

-- The declarations of such occurrences.

pub declarations-recalled : (call : Calling) (move : ℕ → ℕ) (them l ps : List Occurrence) → ((o : Occurrence) → IsIn l o → IsIn them o) → AllZip (Recalls call move) l ps → AllZip (IsRecalled call move them) (declarations ByContext l) (declarations ByContext ps)
declarations-recalled call move them [] [] among zip = tt
declarations-recalled call move them [] (p ∷ ps) among zip = absurd zip
declarations-recalled call move them (o ∷ l) [] among zip = absurd zip
declarations-recalled call move them (o ∷ l) (p ∷ ps) among zip = step (declarations-recalled call move them l ps (λ q at. among q (in-rest o l q at)) zip.1)
  where
    m : Recalls call move o p
    m = zip.0

    step : AllZip (IsRecalled call move them) (declarations ByContext l) (declarations ByContext ps) → AllZip (IsRecalled call move them) (cons_option (declaration_of ByContext Es o) (declarations ByContext l)) (cons_option (declaration_of ByContext Es p) (declarations ByContext ps))
    step rest = subst (λ d. AllZip (IsRecalled call move them) (cons_option (declaration_of ByContext Es o) (declarations ByContext l)) (cons_option d (declarations ByContext ps))) (sym its) (by_both (is_binding o.role) (way_of o.path))
      where
        its : declaration_of ByContext Es p ≡ cond (is_binding o.role) (declared_by p.place (recalled call (named o)) (all_moved move (scopes_around Es o.path)) (way_of o.path)) None
        its =
            ap (λ x. cond (is_binding p.role) (declared_by p.place (record { sym = x; ctxt = Some p.ctxt }) (scopes_around Es p.path) (way_of p.path)) None) m.symbol
            ∙ ap (λ c. cond (is_binding p.role) (declared_by p.place (record { sym = (call o.sym o.ctxt).0; ctxt = Some c }) (scopes_around Es p.path) (way_of p.path)) None) m.context
            ∙ ap (λ k. cond (is_binding p.role) (declared_by p.place (recalled call (named o)) k (way_of p.path)) None) m.scopes
            ∙ ap (λ r. cond (is_binding r) (declared_by p.place (recalled call (named o)) (all_moved move (scopes_around Es o.path)) (way_of p.path)) None) m.role
            ∙ ap (λ w. cond (is_binding o.role) (declared_by p.place (recalled call (named o)) (all_moved move (scopes_around Es o.path)) w) None) m.way

        by_both : (b : Bool) (w : Option Way) → AllZip (IsRecalled call move them) (cons_option (cond b (declared_by o.place (named o) (scopes_around Es o.path) w) None) (declarations ByContext l)) (cons_option (cond b (declared_by p.place (recalled call (named o)) (all_moved move (scopes_around Es o.path)) w) None) (declarations ByContext ps))
        by_both false w = rest
        by_both true None = rest
        by_both true (Some way) = (record { of = (o, among o (0, refl), refl); name = refl; by = refl; scopes = refl }, rest)

-- ---- transfer

-- Places of occurrences, in their order.

-- each stands before those behind it
abbrev pub AreIncreasing : List Occurrence → Type 0
AreIncreasing os = (i j : ℕ) (o p : Occurrence) → slice_get os i ≡ Some o → slice_get os j ≡ Some p → i < j → o.place < p.place

index-order : (os : List Occurrence) → AreIncreasing os → (i j : ℕ) (o p : Occurrence) → slice_get os i ≡ Some o → slice_get os j ≡ Some p → nat_lt o.place p.place ≡ nat_lt i j
index-order os increasing i j o p at there = by_order (trichotomy i j)
  where
    by_order : (i < j) ⊎ ((j < i) ⊎ (i ≡ j)) → nat_lt o.place p.place ≡ nat_lt i j
    by_order (inl less) = lt-ltb o.place p.place (increasing i j o p at there less) ∙ sym (lt-ltb i j less)
    by_order (inr (inl more)) = let after = increasing j i p o there at more in same_bool (nat_lt o.place p.place) (nat_lt i j) (λ e. let less = ltb-true o.place p.place e in absurd (omega (arith, less, after))) (λ e. let less = ltb-true i j e in absurd (omega (arith, less, more)))
    by_order (inr (inr same)) =
        let equal : o ≡ p = same_Some o p (sym at ∙ ap (slice_get os) same ∙ there) in
        let places : o.place ≡ p.place = ap (λ (x : Occurrence). x.place) equal in
        same_bool (nat_lt o.place p.place) (nat_lt i j) (λ e. let less = ltb-true o.place p.place e in absurd (omega (arith, less, places))) (λ e. let less = ltb-true i j e in absurd (omega (arith, less, same)))

-- two declarations are of occurrences at one index
pub record IsPaired (os ps : List Occurrence) (d e : Declared) : Type 0 where
  pub i : ℕ
  pub o : Occurrence
  pub p : Occurrence
  pub at : slice_get os i ≡ Some o
  pub there : slice_get ps i ≡ Some p
  pub place : d.place ≡ o.place
  pub other : e.place ≡ p.place

pub pairs-order : (os ps : List Occurrence) → AreIncreasing os → AreIncreasing ps → (a b d e : Declared) → IsPaired os ps a b → IsPaired os ps d e → nat_lt b.place e.place ≡ nat_lt a.place d.place
pairs-order os ps one two a b d e x y =
    ap (λ n. nat_lt n e.place) x.other ∙ ap (nat_lt x.p.place) y.other
    ∙ index-order ps two x.i y.i x.p y.p x.there y.there
    ∙ sym (index-order os one x.i y.i x.o y.o x.at y.at)
    ∙ ap (λ n. nat_lt n y.o.place) (sym x.place) ∙ ap (nat_lt a.place) (sym y.place)

-- Groups.

unwrap-moved : (move : ℕ → ℕ) (o : Option Scope) (s : Scope) → unwrap_or (option_map (moved move) o) (moved move s) ≡ moved move (unwrap_or o s)
unwrap-moved move None s = refl
unwrap-moved move (Some t) s = refl

pub group_of-moved : (move : ℕ → ℕ) (scopes : List Scope) → group_of (all_moved move scopes) ≡ moved move (group_of scopes)
group_of-moved move [] = refl
group_of-moved move (Inner CatchBlock begins ∷ []) = refl
group_of-moved move (Inner CatchBlock begins ∷ s ∷ ss) = refl
group_of-moved move (Wrapper ∷ outer) = ap (λ o. unwrap_or o Wrapper) (parameters_of-moved move (Wrapper ∷ outer)) ∙ unwrap-moved move (parameters_of (Wrapper ∷ outer)) Wrapper
group_of-moved move (Top ∷ outer) = ap (λ o. unwrap_or o Top) (parameters_of-moved move (Top ∷ outer)) ∙ unwrap-moved move (parameters_of (Top ∷ outer)) Top
group_of-moved move (Inner FunctionBody begins ∷ outer) = ap (λ o. unwrap_or o (Inner FunctionBody (move begins))) (parameters_of-moved move (Inner FunctionBody begins ∷ outer)) ∙ unwrap-moved move (nearest outer) (Inner FunctionBody begins)
group_of-moved move (Inner _ begins ∷ outer) = refl

-- what is found in lists that agree
find-zip : {A B : Type 0} (R : A → B → Type 0) (p : A → Bool) (q : B → Bool) → ((x : A) (y : B) → R x y → q y ≡ p x) → (xs : List A) (ys : List B) → AllZip R xs ys → (x : A) → find p xs ≡ Some x → (y : B) × (find q ys ≡ Some y) × R x y
find-zip R p q same [] ys zip x e = absurd (none-some x e)
find-zip R p q same (a ∷ xs) [] zip x e = absurd zip
find-zip {A = A} {B = B} R p q same (a ∷ xs) (b ∷ ys) zip x e = by_first (p a) refl e (find-zip R p q same xs ys zip.1 x)
  where
    by_first : (c : Bool) → p a ≡ c → cond c (Some a) (find p xs) ≡ Some x → (find p xs ≡ Some x → (y : B) × (find q ys ≡ Some y) × R x y) → (y : B) × (find q (b ∷ ys) ≡ Some y) × R x y
    by_first true is found ih = (b, ap (λ c. cond c (Some b) (find q ys)) (same a b zip.0 ∙ is), subst (λ z. R z b) (same_Some a x found) zip.0)
    by_first false is found ih = let rest = ih found in (rest.0, ap (λ c. cond c (Some b) (find q ys)) (same a b zip.0 ∙ is) ∙ rest.1, rest.2)

zip-in : {A B : Type 0} (R : A → B → Type 0) (those xs : List A) (ys : List B) → ((x : A) → IsIn xs x → IsIn those x) → AllZip R xs ys → AllZip (λ x y. IsIn those x × R x y) xs ys
zip-in R those [] [] among zip = tt
zip-in R those [] (y ∷ ys) among zip = absurd zip
zip-in R those (x ∷ xs) [] among zip = absurd zip
zip-in R those (x ∷ xs) (y ∷ ys) among zip = ((among x (0, refl), zip.0), zip-in R those xs ys (λ z at. among z (in-rest x xs z at)) zip.1)

-- The rule by other symbols.

-- the symbol that a name has by the new identifiers
abbrev pub called_symbol : Calling → Name → List ℕ
called_symbol call name = (recalled call name).sym

abbrev pub beside_by : Numbering → Calling → List Declared → Declared → Declared → Bool
beside_by numbers call all d a = same_scope (group a) (group d) && bytes_eq (called_symbol call a.name) (called_symbol call d.name) && comes_before all a d && keeps numbers all a

abbrev pub needed_by : Numbering → Calling → List Declared → Declared → Occurrence → Bool
needed_by numbers call all d o = bytes_eq (called_symbol call (named o)) (called_symbol call d.name) && list_any (same_scope (home_of all d)) (scopes_around Es o.path) && is_kept_outside numbers (home_of all d) (denoted_of ByContext Es all o)

abbrev pub may_keep_by : Numbering → Calling → List Declared → List Occurrence → Declared → Bool
may_keep_by numbers call all os d = not (is_arguments (called_symbol call d.name)) && not (list_any (beside_by numbers call all d) all) && not (list_any (needed_by numbers call all d) os)

abbrev pub new_symbol : Numbering → Calling → List Declared → Declared → List ℕ
new_symbol numbers call all d = numbered (called_symbol call d.name) (number_of numbers all d)

abbrev pub taken_by : Numbering → Calling → List Declared → List Occurrence → Declared → List ℕ → Bool
taken_by numbers call all os d x = list_any (λ o. bytes_eq (called_symbol call (named o)) x) os || list_any (λ a. comes_before all a d && bytes_eq (new_symbol numbers call all a) x) all

abbrev pub taken_to_by : Numbering → Calling → List Declared → List Occurrence → Declared → ℕ → Bool
taken_to_by numbers call those them d zero = true
taken_to_by numbers call those them d (suc n) = taken_by numbers call those them d (numbered (called_symbol call d.name) (suc n)) && taken_to_by numbers call those them d n

abbrev pub least_free_by : Numbering → Calling → List Declared → List Occurrence → Declared → ℕ → Bool
least_free_by numbers call those them d zero = false
least_free_by numbers call those them d (suc n) = not (taken_by numbers call those them d (numbered (called_symbol call d.name) (suc n))) && taken_to_by numbers call those them d n

abbrev pub named_right_by : Numbering → Calling → List Declared → List Occurrence → Declared → Bool
named_right_by numbers call all os d = cond (may_keep_by numbers call all os d) (keeps numbers all d) (least_free_by numbers call all os d (number_of numbers all d))

module _ (call : Calling) (move : ℕ → ℕ) (injective : IsInjective move) (monotone : (a b : ℕ) → a < b → move a < move b) (os ps : List Occurrence) (all every : List Declared) where
  -- a declaration and what it became
  abbrev pub Became : Declared → Declared → Type 0
  Became d e = IsRecalled call move os d e × IsPaired os ps d e

  module _ (occurrences_zip : AllZip (Recalls call move) os ps) (declared_zip : AllZip Became all every) (faithful : IsFaithful call os all) (one : AreIncreasing os) (two : AreIncreasing ps) (later : Numbering) where
    zip : AllZip (IsRecalled call move os) all every
    zip = zip-map Became (IsRecalled call move os) (λ d e m. m.0) all every declared_zip

    -- the numbers as the tree before has them
    abbrev pub numbers : Numbering
    numbers t n = later (moved move t) (recalled call n)

    homes : (d e : Declared) → Became d e → home_of every e ≡ moved move (home_of all d)
    homes d e m = home-recalled call move injective os all every zip faithful d e m.0

    number-same : (d e : Declared) → Became d e → number_of later every e ≡ number_of numbers all d
    number-same d e m = ap (λ t. later t e.name) (homes d e m) ∙ ap (later (moved move (home_of all d))) m.0.name

    order-forth : (s t : Scope) → scope_order s < scope_order t → scope_order (moved move s) < scope_order (moved move t)
    order-forth (Inner k a) (Inner l b) less = let lower : a < b = omega (arith, less) in let up = monotone a b lower in omega (arith, up)
    order-forth Wrapper Wrapper less = less
    order-forth Wrapper Top less = less
    order-forth Wrapper (Inner l b) less = omega arith
    order-forth Top Wrapper less = less
    order-forth Top Top less = less
    order-forth Top (Inner l b) less = omega arith
    order-forth (Inner k a) Wrapper less = absurd (omega (arith, less))
    order-forth (Inner k a) Top less = absurd (omega (arith, less))

    order-same : (s t : Scope) → scope_order s ≡ scope_order t → scope_order (moved move s) ≡ scope_order (moved move t)
    order-same s t e = eqb-true (scope_order (moved move s)) (scope_order (moved move t)) (same-moved move injective s t ∙ eq-eqb (scope_order s) (scope_order t) e)

    order-lt : (s t : Scope) → nat_lt (scope_order (moved move s)) (scope_order (moved move t)) ≡ nat_lt (scope_order s) (scope_order t)
    order-lt s t = same_bool (nat_lt (scope_order (moved move s)) (scope_order (moved move t))) (nat_lt (scope_order s) (scope_order t)) (λ e. lt-ltb (scope_order s) (scope_order t) (back (trichotomy (scope_order s) (scope_order t)) (ltb-true (scope_order (moved move s)) (scope_order (moved move t)) e))) (λ e. lt-ltb (scope_order (moved move s)) (scope_order (moved move t)) (order-forth s t (ltb-true (scope_order s) (scope_order t) e)))
      where
        back : (scope_order s < scope_order t) ⊎ ((scope_order t < scope_order s) ⊎ (scope_order s ≡ scope_order t)) → scope_order (moved move s) < scope_order (moved move t) → scope_order s < scope_order t
        back (inl less) up = less
        back (inr (inl more)) up = let down = order-forth t s more in absurd (omega (arith, up, down))
        back (inr (inr same)) up = let equal = order-same s t same in absurd (omega (arith, up, equal))

    -- The order of bindings.

    declared-same : (d e : Declared) → Became d e → (f g : Declared) → Became f g → is_declared_in every (home_of every e) e.name g ≡ is_declared_in all (home_of all d) d.name f
    declared-same d e m f g n =
        ap (λ t. same_scope t (home_of every e) && names_agree g.name e.name) (homes f g n)
        ∙ ap (λ t. same_scope (moved move (home_of all f)) t && names_agree g.name e.name) (homes d e m)
        ∙ ap (λ b. b && names_agree g.name e.name) (same-moved move injective (home_of all f) (home_of all d))
        ∙ ap (λ k. same_scope (home_of all f) (home_of all d) && names_agree k e.name) n.0.name
        ∙ ap (λ k. same_scope (home_of all f) (home_of all d) && names_agree (recalled call f.name) k) m.0.name
        ∙ ap (λ b. same_scope (home_of all f) (home_of all d) && b) (agree-recalled call move injective os all every zip faithful f.name d.name n.0.of m.0.of)

    first-pair : (d e : Declared) → IsIn all d → Became d e → (f : Declared) × (g : Declared) × Became f g × (first_place all d ≡ f.place) × (first_place every e ≡ g.place)
    first-pair d e at m =
        let itself : names_agree d.name d.name ≡ true = ap (λ k. names_agree k k) m.0.of.2 ∙ and_from (bytes_eq m.0.of.0.sym m.0.of.0.sym) (m.0.of.0.ctxt == m.0.of.0.ctxt) ((bytes_eq-Decides m.0.of.0.sym m.0.of.0.sym).1 refl) (eq-eqb m.0.of.0.ctxt m.0.of.0.ctxt refl) in
        let found = find-some (is_declared_in all (home_of all d) d.name) all d at (and_from (same_scope (home_of all d) (home_of all d)) (names_agree d.name d.name) (eq-eqb (scope_order (home_of all d)) (scope_order (home_of all d)) refl) itself) in
        let other = find-zip Became (is_declared_in all (home_of all d) d.name) (is_declared_in every (home_of every e) e.name) (declared-same d e m) all every declared_zip found.0 found.1 in
        (found.0, other.0, other.2, ap (λ o. unwrap_or (option_map (λ (x : Declared). x.place) o) d.place) found.1, ap (λ o. unwrap_or (option_map (λ (x : Declared). x.place) o) e.place) other.1)

    before-same : (a b d e : Declared) → IsIn all a → IsIn all d → Became a b → Became d e → comes_before every b e ≡ comes_before all a d
    before-same a b d e among at x m =
        let first = first-pair a b among x in
        let second = first-pair d e at m in
        let places : nat_lt (first_place every b) (first_place every e) ≡ nat_lt (first_place all a) (first_place all d) =
        ap (λ n. nat_lt n (first_place every e)) first.4 ∙ ap (nat_lt first.1.place) second.4
        ∙ pairs-order os ps one two first.0 first.1 second.0 second.1 first.2.1 second.2.1
        ∙ ap (λ n. nat_lt n second.0.place) (sym first.3) ∙ ap (nat_lt (first_place all a)) (sym second.3) in
        ap (λ t. nat_lt (scope_order t) (scope_order (home_of every e)) || (same_scope t (home_of every e) && nat_lt (first_place every b) (first_place every e))) (homes a b x)
        ∙ ap (λ t. nat_lt (scope_order (moved move (home_of all a))) (scope_order t) || (same_scope (moved move (home_of all a)) t && nat_lt (first_place every b) (first_place every e))) (homes d e m)
        ∙ ap (λ c. c || (same_scope (moved move (home_of all a)) (moved move (home_of all d)) && nat_lt (first_place every b) (first_place every e))) (order-lt (home_of all a) (home_of all d))
        ∙ ap (λ c. nat_lt (scope_order (home_of all a)) (scope_order (home_of all d)) || (c && nat_lt (first_place every b) (first_place every e))) (same-moved move injective (home_of all a) (home_of all d))
        ∙ ap (λ c. nat_lt (scope_order (home_of all a)) (scope_order (home_of all d)) || (same_scope (home_of all a) (home_of all d) && c)) places

    group-same : (d e : Declared) → Became d e → group e ≡ moved move (group d)
    group-same d e m = ap group_of (from_taker-moved move injective (record { place = d.place; name = e.name; by = d.by; scopes = d.scopes }) e (record { name = refl; by = m.0.by; scopes = m.0.scopes })) ∙ group_of-moved move (from_taker d.by d.scopes)

    name-same : (d e : Declared) → Became d e → e.name.sym ≡ called_symbol call d.name
    name-same d e m = ap (λ (n : Name). n.sym) m.0.name

    -- The rule.

    within : AllZip (λ a b. IsIn all a × Became a b) all every
    within = zip-in Became all all every (λ x at. at) declared_zip

    standing : AllZip (λ o p. IsIn os o × Recalls call move o p) os ps
    standing = zip-in (Recalls call move) os os ps (λ x at. at) occurrences_zip

    module _ (d e : Declared) (at : IsIn all d) (m : Became d e) where
      beside-same : (a b : Declared) → IsIn all a × Became a b → is_kept_beside later every e b ≡ beside_by numbers call all d a
      beside-same a b x =
          ap (λ g. same_scope g (group e) && bytes_eq b.name.sym e.name.sym && comes_before every b e && keeps later every b) (group-same a b x.1)
          ∙ ap (λ g. same_scope (moved move (group a)) g && bytes_eq b.name.sym e.name.sym && comes_before every b e && keeps later every b) (group-same d e m)
          ∙ ap (λ c. c && bytes_eq b.name.sym e.name.sym && comes_before every b e && keeps later every b) (same-moved move injective (group a) (group d))
          ∙ ap (λ y. same_scope (group a) (group d) && bytes_eq y e.name.sym && comes_before every b e && keeps later every b) (name-same a b x.1)
          ∙ ap (λ y. same_scope (group a) (group d) && bytes_eq (called_symbol call a.name) y && comes_before every b e && keeps later every b) (name-same d e m)
          ∙ ap (λ c. same_scope (group a) (group d) && bytes_eq (called_symbol call a.name) (called_symbol call d.name) && c && keeps later every b) (before-same a b d e x.0 at x.1 m)
          ∙ ap (λ n. same_scope (group a) (group d) && bytes_eq (called_symbol call a.name) (called_symbol call d.name) && comes_before all a d && n == 0) (number-same a b x.1)

      outside-same : (D : Denoted) → is_kept_outside later (moved move (home_of all d)) (recalled_denoted call move D) ≡ is_kept_outside numbers (home_of all d) D
      outside-same (Global x) = refl
      outside-same (Bound t n) = ap (λ c. c && later (moved move t) (recalled call n) == 0) (order-lt t (home_of all d))

      around-same : (scopes : List Scope) → list_any (same_scope (moved move (home_of all d))) (all_moved move scopes) ≡ list_any (same_scope (home_of all d)) scopes
      around-same [] = refl
      around-same (t ∷ ts) = ap (λ c. c || list_any (same_scope (moved move (home_of all d))) (all_moved move ts)) (same-moved move injective (home_of all d) t) ∙ ap (λ c. same_scope (home_of all d) t || c) (around-same ts)

      needed-same : (o p : Occurrence) → IsIn os o × Recalls call move o p → is_needed_by later every (home_of every e) e.name.sym p ≡ needed_by numbers call all d o
      needed-same o p x =
          ap (λ y. bytes_eq y e.name.sym && list_any (same_scope (home_of every e)) (scopes_around Es p.path) && is_kept_outside later (home_of every e) (denoted_of ByContext Es every p)) x.1.symbol
          ∙ ap (λ y. bytes_eq (called_symbol call (named o)) y && list_any (same_scope (home_of every e)) (scopes_around Es p.path) && is_kept_outside later (home_of every e) (denoted_of ByContext Es every p)) (name-same d e m)
          ∙ ap (λ t. bytes_eq (called_symbol call (named o)) (called_symbol call d.name) && list_any (same_scope t) (scopes_around Es p.path) && is_kept_outside later t (denoted_of ByContext Es every p)) (homes d e m)
          ∙ ap (λ l. bytes_eq (called_symbol call (named o)) (called_symbol call d.name) && list_any (same_scope (moved move (home_of all d))) l && is_kept_outside later (moved move (home_of all d)) (denoted_of ByContext Es every p)) x.1.scopes
          ∙ ap (λ c. bytes_eq (called_symbol call (named o)) (called_symbol call d.name) && c && is_kept_outside later (moved move (home_of all d)) (denoted_of ByContext Es every p)) (around-same (scopes_around Es o.path))
          ∙ ap (λ D. bytes_eq (called_symbol call (named o)) (called_symbol call d.name) && list_any (same_scope (home_of all d)) (scopes_around Es o.path) && is_kept_outside later (moved move (home_of all d)) D) (denoted-recalled call move injective os all every zip faithful o p x.0 x.1)
          ∙ ap (λ c. bytes_eq (called_symbol call (named o)) (called_symbol call d.name) && list_any (same_scope (home_of all d)) (scopes_around Es o.path) && c) (outside-same (denoted_of ByContext Es all o))

      may_keep-same : may_keep later every ps e ≡ may_keep_by numbers call all os d
      may_keep-same =
          ap (λ y. not (is_arguments y) && not (list_any (is_kept_beside later every e) every) && not (list_any (is_needed_by later every (home_of every e) e.name.sym) ps)) (name-same d e m)
          ∙ ap (λ c. not (is_arguments (called_symbol call d.name)) && not c && not (list_any (is_needed_by later every (home_of every e) e.name.sym) ps)) (any-zip (λ a b. IsIn all a × Became a b) (beside_by numbers call all d) (is_kept_beside later every e) beside-same all every within)
          ∙ ap (λ c. not (is_arguments (called_symbol call d.name)) && not (list_any (beside_by numbers call all d) all) && not c) (any-zip (λ o p. IsIn os o × Recalls call move o p) (needed_by numbers call all d) (is_needed_by later every (home_of every e) e.name.sym) needed-same os ps standing)

      taken-same : (x : List ℕ) → is_taken later every ps e x ≡ taken_by numbers call all os d x
      taken-same x =
          ap (λ c. c || list_any (λ b. comes_before every b e && bytes_eq (symbol_of later every b) x) every) (any-zip (λ o p. IsIn os o × Recalls call move o p) (λ o. bytes_eq (called_symbol call (named o)) x) (λ (p : Occurrence). bytes_eq p.sym x) (λ o p z. ap (λ y. bytes_eq y x) z.1.symbol) os ps standing)
          ∙ ap (λ c. list_any (λ o. bytes_eq (called_symbol call (named o)) x) os || c) (any-zip (λ a b. IsIn all a × Became a b) (λ a. comes_before all a d && bytes_eq (new_symbol numbers call all a) x) (λ b. comes_before every b e && bytes_eq (symbol_of later every b) x) (λ a b z.
          ap (λ c. c && bytes_eq (symbol_of later every b) x) (before-same a b d e z.0 at z.1 m)
          ∙ ap (λ y. comes_before all a d && bytes_eq (numbered y (number_of later every b)) x) (name-same a b z.1)
          ∙ ap (λ n. comes_before all a d && bytes_eq (numbered (called_symbol call a.name) n) x) (number-same a b z.1)) all every within)

      taken_to-same : (n : ℕ) → are_taken_to later every ps e n ≡ taken_to_by numbers call all os d n
      taken_to-same zero = refl
      taken_to-same (suc n) =
          ap (λ y. is_taken later every ps e (numbered y (suc n)) && are_taken_to later every ps e n) (name-same d e m)
          ∙ ap (λ c. c && are_taken_to later every ps e n) (taken-same (numbered (called_symbol call d.name) (suc n)))
          ∙ ap (λ c. taken_by numbers call all os d (numbered (called_symbol call d.name) (suc n)) && c) (taken_to-same n)

      least_free-same : (n : ℕ) → is_least_free later every ps e n ≡ least_free_by numbers call all os d n
      least_free-same zero = refl
      least_free-same (suc n) =
          ap (λ y. not (is_taken later every ps e (numbered y (suc n))) && are_taken_to later every ps e n) (name-same d e m)
          ∙ ap (λ c. not c && are_taken_to later every ps e n) (taken-same (numbered (called_symbol call d.name) (suc n)))
          ∙ ap (λ c. not (taken_by numbers call all os d (numbered (called_symbol call d.name) (suc n))) && c) (taken_to-same n)

      -- a binding afterwards has the number that it is to have, exactly if it has by the symbols of the names before
      pub right-same : is_named_right later every ps e ≡ named_right_by numbers call all os d
      right-same =
          ap (λ c. cond c (keeps later every e) (is_least_free later every ps e (number_of later every e))) may_keep-same
          ∙ ap (λ n. cond (may_keep_by numbers call all os d) (n == 0) (is_least_free later every ps e n)) (number-same d e m)
          ∙ ap (cond (may_keep_by numbers call all os d) (keeps numbers all d)) (least_free-same (number_of numbers all d))
