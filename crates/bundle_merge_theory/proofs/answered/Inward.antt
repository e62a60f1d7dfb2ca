-- Names that are made one by one, with their identifiers, declare and denote alike.
-- Where each declared name is held by a scope inside, names denote bindings of scopes inside, or
-- globals.
use Rattle.std.proofs.Common.{◌≡◌, ℕ, ◌&&◌, ◌||◌, Bool, true, false, cond, List, [], ◌∷◌, Option, None, Some, find, refl, ap, sym, ◌∙◌, subst, ◌+◌, ◌++◌, unwrap_or, arith, ne_eqb}
use Rattle.std.specs.List.{AllZip, cons_option, list_any}
use Rattle.std.proofs.lemmas.Bool.{false≢true, true≢false}
use Rattle.bundle_rules.specs.Places.{Occurrence, is_binding, Around}
use Rattle.bundle_rules.specs.Scopes.{Es, Scope, Top, same_scope, scopes_around, ScopeKind, Wrapper, Inner, kind_of_scope, scope_at}
use Rattle.bundle_rules.specs.Declarations.{Way, ByConst, ByContext, Name, name_of, names_agree, Declared, declared_by, declaration_of, way_of, BySymbol}
use Rattle.bundle_rules.specs.Homes.{home_of, is_wrapper, is_top, is_arguments, takes, from_taker, nearest, taker, parameters_of, joins_parameter, is_parameter, home_beside, is_declared_in, declares, binds}
use Rattle.bundle_rules.specs.Denotes.{Bound, Global, is_written_in, is_implied_in, written_or_implied, denoted_by_context, bound_in, without_context, is_unresolved, own_or_found, denoted_of, Denoted, has_identifier, denoted_by_symbol}
use Rattle.bundle_rules.specs.Idents.{Ident, ident_of}
use Rattle.bundle_merge_theory.specs.joined.Joined.{AllOf}
use Rattle.bundle_merge_theory.specs.joined.Notes.{its_name, is_inner_name}
use Rattle.bundle_merge_theory.specs.joined.Alike.{ArePlacesOneToOne, ScopesAlike, DeclaredAlike, DenotedAlike, bindings}
use Rattle.bundle_merge_theory.proofs.joined.Declarations.{declared_by_names}
use Rattle.bundle_merge_theory.proofs.joined.Denotes.{HasIdentifier, nothing-implied, home-in}
use Rattle.bundle_merge_theory.proofs.joined.Groups.{home-alike, in-alike}
use Rattle.bundle_merge_theory.proofs.joined.Paths.{any-none}
use Rattle.bundle_merge_theory.proofs.joined.Notes.{find-has as find-one}
use Rattle.bundle_merge_theory.proofs.answered.Held.{is_held, IsHeld}
use Rattle.bundle_merge_theory.proofs.own.Stated.{top-parameter as no_parameter}
use Rattle.bundle_merge_theory.proofs.own.Alongside.{declared_names as declared_by_symbols}

-- ---- alike

-- a name that is made of another
pub record IsMadeOf (R : ℕ → ℕ → Type 0) (o u : Occurrence) : Type 0 where
  pub ident : ident_of u ≡ ident_of o
  pub role : u.role ≡ o.role
  pub ways : is_binding o.role ≡ true →
      (way : Way) × (way_of o.path ≡ Some way) × (way_of u.path ≡ Some way)
  pub scopes : AllZip (ScopesAlike R) (scopes_around Es o.path) (scopes_around Es u.path)

abbrev pub declared_so : Way → Occurrence → Declared
declared_so way o = record {
  place = o.place;
  name = its_name o;
  by = way;
  scopes = scopes_around Es o.path;
}

-- what a name declares
declares-some : (o : Occurrence) (way : Way) → is_binding o.role ≡ true → way_of o.path ≡ Some way →
    declaration_of ByContext Es o ≡ Some (declared_so way o)
declares-some o way binds is =
    ap (λ b. cond b (declared_by o.place (its_name o) (scopes_around Es o.path)
    (way_of o.path)) None)
    binds
    ∙ ap (declared_by o.place (its_name o) (scopes_around Es o.path)) is

declares-none : (o : Occurrence) → is_binding o.role ≡ false →
    declaration_of ByContext Es o ≡ None
declares-none o refers =
    ap (λ b. cond b (declared_by o.place (its_name o) (scopes_around Es o.path)
    (way_of o.path)) None)
    refers

module _ (R : ℕ → ℕ → Type 0) where
  so-alike : (o u : Occurrence) (way : Way) → IsMadeOf R o u →
      DeclaredAlike R (declared_so way o) (declared_so way u)
  so-alike o u way it = record {
    name = ap (λ (i : Ident). name_of ByContext i.0 i.1) it.ident;
    by = refl;
    scopes = it.scopes;
  }

  pub made-declared : (os us : List Occurrence) → AllZip (IsMadeOf R) os us →
      AllZip (DeclaredAlike R) (declared_by_names os) (declared_by_names us)
  made-declared [] [] all = tt
  made-declared [] (u ∷ us) all = absurd all
  made-declared (o ∷ os) [] all = absurd all
  made-declared (o ∷ os) (u ∷ us) all =
      by_role (is_binding o.role) refl (made-declared os us all.1)
    where
      by_role : (b : Bool) → is_binding o.role ≡ b →
          AllZip (DeclaredAlike R) (declared_by_names os) (declared_by_names us) →
          AllZip (DeclaredAlike R)
          (cons_option (declaration_of ByContext Es o) (declared_by_names os))
          (cons_option (declaration_of ByContext Es u) (declared_by_names us))
      by_role true is rest =
          let way = all.0.ways is in
          subst
          (λ d. AllZip (DeclaredAlike R) (cons_option d (declared_by_names os))
          (cons_option (declaration_of ByContext Es u) (declared_by_names us)))
          (sym (declares-some o way.0 is way.1))
          (subst
          (λ d. AllZip (DeclaredAlike R) (declared_so way.0 o ∷ declared_by_names os)
          (cons_option d (declared_by_names us)))
          (sym (declares-some u way.0 (ap is_binding all.0.role ∙ is) way.2))
          (so-alike o u way.0 all.0, rest))
      by_role false is rest =
          subst
          (λ d. AllZip (DeclaredAlike R) (cons_option d (declared_by_names os))
          (cons_option (declaration_of ByContext Es u) (declared_by_names us)))
          (sym (declares-none o is))
          (subst
          (λ d. AllZip (DeclaredAlike R) (declared_by_names os)
          (cons_option d (declared_by_names us)))
          (sym (declares-none u (ap is_binding all.0.role ∙ is))) rest)

  module _ (one : ArePlacesOneToOne R) (ds es : List Declared) (alike : AllZip (DeclaredAlike R) ds es)
    where
      pub made-denotes : (o u : Occurrence) → IsMadeOf R o u →
          DenotedAlike R (denoted_of ByContext Es ds o) (denoted_of ByContext Es es u)
      made-denotes o u it = by_role (is_binding o.role) refl
        where
          by_role : (b : Bool) → is_binding o.role ≡ b →
              DenotedAlike R (denoted_of ByContext Es ds o) (denoted_of ByContext Es es u)
          by_role true is =
              let way = it.ways is in
              subst
              (λ d. DenotedAlike R
              (own_or_found ds (denoted_by_context ds (scopes_around Es o.path) (its_name o)) d)
              (denoted_of ByContext Es es u))
              (sym (declares-some o way.0 is way.1))
              (subst
              (λ d. DenotedAlike R (Bound (home_of ds (declared_so way.0 o)) (its_name o))
              (own_or_found es (denoted_by_context es (scopes_around Es u.path) (its_name u)) d))
              (sym (declares-some u way.0 (ap is_binding it.role ∙ is) way.2))
              (subst
              (λ (i : Ident). DenotedAlike R (Bound (home_of ds (declared_so way.0 o)) (its_name o))
              (Bound (home_of es (declared_so way.0 u)) (name_of ByContext i.0 i.1)))
              (sym it.ident)
              (bindings
              (home-alike R one ds es alike (declared_so way.0 o) (declared_so way.0 u)
              (so-alike o u way.0 it)))))
          by_role false is =
              subst
              (λ d. DenotedAlike R
              (own_or_found ds (denoted_by_context ds (scopes_around Es o.path) (its_name o)) d)
              (denoted_of ByContext Es es u))
              (sym (declares-none o is))
              (subst
              (λ d. DenotedAlike R (denoted_by_context ds (scopes_around Es o.path) (its_name o))
              (own_or_found es (denoted_by_context es (scopes_around Es u.path) (its_name u)) d))
              (sym (declares-none u (ap is_binding it.role ∙ is)))
              (subst
              (λ (i : Ident). DenotedAlike R
              (denoted_by_context ds (scopes_around Es o.path) (its_name o))
              (denoted_by_context es (scopes_around Es u.path) (name_of ByContext i.0 i.1)))
              (sym it.ident)
              (in-alike R one ds es alike ByContext (scopes_around Es o.path)
              (scopes_around Es u.path) it.scopes (its_name o))))

-- One more constant that is declared at the top.

abbrev pub constant_at : ℕ → Ident → Declared
constant_at place ident = record {
  place = place;
  name = name_of ByContext ident.0 ident.1;
  by = ByConst;
  scopes = Top ∷ [];
}

module _ (place : ℕ) (ident : Ident) (es : List Declared) where
  -- its name is another
  abbrev pub IsAnother : Name → Type 0
  IsAnother name = names_agree (name_of ByContext ident.0 ident.1) name ≡ false

  written-more : (scope : Scope) (name : Name) → IsAnother name →
      is_written_in (constant_at place ident ∷ es) scope name ≡ is_written_in es scope name
  written-more scope name other =
      ap (λ b. (same_scope Top scope && b) || is_written_in es scope name) other
      ∙ never (same_scope Top scope)
    where
      never : (b : Bool) → ((b && false) || is_written_in es scope name)
          ≡ is_written_in es scope name
      never true = refl
      never false = refl

  pub inner-more : (name : Name) →
      is_inner_name (constant_at place ident ∷ es) name ≡ is_inner_name es name
  inner-more name = refl

  find-same : (p q : Scope → Bool) → ((scope : Scope) → p scope ≡ q scope) →
      (scopes : List Scope) → find p scopes ≡ find q scopes
  find-same p q same [] = refl
  find-same p q same (scope ∷ scopes) =
      ap (λ b. cond b (Some scope) (find p scopes)) (same scope)
      ∙ ap (cond (q scope) (Some scope)) (find-same p q same scopes)

  module _ (each : AllOf HasIdentifier es) where
    reference-more : (scopes : List Scope) (name : Name) → IsAnother name →
        denoted_by_context (constant_at place ident ∷ es) scopes name
        ≡ denoted_by_context es scopes name
    reference-more scopes name other =
        ap (written_or_implied (constant_at place ident ∷ es) scopes name)
        (find-same (λ scope. is_written_in (constant_at place ident ∷ es) scope name)
        (λ scope. is_written_in es scope name) (λ scope. written-more scope name other) scopes)
        ∙ by_found (find (λ scope. is_written_in es scope name) scopes)
      where
        same-implied : (scope : Scope) →
            is_implied_in (constant_at place ident ∷ es) scope name ≡ is_implied_in es scope name
        same-implied scope =
            nothing-implied (constant_at place ident ∷ es) (refl, each) scope name
            ∙ sym (nothing-implied es each scope name)

        by_found : (found : Option Scope) →
            written_or_implied (constant_at place ident ∷ es) scopes name found
            ≡ written_or_implied es scopes name found
        by_found (Some scope) = refl
        by_found None =
            ap (λ found. cond (is_unresolved name.ctxt) (Global name.sym) (bound_in
            (without_context name) found))
            (find-same (λ scope. is_implied_in (constant_at place ident ∷ es) scope name)
            (λ scope. is_implied_in es scope name) same-implied scopes)

    pub denoted-more : (u : Occurrence) → IsAnother (its_name u) →
        denoted_of ByContext Es (constant_at place ident ∷ es) u ≡ denoted_of ByContext Es es u
    denoted-more u other = by_declared (declaration_of ByContext Es u)
      where
        by_declared : (d : Option Declared) →
            own_or_found (constant_at place ident ∷ es)
            (denoted_by_context (constant_at place ident ∷ es) (scopes_around Es u.path)
            (its_name u)) d
            ≡ own_or_found es (denoted_by_context es (scopes_around Es u.path) (its_name u)) d
        by_declared None = reference-more (scopes_around Es u.path) (its_name u) other
        by_declared (Some d) = refl

-- ---- inward

-- whether a scope is one inside
abbrev pub is_inward : Scope → Bool
is_inward (Inner kind begins) = true
is_inward _ = false

-- what takes a name that is held
record Taker (way : Way) (scopes : List Scope) : Type 0 where
  kind : ScopeKind
  begins : ℕ
  outer : List Scope
  is : from_taker way scopes ≡ Inner kind begins ∷ outer

held_taker : (way : Way) (scopes : List Scope) → is_held way scopes ≡ true → Taker way scopes
held_taker way [] e = absurd (false≢true e)
held_taker way (Wrapper ∷ outer) e = absurd (false≢true e)
held_taker way (Top ∷ outer) e = absurd (false≢true e)
held_taker way (Inner kind begins ∷ outer) e =
    by_first (takes way (Inner kind begins)) refl e (held_taker way outer)
  where
    by_first : (b : Bool) → takes way (Inner kind begins) ≡ b →
        cond b true (is_held way outer) ≡ true → (is_held way outer ≡ true → Taker way outer) →
        Taker way (Inner kind begins ∷ outer)
    by_first true is it ih = record {
      kind = kind;
      begins = begins;
      outer = outer;
      is = ap (λ b. cond b (Inner kind begins ∷ outer) (from_taker way outer)) is;
    }
    by_first false is it ih =
        let rest = ih it in
        record {
          kind = rest.kind;
          begins = rest.begins;
          outer = rest.outer;
          is =
              ap (λ b. cond b (Inner kind begins ∷ outer) (from_taker way outer)) is ∙ rest.is;
        }

-- it is no top to which a held name belongs
held_home : (all : List Declared) (d : Declared) → is_held d.by d.scopes ≡ true →
    is_top (home_of all d) ≡ false
held_home all d e = by_joins (joins_parameter d.by)
  where
    it : Taker d.by d.scopes
    it = held_taker d.by d.scopes e

    own : is_top (taker d) ≡ false
    own = ap (λ from. is_top (unwrap_or (nearest from) Top)) it.is

    by_parameter : (beside : Option Scope) → is_top (home_beside all d beside) ≡ false
    by_parameter None = own
    by_parameter (Some Top) =
        ap (λ b. is_top (cond b Top (taker d)))
        (any-none (λ x. Unit {0}) (is_parameter Top d.name)
        (λ x there. no_parameter (taker x) (names_agree x.name d.name)) all (each all))
        ∙ own
      where
        each : (ds : List Declared) → AllOf (λ x. Unit {0}) ds
        each [] = tt
        each (x ∷ ds) = (tt, each ds)
    by_parameter (Some Wrapper) = by_found (list_any (is_parameter Wrapper d.name) all)
      where
        by_found : (b : Bool) → is_top (cond b Wrapper (taker d)) ≡ false
        by_found true = refl
        by_found false = own
    by_parameter (Some (Inner kind begins)) =
        by_found (list_any (is_parameter (Inner kind begins) d.name) all)
      where
        by_found : (b : Bool) → is_top (cond b (Inner kind begins) (taker d)) ≡ false
        by_found true = refl
        by_found false = own

    by_joins : (b : Bool) →
        is_top (cond b (home_beside all d (parameters_of (from_taker d.by d.scopes))) (taker d))
        ≡ false
    by_joins true = by_parameter (parameters_of (from_taker d.by d.scopes))
    by_joins false = own

-- the scopes around a place of a module are no wrapper's
abbrev pub IsUnwrapped : Scope → Type 0
IsUnwrapped scope = is_wrapper scope ≡ false

pub unwrapped : (path : List Around) → AllOf IsUnwrapped (scopes_around Es path)
unwrapped [] = (refl, tt)
unwrapped (node ∷ outer) =
    by_kind (kind_of_scope node.head node.field outer) (unwrapped outer)
  where
    by_kind : (kind : Option ScopeKind) → AllOf IsUnwrapped (scopes_around Es outer) →
        AllOf IsUnwrapped (scope_at node.begins kind ++ scopes_around Es outer)
    by_kind None rest = rest
    by_kind (Some kind) rest = (refl, rest)

-- a declaration that belongs inside, whatever else is declared
abbrev pub BelongsInward : Declared → Type 0
BelongsInward d = (all : List Declared) → is_inward (home_of all d) ≡ true

inward : (scope : Scope) → is_top scope ≡ false → is_wrapper scope ≡ false → is_inward scope ≡ true
inward Wrapper top wrapper = absurd (true≢false wrapper)
inward Top top wrapper = absurd (true≢false top)
inward (Inner kind begins) top wrapper = refl

pub held-inward : (d : Declared) → is_held d.by d.scopes ≡ true → AllOf IsUnwrapped d.scopes →
    BelongsInward d
held-inward d held free all =
    inward (home_of all d) (held_home all d held) (home-in IsUnwrapped refl all d free)

-- what held occurrences declare
pub all-inward : (os : List Occurrence) → AllOf IsHeld os → AllOf BelongsInward
    (declared_by_names os)
all-inward [] held = tt
all-inward (o ∷ os) held =
    by_role (is_binding o.role) refl (way_of o.path) refl (all-inward os held.1)
  where
    by_role : (b : Bool) → is_binding o.role ≡ b → (way : Option Way) → way_of o.path ≡ way →
        AllOf BelongsInward (declared_by_names os) →
        AllOf BelongsInward
        (cons_option (cond b (declared_by o.place (name_of ByContext o.sym o.ctxt)
        (scopes_around Es o.path) way) None)
        (declared_by_names os))
    by_role false is way its rest = rest
    by_role true is None its rest = rest
    by_role true is (Some way) its rest = (
      held-inward
          (record { place = o.place; name = name_of ByContext o.sym o.ctxt; by = way; scopes = scopes_around Es o.path })
          (held.0 is way its) (unwrapped o.path),
      rest,
    )

-- what is a binding inside, or a global
pub data IsInwardDenoted : Denoted → Type 0 where
  bound_inward : {kind : ScopeKind} {begins : ℕ} {name : Name} →
      IsInwardDenoted (Bound (Inner kind begins) name)
  not_bound : {x : List ℕ} → IsInwardDenoted (Global x)

bound-so : (scope : Scope) (name : Name) → is_inward scope ≡ true → IsInwardDenoted
    (Bound scope name)
bound-so Wrapper name e = absurd (false≢true e)
bound-so Top name e = absurd (false≢true e)
bound-so (Inner kind begins) name e = bound_inward

-- Denoted so.
module _ (ds : List Declared) (inner : AllOf BelongsInward ds) (each : AllOf HasIdentifier ds) where
  -- the top declares nothing
  pub top-unwritten : (name : Name) → is_written_in ds Top name ≡ false
  top-unwritten name =
      any-none BelongsInward (λ d. has_identifier d && is_declared_in ds Top name d)
      (λ d it. none (has_identifier d) (home_of ds d) (names_agree d.name name) (it ds)) ds inner
    where
      none : (a : Bool) (scope : Scope) (b : Bool) → is_inward scope ≡ true →
          (a && (same_scope scope Top && b)) ≡ false
      none a Wrapper b e = absurd (false≢true e)
      none a Top b e = absurd (false≢true e)
      none true (Inner kind begins) b e =
          ap (λ c. c && b) (ne_eqb (begins + 2) 1 (λ is. omega (arith, is)))
      none false (Inner kind begins) b e = refl

-- By symbol.

pub all-inward-by_symbol : (os : List Occurrence) → AllOf IsHeld os →
    AllOf BelongsInward (declared_by_symbols os)
all-inward-by_symbol [] held = tt
all-inward-by_symbol (o ∷ os) held =
    by_role (is_binding o.role) refl (way_of o.path) refl (all-inward-by_symbol os held.1)
  where
    by_role : (b : Bool) → is_binding o.role ≡ b → (way : Option Way) → way_of o.path ≡ way →
        AllOf BelongsInward (declared_by_symbols os) →
        AllOf BelongsInward
        (cons_option (cond b (declared_by o.place (name_of BySymbol o.sym o.ctxt)
        (scopes_around Es o.path) way) None)
        (declared_by_symbols os))
    by_role false is way its rest = rest
    by_role true is None its rest = rest
    by_role true is (Some way) its rest = (
      held-inward
          (record { place = o.place; name = name_of BySymbol o.sym o.ctxt; by = way; scopes = scopes_around Es o.path })
          (held.0 is way its) (unwrapped o.path),
      rest,
    )

module _ (ds : List Declared) (inner : AllOf BelongsInward ds) where
  -- the top binds nothing
  top-unbound : (name : Name) → binds ds Top name ≡ false
  top-unbound name =
      ap (λ b. b || (is_arguments name.sym && false)) undeclared ∙ never (is_arguments name.sym)
    where
      none : (scope : Scope) (b : Bool) → is_inward scope ≡ true → (same_scope scope Top && b)
          ≡ false
      none Wrapper b e = absurd (false≢true e)
      none Top b e = absurd (false≢true e)
      none (Inner kind begins) b e =
          ap (λ c. c && b) (ne_eqb (begins + 2) 1 (λ is. omega (arith, is)))

      undeclared : declares ds Top name ≡ false
      undeclared =
          any-none BelongsInward (is_declared_in ds Top name)
          (λ d it. none (home_of ds d) (names_agree d.name name) (it ds)) ds inner

      never : (b : Bool) → (false || (b && false)) ≡ false
      never true = refl
      never false = refl

  pub symbol-inward : (o : Occurrence) → IsHeld o → IsInwardDenoted (denoted_of BySymbol Es ds o)
  symbol-inward o held = by_role (is_binding o.role) refl (way_of o.path) refl
    where
      reference : IsInwardDenoted
          (denoted_by_symbol ds (scopes_around Es o.path) (name_of BySymbol o.sym o.ctxt))
      reference = by_found (find (λ scope. binds ds scope (name_of BySymbol o.sym o.ctxt))
          (scopes_around Es o.path)) refl
        where
          by_found : (found : Option Scope) →
              find (λ scope. binds ds scope (name_of BySymbol o.sym o.ctxt))
              (scopes_around Es o.path) ≡ found →
              IsInwardDenoted (bound_in (name_of BySymbol o.sym o.ctxt) found)
          by_found None e = not_bound
          by_found (Some Wrapper) e =
              let it = find-one IsUnwrapped (λ scope. binds ds scope
              (name_of BySymbol o.sym o.ctxt)) (scopes_around Es o.path)
              (unwrapped o.path) Wrapper e in
              absurd (true≢false it.0)
          by_found (Some Top) e =
              let it = find-one IsUnwrapped (λ scope. binds ds scope
              (name_of BySymbol o.sym o.ctxt)) (scopes_around Es o.path) (unwrapped o.path) Top e in
              absurd (false≢true (sym (top-unbound (name_of BySymbol o.sym o.ctxt)) ∙ it.1))
          by_found (Some (Inner kind begins)) e = bound_inward

      by_role : (b : Bool) → is_binding o.role ≡ b → (way : Option Way) → way_of o.path ≡ way →
          IsInwardDenoted
          (own_or_found ds (denoted_by_symbol ds (scopes_around Es o.path)
          (name_of BySymbol o.sym o.ctxt))
          (cond b (declared_by o.place (name_of BySymbol o.sym o.ctxt)
          (scopes_around Es o.path) way) None))
      by_role false is way its = reference
      by_role true is None its = reference
      by_role true is (Some way) its =
          let d : Declared = record { place = o.place; name = name_of BySymbol o.sym o.ctxt; by = way; scopes = scopes_around Es o.path } in
          bound-so (home_of ds d) (name_of BySymbol o.sym o.ctxt)
          (held-inward d (held is way its) (unwrapped o.path) ds)
