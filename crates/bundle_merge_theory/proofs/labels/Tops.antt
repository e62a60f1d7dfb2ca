-- A name that the top of a module binds, and no import, is declared at the top in an own statement.
use Rattle.std.proofs.Common.{◌≡◌, inl, inr, ℕ, ◌||◌, Bool, true, false, List, [], ◌∷◌, ◌++◌, Option, Some, None, Contains, refl, sym, ap, ◌∙◌, subst, cond, bytes_eq}
use Rattle.std.specs.Prelude.{find, option_map, unwrap_or}
use Rattle.std.specs.List.{list_any}
use Rattle.std.proofs.lemmas.Bool.{false≢true}
use Rattle.std.proofs.lemmas.Option.{none-some, same_Some}
use Rattle.std.proofs.lemmas.Slice.Eq.{bytes_eq-Decides}
use Rattle.bundle_syntax.specs.declared.piece.Role.TheVariants as r
use Rattle.bundle_syntax.specs.Item as h
use Rattle.bundle_syntax.specs.Item.{Item}
use Rattle.bundle_rules.specs.Nodes.{Text}
use Rattle.bundle_rules.specs.Places.{Around, Occurrence, occurrences, is_binding}
use Rattle.bundle_rules.specs.Scopes.{ScopeKind, Es, Scope, Wrapper, Top, Inner, FunctionBody, scope_at, kind_of_scope, scopes_around}
use Rattle.bundle_rules.specs.Declarations.{BySymbol, Way, Declared, declared, declared_by, declaration_of, way_of}
use Rattle.bundle_rules.specs.Homes.{takes, from_taker, nearest, taker, parameters_of, joins_parameter, is_parameter, home_beside, home_of, is_top, is_wrapper}
use Rattle.bundle_rules.specs.Denotes.{Bound, denoted_at, denoted_of, denoted_in, own_or_found}
use Rattle.bundle_rules.specs.Bound.{top_names}
use Rattle.bundle_rules.specs.Entries.{ImportEntry, imports_of, import_of}
use Rattle.bundle_rules.specs.Meaning.{plain}
use Rattle.bundle_rules.specs.Program.{Program, tree_of}
use Rattle.bundle_rules.specs.Statements.{Element, taken, own_statements, default_binding}
use Rattle.bundle_rules.proofs.PlacesLemmas.{occurrences-at}
use Rattle.bundle_scope_names.specs.fit.Sorts.{AModule}
use Rattle.bundle_scope_names.specs.fit.Fits.{IsFit}
use Rattle.bundle_link_index.proofs.AskedLemmas.{none_there as none-there}
use Rattle.bundle_link_index.proofs.ProgramLemmas.{first_or_later as there-cases, map_back as map-back, filter_back as filter-back, got as there-place}
use Rattle.bundle_merge_theory.specs.made.Alone.{DeclaresTop, by_name, by_default}
use Rattle.bundle_merge_theory.proofs.labels.Modules.{IsDeclaredIn, in_statement, without_name, imported, module-declares}

-- ---- the scopes of a module are no parameters of one
pub data NoWrapper : List Scope → Type 0 where
  over : NoWrapper []
  next : {scope : Scope} {outer : List Scope} → is_wrapper scope ≡ false → NoWrapper outer →
      NoWrapper (scope ∷ outer)

abbrev IsNone : Option Scope → Type 0
IsNone None = Unit {0}
IsNone (Some scope) = is_wrapper scope ≡ false

put-scope : (begins : ℕ) (kind : Option ScopeKind) (outer : List Scope) → NoWrapper outer →
    NoWrapper (scope_at begins kind ++ outer)
put-scope begins None outer them = them
put-scope begins (Some kind) outer them = next refl them

pub around-none : (path : List Around) → NoWrapper (scopes_around Es path)
around-none [] = next refl over
around-none (node ∷ outer) =
    put-scope node.begins (kind_of_scope node.head node.field outer) (scopes_around Es outer)
    (around-none outer)

from-none : (way : Way) (scopes : List Scope) → NoWrapper scopes → NoWrapper (from_taker way scopes)
from-none way [] over = over
from-none way (scope ∷ outer) (next e them) = by (takes way scope) (from-none way outer them)
  where
    by : (b : Bool) → NoWrapper (from_taker way outer) →
        NoWrapper (cond b (scope ∷ outer) (from_taker way outer))
    by true rest = next e them
    by false rest = rest

nearest-none : (scopes : List Scope) → NoWrapper scopes → IsNone (nearest scopes)
nearest-none [] over = tt
nearest-none (scope ∷ outer) (next e them) = e

parameters-none : (scopes : List Scope) → NoWrapper scopes → IsNone (parameters_of scopes)
parameters-none [] over = tt
parameters-none (Wrapper ∷ outer) (next e them) = tt
parameters-none (Top ∷ outer) (next e them) = nearest-none outer them
parameters-none (Inner FunctionBody begins ∷ outer) (next e them) = nearest-none outer them
parameters-none (Inner _ begins ∷ outer) (next e them) = tt

or-top : (found : Option Scope) → IsNone found → is_wrapper (unwrap_or found Top) ≡ false
or-top None e = refl
or-top (Some scope) e = e

pub home-none : (all : List Declared) (d : Declared) (path : List Around) →
    d.scopes ≡ scopes_around Es path → is_wrapper (home_of all d) ≡ false
home-none all d path e = by (joins_parameter d.by)
  where
    apart : NoWrapper (from_taker d.by d.scopes)
    apart = from-none d.by d.scopes (subst NoWrapper (sym e) (around-none path))

    own : is_wrapper (taker d) ≡ false
    own =
        or-top (nearest (from_taker d.by d.scopes)) (nearest-none (from_taker d.by d.scopes) apart)

    beside : (found : Option Scope) → IsNone found → is_wrapper (home_beside all d found) ≡ false
    beside None it = own
    beside (Some scope) it = choose (list_any (is_parameter scope d.name) all)
      where
        choose : (b : Bool) → is_wrapper (cond b scope (taker d)) ≡ false
        choose true = it
        choose false = own

    by : (b : Bool) →
        is_wrapper
        (cond b (home_beside all d (parameters_of (from_taker d.by d.scopes))) (taker d)) ≡ false
    by true =
        beside (parameters_of (from_taker d.by d.scopes))
        (parameters-none (from_taker d.by d.scopes) apart)
    by false = own

pub is-top : (scope : Scope) → (is_top scope || is_wrapper scope) ≡ true →
    is_wrapper scope ≡ false →
    scope ≡ Top
is-top Top e none = refl
is-top Wrapper e none = absurd (false≢true (sym none))
is-top (Inner kind begins) e none = absurd (false≢true e)

-- ---- what an occurrence declares
pub record DeclaresSo (o : Occurrence) (d : Declared) : Type 0 where
  pub place : d.place ≡ o.place
  pub named : d.name ≡ plain o.sym
  pub scopes : d.scopes ≡ scopes_around Es o.path
  pub way : way_of o.path ≡ Some d.by
  pub binds : is_binding o.role ≡ true

declares-by : (o : Occurrence) (way : Option Way) (d : Declared) → way_of o.path ≡ way →
    is_binding o.role ≡ true →
    declared_by o.place (plain o.sym) (scopes_around Es o.path) way ≡ Some d → DeclaresSo o d
declares-by o None d is binds e = absurd (none-some d e)
declares-by o (Some way) d is binds e =
    let same = sym (same_Some _ d e) in
    record {
      place = ap (λ (x : Declared). x.place) same;
      named = ap (λ (x : Declared). x.name) same;
      scopes = ap (λ (x : Declared). x.scopes) same;
      way = is ∙ ap (λ (x : Declared). Some x.by) (sym same);
      binds = binds;
    }

pub declares-so : (o : Occurrence) (d : Declared) → declaration_of BySymbol Es o ≡ Some d →
    DeclaresSo o d
declares-so o d e = by (is_binding o.role) refl e
  where
    by : (b : Bool) → is_binding o.role ≡ b →
        cond b (declared_by o.place (plain o.sym) (scopes_around Es o.path) (way_of o.path)) None ≡
        Some d →
        DeclaresSo o d
    by true binds e = declares-by o (way_of o.path) d refl binds e
    by false binds e = absurd (none-some d e)

-- it denotes its own binding
pub denotes-own : (tree : List Item) (o : Occurrence) (d : Declared) →
    Contains (occurrences tree) o →
    declaration_of BySymbol Es o ≡ Some d →
    denoted_at BySymbol Es tree d.place ≡ Some
    (Bound (home_of (declared BySymbol Es tree) d) d.name)
denotes-own tree o d c e =
    let at = there-place (occurrences tree) o c in
    let all = declared BySymbol Es tree in
    ap (λ n. denoted_at BySymbol Es tree n) (declares-so o d e).place
    ∙ ap (λ x. option_map (denoted_of BySymbol Es all) x) (occurrences-at tree at.0 o at.1)
    ∙ ap
    (λ x. Some
    (own_or_found all (denoted_in BySymbol all (scopes_around Es o.path) (plain o.sym)) x)) e

-- ---- names that imports bind
pub find-some : {A : Type 0} (test : A → Bool) (xs : List A) (x : A) → Contains xs x →
    test x ≡ true →
    find test xs ≡ None → ⊥
find-some test [] x c is none = none-there x c
find-some {A = A} test (a ∷ xs) x c is none =
    by (test a) refl none (λ later. find-some test xs x later is)
  where
    by : (b : Bool) → test a ≡ b → cond b (Some a) (find test xs) ≡ None →
        (Contains xs x → find test xs ≡ None → ⊥) → ⊥
    by true at none ih = none-some a (sym none)
    by false at none ih = elim (there-cases a xs x c) [
      | inl e ↦ false≢true (sym at ∙ ap test e ∙ is)
      | inr later ↦ ih later none
    ]

-- ---- a name of the top
-- an element of an own statement declares the name at the top
pub record IsOwnTop (p : Program) (m : ℕ) (x : Text) : Type 0 where
  pub statement : List Element
  pub element : Element
  pub own : Contains (own_statements (tree_of p m)) statement
  pub there : Contains statement element
  pub declares : DeclaresTop p m element x

-- a declaration at the top, that is no import
pub declared-top : (p : Program) (m : ℕ) → IsFit AModule 0 (tree_of p m) → (d : Declared) →
    Contains (declared BySymbol Es (tree_of p m)) d →
    (is_top (home_of (declared BySymbol Es (tree_of p m)) d) || is_wrapper
    (home_of (declared BySymbol Es (tree_of p m)) d)) ≡ true →
    import_of (imports_of (tree_of p m)) d.name.sym ≡ None → IsOwnTop p m d.name.sym
declared-top p m fit d c top free = by (module-declares (tree_of p m) fit d c)
  where
    all : List Declared
    all = declared BySymbol Es (tree_of p m)

    by : IsDeclaredIn (tree_of p m) d → IsOwnTop p m d.name.sym
    by (in_statement o statement field ctxt there declares own stands named) =
        let so = declares-so o d declares in
        let home =
        is-top (home_of (declared BySymbol Es (tree_of p m)) d) top
        (home-none (declared BySymbol Es (tree_of p m)) d o.path so.scopes) in
        record {
          statement = statement;
          element = taken d.place (h.Ident field d.name.sym ctxt r.Binding);
          own = own;
          there = stands;
          declares =
              by_name
              (denotes-own (tree_of p m) o d there declares ∙ ap (λ s. Some (Bound s d.name)) home
              ∙ ap (λ n. Some (Bound Top n)) named);
        }
    by (without_name statement own stands named) = record {
      statement = statement;
      element = default_binding;
      own = own;
      there = stands;
      declares = subst (DeclaresTop p m default_binding) (sym named) by_default;
    }
    by (imported entry there local) =
        absurd
        (find-some (λ (e : ImportEntry). bytes_eq e.local d.name.sym) (imports_of (tree_of p m))
        entry there ((bytes_eq-Decides entry.local d.name.sym).1 local) free)

pub top-declares : (p : Program) (m : ℕ) → IsFit AModule 0 (tree_of p m) → (x : Text) →
    Contains (top_names (tree_of p m)) x → import_of (imports_of (tree_of p m)) x ≡ None →
    IsOwnTop p m x
top-declares p m fit x c free =
    let back = map-back (λ (d : Declared). d.name.sym) _ x c in
    let kept = filter-back _ (declared BySymbol Es (tree_of p m)) back.0 back.1 in
    subst (IsOwnTop p m) back.2
    (declared-top p m fit back.0 kept.0 kept.1
    (ap (import_of (imports_of (tree_of p m))) back.2 ∙ free))
