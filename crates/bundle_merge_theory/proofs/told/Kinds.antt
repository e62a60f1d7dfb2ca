-- A module that is read as CommonJS: what scopes inside it bind is what they bind where it is read
-- as ES code, and
-- its top binds no more.
use Rattle.std.proofs.Common.{◌≡◌, ℕ, ◌+◌, Bool, true, false, not, cond, ◌&&◌, ◌||◌, List, [], ◌∷◌, ◌++◌, append_assoc, Option, Some, None, option_and_then, refl, sym, ap, ap₂, ◌∙◌, subst, arith, ne_eqb, eqb-true, codes}
use Rattle.std.specs.Prelude.{Contains, find, unwrap_or}
use Rattle.std.specs.List.{AllZip, cons_option, list_any}
use Rattle.std.proofs.lemmas.Bool.{false≢true, and_parts}
use Rattle.std.proofs.lemmas.Option.{none-some, same_Some}
use Rattle.bundle_syntax.specs.declared.kind.VarDeclKind as v
use Rattle.bundle_syntax.specs.declared.kind.VarDeclKind.TheVariants as k
use Rattle.bundle_syntax.specs.Item as h
use Rattle.bundle_syntax.specs.Item.{Item, Head}
use Rattle.bundle_rules.specs.Places.{Around, Spot, Occurrence, past, occurrence_of, is_binding}
use Rattle.bundle_rules.specs.Scopes.{Es, Cjs, ScopeKind, FunctionBody, Scope, Wrapper, Top, Inner, same_scope, scope_at, kind_of_scope, is_default, scopes_around}
use Rattle.bundle_rules.specs.Declarations.{Way, ByImport, ByVar, ByLet, ByConst, ByFunction, ByClass, ByDefault, ByParameter, ByCatch, ByLoop, ByFunctionName, ByClassName, ByWrapper, BySymbol, Name, names_agree, Declared, declared_by, declaration_of, way_of, way_in, way_of_kind, way_of_variable, way_of_declarator, heads_loop, is_pattern, is_nameless_default, nameless_default, declared_from, wrapper_parameter, declared}
use Rattle.bundle_rules.specs.Homes.{is_top, is_wrapper, is_parameters, takes, from_taker, nearest, taker, parameters_of, joins_parameter, is_parameter, home_beside, home_of, is_declared_in, declares, is_arguments, is_function, binds, top_declared}
use Rattle.bundle_rules.specs.Bound.{top_names}
use Rattle.bundle_rules.specs.Nodes.{Text}
use Rattle.bundle_link_targets.proofs.ListLemmas.{first-there}
use Rattle.bundle_link_index.proofs.ProgramLemmas.{later as later-there, filter_on as filter-on, map_on as map-on}

-- ---- scopes
-- scopes of nodes
pub data AreInner : List Scope → Type 0 where
  nothing : AreInner []
  one : {kind : ScopeKind} {begins : ℕ} {rest : List Scope} → AreInner rest →
      AreInner (Inner kind begins ∷ rest)

pub inner_scopes : List Around → List Scope
inner_scopes [] = []
inner_scopes (node ∷ outer) = scope_at node.begins (kind_of_scope node.head node.field outer) ++
    inner_scopes outer

pub es_scopes : (path : List Around) → scopes_around Es path ≡ inner_scopes path ++ Top ∷ []
unfolding inner_scopes
es_scopes [] = refl
es_scopes (node ∷ outer) =
    ap (λ l. scope_at node.begins (kind_of_scope node.head node.field outer) ++ l) (es_scopes outer)
    ∙ sym (append_assoc (scope_at node.begins (kind_of_scope node.head node.field outer))
    (inner_scopes outer) (Top ∷ []))

pub cjs_scopes : (path : List Around) → scopes_around Cjs path
    ≡ inner_scopes path ++ Top ∷ Wrapper ∷ []
unfolding inner_scopes
cjs_scopes [] = refl
cjs_scopes (node ∷ outer) =
    ap (λ l. scope_at node.begins (kind_of_scope node.head node.field outer) ++ l)
    (cjs_scopes outer)
    ∙ sym (append_assoc (scope_at node.begins (kind_of_scope node.head node.field outer))
    (inner_scopes outer) (Top ∷ Wrapper ∷ []))

pub are_inner : (path : List Around) → AreInner (inner_scopes path)
unfolding inner_scopes
are_inner [] = nothing
are_inner (node ∷ outer) = by (kind_of_scope node.head node.field outer) (are_inner outer)
  where
    by : (o : Option ScopeKind) → AreInner (inner_scopes outer) →
        AreInner (scope_at node.begins o ++ inner_scopes outer)
    by None rest = rest
    by (Some kind) rest = one rest

-- a way that takes no wrapper
abbrev pub is_own_way : Way → Bool
is_own_way ByWrapper = false
is_own_way _ = true

no_wrapper : (way : Way) → is_own_way way ≡ true → takes way Wrapper ≡ false
no_wrapper ByImport own = refl
no_wrapper ByVar own = refl
no_wrapper ByLet own = refl
no_wrapper ByConst own = refl
no_wrapper ByFunction own = refl
no_wrapper ByClass own = refl
no_wrapper ByDefault own = refl
no_wrapper ByParameter own = refl
no_wrapper ByCatch own = refl
no_wrapper ByLoop own = refl
no_wrapper ByFunctionName own = refl
no_wrapper ByClassName own = refl
no_wrapper ByWrapper own = absurd (false≢true own)

-- where both readings find the scope that takes a name
data Takers : List Scope → List Scope → Type 0 where
  at_inner : {kind : ScopeKind} {begins : ℕ} {rest : List Scope} → AreInner rest →
      Takers (Inner kind begins ∷ (rest ++ Top ∷ []))
      (Inner kind begins ∷ (rest ++ Top ∷ Wrapper ∷ []))
  at_top : Takers (Top ∷ []) (Top ∷ Wrapper ∷ [])
  nowhere : Takers [] []

takers : (way : Way) → is_own_way way ≡ true → (scopes : List Scope) → AreInner scopes →
    Takers (from_taker way (scopes ++ Top ∷ [])) (from_taker way (scopes ++ Top ∷ Wrapper ∷ []))
takers way own [] inner = by (takes way Top)
  where
    by : (b : Bool) → Takers (cond b (Top ∷ []) [])
        (cond b (Top ∷ Wrapper ∷ []) (cond (takes way Wrapper) (Wrapper ∷ []) []))
    by true = at_top
    by false = subst (λ b. Takers [] (cond b (Wrapper ∷ []) [])) (sym (no_wrapper way own)) nowhere
takers way own (Wrapper ∷ rest) inner = elim inner [ ]
takers way own (Top ∷ rest) inner = elim inner [ ]
takers way own (Inner kind begins ∷ rest) (one inner) =
    by (takes way (Inner kind begins)) (takers way own rest inner)
  where
    by : (b : Bool) → Takers (from_taker way (rest ++ Top ∷ []))
        (from_taker way (rest ++ Top ∷ Wrapper ∷ [])) →
        Takers (cond b (Inner kind begins ∷ (rest ++ Top ∷ [])) (from_taker way (rest ++ Top ∷ [])))
        (cond b (Inner kind begins ∷ (rest ++ Top ∷ Wrapper ∷ []))
        (from_taker way (rest ++ Top ∷ Wrapper ∷ [])))
    by true more = at_inner inner
    by false more = more

-- ---- declarations
-- a declaration in both readings
pub record AreTwins (d e : Declared) : Type 0 where
  pub name : d.name ≡ e.name
  pub by : d.by ≡ e.by
  pub own : is_own_way d.by ≡ true
  pub scopes : List Scope
  pub inner : AreInner scopes
  pub es : d.scopes ≡ scopes ++ Top ∷ []
  pub cjs : e.scopes ≡ scopes ++ Top ∷ Wrapper ∷ []

taken_both : (d e : Declared) → AreTwins d e → Takers (from_taker d.by d.scopes)
    (from_taker e.by e.scopes)
taken_both d e twins =
    subst (λ way. Takers (from_taker d.by d.scopes) (from_taker way e.scopes)) twins.by
    (subst (λ l. Takers (from_taker d.by l) (from_taker d.by e.scopes)) (sym twins.es)
    (subst (λ l. Takers (from_taker d.by (twins.scopes ++ Top ∷ [])) (from_taker d.by l))
    (sym twins.cjs)
    (takers d.by twins.own twins.scopes twins.inner)))

first_of : {a b : List Scope} → Takers a b → unwrap_or (nearest a) Top ≡ unwrap_or (nearest b) Top
first_of (at_inner inner) = refl
first_of at_top = refl
first_of nowhere = refl

same_taker : (d e : Declared) → AreTwins d e → taker d ≡ taker e
same_taker d e twins = first_of (taken_both d e twins)

-- a scope that is no wrapper
abbrev IsNoWrapper : Scope → Type 0
IsNoWrapper scope = same_scope Wrapper scope ≡ false

inner_apart : (kind : ScopeKind) (begins : ℕ) → same_scope Wrapper (Inner kind begins) ≡ false
inner_apart kind begins = ne_eqb 0 (begins + 2) (λ e. omega (arith, e))

inner_no_top : (kind : ScopeKind) (begins : ℕ) → same_scope Top (Inner kind begins) ≡ false
inner_no_top kind begins = ne_eqb 1 (begins + 2) (λ e. omega (arith, e))

-- of declarations in both readings, where a module has two parameters more as CommonJS
abbrev pub with_parameters : List Declared → List Declared
with_parameters es = wrapper_parameter (codes "module") ∷ wrapper_parameter (codes "exports") ∷ es

is_parameter-twin : (scope : Scope) (d e : Declared) → AreTwins d e → (name : Name) →
    is_parameter scope name e ≡ is_parameter scope name d
is_parameter-twin scope d e twins name =
    ap₂ (λ (t : Scope) (n : Name). (is_parameters t || is_wrapper t) && same_scope t scope &&
    names_agree n name)
    (sym (same_taker d e twins)) (sym twins.name)

any-twins : (test its : Declared → Bool) (ds es : List Declared) → AllZip AreTwins ds es →
    ((d e : Declared) → AreTwins d e → its e ≡ test d) → list_any its es ≡ list_any test ds
any-twins test its [] [] zip same = refl
any-twins test its [] (e ∷ es) zip same = absurd zip
any-twins test its (d ∷ ds) [] zip same = absurd zip
any-twins test its (d ∷ ds) (e ∷ es) zip same =
    ap₂ (λ a b. a || b) (same d e zip.0) (any-twins test its ds es zip.1 same)

module _ (ds es : List Declared) (zip : AllZip AreTwins ds es) where
  parameter-none : (x : Text) (scope : Scope) → IsNoWrapper scope → (name : Name) →
      is_parameter scope name (wrapper_parameter x) ≡ false
  parameter-none x scope apart name =
      ap (λ b. true && b && names_agree (record { sym = x; ctxt = None }) name) apart

  parameters-same : (scope : Scope) → IsNoWrapper scope → (name : Name) →
      list_any (is_parameter scope name) (with_parameters es)
      ≡ list_any (is_parameter scope name) ds
  parameters-same scope apart name =
      ap₂ (λ a b. a || (b || list_any (is_parameter scope name) es))
      (parameter-none (codes "module") scope apart name)
      (parameter-none (codes "exports") scope apart name)
      ∙ any-twins (is_parameter scope name) (is_parameter scope name) ds es zip
      (λ d e twins. is_parameter-twin scope d e twins name)

  -- where a declared name belongs in both readings
  pub data Homes : Scope → Scope → Type 0 where
    same_home : {scope : Scope} → Homes scope scope
    wrapped : Homes Top Wrapper

  equal_homes : {a b : Scope} → a ≡ b → Homes a b
  equal_homes {a = a} e = subst (Homes a) e same_home

  beside-same : (d e : Declared) → AreTwins d e → (scope : Scope) → IsNoWrapper scope →
      Homes (home_beside ds d (Some scope)) (home_beside (with_parameters es) e (Some scope))
  beside-same d e twins scope apart =
      equal_homes
      (ap₂ (λ (b : Bool) (t : Scope). cond b scope t)
      (sym (parameters-same scope apart d.name)
      ∙ ap (λ n. list_any (is_parameter scope n) (with_parameters es)) twins.name)
      (same_taker d e twins))

  home-by : (d e : Declared) → AreTwins d e → {a b : List Scope} → Takers a b →
      taker d ≡ unwrap_or (nearest a) Top →
      Homes (home_beside ds d (parameters_of a))
      (home_beside (with_parameters es) e (parameters_of b))
  home-by d e twins (at_inner {kind = kind} {begins = begins} {rest = rest} inner) is = by kind
    where
      next : {rest : List Scope} → AreInner rest →
          Homes (home_beside ds d (nearest (rest ++ Top ∷ [])))
          (home_beside (with_parameters es) e (nearest (rest ++ Top ∷ Wrapper ∷ [])))
      next nothing = beside-same d e twins Top refl
      next (one {kind = k} {begins = b} more) = beside-same d e twins (Inner k b) (inner_apart k b)

      by : (kind : ScopeKind) →
          Homes (home_beside ds d (parameters_of (Inner kind begins ∷ (rest ++ Top ∷ []))))
          (home_beside (with_parameters es) e (parameters_of
          (Inner kind begins ∷ (rest ++ Top ∷ Wrapper ∷ []))))
      by FunctionBody = next inner
      by _ = equal_homes (same_taker d e twins)
  home-by d e twins at_top is = by (list_any (is_parameter Wrapper e.name) (with_parameters es))
    where
      by : (b : Bool) → Homes (taker d) (cond b Wrapper (taker e))
      by true = subst (λ t. Homes t Wrapper) (sym is) wrapped
      by false = equal_homes (same_taker d e twins)
  home-by d e twins nowhere is = equal_homes (same_taker d e twins)

  pub homes : (d e : Declared) → AreTwins d e → Homes (home_of ds d)
      (home_of (with_parameters es) e)
  homes d e twins =
      subst (λ way. Homes (home_of ds d) (cond (joins_parameter way)
      (home_beside (with_parameters es) e (parameters_of (from_taker e.by e.scopes))) (taker e)))
      twins.by (by (joins_parameter d.by))
    where
      by : (b : Bool) →
          Homes (cond b (home_beside ds d (parameters_of (from_taker d.by d.scopes))) (taker d))
          (cond b (home_beside (with_parameters es) e (parameters_of (from_taker e.by e.scopes)))
          (taker e))
      by true = home-by d e twins (taken_both d e twins) refl
      by false = equal_homes (same_taker d e twins)

  -- ---- scopes inside
  inner_homes : {a b : Scope} → Homes a b → (kind : ScopeKind) (begins : ℕ) →
      same_scope b (Inner kind begins) ≡ same_scope a (Inner kind begins)
  inner_homes same_home kind begins = refl
  inner_homes wrapped kind begins = inner_apart kind begins ∙ sym (inner_no_top kind begins)

  pub declares_inner : (kind : ScopeKind) (begins : ℕ) (name : Name) →
      declares (with_parameters es) (Inner kind begins) name ≡ declares ds (Inner kind begins) name
  declares_inner kind begins name =
      ap₂ (λ a b. (a && names_agree (record { sym = codes "module"; ctxt = None }) name) ||
      ((b && names_agree (record { sym = codes "exports"; ctxt = None }) name) || list_any
      (is_declared_in (with_parameters es) (Inner kind begins) name) es))
      (inner_apart kind begins) (inner_apart kind begins)
      ∙ any-twins (is_declared_in ds (Inner kind begins) name)
      (is_declared_in (with_parameters es) (Inner kind begins) name) ds es zip
      (λ d e twins.
      ap₂ (λ (b : Bool) (n : Name). b && names_agree n name)
      (inner_homes (homes d e twins) kind begins) (sym twins.name))

  pub binds_inner : (kind : ScopeKind) (begins : ℕ) (name : Name) →
      binds (with_parameters es) (Inner kind begins) name ≡ binds ds (Inner kind begins) name
  binds_inner kind begins name =
      ap₂ (λ a b. a || (is_arguments name.sym && (is_function (Inner kind begins) && not b)))
      (declares_inner kind begins name) (declares_inner kind begins
      (record { sym = codes "arguments"; ctxt = None }))

  -- what no scope of ES code binds no scope inside binds
  pub found_outside : (scopes : List Scope) → AreInner scopes → (name : Name) →
      find (λ scope. binds ds scope name) (scopes ++ Top ∷ []) ≡ None →
      find (λ scope. binds (with_parameters es) scope name) (scopes ++ Top ∷ Wrapper ∷ [])
      ≡ find (λ scope. binds (with_parameters es) scope name) (Top ∷ Wrapper ∷ [])
  found_outside [] inner name none = refl
  found_outside (Wrapper ∷ rest) inner name none = elim inner [ ]
  found_outside (Top ∷ rest) inner name none = elim inner [ ]
  found_outside (Inner kind begins ∷ rest) (one inner) name none =
      by (binds ds (Inner kind begins) name) refl none (found_outside rest inner name)
    where
      by : (b : Bool) → binds ds (Inner kind begins) name ≡ b →
          cond b (Some (Inner kind begins)) (find (λ scope. binds ds scope name) (rest ++ Top ∷ []))
          ≡ None →
          (find (λ scope. binds ds scope name) (rest ++ Top ∷ []) ≡ None →
          find (λ scope. binds (with_parameters es) scope name) (rest ++ Top ∷ Wrapper ∷ [])
          ≡ find (λ scope. binds (with_parameters es) scope name) (Top ∷ Wrapper ∷ [])) →
          cond (binds (with_parameters es) (Inner kind begins) name) (Some (Inner kind begins))
          (find (λ scope. binds (with_parameters es) scope name) (rest ++ Top ∷ Wrapper ∷ []))
          ≡ find (λ scope. binds (with_parameters es) scope name) (Top ∷ Wrapper ∷ [])
      by true is e rest_outside = absurd (none-some (Inner kind begins) (sym e))
      by false is e rest_outside =
          ap (λ b. cond b (Some (Inner kind begins))
          (find (λ scope. binds (with_parameters es) scope name) (rest ++ Top ∷ Wrapper ∷ [])))
          (binds_inner kind begins name ∙ is)
          ∙ rest_outside e

  -- ---- the top
  top_home : {a b : Scope} → Homes a b → same_scope b Top ≡ true → a ≡ Top
  top_home (same_home {scope = Top}) is = refl
  top_home (same_home {scope = Wrapper}) is = absurd (false≢true is)
  top_home (same_home {scope = Inner kind begins}) is =
      absurd (let e = eqb-true (begins + 2) 1 is in omega (arith, e))
  top_home wrapped is = absurd (false≢true is)

  pub twin_home : (d e : Declared) → AreTwins d e → home_of (with_parameters es) e ≡ Top →
      home_of ds d ≡ Top
  twin_home d e twins is = top_home (homes d e twins) (ap (λ s. same_scope s Top) is)

  -- a declaration at the top
  pub record DeclaresAtTop (name : Name) : Type 0 where
    pub d : Declared
    pub there : Contains ds d
    pub home : home_of ds d ≡ Top
    pub agree : names_agree d.name name ≡ true

  by-twins : (name : Name) (xs ys : List Declared) → AllZip AreTwins xs ys →
      ((d : Declared) → Contains xs d → Contains ds d) →
      list_any (is_declared_in (with_parameters es) Top name) ys ≡ true → DeclaresAtTop name
  by-twins name [] [] zip into any = absurd (false≢true any)
  by-twins name [] (e ∷ ys) zip into any = absurd zip
  by-twins name (d ∷ xs) [] zip into any = absurd zip
  by-twins name (d ∷ xs) (e ∷ ys) zip into any =
      by (is_declared_in (with_parameters es) Top name e) refl any
      (by-twins name xs ys zip.1 (λ x c. into x (later-there d xs x c)))
    where
      by : (b : Bool) → is_declared_in (with_parameters es) Top name e ≡ b →
          (b || list_any (is_declared_in (with_parameters es) Top name) ys) ≡ true →
          (list_any (is_declared_in (with_parameters es) Top name) ys ≡ true → DeclaresAtTop name) →
          DeclaresAtTop name
      by true is any rest =
          let parts = and_parts (same_scope (home_of (with_parameters es) e) Top)
          (names_agree e.name name) is in
          record {
            d = d;
            there = into d (first-there d xs);
            home = top_home (homes d e zip.0) parts.0;
            agree = ap (λ n. names_agree n name) zip.0.name ∙ parts.1;
          }
      by false is any rest = rest any

  pub declares_top : (name : Name) → declares (with_parameters es) Top name ≡ true →
      DeclaresAtTop name
  declares_top name any = by-twins name ds es zip (λ d c. c) any

-- the same of one reading
pub declared_top : (ds : List Declared) (name : Name) → (xs : List Declared) →
    ((d : Declared) → Contains xs d → Contains ds d) →
    list_any (is_declared_in ds Top name) xs ≡ true →
    (d : Declared) × Contains ds d × (is_top (home_of ds d) ≡ true) ×
    (names_agree d.name name ≡ true)
declared_top ds name [] into any = absurd (false≢true any)
declared_top ds name (d ∷ xs) into any =
    by (is_declared_in ds Top name d) refl any
    (declared_top ds name xs (λ x c. into x (later-there d xs x c)))
  where
    top_is : (s : Scope) → same_scope s Top ≡ true → is_top s ≡ true
    top_is Top is = refl
    top_is Wrapper is = absurd (false≢true is)
    top_is (Inner kind begins) is = absurd (let e = eqb-true (begins + 2) 1 is in omega (arith, e))

    by : (b : Bool) → is_declared_in ds Top name d ≡ b →
        (b || list_any (is_declared_in ds Top name) xs) ≡ true →
        (list_any (is_declared_in ds Top name) xs ≡ true → (e : Declared) × Contains ds e ×
        (is_top (home_of ds e) ≡ true) × (names_agree e.name name ≡ true)) →
        (e : Declared) × Contains ds e × (is_top (home_of ds e) ≡ true) ×
        (names_agree e.name name ≡ true)
    by true is any rest =
        let parts = and_parts (same_scope (home_of ds d) Top) (names_agree d.name name) is in
        (d, into d (first-there d xs), top_is (home_of ds d) parts.0, parts.1)
    by false is any rest = rest any

-- what belongs to the top is a name of it
pub named_top : (tree : List Item) (d : Declared) → Contains (declared BySymbol Es tree) d →
    is_top (home_of (declared BySymbol Es tree) d) ≡ true → Contains (top_names tree) d.name.sym
named_top tree d there is =
    map-on (λ (e : Declared). e.name.sym) (top_declared BySymbol Es tree) d
    (filter-on (λ (e : Declared). is_top (home_of (declared BySymbol Es tree) e) || is_wrapper
    (home_of (declared BySymbol Es tree) e))
    (declared BySymbol Es tree) d there
    (ap (λ b. b || is_wrapper (home_of (declared BySymbol Es tree) d)) is))

-- ---- what the elements of a tree declare in both readings
pattern_way : (head : Head) (outer : List Around) (way : Way) → way_in head outer ≡ Some way →
    is_own_way way ≡ true
pattern_way h.ImportNamedSpecifier outer way e =
    subst (λ w. is_own_way w ≡ true) (same_Some ByImport way e) refl
pattern_way h.ImportDefaultSpecifier outer way e =
    subst (λ w. is_own_way w ≡ true) (same_Some ByImport way e) refl
pattern_way h.ImportStarAsSpecifier outer way e =
    subst (λ w. is_own_way w ≡ true) (same_Some ByImport way e) refl
pattern_way h.VarDeclarator outer way e = by outer e
  where
    loop : (b : Bool) (first other way : Way) → is_own_way first ≡ true → is_own_way other ≡ true →
        Some (cond b first other) ≡ Some way → is_own_way way ≡ true
    loop true first other way a c e = subst (λ w. is_own_way w ≡ true) (same_Some first way e) a
    loop false first other way a c e = subst (λ w. is_own_way w ≡ true) (same_Some other way e) c

    kind_way : (kind : v.VarDeclKind) (outer : List Around) →
        Some (way_of_kind kind outer) ≡ Some way → is_own_way way ≡ true
    kind_way k.Var outer e = subst (λ w. is_own_way w ≡ true) (same_Some ByVar way e) refl
    kind_way k.Let outer e = loop (heads_loop outer) ByLoop ByLet way refl refl e
    kind_way k.Const outer e = loop (heads_loop outer) ByLoop ByConst way refl refl e

    variable : (head : Head) (outer : List Around) → way_of_variable head outer ≡ Some way →
        is_own_way way ≡ true
    variable (h.VarDecl kind meta) outer e = kind_way kind outer e
    variable _ outer e = absurd (none-some way e)

    by : (outer : List Around) → way_of_declarator outer ≡ Some way → is_own_way way ≡ true
    by [] e = absurd (none-some way e)
    by (node ∷ outer) e = variable node.head outer e
pattern_way h.FnDecl outer way e = subst (λ w. is_own_way w ≡ true) (same_Some ByFunction way e)
    refl
pattern_way h.ClassDecl outer way e = subst (λ w. is_own_way w ≡ true) (same_Some ByClass way e)
    refl
pattern_way h.FnExpr outer way e = by (is_default outer) e
  where
    by : (b : Bool) → Some (cond b ByFunction ByFunctionName) ≡ Some way → is_own_way way ≡ true
    by true e = subst (λ w. is_own_way w ≡ true) (same_Some ByFunction way e) refl
    by false e = subst (λ w. is_own_way w ≡ true) (same_Some ByFunctionName way e) refl
pattern_way h.ClassExpr outer way e = by (is_default outer) e
  where
    by : (b : Bool) → Some (cond b ByClass ByClassName) ≡ Some way → is_own_way way ≡ true
    by true e = subst (λ w. is_own_way w ≡ true) (same_Some ByClass way e) refl
    by false e = subst (λ w. is_own_way w ≡ true) (same_Some ByClassName way e) refl
pattern_way h.Param outer way e = subst (λ w. is_own_way w ≡ true) (same_Some ByParameter way e)
    refl
pattern_way (h.ArrowExpr is_async) outer way e =
    subst (λ w. is_own_way w ≡ true) (same_Some ByParameter way e) refl
pattern_way h.SetterProp outer way e = subst (λ w. is_own_way w ≡ true)
    (same_Some ByParameter way e) refl
pattern_way h.CatchClause outer way e = subst (λ w. is_own_way w ≡ true) (same_Some ByCatch way e)
    refl
pattern_way _ outer way e = absurd (none-some way e)

way_own : (path : List Around) (way : Way) → way_of path ≡ Some way → is_own_way way ≡ true
way_own [] way e = absurd (none-some way e)
way_own (node ∷ outer) way e = by (is_pattern node.head) e (way_own outer way)
  where
    by : (b : Bool) → cond b (way_of outer) (way_in node.head outer) ≡ Some way →
        (way_of outer ≡ Some way → is_own_way way ≡ true) → is_own_way way ≡ true
    by true e rest = rest e
    by false e rest = pattern_way node.head outer way e

-- a declaration in both readings, or in none
pub data MayBeTwins : Option Declared → Option Declared → Type 0 where
  no_twins : MayBeTwins None None
  both : {d e : Declared} → AreTwins d e → MayBeTwins (Some d) (Some e)

pub declaration_twins : (o : Occurrence) →
    MayBeTwins (declaration_of BySymbol Es o) (declaration_of BySymbol Cjs o)
declaration_twins o = role (is_binding o.role)
  where
    by_way : (w : Option Way) → way_of o.path ≡ w →
        MayBeTwins (declared_by o.place (record { sym = o.sym; ctxt = None })
        (scopes_around Es o.path) w)
        (declared_by o.place (record { sym = o.sym; ctxt = None }) (scopes_around Cjs o.path) w)
    by_way None is = no_twins
    by_way (Some way) is = both (record {
      name = refl;
      by = refl;
      own = way_own o.path way is;
      scopes = inner_scopes o.path;
      inner = are_inner o.path;
      es = es_scopes o.path;
      cjs = cjs_scopes o.path;
    })

    role : (b : Bool) →
        MayBeTwins (cond b (declared_by o.place (record { sym = o.sym; ctxt = None })
        (scopes_around Es o.path) (way_of o.path)) None)
        (cond b (declared_by o.place (record { sym = o.sym; ctxt = None })
        (scopes_around Cjs o.path) (way_of o.path)) None)
    role true = by_way (way_of o.path) refl
    role false = no_twins

put_twins : {p q : Option Declared} (ds es : List Declared) → MayBeTwins p q →
    AllZip AreTwins ds es →
    AllZip AreTwins (cons_option p ds) (cons_option q es)
put_twins ds es no_twins rest = rest
put_twins ds es (both twins) rest = (twins, rest)

pub twins_from : (s : Spot) (items : List Item) →
    AllZip AreTwins (declared_from BySymbol Es s items) (declared_from BySymbol Cjs s items)
twins_from s [] = tt
twins_from s (x ∷ rest) = put_twins (declared_from BySymbol Es (past s x) rest)
    (declared_from BySymbol Cjs (past s x) rest)
    (nameless (is_nameless_default x rest) (occurrence_of s x)) (twins_from (past s x) rest)
  where
    nameless : (b : Bool) (o : Option Occurrence) →
        MayBeTwins (cond b (Some (nameless_default Es s.place))
        (option_and_then (declaration_of BySymbol Es) o))
        (cond b (Some (nameless_default Cjs s.place))
        (option_and_then (declaration_of BySymbol Cjs) o))
    nameless true o =
        both (record {
          name = refl;
          by = refl;
          own = refl;
          scopes = [];
          inner = nothing;
          es =
              refl;
          cjs = refl;
        })
    nameless false None = no_twins
    nameless false (Some o) = declaration_twins o
