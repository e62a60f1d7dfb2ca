-- One more name at the top, declared by `var` outside, changes nothing of what other names denote.
-- What names denote by their symbols in the body of the load function is what they denoted in the
-- module.
-- What a name denotes by symbol and context in the body of the load function.
-- What is one binding in the module is one in the item, and the other way round.
use Rattle.std.proofs.Common.{◌≡◌, ℕ, Bool, true, false, cond, ◌&&◌, ◌||◌, List, ◌∷◌, Option, Some, None, find, refl, ap, ap₂, sym, ◌∙◌, ◌+◌, not, [], is_some, unwrap_or, codes, subst, arith, zero, suc, ◌-◌, ◌==◌, slice_get, bytes_eq, eq-eqb, eqb-true, ne_eqb}
use Rattle.std.specs.List.{list_any}
use Rattle.std.proofs.lemmas.Bool.{false≢true, and_parts, and_from}
use Rattle.std.proofs.lemmas.Option.{none-some, same_Some}
use Rattle.std.proofs.lemmas.Slice.Eq.{bytes_eq-Decides}
use Rattle.bundle_rules.specs.Scopes.{Scope, Top, same_scope, ScopeKind, Wrapper, Inner, Parameters, FunctionBody, FunctionName, Es, Cjs, scope_order, scopes_around}
use Rattle.bundle_rules.specs.Declarations.{Name, names_agree, Declared, Way, ByImport, ByVar, ByLet, ByConst, ByFunction, ByClass, ByDefault, ByParameter, ByCatch, ByLoop, ByFunctionName, ByClassName, ByWrapper, ByContext, BySymbol, name_of, declared_by, declaration_of, way_of}
use Rattle.bundle_rules.specs.Homes.{from_taker, parameters_of, taker, joins_parameter, home_beside, home_of, is_declared_in, is_parameters, is_wrapper, is_function, is_arguments, takes, nearest, is_parameter, declares, binds}
use Rattle.bundle_rules.specs.Denotes.{Global, without_context, bound_in, is_unresolved, has_identifier, is_written_in, is_implied_in, implied, written_or_implied, denoted_by_context, Bound, denoted_by_symbol, own_or_found, denoted_of, Denoted}
use Rattle.bundle_rules.specs.Places.{Occurrence, is_binding}
use Rattle.bundle_rules.specs.Mentions.{same_context, same_denoted}
use Rattle.bundle_order.proofs.ProvideLemmas.{find_agree}
use Rattle.bundle_scope_names.proofs.HomesLemmas.{list_any-same, Each, list_any-found, list_any-here, IsBySymbol, home-lifted, names_agree-by_symbol, same_order, bytes_same as same_symbol}
use Rattle.bundle_scope_names.proofs.Numbering.{Numbering, context_of, is_identified, lifted, lift_all, is_written, given}
use Rattle.bundle_scope_names.proofs.FoundLemmas.{plain, with, reference-given}
use Rattle.bundle_order.proofs.EventLemmas.{same_context-refl}
use Rattle.bundle_merge_theory.specs.joined.Joined.{AllOf}
use Rattle.bundle_merge_theory.proofs.joined.Denotes.{HasIdentifier, nothing-implied, is_parameters-relocated, is_wrapper-relocated, is_function-relocated, takes-relocated}
use Rattle.bundle_merge_theory.specs.loaded.Kept.{load_declared, moved_numbering, item_declared, DenotedBeside, globals, bindings, StandsBeside, IsDeclarationTaken, IsOccurrenceKnown, IsToldApart, KeepsName}
use Rattle.bundle_merge_theory.proofs.joined.Paths.{both-alike}
use Rattle.bundle_merge_theory.specs.loaded.Framed.{IsFrame, Beside, top, wrapper, inner, Framed, outside, within, is_wrapper_way, IsSeatedPair, DeclaredBeside, of_wrapper, of_body, AllBeside, none, more, BothBeside, neither, both}

-- ---- added
module _ (x : List ℕ) (c : ℕ) (es : List Declared) where
  beside-added : (d : Declared) (p : Option Scope) →
      home_beside (load_declared x c ∷ es) d p ≡ home_beside es d p
  beside-added d None = refl
  beside-added d (Some s) = refl

  pub home-added : (d : Declared) → home_of (load_declared x c ∷ es) d ≡ home_of es d
  home-added d =
      ap (λ home. cond (joins_parameter d.by) home (taker d))
      (beside-added d (parameters_of (from_taker d.by d.scopes)))

  pub written-added : (name : Name) → names_agree (load_declared x c).name name ≡ false →
      (s : Scope) → is_written_in (load_declared x c ∷ es) s name ≡ is_written_in es s name
  written-added name other s =
      ap₂ (λ (a : Bool) (b : Bool). a || b) (ap (λ b. same_scope Top s && b) other
      ∙ never (same_scope Top s))
      (list_any-same (λ d. has_identifier d && is_declared_in es s name d)
      (λ d. has_identifier d && is_declared_in (load_declared x c ∷ es) s name d)
      (λ d. ap (λ home. has_identifier d && (same_scope home s && names_agree d.name name))
      (home-added d)) es)
    where
      never : (b : Bool) → (b && false) ≡ false
      never true = refl
      never false = refl

  pub denoted-added : AllOf HasIdentifier es → (name : Name) →
      names_agree (load_declared x c).name name ≡ false → (scopes : List Scope) →
      denoted_by_context (load_declared x c ∷ es) scopes name ≡ denoted_by_context es scopes name
  denoted-added each name other scopes =
      ap (written_or_implied (load_declared x c ∷ es) scopes name)
      (find_agree (λ s. is_written_in (load_declared x c ∷ es) s name)
      (λ s. is_written_in es s name) (written-added name other) scopes)
      ∙ by_found (find (λ s. is_written_in es s name) scopes)
    where
      implied-added : implied (load_declared x c ∷ es) scopes name ≡ implied es scopes name
      implied-added =
          ap (λ o. cond (is_unresolved name.ctxt) (Global name.sym)
          (bound_in (without_context name) o))
          (find_agree (λ s. is_implied_in (load_declared x c ∷ es) s name)
          (λ s. is_implied_in es s name)
          (λ s. nothing-implied (load_declared x c ∷ es) (refl, each) s name
          ∙ sym (nothing-implied es each s name)) scopes)

      by_found : (o : Option Scope) →
          written_or_implied (load_declared x c ∷ es) scopes name o
          ≡ written_or_implied es scopes name o
      by_found None = implied-added
      by_found (Some s) = refl

-- ---- beside
module _ (R : ℕ → ℕ → Type 0) (frame : IsFrame R) where
  -- scopes are the same where those beside them are
  pub same-beside : {s t u v : Scope} → Beside R s t → Beside R u v →
      same_scope t v ≡ same_scope s u
  same-beside top top = refl
  same-beside top wrapper = refl
  same-beside wrapper top = refl
  same-beside wrapper wrapper = refl
  same-beside top (inner {a = a} {b = b} r) =
      let far = frame.inside a b r in
      both-alike 23 (b + 2) 1 (a + 2) (λ e. absurd (omega (arith, e, far)))
      (λ e. absurd (omega (arith, e)))
  same-beside wrapper (inner {a = a} {b = b} r) =
      let far = frame.inside a b r in
      both-alike 12 (b + 2) 0 (a + 2) (λ e. absurd (omega (arith, e, far)))
      (λ e. absurd (omega (arith, e)))
  same-beside (inner {a = a} {b = b} r) top =
      let far = frame.inside a b r in
      both-alike (b + 2) 23 (a + 2) 1 (λ e. absurd (omega (arith, e, far)))
      (λ e. absurd (omega (arith, e)))
  same-beside (inner {a = a} {b = b} r) wrapper =
      let far = frame.inside a b r in
      both-alike (b + 2) 12 (a + 2) 0 (λ e. absurd (omega (arith, e, far)))
      (λ e. absurd (omega (arith, e)))
  same-beside (inner {a = a} {b = b} r) (inner {a = c} {b = d} q) =
      both-alike (b + 2) (d + 2) (a + 2) (c + 2)
      (λ e. let same : b ≡ d = omega (arith, e) in let there : a ≡ c = sym (frame.back a b r)
      ∙ (ap frame.from same ∙ frame.back c d q) in ap (λ n. n + 2) there)
      (λ e. let same : a ≡ c = omega (arith, e) in
      let there = frame.one c b d (subst (λ n. R n b) same r) q in ap (λ n. n + 2) there)

  -- nothing belongs to a scope around the function
  pub outer-beside : {s t : Scope} → Beside R s t →
      (same_scope t Top ≡ false) × (same_scope t (Inner FunctionName 9) ≡ false)
  outer-beside top = (refl, refl)
  outer-beside wrapper = (refl, refl)
  outer-beside (inner {a = a} {b = b} r) =
      let far = frame.inside a b r in (
        both-alike (b + 2) 1 0 1 (λ e. absurd (omega (arith, e, far)))
            (λ e. absurd (omega (arith, e))),
        both-alike (b + 2) 11 0 1 (λ e. absurd (omega (arith, e, far)))
            (λ e. absurd (omega (arith, e))),
      )

  -- tests
  parameters-beside : {s t : Scope} → Beside R s t →
      (is_parameters t || is_wrapper t) ≡ (is_parameters s || is_wrapper s)
  parameters-beside top = refl
  parameters-beside wrapper = refl
  parameters-beside (inner {kind = kind} {a = a} {b = b} r) =
      ap₂ (λ (x : Bool) (y : Bool). x || y) (is_parameters-relocated (λ n. b) (Inner kind a))
      (is_wrapper-relocated (λ n. b) (Inner kind a))

  pub function-beside : {s t : Scope} → Beside R s t → is_function t ≡ is_function s
  function-beside top = refl
  function-beside wrapper = refl
  function-beside (inner {kind = kind} {a = a} {b = b} r) =
      is_function-relocated (λ n. b) (Inner kind a)

  -- takers
  taken-framed : (way : Way) {ss ts : List Scope} → Framed R ss ts → is_wrapper_way way ≡ false →
      is_some (nearest (from_taker way ss)) ≡ true →
      Framed R (from_taker way ss) (from_taker way ts)
  taken-framed ByImport outside own taken = absurd (false≢true (sym own))
  taken-framed ByVar outside own taken = outside
  taken-framed ByLet outside own taken = outside
  taken-framed ByConst outside own taken = outside
  taken-framed ByFunction outside own taken = outside
  taken-framed ByClass outside own taken = outside
  taken-framed ByDefault outside own taken = absurd (false≢true (sym own))
  taken-framed ByParameter outside own taken = absurd (false≢true taken)
  taken-framed ByCatch outside own taken = absurd (false≢true taken)
  taken-framed ByLoop outside own taken = absurd (false≢true taken)
  taken-framed ByFunctionName outside own taken = absurd (false≢true taken)
  taken-framed ByClassName outside own taken = absurd (false≢true taken)
  taken-framed ByWrapper outside own taken = absurd (false≢true (sym own))
  taken-framed way (within {kind = kind} {a = a} {b = b} {ss = ss} {ts = ts} r framed) own taken =
      subst (λ t. Framed R
      (cond (takes way (Inner kind a)) (Inner kind a ∷ ss) (from_taker way ss))
      (cond t (Inner kind b ∷ ts) (from_taker way ts)))
      (sym (takes-relocated (λ n. b) way (Inner kind a)))
      (by (takes way (Inner kind a)) taken (λ further. taken-framed way framed own further))
    where
      by : (t : Bool) → is_some (nearest (cond t (Inner kind a ∷ ss) (from_taker way ss))) ≡ true →
          (is_some (nearest (from_taker way ss)) ≡ true →
          Framed R (from_taker way ss) (from_taker way ts)) →
          Framed R (cond t (Inner kind a ∷ ss) (from_taker way ss))
          (cond t (Inner kind b ∷ ts) (from_taker way ts))
      by true is rest = within r framed
      by false is rest = rest is

  nearest-framed : {ss ts : List Scope} → Framed R ss ts → BothBeside R (nearest ss) (nearest ts)
  nearest-framed outside = both top
  nearest-framed (within r framed) = both (inner r)

  parameters-framed : {ss ts : List Scope} → Framed R ss ts →
      BothBeside R (parameters_of ss) (parameters_of ts)
  parameters-framed outside = both wrapper
  parameters-framed (within {kind = kind} {a = a} {b = b} {ss = ss} {ts = ts} r framed) =
      by_kind kind
    where
      by_kind : (kind : ScopeKind) →
          BothBeside R (parameters_of (Inner kind a ∷ ss)) (parameters_of (Inner kind b ∷ ts))
      by_kind FunctionBody = nearest-framed framed
      by_kind _ = neither

  first-framed : {ss ts : List Scope} → Framed R ss ts →
      Beside R (unwrap_or (nearest ss) Top) (unwrap_or (nearest ts) Top)
  first-framed outside = top
  first-framed (within r framed) = inner r

  seat : (d e : Declared) → IsSeatedPair R d e →
      Framed R (from_taker d.by d.scopes) (from_taker e.by e.scopes)
  seat d e s =
      subst (λ way. Framed R (from_taker d.by d.scopes) (from_taker way e.scopes)) (sym s.by)
      (taken-framed d.by s.scopes s.own s.taken)

  taker-beside : {d e : Declared} → DeclaredBeside R d e → Beside R (taker d) (taker e)
  taker-beside (of_wrapper place x) = wrapper
  taker-beside (of_body {d = d} {e = e} s) = first-framed (seat d e s)

  pub name-beside : {d e : Declared} → DeclaredBeside R d e → e.name ≡ d.name
  name-beside (of_wrapper place x) = refl
  name-beside (of_body s) = s.name

  cond-beside : (b c : Bool) → c ≡ b → {s t u v : Scope} → Beside R s t → Beside R u v →
      Beside R (cond b s u) (cond c t v)
  cond-beside b c e {s = s} {t = t} {u = u} {v = v} x y =
      subst (λ c. Beside R (cond b s u) (cond c t v)) (sym e) (by_test b)
    where
      by_test : (b : Bool) → Beside R (cond b s u) (cond b t v)
      by_test true = x
      by_test false = y

  -- tests over declarations
  any-beside : (p q : Declared → Bool) → ((d e : Declared) → DeclaredBeside R d e → q e ≡ p d) →
      {ds es : List Declared} → AllBeside R ds es → list_any q es ≡ list_any p ds
  any-beside p q same none = refl
  any-beside p q same (more {d = d} {e = e} one rest) =
      ap₂ (λ (a : Bool) (b : Bool). a || b) (same d e one) (any-beside p q same rest)

  none-beside : (q : Declared → Bool) → ((d e : Declared) → DeclaredBeside R d e → q e ≡ false) →
      {ds es : List Declared} → AllBeside R ds es → list_any q es ≡ false
  none-beside q same none = refl
  none-beside q same (more {d = d} {e = e} one rest) =
      ap₂ (λ (a : Bool) (b : Bool). a || b) (same d e one) (none-beside q same rest)

  parameter-beside : {s t : Scope} → Beside R s t → (name : Name) (d e : Declared) →
      DeclaredBeside R d e → is_parameter t name e ≡ is_parameter s name d
  parameter-beside x name d e one =
      let taken = taker-beside one in
      λ i. (parameters-beside taken i && same-beside taken x i)
      && names_agree (name-beside one i) name

  module _ {ds es : List Declared} (all : AllBeside R ds es) where
    -- HOMES
    pub home-beside : {d e : Declared} → DeclaredBeside R d e →
        Beside R (home_of ds d) (home_of es e)
    home-beside (of_wrapper place x) = wrapper
    home-beside (of_body {d = d} {e = e} s) =
        cond-beside (joins_parameter d.by) (joins_parameter e.by) (ap joins_parameter s.by)
        (by (parameters-framed (seat d e s)))
        (first-framed (seat d e s))
      where
        by : {p q : Option Scope} → BothBeside R p q →
            Beside R (home_beside ds d p) (home_beside es e q)
        by neither = first-framed (seat d e s)
        by (both {s = p} {t = q} x) =
            cond-beside (list_any (is_parameter p d.name) ds) (list_any (is_parameter q e.name) es)
            (ap (λ name. list_any (is_parameter q name) es) s.name
            ∙ any-beside (is_parameter p d.name) (is_parameter q d.name)
            (parameter-beside x d.name) all)
            x (first-framed (seat d e s))

    declared-beside : {s t : Scope} → Beside R s t → (name : Name) (d e : Declared) →
        DeclaredBeside R d e → is_declared_in es t name e ≡ is_declared_in ds s name d
    declared-beside x name d e one =
        λ i. same-beside (home-beside one) x i && names_agree (name-beside one i) name

    pub declares-beside : {s t : Scope} → Beside R s t → (name : Name) →
        declares es t name ≡ declares ds s name
    declares-beside {s = s} {t = t} x name =
        any-beside (is_declared_in ds s name) (is_declared_in es t name) (declared-beside x name)
        all

    pub binds-beside : {s t : Scope} → Beside R s t → (name : Name) →
        binds es t name ≡ binds ds s name
    binds-beside x name =
        λ i. declares-beside x name i
        || (is_arguments name.sym
        && (function-beside x i
        && not (declares-beside x (record { sym = codes "arguments"; ctxt = None }) i)))

    -- around the function nothing is bound
    pub declares-outer : (name : Name) →
        (declares es Top name ≡ false) × (declares es (Inner FunctionName 9) name ≡ false)
    declares-outer name = (
      none-beside (is_declared_in es Top name)
          (λ d e one. ap (λ b. b && names_agree e.name name) (outer-beside (home-beside one)).0)
          all,
      none-beside (is_declared_in es (Inner FunctionName 9) name)
          (λ d e one. ap (λ b. b && names_agree e.name name) (outer-beside (home-beside one)).1)
          all,
    )

    binds-outer : (name : Name) →
        (binds es Top name ≡ false) × (binds es (Inner FunctionName 9) name ≡ false)
    binds-outer name = (
      ap₂ (λ (a : Bool) (b : Bool). a || b) (declares-outer name).0
          (never (is_arguments name.sym)),
      ap₂ (λ (a : Bool) (b : Bool). a || b) (declares-outer name).1
          (never (is_arguments name.sym)),
    )
      where
        never : (b : Bool) → (b && false) ≡ false
        never true = refl
        never false = refl

    -- FOUND: the scope that binds a name
    pub found-beside : {ss ts : List Scope} → Framed R ss ts → (name : Name) →
        BothBeside R (find (λ s. binds ds s name) ss) (find (λ t. binds es t name) ts)
    found-beside outside name =
        subst (BothBeside R (find (λ s. binds ds s name) (Top ∷ Wrapper ∷ []))) (sym there)
        (by (binds ds Top name) (binds ds Wrapper name))
      where
        by : (a b : Bool) →
            BothBeside R (cond a (Some Top) (cond b (Some Wrapper) None))
            (cond a (Some (Inner FunctionBody 21)) (cond b (Some (Inner Parameters 10)) None))
        by true b = both top
        by false true = both wrapper
        by false false = neither

        there : find (λ t. binds es t name) (Inner FunctionBody 21 ∷ Inner Parameters 10
            ∷ Inner FunctionName 9 ∷ Top ∷ [])
            ≡ cond (binds ds Top name) (Some (Inner FunctionBody 21))
            (cond (binds ds Wrapper name) (Some (Inner Parameters 10)) None)
        there =
            λ i. cond (binds-beside top name i) (Some (Inner FunctionBody 21))
            (cond (binds-beside wrapper name i) (Some (Inner Parameters 10))
            (cond ((binds-outer name).1 i) (Some (Inner FunctionName 9))
            (cond ((binds-outer name).0 i) (Some Top) None)))
    found-beside (within {kind = kind} {a = a} {b = b} {ss = ss} {ts = ts} r framed) name =
        subst (λ t. BothBeside R
        (cond (binds ds (Inner kind a) name) (Some (Inner kind a))
        (find (λ s. binds ds s name) ss))
        (cond t (Some (Inner kind b)) (find (λ t. binds es t name) ts)))
        (sym (binds-beside (inner r) name))
        (by (binds ds (Inner kind a) name) (found-beside framed name))
      where
        by : (t : Bool) →
            BothBeside R (find (λ s. binds ds s name) ss) (find (λ t. binds es t name) ts) →
            BothBeside R (cond t (Some (Inner kind a)) (find (λ s. binds ds s name) ss))
            (cond t (Some (Inner kind b)) (find (λ t. binds es t name) ts))
        by true ih = both (inner r)
        by false ih = ih

-- ---- kept

-- each way but a module's is that of an identifier
own-identified : (way : Way) → is_wrapper_way way ≡ false → is_identified way ≡ true
own-identified ByImport own = absurd (false≢true (sym own))
own-identified ByDefault own = absurd (false≢true (sym own))
own-identified ByWrapper own = absurd (false≢true (sym own))
own-identified _ own = refl

-- what an identifier declares by its symbol, in the module and in the item
abbrev pub there_declared : Occurrence → Way → Declared
there_declared o way =
    record { place = o.place; name = plain o.sym; by = way; scopes = scopes_around Cjs o.path }

abbrev pub here_declared : Occurrence → List ℕ → Way → Declared
here_declared u x way =
    record { place = u.place; name = plain x; by = way; scopes = scopes_around Es u.path }

module _ (R : ℕ → ℕ → Type 0) (frame : IsFrame R) (g : Numbering) where
  abbrev f : Numbering
  f = moved_numbering frame.from g

  -- a binding in the item has the context of the one beside it
  pub numbers-beside : {s t : Scope} → Beside R s t → (x : List ℕ) →
      f (scope_order t) x ≡ g (scope_order s) x
  numbers-beside top x = refl
  numbers-beside wrapper x = refl
  numbers-beside (inner {a = a} {b = b} r) x =
      let far = frame.inside a b r in
      ap (λ t. cond t (g 1 x) (cond (b + 2 == 12) (g 0 x) (g (frame.from (b + 2 - 2) + 2) x)))
      (ne_eqb (b + 2) 23 (λ e. omega (arith, e, far)))
      ∙ (ap (λ t. cond t (g 0 x) (g (frame.from (b + 2 - 2) + 2) x))
      (ne_eqb (b + 2) 12 (λ e. omega (arith, e, far)))
      ∙ (let same : b + 2 - 2 ≡ b = omega arith in ap (λ n. g (frame.from n + 2) x) same
      ∙ ap (λ n. g (n + 2) x) (frame.back a b r)))

  identified-beside : {d e : Declared} → DeclaredBeside R d e → is_identified e.by ≡ true
  identified-beside (of_wrapper place x) = refl
  identified-beside (of_body {d = d} {e = e} s) =
      own-identified e.by (ap is_wrapper_way s.by ∙ s.own)

  -- each has its partner
  partner : {ds es : List Declared} → AllBeside R ds es → (i : ℕ) (e : Declared) →
      slice_get es i ≡ Some e → (d : Declared) × (slice_get ds i ≡ Some d) × DeclaredBeside R d e
  partner none i e at = absurd (none-some e at)
  partner (more {d = d} {e = first} one rest) zero e at =
      (d, refl, subst (DeclaredBeside R d) (same_Some first e at) one)
  partner (more one rest) (suc i) e at = partner rest i e at

  module _ {ds es : List Declared} (all : AllBeside R ds es) (plainly : Each IsBySymbol es) where
    identifiers : {some : List Declared} {its : List Declared} → AllBeside R some its →
        AllOf HasIdentifier (Rattle.std.specs.Prelude.map (lifted f es) its)
    identifiers none = tt
    identifiers (more {e = e} one rest) = (
      ap (λ b. is_some (cond b (Some (f (scope_order (home_of es e)) e.name.sym)) None))
          (identified-beside one),
      identifiers rest,
    )

    -- an identifier declares in the item what is declared in the module
    written-beside : {s t : Scope} → Beside R s t → (x : List ℕ) →
        is_written es t x ≡ declares ds s (plain x)
    written-beside {s = s} {t = t} x name = go all
      where
        one : (d e : Declared) → DeclaredBeside R d e →
            (is_identified e.by && (same_scope (home_of es e) t && bytes_eq e.name.sym name))
            ≡ is_declared_in ds s (plain name) d
        one d e b =
            ap (λ i. i && (same_scope (home_of es e) t && bytes_eq e.name.sym name))
            (identified-beside b)
            ∙ (ap₂ (λ (a : Bool) (c : Bool). a && c)
            (same-beside R frame (home-beside R frame all b) x)
            (ap (λ (n : Name). bytes_eq n.sym name) (name-beside R frame b))
            ∙ ap (λ c. same_scope (home_of ds d) s && c)
            (sym (names_agree-by_symbol d.name (plain name) refl)))

        go : {some its : List Declared} → AllBeside R some its →
            list_any (λ (e : Declared). is_identified e.by
            && (same_scope (home_of es e) t && bytes_eq e.name.sym name)) its
            ≡ list_any (is_declared_in ds s (plain name)) some
        go none = refl
        go (more {d = d} {e = e} b rest) =
            ap₂ (λ (a : Bool) (c : Bool). a || c) (one d e b) (go rest)

    -- an identifier that declares a name: what it declares in the module, by its symbol, and in
    -- the item
    pub record DeclaresOwn (o u : Occurrence) (way : Way) : Type 0 where
      pub beside : DeclaredBeside R (there_declared o way) (here_declared u o.sym way)
      pub declares_there : declaration_of BySymbol Cjs o ≡ Some (there_declared o way)
      pub declares_plainly : declaration_of BySymbol Es u ≡ Some (here_declared u o.sym way)
      pub declares_here : declaration_of ByContext Es u
          ≡ Some (record {
            place = u.place;
            name = with u.sym u.ctxt;
            by = way;
            scopes = scopes_around Es u.path;
          })
      pub denotes_there : denoted_of BySymbol Cjs ds o
          ≡ Bound (home_of ds (there_declared o way)) (plain o.sym)
      pub number : u.ctxt ≡ g (scope_order (home_of ds (there_declared o way))) o.sym
      pub lifts : record {
        place = u.place;
        name = with u.sym u.ctxt;
        by = way;
        scopes = scopes_around Es u.path;
      } ≡ lifted f es (here_declared u o.sym way)

    pub declares-own : (o u : Occurrence) → StandsBeside R o u → KeepsName g ds o u →
        ((d : Declared) → declaration_of BySymbol Cjs o ≡ Some d → IsDeclarationTaken d) → (way : Way) →
        is_binding o.role ≡ true → way_of o.path ≡ Some way → DeclaresOwn o u way
    declares-own o u stands keeps taken way role is =
        let there : declaration_of BySymbol Cjs o ≡ Some (there_declared o way) =
        ap (λ b. cond b (declared_by o.place (plain o.sym) (scopes_around Cjs o.path)
        (way_of o.path)) None) role
        ∙ ap (declared_by o.place (plain o.sym) (scopes_around Cjs o.path)) is in
        let role_here : is_binding u.role ≡ true = ap is_binding stands.role ∙ role in
        let way_here : way_of u.path ≡ Some way = stands.way ∙ is in
        let own : is_wrapper_way way ≡ false = stands.own way is in
        let beside : DeclaredBeside R (there_declared o way) (here_declared u o.sym way) =
        of_body (record {
          name = refl;
          by = refl;
          scopes = stands.scopes;
          own = own;
          taken = taken (there_declared o way) there;
        }) in
        let home = home-beside R frame all beside in
        let denotes : denoted_of BySymbol Cjs ds o
        ≡ Bound (home_of ds (there_declared o way)) (plain o.sym) =
        ap (own_or_found ds (denoted_by_symbol ds (scopes_around Cjs o.path) (plain o.sym)))
        there in
        let number : u.ctxt ≡ g (scope_order (home_of ds (there_declared o way))) o.sym =
        keeps.ctxt ∙ ap (context_of g) denotes in
        let known : is_identified way ≡ true = own-identified way own in
        record {
          beside = beside;
          declares_there = there;
          declares_plainly =
              ap (λ b. cond b (declared_by u.place (plain u.sym) (scopes_around Es u.path)
              (way_of u.path)) None) role_here
              ∙ (ap (declared_by u.place (plain u.sym) (scopes_around Es u.path)) way_here
              ∙ ap (λ x. Some (here_declared u x way)) keeps.symbol);
          declares_here =
              ap (λ b. cond b (declared_by u.place (with u.sym u.ctxt) (scopes_around Es u.path)
              (way_of u.path)) None) role_here
              ∙ ap (declared_by u.place (with u.sym u.ctxt) (scopes_around Es u.path)) way_here;
          denotes_there = denotes;
          number = number;
          lifts =
              λ i. record {
                place = u.place;
                name = record {
                  sym = keeps.symbol i;
                  ctxt = (ap Some (number ∙ sym (numbers-beside home o.sym))
                      ∙ ap (λ b. cond b (Some
                      (f (scope_order (home_of es (here_declared u o.sym way))) o.sym)) None)
                      (sym known)) i;
                };
                by = way;
                scopes = scopes_around Es u.path;
              };
        }

    -- FOUND: what a name denotes in the item
    module _ (load_sym : List ℕ) (load_ctxt : ℕ) where
      abbrev here : List Declared
      here = item_declared frame.from g load_sym load_ctxt es

      both-back : {p q : Option Scope} → BothBeside R p q → (t : Scope) → q ≡ Some t →
          (s : Scope) × (p ≡ Some s) × Beside R s t
      both-back neither t is = absurd (none-some t is)
      both-back (both {s = s} {t = u} x) t is = (s, refl, subst (Beside R s) (same_Some u t is) x)

      -- the context of what is found
      context-beside : (x : List ℕ) {p q : Option Scope} → BothBeside R p q →
          context_of g (bound_in (plain x) p) ≡ context_of f (bound_in (plain x) q)
      context-beside x neither = refl
      context-beside x (both b) = sym (numbers-beside b x)

      bound-beside : {s t : Scope} → Beside R s t → (x : List ℕ) →
          DenotedBeside R g ds (Bound s (plain x)) (given f es (Bound t (plain x)))
      bound-beside {s = s} {t = t} b x =
          subst (λ (c : Option ℕ). DenotedBeside R g ds (Bound s (plain x))
          (Bound t (record { sym = x; ctxt = c })))
          (λ i. cond (sym (written-beside b x) i) (Some (sym (numbers-beside b x) i)) None)
          (bindings b)

      given-beside : (x : List ℕ) {p q : Option Scope} → BothBeside R p q →
          DenotedBeside R g ds (bound_in (plain x) p) (given f es (bound_in (plain x) q))
      given-beside x neither = globals
      given-beside x (both b) = bound-beside b x

      -- what is declared in the item with this number is the one that is told apart
      apart-beside : (x : List ℕ) {s t : Scope} → Beside R s t → IsToldApart g ds s x →
          (other : Scope) → is_written es other x ≡ true →
          f (scope_order other) x ≡ f (scope_order t) x → scope_order other ≡ scope_order t
      apart-beside x {s = s} {t = t} b told other is numbers =
          let it = list_any-found (λ (e : Declared). is_identified e.by
          && (same_scope (home_of es e) other && bytes_eq e.name.sym x)) es is in
          let parts = and_parts (is_identified it.1.by) _ it.3 in
          let rest = and_parts (same_scope (home_of es it.1) other) _ parts.1 in
          let its = partner all it.0 it.1 it.2 in
          let home = home-beside R frame all its.2 in
          let order : scope_order (home_of es it.1) ≡ scope_order other =
          same_order (home_of es it.1) other rest.0 in
          let symbol : bytes_eq its.0.name.sym x ≡ true =
          ap (λ (n : Name). bytes_eq n.sym x) (sym (name-beside R frame its.2)) ∙ rest.1 in
          let declared : declares ds (home_of ds its.0) (plain x) ≡ true =
          list_any-here (is_declared_in ds (home_of ds its.0) (plain x)) ds it.0 its.0 its.1
          (and_from (same_scope (home_of ds its.0) (home_of ds its.0)) _
          (eq-eqb (scope_order (home_of ds its.0)) _ refl)
          (names_agree-by_symbol its.0.name (plain x) refl ∙ symbol)) in
          let same : scope_order (home_of ds its.0) ≡ scope_order s =
          told.apart (home_of ds its.0) declared (sym (numbers-beside home x)
          ∙ (ap (λ n. f n x) order ∙ (numbers ∙ numbers-beside b x))) in
          sym order
          ∙ eqb-true (scope_order (home_of es it.1)) (scope_order t) (same-beside R frame home b
          ∙ eq-eqb (scope_order (home_of ds its.0)) (scope_order s) same)

      pub reference-beside : {ss ts : List Scope} → Framed R ss ts → (x : List ℕ) →
          ((s : Scope) → find (λ s. binds ds s (plain x)) ss ≡ Some s → IsToldApart g ds s x) →
          (c : ℕ) → c ≡ context_of g (denoted_by_symbol ds ss (plain x)) →
          names_agree (with load_sym load_ctxt) (with x c) ≡ false →
          DenotedBeside R g ds (denoted_by_symbol ds ss (plain x))
          (denoted_by_context here ts (with x c))
      reference-beside {ss = ss} {ts = ts} framed x told c is other =
          let found = found-beside R frame all framed (plain x) in
          let p : Option Scope = find (λ s. binds ds s (plain x)) ss in
          let q : Option Scope = find (λ t. binds es t (plain x)) ts in
          subst (DenotedBeside R g ds (bound_in (plain x) p))
          (sym (reference-given f es plainly ts x q refl
          (λ t e. let back = both-back found t e in
          λ one. (told back.0 back.1).own (sym (numbers-beside back.2 x) ∙ one))
          (λ t u e written numbers. let back = both-back found t e in
          apart-beside x back.2 (told back.0 back.1) u written numbers))
          ∙ (ap (λ n. denoted_by_context (lift_all f es) ts (with x n))
          (sym (is ∙ context-beside x found))
          ∙ sym (denoted-added load_sym load_ctxt (lift_all f es) (identifiers all) (with x c)
          other ts)))
          (given-beside x found)

      -- KEPT: a name that is kept denotes in the item what it denoted in the module
      pub kept-beside : (o u : Occurrence) → StandsBeside R o u → KeepsName g ds o u →
          IsOccurrenceKnown ds o →
          ((s : Scope) → denoted_of BySymbol Cjs ds o ≡ Bound s (plain o.sym) →
          IsToldApart g ds s o.sym) →
          names_agree (with load_sym load_ctxt) (name_of ByContext u.sym u.ctxt) ≡ false →
          DenotedBeside R g ds (denoted_of BySymbol Cjs ds o) (denoted_of ByContext Es here u)
      kept-beside o u stands keeps known told other =
          go (is_binding o.role) refl (way_of o.path) refl
        where
          -- where nothing is declared
          refers : declaration_of BySymbol Cjs o ≡ None → declaration_of ByContext Es u ≡ None →
              DenotedBeside R g ds (denoted_of BySymbol Cjs ds o) (denoted_of ByContext Es here u)
          refers none_there none_here =
              let there : denoted_of BySymbol Cjs ds o
              ≡ denoted_by_symbol ds (scopes_around Cjs o.path) (plain o.sym) =
              ap (own_or_found ds
              (denoted_by_symbol ds (scopes_around Cjs o.path) (plain o.sym))) none_there in
              let its : denoted_of ByContext Es here u
              ≡ denoted_by_context here (scopes_around Es u.path) (with u.sym u.ctxt) =
              ap (own_or_found here
              (denoted_by_context here (scopes_around Es u.path) (with u.sym u.ctxt)))
              none_here in
              let named : denoted_by_context here (scopes_around Es u.path) (with u.sym u.ctxt)
              ≡ denoted_by_context here (scopes_around Es u.path) (with o.sym u.ctxt) =
              ap (λ x. denoted_by_context here (scopes_around Es u.path) (with x u.ctxt))
              keeps.symbol in
              let bound : DenotedBeside R g ds
              (denoted_by_symbol ds (scopes_around Cjs o.path) (plain o.sym))
              (denoted_by_context here (scopes_around Es u.path) (with o.sym u.ctxt)) =
              reference-beside stands.scopes o.sym
              (λ s e. told s (there ∙ ap (bound_in (plain o.sym)) e)) u.ctxt (keeps.ctxt
              ∙ ap (context_of g) there)
              (ap (λ x. names_agree (with load_sym load_ctxt) (with x u.ctxt))
              (sym keeps.symbol) ∙ other) in
              subst (λ d. DenotedBeside R g ds d (denoted_of ByContext Es here u)) (sym there)
              (subst (DenotedBeside R g ds
              (denoted_by_symbol ds (scopes_around Cjs o.path) (plain o.sym)))
              (sym (its ∙ named)) bound)

          -- where the identifier declares its name
          binds-own : (way : Way) → is_binding o.role ≡ true → way_of o.path ≡ Some way →
              DenotedBeside R g ds (denoted_of BySymbol Cjs ds o) (denoted_of ByContext Es here u)
          binds-own way role is =
              let d : Declared = there_declared o way in
              let e : Declared = here_declared u o.sym way in
              let its : Declared = record {
                place = u.place;
                name = with u.sym u.ctxt;
                by = way;
                scopes = scopes_around Es u.path;
              } in
              let mine = declares-own o u stands keeps (λ d there. (known d there).taken) way role
              is in
              let home : Beside R (home_of ds d) (home_of es e) =
              home-beside R frame all mine.beside in
              let home_here : home_of here its ≡ home_of es e =
              home-added load_sym load_ctxt (lift_all f es) its
              ∙ (ap (home_of (lift_all f es)) mine.lifts ∙ home-lifted f es e refl) in
              let denotes : denoted_of ByContext Es here u
              ≡ Bound (home_of here its) (with u.sym u.ctxt) =
              ap (own_or_found here
              (denoted_by_context here (scopes_around Es u.path) (with u.sym u.ctxt)))
              mine.declares_here in
              let place = known d mine.declares_there in
              let declared : declares ds (home_of ds d) (plain o.sym) ≡ true =
              list_any-here (is_declared_in ds (home_of ds d) (plain o.sym)) ds place.at d
              place.listed (and_from (same_scope (home_of ds d) (home_of ds d)) _
              (eq-eqb (scope_order (home_of ds d)) _ refl)
              (names_agree-by_symbol (plain o.sym) (plain o.sym) refl
              ∙ (bytes_eq-Decides o.sym o.sym).1 refl)) in
              let bound : DenotedBeside R g ds (Bound (home_of ds d) (plain o.sym))
              (Bound (home_of es e) (with o.sym u.ctxt)) =
              subst (λ (c : Option ℕ). DenotedBeside R g ds (Bound (home_of ds d) (plain o.sym))
              (Bound (home_of es e) (record { sym = o.sym; ctxt = c })))
              (ap (λ b. cond b (Some (g (scope_order (home_of ds d)) o.sym)) None) declared
              ∙ ap Some (sym mine.number)) (bindings home) in
              subst (λ it. DenotedBeside R g ds it (denoted_of ByContext Es here u))
              (sym mine.denotes_there)
              (subst (DenotedBeside R g ds (Bound (home_of ds d) (plain o.sym)))
              (sym (denotes ∙ (ap (λ h. Bound h (with u.sym u.ctxt)) home_here
              ∙ ap (λ x. Bound (home_of es e) (with x u.ctxt)) keeps.symbol))) bound)

          none_by : (b : Bool) → ◌≡◌ {A = Option Declared} (cond b None None) None
          none_by true = refl
          none_by false = refl

          go : (b : Bool) → is_binding o.role ≡ b → (w : Option Way) → way_of o.path ≡ w →
              DenotedBeside R g ds (denoted_of BySymbol Cjs ds o) (denoted_of ByContext Es here u)
          go true role (Some way) is = binds-own way role is
          go true role None is =
              refers (ap (λ w. cond (is_binding o.role)
              (declared_by o.place (plain o.sym) (scopes_around Cjs o.path) w) None) is
              ∙ none_by (is_binding o.role))
              (ap (λ w. cond (is_binding u.role)
              (declared_by u.place (with u.sym u.ctxt) (scopes_around Es u.path) w) None)
              (stands.way ∙ is) ∙ none_by (is_binding u.role))
          go false role w is =
              refers (ap (λ b. cond b
              (declared_by o.place (plain o.sym) (scopes_around Cjs o.path) (way_of o.path))
              None) role) (ap (λ b. cond b
              (declared_by u.place (with u.sym u.ctxt) (scopes_around Es u.path)
              (way_of u.path)) None) (ap is_binding stands.role ∙ role))

-- ---- one
module _ (R : ℕ → ℕ → Type 0) (frame : IsFrame R) (g : Numbering) (ds : List Declared) where
  abbrev its_context : Scope → List ℕ → Option ℕ
  its_context s x = cond (declares ds s (plain x)) (Some (g (scope_order s) x)) None

  pub context-same : (s u : Scope) (x : List ℕ) → scope_order s ≡ scope_order u →
      its_context s x ≡ its_context u x
  context-same s u x e =
      λ i. cond (list_any (λ (d : Declared). (scope_order (home_of ds d) == e i)
      && names_agree d.name (plain x)) ds) (Some (g (e i) x)) None

  -- ONE TO ONE
  pub denoted-one : (a b x y : Denoted) → DenotedBeside R g ds a x → DenotedBeside R g ds b y →
      same_denoted a b ≡ same_denoted x y
  denoted-one a b x y globals globals = refl
  denoted-one a b x y globals (bindings beside) = refl
  denoted-one a b x y (bindings beside) globals = refl
  denoted-one a b x y (bindings {s = s} {t = t} {x = m} first)
      (bindings {s = u} {t = v} {x = n} second) =
      by (same_scope s u) refl (bytes_eq m n) refl
      ∙ ap (λ q. q && bytes_eq m n && same_context (its_context s m) (its_context u n))
      (sym (same-beside R frame first second))
    where
      by : (q : Bool) → same_scope s u ≡ q → (r : Bool) → bytes_eq m n ≡ r →
          (same_scope s u && bytes_eq m n && true)
          ≡ (same_scope s u && bytes_eq m n
          && same_context (its_context s m) (its_context u n))
      by false e r name =
          ap (λ q. q && bytes_eq m n && true) e
          ∙ sym (ap (λ q. q && bytes_eq m n && same_context (its_context s m) (its_context u n)) e)
      by true e false name =
          ap (λ r. same_scope s u && r && true) name
          ∙ (none_of (same_scope s u) (same_context (its_context s m) (its_context u n))
          ∙ sym (ap (λ r. same_scope s u && r
          && same_context (its_context s m) (its_context u n)) name))
        where
          none_of : (p q : Bool) → (p && false && true) ≡ (p && false && q)
          none_of true q = refl
          none_of false q = refl
      by true e true name =
          let same : same_context (its_context s m) (its_context u n) ≡ true =
          ap (λ c. same_context (its_context s m) c)
          (sym (ap (its_context u) (same_symbol m n name))
          ∙ sym (context-same s u m (same_order s u e)))
          ∙ same_context-refl (its_context s m) in
          ap (λ t. same_scope s u && bytes_eq m n && t) (sym same)
