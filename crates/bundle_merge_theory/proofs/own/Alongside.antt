-- Names with the contexts of a numbering: what is declared, and what an identifier denotes.
-- What the names of a statement denote in what it becomes, by what they denote in its module.
use Rattle.std.proofs.Common.{◌≡◌, ◌≢◌, ℕ, zero, suc, true, cond, List, [], ◌∷◌, ◌++◌, Option, Some, None, option_map, filter_map, find, slice_get, refl, ap, sym, ◌∙◌, subst, ◌⊎◌, inl, inr, ◌+◌, ◌-◌, ◌==◌, Bool, false, map, arith, ne_eqb}
use Rattle.std.specs.List.{cons_option, AllZip}
use Rattle.std.proofs.lemmas.Option.{none-some, same_Some}
use Rattle.bundle_syntax.specs.Item.{Item}
use Rattle.bundle_rules.specs.Places.{Occurrence, is_binding}
use Rattle.bundle_rules.specs.Scopes.{Es, Scope, scope_order, scopes_around, ScopeKind, Top, Inner}
use Rattle.bundle_rules.specs.Declarations.{BySymbol, ByContext, name_of, Declared, declaration_of, Way, Name, declared_by, way_of}
use Rattle.bundle_rules.specs.Homes.{home_of, binds}
use Rattle.bundle_rules.specs.Denotes.{Bound, bound_in, denoted_by_symbol, denoted_by_context, denoted_in, own_or_found, denoted_of, Denoted, Global}
use Rattle.bundle_rules.specs.Idents.{Ident}
use Rattle.bundle_scope_names.proofs.Numbering.{Numbering, context_of, is_identified, lifted, lift_all, is_written, given}
use Rattle.bundle_scope_names.proofs.HomesLemmas.{Each, IsBySymbol, home-lifted}
use Rattle.bundle_scope_names.proofs.FoundLemmas.{plain, with, reference-given}
use Rattle.bundle_scope_names.proofs.TreeLemmas.{set_by, DeclaresOrNot, DoesNot, Does, declares_or_not, declaration_by_way, its_context, declaration-given, declared-written}
use Rattle.bundle_tree_rebuild.specs.Work.{Step}
use Rattle.bundle_merge_theory.specs.joined.Joined.{AllOf}
use Rattle.bundle_merge_theory.specs.joined.Alike.{ArePlacesOneToOne, ScopesAlike, tops, wrappers, inners, DeclaredAlike, DenotedAlike, bindings, globals}
use Rattle.bundle_merge_theory.proofs.joined.Groups.{home-alike, by_symbol-alike}
use Rattle.bundle_merge_theory.proofs.joined.Paths.{get-right, get-append, all-append, IsIn, IsDeclaredIn, IsOccurrenceIn}
use Rattle.bundle_merge_theory.proofs.joined.Denotes.{home-in}
use Rattle.bundle_merge_theory.proofs.joined.Declarations.{declared_by_names}
use Rattle.bundle_merge_theory.proofs.loaded.Noted.{picked}
use Rattle.bundle_merge_theory.specs.own.Beside.{Pairs, Paired, Rise, Below, origin, MadeOf, AllMade, done, made, added, IsFront, AreFront, no_front, one_front}
use Rattle.bundle_merge_theory.proofs.own.Pairs.{rises-from, below-all, one-to-one, origin-is}
use Rattle.bundle_merge_theory.proofs.own.Stated.{IsAway, IsDeclaredAway, IsPadded, pad-home, pad-binds, inner-found}

-- ---- lifted

-- what names declare by their symbols
abbrev pub declared_names : List Occurrence → List Declared
declared_names os = filter_map (declaration_of BySymbol Es) os

pub names-plain : (os : List Occurrence) → Each IsBySymbol (declared_names os)
names-plain [] = λ i d at. absurd (none-some d at)
names-plain (o ∷ os) = by (declares_or_not Es o) (names-plain os)
  where
    by : DeclaresOrNot Es o → Each IsBySymbol (declared_names os) →
        Each IsBySymbol (declared_names (o ∷ os))
    by (DoesNot never) rest =
        subst (λ d. Each IsBySymbol (cons_option d (declared_names os)))
        (sym (never BySymbol o.ctxt)) rest
    by (Does way known is later) rest =
        subst (λ d. Each IsBySymbol (cons_option d (declared_names os))) (sym is)
        (λ i d at. on i d at)
      where
        on : (i : ℕ) (d : Declared) →
            slice_get (declaration_by_way Es o way ∷ declared_names os) i ≡ Some d → IsBySymbol d
        on zero d at = ap (λ (e : Declared). e.name.ctxt) (sym (same_Some _ d at))
        on (suc i) d at = rest i d at

pub names-known : (os : List Occurrence) → Each (λ d. is_identified d.by ≡ true) (declared_names os)
names-known [] = λ i d at. absurd (none-some d at)
names-known (o ∷ os) = by (declares_or_not Es o) (names-known os)
  where
    by : DeclaresOrNot Es o → Each (λ d. is_identified d.by ≡ true) (declared_names os) →
        Each (λ d. is_identified d.by ≡ true) (declared_names (o ∷ os))
    by (DoesNot never) rest =
        subst (λ d. Each (λ d. is_identified d.by ≡ true) (cons_option d (declared_names os)))
        (sym (never BySymbol o.ctxt)) rest
    by (Does way known is later) rest =
        subst (λ d. Each (λ d. is_identified d.by ≡ true) (cons_option d (declared_names os)))
        (sym is) (λ i d at. on i d at)
      where
        on : (i : ℕ) (d : Declared) →
            slice_get (declaration_by_way Es o way ∷ declared_names os) i ≡ Some d → is_identified
            d.by ≡ true
        on zero d at = ap (λ (e : Declared). is_identified e.by) (sym (same_Some _ d at)) ∙ known
        on (suc i) d at = rest i d at

-- lists of what a function tells, if it does

pub told-at : {A B : Type 0} (f : A → Option B) (xs : List A) (i : ℕ) (x : A) (y : B) →
    slice_get xs i ≡ Some x → f x ≡ Some y → (j : ℕ) × (slice_get (filter_map f xs) j ≡ Some y)
told-at f [] i x y at is = absurd (none-some x at)
told-at {B = B} f (a ∷ xs) zero x y at is =
    (0, ap (λ o. slice_get (cons_option o (filter_map f xs)) 0) (ap f (same_Some a x at) ∙ is))
told-at {B = B} f (a ∷ xs) (suc i) x y at is = by (f a) (told-at f xs i x y at is)
  where
    by : (o : Option B) → (j : ℕ) × (slice_get (filter_map f xs) j ≡ Some y) →
        (j : ℕ) × (slice_get (cons_option o (filter_map f xs)) j ≡ Some y)
    by None it = it
    by (Some b) it = (suc it.0, it.1)

pub told-append : {A B : Type 0} (f : A → Option B) (xs ys : List A) →
    filter_map f (xs ++ ys) ≡ filter_map f xs ++ filter_map f ys
told-append f [] ys = refl
told-append {B = B} f (x ∷ xs) ys = by (f x) (told-append f xs ys)
  where
    by : (o : Option B) → filter_map f (xs ++ ys) ≡ filter_map f xs ++ filter_map f ys →
        cons_option o (filter_map f (xs ++ ys)) ≡ cons_option o (filter_map f xs) ++ filter_map f ys
    by None is = is
    by (Some b) is = ap (λ l. b ∷ l) is

-- an identifier that has the context of what it denotes by its symbol
pub set-itself : (f : Numbering) (all : List Declared) (o : Occurrence) →
    o.ctxt ≡ its_context f Es all o → set_by (its_context f Es all) o ≡ o
set-itself f all o is = ap (λ c. record o { ctxt = c }) (sym is)

-- GIVEN: as `denoted-given` of bundle_scope_names, for any list
pub denotes-given : (f : Numbering) (all : List Declared) → Each IsBySymbol all →
    (o : Occurrence) → o.ctxt ≡ its_context f Es all o →
    ((d : Declared) → declaration_of BySymbol Es o ≡ Some d → (i : ℕ) ×
    (slice_get all i ≡ Some d)) →
    ((s : Scope) → denoted_of BySymbol Es all o ≡ Bound s (plain o.sym) →
    f (scope_order s) o.sym ≢ 1) →
    ((s t : Scope) → denoted_of BySymbol Es all o ≡ Bound s (plain o.sym) →
    is_written all t o.sym ≡ true → f (scope_order t) o.sym ≡ f (scope_order s) o.sym →
    scope_order t ≡ scope_order s) →
    denoted_of ByContext Es (lift_all f all) o ≡ given f all (denoted_of BySymbol Es all o)
denotes-given f all plainly o number listed own apart =
    ap (denoted_of ByContext Es (lift_all f all)) (sym (set-itself f all o number))
    ∙ by_cases (declares_or_not Es o)
  where
    by_cases : DeclaresOrNot Es o →
        denoted_of ByContext Es (lift_all f all) (set_by (its_context f Es all) o)
        ≡ given f all (denoted_of BySymbol Es all o)
    by_cases (Does way known is later) =
        let d : Declared = declaration_by_way Es o way in
        let out : List Scope = scopes_around Es o.path in
        let denotes : denoted_of BySymbol Es all o ≡ Bound (home_of all d) d.name =
        ap (own_or_found all (denoted_in BySymbol all out (name_of BySymbol o.sym o.ctxt))) is in
        let there = listed d is in
        ap
        (own_or_found (lift_all f all)
        (denoted_in ByContext (lift_all f all) out
        (name_of ByContext o.sym (its_context f Es all o))))
        (declaration-given f Es all o ∙ ap (option_map (lifted f all)) is)
        ∙ ap (λ home. Bound home (lifted f all d).name) (home-lifted f all d refl)
        ∙ ap
        (λ b. Bound (home_of all d)
        (record { sym = o.sym; ctxt = cond b (Some (f (scope_order (home_of all d)) o.sym)) None }))
        (known ∙ sym (declared-written all there.0 d there.1 known))
        ∙ sym (ap (given f all) denotes)
    by_cases (DoesNot never) =
        let out : List Scope = scopes_around Es o.path in
        let denotes : denoted_of BySymbol Es all o ≡ denoted_by_symbol all out (plain o.sym) =
        ap (own_or_found all (denoted_in BySymbol all out (name_of BySymbol o.sym o.ctxt)))
        (never BySymbol o.ctxt) in
        ap
        (own_or_found (lift_all f all)
        (denoted_in ByContext (lift_all f all) out
        (name_of ByContext o.sym (its_context f Es all o))))
        (never ByContext (its_context f Es all o))
        ∙ ap (λ x. denoted_by_context (lift_all f all) out (with o.sym (context_of f x))) denotes
        ∙ reference-given f all plainly out o.sym (find (λ s. binds all s (plain o.sym)) out) refl
        (λ s e. own s (denotes ∙ ap (bound_in (plain o.sym)) e))
        (λ s t e. apart s t (denotes ∙ ap (bound_in (plain o.sym)) e))
        ∙ sym (ap (given f all) denotes)

-- ---- alongside

-- the contexts of the bindings of what is made, by those of the module
abbrev pub its_numbering : Pairs → Numbering → Numbering
its_numbering its g n x =
    cond (n == 0) (g 0 x) (cond (n == 1) (g 1 x) (g (origin its (n - 2) + 2) x))

-- an identifier that binds is declared
abbrev pub HasWay : Occurrence → Type 0
HasWay o = is_binding o.role ≡ true → (w : Way) × (way_of o.path ≡ Some w)

-- an identifier that binds keeps its symbol, with the context of its binding
abbrev pub KeepsBinding : Numbering → List Declared → Occurrence → Step → Type 0
KeepsBinding g ds o step =
    is_binding o.role ≡ true → step.ident ≡ (o.sym, context_of g (denoted_of BySymbol Es ds o))

-- what is so of a statement of a module, whose names these are, where these are all declarations
-- of the module
pub record IsAlongside (ds : List Declared) (g : Numbering) (low high last : ℕ) (its : Pairs)
    (meta : Option Ident) (default : Ident) (given : List Item)
    (os : List Occurrence) (steps : List Step) (front rest : List Occurrence) : Type 0 where
  pub rise : Rise low 1 its
  pub below : Below high last its
  pub within : Each (IsOccurrenceIn low high) os
  pub declared : Each (λ o. (d : Declared) → declaration_of BySymbol Es o ≡ Some d →
      (i : ℕ) × (slice_get ds i ≡ Some d)) os
  pub only : Each (λ d. IsDeclaredAway low high d
      ⊎ ((i : ℕ) × (o : Occurrence) × (slice_get os i ≡ Some o)
      × (declaration_of BySymbol Es o ≡ Some d))) ds
  pub ways : AllOf HasWay os
  pub all : AllMade (Paired its) meta os steps rest
  pub keeps : AllZip (KeepsBinding g ds) os steps
  pub are_front : AreFront default given front
  pub default_is : default.1 ≡ g 1 default.0

-- whether a name declares
pub declares-it : (o : Occurrence) (w : Way) → is_binding o.role ≡ true → way_of o.path ≡ Some w →
    declaration_of BySymbol Es o ≡ Some (declaration_by_way Es o w)
declares-it o w binds is =
    ap (λ b. cond b (declared_by o.place (plain o.sym) (scopes_around Es o.path) (way_of o.path))
    None) binds
    ∙ ap (declared_by o.place (plain o.sym) (scopes_around Es o.path)) is

pub refers-none : (o : Occurrence) → is_binding o.role ≡ false → declaration_of BySymbol Es o ≡ None
refers-none o refers =
    ap (λ b. cond b (declared_by o.place (plain o.sym) (scopes_around Es o.path) (way_of o.path))
    None) refers

-- scopes alike
alike-inner : (R : ℕ → ℕ → Type 0) {s t : Scope} → ScopesAlike R s t → (kind : ScopeKind) (a : ℕ) →
    s ≡ Inner kind a → (b : ℕ) × R a b × (t ≡ Inner kind b)
alike-inner R tops kind a is = absurd cc
alike-inner R wrappers kind a is = absurd cc
alike-inner R (inners {kind = its} {a = c} {b = b} r) kind a is =
    let places : c ≡ a = ap place_of is in
    let kinds : its ≡ kind = ap kind_of is in
    (b, subst (λ n. R n b) places r, ap (λ k. Inner k b) kinds)
  where
    place_of : Scope → ℕ
    place_of (Inner k n) = n
    place_of s = 0

    kind_of : Scope → ScopeKind
    kind_of (Inner k n) = k
    kind_of s = kind

alike-bound : (R : ℕ → ℕ → Type 0) {d e : Denoted} → DenotedAlike R d e → (kind : ScopeKind) (a : ℕ)
    (name : Name) → d ≡ Bound (Inner kind a) name →
    (b : ℕ) × R a b × (e ≡ Bound (Inner kind b) name)
alike-bound R (bindings {t = t} {name = its} scopes) kind a name is =
    let it = alike-inner R scopes kind a (ap scope_of is) in
    let names : its ≡ name = ap name_of_it is in
    (it.0, it.1, λ i. Bound (it.2 i) (names i))
  where
    scope_of : Denoted → Scope
    scope_of (Bound s n) = s
    scope_of (Global x) = Top

    name_of_it : Denoted → Name
    name_of_it (Bound s n) = n
    name_of_it (Global x) = name
alike-bound R globals kind a name is = absurd cc

bound-found : (name : Name) (o : Option Scope) (s : Scope) (its : Name) →
    bound_in name o ≡ Bound s its → o ≡ Some s
bound-found name None s its is = absurd cc
bound-found name (Some t) s its is = ap Some (ap scope_of is)
  where
    scope_of : Denoted → Scope
    scope_of (Bound s n) = s
    scope_of (Global x) = Top

module _ (ds : List Declared) (g : Numbering) (low high last : ℕ) (its : Pairs)
    (meta : Option Ident) (default : Ident) (given_items : List Item)
    (os : List Occurrence) (steps : List Step) (front rest : List Occurrence)
    (along : IsAlongside ds g low high last its meta default given_items os steps front rest) where
  abbrev R : ℕ → ℕ → Type 0
  R = Paired its

  abbrev f : Numbering
  f = its_numbering its g

  abbrev dz : List Declared
  dz = declared_names os

  abbrev ez : List Declared
  ez = declared_names rest

  abbrev us : List Occurrence
  us = front ++ rest

  abbrev es : List Declared
  es = declared_names us

  pub one : ArePlacesOneToOne R
  one = one-to-one low 1 its along.rise

  -- NUMBERS
  pub numbers-alike : {s t : Scope} → ScopesAlike R s t → (x : List ℕ) →
      f (scope_order t) x ≡ g (scope_order s) x
  numbers-alike tops x = refl
  numbers-alike wrappers x = refl
  numbers-alike (inners {a = a} {b = b} r) x =
      ap (λ t. cond t (g 0 x) (cond (b + 2 == 1) (g 1 x) (g (origin its (b + 2 - 2) + 2) x)))
      (ne_eqb (b + 2) 0 (λ e. omega (arith, e)))
      ∙ ap (λ t. cond t (g 1 x) (g (origin its (b + 2 - 2) + 2) x))
      (ne_eqb (b + 2) 1 (λ e. omega (arith, e)))
      ∙ (let same : b + 2 - 2 ≡ b = omega arith in ap (λ n. g (origin its n + 2) x) same)
      ∙ ap (λ n. g (n + 2) x) (origin-is low 1 its along.rise a b r)

  -- scopes of what is made are in its range
  alike-within : (ss ts : List Scope) → AllZip (ScopesAlike R) ss ts → AllOf (IsIn low high) ss →
      AllOf (IsIn 1 last) ts
  alike-within [] [] z all = tt
  alike-within [] (t ∷ ts) z all = absurd z
  alike-within (s ∷ ss) [] z all = absurd z
  alike-within (s ∷ ss) (t ∷ ts) z all = (by z.0 all.0, alike-within ss ts z.1 all.1)
    where
      by : {s t : Scope} → ScopesAlike R s t → IsIn low high s → IsIn 1 last t
      by tops is = tt
      by wrappers is = is
      by (inners {a = a} {b = b} r) is =
          ((rises-from low 1 its along.rise a b r).1, (below-all high last its along.below a b r).1)

  -- DECLARED alike, in turn
  declared-zip : {os rest : List Occurrence} {steps : List Step} → AllMade R meta os steps rest →
      AllOf HasWay os → AllZip (KeepsBinding g ds) os steps →
      AllZip (DeclaredAlike R) (declared_names os) (declared_names rest)
  declared-zip done ways keeps = tt
  declared-zip (added {u = u} {os = os} {us = us} refers is more) ways keeps =
      subst (λ e. AllZip (DeclaredAlike R) (declared_names os) (cons_option e (declared_names us)))
      (sym (refers-none u refers)) (declared-zip more ways keeps)
  declared-zip (made {o = o} {u = u} {step = step} {os = os} {us = us} it more) ways keeps =
      by (is_binding o.role) refl (declared-zip more ways.1 keeps.1)
    where
      by : (b : Bool) → is_binding o.role ≡ b →
          AllZip (DeclaredAlike R) (declared_names os) (declared_names us) →
          AllZip (DeclaredAlike R) (declared_names (o ∷ os)) (declared_names (u ∷ us))
      by false role behind =
          subst (λ d. AllZip (DeclaredAlike R) (cons_option d (declared_names os))
          (declared_names (u ∷ us)))
          (sym (refers-none o role))
          (subst (λ e. AllZip (DeclaredAlike R) (declared_names os)
          (cons_option e (declared_names us)))
          (sym (refers-none u (ap is_binding it.role ∙ role))) behind)
      by true role behind =
          let way = ways.0 role in
          subst (λ d. AllZip (DeclaredAlike R) (cons_option d (declared_names os))
          (declared_names (u ∷ us)))
          (sym (declares-it o way.0 role way.1))
          (subst (λ e. AllZip (DeclaredAlike R) (declaration_by_way Es o way.0 ∷ declared_names os)
          (cons_option e (declared_names us)))
          (sym (declares-it u way.0 (ap is_binding it.role ∙ role) (it.way way.0 role way.1))) (
            record {
              name = ap plain (ap (λ (i : Ident). i.0) (it.ident ∙ keeps.0 role));
              by = refl;
              scopes = it.scopes;
            },
            behind,
          ))

  pub zipped : AllZip (DeclaredAlike R) dz ez
  zipped = declared-zip along.all along.ways along.keeps

  -- PADDED on both sides
  declared-scopes : (o : Occurrence) (d : Declared) → declaration_of BySymbol Es o ≡ Some d →
      d.scopes ≡ scopes_around Es o.path
  declared-scopes o d is = by (declares_or_not Es o)
    where
      by : DeclaresOrNot Es o → d.scopes ≡ scopes_around Es o.path
      by (DoesNot never) = absurd (none-some d (sym (never BySymbol o.ctxt) ∙ is))
      by (Does way known here later) =
          ap (λ (e : Declared). e.scopes) (sym (same_Some _ d (sym here ∙ is)))

  pub pad-there : IsPadded low high ds dz
  pad-there = record {
    there = λ i d at.
        let it = picked (declaration_of BySymbol Es) os i d at in
        along.declared it.0 it.1 it.2 d it.3;
    only = λ i d at. by d (along.only i d at);
    within = λ i d at.
        let it = picked (declaration_of BySymbol Es) os i d at in
        subst (AllOf (IsIn low high)) (sym (declared-scopes it.1 d it.3))
        (along.within it.0 it.1 it.2);
  }
    where
      by : (d : Declared) → IsDeclaredAway low high d
          ⊎ ((i : ℕ) × (o : Occurrence) × (slice_get os i ≡ Some o)
          × (declaration_of BySymbol Es o ≡ Some d)) →
          IsDeclaredAway low high d ⊎ ((i : ℕ) × (slice_get dz i ≡ Some d))
      by d (inl away) = inl away
      by d (inr there) =
          inr (told-at (declaration_of BySymbol Es) os there.0 there.1 d there.2 there.3)

  -- the name of a default in front

  front-declares : (u : Occurrence) → (it : IsFront default u) →
      declaration_of BySymbol Es u ≡ Some (declaration_by_way Es u it.way)
  front-declares u it = declares-it u it.way (ap is_binding it.role) it.way_is

  front-away : (i : ℕ) (d : Declared) → slice_get (declared_names front) i ≡ Some d →
      IsDeclaredAway 1 last d
  front-away i d at =
      let it = picked (declaration_of BySymbol Es) front i d at in
      by along.are_front it.0 it.1 it.2 it.3
    where
      by : {its : List Occurrence} → AreFront default given_items its → (i : ℕ) (u : Occurrence) →
          slice_get its i ≡ Some u → declaration_of BySymbol Es u ≡ Some d → IsDeclaredAway 1 last d
      by (no_front none) i u there is = absurd (none-some u there)
      by (one_front {u = v} has it) zero u there is =
          subst (λ (e : Declared). IsDeclaredAway 1 last e)
          (same_Some _ d (sym (front-declares v it) ∙ ap (declaration_of BySymbol Es)
          (same_Some v u there) ∙ is))
          (subst (AllOf (IsAway 1 last)) (sym it.scopes) (tt, tt))
      by (one_front has it) (suc i) u there is = absurd (none-some u there)

  made-within : {os rest : List Occurrence} {steps : List Step} → AllMade R meta os steps rest →
      AllOf (IsOccurrenceIn low high) os →
      AllOf (λ u. (d : Declared) → declaration_of BySymbol Es u ≡ Some d → IsDeclaredIn 1 last d)
      rest
  made-within done within = tt
  made-within (made {o = o} {u = u} it more) within = (
    λ d is.
        subst (AllOf (IsIn 1 last)) (sym (declared-scopes u d is))
        (alike-within (scopes_around Es o.path) (scopes_around Es u.path) it.scopes within.0),
    made-within more within.1,
  )
  made-within (added {u = u} refers is more) within =
      (λ d its. absurd (none-some d (sym (refers-none u refers) ∙ its)), made-within more within)

  all-each : {A : Type 0} (P : A → Type 0) (xs : List A) → Each P xs → AllOf P xs
  all-each P [] each = tt
  all-each P (x ∷ xs) each = (each 0 x refl, all-each P xs (λ i y at. each (suc i) y at))

  each-all : {A : Type 0} (P : A → Type 0) (xs : List A) → AllOf P xs → Each P xs
  each-all P [] all = λ i x at. absurd (none-some x at)
  each-all {A = A} P (y ∷ ys) all = λ i x at. by i x at (each-all P ys all.1)
    where
      by : (i : ℕ) (x : A) → slice_get (y ∷ ys) i ≡ Some x → Each P ys → P x
      by zero x at rest = subst P (same_Some y x at) all.0
      by (suc i) x at rest = rest i x at

  es-are : es ≡ declared_names front ++ ez
  es-are = told-append (declaration_of BySymbol Es) front rest

  pub pad-here : IsPadded 1 last es ez
  pad-here = record {
    there = λ i d at.
        let it = get-right (declared_names front) ez i d at in
        (it.0, ap (λ l. slice_get l it.0) es-are ∙ it.1);
    only = λ i d at.
        by i d (get-append (declared_names front) ez i d
        (ap (λ l. slice_get l i) (sym es-are) ∙ at));
    within = λ i d at.
        let it = picked (declaration_of BySymbol Es) rest i d at in
        each-all (λ u. (d : Declared) → declaration_of BySymbol Es u ≡ Some d → IsDeclaredIn 1 last
        d) rest
        (made-within along.all (all-each (IsOccurrenceIn low high) os along.within)) it.0 it.1 it.2
        d it.3;
  }
    where
      by : (i : ℕ) (d : Declared) →
          (slice_get (declared_names front) i ≡ Some d) ⊎ ((j : ℕ) × (slice_get ez j ≡ Some d)) →
          IsDeclaredAway 1 last d ⊎ ((j : ℕ) × (slice_get ez j ≡ Some d))
      by i d (inl at) = inl (front-away i d at)
      by i d (inr at) = inr at

  -- HOMES
  pub home-made : (o u : Occurrence) (step : Step) (w : Way) → MadeOf R o u step →
      u.sym ≡ o.sym → IsOccurrenceIn low high o →
      ScopesAlike R (home_of ds (declaration_by_way Es o w))
      (home_of es (declaration_by_way Es u w))
  home-made o u step w it same within =
      let d : Declared = declaration_by_way Es o w in
      let e : Declared = declaration_by_way Es u w in
      subst (λ s. ScopesAlike R s (home_of es e)) (sym (pad-home low high ds dz pad-there d within))
      (subst (λ t. ScopesAlike R (home_of dz d) t)
      (sym (pad-home 1 last es ez pad-here e
      (alike-within (scopes_around Es o.path) (scopes_around Es u.path) it.scopes within)))
      (home-alike R one dz ez zipped d e
      (record { name = ap plain same; by = refl; scopes = it.scopes })))

  -- what a name denotes that declares it
  pub declared-denotes : (all : List Declared) (o : Occurrence) (w : Way) →
      is_binding o.role ≡ true → way_of o.path ≡ Some w →
      denoted_of BySymbol Es all o ≡ Bound (home_of all (declaration_by_way Es o w)) (plain o.sym)
  declared-denotes all o w binds is =
      ap (own_or_found all (denoted_in BySymbol all (scopes_around Es o.path)
      (name_of BySymbol o.sym o.ctxt)))
      (declares-it o w binds is)

  pub refers-denotes : (all : List Declared) (o : Occurrence) → is_binding o.role ≡ false →
      denoted_of BySymbol Es all o ≡ denoted_by_symbol all (scopes_around Es o.path) (plain o.sym)
  refers-denotes all o refers =
      ap (own_or_found all (denoted_in BySymbol all (scopes_around Es o.path)
      (name_of BySymbol o.sym o.ctxt)))
      (refers-none o refers)

  -- LIFTED: what is declared, by symbols and contexts
  abbrev lifted-at : Occurrence → Type 0
  lifted-at u = declaration_of ByContext Es u ≡ option_map (lifted f es)
      (declaration_of BySymbol Es u)

  its-lifted : (u : Occurrence) → u.ctxt ≡ its_context f Es es u → lifted-at u
  its-lifted u is =
      ap (declaration_of ByContext Es) (sym (set-itself f es u is)) ∙ declaration-given f Es es u

  lifted-refers : (u : Occurrence) → is_binding u.role ≡ false → lifted-at u
  lifted-refers u refers =
      ap (λ b. cond b (declared_by u.place (name_of ByContext u.sym u.ctxt)
      (scopes_around Es u.path) (way_of u.path)) None) refers
      ∙ sym (ap (option_map (lifted f es)) (refers-none u refers))

  -- what is known of each name of the statement
  pub record IsKnownName (o : Occurrence) : Type 0 where
    pub way : HasWay o
    pub within : IsOccurrenceIn low high o
    pub at : ℕ
    pub there : slice_get os at ≡ Some o

  pub known-names : AllOf IsKnownName os
  known-names =
      all-each IsKnownName os
      (λ i o at. record {
        way = each-all HasWay os along.ways i o at;
        within = along.within i o at;
        at = i;
        there = at;
      })

  -- a name that binds has the context of its binding
  made-number : (o u : Occurrence) (step : Step) → IsKnownName o → MadeOf R o u step →
      KeepsBinding g ds o step → is_binding o.role ≡ true → u.ctxt ≡ its_context f Es es u
  made-number o u step known it keeps binds =
      let way = known.way binds in
      let kept = it.ident ∙ keeps binds in
      let same : u.sym ≡ o.sym = ap (λ (i : Ident). i.0) kept in
      let home = home-made o u step way.0 it same known.within in
      ap (λ (i : Ident). i.1) kept
      ∙ ap (context_of g) (declared-denotes ds o way.0 binds way.1)
      ∙ sym (numbers-alike home o.sym)
      ∙ ap (f (scope_order (home_of es (declaration_by_way Es u way.0)))) (sym same)
      ∙ sym (ap (context_of f) (declared-denotes es u way.0 (ap is_binding it.role ∙ binds)
      (it.way way.0 binds way.1)))

  lifted-rest : {some its : List Occurrence} {by : List Step} → AllMade R meta some by its →
      AllOf IsKnownName some → AllZip (KeepsBinding g ds) some by → AllOf lifted-at its
  lifted-rest done known keeps = tt
  lifted-rest (added {u = u} refers is more) known keeps =
      (lifted-refers u refers, lifted-rest more known keeps)
  lifted-rest (made {o = o} {u = u} {step = step} it more) known keeps =
      (on (is_binding o.role) refl, lifted-rest more known.1 keeps.1)
    where
      on : (b : Bool) → is_binding o.role ≡ b → lifted-at u
      on true binds = its-lifted u (made-number o u step known.0 it keeps.0 binds)
      on false refers = lifted-refers u (ap is_binding it.role ∙ refers)

  front-home : (all : List Declared) (u : Occurrence) (it : IsFront default u) →
      home_of all (declaration_by_way Es u it.way) ≡ Top
  front-home all u it =
      subst (λ scopes. home_of all (record
      { place = u.place; name = plain u.sym; by = it.way; scopes = scopes }) ≡ Top)
      (sym it.scopes) (it.home all u.place (plain u.sym))

  lifted-front : {its : List Occurrence} → AreFront default given_items its → AllOf lifted-at its
  lifted-front (no_front none) = tt
  lifted-front (one_front {u = u} has it) = (
    its-lifted u
        (ap (λ (i : Ident). i.1) it.ident
        ∙ along.default_is
        ∙ ap (g 1) (sym (ap (λ (i : Ident). i.0) it.ident))
        ∙ sym (ap (context_of f) (declared-denotes es u it.way (ap is_binding it.role) it.way_is)
        ∙ ap (λ s. f (scope_order s) u.sym) (front-home es u it))),
    tt,
  )

  told-map : {X : Type 0} (k its_k : X → Option Declared) (change : Declared → Declared)
      (xs : List X) → AllOf (λ x. its_k x ≡ option_map change (k x)) xs →
      filter_map its_k xs ≡ map change (filter_map k xs)
  told-map k its_k change [] all = refl
  told-map k its_k change (x ∷ xs) all =
      ap (λ o. cons_option o (filter_map its_k xs)) all.0
      ∙ ap (cons_option (option_map change (k x))) (told-map k its_k change xs all.1)
      ∙ by (k x)
    where
      by : (o : Option Declared) →
          cons_option (option_map change o) (map change (filter_map k xs))
          ≡ map change (cons_option o (filter_map k xs))
      by None = refl
      by (Some d) = refl

  pub lifts : declared_by_names us ≡ lift_all f es
  lifts =
      told-map (declaration_of BySymbol Es) (declaration_of ByContext Es) (lifted f es) us
      (all-append lifted-at front rest (lifted-front along.are_front)
      (lifted-rest along.all known-names along.keeps))

  -- INSIDE: what denotes an inner binding
  pub record InsideMade (o u : Occurrence) (kind : ScopeKind) (a : ℕ) : Type 0 where
    pub b : ℕ
    pub goes : R a b
    pub denotes : denoted_of BySymbol Es es u ≡ Bound (Inner kind b) (plain u.sym)

  pub inside-made : (o u : Occurrence) (step : Step) → IsKnownName o → MadeOf R o u step →
      u.sym ≡ o.sym → (kind : ScopeKind) (a : ℕ) →
      denoted_of BySymbol Es ds o ≡ Bound (Inner kind a) (plain o.sym) → InsideMade o u kind a
  inside-made o u step known it same kind a is = on (is_binding o.role) refl
    where
      scope_of : Denoted → Scope
      scope_of (Bound s n) = s
      scope_of (Global x) = Top

      its_within : AllOf (IsIn 1 last) (scopes_around Es u.path)
      its_within = alike-within (scopes_around Es o.path) (scopes_around Es u.path) it.scopes
          known.within

      on : (b : Bool) → is_binding o.role ≡ b → InsideMade o u kind a
      on true binds =
          let way = known.way binds in
          let home : home_of ds (declaration_by_way Es o way.0) ≡ Inner kind a =
          ap scope_of (sym (declared-denotes ds o way.0 binds way.1) ∙ is) in
          let there = alike-inner R (home-made o u step way.0 it same known.within) kind a home in
          record {
            b = there.0;
            goes = there.1;
            denotes =
                declared-denotes es u way.0 (ap is_binding it.role ∙ binds)
                (it.way way.0 binds way.1)
                ∙ ap (λ s. Bound s (plain u.sym)) there.2;
          }
      on false refers =
          let found : find (λ s. binds ds s (plain o.sym)) (scopes_around Es o.path) ≡ Some
          (Inner kind a) =
          bound-found (plain o.sym) (find (λ s. binds ds s (plain o.sym)) (scopes_around Es o.path))
          (Inner kind a) (plain o.sym)
          (sym (refers-denotes ds o refers) ∙ is) in
          let here : find (λ s. binds dz s (plain o.sym)) (scopes_around Es o.path) ≡ Some
          (Inner kind a) =
          inner-found low high (λ s. binds ds s (plain o.sym)) (λ s. binds dz s (plain o.sym))
          (λ k n from to. sym (pad-binds low high ds dz pad-there k n (plain o.sym) from to)) o.path
          known.within kind a found in
          let alike = by_symbol-alike R one dz ez zipped (scopes_around Es o.path)
          (scopes_around Es u.path) it.scopes (plain o.sym) in
          let there = alike-bound R alike kind a (plain o.sym) (ap (bound_in (plain o.sym)) here) in
          let its : find (λ s. binds ez s (plain o.sym)) (scopes_around Es u.path) ≡ Some
          (Inner kind there.0) =
          bound-found (plain o.sym) (find (λ s. binds ez s (plain o.sym)) (scopes_around Es u.path))
          (Inner kind there.0) (plain o.sym) there.2 in
          let all : find (λ s. binds es s (plain o.sym)) (scopes_around Es u.path) ≡ Some
          (Inner kind there.0) =
          inner-found 1 last (λ s. binds ez s (plain o.sym)) (λ s. binds es s (plain o.sym))
          (λ k n from to. pad-binds 1 last es ez pad-here k n (plain o.sym) from to) u.path
          its_within kind there.0 its in
          record {
            b = there.0;
            goes = there.1;
            denotes =
                refers-denotes es u (ap is_binding it.role ∙ refers)
                ∙ ap (λ x. denoted_by_symbol es (scopes_around Es u.path) (plain x)) same
                ∙ ap (bound_in (plain o.sym)) all
                ∙ ap (λ x. Bound (Inner kind there.0) (plain x)) (sym same);
          }

  -- where what is made declares its names
  pub data HomeMade (d : Declared) : Type 0 where
    home_top : home_of es d ≡ Top → HomeMade d
    home_inner : {kind : ScopeKind} {a b : ℕ} (i : ℕ) (o : Occurrence) →
        slice_get os i ≡ Some o →
        R a b →
        denoted_of BySymbol Es ds o ≡ Bound (Inner kind a) (plain o.sym) →
        d.name.sym ≡ o.sym →
        home_of es d ≡ Inner kind b →
        HomeMade d

  home-from : (o u : Occurrence) (step : Step) → IsKnownName o → MadeOf R o u step →
      KeepsBinding g ds o step → (d : Declared) → declaration_of BySymbol Es u ≡ Some d → HomeMade d
  home-from o u step known it keeps d is = on (is_binding o.role) refl
    where
      on : (b : Bool) → is_binding o.role ≡ b → HomeMade d
      on false refers = absurd (none-some d
          (sym (refers-none u (ap is_binding it.role ∙ refers)) ∙ is))
      on true binds =
          let way = known.way binds in
          let same : u.sym ≡ o.sym = ap (λ (i : Ident). i.0) (it.ident ∙ keeps binds) in
          let d_is : declaration_by_way Es u way.0 ≡ d =
          same_Some _ d (sym (declares-it u way.0 (ap is_binding it.role ∙ binds)
          (it.way way.0 binds way.1)) ∙ is) in
          subst HomeMade d_is
          (by way.0 (declared-denotes ds o way.0 binds way.1) same
          (home-made o u step way.0 it same known.within) refl refl
          (home-in (IsIn low high) tt ds (declaration_by_way Es o way.0) known.within))
        where
          by : (w : Way) →
              denoted_of BySymbol Es ds o ≡ Bound (home_of ds (declaration_by_way Es o w))
              (plain o.sym) →
              u.sym ≡ o.sym → {s t : Scope} → ScopesAlike R s t →
              home_of ds (declaration_by_way Es o w) ≡ s → home_of es (declaration_by_way Es u w) ≡
              t →
              IsIn low high (home_of ds (declaration_by_way Es o w)) →
              HomeMade (declaration_by_way Es u w)
          by w denotes same tops s_is t_is within = home_top t_is
          by w denotes same wrappers s_is t_is within = absurd (subst (IsIn low high) s_is within)
          by w denotes same (inners r) s_is t_is within =
              home_inner known.at o known.there r (denotes ∙ ap (λ s. Bound s (plain o.sym)) s_is)
              same t_is

  homes-rest : {some its : List Occurrence} {by : List Step} → AllMade R meta some by its →
      AllOf IsKnownName some → AllZip (KeepsBinding g ds) some by →
      AllOf (λ u. (d : Declared) → declaration_of BySymbol Es u ≡ Some d → HomeMade d) its
  homes-rest done known keeps = tt
  homes-rest (added {u = u} refers is more) known keeps = (
    λ d its. absurd (none-some d (sym (refers-none u refers) ∙ its)),
    homes-rest more known
        keeps,
  )
  homes-rest (made {o = o} {u = u} {step = step} it more) known keeps =
      (home-from o u step known.0 it keeps.0, homes-rest more known.1 keeps.1)

  homes-front : {its : List Occurrence} → AreFront default given_items its →
      AllOf (λ u. (d : Declared) → declaration_of BySymbol Es u ≡ Some d → HomeMade d) its
  homes-front (no_front none) = tt
  homes-front (one_front {u = u} has it) = (
    λ d is. subst HomeMade (same_Some _ d (sym (front-declares u it) ∙ is))
        (home_top (front-home es u it)),
    tt,
  )

  pub es-homes : (i : ℕ) (d : Declared) → slice_get es i ≡ Some d → HomeMade d
  es-homes i d at =
      let it = picked (declaration_of BySymbol Es) us i d at in
      each-all (λ u. (d : Declared) → declaration_of BySymbol Es u ≡ Some d → HomeMade d) us
      (all-append (λ u. (d : Declared) → declaration_of BySymbol Es u ≡ Some d → HomeMade d) front
      rest
      (homes-front along.are_front) (homes-rest along.all known-names along.keeps)) it.0 it.1 it.2 d
      it.3
