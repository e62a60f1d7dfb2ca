-- What names denote depends on names, ways and scopes alone, and on scopes only up to where they
-- begin.
-- Groups of which each mention stands beside one in the other are alike, so the same orders are
-- good for them.
use Rattle.std.proofs.Common.{◌≡◌, ℕ, ◌+◌, Bool, true, false, cond, not, ◌&&◌, ◌||◌, List, [], ◌∷◌, Option, Some, None, is_some, unwrap_or, codes, find, refl, ap, sym, ◌∙◌, subst, arith, suc, slice_get}
use Rattle.std.specs.List.{list_any, AllZip}
use Rattle.std.specs.Option.{option_and_then}
use Rattle.std.proofs.lemmas.Option.{none-some, same_Some}
use Rattle.bundle_rules.specs.Scopes.{Scope, ScopeKind, Top, Inner, FunctionBody, same_scope}
use Rattle.bundle_rules.specs.Declarations.{Way, Reading, BySymbol, ByContext, Name, names_agree, Declared}
use Rattle.bundle_rules.specs.Homes.{is_parameters, is_wrapper, is_function, is_arguments, takes, from_taker, nearest, taker, parameters_of, joins_parameter, is_parameter, home_beside, home_of, is_declared_in, declares, binds}
use Rattle.bundle_rules.specs.Denotes.{Global, without_context, bound_in, is_unresolved, has_identifier, is_written_in, is_implied_in, written_or_implied, denoted_by_symbol, denoted_by_context, denoted_in}
use Rattle.bundle_rules.specs.Order.{Mention, Group, mention_at, Declares, IsGoodOrder}
use Rattle.bundle_scope_names.proofs.Told.{zip-from}
use Rattle.bundle_order.specs.Renumbered.{IsSameButTop}
use Rattle.bundle_order.proofs.RenumberLemmas.{Flipped, same_but_top-sym}
use Rattle.bundle_merge_theory.specs.joined.Joined.{relocated}
use Rattle.bundle_merge_theory.specs.joined.Alike.{ArePlacesOneToOne, ScopesAlike, tops, wrappers, inners, BothAlike, DeclaredAlike, DenotedAlike, bindings, globals}
use Rattle.bundle_merge_theory.proofs.joined.Paths.{both-alike}
use Rattle.bundle_merge_theory.proofs.joined.Denotes.{is_parameters-relocated, is_wrapper-relocated, is_function-relocated, takes-relocated}
use Rattle.bundle_merge_theory.specs.joined.Groups.{IsLoose, TopsAlike, same_top, loose, MentionsAlike, GroupsCorrespond}
use Rattle.bundle_merge_theory.specs.grouped.Alike.{DenoteOne, OwnersAlike, GroupsAlike as AreAlike}
use Rattle.bundle_merge_theory.proofs.grouped.AlikeLemmas.{owners-refl, IsGoodOrder-alike}

-- ---- alike
module _ (R : ℕ → ℕ → Type 0) (one : ArePlacesOneToOne R) where
  -- a test that does not see where a scope begins
  test-alike : (test : Scope → Bool) → ((f : ℕ → ℕ) (s : Scope) → test (relocated f s) ≡ test s) →
      {s t : Scope} → ScopesAlike R s t → test t ≡ test s
  test-alike test same tops = refl
  test-alike test same wrappers = refl
  test-alike test same (inners {kind = kind} {a = a} {b = b} r) = same (λ n. b) (Inner kind a)

  pub same-alike : {s t u v : Scope} → ScopesAlike R s t → ScopesAlike R u v →
      same_scope t v ≡ same_scope s u
  same-alike tops tops = refl
  same-alike tops wrappers = refl
  same-alike wrappers tops = refl
  same-alike wrappers wrappers = refl
  same-alike tops (inners {a = a} {b = b} r) =
      both-alike 1 (b + 2) 1 (a + 2) (λ e. absurd (omega (arith, e)))
      (λ e. absurd (omega (arith, e)))
  same-alike wrappers (inners {a = a} {b = b} r) =
      both-alike 0 (b + 2) 0 (a + 2) (λ e. absurd (omega (arith, e)))
      (λ e. absurd (omega (arith, e)))
  same-alike (inners {a = a} {b = b} r) tops =
      both-alike (b + 2) 1 (a + 2) 1 (λ e. absurd (omega (arith, e)))
      (λ e. absurd (omega (arith, e)))
  same-alike (inners {a = a} {b = b} r) wrappers =
      both-alike (b + 2) 0 (a + 2) 0 (λ e. absurd (omega (arith, e)))
      (λ e. absurd (omega (arith, e)))
  same-alike (inners {a = a} {b = b} r) (inners {a = c} {b = d} q) =
      both-alike (b + 2) (d + 2) (a + 2) (c + 2)
      (λ e. let same : b ≡ d = omega (arith, e) in
      let back = one.other a c d (subst (R a) same r) q in ap (λ n. n + 2) back)
      (λ e. let same : a ≡ c = omega (arith, e) in
      let there = one.one c b d (subst (λ n. R n b) same r) q in ap (λ n. n + 2) there)

  cond-alike : (b c : Bool) → c ≡ b → {s t u v : Scope} → ScopesAlike R s t → ScopesAlike R u v →
      ScopesAlike R (cond b s u) (cond c t v)
  cond-alike b c e {s = s} {t = t} {u = u} {v = v} x y =
      subst (λ c. ScopesAlike R (cond b s u) (cond c t v)) (sym e) (by_test b)
    where
      by_test : (b : Bool) → ScopesAlike R (cond b s u) (cond b t v)
      by_test true = x
      by_test false = y

  -- takers
  from_taker-alike : (way : Way) (ss ts : List Scope) → AllZip (ScopesAlike R) ss ts →
      AllZip (ScopesAlike R) (from_taker way ss) (from_taker way ts)
  from_taker-alike way [] [] z = tt
  from_taker-alike way [] (t ∷ ts) z = absurd z
  from_taker-alike way (s ∷ ss) [] z = absurd z
  from_taker-alike way (s ∷ ss) (t ∷ ts) z =
      subst (λ b. AllZip (ScopesAlike R) (cond (takes way s) (s ∷ ss) (from_taker way ss))
      (cond b (t ∷ ts) (from_taker way ts)))
      (sym (test-alike (takes way) (λ f s. takes-relocated f way s) z.0))
      (by_test (takes way s) (from_taker-alike way ss ts z.1))
    where
      by_test : (b : Bool) → AllZip (ScopesAlike R) (from_taker way ss) (from_taker way ts) →
          AllZip (ScopesAlike R) (cond b (s ∷ ss) (from_taker way ss))
          (cond b (t ∷ ts) (from_taker way ts))
      by_test true ih = z
      by_test false ih = ih

  nearest-alike : (ss ts : List Scope) → AllZip (ScopesAlike R) ss ts →
      BothAlike R (nearest ss) (nearest ts)
  nearest-alike [] [] z = tt
  nearest-alike [] (t ∷ ts) z = absurd z
  nearest-alike (s ∷ ss) [] z = absurd z
  nearest-alike (s ∷ ss) (t ∷ ts) z = z.0

  parameters-alike : (ss ts : List Scope) → AllZip (ScopesAlike R) ss ts →
      BothAlike R (parameters_of ss) (parameters_of ts)
  parameters-alike [] [] z = tt
  parameters-alike [] (t ∷ ts) z = absurd z
  parameters-alike (s ∷ ss) [] z = absurd z
  parameters-alike (s ∷ ss) (t ∷ ts) z = by_first z.0
    where
      by_kind : (kind : ScopeKind) (a b : ℕ) →
          BothAlike R (parameters_of (Inner kind a ∷ ss)) (parameters_of (Inner kind b ∷ ts))
      by_kind FunctionBody a b = nearest-alike ss ts z.1
      by_kind _ a b = tt

      by_first : {s t : Scope} → ScopesAlike R s t →
          BothAlike R (parameters_of (s ∷ ss)) (parameters_of (t ∷ ts))
      by_first tops = nearest-alike ss ts z.1
      by_first wrappers = tt
      by_first (inners {kind = kind} {a = a} {b = b} r) = by_kind kind a b

  or_top-alike : (s t : Option Scope) → BothAlike R s t →
      ScopesAlike R (unwrap_or s Top) (unwrap_or t Top)
  or_top-alike None None x = tops
  or_top-alike None (Some t) x = absurd x
  or_top-alike (Some s) None x = absurd x
  or_top-alike (Some s) (Some t) x = x

  takers-alike : (d e : Declared) → DeclaredAlike R d e →
      AllZip (ScopesAlike R) (from_taker d.by d.scopes) (from_taker e.by e.scopes)
  takers-alike d e a =
      subst (λ way. AllZip (ScopesAlike R) (from_taker d.by d.scopes) (from_taker way e.scopes))
      (sym a.by) (from_taker-alike d.by d.scopes e.scopes a.scopes)

  taker-alike : (d e : Declared) → DeclaredAlike R d e → ScopesAlike R (taker d) (taker e)
  taker-alike d e a =
      or_top-alike (nearest (from_taker d.by d.scopes)) (nearest (from_taker e.by e.scopes))
      (nearest-alike (from_taker d.by d.scopes) (from_taker e.by e.scopes)
      (takers-alike d e a))

  -- tests over declarations
  any-zipped : (p q : Declared → Bool) → ((d e : Declared) → DeclaredAlike R d e → q e ≡ p d) →
      (ds es : List Declared) → AllZip (DeclaredAlike R) ds es → list_any q es ≡ list_any p ds
  any-zipped p q same [] [] z = refl
  any-zipped p q same [] (e ∷ es) z = absurd z
  any-zipped p q same (d ∷ ds) [] z = absurd z
  any-zipped p q same (d ∷ ds) (e ∷ es) z =
      ap (λ b. b || list_any q es) (same d e z.0)
      ∙ ap (λ b. p d || b) (any-zipped p q same ds es z.1)

  parameter-alike : {s t : Scope} → ScopesAlike R s t → (name : Name) (d e : Declared) →
      DeclaredAlike R d e → is_parameter t name e ≡ is_parameter s name d
  parameter-alike x name d e a =
      let taken = taker-alike d e a in
      λ i. (test-alike is_parameters is_parameters-relocated taken i
      || test-alike is_wrapper is_wrapper-relocated taken i) && same-alike taken x i
      && names_agree (a.name i) name

  module _ (ds es : List Declared) (z : AllZip (DeclaredAlike R) ds es) where
    beside-alike : (d e : Declared) → DeclaredAlike R d e → (s t : Option Scope) →
        BothAlike R s t → ScopesAlike R (home_beside ds d s) (home_beside es e t)
    beside-alike d e a None None x = taker-alike d e a
    beside-alike d e a None (Some t) x = absurd x
    beside-alike d e a (Some s) None x = absurd x
    beside-alike d e a (Some s) (Some t) x =
        cond-alike (list_any (is_parameter s d.name) ds) (list_any (is_parameter t e.name) es)
        (ap (λ name. list_any (is_parameter t name) es) a.name
        ∙ any-zipped (is_parameter s d.name) (is_parameter t d.name) (parameter-alike x d.name)
        ds es z)
        x (taker-alike d e a)

    -- HOMES correspond
    pub home-alike : (d e : Declared) → DeclaredAlike R d e →
        ScopesAlike R (home_of ds d) (home_of es e)
    home-alike d e a =
        cond-alike (joins_parameter d.by) (joins_parameter e.by) (ap joins_parameter a.by)
        (beside-alike d e a (parameters_of (from_taker d.by d.scopes))
        (parameters_of (from_taker e.by e.scopes))
        (parameters-alike (from_taker d.by d.scopes) (from_taker e.by e.scopes)
        (takers-alike d e a)))
        (taker-alike d e a)

    declared-alike : {s t : Scope} → ScopesAlike R s t → (name : Name) (d e : Declared) →
        DeclaredAlike R d e → is_declared_in es t name e ≡ is_declared_in ds s name d
    declared-alike x name d e a =
        λ i. same-alike (home-alike d e a) x i && names_agree (a.name i) name

    pub declares-alike : {s t : Scope} → ScopesAlike R s t → (name : Name) →
        declares es t name ≡ declares ds s name
    declares-alike {s = s} {t = t} x name =
        any-zipped (is_declared_in ds s name) (is_declared_in es t name) (declared-alike x name) ds
        es z

    pub written-alike : {s t : Scope} → ScopesAlike R s t → (name : Name) →
        is_written_in es t name ≡ is_written_in ds s name
    written-alike {s = s} {t = t} x name =
        any-zipped (λ d. has_identifier d && is_declared_in ds s name d)
        (λ e. has_identifier e && is_declared_in es t name e)
        (λ d e a. λ i. is_some (a.name i).ctxt && declared-alike x name d e a i) ds es z

    binds-alike : {s t : Scope} → ScopesAlike R s t → (name : Name) →
        binds es t name ≡ binds ds s name
    binds-alike x name =
        λ i. declares-alike x name i
        || (is_arguments name.sym
        && (test-alike is_function is_function-relocated x i
        && not (declares-alike x (record { sym = codes "arguments"; ctxt = None }) i)))

    implied-alike : {s t : Scope} → ScopesAlike R s t → (name : Name) →
        is_implied_in es t name ≡ is_implied_in ds s name
    implied-alike x name =
        λ i. (declares-alike x (without_context name) i
        && not (written-alike x (without_context name) i))
        || (is_arguments name.sym && test-alike is_function is_function-relocated x i)

    found-alike : (p q : Scope → Bool) → ((s t : Scope) → ScopesAlike R s t → q t ≡ p s) →
        (ss ts : List Scope) → AllZip (ScopesAlike R) ss ts → BothAlike R (find p ss) (find q ts)
    found-alike p q same [] [] x = tt
    found-alike p q same [] (t ∷ ts) x = absurd x
    found-alike p q same (s ∷ ss) [] x = absurd x
    found-alike p q same (s ∷ ss) (t ∷ ts) x =
        subst (λ b. BothAlike R (cond (p s) (Some s) (find p ss)) (cond b (Some t) (find q ts)))
        (sym (same s t x.0)) (by_test (p s) (found-alike p q same ss ts x.1))
      where
        by_test : (b : Bool) → BothAlike R (find p ss) (find q ts) →
            BothAlike R (cond b (Some s) (find p ss)) (cond b (Some t) (find q ts))
        by_test true ih = x.0
        by_test false ih = ih

    bound-alike : (name : Name) (s t : Option Scope) → BothAlike R s t →
        DenotedAlike R (bound_in name s) (bound_in name t)
    bound-alike name None None x = globals
    bound-alike name None (Some t) x = absurd x
    bound-alike name (Some s) None x = absurd x
    bound-alike name (Some s) (Some t) x = bindings x

    -- NAMES denote alike
    pub by_symbol-alike : (ss ts : List Scope) → AllZip (ScopesAlike R) ss ts → (name : Name) →
        DenotedAlike R (denoted_by_symbol ds ss name) (denoted_by_symbol es ts name)
    by_symbol-alike ss ts x name =
        bound-alike name (find (λ s. binds ds s name) ss) (find (λ t. binds es t name) ts)
        (found-alike (λ s. binds ds s name) (λ t. binds es t name)
        (λ s t y. binds-alike y name) ss ts x)

    pub by_context-alike : (ss ts : List Scope) → AllZip (ScopesAlike R) ss ts → (name : Name) →
        DenotedAlike R (denoted_by_context ds ss name) (denoted_by_context es ts name)
    by_context-alike ss ts x name =
        by_found (find (λ s. is_written_in ds s name) ss) (find (λ t. is_written_in es t name) ts)
        (found-alike (λ s. is_written_in ds s name) (λ t. is_written_in es t name)
        (λ s t y. written-alike y name) ss ts x)
      where
        by_context : (b : Bool) →
            DenotedAlike R (cond b (Global name.sym)
            (bound_in (without_context name) (find (λ s. is_implied_in ds s name) ss)))
            (cond b (Global name.sym)
            (bound_in (without_context name) (find (λ t. is_implied_in es t name) ts)))
        by_context true = globals
        by_context false =
            bound-alike (without_context name) (find (λ s. is_implied_in ds s name) ss)
            (find (λ t. is_implied_in es t name) ts)
            (found-alike (λ s. is_implied_in ds s name) (λ t. is_implied_in es t name)
            (λ s t y. implied-alike y name) ss ts x)

        by_found : (s t : Option Scope) → BothAlike R s t →
            DenotedAlike R (written_or_implied ds ss name s) (written_or_implied es ts name t)
        by_found None None y = by_context (is_unresolved name.ctxt)
        by_found None (Some t) y = absurd y
        by_found (Some s) None y = absurd y
        by_found (Some s) (Some t) y = bindings y

    pub in-alike : (reading : Reading) (ss ts : List Scope) → AllZip (ScopesAlike R) ss ts →
        (name : Name) →
        DenotedAlike R (denoted_in reading ds ss name) (denoted_in reading es ts name)
    in-alike BySymbol ss ts x name = by_symbol-alike ss ts x name
    in-alike ByContext ss ts x name = by_context-alike ss ts x name

-- ---- groups

-- lists of which each element stands beside one of the other, and the other way round
zip-both : {A B : Type 0} (R : A → B → Type 0) (xs : List A) (ys : List B) →
    ((i : ℕ) (x : A) → slice_get xs i ≡ Some x → (y : B) × (slice_get ys i ≡ Some y) × R x y) →
    ((i : ℕ) (y : B) → slice_get ys i ≡ Some y → (x : A) × (slice_get xs i ≡ Some x)) →
    AllZip R xs ys
zip-both R [] [] there back = tt
zip-both R [] (y ∷ ys) there back = let it = back 0 y refl in absurd (none-some it.0 it.1)
zip-both R (x ∷ xs) [] there back = let it = there 0 x refl in absurd (none-some it.0 it.1)
zip-both {B = B} R (x ∷ xs) (y ∷ ys) there back =
    let it = there 0 x refl in (
      subst (λ (z : B). R x z) (sym (same_Some y it.0 it.1)) it.2,
      zip-both R xs ys (λ i. there (suc i)) (λ i. back (suc i)),
    )

-- the other way round
tops-flipped : (R : ℕ → ℕ → Type 0) (g other : Group) {x y : Option ℕ} → TopsAlike R g other x y →
    TopsAlike (Flipped R) other g y x
tops-flipped R g other (same_top r) = same_top r
tops-flipped R g other (loose x y) = loose y x

mentions-flipped : (R : ℕ → ℕ → Type 0) (g other : Group) (x y : Mention) →
    MentionsAlike R g other x y → MentionsAlike (Flipped R) other g y x
mentions-flipped R g other x y m =
    record { top = tops-flipped R g other m.top; same = same_but_top-sym x y m.same }

flipped : (R : ℕ → ℕ → Type 0) (g other : Group) → GroupsCorrespond R g other →
    GroupsCorrespond (Flipped R) other g
flipped R g other a = record {
  owners = sym a.owners;
  size = sym a.size;
  there =
      λ s i y at. let it = a.back s i y at in (it.0, it.1, mentions-flipped R g other it.0 y it.2);
  back =
      λ s i x at. let it = a.there s i x at in
      (it.0, it.1, mentions-flipped R g other x it.0 it.2);
  one = a.other_one;
  other_one = a.one;
}

-- a mention of a declared binding
top-found : (R : ℕ → ℕ → Type 0) (g other : Group) (b t : ℕ) → Declares g t b → {x y : Option ℕ} →
    TopsAlike R g other x y → x ≡ Some b → (c : ℕ) × (y ≡ Some c) × R b c
top-found R g other b t declares (same_top {b = d} {c = c} r) is =
    (c, refl, subst (λ n. R n c) (same_Some d b is) r)
top-found R g other b t declares (loose one two) is = absurd (subst (IsLoose g) is one t declares)

module _ (R : ℕ → ℕ → Type 0) (g other : Group) (a : GroupsCorrespond R g other) where
  beside : (s i : ℕ) (x y : Mention) → mention_at g s i ≡ Some x → mention_at other s i ≡ Some y →
      MentionsAlike R g other x y
  beside s i x y at there =
      let it = a.there s i x at in
      subst (λ (z : Mention). MentionsAlike R g other x z)
      (same_Some it.0 y (sym it.1 ∙ there)) it.2

  -- two that denote one binding, which one of them declares, do so in the other
  one-there : (s i t j : ℕ) (x y its_x its_y : Mention) → mention_at g s i ≡ Some x →
      mention_at g t j ≡ Some y → mention_at other s i ≡ Some its_x →
      mention_at other t j ≡ Some its_y → y.declares ≡ true → DenoteOne x y → DenoteOne its_x its_y
  one-there s i t j x y its_x its_y at_x at_y there_x there_y declares (b, top_x, top_y) =
      let own : Declares g t b =
      (j, y, record { there = at_y; denotes = top_y; declares = declares }) in
      let first = top-found R g other b t own (beside s i x its_x at_x there_x).top top_x in
      let second = top-found R g other b t own (beside t j y its_y at_y there_y).top top_y in (
        first.0,
        first.1,
        second.1
            ∙ ap (λ (n : ℕ). Some n) (a.one b second.0 first.0 second.2 first.2),
      )

  -- the mentions of one item
  in-row : (h : Group) (s i : ℕ) (row : List Mention) → slice_get h.items s ≡ Some row →
      mention_at h s i ≡ slice_get row i
  in-row h s i row e =
      ap (λ (rows : Option (List Mention)). option_and_then (λ (m : List Mention). slice_get m i)
      rows) e

  rows-alike : (s : ℕ) (row its : List Mention) → slice_get g.items s ≡ Some row →
      slice_get other.items s ≡ Some its → AllZip IsSameButTop row its
  rows-alike s row its e f =
      zip-both IsSameButTop row its (λ i x at. let it = a.there s i x (in-row g s i row e ∙ at) in
      (it.0, sym (in-row other s i its f) ∙ it.1, it.2.same))
      (λ i y at. let it = a.back s i y (in-row other s i its f ∙ at) in
      (it.0, sym (in-row g s i row e) ∙ it.1))

module _ (R : ℕ → ℕ → Type 0) (g other : Group) (a : GroupsCorrespond R g other) where
  alike : AreAlike g other
  alike = record {
    owners =
        subst (λ (o : List (Option ℕ)). OwnersAlike g.owners o) a.owners (owners-refl g.owners);
    items = zip-from (AllZip IsSameButTop) g.items other.items a.size (rows-alike R g other a);
    same = λ s i t j x y its_x its_y at_x at_y there_x there_y declares. (
      one-there R g other a s i t j x y its_x its_y at_x at_y there_x there_y declares,
      one-there (Flipped R) other g (flipped R g other a) s i t j its_x its_y x y there_x there_y
          at_x at_y (sym (beside R g other a t j y its_y at_y there_y).same.declares ∙ declares),
    );
  }

  -- GROUPS: an order that is good for one is good for the other.
  pub good-order : (order : List ℕ) → IsGoodOrder g order → IsGoodOrder other order
  good-order order good = (IsGoodOrder-alike g other alike order).0 good
