-- Each name of the object of `import.meta` is a binding inside it or a global, as in what the hook
-- answered.
use Rattle.std.proofs.Common.{◌≡◌, ◌<◌, ◌⊎◌, inl, inr, ℕ, ◌+◌, ◌==◌, ◌&&◌, Bool, true, false, cond, not, List, [], ◌∷◌, Option, None, Some, find, map, slice_get, codes, bytes_eq, refl, ap, sym, ◌∙◌, subst, arith, eq-eqb, ne_eqb, le-leb}
use Rattle.std.specs.List.{AllZip, cons_option}
use Rattle.std.proofs.lemmas.Bool.{false≢true, and_parts, and_from, eqb-true}
use Rattle.std.proofs.lemmas.Option.{none-some}
use Rattle.std.proofs.lemmas.Slice.Eq.{bytes_eq-Decides}
use Rattle.bundle_syntax.specs.Item.{Item}
use Rattle.bundle_rules.specs.Places.{Occurrence, is_binding}
use Rattle.bundle_rules.specs.Scopes.{Es, Scope, ScopeKind, Wrapper, Inner, Parameters, scope_order, scopes_around}
use Rattle.bundle_rules.specs.Declarations.{Way, BySymbol, ByContext, Name, name_of, names_agree, Declared, declared_by, way_of}
use Rattle.bundle_rules.specs.Homes.{home_of, is_top, is_function, binds, is_arguments}
use Rattle.bundle_rules.specs.Denotes.{Denoted, Bound, Global, bound_in, denoted_by_symbol, denoted_in, own_or_found, denoted_of, denotations}
use Rattle.bundle_rules.specs.Idents.{Ident}
use Rattle.bundle_rules.specs.Mentions.{same_context, same_denoted}
use Rattle.bundle_rules.specs.Program.{Program}
use Rattle.bundle_rules.specs.Meaning.{Meta, plain, is_inside}
use Rattle.bundle_rules.specs.Bundle.{HoldsMeta, Hooks, properties_tree}
use Rattle.bundle_scope_names.proofs.Numbering.{context_of, is_written, given}
use Rattle.bundle_scope_names.proofs.HomesLemmas.{find-nothing, iff as same-bool}
use Rattle.bundle_scope_names.proofs.FoundLemmas.{arguments-bind, written-same_order}
use Rattle.bundle_scope_names.proofs.TreeLemmas.{IsFor, denoted-for}
use Rattle.bundle_merge_theory.specs.joined.Joined.{AllOf, own_declared}
use Rattle.bundle_merge_theory.specs.joined.Notes.{its_name, own_denoted, is_inner_name}
use Rattle.bundle_merge_theory.specs.joined.Alike.{ArePlacesOneToOne, ScopesAlike, tops, wrappers, inners, DenotedAlike, bindings, globals}
use Rattle.bundle_merge_theory.proofs.joined.Declarations.{declared_by_names}
use Rattle.bundle_merge_theory.proofs.joined.Denotes.{names-identified}
use Rattle.bundle_merge_theory.proofs.joined.Paths.{any-none}
use Rattle.bundle_merge_theory.specs.made.Given.{HookAnswer, BundleContexts, NameOf}
use Rattle.bundle_merge_theory.specs.made.Alone.{IsHolder, OwnsHolder, added, holds_meta as adds_meta}
use Rattle.bundle_merge_theory.proofs.answered.Inward.{IsInwardDenoted, bound_inward, not_bound, IsAnother, denoted-more, inner-more}
use Rattle.bundle_merge_theory.proofs.answered.Properties.{Answering}
use Rattle.bundle_merge_theory.proofs.answered.Denoting.{os, us, ds, f, denoted_there, R, es, IsBeside, meta_name, item, item-declared}

-- nothing is found among scopes that are alike
pub alike-none : (Q : ℕ → ℕ → Type 0) (ss ts : List Scope) → AllZip (ScopesAlike Q) ss ts →
    find is_function ss ≡ None → find is_function ts ≡ None
alike-none Q [] [] all none = refl
alike-none Q [] (t ∷ ts) all none = absurd all
alike-none Q (s ∷ ss) [] all none = absurd all
alike-none Q (s ∷ ss) (t ∷ ts) all none = by_first all.0 none (alike-none Q ss ts all.1)
  where
    by_kind : (kind : ScopeKind) (a b : ℕ) →
        cond (is_function (Inner kind a)) (Some (Inner kind a)) (find is_function ss) ≡ None →
        (find is_function ss ≡ None → find is_function ts ≡ None) →
        cond (is_function (Inner kind b)) (Some (Inner kind b)) (find is_function ts) ≡ None
    by_kind Parameters a b is later = absurd (none-some (Inner Parameters a) (sym is))
    by_kind _ a b is later = later is

    by_first : {s t : Scope} → ScopesAlike Q s t →
        cond (is_function s) (Some s) (find is_function ss) ≡ None →
        (find is_function ss ≡ None → find is_function ts ≡ None) →
        cond (is_function t) (Some t) (find is_function ts) ≡ None
    by_first tops is later = later is
    by_first wrappers is later = absurd (none-some Wrapper (sym is))
    by_first (inners {kind = kind} {a = a} {b = b} r) is later = by_kind kind a b is later

module _ (list : List ℕ) {p : Program} {hooks : Hooks} {context : BundleContexts}
    {answers : ℕ → Option HookAnswer} {m : ℕ} {properties within : List Item}
    (facts : Answering p hooks context answers m properties within) where
  abbrev Rel : ℕ → ℕ → Type 0
  Rel = R list facts

  abbrev its_ds : List Declared
  its_ds = ds list facts

  abbrev its_es : List Declared
  its_es = es list facts

  abbrev the_item : List Item
  the_item = item list facts

  abbrev name_ident : Ident
  name_ident = meta_name list facts

  abbrev there : Occurrence → Denoted
  there o = denoted_there list facts o

  abbrev Beside : Occurrence → Occurrence → Type 0
  Beside o u = IsBeside list facts o u

  abbrev numbers : ℕ → List ℕ → ℕ
  numbers = f list facts

  meta_holder : IsHolder p answers (NameOf (Meta m))
  meta_holder = added (HoldsMeta m) facts.due adds_meta

  -- the name of a binding inside, once contexts are given
  abbrev pub named_there : ScopeKind → ℕ → List ℕ → Name
  named_there kind a x = record {
    sym = x;
    ctxt = cond (is_written its_ds (Inner kind a) x) (Some (numbers (scope_order
        (Inner kind a)) x)) None;
  }

  -- a binding inside what was answered, and the one that it becomes
  pub data Becomes : Denoted → Denoted → Type 0 where
    becomes : {kind : ScopeKind} {a b : ℕ} {x : List ℕ} → Rel a b →
        Becomes (Bound (Inner kind a) (plain x)) (Bound (Inner kind b) (named_there kind a x))

  -- a name that is a binding inside
  pub record InsideAt (o u : Occurrence) : Type 0 where
    pub kind : ScopeKind
    pub from : ℕ
    pub to : ℕ
    pub goes : Rel from to
    pub before : there o ≡ Bound (Inner kind from) (plain o.sym)
    pub after : own_denoted the_item u ≡ Bound (Inner kind to) (named_there kind from o.sym)
    pub listed : (i : ℕ) × (slice_get (denotations BySymbol Es (properties_tree properties)) i
        ≡ Some (Bound (Inner kind from) (plain o.sym)))
    pub ctxt : u.ctxt ≡ context (facts.holder from o.sym)
    pub holds : IsHolder p answers (facts.holder from o.sym)
    pub owns : OwnsHolder p (HoldsMeta m) (facts.holder from o.sym)

  -- or a global
  pub record FreeAt (o u : Occurrence) : Type 0 where
    pub before : there o ≡ Global o.sym
    pub after : own_denoted the_item u ≡ Global o.sym
    pub ctxt : u.ctxt ≡ 1

  context-is : (o u : Occurrence) → Beside o u → u.ctxt ≡ context_of numbers (there o)
  context-is o u it = ap (λ (i : Ident). i.1) it.made.ident

  -- its context is not that of the object's name
  pub differs : (o u : Occurrence) → Beside o u → name_ident.1 ≡ u.ctxt → ⊥
  differs o u it = by_denoted (there o) refl it.inward
    where
      by_denoted : (d : Denoted) → there o ≡ d → IsInwardDenoted d → name_ident.1 ≡ u.ctxt → ⊥
      by_denoted d is (not_bound {x = x}) e =
          let above : 1 < context (NameOf (Meta m)) = facts.apart.own (NameOf
          (Meta m)) meta_holder in
          let same : context (NameOf (Meta m)) ≡ 1 =
          e ∙ context-is o u it ∙ ap (context_of numbers) is in
          absurd (omega (arith, above, same))
      by_denoted d is (bound_inward {kind = kind} {begins = a} {name = name}) e =
          let held = facts.holds it.listed.0 kind a name (it.listed.1 ∙ ap Some is) in
          let same : context (NameOf (Meta m)) ≡ context (facts.holder a name.sym) =
          e ∙ context-is o u it ∙ ap (context_of numbers) is ∙ held.ctxt in
          held.other
          (facts.apart.apart (NameOf (Meta m)) (facts.holder a name.sym) meta_holder held.is same)

  another : (o u : Occurrence) → Beside o u →
      IsAnother 4 name_ident its_es (its_name u)
  another o u it =
      ap (λ b. bytes_eq name_ident.0 u.sym && b) (ne_eqb name_ident.1 u.ctxt (differs o u it))
      ∙ never (bytes_eq name_ident.0 u.sym)
    where
      never : (b : Bool) → (b && false) ≡ false
      never true = refl
      never false = refl

  own-is : (o u : Occurrence) → Beside o u → own_denoted the_item u
      ≡ denoted_of ByContext Es its_es u
  own-is o u it =
      ap (λ all. denoted_of ByContext Es all u)
      (item-declared list facts)
      ∙ denoted-more 4 name_ident its_es
      (names-identified (us list facts))
      u (another o u it)

  pub classify : (o u : Occurrence) → Beside o u → InsideAt o u ⊎ FreeAt o u
  classify o u it =
      by_denoted (there o) refl it.inward (denoted-for Es its_ds o)
      (subst (DenotedAlike Rel (given numbers its_ds (there o))) (sym (own-is o u it)) it.denotes)
    where
      by_alike : (kind : ScopeKind) (a : ℕ) → there o ≡ Bound (Inner kind a) (plain o.sym) →
          (e : Denoted) → own_denoted the_item u ≡ e →
          DenotedAlike Rel (Bound (Inner kind a) (named_there kind a o.sym)) e →
          InsideAt o u
      by_alike kind a is e here (bindings (inners {b = b} r)) =
          let held = facts.holds it.listed.0 kind a (plain o.sym) (it.listed.1 ∙ ap Some is) in
          record {
            kind = kind;
            from = a;
            to = b;
            goes = r;
            before = is;
            after = here;
            listed = (it.listed.0, it.listed.1 ∙ ap Some is);
            ctxt = context-is o u it ∙ ap (context_of numbers) is ∙ held.ctxt;
            holds = held.is;
            owns = held.owns;
          }

      by_global : (x : List ℕ) (e : Denoted) → DenotedAlike Rel (Global x) e → e ≡ Global x
      by_global x e globals = refl

      by_denoted : (d : Denoted) → there o ≡ d → IsInwardDenoted d → IsFor o.sym d →
          DenotedAlike Rel (given numbers its_ds d) (own_denoted the_item u) →
          InsideAt o u ⊎ FreeAt o u
      by_denoted d is (not_bound {x = x}) for alike = inr (record {
        before = is ∙ ap Global for;
        after = by_global x (own_denoted the_item u) alike ∙ ap Global for;
        ctxt = context-is o u it ∙ ap (context_of numbers) is;
      })
      by_denoted d is (bound_inward {kind = kind} {begins = a} {name = name}) for alike =
          inl (by_alike kind a (is ∙ ap (Bound (Inner kind a)) for) (own_denoted the_item u) refl
          (subst (λ (n : Name). DenotedAlike Rel (Bound (Inner kind a) (named_there kind a n.sym))
          (own_denoted the_item u)) for alike))

  -- Numbers of bindings.

  same-contexts : (a b : Option ℕ) → a ≡ b → same_context a b ≡ true
  same-contexts None b e = ap (same_context None) (sym e)
  same-contexts (Some a) b e = ap (same_context (Some a)) (sym e) ∙ eq-eqb a a refl

  contexts-there : (kind other : ScopeKind) (a c : ℕ) (x y : List ℕ) → a ≡ c → x ≡ y →
      (named_there kind a x).ctxt ≡ (named_there other c y).ctxt
  contexts-there kind other a c x y same symbols =
      ap (λ b. cond b (Some (numbers (a + 2) x)) None)
      (written-same_order its_ds (Inner other c) (Inner kind a) x (ap (λ n. n + 2) same))
      ∙ (λ i. cond (is_written its_ds (Inner other c) (symbols i)) (Some (numbers (same i + 2)
      (symbols i))) None)

  pub one-to-one : (d e other its_other : Denoted) → Becomes d other → Becomes e its_other →
      same_denoted d e ≡ same_denoted other its_other
  one-to-one d e other its_other (becomes {kind = k} {a = a} {b = b} {x = x} r)
      (becomes {kind = l} {a = c} {b = g} {x = y} q) =
      same-bool
      (same_denoted (Bound (Inner k a) (plain x)) (Bound (Inner l c) (plain y)))
      (same_denoted (Bound (Inner k b) (named_there k a x)) (Bound (Inner l g) (named_there l c y)))
      forth back
    where
      frame : ArePlacesOneToOne Rel
      frame = facts.its.one

      forth : (((a + 2) == (c + 2)) && bytes_eq x y && true) ≡ true →
          (((b + 2) == (g + 2)) && bytes_eq x y
          && same_context (named_there k a x).ctxt (named_there l c y).ctxt) ≡ true
      forth is =
          let front = and_parts (((a + 2) == (c + 2)) && bytes_eq x y) true is in
          let both = and_parts ((a + 2) == (c + 2)) (bytes_eq x y) front.0 in
          let orders : a + 2 ≡ c + 2 = eqb-true (a + 2) (c + 2) both.0 in
          let same : a ≡ c = omega (arith, orders) in
          let symbols : x ≡ y = (bytes_eq-Decides x y).0 both.1 in
          let there : b ≡ g = frame.one a b g r (subst (λ n. Rel n g) (sym same) q) in
          and_from (((b + 2) == (g + 2)) && bytes_eq x y)
          (same_context (named_there k a x).ctxt (named_there l c y).ctxt)
          (and_from ((b + 2) == (g + 2)) (bytes_eq x y) (eq-eqb (b + 2) (g + 2) (ap
          (λ n. n + 2) there)) both.1)
          (same-contexts (named_there k a x).ctxt (named_there l c y).ctxt
          (contexts-there k l a c x y same symbols))

      back : (((b + 2) == (g + 2)) && bytes_eq x y
          && same_context (named_there k a x).ctxt (named_there l c y).ctxt) ≡ true →
          (((a + 2) == (c + 2)) && bytes_eq x y && true) ≡ true
      back is =
          let front =
          and_parts (((b + 2) == (g + 2)) && bytes_eq x y)
          (same_context (named_there k a x).ctxt (named_there l c y).ctxt) is in
          let both = and_parts ((b + 2) == (g + 2)) (bytes_eq x y) front.0 in
          let orders : b + 2 ≡ g + 2 = eqb-true (b + 2) (g + 2) both.0 in
          let same : b ≡ g = omega (arith, orders) in
          let here : a ≡ c = frame.other a c g (subst (λ n. Rel a n) same r) q in
          and_from (((a + 2) == (c + 2)) && bytes_eq x y) true
          (and_from ((a + 2) == (c + 2)) (bytes_eq x y) (eq-eqb (a + 2) (c + 2) (ap
          (λ n. n + 2) here)) both.1)
          refl

  -- what is inside is inside there
  abbrev IsInsideBoth : Denoted → Denoted → Type 0
  IsInsideBoth d e = (is_inside 0 d ≡ is_inside 1 e) × (is_inside 0 d ≡ true → Becomes d e)

  inside-both : (o u : Occurrence) → Beside o u → IsInsideBoth (there o) (own_denoted the_item u)
  inside-both o u it = by (classify o u it)
    where
      by : InsideAt o u ⊎ FreeAt o u → IsInsideBoth (there o) (own_denoted the_item u)
      by (inl at) =
          let far = facts.its.from_seven at.from at.to at.goes in (
            ap (is_inside 0) at.before
                ∙ le-leb 0 at.from (omega arith)
                ∙ sym (ap (is_inside 1) at.after ∙ le-leb 1 at.to (omega (arith, far))),
            λ is. subst (λ d. Becomes d (own_denoted the_item u)) (sym at.before)
                (subst (λ e. Becomes (Bound (Inner at.kind at.from) (plain o.sym)) e) (sym at.after)
                (becomes at.goes)),
          )
      by (inr at) = (
        ap (is_inside 0) at.before ∙ sym (ap (is_inside 1) at.after),
        λ is. absurd (false≢true (sym (ap (is_inside 0) at.before) ∙ is)),
      )

  pub all-inside : (xs us : List Occurrence) → AllZip Beside xs us →
      AllZip IsInsideBoth (map there xs) (map (own_denoted the_item) us)
  all-inside [] [] all = tt
  all-inside [] (u ∷ us) all = absurd all
  all-inside (o ∷ xs) [] all = absurd all
  all-inside (o ∷ xs) (u ∷ us) all = (inside-both o u all.0, all-inside xs us all.1)

  -- Globals.

  -- what binds has no context of globals
  binds-not : (o u : Occurrence) → Beside o u → is_binding u.role ≡ true → u.ctxt ≡ 1 → ⊥
  binds-not o u it its_role one_is = by (classify o u it)
    where
      o_binds : is_binding o.role ≡ true
      o_binds = sym (ap is_binding it.made.role) ∙ its_role

      ways : (way : Way) × (way_of o.path ≡ Some way) × (way_of u.path ≡ Some way)
      ways = it.made.ways o_binds

      denotes : (d : Declared) → there o ≡ Bound (home_of its_ds d) d.name → there o
          ≡ Global o.sym → ⊥
      denotes d is global = let e : Bound (home_of its_ds d) d.name ≡ Global o.sym = sym is
          ∙ global in cc

      by : InsideAt o u ⊎ FreeAt o u → ⊥
      by (inl at) =
          let above : 1 < context (facts.holder at.from o.sym) = facts.apart.own
          (facts.holder at.from o.sym) at.holds in
          let is : context (facts.holder at.from o.sym) ≡ 1 = sym at.ctxt ∙ one_is in
          absurd (omega (arith, above, is))
      by (inr at) =
          denotes
          (record { place = o.place; name = name_of BySymbol o.sym o.ctxt; by = ways.0; scopes = scopes_around Es o.path })
          (ap (own_or_found its_ds (denoted_in BySymbol its_ds (scopes_around Es o.path)
          (name_of BySymbol o.sym o.ctxt)))
          (ap (λ b. cond b (declared_by o.place (name_of BySymbol o.sym o.ctxt)
          (scopes_around Es o.path) (way_of o.path)) None) o_binds
          ∙ ap (declared_by o.place (name_of BySymbol o.sym o.ctxt)
          (scopes_around Es o.path)) ways.1))
          at.before

  -- no declared name has it
  abbrev IsOther : List ℕ → Declared → Type 0
  IsOther x d = names_agree d.name (name_of ByContext x 1) ≡ false

  others : (x : List ℕ) (xs us : List Occurrence) → AllZip Beside xs us →
      AllOf (IsOther x) (declared_by_names us)
  others x [] [] all = tt
  others x [] (u ∷ us) all = absurd all
  others x (o ∷ xs) [] all = absurd all
  others x (o ∷ xs) (u ∷ us) all =
      by_role (is_binding u.role) refl (way_of u.path) (others x xs us all.1)
    where
      never : (b : Bool) → (b && false) ≡ false
      never true = refl
      never false = refl

      by_role : (b : Bool) → is_binding u.role ≡ b → (way : Option Way) →
          AllOf (IsOther x) (declared_by_names us) →
          AllOf (IsOther x)
          (cons_option (cond b (declared_by u.place (its_name u)
          (scopes_around Es u.path) way) None)
          (declared_by_names us))
      by_role false is way rest = rest
      by_role true is None rest = rest
      by_role true is (Some way) rest = (
        ap (λ b. bytes_eq u.sym x && b) (ne_eqb u.ctxt 1 (binds-not o u all.0 is))
            ∙ never (bytes_eq u.sym x),
        rest,
      )

  pub unheld : (x : List ℕ) → AllZip Beside (os list facts)
      (us list facts) →
      is_inner_name (own_declared the_item) (name_of ByContext x 1) ≡ false
  unheld x all =
      ap (λ ds. is_inner_name ds (name_of ByContext x 1))
      (item-declared list facts)
      ∙ inner-more 4 name_ident its_es (name_of ByContext x 1)
      ∙ any-none (IsOther x)
      (λ d. not (is_top (home_of its_es d)) && names_agree d.name (name_of ByContext x 1))
      (λ d other. ap (λ b. not (is_top (home_of its_es d)) && b) other ∙ never (not (is_top
      (home_of its_es d))))
      its_es (others x _ _ all)
    where
      never : (b : Bool) → (b && false) ≡ false
      never true = refl
      never false = refl

  -- an `arguments` that is a global stands in no function
  pub unbound-arguments : (o : Occurrence) → there o ≡ Global o.sym → o.sym ≡ codes "arguments" →
      find is_function (scopes_around Es o.path) ≡ None
  unbound-arguments o global is = by_role (is_binding o.role) (way_of o.path) global
    where
      nothing : (found : Option Scope) → bound_in (plain o.sym) found ≡ Global o.sym → found ≡ None
      nothing None e = refl
      nothing (Some scope) e = cc

      reference : denoted_by_symbol its_ds (scopes_around Es o.path)
          (name_of BySymbol o.sym o.ctxt) ≡ Global o.sym →
          find is_function (scopes_around Es o.path) ≡ None
      reference e =
          find-nothing (λ s. binds its_ds s (plain o.sym)) is_function
          (λ t fun. arguments-bind its_ds o.sym t
          (and_from (is_arguments o.sym) (is_function t) ((bytes_eq-Decides o.sym
          (codes "arguments")).1 is) fun))
          (scopes_around Es o.path)
          (nothing (find (λ s. binds its_ds s (plain o.sym)) (scopes_around Es o.path)) e)

      by_role : (b : Bool) (way : Option Way) →
          own_or_found its_ds
          (denoted_by_symbol its_ds (scopes_around Es o.path) (name_of BySymbol o.sym o.ctxt))
          (cond b (declared_by o.place (name_of BySymbol o.sym o.ctxt)
          (scopes_around Es o.path) way) None)
          ≡ Global o.sym →
          find is_function (scopes_around Es o.path) ≡ None
      by_role false way e = reference e
      by_role true None e = reference e
      by_role true (Some way) e = cc
