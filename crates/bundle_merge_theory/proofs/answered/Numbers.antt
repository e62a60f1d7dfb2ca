-- A tree that was resolved has the contexts of a numbering of its bindings.
use Rattle.std.proofs.Common.{◌≡◌, ◌≢◌, ◌↔◌, ℕ, zero, suc, ◌+◌, ◌==◌, ◌&&◌, Bool, true, false, cond, List, [], ◌∷◌, Some, option_map, map, slice_get, bytes_eq, refl, ap, sym, ◌∙◌, subst, eq-eqb, eqb-true}
use Rattle.std.specs.List.{AllZip}
use Rattle.std.proofs.lemmas.Bool.{false≢true, and_parts, and_from}
use Rattle.std.proofs.lemmas.Option.{none-some, same_Some, slice_get-map}
use Rattle.std.proofs.lemmas.Slice.Eq.{bytes_eq-Decides}
use Rattle.bundle_syntax.specs.Item.{Item}
use Rattle.bundle_rules.specs.Nodes.{Text}
use Rattle.bundle_rules.specs.Places.{Occurrence, start, occurrences}
use Rattle.bundle_rules.specs.Scopes.{Es, Scope, ScopeKind, Inner, scope_order}
use Rattle.bundle_rules.specs.Declarations.{BySymbol, ByContext, Name, Declared, declared}
use Rattle.bundle_rules.specs.Denotes.{Denoted, Bound, Global, by_symbol, denoted_of, denoted_at, denoted_as, denotations, SameIdent}
use Rattle.bundle_rules.specs.Contexts.{may_have_context}
use Rattle.bundle_rules.specs.Renamed.{IsResolvedFrom}
use Rattle.bundle_rules.specs.Symbols.{denoted_symbol}
use Rattle.bundle_rules.proofs.PlacesLemmas.{occurrences-at}
use Rattle.bundle_scope_names.proofs.FoundLemmas.{plain}
use Rattle.bundle_scope_names.proofs.Kept.{alike-without}
use Rattle.bundle_scope_names.proofs.TreeLemmas.{Table, DenotesOf, denoted-known, same-of, kind_in, occurrences-known, IsFor, denoted-for, ctxts}
use Rattle.bundle_scope_names.proofs.Numbering.{Numbering, context_of, IsNumbered}
use Rattle.bundle_merge_theory.proofs.answered.Resolving.{its-symbol, by-symbol, resolved-alike}
use Rattle.bundle_link_targets.proofs.StageLemmas.{map_at as map-at}
use Rattle.bundle_link.proofs.NumberedModuleLemmas.{zip_at as zip-get}

-- The context of the first that denotes a binding.

-- the context that stands beside the first binding of this symbol in a scope of this order
abbrev pub number_in : List Denoted → List ℕ → ℕ → Text → ℕ
number_in [] cs order x = 0
number_in (d ∷ ds) [] order x = 0
number_in (Global y ∷ ds) (c ∷ cs) order x = number_in ds cs order x
number_in (Bound s name ∷ ds) (c ∷ cs) order x =
    cond (scope_order s == order && bytes_eq name.sym x) c (number_in ds cs order x)

-- one that denotes it, which has that context
record Found (ds : List Denoted) (cs : List ℕ) (order : ℕ) (x : Text) (j : ℕ) : Type 0 where
  scope : Scope
  name : Name
  at : slice_get ds j ≡ Some (Bound scope name)
  ctxt : slice_get cs j ≡ Some (number_in ds cs order x)
  its_order : scope_order scope ≡ order
  its_symbol : name.sym ≡ x

order-of : Denoted → ℕ
order-of (Bound s name) = scope_order s
order-of (Global y) = 0

found : (ds : List Denoted) (cs : List ℕ) (i : ℕ) (s : Scope) (name : Name) (c : ℕ) →
    slice_get ds i ≡ Some (Bound s name) → slice_get cs i ≡ Some c →
    (j : ℕ) × Found ds cs (scope_order s) name.sym j
unfolding order-of
found [] cs i s name c at there = absurd (none-some (Bound s name) at)
found (d ∷ ds) [] i s name c at there = absurd (none-some c there)
found (Global y ∷ ds) (e ∷ cs) zero s name c at there =
    absurd (let is : Global y ≡ Bound s name = same_Some (Global y) (Bound s name) at in cc)
found (Global y ∷ ds) (e ∷ cs) (suc i) s name c at there =
    let rest = found ds cs i s name c at there in (
      suc rest.0,
      record {
        scope = rest.1.scope;
        name = rest.1.name;
        at = rest.1.at;
        ctxt = rest.1.ctxt;
        its_order = rest.1.its_order;
        its_symbol = rest.1.its_symbol;
      },
    )
found (Bound t its ∷ ds) (e ∷ cs) i s name c at there =
    by_test (scope_order t == scope_order s && bytes_eq its.sym name.sym) refl i at there
    (λ k first second. found ds cs k s name c first second)
  where
    by_test : (b : Bool) → (scope_order t == scope_order s && bytes_eq its.sym name.sym) ≡ b →
        (k : ℕ) → slice_get (Bound t its ∷ ds) k ≡ Some (Bound s name) →
        slice_get (e ∷ cs) k ≡ Some c →
        ((n : ℕ) → slice_get ds n ≡ Some (Bound s name) → slice_get cs n ≡ Some c →
        (j : ℕ) × Found ds cs (scope_order s) name.sym j) →
        (j : ℕ) × Found (Bound t its ∷ ds) (e ∷ cs) (scope_order s) name.sym j
    by_test true is k first second later =
        let both = and_parts (scope_order t == scope_order s) (bytes_eq its.sym name.sym) is in (
          0,
          record {
            scope = t;
            name = its;
            at = refl;
            ctxt =
                ap (λ b. Some (cond b e (number_in ds cs (scope_order s) name.sym))) (sym is);
            its_order = eqb-true (scope_order t) (scope_order s) both.0;
            its_symbol = (bytes_eq-Decides its.sym name.sym).0 both.1;
          },
        )
    by_test false is zero first second later =
        let same : Bound t its ≡ Bound s name = same_Some (Bound t its) (Bound s name) first in
        absurd (false≢true (sym is
        ∙ and_from (scope_order t == scope_order s) (bytes_eq its.sym name.sym)
        (eq-eqb (scope_order t) (scope_order s) (ap order-of same))
        ((bytes_eq-Decides its.sym name.sym).1 (ap denoted_symbol same))))
    by_test false is (suc k) first second later =
        let rest = later k first second in (
          suc rest.0,
          record {
            scope = rest.1.scope;
            name = rest.1.name;
            at = rest.1.at;
            ctxt =
                rest.1.ctxt
                ∙ ap (λ b. Some (cond b e (number_in ds cs (scope_order s) name.sym))) (sym is);
            its_order = rest.1.its_order;
            its_symbol = rest.1.its_symbol;
          },
        )

zip-same : (R : Denoted → Occurrence → Type 0) (f : Denoted → ℕ) (ds : List Denoted)
    (us : List Occurrence) → AllZip R ds us →
    ((i : ℕ) (d : Denoted) (u : Occurrence) → slice_get ds i ≡ Some d →
    slice_get us i ≡ Some u → u.ctxt ≡ f d) → ctxts us ≡ map f ds
zip-same R f [] [] all each = refl
zip-same R f [] (u ∷ us) all each = absurd all
zip-same R f (d ∷ ds) [] all each = absurd all
zip-same R f (d ∷ ds) (u ∷ us) all each =
    (λ i. each 0 d u refl refl i ∷ ctxts us)
    ∙ ap (λ cs. f d ∷ cs)
    (zip-same R f ds us all.1 (λ i e o at there. each (suc i) e o at there))

module _ (local next later : ℕ) (before after : List Item) (its : IsResolvedFrom Es local next later before after) where
  abbrev ds : List Denoted
  ds = denotations BySymbol Es before

  abbrev all : List Declared
  all = declared BySymbol Es before

  abbrev us : List Occurrence
  us = occurrences after

  -- what a name denotes in the tree that was resolved
  abbrev there : Occurrence → Denoted
  there u = denoted_of ByContext Es (declared ByContext Es after) u

  -- THE NUMBERING
  abbrev pub numbers : Numbering
  numbers order x = number_in ds (ctxts us) order x

  -- the name that stands there afterwards
  record After (i : ℕ) (d : Denoted) : Type 0 where
    u : Occurrence
    at : slice_get us i ≡ Some u
    is : by_symbol (there u) ≡ d

  after-at : (i : ℕ) (d : Denoted) → slice_get ds i ≡ Some d → After i d
  after-at i d at =
      let one =
      map-at by_symbol (denotations ByContext Es after) i d
      (ap (λ l. slice_get l i) its.resolution.same ∙ at) in
      let two = map-at there us i one.0 one.1 in
      record { u = two.0; at = two.1; is = ap by_symbol two.2 ∙ one.2 }

  denotes-at : (i : ℕ) (u : Occurrence) → slice_get us i ≡ Some u →
      denoted_at ByContext Es after u.place ≡ Some (there u)
  denotes-at i u at = ap (option_map there) (occurrences-at after i u at)

  listed-at : (i : ℕ) (u : Occurrence) → slice_get us i ≡ Some u →
      denoted_as ByContext Es after i ≡ Some (there u)
  listed-at i u at = slice_get-map there us i ∙ ap (option_map there) at

  -- two names have one symbol and one context exactly if they denote the same
  same-at : (i j : ℕ) (u v : Occurrence) → slice_get us i ≡ Some u → slice_get us j ≡ Some v →
      SameIdent u v ↔ (there u ≡ there v)
  same-at i j u v at also =
      let same =
      its.resolution.resolved.same u.place v.place u v (occurrences-at after i u at)
      (occurrences-at after j v also) in (
        λ ident.
            same_Some (there u) (there v)
            (sym (denotes-at i u at) ∙ same.0 ident ∙ denotes-at j v also),
        λ e. same.1 (denotes-at i u at ∙ ap Some e ∙ sym (denotes-at j v also)),
      )

  -- names of one binding have one context
  one-context : (i j : ℕ) (d : Denoted) (u v : Occurrence) → slice_get ds i ≡ Some d →
      slice_get ds j ≡ Some d → slice_get us i ≡ Some u → slice_get us j ≡ Some v →
      u.ctxt ≡ v.ctxt
  one-context i j d u v at also first second =
      ((same-at i j u v first second).1
      (same_Some (there u) (there v)
      (sym (listed-at i u first) ∙ its.resolution.one i j (at ∙ sym also)
      ∙ listed-at j v second))).1

  -- the symbol of what stands there
  its-sym : (i : ℕ) (u : Occurrence) (d : Denoted) → slice_get us i ≡ Some u →
      by_symbol (there u) ≡ d → u.sym ≡ denoted_symbol d
  its-sym i u d at is =
      sym (its-symbol ByContext Es (declared ByContext Es after) u)
      ∙ sym (by-symbol (there u))
      ∙ ap denoted_symbol is

  abbrev K : Table
  K = kind_in start before

  -- bindings of one symbol in scopes of one order are one
  one-binding : (i j : ℕ) (s t : Scope) (name other : Name) →
      slice_get ds i ≡ Some (Bound s name) → slice_get ds j ≡ Some (Bound t other) →
      scope_order t ≡ scope_order s → other.sym ≡ name.sym → Bound t other ≡ Bound s name
  one-binding i j s t name other at also orders symbols =
      let one = map-at (denoted_of BySymbol Es all) (occurrences before) i (Bound s name) at in
      let two = map-at (denoted_of BySymbol Es all) (occurrences before) j (Bound t other) also in
      let first : name ≡ plain one.0.sym =
      subst (IsFor one.0.sym) one.2 (denoted-for Es all one.0) in
      let second : other ≡ plain two.0.sym =
      subst (IsFor two.0.sym) two.2 (denoted-for Es all two.0) in
      let known =
      subst (DenotesOf K) one.2
      (denoted-known K Es all one.0 (occurrences-known before i one.0 one.1)) in
      let also_known =
      subst (DenotesOf K) two.2
      (denoted-known K Es all two.0 (occurrences-known before j two.0 two.1)) in
      let scopes : t ≡ s = same-of K t s also_known known orders in
      let names : other ≡ name =
      second
      ∙ ap plain (ap (λ (k : Name). k.sym) (sym second) ∙ symbols
      ∙ ap (λ (k : Name). k.sym) first)
      ∙ sym first in
      λ k. Bound (scopes k) (names k)

  -- each name has the context of the numbering
  pub numbered-so : (i : ℕ) (d : Denoted) (u : Occurrence) → slice_get ds i ≡ Some d →
      slice_get us i ≡ Some u → u.ctxt ≡ context_of numbers d
  numbered-so i (Global y) u at there_is =
      eqb-true u.ctxt 1
      (zip-get (λ d (o : Occurrence). may_have_context local next later d o.ctxt ≡ true) ds us
      its.contexts.given i (Global y) u at there_is)
  numbered-so i (Bound s name) u at there_is =
      let it =
      found ds (ctxts us) i s name u.ctxt at
      (slice_get-map (λ (o : Occurrence). o.ctxt) us i
      ∙ ap (option_map (λ (o : Occurrence). o.ctxt)) there_is) in
      let same =
      one-binding i it.0 s it.1.scope name it.1.name at it.1.at it.1.its_order it.1.its_symbol in
      let other = map-at (λ (o : Occurrence). o.ctxt) us it.0 (numbers (scope_order s) name.sym) it.1.ctxt in
      one-context i it.0 (Bound s name) u other.0 at (it.1.at ∙ ap Some same) there_is other.1
      ∙ other.2

  -- a binding inside is one afterwards, of the same scope, and its name has that context
  pub record BoundAfter (i : ℕ) (kind : ScopeKind) (begins : ℕ) (number : ℕ) : Type 0 where
    pub u : Occurrence
    pub name : Name
    pub at : slice_get us i ≡ Some u
    pub denotes : denoted_as ByContext Es after i ≡ Some (Bound (Inner kind begins) name)
    pub ctxt : u.ctxt ≡ number

  pub bound-after : (i : ℕ) (kind : ScopeKind) (begins : ℕ) (name : Name) →
      slice_get ds i ≡ Some (Bound (Inner kind begins) name) →
      BoundAfter i kind begins (numbers (begins + 2) name.sym)
  bound-after i kind begins name at =
      let it = after-at i (Bound (Inner kind begins) name) at in
      let other = bound (there it.u) it.is in
      record {
        u = it.u;
        name = other.0;
        at = it.at;
        denotes = listed-at i it.u it.at ∙ ap Some other.1;
        ctxt = numbered-so i (Bound (Inner kind begins) name) it.u at it.at;
      }
    where
      bound : (d : Denoted) → by_symbol d ≡ Bound (Inner kind begins) name →
          (other : Name) × (d ≡ Bound (Inner kind begins) other)
      bound (Bound s other) is =
          let scopes : s ≡ Inner kind begins = cc in (other, ap (λ t. Bound t other) scopes)
      bound (Global y) is = absurd cc

  -- and bindings of one symbol and one number are in one scope
  pub numbered-apart : (i j : ℕ) (s t : Scope) (name other : Name) →
      slice_get ds i ≡ Some (Bound s name) → slice_get ds j ≡ Some (Bound t other) →
      name.sym ≡ other.sym →
      numbers (scope_order s) name.sym ≡ numbers (scope_order t) other.sym →
      scope_order s ≡ scope_order t
  unfolding order-of
  numbered-apart i j s t name other at also symbols numbers_same =
      let one = after-at i (Bound s name) at in
      let two = after-at j (Bound t other) also in
      let syms : one.u.sym ≡ two.u.sym =
      its-sym i one.u (Bound s name) one.at one.is ∙ symbols
      ∙ sym (its-sym j two.u (Bound t other) two.at two.is) in
      let contexts : one.u.ctxt ≡ two.u.ctxt =
      numbered-so i (Bound s name) one.u at one.at ∙ numbers_same
      ∙ sym (numbered-so j (Bound t other) two.u also two.at) in
      let same = (same-at i j one.u two.u one.at two.at).0 (syms, contexts) in
      ap order-of (sym one.is ∙ ap by_symbol same ∙ two.is)

  -- the tree is numbered so, where no binding has the context of globals
  pub is-numbered : ((i : ℕ) (s : Scope) (name : Name) → slice_get ds i ≡ Some (Bound s name) →
      numbers (scope_order s) name.sym ≢ 1) → IsNumbered numbers Es before after
  is-numbered own = record {
    same = alike-without (resolved-alike Es local next later before after its);
    contexts =
        zip-same
        (λ d (o : Occurrence). may_have_context local next later d o.ctxt ≡ true)
        (context_of numbers) ds us its.contexts.given numbered-so;
    own = own;
    apart = numbered-apart;
  }
