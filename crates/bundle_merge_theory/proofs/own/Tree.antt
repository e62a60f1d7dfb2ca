-- What the names of an item denote by itself that is made of a statement: inner bindings, and names
-- of other contexts.
-- A top item of a module: where it stands, and which names and declarations of the module are its
-- own.
use Rattle.std.proofs.Common.{◌≡◌, ◌≢◌, ◌⊎◌, inl, inr, ℕ, ◌+◌, ◌==◌, Bool, true, false, cond, not, ◌&&◌, List, ◌++◌, Option, Some, None, find, slice_get, bytes_eq, refl, ap, sym, ◌∙◌, subst, eqb-true, eq-eqb, zero, suc, [], ◌∷◌, fold, length, arith}
use Rattle.std.proofs.lemmas.Bool.{false≢true, false_from_ne_true, and_parts}
use Rattle.std.proofs.lemmas.Option.{none-some, same_Some}
use Rattle.std.specs.Prelude.{Contains}
use Rattle.std.specs.List.{AllByRecursion}
use Rattle.bundle_syntax.specs.Item as h
use Rattle.bundle_syntax.specs.Item.{Item, Head}
use Rattle.bundle_rules.specs.Places.{Occurrence, occurrences, occurrences_from, Spot, start, past, in_field}
use Rattle.bundle_rules.specs.Scopes.{Es, Scope, ScopeKind, Wrapper, Top, Inner, scope_order, same_scope, scopes_around}
use Rattle.bundle_rules.specs.Declarations.{BySymbol, ByContext, names_agree, contexts_agree, Declared, declaration_of, declared}
use Rattle.bundle_rules.specs.Homes.{home_of, is_top, is_arguments, is_function}
use Rattle.bundle_rules.specs.Denotes.{Denoted, Bound, Global, without_context, bound_in, is_written_in, is_implied_in, written_or_implied, denoted_by_context, denoted_in, own_or_found, denoted_of}
use Rattle.bundle_rules.specs.Idents.{Ident, ident_of}
use Rattle.bundle_rules.specs.Parts.{tree_of_items}
use Rattle.bundle_rules.specs.Meaning.{Label}
use Rattle.bundle_rules.specs.Program.{Program}
use Rattle.bundle_rules.specs.Nodes.{parts}
use Rattle.bundle_rules.specs.Statements.{TopItem, placed, top_items}
use Rattle.bundle_tree_rebuild.specs.Work.{Step}
use Rattle.bundle_scope_names.proofs.Numbering.{Numbering, context_of, is_identified, lifted, lift_all, is_written, given}
use Rattle.bundle_scope_names.proofs.HomesLemmas.{list_any-found, find-none, Each, home-lifted, same_order}
use Rattle.bundle_scope_names.proofs.FoundLemmas.{plain, with}
use Rattle.bundle_scope_names.proofs.TreeLemmas.{DeclaresOrNot, DoesNot, Does, declares_or_not, declaration_by_way, each-declared, each-occurrence, its_context}
use Rattle.bundle_scope_names.proofs.Kept.{occurrences-append as occurrences_append}
use Rattle.bundle_scope_names.specs.fit.Sorts.{AModule, AnItem}
use Rattle.bundle_scope_names.specs.fit.Fits
use Rattle.bundle_scope_names.specs.fit.Fits.{IsFit}
use Rattle.bundle_link.proofs.NodePaths.{fold-place}
use Rattle.bundle_merge_theory.proofs.joined.Notes.{InnerOf, inner-of, Viewed, written, implicit, unbound, viewed, inner-declared}
use Rattle.bundle_merge_theory.specs.joined.Joined.{own_declared, is_global_written as is_written_binding, AllOf}
use Rattle.bundle_merge_theory.specs.joined.Notes.{its_name, own_denoted, is_inner_denoted, is_inner_name, IsListedIn}
use Rattle.bundle_merge_theory.specs.joined.Alike.{inners}
use Rattle.bundle_merge_theory.proofs.joined.Declarations.{IsNamed, declared_by_names, declared-item}
use Rattle.bundle_merge_theory.proofs.joined.Denotes.{identified, nothing-implied}
use Rattle.bundle_merge_theory.proofs.joined.Paths.{get-map, all-more, get-append, get-right, get-left, item-occurrences, IsIn, IsNodeIn, IsSpotIn, IsOccurrenceIn, occurrences-in}
use Rattle.bundle_merge_theory.specs.grouped.Renaming.{HasWays}
use Rattle.bundle_merge_theory.specs.noted.Nodes.{AreNodesInTurn}
use Rattle.bundle_merge_theory.specs.noted.Agrees.{IsSpotAt}
use Rattle.bundle_merge_theory.proofs.noted.Spots.{around_spot, fold-path, at-place}
use Rattle.bundle_merge_theory.proofs.noted.Names.{top_there, StandsThere}
use Rattle.bundle_merge_theory.specs.made.Given.{BundleContexts, ident_of_label}
use Rattle.bundle_merge_theory.specs.made.Alone.{IsTopLabel, IsInnerAlone}
use Rattle.bundle_merge_theory.specs.composed.Noted.{first_spot}
use Rattle.bundle_merge_theory.specs.own.Beside.{Pairs, Paired, MadeOf, top_spot}
use Rattle.bundle_merge_theory.proofs.own.Alongside.{declared_names, names-plain, names-known, told-at, denotes-given, its_numbering, IsAlongside, one, numbers-alike, IsKnownName, lifts, InsideMade, inside-made, HomeMade, home_top, home_inner, es-homes, HasWay}
use Rattle.bundle_merge_theory.proofs.fit.Facts.{fit_nodes}
use Rattle.bundle_merge_theory.proofs.fit.Clearing.{items_of_module, no_name}
use Rattle.bundle_merge_theory.proofs.own.Stated.{IsAway, IsDeclaredAway}
use Rattle.bundle_merge_theory.proofs.own.Elements.{Has, contains-has}
use Rattle.bundle_merge_theory.proofs.labels.Modules.{module-head as module_head}

-- ---- outer

-- a name of the top that no inner scope of the item declares denotes no inner binding in the bundle
pub top-not-inner : (p : Program) (list : List ℕ) (context : BundleContexts) (item : List Item) →
    IsNamed item → (u : Occurrence) → IsListedIn item u →
    is_inner_name (own_declared item) (its_name u) ≡ false → (l : Label) → IsTopLabel p l →
    ident_of u ≡ ident_of_label p list context l → IsInnerAlone p list context item u → ⊥
top-not-inner p list context item named u listed no_inner l top ident inner_u = by it.by
  where
    it : InnerOf item u (own_denoted item u)
    it = inner-of item u (viewed item named u listed) inner_u.is

    by : (is_inner_name (own_declared item) (its_name u) ≡ true)
        ⊎ ((is_written_binding (own_denoted item u) ≡ false) × ((u.ctxt == 1) ≡ false)) → ⊥
    by (inl declares) = false≢true (sym no_inner ∙ declares)
    by (inr implied) = inner_u.unless implied.0 l top ident

-- OUTER: a name that no inner scope of the item declares, and that is not called `arguments` or is
-- one of globals, denotes no inner binding
module _ (item : List Item) (named : IsNamed item) (u : Occurrence) (listed : IsListedIn item u)
    (strange : is_inner_name (own_declared item) (its_name u) ≡ false)
    (other : (is_arguments u.sym ≡ false) ⊎ (u.ctxt ≡ 1)) where
  not_implicit : (scope : Scope) →
      own_denoted item u ≡ Bound scope (without_context (its_name u)) → ⊥
  not_implicit scope is = by (declares_or_not Es u)
    where
      ctxt_of : Denoted → Option ℕ
      ctxt_of (Bound s name) = name.ctxt
      ctxt_of (Global x) = Some 0

      declares : (d : Declared) → declaration_of ByContext Es u ≡ Some d → d.name.ctxt ≡ Some
          u.ctxt → ⊥
      declares d has its =
          none-some u.ctxt
          (sym (ap ctxt_of (sym (ap (own_or_found (own_declared item)
          (denoted_in ByContext (own_declared item) (scopes_around Es u.path) (its_name u))) has) ∙
          is)) ∙ its)

      refers : own_denoted item u ≡ denoted_by_context (own_declared item) (scopes_around Es u.path)
          (its_name u) → ⊥
      refers denotes =
          found (find (λ s. is_written_in (own_declared item) s (its_name u))
          (scopes_around Es u.path))
          (sym denotes ∙ is)
        where
          implied_in : (is_arguments u.sym ≡ false) → (s : Scope) →
              is_implied_in (own_declared item) s (its_name u) ≡ false
          implied_in differs s =
              nothing-implied (own_declared item) (identified item named) s (its_name u)
              ∙ ap (λ b. b && is_function s) differs

          not_found : (is_arguments u.sym ≡ false) ⊎ (u.ctxt ≡ 1) →
              cond (u.ctxt == 1) (Global u.sym)
              (bound_in (without_context (its_name u))
              (find (λ s. is_implied_in (own_declared item) s (its_name u))
              (scopes_around Es u.path)))
              ≡ Bound scope (without_context (its_name u)) → ⊥
          not_found (inr first) e =
              none-some 0 (sym (ap ctxt_of
              (sym (ap (λ b. cond b (Global u.sym)
              (bound_in (without_context (its_name u))
              (find (λ s. is_implied_in (own_declared item) s (its_name u))
              (scopes_around Es u.path)))) (eq-eqb u.ctxt 1 first)) ∙ e)))
          not_found (inl differs) e = by_test (u.ctxt == 1)
              (sym (ap (λ o. cond (u.ctxt == 1) (Global u.sym)
              (bound_in (without_context (its_name u)) o))
              (find-none (λ s. is_implied_in (own_declared item) s (its_name u))
              (implied_in differs) (scopes_around Es u.path))) ∙ e)
            where
              by_test : (b : Bool) → cond b (Global u.sym) (Global u.sym) ≡ Bound scope
                  (without_context (its_name u)) → ⊥
              by_test true e = none-some 0 (sym (ap ctxt_of e))
              by_test false e = none-some 0 (sym (ap ctxt_of e))

          found : (o : Option Scope) →
              written_or_implied (own_declared item) (scopes_around Es u.path) (its_name u) o
              ≡ Bound scope (without_context (its_name u)) → ⊥
          found (Some s) e = none-some u.ctxt (sym (ap ctxt_of e))
          found None e = not_found other e

      by : DeclaresOrNot Es u → ⊥
      by (Does way known here later) =
          declares (record (declaration_by_way Es u way) { name = with u.sym u.ctxt })
          (later u.ctxt) refl
      by (DoesNot never) =
          refers (ap (own_or_found (own_declared item)
          (denoted_in ByContext (own_declared item) (scopes_around Es u.path) (its_name u)))
          (never ByContext u.ctxt))

  pub outer-own : is_inner_denoted (own_denoted item u) ≡ false
  outer-own = by (viewed item named u listed) refl
    where
      by : {d : Denoted} → Viewed item u d → own_denoted item u ≡ d → is_inner_denoted d ≡ false
      by (written Wrapper at is) e = refl
      by (written Top at is) e = refl
      by (written (Inner kind begins) at is) e =
          absurd (false≢true (sym strange ∙ inner-declared (own_declared item) kind begins
          (its_name u) is))
      by (implicit scope at differs fun) e = absurd (not_implicit scope e)
      by unbound e = refl

-- what is told of the contexts of the bindings inside a statement, whose names these are
pub record AreTold (ds : List Declared) (g : Numbering) (os : List Occurrence) : Type 0 where
  pub own : (i : ℕ) (o : Occurrence) (kind : ScopeKind) (a : ℕ) → slice_get os i ≡ Some o →
      denoted_of BySymbol Es ds o ≡ Bound (Inner kind a) (plain o.sym) → (x : List ℕ) →
      g (a + 2) x ≢ 1
  pub top : (i : ℕ) (o : Occurrence) (kind : ScopeKind) (a : ℕ) → slice_get os i ≡ Some o →
      denoted_of BySymbol Es ds o ≡ Bound (Inner kind a) (plain o.sym) → (x y : List ℕ) →
      g (a + 2) x ≢ g 1 y
  pub apart : (i j : ℕ) (o q : Occurrence) (kind its : ScopeKind) (a b : ℕ) →
      slice_get os i ≡ Some o → slice_get os j ≡ Some q →
      denoted_of BySymbol Es ds o ≡ Bound (Inner kind a) (plain o.sym) →
      denoted_of BySymbol Es ds q ≡ Bound (Inner its b) (plain q.sym) → (x y : List ℕ) →
      g (a + 2) x ≡ g (b + 2) y → a ≡ b
  pub kinds : (i j : ℕ) (o q : Occurrence) (kind its : ScopeKind) (a : ℕ) →
      slice_get os i ≡ Some o → slice_get os j ≡ Some q →
      denoted_of BySymbol Es ds o ≡ Bound (Inner kind a) (plain o.sym) →
      denoted_of BySymbol Es ds q ≡ Bound (Inner its a) (plain q.sym) → kind ≡ its

-- a context that is none of the bindings inside
abbrev pub IsStrange : List Declared → Numbering → List Occurrence → ℕ → Type 0
IsStrange ds g os c =
    (i : ℕ) (o : Occurrence) (kind : ScopeKind) (a : ℕ) → slice_get os i ≡ Some o →
    denoted_of BySymbol Es ds o ≡ Bound (Inner kind a) (plain o.sym) → (x : List ℕ) →
    g (a + 2) x ≡ c → ⊥

module _ (ds : List Declared) (g : Numbering) (low high last : ℕ) (its : Pairs)
    (meta : Option Ident) (default : Ident) (given_items : List Item)
    (os : List Occurrence) (steps : List Step) (front rest : List Occurrence)
    (along : IsAlongside ds g low high last its meta default given_items os steps front rest)
    (told : AreTold ds g os) (item : List Item) (named : IsNamed item)
    (are : occurrences_from first_spot item ≡ front ++ rest) where
  abbrev f : Numbering
  f = its_numbering its g

  abbrev es : List Declared
  es = declared_names (front ++ rest)

  all-names : occurrences (tree_of_items item) ≡ front ++ rest
  all-names = item-occurrences item ∙ are

  pub own-lifted : own_declared item ≡ lift_all f es
  own-lifted =
      declared-item item named
      ∙ ap declared_by_names all-names
      ∙ lifts ds g low high last its meta default given_items os steps front rest along

  -- STRANGE contexts are of no inner name
  pub strange-outside : (x : List ℕ) (c : ℕ) → IsStrange ds g os c →
      is_inner_name (own_declared item) (with x c) ≡ false
  strange-outside x c strange =
      ap (λ all. is_inner_name all (with x c)) own-lifted
      ∙ false_from_ne_true (is_inner_name (lift_all f es) (with x c)) found
    where
      found : is_inner_name (lift_all f es) (with x c) ≡ true → ⊥
      found is =
          let it = list_any-found (λ d. not (is_top (home_of (lift_all f es) d)) && names_agree
          d.name (with x c)) (lift_all f es) is in
          let from = get-map (lifted f es) es it.0 it.1 it.2 in
          let parts = and_parts (not (is_top (home_of (lift_all f es) it.1)))
          (names_agree it.1.name (with x c)) it.3 in
          by it.1 from.0 from.2 (names-known (front ++ rest) it.0 from.0 from.1)
          (names-plain (front ++ rest) it.0 from.0 from.1)
          (es-homes ds g low high last its meta default given_items os steps front rest along it.0
          from.0 from.1) parts.0 parts.1
        where
          by : (l d : Declared) → l ≡ lifted f es d → is_identified d.by ≡ true → d.name.ctxt ≡
              None →
              HomeMade ds g low high last its meta default given_items os steps front rest along d →
              not (is_top (home_of (lift_all f es) l)) ≡ true → names_agree l.name (with x c) ≡
              true → ⊥
          by l d is known plain_it (home_top top) inner agrees =
              false≢true (sym (ap (λ s. not (is_top s))
              (ap (home_of (lift_all f es)) is ∙ home-lifted f es d plain_it ∙ top)) ∙ inner)
          by l d is known plain_it (home_inner {kind = kind} {a = a} {b = b} i o there r denotes
              symbol home) inner agrees =
              let parts = and_parts (bytes_eq l.name.sym x) (contexts_agree l.name.ctxt (Some c))
              agrees in
              strange i o kind a there denotes d.name.sym
              (sym number
              ∙ eqb-true (f (scope_order (home_of es d)) d.name.sym) c
              (ap (λ t. contexts_agree (cond t (Some (f (scope_order (home_of es d)) d.name.sym))
              None) (Some c)) (sym known)
              ∙ sym (ap (λ (e : Declared). contexts_agree e.name.ctxt (Some c)) is) ∙ parts.1))
            where
              number : f (scope_order (home_of es d)) d.name.sym ≡ g (a + 2) d.name.sym
              number =
                  ap (λ s. f (scope_order s) d.name.sym) home
                  ∙ numbers-alike ds g low high last its meta default given_items os steps front
                  rest along (inners {kind = kind} r) d.name.sym

  -- INSIDE: a name with the context of an inner binding denotes that binding
  pub inside-own : (j : ℕ) (i : ℕ) (o u : Occurrence) (step : Step) →
      slice_get (front ++ rest) j ≡ Some u →
      IsKnownName ds g low high last its meta default given_items os steps front rest along o →
      MadeOf (Paired its) o u step →
      ident_of u ≡ (o.sym, context_of g (denoted_of BySymbol Es ds o)) → (kind : ScopeKind)
      (a : ℕ) →
      slice_get os i ≡ Some o →
      denoted_of BySymbol Es ds o ≡ Bound (Inner kind a) (plain o.sym) →
      (b : ℕ) × Paired its a b × (own_denoted item u ≡ given f es
      (Bound (Inner kind b) (plain u.sym)))
  inside-own j i o u step at known it ident kind a there denotes = (
    made.b,
    made.goes,
    ap (λ all. denoted_of ByContext Es all u) own-lifted
        ∙ denotes-given f es (names-plain (front ++ rest)) u number
        (λ d is. told-at (declaration_of BySymbol Es) (front ++ rest) j u d at is)
        own apart
        ∙ ap (given f es) made.denotes,
  )
    where
      symbol : u.sym ≡ o.sym
      symbol = ap (λ (i : Ident). i.0) ident

      made : InsideMade ds g low high last its meta default given_items os steps front rest along o
          u kind a
      made = inside-made ds g low high last its meta default given_items os steps front rest along o
          u step known it symbol kind a denotes

      its_number : (x : List ℕ) → f (made.b + 2) x ≡ g (a + 2) x
      its_number x = numbers-alike ds g low high last its meta default given_items os steps front
          rest along (inners {kind = kind} made.goes) x

      number : u.ctxt ≡ its_context f Es es u
      number =
          ap (λ (i : Ident). i.1) ident
          ∙ ap (context_of g) denotes
          ∙ sym (its_number o.sym)
          ∙ ap (f (made.b + 2)) (sym symbol)
          ∙ sym (ap (context_of f) made.denotes)

      scope_of : Denoted → Scope
      scope_of (Bound s n) = s
      scope_of (Global x) = Top

      same_scope_of : (s : Scope) → denoted_of BySymbol Es es u ≡ Bound s (plain u.sym) → s ≡ Inner
          kind made.b
      same_scope_of s is = ap scope_of (sym is ∙ made.denotes)

      own : (s : Scope) → denoted_of BySymbol Es es u ≡ Bound s (plain u.sym) → f (scope_order s)
          u.sym ≢ 1
      own s is one =
          told.own i o kind a there denotes u.sym
          (sym (its_number u.sym) ∙ ap (λ t. f (scope_order t) u.sym) (sym (same_scope_of s is)) ∙
          one)

      apart : (s t : Scope) → denoted_of BySymbol Es es u ≡ Bound s (plain u.sym) →
          is_written es t u.sym ≡ true → f (scope_order t) u.sym ≡ f (scope_order s) u.sym →
          scope_order t ≡ scope_order s
      apart s t is has numbers =
          let it = list_any-found (λ (e : Declared). is_identified e.by &&
          (same_scope (home_of es e) t && bytes_eq e.name.sym u.sym)) es has in
          let parts = and_parts (is_identified it.1.by)
          (same_scope (home_of es it.1) t && bytes_eq it.1.name.sym u.sym) it.3 in
          let more = and_parts (same_scope (home_of es it.1) t) (bytes_eq it.1.name.sym u.sym)
          parts.1 in
          let order : scope_order (home_of es it.1) ≡ scope_order t = same_order (home_of es it.1) t
          more.0 in
          sym order
          ∙ by it.1 (ap (λ n. f n u.sym) order ∙ numbers ∙ ap (λ q. f (scope_order q) u.sym)
          (same_scope_of s is) ∙ its_number u.sym)
          (es-homes ds g low high last its meta default given_items os steps front rest along it.0
          it.1 it.2)
          ∙ ap scope_order (sym (same_scope_of s is))
        where
          by : (d : Declared) → f (scope_order (home_of es d)) u.sym ≡ g (a + 2) u.sym →
              HomeMade ds g low high last its meta default given_items os steps front rest along d →
              scope_order (home_of es d) ≡ made.b + 2
          by d same (home_top top) =
              absurd (told.top i o kind a there denotes u.sym u.sym
              (sym same ∙ ap (λ q. f (scope_order q) u.sym) top))
          by d same (home_inner {kind = its_kind} {a = c} {b = b} k q there_too r denotes_too
              symbol_too home) =
              let a_is : c ≡ a = told.apart k i q o its_kind kind c a there_too there denotes_too
              denotes u.sym u.sym
              (sym (numbers-alike ds g low high last its meta default given_items os steps front
              rest along (inners {kind = its_kind} r) u.sym)
              ∙ ap (λ z. f (scope_order z) u.sym) (sym home) ∙ same) in
              let b_is : b ≡ made.b = (one ds g low high last its meta default given_items os steps
              front rest along).one a b made.b
              (subst (λ n. Paired its n b) a_is r) made.goes in
              ap scope_order home ∙ ap (λ n. n + 2) b_is

-- ---- tree

-- where a top item stands
pub record StandsAtTop (tree : List Item) (top : TopItem) : Type 0 where
  pub field : ℕ
  pub tail : List Item
  pub at : IsSpotAt tree (top_spot top.start field) (top.items ++ tail)
  pub nodes : AreNodesInTurn top.items

pub stands-at_top : (tree : List Item) → IsFit AModule 0 tree → (top : TopItem) →
    Contains (top_items tree) top → StandsAtTop tree top
stands-at_top _ (Fits.name {role = role} it) top has = absurd (no_name role it)
stands-at_top _ (Fits.node {field = n} {head = head} {inside = inside} it in_it) top has =
    by head (module_head head it) (top_there n head (fit_nodes in_it) [] top has)
  where
    by : (head : Head) → head ≡ h.Module →
        StandsThere (h.Open n head ∷ (inside ++ h.Close ∷ [])) (around_spot head 0 0 ∷ []) top →
        StandsAtTop (h.Open n head ∷ (inside ++ h.Close ∷ [])) top
    by head is there = record {
      field = there.field;
      tail = there.tail;
      at =
          subst (λ s. IsSpotAt (h.Open n head ∷ (inside ++ h.Close ∷ [])) s (top.items ++ there.tail))
          (λ i. record {
            place = there.place i;
            path =
                (there.path_is ∙ ap (λ hd. around_spot hd 0 there.field ∷ []) is) i;
          }) there.at;
      nodes = there.nodes;
    }

placed-fit : (n : ℕ) (nodes : List (List Item)) → AllByRecursion (IsFit AnItem 0) nodes →
    (top : TopItem) → Has (placed n nodes) top → IsFit AnItem 0 top.items
placed-fit n [] fits top has = absurd has
placed-fit n (items ∷ more) fits top (inl e) = subst (λ (t : TopItem). IsFit AnItem 0 t.items) e
    fits.0
placed-fit n (items ∷ more) fits top (inr has) = placed-fit (n + length items) more fits.1 top has

pub top-fit : (tree : List Item) → IsFit AModule 0 tree → (top : TopItem) →
    Contains (top_items tree) top → IsFit AnItem 0 top.items
top-fit tree it top has =
    placed-fit 1 (parts tree) (items_of_module it) top (contains-has (top_items tree) top has)

-- The names of a tree, before, in and behind a part.

module _ (tree : List Item) (s : Spot) (items tail : List Item) (at : IsSpotAt tree s (items ++ tail))
    (nodes : AreNodesInTurn items) (field : ℕ) (path : s.path ≡ around_spot h.Module 0 field ∷ []) where
  abbrev os : List Occurrence
  os = occurrences_from s items

  abbrev high : ℕ
  high = s.place + length items

  names-are : occurrences tree
      ≡ occurrences_from start at.front ++ (os ++ occurrences_from (fold past s items) tail)
  names-are =
      ap occurrences at.tree_is
      ∙ occurrences_append start at.front (items ++ tail)
      ∙ ap (λ t. occurrences_from start at.front ++ occurrences_from t (items ++ tail))
      (sym at.spot_is)
      ∙ ap (λ l. occurrences_from start at.front ++ l) (occurrences_append s items tail)

  -- a name of the part is one of the tree
  pub name-there : (i : ℕ) (o : Occurrence) → slice_get os i ≡ Some o →
      (j : ℕ) × (slice_get (occurrences tree) j ≡ Some o)
  name-there i o is =
      let it = get-right (occurrences_from start at.front)
      (os ++ occurrences_from (fold past s items) tail) i o
      (get-left os (occurrences_from (fold past s items) tail) i o is) in
      (it.0, ap (λ l. slice_get l it.0) names-are ∙ it.1)

  each-of : {A : Type 0} (P : A → Type 0) (xs : List A) → AllOf P xs → Each P xs
  each-of P [] all = λ i x is. absurd (none-some x is)
  each-of {A = A} P (y ∷ ys) all = λ i x is. by i x is (each-of P ys all.1)
    where
      by : (i : ℕ) (x : A) → slice_get (y ∷ ys) i ≡ Some x → Each P ys → P x
      by zero x is rest = subst P (same_Some y x is) all.0
      by (suc i) x is rest = rest i x is

  spot-here : IsSpotIn s.place s
  spot-here = (omega arith, subst (AllOf (IsNodeIn s.place s.place)) (sym path) (inl refl, tt))

  pub within : Each (IsOccurrenceIn s.place high) os
  within =
      each-of (IsOccurrenceIn s.place high) os
      (occurrences-in s.place high items s spot-here (omega arith))

  -- the scopes around another name are away
  abbrev IsAwayName : Occurrence → Type 0
  IsAwayName o = AllOf (IsAway s.place high) (scopes_around Es o.path)

  before-away : (scope : Scope) → IsIn 0 s.place scope → IsAway s.place high scope
  before-away Wrapper is = tt
  before-away Top is = tt
  before-away (Inner kind begins) is = inl is.1

  behind-away : (last : ℕ) (scope : Scope) → IsIn high last scope → IsAway s.place high scope
  behind-away last Wrapper is = tt
  behind-away last Top is = tt
  behind-away last (Inner kind begins) is = inr is.0

  names-before : Each IsAwayName (occurrences_from start at.front)
  names-before =
      let place = at-place at in
      each-of IsAwayName (occurrences_from start at.front)
      (all-more (IsOccurrenceIn 0 s.place) IsAwayName
      (λ o. all-more (IsIn 0 s.place) (IsAway s.place high) before-away (scopes_around Es o.path))
      (occurrences_from start at.front)
      (occurrences-in 0 s.place at.front start (omega arith, tt) (omega (arith, place))))

  spot-behind : IsSpotIn high (fold past s items)
  spot-behind =
      let place = fold-place s items in
      let its = fold-path nodes s in (
        omega (arith, place),
        subst (AllOf (IsNodeIn high (fold past s items).place))
            (sym (its.1 ∙ ap (in_field its.0) path)) (inl refl, tt),
      )

  names-behind : Each IsAwayName (occurrences_from (fold past s items) tail)
  names-behind =
      let place = fold-place s items in
      each-of IsAwayName (occurrences_from (fold past s items) tail)
      (all-more (IsOccurrenceIn high (high + length tail)) IsAwayName
      (λ o. all-more (IsIn high (high + length tail)) (IsAway s.place high)
      (behind-away (high + length tail)) (scopes_around Es o.path))
      (occurrences_from (fold past s items) tail)
      (occurrences-in high (high + length tail) tail (fold past s items) spot-behind
      (omega (arith, place))))

  -- each name of the tree is away, or one of the part
  each-name : Each (λ o. IsAwayName o ⊎ ((i : ℕ) × (slice_get os i ≡ Some o))) (occurrences tree)
  each-name j o is =
      by (get-append (occurrences_from start at.front)
      (os ++ occurrences_from (fold past s items) tail) j o
      (ap (λ l. slice_get l j) (sym names-are) ∙ is))
    where
      on : (k : ℕ) → (slice_get os k ≡ Some o) ⊎
          ((i : ℕ) × (slice_get (occurrences_from (fold past s items) tail) i ≡ Some o)) →
          IsAwayName o ⊎ ((i : ℕ) × (slice_get os i ≡ Some o))
      on k (inl here) = inr (k, here)
      on k (inr behind) = inl (names-behind behind.0 o behind.1)

      by : (slice_get (occurrences_from start at.front) j ≡ Some o)
          ⊎ ((i : ℕ) × (slice_get (os ++ occurrences_from (fold past s items) tail) i ≡ Some o)) →
          IsAwayName o ⊎ ((i : ℕ) × (slice_get os i ≡ Some o))
      by (inl before) = inl (names-before j o before)
      by (inr later) = on later.0 (get-append os (occurrences_from (fold past s items) tail) later.0
          o later.1)

  abbrev ds : List Declared
  ds = declared BySymbol Es tree

  -- DECLARED
  pub own-declared : Each (λ o. (d : Declared) → declaration_of BySymbol Es o ≡ Some d →
      (i : ℕ) × (slice_get ds i ≡ Some d)) os
  own-declared i o is d its =
      let there = name-there i o is in
      each-occurrence (λ d. (j : ℕ) × (slice_get ds j ≡ Some d)) BySymbol Es tree
      (λ j d at. (j, at)) there.0 o there.1 d its

  declared-scopes : (o : Occurrence) (d : Declared) → declaration_of BySymbol Es o ≡ Some d →
      d.scopes ≡ scopes_around Es o.path
  declared-scopes o d is = by (declares_or_not Es o)
    where
      by : DeclaresOrNot Es o → d.scopes ≡ scopes_around Es o.path
      by (DoesNot never) = absurd (none-some d (sym (never BySymbol o.ctxt) ∙ is))
      by (Does way known here later) =
          ap (λ (e : Declared). e.scopes) (sym (same_Some _ d (sym here ∙ is)))

  pub all-declared : Each (λ d. IsDeclaredAway s.place high d
      ⊎ ((i : ℕ) × (o : Occurrence) × (slice_get os i ≡ Some o)
      × (declaration_of BySymbol Es o ≡ Some d))) ds
  all-declared =
      each-declared
      (λ d. IsDeclaredAway s.place high d
      ⊎ ((i : ℕ) × (o : Occurrence) × (slice_get os i ≡ Some o) ×
      (declaration_of BySymbol Es o ≡ Some d)))
      (λ o. IsAwayName o ⊎ ((i : ℕ) × (slice_get os i ≡ Some o))) BySymbol Es
      (λ x. inl (tt, tt)) (λ place. inl (tt, tt)) by tree each-name
    where
      by : (o : Occurrence) (d : Declared) → IsAwayName o ⊎ ((i : ℕ) × (slice_get os i ≡ Some o)) →
          declaration_of BySymbol Es o ≡ Some d →
          IsDeclaredAway s.place high d
          ⊎ ((i : ℕ) × (o : Occurrence) × (slice_get os i ≡ Some o) ×
          (declaration_of BySymbol Es o ≡ Some d))
      by o d (inl away) is = inl (subst (AllOf (IsAway s.place high)) (sym (declared-scopes o d is))
          away)
      by o d (inr there) is = inr (there.0, o, there.1, is)

  pub all-ways : HasWays tree → AllOf HasWay os
  all-ways ways = go os (λ i o is. name-there i o is)
    where
      go : (some : List Occurrence) →
          ((i : ℕ) (o : Occurrence) → slice_get some i ≡ Some o → (j : ℕ) ×
          (slice_get (occurrences tree) j ≡ Some o)) →
          AllOf HasWay some
      go [] there = tt
      go (o ∷ some) there = (
        λ binds. let it = there 0 o refl in ways.way it.0 o it.1 binds,
        go some (λ i q is. there (suc i) q is),
      )
