-- Where no name of a CommonJS module is declared twice, its top binds no name of a parameter; so
-- one context for the top and the wrapper tells their bindings apart.
-- Such a walk turns a statement into one of the load function.
use Rattle.std.proofs.Common.{◌≡◌, ◌≢◌, ℕ, zero, suc, ◌+◌, ◌<◌, ◌≤◌, ◌==◌, ◌⊎◌, inl, inr, Bool, true, false, cond, not, ◌&&◌, ◌||◌, List, [], ◌∷◌, ◌++◌, Option, Some, None, is_some, unwrap_or, slice_get, find, bytes_eq, refl, ap, ap₂, sym, ◌∙◌, subst, arith, codes, ne_eqb, append_assoc}
use Rattle.std.specs.Prelude.{nat_lt, option_map, if◌then◌else◌}
use Rattle.std.specs.List.{list_any, cons_option}
use Rattle.std.proofs.lemmas.Bool.{false≢true, and_parts, and_from, or_left, or_right, false_from_ne_true, le-leb, and_right}
use Rattle.std.proofs.lemmas.Option.{none-some, same_Some, slice_get-map}
use Rattle.std.proofs.lemmas.Slice.Eq.{bytes_eq-Decides}
use Rattle.bundle_syntax.specs.Item as h
use Rattle.bundle_syntax.specs.Item.{Item, Head}
use Rattle.bundle_syntax.specs.declared.piece.Role.{Role}
use Rattle.bundle_syntax.specs.declared.piece.Role.TheVariants as r
use Rattle.bundle_rules.specs.Places.{Around, Spot, past, Occurrence, occurrence_of, occurrences, occurrences_from}
use Rattle.bundle_rules.specs.Scopes.{Cjs, Scope, ScopeKind, Wrapper, Top, Inner, FunctionBody, scope_order, same_scope, kind_of_scope, scope_at, scopes_around}
use Rattle.bundle_rules.specs.Declarations.{Way, ByVar, ByFunction, ByParameter, ByCatch, ByFunctionName, ByClassName, ByWrapper, BySymbol, Name, names_agree, Declared, declaration_of, wrapper_parameter}
use Rattle.bundle_rules.specs.Homes.{is_parameters, is_wrapper, takes, from_taker, nearest, taker, parameters_of, joins_parameter, is_parameter, home_beside, home_of, group_of, is_declared_in, declares, binds, is_arguments}
use Rattle.bundle_rules.specs.Doubled.{stands_once, is_lexical, stands_beside, excludes, clash, is_doubled, first_doubled}
use Rattle.bundle_rules.specs.Denotes.{Denoted, Bound, bound_in, denoted_in, own_or_found, denoted_of, denotations}
use Rattle.bundle_rules.specs.Idents.{Ident}
use Rattle.bundle_rules.specs.Parts.{tree_of_items}
use Rattle.bundle_rules.specs.Linking.{Target, Declared as IsDeclared}
use Rattle.bundle_rules.specs.Meaning.{Label, Of, Parameter}
use Rattle.bundle_rules.specs.Symbols.{denoted_symbol}
use Rattle.bundle_rules.specs.Nodes.{Text}
use Rattle.bundle_rules.specs.Rebuilds.{Change, key_in_object, plain_key}
use Rattle.bundle_rules.specs.Callable.{is_module_head}
use Rattle.bundle_tree_places.specs.Edits.{Around as Around_walk, Anywhere, InObject, InSpecifier, node, binding, in_its_place, pattern_in_its_place, shorthand_in_its_place}
use Rattle.bundle_scope_names.proofs.Numbering.{Numbering, is_identified}
use Rattle.bundle_scope_names.proofs.HomesLemmas.{Each, list_any-found, list_any-here, find-passes, find-failed, names_agree-by_symbol, bytes_same as same_symbol}
use Rattle.bundle_scope_names.proofs.FoundLemmas.{plain}
use Rattle.bundle_scope_names.proofs.TreeLemmas.{each-occurrence, DeclaresOrNot, DoesNot, Does, declares_or_not, declaration_by_way}
use Rattle.bundle_order.proofs.EntryLemmas.{occurrence_of-place as occurrence_place}
use Rattle.bundle_merge_theory.specs.loaded.Kept.{IsDeclarationTaken, TellsApart}
use Rattle.bundle_merge_theory.specs.loaded.Turned.{Turned, begun, declares as declares_walk, ended, named, word, empty, called}
use Rattle.bundle_merge_theory.specs.loaded.Item.{module_start, declared_by_names}
use Rattle.bundle_merge_theory.specs.loaded.Loaded.{module_declared, module_names}
use Rattle.bundle_merge_theory.specs.loaded.Contexts.{GivesLocal, OwnEntry, top_entry, wrapper_entry, parameter_entry}
use Rattle.bundle_merge_theory.proofs.loaded.Noted.{picked, declared-module}
use Rattle.bundle_merge_theory.proofs.joined.Bindings.{scope_in}
use Rattle.bundle_merge_theory.specs.walked.Work.{Work, change_at}
use Rattle.bundle_merge_theory.specs.walked.Becomes.{reference, kept_notes}
use Rattle.bundle_merge_theory.specs.walked.Rewrites.{Rewrites, Nothing, Joined, Hole, Word, Name as Name_walk, Inside, Declaration, Kept, Shorthand, OfReads, OfCall, OfMeta}
use Rattle.bundle_merge_theory.specs.loaded.Walk.{IsFine}

-- ---- parameters

-- Scopes of a CommonJS module.

pub data Chain : List Scope → Type 0 where
  last : Chain (Top ∷ Wrapper ∷ [])
  further : {kind : ScopeKind} {a : ℕ} {ss : List Scope} → Chain ss → Chain (Inner kind a ∷ ss)

pub chain-around : (path : List Around) → Chain (scopes_around Cjs path)
chain-around [] = last
chain-around (node ∷ outer) = by (kind_of_scope node.head node.field outer) (chain-around outer)
  where
    by : (k : Option ScopeKind) → Chain (scopes_around Cjs outer) →
        Chain (scope_at node.begins k ++ scopes_around Cjs outer)
    by None rest = rest
    by (Some kind) rest = further rest

-- who takes a name that an identifier declares
data TakenIn (way : Way) : List Scope → Type 0 where
  nobody : TakenIn way []
  by_top : takes way Top ≡ true → TakenIn way (Top ∷ Wrapper ∷ [])
  by_inner : {kind : ScopeKind} {a : ℕ} {ts : List Scope} → Chain ts →
      TakenIn way (Inner kind a ∷ ts)

no-wrapper : (way : Way) → is_identified way ≡ true → takes way Wrapper ≡ false
no-wrapper ByWrapper is = absurd (false≢true is)
no-wrapper _ is = refl

taken-in : (way : Way) → is_identified way ≡ true → {ss : List Scope} → Chain ss →
    TakenIn way (from_taker way ss)
taken-in way known last = by (takes way Top) refl (takes way Wrapper) (no-wrapper way known)
  where
    by : (b : Bool) → takes way Top ≡ b → (c : Bool) → c ≡ false →
        TakenIn way (cond b (Top ∷ Wrapper ∷ []) (cond c (Wrapper ∷ []) []))
    by true is c none = by_top is
    by false is true none = absurd (false≢true (sym none))
    by false is false none = nobody
taken-in way known (further {kind = kind} {a = a} {ss = ss} rest) =
    by (takes way (Inner kind a)) (taken-in way known rest)
  where
    by : (b : Bool) → TakenIn way (from_taker way ss) →
        TakenIn way (cond b (Inner kind a ∷ ss) (from_taker way ss))
    by true ih = by_inner rest
    by false ih = ih

-- an inner scope is neither the top nor the wrapper
inner-order : (kind : ScopeKind) (a n : ℕ) → n < 2 → ((a + 2) == n) ≡ false
inner-order kind a n small = ne_eqb (a + 2) n (λ e. omega (arith, e, small))

-- no parameter belongs to the top
no-top : (s : Scope) → ((is_parameters s || is_wrapper s) && same_scope s Top) ≡ false
no-top Wrapper = refl
no-top Top = refl
no-top (Inner kind a) =
    ap (λ b. (is_parameters (Inner kind a) || is_wrapper (Inner kind a)) && b)
    (inner-order kind a 1 (omega arith))
    ∙ and_right (is_parameters (Inner kind a) || is_wrapper (Inner kind a)) false refl

no-parameter : (name : Name) (ds : List Declared) → list_any (is_parameter Top name) ds ≡ false
no-parameter name [] = refl
no-parameter name (d ∷ ds) =
    ap₂ (λ (a : Bool) (b : Bool). (a && names_agree d.name name) || b) (no-top (taker d))
    (no-parameter name ds)

-- where an inner scope takes a name, it belongs to an inner scope
abbrev IsInner : Scope → Type 0
IsInner Wrapper = ⊥
IsInner Top = ⊥
IsInner (Inner kind a) = Unit {0}

inner-home : (ds : List Declared) (d : Declared) (kind : ScopeKind) (a : ℕ) (ts : List Scope) →
    Chain ts → from_taker d.by d.scopes ≡ Inner kind a ∷ ts → IsInner (home_of ds d)
inner-home ds d kind a ts chain is =
    subst (λ fs. IsInner (cond (joins_parameter d.by) (home_beside ds d (parameters_of fs))
    (unwrap_or (nearest fs) Top))) (sym is) (by (joins_parameter d.by) (of_kind kind chain))
  where
    its_taker : IsInner (taker d)
    its_taker = subst (λ fs. IsInner (unwrap_or (nearest fs) Top)) (sym is) tt

    choose : (b : Bool) (s : Scope) → IsInner s → IsInner (cond b s (taker d))
    choose true s its = its
    choose false s its = its_taker

    of_kind : {ts : List Scope} (kind : ScopeKind) → Chain ts →
        IsInner (home_beside ds d (parameters_of (Inner kind a ∷ ts)))
    of_kind FunctionBody last =
        subst (λ b. IsInner (cond b Top (taker d))) (sym (no-parameter d.name ds)) its_taker
    of_kind FunctionBody (further {kind = other} {a = b} rest) =
        choose (list_any (is_parameter (Inner other b) d.name) ds) (Inner other b) tt
    of_kind _ chain = its_taker

    by : (b : Bool) → IsInner (home_beside ds d (parameters_of (Inner kind a ∷ ts))) →
        IsInner (cond b (home_beside ds d (parameters_of (Inner kind a ∷ ts))) (Inner kind a))
    by true its = its
    by false its = tt

inner-not : (s : Scope) → IsInner s → (same_scope s Top ≡ false) × (same_scope s Wrapper ≡ false)
inner-not Wrapper its = absurd its
inner-not Top its = absurd its
inner-not (Inner kind a) its =
    (inner-order kind a 1 (omega arith), inner-order kind a 0 (omega arith))

-- a lexical name of the top stands once
once : (way : Way) → is_identified way ≡ true → takes way Top ≡ true →
    joins_parameter way ≡ false → stands_once way (Top ∷ Wrapper ∷ []) ≡ true
once ByVar known takes joins = absurd (false≢true (sym joins))
once ByFunction known takes joins = absurd (false≢true (sym joins))
once ByParameter known takes joins = absurd (false≢true takes)
once ByCatch known takes joins = absurd (false≢true takes)
once ByFunctionName known takes joins = absurd (false≢true takes)
once ByClassName known takes joins = absurd (false≢true takes)
once ByWrapper known takes joins = absurd (false≢true known)
once _ known takes joins = refl

-- names stand behind the beginning
place-behind : (s : Spot) (xs : List Item) (i : ℕ) (o : Occurrence) →
    slice_get (occurrences_from s xs) i ≡ Some o → s.place ≤ o.place
place-behind s [] i o at = absurd (none-some o at)
place-behind s (x ∷ xs) i o at =
    by (occurrence_of s x) (occurrence_place s x) i at
    (λ j is. let ih = place-behind (past s x) xs j o is in omega (arith, ih))
  where
    by : (p : Option Occurrence) → ((o : Occurrence) → p ≡ Some o → o.place ≡ s.place) → (i : ℕ) →
        slice_get (cons_option p (occurrences_from (past s x) xs)) i ≡ Some o →
        ((j : ℕ) → slice_get (occurrences_from (past s x) xs) j ≡ Some o → s.place ≤ o.place) →
        s.place ≤ o.place
    by None same i at rest = rest i at
    by (Some q) same zero at rest =
        let here = same o (ap Some (same_Some q o at)) in omega (arith, here)
    by (Some q) same (suc j) at rest = rest j at

module _ {L : Ident → Type 0} {xs ys : List Item} (w : Turned L zero xs ys)
    (taken : Each IsDeclarationTaken (module_declared xs)) (undoubled : first_doubled Cjs (tree_of_items xs)
    ≡ None) where
  abbrev ds : List Declared
  ds = module_declared xs

  -- the parameters are declared
  abbrev pub IsParameterName : List ℕ → Type 0
  IsParameterName x = (x ≡ codes "module") ⊎ (x ≡ codes "exports")

  pub wrapper-listed : (x : List ℕ) → IsParameterName x →
      (j : ℕ) × (slice_get ds j ≡ Some (wrapper_parameter x))
  wrapper-listed x (inl is) = (
    0,
    ap (λ list. slice_get list 0) (declared-module w)
        ∙ ap (λ y. Some (wrapper_parameter y)) (sym is),
  )
  wrapper-listed x (inr is) = (
    1,
    ap (λ list. slice_get list 1) (declared-module w)
        ∙ ap (λ y. Some (wrapper_parameter y)) (sym is),
  )

  -- what is declared by an identifier, at its place
  pub record IsOwnName (d : Declared) : Type 0 where
    pub o : Occurrence
    pub way : Way
    pub known : is_identified way ≡ true
    pub is : d ≡ declaration_by_way Cjs o way
    pub place : 1 ≤ o.place

  sources : (j : ℕ) (d : Declared) → slice_get ds j ≡ Some d →
      ((x : List ℕ) × IsParameterName x × (d ≡ wrapper_parameter x)) ⊎ IsOwnName d
  sources j d at = by j (sym (ap (λ list. slice_get list j) (declared-module w)) ∙ at)
    where
      own : (o : Occurrence) → 1 ≤ o.place → declaration_of BySymbol Cjs o ≡ Some d →
          DeclaresOrNot Cjs o → IsOwnName d
      own o place is (DoesNot never) = absurd (none-some d (sym (never BySymbol o.ctxt) ∙ is))
      own o place is (Does way known its later) =
          record {
            o = o;
            way = way;
            known = known;
            is = same_Some d (declaration_by_way Cjs o way) (sym is ∙ its);
            place = place;
          }

      by : (j : ℕ) →
          slice_get (wrapper_parameter (codes "module") ∷ wrapper_parameter (codes "exports")
          ∷ declared_by_names BySymbol Cjs (module_names xs)) j ≡ Some d →
          ((x : List ℕ) × IsParameterName x × (d ≡ wrapper_parameter x)) ⊎ IsOwnName d
      by zero at = inl (codes "module", inl refl, sym (same_Some _ d at))
      by (suc zero) at = inl (codes "exports", inr refl, sym (same_Some _ d at))
      by (suc (suc j)) at =
          let it = picked (declaration_of BySymbol Cjs) (module_names xs) j d at in
          inr (own it.1 (place-behind module_start xs it.0 it.1 it.2) it.3
          (declares_or_not Cjs it.1))

  -- UNDOUBLED: the top binds no parameter's name
  pub top-free : (x : List ℕ) → IsParameterName x → declares ds Top (plain x) ≡ false
  top-free x which = false_from_ne_true (declares ds Top (plain x)) (λ holds.
      let it = list_any-found (is_declared_in ds Top (plain x)) ds holds in
      let parts = and_parts (same_scope (home_of ds it.1) Top) _ it.3 in
      from it.0 it.1 it.2 parts.0 (sym (names_agree-by_symbol it.1.name (plain x) refl) ∙ parts.1)
      (sources it.0 it.1 it.2))
    where
      same_name : (d : Declared) → bytes_eq d.name.sym x ≡ true →
          names_agree (plain x) d.name ≡ true
      same_name d symbol =
          and_from (bytes_eq x d.name.sym) _
          ((bytes_eq-Decides x d.name.sym).1 (sym (same_symbol d.name.sym x symbol))) refl

      lexical : (j : ℕ) (d : Declared) → slice_get ds j ≡ Some d → IsOwnName d →
          bytes_eq d.name.sym x ≡ true → from_taker d.by d.scopes ≡ Top ∷ Wrapper ∷ [] →
          takes d.by Top ≡ true → joins_parameter d.by ≡ false → ⊥
      lexical j d at own symbol is takes_it joins =
          let first = wrapper-listed x which in
          let far : 1 ≤ d.place = subst (λ (e : Declared). 1 ≤ e.place) (sym own.is) own.place in
          let known : is_identified d.by ≡ true = ap (λ (e : Declared). is_identified e.by) own.is
          ∙ own.known in
          let excluded : excludes d (wrapper_parameter x) ≡ true =
          or_left (is_lexical d && stands_beside d (wrapper_parameter x)) _
          (and_from (is_lexical d) _ (ap (stands_once d.by) is
          ∙ once d.by known takes_it joins)
          (or_right (same_scope Wrapper (taker d)) _
          (ap (λ fs. same_scope Wrapper (group_of fs)) is))) in
          let clashes : clash (wrapper_parameter x) d ≡ true =
          and_from (names_agree (plain x) d.name && not (0 == d.place)) _
          (and_from (names_agree (plain x) d.name) _ (same_name d symbol)
          (ap not (ne_eqb 0 d.place (λ e. omega (arith, e, far)))))
          (or_right (excludes (wrapper_parameter x) d) _ excluded) in
          let doubled : is_doubled ds d ≡ true =
          list_any-here (λ earlier. nat_lt earlier.place d.place && clash earlier d) ds first.0
          (wrapper_parameter x) first.1
          (and_from (nat_lt 0 d.place) _ (le-leb 1 d.place far) clashes) in
          false≢true (sym (find-failed (is_doubled ds) ds undoubled j d at) ∙ doubled)

      from : (j : ℕ) (d : Declared) → slice_get ds j ≡ Some d →
          same_scope (home_of ds d) Top ≡ true → bytes_eq d.name.sym x ≡ true →
          ((y : List ℕ) × IsParameterName y × (d ≡ wrapper_parameter y)) ⊎ IsOwnName d → ⊥
      from j d at home symbol (inl (y, its, is)) =
          false≢true (ap (λ (e : Declared). same_scope (home_of ds e) Top) (sym is) ∙ home)
      from j d at home symbol (inr own) =
          go (from_taker d.by d.scopes) refl
          (subst (λ (e : Declared). TakenIn e.by (from_taker e.by e.scopes)) (sym own.is)
          (taken-in own.way own.known (chain-around own.o.path)))
        where
          top_home : takes d.by Top ≡ true → from_taker d.by d.scopes ≡ Top ∷ Wrapper ∷ [] →
              (b : Bool) → joins_parameter d.by ≡ b → ⊥
          top_home takes is false joins = lexical j d at own symbol is takes joins
          top_home takes is true joins =
              let first = wrapper-listed x which in
              let beside : list_any (is_parameter Wrapper d.name) ds ≡ true =
              list_any-here (is_parameter Wrapper d.name) ds first.0 (wrapper_parameter x)
              first.1 (same_name d symbol) in
              let wrapped : home_of ds d ≡ Wrapper =
              ap (λ b. cond b (home_beside ds d (parameters_of (from_taker d.by d.scopes)))
              (taker d)) joins
              ∙ (ap (λ fs. home_beside ds d (parameters_of fs)) is
              ∙ ap (λ b. cond b Wrapper (taker d)) beside) in
              false≢true (ap (λ home. same_scope home Top) (sym wrapped) ∙ home)

          go : (ts : List Scope) → from_taker d.by d.scopes ≡ ts → TakenIn d.by ts → ⊥
          go ts is nobody = false≢true (ap (λ fs. is_some (nearest fs)) (sym is) ∙ taken j d at)
          go ts is (by_top takes) = top_home takes is (joins_parameter d.by) refl
          go ts is (by_inner {kind = kind} {a = a} {ts = more} chain) =
              false≢true (sym (inner-not (home_of ds d) (inner-home ds d kind a more chain is)).0
              ∙ home)

  -- what is listed
  listed-occurrence : (i : ℕ) (d : Denoted) →
      slice_get (denotations BySymbol Cjs (tree_of_items xs)) i ≡ Some d →
      (o : Occurrence) × (slice_get (occurrences (tree_of_items xs)) i ≡ Some o)
      × (denoted_of BySymbol Cjs ds o ≡ d)
  listed-occurrence i d at =
      by (slice_get (occurrences (tree_of_items xs)) i) refl
      (sym (slice_get-map (denoted_of BySymbol Cjs ds) (occurrences (tree_of_items xs)) i)
      ∙ at)
    where
      by : (p : Option Occurrence) → slice_get (occurrences (tree_of_items xs)) i ≡ p →
          option_map (denoted_of BySymbol Cjs ds) p ≡ Some d →
          (o : Occurrence) × (slice_get (occurrences (tree_of_items xs)) i ≡ Some o)
          × (denoted_of BySymbol Cjs ds o ≡ d)
      by None is same = absurd (none-some d same)
      by (Some o) is same = (o, is, same_Some (denoted_of BySymbol Cjs ds o) d same)

  listed-declared : (i : ℕ) (o : Occurrence) →
      slice_get (occurrences (tree_of_items xs)) i ≡ Some o → (d : Declared) →
      declaration_of BySymbol Cjs o ≡ Some d → (j : ℕ) × (slice_get ds j ≡ Some d)
  listed-declared i o at d is =
      each-occurrence (λ d. (j : ℕ) × (slice_get ds j ≡ Some d)) BySymbol Cjs (tree_of_items xs)
      (λ j d at. (j, at)) i o at d is

  top-function : (x : List ℕ) → binds ds Top (plain x) ≡ declares ds Top (plain x)
  top-function x = by (declares ds Top (plain x)) (is_arguments x)
    where
      by : (a b : Bool) → (a || (b && false)) ≡ a
      by true b = refl
      by false true = refl
      by false false = refl

  -- a binding of the top is declared there
  pub bound-top : (i : ℕ) (m : Name) →
      slice_get (denotations BySymbol Cjs (tree_of_items xs)) i ≡ Some (Bound Top m) →
      declares ds Top (plain m.sym) ≡ true
  bound-top i m at =
      let it = listed-occurrence i (Bound Top m) at in by it.0 it.1 it.2 (declares_or_not Cjs it.0)
    where
      found : (x : List ℕ) (ss : List Scope) (p : Option Scope) →
          find (λ s. binds ds s (plain x)) ss ≡ p → bound_in (plain x) p ≡ Bound Top m →
          declares ds Top (plain m.sym) ≡ true
      found x ss None is same = absurd cc
      found x ss (Some s) is same =
          let top : s ≡ Top = ap scope_in same in
          let symbol : x ≡ m.sym = ap denoted_symbol same in
          subst (λ y. declares ds Top (plain y) ≡ true) symbol (sym (top-function x)
          ∙ (ap (λ u. binds ds u (plain x)) (sym top)
          ∙ find-passes (λ s. binds ds s (plain x)) ss s is))

      by : (o : Occurrence) → slice_get (occurrences (tree_of_items xs)) i ≡ Some o →
          denoted_of BySymbol Cjs ds o ≡ Bound Top m → DeclaresOrNot Cjs o →
          declares ds Top (plain m.sym) ≡ true
      by o here is (DoesNot never) =
          found o.sym (scopes_around Cjs o.path)
          (find (λ s. binds ds s (plain o.sym)) (scopes_around Cjs o.path)) refl
          (sym (ap (own_or_found ds
          (denoted_in BySymbol ds (scopes_around Cjs o.path) (plain o.sym)))
          (never BySymbol o.ctxt)) ∙ is)
      by o here is (Does way known own later) =
          let d : Declared = declaration_by_way Cjs o way in
          let listed = listed-declared i o here d own in
          let same : Bound (home_of ds d) (plain o.sym) ≡ Bound Top m =
          sym (ap (own_or_found ds
          (denoted_in BySymbol ds (scopes_around Cjs o.path) (plain o.sym))) own) ∙ is in
          let top : home_of ds d ≡ Top = ap scope_in same in
          let symbol : o.sym ≡ m.sym = ap denoted_symbol same in
          list_any-here (is_declared_in ds Top (plain m.sym)) ds listed.0 d listed.1
          (and_from (same_scope (home_of ds d) Top) _ (ap (λ s. same_scope s Top) top)
          (names_agree-by_symbol (plain o.sym) (plain m.sym) refl
          ∙ (bytes_eq-Decides o.sym m.sym).1 symbol))

  found-chain : (p : Scope → Bool) {ss : List Scope} → Chain ss → find p ss ≡ Some Wrapper →
      p Top ≡ false
  found-chain p last is = by (p Top) is
    where
      by : (b : Bool) → cond b (Some Top) (cond (p Wrapper) (Some Wrapper) None) ≡ Some Wrapper →
          b ≡ false
      by true same = absurd (top-wrapper (same_Some Top Wrapper same))
        where
          top-wrapper : Top ≡ Wrapper → ⊥
          top-wrapper same = cc
      by false same = refl
  found-chain p (further {kind = kind} {a = a} {ss = ss} rest) is =
      by (p (Inner kind a)) is (λ more. found-chain p rest more)
    where
      by : (b : Bool) → cond b (Some (Inner kind a)) (find p ss) ≡ Some Wrapper →
          (find p ss ≡ Some Wrapper → p Top ≡ false) → p Top ≡ false
      by true same ih = absurd (inner-wrapper (same_Some (Inner kind a) Wrapper same))
        where
          inner-wrapper : Inner kind a ≡ Wrapper → ⊥
          inner-wrapper same = cc
      by false same ih = ih same

  -- the scope that takes what an identifier declares is not the wrapper
  taker-apart : (j : ℕ) (d : Declared) → slice_get ds j ≡ Some d → IsOwnName d →
      same_scope (taker d) Wrapper ≡ false
  taker-apart j d at own =
      go (from_taker d.by d.scopes) refl
      (subst (λ (e : Declared). TakenIn e.by (from_taker e.by e.scopes)) (sym own.is)
      (taken-in own.way own.known (chain-around own.o.path)))
    where
      go : (ts : List Scope) → from_taker d.by d.scopes ≡ ts → TakenIn d.by ts →
          same_scope (taker d) Wrapper ≡ false
      go ts is nobody =
          absurd (false≢true (ap (λ fs. is_some (nearest fs)) (sym is) ∙ taken j d at))
      go ts is (by_top takes_it) = ap (λ fs. same_scope (unwrap_or (nearest fs) Top) Wrapper) is
      go ts is (by_inner {kind = kind} {a = a} chain) =
          ap (λ fs. same_scope (unwrap_or (nearest fs) Top) Wrapper) is
          ∙ inner-order kind a 0 (omega arith)

  -- what joins a parameter has its name
  joined : (name : Name) → name ≡ plain name.sym → list_any (is_parameter Wrapper name) ds ≡ true →
      IsParameterName name.sym
  joined name bare holds =
      let it = list_any-found (is_parameter Wrapper name) ds holds in
      let whole = and_parts ((is_parameters (taker it.1) || is_wrapper (taker it.1))
      && same_scope (taker it.1) Wrapper) _ it.3 in
      let parts = and_parts (is_parameters (taker it.1) || is_wrapper (taker it.1)) _ whole.0 in
      by it.0 it.1 it.2 parts.1 whole.1 (sources it.0 it.1 it.2)
    where
      by : (j : ℕ) (d : Declared) → slice_get ds j ≡ Some d → same_scope (taker d) Wrapper ≡ true →
          names_agree d.name name ≡ true →
          ((y : List ℕ) × IsParameterName y × (d ≡ wrapper_parameter y)) ⊎ IsOwnName d →
          IsParameterName name.sym
      by j d at same agrees (inr own) = absurd (false≢true (sym (taker-apart j d at own) ∙ same))
      by j d at same agrees (inl (y, its, is)) =
          let symbol : bytes_eq y name.sym ≡ true =
          (and_parts (bytes_eq y name.sym) _
          (ap (λ (e : Declared). names_agree e.name name) (sym is) ∙ agrees)).0 in
          subst IsParameterName (same_symbol y name.sym symbol) its

  -- a binding of the wrapper has no name that the top declares
  pub bound-wrapper : (i : ℕ) (m : Name) →
      slice_get (denotations BySymbol Cjs (tree_of_items xs)) i ≡ Some (Bound Wrapper m) →
      declares ds Top (plain m.sym) ≡ false
  bound-wrapper i m at =
      let it = listed-occurrence i (Bound Wrapper m) at in
      by it.0 it.1 it.2 (declares_or_not Cjs it.0)
    where
      found : (x : List ℕ) {ss : List Scope} → Chain ss → (p : Option Scope) →
          find (λ s. binds ds s (plain x)) ss ≡ p → bound_in (plain x) p ≡ Bound Wrapper m →
          declares ds Top (plain m.sym) ≡ false
      found x chain None is same = absurd cc
      found x chain (Some s) is same =
          let wrapped : s ≡ Wrapper = ap scope_in same in
          let symbol : x ≡ m.sym = ap denoted_symbol same in
          subst (λ y. declares ds Top (plain y) ≡ false) symbol (sym (top-function x)
          ∙ found-chain (λ s. binds ds s (plain x)) chain (is ∙ ap Some wrapped))

      own-name : (o : Occurrence) (way : Way) → is_identified way ≡ true →
          declaration_of BySymbol Cjs o ≡ Some (declaration_by_way Cjs o way) →
          slice_get (occurrences (tree_of_items xs)) i ≡ Some o →
          home_of ds (declaration_by_way Cjs o way) ≡ Wrapper → IsParameterName o.sym
      own-name o way known own here home =
          go (from_taker way (scopes_around Cjs o.path)) refl
          (taken-in way known (chain-around o.path))
        where
          d : Declared
          d = declaration_by_way Cjs o way

          top-wrapper : Top ≡ Wrapper → ⊥
          top-wrapper same = cc

          go : (ts : List Scope) → from_taker way (scopes_around Cjs o.path) ≡ ts →
              TakenIn way ts → IsParameterName o.sym
          go ts is nobody =
              let listed = listed-declared i o here (declaration_by_way Cjs o way) own in
              absurd (false≢true (ap (λ fs. is_some (nearest fs)) (sym is)
              ∙ taken listed.0 (declaration_by_way Cjs o way) listed.1))
          go ts is (by_inner {kind = kind} {a = a} {ts = rest} chain) =
              absurd (subst IsInner home
              (inner-home ds (declaration_by_way Cjs o way) kind a rest chain is))
          go ts is (by_top takes_it) = joins (joins_parameter way) refl
            where
              its_home : cond (joins_parameter way)
                  (cond (list_any (is_parameter Wrapper (plain o.sym)) ds) Wrapper Top) Top
                  ≡ Wrapper
              its_home =
                  sym ((λ k. cond (joins_parameter way)
                  (home_beside ds (declaration_by_way Cjs o way) (parameters_of (is k)))
                  (unwrap_or (nearest (is k)) Top))
                  ∙ ap (λ s. cond (joins_parameter way)
                  (cond (list_any (is_parameter Wrapper (plain o.sym)) ds) Wrapper s) Top)
                  (ap (λ fs. unwrap_or (nearest fs) Top) is))
                  ∙ home

              joins : (b : Bool) → joins_parameter way ≡ b → IsParameterName o.sym
              joins false e =
                  absurd (top-wrapper
                  (sym (ap (λ b. cond b
                  (cond (list_any (is_parameter Wrapper (plain o.sym)) ds) Wrapper Top) Top) e)
                  ∙ its_home))
              joins true e =
                  beside (list_any (is_parameter Wrapper (plain o.sym)) ds) refl
                  (sym (ap (λ b. cond b
                  (cond (list_any (is_parameter Wrapper (plain o.sym)) ds) Wrapper Top) Top) e)
                  ∙ its_home)
                where
                  beside : (b : Bool) → list_any (is_parameter Wrapper (plain o.sym)) ds ≡ b →
                      cond (list_any (is_parameter Wrapper (plain o.sym)) ds) Wrapper Top
                      ≡ Wrapper →
                      IsParameterName o.sym
                  beside true its same = joined (plain o.sym) refl its
                  beside false its same =
                      absurd (top-wrapper (sym (ap (λ b. cond b Wrapper Top) its) ∙ same))

      by : (o : Occurrence) → slice_get (occurrences (tree_of_items xs)) i ≡ Some o →
          denoted_of BySymbol Cjs ds o ≡ Bound Wrapper m → DeclaresOrNot Cjs o →
          declares ds Top (plain m.sym) ≡ false
      by o here is (DoesNot never) =
          found o.sym (chain-around o.path)
          (find (λ s. binds ds s (plain o.sym)) (scopes_around Cjs o.path)) refl
          (sym (ap (own_or_found ds
          (denoted_in BySymbol ds (scopes_around Cjs o.path) (plain o.sym)))
          (never BySymbol o.ctxt)) ∙ is)
      by o here is (Does way known own later) =
          let same : Bound (home_of ds (declaration_by_way Cjs o way)) (plain o.sym)
          ≡ Bound Wrapper m =
          sym (ap (own_or_found ds
          (denoted_in BySymbol ds (scopes_around Cjs o.path) (plain o.sym))) own) ∙ is in
          let symbol : o.sym ≡ m.sym = ap denoted_symbol same in
          top-free m.sym (subst IsParameterName symbol
          (own-name o way known own here (ap scope_in same)))

  -- THE CONTEXTS of the linker tell the names of a CommonJS module apart, though the top and the
  -- wrapper share one
  pub tells-apart : (local : ℕ) (g : Numbering) (load : Name) →
      GivesLocal local g (tree_of_items xs) load → TellsApart g (tree_of_items xs) load
  tells-apart local g load its = record {
    own = own;
    apart = apart;
    parameters = parameters;
    not_load = its.not_load;
    load_other = its.load_other;
  }
    where
      own : (i : ℕ) (s : Scope) (m : Name) →
          slice_get (denotations BySymbol Cjs (tree_of_items xs)) i ≡ Some (Bound s m) →
          g (scope_order s) m.sym ≢ 1
      own i Top m at = λ e. its.local_own (sym (its.top m.sym) ∙ e)
      own i Wrapper m at = λ e. its.local_own (sym (its.wrapper m.sym) ∙ e)
      own i (Inner kind a) m at = (its.inner_own i kind a m at).0

      -- the top and the wrapper do not share a name
      never : (i j : ℕ) (m n : Name) →
          slice_get (denotations BySymbol Cjs (tree_of_items xs)) i ≡ Some (Bound Top m) →
          slice_get (denotations BySymbol Cjs (tree_of_items xs)) j ≡ Some (Bound Wrapper n) →
          m.sym ≡ n.sym → ⊥
      never i j m n at there same =
          false≢true (sym (ap (λ y. declares ds Top (plain y)) same ∙ bound-wrapper j n there)
          ∙ bound-top i m at)

      apart : (i j : ℕ) (s t : Scope) (m n : Name) →
          slice_get (denotations BySymbol Cjs (tree_of_items xs)) i ≡ Some (Bound s m) →
          slice_get (denotations BySymbol Cjs (tree_of_items xs)) j ≡ Some (Bound t n) →
          m.sym ≡ n.sym → g (scope_order s) m.sym ≡ g (scope_order t) n.sym →
          scope_order s ≡ scope_order t
      apart i j Top Top m n at there same numbers = refl
      apart i j Wrapper Wrapper m n at there same numbers = refl
      apart i j Top Wrapper m n at there same numbers = absurd (never i j m n at there same)
      apart i j Wrapper Top m n at there same numbers = absurd (never j i n m there at (sym same))
      apart i j (Inner kind a) (Inner other b) m n at there same numbers =
          ap (λ k. k + 2) (its.inner_one i j kind other a b m n at there numbers)
      apart i j (Inner kind a) Top m n at there same numbers =
          absurd ((its.inner_own i kind a m at).1 (numbers ∙ its.top n.sym))
      apart i j (Inner kind a) Wrapper m n at there same numbers =
          absurd ((its.inner_own i kind a m at).1 (numbers ∙ its.wrapper n.sym))
      apart i j Top (Inner kind a) m n at there same numbers =
          absurd ((its.inner_own j kind a n there).1 (sym numbers ∙ its.top m.sym))
      apart i j Wrapper (Inner kind a) m n at there same numbers =
          absurd ((its.inner_own j kind a n there).1 (sym numbers ∙ its.wrapper m.sym))

      parameters : (i : ℕ) (s : Scope) (m : Name) →
          slice_get (denotations BySymbol Cjs (tree_of_items xs)) i ≡ Some (Bound s m) →
          IsParameterName m.sym → g 0 m.sym ≡ g (scope_order s) m.sym → s ≡ Wrapper
      parameters i Wrapper m at which numbers = refl
      parameters i Top m at which numbers =
          absurd (false≢true (sym (top-free m.sym which) ∙ bound-top i m at))
      parameters i (Inner kind a) m at which numbers =
          absurd ((its.inner_own i kind a m at).1 (sym numbers ∙ its.wrapper m.sym))

  -- what has a name of a parameter or of the wrapper is not the top's
  not-both : (c : ℕ) (g : Numbering) (i : ℕ) (m : Name) →
      slice_get (denotations BySymbol Cjs (tree_of_items xs)) i ≡ Some (Bound Top m) →
      (k : Ident) (l : Label) → OwnEntry c g (tree_of_items xs) k l → k.0 ≡ m.sym → (x : List ℕ) →
      l ≡ Parameter c x → ⊥
  not-both c g i m at k l (top_entry j n there) same x is = of-parameter is
    where
      of-parameter : {t : Target} → Of t ≡ Parameter c x → ⊥
      of-parameter same = cc
  not-both c g i m at k l (wrapper_entry j n there) same x is =
      false≢true (sym (ap (λ y. declares ds Top (plain y)) (sym same) ∙ bound-wrapper j n there)
      ∙ bound-top i m at)
  not-both c g i m at k l (parameter_entry y which) same x is =
      false≢true (sym (ap (λ z. declares ds Top (plain z)) (sym same) ∙ top-free y which)
      ∙ bound-top i m at)

  abbrev text_of : Label → List ℕ
  text_of (Of (IsDeclared d x)) = x
  text_of (Of _) = []
  text_of (Parameter d x) = x
  text_of _ = []

  -- ONE TO ONE: no identifier has two of these labels
  pub one-label : (c : ℕ) (g : Numbering) (k : Ident) (l other : Label) →
      OwnEntry c g (tree_of_items xs) k l → OwnEntry c g (tree_of_items xs) k other → l ≡ other
  one-label c g k l other first second = by k l first k other second (λ n. k)
    where
      by : (k : Ident) (l : Label) → OwnEntry c g (tree_of_items xs) k l →
          (j : Ident) (other : Label) → OwnEntry c g (tree_of_items xs) j other → k ≡ j → l ≡ other
      by k l (top_entry i m at) j other (top_entry q n there) same =
          ap (λ (i : Ident). Of (IsDeclared c i.0)) same
      by k l (top_entry i m at) j other (wrapper_entry q n there) same =
          absurd (not-both c g i m at (n.sym, g 0 n.sym) (Parameter c n.sym)
          (wrapper_entry q n there) (ap (λ (i : Ident). i.0) (sym same)) n.sym refl)
      by k l (top_entry i m at) j other (parameter_entry x which) same =
          absurd (not-both c g i m at (x, g 0 x) (Parameter c x) (parameter_entry x which)
          (ap (λ (i : Ident). i.0) (sym same)) x refl)
      by k l (wrapper_entry i m at) j other (top_entry q n there) same =
          absurd (not-both c g q n there (m.sym, g 0 m.sym) (Parameter c m.sym)
          (wrapper_entry i m at) (ap (λ (i : Ident). i.0) same) m.sym refl)
      by k l (wrapper_entry i m at) j other (wrapper_entry q n there) same =
          ap (λ (i : Ident). Parameter c i.0) same
      by k l (wrapper_entry i m at) j other (parameter_entry x which) same =
          ap (λ (i : Ident). Parameter c i.0) same
      by k l (parameter_entry y its) j other (top_entry q n there) same =
          absurd (not-both c g q n there (y, g 0 y) (Parameter c y) (parameter_entry y its)
          (ap (λ (i : Ident). i.0) same) y refl)
      by k l (parameter_entry y its) j other (wrapper_entry q n there) same =
          ap (λ (i : Ident). Parameter c i.0) same
      by k l (parameter_entry y its) j other (parameter_entry x which) same =
          ap (λ (i : Ident). Parameter c i.0) same

  -- and no two identifiers have one of them
  pub one-ident : (c : ℕ) (g : Numbering) (k j : Ident) (l : Label) →
      OwnEntry c g (tree_of_items xs) k l → OwnEntry c g (tree_of_items xs) j l → k ≡ j
  one-ident c g k j l first second = by k l first j l second (λ n. l)
    where
      apart : {t : Target} {x : List ℕ} → Of t ≡ Parameter c x → ⊥
      apart same = cc

      by : (k : Ident) (l : Label) → OwnEntry c g (tree_of_items xs) k l →
          (j : Ident) (other : Label) → OwnEntry c g (tree_of_items xs) j other → l ≡ other → k ≡ j
      by k l (top_entry i m at) j other (top_entry q n there) same =
          ap (λ (x : List ℕ). (x, g 1 x)) (ap text_of same)
      by k l (top_entry i m at) j other (wrapper_entry q n there) same = absurd (apart same)
      by k l (top_entry i m at) j other (parameter_entry x which) same = absurd (apart same)
      by k l (wrapper_entry i m at) j other (top_entry q n there) same = absurd (apart (sym same))
      by k l (wrapper_entry i m at) j other (wrapper_entry q n there) same =
          ap (λ (x : List ℕ). (x, g 0 x)) (ap text_of same)
      by k l (wrapper_entry i m at) j other (parameter_entry x which) same =
          ap (λ (x : List ℕ). (x, g 0 x)) (ap text_of same)
      by k l (parameter_entry y its) j other (top_entry q n there) same = absurd (apart (sym same))
      by k l (parameter_entry y its) j other (wrapper_entry q n there) same =
          ap (λ (x : List ℕ). (x, g 0 x)) (ap text_of same)
      by k l (parameter_entry y its) j other (parameter_entry x which) same =
          ap (λ (x : List ℕ). (x, g 0 x)) (ap text_of same)

-- ---- walk

-- what keeps its symbol is not spelled out
stays-short : (around : Around_walk) (change : Change) (field : ℕ) (x : Text) (ctxt : ℕ) (role : Role) →
    change.is_spelled_out ≡ false →
    in_its_place around (Some change) field x ctxt role
    ≡ h.Ident field change.ident.0 change.ident.1 role ∷ []
stays-short Anywhere change field x ctxt role short = refl
stays-short InObject change field x ctxt role short =
    ap (λ b. if b then node field h.KeyValueProp
    (key_in_object x ++ h.Ident 1 change.ident.0 change.ident.1 role ∷ []) else h.Ident field
    change.ident.0 change.ident.1 role ∷ []) short
stays-short InSpecifier change field x ctxt role short =
    ap (λ b. if b then h.Ident field change.ident.0 change.ident.1 role ∷ h.Ident 1 x 0 r.Word
    ∷ [] else h.Ident field change.ident.0 change.ident.1 role ∷ []) short

pattern-short : (change : Change) (field : ℕ) (x : Text) (ctxt : ℕ) (role : Role)
    (default : List Item) →
    change.is_spelled_out ≡ false →
    shorthand_in_its_place (Some change) field x ctxt role default
    ≡ node field h.AssignPatProp (binding (Some change) 0 x ctxt role ++ default)
pattern-short change field x ctxt role default short =
    ap (λ b. if b then node field h.KeyValuePatProp
    (plain_key x ++ pattern_in_its_place (Some change) x ctxt role default) else node field
    h.AssignPatProp (binding (Some change) 0 x ctxt role ++ default)) short

module _ (L : Ident → Type 0) where
  node-append : (field : ℕ) (head : Head) (inside xs : List Item) →
      node field head inside ++ xs ≡ h.Open field head ∷ (inside ++ h.Close ∷ xs)
  node-append field head inside xs =
      ap (λ list. h.Open field head ∷ list) (append_assoc inside (h.Close ∷ []) xs)

  turned-node : {depth : ℕ} (field : ℕ) (head : Head) (inside made xs ys : List Item) →
      is_module_head head ≡ false →
      Turned L (suc depth) (inside ++ h.Close ∷ xs) (made ++ h.Close ∷ ys) →
      Turned L depth (node field head inside ++ xs) (node field head made ++ ys)
  turned-node {depth = depth} field head inside made xs ys own one =
      subst (λ list. Turned L depth list (node field head made ++ ys))
      (sym (node-append field head inside xs))
      (subst (Turned L depth (h.Open field head ∷ (inside ++ h.Close ∷ xs)))
      (sym (node-append field head made ys)) (begun own one))

  -- THE WALK
  pub walk-turns : {around : Around_walk} {work rest : Work} {before made : List Item}
      (one : Rewrites around work before made rest) →
      IsFine L one → (depth : ℕ) (xs ys : List Item) → Turned L depth xs ys →
      Turned L depth (before ++ xs) (made ++ ys)
  walk-turns Nothing fine depth xs ys v = v
  walk-turns (Joined {first = first} {made_first = made_first} {second = second}
      {made_second = made_second} one two) fine depth xs ys v =
      subst (λ list. Turned L depth list ((made_first ++ made_second) ++ ys))
      (sym (append_assoc first second xs))
      (subst (Turned L depth (first ++ (second ++ xs)))
      (sym (append_assoc made_first made_second ys))
      (walk-turns one fine.0 depth (second ++ xs) (made_second ++ ys)
      (walk-turns two fine.1 depth xs ys v)))
  walk-turns (Hole field) fine depth xs ys v = empty v
  walk-turns (Word field x ctxt r.Word is) fine depth xs ys v = word v
  walk-turns (Word field x ctxt r.Binding is) fine depth xs ys v = absurd (false≢true (sym is))
  walk-turns (Word field x ctxt r.Reference is) fine depth xs ys v = absurd (false≢true (sym is))
  walk-turns (Name_walk around field x ctxt role step is free takes) fine depth xs ys v =
      subst (λ list. Turned L depth (h.Ident field x ctxt role ∷ xs) (list ++ ys))
      (sym (stays-short around (change_at x step) field x ctxt role fine.short))
      (subst (λ y. Turned L depth (h.Ident field x ctxt role ∷ xs)
      (h.Ident field y step.ident.1 role ∷ ys)) (sym fine.symbol) (named is v))
  walk-turns (Inside field head {inside = inside} {made = made} stays one) fine depth xs ys v =
      turned-node field head inside made xs ys fine.0
      (walk-turns one fine.1 (suc depth) (h.Close ∷ xs) (h.Close ∷ ys) (ended v))
  walk-turns (Declaration {work = work} field kind notes {inside = inside} {made = made} one) fine
      depth xs ys v =
      subst (λ list. Turned L depth list
      (node field (h.VarDecl kind (kept_notes work.clears_notes notes)) made ++ ys))
      (sym (node-append field (h.VarDecl kind notes) inside xs))
      (subst (Turned L depth (h.Open field (h.VarDecl kind notes) ∷ (inside ++ h.Close ∷ xs)))
      (sym (node-append field (h.VarDecl kind (kept_notes work.clears_notes notes)) made ys))
      (declares_walk (walk-turns one fine (suc depth) (h.Close ∷ xs) (h.Close ∷ ys) (ended v))))
  walk-turns (Kept field head first {inside = inside} {made = made} {more = more}
      {made_more = made_more} keeps one two) fine depth xs ys v =
      turned-node field head (node first h.MemberExpr inside ++ more) (node first h.MemberExpr made
      ++ made_more) xs ys fine.0
      (subst (λ list. Turned L (suc depth) list ((node first h.MemberExpr made ++ made_more)
      ++ h.Close ∷ ys)) (sym
      (append_assoc (node first h.MemberExpr inside) more (h.Close ∷ xs)))
      (subst (Turned L (suc depth) (node first h.MemberExpr inside ++ (more ++ h.Close ∷ xs)))
      (sym (append_assoc (node first h.MemberExpr made) made_more (h.Close ∷ ys)))
      (turned-node first h.MemberExpr inside made (more ++ h.Close ∷ xs)
      (made_more ++ h.Close ∷ ys) refl
      (walk-turns one fine.1 (suc (suc depth)) (h.Close ∷ (more ++ h.Close ∷ xs))
      (h.Close ∷ (made_more ++ h.Close ∷ ys))
      (ended (walk-turns two fine.2 (suc depth) (h.Close ∷ xs) (h.Close ∷ ys) (ended v)))))))
  walk-turns (Shorthand field x ctxt role step {default = default} {made = made} is takes one) fine
      depth xs ys v =
      subst (λ list. Turned L depth
      (node field h.AssignPatProp (binding None 0 x ctxt role ++ default) ++ xs) (list ++ ys))
      (sym (pattern-short (change_at x step) field x ctxt role made fine.0.short))
      (turned-node field h.AssignPatProp (binding None 0 x ctxt role ++ default)
      (binding (Some (change_at x step)) 0 x ctxt role ++ made) xs ys refl
      (begun refl (subst
      (λ y. Turned L (suc (suc depth)) (h.Ident 0 x ctxt role ∷ h.Close
      ∷ (default ++ h.Close ∷ xs)) (h.Ident 0 y step.ident.1 role ∷ h.Close
      ∷ (made ++ h.Close ∷ ys))) (sym fine.0.symbol)
      (named is (ended (walk-turns one fine.1 (suc depth) (h.Close ∷ xs) (h.Close ∷ ys)
      (ended v)))))))
  walk-turns (OfReads field name inside is) fine depth xs ys v = absurd fine
  walk-turns (OfCall field name inside is) fine depth xs ys v =
      subst (λ list. Turned L depth (node field h.CallExpr list ++ xs)
      (node field h.CallExpr (reference 0 name) ++ ys)) (sym fine.0.is) (called fine.1 v)
  walk-turns (OfMeta field kind name is) fine depth xs ys v = absurd fine
