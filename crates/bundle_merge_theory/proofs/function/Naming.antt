-- The names of a statement of a CommonJS module in the item of its load function, by itself (what
-- loaded/Stating of bundle_merge_theory says beside other items; what is private there is copied).
use Rattle.std.proofs.Common.{◌≡◌, ℕ, zero, suc, ◌<◌, ◌≤◌, true, false, cond, List, [], ◌∷◌, Option, Some, None, filter, map, slice_get, refl, ap, ap₂, sym, ◌∙◌, subst, arith, find, is_some}
use Rattle.std.specs.Prelude.{position, nat_le}
use Rattle.std.specs.List.{AllZip}
use Rattle.std.proofs.lemmas.Bool.{false≢true, false_from_ne_true, leb-true, le-leb}
use Rattle.bundle_syntax.specs.Item.{Item}
use Rattle.bundle_rules.specs.Places.{Spot, Occurrence, occurrences_from, is_binding}
use Rattle.bundle_rules.specs.Scopes.{Cjs, Scope, Wrapper, Top, Inner, scopes_around, scope_order}
use Rattle.bundle_rules.specs.Declarations.{BySymbol, Name, Declared}
use Rattle.bundle_rules.specs.Homes.{binds, declares}
use Rattle.bundle_rules.specs.Denotes.{Denoted, Bound, Global, bound_in, denoted_in, own_or_found, denoted_of, denotations}
use Rattle.bundle_rules.specs.Doubled.{first_doubled}
use Rattle.bundle_rules.specs.Idents.{Ident, ident_of}
use Rattle.bundle_rules.specs.Parts.{tree_of_items}
use Rattle.bundle_rules.specs.Mentions.{same_denoted, each_denoted_once}
use Rattle.bundle_rules.specs.Meaning.{Of, Parameter, Load, Meant, Inside, Known, Unbound, is_inside}
use Rattle.bundle_rules.specs.Program.{Program, tree_of, IsReached}
use Rattle.bundle_rules.specs.Linking.{IsCommonJs, Declared as IsDeclared}
use Rattle.bundle_rules.specs.Bundle as b
use Rattle.bundle_rules.specs.Symbols.{denoted_symbol}
use Rattle.bundle_scope_names.proofs.Numbering.{Numbering, context_of}
use Rattle.bundle_scope_names.proofs.FoundLemmas.{plain, with}
use Rattle.bundle_scope_names.proofs.TreeLemmas.{IsFor, denoted-for, DeclaresOrNot, DoesNot, Does, declares_or_not}
use Rattle.bundle_merge_theory.proofs.walked.NameLemmas.{numbers_agree, both_once}
use Rattle.bundle_merge_theory.specs.joined.Joined.{AllOf, own_declared, is_global_written}
use Rattle.bundle_merge_theory.specs.joined.Notes.{own_denoted, is_inner_denoted, is_inner_name}
use Rattle.bundle_merge_theory.specs.loaded.Framed.{top, wrapper, inner, Framed, outside, within}
use Rattle.bundle_merge_theory.specs.loaded.Kept.{DenotedBeside, globals, bindings, StandsBeside, KeepsName}
use Rattle.bundle_merge_theory.specs.loaded.Turned.{Turned, NodeGoes, FollowsTurned, done, kept, changed}
use Rattle.bundle_merge_theory.specs.loaded.Item.{load_item}
use Rattle.bundle_merge_theory.specs.loaded.Paths.{PathBeside, at_top}
use Rattle.bundle_merge_theory.specs.loaded.Loaded.{module_declared, module_names, IsLoadedItem}
use Rattle.bundle_merge_theory.specs.loaded.Names.{NamedAs, one_inside, of_top, of_wrapper, unbound}
use Rattle.bundle_merge_theory.specs.loaded.Contexts.{OwnEntry, top_entry, wrapper_entry}
use Rattle.bundle_merge_theory.proofs.loaded.Pieces.{goes-from, turned-frame, IsPart}
use Rattle.bundle_merge_theory.proofs.loaded.Parts.{follows-turned}
use Rattle.bundle_merge_theory.proofs.loaded.Noted.{kept-there, strange-outside, strange-own, beside-inner}
use Rattle.bundle_merge_theory.proofs.loaded.Beside.{denoted-one}
use Rattle.bundle_merge_theory.proofs.loaded.Theorem.{inside_zip, told-filtered, arguments-bound}
use Rattle.bundle_merge_theory.specs.loaded.Pieces.{is_told_inside, told_inside}
use Rattle.bundle_merge_theory.proofs.loaded.Parameters.{bound-top}
use Rattle.bundle_merge_theory.proofs.joined.Denotes.{home-in}
use Rattle.bundle_merge_theory.proofs.joined.Bindings.{scope_in, bound-global}
use Rattle.bundle_merge_theory.proofs.joined.Notes.{find-has}
use Rattle.bundle_merge_theory.specs.made.Given.{HookAnswer, BundleContexts, InsideOf, numbers_in}
use Rattle.bundle_merge_theory.specs.made.Alone.{IsTopLabel, TellApart, NameAlone}
use Rattle.bundle_merge_theory.specs.made.Alone as a
use Rattle.bundle_merge_theory.specs.function.Calls.{IsLoadName}
use Rattle.bundle_merge_theory.specs.function.Pieces.{NameFor, kept_name, load_name, AllNamed}
use Rattle.bundle_merge_theory.proofs.function.Statement.{number_inner, inner_holder, denotes_listed}
use Rattle.bundle_merge_theory.proofs.function.Strange.{AreStrange}

-- What holds of the scopes around a name holds of the one that it denotes.

denoted-in : (P : Scope → Type 0) → P Top → (ds : List Declared) (o : Occurrence) →
    AllOf P (scopes_around Cjs o.path) → P (scope_in (denoted_of BySymbol Cjs ds o))
denoted-in P at_last ds o all = by (declares_or_not Cjs o)
  where
    found : (s : Option Scope) →
        find (λ s. binds ds s (plain o.sym)) (scopes_around Cjs o.path) ≡ s →
        P (scope_in (bound_in (plain o.sym) s))
    found None is = at_last
    found (Some s) is =
        (find-has P (λ s. binds ds s (plain o.sym)) (scopes_around Cjs o.path) all s is).0

    by : DeclaresOrNot Cjs o → P (scope_in (denoted_of BySymbol Cjs ds o))
    by (DoesNot never) =
        subst (λ d. P (scope_in
        (own_or_found ds (denoted_in BySymbol ds (scopes_around Cjs o.path) (plain o.sym)) d)))
        (sym (never BySymbol o.ctxt))
        (found (find (λ s. binds ds s (plain o.sym)) (scopes_around Cjs o.path)) refl)
    by (Does way known is later) =
        subst (λ d. P (scope_in
        (own_or_found ds (denoted_in BySymbol ds (scopes_around Cjs o.path) (plain o.sym)) d)))
        (sym is) (home-in P at_last ds
        (record {
          place = o.place;
          name = plain o.sym;
          by = way;
          scopes = scopes_around Cjs o.path;
        }) all)

-- inner scopes go somewhere
abbrev GoesIn : (ℕ → ℕ → Type 0) → Scope → Type 0
GoesIn R Wrapper = Unit {0}
GoesIn R Top = Unit {0}
GoesIn R (Inner kind a) = (b : ℕ) × R a b

framed-in : {R : ℕ → ℕ → Type 0} {ss ts : List Scope} → Framed R ss ts → AllOf (GoesIn R) ss
framed-in outside = (tt, (tt, tt))
framed-in (within {b = b} r framed) = ((b, r), framed-in framed)

widen : {R S : ℕ → ℕ → Type 0} → ((a b : ℕ) → R a b → S a b) → {ss ts : List Scope} →
    Framed R ss ts → Framed S ss ts
widen wider outside = outside
widen wider (within {a = a} {b = b} r framed) = within (wider a b r) (widen wider framed)

at-any : {R S : ℕ → ℕ → Type 0} {old new : _} → PathBeside R zero old new →
    PathBeside S zero old new
at-any (at_top field its) = at_top field its

-- a load function is declared at the top of a bundle
pub load_top : (p : Program) (c : ℕ) → IsReached p c → IsCommonJs p c → IsTopLabel p (Load c)
load_top p c reached common = record {
  cause = b.Defines c;
  due = b.defines reached common;
  declares = a.adds a.defines;
}

module _ (p : Program) (list : List ℕ) (context : BundleContexts) (answers : ℕ → Option HookAnswer)
    (apart : TellApart p answers context) (c : ℕ) (reached : IsReached p c)
    (common : IsCommonJs p c) {xs ys : List Item} (tree_is : tree_of p c ≡ tree_of_items xs)
    (whole : Turned (IsLoadName p list context) zero xs ys) (load helper m e : Ident)
    (its : IsLoadedItem (numbers_in context c) whole load m e)
    (known : AreStrange whole (numbers_in context c) load helper m e its)
    (undoubled : first_doubled Cjs (tree_of_items xs) ≡ None) {x y : List Item}
    (wx : Turned (IsLoadName p list context) zero x y) (s t : Spot)
    (part : IsPart whole (numbers_in context c) wx s t) where
  abbrev g : Numbering
  g = numbers_in context c

  abbrev L : Ident → Type 0
  L = IsLoadName p list context

  abbrev w : Turned L zero xs ys
  w = whole

  abbrev ds : List Declared
  ds = module_declared xs

  abbrev item : List Item
  item = load_item load helper m e ys

  abbrev R : ℕ → ℕ → Type 0
  R = NodeGoes w 1 22

  -- nodes in it
  abbrev In : ℕ → ℕ → Type 0
  In a b = (s.place ≤ a) × (t.place ≤ b) × R a b

  part-follows : FollowsTurned L In g ds (occurrences_from s x) (occurrences_from t y)
  part-follows =
      follows-turned In g ds wx s t (at-any {R = R} {S = In} part.path)
      (λ a b there. let far = goes-from wx s.place t.place a b there in
      (far.0, far.1, part.goes a b there)) part.has

  part-index : (j : ℕ) (o : Occurrence) → slice_get (occurrences_from s x) j ≡ Some o →
      (i : ℕ) × (slice_get (module_names xs) i ≡ Some o)
  part-index j o at = part.listed j o at

  part-stands : (o u : Occurrence) → StandsBeside In o u → StandsBeside R o u
  part-stands o u stands =
      record {
        role = stands.role;
        way = stands.way;
        scopes = widen (λ a b there. there.2) stands.scopes;
        own = stands.own;
      }

  far-enough : 22 ≤ t.place
  far-enough = part.far

  not-inside : (n : ℕ) → n < 22 → nat_le t.place n ≡ false
  not-inside n small =
      let far = far-enough in
      false_from_ne_true (nat_le t.place n) (λ is. let le = leb-true t.place n is in
      omega (arith, le, small, far))

  -- what is inside the statement in the module is inside in the item
  near : (o u : Occurrence) → StandsBeside In o u →
      DenotedBeside R g ds (denoted_of BySymbol Cjs ds o) (own_denoted item u) →
      is_inside 0 (denoted_of BySymbol Cjs ds o) ≡ is_inside t.place (own_denoted item u)
  near o u stands beside =
      by (denoted_of BySymbol Cjs ds o) (own_denoted item u) beside
      (denoted-in (GoesIn In) tt ds o (framed-in stands.scopes))
    where
      by : (a b : Denoted) → DenotedBeside R g ds a b → GoesIn In (scope_in a) →
          is_inside 0 a ≡ is_inside t.place b
      by a b globals goes = refl
      by a b (bindings top) goes = sym (not-inside 21 (omega arith))
      by a b (bindings wrapper) goes = sym (not-inside 10 (omega arith))
      by a b (bindings (inner {a = p} {b = q} r)) goes =
          let same : goes.0 ≡ q = (turned-frame w).one p goes.0 q goes.1.2 r in
          let le : t.place ≤ q = subst (λ n. t.place ≤ n) same goes.1.1 in
          le-leb 0 p (omega arith) ∙ sym (le-leb t.place q le)

  -- the pairs of the statement
  abbrev Stands : Occurrence → Occurrence → Type 0
  Stands o u = StandsBeside In o u × ((i : ℕ) × (slice_get (module_names xs) i ≡ Some o))

  -- not inside, where no inner scope is denoted
  outside-there : (d : Denoted) → is_inner_denoted d ≡ false → is_inside t.place d ≡ false
  outside-there (Bound (Inner kind begins) k) is = absurd (false≢true (sym is))
  outside-there (Bound Top k) is = refl
  outside-there (Bound Wrapper k) is = refl
  outside-there (Global z) is = refl

  abbrev Becomes : Denoted → Denoted → Type 0
  Becomes = DenotedBeside R g ds

  kept-pair : (o u : Occurrence) → Stands o u → KeepsName g ds o u →
      Becomes (denoted_of BySymbol Cjs ds o) (own_denoted item u)
  kept-pair o u stands keeps =
      kept-there w g load helper m e its stands.1.0 o u stands.1.1 (part-stands o u stands.0) keeps

  -- a name of a load function denotes nothing inside
  load_outside : (o u : Occurrence) → Stands o u → L (ident_of u) → is_binding o.role ≡ false →
      is_inner_denoted (own_denoted item u) ≡ false
  load_outside o u stands calls refers =
      let facts = known.called_known (ident_of u) calls in
      strange-own w g load helper m e its u.sym u.ctxt facts.0 facts.1 u refl refl
      (ap is_binding stands.0.role ∙ refers)

  keeps_of : (o u : Occurrence) →
      ident_of u ≡ (o.sym, context_of g (denoted_of BySymbol Cjs ds o)) → KeepsName g ds o u
  keeps_of o u is =
      record { symbol = ap (λ (i : Ident). i.0) is; ctxt = ap (λ (i : Ident). i.1) is }

  -- where the bindings of the statement are these
  module _ (inner0 : List Denoted) where
    abbrev Tells : Occurrence → Occurrence → Meant → Type 0
    Tells o u meant = NameFor p list context c ds inner0 o (ident_of u) meant

    -- one by one: inside in one exactly if inside in the other
    pair-inside : (o u : Occurrence) (meant : Meant) → Stands o u → Tells o u meant →
        (is_inside 0 (denoted_of BySymbol Cjs ds o) ≡ is_inside t.place (own_denoted item u))
        × (is_inside 0 (denoted_of BySymbol Cjs ds o) ≡ true →
        Becomes (denoted_of BySymbol Cjs ds o) (own_denoted item u))
    pair-inside o u meant stands (kept_name is named) =
        let beside = kept-pair o u stands (keeps_of o u is) in
        (near o u stands.0 beside, λ is. beside)
    pair-inside o u meant stands (load_name calls refers out) = (
      out ∙ sym (outside-there (own_denoted item u) (load_outside o u stands calls refers)),
      λ is. absurd (false≢true (sym out ∙ is)),
    )

    all-inside : {os us : List Occurrence} → FollowsTurned L In g ds os us → (meants : List Meant) →
        ((j : ℕ) (o : Occurrence) → slice_get os j ≡ Some o →
        (i : ℕ) × (slice_get (module_names xs) i ≡ Some o)) →
        AllNamed p list context c ds inner0 os (map ident_of us) meants →
        AllZip (λ d v. (is_inside 0 d ≡ is_inside t.place v)
        × (is_inside 0 d ≡ true → Becomes d v)) (map (denoted_of BySymbol Cjs ds) os)
        (map (own_denoted item) us)
    all-inside done [] at told = tt
    all-inside done (meant ∷ meants) at told = absurd told
    all-inside (kept stands keeps rest) [] at told = absurd told
    all-inside (kept {o = o} {u = u} stands keeps rest) (meant ∷ meants) at told = (
      pair-inside o u meant (stands, at zero o refl) told.0,
      all-inside rest meants (λ j q is. at (suc j) q is) told.1,
    )
    all-inside (changed stands refers is rest) [] at told = absurd told
    all-inside (changed {o = o} {u = u} stands refers is rest) (meant ∷ meants) at told = (
      pair-inside o u meant (stands, at zero o refl) told.0,
      all-inside rest meants (λ j q is. at (suc j) q is) told.1,
    )

    -- what is inside is told to be so
    told-so : (o u : Occurrence) (meant : Meant) → Stands o u → Tells o u meant →
        is_inside t.place (own_denoted item u) ≡ is_told_inside meant
    told-so o u meant stands (kept_name is named) =
        sym (near o u stands.0 (kept-pair o u stands (keeps_of o u is))) ∙ by named
      where
        by : {d : Denoted} {meant : Meant} → NamedAs c inner0 d meant →
            is_inside 0 d ≡ is_told_inside meant
        by (one_inside found inside) = inside
        by of_top = refl
        by of_wrapper = refl
        by unbound = refl
    told-so o u meant stands (load_name calls refers out) =
        outside-there (own_denoted item u) (load_outside o u stands calls refers)

    all-so : {os us : List Occurrence} → FollowsTurned L In g ds os us → (meants : List Meant) →
        ((j : ℕ) (o : Occurrence) → slice_get os j ≡ Some o →
        (i : ℕ) × (slice_get (module_names xs) i ≡ Some o)) →
        AllNamed p list context c ds inner0 os (map ident_of us) meants →
        AllZip (λ v meant. is_inside t.place v ≡ is_told_inside meant) (map (own_denoted item) us)
        meants
    all-so done [] at told = tt
    all-so done (meant ∷ meants) at told = absurd told
    all-so (kept stands keeps rest) [] at told = absurd told
    all-so (kept {o = o} {u = u} stands keeps rest) (meant ∷ meants) at told = (
      told-so o u meant (stands, at zero o refl) told.0,
      all-so rest meants (λ j q is. at (suc j) q is) told.1,
    )
    all-so (changed stands refers is rest) [] at told = absurd told
    all-so (changed {o = o} {u = u} stands refers is rest) (meant ∷ meants) at told = (
      told-so o u meant (stands, at zero o refl) told.0,
      all-so rest meants (λ j q is. at (suc j) q is) told.1,
    )

    -- one name
    module _ (inner1 : List Denoted) (numbers : (d v : Denoted) → Becomes d v →
        position (same_denoted d) inner0 ≡ position (same_denoted v) inner1) where
      abbrev Alone : Occurrence → Meant → Type 0
      Alone u meant = NameAlone p list context answers (b.Defines c) item t.place inner1 u meant

      must-be-inner : (d v : Denoted) → Becomes d v → ((z : List ℕ) → d ≡ Global z → ⊥) →
          is_inner_denoted v ≡ true
      must-be-inner d v globals bound = absurd (bound _ refl)
      must-be-inner d v (bindings near) bound = beside-inner w g load helper m e its _ near

      -- what the top declares has an identifier
      must-be-written : (d v : Denoted) → Becomes d v → (z : List ℕ) → d ≡ Bound Top (plain z) →
          declares ds Top (plain z) ≡ true → is_global_written v ≡ true
      must-be-written d v globals z is written = absurd (bound-global (sym is))
      must-be-written d v (bindings {s = scope} {x = symbol} near) z is written =
          let scopes : scope ≡ Top = ap scope_in is in
          let symbols : symbol ≡ z = ap denoted_symbol is in
          ap (λ q. is_some (cond q (Some (g (scope_order scope) symbol)) None))
          ((λ k. declares ds (scopes k) (plain (symbols k))) ∙ written)

      inside-alone : (i : ℕ) (o u : Occurrence) (d : Denoted) (n : ℕ) →
          slice_get (module_names xs) i ≡ Some o → denoted_of BySymbol Cjs ds o ≡ d →
          is_inside 0 d ≡ true → u.ctxt ≡ context_of g d → is_inner_denoted (own_denoted item u) ≡ true →
          is_inside t.place (own_denoted item u) ≡ true →
          position (same_denoted (own_denoted item u)) inner1 ≡ Some n → Alone u (Inside n)
      inside-alone i o u (Global z) n at is inside number here there found =
          absurd (false≢true inside)
      inside-alone i o u (Bound Top name) n at is inside number here there found =
          absurd (false≢true inside)
      inside-alone i o u (Bound Wrapper name) n at is inside number here there found =
          absurd (false≢true inside)
      inside-alone i o u (Bound (Inner kind begins) name) n at is inside number here there found =
          a.inside (InsideOf c begins) here there found a.defines_inside (λ d same other. cc)
          (inner_holder p context answers apart c reached common xs tree_is i kind begins name
          (denotes_listed xs i o (Bound (Inner kind begins) name) at is))
          (number ∙ number_inner p context answers apart c begins name.sym)

      entry-there : (i : ℕ) (o : Occurrence) (d : Denoted) →
          slice_get (module_names xs) i ≡ Some o → denoted_of BySymbol Cjs ds o ≡ d →
          slice_get (denotations BySymbol Cjs (tree_of p c)) i ≡ Some d
      entry-there i o d at is =
          ap (λ q. slice_get (denotations BySymbol Cjs q) i) tree_is ∙ denotes_listed xs i o d at is

      name-kept : (o u : Occurrence) (d : Denoted) (meant : Meant) → NamedAs c inner0 d meant →
          Stands o u → KeepsName g ds o u → denoted_of BySymbol Cjs ds o ≡ d →
          Becomes d (own_denoted item u) → is_inside 0 d ≡ is_inside t.place (own_denoted item u) →
          IsFor o.sym d → Alone u meant
      name-kept o u d (Inside n) (one_inside found inside) stands keeps is beside at_hand its_for =
          inside-alone stands.1.0 o u d n stands.1.1 is inside (keeps.ctxt ∙ ap (context_of g) is)
          (must-be-inner d (own_denoted item u) beside
          (λ z global. false≢true (sym (ap (is_inside 0) global) ∙ inside)))
          (sym at_hand ∙ inside)
          (sym (numbers d (own_denoted item u) beside) ∙ found)
      name-kept o u d (Known l) (of_top {x = z}) stands keeps is beside at_hand its_for =
          let symbol : z ≡ u.sym = ap (λ (k : Name). k.sym) its_for ∙ sym keeps.symbol in
          let number : g 1 z ≡ u.ctxt = sym (keeps.ctxt ∙ ap (context_of g) is) in
          let entry = entry-there stands.1.0 o (Bound Top (plain z)) stands.1.1 is in
          a.of_function refl (sym at_hand)
          (must-be-inner (Bound Top (plain z)) (own_denoted item u) beside
          (λ y global. bound-global global))
          (λ n y same. must-be-written (Bound Top (plain z)) (own_denoted item u) beside z refl
          (bound-top w its.taken undoubled stands.1.0 (plain z)
          (denotes_listed xs stands.1.0 o (Bound Top (plain z)) stands.1.1 is)))
          (subst (λ (i : Ident). OwnEntry c g (tree_of p c) i (Of (IsDeclared c z)))
          (λ k. (symbol k, number k)) (top_entry stands.1.0 (plain z) entry))
      name-kept o u d (Known l) (of_wrapper {x = z}) stands keeps is beside at_hand its_for =
          let symbol : z ≡ u.sym = ap (λ (k : Name). k.sym) its_for ∙ sym keeps.symbol in
          let number : g 0 z ≡ u.ctxt = sym (keeps.ctxt ∙ ap (context_of g) is) in
          let entry = entry-there stands.1.0 o (Bound Wrapper (plain z)) stands.1.1 is in
          a.of_function refl (sym at_hand)
          (must-be-inner (Bound Wrapper (plain z)) (own_denoted item u) beside
          (λ y global. bound-global global))
          (λ n y same. cc)
          (subst (λ (i : Ident). OwnEntry c g (tree_of p c) i (Parameter c z))
          (λ k. (symbol k, number k)) (wrapper_entry stands.1.0 (plain z) entry))
      name-kept o u d (Unbound z) unbound stands keeps is beside at_hand its_for =
          let symbol : u.sym ≡ z = keeps.symbol ∙ sym its_for in
          let one : u.ctxt ≡ 1 = keeps.ctxt ∙ ap (context_of g) is in
          subst (λ q. Alone u (Unbound q)) symbol
          (a.free one
          (ap (λ n. is_inner_name (own_declared item) (with u.sym n)) one
          ∙ strange-outside w g load helper m e its u.sym 1 (known.global_strange u.sym))
          (λ same. absurd (arguments-bound ds o (is ∙ ap Global (sym symbol ∙ same)))))

      name-alone : (o u : Occurrence) (meant : Meant) → Stands o u → Tells o u meant → Alone u meant
      name-alone o u meant stands (kept_name is named) =
          let keeps = keeps_of o u is in
          let beside = kept-pair o u stands keeps in
          name-kept o u (denoted_of BySymbol Cjs ds o) meant named stands keeps refl beside
          (near o u stands.0 beside) (denoted-for Cjs ds o)
      name-alone o u meant stands (load_name calls refers out) =
          let facts = known.called_known (ident_of u) calls in
          let outer = load_outside o u stands calls refers in
          a.of_top
          (strange-outside w g load helper m e its u.sym u.ctxt facts.0) (λ d same. outer)
          (load_top p calls.which calls.reached calls.common_js) calls.is

      all-alone : {os us : List Occurrence} → FollowsTurned L In g ds os us → (meants : List Meant) →
          ((j : ℕ) (o : Occurrence) → slice_get os j ≡ Some o →
          (i : ℕ) × (slice_get (module_names xs) i ≡ Some o)) →
          AllNamed p list context c ds inner0 os (map ident_of us) meants → AllZip Alone us meants
      all-alone done [] at told = tt
      all-alone done (meant ∷ meants) at told = absurd told
      all-alone (kept stands keeps rest) [] at told = absurd told
      all-alone (kept {o = o} {u = u} stands keeps rest) (meant ∷ meants) at told = (
        name-alone o u meant (stands, at zero o refl) told.0,
        all-alone rest meants (λ j q is. at (suc j) q is) told.1,
      )
      all-alone (changed stands refers is rest) [] at told = absurd told
      all-alone (changed {o = o} {u = u} stands refers is rest) (meant ∷ meants) at told = (
        name-alone o u meant (stands, at zero o refl) told.0,
        all-alone rest meants (λ j q is. at (suc j) q is) told.1,
      )

  -- THE STATEMENT
  abbrev inner_here : List Denoted
  inner_here =
      each_denoted_once
      (filter (is_inside 0) (map (denoted_of BySymbol Cjs ds) (occurrences_from s x)))

  abbrev inner_there : List Denoted
  inner_there =
      each_denoted_once
      (filter (is_inside t.place) (map (own_denoted item) (occurrences_from t y)))

  -- the bindings inside, by what is told
  abbrev inner_told : List Meant → List Denoted
  inner_told meants =
      each_denoted_once (told_inside (map (own_denoted item) (occurrences_from t y)) meants)

  there-told : (meants : List Meant) →
      AllNamed p list context c ds inner_here (occurrences_from s x)
      (map ident_of (occurrences_from t y)) meants →
      inner_there ≡ inner_told meants
  there-told meants told =
      ap each_denoted_once
      (told-filtered (is_inside t.place) (map (own_denoted item) (occurrences_from t y)) meants
      (all-so inner_here part-follows meants part-index told))

  pub statement-alone : (meants : List Meant) →
      AllNamed p list context c ds inner_here (occurrences_from s x)
      (map ident_of (occurrences_from t y)) meants →
      AllZip (NameAlone p list context answers (b.Defines c) item t.place (inner_told meants))
      (occurrences_from t y) meants
  statement-alone meants told =
      subst
      (λ inner. AllZip (NameAlone p list context answers (b.Defines c) item t.place inner)
      (occurrences_from t y) meants) (there-told meants told)
      (all-alone inner_here inner_there
      (λ d v beside. numbers_agree (DenotedBeside R g ds)
      (λ i j k l. denoted-one R (turned-frame w) g ds i j k l)
      (filter (is_inside 0) (map (denoted_of BySymbol Cjs ds) (occurrences_from s x)))
      (filter (is_inside t.place) (map (own_denoted item) (occurrences_from t y)))
      (inside_zip (DenotedBeside R g ds) (is_inside 0) (is_inside t.place)
      (map (denoted_of BySymbol Cjs ds) (occurrences_from s x))
      (map (own_denoted item) (occurrences_from t y))
      (all-inside inner_here part-follows meants part-index told)) d v beside)
      part-follows meants part-index told)

  -- the bindings inside are called as in the module
  symbols-same : (olds news : List Denoted) → AllZip (DenotedBeside R g ds) olds news →
      map denoted_symbol news ≡ map denoted_symbol olds
  symbols-same [] [] all = refl
  symbols-same [] (d ∷ news) all = absurd all
  symbols-same (d ∷ olds) [] all = absurd all
  symbols-same (d ∷ olds) (v ∷ news) all =
      ap₂ (λ (q : List ℕ) (qs : List (List ℕ)). q ∷ qs) (one d v all.0)
      (symbols-same olds news all.1)
    where
      one : (d v : Denoted) → DenotedBeside R g ds d v → denoted_symbol v ≡ denoted_symbol d
      one d v globals = refl
      one d v (bindings near) = refl

  pub statement-symbols : (meants : List Meant) →
      AllNamed p list context c ds inner_here (occurrences_from s x)
      (map ident_of (occurrences_from t y)) meants →
      map denoted_symbol (inner_told meants) ≡ map denoted_symbol inner_here
  statement-symbols meants told =
      let here : List Denoted = map (denoted_of BySymbol Cjs ds) (occurrences_from s x) in
      let there : List Denoted = map (own_denoted item) (occurrences_from t y) in
      ap (map denoted_symbol) (sym (there-told meants told))
      ∙ symbols-same inner_here inner_there
      (both_once (DenotedBeside R g ds) (λ i j k l. denoted-one R (turned-frame w) g ds i j k l)
      (filter (is_inside 0) here) (filter (is_inside t.place) there)
      (inside_zip (DenotedBeside R g ds) (is_inside 0) (is_inside t.place) here there
      (all-inside inner_here part-follows meants part-index told)))
