-- Renaming of keywords tells bindings apart as before, so that it keeps bundles.
-- What bindings are called where keywords are renamed: as before, but for a `__` before a
-- keyword's.
-- Naming keeps the layout, and so bundles: what stands in good order does so where names change.
use Rattle.std.proofs.Common.{◌≡◌, ℕ, zero, suc, ◌==◌, ◌&&◌, Bool, true, false, cond, not, List, [], ◌∷◌, Option, Some, None, option_map, find, bytes_eq, codes, map, length, slice_get, refl, ap, sym, ◌∙◌, subst, eqb-true, arith, ◌≤◌, ◌++◌, filter}
use Rattle.std.proofs.lemmas.List.{length-map}
use Rattle.std.specs.Prelude.{IsTrue, is_some, if◌then◌else◌, Contains}
use Rattle.std.proofs.lemmas.Bool.{false≢true, and_parts}
use Rattle.std.proofs.lemmas.Option.{none-some, same_Some, slice_get-map, slice_get_within, get_or_from_slice_get}
use Rattle.std.proofs.lemmas.Slice.Eq.{bytes_eq-Decides}
use Rattle.std.specs.List.{AllZip}
use Rattle.bundle_syntax.specs.Item.{Item}
use Rattle.bundle_rules.specs.Places.{Occurrence, occurrences, Spot, occurrence_at, in_field, occurrences_from}
use Rattle.bundle_rules.specs.Scopes.{Es, Scope, scopes_around, Top}
use Rattle.bundle_rules.specs.Declarations.{ByContext, Name, Declared, declared, declaration_of, Reading, BySymbol}
use Rattle.bundle_rules.specs.Homes.{is_arguments, is_function}
use Rattle.bundle_rules.specs.Denotes.{Denoted, Bound, Global, without_context, bound_in, is_written_in, is_implied_in, written_or_implied, denoted_by_context, own_or_found, denoted_of, denoted_as, IsResolved, denoted_at, denotations}
use Rattle.bundle_rules.specs.Keywords.{keyword_free, keyword_free_of, keyword_free_symbols, has_ident, is_unused_context, has_right_context, is_keyword}
use Rattle.bundle_rules.specs.Idents.{Ident, ident_of, idents}
use Rattle.bundle_rules.specs.Rebuilds.{ident_eq}
use Rattle.bundle_rules.specs.Renamed.{HasNamesOnly, IsRidOfKeywords, KeepsNames, IsNamed}
use Rattle.bundle_rules.proofs.PlacesLemmas.{occurrence_at-listed, occurrences-at}
use Rattle.bundle_rules.specs.Nodes.{Text}
use Rattle.bundle_rules.specs.Mentions.{each_denoted_once}
use Rattle.bundle_rules.specs.Linking.{Declared as IsDeclared}
use Rattle.bundle_rules.specs.Meaning.{Of, Label, Labelling, is_inside}
use Rattle.bundle_rules.specs.Program.{Program}
use Rattle.bundle_rules.specs.Symbols.{denoted_symbol, symbol_of_label}
use Rattle.bundle_rules.specs.Statements.{TopItem, top_items}
use Rattle.bundle_rules.specs.Order.{IsGoodOrder, group_of}
use Rattle.bundle_rules.specs.Bundle.{Cause, Form, AsModule, Hooks, Pairing, StandsFor, IsBlockLaidOut, lone, cycle, AreBlocksLaidOut, over, next, IsLaidOut, IsBundle}
use Rattle.bundle_scope_names.proofs.HomesLemmas.{find-passes, list_any-found}
use Rattle.bundle_scope_names.proofs.Told.{zip-length}
use Rattle.bundle_scope_names.proofs.naming_rule.Transfer.{Calling, is_written_one, IsFaithful}
use Rattle.bundle_scope_names.proofs.naming_rule.Tables.{map-in}
use Rattle.bundle_scope_names.proofs.naming_rule.Rebuilt.{ArePlain}
use Rattle.bundle_merge_theory.specs.joined.Joined.{AllOf, joined_items}
use Rattle.bundle_merge_theory.specs.joined.Notes.{its_name}
use Rattle.bundle_merge_theory.proofs.joined.Denotes.{HasIdentifier, nothing-implied}
use Rattle.bundle_merge_theory.specs.walked.Renewed.{Renews}
use Rattle.bundle_merge_theory.proofs.walked.NameLemmas.{both_once}
use Rattle.bundle_merge_theory.specs.noted.Agrees.{IsListing}
use Rattle.bundle_merge_theory.specs.grouped.Renaming.{HasWays, HasObjects, AtOne}
use Rattle.bundle_merge_theory.proofs.grouped.ClearedLemmas.{named-good_order}
use Rattle.bundle_merge_theory.specs.composed.Names.{denoted_in_tree}
pub use Rattle.bundle_merge_theory.proofs.composed.Among.{as-long, zip-at}
use Rattle.bundle_merge_theory.proofs.composed.Among.{all-in, pick, part-scopes, Turns, turns-one, Corresponds, renews, all-outside}
use Rattle.bundle_merge_theory.proofs.composed.Fronts.{ident-same, ident-self, same-denoted, same-ident}
use Rattle.bundle_merge_theory.proofs.composed.Becomings.{declared-name, contains-in, own-symbol, becoming_named}
use Rattle.bundle_merge_theory.specs.composed.Noted.{denoted_from, view_of, pairing_of}
use Rattle.bundle_merge_theory.specs.composed.Becoming.{Becoming, AllOccur, labels_of}
use Rattle.bundle_merge_theory.specs.composed.Turned.{SpotsMatch, PartTurned}
use Rattle.bundle_merge_theory.proofs.composed.Naming.{was-labelled, IsStillNoted, IsReady, items-edited, as-many, naming-keeps}
use Rattle.bundle_merge_theory.proofs.planned.OrderLemmas.{contains-get}

-- ---- keywords

-- what an identifier is called afterwards: as the first occurrence of it is
call_of : List Occurrence → List Occurrence → Calling
call_of [] ps x c = (x, c)
call_of (o ∷ os) [] x c = (x, c)
call_of (o ∷ os) (p ∷ ps) x c =
    if ident_eq (ident_of o) (x, c) then ident_of p else call_of os ps x c

-- one identifier becomes one
abbrev Same : List Occurrence → List Occurrence → Type 0
Same os ps =
    (i j : ℕ) (a b p q : Occurrence) → slice_get os i ≡ Some a → slice_get os j ≡ Some b → slice_get
    ps i ≡ Some p → slice_get ps j ≡ Some q → ident_of a ≡ ident_of b → ident_of p ≡ ident_of q

call-at : (os ps : List Occurrence) → Same os ps → (i : ℕ) (o p : Occurrence) →
    slice_get os i ≡ Some o → slice_get ps i ≡ Some p → call_of os ps o.sym o.ctxt ≡ ident_of p
unfolding call_of
call-at [] ps same i o p at there = absurd (none-some o at)
call-at (a ∷ os) [] same i o p at there = absurd (none-some p there)
call-at (a ∷ os) (q ∷ ps) same i o p at there =
    by_test (ident_eq (ident_of a) (ident_of o)) refl i at there
    (λ j one two. call-at os ps (λ n m b c d e. same (suc n) (suc m) b c d e) j o p one two)
  where
    by_test : (b : Bool) → ident_eq (ident_of a) (ident_of o) ≡ b → (i : ℕ) →
        slice_get (a ∷ os) i ≡ Some o → slice_get (q ∷ ps) i ≡ Some p →
        ((j : ℕ) → slice_get os j ≡ Some o → slice_get ps j ≡ Some p → call_of os ps o.sym o.ctxt ≡
        ident_of p) →
        (if ident_eq (ident_of a) (ident_of o) then ident_of q else call_of os ps o.sym o.ctxt) ≡
        ident_of p
    by_test true e i at there ih =
        ap (λ b. if b then ident_of q else call_of os ps o.sym o.ctxt) e
        ∙ same 0 i a o q p refl at refl there (ident-same (ident_of a) (ident_of o) e)
    by_test false e zero at there ih =
        absurd
        (false≢true
        (sym e
        ∙ subst (λ i. ident_eq (ident_of a) i ≡ true) (ap ident_of (same_Some a o at))
        (ident-self (ident_of a))))
    by_test false e (suc j) at there ih =
        ap (λ b. if b then ident_of q else call_of os ps o.sym o.ctxt) e ∙ ih j at there

map-at : (f : Occurrence → Ident) (os ps : List Occurrence) → length os ≡ length ps →
    ((i : ℕ) (o p : Occurrence) → slice_get os i ≡ Some o → slice_get ps i ≡ Some p → f o ≡ ident_of
    p) → map ident_of ps ≡ map f os
map-at f [] [] same at = refl
map-at f [] (p ∷ ps) same at = absurd (omega (arith, same))
map-at f (o ∷ os) [] same at = absurd (omega (arith, same))
map-at f (o ∷ os) (p ∷ ps) same at =
    λ i. sym (at 0 o p refl refl) i ∷ map-at f os ps (omega (arith, same))
    (λ j a b one two. at (suc j) a b one two) i

-- What no identifier declares.

abbrev pub name_in : Denoted → Option ℕ
name_in (Bound scope name) = name.ctxt
name_in (Global x) = None

-- an occurrence of what no identifier declares is a global or `arguments`, whose symbol is no
-- keyword's
pub symbol-stays : (all : List Declared) → AllOf HasIdentifier all → (o : Occurrence) →
    is_written_one (denoted_of ByContext Es all o) ≡ false →
    keyword_free_of o.sym (denoted_of ByContext Es all o) ≡ o.sym
symbol-stays all each o = by_declared (declaration_of ByContext Es o) refl
  where
    keeps : (x : List ℕ) → is_arguments x ≡ true → keyword_free x ≡ x
    keeps x is = let e = (bytes_eq-Decides x (codes "arguments")).0 is in ap keyword_free e ∙ sym e

    by_implied : (found : Option Scope) →
        find (λ scope. is_implied_in all scope (its_name o)) (scopes_around Es o.path) ≡ found →
        keyword_free_of o.sym (bound_in (without_context (its_name o)) found) ≡ o.sym
    by_implied None e = refl
    by_implied (Some scope) e =
        let passes =
        find-passes (λ scope. is_implied_in all scope (its_name o)) (scopes_around Es o.path)
        scope e in
        keeps o.sym
        (and_parts (is_arguments o.sym) (is_function scope) (sym (nothing-implied all each scope (its_name o)) ∙ passes)).0

    by_context : (b : Bool) →
        keyword_free_of o.sym
        (cond b (Global o.sym)
        (bound_in (without_context (its_name o))
        (find (λ scope. is_implied_in all scope (its_name o))
        (scopes_around Es o.path)))) ≡ o.sym
    by_context true = refl
    by_context false =
        by_implied (find (λ scope. is_implied_in all scope (its_name o)) (scopes_around Es o.path))
        refl

    by_found : (found : Option Scope) →
        is_written_one (written_or_implied all (scopes_around Es o.path) (its_name o) found) ≡
        false →
        keyword_free_of o.sym (written_or_implied all (scopes_around Es o.path) (its_name o) found)
        ≡ o.sym
    by_found None unwritten = by_context (o.ctxt == 1)
    by_found (Some scope) unwritten = absurd (false≢true (sym unwritten))

    by_declared : (d : Option Declared) → declaration_of ByContext Es o ≡ d →
        is_written_one
        (own_or_found all (denoted_by_context all (scopes_around Es o.path) (its_name o)) d) ≡
        false →
        keyword_free_of o.sym
        (own_or_found all (denoted_by_context all (scopes_around Es o.path) (its_name o)) d) ≡
        o.sym
    by_declared None is unwritten =
        by_found (find (λ scope. is_written_in all scope (its_name o)) (scopes_around Es o.path))
        unwritten
    by_declared (Some d) is unwritten =
        absurd
        (false≢true (sym unwritten ∙ ap (λ (n : Name). is_some n.ctxt) (declared-name o d is)))

module _ (before after : List Item) (resolved : IsResolved Es before) (names : HasNamesOnly before)
    (rid : IsRidOfKeywords before after) where
  abbrev os : List Occurrence
  os = occurrences before

  abbrev ps : List Occurrence
  ps = occurrences after

  abbrev all : List Declared
  all = declared ByContext Es before

  pub size : length os ≡ length ps
  size =
      sym (length-map os (denoted_in_tree before))
      ∙ rid.free.alike.len
      ∙ length-map ps (denoted_in_tree after)

  -- what is denoted by number
  pub at-before : (i : ℕ) (o : Occurrence) → slice_get os i ≡ Some o →
      denoted_as ByContext Es before i ≡ Some (denoted_in_tree before o)
  at-before i o e =
      slice_get-map (denoted_in_tree before) os i ∙ ap (option_map (denoted_in_tree before)) e

  pub at-after : (i : ℕ) (p : Occurrence) → slice_get ps i ≡ Some p →
      denoted_as ByContext Es after i ≡ Some (denoted_in_tree after p)
  at-after i p e =
      slice_get-map (denoted_in_tree after) ps i ∙ ap (option_map (denoted_in_tree after)) e

  same : Same os ps
  same i j a b p q at there its other e =
      let denoted = same-denoted before resolved a b (i, at) (j, there) e in
      let later =
      (rid.free.alike.same i j).0
      (at-before i a at ∙ ap Some denoted ∙ sym (at-before j b there)) in
      same-ident after rid.free.resolved p q (i, its) (j, other)
      (same_Some _ _ (sym (at-after i p its) ∙ later ∙ at-after j q other))

  back : (i j : ℕ) (a b p q : Occurrence) → slice_get os i ≡ Some a → slice_get os j ≡ Some b →
      slice_get ps i ≡ Some p → slice_get ps j ≡ Some q → ident_of p ≡ ident_of q →
      ident_of a ≡ ident_of b
  back i j a b p q at there its other e =
      let denoted = same-denoted after rid.free.resolved p q (i, its) (j, other) e in
      let was =
      (rid.free.alike.same i j).1
      (at-after i p its ∙ ap Some denoted ∙ sym (at-after j q other)) in
      same-ident before resolved a b (i, at) (j, there)
      (same_Some _ _ (sym (at-before i a at) ∙ was ∙ at-before j b there))

  pub call : Calling
  call = call_of os ps

  called : (i : ℕ) (o p : Occurrence) → slice_get os i ≡ Some o → slice_get ps i ≡ Some p →
      call o.sym o.ctxt ≡ ident_of p
  unfolding call
  called i o p at there = call-at os ps same i o p at there

  pub calls : idents after ≡ map (λ (o : Occurrence). call o.sym o.ctxt) os
  calls = map-at (λ o. call o.sym o.ctxt) os ps size (λ i o p at there. called i o p at there)

  identified : AllOf HasIdentifier all
  identified =
      all-in HasIdentifier all
      (λ i d at. names d (i, slice_get_within all i d at, get_or_from_slice_get all i d d at))

  -- the symbol and the context of what no identifier declares
  pub symbol-at : (i : ℕ) (o p : Occurrence) → slice_get os i ≡ Some o → slice_get ps i ≡ Some p →
      p.sym ≡ keyword_free_of o.sym (denoted_of ByContext Es all o)
  symbol-at i o p at there =
      let one : slice_get (map (λ (x : Occurrence). x.sym) ps) i ≡ Some p.sym =
      slice_get-map (λ (x : Occurrence). x.sym) ps i
      ∙ ap (option_map (λ (x : Occurrence). x.sym)) there in
      let two : slice_get (keyword_free_symbols before) i ≡ Some
      (keyword_free_of o.sym (denoted_of ByContext Es all o)) =
      slice_get-map (λ (x : Occurrence). keyword_free_of x.sym (denoted_of ByContext Es all x))
      os i
      ∙ ap
      (option_map
      (λ (x : Occurrence). keyword_free_of x.sym (denoted_of ByContext Es all x)))
      at in
      same_Some _ _ (sym one ∙ ap (λ l. slice_get l i) rid.free.symbols ∙ two)

  pub context-stays : (o p : Occurrence) → p.sym ≡ o.sym → IsTrue (has_right_context os o p) →
      p.ctxt ≡ o.ctxt
  context-stays o p same_symbol right =
      let e : bytes_eq o.sym p.sym ≡ true = (bytes_eq-Decides o.sym p.sym).1 (sym same_symbol) in
      eqb-true p.ctxt o.ctxt
      (sym
      (ap
      (λ b. cond (not b && has_ident os p.sym o.ctxt)
      (is_unused_context os p.ctxt) (p.ctxt == o.ctxt)) e)
      ∙ right)

  pub faithful : IsFaithful call os all
  faithful = record {
    one = λ o q at there symbols contexts.
        let p = as-long os ps at.0 o size at.1 in
        let r = as-long os ps there.0 q size there.1 in
        let e : ident_of p.0 ≡ ident_of r.0 =
        sym (called at.0 o p.0 at.1 p.1)
        ∙ (λ i. (symbols i, contexts i))
        ∙ called there.0 q r.0 there.1 r.1 in
        let was = back at.0 there.0 o q p.0 r.0 at.1 there.1 p.1 r.1 e in
        (ap (λ (x : Ident). x.0) was, ap (λ (x : Ident). x.1) was);
    stays = λ o at unwritten.
        let p = as-long os ps at.0 o size at.1 in
        let is = called at.0 o p.0 at.1 p.1 in
        let symbols : p.0.sym ≡ o.sym =
        symbol-at at.0 o p.0 at.1 p.1 ∙ symbol-stays all identified o unwritten in
        let contexts : p.0.ctxt ≡ o.ctxt =
        context-stays o p.0 symbols
        (zip-at (λ old new. IsTrue (has_right_context os old new)) os ps rid.free.contexts
        at.0 o p.0 at.1 p.1) in
        (ap (λ (x : Ident). x.0) is ∙ symbols, ap (λ (x : Ident). x.1) is ∙ contexts);
  }

-- ---- called

-- the context of what an occurrence denotes is its own, if it has one
pub own-context : (all : List Declared) (o : Occurrence) (c : ℕ) →
    name_in (denoted_of ByContext Es all o) ≡ Some c → c ≡ o.ctxt
own-context all o c is = by_declared (declaration_of ByContext Es o) refl is
  where
    by_implied : (found : Option Scope) →
        name_in (bound_in (without_context (its_name o)) found) ≡ Some c → c ≡ o.ctxt
    by_implied None e = absurd (none-some c e)
    by_implied (Some scope) e = absurd (none-some c e)

    by_context : (b : Bool) →
        name_in
        (cond b (Global o.sym)
        (bound_in (without_context (its_name o))
        (find (λ scope. is_implied_in all scope (its_name o))
        (scopes_around Es o.path)))) ≡ Some c → c ≡ o.ctxt
    by_context true e = absurd (none-some c e)
    by_context false e =
        by_implied (find (λ scope. is_implied_in all scope (its_name o)) (scopes_around Es o.path))
        e

    by_found : (found : Option Scope) →
        name_in (written_or_implied all (scopes_around Es o.path) (its_name o) found) ≡ Some c →
        c ≡ o.ctxt
    by_found None e = by_context (o.ctxt == 1) e
    by_found (Some scope) e = sym (same_Some o.ctxt c e)

    by_declared : (d : Option Declared) → declaration_of ByContext Es o ≡ d →
        name_in (own_or_found all (denoted_by_context all (scopes_around Es o.path) (its_name o)) d)
        ≡ Some c → c ≡ o.ctxt
    by_declared None at e =
        by_found (find (λ scope. is_written_in all scope (its_name o)) (scopes_around Es o.path)) e
    by_declared (Some d) at e =
        sym (same_Some o.ctxt c (sym (ap (λ (n : Name). n.ctxt) (declared-name o d at)) ∙ e))

-- bindings inside a statement are called as they become
module _ (reading other : Reading) (items others : List (List Item))
    (b : Becoming reading (joined_items items) other (joined_items others)) (labels : Labelling)
    (spelled : Text → Text)
    (symbols : (scope : Scope) (name : Name) → Contains (denotations reading Es (joined_items items)) (Bound scope name) → denoted_symbol (b.becomes (Bound scope name)) ≡ spelled name.sym)
  where
    abbrev Inner : ℕ → Denoted → Denoted → Type 0
    Inner low d e = Turns reading other items others b labels d e × (is_inside low d ≡ true)

    inner-zip : (low high : ℕ) (ds es : List Denoted) →
        AllZip (Renews (Turns reading other items others b labels) low high) ds es →
        AllZip (Inner low) (filter (is_inside low) ds) (filter (is_inside high) es)
    inner-zip low high [] [] all = tt
    inner-zip low high [] (e ∷ es) all = absurd all
    inner-zip low high (d ∷ ds) [] all = absurd all
    inner-zip low high (d ∷ ds) (e ∷ es) all =
        pick (Inner low) (is_inside low d) (is_inside high e) d e (filter (is_inside low) ds)
        (filter (is_inside high) es) all.0.1 (λ is. (all.0.0, is))
        (inner-zip low high ds es all.1)

    one-symbol : (low : ℕ) (d e : Denoted) → Inner low d e →
        denoted_symbol e ≡ spelled (denoted_symbol d)
    one-symbol low (Bound scope name) e its = ap denoted_symbol its.0.1 ∙ symbols scope name its.0.0
    one-symbol low (Global x) e its = absurd (false≢true its.1)

    all-symbols : (low : ℕ) (ds es : List Denoted) → AllZip (Inner low) ds es →
        map denoted_symbol es ≡ map spelled (map denoted_symbol ds)
    all-symbols low [] [] all = refl
    all-symbols low [] (e ∷ es) all = absurd all
    all-symbols low (d ∷ ds) [] all = absurd all
    all-symbols low (d ∷ ds) (e ∷ es) all =
        λ i. one-symbol low d e all.0 i ∷ all-symbols low ds es all.1 i

    pub symbols-turn : (base its_base s t : Spot) → SpotsMatch base its_base → (field its_field : ℕ) →
        s.path ≡ in_field field base.path → t.path ≡ in_field its_field its_base.path →
        base.place ≤ s.place → its_base.place ≤ t.place → (part renamed : List Item) →
        PartTurned part renamed →
        AllZip (Corresponds reading other items others b labels) (occurrences_from s part)
        (occurrences_from t renamed) →
        map denoted_symbol
        (each_denoted_once
        (filter (is_inside t.place) (denoted_from (view_of other others) t renamed))) ≡ map
        spelled
        (map denoted_symbol
        (each_denoted_once
        (filter (is_inside s.place) (denoted_from (view_of reading items) s part))))
    symbols-turn base its_base s t match field its_field path_is its_is low high part renamed turned
        all =
        let outer : List Scope = scopes_around Es base.path in
        let its : List Scope = scopes_around Es its_base.path in
        let os =
        part-scopes s.place base.path outer match.same turned.nodes s
        (record {
          inner = [];
          field = field;
          path_is = path_is;
          all = tt;
          above = omega arith;
        }) in
        let ps =
        part-scopes t.place its_base.path its match.its_same turned.its_nodes t
        (record {
          inner = [];
          field = its_field;
          path_is = its_is;
          all = tt;
          above = omega arith;
        }) in
        let zip =
        renews reading other items others b labels s.place t.place outer its match.size
        (all-outside base.place s.place low outer match.below)
        (all-outside its_base.place t.place high its match.its_below)
        (occurrences_from s part) (occurrences_from t renamed) os ps all in
        all-symbols s.place
        (each_denoted_once
        (filter (is_inside s.place) (denoted_from (view_of reading items) s part)))
        (each_denoted_once
        (filter (is_inside t.place) (denoted_from (view_of other others) t renamed)))
        (both_once (Inner s.place) (λ x y d e one two. turns-one reading other items others b labels x y d e one.0 two.0) (filter (is_inside s.place) (denoted_from (view_of reading items) s part)) (filter (is_inside t.place) (denoted_from (view_of other others) t renamed))
        (inner-zip s.place t.place (denoted_from (view_of reading items) s part) (denoted_from (view_of other others) t renamed) zip))

-- Keywords.

-- a symbol that has become free of keywords is so
free-twice : (x : Text) → keyword_free (keyword_free x) ≡ keyword_free x
free-twice x = by_test (is_keyword x) refl
  where
    by_test : (b : Bool) → is_keyword x ≡ b → keyword_free (keyword_free x) ≡ keyword_free x
    by_test true e =
        let is : keyword_free x ≡ codes "__" ++ x =
        ap (λ t. cond t (codes "__" ++ x) x) e in
        ap keyword_free is ∙ sym is
    by_test false e =
        let is : keyword_free x ≡ x = ap (λ t. cond t (codes "__" ++ x) x) e in
        ap keyword_free is

-- and stays, whatever it denotes
free-of : (x : Text) → keyword_free x ≡ x → (d : Denoted) → keyword_free_of x d ≡ x
free-of x kept (Bound scope name) = kept
free-of x kept (Global y) = refl

module _ (before after : List Item) (resolved : IsResolved Es before) (names : HasNamesOnly before)
    (rid : IsRidOfKeywords before after) (b : Becoming ByContext before ByContext after) where
  -- an occurrence, what is made of it, and what the two denote
  record Both (d : Denoted) : Type 0 where
    i : ℕ
    o : Occurrence
    p : Occurrence
    at : slice_get (occurrences before) i ≡ Some o
    there : slice_get (occurrences after) i ≡ Some p
    denotes : denoted_in_tree before o ≡ d
    becomes : denoted_in_tree after p ≡ b.becomes d

  both-of : (d : Denoted) → Contains (denotations ByContext Es before) d → Both d
  both-of d c =
      let from =
      map-in (denoted_in_tree before) (occurrences before) d
      (contains-in (denotations ByContext Es before) d c) in
      let p =
      as-long (occurrences before) (occurrences after) from.1.0 from.0
      (size before after resolved names rid) from.1.1 in
      let there = at-after before after resolved names rid from.1.0 p.0 p.1 in
      let mapped =
      ap (λ l. slice_get l from.1.0) b.are
      ∙ slice_get-map b.becomes (denotations ByContext Es before) from.1.0
      ∙ ap (option_map b.becomes)
      (at-before before after resolved names rid from.1.0 from.0 from.1.1) in
      record {
        i = from.1.0;
        o = from.0;
        p = p.0;
        at = from.1.1;
        there = p.1;
        denotes = sym from.2;
        becomes = same_Some _ _ (sym there ∙ mapped) ∙ ap b.becomes (sym from.2);
      }

  pub symbol-becomes : (scope : Scope) (name : Name) →
      Contains (denotations ByContext Es before) (Bound scope name) →
      denoted_symbol (b.becomes (Bound scope name)) ≡ keyword_free name.sym
  symbol-becomes scope name c =
      let it = both-of (Bound scope name) c in
      ap denoted_symbol (sym it.becomes) ∙ own-symbol (declared ByContext Es after) it.p
      ∙ symbol-at before after resolved names rid it.i it.o it.p it.at it.there
      ∙ ap (keyword_free_of it.o.sym) it.denotes
      ∙ ap keyword_free
      (sym (own-symbol (declared ByContext Es before) it.o) ∙ ap denoted_symbol it.denotes)

  -- each labelled binding is called as its label, without a keyword
  pub outer-becomes : (labels : Labelling) → AllOccur ByContext before labels →
      (p : Program) (list : List ℕ) →
      ((scope : Scope) (name : Name) (l : Label) → Contains labels (Bound scope name, l) → name.sym
      ≡ symbol_of_label p list l) → (scope : Scope) (name : Name) (l : Label) →
      Contains (labels_of b.becomes labels) (Bound scope name, l) →
      name.sym ≡ keyword_free (symbol_of_label p list l)
  outer-becomes labels occur p list called scope name l c =
      let was = was-labelled ByContext ByContext before after b labels (Bound scope name) l c in
      by_old was.old was.labelled was.is
    where
      by_old : (old : Denoted) → Contains labels (old, l) → Bound scope name ≡ b.becomes old →
          name.sym ≡ keyword_free (symbol_of_label p list l)
      by_old (Bound s n) labelled is =
          ap denoted_symbol is
          ∙ symbol-becomes s n (occur (Bound s n) l labelled)
          ∙ ap keyword_free (called s n l labelled)
      by_old (Global x) labelled is =
          let e : Bound scope name ≡ Global x = is ∙ b.globals x in absurd cc

  -- declared names have the contexts of their modules, but for keywords
  pub contexts-become : ((scope : Scope) (name : Name) → is_some name.ctxt ≡ true → is_some
      (b.bindings scope name).0.ctxt ≡ true) → (labels : Labelling) →
      AllOccur ByContext before labels → (local : ℕ → ℕ) →
      ((scope : Scope) (name : Name) (m : ℕ) (x : Text) → Contains labels
      (Bound scope name, Of (IsDeclared m x)) → name.sym ≡ x) →
      ((scope : Scope) (name : Name) (m : ℕ) (x : Text) → Contains labels
      (Bound scope name, Of (IsDeclared m x)) → name.ctxt ≡ Some (local m)) →
      (scope : Scope) (name : Name) (m : ℕ) (x : Text) →
      Contains (labels_of b.becomes labels) (Bound scope name, Of (IsDeclared m x)) →
      keyword_free x ≡ x → name.ctxt ≡ Some (local m)
  contexts-become written labels occur local called contexts scope name m x c plain =
      let was =
      was-labelled ByContext ByContext before after b labels (Bound scope name)
      (Of (IsDeclared m x)) c in
      by_old was.old was.labelled was.is
    where
      by_some : (p : Occurrence) → denoted_in_tree after p ≡ Bound scope name → (c : Option ℕ) →
          name.ctxt ≡ c → is_some c ≡ true → p.ctxt ≡ local m → name.ctxt ≡ Some (local m)
      by_some p denotes None e some its = absurd (false≢true some)
      by_some p denotes (Some k) e some its =
          e ∙ ap Some (own-context (declared ByContext Es after) p k (ap name_in denotes ∙ e) ∙ its)

      by_old : (old : Denoted) → Contains labels (old, Of (IsDeclared m x)) →
          Bound scope name ≡ b.becomes old → name.ctxt ≡ Some (local m)
      by_old (Global y) labelled is =
          let e : Bound scope name ≡ Global y = is ∙ b.globals y in absurd cc
      by_old (Bound s n) labelled is =
          let it = both-of (Bound s n) (occur (Bound s n) (Of (IsDeclared m x)) labelled) in
          let context = contexts s n m x labelled in
          let symbol : it.o.sym ≡ x =
          sym (own-symbol (declared ByContext Es before) it.o)
          ∙ ap denoted_symbol it.denotes
          ∙ called s n m x labelled in
          let kept : keyword_free it.o.sym ≡ it.o.sym =
          ap keyword_free symbol ∙ plain ∙ sym symbol in
          let symbols : it.p.sym ≡ it.o.sym =
          symbol-at before after resolved names rid it.i it.o it.p it.at it.there
          ∙ ap (keyword_free_of it.o.sym) it.denotes
          ∙ kept in
          let stays : it.p.ctxt ≡ it.o.ctxt =
          context-stays before after resolved names rid it.o it.p symbols
          (zip-at (λ old new. IsTrue (has_right_context (occurrences before) old new))
          (occurrences before) (occurrences after) rid.free.contexts it.i it.o it.p
          it.at it.there) in
          let its : it.p.ctxt ≡ local m =
          stays
          ∙ sym
          (own-context (declared ByContext Es before) it.o (local m)
          (ap name_in it.denotes ∙ context)) in
          let bound = b.bindings s n in
          let names_are : name ≡ bound.0 = name_of_bound (is ∙ bound.1) in
          by_some it.p (it.becomes ∙ sym is) name.ctxt refl
          (ap (λ (q : Name). is_some q.ctxt) names_are ∙ written s n (ap is_some context)) its
        where
          name_of_bound : {t : Scope} {k : Name} → Bound scope name ≡ Bound t k → name ≡ k
          name_of_bound e = cc

  -- where one has lost it, it is to a name that is spelled so with it
  pub contexts-stand : (labels : Labelling) → AllOccur ByContext before labels →
      (local : ℕ → ℕ) →
      ((scope : Scope) (name : Name) (m : ℕ) (x : Text) → Contains labels
      (Bound scope name, Of (IsDeclared m x)) → name.sym ≡ x) →
      ((scope : Scope) (name : Name) (m : ℕ) (x : Text) → Contains labels
      (Bound scope name, Of (IsDeclared m x)) → name.ctxt ≡ Some (local m)) →
      (scope : Scope) (name : Name) (m : ℕ) (x : Text) →
      Contains (labels_of b.becomes labels) (Bound scope name, Of (IsDeclared m x)) →
      (q : Occurrence) × Contains (occurrences after) q × (q.sym ≡ keyword_free x)
      × (q.ctxt ≡ local m)
  contexts-stand labels occur local called contexts scope name m x c =
      let was =
      was-labelled ByContext ByContext before after b labels (Bound scope name)
      (Of (IsDeclared m x)) c in
      by_old was.old was.labelled was.is
    where
      Stands : Type 0
      Stands =
          (q : Occurrence) × Contains (occurrences after) q × (q.sym ≡ keyword_free x)
          × (q.ctxt ≡ local m)

      right : (i : ℕ) (o p : Occurrence) → slice_get (occurrences before) i ≡ Some o →
          slice_get (occurrences after) i ≡ Some p →
          IsTrue (has_right_context (occurrences before) o p)
      right i o p at there =
          zip-at (λ old new. IsTrue (has_right_context (occurrences before) old new))
          (occurrences before) (occurrences after) rid.free.contexts i o p at there

      -- another name that had this identifier before has it still
      another : (q : Occurrence) (i : ℕ) → slice_get (occurrences before) i ≡ Some q →
          q.sym ≡ keyword_free x → q.ctxt ≡ local m → Stands
      another q i at symbol context =
          let later =
          as-long (occurrences before) (occurrences after) i q
          (size before after resolved names rid) at in
          let kept : keyword_free q.sym ≡ q.sym =
          ap keyword_free symbol ∙ free-twice x ∙ sym symbol in
          let same : later.0.sym ≡ q.sym =
          symbol-at before after resolved names rid i q later.0 at later.1
          ∙ free-of q.sym kept (denoted_in_tree before q) in (
            later.0,
            contains-get (occurrences after) i later.0 later.1,
            same ∙ symbol,
            context-stays before after resolved names rid q later.0 same
                (right i q later.0 at later.1)
                ∙ context,
          )

      by_test : (o p : Occurrence) (i : ℕ) → slice_get (occurrences after) i ≡ Some p →
          p.sym ≡ keyword_free x → o.ctxt ≡ local m →
          IsTrue (has_right_context (occurrences before) o p) → (test : Bool) →
          (not (bytes_eq o.sym p.sym) && has_ident (occurrences before) p.sym o.ctxt) ≡ test →
          Stands
      by_test o p i there symbol context its false e = (
        p,
        contains-get (occurrences after) i p there,
        symbol,
        eqb-true p.ctxt o.ctxt
            (sym
            (ap (λ t. cond t (is_unused_context (occurrences before) p.ctxt) (p.ctxt == o.ctxt)) e)
            ∙ its)
            ∙ context,
      )
      by_test o p i there symbol context its true e =
          let has =
          (and_parts (not (bytes_eq o.sym p.sym)) (has_ident (occurrences before) p.sym o.ctxt) e).1
          in
          let found =
          list_any-found (λ (q : Occurrence). bytes_eq q.sym p.sym && q.ctxt == o.ctxt)
          (occurrences before) has in
          let both = and_parts (bytes_eq found.1.sym p.sym) (found.1.ctxt == o.ctxt) found.3 in
          another found.1 found.0 found.2
          ((bytes_eq-Decides found.1.sym p.sym).0 both.0 ∙ symbol)
          (eqb-true found.1.ctxt o.ctxt both.1 ∙ context)

      by_old : (old : Denoted) → Contains labels (old, Of (IsDeclared m x)) →
          Bound scope name ≡ b.becomes old → Stands
      by_old (Global y) labelled is =
          let e : Bound scope name ≡ Global y = is ∙ b.globals y in absurd cc
      by_old (Bound s n) labelled is =
          let it = both-of (Bound s n) (occur (Bound s n) (Of (IsDeclared m x)) labelled) in
          let symbol : it.o.sym ≡ x =
          sym (own-symbol (declared ByContext Es before) it.o)
          ∙ ap denoted_symbol it.denotes
          ∙ called s n m x labelled in
          let symbols : it.p.sym ≡ keyword_free x =
          symbol-at before after resolved names rid it.i it.o it.p it.at it.there
          ∙ ap (keyword_free_of it.o.sym) it.denotes
          ∙ ap keyword_free symbol in
          let context : it.o.ctxt ≡ local m =
          sym
          (own-context (declared ByContext Es before) it.o (local m)
          (ap name_in it.denotes ∙ contexts s n m x labelled)) in
          by_test it.o it.p it.i it.there symbols context (right it.i it.o it.p it.at it.there)
          (not (bytes_eq it.o.sym it.p.sym)
          && has_ident (occurrences before) it.p.sym it.o.ctxt) refl

  -- and globals have 1
  pub globals-become : ((place : ℕ) (o : Occurrence) (x : Text) → occurrence_at before place ≡ Some
      o → denoted_at ByContext Es before place ≡ Some (Global x) → o.ctxt ≡ 1) →
      (place : ℕ) (o : Occurrence) (x : Text) → occurrence_at after place ≡ Some o →
      denoted_at ByContext Es after place ≡ Some (Global x) → o.ctxt ≡ 1
  globals-become one place p x at denotes =
      let listed = occurrence_at-listed after place p at in
      let o =
      as-long (occurrences after) (occurrences before) listed.0 p
      (sym (size before after resolved names rid)) listed.1 in
      let is : denoted_in_tree after p ≡ Global x =
      same_Some _ _ (sym (ap (option_map (denoted_in_tree after)) at) ∙ denotes) in
      let was =
      (rid.free.alike.globals listed.0 x).1
      (at-after before after resolved names rid listed.0 p listed.1 ∙ ap Some is) in
      let old : denoted_in_tree before o.0 ≡ Global x =
      same_Some _ _ (sym (at-before before after resolved names rid listed.0 o.0 o.1) ∙ was) in
      let context : o.0.ctxt ≡ 1 =
      one o.0.place o.0 x (occurrences-at before listed.0 o.0 o.1)
      (ap (option_map (denoted_in_tree before)) (occurrences-at before listed.0 o.0 o.1)
      ∙ ap Some old) in
      let symbols : p.sym ≡ o.0.sym =
      symbol-at before after resolved names rid listed.0 o.0 p o.1 listed.1
      ∙ ap (keyword_free_of o.0.sym) old in
      context-stays before after resolved names rid o.0 p symbols
      (zip-at (λ old new. IsTrue (has_right_context (occurrences before) old new))
      (occurrences before) (occurrences after) rid.free.contexts listed.0 o.0 p o.1
      listed.1)
      ∙ context

-- ---- laid out
module _ (p : Program) (form : Form) (reading other : Reading) (tree after : List Item)
    (plan : List Cause) (labels its_labels : Labelling) (items its : List (List Item))
    (tree_is : tree ≡ joined_items items) (after_is : after ≡ joined_items its)
    (size : length (top_items (joined_items items)) ≡ length (top_items (joined_items its)))
    (good : (tops others : List TopItem) → AllZip (AtOne tree after) tops others → (owners : List (Option ℕ)) (order : List ℕ) → IsGoodOrder (group_of reading Top tree tops owners) order → IsGoodOrder (group_of other Top after others owners) order)
  where
    abbrev one : Pairing
    one = pairing_of labels items plan

    abbrev two : Pairing
    two = pairing_of its_labels its plan

    record Others (causes : List Cause) (tops : List TopItem) : Type 0 where
      others : List TopItem
      stand : AllZip (StandsFor two) causes others
      at : AllZip (AtOne tree after) tops others

    others_of : (causes : List Cause) (tops : List TopItem) → AllZip (StandsFor one) causes tops →
        Others causes tops
    others_of [] [] stand = record { others = []; stand = tt; at = tt }
    others_of [] (top ∷ tops) stand = absurd stand
    others_of (cause ∷ causes) [] stand = absurd stand
    others_of (cause ∷ causes) (top ∷ tops) stand =
        let here : StandsFor one cause top = stand.0 in
        let there =
        as-long (top_items (joined_items items)) (top_items (joined_items its)) here.at top size
        here.item_there in
        let rest = others_of causes tops stand.1 in
        record {
          others = there.0 ∷ rest.others;
          stand = (
            record { at = here.at; cause_there = here.cause_there; item_there = there.1 },
            rest.stand,
          );
          at = (
            record {
              at = here.at;
              here = ap (λ l. slice_get (top_items l) here.at) tree_is ∙ here.item_there;
              there = ap (λ l. slice_get (top_items l) here.at) after_is ∙ there.1;
            },
            rest.at,
          );
        }

    block-stays : {members : List ℕ} {causes : List Cause} →
        IsBlockLaidOut p form tree reading one members causes →
        IsBlockLaidOut p form after other two members causes
    block-stays (lone apart plan_is) = lone apart plan_is
    block-stays (cycle numbered tops order by_needs asks numbers stand ordered plan_is) =
        let more = others_of numbered tops stand in
        cycle numbered more.others order by_needs asks numbers more.stand
        (good tops more.others more.at _ order ordered) plan_is

    blocks-stay : {blocks : List (List ℕ)} {causes : List Cause} →
        AreBlocksLaidOut p form tree reading one blocks causes →
        AreBlocksLaidOut p form after other two blocks causes
    blocks-stay over = over
    blocks-stay (next causes block rest) = next causes (block-stays block) (blocks-stay rest)

    -- the layout stays
    pub layout-stays : IsLaidOut p form reading tree one → IsLaidOut p form other after two
    layout-stays laid = record {
      list = laid.list;
      is_list = laid.is_list;
      blocks = laid.blocks;
      are_blocks = laid.are_blocks;
      follows = laid.follows;
      front = laid.front;
      middle = laid.middle;
      back = laid.back;
      plan = laid.plan;
      in_front = laid.in_front;
      in_blocks = blocks-stay laid.in_blocks;
      behind = laid.behind;
    }

-- as many items
pub body-length : (p : Program) (hooks : Hooks) (plan : List Cause) (reading : Reading)
    (tree : List Item) (still : IsStillNoted p hooks plan reading tree) →
    length (top_items (joined_items still.items)) ≡ length plan
body-length p hooks plan reading tree still =
    zip-length _ (top_items (joined_items still.items)) plan still.paired.realised

-- what is laid out of it
abbrev pub LaidOut : (p : Program) (hooks : Hooks) (plan : List Cause) (reading : Reading)
    (tree : List Item) → IsStillNoted p hooks plan reading tree → Type 0
LaidOut p hooks plan reading tree still =
    IsLaidOut p AsModule reading tree (pairing_of still.labels still.items plan)

pub is-bundle : (p : Program) (hooks : Hooks) (plan : List Cause) (reading : Reading)
    (tree : List Item) (still : IsStillNoted p hooks plan reading tree) →
    LaidOut p hooks plan reading tree still → IsBundle p hooks AsModule reading tree
is-bundle p hooks plan reading tree still laid = record {
  pairing = pairing_of still.labels still.items plan;
  paired = still.paired;
  laid_out = laid;
}

-- naming keeps bundles
pub naming-keeps-bundles : (p : Program) (hooks : Hooks) (plan : List Cause)
    (merged named : List Item) (ready : IsReady p hooks plan ByContext merged) →
    LaidOut p hooks plan ByContext merged ready.still → IsResolved Es merged → HasNamesOnly merged →
    ArePlain merged → HasWays merged → HasObjects ByContext merged → IsNamed merged named →
    IsListing named → IsBundle p hooks AsModule BySymbol named
naming-keeps-bundles p hooks plan merged named ready laid resolved names plain ways objects naming
    listing =
    let still = ready.still in
    let after = naming-keeps p hooks plan merged named ready resolved names plain naming listing in
    let b : Becoming ByContext merged BySymbol named =
    becoming_named merged named resolved names plain naming.renamed naming.keeps.same in
    let edited =
    items-edited still.items still.noted named ready.forms ready.lone
    (as-many ByContext BySymbol (joined_items still.items) named
    (subst (λ t. Becoming ByContext t BySymbol named) still.is b)) in
    let ordered : (tops others : List TopItem) → AllZip (AtOne (joined_items still.items) named) tops
    others → (owners : List (Option ℕ)) (order : List ℕ) → IsGoodOrder
    (group_of ByContext Top (joined_items still.items) tops owners) order → IsGoodOrder
    (group_of BySymbol Top named others owners) order =
    λ tops others at owners order good.
    (named-good_order 0 named edited.edits (subst (λ t. KeepsNames t named) still.is naming.keeps) (subst HasWays still.is ways) (subst (HasObjects ByContext) still.is objects) tops others at owners order).0
    good in
    is-bundle p hooks plan BySymbol named after
    (layout-stays p AsModule ByContext BySymbol (joined_items still.items) named plan still.labels after.labels still.items after.items refl after.is (body-length p hooks plan ByContext merged still ∙ sym (body-length p hooks plan BySymbol named after)) ordered
    (subst (λ t. IsLaidOut p AsModule ByContext t (pairing_of still.labels still.items plan)) still.is laid))
