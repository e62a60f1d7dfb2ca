-- The names that keywords' bindings get tell bindings apart as before.
use Rattle.std.proofs.Common.{◌≡◌, ◌<◌, ◌≤◌, ℕ, zero, suc, ◌==◌, nat_le, Bool, true, false, ◌||◌, ◌&&◌, cond, not, List, [], ◌∷◌, ◌++◌, Option, Some, None, option_map, unwrap_or, map, length, refl, ap, ap₂, sym, ◌∙◌, subst, arith, eqb-true, eq-eqb, bytes_eq, codes, string_bytes}
use Rattle.std.specs.Prelude.{slice_get, option_and_then, MatchBool}
use Rattle.std.specs.List.{list_any, AllZip}
use Rattle.std.proofs.lemmas.Bool.{and_right, false≢true, and_from, and_parts, false_from_ne_true, le-leb}
use Rattle.std.proofs.lemmas.Option.{none-some, same_Some, slice_get-map, slice_get_within}
use Rattle.std.proofs.lemmas.List.{length-map}
use Rattle.std.proofs.lemmas.Slice.Eq.{bytes_eq-Decides}
use Rattle.bundle_syntax.specs.declared.piece.Role.TheVariants as r
use Rattle.bundle_syntax.specs.Item as h
use Rattle.bundle_syntax.specs.Item.{Item}
use Rattle.bundle_rules.specs.Places.{start, past, Spot, is_binding, Occurrence, occurrences_from, occurrences}
use Rattle.bundle_rules.specs.Scopes.{Es, Scope, scopes_around}
use Rattle.bundle_rules.specs.Declarations.{ByContext, Name, way_of, Way, declared_by, Declared, declared, declaration_of}
use Rattle.bundle_rules.specs.Homes.{home_of}
use Rattle.bundle_rules.specs.Denotes.{Denoted, Bound, Global, denoted_of, denoted_at, own_or_found, denoted_in, IsResolved}
use Rattle.bundle_rules.specs.Keywords.{is_keyword, keyword_free_of, has_ident, is_unused_context}
use Rattle.bundle_rules.proofs.PlacesLemmas.{occurrences-at}
use Rattle.bundle_rules.specs.Idents.{Ident}
use Rattle.bundle_rules.specs.Renamed.{HasNamesOnly}
use Rattle.bundle_scope_denote.specs.declared.table.Binding.{Binding}
use Rattle.bundle_scope_denote.specs.declared.table.Denoted.{Denoted as Entry}
use Rattle.bundle_scope_denote.specs.declared.table.Denotations.{Denotations}
use Rattle.bundle_scope_denote.specs.Numbers.{NumberedScope, numbered_scope}
use Rattle.bundle_scope_denote.specs.Chains.{numbered_scope_at}
use Rattle.bundle_scope_denote.specs.Ready.{binding_name}
use Rattle.bundle_scope_denote.specs.Listed.{IsBinding, IsDenoted, IsTableEntry, TellsDenoted, IsDenotationTable}
use Rattle.bundle_scope_denote.proofs.ZipLemmas.{AllZip-at_second}
use Rattle.bundle_scope_names.specs.declared.names.Names.{Names}
use Rattle.bundle_scope_names.specs.Called.{at, binding_text, context_of, called_ident, keyword_text}
use Rattle.bundle_scope_names.specs.Fresh.{has_occurrence, has_context, IsFresh, IsContextFor, ctxt_of, AreContexts}
use Rattle.bundle_scope_names.proofs.naming_rule.Tables.{IsIn, any-here, Table, Shape, table_in, shape}
use Rattle.bundle_scope_names.proofs.HomesLemmas.{iff as same_bool, eq_comm as eq_turned}
use Rattle.bundle_scope_names.proofs.naming_rule.Clash.{Source, FromGlobal, FromDeclared, FromArguments, source}
use Rattle.bundle_scope_names.proofs.numbered.NumberingBy.{zip-both, zip-in}
use Rattle.bundle_scope_names.proofs.naming_rule.Transfer.{Calling, named as name_of_ident, is_written_one, IsFaithful}

at-map : {A C : Type 0} (f : A → C) (xs : List (Option A)) (i : ℕ) → at (map (option_map f) xs) i ≡ option_map f (at xs i)
at-map f [] i = refl
at-map f (x ∷ xs) zero = refl
at-map f (x ∷ xs) (suc i) = at-map f xs i

at-some : {A : Type 0} (f : A → Option (List ℕ)) (xs : List A) (i : ℕ) (x : A) → slice_get xs i ≡ Some x → at (map f xs) i ≡ f x
at-some f xs i x is = ap (option_and_then (λ value. value)) (slice_get-map f xs i ∙ ap (option_map f) is)

pub under-one : (a b : List ℕ) → codes "__" ++ a ≡ codes "__" ++ b → a ≡ b
under-one a b e = cc

under-other : (a : List ℕ) → bytes_eq a (codes "__" ++ a) ≡ false
under-other a = false_from_ne_true (bytes_eq a (codes "__" ++ a)) (λ e. longer a ((bytes_eq-Decides a (codes "__" ++ a)).0 e))
  where
    longer : (a : List ℕ) → a ≡ codes "__" ++ a → ⊥
    longer a e = let two = ap length e in omega (arith, two)

turned : (text : List ℕ) (c : ℕ) (x : List ℕ) (ctxt : ℕ) → (c == ctxt && bytes_eq text x) ≡ (bytes_eq x text && ctxt == c)
turned text c x ctxt = same_bool (c == ctxt && bytes_eq text x) (bytes_eq x text && ctxt == c)
    (λ e. let parts = and_parts (c == ctxt) (bytes_eq text x) e in and_from (bytes_eq x text) (ctxt == c) ((bytes_eq-Decides x text).1 (sym ((bytes_eq-Decides text x).0 parts.1))) (eq-eqb ctxt c (sym (eqb-true c ctxt parts.0))))
    (λ e. let parts = and_parts (bytes_eq x text) (ctxt == c) e in and_from (c == ctxt) (bytes_eq text x) (eq-eqb c ctxt (sym (eqb-true ctxt c parts.1))) ((bytes_eq-Decides text x).1 (sym ((bytes_eq-Decides x text).0 parts.0))))

-- the identifiers of a list are those of its occurrences
names-os : (text : List ℕ) (c : ℕ) (spot : Spot) (rest : List Item) → list_any (has_occurrence text c) rest ≡ list_any (λ (o : Occurrence). bytes_eq o.sym text && o.ctxt == c) (occurrences_from spot rest)
names-os text c spot [] = refl
names-os text c spot (h.Ident field x ctxt r.Word ∷ rest) = names-os text c (past spot (h.Ident field x ctxt r.Word)) rest
names-os text c spot (h.Ident field x ctxt r.Binding ∷ rest) = ap₂ (λ (v : Bool) (w : Bool). v || w) (turned text c x ctxt) (names-os text c (past spot (h.Ident field x ctxt r.Binding)) rest)
names-os text c spot (h.Ident field x ctxt r.Reference ∷ rest) = ap₂ (λ (v : Bool) (w : Bool). v || w) (turned text c x ctxt) (names-os text c (past spot (h.Ident field x ctxt r.Reference)) rest)
names-os text c spot (h.Open field head ∷ rest) = names-os text c (past spot (h.Open field head)) rest
names-os text c spot (h.Hole field ∷ rest) = names-os text c (past spot (h.Hole field)) rest
names-os text c spot (h.Close ∷ rest) = names-os text c (past spot h.Close) rest

contexts-os : (c : ℕ) (spot : Spot) (rest : List Item) → list_any (has_context c) rest ≡ list_any (λ (o : Occurrence). o.ctxt == c) (occurrences_from spot rest)
contexts-os c spot [] = refl
contexts-os c spot (h.Ident field x ctxt r.Word ∷ rest) = contexts-os c (past spot (h.Ident field x ctxt r.Word)) rest
contexts-os c spot (h.Ident field x ctxt r.Binding ∷ rest) = ap₂ (λ (v : Bool) (w : Bool). v || w) (eq_turned c ctxt) (contexts-os c (past spot (h.Ident field x ctxt r.Binding)) rest)
contexts-os c spot (h.Ident field x ctxt r.Reference ∷ rest) = ap₂ (λ (v : Bool) (w : Bool). v || w) (eq_turned c ctxt) (contexts-os c (past spot (h.Ident field x ctxt r.Reference)) rest)
contexts-os c spot (h.Open field head ∷ rest) = contexts-os c (past spot (h.Open field head)) rest
contexts-os c spot (h.Hole field ∷ rest) = contexts-os c (past spot (h.Hole field)) rest
contexts-os c spot (h.Close ∷ rest) = contexts-os c (past spot h.Close) rest

module _ (items : List Item) (only : HasNamesOnly items) (table : Denotations) (t : IsDenotationTable ByContext Es items table) (resolved : IsResolved Es items) (names : Names) (texts : map (option_map string_bytes) names.texts.items ≡ map (λ (binding : Binding). keyword_text binding.sym.now) table.bindings.items) (contexts : AreContexts items table.bindings.items (map (option_map string_bytes) names.texts.items) names.contexts.items) where
  abbrev S : List NumberedScope
  S = map numbered_scope table.scopes.items

  abbrev B : List Binding
  B = table.bindings.items

  abbrev E : List Entry
  E = table.occurrences.items

  abbrev os : List Occurrence
  os = occurrences items

  abbrev all : List Declared
  all = declared ByContext Es items

  abbrev K : Table
  K = table_in start items

  abbrev s : Shape K os all
  s = shape items only

  abbrev pub Both : Entry → Occurrence → Type 0
  Both e o = IsTableEntry S ByContext Es e o × TellsDenoted S B e (denoted_of ByContext Es all o)

  pub zipped : AllZip (λ e o. Both e o × IsIn os o) E os
  zipped = zip-in Both E os os (zip-both (IsTableEntry S ByContext Es) (TellsDenoted S B) (denoted_of ByContext Es all) E os t.occurrences t.denotes) (λ o at. at)

  -- Identifiers and what they denote.

  denoted-there : (o : Occurrence) → IsIn os o → denoted_at ByContext Es items o.place ≡ Some (denoted_of ByContext Es all o)
  denoted-there o at = ap (option_map (denoted_of ByContext Es all)) (occurrences-at items at.0 o at.1)

  same-denoted : (o p : Occurrence) → IsIn os o → IsIn os p → o.sym ≡ p.sym → o.ctxt ≡ p.ctxt → denoted_of ByContext Es all o ≡ denoted_of ByContext Es all p
  same-denoted o p at there symbols ctxts = same_Some _ _ (sym (denoted-there o at) ∙ (resolved.same o.place p.place o p (occurrences-at items at.0 o at.1) (occurrences-at items there.0 p there.1)).0 (symbols, ctxts) ∙ denoted-there p there)

  same-ident : (o p : Occurrence) → IsIn os o → IsIn os p → denoted_of ByContext Es all o ≡ denoted_of ByContext Es all p → (o.sym ≡ p.sym) × (o.ctxt ≡ p.ctxt)
  same-ident o p at there denoted = (resolved.same o.place p.place o p (occurrences-at items at.0 o at.1) (occurrences-at items there.0 p there.1)).1 (denoted-there o at ∙ ap (λ d. Some d) denoted ∙ sym (denoted-there p there))

  -- one thing denoted has one number
  pub number-one : (a b : Option ℕ) (x : Denoted) → IsDenoted S B a x → IsDenoted S B b x → a ≡ b
  number-one None None x one two = refl
  number-one None (Some b) (Global z) one two = absurd two
  number-one None (Some b) (Bound scope name) one two = absurd one
  number-one (Some a) None (Global z) one two = absurd one
  number-one (Some a) None (Bound scope name) one two = absurd two
  number-one (Some a) (Some b) (Global z) one two = absurd one
  number-one (Some a) (Some b) (Bound scope name) one two = ap (λ k. Some k) (t.one a b scope name one two)

  -- and the other way round
  denoted-one : (b : ℕ) (x y : Denoted) → IsDenoted S B (Some b) x → IsDenoted S B (Some b) y → x ≡ y
  denoted-one b (Global z) y one two = absurd one
  denoted-one b (Bound scope name) (Global z) one two = absurd two
  denoted-one b (Bound scope name) (Bound other its) one two =
      let same : one.binding ≡ two.binding = same_Some one.binding two.binding (sym one.at ∙ two.at) in
      ap₂ (λ (a : Scope) (m : Name). Bound a m) (same_Some scope other (sym one.in_scope ∙ ap (λ (x : Binding). numbered_scope_at S x.scope) same ∙ two.in_scope)) (sym one.named ∙ ap binding_name same ∙ two.named)

  -- The calling.

  abbrev pub call_in : List Occurrence → List Entry → Calling
  call_in [] es x c = (x, c)
  call_in (o ∷ l) [] x c = (x, c)
  call_in (o ∷ l) (e ∷ es) x c = cond (bytes_eq o.sym x && o.ctxt == c) (called_ident names (x, c) e.binding) (call_in l es x c)

  abbrev pub call : Calling
  call = call_in os E

  calls-in : (l : List Occurrence) (es : List Entry) → AllZip (λ e o. Both e o × IsIn os o) es l → (i : ℕ) (e : Entry) (o : Occurrence) → slice_get es i ≡ Some e → slice_get l i ≡ Some o → Both e o × IsIn os o → call_in l es o.sym o.ctxt ≡ called_ident names (o.sym, o.ctxt) e.binding
  calls-in [] es zip i e o at_e at_o known = absurd (none-some o at_o)
  calls-in (p ∷ l) [] zip i e o at_e at_o known = absurd zip
  calls-in (p ∷ l) (f ∷ es) zip i e o at_e at_o known = by (bytes_eq p.sym o.sym && p.ctxt == o.ctxt) refl i at_e at_o (λ j one two. calls-in l es zip.1 j e o one two known)
    where
      by : (v : Bool) → (bytes_eq p.sym o.sym && p.ctxt == o.ctxt) ≡ v → (i : ℕ) → slice_get (f ∷ es) i ≡ Some e → slice_get (p ∷ l) i ≡ Some o → ((j : ℕ) → slice_get es j ≡ Some e → slice_get l j ≡ Some o → call_in l es o.sym o.ctxt ≡ called_ident names (o.sym, o.ctxt) e.binding) → cond v (called_ident names (o.sym, o.ctxt) f.binding) (call_in l es o.sym o.ctxt) ≡ called_ident names (o.sym, o.ctxt) e.binding
      by true is i at_e at_o ih =
          let parts = and_parts (bytes_eq p.sym o.sym) (p.ctxt == o.ctxt) is in
          let denoted = same-denoted p o zip.0.1 known.1 ((bytes_eq-Decides p.sym o.sym).0 parts.0) (eqb-true p.ctxt o.ctxt parts.1) in
          ap (called_ident names (o.sym, o.ctxt)) (number-one f.binding e.binding (denoted_of ByContext Es all o) (subst (λ d. IsDenoted S B f.binding d) denoted zip.0.0.1) known.0.1)
      by false is zero at_e at_o ih = absurd (false≢true (sym is ∙ ap (λ (q : Occurrence). bytes_eq q.sym o.sym && q.ctxt == o.ctxt) (same_Some p o at_o) ∙ and_from (bytes_eq o.sym o.sym) (o.ctxt == o.ctxt) ((bytes_eq-Decides o.sym o.sym).1 refl) (eq-eqb o.ctxt o.ctxt refl)))
      by false is (suc i) at_e at_o ih = ih i at_e at_o

  -- an occurrence with its entry
  pub entry-of : (o : Occurrence) → IsIn os o → (e : Entry) × IsIn E e × (Both e o × IsIn os o) × (call o.sym o.ctxt ≡ called_ident names (o.sym, o.ctxt) e.binding)
  entry-of o at =
      let found = AllZip-at_second (λ e o. Both e o × IsIn os o) E os at.0 o zipped at.1 in
      (found.0, (at.0, found.1), found.2, calls-in os E zipped at.0 found.0 o found.1 at.1 found.2)

  -- What stands in the list.

  no-context : (c : ℕ) → list_any (has_context c) items ≡ false → (o : Occurrence) → IsIn os o → o.ctxt ≡ c → ⊥
  no-context c none o at same = false≢true (sym none ∙ contexts-os c start items ∙ any-here (λ (x : Occurrence). x.ctxt == c) os o at (eq-eqb o.ctxt c same))

  no-name : (text : List ℕ) (c : ℕ) → list_any (has_occurrence text c) items ≡ false → (o : Occurrence) → IsIn os o → o.sym ≡ text → o.ctxt ≡ c → ⊥
  no-name text c none o at symbols ctxts = false≢true (sym none ∙ names-os text c start items ∙ any-here (λ (x : Occurrence). bytes_eq x.sym text && x.ctxt == c) os o at (and_from (bytes_eq o.sym text) (o.ctxt == c) ((bytes_eq-Decides o.sym text).1 symbols) (eq-eqb o.ctxt c ctxts)))

  -- What a binding is called.

  pub text-of : (b : ℕ) (x : Binding) → slice_get B b ≡ Some x → binding_text names b ≡ keyword_text x.sym.now
  text-of b x is = sym (at-map string_bytes names.texts.items b) ∙ ap (λ l. at l b) texts ∙ at-some (λ (binding : Binding). keyword_text binding.sym.now) B b x is

  context-for : (b : ℕ) (x : Binding) → slice_get B b ≡ Some x → IsContextFor items (keyword_text x.sym.now) x.ctxt (context_of names b)
  context-for b x is =
      let len = length-map B (λ (binding : Binding). keyword_text binding.sym.now) in
      let same = ap length texts in
      let within : b < length B = slice_get_within B b x is in
      let lt : b < length (map (option_map string_bytes) names.texts.items) = omega (arith, len, same, within) in
      subst (λ z. IsContextFor items (keyword_text x.sym.now) z (context_of names b)) (ap (option_and_then (λ (y : Binding). y.ctxt)) is)
      (subst (λ z. IsContextFor items z (ctxt_of B b) (context_of names b)) (at-map string_bytes names.texts.items b ∙ text-of b x is) (contexts.each b lt))

  -- how an identifier is called: as before; with `__`; or with `__` and a context that nothing has
  pub data How (o : Occurrence) (e : Entry) : Type 0 where
    AsBefore : call o.sym o.ctxt ≡ (o.sym, o.ctxt) → keyword_free_of o.sym (denoted_of ByContext Es all o) ≡ o.sym → How o e
    Under : call o.sym o.ctxt ≡ (codes "__" ++ o.sym, o.ctxt) → keyword_free_of o.sym (denoted_of ByContext Es all o) ≡ codes "__" ++ o.sym → is_written_one (denoted_of ByContext Es all o) ≡ true → list_any (has_occurrence (codes "__" ++ o.sym) o.ctxt) items ≡ false → How o e
    Fresh : (c b : ℕ) → call o.sym o.ctxt ≡ (codes "__" ++ o.sym, c) → keyword_free_of o.sym (denoted_of ByContext Es all o) ≡ codes "__" ++ o.sym → is_written_one (denoted_of ByContext Es all o) ≡ true → list_any (has_occurrence (codes "__" ++ o.sym) o.ctxt) items ≡ true → 2 ≤ c → list_any (has_context c) items ≡ false → e.binding ≡ Some b → context_of names b ≡ Some c → How o e

  -- a declared name has the identifier of each occurrence that denotes it
  ident-of : (o : Occurrence) → IsIn os o → (d : Declared) → IsIn all d → denoted_of ByContext Es all o ≡ Bound (home_of all d) d.name → d.name ≡ name_of_ident o
  ident-of o at d among denoted =
      let own = s.declared d among in
      let denotes : denoted_of ByContext Es all own.0 ≡ Bound (home_of all d) d.name = ap (own_or_found all (denoted_in ByContext all (scopes_around Es own.0.path) (name_of_ident own.0))) own.2 in
      let same = same-ident own.0 o own.1 at (denotes ∙ sym denoted) in
      name-of own.0 d own.2 ∙ ap₂ (λ (x : List ℕ) (c : ℕ). let m : Name = record { sym = x; ctxt = Some c } in m) same.0 same.1
    where
      name-of : (o : Occurrence) (f : Declared) → declaration_of ByContext Es o ≡ Some f → f.name ≡ name_of_ident o
      name-of o f e = by (is_binding o.role) (way_of o.path) e
        where
          by : (v : Bool) (w : Option Way) → cond v (declared_by o.place (record { sym = o.sym; ctxt = Some o.ctxt }) (scopes_around Es o.path) w) None ≡ Some f → f.name ≡ name_of_ident o
          by false w e = absurd (none-some f e)
          by true None e = absurd (none-some f e)
          by true (Some way) e = ap (λ (x : Declared). x.name) (sym (same_Some _ f e))

  arguments-stay : (x : List ℕ) → x ≡ codes "arguments" → is_keyword x ≡ false
  arguments-stay x e = ap is_keyword e

  how : (o : Occurrence) → (at : IsIn os o) → How o (entry-of o at).0
  how o at = by (denoted_of ByContext Es all o) refl (source K os all s o at)
    where
      its : (e : Entry) × IsIn E e × (Both e o × IsIn os o) × (call o.sym o.ctxt ≡ called_ident names (o.sym, o.ctxt) e.binding)
      its = entry-of o at

      -- a binding that keeps its symbol
      kept : (b : ℕ) (scope : Scope) (name : Name) → its.0.binding ≡ Some b → IsBinding S B b scope name → denoted_of ByContext Es all o ≡ Bound scope name → name.sym ≡ o.sym → is_keyword o.sym ≡ false → How o its.0
      kept b scope name is_b bound denoted symbols plain =
          let same : bound.binding.sym.now ≡ o.sym = ap (λ (m : Name). m.sym) bound.named ∙ symbols in
          let no_text : keyword_text bound.binding.sym.now ≡ None = ap keyword_text same ∙ ap (λ v. cond v (Some (codes "__" ++ o.sym)) None) plain in
          let no_context : context_of names b ≡ None = subst (λ z. IsContextFor items z bound.binding.ctxt (context_of names b)) no_text (context-for b bound.binding bound.at) in
          AsBefore (its.3 ∙ ap (called_ident names (o.sym, o.ctxt)) is_b ∙ ap₂ (λ (x : Option (List ℕ)) (c : Option ℕ). let i : Ident = (unwrap_or x o.sym, unwrap_or c o.ctxt) in i) (text-of b bound.binding bound.at ∙ no_text) no_context) (ap (keyword_free_of o.sym) denoted ∙ ap (λ v. cond v (codes "__" ++ o.sym) o.sym) plain)

      -- one that does not
      changed : (b : ℕ) (scope : Scope) → its.0.binding ≡ Some b → IsBinding S B b scope (name_of_ident o) → denoted_of ByContext Es all o ≡ Bound scope (name_of_ident o) → is_keyword o.sym ≡ true → How o its.0
      changed b scope is_b bound denoted keyword =
          let same : bound.binding.sym.now ≡ o.sym = ap (λ (m : Name). m.sym) bound.named in
          let text : keyword_text bound.binding.sym.now ≡ Some (codes "__" ++ o.sym) = ap keyword_text same ∙ ap (λ v. cond v (Some (codes "__" ++ o.sym)) None) keyword in
          let ctxt : bound.binding.ctxt ≡ Some o.ctxt = ap (λ (m : Name). m.ctxt) bound.named in
          let for : MatchBool (list_any (has_occurrence (codes "__" ++ o.sym) o.ctxt) items) (IsFresh items (context_of names b)) (context_of names b ≡ None) = subst (λ z. IsContextFor items (Some (codes "__" ++ o.sym)) z (context_of names b)) ctxt (subst (λ z. IsContextFor items z bound.binding.ctxt (context_of names b)) text (context-for b bound.binding bound.at)) in
          let calls : call o.sym o.ctxt ≡ (codes "__" ++ o.sym, unwrap_or (context_of names b) o.ctxt) = its.3 ∙ ap (called_ident names (o.sym, o.ctxt)) is_b ∙ ap (λ (x : Option (List ℕ)). let i : Ident = (unwrap_or x o.sym, unwrap_or (context_of names b) o.ctxt) in i) (text-of b bound.binding bound.at ∙ text) in
          let free : keyword_free_of o.sym (denoted_of ByContext Es all o) ≡ codes "__" ++ o.sym = ap (keyword_free_of o.sym) denoted ∙ ap (λ v. cond v (codes "__" ++ o.sym) o.sym) keyword in
          by_collides (list_any (has_occurrence (codes "__" ++ o.sym) o.ctxt) items) refl (context_of names b) refl for calls free (ap is_written_one denoted)
        where
          by_collides : (v : Bool) → list_any (has_occurrence (codes "__" ++ o.sym) o.ctxt) items ≡ v → (c : Option ℕ) → context_of names b ≡ c → MatchBool v (IsFresh items c) (c ≡ None) → call o.sym o.ctxt ≡ (codes "__" ++ o.sym, unwrap_or c o.ctxt) → keyword_free_of o.sym (denoted_of ByContext Es all o) ≡ codes "__" ++ o.sym → is_written_one (denoted_of ByContext Es all o) ≡ true → How o its.0
          by_collides true is None c_is for calls free written = absurd for
          by_collides true is (Some c) c_is for calls free written = Fresh c b calls free written is for.0 for.1 is_b c_is
          by_collides false is c c_is for calls free written = Under (calls ∙ ap (λ (z : Option ℕ). let i : Ident = (codes "__" ++ o.sym, unwrap_or z o.ctxt) in i) for) free written is

      bound-by : (scope : Scope) (name : Name) (b : Option ℕ) → its.0.binding ≡ b → IsDenoted S B b (Bound scope name) → (k : ℕ) × (its.0.binding ≡ Some k) × IsBinding S B k scope name
      bound-by scope name None at known = absurd known
      bound-by scope name (Some b) at known = (b, at, known)

      by_keyword : (d : Declared) → IsIn all d → denoted_of ByContext Es all o ≡ Bound (home_of all d) d.name → (b : ℕ) → its.0.binding ≡ Some b → IsBinding S B b (home_of all d) d.name → (v : Bool) → is_keyword o.sym ≡ v → How o its.0
      by_keyword d among denoted b is_b bound false keyword = kept b (home_of all d) d.name is_b bound denoted (ap (λ (m : Name). m.sym) (ident-of o at d among denoted)) keyword
      by_keyword d among denoted b is_b bound true keyword = let same = ident-of o at d among denoted in changed b (home_of all d) is_b (subst (λ m. IsBinding S B b (home_of all d) m) same bound) (denoted ∙ ap (Bound (home_of all d)) same) keyword

      by : (x : Denoted) → denoted_of ByContext Es all o ≡ x → Source all o x → How o its.0
      by _ is FromGlobal = by_global its.0.binding refl (subst (λ x. IsDenoted S B its.0.binding x) is its.2.0.1)
        where
          by_global : (b : Option ℕ) → its.0.binding ≡ b → IsDenoted S B b (Global o.sym) → How o its.0
          by_global None at tells = AsBefore (its.3 ∙ ap (called_ident names (o.sym, o.ctxt)) at) (ap (keyword_free_of o.sym) is)
          by_global (Some b) at tells = absurd tells
      by _ is (FromDeclared d among same) = let found = bound-by (home_of all d) d.name its.0.binding refl (subst (λ x. IsDenoted S B its.0.binding x) is its.2.0.1) in by_keyword d among is found.0 found.1 found.2 (is_keyword o.sym) refl
      by _ is (FromArguments scope same) =
          let name : Name = record { sym = o.sym; ctxt = None } in
          let found = bound-by scope name its.0.binding refl (subst (λ x. IsDenoted S B its.0.binding x) is its.2.0.1) in
          kept found.0 scope name found.1 found.2 is refl (arguments-stay o.sym same)

  -- What is told apart.

  sym-of : (i j : Ident) → i ≡ j → (i.0 ≡ j.0) × (i.1 ≡ j.1)
  sym-of i j e = (ap (λ (k : Ident). k.0) e, ap (λ (k : Ident). k.1) e)

  pub faithful : IsFaithful call os all
  faithful = record { one = λ o p at there symbols ctxts. one o p at there (how o at) (how p there) symbols ctxts; stays = λ o at is. stays o at (how o at) is }
    where
      one : (o p : Occurrence) (at : IsIn os o) (there : IsIn os p) → How o (entry-of o at).0 → How p (entry-of p there).0 → (call o.sym o.ctxt).0 ≡ (call p.sym p.ctxt).0 → (call o.sym o.ctxt).1 ≡ (call p.sym p.ctxt).1 → (o.sym ≡ p.sym) × (o.ctxt ≡ p.ctxt)
      one o p at there (AsBefore a free) (AsBefore b its) symbols ctxts = (sym (sym-of _ _ a).0 ∙ symbols ∙ (sym-of _ _ b).0, sym (sym-of _ _ a).1 ∙ ctxts ∙ (sym-of _ _ b).1)
      one o p at there (AsBefore a free) (Under b its written none) symbols ctxts = absurd (no-name (codes "__" ++ p.sym) p.ctxt none o at (sym (sym-of _ _ a).0 ∙ symbols ∙ (sym-of _ _ b).0) (sym (sym-of _ _ a).1 ∙ ctxts ∙ (sym-of _ _ b).1))
      one o p at there (AsBefore a free) (Fresh c k b its written some low none is_k is_c) symbols ctxts = absurd (no-context c none o at (sym (sym-of _ _ a).1 ∙ ctxts ∙ (sym-of _ _ b).1))
      one o p at there (Under a free written none) (AsBefore b its) symbols ctxts = absurd (no-name (codes "__" ++ o.sym) o.ctxt none p there (sym (sym-of _ _ b).0 ∙ sym symbols ∙ (sym-of _ _ a).0) (sym (sym-of _ _ b).1 ∙ sym ctxts ∙ (sym-of _ _ a).1))
      one o p at there (Under a free written none) (Under b its is_written other) symbols ctxts = (under-one o.sym p.sym (sym (sym-of _ _ a).0 ∙ symbols ∙ (sym-of _ _ b).0), sym (sym-of _ _ a).1 ∙ ctxts ∙ (sym-of _ _ b).1)
      one o p at there (Under a free written none) (Fresh c k b its is_written some low other is_k is_c) symbols ctxts = absurd (no-context c other o at (sym (sym-of _ _ a).1 ∙ ctxts ∙ (sym-of _ _ b).1))
      one o p at there (Fresh c k a free written some low none is_k is_c) (AsBefore b its) symbols ctxts = absurd (no-context c none p there (sym (sym-of _ _ b).1 ∙ sym ctxts ∙ (sym-of _ _ a).1))
      one o p at there (Fresh c k a free written some low none is_k is_c) (Under b its is_written other) symbols ctxts = absurd (no-context c none p there (sym (sym-of _ _ b).1 ∙ sym ctxts ∙ (sym-of _ _ a).1))
      one o p at there (Fresh c k a free written some low none is_k is_c) (Fresh d m b its is_written more high other is_m is_d) symbols ctxts =
          let same_c : c ≡ d = sym (sym-of _ _ a).1 ∙ ctxts ∙ (sym-of _ _ b).1 in
          let same_k : k ≡ m = contexts.apart k m d (is_c ∙ ap (λ z. Some z) same_c) is_d in
          same-ident o p at there (denoted-one m (denoted_of ByContext Es all o) (denoted_of ByContext Es all p) (subst (λ z. IsDenoted S B z (denoted_of ByContext Es all o)) (is_k ∙ ap (λ z. Some z) same_k) (entry-of o at).2.0.1) (subst (λ z. IsDenoted S B z (denoted_of ByContext Es all p)) is_m (entry-of p there).2.0.1))

      stays : (o : Occurrence) (at : IsIn os o) → How o (entry-of o at).0 → is_written_one (denoted_of ByContext Es all o) ≡ false → ((call o.sym o.ctxt).0 ≡ o.sym) × ((call o.sym o.ctxt).1 ≡ o.ctxt)
      stays o at (AsBefore a free) is = sym-of _ _ a
      stays o at (Under a free written none) is = absurd (false≢true (sym is ∙ written))
      stays o at (Fresh c k a free written some low none is_k is_c) is = absurd (false≢true (sym is ∙ written))

  -- a binding takes its context anew: with its new symbol its own is that of another
  abbrev pub IsAnew : Occurrence → Type 0
  IsAnew o = (not (bytes_eq o.sym (call o.sym o.ctxt).0) && has_ident os (call o.sym o.ctxt).0 o.ctxt) ≡ true

  record Anew (o : Occurrence) (at : IsIn os o) : Type 0 where
    c : ℕ
    b : ℕ
    context : (call o.sym o.ctxt).1 ≡ c
    is_b : (entry-of o at).0.binding ≡ Some b
    is_c : context_of names b ≡ Some c

  anew : (o : Occurrence) (at : IsIn os o) → IsAnew o → How o (entry-of o at).0 → Anew o at
  anew o at is (AsBefore a free) = absurd (false≢true (sym (ap (λ v. not v && has_ident os o.sym o.ctxt) ((bytes_eq-Decides o.sym o.sym).1 refl)) ∙ ap (λ (i : Ident). not (bytes_eq o.sym i.0) && has_ident os i.0 o.ctxt) (sym a) ∙ is))
  anew o at is (Under a free written none) = absurd (false≢true (sym (and_right (not (bytes_eq o.sym (codes "__" ++ o.sym))) (has_ident os (codes "__" ++ o.sym) o.ctxt) (sym (names-os (codes "__" ++ o.sym) o.ctxt start items) ∙ none)) ∙ ap (λ (i : Ident). not (bytes_eq o.sym i.0) && has_ident os i.0 o.ctxt) (sym a) ∙ is))
  anew o at is (Fresh c b a free written some low none is_b is_c) = record { c = c; b = b; context = (sym-of _ _ a).1; is_b = is_b; is_c = is_c }

  -- contexts that are taken anew tell apart what they are taken for
  pub apart : (o p : Occurrence) → IsIn os o → IsIn os p → IsAnew o → IsAnew p → (call o.sym o.ctxt).1 ≡ (call p.sym p.ctxt).1 → (o.sym ≡ p.sym) × (o.ctxt ≡ p.ctxt)
  apart o p at there one two ctxts =
      let x = anew o at one (how o at) in
      let y = anew p there two (how p there) in
      let same_c : x.c ≡ y.c = sym x.context ∙ ctxts ∙ y.context in
      let same_b : x.b ≡ y.b = contexts.apart x.b y.b y.c (x.is_c ∙ ap (λ z. Some z) same_c) y.is_c in
      same-ident o p at there (denoted-one y.b (denoted_of ByContext Es all o) (denoted_of ByContext Es all p) (subst (λ z. IsDenoted S B z (denoted_of ByContext Es all o)) (x.is_b ∙ ap (λ z. Some z) same_b) (entry-of o at).2.0.1) (subst (λ z. IsDenoted S B z (denoted_of ByContext Es all p)) y.is_b (entry-of p there).2.0.1))

  -- What the rule for keywords says of each occurrence.

  pub symbol-right : (o : Occurrence) → (at : IsIn os o) → (call o.sym o.ctxt).0 ≡ keyword_free_of o.sym (denoted_of ByContext Es all o)
  symbol-right o at = by (how o at)
    where
      by : How o (entry-of o at).0 → (call o.sym o.ctxt).0 ≡ keyword_free_of o.sym (denoted_of ByContext Es all o)
      by (AsBefore a free) = (sym-of _ _ a).0 ∙ sym free
      by (Under a free written none) = (sym-of _ _ a).0 ∙ sym free
      by (Fresh c k a free written some low none is_k is_c) = (sym-of _ _ a).0 ∙ sym free

  -- whether an identifier may become another, as `has_right_context` says of occurrences
  abbrev pub right_context : Occurrence → Ident → Bool
  right_context old new = cond (not (bytes_eq old.sym new.0) && has_ident os new.0 old.ctxt) (is_unused_context os new.1) (new.1 == old.ctxt)

  pub context-right : (o : Occurrence) → (at : IsIn os o) → right_context o (call o.sym o.ctxt) ≡ true
  context-right o at = by (how o at)
    where
      by : How o (entry-of o at).0 → right_context o (call o.sym o.ctxt) ≡ true
      by (AsBefore a free) = ap (right_context o) a ∙ ap (λ v. cond (not v && has_ident os o.sym o.ctxt) (is_unused_context os o.ctxt) (o.ctxt == o.ctxt)) ((bytes_eq-Decides o.sym o.sym).1 refl) ∙ eq-eqb o.ctxt o.ctxt refl
      by (Under a free written none) = ap (right_context o) a ∙ ap₂ (λ (v : Bool) (w : Bool). cond (not v && w) (is_unused_context os o.ctxt) (o.ctxt == o.ctxt)) (under-other o.sym) (sym (names-os (codes "__" ++ o.sym) o.ctxt start items) ∙ none) ∙ eq-eqb o.ctxt o.ctxt refl
      by (Fresh c k a free written some low none is_k is_c) = ap (right_context o) a ∙ ap₂ (λ (v : Bool) (w : Bool). cond (not v && w) (is_unused_context os c) (c == o.ctxt)) (under-other o.sym) (sym (names-os (codes "__" ++ o.sym) o.ctxt start items) ∙ some) ∙ and_from (nat_le 2 c) (not (list_any (λ (x : Occurrence). x.ctxt == c) os)) (le-leb 2 c low) (ap not (sym (contexts-os c start items) ∙ none))
