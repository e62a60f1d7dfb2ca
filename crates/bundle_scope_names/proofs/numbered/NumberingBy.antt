-- The names that the rule gives in turn over a table are those of the numbering of its list.
use Rattle.std.proofs.Common.{◌≡◌, ◌<◌, ◌+◌, ◌⊎◌, inl, inr, ⊎_elim, ℕ, zero, suc, ◌==◌, nat_lt, Bool, true, false, ◌||◌, ◌&&◌, cond, not, List, [], ◌∷◌, ◌++◌, Option, Some, None, option_map, unwrap_or, find, map, take, length, refl, ap, ap₂, sym, ◌∙◌, subst, arith, eqb-true, eq-eqb, bytes_eq, codes}
use Rattle.std.specs.Prelude.{slice_get, is_some, option_and_then}
use Rattle.std.specs.List.{list_any, AllZip, cons_option}
use Rattle.std.proofs.lemmas.Bool.{false≢true, or_cases, or_left, or_right, and_from, and_parts, cases_order, ltb-true, false_from_ne_true}
use Rattle.std.proofs.lemmas.Option.{none-some, same_Some, slice_get-map, slice_get_within}
use Rattle.std.proofs.lemmas.Slice.Eq.{bytes_eq-Decides}
use Rattle.bundle_syntax.specs.Item as h
use Rattle.bundle_syntax.specs.Item.{Item}
use Rattle.bundle_syntax.specs.declared.piece.Role.TheVariants as r
use Rattle.bundle_rules.specs.Places.{start, Spot, Around, is_binding, Occurrence, occurrence_of, occurrences, spot_before}
use Rattle.bundle_rules.specs.Scopes.{Es, Scope, Wrapper, Top, Inner, ScopeKind, Parameters, ArrowParameters, FunctionBody, StaticBody, Block, CatchBlock, Loop, Catch, FunctionName, ClassName, kind_of_scope, scope_at as made_at, scope_order, same_scope, scopes_around}
use Rattle.bundle_rules.specs.Declarations.{ByContext, Name, names_agree, Way, way_of, declared_by, Declared, declared, declaration_of}
use Rattle.bundle_rules.specs.Homes.{home_of, home_beside, takes, from_taker, joins_parameter, is_parameter, parameters_of, nearest, taker, group_of, is_arguments, is_declared_in}
use Rattle.bundle_rules.specs.Denotes.{Denoted, Bound, Global, denoted_of, own_or_found, denoted_in}
use Rattle.bundle_rules.specs.Renaming.{Numbering, numbered as numbered_text, number_of, keeps as keeps_own, first_place, comes_before, group, is_kept_outside}
use Rattle.bundle_rules.proofs.PlacesLemmas.{occurrences-at}
use Rattle.bundle_rules.specs.Renamed.{HasNamesOnly}
use Rattle.bundle_scope_denote.specs.declared.table.Binding.{Binding}
use Rattle.bundle_scope_denote.specs.declared.table.Denoted.{Denoted as Entry}
use Rattle.bundle_scope_denote.specs.declared.table.Denotations.{Denotations}
use Rattle.bundle_scope_denote.specs.Numbers.{NumberedScope, numbered_scope, AreAround}
use Rattle.bundle_scope_denote.specs.Chains.{numbered_scope_at, scopes_outwards, AreInOrder}
use Rattle.bundle_scope_denote.specs.Bound.{exactly, joins_outer}
use Rattle.bundle_scope_denote.specs.Ready.{binding_name}
use Rattle.bundle_scope_denote.specs.Listed.{IsBinding, IsDenoted, IsTableEntry, TellsDenoted, IsDenotationTable}
use Rattle.bundle_scope_denote.proofs.ZipLemmas.{AllZip-at, AllZip-at_second, BothOrNone, find-zipped, list_any-zipped}
use Rattle.bundle_scope_denote.proofs.OutwardLemmas.{outwards-around, same-scope, entry-at}
use Rattle.bundle_scope_denote.proofs.KeyLemmas.{exactly-Decides, scope-agrees}
use Rattle.bundle_scope_names.specs.declared.names.Names.{Names}
use Rattle.bundle_rules.specs.Idents.{Ident}
use Rattle.bundle_scope_names.specs.Called.{binding_text, called_ident, called_in}
use Rattle.bundle_scope_names.specs.Turns as n
use Rattle.bundle_scope_names.specs.Turns.{Facts, Turn, Place, ComesBefore, facts_of, symbols_from, first_of, declares_number, AreBindingsNamed}
use Rattle.bundle_scope_names.proofs.naming_rule.Transfer.{Calling, named as name_of_ident, called_symbol, beside_by, needed_by, may_keep_by, new_symbol, taken_by, taken_to_by, least_free_by, named_right_by}
use Rattle.bundle_scope_names.proofs.numbered.Callings.{called_after}
use Rattle.bundle_scope_names.proofs.naming_rule.Tables.{IsIn, list_any-in, any-here, find-some, find-in, Table, AreOf, same-known, rest-known, Shape, IsSame, has-context, Order, Before, After, Equal, ordered as ordered_by, origin, homed, homes-same, agreed, agree-self, scopes-of, groups-same, numbered-not_arguments, table_in, declarations, shape, all-are}
use Rattle.bundle_scope_names.proofs.HomesLemmas.{find-passes, iff as same_bool}
use Rattle.bundle_scope_names.proofs.naming_rule.Clash.{Source, FromGlobal, FromDeclared, FromArguments, source, before-trans, never-before}

-- Lists.

in-take : {X : Type 0} (xs : List X) (n i : ℕ) (x : X) → slice_get (take n xs) i ≡ Some x → (slice_get xs i ≡ Some x) × (i < n)
in-take xs zero i x at = absurd (none-some x at)
in-take [] (suc n) i x at = absurd (none-some x at)
in-take (y ∷ ys) (suc n) zero x at = (at, omega arith)
in-take (y ∷ ys) (suc n) (suc i) x at = let rest = in-take ys n i x at in (rest.0, let lt : i < n = rest.1 in omega arith)

to-take : {X : Type 0} (xs : List X) (n i : ℕ) (x : X) → slice_get xs i ≡ Some x → i < n → slice_get (take n xs) i ≡ Some x
to-take xs zero i x at lt = absurd (omega arith)
to-take [] (suc n) i x at lt = absurd (none-some x at)
to-take (y ∷ ys) (suc n) zero x at lt = at
to-take (y ∷ ys) (suc n) (suc i) x at lt = let less : i < n = omega arith in to-take ys n i x at less

pub zip-both : {A B C : Type 0} (R : A → B → Type 0) (S : A → C → Type 0) (f : B → C) (xs : List A) (ys : List B) → AllZip R xs ys → AllZip S xs (map f ys) → AllZip (λ x y. R x y × S x (f y)) xs ys
zip-both R S f [] [] one two = tt
zip-both R S f [] (y ∷ ys) one two = absurd one
zip-both R S f (x ∷ xs) [] one two = absurd one
zip-both R S f (x ∷ xs) (y ∷ ys) one two = ((one.0, two.0), zip-both R S f xs ys one.1 two.1)

pub zip-in : {A B : Type 0} (R : A → B → Type 0) (xs : List A) (ys whole : List B) → AllZip R xs ys → ((y : B) → IsIn ys y → IsIn whole y) → AllZip (λ x y. R x y × IsIn whole y) xs ys
zip-in R [] [] whole all inside = tt
zip-in R [] (y ∷ ys) whole all inside = absurd all
zip-in R (x ∷ xs) [] whole all inside = absurd all
zip-in R (x ∷ xs) (y ∷ ys) whole all inside = ((all.0, inside y (0, refl)), zip-in R xs ys whole all.1 (λ z at. inside z (suc at.0, at.1)))

symbols-at : (names : Names) (first i : ℕ) (xs : List Binding) (x : Binding) → slice_get xs i ≡ Some x → slice_get (symbols_from names first xs) i ≡ Some (unwrap_or (binding_text names (first + i)) x.sym.now)
symbols-at names first i [] x at = absurd (none-some x at)
symbols-at names first zero (y ∷ ys) x at = let e : first ≡ first + 0 = omega arith in ap (λ (z : Binding). Some (unwrap_or (binding_text names first) z.sym.now)) (same_Some y x at) ∙ ap (λ k. Some (unwrap_or (binding_text names k) x.sym.now)) e
symbols-at names first (suc i) (y ∷ ys) x at = let e : (first + 1) + i ≡ first + suc i = omega arith in symbols-at names (first + 1) i ys x at ∙ ap (λ k. Some (unwrap_or (binding_text names k) x.sym.now)) e

module _ (items : List Item) (only : HasNamesOnly items) (table : Denotations) (t : IsDenotationTable ByContext Es items table) (ordered : AreInOrder (map numbered_scope table.scopes.items)) (keywords names : Names) (named : AreBindingsNamed table items keywords names) (call : Calling) (calls : (e : Entry) (o : Occurrence) → IsTableEntry (map numbered_scope table.scopes.items) ByContext Es e o × TellsDenoted (map numbered_scope table.scopes.items) table.bindings.items e (denoted_of ByContext Es (declared ByContext Es items) o) → IsIn (occurrences items) o → call o.sym o.ctxt ≡ called_ident keywords (o.sym, o.ctxt) e.binding) (stays : (b : ℕ) (scope : Scope) (name : Name) → IsBinding (map numbered_scope table.scopes.items) table.bindings.items b scope name → name.sym ≡ codes "arguments" → binding_text keywords b ≡ None) where
  abbrev S : List NumberedScope
  S = map numbered_scope table.scopes.items

  abbrev B : List Binding
  B = table.bindings.items

  abbrev E : List Entry
  E = table.occurrences.items

  abbrev os : List Occurrence
  os = occurrences items

  abbrev all : List Declared
  all = declared ByContext Es items

  abbrev K : Table
  K = table_in start items

  abbrev s : Shape K os all
  s = shape items only

  abbrev facts : Facts
  facts = facts_of table items keywords

  abbrev turns : List Turn
  turns = named.turns

  abbrev places : List Place
  places = named.places

  abbrev IsB : ℕ → Scope → Name → Type 0
  IsB b scope name = IsBinding S B b scope name

  symbol-there : (b : ℕ) (scope : Scope) (name : Name) → IsB b scope name → slice_get facts.symbols b ≡ Some (unwrap_or (binding_text keywords b) name.sym)
  symbol-there b scope name is = let e : 0 + b ≡ b = omega arith in symbols-at keywords 0 b B is.binding is.at ∙ ap (λ k. Some (unwrap_or (binding_text keywords k) is.binding.sym.now)) e ∙ ap (λ (x : Name). Some (unwrap_or (binding_text keywords b) x.sym)) is.named

  symbol-gen : (b : ℕ) (scope : Scope) (name : Name) → IsB b scope name → n.binding_symbol facts b ≡ unwrap_or (binding_text keywords b) name.sym
  symbol-gen b scope name is = ap (λ o. unwrap_or o []) (symbol-there b scope name is)

  -- the symbols by the new identifiers
  abbrev C : Declared → List ℕ
  C d = called_symbol call d.name

  abbrev CO : Occurrence → List ℕ
  CO o = called_symbol call (name_of_ident o)

  home-is : (b : ℕ) (scope : Scope) (name : Name) → (is : IsB b scope name) → slice_get facts.homes b ≡ Some is.binding.scope
  home-is b scope name is = slice_get-map (λ (x : Binding). x.scope) B b ∙ ap (option_map (λ (x : Binding). x.scope)) is.at

  home-at : (b : ℕ) (scope : Scope) (name : Name) → IsB b scope name → numbered_scope_at S (n.home_number facts b) ≡ Some scope
  home-at b scope name is = ap (λ o. numbered_scope_at S (unwrap_or o 0)) (home-is b scope name is) ∙ is.in_scope

  -- one binding is of one scope and name
  same-of : (b : ℕ) (scope other : Scope) (name its : Name) → IsB b scope name → IsB b other its → (scope ≡ other) × (name ≡ its)
  same-of b scope other name its one two =
      let same : one.binding ≡ two.binding = same_Some one.binding two.binding (sym one.at ∙ two.at) in
      (same_Some scope other (sym one.in_scope ∙ ap (λ (x : Binding). numbered_scope_at S x.scope) same ∙ two.in_scope), sym one.named ∙ ap binding_name same ∙ two.named)

  -- An occurrence with its entry.

  abbrev Both : Entry → Occurrence → Type 0
  Both e o = IsTableEntry S ByContext Es e o × TellsDenoted S B e (denoted_of ByContext Es all o)

  zipped : AllZip (λ e o. Both e o × IsIn os o) E os
  zipped = zip-in Both E os os (zip-both (IsTableEntry S ByContext Es) (TellsDenoted S B) (denoted_of ByContext Es all) E os t.occurrences t.denotes) (λ o at. at)

  -- an occurrence that declares
  own-denoted : (o : Occurrence) (d : Declared) → declaration_of ByContext Es o ≡ Some d → denoted_of ByContext Es all o ≡ Bound (home_of all d) d.name
  own-denoted o d e = ap (own_or_found all (denoted_in ByContext all (scopes_around Es o.path) (record { sym = o.sym; ctxt = Some o.ctxt }))) e

  bound-by : (e : Entry) (scope : Scope) (name : Name) (x : Denoted) → x ≡ Bound scope name → TellsDenoted S B e x → (b : ℕ) × (e.binding ≡ Some b) × IsB b scope name
  bound-by e scope name x is tells = by e.binding refl (subst (λ y. IsDenoted S B e.binding y) is tells)
    where
      by : (o : Option ℕ) → e.binding ≡ o → IsDenoted S B o (Bound scope name) → (b : ℕ) × (e.binding ≡ Some b) × IsB b scope name
      by None at known = absurd known
      by (Some b) at known = (b, at, known)

  -- whether an occurrence declares the binding of a declaration
  abbrev declares_same : Declared → Occurrence → Bool
  declares_same d o = unwrap_or (option_map (is_declared_in all (home_of all d) d.name) (declaration_of ByContext Es o)) false

  declares-agree : (d : Declared) → IsIn all d → (b : ℕ) → IsB b (home_of all d) d.name → (e : Entry) (o : Occurrence) → Both e o × IsIn os o → declares_number b e ≡ declares_same d o
  declares-agree d at b is e o known = by (declaration_of ByContext Es o) refl
    where
      by : (x : Option Declared) → declaration_of ByContext Es o ≡ x → (e.declares && n.denotes b e) ≡ unwrap_or (option_map (is_declared_in all (home_of all d) d.name) x) false
      by None is_x = ap (λ v. v && n.denotes b e) (known.0.0.declares ∙ ap is_some is_x)
      by (Some x) is_x =
          let found = bound-by e (home_of all x) x.name (denoted_of ByContext Es all o) (own-denoted o x is_x) known.0.1 in
          let among : IsIn all x = s.declares o known.1 x is_x in
          ap₂ (λ (v : Bool) (w : Bool). v && w) (known.0.0.declares ∙ ap is_some is_x) (ap (n.is_this_number b) found.1)
          ∙ same_bool (found.0 == b) (is_declared_in all (home_of all d) d.name x)
          (λ e_b. let both = same-of b (home_of all d) (home_of all x) d.name x.name is (subst (λ m. IsB m (home_of all x) x.name) (eqb-true found.0 b e_b) found.2) in and_from (same_scope (home_of all x) (home_of all d)) (names_agree x.name d.name) (eq-eqb (scope_order (home_of all x)) (scope_order (home_of all d)) (ap scope_order (sym both.0))) (ap (λ m. names_agree m d.name) (sym both.1) ∙ agree-self K os all s d at))
          (λ e_d. let parts = and_parts (same_scope (home_of all x) (home_of all d)) (names_agree x.name d.name) e_d in eq-eqb found.0 b (t.one found.0 b (home_of all d) d.name (subst (λ m. IsB found.0 (home_of all d) m) (agreed K os all s x d among at parts.1) (subst (λ m. IsB found.0 m x.name) (homes-same K os all s x d among at parts.0) found.2)) is))

  -- the first declaration in a list of occurrences
  first-declared : (p : Declared → Bool) (l : List Occurrence) → find p (declarations ByContext l) ≡ option_and_then (declaration_of ByContext Es) (find (λ o. unwrap_or (option_map p (declaration_of ByContext Es o)) false) l)
  first-declared p [] = refl
  first-declared p (o ∷ l) = by (declaration_of ByContext Es o) refl (first-declared p l)
    where
      by : (x : Option Declared) → declaration_of ByContext Es o ≡ x → find p (declarations ByContext l) ≡ option_and_then (declaration_of ByContext Es) (find (λ o. unwrap_or (option_map p (declaration_of ByContext Es o)) false) l) → find p (cons_option x (declarations ByContext l)) ≡ option_and_then (declaration_of ByContext Es) (cond (unwrap_or (option_map p x) false) (Some o) (find (λ o. unwrap_or (option_map p (declaration_of ByContext Es o)) false) l))
      by None is rest = rest
      by (Some x) is rest = by_test (p x)
        where
          by_test : (v : Bool) → cond v (Some x) (find p (declarations ByContext l)) ≡ option_and_then (declaration_of ByContext Es) (cond v (Some o) (find (λ o. unwrap_or (option_map p (declaration_of ByContext Es o)) false) l))
          by_test true = sym is
          by_test false = rest

  -- a declaration stands where its identifier does
  place-of : (o : Occurrence) (f : Declared) → declaration_of ByContext Es o ≡ Some f → f.place ≡ o.place
  place-of o f e = by (is_binding o.role) (way_of o.path) e
    where
      by : (v : Bool) (w : Option Way) → cond v (declared_by o.place (record { sym = o.sym; ctxt = Some o.ctxt }) (scopes_around Es o.path) w) None ≡ Some f → f.place ≡ o.place
      by false w e = absurd (none-some f e)
      by true None e = absurd (none-some f e)
      by true (Some way) e = ap (λ (x : Declared). x.place) (sym (same_Some _ f e))

  -- and has its name
  name-of : (o : Occurrence) (f : Declared) → declaration_of ByContext Es o ≡ Some f → f.name ≡ name_of_ident o
  name-of o f e = by (is_binding o.role) (way_of o.path) e
    where
      by : (v : Bool) (w : Option Way) → cond v (declared_by o.place (record { sym = o.sym; ctxt = Some o.ctxt }) (scopes_around Es o.path) w) None ≡ Some f → f.name ≡ name_of_ident o
      by false w e = absurd (none-some f e)
      by true None e = absurd (none-some f e)
      by true (Some way) e = ap (λ (x : Declared). x.name) (sym (same_Some _ f e))

  -- the new symbol of an occurrence is that of its binding
  bound-symbol : (e : Entry) (o : Occurrence) → Both e o × IsIn os o → (b : ℕ) (scope : Scope) (name : Name) → e.binding ≡ Some b → IsB b scope name → name.sym ≡ o.sym → n.binding_symbol facts b ≡ CO o
  bound-symbol e o known b scope name is_b bound symbols = symbol-gen b scope name bound ∙ ap (unwrap_or (binding_text keywords b)) symbols ∙ sym (ap (λ (i : Ident). i.0) (calls e o known.0 known.1 ∙ ap (called_ident keywords (o.sym, o.ctxt)) is_b))

  global-symbol : (e : Entry) (o : Occurrence) → Both e o × IsIn os o → e.binding ≡ None → CO o ≡ o.sym
  global-symbol e o known nothing = ap (λ (i : Ident). i.0) (calls e o known.0 known.1 ∙ ap (called_ident keywords (o.sym, o.ctxt)) nothing)

  declared-symbol : (f : Declared) → IsIn all f → (b : ℕ) → IsB b (home_of all f) f.name → n.binding_symbol facts b ≡ C f
  declared-symbol f among b is =
      let own = s.declared f among in
      let entry = AllZip-at_second (λ e o. Both e o × IsIn os o) E os own.1.0 own.0 zipped own.1.1 in
      let bound = bound-by entry.0 (home_of all f) f.name (denoted_of ByContext Es all own.0) (own-denoted own.0 f own.2) entry.2.0.1 in
      let named_so = name-of own.0 f own.2 in
      ap (n.binding_symbol facts) (t.one b bound.0 (home_of all f) f.name is bound.2) ∙ bound-symbol entry.0 own.0 entry.2 bound.0 (home_of all f) f.name bound.1 bound.2 (ap (λ (m : Name). m.sym) named_so) ∙ ap (called_symbol call) (sym named_so)

  -- What is known of a declared name.

  pub record Has (d : Declared) : Type 0 where
    pub among : IsIn all d
    pub b : ℕ
    pub is : IsB b (home_of all d) d.name
    pub i : ℕ
    pub turn : Turn
    pub at : slice_get turns i ≡ Some turn
    pub of : turn.binding ≡ b
    pub place : Place
    pub at_place : slice_get places i ≡ Some place
    pub place_of : place.2 ≡ b
    pub first : place.1 ≡ first_place all d
    pub home : numbered_scope_at S place.0 ≡ Some (home_of all d)

  first-is : (d : Declared) → IsIn all d → (b : ℕ) → IsB b (home_of all d) d.name → first_of E b ≡ Some (first_place all d)
  first-is d at b is =
      let itself : is_declared_in all (home_of all d) d.name d ≡ true = and_from (same_scope (home_of all d) (home_of all d)) (names_agree d.name d.name) (eq-eqb (scope_order (home_of all d)) (scope_order (home_of all d)) refl) (agree-self K os all s d at) in
      let found = find-some (is_declared_in all (home_of all d) d.name) all d at itself in
      let read : option_and_then (declaration_of ByContext Es) (find (declares_same d) os) ≡ Some found.0 = sym (first-declared (is_declared_in all (home_of all d) d.name) os) ∙ ap (find (is_declared_in all (home_of all d) d.name)) (sym (all-are items only)) ∙ found.1 in
      let first : found.0.place ≡ first_place all d = sym (ap (λ o. unwrap_or (option_map (λ (x : Declared). x.place) o) d.place) found.1) in
      by (find (declares_number b) E) (find (declares_same d) os) found.0 refl (find-zipped (λ e o. Both e o × IsIn os o) (declares_number b) (declares_same d) (declares-agree d at b is) E os zipped) read first
    where
      by : (x : Option Entry) (y : Option Occurrence) (f : Declared) → find (declares_number b) E ≡ x → BothOrNone (λ e o. Both e o × IsIn os o) x y → option_and_then (declaration_of ByContext Es) y ≡ Some f → f.place ≡ first_place all d → option_map (λ (o : Entry). o.place) (find (declares_number b) E) ≡ Some (first_place all d)
      by None None f is_x both read first = absurd (none-some f read)
      by None (Some o) f is_x both read first = absurd both
      by (Some e) None f is_x both read first = absurd both
      by (Some e) (Some o) f is_x both read first = ap (option_map (λ (o : Entry). o.place)) is_x ∙ ap (λ p. Some p) (both.0.0.place ∙ sym (place-of o f read) ∙ first)

  turn-at : (i : ℕ) (place : Place) → slice_get places i ≡ Some place → (turn : Turn) × (slice_get turns i ≡ Some turn) × (turn.binding ≡ place.2)
  turn-at i place at = by (slice_get turns i) refl (sym (slice_get-map (λ (x : Turn). x.binding) turns i) ∙ ap (λ l. slice_get l i) named.same ∙ slice_get-map (λ (x : Place). x.2) places i ∙ ap (option_map (λ (x : Place). x.2)) at)
    where
      by : (o : Option Turn) → slice_get turns i ≡ o → option_map (λ (x : Turn). x.binding) o ≡ Some place.2 → (turn : Turn) × (slice_get turns i ≡ Some turn) × (turn.binding ≡ place.2)
      by None there is = absurd (none-some place.2 is)
      by (Some turn) there is = (turn, there, same_Some turn.binding place.2 is)

  place-at : (i : ℕ) (turn : Turn) → slice_get turns i ≡ Some turn → (place : Place) × (slice_get places i ≡ Some place) × (place.2 ≡ turn.binding)
  place-at i turn at = by (slice_get places i) refl (sym (slice_get-map (λ (x : Place). x.2) places i) ∙ sym (ap (λ l. slice_get l i) named.same) ∙ slice_get-map (λ (x : Turn). x.binding) turns i ∙ ap (option_map (λ (x : Turn). x.binding)) at)
    where
      by : (o : Option Place) → slice_get places i ≡ o → option_map (λ (x : Place). x.2) o ≡ Some turn.binding → (place : Place) × (slice_get places i ≡ Some place) × (place.2 ≡ turn.binding)
      by None there is = absurd (none-some turn.binding is)
      by (Some place) there is = (place, there, same_Some place.2 turn.binding is)

  has : (d : Declared) → IsIn all d → Has d
  has d at =
      let bound = t.declared at.0 d at.1 in
      let b = bound.0 in
      let is : IsB b (home_of all d) d.name = bound.1 in
      let first = first-is d at b is in
      let found = named.in_turn.all b (first_place all d) (slice_get_within facts.homes b is.binding.scope (home-is b (home_of all d) d.name is)) first in
      let turn = turn-at found.0 found.1 found.2 in
      record {
        among = at;
        b = b;
        is = is;
        i = found.0;
        turn = turn.0;
        at = turn.1;
        of = turn.2 ∙ found.3;
        place = found.1;
        at_place = found.2;
        place_of = found.3;
        first = same_Some found.1.1 (first_place all d) (sym (named.in_turn.first found.0 found.1 found.2) ∙ ap (first_of E) found.3 ∙ first);
        home = ap (numbered_scope_at S) (same_Some found.1.0 is.binding.scope (sym (named.in_turn.home found.0 found.1 found.2) ∙ ap (slice_get facts.homes) found.3 ∙ home-is b (home_of all d) d.name is)) ∙ is.in_scope;
      }

  -- the turn of a binding is that of a declared name
  turn-declared : (i : ℕ) (turn : Turn) → slice_get turns i ≡ Some turn → (a : Declared) × IsIn all a × (h : Has a) × (h.i ≡ i)
  turn-declared i turn at =
      let place = place-at i turn at in
      by place.0 place.1 place.2 (find (declares_number place.0.2) E) refl (named.in_turn.first i place.0 place.1)
    where
      by : (place : Place) → slice_get places i ≡ Some place → place.2 ≡ turn.binding → (x : Option Entry) → find (declares_number place.2) E ≡ x → option_map (λ (o : Entry). o.place) (find (declares_number place.2) E) ≡ Some place.1 → (a : Declared) × IsIn all a × (h : Has a) × (h.i ≡ i)
      by place at_place same None is first = absurd (none-some place.1 (sym (ap (option_map (λ (o : Entry). o.place)) is) ∙ first))
      by place at_place same (Some e) is first =
          let inside = find-in (declares_number place.2) E e is in
          let passes_ = and_parts e.declares (n.denotes place.2 e) (find-passes (declares_number place.2) E e is) in
          let other = AllZip-at (λ e o. Both e o × IsIn os o) E os inside.0 e zipped inside.1 in
          by_declared place at_place e other.0 other.2 (declaration_of ByContext Es other.0) refl (sym other.2.0.0.declares ∙ passes_.0) passes_.1
        where
          by_declared : (place : Place) → slice_get places i ≡ Some place → (e : Entry) (o : Occurrence) → Both e o × IsIn os o → (x : Option Declared) → declaration_of ByContext Es o ≡ x → is_some (declaration_of ByContext Es o) ≡ true → n.denotes place.2 e ≡ true → (a : Declared) × IsIn all a × (h : Has a) × (h.i ≡ i)
          by_declared place at_place e o known None is_x some denotes = absurd (false≢true (sym (ap is_some is_x) ∙ some))
          by_declared place at_place e o known (Some a) is_x some denotes =
              let found = bound-by e (home_of all a) a.name (denoted_of ByContext Es all o) (own-denoted o a is_x) known.0.1 in
              let among : IsIn all a = s.declares o known.1 a is_x in
              let x = has a among in
              let same : found.0 ≡ place.2 = eqb-true found.0 place.2 (sym (ap (n.is_this_number place.2) found.1) ∙ denotes) in
              (a, among, x, named.in_turn.once x.i i x.place place x.at_place at_place (x.place_of ∙ t.one x.b found.0 (home_of all a) a.name x.is found.2 ∙ same))

  -- The order.

  order-of : (n m : ℕ) (one two : Scope) → numbered_scope_at S n ≡ Some one → numbered_scope_at S m ≡ Some two → n < m → scope_order one < scope_order two
  order-of n m one two at_n at_m lt =
      let x = entry-at S n one at_n in
      let y = entry-at S m two at_m in
      let less : scope_order x.0.scope < scope_order y.0.scope = ordered.rising n m x.0 y.0 lt x.1 y.1 in
      subst (λ z. scope_order z < scope_order two) x.2 (subst (λ z. scope_order x.0.scope < scope_order z) y.2 less)

  earlier : (a d : Declared) (x : Has a) (y : Has d) → IsIn all a → IsIn all d → x.i < y.i → comes_before all a d ≡ true
  earlier a d x y at there lt = by (ordered_by K os all s a d at there)
    where
      clash : ComesBefore x.place y.place → ((nat_lt (scope_order (home_of all d)) (scope_order (home_of all a)) ≡ true) ⊎ ((same_scope (home_of all d) (home_of all a) && nat_lt (first_place all d) (first_place all a)) ≡ true)) → ⊥
      clash (inl low) (inl back) = let less = order-of x.place.0 y.place.0 (home_of all a) (home_of all d) x.home y.home low in let more = ltb-true (scope_order (home_of all d)) (scope_order (home_of all a)) back in omega (arith, less, more)
      clash (inl low) (inr back) = let less = order-of x.place.0 y.place.0 (home_of all a) (home_of all d) x.home y.home low in let same = eqb-true (scope_order (home_of all d)) (scope_order (home_of all a)) (and_parts (same_scope (home_of all d) (home_of all a)) (nat_lt (first_place all d) (first_place all a)) back).0 in omega (arith, less, same)
      clash (inr level) (inl back) = let same = ap scope_order (same_Some (home_of all a) (home_of all d) (sym x.home ∙ ap (numbered_scope_at S) level.0 ∙ y.home)) in let more = ltb-true (scope_order (home_of all d)) (scope_order (home_of all a)) back in omega (arith, same, more)
      clash (inr level) (inr back) = let more = ltb-true (first_place all d) (first_place all a) (and_parts (same_scope (home_of all d) (home_of all a)) (nat_lt (first_place all d) (first_place all a)) back).1 in let one = x.first in let two = y.first in let le = level.1 in omega (arith, one, two, le, more)

      by : Order all a d → comes_before all a d ≡ true
      by (Before e) = e
      by (After e) = absurd (clash (named.in_turn.order x.i y.i x.place y.place lt x.at_place y.at_place) (or_cases (nat_lt (scope_order (home_of all d)) (scope_order (home_of all a))) (same_scope (home_of all d) (home_of all a) && nat_lt (first_place all d) (first_place all a)) e))
      by (Equal e) = let same_b : x.b ≡ y.b = t.one x.b y.b (home_of all d) d.name (subst (λ m. IsB x.b (home_of all d) m) e.1 (subst (λ m. IsB x.b m a.name) e.0 x.is)) y.is in
          let same_i : x.i ≡ y.i = named.in_turn.once x.i y.i x.place y.place x.at_place y.at_place (x.place_of ∙ same_b ∙ sym y.place_of) in
          absurd (omega (arith, same_i, lt))

  same-turn : (a d : Declared) (x : Has a) (y : Has d) → x.i ≡ y.i → IsSame all a d
  same-turn a d x y e =
      let turns_same : x.turn ≡ y.turn = same_Some x.turn y.turn (sym x.at ∙ ap (slice_get turns) e ∙ y.at) in
      let b_same : x.b ≡ y.b = sym x.of ∙ ap (λ (z : Turn). z.binding) turns_same ∙ y.of in
      same-of y.b (home_of all a) (home_of all d) a.name d.name (subst (λ m. IsB m (home_of all a) a.name) b_same x.is) y.is

  before-index : (a d : Declared) (x : Has a) (y : Has d) → IsIn all a → IsIn all d → comes_before all a d ≡ true → x.i < y.i
  before-index a d x y at there before = ⊎_elim (λ e. absurd (never-before K os all s a d at (same-turn a d x y e) before)) (λ apart. ⊎_elim (λ lt. lt) (λ gt. absurd (never-before K os all s a a at (refl, refl) (before-trans K os all s a d a before (earlier d a y x there at gt)))) apart) (cases_order x.i y.i)

  -- a number is that of one turn
  turn-once : (i j : ℕ) (a b : Turn) → slice_get turns i ≡ Some a → slice_get turns j ≡ Some b → a.binding ≡ b.binding → i ≡ j
  turn-once i j a b at_i at_j e = let x = place-at i a at_i in let y = place-at j b at_j in named.in_turn.once i j x.0 y.0 x.1 y.1 (x.2 ∙ e ∙ sym y.2)

  -- The numbering.

  -- whether a binding is of this scope and name
  abbrev is_of : Scope → Name → ℕ → Bool
  is_of scope name b = unwrap_or (option_map (λ (x : Binding). exactly (binding_name x) name && unwrap_or (option_map (same_scope scope) (numbered_scope_at S x.scope)) false) (slice_get B b)) false

  is_of-here : (b : ℕ) (scope : Scope) (name : Name) → IsB b scope name → is_of scope name b ≡ true
  is_of-here b scope name is = ap (λ o. unwrap_or (option_map (λ (x : Binding). exactly (binding_name x) name && unwrap_or (option_map (same_scope scope) (numbered_scope_at S x.scope)) false) o) false) is.at ∙ and_from (exactly (binding_name is.binding) name) (unwrap_or (option_map (same_scope scope) (numbered_scope_at S is.binding.scope)) false) ((exactly-Decides (binding_name is.binding) name).1 is.named) (ap (λ o. unwrap_or (option_map (same_scope scope) o) false) is.in_scope ∙ eq-eqb (scope_order scope) (scope_order scope) refl)

  is_of-one : (b c : ℕ) (scope : Scope) (name : Name) → IsB b scope name → is_of scope name c ≡ true → c ≡ b
  is_of-one b c scope name is of = by (slice_get B c) refl of
    where
      by_scope : (x : Binding) → slice_get B c ≡ Some x → exactly (binding_name x) name ≡ true → (o : Option Scope) → numbered_scope_at S x.scope ≡ o → unwrap_or (option_map (same_scope scope) o) false ≡ true → c ≡ b
      by_scope x at names None in_scope same = absurd (false≢true same)
      by_scope x at names (Some other) in_scope same =
          let numbers = same-scope S ordered x.scope is.binding.scope other scope in_scope is.in_scope (sym (eqb-true (scope_order scope) (scope_order other) same)) in
          t.one c b scope name (record { binding = x; at = at; in_scope = ap (numbered_scope_at S) numbers ∙ is.in_scope; named = (exactly-Decides (binding_name x) name).0 names }) is

      by : (o : Option Binding) → slice_get B c ≡ o → unwrap_or (option_map (λ (x : Binding). exactly (binding_name x) name && unwrap_or (option_map (same_scope scope) (numbered_scope_at S x.scope)) false) o) false ≡ true → c ≡ b
      by None at is_true = absurd (false≢true is_true)
      by (Some x) at is_true = let parts = and_parts (exactly (binding_name x) name) (unwrap_or (option_map (same_scope scope) (numbered_scope_at S x.scope)) false) is_true in by_scope x at parts.0 (numbered_scope_at S x.scope) refl parts.1

  abbrev pub numbers : Numbering
  numbers scope name = unwrap_or (option_map (λ (turn : Turn). turn.number) (find (λ (turn : Turn). is_of scope name turn.binding) turns)) 0

  number-at : (b : ℕ) (scope : Scope) (name : Name) → IsB b scope name → (i : ℕ) (turn : Turn) → slice_get turns i ≡ Some turn → turn.binding ≡ b → numbers scope name ≡ turn.number
  number-at b scope name is i turn at of =
      let found = find-some (λ (x : Turn). is_of scope name x.binding) turns turn (i, at) (ap (is_of scope name) of ∙ is_of-here b scope name is) in
      let inside = find-in (λ (x : Turn). is_of scope name x.binding) turns found.0 found.1 in
      let binding = is_of-one b found.0.binding scope name is (find-passes (λ (x : Turn). is_of scope name x.binding) turns found.0 found.1) in
      let index = turn-once inside.0 i found.0 turn inside.1 at (binding ∙ sym of) in
      ap (λ o. unwrap_or (option_map (λ (x : Turn). x.number) o) 0) found.1 ∙ ap (λ (x : Turn). x.number) (same_Some found.0 turn (sym inside.1 ∙ ap (slice_get turns) index ∙ at))

  number-of : (d : Declared) (x : Has d) → number_of numbers all d ≡ x.turn.number
  number-of d x = number-at x.b (home_of all d) d.name x.is x.i x.turn x.at x.of

  symbol-has : (d : Declared) (x : Has d) → n.binding_symbol facts x.turn.binding ≡ C d
  symbol-has d x = ap (n.binding_symbol facts) x.of ∙ declared-symbol d x.among x.b x.is

  after-has : (d : Declared) (x : Has d) → new_symbol numbers call all d ≡ numbered_text (n.binding_symbol facts x.turn.binding) x.turn.number
  after-has d x = ap₂ numbered_text (sym (symbol-has d x)) (number-of d x)

  -- What an occurrence has.

  entry-symbol : (e : Entry) (o : Occurrence) → Both e o × IsIn os o → n.symbol_by (slice_get items e.place) ≡ Some o.sym
  entry-symbol e o known = ap (λ p. n.symbol_by (slice_get items p)) known.0.0.place ∙ by (slice_get items o.place) refl (occurrences-at items known.1.0 o known.1.1)
    where
      role : (x : Item) (spot : Spot) → occurrence_of spot x ≡ Some o → n.symbol_by (Some x) ≡ Some o.sym
      role (h.Ident field x ctxt r.Word) spot is = absurd (none-some o is)
      role (h.Ident field x ctxt r.Binding) spot is = ap (λ (y : Occurrence). Some y.sym) (same_Some _ o is)
      role (h.Ident field x ctxt r.Reference) spot is = ap (λ (y : Occurrence). Some y.sym) (same_Some _ o is)
      role (h.Open field head) spot is = absurd (none-some o is)
      role (h.Hole field) spot is = absurd (none-some o is)
      role h.Close spot is = absurd (none-some o is)

      by : (x : Option Item) → slice_get items o.place ≡ x → option_and_then (occurrence_of (spot_before items o.place)) (slice_get items o.place) ≡ Some o → n.symbol_by (slice_get items o.place) ≡ Some o.sym
      by None at is = absurd (none-some o (sym (ap (option_and_then (occurrence_of (spot_before items o.place))) at) ∙ is))
      by (Some x) at is = ap n.symbol_by at ∙ role x (spot_before items o.place) (sym (ap (option_and_then (occurrence_of (spot_before items o.place))) at) ∙ is)

  -- what an entry denotes, with its symbol
  pub data Is (e : Entry) (o : Occurrence) : Type 0 where
    IsGlobal : e.binding ≡ None → CO o ≡ o.sym → denoted_of ByContext Es all o ≡ Global o.sym → Is e o
    IsDeclared : (d : Declared) → IsIn all d → (b : ℕ) → e.binding ≡ Some b → IsB b (home_of all d) d.name → C d ≡ CO o → denoted_of ByContext Es all o ≡ Bound (home_of all d) d.name → Is e o
    IsArguments : (b : ℕ) (scope : Scope) (name : Name) → e.binding ≡ Some b → IsB b scope name → n.binding_symbol facts b ≡ CO o → CO o ≡ codes "arguments" → name.sym ≡ o.sym → o.sym ≡ codes "arguments" → name.ctxt ≡ None → denoted_of ByContext Es all o ≡ Bound scope name → Is e o

  what-is : (e : Entry) (o : Occurrence) → Both e o × IsIn os o → Is e o
  what-is e o known = by (denoted_of ByContext Es all o) refl known.0.1 (source K os all s o known.1)
    where
      by_global : (b : Option ℕ) → e.binding ≡ b → IsDenoted S B b (Global o.sym) → denoted_of ByContext Es all o ≡ Global o.sym → Is e o
      by_global None at tells is = IsGlobal at (global-symbol e o known at) is
      by_global (Some b) at tells is = absurd tells

      by : (x : Denoted) → denoted_of ByContext Es all o ≡ x → TellsDenoted S B e x → Source all o x → Is e o
      by _ is tells FromGlobal = by_global e.binding refl tells is
      by _ is tells (FromDeclared d at same) =
          let found = bound-by e (home_of all d) d.name (Bound (home_of all d) d.name) refl tells in
          IsDeclared d at found.0 found.1 found.2 (sym (declared-symbol d at found.0 found.2) ∙ bound-symbol e o known found.0 (home_of all d) d.name found.1 found.2 same) is
      by _ is tells (FromArguments scope same) =
          let name : Name = record { sym = o.sym; ctxt = None } in
          let found = bound-by e scope name (Bound scope name) refl tells in
          let symbols = bound-symbol e o known found.0 scope name found.1 found.2 refl in
          IsArguments found.0 scope name found.1 found.2 symbols (sym symbols ∙ symbol-gen found.0 scope name found.2 ∙ ap (λ z. unwrap_or z o.sym) (stays found.0 scope name found.2 same) ∙ same) refl same refl is

  -- The scopes around.

  around-same : (e : Entry) (o : Occurrence) → Both e o × IsIn os o → (b : ℕ) (scope : Scope) (name : Name) → IsB b scope name → n.is_around S e.scope (n.home_number facts b) ≡ list_any (same_scope scope) (scopes_around Es o.path)
  around-same e o known b scope name is = list_any-zipped (λ (number : ℕ) (other : Scope). numbered_scope_at S number ≡ Some other) (λ number. number == n.home_number facts b) (same_scope scope) (λ number other at. scope-agrees S ordered number other at (n.home_number facts b) scope (home-at b scope name is)) (scopes_outwards S (length S) (Some e.scope)) (scopes_around Es o.path) (outwards-around S ordered (length S) e.scope (scopes_around Es o.path) (within (scopes_around Es o.path) known.0.0.around) known.0.0.around)
    where
      within : (l : List Scope) → AreAround S (Some e.scope) l → e.scope < length S
      within [] known = absurd known
      within (x ∷ l) known = slice_get_within S e.scope known.0 known.1

  -- Groups.

  split : (l : List Scope) (k : ℕ) → AreAround S (Some k) l → AreOf K l → (x : Scope) → IsIn l x → (m : ℕ) × (outer : List Scope) × AreAround S (Some m) (x ∷ outer) × AreOf K (x ∷ outer)
  split [] k around known x at = absurd around
  split (y ∷ ys) k around known x (zero, at) = (k, ys, subst (λ z. AreAround S (Some k) (z ∷ ys)) (same_Some y x at) around, subst (λ z. AreOf K (z ∷ ys)) (same_Some y x at) known)
  split (y ∷ ys) k around known x (suc i, at) = by (λ m rest. split ys m rest (rest-known K y ys known) x (i, at)) ys i at around.0.outer around.3
    where
      by : ((m : ℕ) → AreAround S (Some m) ys → (m : ℕ) × (outer : List Scope) × AreAround S (Some m) (x ∷ outer) × AreOf K (x ∷ outer)) → (zs : List Scope) (i : ℕ) → slice_get ys i ≡ Some x → (o : Option ℕ) → AreAround S o ys → (m : ℕ) × (outer : List Scope) × AreAround S (Some m) (x ∷ outer) × AreOf K (x ∷ outer)
      by ih zs i at (Some m) rest = ih m rest
      by ih zs i at None rest = absurd (empty ys i at rest)
        where
          empty : (zs : List Scope) (i : ℕ) → slice_get zs i ≡ Some x → AreAround S None zs → ⊥
          empty [] i at rest = none-some x at
          empty (z ∷ zs) i at rest = rest

  top-in : (path : List Around) → IsIn (scopes_around Es path) Top
  top-in [] = (0, refl)
  top-in (node ∷ outer) = by (kind_of_scope node.head node.field outer) (top-in outer)
    where
      by : (k : Option ScopeKind) → IsIn (scopes_around Es outer) Top → IsIn (made_at node.begins k ++ scopes_around Es outer) Top
      by None rest = rest
      by (Some kind) rest = (suc rest.0, rest.1)

  from-in : (way : Way) (l : List Scope) (x : Scope) → IsIn (from_taker way l) x → IsIn l x
  from-in way [] x at = at
  from-in way (y ∷ ys) x at = by (takes way y) (from-in way ys x) at
    where
      by : (v : Bool) → (IsIn (from_taker way ys) x → IsIn ys x) → IsIn (cond v (y ∷ ys) (from_taker way ys)) x → IsIn (y ∷ ys) x
      by true ih at = at
      by false ih at = let rest = ih at in (suc rest.0, rest.1)

  parameters-in : (l : List Scope) (x : Scope) → parameters_of l ≡ Some x → IsIn l x
  parameters-in (Top ∷ y ∷ ys) x e = (1, e)
  parameters-in (Top ∷ []) x e = absurd (none-some x e)
  parameters-in (Inner FunctionBody begins ∷ y ∷ ys) x e = (1, e)
  parameters-in (Inner FunctionBody begins ∷ []) x e = absurd (none-some x e)
  parameters-in _ x e = absurd (none-some x e)

  home-in : (d : Declared) → IsIn d.scopes Top → IsIn d.scopes (home_of all d)
  home-in d top = by_joins (joins_parameter d.by)
    where
      taken : IsIn d.scopes (taker d)
      taken = by (from_taker d.by d.scopes) (from-in d.by d.scopes)
        where
          by : (l : List Scope) → ((x : Scope) → IsIn l x → IsIn d.scopes x) → IsIn d.scopes (unwrap_or (nearest l) Top)
          by [] inside = top
          by (x ∷ xs) inside = inside x (0, refl)

      by_test : (x : Scope) → parameters_of (from_taker d.by d.scopes) ≡ Some x → (v : Bool) → IsIn d.scopes (cond v x (taker d))
      by_test x e true = from-in d.by d.scopes x (parameters-in (from_taker d.by d.scopes) x e)
      by_test x e false = taken

      by_beside : (o : Option Scope) → parameters_of (from_taker d.by d.scopes) ≡ o → IsIn d.scopes (home_beside all d o)
      by_beside None e = taken
      by_beside (Some x) e = by_test x e (list_any (is_parameter x d.name) all)

      by_joins : (v : Bool) → IsIn d.scopes (cond v (home_beside all d (parameters_of (from_taker d.by d.scopes))) (taker d))
      by_joins true = by_beside (parameters_of (from_taker d.by d.scopes)) refl
      by_joins false = taken

  home-around : (d : Declared) → IsIn all d → (m : ℕ) × (outer : List Scope) × AreAround S (Some m) (home_of all d ∷ outer) × AreOf K (home_of all d ∷ outer)
  home-around d at =
      let from = origin K os all s d at in
      let entry = AllZip-at_second (λ e o. Both e o × IsIn os o) E os from.at.0 from.o zipped from.at.1 in
      let scopes_are : scopes_around Es from.o.path ≡ d.scopes = ap (λ (x : Declared). x.scopes) (sym from.is) in
      split d.scopes entry.0.scope (subst (λ l. AreAround S (Some entry.0.scope) l) scopes_are entry.2.0.0.around) (scopes-of K os all s d at) (home_of all d) (home-in d (subst (λ l. IsIn l Top) scopes_are (top-in from.o.path)))

  joined : (x : Scope) (m : ℕ) (outer : List Scope) (o : Option ℕ) → numbered_scope_at S m ≡ Some x → AreAround S o outer → numbered_scope_at S (unwrap_or o m) ≡ Some (unwrap_or (nearest outer) x)
  joined x m [] None at known = at
  joined x m (z ∷ zs) None at known = absurd known
  joined x m [] (Some k) at known = absurd known
  joined x m (z ∷ zs) (Some k) at known = ap (option_map (λ (y : NumberedScope). y.scope)) known.1 ∙ ap (λ y. Some y) known.2

  group-of : (x : Scope) (m : ℕ) (outer : List Scope) → AreAround S (Some m) (x ∷ outer) → numbered_scope_at S (n.group_number S m) ≡ Some (group_of (x ∷ outer))
  group-of x m outer around =
      let at : numbered_scope_at S m ≡ Some x = ap (option_map (λ (y : NumberedScope). y.scope)) around.1 ∙ ap (λ y. Some y) around.2 in
      ap₂ (λ (v : Bool) (o : Option ℕ). numbered_scope_at S (cond v (unwrap_or o m) m)) (ap (λ o. unwrap_or (option_map joins_outer o) false) at) (ap (option_and_then (λ (y : NumberedScope). y.outer)) around.1)
      ∙ by x outer around.0.outer at around.3
    where
      by : (x : Scope) (outer : List Scope) (o : Option ℕ) → numbered_scope_at S m ≡ Some x → AreAround S o outer → numbered_scope_at S (cond (joins_outer x) (unwrap_or o m) m) ≡ Some (group_of (x ∷ outer))
      by Wrapper outer o at known = at
      by Top outer o at known = joined Top m outer o at known
      by (Inner CatchBlock begins) outer o at known = joined (Inner CatchBlock begins) m outer o at known
      by (Inner FunctionBody begins) outer o at known = joined (Inner FunctionBody begins) m outer o at known
      by (Inner Parameters begins) outer o at known = at
      by (Inner ArrowParameters begins) outer o at known = at
      by (Inner StaticBody begins) outer o at known = at
      by (Inner Block begins) outer o at known = at
      by (Inner Loop begins) outer o at known = at
      by (Inner Catch begins) outer o at known = at
      by (Inner FunctionName begins) outer o at known = at
      by (Inner ClassName begins) outer o at known = at

  group-at : (d : Declared) → IsIn all d → (x : Has d) → numbered_scope_at S (n.group_number S (n.home_number facts x.b)) ≡ Some (group d)
  group-at d at x =
      let here = home-around d at in
      let m_at : numbered_scope_at S here.0 ≡ Some (home_of all d) = ap (option_map (λ (y : NumberedScope). y.scope)) here.2.1 ∙ ap (λ y. Some y) here.2.2 in
      let number : n.home_number facts x.b ≡ here.0 = same-scope S ordered (n.home_number facts x.b) here.0 (home_of all d) (home_of all d) (home-at x.b (home_of all d) d.name x.is) m_at refl in
      let its = homed K os all s d at in
      let outers = (same-known K (home_of all d) (home_of all d) here.1 its.0 here.3 its.1 refl).1 in
      ap (λ k. numbered_scope_at S (n.group_number S k)) number ∙ group-of (home_of all d) here.0 here.1 here.2 ∙ ap (λ l. Some (group_of (home_of all d ∷ l))) outers ∙ ap (λ g. Some g) (sym its.2)

  -- What is kept in a group.

  abbrev done : {d : Declared} → Has d → List Turn
  done x = take x.i turns

  abbrev group_number : {d : Declared} → Has d → ℕ
  group_number x = n.group_number S (n.home_number facts x.b)

  groups-agree : (a d : Declared) → IsIn all a → IsIn all d → (y : Has a) (x : Has d) → (group_number y == group_number x) ≡ same_scope (group a) (group d)
  groups-agree a d among at y x = same_bool (group_number y == group_number x) (same_scope (group a) (group d))
      (λ e. eq-eqb (scope_order (group a)) (scope_order (group d)) (ap scope_order (same_Some (group a) (group d) (sym (group-at a among y) ∙ ap (numbered_scope_at S) (eqb-true (group_number y) (group_number x) e) ∙ group-at d at x))))
      (λ e. eq-eqb (group_number y) (group_number x) (same-scope S ordered (group_number y) (group_number x) (group a) (group d) (group-at a among y) (group-at d at x) (eqb-true (scope_order (group a)) (scope_order (group d)) e)))

  -- the test of a turn is that of its declared name
  keeps-same : (a d : Declared) → IsIn all a → IsIn all d → (y : Has a) (x : Has d) → n.keeps_in facts (group_number x) (C d) y.turn ≡ (keeps_own numbers all a && (same_scope (group a) (group d) && bytes_eq (C a) (C d)))
  keeps-same a d among at y x = ap₂ (λ (v : Bool) (w : Bool). v && w) (ap (λ k. k == 0) (sym (number-of a y))) (ap₂ (λ (v : Bool) (w : Bool). v && w) (ap (λ b. n.group_number S (n.home_number facts b) == group_number x) y.of ∙ groups-agree a d among at y x) (ap (λ z. bytes_eq z (C d)) (symbol-has a y)))

  kept-same : (d : Declared) → IsIn all d → (x : Has d) → list_any (beside_by numbers call all d) all ≡ n.is_kept facts (done x) (group_number x) (C d)
  kept-same d at x = same_bool (list_any (beside_by numbers call all d) all) (n.is_kept facts (done x) (group_number x) (C d)) to from
    where
      to : list_any (beside_by numbers call all d) all ≡ true → n.is_kept facts (done x) (group_number x) (C d) ≡ true
      to e =
          let found = list_any-in (beside_by numbers call all d) all e in
          let y = has found.0 found.1 in
          let one = and_parts (same_scope (group found.0) (group d) && bytes_eq (C found.0) (C d) && comes_before all found.0 d) (keeps_own numbers all found.0) found.2 in
          let two = and_parts (same_scope (group found.0) (group d) && bytes_eq (C found.0) (C d)) (comes_before all found.0 d) one.0 in
          any-here (n.keeps_in facts (group_number x) (C d)) (done x) y.turn (y.i, to-take turns x.i y.i y.turn y.at (before-index found.0 d y x found.1 at two.1)) (keeps-same found.0 d found.1 at y x ∙ and_from (keeps_own numbers all found.0) (same_scope (group found.0) (group d) && bytes_eq (C found.0) (C d)) one.1 two.0)

      from : n.is_kept facts (done x) (group_number x) (C d) ≡ true → list_any (beside_by numbers call all d) all ≡ true
      from e =
          let found = list_any-in (n.keeps_in facts (group_number x) (C d)) (done x) e in
          let place = in-take turns x.i found.1.0 found.0 found.1.1 in
          let a = turn-declared found.1.0 found.0 place.0 in
          let y = a.2 in
          let same : y.turn ≡ found.0 = same_Some y.turn found.0 (sym y.at ∙ ap (slice_get turns) a.3 ∙ place.0) in
          let lt : y.i < x.i = let less : found.1.0 < x.i = place.1 in subst (λ k. k < x.i) (sym a.3) less in
          let parts = and_parts (keeps_own numbers all a.0) (same_scope (group a.0) (group d) && bytes_eq (C a.0) (C d)) (sym (keeps-same a.0 d a.1 at y x) ∙ ap (n.keeps_in facts (group_number x) (C d)) same ∙ found.2) in
          any-here (beside_by numbers call all d) all a.0 a.1 (and_from (same_scope (group a.0) (group d) && bytes_eq (C a.0) (C d) && comes_before all a.0 d) (keeps_own numbers all a.0) (and_from (same_scope (group a.0) (group d) && bytes_eq (C a.0) (C d)) (comes_before all a.0 d) parts.1 (earlier a.0 d y x a.1 at lt)) parts.0)

  -- What is needed.

  -- whether a binding that is declared had its turn and keeps its symbol
  own-same : (f d : Declared) → IsIn all f → IsIn all d → (y : Has f) (x : Has d) → list_any (n.keeps_own y.b) (done x) ≡ (comes_before all f d && keeps_own numbers all f)
  own-same f d among at y x = same_bool (list_any (n.keeps_own y.b) (done x)) (comes_before all f d && keeps_own numbers all f)
      (λ e. let found = list_any-in (n.keeps_own y.b) (done x) e in
      let place = in-take turns x.i found.1.0 found.0 found.1.1 in
      let parts = and_parts (n.keeps_symbol found.0) (found.0.binding == y.b) found.2 in
      let index = turn-once y.i found.1.0 y.turn found.0 y.at place.0 (y.of ∙ sym (eqb-true found.0.binding y.b parts.1)) in
      let same : y.turn ≡ found.0 = same_Some y.turn found.0 (sym y.at ∙ ap (slice_get turns) index ∙ place.0) in
      let lt : y.i < x.i = let less : found.1.0 < x.i = place.1 in subst (λ k. k < x.i) (sym index) less in
      and_from (comes_before all f d) (keeps_own numbers all f) (earlier f d y x among at lt) (ap (λ k. k == 0) (number-of f y) ∙ ap n.keeps_symbol same ∙ parts.0))
      (λ e. let parts = and_parts (comes_before all f d) (keeps_own numbers all f) e in
      any-here (n.keeps_own y.b) (done x) y.turn (y.i, to-take turns x.i y.i y.turn y.at (before-index f d y x among at parts.0)) (and_from (n.keeps_symbol y.turn) (y.turn.binding == y.b) (ap (λ k. k == 0) (sym (number-of f y)) ∙ parts.1) (eq-eqb y.turn.binding y.b y.of)))

  turn-and : (a q o : Bool) → (a && (q && o)) ≡ ((q && a) && o)
  turn-and true true o = refl
  turn-and true false o = refl
  turn-and false true o = refl
  turn-and false false o = refl

  -- where it is not kept in the group, a binding of the same symbol before it is one of an outer scope
  outside-same : (f d : Declared) → IsIn all f → IsIn all d → (y : Has f) (x : Has d) → (C f) ≡ (C d) → list_any (beside_by numbers call all d) all ≡ false → (comes_before all f d && keeps_own numbers all f) ≡ is_kept_outside numbers (home_of all d) (Bound (home_of all f) f.name)
  outside-same f d among at y x symbols free = same_bool (comes_before all f d && keeps_own numbers all f) (nat_lt (scope_order (home_of all f)) (scope_order (home_of all d)) && numbers (home_of all f) f.name == 0)
      (λ e. let parts = and_parts (comes_before all f d) (keeps_own numbers all f) e in
      and_from (nat_lt (scope_order (home_of all f)) (scope_order (home_of all d))) (numbers (home_of all f) f.name == 0) (outer parts.0 parts.1 (or_cases (nat_lt (scope_order (home_of all f)) (scope_order (home_of all d))) (same_scope (home_of all f) (home_of all d) && nat_lt (first_place all f) (first_place all d)) parts.0)) parts.1)
      (λ e. let parts = and_parts (nat_lt (scope_order (home_of all f)) (scope_order (home_of all d))) (numbers (home_of all f) f.name == 0) e in
      and_from (comes_before all f d) (keeps_own numbers all f) (or_left (nat_lt (scope_order (home_of all f)) (scope_order (home_of all d))) (same_scope (home_of all f) (home_of all d) && nat_lt (first_place all f) (first_place all d)) parts.0) parts.1)
    where
      outer : comes_before all f d ≡ true → keeps_own numbers all f ≡ true → ((nat_lt (scope_order (home_of all f)) (scope_order (home_of all d)) ≡ true) ⊎ ((same_scope (home_of all f) (home_of all d) && nat_lt (first_place all f) (first_place all d)) ≡ true)) → nat_lt (scope_order (home_of all f)) (scope_order (home_of all d)) ≡ true
      outer before keep (inl lt) = lt
      outer before keep (inr level) =
          let homes = homes-same K os all s f d among at (and_parts (same_scope (home_of all f) (home_of all d)) (nat_lt (first_place all f) (first_place all d)) level).0 in
          let groups = groups-same K os all s f d among at homes in
          absurd (false≢true (sym free ∙ any-here (beside_by numbers call all d) all f among (and_from (same_scope (group f) (group d) && bytes_eq (C f) (C d) && comes_before all f d) (keeps_own numbers all f) (and_from (same_scope (group f) (group d) && bytes_eq (C f) (C d)) (comes_before all f d) (and_from (same_scope (group f) (group d)) (bytes_eq (C f) (C d)) (eq-eqb (scope_order (group f)) (scope_order (group d)) (ap scope_order groups)) ((bytes_eq-Decides (C f) (C d)).1 symbols)) before) keep)))

  and_true : (b : Bool) → b ≡ (b && true)
  and_true true = refl
  and_true false = refl

  needs-is : (d : Declared) → IsIn all d → (x : Has d) → is_arguments (C d) ≡ false → list_any (beside_by numbers call all d) all ≡ false → (e : Entry) (o : Occurrence) → Both e o × IsIn os o → Is e o → n.needs facts (done x) (C d) e ≡ (bytes_eq (CO o) (C d) && is_kept_outside numbers (home_of all d) (denoted_of ByContext Es all o))
  needs-is d at x unlike free e o known (IsGlobal nothing own denoted) =
      ap₂ (n.needs_by facts (done x) (C d)) (entry-symbol e o known ∙ ap (λ z. Some z) (sym own)) nothing
      ∙ and_true (bytes_eq (CO o) (C d))
      ∙ ap (λ z. bytes_eq (CO o) (C d) && is_kept_outside numbers (home_of all d) z) (sym denoted)
  needs-is d at x unlike free e o known (IsDeclared f among b is_b bound symbols denoted) =
      let y = has f among in
      let same : b ≡ y.b = t.one b y.b (home_of all f) f.name bound y.is in
      ap₂ (n.needs_by facts (done x) (C d)) (entry-symbol e o known) (is_b ∙ ap (λ k. Some k) same)
      ∙ ap (λ z. bytes_eq z (C d) && list_any (n.keeps_own y.b) (done x)) (declared-symbol f among y.b y.is ∙ symbols)
      ∙ by y (bytes_eq (CO o) (C d)) refl
      ∙ ap (λ z. bytes_eq (CO o) (C d) && is_kept_outside numbers (home_of all d) z) (sym denoted)
    where
      by : (y : Has f) (v : Bool) → bytes_eq (CO o) (C d) ≡ v → (v && list_any (n.keeps_own y.b) (done x)) ≡ (v && is_kept_outside numbers (home_of all d) (Bound (home_of all f) f.name))
      by y false is_v = refl
      by y true is_v = own-same f d among at y x ∙ outside-same f d among at y x (symbols ∙ (bytes_eq-Decides (CO o) (C d)).0 is_v) free
  needs-is d at x unlike free e o known (IsArguments b scope name is_b bound symbols arguments own really plain denoted) =
      let apart : bytes_eq (CO o) (C d) ≡ false = false_from_ne_true (bytes_eq (CO o) (C d)) (λ same. false≢true (sym unlike ∙ (bytes_eq-Decides (C d) (codes "arguments")).1 (sym ((bytes_eq-Decides (CO o) (C d)).0 same) ∙ arguments))) in
      ap₂ (n.needs_by facts (done x) (C d)) (entry-symbol e o known) is_b
      ∙ ap (λ z. bytes_eq z (C d) && list_any (n.keeps_own b) (done x)) symbols
      ∙ ap (λ v. v && list_any (n.keeps_own b) (done x)) apart
      ∙ ap (λ v. v && is_kept_outside numbers (home_of all d) (denoted_of ByContext Es all o)) (sym apart)

  needs-each : (d : Declared) → IsIn all d → (x : Has d) → is_arguments (C d) ≡ false → list_any (beside_by numbers call all d) all ≡ false → (e : Entry) (o : Occurrence) → Both e o × IsIn os o → n.needs_in facts (done x) (n.home_number facts x.b) (C d) e ≡ needed_by numbers call all d o
  needs-each d at x unlike free e o known =
      ap₂ (λ (v : Bool) (w : Bool). v && w) (around-same e o known x.b (home_of all d) d.name x.is) (needs-is d at x unlike free e o known (what-is e o known))
      ∙ turn-and (list_any (same_scope (home_of all d)) (scopes_around Es o.path)) (bytes_eq (CO o) (C d)) (is_kept_outside numbers (home_of all d) (denoted_of ByContext Es all o))

  needed-same : (d : Declared) → IsIn all d → (x : Has d) → is_arguments (C d) ≡ false → list_any (beside_by numbers call all d) all ≡ false → n.is_symbol_needed facts (done x) (n.home_number facts x.b) (C d) ≡ list_any (needed_by numbers call all d) os
  needed-same d at x unlike free = list_any-zipped (λ e o. Both e o × IsIn os o) (n.needs_in facts (done x) (n.home_number facts x.b) (C d)) (needed_by numbers call all d) (needs-each d at x unlike free) E os zipped

  may-same : (d : Declared) → IsIn all d → (x : Has d) → n.may_keep_symbol facts (done x) x.turn.binding ≡ may_keep_by numbers call all os d
  may-same d at x =
      ap (n.may_keep_symbol facts (done x)) x.of
      ∙ ap (λ z. not (is_arguments z) && not (n.is_kept facts (done x) (group_number x) z) && not (n.is_symbol_needed facts (done x) (n.home_number facts x.b) z)) (declared-symbol d at x.b x.is)
      ∙ ap (λ v. not (is_arguments (C d)) && not v && not (n.is_symbol_needed facts (done x) (n.home_number facts x.b) (C d))) (sym (kept-same d at x))
      ∙ by (is_arguments (C d)) (list_any (beside_by numbers call all d) all) refl refl
    where
      by : (v w : Bool) → is_arguments (C d) ≡ v → list_any (beside_by numbers call all d) all ≡ w → (not v && not w && not (n.is_symbol_needed facts (done x) (n.home_number facts x.b) (C d))) ≡ (not v && not w && not (list_any (needed_by numbers call all d) os))
      by true w unlike free = refl
      by false true unlike free = refl
      by false false unlike free = ap not (needed-same d at x unlike free)

  -- What is taken.

  -- a binding's symbol is that of what denotes it
  symbol-of_entry : (e : Entry) (o : Occurrence) → Both e o × IsIn os o → (b : ℕ) → e.binding ≡ Some b → n.binding_symbol facts b ≡ (CO o)
  symbol-of_entry e o known b is_b = by (what-is e o known)
    where
      by : Is e o → n.binding_symbol facts b ≡ (CO o)
      by (IsGlobal nothing own denoted) = absurd (none-some b (sym nothing ∙ is_b))
      by (IsDeclared f among c is_c bound symbols denoted) = ap (n.binding_symbol facts) (same_Some b c (sym is_b ∙ is_c)) ∙ declared-symbol f among c bound ∙ symbols
      by (IsArguments c scope name is_c bound symbols arguments own really plain denoted) = ap (n.binding_symbol facts) (same_Some b c (sym is_b ∙ is_c)) ∙ symbols

  before-same : (text : List ℕ) → (text ≡ codes "arguments" → ⊥) → list_any (λ (o : Occurrence). bytes_eq (CO o) text) os ≡ n.is_before facts text
  before-same text apart = same_bool (list_any (λ (o : Occurrence). bytes_eq (CO o) text) os) (n.is_before facts text) to from
    where
      to : list_any (λ (o : Occurrence). bytes_eq (CO o) text) os ≡ true → n.is_before facts text ≡ true
      to e =
          let found = list_any-in (λ (o : Occurrence). bytes_eq (CO o) text) os e in
          let entry = AllZip-at_second (λ e o. Both e o × IsIn os o) E os found.1.0 found.0 zipped found.1.1 in
          by entry.0 found.0 entry.2 (found.1.0, entry.1) found.2 (what-is entry.0 found.0 entry.2)
        where
          declared_case : (f : Declared) → IsIn all f → bytes_eq (C f) text ≡ true → n.is_before facts text ≡ true
          declared_case f among is =
              let own = s.declared f among in
              let entry = AllZip-at_second (λ e o. Both e o × IsIn os o) E os own.1.0 own.0 zipped own.1.1 in
              let bound = bound-by entry.0 (home_of all f) f.name (denoted_of ByContext Es all own.0) (own-denoted own.0 f own.2) entry.2.0.1 in
              let declares_it : entry.0.declares ≡ true = entry.2.0.0.declares ∙ ap is_some own.2 in
              let symbol_of_it : slice_get facts.symbols bound.0 ≡ Some (C f) = symbol-there bound.0 (home_of all f) f.name bound.2 ∙ ap (λ z. Some z) (sym (symbol-gen bound.0 (home_of all f) f.name bound.2) ∙ declared-symbol f among bound.0 bound.2) in
              any-here (n.is_binding_called facts text) E entry.0 (own.1.0, entry.1) (ap₂ (n.is_called_by facts.symbols text (n.symbol_by (slice_get items entry.0.place))) declares_it bound.1 ∙ ap (n.is_symbol text) symbol_of_it ∙ is)

          by : (e : Entry) (o : Occurrence) → Both e o × IsIn os o → IsIn E e → bytes_eq (CO o) text ≡ true → Is e o → n.is_before facts text ≡ true
          by e o known there is (IsGlobal nothing own denoted) = any-here (n.is_binding_called facts text) E e there (ap₂ (λ (z : Option (List ℕ)) (b : Option ℕ). n.is_called_by facts.symbols text z e.declares b) (entry-symbol e o known) nothing ∙ ap (λ z. bytes_eq z text) (sym own) ∙ is)
          by e o known there is (IsDeclared f among b is_b bound symbols denoted) = declared_case f among (ap (λ z. bytes_eq z text) symbols ∙ is)
          by e o known there is (IsArguments b scope name is_b bound symbols arguments own really plain denoted) = absurd (apart (sym ((bytes_eq-Decides (CO o) text).0 is) ∙ arguments))

      from : n.is_before facts text ≡ true → list_any (λ (o : Occurrence). bytes_eq (CO o) text) os ≡ true
      from e =
          let found = list_any-in (n.is_binding_called facts text) E e in
          let other = AllZip-at (λ e o. Both e o × IsIn os o) E os found.1.0 found.0 zipped found.1.1 in
          any-here (λ (o : Occurrence). bytes_eq (CO o) text) os other.0 other.2.1 (by found.0 other.0 other.2 found.0.binding refl (sym (ap (λ z. n.is_called_by facts.symbols text z found.0.declares found.0.binding) (entry-symbol found.0 other.0 other.2)) ∙ found.2))
        where
          by : (e : Entry) (o : Occurrence) → Both e o × IsIn os o → (b : Option ℕ) → e.binding ≡ b → n.is_called_by facts.symbols text (Some o.sym) e.declares b ≡ true → bytes_eq (CO o) text ≡ true
          by e o known None at is = ap (λ z. bytes_eq z text) (global-symbol e o known at) ∙ is
          by e o known (Some b) at is = by_symbol (slice_get facts.symbols b) refl (and_parts e.declares (n.is_symbol text (slice_get facts.symbols b)) is).1
            where
              by_symbol : (z : Option (List ℕ)) → slice_get facts.symbols b ≡ z → n.is_symbol text z ≡ true → bytes_eq (CO o) text ≡ true
              by_symbol None there is = absurd (false≢true is)
              by_symbol (Some z) there is = ap (λ y. bytes_eq y text) (sym (symbol-of_entry e o known b at) ∙ ap (λ y. unwrap_or y []) there) ∙ is

  taken-same : (d : Declared) → IsIn all d → (x : Has d) → (text : List ℕ) → (text ≡ codes "arguments" → ⊥) → taken_by numbers call all os d text ≡ n.is_text_taken facts (done x) text
  taken-same d at x text apart = ap (λ v. v || list_any (λ a. comes_before all a d && bytes_eq (new_symbol numbers call all a) text) all) (before-same text apart) ∙ same_bool (n.is_before facts text || list_any (λ a. comes_before all a d && bytes_eq (new_symbol numbers call all a) text) all) (n.is_text_taken facts (done x) text) to from
    where
      to_before : n.is_before facts text ≡ true → n.is_text_taken facts (done x) text ≡ true
      to_before e = or_left (n.is_before facts text) (list_any (n.gets facts text) (done x)) e

      to_after : list_any (λ a. comes_before all a d && bytes_eq (new_symbol numbers call all a) text) all ≡ true → n.is_text_taken facts (done x) text ≡ true
      to_after e =
          let found = list_any-in (λ a. comes_before all a d && bytes_eq (new_symbol numbers call all a) text) all e in
          let y = has found.0 found.1 in
          let parts = and_parts (comes_before all found.0 d) (bytes_eq (new_symbol numbers call all found.0) text) found.2 in
          by found.0 found.1 y parts.0 (n.keeps_symbol y.turn) refl (ap (λ z. bytes_eq z text) (sym (after-has found.0 y)) ∙ parts.1)
        where
          by : (a : Declared) → IsIn all a → (y : Has a) → comes_before all a d ≡ true → (v : Bool) → n.keeps_symbol y.turn ≡ v → bytes_eq (numbered_text (n.binding_symbol facts y.turn.binding) y.turn.number) text ≡ true → n.is_text_taken facts (done x) text ≡ true
          by a among y before true keep is =
              let from = origin K os all s a among in
              let own : CO from.o ≡ C a = ap (λ (z : Declared). C z) (sym from.is) in
              let plain_text : numbered_text (n.binding_symbol facts y.turn.binding) y.turn.number ≡ CO from.o = ap (numbered_text (n.binding_symbol facts y.turn.binding)) (eqb-true y.turn.number 0 keep) ∙ symbol-has a y ∙ sym own in
              to_before (sym (before-same text apart) ∙ any-here (λ (o : Occurrence). bytes_eq (CO o) text) os from.o from.at (ap (λ z. bytes_eq z text) (sym plain_text) ∙ is))
          by a among y before false keep is = or_right (n.is_before facts text) (list_any (n.gets facts text) (done x)) (any-here (n.gets facts text) (done x) y.turn (y.i, to-take turns x.i y.i y.turn y.at (before-index a d y x among at before)) (and_from (not (n.keeps_symbol y.turn)) (bytes_eq (numbered_text (n.binding_symbol facts y.turn.binding) y.turn.number) text) (ap not keep) is))

      to : (n.is_before facts text || list_any (λ a. comes_before all a d && bytes_eq (new_symbol numbers call all a) text) all) ≡ true → n.is_text_taken facts (done x) text ≡ true
      to e = ⊎_elim to_before to_after (or_cases (n.is_before facts text) (list_any (λ a. comes_before all a d && bytes_eq (new_symbol numbers call all a) text) all) e)

      from_after : list_any (n.gets facts text) (done x) ≡ true → list_any (λ a. comes_before all a d && bytes_eq (new_symbol numbers call all a) text) all ≡ true
      from_after e =
          let found = list_any-in (n.gets facts text) (done x) e in
          let place = in-take turns x.i found.1.0 found.0 found.1.1 in
          let a = turn-declared found.1.0 found.0 place.0 in
          let y = a.2 in
          let same : y.turn ≡ found.0 = same_Some y.turn found.0 (sym y.at ∙ ap (slice_get turns) a.3 ∙ place.0) in
          let lt : y.i < x.i = let less : found.1.0 < x.i = place.1 in subst (λ k. k < x.i) (sym a.3) less in
          let parts = and_parts (not (n.keeps_symbol found.0)) (bytes_eq (numbered_text (n.binding_symbol facts found.0.binding) found.0.number) text) found.2 in
          any-here (λ a. comes_before all a d && bytes_eq (new_symbol numbers call all a) text) all a.0 a.1 (and_from (comes_before all a.0 d) (bytes_eq (new_symbol numbers call all a.0) text) (earlier a.0 d y x a.1 at lt) (ap (λ z. bytes_eq z text) (after-has a.0 y ∙ ap (λ (z : Turn). numbered_text (n.binding_symbol facts z.binding) z.number) same) ∙ parts.1))

      from : n.is_text_taken facts (done x) text ≡ true → (n.is_before facts text || list_any (λ a. comes_before all a d && bytes_eq (new_symbol numbers call all a) text) all) ≡ true
      from e = ⊎_elim (λ before. or_left (n.is_before facts text) (list_any (λ a. comes_before all a d && bytes_eq (new_symbol numbers call all a) text) all) before) (λ after. or_right (n.is_before facts text) (list_any (λ a. comes_before all a d && bytes_eq (new_symbol numbers call all a) text) all) (from_after after)) (or_cases (n.is_before facts text) (list_any (n.gets facts text) (done x)) e)

  -- the least number

  to-same : (d : Declared) → IsIn all d → (x : Has d) → (k : ℕ) → taken_to_by numbers call all os d k ≡ n.all_to (λ number. n.is_text_taken facts (done x) (numbered_text (n.binding_symbol facts x.turn.binding) number)) k
  to-same d at x zero = refl
  to-same d at x (suc k) = ap₂ (λ (v : Bool) (w : Bool). v && w) (taken-same d at x (numbered_text (C d) (suc k)) (numbered-not_arguments (C d) k) ∙ ap (λ z. n.is_text_taken facts (done x) (numbered_text z (suc k))) (sym (symbol-has d x))) (to-same d at x k)

  least-same : (d : Declared) → IsIn all d → (x : Has d) → (k : ℕ) → least_free_by numbers call all os d k ≡ n.is_least (λ number. n.is_text_taken facts (done x) (numbered_text (n.binding_symbol facts x.turn.binding) number)) k
  least-same d at x zero = refl
  least-same d at x (suc k) = ap₂ (λ (v : Bool) (w : Bool). not v && w) (taken-same d at x (numbered_text (C d) (suc k)) (numbered-not_arguments (C d) k) ∙ ap (λ z. n.is_text_taken facts (done x) (numbered_text z (suc k))) (sym (symbol-has d x))) (to-same d at x k)

  named-right : (d : Declared) → IsIn all d → named_right_by numbers call all os d ≡ true
  named-right d at =
      let x = has d at in
      ap₂ (λ (v : Bool) (k : ℕ). cond v (k == 0) (least_free_by numbers call all os d k)) (sym (may-same d at x)) (number-of d x)
      ∙ ap (cond (n.may_keep_symbol facts (done x) x.turn.binding) (n.keeps_symbol x.turn)) (least-same d at x x.turn.number)
      ∙ named.called.right x.i x.turn x.at

  -- What the occurrences are called.

  symbol-declared : (e : Entry) (o : Occurrence) → Both e o × IsIn os o → (f : Declared) → IsIn all f → (b : ℕ) → e.binding ≡ Some b → IsB b (home_of all f) f.name → C f ≡ CO o → unwrap_or (binding_text names b) o.sym ≡ called_after numbers call (Bound (home_of all f) f.name)
  symbol-declared e o known f among b is_b bound symbols =
      let y = has f among in
      let same : b ≡ y.turn.binding = t.one b y.b (home_of all f) f.name bound y.is ∙ sym y.of in
      let written = has-context K os all s f among in
      ap (λ z. unwrap_or z o.sym) (ap (binding_text names) same ∙ named.called.texts y.i y.turn y.at)
      ∙ by y same (n.keeps_symbol y.turn) refl
      ∙ ap (numbered_text (C f)) (sym (number-of f y))
      ∙ ap (λ z. cond (is_some z) (numbered_text (C f) (numbers (home_of all f) f.name)) f.name.sym) (sym written.1)
    where
      by : (y : Has f) → b ≡ y.turn.binding → (v : Bool) → n.keeps_symbol y.turn ≡ v → unwrap_or (cond v (binding_text keywords y.turn.binding) (Some (numbered_text (n.binding_symbol facts y.turn.binding) y.turn.number))) o.sym ≡ numbered_text (C f) y.turn.number
      by y same true keep = ap (λ z. unwrap_or (binding_text keywords z) o.sym) (sym same) ∙ sym (ap (λ (i : Ident). i.0) (calls e o known.0 known.1 ∙ ap (called_ident keywords (o.sym, o.ctxt)) is_b)) ∙ sym symbols ∙ ap (numbered_text (C f)) (sym (eqb-true y.turn.number 0 keep))
      by y same false keep = ap (λ z. numbered_text z y.turn.number) (symbol-has f y)

  -- the implicit `arguments` keeps its symbol
  symbol-arguments : (b : ℕ) (scope : Scope) (name : Name) → IsB b scope name → (x : List ℕ) → name.sym ≡ x → x ≡ codes "arguments" → name.ctxt ≡ None → unwrap_or (binding_text names b) x ≡ name.sym
  symbol-arguments b scope name bound x own really plain = by (list_any (λ (y : Turn). y.binding == b) turns) refl
    where
      by : (v : Bool) → list_any (λ (y : Turn). y.binding == b) turns ≡ v → unwrap_or (binding_text names b) x ≡ name.sym
      by false free = ap (λ z. unwrap_or z x) (named.called.others b (slice_get_within facts.homes b bound.binding.scope (home-is b scope name bound)) free ∙ stays b scope name bound (own ∙ really)) ∙ sym own
      by true is =
          let found = list_any-in (λ (y : Turn). y.binding == b) turns is in
          let a = turn-declared found.1.0 found.0 found.1.1 in
          let y = a.2 in
          let same : y.b ≡ b = sym y.of ∙ ap (λ (z : Turn). z.binding) (same_Some y.turn found.0 (sym y.at ∙ ap (slice_get turns) a.3 ∙ found.1.1)) ∙ eqb-true found.0.binding b found.2 in
          let both = same-of b (home_of all a.0) scope a.0.name name (subst (λ m. IsB m (home_of all a.0) a.0.name) same y.is) bound in
          let written = has-context K os all s a.0 a.1 in
          absurd (none-some written.0 (sym plain ∙ ap (λ (m : Name). m.ctxt) (sym both.1) ∙ written.1))

  symbol-each : (e : Entry) (o : Occurrence) → Both e o × IsIn os o → (called_ident names (o.sym, o.ctxt) e.binding).0 ≡ called_after numbers call (denoted_of ByContext Es all o)
  symbol-each e o known = by (what-is e o known)
    where
      by : Is e o → (called_ident names (o.sym, o.ctxt) e.binding).0 ≡ called_after numbers call (denoted_of ByContext Es all o)
      by (IsGlobal nothing own denoted) = ap (λ b. (called_ident names (o.sym, o.ctxt) b).0) nothing ∙ ap (called_after numbers call) (sym denoted)
      by (IsDeclared f among b is_b bound symbols denoted) = ap (λ b. (called_ident names (o.sym, o.ctxt) b).0) is_b ∙ symbol-declared e o known f among b is_b bound symbols ∙ ap (called_after numbers call) (sym denoted)
      by (IsArguments b scope name is_b bound symbols arguments own really plain denoted) = ap (λ b. (called_ident names (o.sym, o.ctxt) b).0) is_b ∙ symbol-arguments b scope name bound o.sym own really plain ∙ ap (λ z. cond (is_some z) (numbered_text (called_symbol call name) (numbers scope name)) name.sym) (sym plain) ∙ ap (called_after numbers call) (sym denoted)

  symbols-each : (es : List Entry) (l : List Occurrence) → AllZip (λ e o. Both e o × IsIn os o) es l → map (λ (i : Ident). i.0) (called_in names (map (λ (o : Occurrence). (o.sym, o.ctxt)) l) (map (λ (e : Entry). e.binding) es)) ≡ map (λ (o : Occurrence). called_after numbers call (denoted_of ByContext Es all o)) l
  symbols-each [] [] known = refl
  symbols-each [] (o ∷ l) known = absurd known
  symbols-each (e ∷ es) [] known = absurd known
  symbols-each (e ∷ es) (o ∷ l) known = ap₂ (λ (x : List ℕ) (xs : List (List ℕ)). x ∷ xs) (symbol-each e o known.0) (symbols-each es l known.1)

  -- the symbols that the names give to the occurrences are those of the numbers
  pub symbols-are : map (λ (i : Ident). i.0) (called_in names (map (λ (o : Occurrence). (o.sym, o.ctxt)) os) (map (λ (e : Entry). e.binding) E)) ≡ map (λ (o : Occurrence). called_after numbers call (denoted_of ByContext Es all o)) os
  symbols-are = symbols-each E os zipped

  -- every declared name has the number that it is to have, by the symbols that it is called by
  pub numbers-right : (d : Declared) → IsIn all d → named_right_by numbers call all os d ≡ true
  numbers-right = named-right
