-- The names promise follows from the naming rule and the form of the tree.
-- Once names are made apart none is declared twice, where none was by symbol and context.
-- What the naming asks of a tree holds of one whose identifiers were called otherwise, as keywords are: no block stands as
-- the key of an accessor, and none is declared twice.
use Rattle.std.proofs.Common.{◌≡◌, ℕ, List, [], ◌∷◌, map, length, slice_get, refl, ap, sym, ◌∙◌, subst, ◌<◌, ◌⊎◌, inl, inr, suc, ◌+◌, ◌==◌, ◌&&◌, ◌||◌, not, nat_lt, Bool, true, false, cond, Option, Some, None, option_map, find, eq-eqb, eqb-true, lt-ltb, arith, ◌++◌, fold, bytes_eq, codes}
use Rattle.std.specs.List.{AllZip, cons_option, list_any}
use Rattle.std.specs.Prelude.{take_while, if◌then◌else◌}
use Rattle.std.proofs.lemmas.Bool.{false≢true, and_from, and_right, false_from_ne_true, ltb-true}
use Rattle.std.proofs.lemmas.List.Sums.{take_while-cons}
use Rattle.std.proofs.lemmas.Option.{none-some, same_Some, slice_get-map}
use Rattle.bundle_syntax.specs.Item as h
use Rattle.bundle_syntax.specs.Item.{Item, Head}
use Rattle.bundle_syntax.specs.declared.piece.Role.{Role}
use Rattle.bundle_syntax.specs.declared.piece.Role.TheVariants
use Rattle.bundle_rules.specs.Places.{Occurrence, occurrences, start, is_binding, Around, Spot, past, in_field, path_to}
use Rattle.bundle_rules.specs.Scopes.{Es, Scope, Wrapper, Top, Inner, FunctionBody, StaticBody, same_scope, scopes_around}
use Rattle.bundle_rules.specs.Declarations.{BySymbol, ByContext, declared, Way, ByImport, ByFunction, names_agree, Declared, declared_by, declaration_of, way_of}
use Rattle.bundle_rules.specs.Denotes.{denoted_of, denotations, IsResolved, DenoteAlike}
use Rattle.bundle_rules.specs.Renaming.{symbol_after, IsRenamed}
use Rattle.bundle_rules.specs.Cleared.{cleared_head, cleared_item, cleared, without_note, without_notes}
use Rattle.bundle_rules.specs.Idents.{idents}
use Rattle.bundle_rules.specs.Rebuilds.{changes_to, with_idents, Change, change_at, is_key_spelled_out, plain_key, key_in_object, pattern_front, new_begin, new_end, spelled_out, new_occurrence, new_item, rebuilt}
use Rattle.bundle_rules.specs.Renamed.{HasNamesOnly, KeepsNames, IsNamed, IsRebuilt}
use Rattle.bundle_rules.proofs.PathLemmas.{cleared_occurrence, occurrences-cleared}
use Rattle.bundle_rules.proofs.DenotesLemmas.{denotations-cleared, first_doubled-cleared}
use Rattle.bundle_rules.specs.Homes.{takes, from_taker, taker, group_of}
use Rattle.bundle_rules.specs.Doubled.{may_double_functions, stands_once, is_lexical, stands_beside, is_var, passes_scope_of, excludes, clash, is_doubled, first_doubled}
use Rattle.bundle_rules.specs.Nodes.{Text}
use Rattle.bundle_rules.specs.Shorthands.{ends_at, has_default, is_shorthand_in_pattern, is_object, symbol_of}
use Rattle.bundle_rules.specs.Shape.{is_specifier}
use Rattle.bundle_scope_denote.proofs.ChainLemmas.{AllZip-weaker as zip-map}
use Rattle.bundle_scope_names.proofs.HomesLemmas.{find-failed}
use Rattle.bundle_scope_names.proofs.naming_rule.Tables.{all-named, declarations, declared-named, setting, IsIn, any-here, find-none_in, map-in, trichotomy, table_in}
use Rattle.bundle_scope_names.proofs.naming_rule.Heart.{renamed_occurrence, renamed_declared, renamed_all}
use Rattle.bundle_scope_names.proofs.naming_rule.Clash.{HasMoved, moved, all_moved, IsInjective, IsMoved, any-zip, takes-stays, same-moved, from_taker-moved, taker-moved, never-clash, HasPlainKeys, occurrences-grouped, is_key, begins_key, HasNoKeys}
use Rattle.bundle_scope_names.proofs.naming_rule.Transfer.{capture, renamed_occurrences, all-renamed, zip-second, Calling, recalled, IsFaithful, IsRecalled, agree-recalled, held, held-moved, AreIncreasing, IsPaired, pairs-order, group_of-moved}
use Rattle.bundle_scope_names.proofs.naming_rule.Rebuilt.{HasPlace, place_in, place-injective, rebuilt-zipped, rebuilt_at, rebuilt-start, offset, begin-other, Aligned, becomes-item, fold-place, ArePlain, rebuilt-named, PathMoved, Outside, Kept, Spelled, WithDefault, child_field, child_field-moved}
pub use Rattle.bundle_scope_names.specs.Undoubled.{IsUndoubled}
use Rattle.bundle_scope_names.proofs.naming_rule.Called.{increasing-from, became}
use Rattle.bundle_scope_names.proofs.fit.Keys.{field_twice as in_field-twice}

-- ---- theorem

-- places that have moved, with symbols that are known
pub zip-symbols : (move : ℕ → ℕ) (f : Occurrence → Occurrence) (x : Occurrence → List ℕ) → ((o : Occurrence) → f o ≡ record { place = o.place; sym = x o; ctxt = 0; role = o.role; path = o.path }) → (os ps : List Occurrence) → AllZip (HasPlace move) os ps → map (λ (o : Occurrence). o.sym) ps ≡ map x os → AllZip (HasMoved move) (map f os) ps
zip-symbols move f x is [] [] zip e = tt
zip-symbols move f x is [] (p ∷ ps) zip e = absurd zip
zip-symbols move f x is (o ∷ os) [] zip e = absurd zip
zip-symbols move f x is (o ∷ os) (p ∷ ps) zip e =
    let first : p.sym ≡ x o = cc in
    let later : map (λ (o : Occurrence). o.sym) ps ≡ map x os = cc in
    let one : HasPlace move o p = zip.0 in (
      subst (λ q. HasMoved move q p) (sym (is o)) (record { role = one.role; symbol = first; way = one.way; scopes = one.scopes }),
      zip-symbols move f x is os ps zip.1 later,
    )

-- notes and contexts
pub head-twice : (head : Head) → cleared_head (cleared_head head) ≡ cleared_head head
head-twice (h.ImportDecl meta) = refl
head-twice (h.NamedExport meta) = refl
head-twice (h.ExportAll meta) = refl
head-twice (h.VarDecl kind meta) = refl
head-twice _ = refl

item-twice : (x : Item) → cleared_item (cleared_item x) ≡ cleared_item x
item-twice (h.Open field head) = ap (h.Open field) (head-twice head)
item-twice (h.Ident field x c role) = refl
item-twice (h.Hole field) = refl
item-twice h.Close = refl

pub cleared-twice : (l : List Item) → cleared (cleared l) ≡ cleared l
cleared-twice [] = refl
cleared-twice (x ∷ l) = ap (λ y. y ∷ cleared (cleared l)) (item-twice x) ∙ ap (λ r. cleared_item x ∷ r) (cleared-twice l)

item-notes : (x : Item) → cleared_item (without_note x) ≡ cleared_item x
item-notes (h.Open field head) = ap (h.Open field) (head-twice head)
item-notes (h.Ident field x c role) = refl
item-notes (h.Hole field) = refl
item-notes h.Close = refl

pub cleared-notes : (l : List Item) → cleared (without_notes l) ≡ cleared l
cleared-notes [] = refl
cleared-notes (x ∷ l) = ap (λ y. y ∷ cleared (without_notes l)) (item-notes x) ∙ ap (λ r. cleared_item x ∷ r) (cleared-notes l)

pub symbols-cleared : (os : List Occurrence) → map (λ (o : Occurrence). o.sym) (map cleared_occurrence os) ≡ map (λ (o : Occurrence). o.sym) os
symbols-cleared [] = refl
symbols-cleared (o ∷ os) = ap (λ l. o.sym ∷ l) (symbols-cleared os)

-- what denotes the same denotes alike
alike-same : (before one other : List Item) → denotations BySymbol Es other ≡ denotations BySymbol Es one → DenoteAlike ByContext before BySymbol one → DenoteAlike ByContext before BySymbol other
alike-same before one other e alike = record {
  len = alike.len ∙ sym (ap length e);
  same = λ i j. (λ was. at i ∙ (alike.same i j).0 was ∙ sym (at j), λ is. (alike.same i j).1 (sym (at i) ∙ is ∙ at j));
  globals = λ i x. (λ was. at i ∙ (alike.globals i x).0 was, λ is. (alike.globals i x).1 (sym (at i) ∙ is));
}
  where
    at : (i : ℕ) → slice_get (denotations BySymbol Es other) i ≡ slice_get (denotations BySymbol Es one) i
    at i = ap (λ ds. slice_get ds i) e

-- the capture lemma
pub denotes-alike : (before after : List Item) → IsResolved Es before → HasNamesOnly before → ArePlain before → IsRenamed before after → without_notes after ≡ cleared (with_idents before (idents after)) → DenoteAlike ByContext before BySymbol after
denotes-alike before after resolved names plain renamed same = alike-same before (with_idents before (idents after)) after denotes (capture before resolved names renamed.numbers renamed.right (place_in before (changes_to (idents before) (idents after))) (place-injective before (changes_to (idents before) (idents after))) (with_idents before (idents after)) (rebuilt-named before (changes_to (idents before) (idents after)) (all-named before names) plain) zip)
  where
    clear : cleared after ≡ cleared (with_idents before (idents after))
    clear = sym (cleared-notes after) ∙ ap cleared same ∙ cleared-twice (with_idents before (idents after))

    denotes : denotations BySymbol Es after ≡ denotations BySymbol Es (with_idents before (idents after))
    denotes = sym (denotations-cleared Es after) ∙ ap (denotations BySymbol Es) clear ∙ denotations-cleared Es (with_idents before (idents after))

    symbols_of : (l : List Item) → map (λ (o : Occurrence). o.sym) (occurrences (cleared l)) ≡ map (λ (o : Occurrence). o.sym) (occurrences l)
    symbols_of l = ap (map (λ (o : Occurrence). o.sym)) (occurrences-cleared l) ∙ symbols-cleared (occurrences l)

    symbols : map (λ (o : Occurrence). o.sym) (occurrences (with_idents before (idents after))) ≡ map (λ o. symbol_after renamed.numbers (denoted_of ByContext Es (declared ByContext Es before) o)) (occurrences before)
    symbols = sym (symbols_of (with_idents before (idents after))) ∙ ap (λ l. map (λ (o : Occurrence). o.sym) (occurrences l)) (sym clear) ∙ symbols_of after ∙ renamed.symbols

    zip : AllZip (HasMoved (place_in before (changes_to (idents before) (idents after)))) (map (renamed_occurrence renamed.numbers (declared ByContext Es before)) (occurrences before)) (occurrences (with_idents before (idents after)))
    zip = zip-symbols (place_in before (changes_to (idents before) (idents after))) (renamed_occurrence renamed.numbers (declared ByContext Es before)) (λ o. symbol_after renamed.numbers (denoted_of ByContext Es (declared ByContext Es before) o)) (λ o. refl) (occurrences before) (occurrences (with_idents before (idents after))) (rebuilt-zipped before (changes_to (idents before) (idents after))) symbols

-- so names keep their meaning
pub keeps-names : (before after : List Item) → IsResolved Es before → HasNamesOnly before → ArePlain before → IsRenamed before after → without_notes after ≡ cleared (with_idents before (idents after)) → KeepsNames before after
keeps-names before after resolved names plain renamed same = record { same = same; alike = denotes-alike before after resolved names plain renamed same }

-- the names promise
pub is-named : (before after : List Item) → IsResolved Es before → HasNamesOnly before → ArePlain before → IsRenamed before after → without_notes after ≡ cleared (with_idents before (idents after)) → IsNamed before after
is-named before after resolved names plain renamed same = record { keeps = keeps-names before after resolved names plain renamed same; renamed = renamed }

-- ---- undoubled

-- equality by order
equal-by_order : (x y : ℕ) → (x == y) ≡ (not (nat_lt x y) && not (nat_lt y x))
equal-by_order x y = by_order (trichotomy x y)
  where
    both : (a b : Bool) → a ≡ false → b ≡ false → (not a && not b) ≡ true
    both false false one two = refl
    both true b one two = sym one
    both false true one two = sym two

    by_order : (x < y) ⊎ ((y < x) ⊎ (x ≡ y)) → (x == y) ≡ (not (nat_lt x y) && not (nat_lt y x))
    by_order (inl less) = false_from_ne_true (x == y) (λ e. let same = eqb-true x y e in omega (arith, less, same)) ∙ sym (ap (λ b. not b && not (nat_lt y x)) (lt-ltb x y less))
    by_order (inr (inl more)) = false_from_ne_true (x == y) (λ e. let same = eqb-true x y e in omega (arith, more, same)) ∙ sym (ap (λ b. not (nat_lt x y) && not b) (lt-ltb y x more) ∙ and_right (not (nat_lt x y)) false refl)
    by_order (inr (inr same)) = eq-eqb x y same ∙ sym (both (nat_lt x y) (nat_lt y x) (false_from_ne_true (nat_lt x y) (λ e. let less = ltb-true x y e in omega (arith, less, same))) (false_from_ne_true (nat_lt y x) (λ e. let more = ltb-true y x e in omega (arith, more, same))))

-- What excludes does not read where scopes begin.

doubles-moved : (move : ℕ → ℕ) (scopes : List Scope) → may_double_functions (all_moved move scopes) ≡ may_double_functions scopes
doubles-moved move [] = refl
doubles-moved move (Wrapper ∷ outer) = refl
doubles-moved move (Top ∷ []) = refl
doubles-moved move (Top ∷ Wrapper ∷ outer) = refl
doubles-moved move (Top ∷ Top ∷ outer) = refl
doubles-moved move (Top ∷ Inner kind begins ∷ outer) = refl
doubles-moved move (Inner FunctionBody begins ∷ outer) = refl
doubles-moved move (Inner StaticBody begins ∷ outer) = refl
doubles-moved move (Inner _ begins ∷ outer) = refl

once-moved : (move : ℕ → ℕ) (way : Way) (scopes : List Scope) → stands_once way (all_moved move scopes) ≡ stands_once way scopes
once-moved move ByFunction scopes = ap not (doubles-moved move scopes)
once-moved move ByImport scopes = refl
once-moved move _ scopes = refl

passing-moved : (move : ℕ → ℕ) (way : Way) (scopes : List Scope) → take_while (λ scope. not (takes way scope)) (all_moved move scopes) ≡ all_moved move (take_while (λ scope. not (takes way scope)) scopes)
passing-moved move way [] = refl
passing-moved move way (s ∷ ss) =
    take_while-cons (λ scope. not (takes way scope)) (moved move s) (all_moved move ss)
    ∙ ap (λ b. cond (not b) (moved move s ∷ take_while (λ scope. not (takes way scope)) (all_moved move ss)) []) (takes-stays way move s)
    ∙ by_takes (takes way s) (passing-moved move way ss)
    ∙ sym (ap (all_moved move) (take_while-cons (λ scope. not (takes way scope)) s ss))
  where
    by_takes : (b : Bool) → take_while (λ scope. not (takes way scope)) (all_moved move ss) ≡ all_moved move (take_while (λ scope. not (takes way scope)) ss) → cond (not b) (moved move s ∷ take_while (λ scope. not (takes way scope)) (all_moved move ss)) [] ≡ all_moved move (cond (not b) (s ∷ take_while (λ scope. not (takes way scope)) ss) [])
    by_takes true rest = refl
    by_takes false rest = ap (λ l. moved move s ∷ l) rest

module _ (move : ℕ → ℕ) (injective : IsInjective move) where
  among-moved : (t : Scope) (scopes : List Scope) → list_any (same_scope (moved move t)) (all_moved move scopes) ≡ list_any (same_scope t) scopes
  among-moved t [] = refl
  among-moved t (s ∷ ss) = ap (λ b. b || list_any (same_scope (moved move t)) (all_moved move ss)) (same-moved move injective t s) ∙ ap (λ b. same_scope t s || b) (among-moved t ss)

  lexical-moved : (a b : Declared) → IsMoved move a b → is_lexical b ≡ is_lexical a
  lexical-moved a b m = ap (λ w. stands_once w (from_taker b.by b.scopes)) m.by ∙ ap (stands_once a.by) (from_taker-moved move injective a b m) ∙ once-moved move a.by (from_taker a.by a.scopes)

  beside-moved : (a b c d : Declared) → IsMoved move a b → IsMoved move c d → stands_beside b d ≡ stands_beside a c
  beside-moved a b c d m n =
      ap (λ t. same_scope t (taker b) || same_scope t (group_of (from_taker b.by b.scopes))) (taker-moved move injective c d n)
      ∙ ap (λ t. same_scope (moved move (taker c)) t || same_scope (moved move (taker c)) (group_of (from_taker b.by b.scopes))) (taker-moved move injective a b m)
      ∙ ap (λ e. e || same_scope (moved move (taker c)) (group_of (from_taker b.by b.scopes))) (same-moved move injective (taker c) (taker a))
      ∙ ap (λ t. same_scope (taker c) (taker a) || same_scope (moved move (taker c)) t) (ap group_of (from_taker-moved move injective a b m) ∙ group_of-moved move (from_taker a.by a.scopes))
      ∙ ap (λ e. same_scope (taker c) (taker a) || e) (same-moved move injective (taker c) (group_of (from_taker a.by a.scopes)))

  passes-moved : (a b c d : Declared) → IsMoved move a b → IsMoved move c d → passes_scope_of b d ≡ passes_scope_of a c
  passes-moved a b c d m n =
      ap (λ w. is_var w && list_any (same_scope (taker d)) (take_while (λ scope. not (takes w scope)) b.scopes)) m.by
      ∙ ap (λ l. is_var a.by && list_any (same_scope (taker d)) (take_while (λ scope. not (takes a.by scope)) l)) m.scopes
      ∙ ap (λ t. is_var a.by && list_any (same_scope t) (take_while (λ scope. not (takes a.by scope)) (all_moved move a.scopes))) (taker-moved move injective c d n)
      ∙ ap (λ l. is_var a.by && list_any (same_scope (moved move (taker c))) l) (passing-moved move a.by a.scopes)
      ∙ ap (λ e. is_var a.by && e) (among-moved (taker c) (take_while (λ scope. not (takes a.by scope)) a.scopes))

  excludes-moved : (a b c d : Declared) → IsMoved move a b → IsMoved move c d → excludes b d ≡ excludes a c
  excludes-moved a b c d m n =
      ap (λ e. (e && stands_beside b d) || passes_scope_of b d) (lexical-moved a b m)
      ∙ ap (λ e. (is_lexical a && e) || passes_scope_of b d) (beside-moved a b c d m n)
      ∙ ap (λ e. (is_lexical a && stands_beside a c) || e) (passes-moved a b c d m n)

  module _ (os ps : List Occurrence) (one : AreIncreasing os) (two : AreIncreasing ps) where
    abbrev Became : Declared → Declared → Type 0
    Became d e = IsMoved move d e × IsPaired os ps d e

    pub places-moved : (a b c d : Declared) → Became a b → Became c d → (b.place == d.place) ≡ (a.place == c.place)
    places-moved a b c d m n =
        equal-by_order b.place d.place
        ∙ ap (λ e. not e && not (nat_lt d.place b.place)) (pairs-order os ps one two a b c d m.1 n.1)
        ∙ ap (λ e. not (nat_lt a.place c.place) && not e) (pairs-order os ps one two c d a b n.1 m.1)
        ∙ sym (equal-by_order a.place c.place)

    pub clash-moved : (a b c d : Declared) → Became a b → Became c d → clash b d ≡ clash a c
    clash-moved a b c d m n =
        ap (λ k. names_agree k d.name && not (b.place == d.place) && (excludes b d || excludes d b)) m.0.name
        ∙ ap (λ k. names_agree a.name k && not (b.place == d.place) && (excludes b d || excludes d b)) n.0.name
        ∙ ap (λ e. names_agree a.name c.name && not e && (excludes b d || excludes d b)) (places-moved a b c d m n)
        ∙ ap (λ e. names_agree a.name c.name && not (a.place == c.place) && (e || excludes d b)) (excludes-moved a b c d m.0 n.0)
        ∙ ap (λ e. names_agree a.name c.name && not (a.place == c.place) && (excludes a c || e)) (excludes-moved c d a b n.0 m.0)

    doubled-moved : (all every : List Declared) → AllZip Became all every → (d e : Declared) → Became d e → is_doubled every e ≡ is_doubled all d
    doubled-moved all every zip d e m = any-zip Became (λ a. nat_lt a.place d.place && clash a d) (λ b. nat_lt b.place e.place && clash b e) (λ a b n. ap (λ c. c && clash b e) (pairs-order os ps one two a b d e n.1 m.1) ∙ ap (λ c. nat_lt a.place d.place && c) (clash-moved a b d e n m)) all every zip

    none-moved : (all every : List Declared) → AllZip Became all every → ((d : Declared) → IsIn all d → is_doubled all d ≡ false) → find (is_doubled every) every ≡ None
    none-moved all every zip each = find-none_in (is_doubled every) every (λ e there. let from = zip-second Became all every zip e there in doubled-moved all every zip from.0 e from.2 ∙ each from.0 from.1)

-- The declarations of occurrences that have moved, with their places.

module _ (move : ℕ → ℕ) (os ps : List Occurrence) where
  abbrev Pair : Declared → Declared → Type 0
  Pair d e = IsMoved move d e × IsPaired os ps d e

  declarations-paired : (l ms : List Occurrence) (k : ℕ) → ((i : ℕ) → slice_get os (k + i) ≡ slice_get l i) → ((i : ℕ) → slice_get ps (k + i) ≡ slice_get ms i) → AllZip (HasMoved move) l ms → AllZip Pair (declarations BySymbol l) (declarations BySymbol ms)
  declarations-paired [] [] k behind other zip = tt
  declarations-paired [] (p ∷ ms) k behind other zip = absurd zip
  declarations-paired (o ∷ l) [] k behind other zip = absurd zip
  declarations-paired (o ∷ l) (p ∷ ms) k behind other zip = step (declarations-paired l ms (suc k) (λ i. let n : suc k + i ≡ k + suc i = omega arith in ap (slice_get os) n ∙ behind (suc i)) (λ i. let n : suc k + i ≡ k + suc i = omega arith in ap (slice_get ps) n ∙ other (suc i)) zip.1)
    where
      m : HasMoved move o p
      m = zip.0

      here : slice_get os k ≡ Some o
      here = let n : k ≡ k + 0 = omega arith in ap (slice_get os) n ∙ behind 0

      there : slice_get ps k ≡ Some p
      there = let n : k ≡ k + 0 = omega arith in ap (slice_get ps) n ∙ other 0

      step : AllZip Pair (declarations BySymbol l) (declarations BySymbol ms) → AllZip Pair (cons_option (declaration_of BySymbol Es o) (declarations BySymbol l)) (cons_option (declaration_of BySymbol Es p) (declarations BySymbol ms))
      step rest = subst (λ d. AllZip Pair (cons_option (declaration_of BySymbol Es o) (declarations BySymbol l)) (cons_option d (declarations BySymbol ms))) (sym its) (by_both (is_binding o.role) (way_of o.path))
        where
          its : declaration_of BySymbol Es p ≡ cond (is_binding o.role) (declared_by p.place (record { sym = o.sym; ctxt = None }) (all_moved move (scopes_around Es o.path)) (way_of o.path)) None
          its =
              ap (λ x. cond (is_binding p.role) (declared_by p.place (record { sym = x; ctxt = None }) (scopes_around Es p.path) (way_of p.path)) None) m.symbol
              ∙ ap (λ z. cond (is_binding p.role) (declared_by p.place (record { sym = o.sym; ctxt = None }) z (way_of p.path)) None) m.scopes
              ∙ ap (λ r. cond (is_binding r) (declared_by p.place (record { sym = o.sym; ctxt = None }) (all_moved move (scopes_around Es o.path)) (way_of p.path)) None) m.role
              ∙ ap (λ w. cond (is_binding o.role) (declared_by p.place (record { sym = o.sym; ctxt = None }) (all_moved move (scopes_around Es o.path)) w) None) m.way

          by_both : (b : Bool) (w : Option Way) → AllZip Pair (cons_option (cond b (declared_by o.place (record { sym = o.sym; ctxt = None }) (scopes_around Es o.path) w) None) (declarations BySymbol l)) (cons_option (cond b (declared_by p.place (record { sym = o.sym; ctxt = None }) (all_moved move (scopes_around Es o.path)) w) None) (declarations BySymbol ms))
          by_both false w = rest
          by_both true None = rest
          by_both true (Some way) = ((record { name = refl; by = refl; scopes = refl }, record { i = k; o = o; p = p; at = here; there = there; place = refl; other = refl }), rest)

-- a test that none passes
pub any-none : {A : Type 0} (p : A → Bool) (xs : List A) → ((x : A) → IsIn xs x → p x ≡ false) → list_any p xs ≡ false
any-none p [] fails = refl
any-none p (x ∷ xs) fails = ap (λ b. b || list_any p xs) (fails x (0, refl)) ∙ any-none p xs (λ y at. fails y (suc at.0, at.1))

-- a map that keeps places keeps their order
increasing-map : (f : Occurrence → Occurrence) → ((o : Occurrence) → (f o).place ≡ o.place) → (os : List Occurrence) → AreIncreasing os → AreIncreasing (map f os)
increasing-map f keeps os increasing i j o p at there less = by_old (slice_get os i) (slice_get os j) refl refl (sym (slice_get-map f os i) ∙ at) (sym (slice_get-map f os j) ∙ there)
  where
    by_old : (x y : Option Occurrence) → slice_get os i ≡ x → slice_get os j ≡ y → option_map f x ≡ Some o → option_map f y ≡ Some p → o.place < p.place
    by_old None y one two first second = absurd (none-some o first)
    by_old (Some a) None one two first second = absurd (none-some p second)
    by_old (Some a) (Some b) one two first second =
        let lower = increasing i j a b one two less in
        let place_o : o.place ≡ a.place = ap (λ (z : Occurrence). z.place) (sym (same_Some (f a) o first)) ∙ keeps a in
        let place_p : p.place ≡ b.place = ap (λ (z : Occurrence). z.place) (sym (same_Some (f b) p second)) ∙ keeps b in
        omega (arith, lower, place_o, place_p)

-- The whole.
pub none-doubled : (before after : List Item) → IsResolved Es before → HasNamesOnly before → ArePlain before → HasPlainKeys before → IsUndoubled before → IsRenamed before after → without_notes after ≡ cleared (with_idents before (idents after)) → first_doubled Es after ≡ None
none-doubled before after resolved names plain keys undoubled renamed same =
    sym (first_doubled-cleared Es after) ∙ ap (first_doubled Es) clear ∙ first_doubled-cleared Es (with_idents before (idents after))
    ∙ ap (λ l. find (is_doubled l) l) (declared-named BySymbol (with_idents before (idents after)) (rebuilt-named before (changes_to (idents before) (idents after)) (all-named before names) plain))
    ∙ none-moved move (place-injective before (changes_to (idents before) (idents after))) (renamed_occurrences before resolved names renamed.numbers renamed.right) (occurrences (with_idents before (idents after))) (increasing-map (renamed_occurrence renamed.numbers (declared ByContext Es before)) (λ o. refl) (occurrences before) (increasing-from start before)) (increasing-from start (with_idents before (idents after))) (renamed_all renamed.numbers (declared ByContext Es before)) (declarations BySymbol (occurrences (with_idents before (idents after)))) paired each
  where
    move : ℕ → ℕ
    move = place_in before (changes_to (idents before) (idents after))

    clear : cleared after ≡ cleared (with_idents before (idents after))
    clear = sym (cleared-notes after) ∙ ap cleared same ∙ cleared-twice (with_idents before (idents after))

    symbols_of : (l : List Item) → map (λ (o : Occurrence). o.sym) (occurrences (cleared l)) ≡ map (λ (o : Occurrence). o.sym) (occurrences l)
    symbols_of l = ap (map (λ (o : Occurrence). o.sym)) (occurrences-cleared l) ∙ symbols-cleared (occurrences l)

    symbols : map (λ (o : Occurrence). o.sym) (occurrences (with_idents before (idents after))) ≡ map (λ o. symbol_after renamed.numbers (denoted_of ByContext Es (declared ByContext Es before) o)) (occurrences before)
    symbols = sym (symbols_of (with_idents before (idents after))) ∙ ap (λ l. map (λ (o : Occurrence). o.sym) (occurrences l)) (sym clear) ∙ symbols_of after ∙ renamed.symbols

    zip : AllZip (HasMoved (place_in before (changes_to (idents before) (idents after)))) (map (renamed_occurrence renamed.numbers (declared ByContext Es before)) (occurrences before)) (occurrences (with_idents before (idents after)))
    zip = zip-symbols (place_in before (changes_to (idents before) (idents after))) (renamed_occurrence renamed.numbers (declared ByContext Es before)) (λ o. symbol_after renamed.numbers (denoted_of ByContext Es (declared ByContext Es before) o)) (λ o. refl) (occurrences before) (occurrences (with_idents before (idents after))) (rebuilt-zipped before (changes_to (idents before) (idents after))) symbols

    paired : AllZip (Pair (place_in before (changes_to (idents before) (idents after))) (map (renamed_occurrence renamed.numbers (declared ByContext Es before)) (occurrences before)) (occurrences (with_idents before (idents after)))) (renamed_all renamed.numbers (declared ByContext Es before)) (declarations BySymbol (occurrences (with_idents before (idents after))))
    paired = subst (λ l. AllZip (Pair (place_in before (changes_to (idents before) (idents after))) (map (renamed_occurrence renamed.numbers (declared ByContext Es before)) (occurrences before)) (occurrences (with_idents before (idents after)))) l (declarations BySymbol (occurrences (with_idents before (idents after))))) (all-renamed before resolved names renamed.numbers renamed.right) (declarations-paired (place_in before (changes_to (idents before) (idents after))) (map (renamed_occurrence renamed.numbers (declared ByContext Es before)) (occurrences before)) (occurrences (with_idents before (idents after))) (map (renamed_occurrence renamed.numbers (declared ByContext Es before)) (occurrences before)) (occurrences (with_idents before (idents after))) 0 (λ i. let n : 0 + i ≡ i = omega arith in ap (slice_get (map (renamed_occurrence renamed.numbers (declared ByContext Es before)) (occurrences before))) n) (λ i. let n : 0 + i ≡ i = omega arith in ap (slice_get (occurrences (with_idents before (idents after)))) n) zip)

    fine : (a d : Declared) → IsIn (declared ByContext Es before) a → IsIn (declared ByContext Es before) d → nat_lt a.place d.place ≡ true → clash a d ≡ false
    fine a d among at less = false_from_ne_true (clash a d) (λ e. false≢true (sym (find-failed (is_doubled (declared ByContext Es before)) (declared ByContext Es before) undoubled at.0 d at.1) ∙ any-here (λ earlier. nat_lt earlier.place d.place && clash earlier d) (declared ByContext Es before) a among (and_from (nat_lt a.place d.place) (clash a d) less e)))

    each : (d : Declared) → IsIn (renamed_all renamed.numbers (declared ByContext Es before)) d → is_doubled (renamed_all renamed.numbers (declared ByContext Es before)) d ≡ false
    each d at =
        let it = map-in (renamed_declared renamed.numbers (declared ByContext Es before)) (declared ByContext Es before) d at in
        any-none (λ earlier. nat_lt earlier.place d.place && clash earlier d) (renamed_all renamed.numbers (declared ByContext Es before)) (λ a among.
        let its = map-in (renamed_declared renamed.numbers (declared ByContext Es before)) (declared ByContext Es before) a among in
        ap (λ z. nat_lt z.place d.place && clash z d) its.2 ∙ ap (λ z. nat_lt its.0.place z.place && clash (renamed_declared renamed.numbers (declared ByContext Es before) its.0) z) it.2
        ∙ by_less its.0 it.0 its.1 it.1 (nat_lt its.0.place it.0.place) refl)
      where
        by_less : (a d : Declared) → IsIn (declared ByContext Es before) a → IsIn (declared ByContext Es before) d → (b : Bool) → nat_lt a.place d.place ≡ b → (b && clash (renamed_declared renamed.numbers (declared ByContext Es before) a) (renamed_declared renamed.numbers (declared ByContext Es before) d)) ≡ false
        by_less a d among at false less = refl
        by_less a d among at true less = never-clash (table_in start before) renamed.numbers (occurrences before) (declared ByContext Es before) (setting before names renamed.numbers resolved renamed.right) (occurrences-grouped before keys) a d among at (fine a d among at less)

-- ---- again

-- Keys.

keys-append : (s : Spot) (xs ys : List Item) → HasNoKeys s xs → HasNoKeys (fold past s xs) ys → HasNoKeys s (xs ++ ys)
keys-append s [] ys one two = two
keys-append s (h.Open field head ∷ xs) ys one two = (one.0, keys-append (past s (h.Open field head)) xs ys one.1 two)
keys-append s (h.Ident field x c role ∷ xs) ys one two = keys-append (past s (h.Ident field x c role)) xs ys one two
keys-append s (h.Hole field ∷ xs) ys one two = keys-append (past s (h.Hole field)) xs ys one two
keys-append s (h.Close ∷ xs) ys one two = keys-append (past s h.Close) xs ys one two

module _ (tree : List Item) (changes : List Change) (move : ℕ → ℕ) where
  key-moved : {p q : List Around} → PathMoved tree changes move p q → is_key q ≡ is_key p
  key-moved Outside = refl
  key-moved (Kept head begins place field e stays m) = refl
  key-moved (Spelled begins field place other e d m) = refl
  key-moved (WithDefault begins field place other inner third e d m) = refl

  begins-moved : (head : Head) {p q : List Around} → PathMoved tree changes move p q → begins_key head q ≡ begins_key head p
  begins-moved h.BlockStmt m = key-moved m
  begins-moved _ m = refl

  if-keys : (s : Spot) (b : Bool) (one two : List Item) → HasNoKeys s one → HasNoKeys s two → HasNoKeys s (if b then one else two)
  if-keys s true one two a b = a
  if-keys s false one two a b = b

  front-keys : (s : Spot) (field : ℕ) (x : Text) (d : Bool) → HasNoKeys s (pattern_front field x d)
  front-keys s field x true = (refl, (refl, (refl, tt)))
  front-keys s field x false = (refl, (refl, tt))

  pair-keys : (s : Spot) (b : Bool) (field : ℕ) (x y : Text) (e : ℕ) (role : Role) → HasNoKeys s (h.Open field h.KeyValueProp ∷ ((if b then h.Open 0 h.ComputedPropName ∷ h.Open 0 (h.Str x None) ∷ h.Close ∷ h.Close ∷ [] else plain_key x) ++ h.Ident 1 y e role ∷ h.Close ∷ []))
  pair-keys s true field x y e role = (refl, (refl, (refl, tt)))
  pair-keys s false field x y e role = (refl, (refl, tt))

  occurrence-keys : (s : Spot) (field : ℕ) (around : List Around) (is_last : Bool) (x : Text) (c : ℕ) (role : Role) (change : Option Change) → HasNoKeys s (new_occurrence field around is_last x c role change)
  occurrence-keys s field around is_last x c role None = tt
  occurrence-keys s field [] is_last x c role (Some change) = tt
  occurrence-keys s field (node ∷ outer) is_last x c role (Some change) =
      if-keys s change.is_spelled_out (spelled_out field node.head is_last x role change.ident) (h.Ident field change.ident.0 change.ident.1 role ∷ [])
      (if-keys s (is_object node.head) (h.Open field h.KeyValueProp ∷ (key_in_object x ++ h.Ident 1 change.ident.0 change.ident.1 role ∷ h.Close ∷ [])) (if is_specifier node.head && is_last then h.Ident field change.ident.0 change.ident.1 role ∷ h.Ident 1 x 0 TheVariants.Word ∷ [] else h.Ident field change.ident.0 change.ident.1 role ∷ [])
      (pair-keys s (bytes_eq x (codes "__proto__")) field x change.ident.0 change.ident.1 role)
      (if-keys s (is_specifier node.head && is_last) (h.Ident field change.ident.0 change.ident.1 role ∷ h.Ident 1 x 0 TheVariants.Word ∷ []) (h.Ident field change.ident.0 change.ident.1 role ∷ []) tt tt))
      tt

  end-keys : (s : Spot) (around : List Around) → HasNoKeys s (new_end tree changes around)
  end-keys s [] = tt
  end-keys s (node ∷ outer) = if-keys s (is_shorthand_in_pattern node.head && has_default tree node.begins && is_key_spelled_out tree changes node.begins) (h.Close ∷ h.Close ∷ []) (h.Close ∷ []) tt tt

  other-keys : (spot other : Spot) (field : ℕ) (head : Head) → is_shorthand_in_pattern head ≡ false → Aligned tree changes move spot.path other.path → begins_key head (in_field field spot.path) ≡ false → HasNoKeys other (new_begin tree changes spot.place field (in_field field spot.path) head)
  other-keys spot other field head e at plain = subst (HasNoKeys other) (sym (begin-other tree changes move spot.place field spot.path head e)) (begins-moved head (subst (PathMoved tree changes move (in_field field spot.path)) (in_field-twice (child_field tree changes move field (in_field field spot.path)) field other.path) (child_field-moved tree changes move field (at field))) ∙ plain, tt)

  -- whether an element begins a key
  keys-item : (spot other : Spot) (x : Item) (rest : List Item) → Aligned tree changes move spot.path other.path → HasNoKeys spot (x ∷ rest) → HasNoKeys other (new_item tree changes spot.place (path_to spot.path x) x) × HasNoKeys (past spot x) rest
  keys-item spot other (h.Open field h.AssignPatProp) rest at plain = (if-keys other (is_key_spelled_out tree changes spot.place) (pattern_front field (symbol_of (slice_get tree (spot.place + 2))) (has_default tree spot.place)) (h.Open field h.AssignPatProp ∷ []) (front-keys other field (symbol_of (slice_get tree (spot.place + 2))) (has_default tree spot.place)) (refl, tt), plain.1)
  keys-item spot other (h.Open field head) rest at plain = (other-keys spot other field head refl at plain.0, plain.1)
  keys-item spot other (h.Ident field x c TheVariants.Word) rest at plain = (tt, plain)
  keys-item spot other (h.Ident field x c TheVariants.Binding) rest at plain = (occurrence-keys other field (in_field field spot.path) (ends_at (slice_get tree (suc spot.place))) x c TheVariants.Binding (change_at tree changes spot.place), plain)
  keys-item spot other (h.Ident field x c TheVariants.Reference) rest at plain = (occurrence-keys other field (in_field field spot.path) (ends_at (slice_get tree (suc spot.place))) x c TheVariants.Reference (change_at tree changes spot.place), plain)
  keys-item spot other (h.Hole field) rest at plain = (tt, plain)
  keys-item spot other h.Close rest at plain = (end-keys other spot.path, plain)

  keys-from : (rest : List Item) (spot other : Spot) → Aligned tree changes move spot.path other.path → ((k : ℕ) → move (spot.place + k) ≡ other.place + offset tree changes spot rest k) → HasNoKeys spot rest → HasNoKeys other (rebuilt_at tree changes spot rest)
  keys-from [] spot other at placed plain = tt
  keys-from (x ∷ rest) spot other at placed plain =
      let made : List Item = new_item tree changes spot.place (path_to spot.path x) x in
      let zero_is : spot.place + 0 ≡ spot.place = omega arith in
      let placed_here : move spot.place ≡ other.place + 0 = ap move (sym zero_is) ∙ placed 0 in
      let here : other.place ≡ move spot.place = omega (arith, placed_here) in
      let becomes = becomes-item tree changes move spot other x at here in
      let behind = fold-place other made in
      let keys = keys-item spot other x rest at plain in
      keys-append other made (rebuilt_at tree changes (past spot x) rest) keys.0 (keys-from rest (past spot x) (fold past other made) becomes.aligned (λ k.
      let n : spot.place + 1 + k ≡ spot.place + suc k = omega arith in
      let moves : move (spot.place + 1 + k) ≡ other.place + (length made + offset tree changes (past spot x) rest k) = ap move n ∙ placed (suc k) in
      omega (arith, moves, behind)) keys.1)

pub rebuilt-keys : (tree : List Item) (changes : List Change) → HasPlainKeys tree → HasPlainKeys (rebuilt tree changes)
rebuilt-keys tree changes plain = subst HasPlainKeys (sym (rebuilt-start tree changes)) (keys-from tree changes (place_in tree changes) tree start start (λ f. Outside) (λ k. let n : 0 + k ≡ k = omega arith in let m : 0 + place_in tree changes k ≡ place_in tree changes k = omega arith in ap (place_in tree changes) n ∙ sym m) plain)

-- Doubled names.

module _ (call : Calling) (before after : List Item) (names : HasNamesOnly before) (plain : ArePlain before) (faithful : IsFaithful call (occurrences before) (declared ByContext Es before)) (same : IsRebuilt before after) (calls : idents after ≡ map (λ (o : Occurrence). call o.sym o.ctxt) (occurrences before)) where
  abbrev move : ℕ → ℕ
  move = place_in before (changes_to (idents before) (idents after))

  abbrev injective : (a b : ℕ) → place_in before (changes_to (idents before) (idents after)) a ≡ place_in before (changes_to (idents before) (idents after)) b → a ≡ b
  injective = place-injective before (changes_to (idents before) (idents after))

  abbrev os : List Occurrence
  os = occurrences before

  abbrev ps : List Occurrence
  ps = occurrences after

  abbrev all : List Declared
  all = declared ByContext Es before

  abbrev every : List Declared
  every = declared ByContext Es after

  abbrev BecameAgain : Declared → Declared → Type 0
  BecameAgain d e = IsRecalled call move os d e × IsPaired os ps d e

  zip_became : AllZip BecameAgain all every
  zip_became = became call before after names plain faithful same calls

  zip_recalled : AllZip (IsRecalled call move os) all every
  zip_recalled = zip-map BecameAgain (IsRecalled call move os) (λ d e m. m.0) all every zip_became

  paired-held : (d e : Declared) → IsPaired os ps d e → IsPaired os ps (held call move injective os all every zip_recalled faithful d e) e
  paired-held d e m = record { i = m.i; o = m.o; p = m.p; at = m.at; there = m.there; place = m.place; other = m.other }

  clash-recalled : (a b c d : Declared) → BecameAgain a b → BecameAgain c d → clash b d ≡ clash a c
  clash-recalled a b c d m n =
      clash-moved move injective os ps (increasing-from start before) (increasing-from start after) (held call move injective os all every zip_recalled faithful a b) b (held call move injective os all every zip_recalled faithful c d) d (held-moved call move injective os all every zip_recalled faithful a b m.0, paired-held a b m.1) (held-moved call move injective os all every zip_recalled faithful c d n.0, paired-held c d n.1)
      ∙ ap (λ k. names_agree k d.name && not (a.place == c.place) && (excludes a c || excludes c a)) m.0.name
      ∙ ap (λ k. names_agree (recalled call a.name) k && not (a.place == c.place) && (excludes a c || excludes c a)) n.0.name
      ∙ ap (λ e. e && not (a.place == c.place) && (excludes a c || excludes c a)) (agree-recalled call move injective os all every zip_recalled faithful a.name c.name m.0.of n.0.of)

  pub faithful-undoubled : IsUndoubled before → IsUndoubled after
  faithful-undoubled undoubled = find-none_in (is_doubled every) every (λ e there.
      let from = zip-second BecameAgain all every zip_became e there in
      any-zip BecameAgain (λ a. nat_lt a.place from.0.place && clash a from.0) (λ b. nat_lt b.place e.place && clash b e) (λ a b n. ap (λ c. c && clash b e) (pairs-order os ps (increasing-from start before) (increasing-from start after) a b from.0 e n.1 from.2.1) ∙ ap (λ c. nat_lt a.place from.0.place && c) (clash-recalled a b from.0 e n from.2)) all every zip_became
      ∙ find-failed (is_doubled all) all undoubled from.1.0 from.0 from.1.1)

  pub faithful-keys : HasPlainKeys before → HasPlainKeys after
  faithful-keys keys = subst HasPlainKeys (sym same) (rebuilt-keys before (changes_to (idents before) (idents after)) keys)
