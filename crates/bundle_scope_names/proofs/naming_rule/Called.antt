-- The numbers of a tree whose identifiers were called otherwise, as keywords are: they are right exactly if they are by the
-- symbols that the names of the tree before get.
use Rattle.std.proofs.Common.{◌≡◌, ◌<◌, ◌≤◌, ℕ, zero, suc, ◌+◌, Bool, true, false, cond, List, [], ◌∷◌, Option, Some, None, map, slice_get, refl, ap, sym, ◌∙◌, subst, arith}
use Rattle.std.specs.List.{cons_option, AllZip}
use Rattle.std.proofs.lemmas.Option.{none-some, same_Some}
use Rattle.bundle_syntax.specs.declared.piece.Role.TheVariants as r
use Rattle.bundle_syntax.specs.Item as h
use Rattle.bundle_syntax.specs.Item.{Item}
use Rattle.bundle_rules.specs.Places.{Spot, past, start, path_to, Occurrence, occurrence_of, occurrences_from, occurrences, is_binding}
use Rattle.bundle_rules.specs.Scopes.{Es, scopes_around}
use Rattle.bundle_rules.specs.Declarations.{Way, ByContext, Declared, declared_by, declaration_of, declared, way_of}
use Rattle.bundle_rules.specs.Renaming.{Numbering, IsNumbering}
use Rattle.bundle_rules.specs.Idents.{idents}
use Rattle.bundle_rules.specs.Rebuilds.{Change, changes_to}
use Rattle.bundle_rules.specs.Renamed.{HasNamesOnly, IsRebuilt}
use Rattle.bundle_scope_names.proofs.naming_rule.Tables.{IsIn, in-cons, declarations, declared-named, all-are}
use Rattle.bundle_scope_names.proofs.naming_rule.Clash.{moved, all_moved, are-numbers}
use Rattle.bundle_scope_names.proofs.naming_rule.Rebuilt.{offset, place_in, place-injective, item-filled, filled-length, ArePlain, named_after, zip}
use Rattle.bundle_scope_names.proofs.naming_rule.Transfer.{Calling, recalled, named, Recalls, IsFaithful, IsRecalled, zip-second, AreIncreasing, IsPaired, named_right_by, right-same}

-- Occurrences stand one behind the other.

pub occurrence-place : (s : Spot) (item : Item) (o : Occurrence) → occurrence_of s item ≡ Some o → o.place ≡ s.place
occurrence-place s (h.Open field head) o e = absurd (none-some o e)
occurrence-place s (h.Ident field x c r.Binding) o e = sym (ap (λ (x : Occurrence). x.place) (same_Some _ o e))
occurrence-place s (h.Ident field x c r.Reference) o e = sym (ap (λ (x : Occurrence). x.place) (same_Some _ o e))
occurrence-place s (h.Ident field x c r.Word) o e = absurd (none-some o e)
occurrence-place s (h.Hole field) o e = absurd (none-some o e)
occurrence-place s h.Close o e = absurd (none-some o e)

places-from : (s : Spot) (items : List Item) (o : Occurrence) → IsIn (occurrences_from s items) o → s.place ≤ o.place
places-from s [] o at = absurd (none-some o at.1)
places-from s (x ∷ rest) o at = in-cons (λ (o : Occurrence). s.place ≤ o.place) (occurrence_of s x) (occurrences_from (past s x) rest) (λ o e. let same = occurrence-place s x o e in omega (arith, same)) (λ o at. let later = places-from (past s x) rest o at in omega (arith, later)) o at

pub increasing-from : (s : Spot) (items : List Item) → AreIncreasing (occurrences_from s items)
increasing-from s [] = λ i j o p at there less. absurd (none-some o at)
increasing-from s (x ∷ rest) = by_first (occurrence_of s x) refl (increasing-from (past s x) rest)
  where
    by_first : (first : Option Occurrence) → occurrence_of s x ≡ first → AreIncreasing (occurrences_from (past s x) rest) → AreIncreasing (cons_option first (occurrences_from (past s x) rest))
    by_first None e ih i j o p at there less = ih i j o p at there less
    by_first (Some f) e ih zero zero o p at there less = absurd (omega (arith, less))
    by_first (Some f) e ih zero (suc j) o p at there less =
        let here = occurrence-place s x f e in
        let same : f ≡ o = same_Some f o at in
        let places : o.place ≡ s.place = ap (λ (q : Occurrence). q.place) (sym same) ∙ here in
        let later = places-from (past s x) rest p (j, there) in
        omega (arith, places, later)
    by_first (Some f) e ih (suc i) zero o p at there less = absurd (omega (arith, less))
    by_first (Some f) e ih (suc i) (suc j) o p at there less = ih i j o p at there (omega (arith, less))

-- Places go up.

offset-monotone : (tree : List Item) (changes : List Change) (spot : Spot) (rest : List Item) (a b : ℕ) → a < b → offset tree changes spot rest a < offset tree changes spot rest b
offset-monotone tree changes spot [] a b less = less
offset-monotone tree changes spot (x ∷ rest) zero zero less = absurd (omega (arith, less))
offset-monotone tree changes spot (x ∷ rest) zero (suc b) less = let some = filled-length _ (item-filled tree changes spot.place (path_to spot.path x) x) in omega (arith, some)
offset-monotone tree changes spot (x ∷ rest) (suc a) zero less = absurd (omega (arith, less))
offset-monotone tree changes spot (x ∷ rest) (suc a) (suc b) less = let lower : a < b = omega (arith, less) in let up = offset-monotone tree changes (past spot x) rest a b lower in omega (arith, up)

-- Declarations and what they became.

module _ (call : Calling) (move : ℕ → ℕ) (os ps : List Occurrence) where
  declarations-became : (l ms : List Occurrence) (k : ℕ) → ((i : ℕ) → slice_get os (k + i) ≡ slice_get l i) → ((i : ℕ) → slice_get ps (k + i) ≡ slice_get ms i) → AllZip (Recalls call move) l ms → AllZip (λ d e. IsRecalled call move os d e × IsPaired os ps d e) (declarations ByContext l) (declarations ByContext ms)
  declarations-became [] [] k behind other zip = tt
  declarations-became [] (p ∷ ms) k behind other zip = absurd zip
  declarations-became (o ∷ l) [] k behind other zip = absurd zip
  declarations-became (o ∷ l) (p ∷ ms) k behind other zip = step (declarations-became l ms (suc k) (λ i. let n : suc k + i ≡ k + suc i = omega arith in ap (slice_get os) n ∙ behind (suc i)) (λ i. let n : suc k + i ≡ k + suc i = omega arith in ap (slice_get ps) n ∙ other (suc i)) zip.1)
    where
      m : Recalls call move o p
      m = zip.0

      here : slice_get os k ≡ Some o
      here = let n : k ≡ k + 0 = omega arith in ap (slice_get os) n ∙ behind 0

      there : slice_get ps k ≡ Some p
      there = let n : k ≡ k + 0 = omega arith in ap (slice_get ps) n ∙ other 0

      step : AllZip (λ d e. IsRecalled call move os d e × IsPaired os ps d e) (declarations ByContext l) (declarations ByContext ms) → AllZip (λ d e. IsRecalled call move os d e × IsPaired os ps d e) (cons_option (declaration_of ByContext Es o) (declarations ByContext l)) (cons_option (declaration_of ByContext Es p) (declarations ByContext ms))
      step rest = subst (λ d. AllZip (λ d e. IsRecalled call move os d e × IsPaired os ps d e) (cons_option (declaration_of ByContext Es o) (declarations ByContext l)) (cons_option d (declarations ByContext ms))) (sym its) (by_both (is_binding o.role) (way_of o.path))
        where
          its : declaration_of ByContext Es p ≡ cond (is_binding o.role) (declared_by p.place (recalled call (named o)) (all_moved move (scopes_around Es o.path)) (way_of o.path)) None
          its =
              ap (λ x. cond (is_binding p.role) (declared_by p.place (record { sym = x; ctxt = Some p.ctxt }) (scopes_around Es p.path) (way_of p.path)) None) m.symbol
              ∙ ap (λ c. cond (is_binding p.role) (declared_by p.place (record { sym = (call o.sym o.ctxt).0; ctxt = Some c }) (scopes_around Es p.path) (way_of p.path)) None) m.context
              ∙ ap (λ z. cond (is_binding p.role) (declared_by p.place (recalled call (named o)) z (way_of p.path)) None) m.scopes
              ∙ ap (λ r. cond (is_binding r) (declared_by p.place (recalled call (named o)) (all_moved move (scopes_around Es o.path)) (way_of p.path)) None) m.role
              ∙ ap (λ w. cond (is_binding o.role) (declared_by p.place (recalled call (named o)) (all_moved move (scopes_around Es o.path)) w) None) m.way

          by_both : (b : Bool) (w : Option Way) → AllZip (λ d e. IsRecalled call move os d e × IsPaired os ps d e) (cons_option (cond b (declared_by o.place (named o) (scopes_around Es o.path) w) None) (declarations ByContext l)) (cons_option (cond b (declared_by p.place (recalled call (named o)) (all_moved move (scopes_around Es o.path)) w) None) (declarations ByContext ms))
          by_both false w = rest
          by_both true None = rest
          by_both true (Some way) = ((record { of = (o, (k, here), refl); name = refl; by = refl; scopes = refl }, record { i = k; o = o; p = p; at = here; there = there; place = refl; other = refl }), rest)

-- The whole.
module _ (call : Calling) (before after : List Item) (names : HasNamesOnly before) (plain : ArePlain before) (faithful : IsFaithful call (occurrences before) (declared ByContext Es before)) (same : IsRebuilt before after) (calls : idents after ≡ map (λ (o : Occurrence). call o.sym o.ctxt) (occurrences before)) where
  abbrev move : ℕ → ℕ
  move = place_in before (changes_to (idents before) (idents after))

  pub became : AllZip (λ d e. IsRecalled call move (occurrences before) d e × IsPaired (occurrences before) (occurrences after) d e) (declared ByContext Es before) (declared ByContext Es after)
  became = subst (λ l. AllZip (λ d e. IsRecalled call move (occurrences before) d e × IsPaired (occurrences before) (occurrences after) d e) l (declared ByContext Es after)) (sym (all-are before names)) (subst (AllZip (λ d e. IsRecalled call move (occurrences before) d e × IsPaired (occurrences before) (occurrences after) d e) (declarations ByContext (occurrences before))) (sym (declared-named ByContext after (named_after call before after names plain faithful same calls))) (declarations-became call move (occurrences before) (occurrences after) (occurrences before) (occurrences after) 0 (λ i. let n : 0 + i ≡ i = omega arith in ap (slice_get (occurrences before)) n) (λ i. let n : 0 + i ≡ i = omega arith in ap (slice_get (occurrences after)) n) (zip call before after names plain faithful same calls)))

  -- numbers of the tree afterwards are right, if they are by the symbols that the names of the tree before get
  pub called-numbers : (later : Numbering) → ((d : Declared) → IsIn (declared ByContext Es before) d → named_right_by (λ t n. later (moved move t) (recalled call n)) call (declared ByContext Es before) (occurrences before) d ≡ true) → IsNumbering after later
  called-numbers later right = are-numbers after later (λ e there.
      let from = zip-second (λ d e. IsRecalled call move (occurrences before) d e × IsPaired (occurrences before) (occurrences after) d e) (declared ByContext Es before) (declared ByContext Es after) became e there in
      right-same call move (place-injective before (changes_to (idents before) (idents after))) (offset-monotone before (changes_to (idents before) (idents after)) start before) (occurrences before) (occurrences after) (declared ByContext Es before) (declared ByContext Es after) (zip call before after names plain faithful same calls) became faithful (increasing-from start before) (increasing-from start after) later from.0 e from.1 from.2 ∙ right from.0 from.1)
