-- Parts of patterns, and the best of them.
use Rattle.std.proofs.Common.{◌≡◌, ◌≢◌, inl, inr, ℕ, suc, ◌+◌, ◌-◌, ◌<◌, ◌≤◌, ◌||◌, Bool, true, false, cond, not, List, [], ◌∷◌, ◌++◌, Option, Some, None, Contains, MatchOption, length, take, drop, slice_get, refl, sym, ap, subst, ◌∙◌, arith}
use Rattle.std.specs.List.{after_first, before_first, list_any, position_or_len}
use Rattle.std.specs.Option.{option_map}
use Rattle.std.proofs.lemmas.Bool.{cases_lt, eqb-true}
use Rattle.std.proofs.lemmas.Grind.{common_steps}
use Rattle.std.proofs.lemmas.Option.{none-some, same_Some}
use Rattle.std.specs.List.{insert}
use Rattle.std.proofs.lemmas.List.Edits.{get_or-insert_above, get_or-insert_below, length-insert}
use Rattle.gutsirava_package.specs.Patterns.{is_star, parts, starred, Fits, FitsNowhere, IsAt, IsHitBy, NoneBy}
use Rattle.gutsirava_package.specs.declared.patterns.PatternMatch.{PatternMatch}

parts-then : (byte : ℕ) (bytes : List ℕ) → is_star byte ≡ true → parts (byte ∷ bytes) ≡ cond (list_any is_star bytes) None (Some ([], bytes))
parts-then byte bytes is = ap (λ b. cond b (cond (list_any is_star bytes) None (Some ([], bytes))) (option_map (λ (own : List ℕ × List ℕ). (byte ∷ own.0, own.1)) (parts bytes))) is

parts-else : (byte : ℕ) (bytes : List ℕ) → is_star byte ≡ false → parts (byte ∷ bytes) ≡ option_map (λ (own : List ℕ × List ℕ). (byte ∷ own.0, own.1)) (parts bytes)
parts-else byte bytes is = ap (λ b. cond b (cond (list_any is_star bytes) None (Some ([], bytes))) (option_map (λ (own : List ℕ × List ℕ). (byte ∷ own.0, own.1)) (parts bytes))) is

-- pairs are the same by their parts
pub same_pair : {A B : Type 0} (a c : A) (b d : B) → ◌≡◌ {A = Option (A × B)} (Some (a, b)) (Some (c, d)) → (a ≡ c) × (b ≡ d)
same_pair a c b d is = let e = same_Some (a, b) (c, d) is in (ap (λ p. p.0) e, ap (λ p. p.1) e)

-- a key is what stands before its `*`, that, and what stands behind it
pub parts-key : (key base trailer : List ℕ) → parts key ≡ Some (base, trailer) → key ≡ base ++ (42 ∷ trailer)
parts-key [] base trailer are = absurd (none-some (base, trailer) are)
parts-key (byte ∷ bytes) base trailer are = by (is_star byte) refl (list_any is_star bytes) refl (parts bytes) refl (λ b t its. parts-key bytes b t its)
  where
    by : (b : Bool) → is_star byte ≡ b → (more : Bool) → list_any is_star bytes ≡ more → (o : Option (List ℕ × List ℕ)) → parts bytes ≡ o
        → ((b t : List ℕ) → parts bytes ≡ Some (b, t) → bytes ≡ b ++ (42 ∷ t)) → byte ∷ bytes ≡ base ++ (42 ∷ trailer)
    by true is true more o its rest = absurd (none-some (base, trailer) (sym (parts-then byte bytes is ∙ ap (λ b. cond b None (Some ([], bytes))) more) ∙ are))
    by true is false more o its rest =
        let same = same_pair [] base bytes trailer (sym (parts-then byte bytes is ∙ ap (λ b. cond b None (Some ([], bytes))) more) ∙ are) in
        (λ i. eqb-true byte 42 is i ∷ bytes) ∙ (λ i. same.0 i ++ (42 ∷ same.1 i))
    by false is m more None its rest =
        absurd (none-some (base, trailer) (sym (parts-else byte bytes is ∙ ap (option_map (λ (own : List ℕ × List ℕ). (byte ∷ own.0, own.1))) its) ∙ are))
    by false is m more (Some own) its rest =
        let same = same_pair (byte ∷ own.0) base own.1 trailer (sym (parts-else byte bytes is ∙ ap (option_map (λ (own : List ℕ × List ℕ). (byte ∷ own.0, own.1))) its) ∙ are) in
        ap (λ l. byte ∷ l) (rest own.0 own.1 its) ∙ (λ i. same.0 i ++ (42 ∷ same.1 i))

has_star : (front back : List ℕ) → list_any is_star (front ++ (42 ∷ back)) ≡ true
has_star [] back = refl
has_star (byte ∷ front) back = ap (λ b. is_star byte || b) (has_star front back) ∙ by (is_star byte)
  where
    by : (b : Bool) → (b || true) ≡ true
    by true = refl
    by false = refl

-- a text that is put together round a `*` has these parts, if it has any
pub parts-starred : (front back base trailer : List ℕ) → parts (front ++ (42 ∷ back)) ≡ Some (base, trailer) → (base ≡ front) × (trailer ≡ back)
parts-starred [] back base trailer are = by (list_any is_star back) refl
  where
    by : (more : Bool) → list_any is_star back ≡ more → (base ≡ []) × (trailer ≡ back)
    by true more = absurd (none-some (base, trailer) (sym (ap (λ b. cond b None (Some ([], back))) more) ∙ are))
    by false more = let same = same_pair [] base back trailer (sym (ap (λ b. cond b None (Some ([], back))) more) ∙ are) in (sym same.0, sym same.1)
parts-starred (byte ∷ front) back base trailer are = by (is_star byte) refl (parts (front ++ (42 ∷ back))) refl (λ b t its. parts-starred front back b t its)
  where
    by : (b : Bool) → is_star byte ≡ b → (o : Option (List ℕ × List ℕ)) → parts (front ++ (42 ∷ back)) ≡ o
        → ((b t : List ℕ) → parts (front ++ (42 ∷ back)) ≡ Some (b, t) → (b ≡ front) × (t ≡ back)) → (base ≡ byte ∷ front) × (trailer ≡ back)
    by true is o its rest =
        absurd (none-some (base, trailer) (sym (parts-then byte (front ++ (42 ∷ back)) is ∙ ap (λ b. cond b None (Some ([], front ++ (42 ∷ back)))) (has_star front back)) ∙ are))
    by false is None its rest =
        absurd (none-some (base, trailer) (sym (parts-else byte (front ++ (42 ∷ back)) is ∙ ap (option_map (λ (own : List ℕ × List ℕ). (byte ∷ own.0, own.1))) its) ∙ are))
    by false is (Some own) its rest =
        let same = same_pair (byte ∷ own.0) base own.1 trailer (sym (parts-else byte (front ++ (42 ∷ back)) is ∙ ap (option_map (λ (own : List ℕ × List ℕ). (byte ∷ own.0, own.1))) its) ∙ are) in
        let own_is = rest own.0 own.1 its in
        (sym same.0 ∙ ap (λ l. byte ∷ l) own_is.0, sym same.1 ∙ own_is.1)

take_front : (xs ys : List ℕ) → take (length xs) (xs ++ ys) ≡ xs
take_front [] ys = refl
take_front (x ∷ xs) ys = ap (λ l. x ∷ l) (take_front xs ys)

drop_front : (xs ys : List ℕ) → drop (length xs) (xs ++ ys) ≡ ys
drop_front [] ys = refl
drop_front (x ∷ xs) ys = drop_front xs ys

-- what stands before the `*` of a key that fits a text stands at its front
pub base-fits : (key star text : List ℕ) (are : Fits key star text) → take (length are.base) text ≡ are.base
base-fits key star text are = ap (take (length are.base)) are.text_is ∙ take_front are.base (star ++ are.trailer)

-- what a text is put together of where a key fits it
pub starred-fits : (key star text : List ℕ) (are : Fits key star text) → starred text (length are.base) (length are.trailer) ≡ key
starred-fits key star text are =
    let base = are.base in
    let trailer = are.trailer in
    let front = base-fits key star text are in
    let whole : text ≡ (base ++ star) ++ trailer = are.text_is ∙ grind (arith, common_steps) in
    let behind : length text - length trailer ≡ length (base ++ star) = grind (arith, common_steps, ap length whole) in
    let back : drop (length text - length trailer) text ≡ trailer = (λ i. drop (behind i) (whole i)) ∙ drop_front (base ++ star) trailer in
    (λ i. front i ++ (42 ∷ back i)) ∙ sym are.key_is

one_more : (n : ℕ) → 1 + n ≡ suc n
one_more n = omega arith

then_one : (n : ℕ) → (1 + n) + 1 ≡ suc (n + 1)
then_one n = omega arith

-- where a search finds no `*` there are no parts
pub parts-none : (key : List ℕ) → position_or_len is_star key ≡ length key → parts key ≡ None
parts-none [] none = refl
parts-none (byte ∷ bytes) none = by (is_star byte) refl (parts-none bytes)
  where
    at : Bool → ℕ
    at b = cond (not b) (1 + position_or_len is_star bytes) 0

    by : (b : Bool) → is_star byte ≡ b → (position_or_len is_star bytes ≡ length bytes → parts bytes ≡ None) → parts (byte ∷ bytes) ≡ None
    by true is rest = let e : 0 ≡ length (byte ∷ bytes) = sym (ap (λ b. cond (not b) (1 + position_or_len is_star bytes) 0) is) ∙ none in absurd (grind (arith, common_steps, e))
    by false is rest =
        let e : 1 + position_or_len is_star bytes ≡ length (byte ∷ bytes) = sym (ap (λ b. cond (not b) (1 + position_or_len is_star bytes) 0) is) ∙ none in
        parts-else byte bytes is ∙ ap (option_map (λ (own : List ℕ × List ℕ). (byte ∷ own.0, own.1))) (rest (grind (arith, common_steps, e)))

-- and where it finds one they stand round the first, if no other stands behind it
pub parts-some : (key : List ℕ) → position_or_len is_star key < length key
    → parts key ≡ cond (list_any is_star (after_first is_star key)) None (Some (before_first is_star key, after_first is_star key))
parts-some [] some = absurd (grind (arith, common_steps, some))
parts-some (byte ∷ bytes) some = by (is_star byte) refl (parts-some bytes)
  where
    n : ℕ
    n = position_or_len is_star bytes

    both : List ℕ → List ℕ → Option (List ℕ × List ℕ)
    both front back = cond (list_any is_star back) None (Some (front, back))

    round : ℕ → Option (List ℕ × List ℕ)
    round m = both (take m (byte ∷ bytes)) (drop (m + 1) (byte ∷ bytes))

    by : (b : Bool) → is_star byte ≡ b
        → (position_or_len is_star bytes < length bytes → parts bytes ≡ cond (list_any is_star (after_first is_star bytes)) None (Some (before_first is_star bytes, after_first is_star bytes)))
        → parts (byte ∷ bytes) ≡ cond (list_any is_star (after_first is_star (byte ∷ bytes))) None (Some (before_first is_star (byte ∷ bytes), after_first is_star (byte ∷ bytes)))
    by true is rest = parts-then byte bytes is ∙ sym (ap (λ b. round (cond (not b) (1 + position_or_len is_star bytes) 0)) is)
    by false is rest =
        let less : 1 + position_or_len is_star bytes < length (byte ∷ bytes) = subst (λ m. m < length (byte ∷ bytes)) (ap (λ b. cond (not b) (1 + position_or_len is_star bytes) 0) is) some in
        parts-else byte bytes is
        ∙ ap (option_map (λ (own : List ℕ × List ℕ). (byte ∷ own.0, own.1))) (rest (grind (arith, common_steps, less)))
        ∙ either (list_any is_star (after_first is_star bytes))
        ∙ (λ i. both (take (sym (one_more n) i) (byte ∷ bytes)) (drop (sym (then_one n) i) (byte ∷ bytes)))
        ∙ sym (ap (λ b. round (cond (not b) (1 + position_or_len is_star bytes) 0)) is)
      where
        put : List ℕ × List ℕ → List ℕ × List ℕ
        put own = (byte ∷ own.0, own.1)

        found : List ℕ × List ℕ
        found = (before_first is_star bytes, after_first is_star bytes)

        either : (b : Bool) → option_map put (cond b None (Some found)) ≡ cond b None (Some (put found))
        either true = refl
        either false = refl

-- what stood in a list stands in it where something is put in between
pub contains_insert : (xs : List ℕ) (i y x : ℕ) → i ≤ length xs → Contains xs x → Contains (insert xs i y) x
contains_insert xs i y x within has =
    let longer : length (insert xs i y) ≡ length xs + 1 = length-insert xs i y within in
    elim (cases_lt has.0 i) [
      | inl below ↦ (has.0, omega (arith, longer, has.1), get_or-insert_below xs i y x has.0 below within ∙ has.2)
      | inr above ↦ (has.0 + 1, omega (arith, longer, has.1), get_or-insert_above xs i y x has.0 above within ∙ has.2)
    ]

not_empty : (xs : List ℕ) → xs ≢ [] → 0 < length xs
not_empty [] filled = absurd (filled refl)
not_empty (x ∷ xs) filled = grind (arith, common_steps)

-- and is shorter than the text
pub sizes-fit : (key star text : List ℕ) (are : Fits key star text) → length are.base < length text
sizes-fit key star text are =
    let sizes : length text ≡ length are.base + (length star + length are.trailer) = ap length are.text_is ∙ grind (arith, common_steps) in
    omega (arith, sizes, not_empty star are.filled)

-- the key that a text is put together to is looked at, or is none
pub hit-by : (keys : List (List ℕ)) (text : List ℕ) (base trailer : ℕ) (key : List ℕ) (place : ℕ) (r : Option PatternMatch)
    → base ≤ length text → key ≡ starred text base trailer → slice_get keys place ≡ Some key
    → MatchOption r (FitsNowhere key text) (IsAt key text place) → MatchOption r (NoneBy keys text base trailer) (IsHitBy keys text base trailer)
hit-by keys text base trailer key place None within is there misses =
    λ other star are is_key base_is trailer_is.
    let same : key ≡ other = is ∙ (λ i. starred text (sym base_is i) (sym trailer_is i)) ∙ starred-fits other star text are in
    misses star (subst (λ k. Fits k star text) (sym same) are)
hit-by keys text base trailer key place (Some found) within is there at =
    let fits = at.fits in
    let its : parts (starred text base trailer) ≡ Some (fits.base, fits.trailer) = ap parts (sym is) ∙ fits.parts_are in
    let same = parts-starred (take base text) (drop (length text - trailer) text) fits.base fits.trailer its in
    let sizes : length text ≡ length fits.base + (length found.star.now + length fits.trailer) = ap length fits.text_is ∙ grind (arith, common_steps) in
    let base_is : length fits.base ≡ base = ap length same.0 ∙ grind (arith, common_steps, within) in
    let behind : length fits.trailer ≡ length text - (length text - trailer) = ap length same.1 ∙ grind (arith, common_steps) in
    let filled : 0 < length found.star.now = not_empty found.star.now fits.filled in
    record {
      hit = record {
        key = key;
        key_at = subst (λ n. slice_get keys n ≡ Some key) (sym at.place_is) there;
        size_is = at.size_is;
        fits = fits;
        base_is = base_is;
      };
      trailer_is = omega (arith, behind, sizes, filled);
    }

-- no key fits where the one that a text is put together to is none
pub none-by : (keys : List (List ℕ)) (text : List ℕ) (base trailer : ℕ) (key : List ℕ) → key ≡ starred text base trailer
    → ((at : ℕ) → slice_get keys at ≡ Some key → ⊥) → NoneBy keys text base trailer
none-by keys text base trailer key is none = λ other star are is_key base_is trailer_is.
    let same : key ≡ other = is ∙ (λ i. starred text (sym base_is i) (sym trailer_is i)) ∙ starred-fits other star text are in
    none is_key.0 (is_key.1 ∙ ap Some (sym same))

-- what stands round the first `*`, where no other one stands behind it, are the parts
pub parts-found : (key front back : List ℕ) (more : Bool) → front ≡ before_first is_star key → back ≡ after_first is_star key
    → position_or_len is_star key < length key → more ≡ list_any is_star back → parts key ≡ cond more None (Some (front, back))
parts-found key front back more front_is back_is some any =
    parts-some key some ∙ ap (λ b. both b (before_first is_star key) (after_first is_star key)) (sym (any ∙ ap (list_any is_star) back_is))
    ∙ (λ i. both more (sym front_is i) (sym back_is i))
  where
    both : Bool → List ℕ → List ℕ → Option (List ℕ × List ℕ)
    both b front back = cond b None (Some (front, back))
