-- Names and their numbers.
use Rattle.std.proofs.Common.{◌≡◌, ◌≢◌, ◌⊎◌, ◌++◌, ◌<◌, ◌+◌, ◌∙◌, ℕ, Bool, true, false, cond, List, [], ◌∷◌, Option, Some, None, String, length, map, slice_get, string_bytes, IsSomeAnd, suc, zero, inl, inr, refl, sym, ap, subst}
use Rattle.std.specs.declared.alloc.Global.{Global}
use Rattle.std.specs.BTreeMap.{BTreeMap, get_by_text}
use Rattle.std.specs.Map.{update}
use Rattle.std.specs.Str.{bytes_eq}
use Rattle.std.proofs.lemmas.List.{length-map, map-append}
use Rattle.std.proofs.lemmas.Bool.Decides.{same_from_decides}
use Rattle.std.proofs.lemmas.Slice.Eq.{bytes_eq-Decides}
use Rattle.gutsirava_maps.specs.Names.{name_at, AreDistinct, AreNumbered, IsNew}

-- who is found under its place stands there alone
pub distinct_of : (numbers : BTreeMap (String Global) ℕ) (names : List (String Global))
    → AreNumbered numbers names → AreDistinct names
distinct_of numbers names are one other name at_one at_other =
    let first = are one name at_one in let second = are other name at_other in cc

-- a number for a new name leaves the others
pub numbered_insert : (numbers new : BTreeMap (String Global) ℕ) (names : List (String Global)) (name : List ℕ) (value : Option ℕ)
    → IsNew name names → ((text : List ℕ) → get_by_text new text ≡ update bytes_eq (get_by_text numbers) name value text)
    → AreNumbered numbers names → AreNumbered new names
numbered_insert numbers new names name value is_new updates are number text at =
    let differs = same_from_decides (bytes_eq name text) false (bytes_eq-Decides name text)
    ((λ (h : false ≡ true). cc), λ (e : name ≡ text). absurd (is_new number (at ∙ ap (λ (t : List ℕ). Some t) (sym e)))) in
    updates text ∙ rw differs (are number text at)

-- what stands in a list with one more stands in the list, or is that at its end
at_last : (xs : List (List ℕ)) (x : List ℕ) (k : ℕ) (y : List ℕ) → slice_get (xs ++ x ∷ []) k ≡ Some y
    → (slice_get xs k ≡ Some y) ⊎ ((k ≡ length xs) × (y ≡ x))
at_last [] x zero y at = inr (refl, cc)
at_last [] x (suc k) y at = inl (absurd (cc))
at_last (z ∷ xs) x zero y at = inl at
at_last (z ∷ xs) x (suc k) y at =
    elim (at_last xs x k y at) [ inl there ↦ inl there | inr last ↦ inr (ap (λ n. suc n) last.0, last.1) ]

-- the last of a list
last_there : (xs : List (String Global)) (x : String Global) → slice_get (xs ++ x ∷ []) (length xs) ≡ Some x
last_there [] x = refl
last_there (y ∷ xs) x = last_there xs x

-- a name is put down whose place was its number
pub numbered_push : (numbers : BTreeMap (String Global) ℕ) (names : List (String Global)) (it : String Global)
    → get_by_text numbers (string_bytes it) ≡ Some (length names)
    → AreNumbered numbers names → AreNumbered numbers (names ++ it ∷ [])
numbered_push numbers names it found are number text at =
    elim (at_last (map string_bytes names) (string_bytes it) number text
    (subst (λ (xs : List (List ℕ)). slice_get xs number ≡ Some text) (map-append string_bytes names (it ∷ [])) at)) [
      | inl there ↦ are number text there
      | inr last ↦ ap (λ (t : List ℕ). get_by_text numbers t) last.1 ∙ found
          ∙ ap (λ (n : ℕ). Some n) (sym (last.0 ∙ length-map names string_bytes))
    ]

-- the name that was put down last has the number of its place
pub named_last : (names new : List (String Global)) (it : String Global) (name : List ℕ) (number : ℕ)
    → new ≡ names ++ it ∷ [] → number ≡ length names → string_bytes it ≡ name
    → IsSomeAnd (slice_get new number) (λ it. string_bytes it ≡ name)
named_last names new it name number put is_last called =
    rw (put, is_last, last_there names it) called

-- a name of which no number is known, or that of another name, is new
pub new_unknown : (numbers : BTreeMap (String Global) ℕ) (names : List (String Global)) (name : List ℕ)
    → get_by_text numbers name ≡ None → AreNumbered numbers names → IsNew name names
new_unknown numbers names name unknown are number at = let known = are number name at in cc

pub new_other : (numbers : BTreeMap (String Global) ℕ) (names : List (String Global)) (name : List ℕ) (number : ℕ)
    → get_by_text numbers name ≡ Some number → (name_at names number ≡ Some name → ⊥)
    → AreNumbered numbers names → IsNew name names
new_other numbers names name number known other are place at =
    let place_is = are place name at in
    let same : place ≡ number = cc in
    other (subst (λ (n : ℕ). name_at names n ≡ Some name) same at)

-- a name that has a number now, and is put down if there is room
pub numbered_both : (numbers new : BTreeMap (String Global) ℕ) (names later : List (String Global)) (name : List ℕ)
    (it : String Global) (is_put : Bool) → IsNew name names → string_bytes it ≡ name
    → ((text : List ℕ) → get_by_text new text ≡ update bytes_eq (get_by_text numbers) name (Some (length names)) text)
    → later ≡ cond is_put (names ++ it ∷ []) names → AreNumbered numbers names → AreNumbered new later
numbered_both numbers new names later name it true is_new called updates put are =
    let same = (bytes_eq-Decides name (string_bytes it)).1 (sym called) in
    rw put (numbered_push new names it (updates (string_bytes it) ∙ rw same refl)
    (numbered_insert numbers new names name (Some (length names)) is_new updates are))
numbered_both numbers new names later name it false is_new called updates put are =
    rw put (numbered_insert numbers new names name (Some (length names)) is_new updates are)
