-- What was noted of patterns stays when more is.
use Rattle.std.proofs.Common.{◌≡◌, ◌≢◌, inl, inr, ℕ, ◌<◌, ◌++◌, ◌∷◌, [], Contains, Global, List, None, Option, Some, Vec, get_or, get_or-set_other, get_or-set_same, length, length-set, set, slice_get, sym, subst, ap, ◌∙◌, true}
use Rattle.std.proofs.lemmas.Bool.{cases_eq}
use Rattle.std.proofs.lemmas.Option.{get_or_from_slice_get, none-some, slice_get_read, slice_get_within}
use Rattle.gutsirava_package.specs.Keys.{IsExtended}
use Rattle.gutsirava_package.specs.Lengths.{AllStay, AreNoted, HasLengths, IsNoted, Stays}
use Rattle.gutsirava_package.specs.Patterns.{parts}
use Rattle.gutsirava_package.specs.declared.patterns.PatternLengths.{PatternLengths}
use Rattle.gutsirava_package.proofs.KeyLemmas.{push_cases, stood_before}
use Rattle.gutsirava_package.proofs.PatternLemmas.{same_pair}

-- keys with one more have what they had
pub extended-stays : (keys more : List (List ℕ)) (key : List ℕ) → IsExtended keys key more → (at : ℕ) (own : List ℕ)
    → slice_get keys at ≡ Some own → slice_get more at ≡ Some own
extended-stays keys more key (inl same) at own is = subst (λ its. slice_get its at ≡ Some own) (sym same) is
extended-stays keys more key (inr longer) at own is = subst (λ its. slice_get its at ≡ Some own) (sym longer) (stood_before keys (key ∷ []) at own is)

pub lengths-stay : (old new : PatternLengths) → ((at : ℕ) → slice_get old.marks.items at ≡ Some true → slice_get new.marks.items at ≡ Some true)
    → ((at : ℕ) (own : List ℕ) → slice_get old.bases at ≡ Some own → slice_get new.bases at ≡ Some own)
    → AllStay old.trailers.items new.trailers.items → Stays old new
lengths-stay old new marks bases lists = λ base trailer has. record {
  is_marked = marks (length base) has.is_marked;
  place = has.place;
  base_at = bases has.place base has.base_at;
  has = lists has.place trailer has.has;
}

pub noted-stay : (keys : List (List ℕ)) (old new : PatternLengths) → AreNoted keys old → Stays old new → AreNoted keys new
noted-stay keys old new noted stays = λ key is_key base trailer are. stays base (length trailer) (noted key is_key base trailer are)

pub noted-more : (keys more : List (List ℕ)) (key : List ℕ) (it : PatternLengths) → AreNoted keys it → IsExtended keys key more → IsNoted key it → AreNoted more it
noted-more keys more key it noted (inl same) own = subst (λ its. AreNoted its it) (sym same) noted
noted-more keys more key it noted (inr longer) own = subst (λ its. AreNoted its it) (sym longer) (λ other is_key. elim (push_cases keys key is_key.0 other is_key.1) [
  | inl old ↦ noted other (is_key.0, old)
  | inr last ↦ subst (λ k. IsNoted k it) last.1 own
])

-- the parts of a key are noted where they are found
pub noted-parts : (key base : List ℕ) (trailer : List ℕ) (it : PatternLengths) → ◌≡◌ {A = Option (List ℕ × List ℕ)} (Some (base, trailer)) (parts key)
    → HasLengths it base (length trailer) → IsNoted key it
noted-parts key base trailer it are has = λ own its own_are.
    let same = same_pair base own trailer its (are ∙ own_are) in
    subst (λ t. HasLengths it own (length t)) same.1 (subst (λ b. HasLengths it b (length trailer)) same.0 has)

-- a key without parts has none to be noted
pub noted-nothing : (key : List ℕ) (it : PatternLengths) → ◌≡◌ {A = Option (List ℕ × List ℕ)} None (parts key) → IsNoted key it
noted-nothing key it none = λ own its own_are. absurd (none-some (own, its) (none ∙ own_are))

pub lists-push : (old new more : List (Vec ℕ Global)) (list : Vec ℕ Global) → AllStay old new → more ≡ new ++ list ∷ [] → AllStay old more
lists-push old new more list stay longer = λ place size has.
    let its = stay place size has in
    (its.0, subst (λ l. slice_get l place ≡ Some its.0) (sym longer) (stood_before new (list ∷ []) place its.0 its.1), its.2)

pub set_here : {X : Type 0} (xs : List X) (i : ℕ) (y : X) → i < length xs → slice_get (set xs i y) i ≡ Some y
set_here xs i y within = slice_get_read (set xs i y) (length xs) i y (sym (length-set xs i y)) within (sym (get_or-set_same xs i y y within))

set_elsewhere : {X : Type 0} (xs : List X) (i j : ℕ) (y x : X) → j ≢ i → slice_get xs j ≡ Some x → slice_get (set xs i y) j ≡ Some x
set_elsewhere xs i j y x apart at =
    slice_get_read (set xs i y) (length xs) j x (sym (length-set xs i y)) (slice_get_within xs j x at)
    (sym (get_or-set_other xs i j y x apart ∙ get_or_from_slice_get xs j x x at))

pub lists-set : (lists : List (Vec ℕ Global)) (place : ℕ) (own new : Vec ℕ Global) → place < length lists → get_or lists place own ≡ own
    → ((size : ℕ) → Contains own.items size → Contains new.items size) → AllStay lists (set lists place new)
lists-set lists place own new within own_is more = λ at size has. elim (cases_eq at place) [
  | inl here ↦
      let same : has.0 ≡ own = sym (get_or_from_slice_get lists at has.0 own has.1) ∙ ap (λ n. get_or lists n own) here ∙ own_is in (
        new,
        subst (λ n. slice_get (set lists place new) n ≡ Some new) (sym here) (set_here lists place new within),
        more size (subst (λ v. Contains v.items size) same has.2),
      )
  | inr apart ↦ (has.0, set_elsewhere lists place at new has.0 apart has.1, has.2)
]
