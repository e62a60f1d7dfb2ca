-- What is refused is no request, part by part.
use Rattle.std.proofs.Common.{◌≡◌, ◌+◌, ◌<◌, ℕ, zero, suc, List, [], ◌∷◌, ◌++◌, Option, Some, None, Bor, Result, Ok, Err, IfErr, IsErrAnd, IsSome, IsSomeAnd, OnOk, Global, length, take, get_or, map, refl, sym, ap, subst, ◌∙◌, arith}
use Rattle.std.specs.List.{AllZip}
use Rattle.std.proofs.lemmas.List.{take_more, map-append}
use Rattle.json.specs.Find.{as_str}
use Rattle.json.specs.Json.{Json, null, boolean, number, string, array, object, document}
use Rattle.json.specs.Value.{items_of, items_view, members_view, value_view}
use Rattle.json.specs.declared.value.Value.{Value}
use Rattle.bundle_json_form.specs.declared.error.FormError.{FormError}
use Rattle.bundle_json_document.specs.Error.{NoneIs}
use Rattle.gutsirava_c.specs.Request.{found, text_members, AreEntryPairs, AreFileTexts, AreTexts, Asks, AsksNothing, IsEntryPair, IsNoRequest, RefusesOf}

-- a refusal that is handed on
pub passed_on : {T P Q : Type 0} (made : Result T FormError) (error : FormError) → IsErrAnd made (λ it. it ≡ error) → (P → Q)
    → RefusesOf P error → IfErr made (RefusesOf Q)
passed_on (Ok it) error is further why = tt
passed_on (Err it) error is further why = λ form. further (why (sym is ∙ form))

-- what is refused for one reason is for another that follows
pub refused_too : {T P Q : Type 0} (made : Result T FormError) → (P → Q) → IfErr made (RefusesOf P) → IfErr made (RefusesOf Q)
refused_too (Ok it) further why = tt
refused_too (Err it) further why = λ form. further (why form)

-- ---- arrays

same_items : (xs ys : List Json) → items_of xs ≡ items_of ys → xs ≡ ys
same_items [] [] e = refl
same_items [] (y ∷ ys) e = absurd (cc)
same_items (x ∷ xs) [] e = absurd (cc)
same_items (x ∷ xs) (y ∷ ys) e =
    let head : x ≡ y = cc in
    let tail : items_of xs ≡ items_of ys = cc in
    let rest : xs ≡ ys = same_items xs ys tail in cc

each_at : {X : Type 0} (R : Json → X → Type 0) (vs : List (Value Global)) (xs : List X) (i : ℕ) (v : Value Global)
    → AllZip R (map value_view vs) xs → i < length vs → v ≡ get_or vs i v → (x : X) × R (value_view v) x
each_at R [] xs i v all within is = absurd (omega arith)
each_at R (w ∷ vs) [] i v all within is = absurd all
each_at R (w ∷ vs) (x ∷ xs) zero v all within is = (x, subst (λ u. R (value_view u) x) (sym is) all.0)
each_at R (w ∷ vs) (x ∷ xs) (suc i) v all within is = each_at R vs xs i v all.1 (omega arith) is

-- of these pairs one is of no entry
pub none_zipped : (vs : List (Value Global)) (i : ℕ) (v : Value Global) → i < length vs → v ≡ get_or vs i v
    → NoneIs (IsEntryPair (value_view v)) → NoneIs (AllZip IsEntryPair (map value_view vs))
none_zipped vs i v within is none = λ entries all. let at = each_at IsEntryPair vs entries i v all within is in none at.0 at.1

-- an array of such pairs
pub none_listed : (value : Option (Bor (Value Global))) (it : Bor (Value Global)) (vs : List (Value Global)) → value ≡ Some it
    → value_view it.now ≡ array (items_view vs) → NoneIs (AllZip IsEntryPair (map value_view vs))
    → NoneIs (λ entries. IsSomeAnd (found value) (AreEntryPairs entries))
none_listed value it vs is list none =
    subst (λ value. NoneIs (λ entries. IsSomeAnd (found value) (AreEntryPairs entries))) (sym is)
    (λ entries are.
    let same : items_of are.pairs ≡ items_of (map value_view vs) = let e = sym are.is_array ∙ list in cc in
    none entries (subst (λ js. AllZip IsEntryPair js entries) (same_items are.pairs (map value_view vs) same) are.each))

-- an array of other than two values
pub not_pair : (value : Json) (vs : List (Value Global)) → value ≡ array (items_view vs) → (length vs ≡ 2 → ⊥) → NoneIs (IsEntryPair value)
not_pair value [] is other = λ entry it. let e = it.is_pair in absurd (cc)
not_pair value (v ∷ []) is other = λ entry it. let e = it.is_pair in absurd (cc)
not_pair value (v ∷ w ∷ []) is other = λ entry it. other refl
not_pair value (v ∷ w ∷ u ∷ vs) is other = λ entry it. let e = it.is_pair in absurd (cc)

-- the first so many values are texts
abbrev pub AreTextsTo : List (Value Global) → ℕ → Type 0
AreTextsTo vs n = (texts : List (List ℕ)) × (map value_view (take n vs) ≡ map string texts)

pub texts_more : (vs : List (Value Global)) (i : ℕ) (v : Value Global) (text : List ℕ) → i < length vs → v ≡ get_or vs i v
    → AreTextsTo vs i → value_view v ≡ string text → AreTextsTo vs (i + 1)
texts_more vs i v text inside is so_far here =
    let front : take (i + 1) vs ≡ take i vs ++ v ∷ [] = take_more vs i v inside ∙ ap (λ it. take i vs ++ it ∷ []) (sym is) in (
      so_far.0 ++ text ∷ [],
      ap (map value_view) front ∙ map-append value_view (take i vs) (v ∷ []) ∙ ap (λ them. them ++ value_view v ∷ []) so_far.1
          ∙ ap (λ it. map string so_far.0 ++ it ∷ []) here ∙ sym (map-append string so_far.0 (text ∷ [])),
    )

pub texts_all : (vs : List (Value Global)) (n : ℕ) → take n vs ≡ vs → AreTextsTo vs n → AreTexts (Some (array (items_view vs)))
texts_all vs n all to = (to.0, ap array (ap items_of (ap (map value_view) (sym all) ∙ to.1)))

text_at : (vs : List (Value Global)) (texts : List (List ℕ)) (i : ℕ) (v : Value Global) → map value_view vs ≡ map string texts
    → i < length vs → v ≡ get_or vs i v → as_str (value_view v) ≡ None → ⊥
text_at [] texts i v same within is none = absurd (omega arith)
text_at (w ∷ vs) [] i v same within is none = absurd (cc)
text_at (w ∷ vs) (t ∷ texts) zero v same within is none =
    let e : value_view w ≡ string t = cc in
    let one : as_str (value_view v) ≡ Some t = ap (λ u. as_str (value_view u)) is ∙ ap as_str e in absurd (cc)
text_at (w ∷ vs) (t ∷ texts) (suc i) v same within is none = text_at vs texts i v (cc) (omega arith) is none

-- of these values one is no text
pub no_texts : (vs : List (Value Global)) (i : ℕ) (v : Value Global) → i < length vs → v ≡ get_or vs i v
    → as_str (value_view v) ≡ None → ¬ AreTexts (Some (array (items_view vs)))
no_texts vs i v within is none them =
    let same : items_of (map value_view vs) ≡ items_of (map string them.0) = let e = them.1 in cc in
    text_at vs them.0 i v (same_items (map value_view vs) (map string them.0) same) within is none

-- ---- objects

abbrev Entry : Type 0
Entry = Bor (List ℕ) × Value Global

abbrev pair_of : Entry → List ℕ × Json
pair_of it = (it.0.now, value_view it.1)

abbrev file_of : List ℕ × List ℕ → List ℕ × Json
file_of it = (it.0, string it.1)

abbrev key_in : List ℕ × Json → List ℕ
key_in it = it.0

abbrev value_in : List ℕ × Json → Json
value_in it = it.1

-- the first so many members are texts
abbrev pub AreFilesTo : List Entry → ℕ → Type 0
AreFilesTo ms n = (files : List (List ℕ × List ℕ)) × (map pair_of (take n ms) ≡ map file_of files)

is_string : (value : Json) → IsSome (as_str value) → (text : List ℕ) × (value ≡ string text)
is_string null is = absurd (cc)
is_string (boolean b) is = absurd (cc)
is_string (number s) is = absurd (cc)
is_string (string s) is = (s, refl)
is_string (array js) is = absurd (cc)
is_string (object ms) is = absurd (cc)

pub files_more : (ms : List Entry) (i : ℕ) (m : Entry) → i < length ms → m ≡ get_or ms i m
    → AreFilesTo ms i → IsSome (as_str (value_view m.1)) → AreFilesTo ms (i + 1)
files_more ms i m inside is so_far here =
    let front : take (i + 1) ms ≡ take i ms ++ m ∷ [] = take_more ms i m inside ∙ ap (λ it. take i ms ++ it ∷ []) (sym is) in
    let text = is_string (value_view m.1) here in (
      so_far.0 ++ (m.0.now, text.0) ∷ [],
      ap (map pair_of) front ∙ map-append pair_of (take i ms) (m ∷ []) ∙ ap (λ them. them ++ pair_of m ∷ []) so_far.1
          ∙ ap (λ it. map file_of so_far.0 ++ (m.0.now, it) ∷ []) text.1 ∙ sym (map-append file_of so_far.0 ((m.0.now, text.0) ∷ [])),
    )

files_of : (ms : List Entry) (files : List (List ℕ × List ℕ)) → map pair_of ms ≡ map file_of files → members_view ms ≡ text_members files
files_of [] [] e = refl
files_of [] (f ∷ files) e = absurd (cc)
files_of (m ∷ ms) [] e = absurd (cc)
files_of (m ∷ ms) (f ∷ files) e =
    let pair : pair_of m ≡ file_of f = cc in
    let name : m.0.now ≡ f.0 = ap key_in pair in
    let text : value_view m.1 ≡ string f.1 = ap value_in pair in
    let more : members_view ms ≡ text_members files = files_of ms files (cc) in
    cc

pub files_all : (ms : List Entry) (n : ℕ) → take n ms ≡ ms → AreFilesTo ms n → AreFileTexts (object (members_view ms))
files_all ms n all to = (to.0, ap object (files_of ms to.0 (ap (map pair_of) (sym all) ∙ to.1)))

file_at : (ms : List Entry) (files : List (List ℕ × List ℕ)) (i : ℕ) (m : Entry) → members_view ms ≡ text_members files
    → i < length ms → m ≡ get_or ms i m → as_str (value_view m.1) ≡ None → ⊥
file_at [] files i m same within is none = absurd (omega arith)
file_at (n ∷ ms) [] i m same within is none = absurd (cc)
file_at (n ∷ ms) (f ∷ files) zero m same within is none =
    let e : value_view n.1 ≡ string f.1 = cc in
    let one : as_str (value_view m.1) ≡ Some f.1 = ap (λ u. as_str (value_view u.1)) is ∙ ap as_str e in absurd (cc)
file_at (n ∷ ms) (f ∷ files) (suc i) m same within is none = file_at ms files i m (cc) (omega arith) is none

-- of these members one is no text
pub no_files : (ms : List Entry) (i : ℕ) (m : Entry) → i < length ms → m ≡ get_or ms i m
    → as_str (value_view m.1) ≡ None → ¬ AreFileTexts (object (members_view ms))
no_files ms i m within is none them = file_at ms them.0 i m (let e = them.1 in cc) within is none

-- an object that was found
module _ {T : Type 0} (made : Result T FormError) (value : Option (Bor (Value Global))) (it : Bor (Value Global)) (ms : List Entry)
    (is : value ≡ Some it) (seen : value_view it.now ≡ object (members_view ms)) where
  pub files_found : OnOk made (AreFileTexts (object (members_view ms))) → OnOk made (IsSomeAnd (found value) AreFileTexts)
  files_found are = subst (λ value. OnOk made (IsSomeAnd (found value) AreFileTexts)) (sym is) (subst (λ it. OnOk made (AreFileTexts it)) (sym seen) are)

  pub none_found : IfErr made (RefusesOf (¬ AreFileTexts (object (members_view ms)))) → IfErr made (RefusesOf (¬ IsSomeAnd (found value) AreFileTexts))
  none_found none =
      subst (λ value. IfErr made (RefusesOf (¬ IsSomeAnd (found value) AreFileTexts))) (sym is)
      (subst (λ it. IfErr made (RefusesOf (¬ AreFileTexts it))) (sym seen) none)

-- ---- texts

-- a value that asks for nothing makes a text that is no request
pub no_request : (text : List ℕ) (value : Json) → document text ≡ Some value → AsksNothing value → IsNoRequest text
no_request text value read none = λ settings entries it.
    let same : it.value ≡ value = let e = sym it.is_read ∙ read in cc in
    none settings entries (subst (λ value. Asks value settings entries) same it.asks)

-- so does a text without a value
pub no_value : (text : List ℕ) → document text ≡ None → IsNoRequest text
no_value text none = λ settings entries it. let e = sym it.is_read ∙ none in absurd (cc)
