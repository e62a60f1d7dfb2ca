-- What stands before the last byte of a kind, and what behind it.
use Rattle.std.proofs.Common.{◌≡◌, ◌≢◌, ℕ, ◌+◌, ◌-◌, ◌<◌, ◌≤◌, List, [], ◌∷◌, Bool, true, false, not, eqb, Bor, Option, Some, None, MatchOption, length, get_or, take, drop, refl, ap, sym, ◌∙◌, arith, lit<, cond, ◌&&◌, ◌||◌, inl, inr, length-drop, length-take}
use Rattle.std.proofs.Math.Dec.{eqb-suc-zero}
use Rattle.std.proofs.lemmas.Bool.{cases_Bool, eqb-true, eq-eqb}
use Rattle.std.proofs.lemmas.List.{drop_more, get_or-drop}
use Rattle.std.proofs.lemmas.List.Sums.{suffix_len_is}
use Rattle.std.proofs.lemmas.Str.{len_utf8_ascii}
use Rattle.std.proofs.lemmas.Str.Pattern.{NoCharPasses-char}
use Rattle.std.specs.List.{after_last, before_last, suffix_len}
use Rattle.std.specs.Str.{bytes_eq}
use Rattle.std.specs.Str.Pattern.{RFindsChar, SplitsAroundMatch}
use Rattle.gutsirava_path.specs.Normal.{is_rooted, up}
use Rattle.gutsirava_path.specs.Places.{ending_of, folder_of, is_dot, is_slash}

-- whether a byte is this one
abbrev is_byte : ℕ → ℕ → Bool
is_byte c byte = eqb byte c

-- a byte that is not this one
other_byte : (c byte : ℕ) → byte ≢ c → not (is_byte c byte) ≡ true
other_byte c byte other = elim (cases_Bool (eqb byte c)) [ inl yea ↦ absurd (other (eqb-true byte c yea)) | inr nay ↦ ap not nay ]

-- how many bytes stand behind the last of a kind
last_len : (c : ℕ) (text : List ℕ) (n : ℕ) → n ≤ length text
    → ((k : ℕ) → n ≤ k → k < length text → get_or text k 0 ≢ c)
    → (0 < n → get_or text (n - 1) 0 ≡ c)
    → suffix_len (λ b. not (is_byte c b)) text ≡ length text - n
last_len c text n within none last =
    suffix_len_is (λ b. not (is_byte c b)) text n 0 within
    (λ k from to. other_byte c (get_or text k 0) (none k from to))
    (λ some. ap (λ b. not (is_byte c b)) (last some) ∙ ap not (eq-eqb c c refl))

-- a text that lacks the byte
lacks_last : (c : ℕ) (text : List ℕ) → ((k : ℕ) → k < length text → get_or text k 0 ≢ c)
    → (before_last (is_byte c) text ≡ []) × (after_last (is_byte c) text ≡ text)
lacks_last c text none =
    let long = last_len c text 0 (omega arith) (λ k from to. none k to) (λ some. absurd (omega arith)) in
    let all : length text - suffix_len (λ b. not (is_byte c b)) text ≡ 0 = omega (arith, long) in
    (ap (λ n. take (n - 1) text) all, ap (λ n. drop n text) all)

-- a text whose last one stands at a place
at_last : (c : ℕ) (text : List ℕ) (n : ℕ) → n < length text → get_or text n 0 ≡ c
    → ((k : ℕ) → n < k → k < length text → get_or text k 0 ≢ c)
    → (before_last (is_byte c) text ≡ take n text) × (after_last (is_byte c) text ≡ drop (n + 1) text)
at_last c text n within is none =
    let place : n + 1 - 1 ≡ n = omega arith in
    let long = last_len c text (n + 1) (omega arith) (λ k from to. none k (omega arith) to)
    (λ some. ap (λ i. get_or text i 0) place ∙ is) in
    let all : length text - suffix_len (λ b. not (is_byte c b)) text ≡ n + 1 = omega (arith, long) in
    (ap (λ m. take (m - 1) text) all ∙ ap (λ m. take m text) place, ap (λ m. drop m text) all)

-- what `rsplit_once` gives at an ASCII character
pub rsplit_last : (c : ℕ) (text : List ℕ) (r : Option (Bor (List ℕ) × Bor (List ℕ)))
    → MatchOption r (RFindsChar c text None) (λ x. SplitsAroundMatch (RFindsChar c) text x.0.now x.1.now)
    → c < 128
    → MatchOption r
    ((before_last (is_byte c) text ≡ []) × (after_last (is_byte c) text ≡ text)
    × ((k : ℕ) → k < length text → get_or text k 0 ≢ c))
    (λ x. (before_last (is_byte c) text ≡ x.0.now) × (after_last (is_byte c) text ≡ x.1.now)
    × (get_or text (length x.0.now) 0 ≡ c))
rsplit_last c text None free small =
    let none : (k : ℕ) → k < length text → get_or text k 0 ≢ c = λ k within. NoCharPasses-char c text k free small within in
    let parts = lacks_last c text none in
    (parts.0, parts.1, none)
rsplit_last c text (Some x) (i, j, (free, at), front, back, order, front_len, back_len) small =
    let next : j ≡ i + 1 = at.ends ∙ ap (λ n. i + n) (len_utf8_ascii c small) in
    let parts = at_last c text i (omega arith) (at.byte small) (λ k from to.
    let place : j + (k - j) ≡ k = omega arith in
    λ is. NoCharPasses-char c (drop j text) (k - j) free small (omega (arith, length-drop j text))
    (get_or-drop j text (k - j) 0 ∙ ap (λ m. get_or text m 0) place ∙ is)) in (
      parts.0 ∙ sym front,
      parts.1 ∙ ap (λ m. drop m text) (sym next) ∙ sym back,
      ap (λ m. get_or text m 0) front_len ∙ at.byte small,
    )

-- a path without `/` does not begin with one
unrooted : (path : List ℕ) → ((k : ℕ) → k < length path → get_or path k 0 ≢ 47) → is_rooted path ≡ false
unrooted [] none = refl
unrooted (b ∷ path) none = elim (cases_Bool (eqb b 47)) [
  | inl yea ↦ absurd (none 0 (omega arith) (eqb-true b 47 yea))
  | inr nay ↦ nay
]

-- where nothing stands before a `/`, the path begins with it
rooted_front : (path front : List ℕ) → get_or path (length front) 0 ≡ 47
    → cond (is_rooted path && eqb (length front) 0) (47 ∷ []) front ≡ cond (eqb (length front) 0) (47 ∷ []) front
rooted_front path [] is = ap (λ b. cond (eqb b 47 && true) (47 ∷ []) []) is
rooted_front path (b ∷ front) is =
    let text = b ∷ front in
    let empty = eqb (length text) 0 in
    elim (cases_Bool (is_rooted path)) [
      | inl yea ↦ ap (λ r. cond (r && empty) (47 ∷ []) text) yea
      | inr nay ↦ ap (λ r. cond (r && empty) (47 ∷ []) text) nay
          ∙ sym (ap (λ e. cond e (47 ∷ []) text) (eqb-suc-zero (length front)))
    ]

-- the folder of a path, by what `rsplit_once` gives at `/`
pub folder_of-split : (path : List ℕ) (r : Option (Bor (List ℕ) × Bor (List ℕ)))
    → MatchOption r (RFindsChar 47 path None) (λ x. SplitsAroundMatch (RFindsChar 47) path x.0.now x.1.now)
    → MatchOption r (folder_of path ≡ [])
    (λ x. folder_of path ≡ cond (eqb (length x.0.now) 0) (47 ∷ []) x.0.now)
folder_of-split path None told =
    let parts = rsplit_last 47 path None told (lit< tt) in
    let free : is_rooted path ≡ false = unrooted path parts.2 in
    ap (λ b. cond (b && eqb (length (before_last is_slash path)) 0) (47 ∷ []) (before_last is_slash path)) free ∙ parts.0
folder_of-split path (Some x) told =
    let parts = rsplit_last 47 path (Some x) told (lit< tt) in
    let front = x.0.now in
    ap (λ f. cond (is_rooted path && eqb (length f) 0) (47 ∷ []) f) parts.0
    ∙ rooted_front path front parts.2

-- the ending of a name, by what `rfind` gives at `.`
pub ending_of-found : (name : List ℕ) (r : Option ℕ)
    → MatchOption r ((i : ℕ) → i < length name → get_or name i 0 ≢ 46)
    (λ k. (k < length name) × (get_or name k 0 ≡ 46) × ((i : ℕ) → k < i → i < length name → get_or name i 0 ≢ 46))
    → MatchOption r (ending_of name ≡ [])
    (λ k. ending_of name ≡ cond (eqb k 0 || bytes_eq name up) [] (drop k name))
ending_of-found name None none =
    let parts = lacks_last 46 name none in
    ap (λ f. cond (eqb (length f) 0 || bytes_eq name up) [] (46 ∷ after_last is_dot name)) parts.0
ending_of-found name (Some k) (within, is, none) =
    let parts = at_last 46 name k within is none in
    let long : length (take k name) ≡ k = length-take k name ∙ omega arith in
    ap (λ f. cond (eqb (length f) 0 || bytes_eq name up) [] (46 ∷ after_last is_dot name)) parts.0
    ∙ ap (λ n. cond (eqb n 0 || bytes_eq name up) [] (46 ∷ after_last is_dot name)) long
    ∙ ap (λ t. cond (eqb k 0 || bytes_eq name up) [] t)
    (ap (λ t. 46 ∷ t) parts.1 ∙ ap (λ b. b ∷ drop (k + 1) name) (sym is) ∙ sym (drop_more name k 0 within))

-- a place that is not the first
pub positive : (n : ℕ) → 0 < n → eqb n 0 ≡ false
positive n some = elim (cases_Bool (eqb n 0)) [ inl yea ↦ absurd (omega (arith, eqb-true n 0 yea)) | inr nay ↦ nay ]

-- one of two, by the second
pub or_true : (a b : Bool) → b ≡ true → (a || b) ≡ true
or_true true b yea = refl
or_true false b yea = yea
