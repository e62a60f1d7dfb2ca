-- Texts all of whose characters are quiet.
use Rattle.std.proofs.Common.{Result, Ok, Err, OnOk, is_ok, ◌≡◌, ℕ, zero, suc, ◌<◌, List, [], ◌∷◌, ◌++◌, Bool, true, false, ◌&&◌, ◌||◌, cond, length, get_or, take, refl, sym, ◌∙◌, ap, append_assoc, encode_utf8, IsUtf8, eqb, arith}
use Rattle.std.specs.Str.{chars}
use Rattle.std.specs.List.{list_all}
use Rattle.std.proofs.lemmas.List.{append-nil, take_more, length_push}
use Rattle.std.proofs.lemmas.List.Folds.{list_all-append}
use Rattle.std.proofs.lemmas.Str.{chars-nil, chars-append, chars_past_char}
use Rattle.gutsirava_report.specs.Quiet.{is_quiet_char, is_sent_char}

-- the characters of no bytes
pub chars_empty : (bs : List ℕ) → bs ≡ [] → chars bs ≡ []
chars_empty bs none = ap chars none ∙ chars-nil

pub quiet_empty : (bs : List ℕ) → bs ≡ [] → list_all is_quiet_char (chars bs) ≡ true
quiet_empty bs none = ap (list_all is_quiet_char) (chars_empty bs none)

-- the characters of one character's bytes
chars-encode_utf8 : (c : ℕ) → IsUtf8 (encode_utf8 c) → chars (encode_utf8 c) ≡ c ∷ []
chars-encode_utf8 c u =
    chars_past_char (encode_utf8 c) [] c u (sym (append-nil (encode_utf8 c))) ∙ ap (λ t. c ∷ t) chars-nil

-- the characters of a text that gains one
pub chars_pushed : (bs : List ℕ) (c : ℕ) → IsUtf8 bs → IsUtf8 (encode_utf8 c) → chars (bs ++ encode_utf8 c) ≡ chars bs ++ c ∷ []
chars_pushed bs c text one = chars-append bs (encode_utf8 c) text ∙ ap (λ t. chars bs ++ t) (chars-encode_utf8 c one)

-- a quiet text that gains a quiet character, or none, is quiet
pub quiet_pushed : (bs new : List ℕ) (c : ℕ) (ok : Bool) → IsUtf8 bs → IsUtf8 (encode_utf8 c)
    → list_all is_quiet_char (chars bs) ≡ true → is_quiet_char c ≡ true
    → new ≡ cond ok (bs ++ encode_utf8 c) bs → list_all is_quiet_char (chars new) ≡ true
quiet_pushed bs new c true text one quiet more is =
    ap (λ t. list_all is_quiet_char (chars t)) is
    ∙ ap (list_all is_quiet_char) (chars_pushed bs c text one)
    ∙ list_all-append is_quiet_char (chars bs) (c ∷ [])
    ∙ ap (λ b. b && (is_quiet_char c && true)) quiet
    ∙ ap (λ b. b && true) more
quiet_pushed bs new c false text one quiet more is = ap (λ t. list_all is_quiet_char (chars t)) is ∙ quiet

-- what such a text holds if it was not refused
pub chars_when_pushed : {T E : Type 0} (r : Result T E) (bs new : List ℕ) (c d : ℕ) → IsUtf8 bs → IsUtf8 (encode_utf8 c) → c ≡ d
    → new ≡ cond (is_ok r) (bs ++ encode_utf8 c) bs → OnOk r (chars new ≡ chars bs ++ d ∷ [])
chars_when_pushed (Ok x) bs new c d text one same is =
    ap chars is ∙ chars_pushed bs c text one ∙ ap (λ x. chars bs ++ x ∷ []) same
chars_when_pushed (Err e) bs new c d text one same is = tt

pub and_both : (a b : Bool) → (a && b) ≡ true → (a ≡ true) × (b ≡ true)
and_both true b both = (refl, both)
and_both false b both = absurd (cc)

-- each character of a quiet text is quiet
pub quiet_at : (p : ℕ → Bool) (cs : List ℕ) (i d : ℕ) → list_all p cs ≡ true → i < length cs → p (get_or cs i d) ≡ true
quiet_at p [] i d quiet within = absurd (omega arith)
quiet_at p (c ∷ cs) zero d quiet within = (and_both (p c) (list_all p cs) quiet).0
quiet_at p (c ∷ cs) (suc i) d quiet within =
    quiet_at p cs i d (and_both (p c) (list_all p cs) quiet).1 (omega arith)

-- quiet characters may be sent
pub sent-quiet : (cs : List ℕ) → list_all is_quiet_char cs ≡ true → list_all is_sent_char cs ≡ true
sent-quiet [] quiet = refl
sent-quiet (c ∷ cs) quiet =
    let both = and_both (is_quiet_char c) (list_all is_quiet_char cs) quiet in
    ap (λ b. (b || eqb c 10) && list_all is_sent_char cs) both.0 ∙ sent-quiet cs both.1

-- a step of a loop over characters, where each that passes a test is appended
pub push_step : (p : ℕ → Bool) (cs start now next yielded : List ℕ) (c : ℕ)
    → (length yielded < length cs) × (c ≡ get_or cs (length yielded) c) → list_all p cs ≡ true
    → now ≡ start ++ take (length yielded) cs → (p c ≡ true → next ≡ now ++ c ∷ [])
    → next ≡ start ++ take (length (yielded ++ c ∷ [])) cs
push_step p cs start now next yielded c turn quiet was more =
    more (ap p turn.1 ∙ quiet_at p cs (length yielded) c quiet turn.0)
    ∙ ap (λ l. l ++ c ∷ []) was
    ∙ append_assoc start (take (length yielded) cs) (c ∷ [])
    ∙ ap (λ x. start ++ (take (length yielded) cs ++ x ∷ [])) turn.1
    ∙ ap (λ l. start ++ l) (sym (take_more cs (length yielded) c turn.0))
    ∙ ap (λ n. start ++ take n cs) (sym (length_push yielded c))
