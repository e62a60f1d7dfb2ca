-- How a text is cut into tokens (ECMA-262, 12): which stand in it one behind the other, each as
-- long as it can be.
use Rattle.std.specs.Prelude.{◌≡◌, ℕ, ◌==◌, nat_le, nat_lt, nat_eq, Bool, true, false, not, ◌&&◌, ◌||◌, List, [], ◌∷◌, ◌++◌, length, codes}
use Rattle.std.specs.List.{list_any, list_all, starts_with}
use Rattle.std.specs.Char.{is_ascii_digit}

-- a token by its characters
pub data Token : Type 0 where
  -- an IdentifierName, reserved words among them, or a PrivateIdentifier (12.7)
  Name : List ℕ → Token
  -- a Punctuator (12.8)
  Mark : List ℕ → Token
  -- a NumericLiteral (12.9.3)
  Numeral : List ℕ → Token
  -- a StringLiteral (12.9.4)
  Quoted : List ℕ → Token
  -- a RegularExpressionLiteral (12.9.5)
  Expressed : List ℕ → Token
  -- a part of a template up to an expression in it or to its end (12.9.6)
  Span : List ℕ → Token
  -- no token: behind it no line may end before the next token (a restricted production, 12.10.1)
  NoLine : Token

abbrev pub source_of : Token → List ℕ
source_of (Name cs) = cs
source_of (Mark cs) = cs
source_of (Numeral cs) = cs
source_of (Quoted cs) = cs
source_of (Expressed cs) = cs
source_of (Span cs) = cs
source_of NoLine = []

abbrev pub is_token : Token → Bool
is_token NoLine = false
is_token _ = true

-- Where a token ends.

abbrev pub begins_with : (ℕ → Bool) → List ℕ → Bool
begins_with test [] = false
begins_with test (c ∷ cs) = test c

-- a character that goes on a name or a number (12.7), or would begin an escape in it. `is_continue`
-- are the characters of Unicode's property ID_Continue
abbrev pub is_name_part : (ℕ → Bool) → ℕ → Bool
is_name_part is_continue c =
    is_continue c || (c == 36 || (c == 95 || (c == 92 || (c == 0x200C || c == 0x200D))))

abbrev pub punctuators : List (List ℕ)
punctuators =
    codes "{" ∷ codes "(" ∷ codes ")" ∷ codes "[" ∷ codes "]" ∷ codes "." ∷ codes "..." ∷ codes ";"
    ∷ codes "," ∷ codes "<" ∷ codes ">" ∷ codes "<=" ∷ codes ">=" ∷ codes "==" ∷ codes "!="
    ∷ codes "===" ∷ codes "!==" ∷ codes "+" ∷ codes "-" ∷ codes "*" ∷ codes "%" ∷ codes "**"
    ∷ codes "++" ∷ codes "--" ∷ codes "<<" ∷ codes ">>" ∷ codes ">>>" ∷ codes "&" ∷ codes "|"
    ∷ codes "^" ∷ codes "!" ∷ codes "~" ∷ codes "&&" ∷ codes "||" ∷ codes "??" ∷ codes "?"
    ∷ codes ":" ∷ codes "=" ∷ codes "+=" ∷ codes "-=" ∷ codes "*=" ∷ codes "%=" ∷ codes "**="
    ∷ codes "<<=" ∷ codes ">>=" ∷ codes ">>>=" ∷ codes "&=" ∷ codes "|=" ∷ codes "^=" ∷ codes "&&="
    ∷ codes "||=" ∷ codes "??=" ∷ codes "=>" ∷ codes "/" ∷ codes "/=" ∷ codes "}" ∷ []

-- whether a longer punctuator, a comment or a number begins where a punctuator stands. `?.` is one
-- only where no digit stands behind it
abbrev pub goes_on : List ℕ → List ℕ → Bool
goes_on mark rest =
    list_any (λ p. nat_lt (length mark) (length p) && starts_with nat_eq (mark ++ rest) p)
    (codes "//" ∷ codes "/*" ∷ punctuators)
    || ((starts_with nat_eq mark (codes "?") && (nat_eq (length mark) 1
    && (begins_with (λ c. c == 46) rest && not (has_digit_second rest))))
    || (starts_with nat_eq mark (codes ".") && (nat_eq (length mark) 1
    && begins_with is_ascii_digit rest)))
  where
    has_digit_second : List ℕ → Bool
    has_digit_second [] = false
    has_digit_second (c ∷ cs) = begins_with is_ascii_digit cs

-- a number to which a dot behind it would belong: decimal digits alone
abbrev pub is_whole : List ℕ → Bool
is_whole cs = list_all (λ c. is_ascii_digit c || c == 95) cs

-- whether a token that is read as long as it goes ends where the rest of the text begins
abbrev pub ends_before : (ℕ → Bool) → Token → List ℕ → Bool
ends_before is_continue (Name cs) rest = not (begins_with (is_name_part is_continue) rest)
ends_before is_continue (Mark cs) rest = not (goes_on cs rest)
ends_before is_continue (Numeral cs) rest =
    not (begins_with (is_name_part is_continue) rest)
    && not (is_whole cs && begins_with (λ c. c == 46) rest)
ends_before is_continue (Quoted cs) rest = true
ends_before is_continue (Expressed cs) rest = not (begins_with (is_name_part is_continue) rest)
ends_before is_continue (Span cs) rest = true
ends_before is_continue NoLine rest = true

-- What stands between tokens.

-- a LineTerminator (12.3)
abbrev pub is_line_end : ℕ → Bool
is_line_end c = c == 10 || (c == 13 || (c == 0x2028 || c == 0x2029))

-- WhiteSpace (12.2)
abbrev pub is_space : ℕ → Bool
is_space c =
    c == 9 || (c == 11 || (c == 12 || (c == 32 || (c == 0xA0 || (c == 0xFEFF || (c == 0x1680
    || ((nat_le 0x2000 c && nat_le c 0x200A) || (c == 0x202F || (c == 0x205F || c == 0x3000)))))))))

-- whether `*/` stands in some characters, of which a star stands in front or not
abbrev pub has_close : Bool → List ℕ → Bool
has_close star [] = false
has_close star (c ∷ cs) = (star && c == 47) || has_close (c == 42) cs

-- white space, line ends and comments (12.2 to 12.4), with a line end among them only if that is
-- said. A comment of several lines counts as one
pub data IsGap : Bool → List ℕ → Type 0 where
  nothing : {lines : Bool} → IsGap lines []
  space : {lines : Bool} {c : ℕ} {cs : List ℕ} → is_space c ≡ true →
      IsGap lines cs → IsGap lines (c ∷ cs)
  line : {c : ℕ} {cs : List ℕ} → is_line_end c ≡ true → IsGap true cs → IsGap true (c ∷ cs)
  comment : {lines : Bool} (inside : List ℕ) {cs : List ℕ} → has_close false inside ≡ false →
      (list_any is_line_end inside && not lines) ≡ false → IsGap lines cs →
      IsGap lines (codes "/*" ++ inside ++ codes "*/" ++ cs)
  line_comment : (c : ℕ) (inside : List ℕ) {cs : List ℕ} → list_any is_line_end inside ≡ false →
      is_line_end c ≡ true → IsGap true cs → IsGap true (codes "//" ++ inside ++ (c ∷ cs))

-- the tokens of a text. Each is a token by itself, and is read as long as it goes
pub data AreTokens (is_continue : ℕ → Bool) : List Token → List ℕ → Type 0 where
  none : {gap : List ℕ} → IsGap true gap → AreTokens is_continue [] gap
  next : {t : Token} {ts : List Token} {gap rest : List ℕ} → is_token t ≡ true →
      IsGap true gap → ends_before is_continue t rest ≡ true → AreTokens is_continue ts rest →
      AreTokens is_continue (t ∷ ts) (gap ++ source_of t ++ rest)
  next_on_line : {t : Token} {ts : List Token} {gap rest : List ℕ} → is_token t ≡ true →
      IsGap false gap → ends_before is_continue t rest ≡ true → AreTokens is_continue ts rest →
      AreTokens is_continue (NoLine ∷ t ∷ ts) (gap ++ source_of t ++ rest)
