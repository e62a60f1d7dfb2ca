-- What the spellings of letters in a string literal are read as.
use Rattle.std.proofs.Common.{◌≡◌, ◌≢◌, ℕ, zero, suc, ◌+◌, ◌-◌, ◌*◌, ◌/◌, ◌%◌, ◌<◌, ◌≤◌, eqb, cond, ltb, Bool, true, false, inl, List, [], ◌∷◌, ◌++◌, Option, Some, None, option_map, option_and_then, flat_map, encode_utf8, encode_utf8_all, refl, sym, ap, ◌∙◌, append_assoc, arith, Result, Ok, Err, is_ok, OnOk, map, if◌then◌else◌, chars}
use Rattle.std.proofs.lemmas.Bool.Decides.{nat_tests}
use Rattle.std.proofs.lemmas.Str.{digit_value-digit_char, encodes-append}
use Rattle.std.proofs.lemmas.Bool.{le-ltb, lt-ltb, ltb-true, ltb-false}
use Rattle.std.proofs.lemmas.List.{append-nil}
use Rattle.std.specs.Char.{digit_char}
use Rattle.std.specs.List.{AllByRecursion}
use Rattle.bundle_js_print.specs.declared.text.Charset.{Charset}
use Rattle.std.specs.Char.Escape.{encode_utf16}
use Rattle.bundle_js_print.specs.Literal.{Reading, Whole, Backslash, Unicode, Digits, Allows, PutsLiteral, Writes, Reads, step, value_from, single_escape, digit, digit_pair, byte_escape, unit_escape}

map_twice : (us vs : List ℕ) (o : Option (List ℕ)) → option_map (λ ws. us ++ ws) (option_map (λ ws. vs ++ ws) o) ≡ option_map (λ ws. (us ++ vs) ++ ws) o
map_twice us vs None = refl
map_twice us vs (Some ws) = ap Some (sym (append_assoc us vs ws))

-- one reading behind another
pub Reads-append : (r s t : Reading) (v w us ws : List ℕ) → Reads r s v us → Reads s t w ws → Reads r t (v ++ w) (us ++ ws)
Reads-append r s t v w us ws f g rest =
    ap (value_from 34 r) (append_assoc v w rest) ∙ f (w ++ rest)
    ∙ ap (option_map (λ xs. us ++ xs)) (g rest) ∙ map_twice us ws (value_from 34 t rest)

-- one character
pub Reads-one : (r s : Reading) (c : ℕ) (us : List ℕ) → step 34 r c ≡ Some (s, us) → Reads r s (c ∷ []) us
Reads-one r s c us e rest =
    ap (option_and_then (λ p. option_map (λ ws. p.1 ++ ws) (value_from 34 p.0 rest))) e

-- a letter by itself
pub Reads-itself : (c : ℕ) → c ≢ 34 → c ≢ 92 → c ≢ 10 → c ≢ 13 → Reads Whole Whole (c ∷ []) (encode_utf16 c)
Reads-itself c a b d e = Reads-one Whole Whole c (encode_utf16 c) (grind (arith, nat_tests))

-- a letter behind a backslash
pub Reads-escaped : (by c : ℕ) → single_escape by ≡ Some c → Reads Whole Whole (92 ∷ by ∷ []) (encode_utf16 c)
Reads-escaped by c e =
    Reads-append Whole Backslash Whole (92 ∷ []) (by ∷ []) [] (encode_utf16 c)
    (Reads-one Whole Backslash 92 [] refl)
    (Reads-one Backslash Whole by (encode_utf16 c) (rw e refl))

-- a hexadecimal digit that is not the last
digit-more : (n v d : ℕ) → d < 16 → digit (suc n) v (digit_char d) ≡ Some (Digits n (v * 16 + d), [])
digit-more n v d h =
    ap (λ x. cond (ltb x 16) (Some (Digits n (v * 16 + x), [])) None) (digit_value-digit_char d (omega arith))
    ∙ rw (lt-ltb d 16 h) refl

digit-last : (v d : ℕ) → d < 16 → digit zero v (digit_char d) ≡ Some (Whole, (v * 16 + d) ∷ [])
digit-last v d h =
    ap (λ x. cond (ltb x 16) (Some (Whole, (v * 16 + x) ∷ [])) None) (digit_value-digit_char d (omega arith))
    ∙ rw (lt-ltb d 16 h) refl

-- the last two digits, which make this number
pair-last : (v b n : ℕ) → (v * 16 + b / 16 % 16) * 16 + b % 16 ≡ n → Reads (Digits 1 v) Whole (digit_pair b) (n ∷ [])
pair-last v b n e =
    Reads-append (Digits 1 v) (Digits 0 (v * 16 + b / 16 % 16)) Whole (digit_char (b / 16 % 16) ∷ []) (digit_char (b % 16) ∷ []) [] (n ∷ [])
    (Reads-one (Digits 1 v) _ (digit_char (b / 16 % 16)) [] (digit-more 0 v (b / 16 % 16) (omega arith)))
    (Reads-one (Digits 0 (v * 16 + b / 16 % 16)) Whole (digit_char (b % 16)) (n ∷ [])
    (digit-last (v * 16 + b / 16 % 16) (b % 16) (omega arith) ∙ ap (λ (x : ℕ). Some (Whole, x ∷ [])) e))

one_unit : (c : ℕ) → c < 65536 → encode_utf16 c ≡ c ∷ []
one_unit c h = rw (lt-ltb c 65536 h) refl

-- a byte by two digits
pub Reads-byte : (c : ℕ) → c < 256 → Reads Whole Whole (byte_escape c) (encode_utf16 c)
Reads-byte c h =
    rw (one_unit c (omega arith))
    (Reads-append Whole Backslash Whole (92 ∷ []) (120 ∷ digit_pair c) [] (c ∷ [])
    (Reads-one Whole Backslash 92 [] refl)
    (Reads-append Backslash (Digits 1 0) Whole (120 ∷ []) (digit_pair c) [] (c ∷ [])
    (Reads-one Backslash (Digits 1 0) 120 [] refl) (pair-last 0 c c (omega arith))))

-- the first of four digits
digit-first : (d : ℕ) → d < 16 → step 34 Unicode (digit_char d) ≡ Some (Digits 2 (0 * 16 + d), [])
digit-first d h =
    let no_brace : eqb (digit_char d) 123 ≡ false = grind (arith, nat_tests) in
    rw no_brace (digit-more 2 0 d h)

-- a unit by four digits
pub Reads-unit : (u : ℕ) → u < 65536 → Reads Whole Whole (unit_escape u) (u ∷ [])
Reads-unit u h =
    let first = u / 256 / 16 % 16 in
    let second = u / 256 % 16 in
    Reads-append Whole Unicode Whole (92 ∷ 117 ∷ []) (digit_pair (u / 256) ++ digit_pair u) [] (u ∷ [])
    (Reads-append Whole Backslash Unicode (92 ∷ []) (117 ∷ []) [] []
    (Reads-one Whole Backslash 92 [] refl) (Reads-one Backslash Unicode 117 [] refl))
    (Reads-append Unicode (Digits 2 (0 * 16 + first)) Whole (digit_char first ∷ []) (digit_char second ∷ digit_pair u) [] (u ∷ [])
    (Reads-one Unicode _ (digit_char first) [] (digit-first first (omega arith)))
    (Reads-append (Digits 2 (0 * 16 + first)) (Digits 1 ((0 * 16 + first) * 16 + second)) Whole (digit_char second ∷ []) (digit_pair u) [] (u ∷ [])
    (Reads-one (Digits 2 (0 * 16 + first)) _ (digit_char second) [] (digit-more 1 (0 * 16 + first) second (omega arith)))
    (pair-last ((0 * 16 + first) * 16 + second) u u (omega arith))))

two_units : (c : ℕ) → 65536 ≤ c → encode_utf16 c ≡ (0xD800 + (c - 65536) / 1024) ∷ (0xDC00 + (c - 65536) % 1024) ∷ []
two_units c h = rw (le-ltb c 65536 h) refl

-- a letter by its units
pub Reads-units : (c : ℕ) → c < 0x110000 → Reads Whole Whole (flat_map unit_escape (encode_utf16 c)) (encode_utf16 c)
Reads-units c h = cases (ltb c 65536) refl where
  cases : (b : Bool) → ltb c 65536 ≡ b → Reads Whole Whole (flat_map unit_escape (encode_utf16 c)) (encode_utf16 c)
  cases true e =
      let low = ltb-true c 65536 e in
      rw (one_unit c low) (Reads-unit c low)
  cases false e =
      let high = 0xD800 + (c - 65536) / 1024 in
      let low = 0xDC00 + (c - 65536) % 1024 in
      rw (two_units c (ltb-false c 65536 e))
      (Reads-append Whole Whole Whole (unit_escape high) (unit_escape low) (high ∷ []) (low ∷ [])
      (Reads-unit high (omega arith)) (Reads-unit low (omega arith)))

-- two units put one behind the other
pub units-pushed : (old a b : List ℕ) (c : ℕ) → 65536 ≤ c → a ≡ old ++ encode_utf8_all (unit_escape (0xD800 + (c - 65536) / 1024)) → b ≡ a ++ encode_utf8_all (unit_escape (0xDC00 + (c - 65536) % 1024)) → b ≡ old ++ encode_utf8_all (flat_map unit_escape (encode_utf16 c))
units-pushed old a b c h e f =
    let high = unit_escape (0xD800 + (c - 65536) / 1024) in
    let low = unit_escape (0xDC00 + (c - 65536) % 1024) in
    rw (two_units c h)
    (f ∙ ap (λ (x : List ℕ). x ++ encode_utf8_all low) e
    ∙ append_assoc old (encode_utf8_all high) (encode_utf8_all low)
    ∙ ap (λ (x : List ℕ). old ++ x) (sym (encodes-append high low)))

-- where a push succeeds
pub on_push : {P T E : Type 0} (r : Result T E) (s x y : List ℕ) → s ≡ (if is_ok r then x else y) → (s ≡ x → P) → OnOk r P
on_push (Ok v) s x y e f = f e
on_push (Err v) s x y e f = tt

allowed-ascii : (charset : Charset) (c : ℕ) → 32 ≤ c → c < 127 → Allows charset c
allowed-ascii charset c h k = (h, λ e. absurd (omega arith), λ e. absurd (omega arith), λ e. k)

allowed-digit : (charset : Charset) (d : ℕ) → d < 16 → Allows charset (digit_char d)
allowed-digit charset d h =
    let low : 32 ≤ digit_char d = grind (arith, nat_tests) in
    let high : digit_char d < 127 = grind (arith, nat_tests) in
    allowed-ascii charset (digit_char d) low high

allowed-append : (charset : Charset) (v w : List ℕ) → AllByRecursion (Allows charset) v → AllByRecursion (Allows charset) w → AllByRecursion (Allows charset) (v ++ w)
allowed-append charset [] w h k = k
allowed-append charset (c ∷ v) w h k = (h.0, allowed-append charset v w h.1 k)

allowed-pair : (charset : Charset) (n : ℕ) → AllByRecursion (Allows charset) (digit_pair n)
allowed-pair charset n =
    (allowed-digit charset (n / 16 % 16) (omega arith), (allowed-digit charset (n % 16) (omega arith), tt))

allowed-unit : (charset : Charset) (u : ℕ) → AllByRecursion (Allows charset) (unit_escape u)
allowed-unit charset u = (
  allowed-ascii charset 92 (omega arith) (omega arith),
  (
    allowed-ascii charset 117 (omega arith) (omega arith),
    allowed-append charset (digit_pair (u / 256)) (digit_pair u) (allowed-pair charset (u / 256)) (allowed-pair charset u),
  ),
)

allowed-units : (charset : Charset) (us : List ℕ) → AllByRecursion (Allows charset) (flat_map unit_escape us)
allowed-units charset [] = tt
allowed-units charset (u ∷ us) =
    allowed-append charset (unit_escape u) (flat_map unit_escape us) (allowed-unit charset u) (allowed-units charset us)

pub Writes-itself : (charset : Charset) (a b : List ℕ) (c : ℕ) → Allows charset c → c ≢ 34 → c ≢ 92 → b ≡ a ++ encode_utf8 c → Writes charset a b (encode_utf16 c)
Writes-itself charset a b c h i j e = record {
  written = c ∷ [];
  bytes = e ∙ ap (λ (x : List ℕ). a ++ x) (sym (append-nil (encode_utf8 c)));
  reads = Reads-itself c i j (λ n. absurd (omega (arith, h.0))) (λ n. absurd (omega (arith, h.0)));
  allowed = (h, tt);
}

pub Writes-escaped : (charset : Charset) (a b : List ℕ) (by c : ℕ) → 32 ≤ by → by < 127 → single_escape by ≡ Some c → b ≡ a ++ encode_utf8_all (92 ∷ by ∷ []) → Writes charset a b (encode_utf16 c)
Writes-escaped charset a b by c h k s e = record {
  written = 92 ∷ by ∷ [];
  bytes = e;
  reads = Reads-escaped by c s;
  allowed = (allowed-ascii charset 92 (omega arith) (omega arith), (allowed-ascii charset by h k, tt));
}

pub Writes-byte : (charset : Charset) (a b : List ℕ) (c : ℕ) → c < 256 → b ≡ a ++ encode_utf8_all (byte_escape c) → Writes charset a b (encode_utf16 c)
Writes-byte charset a b c h e = record {
  written = byte_escape c;
  bytes = e;
  reads = Reads-byte c h;
  allowed = (allowed-ascii charset 92 (omega arith) (omega arith), (allowed-ascii charset 120 (omega arith) (omega arith), allowed-pair charset c));
}

pub Writes-units : (charset : Charset) (a b : List ℕ) (c : ℕ) → c < 0x110000 → b ≡ a ++ encode_utf8_all (flat_map unit_escape (encode_utf16 c)) → Writes charset a b (encode_utf16 c)
Writes-units charset a b c h e = record {
  written = flat_map unit_escape (encode_utf16 c);
  bytes = e;
  reads = Reads-units c h;
  allowed = allowed-units charset (encode_utf16 c);
}

pub Writes-append : (charset : Charset) (a b c us vs : List ℕ) → Writes charset a b us → Writes charset b c vs → Writes charset a c (us ++ vs)
Writes-append charset a b c us vs v w = record {
  written = v.written ++ w.written;
  bytes = w.bytes ∙ ap (λ (x : List ℕ). x ++ encode_utf8_all w.written) v.bytes
      ∙ append_assoc a (encode_utf8_all v.written) (encode_utf8_all w.written)
      ∙ ap (λ (x : List ℕ). a ++ x) (sym (encodes-append v.written w.written));
  reads = Reads-append Whole Whole Whole v.written w.written us vs v.reads w.reads;
  allowed = allowed-append charset v.written w.written v.allowed w.allowed;
}

pub Writes-nil : (charset : Charset) (a : List ℕ) → Writes charset a a []
Writes-nil charset a = record {
  written = [];
  bytes = sym (append-nil a);
  reads = λ rest. sym (map_none (value_from 34 Whole rest));
  allowed = tt;
} where
  map_none : (o : Option (List ℕ)) → option_map (λ us. [] ++ us) o ≡ o
  map_none None = refl
  map_none (Some us) = refl

-- one letter more
pub Writes-push : (charset : Charset) (a b c : List ℕ) (letters : List ℕ) (l : ℕ) → Writes charset a b (flat_map encode_utf16 letters) → Writes charset b c (encode_utf16 l) → Writes charset a c (flat_map encode_utf16 (letters ++ l ∷ []))
Writes-push charset a b c letters l v w =
    rw (flat_map-push letters l) (Writes-append charset a b c (flat_map encode_utf16 letters) (encode_utf16 l) v w) where
      flat_map-push : (ls : List ℕ) (l : ℕ) → flat_map encode_utf16 (ls ++ l ∷ []) ≡ flat_map encode_utf16 ls ++ encode_utf16 l
      flat_map-push [] l = append-nil (encode_utf16 l)
      flat_map-push (k ∷ ls) l =
          ap (λ (x : List ℕ). encode_utf16 k ++ x) (flat_map-push ls l)
          ∙ sym (append_assoc (encode_utf16 k) (flat_map encode_utf16 ls) (encode_utf16 l))

map-same : (xs : List ℕ) → map (λ c. c) xs ≡ xs
map-same [] = refl
map-same (x ∷ xs) = ap (λ (ys : List ℕ). x ∷ ys) (map-same xs)

-- quotes around what was written
pub PutsLiteral-quoted : (charset : Charset) (old a b new value letters : List ℕ) → a ≡ old ++ encode_utf8 34 → Writes charset a b (flat_map encode_utf16 letters) → map (λ c. c) letters ≡ chars value → new ≡ b ++ encode_utf8 34 → PutsLiteral charset old new value
PutsLiteral-quoted charset old a b new value letters e w l f = record {
  literal = (34 ∷ w.written) ++ 34 ∷ [];
  bytes = f ∙ ap (λ (x : List ℕ). x ++ encode_utf8 34) (w.bytes ∙ ap (λ (x : List ℕ). x ++ encode_utf8_all w.written) e)
      ∙ simp (append_assoc, encodes-append, append-nil);
  is_read = (
    34,
    w.written,
    inl refl,
    refl,
    ap (value_from 34 Whole) (sym (append-nil w.written)) ∙ w.reads []
        ∙ ap Some (append-nil (flat_map encode_utf16 letters))
        ∙ ap (λ (x : List ℕ). Some (flat_map encode_utf16 x)) (sym (map-same letters) ∙ l),
  );
  allowed = allowed-append charset (34 ∷ w.written) (34 ∷ [])
      (allowed-ascii charset 34 (omega arith) (omega arith), w.allowed) (allowed-ascii charset 34 (omega arith) (omega arith), tt);
}
