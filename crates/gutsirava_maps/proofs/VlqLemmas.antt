-- What a digit is to the numbers behind it.
use Rattle.std.proofs.Common.{◌≡◌, ℕ, ◌+◌, ◌*◌, ◌/◌, ◌%◌, ◌-◌, ◌<◌, ◌≤◌, List, [], ◌∷◌, ◌++◌, ap, append_assoc, ◌∙◌, arith}
use Rattle.std.proofs.lemmas.Grind.{common_steps}
use Rattle.gutsirava_maps.specs.Vlq.{Writes, digit_code, digit_value, numbers_in, with_digit}

-- a digit is read from its character
pub digit_read : (n : ℕ) → n < 64 → digit_value (digit_code n) ≡ n
digit_read n low = grind (arith, common_steps)

-- one below 32 is a number
pub digit_low : (d : ℕ) (numbers : List ℕ) → d < 32 → with_digit d numbers ≡ d ∷ numbers
digit_low d numbers low = grind (arith, common_steps)

-- one of 32 or more is five bits of the number behind it
pub digit_high : (d n : ℕ) (numbers : List ℕ) → 32 ≤ d → with_digit d (n ∷ numbers) ≡ (d - 32 + 32 * n) ∷ numbers
digit_high d n numbers high = grind (arith, common_steps)

-- the last digit of a number
pub writes_last : (old new : List ℕ) (value : ℕ) → value < 32 → new ≡ old ++ (digit_code value ∷ []) → Writes old new (value ∷ [])
writes_last old new value low there = record {
  digits = digit_code value ∷ [];
  there = there;
  read = λ rest. ap (λ d. with_digit d (numbers_in rest)) (digit_read value (omega arith))
      ∙ digit_low value (numbers_in rest) low;
}

-- a digit before those of the rest of a number
pub writes_more : (old mid new : List ℕ) (value : ℕ) → 32 ≤ value → mid ≡ old ++ (digit_code (value % 32 + 32) ∷ [])
    → Writes mid new (value / 32 ∷ []) → Writes old new (value ∷ [])
writes_more old mid new value high there more =
    let low : value % 32 < 32 = grind arith in
    let whole : value % 32 + 32 - 32 + 32 * (value / 32) ≡ value = grind arith in
    record {
      digits = digit_code (value % 32 + 32) ∷ more.digits;
      there = more.there ∙ ap (λ t. t ++ more.digits) there ∙ append_assoc old (digit_code (value % 32 + 32) ∷ []) more.digits;
      read = λ rest.
          ap (λ d. with_digit d (numbers_in (more.digits ++ rest))) (digit_read (value % 32 + 32) (omega arith))
          ∙ ap (with_digit (value % 32 + 32)) (more.read rest)
          ∙ digit_high (value % 32 + 32) (value / 32) (numbers_in rest) (omega arith)
          ∙ ap (λ n. n ∷ numbers_in rest) whole;
    }
