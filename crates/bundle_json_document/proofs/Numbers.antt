-- The number that a value is, as it is read.
use Rattle.std.proofs.Common.{◌≡◌, ℕ, List, Bool, true, false, ℤ, Float, Option, Some, None, if◌then◌else◌, option_and_then, unwrap_or, refl, sym, ap, ◌∙◌}
use Rattle.std.specs.Float.{inf}
use Rattle.fast_float.specs.Text.{Parts}
use Rattle.json.specs.Find as find
use Rattle.json.specs.Json as json
use Rattle.serde_json.specs.Data.{Num, negative, float}
use Rattle.serde_json.specs.Find.{as_number, as_u64}
use Rattle.serde_json.specs.Read.{number_from, number_of}
use Rattle.bundle_json_form.specs.Plain.{plain}

no_unsigned_at : (b c : Bool) (z : ℤ) (x : Float)
    → option_and_then as_u64 (if b then Some (negative z) else (if c then Some (float x) else None)) ≡ None
no_unsigned_at true c z x = refl
no_unsigned_at false true z x = refl
no_unsigned_at false false z x = refl

-- a number with a minus is none without a sign
pub no_unsigned : (p : Parts) → option_and_then as_u64 (number_from true p) ≡ None
no_unsigned p = no_unsigned_at _ _ _ _

as_seen : (o : Option Num) (x : Float)
    → option_and_then as_u64 (Some (unwrap_or o (float x))) ≡ option_and_then as_u64 o
as_seen None x = refl
as_seen (Some n) x = refl

-- the digits that were found are those of the value
pub number_found : (j : json.Json) (s : List ℕ) (r : Option ℕ) → Some s ≡ find.as_number j
    → r ≡ option_and_then as_u64 (number_of s) → r ≡ option_and_then as_u64 (as_number (plain j))
number_found json.null s r e is = absurd (cc)
number_found (json.boolean b) s r e is = absurd (cc)
number_found (json.number t) s r e is =
    let same : s ≡ t = (cc) in
    is ∙ ap (λ it. option_and_then as_u64 (number_of it)) same ∙ sym (as_seen (number_of t) (inf false))
number_found (json.string t) s r e is = absurd (cc)
number_found (json.array js) s r e is = absurd (cc)
number_found (json.object ms) s r e is = absurd (cc)

-- a value without digits is no number
pub no_number_found : (j : json.Json) → None ≡ find.as_number j
    → None ≡ option_and_then as_u64 (as_number (plain j))
no_number_found json.null e = refl
no_number_found (json.boolean b) e = refl
no_number_found (json.number t) e = absurd (cc)
no_number_found (json.string t) e = refl
no_number_found (json.array js) e = refl
no_number_found (json.object ms) e = refl
