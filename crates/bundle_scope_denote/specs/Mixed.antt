-- How numbers are hashed: each is folded into what stands before, by one product of 128 bits, and
-- at first stands what the salt of the list makes.
use Rattle.std.specs.Prelude.{ℕ, ◌*◌, ◌/◌, ◌^◌, ◌-◌, ◌==◌, cond, List, length, bit_and, bit_xor}
use Rattle.std.specs.List.{fold}
use Rattle.std.specs.Int.{w64, from_le_bytes}
use Rattle.std.specs.Hash.DefaultHasher as sip
use Rattle.bundle_scope_denote.specs.declared.salt.Salt.{Salt}
use Rattle.bundle_scope_denote.specs.declared.mixed.Mixed.{Mixed}
use Rattle.bundle_scope_denote.specs.declared.mixed.Mixer.{Mixer}

-- the two halves of the 128 bits of a * b, joined by xor
abbrev pub folded : ℕ → ℕ → ℕ
folded a b = bit_xor (bit_and (a * b) (2 ^ 64 - 1)) (a * b / 2 ^ 64)

-- one more number is folded in
abbrev pub mix : Mixer → ℕ → Mixer
mix mixer number = record { state = folded (bit_xor mixer.state number) 0x9e3779b97f4a7c15 }

-- eight bytes are one number, and of any other bytes each is one
abbrev pub mix_bytes : Mixer → List ℕ → Mixer
mix_bytes mixer bytes =
    cond (length bytes == 8) (mix mixer (from_le_bytes w64 bytes)) (fold mix mixer bytes)

-- hashers begin with what the salt's hashers make of nothing more
abbrev pub mixed_by : Salt → Mixed
mixed_by salt = record { begun = record { state = sip.finish salt.begun } }
