-- Why words are refused.
use Rattle.std.specs.Prelude.{◌≡◌, ℕ, List, string_bytes}
use Rattle.std.specs.Option.{option_map}
use Rattle.gutsirava_words.specs.Nearest.{IsNearestOf}
use Rattle.gutsirava_words.specs.declared.error.WordsError.{WordsError}
use Rattle.gutsirava_words.specs.declared.error.WordsError.TheVariants.{Unknown, OutOfMemory}

-- there is no option of this name, with the nearest, or memory was refused
abbrev pub IsUnknown : List ℕ → WordsError → Type 0
IsUnknown name (Unknown word nearest) =
    (string_bytes word ≡ name) × IsNearestOf name (option_map (λ it. it.now) nearest)
IsUnknown name OutOfMemory = Unit {0}
IsUnknown name _ = ⊥
