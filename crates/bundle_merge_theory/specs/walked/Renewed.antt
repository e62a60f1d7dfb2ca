-- Names of two bundles that denote alike.
use Rattle.std.specs.Prelude.{◌≡◌, ℕ}
use Rattle.bundle_rules.specs.Denotes.{Denoted}
use Rattle.bundle_rules.specs.Meaning.{is_inside}

-- what is denoted becomes that, and is inside of one item exactly where that is inside of the
-- other
abbrev pub Renews : (Becomes : Denoted → Denoted → Type 0) → (here there : ℕ) → Denoted → Denoted →
    Type 0
Renews Becomes here there d e = Becomes d e × (is_inside here d ≡ is_inside there e)
