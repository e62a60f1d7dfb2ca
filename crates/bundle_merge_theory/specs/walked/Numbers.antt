-- Which numbers the bindings inside a statement have, in the module and in the bundle.
use Rattle.std.specs.Prelude.{◌≡◌}
use Rattle.bundle_rules.specs.Denotes.{Denoted}
use Rattle.bundle_rules.specs.Mentions.{same_denoted}

-- what is one in the module is one in the bundle, and the other way round
abbrev pub AreDenotedOneToOne : (Denoted → Denoted → Type 0) → Type 0
AreDenotedOneToOne Becomes =
    (a b other_a other_b : Denoted) → Becomes a other_a → Becomes b other_b →
    same_denoted a b ≡ same_denoted other_a other_b
