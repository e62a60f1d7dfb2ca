-- The texts of the reasons why aliases are not inlined.
use Rattle.std.specs.Prelude.{ℕ, List, codes}
use Rattle.bundle_merge_modules.specs.declared.inline.InlineError.{InlineError}
use Rattle.bundle_merge_modules.specs.declared.inline.InlineError.TheVariants.{Cycle, Memory}

abbrev pub shown : InlineError → List ℕ
shown Cycle = codes "aliases form a cycle"
shown Memory = codes "out of memory"
