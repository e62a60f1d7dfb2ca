-- The name that is told.
use Rattle.std.proofs.Common.{◌≡◌, ℕ, List, Option, Some, None, option_map, refl, ap, sym, ◌∙◌}
use Rattle.bundle_rules.specs.Declarations.{Declared}
use Rattle.bundle_scope_denote.specs.declared.table.Doubled.{Doubled}
use Rattle.bundle_scope_denote.specs.Listed.{place_and_symbol, doubled_told}

-- what is told of a declaration is told with its name
pub told-is : (found : Option Declared) (doubled : Doubled) (told : Option Doubled) → told ≡ Some doubled → option_map doubled_told told ≡ option_map place_and_symbol found → option_map (λ declared. declared.name.sym) found ≡ Some doubled.name.now
told-is found doubled told is same = by found ∙ ap (option_map (λ (pair : ℕ × List ℕ). pair.1)) (sym same ∙ ap (option_map doubled_told) is)
  where
    by : (found : Option Declared) → option_map (λ (declared : Declared). declared.name.sym) found ≡ option_map (λ (pair : ℕ × List ℕ). pair.1) (option_map place_and_symbol found)
    by (Some declared) = refl
    by None = refl
