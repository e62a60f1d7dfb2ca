-- Programs that no bundler keeps, and that a linker may be handed.
use Rattle.std.specs.Prelude.{◌≡◌, ℕ, ◌==◌, cond, false, [], ◌∷◌, Option, Some, None, codes}
use Rattle.std.proofs.Common.{refl}
use Rattle.bundle_rules.specs.Program.{Loaded, Program, file_of, requested}
use Rattle.bundle_rules.proofs.Trees.{imports_bare}
use Rattle.bundle_rules.proofs.Programs.{main_js, loaded, settings_with}

-- two modules of one file, with the numbers 4 and 7
abbrev module_at : ℕ → Option Loaded
module_at m = cond (m == 4) (Some (loaded main_js (imports_bare (codes "./x")))) (cond (m == 7) (Some (loaded main_js [])) None)

abbrev with_gaps : Program
with_gaps = record {
  settings = settings_with false;
  entry = 4;
  count = 8;
  files = λ m. Some main_js;
  modules = module_at;
  leads = λ m s. Some 7;
}

asks_the_other : requested with_gaps 4 ≡ 7 ∷ []
asks_the_other = refl

of_one_file : file_of with_gaps 4 ≡ file_of with_gaps 7
of_one_file = refl
