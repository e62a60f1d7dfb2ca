-- A module is read as the kind that it is.
use Rattle.std.proofs.Common.{◌≡◌, ℕ, Bool, true, false, refl}
use Rattle.std.specs.Prelude.{if◌then◌else◌}
use Rattle.std.proofs.lemmas.Bool.{false≢true}
use Rattle.bundle_rules.specs.Meaning.{HasKind, is_es, is_common_js}
use Rattle.bundle_rules.specs.Program.{Program}
use Rattle.bundle_rules.specs.Scopes.{ModuleKind, Es, Cjs}
use Rattle.bundle_rules.specs.Tables.{TellsCommonJs}

pub kind-is : (p : Program) (m : ℕ) (b : Bool) (kind : ModuleKind) → TellsCommonJs p m b →
    HasKind p m kind → kind ≡ (if b then Cjs else Es)
kind-is p m true _ tells (is_es not) = absurd (not (tells.0 refl))
kind-is p m false _ tells (is_es not) = refl
kind-is p m true _ tells (is_common_js common) = refl
kind-is p m false _ tells (is_common_js common) = absurd (false≢true (tells.1 common))
