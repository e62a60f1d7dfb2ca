-- Labels of names inside the function of a CommonJS module.
use Rattle.std.specs.Prelude.{◌≡◌, ◌⊎◌, ℕ}
use Rattle.bundle_rules.specs.Nodes.{Text}
use Rattle.bundle_rules.specs.Program.{Program, IsReached}
use Rattle.bundle_rules.specs.Linking.{IsCommonJs, Declared}
use Rattle.bundle_rules.specs.Meaning.{Label, Of, Parameter}

-- a name that a reached CommonJS module declares, or that is given to it
pub record IsInFunction (p : Program) (l : Label) : Type 0 where
  pub c : ℕ
  pub x : Text
  pub reached : IsReached p c
  pub common_js : IsCommonJs p c
  pub is : (l ≡ Of (Declared c x)) ⊎ (l ≡ Parameter c x)
