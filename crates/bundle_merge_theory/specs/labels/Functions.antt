-- Labels of names inside the function of a CommonJS module.
use Rattle.std.specs.Prelude.{ℕ}
use Rattle.bundle_rules.specs.Nodes.{Text}
use Rattle.bundle_rules.specs.Program.{Program, IsReached}
use Rattle.bundle_rules.specs.Linking.{IsCommonJs, Declared}
use Rattle.bundle_rules.specs.Meaning.{Label, Of, Parameter}

-- a name that a reached CommonJS module declares, or that is given to it
pub data IsOfFunction (p : Program) : Label → Type 0 where
  a_name : {c : ℕ} {x : Text} →
      IsReached p c →
      IsCommonJs p c →
      IsOfFunction p (Of (Declared c x))
  a_parameter : {c : ℕ} {x : Text} →
      IsReached p c →
      IsCommonJs p c →
      IsOfFunction p (Parameter c x)
