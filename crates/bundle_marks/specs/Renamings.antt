-- What renamings of the code stand for, and when two say the same.
use Rattle.std.specs.Prelude.{◌≡◌, false}
use Rattle.std.specs.Map.{lookup}
use Rattle.bundle_rules.specs.Idents.{Ident}
use Rattle.bundle_rules.specs.Rebuilds as r
use Rattle.bundle_rules.specs.Rebuilds.{ident_eq}
use Rattle.bundle_tree.specs.IdName.{IdName}
use Rattle.bundle_marks.specs.Idents.{ident_named}
use Rattle.bundle_marks.specs.declared.renaming.RenamingStep.{RenamingStep}

-- the change that a step stands for
abbrev pub change_of_step : RenamingStep → r.Change
change_of_step step = record { ident = ident_named step.to; is_spelled_out = step.is_spelled_out }

-- a pair of a name and a step, as a pair of an identifier and a change
abbrev pub renaming_pair : IdName × RenamingStep → Ident × r.Change
renaming_pair pair = (ident_named pair.0, change_of_step pair.1)

-- an identifier that stays
abbrev pub unchanged : Ident → r.Change
unchanged ident = record { ident = ident; is_spelled_out = false }

-- two renamings say the same of each identifier
abbrev pub SaySame : r.Renaming → r.Renaming → Type 0
SaySame one other = (ident : Ident) → lookup (ident_eq ident) one ≡ lookup (ident_eq ident) other

-- what is not spelled out keeps its symbol
abbrev pub KeepsSymbols : (Ident → r.Change) → Type 0
KeepsSymbols becomes =
    (ident : Ident) → (becomes ident).is_spelled_out ≡ false → (becomes ident).ident.0 ≡ ident.0
