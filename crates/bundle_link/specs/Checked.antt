-- What a check of linked modules tells.
use Rattle.std.specs.Prelude.{Some, IfSome}
use Rattle.bundle_tree_names.specs.declared.error.Error.{Error}
use Rattle.bundle_rules.specs.Program.{Program}
use Rattle.bundle_rules.specs.Faults.{fault_of}
use Rattle.bundle_rules.specs.Tables.{IsChecked}

-- the refusal is for memory, or tells of the first fault of linking
abbrev pub TellsLinkFault : Program → Error → Type 0
TellsLinkFault p error = IfSome (fault_of error) (λ fault. IsChecked p (Some fault))
