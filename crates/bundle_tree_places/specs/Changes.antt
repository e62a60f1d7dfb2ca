-- What the changes of the code stand for.
use Rattle.bundle_rules.specs.Rebuilds.{Change}
use Rattle.bundle_tree_places.specs.declared.change.Change as r_change
use Rattle.bundle_tree_places.specs.Marks.{ident_of}

-- the change that a `Change` stands for
abbrev pub change_of : r_change.Change → Change
change_of change = record { ident = ident_of change.ident; is_spelled_out = change.is_spelled_out }
