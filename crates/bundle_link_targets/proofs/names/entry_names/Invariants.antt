use Rattle.std.proofs.Common.{ℕ, ◌==◌, Contains, take}
use Rattle.bundle_rules.specs.Nodes.{Text}
use Rattle.bundle_link_targets.specs.Names.{IsNameIn, texts_in}
use Rattle.bundle_link_targets.proofs.names.entry_names.Given as goal

abbrev pub invariant-loop-other : goal.invariant-loop-other
invariant-loop-other l = (d : ℕ) (x : Text) → Contains (take l.other-index l.others) d → IsNameIn l.kinds d (d == l.which) x → Contains (texts_in l.names) x
