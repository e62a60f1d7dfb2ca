-- The nodes so far are taken, and the others are still to be.
use Rattle.std.proofs.Common.{◌≡◌, ◌++◌, ◌-◌, length}
use Rattle.std.specs.List.{flat_map}
use Rattle.bundle_tree_parse.specs.Parse.{after_each, taken}
use Rattle.bundle_tree_parse.proofs.build.Builder.each.Given as goal

abbrev pub invariant-loop-count : goal.invariant-loop-count
invariant-loop-count g l =
    (l.initial.self ≡ flat_map (g.T.FromList.items l.field) l.list.items ++ l.self)
    × (after_each (taken l.room g.T.FromList.sort l.field) l.field (length l.initial.self) l.initial.self
    ≡ after_each (taken l.room g.T.FromList.sort l.field) l.field (l.most - l.count) l.self)
