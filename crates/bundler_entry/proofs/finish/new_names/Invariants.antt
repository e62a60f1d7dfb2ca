-- The names so far.
use Rattle.std.proofs.Common.{◌≡◌, map, take}
use Rattle.bundle_tree_rename.specs.Naming.{naming_of}
use Rattle.bundler_entry.specs.Finished.{naming_for}
use Rattle.bundler_entry.proofs.finish.new_names.Given as goal

abbrev pub invariant-loop-binding : goal.invariant-loop-binding
invariant-loop-binding l = map naming_of l.new.items ≡ map (naming_for l.initial.names l.initial.contexts) (take l.binding-index l.bindings)
