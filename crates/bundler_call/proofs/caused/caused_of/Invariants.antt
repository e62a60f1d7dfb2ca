-- The bundles and causes so far are those of the entries that were passed; and what is left is counted.
use Rattle.std.proofs.Common.{◌≡◌, length}
use Rattle.std.specs.List.{AllZip}
use Rattle.bundle_rules.specs.Kept.{Kept}
use Rattle.bundler_call.specs.Kept.{settings_of}
use Rattle.bundler_call.specs.Linking.{answered_by, IsNumberedOn, IsReadListOf}
use Rattle.bundler_call.specs.declared.load.LoadList.{LoadList}
use Rattle.bundler_call.proofs.Explained.{AreToldSoFar}
use Rattle.bundler_call.proofs.Sources.{AreMadeSoFar}
use Rattle.bundler_call.proofs.caused.caused_of.Given as goal

abbrev pub invariant-loop-entry : goal.invariant-loop-entry
invariant-loop-entry g l =
    (length l.entry-iterator.a.rest.items ≡ l.entry-iterator.a.rest.len)
    × (length l.entry-iterator.b.rest.items ≡ l.entry-iterator.b.rest.len)
    × ((kept : Kept) (list : LoadList) → IsReadListOf (settings_of l.config) kept list l.program → AllZip (IsNumberedOn kept list) l.fn.entries.items l.fn.ids.items
    → AreMadeSoFar (answered_by ((goal.Hook-dyn g l.hook.now).may_give l.hook.now.1) ((goal.Hook-dyn g l.hook.now).may_fail_hook l.hook.now.1)) l.config kept list l.fn.entries.items l.entry-iterator.a.rest.items l.entry-iterator.b.rest.items l.bundles.items
    × AreToldSoFar (settings_of l.config) kept l.fn.entries.items l.entry-iterator.a.rest.items l.all.items)
