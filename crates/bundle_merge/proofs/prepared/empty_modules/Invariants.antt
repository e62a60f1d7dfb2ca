-- So many modules without items.
use Rattle.std.proofs.Common.{◌≡◌, [], map, replicate}
use Rattle.bundle_merge_items.specs.Added.{module_item_lists}
use Rattle.bundle_merge.proofs.prepared.empty_modules.Given as goal

abbrev pub invariant-loop : goal.invariant-loop
invariant-loop l = map module_item_lists l.modules.items ≡ replicate l.counter []
