use Rattle.std.proofs.Common.{◌≡◌}
use Rattle.std.specs.Prelude.{map}
use Rattle.bundle_merge_modules.specs.Groups.{put_all, undone}
use Rattle.bundle_merge_modules.specs.Calls.{group_items, groups_of}
use Rattle.bundle_merge_modules.proofs.part.ModuleItems.append_noted.Given as goal

abbrev pub invariant-loop-id : goal.invariant-loop-id
invariant-loop-id g l = record {
  put : put_all (groups_of l.self) (map group_items l.id-iterator) ≡ put_all (groups_of l.fn.self) (groups_of l.fn.other);
  undone : undone l.log.items (groups_of l.self) ≡ undone l.fn.log.items (groups_of l.fn.self);
}
