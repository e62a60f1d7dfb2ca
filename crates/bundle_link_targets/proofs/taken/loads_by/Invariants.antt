use Rattle.std.proofs.Common.{◌≡◌, map, take}
use Rattle.std.specs.List.{All}
use Rattle.bundle_link_targets.specs.Found.{targets_in}
use Rattle.bundle_link_targets.specs.Taken.{AreAllNames, IsLoad}
use Rattle.bundle_link_targets.proofs.taken.loads_by.Given as goal

abbrev pub invariant-loop-which : goal.invariant-loop-which
invariant-loop-which l = record {
  modules : map (λ loaded. loaded.which) l.loads.items ≡ map (λ n. n) (take l.which-index l.all);
  taken : AreAllNames (targets_in l.meant) l.names → All (IsLoad (targets_in l.meant) l.taker) l.loads.items;
}
