use Rattle.std.proofs.Common.{◌≡◌, map, take}
use Rattle.std.specs.List.{All}
use Rattle.bundle_link_targets.specs.Found.{targets_in}
use Rattle.bundle_link_targets.specs.Taken.{IsExternal, specifier_of}
use Rattle.bundle_link_targets.proofs.taken.externals_of.Given as goal

abbrev pub invariant-loop-specifier : goal.invariant-loop-specifier
invariant-loop-specifier l = record {
  specifiers : map specifier_of l.externals.items ≡ map (λ k. k.now) (take l.specifier-index l.all);
  taken : All (IsExternal (targets_in l.meant)) l.externals.items;
}
