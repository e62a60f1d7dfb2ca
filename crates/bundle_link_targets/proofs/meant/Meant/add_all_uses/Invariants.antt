use Rattle.std.proofs.Common.{◌≡◌, length, take, Contains}
use Rattle.bundle_rules.specs.Program.{Program}
use Rattle.bundle_link_index.specs.Given.{AddsMissing}
use Rattle.bundle_link_index.specs.Outside.{IsIndexOf}
use Rattle.bundle_link_index.specs.Programs.{AreModulesKnown}
use Rattle.bundle_link_targets.specs.Found.{UsedIn, targets_in}
use Rattle.bundle_link_targets.specs.Handed.{AreMeaningsOf, HoldsOfLists}
use Rattle.bundle_link_targets.proofs.meant.Meant.add_all_uses.Given as goal

abbrev pub invariant-loop-which : goal.invariant-loop-which
invariant-loop-which l = record {
  index : l.index ≡ l.fn.index;
  adds : (p : Program) → IsIndexOf p l.fn.index → AreModulesKnown p l.kinds → AddsMissing (targets_in l.fn.self.targets) (UsedIn p (take l.which-index l.kinds.list.now)) (targets_in l.self.targets);
  found : (p : Program) → IsIndexOf p l.fn.index → AreModulesKnown p l.kinds → length l.fn.self.meanings.items ≡ length l.kinds.modules.now → HoldsOfLists (AreMeaningsOf p) (Contains (take l.which-index l.kinds.list.now)) l.fn.self.meanings.items l.self.meanings.items;
  linked : l.self.linked ≡ l.fn.self.linked;
}
