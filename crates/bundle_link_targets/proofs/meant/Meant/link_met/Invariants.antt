use Rattle.std.proofs.Common.{◌≡◌, ◌-◌, ◌^◌, length}
use Rattle.bundle_rules.specs.Program.{Program}
use Rattle.bundle_link_index.specs.Outside.{IsIndexOf}
use Rattle.bundle_link_index.specs.Programs.{AreModulesKnown}
use Rattle.bundle_link_targets.specs.Found.{Meets, targets_in}
use Rattle.bundle_link_targets.specs.Handed.{AreLinkedIn, HoldsOfLists}
use Rattle.bundle_link_targets.proofs.UseLemmas.{MetBefore}
use Rattle.bundle_link_targets.proofs.meant.Meant.link_met.Given as goal

abbrev pub invariant-loop-done : goal.invariant-loop-done
invariant-loop-done l = record {
  index : l.index ≡ l.fn.index;
  meets : (p : Program) → IsIndexOf p l.fn.index → AreModulesKnown p l.kinds → Meets p (targets_in l.fn.self.targets) (targets_in l.self.targets) l.done;
  fills : (p : Program) → IsIndexOf p l.fn.index → AreModulesKnown p l.kinds → length l.fn.self.linked.items ≡ length l.kinds.modules.now → HoldsOfLists (AreLinkedIn p) (MetBefore (targets_in l.self.targets) l.done) l.fn.self.linked.items l.self.linked.items;
  meanings : l.self.meanings ≡ l.fn.self.meanings;
}

abbrev pub decreases-loop-done : goal.decreases-loop-done
decreases-loop-done l = 2 ^ 64 - l.done
