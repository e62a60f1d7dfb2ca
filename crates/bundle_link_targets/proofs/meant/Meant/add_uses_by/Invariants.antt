use Rattle.std.proofs.Common.{◌≡◌, map, take}
use Rattle.bundle_rules.specs.Program.{Program}
use Rattle.bundle_link_index.specs.Given.{AddsMissing}
use Rattle.bundle_link_index.specs.Outside.{IsIndexOf}
use Rattle.bundle_link_index.specs.Programs.{AreModulesKnown, IsTableOf}
use Rattle.bundle_link_tables.specs.Exported.{Finds}
use Rattle.bundle_link_tables.specs.TablesOf.{import_entry_of}
use Rattle.bundle_link_tables.specs.Used.{use_entry_of}
use Rattle.bundle_link_targets.specs.Handed.{AreMeanings}
use Rattle.bundle_link_targets.specs.Meant.{AnyMeans}
use Rattle.bundle_link_targets.specs.Found.{targets_in}
use Rattle.bundle_link_targets.proofs.meant.Meant.add_uses_by.Given as goal

abbrev pub invariant-loop-its : goal.invariant-loop-its
invariant-loop-its l = record {
  index : l.index ≡ l.fn.index;
  adds : (p : Program) → IsIndexOf p l.fn.index → AreModulesKnown p l.kinds → IsTableOf p l.which l.tables → Finds l.locals (map import_entry_of l.tables.imports.items) → AddsMissing (targets_in l.fn.self.targets) (AnyMeans p l.which (map (use_entry_of l.tables.reads.items) (take l.its-index l.tables.uses.items))) (targets_in l.self.targets);
  found : (p : Program) → IsIndexOf p l.fn.index → AreModulesKnown p l.kinds → IsTableOf p l.which l.tables → Finds l.locals (map import_entry_of l.tables.imports.items) → AreMeanings p l.which (map (use_entry_of l.tables.reads.items) (take l.its-index l.tables.uses.items)) l.meanings.items;
  lists : l.self.meanings ≡ l.fn.self.meanings;
  linked : l.self.linked ≡ l.fn.self.linked;
}
