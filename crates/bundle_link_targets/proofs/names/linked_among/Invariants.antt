use Rattle.std.proofs.Common.{◌≡◌, map, take}
use Rattle.bundle_rules.specs.Program.{Program}
use Rattle.bundle_link_index.specs.Outside.{IsIndexOf}
use Rattle.bundle_link_targets.specs.Names.{LinksAmong, target_pair}
use Rattle.bundle_link_targets.proofs.AscendingLemmas.{Among}
use Rattle.bundle_link_targets.proofs.names.linked_among.Given as goal

abbrev pub invariant-loop-name : goal.invariant-loop-name
invariant-loop-name l = record {
  index : l.index ≡ l.fn.index;
  among : (p : Program) → IsIndexOf p l.fn.index → LinksAmong p l.which (map (λ name. name.now) (take l.name-index l.names)) (map target_pair l.linked.items);
  order : Among (map (λ pair. pair.0) (map target_pair l.linked.items)) (map (λ name. name.now) (take l.name-index l.names));
}
