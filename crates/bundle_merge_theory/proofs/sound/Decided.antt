-- Theorem of this folder (`decided`, `linked-by`): what linking, tables and a plan say of modules
-- by their places is decided of the program by places.
-- Used by folders `finished`, `together` and by the crates `bundle_merge`, `bundler_entry`.
use Rattle.std.proofs.Common.{ℕ, zero, Bool, List, length, map, subst, arith}
use Rattle.bundle_order_graph.specs.Modules.{Modules}
use Rattle.bundle_order_sort.specs.Plan.{IsPlanAsked}
use Rattle.bundle_order_sort.specs.declared.plan.Plan.{Plan}
use Rattle.bundle_rules.specs.Program.{Program}
use Rattle.bundle_rules.specs.Bundle.{AsModule}
use Rattle.bundle_link_targets.specs.Linked.{HandsOver, IsLinkingOf}
use Rattle.bundle_link_targets.specs.Meant.{AreModules}
use Rattle.bundle_link_targets.specs.declared.linking.Linking.{Linking}
use Rattle.bundle_link.specs.Judged.{numbers_below}
use Rattle.bundle_merge_theory.specs.planned.Blocks.{block_of}
use Rattle.bundle_merge_theory.specs.planned.Decided.{AreDecided}
use Rattle.bundle_merge_theory.specs.sound.Known.{IsByPlaces}
use Rattle.bundle_merge_theory.specs.sound.Decided.{AreTablesLinked, AreTablesTold, decided_by}
use Rattle.bundle_merge_theory.proofs.sound.Blocks.{planned-blocks}
use Rattle.bundle_merge_theory.proofs.sound.Found.{below-from, exports-found, from-there, module-found, outside-found}
use Rattle.bundle_merge_theory.proofs.sound.Sound.{places-list}

-- modules that are linked by their places, as linking hands them over
pub linked-by : (p q : Program) (ids : List ℕ) (g : Modules) → IsByPlaces p q ids g →
    (linking : Linking) (meta : ℕ → Bool) (count : ℕ → ℕ) → IsLinkingOf q linking →
    HandsOver q (numbers_below (length ids)) linking → AreModules q →
    AreTablesTold q (length ids) meta count → AreTablesLinked q (length ids) linking meta count
linked-by p q ids g places linking meta count linked handed are told = record {
  list = places-list p q ids places.is_list places.alike;
  linked = linked;
  handed = subst (λ (l : List ℕ). HandsOver q l linking) (below-from (length ids)) handed;
  modules = are;
  told = told;
}

-- what linking, tables and the plan of the list say of them is decided
pub decided : (p q : Program) (ids : List ℕ) (g : Modules) → IsByPlaces p q ids g →
    (linking : Linking) (meta : ℕ → Bool) (count : ℕ → ℕ) →
    AreTablesLinked q (length ids) linking meta count → (plan : Plan) →
    IsPlanAsked p.settings.in_standard_order g p.entry ids plan →
    AreDecided q AsModule
    (decided_by linking meta count (length ids) (map block_of plan.blocks.items))
decided p q ids g places linking meta count w plan planned =
    let n = length ids in
    let blocks = map block_of plan.blocks.items in
    let its = planned-blocks p q ids g places plan planned in
    record {
      list = w.list;
      modules = λ m c.
          (let below = from-there zero n m c in
          module-found q n linking meta count w blocks m (omega (arith, below)));
      outside = outside-found q n linking meta count w blocks;
      starred = w.handed.stars;
      exports = exports-found q n linking meta count w blocks;
      blocks = its.0;
      kinds = its.1;
    }
