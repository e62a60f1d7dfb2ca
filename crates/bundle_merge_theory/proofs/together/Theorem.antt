-- Theorem of this folder (`known-right`): of what a bundler knows of modules, of what linking and
-- the plan say of them, and of what is made of them it follows what a merge owes for the program.
-- Used by folder `finished`.
use Rattle.std.proofs.Common.{◌≡◌, ℕ, zero, Bool, List, [], Option, length, map}
use Rattle.bundle_syntax.specs.Item.{Item}
use Rattle.bundle_order_graph.specs.Modules.{Modules}
use Rattle.bundle_order_sort.specs.Plan.{IsPlanAsked}
use Rattle.bundle_order_sort.specs.declared.plan.Plan.{Plan}
use Rattle.bundle_rules.specs.Kept.{local_context}
use Rattle.bundle_rules.specs.Program.{Program, IsReached}
use Rattle.bundle_rules.specs.Bundle.{Hooks}
use Rattle.bundle_link_targets.specs.declared.linking.Linking.{Linking}
use Rattle.bundle_merge_theory.specs.joined.Joined.{joined_items}
use Rattle.bundle_merge_theory.specs.planned.Blocks.{block_of}
use Rattle.bundle_merge_theory.specs.planned.Decided.{Decided, plan_of, numbers_from}
use Rattle.bundle_merge_theory.specs.planned.Placed.{id_at}
use Rattle.bundle_merge_theory.specs.made.Given.{HookAnswer, BundleContexts, TopOf}
use Rattle.bundle_merge_theory.specs.made.Made.{AreMade}
use Rattle.bundle_merge_theory.specs.made.Alone.{TellApart}
use Rattle.bundle_merge_theory.specs.moved.Renumbered.{cause_at}
use Rattle.bundle_merge_theory.specs.together.Others.{AreOthersGiven}
use Rattle.bundle_merge_theory.specs.sound.Known.{AreKnown, IsByPlaces}
use Rattle.bundle_merge_theory.specs.sound.Decided.{AreTablesLinked, decided_by}
use Rattle.bundle_merge_theory.proofs.finished.Bundles.{IsMergedRight}
use Rattle.bundle_merge_theory.proofs.laid.Laid.{are-laid}
use Rattle.bundle_merge_theory.proofs.moved.Owed.{AreMoved}
use Rattle.bundle_merge_theory.proofs.moved.Made.{made-moved}
use Rattle.bundle_merge_theory.proofs.sound.Sound.{sound}
use Rattle.bundle_merge_theory.proofs.sound.Decided.{decided}
use Rattle.bundle_merge_theory.proofs.together.End.{made-alone}

module _ (p q : Program) (ids : List ℕ) (g : Modules) (places : IsByPlaces p q ids g) (known : AreKnown p q ids) (moved : AreMoved p q ids) (linking : Linking) (meta : ℕ → Bool) (count : ℕ → ℕ) (linked : AreTablesLinked q (length ids) linking meta count) (plan : Plan) (planned : IsPlanAsked p.settings.in_standard_order g p.entry ids plan) (hooks : Hooks) (context : BundleContexts) (answers : ℕ → Option HookAnswer) where
  -- modules by their places
  abbrev places_of : List ℕ
  places_of = numbers_from zero (length ids)

  -- what linking, the tables and the plan decide of them
  abbrev d : Decided
  d = decided_by linking meta count (length ids) (map block_of plan.blocks.items)

  pub known-right : (orders : List (List ℕ)) (items : List (List Item)) →
      AreMade q hooks places_of context answers d orders items → TellApart q answers context →
      ((k : ℕ) → IsReached q k → context (TopOf k) ≡ local_context (id_at ids k)) →
      (first : ℕ) → AreOthersGiven q answers context first →
      IsMergedRight first p hooks (map (cause_at ids) (plan_of d orders)) (joined_items items)
  known-right orders items made apart locals first given =
      let its = sound p q ids known in
      let is = decided p q ids g places linking meta count linked plan planned in
      let laid = are-laid q hooks places_of context answers d orders items made is apart
      (made-alone q hooks places_of context answers its apart) in
      made-moved p q ids moved hooks places_of context answers (plan_of d orders) items
      its apart laid.alone laid.due laid.once locals [] (laid.laid []) first given
