-- What is made of the modules of a program by their places is merged right for the program, with the contexts that
-- its modules have, and the contexts that stand in it are below each number that those of the bundle are below.
use Rattle.std.proofs.Common.{◌≡◌, ◌<◌, ℕ, zero, Bool, List, [], Option, length, map, refl, arith}
use Rattle.bundle_syntax.specs.Item.{Item}
use Rattle.bundle_order_graph.specs.Modules.{Modules}
use Rattle.bundle_order_sort.specs.Plan.{IsPlanAsked}
use Rattle.bundle_order_sort.specs.declared.plan.Plan.{Plan}
use Rattle.bundle_rules.specs.Bundle.{Cause, Hooks}
use Rattle.bundle_rules.specs.Merged.{IsMerged}
use Rattle.bundle_rules.specs.Program.{Program, IsReached}
use Rattle.bundle_link.specs.Alike.{IsModuleAt}
use Rattle.bundle_link_targets.specs.declared.linking.Linking.{Linking}
use Rattle.bundle_merge_theory.specs.joined.Joined.{joined_items}
use Rattle.bundle_merge_theory.specs.composed.Noted.{pairing_of}
use Rattle.bundle_merge_theory.specs.planned.Blocks.{block_of}
use Rattle.bundle_merge_theory.specs.planned.Decided.{Decided, index_of, plan_of, numbers_from}
use Rattle.bundle_merge_theory.specs.planned.Placed.{id_at}
use Rattle.bundle_merge_theory.specs.made.Given.{HookAnswer, BundleContexts, Holder, TopOf}
use Rattle.bundle_merge_theory.specs.made.Made.{AreMade}
use Rattle.bundle_merge_theory.specs.made.Alone.{IsHolder, TellApart}
use Rattle.bundle_merge_theory.specs.moved.Renumbered.{cause_at}
use Rattle.bundle_merge_theory.specs.sound.Known.{AreKnown, IsByPlaces}
use Rattle.bundle_merge_theory.specs.sound.Decided.{AreTablesLinked, decided_by}
use Rattle.bundle_merge_theory.proofs.laid.Laid.{are-laid}
use Rattle.bundle_merge_theory.proofs.moved.Made.{made-by}
use Rattle.bundle_merge_theory.proofs.moved.Moved.{merged-by, places-renamed}
use Rattle.bundle_merge_theory.proofs.moved.Owed.{AreMoved, IsMergedBy}
use Rattle.bundle_merge_theory.proofs.sound.Decided.{decided}
use Rattle.bundle_merge_theory.proofs.sound.Sound.{sound}
use Rattle.bundle_merge_theory.proofs.together.End.{made-alone}
use Rattle.bundle_merge.specs.Standing.{HasContextsBelow}
use Rattle.bundle_merge.proofs.Standing.{contexts-below}

-- what a merge owes is that the tree is merged right
pub merged-owed : (first : ℕ) (local : ℕ → ℕ) (p : Program) (hooks : Hooks) (plan : List Cause)
    (tree : List Item) → IsMergedBy first local p hooks plan tree → IsMerged (λ x. x) local p hooks tree
merged-owed first local p hooks plan tree its =
    let still = its.whole.ready.still in
    record {
      is_bundle = record {
        pairing = pairing_of still.labels still.items plan;
        paired = still.paired;
        laid_out = its.whole.laid;
      };
      resolved = its.whole.resolved;
      named = its.whole.names;
      contexts = its.contexts;
      binds = its.binds;
      called = its.called;
    }

module _ (p q : Program) (ids : List ℕ) (g : Modules) (places : IsByPlaces p q ids g) (known : AreKnown p q ids) (moved : AreMoved p q ids) (linking : Linking) (meta : ℕ → Bool) (count : ℕ → ℕ) (linked : AreTablesLinked q (length ids) linking meta count) (plan : Plan) (planned : IsPlanAsked p.settings.in_standard_order g p.entry ids plan) (hooks : Hooks) (context : BundleContexts) (answers : ℕ → Option HookAnswer) where
  -- modules by their places
  abbrev places_of : List ℕ
  places_of = numbers_from zero (length ids)

  -- what linking, the tables and the plan decide of them
  abbrev d : Decided
  d = decided_by linking meta count (length ids) (map block_of plan.blocks.items)

  pub made-merged : (orders : List (List ℕ)) (items : List (List Item)) →
      AreMade q hooks places_of context answers d orders items → TellApart q answers context →
      (local : ℕ → ℕ) → ((k : ℕ) → IsReached q k → context (TopOf k) ≡ local (id_at ids k)) →
      IsMerged (λ x. x) local p hooks (joined_items items)
  made-merged orders items made apart local locals =
      let its = sound p q ids known in
      let is = decided p q ids g places linking meta count linked plan planned in
      let laid =
      are-laid q hooks places_of context answers d orders items made is apart
      (made-alone q hooks places_of context answers its apart) in
      let owed =
      made-by q hooks places_of context answers (plan_of d orders) items its apart laid.alone
      laid.due laid.once (λ k. context (TopOf k)) (λ k reached. refl) [] (laid.laid []) 0 (λ a its_holder no_top. omega arith) in
      merged-owed 0 local p hooks (map (cause_at ids) (plan_of d orders)) (joined_items items)
      (merged-by q p (λ k m. IsModuleAt ids m k) (id_at ids) (λ m. index_of m ids)
      (places-renamed p q ids moved) hooks (plan_of d orders) (joined_items items)
      0 (λ k. context (TopOf k)) local owed.owed owed.reached locals)

  -- what stands in it is below what the contexts of the bundle are below
  pub made-below : (orders : List (List ℕ)) (items : List (List Item)) →
      AreMade q hooks places_of context answers d orders items → TellApart q answers context →
      (n : ℕ) → 1 < n → ((h : Holder) → IsHolder q answers h → context h < n) →
      HasContextsBelow n (joined_items items)
  made-below orders items made apart n one below =
      let its = sound p q ids known in
      let is = decided p q ids g places linking meta count linked plan planned in
      let laid =
      are-laid q hooks places_of context answers d orders items made is apart
      (made-alone q hooks places_of context answers its apart) in
      contexts-below q hooks places_of context answers (plan_of d orders) items
      (record { sound = its; apart = apart; alone = laid.alone; due = laid.due; once = laid.once })
      n one below
