-- Theorem of this folder (`are-laid`): where each cause that is due has an item that is right by
-- itself, the items of a bundle are made for just what is due, each once, and are laid out.
-- Used by folders `finished`, `together` and by the crate `bundle_merge`.
use Rattle.std.proofs.Common.{◌≡◌, ◌↔◌, ℕ, List, Option, Some, Contains}
use Rattle.std.specs.Prelude.{slice_get}
use Rattle.std.specs.List.{AllZip}
use Rattle.bundle_syntax.specs.Item.{Item}
use Rattle.bundle_rules.specs.Declarations.{ByContext}
use Rattle.bundle_rules.specs.Meaning.{Labelling}
use Rattle.bundle_rules.specs.Program.{Program}
use Rattle.bundle_rules.specs.Bundle.{Cause, AsModule, Hooks, IsDue, IsLaidOut}
use Rattle.bundle_merge_theory.specs.joined.Joined.{joined_items}
use Rattle.bundle_merge_theory.specs.composed.Noted.{pairing_of}
use Rattle.bundle_merge_theory.specs.planned.Decided.{Decided, AreDecided, plan_of}
use Rattle.bundle_merge_theory.specs.made.Given.{HookAnswer, BundleContexts}
use Rattle.bundle_merge_theory.specs.made.Made.{IsMade, AreMade}
use Rattle.bundle_merge_theory.specs.made.Alone.{TellApart, IsItemAlone}
use Rattle.bundle_merge_theory.proofs.laid.Ready.{zip-through, ready-item}
use Rattle.bundle_merge_theory.proofs.laid.Due.{plan-due, items-made, items-laid, items-due, items-once}

-- the items are made for the causes of the plan, each right by itself; what is due stands, and
-- nothing else does, each once; and the items are laid out, whatever their bindings stand for
pub record AreLaid (p : Program) (hooks : Hooks) (list : List ℕ) (context : BundleContexts)
    (answers : ℕ → Option HookAnswer) (plan : List Cause) (items : List (List Item)) : Type 0 where
  pub made : AllZip (IsMade p hooks list context answers) plan items
  pub alone : AllZip (IsItemAlone p hooks list context answers) plan items
  pub due : (cause : Cause) → Contains plan cause ↔ IsDue p AsModule cause
  pub once : (i j : ℕ) (cause : Cause) →
      slice_get plan i ≡ Some cause →
      slice_get plan j ≡ Some cause →
      i ≡ j
  pub laid : (labels : Labelling) →
      IsLaidOut p AsModule ByContext (joined_items items) (pairing_of labels items plan)

pub are-laid : (p : Program) (hooks : Hooks) (list : List ℕ) (context : BundleContexts)
    (answers : ℕ → Option HookAnswer) (d : Decided) (orders : List (List ℕ))
    (items : List (List Item)) → AreMade p hooks list context answers d orders items →
    AreDecided p AsModule d → TellApart p answers context →
    ((cause : Cause) (item : List Item) → IsDue p AsModule cause →
    IsMade p hooks list context answers cause item →
    IsItemAlone p hooks list context answers cause item) →
    AreLaid p hooks list context answers (plan_of d orders) items
are-laid p hooks list context answers d orders items made decided apart alone =
    let makes =
    λ (cause : Cause) (item : List Item) (due : IsDue p AsModule cause)
    (m : IsMade p hooks list context answers cause item).
    ready-item p hooks list context answers apart cause item due (alone cause item due m) in
    let zip = items-made p hooks list context answers d orders items made in
    record {
      made = zip;
      alone =
          zip-through (IsMade p hooks list context answers) (IsItemAlone p hooks list context answers)
          (plan_of d orders) items zip
          (λ cause item c m. alone cause item (plan-due p AsModule d decided orders cause c) m);
      due = items-due p hooks list context answers d orders items made decided makes;
      once = items-once p hooks list context answers d orders items made decided makes;
      laid = items-laid p hooks list context answers d orders items made decided makes;
    }
