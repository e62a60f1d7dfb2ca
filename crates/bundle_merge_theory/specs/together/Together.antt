-- Items that are right each by itself, in a plan that has each due cause once, with contexts that
-- tell them apart.
use Rattle.std.specs.Prelude.{◌≡◌, ◌↔◌, ℕ, List, Option, Some, Contains, slice_get}
use Rattle.std.specs.List.{AllZip}
use Rattle.bundle_syntax.specs.Item.{Item}
use Rattle.bundle_rules.specs.Program.{Program}
use Rattle.bundle_rules.specs.Bundle.{Cause, AsModule, Hooks, IsDue}
use Rattle.bundle_merge_theory.specs.made.Given.{HookAnswer, BundleContexts}
use Rattle.bundle_merge_theory.specs.made.Alone.{AreTreesSound, TellApart, IsItemAlone}

pub record AreMergedTogether (p : Program) (hooks : Hooks) (list : List ℕ)
    (context : BundleContexts)
    (answers : ℕ → Option HookAnswer) (plan : List Cause) (items : List (List Item)) : Type 0 where
  pub sound : AreTreesSound p list
  pub apart : TellApart p answers context
  pub alone : AllZip (IsItemAlone p hooks list context answers) plan items
  pub due : (cause : Cause) → Contains plan cause ↔ IsDue p AsModule cause
  pub once : (i j : ℕ) (cause : Cause) →
      slice_get plan i ≡ Some cause →
      slice_get plan j ≡ Some cause →
      i ≡ j
