-- Causes that are chosen in post-order of requests are those that a bundle's items stand for.
use Rattle.std.proofs.Common.{◌≡◌, ℕ, List, map}
use Rattle.bundle_syntax.specs.Item.{Item}
use Rattle.bundle_rules.specs.Bundle.{Cause, Chosen, Hooks, IsBundle, IsDue, form_of}
use Rattle.bundle_rules.specs.Headline.{causes_in_order, reading_of}
use Rattle.bundle_rules.specs.Program.{Program, IsList}
use Rattle.bundle_rules.proofs.PostOrder.{stands_in_post_order}
use Rattle.bundle_rules.proofs.StandardExamples.{chosen_one}
use Rattle.bundle_merge_theory.specs.moved.Renumbered.{cause_at}
use Rattle.bundle_merge_causes.specs.Told.{causes_told}
use Rattle.bundle_merge_causes.specs.Standing.{AreCausesTold, IsExplained, IsInPostOrder, MakesBundle, StandFor}
use Rattle.bundle_merge_causes.specs.declared.cause.BundleCauses.{BundleCauses}

stand-for : (p : Program) (hooks : Hooks) (tree : List Item) (list : List ℕ)
    (causes : List Cause) → IsList p list → IsInPostOrder p →
    Chosen (IsDue p (form_of p.settings)) (causes_in_order p list) causes →
    IsBundle p hooks (form_of p.settings) (reading_of p.settings) tree →
    StandFor p hooks tree causes
stand-for p hooks tree list causes is_list either due its = record {
  pairing = its.pairing;
  makes = record { paired = its.paired; laid_out = its.laid_out };
  each = λ other makes.
      chosen_one (IsDue p (form_of p.settings))
      (stands_in_post_order p (form_of p.settings) (reading_of p.settings) tree other list either
      is_list makes.laid_out) due;
}

-- what is told of a program explains its bundle
pub explained : (p : Program) (hooks : Hooks) (tree : List Item) (told : BundleCauses) →
    AreCausesTold p told → IsBundle p hooks (form_of p.settings) (reading_of p.settings) tree →
    IsExplained p hooks tree told
explained p hooks tree told its bundle = record {
  list = its.list;
  is_list = its.is_list;
  modules = its.modules;
  items = λ causes is.
      stand-for p hooks tree its.list (map (cause_at its.list) (causes_told causes.items)) its.is_list
      (its.items causes is) (its.due causes is) bundle;
  none = its.none;
}
