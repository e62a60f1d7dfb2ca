-- The causes that are due where modules stand in post-order of requests, as linking decides it.
use Rattle.std.specs.Prelude.{◌≡◌, ℕ, zero, Bool, ◌||◌, List, [], ◌++◌, length, map, if◌then◌else◌}
use Rattle.bundle_rules.specs.Bundle.{AsCall, AsModule, Cause, Chosen, Exports, Form, IsDue, Stars}
use Rattle.bundle_rules.specs.Headline.{causes_in_order}
use Rattle.bundle_rules.specs.Program.{Program}
use Rattle.bundle_link_targets.specs.declared.linking.Linking.{Linking}
use Rattle.bundle_merge_theory.specs.planned.Decided.{Decided, DecidedBlock, module_plan, numbers_from, object_plan, one_if}
use Rattle.bundle_merge_theory.specs.sound.Decided.{AreTablesLinked, decided_by}
use Rattle.bundle_merge_causes.specs.Shape.{count_in, meta_in}
use Rattle.bundle_merge_causes.specs.Told.{causes_told}
use Rattle.bundle_merge_causes.specs.declared.cause.ItemCause.{ItemCause}
use Rattle.bundle_merge_causes.specs.declared.shape.ModuleShape.{ModuleShape}

-- what linking and these shapes decide, where these are the blocks
abbrev pub decided_in : Linking → List ModuleShape → List DecidedBlock → Decided
decided_in linking shapes blocks =
    decided_by linking (meta_in shapes) (count_in shapes) (length shapes) blocks

-- what a module makes, and then the object of its namespace
abbrev pub whole_plan : Decided → ℕ → List Cause
whole_plan d m = module_plan d m ++ object_plan d m

-- what stands behind the modules, where the bundle is one function's call or not
abbrev pub handed_plan : Bool → Decided → List Cause
handed_plan is_call d = map Stars d.stars ++ one_if (is_call || d.exports) Exports

-- in each program of which the modules are, with this linking, what a plan makes of what is decided
-- stands behind these causes
abbrev pub Adds : Linking → List ModuleShape → (Decided → List Cause) → List Cause → List Cause →
    Type 0
Adds linking shapes plan old new =
    (q : Program) → AreTablesLinked q (length shapes) linking (meta_in shapes) (count_in shapes) →
    new ≡ old ++ plan (decided_in linking shapes [])

-- the form of a bundle
abbrev pub form_called : Bool → Form
form_called is_call = if is_call then AsCall else AsModule

-- of what may stand in a bundle of so many modules, in the standard's order, these are due
abbrev pub AreCausesDue : Program → ℕ → Bool → List ItemCause → Type 0
AreCausesDue q n is_call causes =
    Chosen (IsDue q (form_called is_call)) (causes_in_order q (numbers_from zero n))
    (causes_told causes)
