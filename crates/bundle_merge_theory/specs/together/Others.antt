-- The contexts of all that is no module's name.
use Rattle.std.specs.Prelude.{◌≡◌, ℕ, ◌≤◌, false, Option, Some, Contains}
use Rattle.bundle_rules.specs.Places.{Occurrence, occurrence_at}
use Rattle.bundle_rules.specs.Scopes.{Es, Scope}
use Rattle.bundle_rules.specs.Declarations.{ByContext, Name}
use Rattle.bundle_rules.specs.Denotes.{Bound, denoted_at}
use Rattle.bundle_rules.specs.Program.{Program}
use Rattle.bundle_rules.specs.Meaning.{Label}
use Rattle.bundle_rules.specs.Bundle.{Labelled}
use Rattle.bundle_rules.specs.Merged.{is_module_name}
use Rattle.bundle_merge_theory.specs.made.Given.{HookAnswer, BundleContexts, Holder, TopOf}
use Rattle.bundle_merge_theory.specs.made.Alone.{IsHolder}

-- all that has a context of its own but for the tops of modules has one from this one on
abbrev pub AreOthersGiven : Program → (ℕ → Option HookAnswer) → BundleContexts → ℕ → Type 0
AreOthersGiven p answers context first =
    (a : Holder) → IsHolder p answers a → ((m : ℕ) → a ≡ TopOf m → ⊥) → first ≤ context a

-- each binding of a bundle that stands for no module's name has a context from this one on
abbrev pub HasOthersFrom : ℕ → Labelled → Type 0
HasOthersFrom first b =
    (place : ℕ) (o : Occurrence) (scope : Scope) (name : Name) →
    occurrence_at b.tree place ≡ Some o →
    denoted_at ByContext Es b.tree place ≡ Some (Bound scope name) →
    ((l : Label) → Contains b.labels (Bound scope name, l) → is_module_name l ≡ false) →
    first ≤ o.ctxt
