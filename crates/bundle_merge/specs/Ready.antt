-- When the modules of a linker are those of a program whose prepared items are merged.
use Rattle.std.specs.Prelude.{◌≡◌, ℕ, Bool, false, List, Option, Contains, length, map}
use Rattle.std.specs.List.{flat_map}
use Rattle.bundle_tree_ast.specs.declared.expr.Expr.{Expr}
use Rattle.bundle_tree_ast.specs.declared.prop.KeyValueProp.{KeyValueProp}
use Rattle.bundle_syntax.specs.Item.{Item}
use Rattle.bundle_tree_listed.specs.Tree.{key_value_prop_items}
use Rattle.bundle_tree_names.specs.FileName.{Name}
use Rattle.bundle_rules.specs.Bundle.{Hooks}
use Rattle.bundle_rules.specs.Merged.{Contexts}
use Rattle.bundle_rules.specs.Program.{Program}
use Rattle.bundle_link.specs.Programs.{IsLinkerOf}
use Rattle.bundle_link.specs.Held.{modules_of}
use Rattle.bundle_link.specs.declared.link.Linker.{Linker}
use Rattle.bundle_link.specs.declared.transformed.TransformedModule.{TransformedModule}
use Rattle.bundle_merge_theory.specs.made.Given.{HookAnswer}
use Rattle.bundle_merge_theory.specs.made.Alone.{AreTreesSound}
use Rattle.bundle_merge_theory.specs.sound.Decided.{AreTablesTold}
use Rattle.bundle_merge_theory.specs.sound.Known.{LeadsAll}
use Rattle.bundle_merge_names.specs.Bundle.{AreBundleParts}
use Rattle.bundle_merge_names.specs.Numbers.{position}
use Rattle.bundle_merge_names.specs.Refused.{RefusesNames, TakesFew}
use Rattle.bundle_merge_names.specs.declared.error.MergeError.{MergeError}
use Rattle.bundle_merge_names.specs.declared.part.BundleInput.{BundleInput}
use Rattle.bundle_merge_items.specs.Adds.{AreAnswered}
use Rattle.bundle_merge_items.specs.Merged.{AreBlocksOnce, IsMergedOf}
use Rattle.bundle_merge_items.specs.declared.merge.MergedModule.{MergedModule}

-- the lists of properties that a hook may answer, by the file's name and whether it is the entry's
abbrev pub Answering : Type 0
Answering = Name → Bool → List (List (KeyValueProp Expr))

-- the list of properties
abbrev pub listed_properties : List (KeyValueProp Expr) → List Item
listed_properties its = flat_map (key_value_prop_items 0) its

-- the hook that may answer these. What is prepared holds one answer for each module, so that each
-- hook that may have answered these is one of this kind, as far as it was asked
abbrev pub hooks_by : Answering → Hooks
hooks_by given =
    record {
      may_answer =
          λ file is_entry properties.
          Contains (map listed_properties (given file is_entry)) properties;
    }

-- the modules of a linker are those of a program, with these contexts, each request leads to a
-- module, and the standard's order is not asked for: a linker has no such setting
pub record IsMergeable (p : Program) (contexts : ℕ → Contexts) (linker : Linker) : Type 0 where
  pub of : IsLinkerOf p linker
  pub by_needs : p.settings.in_standard_order ≡ false
  pub leads : LeadsAll p
  pub locals : (its : TransformedModule) →
      Contains (modules_of linker) its →
      (contexts its.id).local ≡ its.local_ctxt

-- what is merged of a bundle, as the merge of bundles promises it
abbrev pub IsMergedAs : BundleInput → MergedModule → Type 0
IsMergedAs bundle merged =
    (q : Program) (list : List ℕ) (answers : ℕ → Option HookAnswer) (meta : ℕ → Bool)
    (count : ℕ → ℕ) → AreTreesSound q list → AreBundleParts q list answers bundle →
    AreBlocksOnce bundle → AreAnswered q answers →
    AreTablesTold q (length bundle.parts.now) meta count →
    IsMergedOf q list answers bundle meta count merged

-- how many contexts it takes, and why it is refused
abbrev pub TakesAs : BundleInput → MergedModule → Type 0
TakesAs bundle merged =
    (q : Program) (list : List ℕ) (answers : ℕ → Option HookAnswer) →
    AreBundleParts q list answers bundle →
    TakesFew q list answers (position bundle.contexts) (position merged.contexts)

abbrev pub IsRefusedAs : BundleInput → MergeError → Type 0
IsRefusedAs bundle refusal =
    (q : Program) (list : List ℕ) (answers : ℕ → Option HookAnswer) →
    AreBundleParts q list answers bundle →
    RefusesNames q list answers (position bundle.contexts) refusal
