-- What is held for labels, where each has a context of its own.
use Rattle.std.specs.Prelude.{◌≡◌, ◌≤◌, ◌<◌, ◌⊎◌, ℕ, Some, None}
use Rattle.bundle_rules.specs.Idents.{Ident}
use Rattle.bundle_rules.specs.Nodes.{Text}
use Rattle.bundle_merge_names.specs.declared.error.MergeError.{MergeError}
use Rattle.bundle_merge_names.specs.declared.error.MergeError.TheVariants.{ContextsUsedUp, OutOfMemory}
use Rattle.bundle_merge_names.specs.declared.names.Label.{Label}
use Rattle.bundle_merge_names.specs.declared.names.BundleNames.{BundleNames}
use Rattle.bundle_merge_names.specs.Named.{held, holder_of}
use Rattle.bundle_merge_names.specs.Numbers.{position}

-- the contexts of labels stand from this one on, below the next one, and no two that stand for two
-- have one
pub record AreLabelContexts (from : ℕ) (names : BundleNames) : Type 0 where
  pub within : (label : Label) (ident : Ident) →
      held names label ≡ Some ident →
      (from ≤ ident.1) × (ident.1 < position names.contexts)
  pub apart : (label other : Label) (i j : Ident) →
      held names label ≡ Some i →
      held names other ≡ Some j →
      i.1 ≡ j.1 →
      holder_of label ≡ holder_of other

-- a label has this context
pub record IsHeldAs (names : BundleNames) (context : ℕ) : Type 0 where
  pub label : Label
  pub ident : Ident
  pub there : held names label ≡ Some ident
  pub is : ident.1 ≡ context

-- from this one on, each context that is not free is that of a label
pub record AreTakenByLabels (from : ℕ) (names : BundleNames) : Type 0 where
  pub each : (c : ℕ) → from ≤ c → c < position names.contexts → IsHeldAs names c

-- the label has a name, which is this symbol where it had none, and all others keep theirs
pub record GivesName (label : Label) (symbol : Text) (old new : BundleNames) : Type 0 where
  pub kept : (other : Label) (ident : Ident) →
      held old other ≡ Some ident →
      held new other ≡ Some ident
  pub there : (ident : Ident) × (held new label ≡ Some ident)
  pub others : (other : Label) (ident : Ident) →
      held new other ≡ Some ident →
      (held old other ≡ Some ident) ⊎ ((holder_of other ≡ holder_of label) × (ident.0 ≡ symbol))
  pub later : position old.contexts ≤ position new.contexts
  pub held_so : (from : ℕ) → from ≤ position old.contexts → AreLabelContexts from old →
      AreLabelContexts from new
  pub all_so : (from : ℕ) → AreTakenByLabels from old → AreTakenByLabels from new
  pub locals : new.locals ≡ old.locals
  pub scopes : new.scopes ≡ old.scopes
  pub answered : new.answered ≡ old.answered

-- the label gets no name: for memory, or since it has none yet and no context is left
pub data RefusesName (label : Label) (old : BundleNames) : MergeError → Type 0 where
  for_memory : RefusesName label old OutOfMemory
  for_contexts : held old label ≡ None →
      position old.contexts ≡ 4294967296 →
      RefusesName label old (ContextsUsedUp None)
