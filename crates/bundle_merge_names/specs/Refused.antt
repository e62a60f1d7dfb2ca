-- Why the modules of a bundle get no contexts.
use Rattle.std.specs.Prelude.{◌≡◌, ℕ, ◌+◌, ◌<◌, ◌≤◌, List, Option, Some, None, Contains, length, slice_get}
use Rattle.bundle_rules.specs.Bundle.{properties_tree}
use Rattle.bundle_rules.specs.Counts.{binding_count}
use Rattle.bundle_rules.specs.Meaning.{HasKind}
use Rattle.bundle_rules.specs.Program.{Program, tree_of, IsReached}
use Rattle.bundle_rules.specs.Scopes.{ModuleKind, Es}
use Rattle.bundle_merge_theory.specs.planned.Counted.{sum_of}
use Rattle.bundle_merge_names.specs.Added.{IsOfLabels}
use Rattle.bundle_merge_names.specs.Named.{IsGiven}
use Rattle.bundle_merge_names.specs.declared.error.MergeError.{MergeError}
use Rattle.bundle_merge_names.specs.declared.error.MergeError.TheVariants.{ContextsUsedUp, OutOfMemory}
use Rattle.bundle_merge_theory.specs.made.Given.{HookAnswer, Fresh, Written, stands_written, Holder, InsideOf, AnsweredOf}
use Rattle.bundle_merge_theory.specs.made.Alone.{IsHolder}

-- the bindings of what the hook answered that get contexts: what is written already has its own
abbrev pub answered_count : Option HookAnswer → ℕ
answered_count None = 0
answered_count (Some (Fresh properties)) = binding_count Es (properties_tree properties)
answered_count (Some (Written ctxt notes properties)) = 0

-- a module of a program, with what the hook answered for it, has at most so many bindings
pub record HasAtMost (p : Program) (answers : ℕ → Option HookAnswer) (m most : ℕ) : Type 0 where
  pub kind : ModuleKind
  pub has_kind : HasKind p m kind
  pub few : binding_count kind (tree_of p m) + answered_count (answers m) ≤ most

-- from the next one on there are fewer contexts than the modules of a list have bindings
pub record LacksContexts (p : Program) (list : List ℕ) (answers : ℕ → Option HookAnswer)
    (next : ℕ) : Type 0 where
  pub above : (most : ℕ → ℕ) →
      ((m : ℕ) → IsReached p m → HasAtMost p answers m (most m)) →
      4294967295 < next + sum_of most list

-- contexts are refused to the modules of a bundle: for memory, or since none is left for a scope
-- inside a module or inside what the hook answered for it
pub data RefusesContextsIn (p : Program) (list : List ℕ) (answers : ℕ → Option HookAnswer)
    (next : ℕ) : MergeError → Type 0 where
  for_memory : RefusesContextsIn p list answers next OutOfMemory
  for_module : (m begins : ℕ) →
      IsHolder p answers (InsideOf m begins) →
      LacksContexts p list answers next →
      RefusesContextsIn p list answers next (ContextsUsedUp (Some m))
  for_answer : (m begins : ℕ) →
      IsHolder p answers (AnsweredOf m begins) →
      LacksContexts p list answers next →
      RefusesContextsIn p list answers next (ContextsUsedUp (Some m))

-- different holders that get contexts and are labels of the linker's own or names of the helper
pub record AreLabels (p : Program) (list : List ℕ) (answers : ℕ → Option HookAnswer)
    (holders : List Holder) : Type 0 where
  pub each : (holder : Holder) →
      Contains holders holder →
      IsGiven (λ m. stands_written (answers m)) (IsOfLabels p list) holder
  pub once : (i j : ℕ) (holder : Holder) →
      slice_get holders i ≡ Some holder →
      slice_get holders j ≡ Some holder →
      i ≡ j

-- from the next one on there are fewer contexts than the modules of a list have bindings and the
-- linker has labels that get one
pub record LacksForLabels (p : Program) (list : List ℕ) (answers : ℕ → Option HookAnswer)
    (next : ℕ) : Type 0 where
  pub holders : List Holder
  pub are : AreLabels p list answers holders
  pub above : (most : ℕ → ℕ) →
      ((m : ℕ) → IsReached p m → HasAtMost p answers m (most m)) →
      4294967295 < next + sum_of most list + length holders

-- what was given ends no later than the bindings of a list's modules and different labels of the
-- linker count
pub record TakesFew (p : Program) (list : List ℕ) (answers : ℕ → Option HookAnswer)
    (next to : ℕ) : Type 0 where
  pub holders : List Holder
  pub are : AreLabels p list answers holders
  pub few : (most : ℕ → ℕ) →
      ((m : ℕ) → IsReached p m → HasAtMost p answers m (most m)) →
      to ≤ next + sum_of most list + length holders

-- a bundle gets no names: for memory, or since no context is left for a scope of a module or of
-- what the hook answered for it, or for a label
pub data RefusesNames (p : Program) (list : List ℕ) (answers : ℕ → Option HookAnswer)
    (next : ℕ) : MergeError → Type 0 where
  for_scopes : {refusal : MergeError} →
      RefusesContextsIn p list answers next refusal →
      RefusesNames p list answers next refusal
  for_labels : (label : Holder) →
      IsGiven (λ m. stands_written (answers m)) (IsOfLabels p list) label →
      LacksForLabels p list answers next →
      RefusesNames p list answers next (ContextsUsedUp None)
