-- What the module of an entry is made of, and that it is the entry's bundle.
use Rattle.std.specs.Prelude.{◌≡◌, ◌≤◌, ◌+◌, ◌*◌, ℕ, zero, true, List, Option, Some, None, Contains, length, option_map}
use Rattle.std.specs.List.{flat_map}
use Rattle.bundle_tree_ast.specs.declared.expr.Expr.{Expr}
use Rattle.bundle_tree_ast.specs.declared.module.Module.{Module}
use Rattle.bundle_tree_ast.specs.declared.prop.KeyValueProp.{KeyValueProp}
use Rattle.bundle_tree_listed.specs.Tree.{key_value_prop_items, module_items}
use Rattle.bundle_syntax.specs.Item.{Item}
use Rattle.bundle_rules.specs.Bundle.{Hooks, form_of, IsBundle}
use Rattle.bundle_rules.specs.Cleared.{cleared}
use Rattle.bundle_rules.specs.Doubled.{first_doubled}
use Rattle.bundle_rules.specs.Headline.{IsClean, reading_of}
use Rattle.bundle_rules.specs.Merged.{HasRightNames}
use Rattle.bundle_rules.specs.Faults as Faults
use Rattle.bundle_rules.specs.Faults.{Fault, IsNamedForContexts, NeedsTooManyContexts, first_context}
use Rattle.bundle_rules.specs.Program.{Program, file_of}
use Rattle.bundle_rules.specs.Scopes.{Es}
use Rattle.bundle_tree_names.specs.FileName.{Name, name_of}
use Rattle.bundle_tree_names.specs.declared.file_name.FileName.{FileName}
use Rattle.bundle_merge_theory.specs.made.Given.{all_fresh}
use Rattle.bundle_merge_theory.specs.planned.Decided.{numbers_from}
use Rattle.bundle_merge_names.specs.Refused.{RefusesNames}
use Rattle.bundle_merge_names.specs.declared.error.MergeError.TheVariants as e
use Rattle.bundler_entry.specs.Finished.{IsFinished}
use Rattle.bundler_entry.specs.Linked.{IsFileAt}
use Rattle.bundler_entry.specs.Merged.{IsMergedIn}
use Rattle.bundler_entry.specs.Parts.{found_at}
use Rattle.bundler_entry.specs.declared.call.EntryCall.{EntryCall}
use Rattle.bundler_entry.specs.declared.entry.MetaAnswer.{MetaAnswer}
use Rattle.bundler_entry.specs.declared.linked.LinkedEntry.{LinkedEntry}
use Rattle.bundler_entry.specs.declared.meta.ReadMeta.{ReadMeta}
use Rattle.bundler_entry.specs.declared.unlinked.EntryError.{EntryError}
use Rattle.bundler_entry.specs.declared.unlinked.EntryError.TheVariants.{ContextsUsedUp, OutOfMemory}

-- the list of properties, as it is kept
abbrev pub kept_properties : List (KeyValueProp Expr) → List Item
kept_properties given = cleared (flat_map (key_value_prop_items 0) given)

-- what was answered for each module, as it was read
abbrev pub answers_in : List (Option ReadMeta) → ℕ → Option (List Item)
answers_in metas k = option_map (λ meta. kept_properties meta.properties.now) (found_at metas k)

-- each is one of these answers, and stands at the number of its module
abbrev pub AreOfAnswers : List MetaAnswer → (ℕ → Option (List Item)) → Type 0
AreOfAnswers answers its =
    (k : ℕ) (properties : List Item) → its k ≡ Some properties →
    (answer : MetaAnswer) × Contains answers answer × (answer.which ≡ k)
    × (properties ≡ kept_properties answer.properties.items)

-- a module is made of the modules of an entry, which are those of q by their places, where this was
-- answered for them: what they are together is named and put into its form
pub record IsMadeOf (q : Program) (call : EntryCall) (linked : LinkedEntry)
    (answers : ℕ → Option (List Item)) (made : Module) : Type 0 where
  pub merged : Module
  pub is_merged : IsMergedIn q linked answers merged
  pub finished : IsFinished call.config.now.base (module_items 0 merged) (module_items 0 made)

-- the modules of an entry make none: a growth was refused; or contexts are used up, which is told
-- of the file of the module whose names get them or, of the linker's own names, of the entry's
pub data IsRefusedMaking (q : Program) (call : EntryCall) (linked : LinkedEntry)
    (answers : ℕ → Option (List Item)) : EntryError → Type 0 where
  for_memory : IsRefusedMaking q call linked answers OutOfMemory
  for_module : {k : ℕ} (next : ℕ) (file : FileName × ℕ) (told : FileName) →
      next ≤ 2 * call.program.now.count + 2 →
      RefusesNames q (numbers_from zero (length linked.reached.list.items)) (all_fresh answers) next
      (e.ContextsUsedUp (Some k)) →
      IsFileAt call linked.reached k file →
      name_of told ≡ name_of file.0 →
      IsRefusedMaking q call linked answers (ContextsUsedUp told)
  for_entry : (next : ℕ) (told : FileName) →
      next ≤ 2 * call.program.now.count + 2 →
      RefusesNames q (numbers_from zero (length linked.reached.list.items)) (all_fresh answers) next
      (e.ContextsUsedUp None) →
      name_of told ≡ name_of call.entry.now →
      IsRefusedMaking q call linked answers (ContextsUsedUp told)

-- the fault is that contexts are used up: for one of the modules that get some, or else for the
-- entry, and the counted sum is above the last one
pub record IsContextsFaultOf (p : Program) (hooks : Hooks) (fault : Fault) : Type 0 where
  pub m : ℕ
  pub named : IsNamedForContexts p hooks m
  pub file : Name
  pub its_file : file_of p m ≡ Some file
  pub is : fault ≡ Faults.ContextsUsedUp file
  pub too_many : NeedsTooManyContexts p hooks (first_context p)

-- a tree is the bundle of a program, in its form and with right names, where the settings say so
-- renamed, and nothing of the linker's own is left in it
pub record IsEntryBundle (p : Program) (hooks : Hooks) (tree : List Item) : Type 0 where
  pub clean : IsClean p.settings tree
  pub undoubled : p.settings.renames ≡ true → first_doubled Es tree ≡ None
  pub is_bundle : IsBundle p hooks (form_of p.settings) (reading_of p.settings) tree
  pub names : HasRightNames p hooks tree
