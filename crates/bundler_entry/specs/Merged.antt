-- The modules of an entry as one.
use Rattle.std.specs.Prelude.{◌≡◌, ◌<◌, ℕ, zero, List, Option, Some, None, length, map}
use Rattle.bundle_tree_ast.specs.declared.module.Module.{Module}
use Rattle.bundle_tree_listed.specs.Tree.{module_items}
use Rattle.bundle_syntax.specs.Item.{Item}
use Rattle.bundle_rules.specs.Entries.{has_import_meta}
use Rattle.bundle_rules.specs.Kept.{local_context, export_context}
use Rattle.bundle_rules.specs.Program.{Program, tree_of, IsReached}
use Rattle.bundle_rules.specs.Statements.{own_statements}
use Rattle.bundle_merge_theory.specs.joined.Joined.{joined_items}
use Rattle.bundle_merge_theory.specs.made.Alone.{TellApart}
use Rattle.bundle_merge_theory.specs.made.Given.{BundleContexts, TopOf, all_fresh}
use Rattle.bundle_merge_theory.specs.made.Made.{AreMade}
use Rattle.bundle_merge_theory.specs.planned.Blocks.{block_of}
use Rattle.bundle_merge_theory.specs.planned.Decided.{Decided, numbers_from}
use Rattle.bundle_merge_theory.specs.planned.Placed.{id_at}
use Rattle.bundle_merge_theory.specs.sound.Decided.{decided_by}
use Rattle.bundle_merge_theory.specs.together.Others.{AreOthersGiven}
use Rattle.bundle_merge_items.specs.Adds.{any_hooks}
use Rattle.bundle_tree_names.specs.FileName.{name_of}
use Rattle.bundle_tree_names.specs.declared.file_name.FileName.{FileName}
use Rattle.bundle_link.specs.declared.reached.Reached.{Reached}
use Rattle.bundler_entry.specs.Linked.{IsFileAt}
use Rattle.bundler_entry.specs.declared.call.EntryCall.{EntryCall}
use Rattle.bundler_entry.specs.declared.linked.LinkedEntry.{LinkedEntry}
use Rattle.bundler_entry.specs.declared.unlinked.EntryError.{EntryError}
use Rattle.bundler_entry.specs.declared.unlinked.EntryError.TheVariants.{ContextsUsedUp}

-- what is decided of the modules of an entry, which are those of q by their places
abbrev pub decided_in : Program → LinkedEntry → Decided
decided_in q linked =
    decided_by linked.linking (λ k. has_import_meta (tree_of q k))
    (λ k. length (own_statements (tree_of q k))) (length linked.reached.list.items)
    (map block_of linked.plan.blocks.items)

-- a module is what is made of the modules of an entry, before it is named and put into its form;
-- all but tops have contexts above those of modules
pub record IsMergedIn (q : Program) (linked : LinkedEntry) (answers : ℕ → Option (List Item))
    (merged : Module) : Type 0 where
  pub context : BundleContexts
  pub apart : TellApart q (all_fresh answers) context
  pub tops : (k : ℕ) → IsReached q k →
      context (TopOf k) ≡ local_context (id_at linked.reached.list.items k)
  pub first : ℕ
  pub others : AreOthersGiven q (all_fresh answers) context first
  pub over : (k : ℕ) → IsReached q k → export_context (id_at linked.reached.list.items k) < first
  pub orders : List (List ℕ)
  pub items : List (List Item)
  pub are_made : AreMade q any_hooks (numbers_from zero (length linked.reached.list.items)) context
      (all_fresh answers) (decided_in q linked) orders items
  pub is : module_items 0 merged ≡ joined_items items

-- the refusal is that contexts are used up, of the file of a module or, without one, of the entry's
pub record TellsContexts (call : EntryCall) (reached : Reached) (found : Option ℕ)
    (refusal : EntryError) :
    Type 0 where
  pub told : FileName
  pub is : refusal ≡ ContextsUsedUp told
  pub of_module : (k : ℕ) (file : FileName × ℕ) → found ≡ Some k → IsFileAt call reached k file →
      name_of told ≡ name_of file.0
  pub of_entry : found ≡ None → name_of told ≡ name_of call.entry.now
