-- What is handed out of what was merged.
use Rattle.std.specs.Prelude.{◌≡◌, ℕ, Bool, true, false, not, List, Option, Some, None, map}
use Rattle.bundle_tree_ast.specs.declared.module.Module.{Module}
use Rattle.bundle_syntax.specs.Item.{Item}
use Rattle.bundle_tree_names.specs.declared.config.Config.{Config}
use Rattle.bundle_tree_listed.specs.Tree.{module_items}
use Rattle.bundle_rules.specs.Declarations.{ByContext}
use Rattle.bundle_rules.specs.Scopes.{Es}
use Rattle.bundle_rules.specs.Cleared.{tidied}
use Rattle.bundle_rules.specs.Denotes.{IsResolved}
use Rattle.bundle_rules.specs.Renamed.{HasNamesOnly}
use Rattle.bundle_rules.specs.Forms.{wrapped}
use Rattle.bundle_scope_denote.specs.declared.table.Denotations.{Denotations}
use Rattle.bundle_scope_denote.specs.Listed.{IsDenotationTable}
use Rattle.bundle_scope_names.specs.declared.names.Names.{Names}
use Rattle.bundle_scope_names.specs.declared.names.ContextRule.{ContextRule}
use Rattle.bundle_scope_names.specs.declared.names.ContextRule.TheVariants.{Keep, Clear}
use Rattle.bundle_scope_names.specs.Called.{binding_text, context_of}
use Rattle.bundle_tree_rename.specs.Naming.{Naming}
use Rattle.bundle_link.specs.Programs.{is_one_call}
use Rattle.bundle_merge_forms.specs.Wrapped.{CanBeWrapped}
use Rattle.bundle_merge_theory.specs.finished.Ended.{AreEndNames, IsNamedAtOnce, IsNamedInTurn}

-- whether bindings are renamed
abbrev pub is_renaming : Config → Bool
is_renaming config = not config.disable_hygiene

-- a tree that is resolved, tidy and has names only is rid of keywords, and then renamed
abbrev pub NamesInTurn : Bool → (before after : List Item) → Type 0
NamesInTurn renames before after =
    IsResolved Es before →
    HasNamesOnly before →
    tidied before ≡ before →
    IsNamedInTurn renames before after

-- a tree is named, all in one go, and then stands as a module or as the call of one function
pub record IsFinished (config : Config) (before made : List Item) : Type 0 where
  pub named : Module
  pub at_once : IsNamedAtOnce (is_renaming config) before (module_items 0 named)
  pub in_turn : NamesInTurn (is_renaming config) before (module_items 0 named)
  pub as_module : is_one_call config.module ≡ false → made ≡ module_items 0 named
  pub as_call : is_one_call config.module ≡ true →
      CanBeWrapped named.body.items →
      made ≡ wrapped (module_items 0 named)

-- the names that the bindings of a tree have in the end, with the bindings that its occurrences
-- denote in turn
pub record IsEnded (renames : Bool) (tree : List Item) (names : Names)
    (bindings : List (Option ℕ)) : Type 0 where
  pub table : Denotations
  pub denotes : IsDenotationTable ByContext Es tree table
  pub right : AreEndNames renames tree table names
  pub are : bindings ≡ map (λ denoted. denoted.binding) table.occurrences.items

-- the context that an identifier gets, which is 0 where contexts do not stay
abbrev pub context_kept : ContextRule → Option ℕ → Option ℕ
context_kept Keep ctxt = ctxt
context_kept Clear ctxt = Some 0

-- what becomes of an identifier that denotes this binding, or a global
abbrev pub naming_for : Names → ContextRule → Option ℕ → Naming
naming_for names contexts None = record { sym = None; ctxt = context_kept contexts None }
naming_for names contexts (Some binding) =
    record
    { sym = binding_text names binding; ctxt = context_kept contexts (context_of names binding) }
