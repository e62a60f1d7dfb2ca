-- What a tree whose bindings are called otherwise then promises, where it is resolved and has names only.
use Rattle.std.proofs.Common.{◌≡◌, List, ap, ◌∙◌}
use Rattle.bundle_tree_ast.specs.declared.module.ModuleItem.{ModuleItem}
use Rattle.bundle_syntax.specs.Item.{Item}
use Rattle.bundle_rules.specs.Cleared.{without_notes, tidied}
use Rattle.bundle_rules.specs.Rebuilds.{with_idents}
use Rattle.bundle_scope_names.specs.declared.names.ContextRule.TheVariants.{Clear}
use Rattle.bundle_scope_names.proofs.promised.Keywords as k
use Rattle.bundle_scope_names.proofs.promised.Names as n
use Rattle.bundle_scope_names.proofs.grown.Trees.{items_plain, items_keyless}
use Rattle.bundle_marks.specs.Composed.{items_list}
use Rattle.bundle_scope.specs.Named.{called_by, RenamesKeywords, RenamesBindings, FreesOfKeywords, StaysNamed, TellsByNames, StaysUndoubled}
use Rattle.bundle_scope.proofs.WordsLemmas.{unnoted-aside}

-- the renaming of keywords
pub frees-of-keywords : (items : List ModuleItem) (after : List Item) → RenamesKeywords (items_list items) after → FreesOfKeywords (items_list items) after
frees-of-keywords items after it resolved only = k.rid (items_list items) only (items_plain items) it.table it.denotes resolved it.names it.texts it.contexts after it.is

pub stays-named : (items : List ModuleItem) (after : List Item) → RenamesKeywords (items_list items) after → StaysNamed (items_list items) after
stays-named items after it resolved only = (
  k.names-only (items_list items) only (items_plain items) it.table it.denotes resolved it.names it.texts it.contexts after it.is,
  k.undoubled (items_list items) only (items_plain items) it.table it.denotes resolved it.names it.texts it.contexts after it.is,
)

-- names alone
tidy : (before after : List Item) (it : RenamesBindings before after) → without_notes after ≡ tidied (with_idents before (called_by it.table it.names Clear before))
tidy before after it = ap without_notes it.is ∙ unnoted-aside (with_idents before (called_by it.table it.names Clear before))

pub tells-by-names : (items : List ModuleItem) (after : List Item) → RenamesBindings (items_list items) after → TellsByNames (items_list items) after
tells-by-names items after it resolved only = n.names-kept (items_list items) only it.table it.denotes it.kept it.names it.texts_kept it.contexts_kept it.named after (tidy (items_list items) after it) resolved (items_plain items)

pub stays-undoubled : (items : List ModuleItem) (after : List Item) → RenamesBindings (items_list items) after → StaysUndoubled (items_list items) after
stays-undoubled items after it resolved only none = n.undoubled (items_list items) only it.table it.denotes it.kept it.names it.texts_kept it.contexts_kept it.named after (tidy (items_list items) after it) resolved (items_plain items) (items_keyless items) none
