-- A name that is imported, with its other name where it has or gets one.
use Rattle.std.proofs.Common.{◌∙◌, ap}
use Rattle.bundle_tree_rename.specs.Parts.{second_name_items}
use Rattle.bundle_tree_rename.proofs.Lists.{if_ok}
use Rattle.bundle_tree_rename.proofs.ModuleRules as rule
use Rattle.bundle_tree_rename.proofs.rename.Rename.import_specifier.Goals as goal

pub returns-in_ok-second_name-in-ImportNamedSpecifier : goal.returns-in_ok-second_name-in-ImportNamedSpecifier
returns-in_ok-second_name-in-ImportNamedSpecifier c = rw c.in-ImportNamedSpecifier.is (if_ok c.ident.result (λ taken. rule.import-Named c.in-ImportNamedSpecifier.imported taken (c.in_ok-second_name-in-ImportNamedSpecifier.ensures ∙ ap (λ spelled. second_name_items c.in-ImportNamedSpecifier.imported spelled c.in-ImportNamedSpecifier.local) c.spells_out-is_spelled_out.ensures)) c.ident.ensures)

pub returns-in-ImportDefaultSpecifier : goal.returns-in-ImportDefaultSpecifier
returns-in-ImportDefaultSpecifier c = rw c.in-ImportDefaultSpecifier.is (if_ok c.ident-in-ImportDefaultSpecifier.result rule.import-Default (rw c.in-ImportDefaultSpecifier.local-is at c.ident-in-ImportDefaultSpecifier.ensures))

pub returns-in-ImportStarAsSpecifier : goal.returns-in-ImportStarAsSpecifier
returns-in-ImportStarAsSpecifier c = rw c.in-ImportStarAsSpecifier.is (if_ok c.ident-in-ImportStarAsSpecifier.result rule.import-Star (rw c.in-ImportStarAsSpecifier.local-is at c.ident-in-ImportStarAsSpecifier.ensures))
