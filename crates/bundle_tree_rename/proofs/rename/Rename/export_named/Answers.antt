-- A name of this module or of another, or a string.
use Rattle.std.proofs.Common.{ap, ◌∙◌}
use Rattle.bundle_tree_rename.specs.Parts.{role_of, second_name_items}
use Rattle.bundle_tree_rename.proofs.Lists.{if_ok}
use Rattle.bundle_tree_rename.proofs.ModuleRules as rule
use Rattle.bundle_tree_rename.proofs.rename.Rename.export_named.Goals as goal

pub returns-in_ok-second_name-in-Ident : goal.returns-in_ok-second_name-in-Ident
returns-in_ok-second_name-in-Ident c = rw c.in-Ident.is (if_ok c.ident.result (λ taken. rule.in_role c.args.is_own (ap role_of c.if-is_own.true) (rule.export-Occurrence c.args.exported.now taken (c.in_ok-second_name-in-Ident.ensures ∙ ap (λ spelled. second_name_items c.args.exported.now spelled c.in-Ident.local) c.spells_out-is_spelled_out.ensures))) c.ident.ensures)

pub returns-else-is_own : goal.returns-else-is_own
returns-else-is_own c = rw c.in-Ident.is (rule.in_role c.args.is_own (ap role_of c.if-is_own.false) rule.export-Word)

pub returns-in-Str : goal.returns-in-Str
returns-in-Str c = rw c.in-Str.is (rule.export-Str (role_of c.args.is_own) c.args.exported.now)
