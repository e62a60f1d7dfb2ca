-- A namespace or a name.
use Rattle.bundle_tree_rename.specs.Parts.{role_of}
use Rattle.bundle_tree_rename.proofs.ModuleRules as rule
use Rattle.bundle_tree_rename.proofs.rename.Rename.export_specifier.Goals as goal

pub returns-in-ExportNamespaceSpecifier : goal.returns-in-ExportNamespaceSpecifier
returns-in-ExportNamespaceSpecifier c = rw c.in-ExportNamespaceSpecifier.is (rule.export-Namespace (role_of c.args.is_own) _)

pub returns-in-ExportNamedSpecifier : goal.returns-in-ExportNamedSpecifier
returns-in-ExportNamedSpecifier c = rw c.in-ExportNamedSpecifier.is c.export_named.ensures
