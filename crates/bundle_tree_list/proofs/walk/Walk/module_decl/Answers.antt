-- The role of the names of an export list is that of its source, in each of them.
use Rattle.std.proofs.Common.{ap, arith}
use Rattle.std.specs.List.{flat_map}
use Rattle.std.proofs.lemmas.Grind.{common_steps}
use Rattle.bundle_tree_listed.specs.Tree.{export_specifier_items, module_decl_items}
use Rattle.bundle_tree_list.proofs.walk.Walk.module_decl.Goals as goal

pub returns-in_ok-option_str-in-NamedExport : goal.returns-in_ok-option_str-in-NamedExport
returns-in_ok-option_str-in-NamedExport c =
    let whole = ap (module_decl_items c.args.field) c.in-NamedExport.is in
    let names = ap (λ role. flat_map (export_specifier_items role 0) c.in-NamedExport.specifiers.items) c.role_of_names-role.ensures in
    grind (arith, common_steps, whole, names)
