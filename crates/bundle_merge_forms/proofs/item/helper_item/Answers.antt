-- The helper has its form.
use Rattle.bundle_tree_listed.specs.Tree.{stmt_items}
use Rattle.bundle_merge_forms.specs.Named.{id_ident}
use Rattle.bundle_tree_places.specs.Marks.{ident_of}
use Rattle.bundle_merge_forms.proofs.Items as form
use Rattle.bundle_merge_forms.proofs.item.helper_item.Goals as goal

pub returns-clause-listed : goal.returns-clause-listed
returns-clause-listed c =
    form.helper_named (stmt_items 0 c.in_ok-made.made) (ident_of c.name_of.result) (ident_of c.name_of-2.result) (ident_of c.name_of-3.result)
    (id_ident c.args.helper) (id_ident c.args.func) (id_ident c.args.module_object) c.in_ok-made.ensures c.name_of.ensures c.name_of-2.ensures c.name_of-3.ensures

pub returns-clause-built : goal.returns-clause-built
returns-clause-built c =
    form.helper_item (id_ident c.args.helper) (id_ident c.args.func) (id_ident c.args.module_object) (stmt_items 0 c.in_ok-made.made)
    (form.helper_named (stmt_items 0 c.in_ok-made.made) (ident_of c.name_of.result) (ident_of c.name_of-2.result) (ident_of c.name_of-3.result)
    (id_ident c.args.helper) (id_ident c.args.func) (id_ident c.args.module_object) c.in_ok-made.ensures c.name_of.ensures c.name_of-2.ensures c.name_of-3.ensures)
