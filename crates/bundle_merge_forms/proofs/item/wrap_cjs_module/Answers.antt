-- The load function has its form.
use Rattle.bundle_tree_listed.specs.Tree.{each_stmt_items, stmt_items}
use Rattle.bundle_merge_forms.specs.Named.{id_ident}
use Rattle.bundle_tree_places.specs.Marks.{ident_of}
use Rattle.bundle_merge_forms.proofs.Items as form
use Rattle.bundle_merge_forms.proofs.item.wrap_cjs_module.Goals as goal

pub returns-clause-listed : goal.returns-clause-listed
returns-clause-listed c =
    form.load_named (each_stmt_items 0 c.args.stmts) (stmt_items 0 c.in_ok-made.made) (ident_of c.name_of.result) (ident_of c.name_of-2.result) (ident_of c.name_of-3.result) (ident_of c.name_of-4.result)
    (id_ident c.args.load) (id_ident c.args.helper) (id_ident c.args.module_object) (id_ident c.args.exports) c.in_ok-made.ensures c.name_of.ensures c.name_of-2.ensures c.name_of-3.ensures c.name_of-4.ensures

pub returns-clause-built : goal.returns-clause-built
returns-clause-built c =
    form.load_item (id_ident c.args.load) (id_ident c.args.helper) (id_ident c.args.module_object) (id_ident c.args.exports) (each_stmt_items 0 c.args.stmts) (stmt_items 0 c.in_ok-made.made)
    (form.load_named (each_stmt_items 0 c.args.stmts) (stmt_items 0 c.in_ok-made.made) (ident_of c.name_of.result) (ident_of c.name_of-2.result) (ident_of c.name_of-3.result) (ident_of c.name_of-4.result)
    (id_ident c.args.load) (id_ident c.args.helper) (id_ident c.args.module_object) (id_ident c.args.exports) c.in_ok-made.ensures c.name_of.ensures c.name_of-2.ensures c.name_of-3.ensures c.name_of-4.ensures)
