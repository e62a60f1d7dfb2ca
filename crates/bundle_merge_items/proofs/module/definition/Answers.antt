-- A load function has the names that its module and the helper have, and the statements that it is given.
use Rattle.std.proofs.Common.{◌∙◌, map}
use Rattle.std.specs.Prelude.{codes}
use Rattle.std.proofs.lemmas.Result.{IfOk-weaker}
use Rattle.bundle_tree_listed.specs.Tree.{each_stmt_items, stmt_items}
use Rattle.bundle_tree_listed.proofs.Rows.{all_stmt}
use Rattle.bundle_tree_places.specs.Marks.{ident_of}
use Rattle.bundle_rules.specs.Nodes.{flat}
use Rattle.bundle_merge_names.specs.Idents.{label_ident}
use Rattle.bundle_merge_names.specs.declared.names.Label.TheVariants as n
use Rattle.bundle_merge_items.specs.Added.{local_ident}
use Rattle.bundle_merge_items.proofs.LackLemmas.{definition-same, flat-made}
use Rattle.bundle_merge_items.proofs.module.definition.Goals as goal

pub returns : goal.returns
returns c =
    IfOk-weaker c.load_function.result _ _
    (λ made is. is ∙ definition-same
    (ident_of c.load_names.result.load) (ident_of c.load_names.result.helper)
    (ident_of c.load_names.result.module_object) (ident_of c.load_names.result.exports)
    (each_stmt_items 0 c.args.own)
    (label_ident c.args.names.now (n.Load c.args.which)) (label_ident c.args.names.now n.Helper)
    (local_ident c.args.names.now c.args.which (codes "module"))
    (local_ident c.args.names.now c.args.which (codes "exports"))
    (flat (map (stmt_items 0) c.args.own.items))
    c.load_names.ensures.load c.load_names.ensures.helper c.load_names.ensures.own
    c.load_names.ensures.exports
    (all_stmt 0 c.args.own ∙ flat-made (stmt_items 0) c.args.own.items))
    c.load_function.ensures
