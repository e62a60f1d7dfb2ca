-- The object of a namespace has its form, where no two keys are the same.
use Rattle.std.proofs.Common.{◌∙◌, ap, map}
use Rattle.bundle_tree_listed.specs.Tree.{stmt_items}
use Rattle.bundle_merge_injected.specs.Listed.{namespace_object, pair_of}
use Rattle.bundle_merge_forms.specs.Named.{id_ident, injected, prop_of}
use Rattle.bundle_tree_places.specs.Marks.{ident_of}
use Rattle.bundle_merge_forms.proofs.Items as form
use Rattle.bundle_merge_forms.proofs.item.namespace_object.Goals as goal

pub returns-clause-listed : goal.returns-clause-listed
returns-clause-listed c =
    form.namespace_named (stmt_items 0 c.in_ok-made.made) (ident_of c.name_of.result) (id_ident c.args.object) (map pair_of c.in_ok-pairs.pairs.items) (map prop_of c.args.props.now)
    (c.in_ok-made.ensures ∙ ap (λ pairs. namespace_object injected (ident_of c.name_of.result) (map pair_of pairs)) c.deref.ensures.value) c.name_of.ensures c.in_ok-pairs.ensures

pub returns-clause-built : goal.returns-clause-built
returns-clause-built c = λ apart.
    form.namespace_item (id_ident c.args.object) (map prop_of c.args.props.now) (stmt_items 0 c.in_ok-made.made)
    (form.namespace_named (stmt_items 0 c.in_ok-made.made) (ident_of c.name_of.result) (id_ident c.args.object) (map pair_of c.in_ok-pairs.pairs.items) (map prop_of c.args.props.now)
    (c.in_ok-made.ensures ∙ ap (λ pairs. namespace_object injected (ident_of c.name_of.result) (map pair_of pairs)) c.deref.ensures.value) c.name_of.ensures c.in_ok-pairs.ensures)
    apart
