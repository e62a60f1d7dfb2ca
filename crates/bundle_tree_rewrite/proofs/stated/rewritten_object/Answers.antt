-- The list of the object literal, and what is made of it.
use Rattle.std.proofs.Common.{map, ap, sym, subst, ◌∙◌}
use Rattle.std.specs.List.{flat_map}
use Rattle.std.proofs.lemmas.Result.{IfOk-weaker}
use Rattle.bundle_syntax.specs.Item.{item_of}
use Rattle.bundle_tree_listed.specs.Tree.{key_value_prop_items}
use Rattle.bundle_tree_parse.specs.Sorts.{AnExpr}
use Rattle.bundle_tree_parse.specs.Standing.{IsIn}
use Rattle.bundle_tree_rebuild.specs.Work.{work_of}
use Rattle.bundle_tree_rewrite.specs.Stated.{ReworkedObject}
use Rattle.bundle_tree_rewrite.proofs.Stating.{object_listed, object_so}
use Rattle.bundle_tree_rewrite.proofs.grammar.States.{listed_object}
use Rattle.bundle_tree_rewrite.proofs.stated.rewritten_object.Goals as goal

pub make_node-requires : goal.make_node-requires
make_node-requires c =
    subst (IsIn AnExpr 0) (sym (ap (map item_of) c.deref-2.ensures.value))
    (listed_object c.args.properties.now
    (object_so (work_of c.args.rewriting) c.args.properties.now (ap (map item_of) c.deref.ensures.value ∙ (c.into_pieces.ensures ∙ object_listed c.args.properties.now c.new-walk.ensures c.in_ok-open.ensures c.in_ok-each_key_value_prop.ensures c.in_ok-close.ensures)) c.in_ok-made.ensures))

pub returns : goal.returns
returns c =
    IfOk-weaker c.make_node.result _ _
    (λ made is. subst (ReworkedObject (work_of c.args.rewriting) (flat_map (key_value_prop_items 0) c.args.properties.now)) (sym (is ∙ ap (map item_of) c.deref-2.ensures.value))
    (object_so (work_of c.args.rewriting) c.args.properties.now (ap (map item_of) c.deref.ensures.value ∙ (c.into_pieces.ensures ∙ object_listed c.args.properties.now c.new-walk.ensures c.in_ok-open.ensures c.in_ok-each_key_value_prop.ensures c.in_ok-close.ensures)) c.in_ok-made.ensures))
    c.make_node.ensures
