-- What the items of a module state is what its own statements become.
use Rattle.std.proofs.Common.{◌≡◌, List, ap, ◌∙◌, map, option_map}
use Rattle.std.specs.List.{flat_map}
use Rattle.std.proofs.lemmas.Result.{IfOk-weaker}
use Rattle.bundle_tree_ast.specs.declared.module.ModuleItem.{ModuleItem}
use Rattle.bundle_tree_listed.specs.Tree.{module_item_items, node, stmt_items}
use Rattle.bundle_syntax.specs.Item as h
use Rattle.bundle_syntax.specs.Item.{item_of}
use Rattle.bundle_syntax.specs.declared.piece.Piece.{Piece}
use Rattle.bundle_rules.specs.Nodes.{parts as parts_of}
use Rattle.bundle_merge_names.specs.Bundle.{list_of_part, own_items}
use Rattle.bundle_merge_names.specs.declared.part.BundleModule.{BundleModule}
use Rattle.bundle_tree_places.specs.Marks.{ident_of}
use Rattle.bundle_tree_places.specs.Parted.{part_items}
use Rattle.bundle_merge_items.proofs.LackLemmas.{statements-owned}
use Rattle.bundle_merge_items.proofs.module.own_statements.Goals as goal

-- the list that was made is that of the part
made-list : (list : List Piece) (items : List ModuleItem) (part : BundleModule) →
    map item_of list ≡ node 0 h.Module (flat_map (module_item_items 0) items) →
    items ≡ own_items part → map item_of list ≡ list_of_part part
made-list list items part is owned =
    is ∙ ap (λ its. node 0 h.Module (flat_map (module_item_items 0) its)) owned

pub body_of-requires : goal.body_of-requires
body_of-requires c =
    ap (map item_of) c.deref.ensures.value
    ∙ made-list c.in_ok-list.list.items c.own_items.result.now c.args.part.now c.in_ok-list.ensures
    c.own_items.ensures

pub returns : goal.returns
returns c =
    IfOk-weaker c.stated_items.result _ _
    (λ made its q list answers context kind named at has.
    statements-owned q list answers context c.args.bundle.now c.args.names.now c.args.which
    c.args.part.now kind named at has
    c.in_ok-body.body.rewrites.items c.in_ok-body.ensures.rewrites
    (option_map ident_of c.in_ok-body.body.meta) c.in_ok-body.ensures.meta
    (ident_of c.local-default.result) c.local-default.ensures
    c.own_items-2.result.now
    c.own_items-2.ensures
    (map part_items c.deref-3.result.now)
    (ap (map part_items) c.deref-3.ensures.value ∙ c.in_ok-nodes.ensures
    ∙ ap parts_of (ap (map item_of) c.deref-2.ensures.value
    ∙ made-list c.in_ok-list.list.items c.own_items.result.now c.args.part.now c.in_ok-list.ensures
    c.own_items.ensures))
    (map (stmt_items 0) made.items) its)
    c.stated_items.ensures
