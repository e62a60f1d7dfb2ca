-- The items that were gone over state what is there.
use Rattle.std.proofs.Common.{rules, ◌≡◌, ◌⊎◌, ◌∷◌, map, option_map, length, inl, inr, ap, ◌∙◌}
use Rattle.std.proofs.lemmas.List.{length-map}
use Rattle.bundle_tree_listed.specs.Tree.{stmt_items}
use Rattle.bundle_tree_places.specs.Marks.{ident_of}
use Rattle.bundle_tree_places.specs.Parted.{part_items}
use Rattle.bundle_merge_items.proofs.Adding.{turned-next, turned-all}
use Rattle.bundle_merge_items.proofs.module.stated_items.Goals as goal

pub loop-item-preserved : goal.loop-item-preserved
loop-item-preserved c =
    let first : c.loop-item.item-iterator.a.rest.now ≡ c.in-Some.item.now ∷ c.next.new.self.a.rest.now = search rules in
    let second : c.loop-item.item-iterator.b.rest.now ≡ c.in-Some.node.now ∷ c.next.new.self.b.rest.now = search rules in
    turned-next (option_map ident_of c.args.body.now.meta) (ident_of c.args.default) c.args.items.now
    (map part_items c.args.nodes.now) c.args.body.now.rewrites.items
    (map (stmt_items 0) c.loop-item.stmts.items) (map (stmt_items 0) c.add_stated.new.stmts.items)
    c.loop-item.item-iterator.a.rest.now c.next.new.self.a.rest.now
    c.loop-item.rewrites.now c.rewrites_behind-rewrites.result.now
    (map part_items c.loop-item.item-iterator.b.rest.now) (map part_items c.next.new.self.b.rest.now)
    c.in-Some.item.now (part_items c.in-Some.node.now) c.in_ok-add_stated.ensures.0
    first (ap (map part_items) second) c.in_ok-add_stated.ensures.1 c.in_ok-add_stated.ensures.2
    c.rewrites_behind-rewrites.ensures c.loop-item.invariant

pub returns : goal.returns
returns c =
    let ended : (length c.loop-item.item-iterator.a.rest.now ≡ 0) ⊎ (length c.loop-item.item-iterator.b.rest.now ≡ 0) = elim c.in-None.ensures.steps [ inl none ↦ inl none.1.0 | inr none ↦ inr none.1.0 ] in
    turned-all (option_map ident_of c.args.body.now.meta) (ident_of c.args.default) c.args.items.now
    (map part_items c.args.nodes.now) c.args.body.now.rewrites.items
    (map (stmt_items 0) c.loop-item.stmts.items) c.loop-item.item-iterator.a.rest.now c.loop-item.rewrites.now
    (map part_items c.loop-item.item-iterator.b.rest.now)
    (elim ended [ inl none ↦ inl none | inr none ↦ inr (length-map c.loop-item.item-iterator.b.rest.now part_items ∙ none) ])
    c.loop-item.invariant
