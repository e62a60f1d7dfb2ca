-- Each node is found in turn.
use Rattle.std.proofs.Common.{map, ap, sym, ◌∙◌, rules, arith}
use Rattle.bundle_syntax.specs.Item.{item_of}
use Rattle.bundle_tree_places.specs.Lengths.{begins_node}
use Rattle.bundle_tree_places.proofs.PartLemmas.{parts-found, parts-all}
use Rattle.bundle_tree_places.proofs.parts.side_by_side.Goals as goal

pub each-preserved : goal.each-preserved
each-preserved c =
    let is = c.behind-rest.ensures.there in
    let begins = ap (λ l. begins_node (map item_of l)) (is ∙ sym c.behind.ensures.there) ∙ sym c.begins_node.ensures ∙ c.each-test.true in
    record {
      within = omega (arith, c.part_length-length.ensures.bound, c.behind-rest.ensures.length);
      parts = parts-found _ c.each.found.items _ _ c.args.pieces.now c.behind-rest.result.now c.each.at c.part_length-length.result is begins c.part_length-length.ensures.length (search rules) c.in_ok-push.ensures.items c.each.invariant.parts;
    }

pub each-smaller : goal.each-smaller
each-smaller c =
    let is = c.behind-rest.ensures.there in
    let begins = ap (λ l. begins_node (map item_of l)) (is ∙ sym c.behind.ensures.there) ∙ sym c.begins_node.ensures ∙ c.each-test.true in
    let some = c.part_length-length.ensures.some begins in
    omega (arith, some, c.part_length-length.ensures.bound, c.behind-rest.ensures.length)

pub returns : goal.returns
returns c = parts-all _ c.each.found.items c.args.pieces.now c.each.at (ap (λ l. begins_node (map item_of l)) (sym c.behind.ensures.there) ∙ sym c.begins_node.ensures ∙ c.each-test.false) c.each.invariant.parts
