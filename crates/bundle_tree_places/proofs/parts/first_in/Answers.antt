-- The first node is in the field, or it is passed.
use Rattle.std.proofs.Common.{map, ap, sym, ◌∙◌, arith}
use Rattle.bundle_syntax.specs.Item.{item_of}
use Rattle.bundle_tree_places.specs.Lengths.{begins_node}
use Rattle.bundle_tree_places.proofs.PartLemmas.{first_from, first-here, first-moved, first-none}
use Rattle.bundle_tree_places.proofs.parts.first_in.Goals as goal

pub returns-then-begins_in : goal.returns-then-begins_in
returns-then-begins_in c =
    let is = c.behind-rest.ensures.there in
    let begins = ap (λ l. begins_node (map item_of l)) (is ∙ sym c.behind.ensures.there) ∙ sym c.begins_node.ensures ∙ c.each-test.true in
    let some = c.part_length-length.ensures.some begins in
    sym (c.each.invariant.first ∙ ap (first_from c.args.field) (sym is) ∙ first-here c.args.field c.part_length-length.result c.behind-rest.result.now begins c.part_length-length.ensures.length some (sym c.begins_in.ensures ∙ c.if-begins_in.true))

pub each-preserved : goal.each-preserved
each-preserved c =
    let is = c.behind-rest.ensures.there in
    let begins = ap (λ l. begins_node (map item_of l)) (is ∙ sym c.behind.ensures.there) ∙ sym c.begins_node.ensures ∙ c.each-test.true in
    let some = c.part_length-length.ensures.some begins in
    record {
      within = omega (arith, c.part_length-length.ensures.bound, c.behind-rest.ensures.length);
      first = first-moved c.args.field c.args.pieces.now c.behind-rest.result.now c.each.at c.part_length-length.result is begins c.part_length-length.ensures.length some (sym c.begins_in.ensures ∙ c.if-begins_in.false) c.each.invariant.first;
    }

pub each-smaller : goal.each-smaller
each-smaller c =
    let is = c.behind-rest.ensures.there in
    let begins = ap (λ l. begins_node (map item_of l)) (is ∙ sym c.behind.ensures.there) ∙ sym c.begins_node.ensures ∙ c.each-test.true in
    let some = c.part_length-length.ensures.some begins in
    omega (arith, some, c.part_length-length.ensures.bound, c.behind-rest.ensures.length)

pub returns : goal.returns
returns c = sym (c.each.invariant.first ∙ first-none c.args.field _ (ap (λ l. begins_node (map item_of l)) (sym c.behind.ensures.there) ∙ sym c.begins_node.ensures ∙ c.each-test.false))
