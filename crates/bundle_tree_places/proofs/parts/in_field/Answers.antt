-- Each node is found in turn, and kept where it lies in the field.
use Rattle.std.proofs.Common.{map, ap, sym, ◌∙◌, rules, arith}
use Rattle.bundle_syntax.specs.Item.{item_of}
use Rattle.bundle_tree_places.specs.Lengths.{begins_node}
use Rattle.bundle_tree_places.proofs.PartLemmas.{kept-found}
use Rattle.bundle_tree_places.proofs.parts.in_field.Goals as goal

pub each-preserved : goal.each-preserved
each-preserved c =
    let is = c.behind-rest.ensures.there in
    let begins = ap (λ l. begins_node (map item_of l)) (is ∙ sym c.behind.ensures.there) ∙ sym c.begins_node.ensures ∙ c.each-test.true in
    record {
      within = omega (arith, c.part_length-length.ensures.bound, c.behind-rest.ensures.length);
      parts = kept-found c.args.field _ c.each.found.items _ _ c.behind_first-inside.result.now c.behind-rest.result.now c.each.at c.part_length-length.result is begins c.part_length-length.ensures.length (search rules) c.in_ok-add_in_field.ensures c.each.invariant.parts;
    }
