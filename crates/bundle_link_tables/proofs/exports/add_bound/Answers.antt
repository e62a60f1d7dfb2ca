-- The name of one element goes behind those before it.
use Rattle.std.proofs.Common.{◌+◌, ◌++◌, ◌∷◌, [], ap, sym, ◌∙◌, arith, map, drop, get_or, append-nil}
use Rattle.bundle_syntax.specs.Item.{item_of}
use Rattle.bundle_rules.specs.Entries.{names_bound}
use Rattle.bundle_link_tables.specs.Exported.{locals_named, text_list}
use Rattle.bundle_link_tables.specs.TablesOf.{export_entry_of}
use Rattle.bundle_link_tables.proofs.ExportLemmas.{bound_moved}
use Rattle.bundle_tree_places.proofs.LengthLemmas.{read-at}
use Rattle.bundle_link_tables.proofs.exports.add_bound.Goals as goal
use Rattle.bundle_link_tables.proofs.exports.add_bound.Goals.{in-Some+in_ok-add_local, in_default}

pub loop-place-preserved : goal.loop-place-preserved
loop-place-preserved c =
    let pieces = c.args.declarator.pieces.now in
    let place = c.loop-place.place in
    let x = get_or pieces place c.index-declarator-place.result in
    let before = map export_entry_of c.loop-place.exports.items in
    let next = c.depth_behind-depth.result in
    let rest = drop (place + 1) (map item_of pieces) in
    let read = read-at pieces place c.index-declarator-place.result c.loop-place-test.true c.index-declarator-place.is ∙ ap (λ y. item_of y ∷ rest) c.index-declarator-place.is in
    record {
      low = omega (arith, c.depth_behind-depth.ensures.bound, c.loop-place.invariant.low);
      names = elim c.match-bound_at.branch [
        | in-Some+in_ok-add_local w ↦
            ap (λ l. l ++ locals_named (names_bound next rest)) (ap (λ v. map export_entry_of v.items) w.exports-is ∙ w.in_ok-add_local.ensures)
            ∙ bound_moved before _ (w.in-Some.name.now ∷ []) c.loop-place.depth next (item_of x) rest _ read (ap text_list (sym w.in-Some.is) ∙ c.bound_at.ensures) c.depth_behind-depth.ensures.behind c.loop-place.invariant.names
        | in_default w ↦
            ap (λ l. l ++ locals_named (names_bound next rest)) (ap (λ v. map export_entry_of v.items) w.exports-is ∙ sym (append-nil before))
            ∙ bound_moved before _ [] c.loop-place.depth next (item_of x) rest _ read (ap text_list (sym w.in_default.is) ∙ c.bound_at.ensures) c.depth_behind-depth.ensures.behind c.loop-place.invariant.names
      ];
    }
