use Rattle.std.proofs.Common.{◌*◌, ◌/◌, ◌%◌, ◌^◌, ◌<◌, bit_or, arith, rules}
use Rattle.std.proofs.lemmas.Nat.{le_or_l, or_lt}
use Rattle.bundle_order_graph.proofs.BitLemmas.{Has-set_read, row_room-told}
use Rattle.bundle_order_graph.proofs.rows.Row.insert.Goals as goal

pub returns-clause-added : goal.returns-clause-added
returns-clause-added c = Has-set_read c.self.inside.words.items c.args.self.now c.args.position c.index-word.result.now c.self.view_is c.requires c.index-word.ensures

pub returns-clause-grown : goal.returns-clause-grown
returns-clause-grown c =
    let w = c.index-word.result.now in
    let b = 1 * 2 ^ (c.args.position % 64) % 2 ^ 64 in
    let fits : w < 2 ^ 64 = search rules in
    let small : b < 2 ^ 64 = omega arith in
    row_room-told c.self.inside.words.items c.args.self.now (c.args.position / 64) w (bit_or w b) c.self.view_is c.requires c.index-word.ensures (le_or_l w b) (or_lt 64 w b fits small)
