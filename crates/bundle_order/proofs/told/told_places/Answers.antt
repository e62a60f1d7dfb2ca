use Rattle.std.proofs.Common.{◌≡◌, List, length, map, sym, ap, ◌∙◌, arith}
use Rattle.std.proofs.lemmas.List.{length-map}
use Rattle.bundle_syntax.specs.Item.{item_of}
use Rattle.bundle_scope_denote.specs.declared.table.Denoted.{Denoted}
use Rattle.bundle_order.specs.Told.{told_in}
use Rattle.bundle_order.proofs.EntryLemmas.{told_all}
use Rattle.bundle_order.proofs.told.told_places.Goals as goal

pub returns-clause-each : goal.returns-clause-each
returns-clause-each c =
    let items = map item_of c.args.pieces.now in
    let count : length items ≡ length c.args.pieces.now = length-map c.args.pieces.now item_of in
    told_all items c.args.denotations.now c.args.top c.tell-told.result.items (c.tell-told.ensures.len ∙ sym count) (λ p l. c.tell-told.ensures.each c.in_ok-fresh.ensures.each p (omega (arith, l, count)) ∙ ap (λ (entries : List Denoted). told_in entries items c.args.denotations.now c.args.top p) c.deref.ensures.value)
