use Rattle.std.proofs.Common.{◌≡◌, Some, None, false, List, length, get_or, map, slice_get, refl, sym, ap, ◌∙◌, arith}
use Rattle.std.specs.Option.{option_map}
use Rattle.std.proofs.lemmas.Option.{slice_get-map, slice_get_read}
use Rattle.std.proofs.lemmas.List.{length-map, length-set, take_all}
use Rattle.bundle_syntax.specs.Item.{item_of}
use Rattle.bundle_scope_denote.specs.declared.table.Denoted.{Denoted}
use Rattle.bundle_order.specs.declared.told.TopBinding.{TopBinding}
use Rattle.bundle_order.specs.Told.{no_binding_told, told_in}
use Rattle.bundle_order.proofs.EntryLemmas.{told-puts, told-leaves}
use Rattle.bundle_order.proofs.told.tell.Goals as goal
use Rattle.bundle_order.proofs.told.tell.Goals.{then-denoted-pieces, else-denoted-pieces}

-- no entry
abbrev none : Denoted
none = record { place = 0; scope = 0; binding = None; declares = false }

pub loop-denoted-preserved : goal.loop-denoted-preserved
loop-denoted-preserved c =
    let inv = c.loop-denoted.invariant in
    let pieces = c.args.pieces.now in
    let items = map item_of pieces in
    let entries = c.args.entries.now in
    let i = c.loop-denoted.denoted-index in
    let told = c.loop-denoted.told.items in
    let place = (get_or entries i none).place in
    let len : length told ≡ length items = inv.len ∙ sym (length-map pieces item_of) in
    let count : length items ≡ length pieces = length-map pieces item_of in
    elim c.if-denoted-pieces.branch [
      | then-denoted-pieces w ↦
          let is = ap (λ v. v.items) w.told-is in
          let piece = w.index-pieces-denoted.result in
          let at : slice_get items place ≡ Some (item_of piece) = slice_get-map item_of pieces place ∙ ap (λ x. option_map item_of x) (slice_get_read pieces (length pieces) place piece refl w.if-denoted-pieces.true w.index-pieces-denoted.is) in
          record {
            len = ap length is ∙ (length-set told place w.told_of.result ∙ inv.len);
            each = λ nothing p l. ap (λ (list : List TopBinding). get_or list p no_binding_told) is ∙ told-puts items c.args.denotations.now c.args.top entries i none c.loop-denoted-test.true told len (λ q m. inv.each nothing q (omega (arith, m, count))) (item_of piece) w.told_of.result at w.told_of.ensures p (omega (arith, l, count));
          }
      | else-denoted-pieces w ↦
          let is = ap (λ v. v.items) w.told-is in
          record {
            len = ap length is ∙ inv.len;
            each = λ nothing p l. ap (λ (list : List TopBinding). get_or list p no_binding_told) is ∙ told-leaves items c.args.denotations.now c.args.top entries i none c.loop-denoted-test.true told len (λ q m. inv.each nothing q (omega (arith, m, count))) (omega (arith, w.if-denoted-pieces.false, count)) p (omega (arith, l, count));
          }
    ]

pub returns-clause-each : goal.returns-clause-each
returns-clause-each c = λ nothing p l. c.loop-denoted.invariant.each nothing p l ∙ ap (λ (entries : List Denoted). told_in entries (map item_of c.args.pieces.now) c.args.denotations.now c.args.top p) (take_all c.loop-denoted.denoted-index c.args.entries.now (omega (arith, c.loop-denoted-test.false)))
