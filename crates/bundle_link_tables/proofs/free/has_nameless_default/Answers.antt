-- An element more was passed.
use Rattle.std.proofs.Common.{ap, sym, ◌∙◌, map, arith}
use Rattle.bundle_syntax.specs.declared.piece.Piece.TheVariants as p
use Rattle.bundle_syntax.specs.Item.{item_of}
use Rattle.bundle_link_tables.specs.Free.{names_nothing}
use Rattle.bundle_link_tables.proofs.ToldLemmas.{nameless_here, nameless_past, nameless_end}
use Rattle.bundle_link_tables.proofs.free.has_nameless_default.Goals as goal

pub returns-then-begins_nameless : goal.returns-then-begins_nameless
returns-then-begins_nameless c =
    let begins = ap (λ l. names_nothing (map item_of l)) (sym c.behind.ensures.there) ∙ sym c.begins_nameless.ensures ∙ c.if-begins_nameless.true in
    sym (c.loop-place.invariant ∙ nameless_here c.args.pieces.now c.loop-place.place p.Close c.loop-place-test.true begins)

pub loop-place-preserved : goal.loop-place-preserved
loop-place-preserved c =
    let begins = ap (λ l. names_nothing (map item_of l)) (sym c.behind.ensures.there) ∙ sym c.begins_nameless.ensures ∙ c.if-begins_nameless.false in
    c.loop-place.invariant ∙ nameless_past c.args.pieces.now c.loop-place.place p.Close c.loop-place-test.true begins

pub returns : goal.returns
returns c = sym (c.loop-place.invariant ∙ nameless_end c.args.pieces.now c.loop-place.place (omega arith))
