-- A place more was passed.
use Rattle.std.proofs.Common.{◌++◌, ap, ◌∙◌, map, arith}
use Rattle.bundle_syntax.specs.declared.piece.Piece.TheVariants as p
use Rattle.bundle_syntax.specs.Item.{item_of}
use Rattle.bundle_rules.specs.Entries.{call_at, required_at}
use Rattle.bundle_link_tables.specs.Free.{is_place_marked}
use Rattle.bundle_link_tables.specs.TablesOf.{call_entry_of}
use Rattle.bundle_link_tables.proofs.CallLemmas.{calls_next, calls_end}
use Rattle.bundle_link_tables.proofs.calls.calls_in.Goals as goal

pub loop-place-preserved : goal.loop-place-preserved
loop-place-preserved c =
    let free = is_place_marked c.args.free.now in
    let before = map call_entry_of c.loop-place.calls.items in
    calls_next free c.args.pieces.now c.loop-place.place p.Close _ before _ c.loop-place-test.true c.loop-place.invariant
    (c.in_ok-add_call.ensures ∙ ap (λ l. before ++ call_at free c.loop-place.place (required_at (map item_of l))) c.behind.ensures.there)

pub returns : goal.returns
returns c = calls_end (is_place_marked c.args.free.now) c.args.pieces.now c.loop-place.place _ _ (omega arith) c.loop-place.invariant
