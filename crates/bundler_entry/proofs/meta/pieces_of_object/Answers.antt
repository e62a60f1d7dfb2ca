-- What stands around the properties is put before and behind them.
use Rattle.std.proofs.Common.{ap, ◌∙◌, map}
use Rattle.bundle_syntax.specs.Item.{item_of}
use Rattle.bundler_entry.proofs.AskedLemmas.{put_around}
use Rattle.bundler_entry.proofs.meta.pieces_of_object.Goals as goal

pub returns : goal.returns
returns c =
    put_around c.new-pieces.result.items c.extend_from_slice.new.self.items c.extend_from_slice-2.new.self.items c.extend_from_slice-3.new.self.items c.as_slice.result.now c.opened.result c.opened-2.result c.opened-3.result _
    c.new-pieces.ensures.items
    c.in_ok-extend_from_slice.ensures.items
    c.in_ok-extend_from_slice-2.ensures.items
    c.in_ok-extend_from_slice-3.ensures.items
    c.opened.ensures
    c.opened-2.ensures
    c.opened-3.ensures
    (ap (map item_of) c.as_slice.ensures.value ∙ c.in_ok-inside.ensures)
