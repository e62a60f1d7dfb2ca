-- Where no member begins right before a name, nothing is read of it.
use Rattle.std.proofs.Common.{map, sym, ◌∙◌}
use Rattle.bundle_syntax.specs.Item.{item_of}
use Rattle.bundle_link_tables.proofs.MarkLemmas.{read_all, unread_all}
use Rattle.bundle_link_tables.proofs.walk.told_for.Goals as goal

pub returns-then-are_read : goal.returns-then-are_read
returns-then-are_read c = read_all (map item_of c.args.pieces.now) c.in_ok-told.told.items c.args.names.now c.in_ok-told.ensures

pub returns : goal.returns
returns c = unread_all (map item_of c.args.pieces.now) c.new.result.items c.args.names.now c.new.ensures.items (sym c.are_read.ensures ∙ c.if-are_read.false)
