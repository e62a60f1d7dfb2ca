-- All but the first.
use Rattle.std.proofs.Common.{ap, sym, ◌∙◌, map}
use Rattle.std.proofs.lemmas.List.{drop-map}
use Rattle.bundle_syntax.specs.Item.{item_of}
use Rattle.bundle_link_tables.proofs.calls.tail.Goals as goal

pub returns : goal.returns
returns c = ap (map item_of) c.behind.ensures.there ∙ sym (drop-map item_of 1 c.args.pieces.now)
