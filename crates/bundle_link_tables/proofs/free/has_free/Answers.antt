-- The entries tell it.
use Rattle.std.proofs.Common.{◌∙◌, map}
use Rattle.bundle_syntax.specs.Item.{item_of}
use Rattle.bundle_link_tables.proofs.CallLemmas.{has_free_told}
use Rattle.bundle_link_tables.proofs.free.has_free.Goals as goal

pub returns : goal.returns
returns c = λ is. c.some_free.ensures ∙ has_free_told (map item_of c.args.pieces.now) c.args.denotations.now is c.args.name.now
