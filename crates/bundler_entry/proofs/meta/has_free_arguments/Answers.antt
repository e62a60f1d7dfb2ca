-- The occurrences tell it.
use Rattle.std.proofs.Common.{◌∙◌, codes, map}
use Rattle.bundle_syntax.specs.Item.{item_of}
use Rattle.bundle_link_tables.proofs.CallLemmas.{has_free_told}
use Rattle.bundler_entry.proofs.meta.has_free_arguments.Goals as goal

pub returns : goal.returns
returns c = λ is. c.some_free.ensures ∙ has_free_told (map item_of c.args.pieces.now) c.args.names.now is (codes "arguments")
