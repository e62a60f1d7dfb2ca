-- The list has such a name if some element is one.
use Rattle.std.proofs.Common.{◌∙◌}
use Rattle.bundle_link_tables.proofs.CallLemmas.{require_any}
use Rattle.bundle_link_tables.proofs.calls.has_require.Goals as goal

pub returns : goal.returns
returns c = c.some_require.ensures ∙ require_any c.args.pieces.now
