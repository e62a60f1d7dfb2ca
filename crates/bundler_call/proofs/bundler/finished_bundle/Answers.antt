-- The tree is finished, and nothing else is another.
use Rattle.std.proofs.Common.{refl}
use Rattle.bundler_call.proofs.bundler.finished_bundle.Goals as goal

pub returns : goal.returns
returns c = record { kind = refl; id = refl; tree = c.in_ok-module.ensures }
