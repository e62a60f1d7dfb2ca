-- So many places are there, and hold no answer.
use Rattle.std.specs.Prelude.{◌≡◌, None, replicate}
use Rattle.bundler_entry.proofs.entry.unread.Given as goal

abbrev pub invariant-loop : goal.invariant-loop
invariant-loop l = l.metas.items ≡ replicate l.counter None
