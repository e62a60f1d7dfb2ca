-- What was read so far is what the reader gave.
use Rattle.std.specs.Io.KnownBytes.{Consumes}
use Rattle.bundle_json_document.proofs.input.read_to_end.Given as goal

abbrev pub invariant-loop : goal.invariant-loop
invariant-loop g l = Consumes (g.R.Read.remaining l.initial.reader) (g.R.Read.remaining l.reader) l.text.items
