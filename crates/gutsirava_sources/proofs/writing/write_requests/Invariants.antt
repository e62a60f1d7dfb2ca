-- The requests that are left are put down behind those that stand there, as all are from the start.
use Rattle.std.proofs.Common.{◌≡◌, drop}
use Rattle.gutsirava_sources.specs.Written.{written_of}
use Rattle.gutsirava_sources.specs.Rewritten.{requested_all, source_of}
use Rattle.gutsirava_sources.proofs.writing.write_requests.Given as goal

abbrev pub invariant-loop-number : goal.invariant-loop-number
invariant-loop-number l =
    requested_all (source_of l.it l.pieces) l.requests l.stands
    (record { place = 0; done = written_of l.initial.made })
    ≡ requested_all (source_of l.it l.pieces) (drop l.number l.requests) (drop l.number l.stands)
    (record { place = l.next; done = written_of l.made })
