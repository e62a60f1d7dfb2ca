-- What was known was told, and so is what is added.
use Rattle.std.proofs.lemmas.Map.Views.{All-values-insert_entry}
use Rattle.gutsirava_resolve.specs.Told.{IsTold}
use Rattle.gutsirava_resolve.proofs.known.Known.look.Goals as goal

pub invariant_of-self-2 : goal.invariant_of-self-2
invariant_of-self-2 g c = rw c.in_ok-insert.ensures.entries
    (All-values-insert_entry _ _ _ (IsTold g.F.FileSystem.has_file) _ c.self.invariant c.in_ok-standing.ensures)
