-- The entry that was found is the one that is added.
use Rattle.gutsirava_graph.proofs.entries.add_root.Goals as goal

pub returns-clause-added : goal.returns-clause-added
returns-clause-added g c = λ none.
    (c.in_ok-root.root, c.in_ok-push_root.ensures.added none, c.in_ok-root.ensures)
