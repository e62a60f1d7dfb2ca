-- None was met yet.
use Rattle.gutsirava_graph.proofs.MetLemmas.{set_none}
use Rattle.gutsirava_graph.proofs.tables.MetUnits.new.Goals as goal

pub add-requires : goal.add-requires
add-requires c = set_none c.new.result.items c.new-2.result c.new.ensures.items c.new-2.ensures.empty
