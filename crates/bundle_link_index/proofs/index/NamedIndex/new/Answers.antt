use Rattle.bundle_link_index.specs.Numbered.{index_names, values_of}
use Rattle.bundle_link_index.proofs.ProgramLemmas.{is_graph_of}
use Rattle.bundle_link_index.proofs.index.NamedIndex.new.Goals as goal

pub returns : goal.returns
returns c = λ p w.
    let numbers = c.search_of.new.numbers in
    is_graph_of p c.args.kinds.now w (index_names numbers) (values_of numbers) c.in_ok-search.search (c.in_ok-search.ensures c.new-numbers.ensures)
