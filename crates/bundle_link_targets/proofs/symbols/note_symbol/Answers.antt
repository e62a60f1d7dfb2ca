use Rattle.std.proofs.Common.{rules}
use Rattle.bundle_link_targets.proofs.SymbolLemmas.{calls-kept, calls-noted}
use Rattle.bundle_link_targets.proofs.symbols.note_symbol.Goals as goal

pub returns-in_ok-insert : goal.returns-in_ok-insert
returns-in_ok-insert c = λ before known.
    calls-noted c.args.symbols.now c.insert.new.self before c.args.target c.args.symbol known (search rules) c.in_ok-insert.ensures.updates

pub returns-else-not-contains_key : goal.returns-else-not-contains_key
returns-else-not-contains_key c = λ before known. calls-kept c.args.symbols.now before c.args.target c.args.symbol.now known (search rules)
