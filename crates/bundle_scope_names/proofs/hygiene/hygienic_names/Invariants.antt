-- The bindings whose turn it was are named, and symbols keep their numbers.
use Rattle.std.proofs.Common.{map}
use Rattle.bundle_syntax.specs.Item.{item_of}
use Rattle.bundle_scope_names.specs.Turns.{facts_of}
use Rattle.bundle_scope_names.specs.Symbols.{HaveSymbolNumbers}
use Rattle.bundle_scope_names.proofs.HomesLemmas.{IsNamedTo}
use Rattle.bundle_scope_names.proofs.hygiene.hygienic_names.Given as goal

abbrev pub invariant-loop-place : goal.invariant-loop-place
invariant-loop-place l =
    IsNamedTo (facts_of l.denotations (map item_of l.pieces) l.keywords) l.keywords l.place-items l.place-index l.hygiene l.names
    × HaveSymbolNumbers (map (λ sym. sym.now) l.symbols.items) l.denotations.occurrences.items l.hygiene.symbols.keys l.numbers.items
