-- The first bindings have their places.
use Rattle.bundle_scope_names.specs.Turns.{homes_of}
use Rattle.bundle_scope_names.proofs.SymbolLemmas.{ArePlaced}
use Rattle.bundle_scope_names.proofs.hygiene.places_of.Given as goal

abbrev pub invariant-loop-number : goal.invariant-loop-number
invariant-loop-number l = ArePlaced (homes_of l.bindings) l.occurrences l.number l.places.items
