-- The symbol is marked in the scopes of the occurrences gone over.
use Rattle.std.proofs.Common.{◌≡◌, ◌-◌, List, Some, map, length}
use Rattle.bundle_rules.specs.Nodes.{Text}
use Rattle.bundle_scope_denote.specs.Numbers.{numbered_scope}
use Rattle.bundle_scope_names.specs.Marks.{Symbol, symbol_number, marked, IsClosed}
use Rattle.bundle_scope_names.proofs.KnowsLemmas.{IsMarkedFrom}
use Rattle.bundle_scope_names.proofs.hygiene.mark_all.Given as goal

abbrev pub invariant-loop : goal.invariant-loop
invariant-loop l = (symbols : List Symbol) (text : Text) → symbol_number symbols text ≡ Some l.symbol → IsClosed (map numbered_scope l.scopes) (marked symbols l.initial.marks.keys) → IsMarkedFrom (map numbered_scope l.scopes) l.occurrences l.binding text (marked symbols l.initial.marks.keys) (marked symbols l.marks.keys) (length l.occurrences - l.counter) l.at
