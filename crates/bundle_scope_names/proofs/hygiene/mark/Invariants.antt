-- The symbol is marked in the scopes passed.
use Rattle.std.proofs.Common.{◌≡◌, ◌-◌, List, Some, map, length}
use Rattle.bundle_rules.specs.Nodes.{Text}
use Rattle.bundle_scope_denote.specs.Numbers.{numbered_scope}
use Rattle.bundle_scope_names.specs.Marks.{Symbol, symbol_number, marked}
use Rattle.bundle_scope_names.proofs.KnowsLemmas.{IsMarking}
use Rattle.bundle_scope_names.proofs.hygiene.mark.Given as goal

abbrev pub invariant-loop : goal.invariant-loop
invariant-loop l = (symbols : List Symbol) (text : Text) → symbol_number symbols text ≡ Some l.symbol → IsMarking (map numbered_scope l.scopes) l.from text (marked symbols l.initial.marks.keys) (marked symbols l.marks.keys) (length (map numbered_scope l.scopes) - l.counter) l.at
