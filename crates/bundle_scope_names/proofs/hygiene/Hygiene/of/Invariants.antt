-- The globals among the occurrences gone over were added.
use Rattle.std.proofs.Common.{◌≡◌, List, map, take}
use Rattle.std.specs.List.{list_any}
use Rattle.bundle_syntax.specs.Item.{item_of}
use Rattle.bundle_rules.specs.Nodes.{Text}
use Rattle.bundle_scope_denote.specs.Numbers.{numbered_scope}
use Rattle.bundle_scope_names.specs.Marks.{is_among, is_called_in}
use Rattle.bundle_scope_names.proofs.SymbolLemmas.{HasGlobals}
use Rattle.bundle_scope_names.proofs.hygiene.Hygiene.of.Given as goal

abbrev pub invariant-loop-occurrence : goal.invariant-loop-occurrence
invariant-loop-occurrence l =
    ((texts : List Text) → ((text : Text) → is_among text l.fn.symbols.keys ≡ list_any (is_called_in (map item_of l.pieces) texts text) l.denotations.occurrences.items) → HasGlobals (map numbered_scope l.denotations.scopes.items) (map item_of l.pieces) texts l.denotations.occurrences.items (take l.occurrence-index l.denotations.occurrences.items) l.hygiene)
    × (l.hygiene.symbols.keys ≡ l.fn.symbols.keys)
