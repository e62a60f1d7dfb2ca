-- The symbols of the occurrences gone over were added, and have numbers.
use Rattle.std.proofs.Common.{◌≡◌, map, take, length}
use Rattle.std.specs.List.{list_any}
use Rattle.bundle_syntax.specs.Item.{item_of}
use Rattle.bundle_rules.specs.Nodes.{Text}
use Rattle.bundle_scope_names.specs.Marks.{is_among, is_called_in}
use Rattle.bundle_scope_names.specs.Symbols.{HaveSymbolNumbers}
use Rattle.bundle_scope_names.proofs.hygiene.symbols_before.Given as goal

abbrev pub invariant-loop-occurrence : goal.invariant-loop-occurrence
invariant-loop-occurrence l =
    ((text : Text) → is_among text l.before.symbols.keys ≡ list_any (is_called_in (map item_of l.pieces) (map (λ sym. sym.now) l.symbols) text) (take l.occurrence-index l.denotations.occurrences.items))
    × (length l.before.numbers.items ≡ length l.symbols) × HaveSymbolNumbers (map (λ sym. sym.now) l.symbols) (take l.occurrence-index l.denotations.occurrences.items) l.before.symbols.keys l.before.numbers.items
