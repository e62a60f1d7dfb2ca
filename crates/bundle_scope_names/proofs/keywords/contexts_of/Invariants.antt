-- The first bindings have their contexts.
use Rattle.std.proofs.Common.{map, string_bytes}
use Rattle.std.specs.Option.{option_map}
use Rattle.bundle_syntax.specs.Item.{item_of}
use Rattle.bundle_scope_names.proofs.HomesLemmas.{AreContextsTo}
use Rattle.bundle_scope_names.proofs.keywords.contexts_of.Given as goal

abbrev pub invariant-loop-number : goal.invariant-loop-number
invariant-loop-number l = AreContextsTo (map item_of l.pieces) l.bindings (map (option_map string_bytes) l.texts) l.number l.contexts.items l.taken
