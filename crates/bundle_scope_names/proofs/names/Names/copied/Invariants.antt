-- The names so far are the same.
use Rattle.std.proofs.Common.{◌≡◌, ◌<◌, ℕ, length, string_bytes}
use Rattle.std.specs.Option.{option_map}
use Rattle.bundle_scope_names.specs.Called.{at, binding_text, context_of}
use Rattle.bundle_scope_names.proofs.names.Names.copied.Given as goal

abbrev pub invariant-loop-number : goal.invariant-loop-number
invariant-loop-number l =
    (length l.texts.items ≡ l.number) × (length l.contexts.items ≡ l.number) × ((k : ℕ) → k < l.number → option_map string_bytes (at l.texts.items k) ≡ binding_text l.self k)
    × ((k : ℕ) → k < l.number → at l.contexts.items k ≡ context_of l.self k)
