use Rattle.std.proofs.Common.{◌≡◌, ℕ, List, take}
use Rattle.bundle_link_index.specs.Handed.{HoldsNumbers, is_kind, modules_numbered}
use Rattle.bundle_link_index.proofs.kinds.kinds_of.Given as goal

abbrev pub invariant-loop-number : goal.invariant-loop-number
invariant-loop-number l = (those : List ℕ) → HoldsNumbers l.required those → l.flags.items ≡ modules_numbered (is_kind l.require l.entry those) 0 (take l.number-counter l.modules)
