-- What stands before the place was met.
use Rattle.std.proofs.Common.{map}
use Rattle.bundle_syntax.specs.Item.{item_of}
use Rattle.bundle_scope_denote.specs.Steps.{IsWalkAt, IsTidyAt, StaysInWalk}
use Rattle.bundle_scope_denote.proofs.walk.ScopeWalk.go_over.Given as goal

abbrev pub invariant-loop-place : goal.invariant-loop-place
invariant-loop-place l = record { is_at : IsWalkAt l.self (map item_of l.pieces) l.place; tidy : IsTidyAt l.self l.place; stays : StaysInWalk l.fn.self l.self }
