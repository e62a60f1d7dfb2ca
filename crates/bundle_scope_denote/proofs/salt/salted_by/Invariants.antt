-- The symbols gone over are the message so far.
use Rattle.std.proofs.Common.{map, take}
use Rattle.sha2.specs.Hashers.{Holds512}
use Rattle.bundle_syntax.specs.Item.{item_of}
use Rattle.bundle_scope_denote.specs.Salted.{message_of}
use Rattle.bundle_scope_denote.proofs.salt.salted_by.Given as goal

abbrev pub invariant-loop-piece : goal.invariant-loop-piece
invariant-loop-piece l = Holds512 l.digest (message_of (map item_of (take l.piece-index l.pieces)))
