-- The bytes gone over were folded in.
use Rattle.std.proofs.Common.{◌≡◌, take, fold}
use Rattle.bundle_scope_denote.specs.Mixed.{mix}
use Rattle.bundle_scope_denote.proofs.mixed.MixerHasher.write.Given as goal

abbrev pub invariant-loop-byte : goal.invariant-loop-byte
invariant-loop-byte l = l.self ≡ fold mix l.fn.self (take l.byte-index l.bytes)
