-- The first byte that is no white space is the first of those that are left.
use Rattle.std.proofs.Common.{◌≡◌, drop}
use Rattle.bundle_js_read.specs.Doubts.{first_visible}
use Rattle.bundle_js_read.proofs.doubts.first_visible.Given as goal

abbrev pub invariant-loop-byte : goal.invariant-loop-byte
invariant-loop-byte l = first_visible l.text ≡ first_visible (drop l.byte-index l.text)
