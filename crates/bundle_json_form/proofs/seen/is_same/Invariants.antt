-- The bytes so far are the same.
use Rattle.std.proofs.Common.{◌≡◌, take}
use Rattle.bundle_json_form.proofs.seen.is_same.Given as goal

abbrev pub invariant-loop-place : goal.invariant-loop-place
invariant-loop-place l = take l.place l.bytes ≡ take l.place l.others
