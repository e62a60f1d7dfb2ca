use Rattle.std.proofs.Common.{◌≡◌, ◌≤◌, ◌<◌, ◌+◌, ℕ, drop, slice_index, sum, vec_len}
use Rattle.gutsirava_views.specs.Shares.{share_from, share_of}
use Rattle.gutsirava_views.proofs.shares.shares_of.Given as goal

abbrev pub invariant-loop-part : goal.invariant-loop-part
invariant-loop-part l = record {
  each : vec_len l.shares ≡ l.inputs;
  within : sum l.shares.items ≤ l.done;
  below : l.done ≤ l.bytes;
  exact : (input : ℕ) → input < l.inputs
      → slice_index l.shares.items input + share_from l.done l.bytes input (drop l.part-index l.parts)
      ≡ share_of l.parts l.bytes input;
}
