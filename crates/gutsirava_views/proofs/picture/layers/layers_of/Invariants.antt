use Rattle.std.proofs.Common.{◌≡◌, ◌<◌, All, length, vec_len}
use Rattle.gutsirava_views.specs.Layers.{AreBehind}
use Rattle.gutsirava_views.proofs.picture.layers.layers_of.Given as goal

abbrev pub invariant-loop-block : goal.invariant-loop-block
invariant-loop-block l = record {
  each : length l.layers.items ≡ l.block;
  behind : AreBehind l.askers l.layers.items;
  within : All (λ layer. layer < vec_len l.filled) l.layers.items;
}
