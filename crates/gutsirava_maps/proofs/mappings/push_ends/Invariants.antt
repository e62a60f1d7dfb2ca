use Rattle.std.proofs.Common.{◌≡◌, ◌≤◌, ◌-◌, ◌++◌, replicate, string_bytes}
use Rattle.gutsirava_maps.proofs.mappings.push_ends.Given as goal

abbrev pub invariant-loop-ended : goal.invariant-loop-ended
invariant-loop-ended l = record {
  text : string_bytes l.text ≡ string_bytes l.initial.text ++ replicate l.ended 59;
  within : l.ended ≤ l.count;
}

abbrev pub decreases-loop-ended : goal.decreases-loop-ended
decreases-loop-ended l = l.count - l.ended
