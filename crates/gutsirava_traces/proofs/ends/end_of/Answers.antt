-- A piece behind which nodes are open is gone over.
use Rattle.std.proofs.Common.{◌≡◌, ◌+◌, ap, drop, ◌∙◌, arith}
use Rattle.gutsirava_traces.specs.Ends.{depth_behind, span}
use Rattle.gutsirava_traces.proofs.EndLemmas.{depth_behind_le, span_step}
use Rattle.gutsirava_traces.proofs.ends.end_of.Goals as goal

pub loop-end-preserved : goal.loop-end-preserved
loop-end-preserved c =
    let pieces = c.args.pieces.now in
    let piece = c.index-pieces-end.result in
    let same : c.depth_behind-depth.result ≡ depth_behind c.loop-end.depth piece = c.depth_behind-depth.ensures in
    let step = span_step pieces c.loop-end.end c.loop-end.depth piece (omega arith) c.index-pieces-end.is (λ e. absurd (c.if-depth-eq0.false (same ∙ e))) in
    let rest : span c.depth_behind-depth.result (drop (c.loop-end.end + 1) pieces) ≡ span (depth_behind c.loop-end.depth piece) (drop (c.loop-end.end + 1) pieces) = ap (λ n. span n (drop (c.loop-end.end + 1) pieces)) same in
    let sum = c.loop-end.invariant.1 in
    (omega (arith, depth_behind_le c.loop-end.depth piece, same, c.loop-end.invariant.0), omega (arith, step, rest, sum))
