-- One part more is written.
use Rattle.std.proofs.Common.{◌∙◌, ap, arith, string_bytes}
use lib.Utf8
use Rattle.gutsirava_path.proofs.NormalParts.{path_text-step}
use Rattle.gutsirava_path.proofs.normal.write_path.Goals as goal
use Rattle.gutsirava_path.proofs.normal.write_path.Goals.{then-i-gt0+in_ok-push-2, else-i-gt0}

pub loop-i-preserved : goal.loop-i-preserved
unfolding lib.Utf8.encode
loop-i-preserved c =
    path_text-step c.args.rooted c.args.parts.now c.loop-i.i _ (string_bytes c.loop-i.text) (string_bytes c.if-i-gt0.text) _
    c.loop-i-test.true c.loop-i.invariant
    (λ some. elim c.if-i-gt0.branch [
      | then-i-gt0+in_ok-push-2 w ↦ ap string_bytes w.text-is ∙ w.in_ok-push-2.ensures.bytes
      | else-i-gt0 w ↦ absurd (omega arith)
    ])
    (λ none. elim c.if-i-gt0.branch [
      | then-i-gt0+in_ok-push-2 w ↦ absurd (omega arith)
      | else-i-gt0 w ↦ ap string_bytes w.text-is
    ])
    c.in_ok-push_str.ensures.bytes
