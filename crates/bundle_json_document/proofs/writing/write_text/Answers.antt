use Rattle.std.proofs.Common.{◌++◌, take}
use Rattle.std.proofs.KnownBytes.{Appends-trans, Appends-kept}
use Rattle.bundle_json_document.proofs.Fronts.{front_moves}
use Rattle.bundle_json_document.proofs.writing.write_text.Goals as goal
use Rattle.bundle_json_document.proofs.writing.write_text.Goals.{in-Ok, in-Err+else-ne}

pub loop-preserved : goal.loop-preserved
loop-preserved g c =
    let (front, split, written) = c.loop.invariant in
    let rest = c.loop.rest.now in
    elim c.match-write.branch [
      | in-Ok w ↦
          let n = w.in-Ok.count in
          rw w.rest-is (front ++ take n rest, front_moves c.args.text.now front rest n split, Appends-trans _ _ _ _ _ written w.in-Ok.ensures.bytes)
      | in-Err+else-ne w ↦ rw w.rest-is (front, split, Appends-kept _ _ _ _ written w.in-Err.ensures.bytes)
    ]
