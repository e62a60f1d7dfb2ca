use Rattle.std.proofs.Common.{refl, [], ◌∷◌}
use Rattle.bundle_json_document.proofs.Fronts.{front_of_longer, front_after, front_kept}
use Rattle.bundle_json_document.proofs.writing.write_line.Goals as goal

pub returns-then-not-write_text-clause-front : goal.returns-then-not-write_text-clause-front
returns-then-not-write_text-clause-front g c = front_of_longer (10 ∷ []) c.if-not-write_text.ensures.front

pub returns-then-is_ok-clause-front : goal.returns-then-is_ok-clause-front
returns-then-is_ok-clause-front g c =
    front_kept _ (front_after _ _ _ c.args.text.now (c.if-not-write_text.ensures.whole refl) c.write_text-is_written.ensures.front) c.flush.ensures.bytes

pub returns-else-is_ok-clause-front : goal.returns-else-is_ok-clause-front
returns-else-is_ok-clause-front g c =
    front_kept _ (front_after _ _ _ c.args.text.now (c.if-not-write_text.ensures.whole refl) c.write_text-is_written.ensures.front) c.flush.ensures.bytes
