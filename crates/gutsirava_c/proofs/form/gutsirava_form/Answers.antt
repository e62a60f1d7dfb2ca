use Rattle.std.proofs.Common.{codes, inr, refl}
use Rattle.gutsirava_c.proofs.Told.{memory_told}
use Rattle.gutsirava_c.proofs.form.gutsirava_form.Goals as goal

pub returns-in-Err : goal.returns-in-Err
returns-in-Err c = (
  1,
  codes "error 22: OutOfMemory\n{\"file\":null,\"name\":null}\n",
  inr (refl, inr memory_told),
  c.hand_over-in-Err.ensures,
)
