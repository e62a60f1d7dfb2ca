use Rattle.std.proofs.Common.{codes, inl, inr, refl}
use Rattle.gutsirava_c.proofs.Told.{memory_told}
use Rattle.gutsirava_c.proofs.text.gutsirava_text.Goals as goal

pub returns-in-Err-Form : goal.returns-in-Err-Form
returns-in-Err-Form c = (
  2,
  codes "error: document\n",
  inr (inr (refl, c.in-Err-Form.ensures.refused c.in-Err-Form.field-0-is, refl)),
  c.hand_over-in-Err-Form.ensures,
)

pub returns-in-Err-OutOfMemory : goal.returns-in-Err-OutOfMemory
returns-in-Err-OutOfMemory c = (
  1,
  codes "error 22: OutOfMemory\n{\"file\":null,\"name\":null}\n",
  inr (inl (refl, memory_told)),
  c.hand_over-in-Err-OutOfMemory.ensures,
)
