use Rattle.std.proofs.Common.{codes, inl, inr, refl}
use Rattle.gutsirava_c.proofs.Asked.{memory_bundled}
use Rattle.gutsirava_c.proofs.sources.gutsirava_bundle_sources.Goals as goal

pub returns-in-Err-Form : goal.returns-in-Err-Form
returns-in-Err-Form c = (
  2,
  codes "error: document\n",
  inr (inr (refl, c.in-Err-Form.ensures.refused c.in-Err-Form.field-0-is, refl)),
  c.hand_over-in-Err-Form.ensures,
)

pub returns-in-Err-OutOfMemory : goal.returns-in-Err-OutOfMemory
returns-in-Err-OutOfMemory c = (
  1,
  codes "{\"bundles\":[],\"messages\":[{\"column\":null,\"file\":null,\"line\":null,\"notes\":[],\"severity\":\"error\",\"text\":\"out of memory\"}]}\n",
  inr (inl (refl, memory_bundled)),
  c.hand_over-in-Err-OutOfMemory.ensures,
)
