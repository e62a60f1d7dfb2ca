use Rattle.std.proofs.Common.{codes, inl, inr, refl}
use Rattle.bundle_tree_names.specs.declared.error.Error.TheVariants.{OutOfMemory}
use Rattle.gutsirava_c.proofs.Told.{memory_told}
use Rattle.gutsirava_c.proofs.bundle.gutsirava_bundle.Goals as goal

pub returns-in-Err : goal.returns-in-Err
returns-in-Err c = (
  1,
  codes "error 22: OutOfMemory\n{\"file\":null,\"name\":null}\n",
  inr (inl (refl, record { refusal = OutOfMemory; is_right = inl refl; is_told = memory_told })),
  c.hand_over-in-Err.ensures,
)
