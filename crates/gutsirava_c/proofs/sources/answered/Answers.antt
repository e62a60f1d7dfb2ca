-- No error is told: the bundles are the answer, and these are told.
use Rattle.std.proofs.Common.{inl, refl, arith}
use Rattle.gutsirava_c.proofs.sources.answered.Goals as goal

pub returns : goal.returns
returns c = inl (
  refl,
  record {
    bundles = c.in_ok-bundled.bundled.outputs.items;
    are_right = c.in_ok-bundled.ensures.answers (omega arith);
    is_text = c.in_ok-text.ensures;
  },
)
