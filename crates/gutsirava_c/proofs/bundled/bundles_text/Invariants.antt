-- What was put in, and what is still to be put in, is the whole.
use Rattle.std.proofs.Common.{drop, string_bytes}
use Rattle.gutsirava_c.proofs.Listed.{AreObjects}
use Rattle.gutsirava_c.proofs.bundled.bundles_text.Given as goal

abbrev pub invariant-loop-bundle : goal.invariant-loop-bundle
invariant-loop-bundle l = AreObjects (string_bytes l.text) l.bundles (drop l.bundle-index l.bundles) l.is_later
