-- The eight bytes of a number are that number.
use Rattle.std.proofs.Common.{ap, sym, ◌∙◌}
use Rattle.std.proofs.lemmas.Nat.{from_le_bytes-to_le_bytes_8}
use Rattle.std.specs.Hash.{le_bytes}
use Rattle.bundle_scope_denote.specs.Mixed.{mix}
use Rattle.bundle_scope_denote.proofs.mixed.MixerHasher.write_usize.Goals as goal

pub returns : goal.returns
unfolding le_bytes
returns c = c.mix.ensures ∙ ap (mix c.args.self.now) (sym (from_le_bytes-to_le_bytes_8 c.args.i c.ranges.i.fits))
