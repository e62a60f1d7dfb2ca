use Rattle.std.proofs.Common.{◌≡◌, ◌++◌, Some, length, string_bytes}
use denote.Text.{Utf8}
use denote.Shadow.{shadow}
use Rattle.gutsirava_package.specs.Entries.{with_star}
use Rattle.gutsirava_package.proofs.lookup.with_star.Given as goal

abbrev pub invariant-loop-front : goal.invariant-loop-front
invariant-loop-front l = shadow (Utf8 l.rest) × (string_bytes l.whole ++ with_star (Some l.star) l.rest ≡ with_star (Some l.star) l.text)

abbrev pub decreases-loop-front : goal.decreases-loop-front
decreases-loop-front l = length l.rest
