-- Where lines end.
use Rattle.std.proofs.Common.{◌≡◌, ℕ, ◌+◌, ◌<◌, ◌≤◌, ◌==◌, Bool, List, drop, length, get_or, if◌then◌else◌}
use Rattle.std.proofs.lemmas.List.{at_drop_more, at_drop_all}
use Rattle.gutsirava_report.specs.Lines.{is_line_end, line_ends}

-- the line ends from a byte on
pub line_ends_more : (after : Bool) (bs : List ℕ) (i d : ℕ) → i < length bs
    → line_ends after (drop i bs) ≡ (if is_line_end after (get_or bs i d) then 1 else 0) + line_ends (get_or bs i d == 13) (drop (i + 1) bs)
line_ends_more after bs i d within = at_drop_more (line_ends after) bs i d within

-- none behind the text
pub line_ends_none : (after : Bool) (bs : List ℕ) (i : ℕ) → length bs ≤ i → line_ends after (drop i bs) ≡ 0
line_ends_none after bs i past = at_drop_all (line_ends after) bs i past
