-- Which characters a terminal shows, and does not obey.
use Rattle.std.specs.Prelude.{ℕ, ◌==◌, ◌||◌, Bool, true, false, not, cond, nat_lt}
use Rattle.std.specs.List.{list_any}
use Rattle.gutsirava_report.specs.declared.shown.TheConstants.{TURNING}

-- no control character, none that turns a direction or ends a line
abbrev pub is_quiet_char : ℕ → Bool
is_quiet_char c =
    cond (nat_lt c 32) false
    (cond (nat_lt c 127) true (cond (nat_lt c 160) false (not (list_any (λ y. y == c) TURNING))))

-- what a report without colours may hold: quiet characters and newlines
abbrev pub is_sent_char : ℕ → Bool
is_sent_char c = is_quiet_char c || (c == 10)
