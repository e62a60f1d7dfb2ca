use Rattle.std.proofs.Common.{◌≡◌, ◌++◌, true, length, take}
use Rattle.std.specs.Str.{chars}
use Rattle.std.specs.List.{list_all}
use Rattle.gutsirava_report.specs.Quiet.{is_quiet_char}
use Rattle.gutsirava_report.specs.Shown.{chars_of}
use Rattle.gutsirava_report.proofs.shown.Shown.push_str.Given as goal

abbrev pub invariant-loop-c : goal.invariant-loop-c
invariant-loop-c l =
    list_all is_quiet_char (chars l.text) ≡ true
    → chars_of l.self ≡ chars_of l.initial.self ++ take (length l.yielded) (chars l.text)
