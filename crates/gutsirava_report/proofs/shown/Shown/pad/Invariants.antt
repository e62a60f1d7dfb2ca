use Rattle.std.proofs.Common.{◌≡◌, ◌++◌, true, replicate}
use Rattle.gutsirava_report.specs.Quiet.{is_quiet_char}
use Rattle.gutsirava_report.specs.Shown.{chars_of}
use Rattle.gutsirava_report.proofs.shown.Shown.pad.Given as goal

abbrev pub invariant-loop-done : goal.invariant-loop-done
invariant-loop-done l =
    is_quiet_char l.c ≡ true → chars_of l.self ≡ chars_of l.initial.self ++ replicate l._done l.c
