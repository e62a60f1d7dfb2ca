-- The text is no shorter than before the loop.
use Rattle.std.proofs.Common.{◌≤◌, string_len}
use Rattle.bundle_js_print.proofs.printer.Printer.tell.Given as goal

abbrev pub invariant-loop : goal.invariant-loop
invariant-loop l = string_len l.initial.self.text ≤ string_len l.self.text
