-- Each piece so far has a place in the text so far.
use Rattle.std.proofs.Common.{◌≡◌, ◌≤◌, string_len, vec_len, All}
use Rattle.bundle_js_print.proofs.print.print_pieces.Given as goal

abbrev pub invariant-loop-at : goal.invariant-loop-at
invariant-loop-at l =
    (vec_len l.offsets ≡ l.at)
    × All (λ place. place ≤ string_len l.printer.text) l.offsets.items
