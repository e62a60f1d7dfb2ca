-- Each spelling is read as the letter that it spells.
use Rattle.std.proofs.lemmas.Result.{on_ok_weaker}
use Rattle.bundle_js_print.proofs.Literals.{on_push, Writes-itself, Writes-escaped, Writes-byte, Writes-units}
use Rattle.bundle_js_print.proofs.text.push_letter.Goals as goal

pub returns-in-Itself-clause-reads : goal.returns-in-Itself-clause-reads
returns-in-Itself-clause-reads c =
    let h = c.in-Itself.ensures in
    on_push c.push.result _ _ _ c.push.ensures.bytes
    (λ e. Writes-itself c.args.charset _ _ c.args.letter h.0 h.1 h.2 e)

pub returns-in-Escaped-clause-reads : goal.returns-in-Escaped-clause-reads
returns-in-Escaped-clause-reads c =
    let h = c.in-Escaped.ensures in
    on_ok_weaker c.push_escaped.result
    (λ e. Writes-escaped c.args.charset _ _ c.in-Escaped.by c.args.letter h.0 h.1 h.2 e)
    c.push_escaped.ensures.bytes

pub returns-in-Byte-clause-reads : goal.returns-in-Byte-clause-reads
returns-in-Byte-clause-reads c =
    on_ok_weaker c.push_byte.result
    (λ e. Writes-byte c.args.charset _ _ c.args.letter c.in-Byte.ensures e)
    c.push_byte.ensures.bytes

pub returns-in-Units-clause-reads : goal.returns-in-Units-clause-reads
returns-in-Units-clause-reads c =
    on_ok_weaker c.push_units.result
    (λ e. Writes-units c.args.charset _ _ c.args.letter c.in-Units.ensures e)
    c.push_units.ensures.bytes
