-- The two units of a letter stand one behind the other.
use Rattle.std.proofs.Common.{string_bytes}
use Rattle.std.proofs.lemmas.Result.{on_ok_weaker}
use Rattle.bundle_js_print.proofs.Literals.{units-pushed}
use Rattle.bundle_js_print.proofs.text.push_units.Goals as goal

pub returns-clause-bytes : goal.returns-clause-bytes
returns-clause-bytes c =
    on_ok_weaker c.push_unit-3.result
    (λ e. units-pushed (string_bytes c.args.text.now) _ _ c.args.code c.if-code-lt65536.false c.in_ok-push_unit.ensures.bytes e)
    c.push_unit-3.ensures.bytes
