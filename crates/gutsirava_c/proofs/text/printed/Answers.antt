use Rattle.std.proofs.Common.{◌≡◌, Some, rules, subst}
use Rattle.json.specs.Json.{document}
use Rattle.json.specs.Value.{value_view}
use Rattle.gutsirava_c.proofs.Forms.{handed_on, list_of, none_of_value}
use Rattle.gutsirava_c.proofs.text.printed.Goals as goal

pub returns-in_err-pieces-clause-refused : goal.returns-in_err-pieces-clause-refused
returns-in_err-pieces-clause-refused c =
    let value = value_view c.in_ok-value.value in
    let read : document c.args.form.now ≡ Some value = subst (λ it. document it ≡ Some value) c.in-Ok.ensures.cases.0 c.in_ok-value.ensures.read in
    handed_on _ _ c.from_residual-in_err-pieces.ensures.1 (none_of_value c.args.form.now c.default-notes.result value (search rules) read) c.in_err-pieces.ensures.refused

pub returns-clause-read : goal.returns-clause-read
returns-clause-read c =
    let value = value_view c.in_ok-value.value in
    let read : document c.args.form.now ≡ Some value = subst (λ it. document it ≡ Some value) c.in-Ok.ensures.cases.0 c.in_ok-value.ensures.read in
    list_of c.args.form.now c.default-notes.result value (search rules) read _ c.in-Ok.ensures.cases.1 c.in_ok-pieces.ensures.read
