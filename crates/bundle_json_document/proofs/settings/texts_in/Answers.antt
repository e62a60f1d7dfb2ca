use Rattle.std.proofs.Common.{map, take, subst, ◌≡◌, arith}
use Rattle.std.proofs.lemmas.List.{take_all}
use Rattle.std.specs.List.{AllZip}
use Rattle.bundle_json_form.specs.Plain.{seen}
use Rattle.bundle_json_document.specs.Document.{IsText}
use Rattle.bundle_json_document.proofs.Maps.{values_more}
use Rattle.bundle_json_document.proofs.Turns.{no_text, none_zipped}
use Rattle.bundle_json_document.proofs.Fronts.{handed_on}
use Rattle.bundle_json_document.proofs.settings.texts_in.Goals as goal

pub loop-value-preserved : goal.loop-value-preserved
loop-value-preserved c =
    let l = c.loop-value in
    rw c.in_ok-push.ensures.items (values_more IsText c.args.values.now l.texts.items l.value-index c.value-item.result c.in_ok-text.text (omega arith) c.value-item.is l.invariant c.in_ok-text.ensures.ok)

pub returns-clause-ok : goal.returns-clause-ok
returns-clause-ok c =
    let l = c.loop-value in
    let all : take l.value-index c.args.values.now ≡ c.args.values.now = take_all l.value-index c.args.values.now (omega arith) in
    subst (λ values. AllZip IsText (map seen values) l.texts.items) all l.invariant

pub returns-in_err-text-clause-refused : goal.returns-in_err-text-clause-refused
returns-in_err-text-clause-refused c =
    let value = c.value-item.result in
    handed_on _ _ c.from_residual.ensures.1
    (λ none. none_zipped IsText c.args.values.now c.loop-value.value-index value (omega arith) c.value-item.is
    (no_text (seen value) none))
    c.in_err-text.ensures.refused
