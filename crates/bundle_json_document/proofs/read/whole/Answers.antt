use Rattle.std.proofs.Common.{◌≡◌, Some, ap, sym, subst, ◌∙◌, arith}
use Rattle.bundle_json_form.specs.Plain.{seen}
use Rattle.bundle_json_document.specs.Document.{IsEntryPair, IsArrayOf, IsMap, IsModuleForm}
use Rattle.bundle_json_document.specs.Error.{NoneIs}
use Rattle.bundle_json_document.specs.Seen.{value_found}
use Rattle.bundle_json_document.proofs.Turns.{no_entries, no_files}
use Rattle.bundle_json_document.proofs.Fronts.{handed_on}
use Rattle.bundle_json_document.proofs.read.whole.Goals as goal

pub returns-in_err-entries-clause-refused : goal.returns-in_err-entries-clause-refused
returns-in_err-entries-clause-refused c =
    let v = c.in_ok-ok_or.field-0 in
    let given : c.get-2.result ≡ Some v = grind arith in
    handed_on _ _ c.from_residual-in_err-entries.ensures.1
    (λ none. no_entries c.args.text.now (seen c.in_ok-value.value) c.in_ok-value.ensures.ok (Some (seen v.now))
    (sym (ap value_found given) ∙ c.get-2.ensures)
    (λ x is. let same : seen v.now ≡ x = cc in subst (λ d. NoneIs (λ entries. IsArrayOf IsEntryPair entries d)) same none))
    c.in_err-entries.ensures.refused

pub returns-in_err-files-clause-refused : goal.returns-in_err-files-clause-refused
returns-in_err-files-clause-refused c =
    let v = c.in_ok-ok_or-2.field-0 in
    let given : c.get-3.result ≡ Some v = grind arith in
    handed_on _ _ c.from_residual-in_err-files.ensures.1
    (λ none. no_files c.args.text.now (seen c.in_ok-value.value) c.in_ok-value.ensures.ok (Some (seen v.now))
    (sym (ap value_found given) ∙ c.get-3.ensures)
    (λ x is. let same : seen v.now ≡ x = cc in subst (λ d. NoneIs (λ files. IsMap IsModuleForm files d)) same none))
    c.in_err-files.ensures.refused
