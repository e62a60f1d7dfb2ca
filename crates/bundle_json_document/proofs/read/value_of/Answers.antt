use Rattle.std.proofs.Common.{[], sym, subst}
use Rattle.bundle_json_form.specs.Plain.{seen}
use Rattle.bundle_json_document.specs.Stream.{IsNextValue}
use Rattle.bundle_json_document.proofs.Turns.{next_of, same_next, value_read}
use Rattle.bundle_json_document.proofs.Fronts.{handed_on}
use Rattle.bundle_json_document.proofs.read.value_of.Goals as goal

pub returns-clause-ok : goal.returns-clause-ok
returns-clause-ok c = value_read c.args.text.now c.in_ok-reader.reader c.read_value.new.reader (seen c.in_ok-value.value) c.requires c.in_ok-reader.ensures.ok c.in_ok-value.ensures.ok c.in_ok-end.ensures.ok

pub returns-in_err-value-clause-refused : goal.returns-in_err-value-clause-refused
returns-in_err-value-clause-refused c =
    handed_on _ _ c.from_residual-in_err-value.ensures.1
    (λ none d value. none [] d
    (subst (λ ts. IsNextValue 127 ts [] d) (sym c.in_ok-reader.ensures.ok) (next_of c.args.text.now d value)))
    c.in_err-value.ensures.refused

pub returns-in_err-end-clause-refused : goal.returns-in_err-end-clause-refused
returns-in_err-end-clause-refused c =
    handed_on _ _ c.from_residual-in_err-end.ensures.1
    (λ more d value. more
    (same_next 127 c.in_ok-reader.reader c.read_value.new.reader [] (seen c.in_ok-value.value) d c.in_ok-value.ensures.ok
    (subst (λ ts. IsNextValue 127 ts [] d) (sym c.in_ok-reader.ensures.ok) (next_of c.args.text.now d value))))
    (λ is_form. c.in_err-end.ensures.refused)
