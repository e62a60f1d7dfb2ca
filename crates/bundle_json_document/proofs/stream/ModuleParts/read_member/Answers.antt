use Rattle.std.proofs.Common.{sym, subst, OnOk}
use Rattle.bundle_json_form.specs.Plain.{seen}
use Rattle.bundle_json_document.specs.Stream.{KeepsModuleMember}
use Rattle.bundle_json_document.proofs.Turns.{with_other_key}
use Rattle.bundle_json_document.proofs.stream.ModuleParts.read_member.Goals as goal

pub returns-in-type-clause-ok : goal.returns-in-type-clause-ok
returns-in-type-clause-ok c = subst (λ key. OnOk c.read_kind.result (KeepsModuleMember c.args.reader.now c.read_kind.new.reader key c.args.self.now c.read_kind.new.self)) (sym c.in-type.is) c.read_kind.ensures.ok

pub returns-in-body-clause-ok : goal.returns-in-body-clause-ok
returns-in-body-clause-ok c = subst (λ key. OnOk c.read_body.result (KeepsModuleMember c.args.reader.now c.read_body.new.reader key c.args.self.now c.read_body.new.self)) (sym c.in-body.is) c.read_body.ensures.ok

pub returns-in_ok-read_value-in_default-clause-ok : goal.returns-in_ok-read_value-in_default-clause-ok
returns-in_ok-read_value-in_default-clause-ok c =
    let read = c.in_ok-read_value-in_default in
    let d = seen read.field-0 in
    let not = c.in_default in
    (d, read.ensures.ok, λ ms are. with_other_key c.args.key.now d ms c.args.self.now are (λ e. not.not-type (sym e)) (λ e. not.not-body (sym e)))
