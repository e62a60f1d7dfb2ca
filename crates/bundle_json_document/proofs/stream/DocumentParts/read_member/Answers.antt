use Rattle.std.proofs.Common.{sym, subst, OnOk}
use Rattle.bundle_json_form.specs.Plain.{seen}
use Rattle.bundle_json_document.specs.Stream.{KeepsMember}
use Rattle.bundle_json_document.proofs.Turns.{with_another}
use Rattle.bundle_json_document.proofs.stream.DocumentParts.read_member.Goals as goal

pub returns-in-config-clause-ok : goal.returns-in-config-clause-ok
returns-in-config-clause-ok c = subst (λ key. OnOk c.read_config.result (KeepsMember c.args.reader.now c.read_config.new.reader key c.args.self.now c.read_config.new.self)) (sym c.in-config.is) c.read_config.ensures.ok

pub returns-in-entries-clause-ok : goal.returns-in-entries-clause-ok
returns-in-entries-clause-ok c = subst (λ key. OnOk c.read_entries.result (KeepsMember c.args.reader.now c.read_entries.new.reader key c.args.self.now c.read_entries.new.self)) (sym c.in-entries.is) c.read_entries.ensures.ok

pub returns-in-files-clause-ok : goal.returns-in-files-clause-ok
returns-in-files-clause-ok c = subst (λ key. OnOk c.read_files.result (KeepsMember c.args.reader.now c.read_files.new.reader key c.args.self.now c.read_files.new.self)) (sym c.in-files.is) c.read_files.ensures.ok

pub returns-in-meta-clause-ok : goal.returns-in-meta-clause-ok
returns-in-meta-clause-ok c = subst (λ key. OnOk c.read_lists.result (KeepsMember c.args.reader.now c.read_lists.new.reader key c.args.self.now c.read_lists.new.self)) (sym c.in-meta.is) c.read_lists.ensures.ok

pub returns-in_ok-read_value-in_default-clause-ok : goal.returns-in_ok-read_value-in_default-clause-ok
returns-in_ok-read_value-in_default-clause-ok c =
    let read = c.in_ok-read_value-in_default in
    let d = seen read.field-0 in
    let not = c.in_default in
    (d, read.ensures.ok, λ ms are. with_another c.args.key.now d ms c.args.self.now are (λ e. not.not-config (sym e)) (λ e. not.not-entries (sym e)) (λ e. not.not-files (sym e)) (λ e. not.not-meta (sym e)))
