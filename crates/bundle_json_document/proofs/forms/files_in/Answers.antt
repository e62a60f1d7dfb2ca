use Rattle.std.proofs.Common.{◌≡◌, [], string_bytes, sym, arith, rules}
use Rattle.bundle_json_document.specs.Document.{IsModuleForm}
use Rattle.bundle_json_document.proofs.Maps.{last_map, turn}
use Rattle.bundle_json_document.proofs.Turns.{none_mapped}
use Rattle.bundle_json_document.proofs.Fronts.{handed_on}
use Rattle.bundle_json_document.proofs.forms.files_in.Goals as goal

pub loop-name-preserved : goal.loop-name-preserved
loop-name-preserved c =
    let l = c.loop-name in
    let copied : string_bytes c.in_ok-file.file ≡ c.in-Some.name.now.now = search rules in
    turn IsModuleForm c.args.members.now.entries l.name-iterator c.next.new.self l.files.entries c.insert.new.self.entries (c.in-Some.name.now, c.in-Some.value.now) c.in_ok-file.file c.in_ok-made.made
    l.invariant c.in-Some.ensures.steps c.iter-name-items.ensures.ordered (sym copied) c.in_ok-made.ensures.ok c.in_ok-insert.ensures.entries

pub returns-clause-ok : goal.returns-clause-ok
returns-clause-ok c =
    let l = c.loop-name in
    let over : l.name-iterator ≡ [] = grind arith in
    last_map IsModuleForm c.args.members.now.entries l.name-iterator l.files.entries l.invariant over

pub returns-in_err-made-clause-refused : goal.returns-in_err-made-clause-refused
returns-in_err-made-clause-refused c =
    let l = c.loop-name in
    handed_on _ _ c.from_residual.ensures.1
    (none_mapped IsModuleForm c.args.members.now.entries l.invariant.0 l.name-iterator c.next.new.self
    (c.in-Some.name.now, c.in-Some.value.now) l.invariant.1 c.in-Some.ensures.steps)
    c.in_err-made.ensures.refused
