use Rattle.std.proofs.Common.{◌≡◌, Some, string_bytes, sym, subst, arith, rules}
use Rattle.json.specs.Json.{read_key}
use Rattle.json.proofs.Grammar.{read_key-shorter}
use Rattle.serde_json.specs.Data.{no_members, object, put}
use Rattle.bundle_json_document.specs.Document.{IsModuleForm}
use Rattle.bundle_json_document.proofs.Maps.{AreEntries, entry_put, is_map, no_entry}
use Rattle.bundle_json_document.proofs.Turns.{member_turn, no_member_read, object_read, object_shorter}
use Rattle.bundle_json_document.proofs.stream.files.Goals as goal

pub members-init : goal.members-init
members-init c = (no_members, no_member_read 125 _, subst (λ files. AreEntries IsModuleForm files no_members) (sym c.new-files.ensures.empty) (no_entry IsModuleForm), omega arith)

pub members-preserved : goal.members-preserved
members-preserved c =
    let l = c.members in
    let ms = l.invariant.0 in
    let k = c.in-Some.name.now in
    let s = c.next_key.new.reader in
    let named : read_key l.reader ≡ Some (Some k, s) = grind arith in
    let done = c.in_ok-made.ensures in
    let d = done.ok.0 in
    let less = read_key-shorter l.reader (Some k) s named in
    let lesser = done.shorter in
    let copied : string_bytes c.in_ok-file.file ≡ k = search rules in (
      put k d ms,
      member_turn 125 _ l.reader s c.module.new.reader k d ms l.invariant.1 named done.ok.1 lesser,
      entry_put IsModuleForm l.files.entries c.insert.new.self.entries ms k c.in_ok-file.file d c.in_ok-made.made l.invariant.2 copied done.ok.2 c.in_ok-insert.ensures.entries,
      omega (arith, l.invariant.3),
    )

pub returns-clause-ok : goal.returns-clause-ok
returns-clause-ok c =
    let l = c.members in
    let ms = l.invariant.0 in
    (object ms, object_read 126 c.args.reader.now _ l.reader c.next_key.new.reader ms (omega arith) c.in_ok-open_object.ensures l.invariant.1 (grind arith), is_map IsModuleForm l.files.entries ms l.invariant.2)

pub returns-clause-shorter : goal.returns-clause-shorter
returns-clause-shorter c =
    let l = c.members in
    object_shorter c.args.reader.now _ l.reader c.next_key.new.reader c.in_ok-open_object.ensures l.invariant.3 (grind arith)
