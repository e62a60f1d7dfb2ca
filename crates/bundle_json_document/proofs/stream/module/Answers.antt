use Rattle.std.proofs.Common.{◌≡◌, Some, sym, true≢false, arith}
use Rattle.json.specs.Json.{read_key}
use Rattle.json.proofs.Grammar.{read_key-shorter}
use Rattle.serde_json.specs.Data.{no_members, object, put}
use Rattle.bundle_json_document.proofs.ByItem.{module_form}
use Rattle.bundle_json_document.proofs.Turns.{member_turn, no_member_read, object_read, object_shorter}
use Rattle.bundle_json_document.proofs.stream.module.Goals as goal

pub members-init : goal.members-init
members-init c = (no_members, no_member_read 124 _, record { kind = λ is. absurd (true≢false (sym is)); body = c.new-body.ensures.items }, omega arith)

pub members-preserved : goal.members-preserved
members-preserved c =
    let l = c.members in
    let ms = l.invariant.0 in
    let k = c.in-Some.key.now in
    let s = c.next_key.new.reader in
    let named : read_key l.reader ≡ Some (Some k, s) = grind arith in
    let done = c.in_ok-read_member.ensures in
    let d = done.ok.0 in
    let less = read_key-shorter l.reader (Some k) s named in
    let lesser = done.shorter in
    (put k d ms, member_turn 124 _ l.reader s c.read_member.new.reader k d ms l.invariant.1 named done.ok.1 lesser, done.ok.2 ms l.invariant.2, omega (arith, l.invariant.3))

pub returns-then-is_module-clause-ok : goal.returns-then-is_module-clause-ok
returns-then-is_module-clause-ok c =
    let l = c.members in
    let ms = l.invariant.0 in
    (object ms, object_read 125 c.args.reader.now _ l.reader c.next_key.new.reader ms (omega arith) c.in_ok-open_object.ensures l.invariant.1 (grind arith), module_form ms l.parts l.invariant.2 c.if-is_module.true)

pub returns-then-is_module-clause-shorter : goal.returns-then-is_module-clause-shorter
returns-then-is_module-clause-shorter c =
    let l = c.members in
    object_shorter c.args.reader.now _ l.reader c.next_key.new.reader c.in_ok-open_object.ensures l.invariant.3 (grind arith)
