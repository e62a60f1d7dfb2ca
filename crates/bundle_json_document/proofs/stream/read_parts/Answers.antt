use Rattle.std.proofs.Common.{◌≡◌, Some, arith}
use Rattle.json.specs.Json.{read_key}
use Rattle.serde_json.specs.Data.{no_members, put}
use Rattle.bundle_json_document.proofs.Turns.{no_parts, member_turn, no_member_read, object_read}
use Rattle.bundle_json_document.proofs.stream.read_parts.Goals as goal

pub members-init : goal.members-init
members-init c = (no_members, no_member_read 126 _, no_parts)

pub members-preserved : goal.members-preserved
members-preserved c =
    let l = c.members in
    let ms = l.invariant.0 in
    let k = c.in-Some.key.now in
    let s = c.next_key.new.reader in
    let named : read_key l.reader ≡ Some (Some k, s) = grind arith in
    let done = c.in_ok-read_member.ensures in
    let d = done.ok.0 in
    (put k d ms, member_turn 126 _ l.reader s c.read_member.new.reader k d ms l.invariant.1 named done.ok.1 done.shorter, done.ok.2 ms l.invariant.2)

pub returns : goal.returns
returns c =
    let l = c.members in
    let ms = l.invariant.0 in
    (ms, object_read 127 c.args.reader.now _ l.reader c.next_key.new.reader ms (omega arith) c.in_ok-open_object.ensures l.invariant.1 (grind arith), l.invariant.2)
