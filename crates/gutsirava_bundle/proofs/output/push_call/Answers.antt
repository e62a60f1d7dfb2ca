-- Six texts behind each other.
use Rattle.std.proofs.Common.{string_bytes}
use Rattle.gutsirava_bundle.proofs.BodyLemmas.{call_of_parts}
use Rattle.gutsirava_bundle.proofs.output.push_call.Goals as goal

pub returns : goal.returns
returns c =
    call_of_parts c.args.name.now c.args.is_common_js c.args.script.now c.trim_end.result.now (string_bytes c.args.text.now)
    (string_bytes c.push_str.new.self) (string_bytes c.push_str-2.new.self) (string_bytes c.push_str-3.new.self)
    (string_bytes c.push_str-4.new.self) (string_bytes c.push_str-5.new.self) (string_bytes c.push_str-6.new.self)
    c.as_str.result.now (string_bytes c.in_ok-owners.owners) c.trim_end_matches-call.result.now c.property_of.result.now
    c.as_str.ensures.value c.trim_end.ensures.value c.trim_end_matches-call.ensures.value c.in_ok-push_str.ensures.bytes
    c.in_ok-push_str-2.ensures.bytes c.in_ok-push_str-3.ensures.bytes c.in_ok-push_str-4.ensures.bytes
    c.in_ok-push_str-5.ensures.bytes c.in_ok-push_str-6.ensures.bytes c.in_ok-owners.ensures c.property_of.ensures.plain
    c.property_of.ensures.exported
