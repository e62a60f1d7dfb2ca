-- The print as it is, or in a call.
use Rattle.std.proofs.Common.{map, string_bytes}
use Rattle.bundle_syntax.specs.Item.{item_of}
use Rattle.gutsirava_bundle.proofs.BodyLemmas.{print_of, script_of_call, script_of_print}
use Rattle.gutsirava_bundle.proofs.output.push_script.Goals as goal

pub returns-in_ok-push_str-in-None : goal.returns-in_ok-push_str-in-None
returns-in_ok-push_str-in-None c =
    let pieces = c.args.list.now.pieces.items in
    script_of_print c.args.settings.now.global_name c.args.is_common_js (map item_of pieces) (string_bytes c.args.text.now)
    (string_bytes c.push_str.new.self) c.as_str.result.now c.in-None.is
    (print_of c.in_ok-printed.printed pieces c.as_slice.result.now c.as_str.result.now c.as_slice.ensures.value
    c.in_ok-printed.ensures.places c.in_ok-printed.ensures.within c.as_str.ensures.value)
    c.in_ok-push_str-in-None.ensures.bytes

pub returns-in_ok-base-in-Some : goal.returns-in_ok-base-in-Some
returns-in_ok-base-in-Some c =
    let pieces = c.args.list.now.pieces.items in
    script_of_call c.args.settings.now.global_name c.in-Some.name c.as_str-in-Some-2.result.now
    c.args.is_common_js (map item_of pieces) (string_bytes c.args.text.now) (string_bytes c.push_call.new.text)
    c.as_str-in-Some.result.now c.in-Some.is c.as_str-in-Some-2.ensures.value
    (print_of c.in_ok-printed.printed pieces c.as_slice.result.now c.as_str-in-Some.result.now c.as_slice.ensures.value
    c.in_ok-printed.ensures.places c.in_ok-printed.ensures.within c.as_str-in-Some.ensures.value) c.in_ok-base-in-Some.ensures
