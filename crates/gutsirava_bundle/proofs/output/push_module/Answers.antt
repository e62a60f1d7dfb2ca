-- The words, and behind them the print.
use Rattle.std.proofs.Common.{map, string_bytes}
use Rattle.bundle_syntax.specs.Item.{item_of}
use Rattle.gutsirava_bundle.proofs.BodyLemmas.{module_of_parts, print_of}
use Rattle.gutsirava_bundle.proofs.output.push_module.Goals as goal

pub returns : goal.returns
returns c =
    let pieces = c.args.list.now.pieces.items in
    module_of_parts c.args.settings.now.platform (map item_of pieces) (string_bytes c.args.text.now)
    (string_bytes c.push_str.new.self) (string_bytes c.push_str-2.new.self) c.as_str.result.now
    (string_bytes c.in_ok-words.words) c.as_str-2.result.now c.as_str.ensures.value c.in_ok-words.ensures
    (print_of c.in_ok-printed.printed pieces c.as_slice-2.result.now c.as_str-2.result.now c.as_slice-2.ensures.value
    c.in_ok-printed.ensures.places c.in_ok-printed.ensures.within c.as_str-2.ensures.value)
    c.in_ok-push_str.ensures.bytes c.in_ok-push_str-2.ensures.bytes
