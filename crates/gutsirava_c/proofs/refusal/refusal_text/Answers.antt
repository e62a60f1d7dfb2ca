use Rattle.std.proofs.Common.{◌++◌, string_bytes, ap, ◌∙◌}
use Rattle.serde_json.specs.Written.{compact_text}
use Rattle.gutsirava_c.specs.Refusal.{text_or_null}
use Rattle.gutsirava_c.proofs.Told.{line_put, place_put}
use Rattle.gutsirava_c.proofs.refusal.refusal_text.Goals as goal

pub returns : goal.returns
returns c =
    let refusal = c.args.refusal.now in
    let line = line_put refusal c.number-number.result c.name-kind.result.now _ c.number-number.ensures c.name-kind.ensures c.in_ok-text.ensures.ok in
    let file = c.in_ok-push_text.ensures ∙ ap (λ it. string_bytes c.push_str.new.self ++ compact_text (text_or_null it)) c.file_of.ensures in
    let word = c.in_ok-push_text-2.ensures ∙ ap (λ it. string_bytes c.push_str-2.new.self ++ compact_text (text_or_null it)) c.word_of.ensures in
    place_put refusal _ _ _ _ _ _ line c.in_ok-push_str.ensures.bytes file c.in_ok-push_str-2.ensures.bytes word c.in_ok-push_str-3.ensures.bytes
