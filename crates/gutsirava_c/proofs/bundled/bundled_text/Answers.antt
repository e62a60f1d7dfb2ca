use Rattle.std.proofs.Common.{ap, ◌∙◌}
use Rattle.serde_json.specs.Written.{compact_text}
use Rattle.gutsirava_c.specs.Sources.{bundles_data}
use Rattle.gutsirava_c.proofs.Asked.{bundled_put}
use Rattle.gutsirava_c.proofs.bundled.bundled_text.Goals as goal

pub returns : goal.returns
returns c =
    let list = c.as_str.ensures.value ∙ c.in_ok-bundles.ensures ∙ ap (λ it. compact_text (bundles_data it)) c.as_slice.ensures.value in
    bundled_put c.args.bundled.now.outputs.items _ c.as_str.result.now _ _ c.as_str-2.result.now _ _ list c.in_ok-text.ensures.ok
    c.in_ok-push_str.ensures.bytes c.in_ok-push_str-2.ensures.bytes c.in_ok-push_str-3.ensures.bytes c.in_ok-push_str-4.ensures.bytes
