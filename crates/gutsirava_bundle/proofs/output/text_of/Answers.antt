-- The body stands behind the first line.
use Rattle.std.proofs.Common.{option_map, string_bytes}
use Rattle.gutsirava_bundle.proofs.BodyLemmas.{framed_of}
use Rattle.gutsirava_bundle.proofs.output.text_of.Goals as goal

pub returns : goal.returns
returns c =
    framed_of c.args.settings.now c.args.tree.now (option_map (λ line. line.now) c.args.frame.hashbang)
    c.args.frame.is_common_js c.in_ok-listed.listed.items c.in_ok-list.list.pieces.items
    (string_bytes c.in_ok-text.text) (string_bytes c.push_body.new.text) c.in_ok-listed.ensures
    c.in_ok-list.ensures c.in_ok-text.ensures c.in_ok-printed.ensures
