use Rattle.gutsirava_c.proofs.Listed.{object_put}
use Rattle.gutsirava_c.proofs.bundled.push_bundle.Goals as goal

pub returns : goal.returns
returns c =
    object_put c.args.bundle.now _ _ _ _ _ _ _ _ c.in_ok-push_str.ensures.bytes c.as_str.ensures.value c.in_ok-push_quoted.ensures
    c.in_ok-push_str-2.ensures.bytes c.as_str-2.ensures.value c.in_ok-push_quoted-2.ensures c.in_ok-push_str-3.ensures.bytes
