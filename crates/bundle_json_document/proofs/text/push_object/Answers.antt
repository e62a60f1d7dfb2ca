use Rattle.std.proofs.Common.{◌++◌, string_bytes, ap, ◌∙◌, arith}
use Rattle.bundle_json_document.proofs.ByItem.{object_put}
use Rattle.bundle_json_document.proofs.text.push_object.Goals as goal

pub returns : goal.returns
returns c =
    let closed = c.in_ok-push.ensures.bytes ∙ ap (λ l. string_bytes c.push_quoted-2.new.out ++ l) (c.in_ok-push.ensures.ascii (omega arith)) in
    object_put c.args.bundle.now _ _ _ _ _ _ _ _ _ _ c.in_ok-push_str.ensures.bytes (c.as_str.ensures.value ∙ c.in_ok-id.ensures.ok) c.in_ok-push_quoted.ensures c.in_ok-push_str-2.ensures.bytes c.in_ok-push_module.ensures c.in_ok-push_str-3.ensures.bytes c.name_of.ensures c.in_ok-push_quoted-2.ensures closed
