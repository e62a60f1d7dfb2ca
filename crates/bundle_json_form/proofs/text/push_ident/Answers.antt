use Rattle.std.proofs.Common.{◌++◌, string_bytes, ap, ◌∙◌, arith}
use Rattle.bundle_json_form.proofs.Unique.{ident_put}
use Rattle.bundle_json_form.proofs.text.push_ident.Goals as goal

pub returns : goal.returns
returns c =
    let opened = c.in_ok-push.ensures.bytes ∙ ap (λ l. string_bytes c.args.out.now ++ l) (c.in_ok-push.ensures.ascii (omega arith)) in
    ident_put c.args.sym.now c.args.ctxt _ _ _ _ _ _ opened c.in_ok-push_context.ensures c.in_ok-push_str.ensures.bytes c.in_ok-push_quoted.ensures c.in_ok-push_str-2.ensures.bytes
