use Rattle.std.proofs.Common.{IsUtf8, string_bytes, subst, sym}
use Rattle.gutsirava_c.specs.Request.{IsNoRequest}
use Rattle.gutsirava_c.proofs.Asked.{replied}
use Rattle.gutsirava_c.proofs.Refused.{passed_on}
use Rattle.gutsirava_c.proofs.sources.reply_to.Goals as goal

pub read-requires : goal.read-requires
read-requires c = subst IsUtf8 (sym c.in-Ok.ensures.cases.0) c.in-Ok.ensures.cases.1

pub returns-clause-told : goal.returns-clause-told
returns-clause-told c =
    let request = c.in_ok-request.request in
    let reply = c.in_ok-reply.reply in
    replied c.args.input.now c.in-Ok.text.now request.settings request.entries.items reply.status (string_bytes reply.text)
    c.in-Ok.ensures.cases.0 c.in_ok-request.ensures.asks c.in_ok-reply.ensures

pub returns-in_err-request-clause-refused : goal.returns-in_err-request-clause-refused
returns-in_err-request-clause-refused c =
    passed_on _ _ c.from_residual.ensures.1 (subst IsNoRequest c.in-Ok.ensures.cases.0) c.in_err-request.ensures.refused
