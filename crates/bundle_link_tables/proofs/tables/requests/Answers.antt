-- One source at most asks for each text once.
use Rattle.std.proofs.Common.{sym, ◌∙◌, arith}
use Rattle.std.proofs.lemmas.Result.{IfOk-weaker}
use Rattle.bundle_link_tables.proofs.SourceLemmas.{few_once}
use Rattle.bundle_link_tables.proofs.tables.requests.Goals as goal

pub returns-then-sources-lt2 : goal.returns-then-sources-lt2
returns-then-sources-lt2 c =
    IfOk-weaker c.only_request.result _ _ (λ requests is. is ∙ few_once c.args.sources.now c.args.calls.now (omega (arith, c.if-sources-lt2.true)) (sym c.is_empty.ensures ∙ c.if-is_empty.true)) c.only_request.ensures
