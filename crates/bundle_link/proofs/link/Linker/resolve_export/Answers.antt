-- What is found by places is handed out with the numbers of modules.
use Rattle.std.proofs.Common.{sym, subst}
use Rattle.std.proofs.lemmas.Result.{IfOk-weaker}
use Rattle.bundle_rules.specs.Tables as r
use Rattle.bundle_rules.specs.Tables.{IsResolution}
use Rattle.bundle_link.proofs.link.Linker.resolve_export.Goals as goal

pub returns-clause-found : goal.returns-clause-found
returns-clause-found c =
    IfOk-weaker c.resolution_of.result _ _
    (λ resolution says p w. subst (λ (told : r.Resolution). IsResolution p c.args.id c.args.name.now told) (sym says) (c.in_ok-found.ensures.found p w.linked))
    c.resolution_of.ensures
