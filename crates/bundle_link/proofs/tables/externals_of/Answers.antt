-- The texts are those of the configuration.
use Rattle.std.proofs.Common.{map, string_bytes, subst}
use Rattle.std.proofs.lemmas.Result.{IfOk-weaker}
use Rattle.bundle_link_tables.specs.Sources.{HasTexts}
use Rattle.bundle_link.proofs.tables.externals_of.Goals as goal

pub returns : goal.returns
returns c = IfOk-weaker c.external_texts.result _ _ (λ set holds. subst (λ l. HasTexts set (map string_bytes l)) c.deref.ensures.value holds) c.external_texts.ensures
