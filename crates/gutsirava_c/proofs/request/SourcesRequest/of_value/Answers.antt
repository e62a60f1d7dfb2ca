use Rattle.std.proofs.Common.{IsSomeAnd, codes, subst, sym}
use Rattle.gutsirava_c.specs.Request.{under, AreEntryPairs, AreFileTexts, AreSettings, AreTexts}
use Rattle.gutsirava_c.proofs.Refused.{passed_on}
use Rattle.gutsirava_c.proofs.request.SourcesRequest.of_value.Goals as goal

pub returns-clause-asks : goal.returns-clause-asks
returns-clause-asks c = record {
  in_object = c.in_ok-config.ensures.in_object;
  are_settings = subst (λ it. AreSettings it c.in_ok-settings.settings) c.in_ok-config.ensures.same c.in_ok-settings.ensures.are;
  externals = subst (λ it. AreTexts (under (codes "external_modules") it)) c.in_ok-config.ensures.same c.in_ok-resolution.ensures.are;
  are_entries = subst (λ it. IsSomeAnd it (AreEntryPairs c.in_ok-entries.entries.items)) c.get.ensures c.in_ok-entries.ensures.are;
  are_files = subst (λ it. IsSomeAnd it AreFileTexts) c.get-2.ensures c.in_ok-texts.ensures.are;
}

pub returns-in_err-config-clause-refused : goal.returns-in_err-config-clause-refused
returns-in_err-config-clause-refused c =
    passed_on _ _ c.from_residual.ensures.1 (λ none settings entries asks. none asks.in_object) (λ form. c.in_err-config.ensures.refused)

pub returns-in_err-settings-clause-refused : goal.returns-in_err-settings-clause-refused
returns-in_err-settings-clause-refused c =
    passed_on _ _ c.from_residual-in_err-settings.ensures.1
    (λ none settings entries asks. none settings (subst (λ it. AreSettings it settings) (sym c.in_ok-config.ensures.same) asks.are_settings))
    c.in_err-settings.ensures.refused

pub returns-in_err-entries-clause-refused : goal.returns-in_err-entries-clause-refused
returns-in_err-entries-clause-refused c =
    passed_on _ _ c.from_residual-in_err-entries.ensures.1
    (λ none settings entries asks. none entries (subst (λ it. IsSomeAnd it (AreEntryPairs entries)) (sym c.get.ensures) asks.are_entries))
    c.in_err-entries.ensures.refused

pub returns-in_err-resolution-clause-refused : goal.returns-in_err-resolution-clause-refused
returns-in_err-resolution-clause-refused c =
    passed_on _ _ c.from_residual-in_err-resolution.ensures.1
    (λ none settings entries asks. none (subst (λ it. AreTexts (under (codes "external_modules") it)) (sym c.in_ok-config.ensures.same) asks.externals))
    c.in_err-resolution.ensures.refused

pub returns-in_err-texts-clause-refused : goal.returns-in_err-texts-clause-refused
returns-in_err-texts-clause-refused c =
    passed_on _ _ c.from_residual-in_err-texts.ensures.1
    (λ none settings entries asks. none (subst (λ it. IsSomeAnd it AreFileTexts) (sym c.get-2.ensures) asks.are_files))
    c.in_err-texts.ensures.refused
