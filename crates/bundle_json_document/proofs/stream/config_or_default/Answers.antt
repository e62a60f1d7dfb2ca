use Rattle.std.proofs.Common.{subst}
use Rattle.bundle_json_document.specs.Stream.{AreSettingsIn, IsMemberKept}
use Rattle.bundle_json_document.proofs.Turns.{config_given, config_left_out}
use Rattle.bundle_json_document.proofs.Fronts.{if_ok_weaker}
use Rattle.bundle_json_document.proofs.stream.config_or_default.Goals as goal

pub returns-in-Some : goal.returns-in-Some
returns-in-Some c = λ d kept. config_given d c.in-Some.config (subst (IsMemberKept AreSettingsIn d) c.in-Some.is kept)

pub returns-in-None : goal.returns-in-None
returns-in-None c = if_ok_weaker _ _ c.settings.result (λ config are d kept. config_left_out d config are (subst (IsMemberKept AreSettingsIn d) c.in-None.is kept)) c.settings.ensures.ok
