use Rattle.json.specs.Value.{value_view}
use Rattle.gutsirava_c.proofs.Asked.{text_asks}
use Rattle.gutsirava_c.proofs.Refused.{no_request, no_value, passed_on, refused_too}
use Rattle.gutsirava_c.proofs.request.SourcesRequest.read.Goals as goal

pub returns-clause-asks : goal.returns-clause-asks
returns-clause-asks c =
    text_asks c.args.text.now (value_view c.in_ok-value.value) c.of_value.result c.requires c.in_ok-value.ensures.read c.of_value.ensures.asks

pub returns-clause-refused : goal.returns-clause-refused
returns-clause-refused c =
    refused_too c.of_value.result (no_request c.args.text.now (value_view c.in_ok-value.value) c.in_ok-value.ensures.read) c.of_value.ensures.refused

pub returns-in_err-value-clause-refused : goal.returns-in_err-value-clause-refused
returns-in_err-value-clause-refused c =
    passed_on _ _ c.from_residual.ensures.1 (no_value c.args.text.now) c.in_err-value.ensures.refused
