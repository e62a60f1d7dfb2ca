use Rattle.std.proofs.Common.{inr, subst}
use Rattle.bundle_json_document.specs.Writing.{AppendsOrFails}
use Rattle.bundle_json_document.proofs.Wanting.{memory_line}
use Rattle.bundle_json_document.proofs.answering.report.Goals as goal

pub returns-in-Err-clause-line : goal.returns-in-Err-clause-line
returns-in-Err-clause-line g c = inr (subst (AppendsOrFails _ _ _) memory_line c.refuse-in-Err.ensures.line)
