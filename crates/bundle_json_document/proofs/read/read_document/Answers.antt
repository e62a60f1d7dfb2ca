use Rattle.std.proofs.Common.{inl, inr, codes, refl, rules}
use Rattle.bundle_json_document.proofs.read.read_document.Goals as goal

pub returns-in-Err-Form-clause-refused : goal.returns-in-Err-Form-clause-refused
returns-in-Err-Form-clause-refused g c =
    let why = c.in-Err-Form.ensures.refused c.in-Err-Form.field-0-is in
    let refused = c.refuse-in-Err-Form.ensures in (
      codes "error: document\n",
      inr (inl (refused.status, refl, (c.as_slice.result.now, search rules, search rules, why))),
      refused.line,
    )
