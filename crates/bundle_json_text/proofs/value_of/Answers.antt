-- A parse is refused for memory, or of a text that is no JSON, and for nothing else.
use Rattle.std.proofs.Common.{Err, ap, inr}
use Rattle.bundle_json_text.proofs.value_of.Goals as goal

pub returns-in-Err-Invalid-clause-refused : goal.returns-in-Err-Invalid-clause-refused
returns-in-Err-Invalid-clause-refused c =
    inr (c.in-Err-Invalid.ensures.invalid (ap (λ why. Err why) c.in-Err-Invalid.field-0-is))

pub returns-in-Err-TooLong-clause-refused : goal.returns-in-Err-TooLong-clause-refused
returns-in-Err-TooLong-clause-refused c =
    absurd (c.in-Err-TooLong.ensures.never_too_long (ap (λ why. Err why) c.in-Err-TooLong.field-0-is))

pub returns-in-Err-DuplicateKey-clause-refused : goal.returns-in-Err-DuplicateKey-clause-refused
returns-in-Err-DuplicateKey-clause-refused c =
    absurd (c.in-Err-DuplicateKey.ensures.never_duplicate (ap (λ why. Err why) c.in-Err-DuplicateKey.field-0-is))
