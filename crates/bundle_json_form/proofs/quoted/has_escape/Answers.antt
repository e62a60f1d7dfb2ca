use Rattle.std.proofs.Common.{arith}
use Rattle.json.proofs.Printed.Strings.{escape_byte_plain}
use Rattle.bundle_json_form.proofs.quoted.has_escape.Goals as goal

pub returns-else-byte-eq34 : goal.returns-else-byte-eq34
returns-else-byte-eq34 c = λ none. escape_byte_plain c.args.byte (omega arith) (λ is. grind arith) (omega arith)
