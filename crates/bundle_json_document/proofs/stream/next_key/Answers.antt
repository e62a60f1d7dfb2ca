use Rattle.json.proofs.Grammar.{read_key-shorter}
use Rattle.bundle_json_document.proofs.stream.next_key.Goals as goal

pub returns-in-Ok-clause-shorter : goal.returns-in-Ok-clause-shorter
returns-in-Ok-clause-shorter c = read_key-shorter _ _ _ c.in-Ok.ensures.value
