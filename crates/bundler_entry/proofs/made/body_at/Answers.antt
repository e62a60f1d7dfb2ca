-- A module that is no CommonJS module is no body.
use Rattle.bundler_entry.proofs.PartsLemmas.{no-body}
use Rattle.bundler_entry.proofs.made.body_at.Goals as goal

pub returns-then-not-is_common_js : goal.returns-then-not-is_common_js
returns-then-not-is_common_js c = λ q linking.
    no-body q c.args.call.now c.args.reached.now c.args.which c.is_common_js.result
    (c.is_common_js.ensures q linking) c.if-not-is_common_js.true
