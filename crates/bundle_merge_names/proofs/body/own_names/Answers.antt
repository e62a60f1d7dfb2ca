-- What the table tells are the steps of what is denoted.
use Rattle.std.proofs.Common.{map}
use Rattle.std.proofs.lemmas.Result.{IfOk-weaker}
use Rattle.bundle_syntax.specs.Item.{item_of}
use Rattle.bundle_merge_names.proofs.SomeLemmas.{own-steps}
use Rattle.bundle_merge_names.proofs.body.own_names.Goals as goal

pub returns : goal.returns
returns c = IfOk-weaker c.own_rewrites.result _ _ (λ rewrites is kind g table numbers. own-steps kind (map item_of c.args.pieces.now) c.args.denotations.now g c.args.scopes.now rewrites.items is table numbers) c.own_rewrites.ensures
